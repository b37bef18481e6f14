-- The root is told of at the table that is held, which is that of the text.
use Rattle.std.proofs.Common.{◌⊎◌, List, subst}
use Rattle.strategy_graph.specs.declared.Node.{Node}
use Rattle.file_loading.proofs.Common.{BRAIN_WORK, IsRefusedTable, IsSpentWork}
use Rattle.file_loading.proofs.TableFileLaws.{told-root}
use Rattle.file_loading.proofs.loading.hold.Goals as goal

pub returns-in_ok-told-in-Err : goal.returns-in_ok-told-in-Err
returns-in_ok-told-in-Err c = record {
  loaded =
      subst (λ (t : List Node). IsRefusedTable (record c.args.file { table = t }) c.in_ok-told-in-Err.told.status c.in_ok-told-in-Err.told.text
      ⊎ IsSpentWork BRAIN_WORK (record c.args.file { table = t }) c.in_ok-told-in-Err.told.status c.in_ok-told-in-Err.told.text)
      c.new-held.ensures.table
      (told-root BRAIN_WORK (record c.args.file { table = c.new-held.result.table }) c.in-Err.error c.in_ok-told-in-Err.told.status
      c.in_ok-told-in-Err.told.text c.in-Err.ensures.refused c.in-Err.ensures.leads c.in-Err.ensures.spent c.in_ok-told-in-Err.ensures.told);
}
