-- What is told of a root that is not accepted is what is said of its table.
use Rattle.std.proofs.Common.{inr}
use Rattle.std.proofs.lemmas.Result.{IfOk-weaker}
use Rattle.file_loading.proofs.TableFileLaws.{told-root}
use Rattle.table_commands.proofs.check.check_file.Goals as goal

pub returns-in-Err : goal.returns-in-Err
returns-in-Err c = record {
  says = IfOk-weaker c.refused_root.result _ _ (λ answer told. inr (told-root c.args.work c.args.file.now c.in-Err.error answer.status
      answer.text c.in-Err.ensures.refused c.in-Err.ensures.leads c.in-Err.ensures.spent told)) c.refused_root.ensures.told;
}
