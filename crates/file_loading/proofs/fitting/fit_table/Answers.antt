-- What is told of the root of the text is what is said of the text.
use Rattle.file_loading.proofs.TableFileLaws.{told-root}
use Rattle.file_loading.proofs.fitting.fit_table.Goals as goal

pub returns-in_ok-told-in-Err : goal.returns-in_ok-told-in-Err
returns-in_ok-told-in-Err c = record {
  fitted = told-root c.args.work c.args.file c.in-Err.error c.in_ok-told-in-Err.told.status c.in_ok-told-in-Err.told.text
      c.in-Err.ensures.refused c.in-Err.ensures.leads c.in-Err.ensures.spent c.in_ok-told-in-Err.ensures.told;
}
