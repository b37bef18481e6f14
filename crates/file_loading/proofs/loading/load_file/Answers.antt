use Rattle.std.proofs.Common.{inr, ap, Err}
use Rattle.std.proofs.lemmas.Result.{IfOk-weaker}
use Rattle.file_loading.proofs.Common.{Answer, change, IsLoaded, IsLoadedAs, IsLoadedFrom}
use Rattle.file_loading.proofs.HeldFileLaws.{loaded-from, unheld-long}
use Rattle.file_loading.proofs.loading.load_file.Goals as goal

pub returns-in-Ok-clause-loaded : goal.returns-in-Ok-clause-loaded
returns-in-Ok-clause-loaded g c =
    let shelf = change g.F.Shelf.files g.F.Shelf.faults g.F.Shelf.asked c.args.shelf.now c.load.new.self in
    let loaded : IsLoaded shelf c.args.file.now c.as_slice.result.now =
    rw c.as_slice.ensures.value (record { found = c.in-Ok.ensures.found; sound = c.in-Ok.ensures.uncounted }) in
    IfOk-weaker c.load_text.result (IsLoadedAs c.args.holdable c.as_slice.result.now) (IsLoadedFrom c.args.holdable shelf c.args.file.now)
    (λ text. loaded-from c.args.holdable shelf c.args.file.now c.as_slice.result.now loaded
    (rw c.as_slice.ensures.value c.in-Ok.ensures.short) text) c.load_text.ensures.loaded

pub returns-in-Err-Failed-clause-loaded : goal.returns-in-Err-Failed-clause-loaded
returns-in-Err-Failed-clause-loaded g c = inr (inr (record {
  failed = c.in-Err-Failed.ensures.failed (ap Err c.in-Err-Failed.field-0-is);
  ends = ap (λ (a : Answer). a.status) c.fixed.ensures.answer;
  line = ap (λ (a : Answer). a.text) c.fixed.ensures.answer;
}))

pub returns-in-Err-TooLong-clause-loaded : goal.returns-in-Err-TooLong-clause-loaded
returns-in-Err-TooLong-clause-loaded g c =
    unheld-long _ (change g.F.Shelf.files g.F.Shelf.faults g.F.Shelf.asked c.args.shelf.now c.load.new.self) c.args.file.now _ _
    (c.in-Err-TooLong.ensures.too_long (ap Err c.in-Err-TooLong.field-0-is))
    (c.in-Err-TooLong.ensures.not_failed (let is = c.in-Err-TooLong.field-0-is in λ failed. absurd (cc)))
    (ap (λ (a : Answer). a.status) c.fixed-in-Err-TooLong.ensures.answer)
    (ap (λ (a : Answer). a.text) c.fixed-in-Err-TooLong.ensures.answer)
