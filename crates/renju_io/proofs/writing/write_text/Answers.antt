use Rattle.std.proofs.Common.{◌∙◌, rules}
use Rattle.renju_io.proofs.AskedCalls.{one_piece_less, up_to_once, up_to_few}
use Rattle.renju_io.proofs.TakenText.{goes_on, stops}
use Rattle.renju_io.proofs.writing.write_text.Goals as goal

pub loop-piece-preserved : goal.loop-piece-preserved
loop-piece-preserved g c =
    let steps = c.in-Some.ensures.steps in
    let size = rw c.loop-piece.invariant.3 at steps.1.1 in (
      goes_on _ _ _ _ _ _ _ c.loop-piece.invariant.0 steps.1.0 c.in_ok-write.ensures.whole,
      c.in_ok-write.ensures.uncounted ∙ c.loop-piece.invariant.1,
      up_to_once _ _ _ _ _ _ c.loop-piece.invariant.2 (one_piece_less _ _ _ steps.1.0 size steps.1.2) c.write.ensures.asks,
      steps.0 ∙ c.loop-piece.invariant.3,
    )

-- the writes so far, and the one that failed
pub returns-in_err-write-clause-few_writes : goal.returns-in_err-write-clause-few_writes
returns-in_err-write-clause-few_writes g c =
    let steps = c.in-Some.ensures.steps in
    let size = rw c.loop-piece.invariant.3 at steps.1.1 in
    let less = one_piece_less _ _ _ steps.1.0 size steps.1.2 in
    up_to_few _ _ _ _ (up_to_once _ _ _ _ _ _ c.loop-piece.invariant.2 less c.write.ensures.asks)

pub returns-in_err-write-clause-part : goal.returns-in_err-write-clause-part
returns-in_err-write-clause-part g c =
    let part = stops _ _ _ _ _ _ _ c.loop-piece.invariant.0 c.in-Some.ensures.steps.1.0 c.in_err-write.ensures.part in search rules
