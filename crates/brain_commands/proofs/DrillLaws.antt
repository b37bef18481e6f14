-- The command `drill`: when it answers, and what its status 0 shows.
use Rattle.std.proofs.Common.{◌≡◌, ◌⊎◌, inl, inr, subst, ℕ, List, arith}
use Rattle.command_base.specs.declared.status.Status.TheVariants.{Done}
use Rattle.renju_io.specs.Told.{Takes}
use Rattle.strength_drill.proofs.DrillCounts.{only-counts}
use Rattle.command_base.specs.Statuses.{status_number}
use Rattle.command_base.specs.Runs.{Run, IsDelivered, IsOutOfMemory}
use Rattle.brain_commands.specs.Drills.{IsDrillText, EndsDrill, IsDrill, WritesDrill, AnswersDrill, ShowsCounts}

-- what `drill` did in a run
pub drill-answers : (n : ℕ) (run : Run) → IsDrill n run → AnswersDrill n run
drill-answers n run does sound = by_end does.ends where
  by_writing : (text : List ℕ) → IsDrillText n text → IsDelivered Done text run.output run.status
      → WritesDrill n run ⊎ IsOutOfMemory run.output run.status
  by_writing text drilled (inl written) = inl (record { text = text; drilled = drilled; ends = written.0; whole = written.1 })
  by_writing text drilled (inr failed) = absurd (sound failed.1)

  by_end : EndsDrill n run.output run.status → WritesDrill n run ⊎ IsOutOfMemory run.output run.status
  by_end (inr memory) = inr memory
  by_end (inl text) = by_writing text.0 text.1 text.2

-- what its status 0 shows
pub drill-shown : (n : ℕ) (run : Run) → IsDrill n run → run.status ≡ status_number Done → ShowsCounts n run
drill-shown n run does done = by_end does.ends where
  by_writing : (text : List ℕ) → IsDrillText n text → IsDelivered Done text run.output run.status → ShowsCounts n run
  by_writing text drilled (inl written) = record {
    counts = drilled.counts;
    counted = drilled.counted;
    only = only-counts n drilled.counts drilled.counted;
    whole = subst (λ (t : List ℕ). Takes run.output.before t run.output.after) drilled.lines written.1;
  }
  by_writing text drilled (inr failed) = let fault = failed.0 in absurd (omega (arith, fault, done))

  by_end : EndsDrill n run.output run.status → ShowsCounts n run
  by_end (inr memory) = let ends = memory.ends in absurd (omega (arith, ends, done))
  by_end (inl text) = by_writing text.0 text.1 text.2
