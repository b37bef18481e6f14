use Rattle.std.proofs.Common.{◌≡◌, ◌++◌, map}
use Rattle.proof_number.proofs.Common.{points_of, all_notes, note_for}
use Rattle.proof_number.proofs.record.notes_for.Given as goal

-- the notes so far, and those for the points left, are all
abbrev pub invariant-loop-q : goal.invariant-loop-q
invariant-loop-q l = l.all.items ++ map (note_for l.notes) l.q-iterator ≡ all_notes l.notes (points_of l.board)
