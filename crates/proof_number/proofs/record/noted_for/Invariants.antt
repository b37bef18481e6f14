use Rattle.std.proofs.Common.{◌≡◌, drop, find}
use Rattle.game_rules.proofs.Common.{is_same_point}
use Rattle.proof_number.proofs.record.noted_for.Given as goal

-- the first whose move it is is one of those left
abbrev pub invariant-loop-note : goal.invariant-loop-note
invariant-loop-note l = find (λ n. is_same_point l.q n.at) (drop l.note-index l.notes) ≡ find (λ n. is_same_point l.q n.at) l.notes
