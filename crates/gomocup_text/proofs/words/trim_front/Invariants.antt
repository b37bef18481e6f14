use Rattle.std.proofs.Common.{length, ◌-◌, ◌+◌, ◌≡◌, ◌≤◌, drop}
use Rattle.std.specs.List.{prefix_len}
use Rattle.gomocup_text.specs.Words.{is_gap}
use Rattle.gomocup_text.proofs.words.trim_front.Given as goal

-- the gaps so far, and those that are left at the front
abbrev pub invariant-loop-start : goal.invariant-loop-start
invariant-loop-start l = (l.start ≤ length l.bytes) × (l.start + prefix_len is_gap (drop l.start l.bytes) ≡ prefix_len is_gap l.bytes)

abbrev pub decreases-loop-start : goal.decreases-loop-start
decreases-loop-start l = length l.bytes - l.start
