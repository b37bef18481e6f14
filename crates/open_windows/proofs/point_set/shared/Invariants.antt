use Rattle.std.proofs.Common.{◌≡◌, ℕ, ◌<◌, length, get_or, bit_and}
use Rattle.open_windows.proofs.point_set.shared.Given as goal

-- the rows so far have the bits that both have
abbrev pub invariant-loop-y : goal.invariant-loop-y
invariant-loop-y l = (length l.rows ≡ 32) × ((k : ℕ) → k < l.y → get_or l.rows k 0 ≡ bit_and (get_or l.one k 0) (get_or l.other k 0))
