-- Counts of faults. A call answers that a device failed only where the count of that device has risen in the call, and
-- a call that answers otherwise has counted nothing.
use Rattle.std.specs.Prelude.{◌≡◌, ℕ, ◌-◌, ◌^◌, ◌<◌, ◌≤◌, ◌⊎◌}

-- the last value of a count, at which it stays
abbrev pub last_count : ℕ
last_count = 2 ^ 64 - 1

-- the count has risen in a call: it is greater than before, or has come to its last value
abbrev pub HasRisen : ℕ → ℕ → Type 0
HasRisen old new = (old < new) ⊎ (last_count ≤ new)

-- the count has stayed as it was in a call
abbrev pub HasStayed : ℕ → ℕ → Type 0
HasStayed old new = new ≡ old

-- the count has not fallen in a call
abbrev pub HasNotFallen : ℕ → ℕ → Type 0
HasNotFallen old new = old ≤ new
