-- The nearest of points that come one by one.
use Rattle.std.specs.Prelude.{ℕ, Bool, true, nat_lt, Option, Some, None}
use Rattle.game_rules.specs.declared.Point.{Point}

-- whether the point is nearer, by this distance, than the best so far, if there is one
abbrev pub is_nearer : (Point → ℕ) → Point → Option Point → Bool
is_nearer distance p None = true
is_nearer distance p (Some q) = nat_lt (distance p) (distance q)
