-- Tests of the four axes.
use Rattle.std.proofs.Common.{◌≡◌, Bool, true, false, ◌≤◌, ◌⊎◌, rules}
use Rattle.std.specs.List.{list_any, count_by}
use Rattle.std.proofs.lemmas.Bool.{or_left, or_right, or_cases, or_parts}
use Rattle.game_rules.proofs.Common.{axes, opposite, Axis, Way}
use Rattle.game_rules.proofs.Tests.{more_pass}

-- a test that holds on an axis holds on one of the four
pub axis_of : (f : Axis → Bool) (d : Axis) → f d ≡ true → list_any f axes ≡ true
axis_of f d h = search (rules, or_left, or_right)

-- an axis on which a test holds
pub some_axis : (f : Axis → Bool) → list_any f axes ≡ true → (d : Axis) × (f d ≡ true)
some_axis f h = search (rules, or_cases)

-- a test that holds on none of the four holds on no axis
pub no_axis : (f : Axis → Bool) → list_any f axes ≡ false → (d : Axis) → f d ≡ false
no_axis f h d = search (rules, or_parts)

-- where one test follows from another, at most as many axes meet the other
pub fewer_axes : (f g : Axis → Bool) → ((d : Axis) → f d ≡ true → g d ≡ true) → count_by f axes ≤ count_by g axes
fewer_axes f g h = search (rules, more_pass)

pub same_way : (v u : Way) → (u ≡ v) ⊎ (u ≡ opposite v)
same_way v u = search rules
