-- Points where a stone is no foul whatever the other side does.
use Rattle.std.specs.Prelude.{◌≡◌, true, false, None}
use Rattle.game_rules.specs.Grid.{Grid, is_empty, put}
use Rattle.game_rules.specs.Shapes.{is_same_point}
use Rattle.game_rules.specs.Play.{foul_of, other}
use Rattle.game_rules.specs.declared.RuleKind.{RuleKind}
use Rattle.game_rules.specs.declared.Side.{Side}
use Rattle.game_rules.specs.declared.Point.{Point}

-- a stone of the side on the empty point p, if it is no foul, stays none wherever the other side puts a stone
abbrev pub StaysFree : RuleKind → Grid → Side → Point → Type 0
StaysFree rule b s p =
    foul_of rule b s p ≡ None → (z : Point) → is_empty b z ≡ true → is_same_point p z ≡ false
    → foul_of rule (put b (other s) z) s p ≡ None
