-- Where the final point of a sequence has to be: on a line with the last gain, or where a stone made two five points before it.
use Rattle.std.specs.Prelude.{◌≡◌, ℕ, ◌-◌, ◌<◌, Bool, true, false, ◌&&◌, ◌||◌, List, length, get_or}
use Rattle.std.specs.List.{list_any}
use Rattle.game_rules.specs.Grid.{Grid, is_empty, put}
use Rattle.game_rules.specs.Shapes.{is_same_point}
use Rattle.game_rules.specs.Play.{has_fouls}
use Rattle.game_rules.specs.Games.{has_five, five_points}
use Rattle.game_rules.specs.Lines.{is_aligned}
use Rattle.game_rules.specs.declared.RuleKind.{RuleKind}
use Rattle.game_rules.specs.declared.Side.{Side}
use Rattle.game_rules.specs.declared.Point.{Point}
use Rattle.row_shapes.specs.FivePoints.{in_short, is_several}
use Rattle.open_windows.specs.PointSets.{has_point as set_has}
use Rattle.threat_moves.specs.declared.threat_list.Threat.{Threat}
use Rattle.threat_space.specs.Sequences.{is_sequence}

-- whether the point is one of the list
abbrev pub has_point : List Point → Point → Bool
has_point ps p = list_any (λ q. is_same_point q p) ps

-- whether the point is empty and a stone of the side on it leaves the side two five points or more, or it has one already
abbrev pub may_make_two : RuleKind → Grid → Side → Point → Bool
may_make_two rule b s p = is_empty b p && (has_five rule b s || is_several (in_short (five_points rule (put b s p) s)))

-- the set has each such point
abbrev pub MayMakePairs : RuleKind → Grid → Side → List ℕ → Type 0
MayMakePairs rule b s set = (p : Point) → may_make_two rule b s p ≡ true → set_has set p ≡ true

-- the list has each such point, where the side has fouls
abbrev pub HasPairsOf : RuleKind → Grid → Side → List Point → Type 0
HasPairsOf rule b s far = has_fouls rule s ≡ true → (p : Point) → may_make_two rule b s p ≡ true → has_point far p ≡ true

-- where the side has no five point, the list has each point, but those on a line with g, at which its stone makes two or more
abbrev pub HasFarPairs : RuleKind → Grid → Side → Point → List Point → Type 0
HasFarPairs rule b s g far = has_five rule b s ≡ false → (p : Point) → is_aligned g p ≡ false → may_make_two rule b s p ≡ true
    → has_point far p ≡ true

-- the same where b is the board after these threats of a side with fouls, and g the last gain
abbrev pub HasPairsAfter : RuleKind → Grid → Side → List Threat → List Point → Type 0
HasPairsAfter rule b s ts far = has_fouls rule s ≡ true → (t : Threat) → 0 < length ts → t ≡ get_or ts (length ts - 1) t
    → HasFarPairs rule b s t.gain far

-- the list from b is a sequence with no final point but those on a line with g and those of the list
abbrev pub EndsNear : RuleKind → Side → Grid → List Threat → Point → List Point → Type 0
EndsNear rule s b ts g far = (p : Point) → is_aligned g p ≡ false → has_point far p ≡ false → is_sequence rule s b ts p ≡ false
