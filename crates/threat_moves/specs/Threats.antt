-- Threats: the fours and threes that one stone makes, with all their costs (Allis, van den Herik and Huntjens, "Go-Moku and
-- Threat-Space Search"). They are judged on plain boards, lawful or not.
use Rattle.std.specs.Prelude.{Bool, ◌&&◌, not, if◌then◌else◌, List, [], ◌∷◌, ◌++◌, is_none}
use Rattle.std.specs.List.{list_any, filter, flat_map}
use Rattle.game_rules.specs.Grid.{Grid, is_empty, put, axes, points_of}
use Rattle.game_rules.specs.Shapes.{five, wins_on, is_in_run, is_three_point}
use Rattle.game_rules.specs.Play.{foul_of, other}
use Rattle.game_rules.specs.declared.RuleKind.{RuleKind}
use Rattle.game_rules.specs.declared.Side.{Side}
use Rattle.game_rules.specs.declared.Axis.{Axis}
use Rattle.game_rules.specs.declared.Point.{Point}
use Rattle.threat_moves.specs.declared.threat_list.ThreatKind.{ThreatKind}
use Rattle.threat_moves.specs.declared.threat_list.ThreatKind.TheVariants.{Four, Three}
use Rattle.threat_moves.specs.declared.threat_list.Threat.{Threat}

-- whether a stone of the side on the empty point c makes a winning run on the axis that holds its stone on g
unfoldable pub fills_five : RuleKind → Grid → Side → Axis → Point → Point → Bool
fills_five rule b s d g c = wins_on rule b s d c && is_in_run (put b s c) s d g c

-- whether a stone of the side on the empty point q, which is neither a five point nor a foul, gives a straight four on the axis
-- that holds q and its stone on g
unfoldable pub is_straight_point : RuleKind → Grid → Side → Axis → Point → Point → Bool
is_straight_point rule b s d g q = is_three_point rule b s d g q && is_none (foul_of rule b s q)

-- whether there is such a point
unfoldable pub has_straight_point : RuleKind → Grid → Side → Axis → Point → Bool
has_straight_point rule b s d g = list_any (is_straight_point rule b s d g) (points_of b)

-- whether q is empty, and a stone of the other side on it leaves no such point
unfoldable pub stops_three : RuleKind → Grid → Side → Axis → Point → Point → Bool
stops_three rule b s d g q = is_empty b q && not (has_straight_point rule (put b (other s) q) s d g)

-- whether the side's stone on g makes a threat of the kind on the axis
abbrev pub makes_threat : RuleKind → Grid → Side → Axis → Point → ThreatKind → Bool
makes_threat rule b s d g Four = list_any (fills_five rule b s d g) (points_of b)
makes_threat rule b s d g Three = has_straight_point rule b s d g

-- The costs of the threat of the side's stone on g: of a four the points that fill it to a winning run, of a three those where
-- a stone of the other side leaves it no point that gives a straight four. The latter need not lie on its axis, since a stone
-- elsewhere can make the last such point a foul.
abbrev pub costs_of : RuleKind → Grid → Side → Axis → Point → ThreatKind → List Point
costs_of rule b s d g Four = filter (fills_five rule b s d g) (points_of b)
costs_of rule b s d g Three = filter (stops_three rule b s d g) (points_of b)

-- whether g may be a gain of the side: an empty point that is neither a five point nor a foul
abbrev pub is_gain : RuleKind → Grid → Side → Point → Bool
is_gain rule b s g = is_empty b g && not (five rule b s g) && is_none (foul_of rule b s g)

-- whether there is a threat with this gain, axis and kind
unfoldable pub is_threat : RuleKind → Grid → Side → Point → Axis → ThreatKind → Bool
is_threat rule b s g d kind = is_gain rule b s g && makes_threat rule (put b s g) s d g kind

-- the threat of this kind of the side's stone on g, if it makes one on the axis
abbrev pub threat_of_kind : RuleKind → Grid → Side → Point → Axis → ThreatKind → List Threat
threat_of_kind rule b s g d kind =
    if makes_threat rule b s d g kind then record { gain = g; kind = kind; axis = d; costs = costs_of rule b s d g kind } ∷ [] else []

-- the threats of the side's stone on g on the axis, a four before a three
abbrev pub threats_on : RuleKind → Grid → Side → Point → Axis → List Threat
threats_on rule b s g d = threat_of_kind rule b s g d Four ++ threat_of_kind rule b s g d Three

-- all threats of the side with this gain, by axis and then by kind
unfoldable pub threats_at : RuleKind → Grid → Side → Point → List Threat
threats_at rule b s g = if is_gain rule b s g then flat_map (threats_on rule (put b s g) s g) axes else []

-- all threats of the side, by gain in reading order, then by axis, then by kind
abbrev pub threats_of : RuleKind → Grid → Side → List Threat
threats_of rule b s = flat_map (threats_at rule b s) (points_of b)
