-- Sequences of threats, their order, and how many lists a search of one looks at (after Allis, van den Herik and Huntjens, "Go-Moku
-- and Threat-Space Search").
use Rattle.std.specs.Prelude.{ℕ, zero, suc, ◌+◌, Bool, true, ◌&&◌, ◌||◌, not, if◌then◌else◌, nat_le, List, [], ◌∷◌, map, Option, Some, None}
use Rattle.std.specs.Prelude.{is_some}
use Rattle.std.specs.List.{flat_map, find, range_with_len}
use Rattle.game_rules.specs.Grid.{Grid, is_empty, put, lift, points_of}
use Rattle.game_rules.specs.Shapes.{five}
use Rattle.game_rules.specs.Play.{other}
use Rattle.game_rules.specs.Games.{is_double_point}
use Rattle.game_rules.specs.declared.RuleKind.{RuleKind}
use Rattle.game_rules.specs.declared.Side.{Side}
use Rattle.game_rules.specs.declared.Point.{Point}
use Rattle.stone_board.specs.Steps.{holds_stone}
use Rattle.threat_moves.specs.declared.threat_list.Threat.{Threat}
use Rattle.threat_moves.specs.Threats.{is_threat, threats_of}
use Rattle.threat_space.specs.declared.answer.SpaceAnswer.{SpaceAnswer}
use Rattle.threat_space.specs.declared.answer.SpaceAnswer.TheVariants.{Sequence, None as NoSequence, Spent}

-- the board with a stone of the side on the point, where it is empty
abbrev pub with_stone : Grid → Side → Point → Grid
with_stone b s p = if is_empty b p then put b s p else b

-- the board without a stone on the point, where it holds one
abbrev pub without_stone : Grid → Point → Grid
without_stone b p = if holds_stone b p then lift b p else b

-- the board with stones of the side on all these points
abbrev pub with_stones : Grid → Side → List Point → Grid
with_stones b s [] = b
with_stones b s (p ∷ ps) = with_stones (with_stone b s p) s ps

-- the board after the threat of the side: its gain becomes a stone of the side, and all its costs stones of the other side at
-- once; all of these are empty before
unfoldable pub played : Grid → Side → Threat → Grid
played b s t = with_stones (with_stone b s t.gain) (other s) t.costs

-- the board after these threats
abbrev pub played_all : Grid → Side → List Threat → Grid
played_all b s [] = b
played_all b s (t ∷ ts) = played_all (played b s t) s ts

-- a final point: a five point or a double point of the side
unfoldable pub is_final_point : RuleKind → Grid → Side → Point → Bool
is_final_point rule b s p = five rule b s p || is_double_point rule b s p

-- whether the threat, which is one on the board, depends on the stone on g: without it there is none of its gain, axis and kind
unfoldable pub threat_depends : RuleKind → Grid → Side → Point → Threat → Bool
threat_depends rule b s g t = not (is_threat rule (without_stone b g) s t.gain t.axis t.kind)

-- whether the final point depends on the stone on g: without it it is none
unfoldable pub final_depends : RuleKind → Grid → Side → Point → Point → Bool
final_depends rule b s g f = not (is_final_point rule (without_stone b g) s f)

-- whether one of the threats that follow at b, or the final point after them, depends on the gain g
abbrev pub is_needed : RuleKind → Side → Point → Grid → Point → List Threat → Bool
is_needed rule s f b g [] = final_depends rule b s g f
is_needed rule s f b g (t ∷ ts) = threat_depends rule b s g t || is_needed rule s f (played b s t) g ts

-- whether each gain is one that a later threat or the final point depends on
abbrev pub all_needed : RuleKind → Side → Point → Grid → List Threat → Bool
all_needed rule s f b [] = true
all_needed rule s f b (t ∷ ts) = is_needed rule s f (played b s t) t.gain ts && all_needed rule s f (played b s t) ts

-- whether the list of threats from b, with the final point after it, is a sequence
unfoldable pub is_sequence : RuleKind → Side → Grid → List Threat → Point → Bool
is_sequence rule s b ts f = is_final_point rule (played_all b s ts) s f && all_needed rule s f b ts

-- the least final point with which the list from b is a sequence, if there is one
unfoldable pub final_of : RuleKind → Side → Grid → List Threat → Option Point
final_of rule s b ts = find (is_sequence rule s b ts) (points_of b)

-- the lists of threats that begin with one of these at b and go on with more, by `lists`
abbrev pub lists_from : (Grid → List (List Threat)) → Side → Grid → List Threat → List (List Threat)
lists_from lists s b ts = flat_map (λ t. map (λ more. t ∷ more) (lists (played b s t))) ts

-- the lists of exactly k threats from b, threat by threat in the order of threats
unfoldable pub lists_of : RuleKind → Side → ℕ → Grid → List (List Threat)
lists_of rule s zero b = [] ∷ []
lists_of rule s (suc k) b = lists_from (lists_of rule s k) s b (threats_of rule b s)

-- the lists of at most k threats from b, fewer threats first: the order of sequences
abbrev pub lists_up_to : RuleKind → Side → ℕ → Grid → List (List Threat)
lists_up_to rule s k b = flat_map (λ i. lists_of rule s i b) (range_with_len 0 (k + 1))

-- the list with the point, if there is one, and else what is found after it
abbrev pub pair_or : List Threat → Option Point → Option (List Threat × Point) → Option (List Threat × Point)
pair_or ts None later = later
pair_or ts (Some f) later = Some (ts, f)

-- the first of the lists that has a final point, with the point
abbrev pub first_with : (List Threat → Option Point) → List (List Threat) → Option (List Threat × Point)
first_with final [] = None
first_with final (ts ∷ lists) = pair_or ts (final ts) (first_with final lists)

-- how many lists there are up to and with the first that has a final point, or how many there are where none has
abbrev pub count_up_to : (List Threat → Option Point) → List (List Threat) → ℕ
count_up_to final [] = 0
count_up_to final (ts ∷ lists) = 1 + (if is_some (final ts) then 0 else count_up_to final lists)

-- the first sequence of at most k threats from b
abbrev pub first_sequence : RuleKind → Side → ℕ → Grid → Option (List Threat × Point)
first_sequence rule s k b = first_with (final_of rule s b) (lists_up_to rule s k b)

-- how many lists a search looks at: those up to and with that of the first sequence, or all where there is none
abbrev pub seq_cost : RuleKind → Side → ℕ → Grid → ℕ
seq_cost rule s k b = count_up_to (final_of rule s b) (lists_up_to rule s k b)

-- the answer with this first sequence
abbrev pub answer_with : Option (List Threat × Point) → SpaceAnswer
answer_with None = NoSequence
answer_with (Some found) = Sequence found.0 found.1

-- the answer of the search: the first sequence or that there is none, where the cost is within the budget
abbrev pub space_answer : RuleKind → Side → ℕ → ℕ → Grid → SpaceAnswer
space_answer rule s k budget b = if nat_le (seq_cost rule s k b) budget then answer_with (first_sequence rule s k b) else Spent
