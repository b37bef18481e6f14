-- The words of threat_space, all in one place for the files of laws.
pub use Rattle.game_rules.specs.Games.{has_five}
pub use Rattle.game_rules.specs.Grid.{Grid, IsBoard, is_empty, points_of}
pub use Rattle.game_rules.specs.Play.{other}
pub use Rattle.game_rules.specs.declared.Point.{Point}
pub use Rattle.game_rules.specs.declared.RuleKind.{RuleKind}
pub use Rattle.game_rules.specs.declared.Side.{Side}
pub use Rattle.position_table.specs.Packing.{packed}
pub use Rattle.threat_moves.specs.Threats.{threats_of}
unfoldable pub use Rattle.threat_moves.specs.Threats.{threats_at}
pub use Rattle.threat_moves.specs.declared.threat_list.Threat.{Threat}
pub use Rattle.threat_space.specs.Barren.{AreBarren, BarrenMemory, EndsAlike, HasNoFinal, IsBarren, IsBarrenEntry, IsNearAfter}
pub use Rattle.threat_space.specs.Barren.{IsTrueBarrenMemory, passed}
pub use Rattle.open_windows.specs.PointSets.{has_point as set_has}
pub use Rattle.threat_space.specs.Lines.{EndsNear, HasFarPairs, HasPairsAfter, HasPairsOf, MayMakePairs, has_point, may_make_two}
pub use Rattle.threat_space.specs.Looking.{answer_of, found_or, looked, looked_on}
pub use Rattle.threat_space.specs.Sequences.{all_needed, answer_with, count_up_to, first_with, is_needed, lists_from, lists_up_to, pair_or}
pub use Rattle.threat_space.specs.Sequences.{played_all, space_answer, with_stone, with_stones}
unfoldable pub use Rattle.threat_space.specs.Sequences.{final_depends, final_of, is_final_point, is_sequence, lists_of, played}
pub use Rattle.threat_space.specs.declared.walk.FoundInLists.{FoundInLists}
pub use Rattle.threat_space.specs.declared.walk.FoundInLists.TheVariants.{NoSequence}
