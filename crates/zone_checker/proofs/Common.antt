-- The words of zone_checker, all in one place for the files of laws.
pub use Rattle.game_rules.specs.Grid.{Grid, IsBoard, along, holds, is_empty, is_on, place_of, points_of, put}
pub use Rattle.game_rules.specs.Play.{other}
pub use Rattle.game_rules.specs.Shapes.{five, is_same_point}
pub use Rattle.game_rules.specs.declared.Axis.{Axis}
pub use Rattle.game_rules.specs.declared.Axis.TheVariants.{Column, Down, Row, Up}
pub use Rattle.game_rules.specs.declared.Point.{Point}
pub use Rattle.game_rules.specs.declared.RuleKind.{RuleKind}
pub use Rattle.game_rules.specs.declared.Side.{Side}
pub use Rattle.relevance_zone.specs.Windows.{is_clear_at}
unfoldable pub use Rattle.relevance_zone.specs.Windows.{is_clear_of, stones_in}
pub use Rattle.relevance_zone.specs.Zones.{Covers, HasZone, IsWithstood, NodeHasZone, Withstands, Zone}
pub use Rattle.strategy_graph.specs.Tables.{Answers, NamesLower, answer, answers_of, listed_node, names_below, rest_node}
pub use Rattle.strategy_graph.specs.declared.Node.{Node}
pub use Rattle.strategy_graph.specs.declared.Reply.{Reply}
pub use Rattle.strategy_graph.specs.declared.Rest.{Rest}
pub use Rattle.strategy_graph.specs.declared.Rest.TheVariants.{To}
pub use Rattle.strategy_graph.specs.declared.roots.Root.{Root}
pub use Rattle.strategy_graph.specs.declared.roots.Root.TheVariants.{Attack, Defend}
pub use Rattle.zone_checker.specs.Marks.{AreCovered, AreOpened, IsEntered, IsGreatest, LiesUnder, blank, covered, harms, is_full_at}
pub use Rattle.zone_checker.specs.Marks.{kept_back, mark_at, spare_of, zone_of}
unfoldable pub use Rattle.zone_checker.specs.Marks.{is_full_through, room}
pub use Rattle.zone_checker.specs.Pairs.{AnswersHavePairsBy, ComesTo, HasPairs, ReplyHasPairsBy, RootHasPairs, asked_rest}
pub use Rattle.zone_checker.specs.Replies.{AreReplied, IsReplied, SayMore}
pub use Rattle.zone_checker.specs.Walks.{IsWithstoodBy, Stopped, Took, asked_of}
pub use Rattle.zone_checker.specs.declared.marks.Mark.{Mark}
pub use Rattle.zone_checker.specs.declared.marks.TheConstants.{ANY}
pub use Rattle.zone_checker.specs.declared.walk.Stop.{Stop}
