-- The words of relevance_zone, all in one place for the files of laws.
pub use Rattle.game_rules.specs.Grid.{Grid, IsBoard, is_empty, put}
pub use Rattle.game_rules.specs.Play.{other}
pub use Rattle.game_rules.specs.declared.Point.{Point}
pub use Rattle.game_rules.specs.declared.RuleKind.{RuleKind}
pub use Rattle.game_rules.specs.declared.Side.{Side}
pub use Rattle.relevance_zone.specs.Windows.{is_clear_at}
unfoldable pub use Rattle.relevance_zone.specs.Windows.{is_clear_of, is_in_window, stones_in}
pub use Rattle.relevance_zone.specs.Zones.{AcceptedRootByZone, Bears, Covers, HasZone, IsHarmless, NodeHasZone, Withstands, Zone}
unfoldable pub use Rattle.relevance_zone.specs.Zones.{HasZoneWithin}
