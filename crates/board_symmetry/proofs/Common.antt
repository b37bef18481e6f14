-- The words of board_symmetry, all in one place for the files of laws.
pub use Rattle.board_symmetry.specs.Files.{file_image}
pub use Rattle.board_symmetry.specs.Images.{answers_image, node_image, replies_image, root_image, table_image}
pub use Rattle.board_symmetry.specs.Laws.{ImagesKeepPositions, ImagesKeepRoots, IsRoot, KeepsMoves, KeepsNode, KeepsRoot, KeepsStart}
pub use Rattle.board_symmetry.specs.Laws.{KeepsWins, TakesBack, Together}
pub use Rattle.board_symmetry.specs.Marks.{IsMarked}
pub use Rattle.board_symmetry.specs.Points.{board_image, empty_board, exchanges, fits, inverse, point_image, with_cell}
pub use Rattle.board_symmetry.specs.RootGames.{root_game, start_game}
pub use Rattle.board_symmetry.specs.declared.symmetry.Symmetry.{Symmetry}
pub use Rattle.game_rules.specs.Grid.{Grid, IsBoard, axes, cell_at, is_empty, is_on, points_within, put}
pub use Rattle.game_rules.specs.Play.{after}
unfoldable pub use Rattle.game_rules.specs.Play.{outcome}
pub use Rattle.game_rules.specs.Shapes.{five, is_same_point, run_of}
pub use Rattle.game_rules.specs.Ways.{go, opposite}
pub use Rattle.game_rules.specs.declared.Axis.{Axis}
pub use Rattle.game_rules.specs.declared.Cell.{Cell}
pub use Rattle.game_rules.specs.declared.Cell.TheVariants.{Empty}
pub use Rattle.game_rules.specs.declared.Point.{Point}
pub use Rattle.game_rules.specs.declared.RuleKind.{RuleKind}
pub use Rattle.game_rules.specs.declared.Side.{Side}
pub use Rattle.game_rules.specs.declared.Side.TheVariants.{Black, White}
pub use Rattle.game_rules.specs.declared.Way.{Way}
pub use Rattle.game_rules.specs.declared.Way.TheVariants.{Ahead, Behind}
pub use Rattle.strategy_graph.specs.Tables.{Answers, IsTable, RepliesOn, TableOnBoard, is_rising, listed_node}
pub use Rattle.strategy_graph.specs.declared.Node.{Node}
pub use Rattle.strategy_graph.specs.declared.Reply.{Reply}
