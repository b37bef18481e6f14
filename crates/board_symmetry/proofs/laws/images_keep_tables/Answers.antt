use Rattle.board_symmetry.proofs.ImageLaws.{keeps_node, keeps_start, keeps_root}
use Rattle.board_symmetry.proofs.laws.images_keep_tables.Goals as goal

pub returns : goal.returns
returns c = record { nodes = keeps_node; starts = keeps_start; roots = keeps_root }
