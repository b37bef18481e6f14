-- The files of a cover: their names, and what is kept of their tables.
use Rattle.std.specs.Prelude.{ℕ, List, Option, Some, None}
use Rattle.std.specs.List.{filter_map}
use Rattle.strategy_graph.specs.declared.roots.Root.{Root}
use Rattle.strategy_graph.specs.declared.roots.Root.TheVariants.{Attack, Defend}
use Rattle.position_files.specs.declared.TableFile.{TableFile}
use Rattle.reply_cover.specs.declared.Part.{Part}
use Rattle.reply_cover.specs.declared.TheConstants.{MAX_PARTS}
use Rattle.file_loading.specs.ManyFiles.{AreFileNames}

-- there are 1 to MAX_PARTS names, and none is empty
abbrev pub ArePartNames : List (List ℕ) → Type 0
ArePartNames = AreFileNames MAX_PARTS

-- what is kept of a table with this root: its rule, board and moves, if the side to move claims the win
abbrev pub part_by : Root → TableFile → Option Part
part_by (Attack i) file = Some (record { kind = file.kind; board = file.board; moves = file.moves })
part_by (Defend a) file = None

-- what is kept of tables
abbrev pub parts_of : List TableFile → List Part
parts_of files = filter_map (λ file. part_by file.root file) files
