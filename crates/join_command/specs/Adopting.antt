-- Nodes of the tables of files, adopted by one compiler, and what is told of them.
use Rattle.std.specs.Prelude.{ℕ, ◌<◌, List, [], ◌∷◌, length, Option, Some, None}
use Rattle.game_rules.specs.Grid.{Grid}
use Rattle.strategy_graph.specs.Laws.{SaysSame}
use Rattle.strategy_graph.specs.Roots.{AcceptedRoot}
use Rattle.strategy_graph.specs.declared.Node.{Node}
use Rattle.position_files.specs.Tables.{IsTextOfTable}
use Rattle.position_files.specs.declared.TableFile.{TableFile}
use Rattle.join_command.specs.Answering.{MayBeAsked}

-- the file has a text, and its root is accepted at its position
pub record IsAcceptedFile (file : TableFile) : Type 0 where
  pub text : (bytes : List ℕ) × IsTextOfTable file bytes
  pub accepted : AcceptedRoot file.kind file.table file.root file.board

-- the file may not be asked at b; or a node says what its root says
abbrev pub IsAdopted : Grid → List Node → TableFile → Option ℕ → Type 0
IsAdopted b u file None = (i : ℕ) → ¬ MayBeAsked b file i
IsAdopted b u file (Some j) = (i : ℕ) × MayBeAsked b file i × (j < length u) × SaysSame file.table i u j

-- the roots are those of the files, one for each, in their order
abbrev pub AreAdopted : Grid → List Node → List TableFile → List (Option ℕ) → Type 0
AreAdopted b u [] [] = Unit {0}
AreAdopted b u [] (root ∷ roots) = ⊥
AreAdopted b u (file ∷ files) [] = ⊥
AreAdopted b u (file ∷ files) (root ∷ roots) = IsAdopted b u file root × AreAdopted b u files roots
