-- The text of a table: what its bytes are, and what is told of one that is not accepted.
use Rattle.std.specs.Prelude.{◌≡◌, ℕ, ◌<◌, List, ◌++◌, codes}
use Rattle.game_rules.specs.Play.{IsPosition}
use Rattle.game_rules.specs.declared.Point.{Point}
use Rattle.strategy_graph.specs.declared.Why.{Why}
use Rattle.strategy_graph.specs.declared.Why.TheVariants.{AttackRefused, AttackFouls, AttackDraws, NotWon, ReplyWins, ReplyDraws}
use Rattle.strategy_graph.specs.declared.Why.TheVariants.{NoAnswer}
use Rattle.strategy_graph.specs.Roots.{root_depth, root_arrivals, AcceptedRoot, LeadsRoot}
use Rattle.strategy_checker.specs.declared.error.HeldError.{HeldError}
use Rattle.strategy_checker.specs.declared.error.HeldError.TheVariants.{Refused as RefusedRoot, Spent as SpentRoot, Memory as NotHeld}
use Rattle.text_lines.specs.Lines.{ended}
use Rattle.text_lines.specs.Spellings.{points_text}
use Rattle.position_files.specs.declared.TableFile.{TableFile}
use Rattle.position_files.specs.Tables.{IsTextOfTable}
use Rattle.command_base.specs.declared.status.Status.{Status}
use Rattle.command_base.specs.declared.status.Status.TheVariants.{RefusedTable, Spent}
use Rattle.command_base.specs.Texts.{spent_line}

-- the words of the faults of a table
abbrev pub why_word : Why → List ℕ
why_word AttackRefused = codes "attack-refused"
why_word AttackFouls = codes "attack-fouls"
why_word AttackDraws = codes "attack-draws"
why_word NotWon = codes "not-won"
why_word ReplyWins = codes "reply-wins"
why_word ReplyDraws = codes "reply-draws"
why_word NoAnswer = codes "no-answer"

-- a refused table: the word of its fault, and the moves that lead there
abbrev pub refused_table_line : List ℕ → List Point → List ℕ
refused_table_line why moves = ended (codes "refused " ++ why ++ points_text moves)

-- the input is the text of a table at a lawful position, and the moves that it names are the depth of its root
pub record IsTableAt (file : TableFile) (input : List ℕ) : Type 0 where
  pub text : IsTextOfTable file input
  pub lawful : IsPosition file.kind file.board
  pub moves : file.moves ≡ root_depth file.table file.root

-- the table is not accepted at its root, and the moves of a line lead from there to a fault
pub record IsRefusedTable (file : TableFile) (status : Status) (text : List ℕ) : Type 0 where
  pub refused : ¬ AcceptedRoot file.kind file.table file.root file.board
  pub moves : List Point
  pub why : Why
  pub leads : LeadsRoot file.kind file.table file.root file.board moves why
  pub ends : status ≡ RefusedTable
  pub line : text ≡ refused_table_line (why_word why) moves

-- there are more arrivals than are allowed
pub record IsSpentWork (work : ℕ) (file : TableFile) (status : Status) (text : List ℕ) : Type 0 where
  pub more : work < root_arrivals file.kind file.table file.root file.board
  pub ends : status ≡ Spent
  pub line : text ≡ spent_line

-- what is told of a root that is not accepted, by why it is not; for want of memory nothing is told
abbrev pub IsToldOf : HeldError → Status → List ℕ → Type 0
IsToldOf (RefusedRoot line why) status text = (status ≡ RefusedTable) × (text ≡ refused_table_line (why_word why) line)
IsToldOf SpentRoot status text = (status ≡ Spent) × (text ≡ spent_line)
IsToldOf NotHeld status text = ⊥
