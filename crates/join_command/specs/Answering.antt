-- Which tables of files answer at a position after a reply: a table of that position, or one whose root wins there by a zone.
use Rattle.std.specs.Prelude.{◌≡◌, ◌⊎◌, ℕ, ◌≤◌, List, Option, Some, None, IsSome, slice_get}
use Rattle.game_rules.specs.Grid.{Grid}
use Rattle.game_rules.specs.Play.{after, outcome}
use Rattle.game_rules.specs.declared.RuleKind.{RuleKind}
use Rattle.game_rules.specs.declared.Outcome.{Outcome}
use Rattle.game_rules.specs.declared.Outcome.TheVariants.{Refused, Wins, Fouls, Draws, GoesOn}
use Rattle.game_rules.specs.declared.Point.{Point}
use Rattle.strategy_graph.specs.Acceptance.{Accepted}
use Rattle.strategy_graph.specs.declared.Node.{Node}
use Rattle.strategy_graph.specs.declared.roots.Root.{Root}
use Rattle.strategy_graph.specs.declared.roots.Root.TheVariants.{Attack, Defend}
use Rattle.position_files.specs.declared.TableFile.{TableFile}
use Rattle.zone_checker.specs.Verdicts.{IsVerdict}
use Rattle.zone_checker.specs.declared.checks.ZoneVerdict.TheVariants.{Refused as NoZone, Spent}
use Rattle.join_command.specs.declared.TheConstants.{MAX_PAIRS}

-- the number of a root that is a node
abbrev pub root_number : Root → Option ℕ
root_number (Attack i) = Some i
root_number (Defend a) = None

-- the file is a table of the position b under the rule, where the side to move claims the win
pub record IsTableOf (rule : RuleKind) (b : Grid) (file : TableFile) : Type 0 where
  pub kind : file.kind ≡ rule
  pub board : file.board ≡ b
  pub attacks : IsSome (root_number file.root)

-- the file may be asked at b: its board has the size of b, and its root is node i
pub record MayBeAsked (b : Grid) (file : TableFile) (i : ℕ) : Type 0 where
  pub wide : file.board.width ≡ b.width
  pub high : file.board.height ≡ b.height
  pub root : file.root ≡ Attack i

-- File k answers at b: its root is a node that is accepted there. Where one of the files is a table of b, it is the first such.
pub record AnswersAt (rule : RuleKind) (files : List TableFile) (b : Grid) (k : ℕ) : Type 0 where
  pub file : TableFile
  pub at : slice_get files k ≡ Some file
  pub node : ℕ
  pub asked : MayBeAsked b file node
  pub accepted : Accepted rule file.table node b
  pub first : (j : ℕ) (other : TableFile) → slice_get files j ≡ Some other → IsTableOf rule b other → IsTableOf rule b file × (k ≤ j)

-- node i is not accepted at b by a zone, or the walk that would tell is too deep or has too many pairs
abbrev pub HasNoZone : RuleKind → List Node → ℕ → Grid → Type 0
HasNoZone rule t i b = IsVerdict rule t (Attack i) MAX_PAIRS b NoZone ⊎ IsVerdict rule t (Attack i) MAX_PAIRS b Spent

-- the file has no answer at b: it is no table of b, and its root has no zone there
abbrev pub HasNoAnswer : RuleKind → Grid → TableFile → Type 0
HasNoAnswer rule b file = (¬ IsTableOf rule b file) × ((i : ℕ) → MayBeAsked b file i → HasNoZone rule file.table i b)

-- a reply with this outcome is open: it wins or draws at once, or it goes on and X holds
abbrev pub OpenOr : Outcome → Type 0 → Type 0
OpenOr Refused X = ⊥
OpenOr Wins X = Unit {0}
OpenOr (Fouls f) X = ⊥
OpenOr Draws X = Unit {0}
OpenOr GoesOn X = X

-- the reply q at b wins or draws at once, or goes on to a board at which no file has an answer
abbrev pub IsOpenReply : RuleKind → List TableFile → Grid → Point → Type 0
IsOpenReply rule files b q =
    OpenOr (outcome rule b q) ((k : ℕ) (file : TableFile) → slice_get files k ≡ Some file → HasNoAnswer rule (after b q) file)
