-- What is proved of covers: where one is told, the position is covered and won, and a reply that is told is the first that is open.
use Rattle.std.specs.Prelude.{◌≡◌, ℕ, ◌+◌, true, List}
use Rattle.std.specs.List.{Any, AllByRecursion}
use Rattle.game_rules.specs.Grid.{Grid, IsBoard}
use Rattle.game_rules.specs.Points.{precedes}
use Rattle.game_rules.specs.Play.{after, outcome}
use Rattle.game_rules.specs.Games.{LosesOr, WinsAfter, WinsWithin}
use Rattle.game_rules.specs.declared.RuleKind.{RuleKind}
use Rattle.game_rules.specs.declared.Outcome.TheVariants.{GoesOn}
use Rattle.game_rules.specs.declared.Point.{Point}
use Rattle.board_symmetry.specs.Points.{board_image, fits}
use Rattle.board_symmetry.specs.declared.symmetry.Symmetry.{Symmetry}
use Rattle.reply_cover.specs.Covers.{cover_of}
use Rattle.reply_cover.specs.declared.Part.{Part}
use Rattle.reply_cover.specs.declared.Cover.TheVariants.{Covered, Open}

-- the part is of the rule, and its board is the image of the board under a symmetry that fits it
pub record Covers (rule : RuleKind) (b : Grid) (part : Part) : Type 0 where
  pub same_rule : part.kind ≡ rule
  pub symmetry : Symmetry
  pub fitting : fits symmetry b.width b.height ≡ true
  pub image : part.board ≡ board_image symmetry b

-- the point q is no move at the board, or a foul, or goes on to a board that some part covers
abbrev pub IsCovered : RuleKind → List Part → Grid → Point → Type 0
IsCovered rule parts b q = LosesOr (outcome rule b q) (Any (Covers rule (after b q)) parts)

-- so is each point
abbrev pub AreCovered : RuleKind → List Part → Grid → Type 0
AreCovered rule parts b = (q : Point) → IsCovered rule parts b q

-- the reply q is not covered, and each point before it in reading order is
pub record IsFirstOpen (rule : RuleKind) (parts : List Part) (b : Grid) (q : Point) : Type 0 where
  pub open_reply : ¬ IsCovered rule parts b q
  pub earlier : (p : Point) → precedes p q ≡ true → IsCovered rule parts b p

-- the board of the part is one, and the side to move wins there within its moves, whatever the replies
pub record IsWonPart (part : Part) : Type 0 where
  pub board : IsBoard part.board
  pub won : WinsWithin part.kind part.moves part.board

-- the other side wins within so many moves, whatever is played first at b; and a side that plays to b wins within one more
pub record CoverWins (rule : RuleKind) (b : Grid) (moves : ℕ) : Type 0 where
  pub replies : WinsAfter rule moves b
  pub attacks : (c : Grid) (p : Point) → outcome rule c p ≡ GoesOn → b ≡ after c p → WinsWithin rule (moves + 1) c

-- where the parts are won, and a cover by them is told, it wins
abbrev pub CoversWin : Type 0
CoversWin = (rule : RuleKind) (parts : List Part) (b : Grid) (moves replies used : ℕ) → IsBoard b → AllByRecursion IsWonPart parts
    → cover_of rule parts b ≡ Covered moves replies used → CoverWins rule b moves

-- what is told of parts and a board is so
pub record IsToldTruly (rule : RuleKind) (parts : List Part) (b : Grid) : Type 0 where
  pub covered : (moves replies used : ℕ) → cover_of rule parts b ≡ Covered moves replies used → AreCovered rule parts b
  pub opens : (q : Point) → cover_of rule parts b ≡ Open q → IsFirstOpen rule parts b q

-- what is told is so, where the boards of the parts are boards
abbrev pub CoversAreExact : Type 0
CoversAreExact = (rule : RuleKind) (parts : List Part) (b : Grid) → IsBoard b → AllByRecursion (λ part. IsBoard part.board) parts
    → IsToldTruly rule parts b
