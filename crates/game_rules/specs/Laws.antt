-- The laws of play that the layers above rest on.
use Rattle.std.specs.Prelude.{◌≡◌, ◌↔◌, ◌≤◌, ℕ, Bool, true}
use Rattle.game_rules.specs.Grid.{Grid, lift}
use Rattle.game_rules.specs.Play.{IsPosition, outcome, mover, after, other}
use Rattle.game_rules.specs.Games.{WinsUnder, WinsWithin, WinsByFours, WinsByThreats, wins_under}
use Rattle.game_rules.specs.declared.RuleKind.{RuleKind}
use Rattle.game_rules.specs.declared.Side.{Side}
use Rattle.game_rules.specs.declared.Outcome.TheVariants.{GoesOn}
use Rattle.game_rules.specs.declared.Point.{Point}

-- what a move at p that goes on does to a lawful position: it leaves a lawful position, in which the other side is to move,
-- and without its stone the board is the one before
pub record Continues (rule : RuleKind) (b : Grid) (p : Point) : Type 0 where
  pub lawful : IsPosition rule (after b p)
  pub other_moves : other (mover (after b p)) ≡ mover b
  pub taken_back : lift (after b p) p ≡ b

-- each move that goes on continues the game
abbrev pub MovesContinue : Type 0
MovesContinue = (rule : RuleKind) (b : Grid) (p : Point) → IsPosition rule b → outcome rule b p ≡ GoesOn → Continues rule b p

-- the test of a win answers as the fact, whatever is demanded of the moves
abbrev pub TestsTell : Type 0
TestsTell = (demand : Grid → Side → Bool) (rule : RuleKind) (n : ℕ) (b : Grid)
    → (wins_under demand rule n b ≡ true) ↔ WinsUnder demand rule n b

-- a win by fours is a win by threats
abbrev pub FoursAreThreats : Type 0
FoursAreThreats = (rule : RuleKind) (n : ℕ) (b : Grid) → WinsByFours rule n b → WinsByThreats rule n b

-- a win by threats is a win, whatever the replies
abbrev pub ThreatsWin : Type 0
ThreatsWin = (rule : RuleKind) (n : ℕ) (b : Grid) → WinsByThreats rule n b → WinsWithin rule n b

-- a win within some moves is one within more, whatever is demanded of the moves
abbrev pub MoreMovesWin : Type 0
MoreMovesWin =
    (demand : Grid → Side → Bool) (rule : RuleKind) (n m : ℕ) (b : Grid) → n ≤ m → WinsUnder demand rule n b → WinsUnder demand rule m b
