-- Games that follow an accepted table.
use Rattle.std.specs.Prelude.{◌≡◌, ◌↔◌, ℕ, zero, suc, ◌+◌, ◌*◌, ◌-◌, List, [], ◌∷◌, ◌++◌, length, Some}
use Rattle.game_rules.specs.Grid.{Grid}
use Rattle.game_rules.specs.Play.{after, mover, other, outcome}
use Rattle.game_rules.specs.declared.Outcome.TheVariants.{GoesOn}
use Rattle.game_rules.specs.declared.Side.{Side}
use Rattle.game_rules.specs.declared.RuleKind.{RuleKind}
use Rattle.game_rules.specs.declared.Point.{Point}
use Rattle.strategy_graph.specs.declared.Node.{Node}
use Rattle.strategy_graph.specs.declared.roots.Root.{Root}
use Rattle.strategy_graph.specs.declared.roots.Root.TheVariants.{Attack, Defend}
use Rattle.strategy_graph.specs.Tables.{answer}
use Rattle.strategy_graph.specs.Acceptance.{Accepted}
use Rattle.strategy_graph.specs.Roots.{AcceptedRoot}
use Rattle.strategy_graph.specs.Games.{End, Won as EndWon, Open as EndOpen, attacks, game}
use Rattle.game_referee.specs.declared.GameVerdict.{GameVerdict}
use Rattle.game_referee.specs.declared.GameVerdict.TheVariants.{Open, Illegal, AfterEnd, Won, Fouled, Drawn}
use Rattle.game_referee.specs.declared.ReplayAnswer.TheVariants.{Follows}
use Rattle.game_referee.specs.Verdicts.{verdict}
use Rattle.game_referee.specs.Replays.{replay}

-- the moves with odd numbers, where the moves are counted from 1
abbrev pub odd_moves : List Point → List Point
odd_moves [] = []
odd_moves (p ∷ []) = p ∷ []
odd_moves (p ∷ q ∷ ps) = p ∷ odd_moves ps

-- the moves with even numbers
abbrev pub even_moves : List Point → List Point
even_moves [] = []
even_moves (p ∷ []) = []
even_moves (p ∷ q ∷ ps) = q ∷ even_moves ps

-- the moves were played as a game: none is refused, and none comes after the end
abbrev pub IsPlayed : GameVerdict → Type 0
IsPlayed (Open n) = Unit {0}
IsPlayed (Illegal n) = ⊥
IsPlayed (AfterEnd n) = ⊥
IsPlayed (Won side n) = Unit {0}
IsPlayed (Fouled f n) = Unit {0}
IsPlayed (Drawn n) = Unit {0}

-- What the verdict on a game of so many moves, of which the attacker plays the first, says beside the end of the game against the
-- table. A game that is open is so for both where its last move is an attack. One that is won is won by the attacker, with its
-- last attack; one that ends with a foul ends with a reply; and both are won with as many attacks as were played. None is drawn.
abbrev pub Agrees : Side → ℕ → GameVerdict → End → Type 0
Agrees attacker moves (Open n) end = (n ≡ moves) × ((k : ℕ) → moves ≡ 2 * k + 1 → end ≡ EndOpen)
Agrees attacker moves (Won side n) end = (side ≡ attacker) × (n ≡ moves) × ((k : ℕ) × (moves + 1 ≡ 2 * k) × (end ≡ EndWon k))
Agrees attacker moves (Fouled f n) end = (n ≡ moves) × ((k : ℕ) × (moves ≡ 2 * k) × (end ≡ EndWon k))
Agrees attacker moves (Drawn n) end = ⊥
Agrees attacker moves (Illegal n) end = ⊥
Agrees attacker moves (AfterEnd n) end = ⊥

-- What holds of a game that follows a table from node i, which is accepted at the board: the moves with odd numbers are the front of
-- the attacks against those with even numbers, and the verdict and the end of the game against the table agree. Where the last move
-- is an attack, the verdict is a win of the attacker with attack k exactly where that end is a win with k attacks, and open
-- exactly where that end is open.
pub record GoesByTable (rule : RuleKind) (t : List Node) (i : ℕ) (b : Grid) (ms : List Point) : Type 0 where
  pub played : (later : List Point) × (odd_moves ms ++ later ≡ attacks rule t i b (even_moves ms))
  pub agrees : Agrees (mover b) (length ms) (verdict rule b ms) (game rule t i b (even_moves ms))
  pub won : (j k : ℕ) → length ms ≡ 2 * j + 1 → (verdict rule b ms ≡ Won (mover b) (2 * k - 1)) ↔
      (game rule t i b (even_moves ms) ≡ EndWon k)
  pub open_end : (j : ℕ) → length ms ≡ 2 * j + 1 → (verdict rule b ms ≡ Open (length ms)) ↔ (game rule t i b (even_moves ms) ≡ EndOpen)

-- a game that follows a table from an accepted node, and was played as a game, goes by the table
abbrev pub GamesGoByTable : Type 0
GamesGoByTable =
    (rule : RuleKind) (t : List Node) (i : ℕ) (b : Grid) (ms : List Point) → Accepted rule t i b → replay rule t (Attack i) b ms ≡ Follows
    → IsPlayed (verdict rule b ms) → GoesByTable rule t i b ms

-- What holds of a game that follows a table from a root that is accepted at the board: from a node it goes by the table; and where the
-- opponent moves first, and this move goes on, the moves after it go by the table from the node with which the start answers it.
abbrev pub GoesByRoot : RuleKind → List Node → Root → Grid → List Point → Type 0
GoesByRoot rule t (Attack i) b ms = GoesByTable rule t i b ms
GoesByRoot rule t (Defend a) b [] = Unit {0}
GoesByRoot rule t (Defend a) b (q ∷ ms) = outcome rule b q ≡ GoesOn → (j : ℕ) × (answer a q ≡ Some j) × GoesByTable rule t j (after b q) ms

-- a game that follows a table from an accepted root, and was played as a game, goes by the table
abbrev pub GamesGoByRoot : Type 0
GamesGoByRoot =
    (rule : RuleKind) (t : List Node) (root : Root) (b : Grid) (ms : List Point) → AcceptedRoot rule t root b
    → replay rule t root b ms ≡ Follows → IsPlayed (verdict rule b ms) → GoesByRoot rule t root b ms

-- the side of a table that is entered at this root: where a node is entered the one to move, and at a start the other one
abbrev pub side_of : Root → Grid → Side
side_of (Attack i) b = mover b
side_of (Defend a) b = other (mover b)

-- the side to move after n moves that went on, of which the side s played the first
abbrev pub mover_after : Side → ℕ → Side
mover_after s zero = s
mover_after s (suc n) = other (mover_after s n)

-- The side did not lose the game in which the side `first` played the first move, and it is no draw: a win is its own, and after a
-- foul, or a point that is no move, it was to move, so that the other side's was the fault.
abbrev pub IsKeptBy : Side → Side → GameVerdict → Type 0
IsKeptBy s first (Open n) = Unit {0}
IsKeptBy s first (Illegal n) = mover_after first n ≡ s
IsKeptBy s first (AfterEnd n) = Unit {0}
IsKeptBy s first (Won side n) = side ≡ s
IsKeptBy s first (Fouled f n) = mover_after first n ≡ s
IsKeptBy s first (Drawn n) = ⊥

-- The side did not lose the game of these moves from the board, and no front of them is one that it lost or that is drawn: so where
-- moves come after the end, this holds of the game that had ended.
abbrev pub NeverLoses : RuleKind → Side → Grid → List Point → Type 0
NeverLoses rule s b ms = (front later : List Point) → ms ≡ front ++ later → IsKeptBy s (mover b) (verdict rule b front)

-- the side of the table never loses a game that follows the table from an accepted root
abbrev pub FollowerNeverLoses : Type 0
FollowerNeverLoses =
    (rule : RuleKind) (t : List Node) (root : Root) (b : Grid) (ms : List Point) → AcceptedRoot rule t root b
    → replay rule t root b ms ≡ Follows → NeverLoses rule (side_of root b) b ms
