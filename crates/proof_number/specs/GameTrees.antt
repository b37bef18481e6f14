-- A tree of numbers as a tree of the game of threats: the board of each node, what a node with children has tried, and when its
-- numbers are true.
use Rattle.std.specs.Prelude.{◌≡◌, ℕ, zero, suc, ◌<◌, ◌≤◌, Bool, true, false, nat_eq, if◌then◌else◌, List, [], map, length, take, drop}
use Rattle.std.specs.Prelude.{slice_index_or, Contains, ◌⊎◌}
use Rattle.std.specs.List.{list_any}
use Rattle.game_rules.specs.Grid.{Grid}
use Rattle.game_rules.specs.Shapes.{is_same_point}
use Rattle.game_rules.specs.Play.{IsPosition, outcome, mover, after}
use Rattle.game_rules.specs.Games.{LosesOr, WinsByThreats, has_five, has_threat}
use Rattle.game_rules.specs.declared.RuleKind.{RuleKind}
use Rattle.game_rules.specs.declared.Outcome.TheVariants.{GoesOn}
use Rattle.game_rules.specs.declared.Point.{Point}
use Rattle.proof_tree.specs.Combining.{is_settled, settled_numbers}
use Rattle.proof_tree.specs.Trees.{Tree, link_at, numbers_at}
use Rattle.proof_tree.specs.declared.Kind.{Kind}
use Rattle.proof_tree.specs.declared.Kind.TheVariants.{Attack, Defend}
use Rattle.proof_tree.specs.declared.Link.{Link}
use Rattle.proof_tree.specs.declared.Numbers.{Numbers}
use Rattle.proof_number.specs.declared.notes.Note.{Note}
use Rattle.threat_game.specs.Attacks.{has_reply, has_saving, tried_moves}
use Rattle.threat_game.specs.ThreatGame.{is_threat_move, move_at, LosesToThreats}
use Rattle.proof_number.specs.Denials.{IsLost, IsRefuted}

-- A tree of numbers that stands for a game: the rule, the board of the root, and for each node the move that leads to it and how
-- many moves of the attacker are left there.
pub record GameTree : Type 0 where
  pub rule : RuleKind
  pub start : Grid
  pub tree : Tree
  pub moves : List Point
  pub left : List ℕ

-- the tree with what is noted of its nodes
abbrev pub noted_tree : RuleKind → Grid → Tree → List Note → GameTree
noted_tree rule b t notes = record { rule = rule; start = b; tree = t; moves = map (λ n. n.at) notes; left = map (λ n. n.left) notes }

-- the moves that are left at node i
abbrev pub left_at : List ℕ → ℕ → ℕ
left_at left i = slice_index_or left i 0

-- the board of node i, where at most so many moves lead to it
unfoldable pub board_within : ℕ → List Link → List Point → Grid → ℕ → Grid
board_within zero links moves b i = b
board_within (suc f) links moves b i =
    if nat_eq i 0 then b else after (board_within f links moves b (link_at links i).parent) (move_at moves i)

-- the board of node i: that of the root, or that of its parent after its move; each node has a lower parent
abbrev pub board_of : List Link → List Point → Grid → ℕ → Grid
board_of links moves b i = board_within i links moves b i

-- the board of node i
abbrev pub board_at : GameTree → ℕ → Grid
board_at g i = board_of g.tree.links g.moves g.start i

-- the moves that lead to the children of a node with this link
abbrev pub moves_of : Link → List Point → List Point
moves_of link moves = take link.count (drop link.first moves)

-- the attacker wins by threats within so many moves: at an attacker's node by a move of its own, at a defender's whatever the
-- reply
abbrev pub WinsAt : Kind → RuleKind → ℕ → Grid → Type 0
WinsAt Attack rule n b = WinsByThreats rule n b
WinsAt Defend rule n b = LosesToThreats rule n b

-- numbers that are settled tell whether W holds
pub record TellsTruly (n : Numbers) (W : Type 0) : Type 0 where
  pub proved : n ≡ settled_numbers true → W
  pub disproved : n ≡ settled_numbers false → W → ⊥

-- Where the attacker has suc n moves left and no five point, these are the moves to try: each goes on and leaves a threat, and where there
-- is a win by threats one of them wins. To each other move of the game of threats a reply wins or fills the board.
pub record AreTried (rule : RuleKind) (n : ℕ) (b : Grid) (moves : List Point) : Type 0 where
  pub on : (p : Point) → Contains moves p → outcome rule b p ≡ GoesOn
  pub threat : (p : Point) → Contains moves p → has_threat rule (after b p) (mover b) ≡ true
  pub enough : WinsByThreats rule (suc n) b → (p : Point) × Contains moves p × LosesToThreats rule n (after b p)
  pub no_five : has_five rule b (mover b) ≡ false
  pub others : (p : Point) → is_threat_move rule b p ≡ true → Contains moves p ⊎ (has_saving rule (after b p) ≡ true)

-- whether the point is one of these
abbrev pub among : List Point → Point → Bool
among points q = list_any (is_same_point q) points

-- after each reply that goes on and is none of these the attacker wins by threats within so many moves, and no reply wins or fills
-- the board
pub record AreMet (rule : RuleKind) (n : ℕ) (c : Grid) (moves : List Point) : Type 0 where
  pub others : (q : Point) → outcome rule c q ≡ GoesOn → among moves q ≡ false → WinsByThreats rule n (after c q)
  pub none_saves : (q : Point) → LosesOr (outcome rule c q) (Unit {0})

-- what a node with children has tried: an attacker's the moves to try, with one move fewer left behind each, and a defender's
-- each reply after which it is not known that the attacker wins
abbrev pub HasTried : Kind → RuleKind → ℕ → Grid → List Point → Type 0
HasTried Attack rule zero b moves = ⊥
HasTried Attack rule (suc n) b moves = AreTried rule n b moves
HasTried Defend rule n b moves = AreMet rule n b moves

-- what is known of an open leaf: the side to move has no five point, the attacker has two moves or more at its own node and one
-- or more at the defender's, and there a reply goes on
abbrev pub CanGrow : Kind → RuleKind → ℕ → Grid → Type 0
CanGrow Attack rule n b = (has_five rule b (mover b) ≡ false) × (2 ≤ n)
CanGrow Defend rule n b = (has_five rule b (mover b) ≡ false) × (1 ≤ n) × (has_reply rule b ≡ true)

-- the moves that are left at the parent of a node of this kind with so many
abbrev pub left_before : Kind → ℕ → ℕ
left_before Attack n = n
left_before Defend n = suc n

-- a node of the attacker with three moves left or more is disproved, and it has so many left at this board
pub record IsDisproved (g : GameTree) (n : ℕ) (b : Grid) : Type 0 where
  pub node : ℕ
  pub inside : node < length g.tree.links
  pub attack : (link_at g.tree.links node).kind ≡ Attack
  pub disproved : numbers_at g.tree.numbers node ≡ settled_numbers false
  pub several : 3 ≤ n
  pub left_is : left_at g.left node ≡ n
  pub board_is : board_at g node ≡ b

-- the attacker's position is lost by disproved nodes of the tree, if three moves are left or more; the defender refutes by them
abbrev pub IsLostAt : Kind → GameTree → ℕ → Grid → Type 0
IsLostAt Attack g n b = 3 ≤ n → IsLost g.rule (IsDisproved g) n b
IsLostAt Defend g n b = IsRefuted g.rule (IsDisproved g) n b

-- the attacker has one move left at most, or none that is to be tried
abbrev pub IsBare : RuleKind → ℕ → Grid → Type 0
IsBare rule n b = (n ≤ 1) ⊎ (tried_moves rule b ≡ [])

-- The tree stands for the game from a lawful position: each move goes on, each node with children has tried what is to be tried,
-- open leaves can grow, settled leaves tell truly whether the attacker wins, and a disproved leaf is lost by disproved nodes. A disproved
-- root without children has one move left, or no move to try.
pub record IsGameTree (g : GameTree) : Type 0 where
  pub moves : length g.moves ≡ length g.tree.links
  pub left : length g.left ≡ length g.tree.links
  pub lawful : IsPosition g.rule g.start
  pub on : (j : ℕ) → 0 < j → j < length g.tree.links
      → outcome g.rule (board_at g (link_at g.tree.links j).parent) (move_at g.moves j) ≡ GoesOn
  pub fewer : (j : ℕ) → 0 < j → j < length g.tree.links
      → left_before (link_at g.tree.links j).kind (left_at g.left j) ≡ left_at g.left (link_at g.tree.links j).parent
  pub inner : (i : ℕ) → i < length g.tree.links → 0 < (link_at g.tree.links i).count
      → HasTried (link_at g.tree.links i).kind g.rule (left_at g.left i) (board_at g i) (moves_of (link_at g.tree.links i) g.moves)
  pub open_leaf : (i : ℕ) → i < length g.tree.links → (link_at g.tree.links i).count ≡ 0 → is_settled (numbers_at g.tree.numbers i) ≡ false
      → CanGrow (link_at g.tree.links i).kind g.rule (left_at g.left i) (board_at g i)
  pub leaf : (i : ℕ) → i < length g.tree.links → (link_at g.tree.links i).count ≡ 0
      → TellsTruly (numbers_at g.tree.numbers i) (WinsAt (link_at g.tree.links i).kind g.rule (left_at g.left i) (board_at g i))
  pub lost : (i : ℕ) → i < length g.tree.links → (link_at g.tree.links i).count ≡ 0
      → numbers_at g.tree.numbers i ≡ settled_numbers false
      → IsLostAt (link_at g.tree.links i).kind g (left_at g.left i) (board_at g i)
  pub root : (link_at g.tree.links 0).count ≡ 0 → numbers_at g.tree.numbers 0 ≡ settled_numbers false
      → IsBare g.rule (left_at g.left 0) g.start
