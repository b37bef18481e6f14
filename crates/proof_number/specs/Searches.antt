-- What holds of a search between its steps: its tree stands for the game, won positions are written, and positions are counted.
use Rattle.std.specs.Prelude.{◌≡◌, Result, Ok, Err, OnOk, slice_set, min, ℕ, ◌+◌, ◌-◌, ◌<◌, ◌≤◌, Bool, true, false, ◌&&◌}
use Rattle.std.specs.Prelude.{nat_eq}
use Rattle.std.specs.Prelude.{if◌then◌else◌, List, [], ◌++◌, length}
use Rattle.game_rules.specs.Grid.{Grid}
use Rattle.game_rules.specs.Games.{WinsByThreats, wins_by_threats}
use Rattle.game_rules.specs.Play.{after, outcome}
use Rattle.game_rules.specs.declared.Outcome.TheVariants.{GoesOn}
use Rattle.game_rules.specs.declared.Point.{Point}
use Rattle.game_rules.specs.declared.RuleKind.{RuleKind}
use Rattle.strategy_graph.specs.declared.Node.{Node}
use Rattle.strategy_compiler.specs.Nodes.{IsCompiled}
use Rattle.strategy_compiler.specs.Wins.{IsWrittenWin}
use Rattle.strategy_compiler.specs.Growth.{Writes}
use Rattle.proof_tree.specs.Combining.{finite, is_settled, no_numbers, settled_numbers, sought}
use Rattle.proof_tree.specs.Trees.{IsAlive, IsOnWayUp, IsTree, OthersStay, Tree, grown_links, leaf_sum, link_at, most_proving, numbers_at}
use Rattle.proof_tree.specs.declared.Link.{Link}
use Rattle.proof_tree.specs.declared.Numbers.{Numbers}
use Rattle.proof_tree.specs.declared.Kind.{Kind}
use Rattle.proof_tree.specs.declared.Kind.TheVariants.{Attack, Defend}
use Rattle.proof_number.specs.declared.TheConstants.{MAX_DEPTH, MAX_BUDGET}
use Rattle.proof_number.specs.declared.notes.Note.{Note}
use Rattle.proof_number.specs.declared.search.Search.{Search}
use Rattle.proof_number.specs.declared.search.Step.{Step}
use Rattle.proof_number.specs.declared.search.Step.TheVariants.{Done, Spent}
use Rattle.strategy_compiler.specs.declared.error.SearchError.{SearchError}
use Rattle.strategy_compiler.specs.declared.wins.WrittenWin.{WrittenWin}
use Rattle.threat_game.specs.ThreatGame.{threat_tree}
use Rattle.threat_game.specs.Replies.{one_if}
use Rattle.proof_number.specs.Notes.{note_at, win_of}
use Rattle.proof_number.specs.GameTrees.{GameTree, IsGameTree, among, board_at, left_at, moves_of, noted_tree}
use Rattle.proof_number.specs.Remembered.{IsTrueMemo}
use Rattle.proof_number.specs.SearchTrees.{HasRunOut, IsCounted, behind_leaves, is_attack, is_open_leaf, sum_below, wins_behind}
use Rattle.proof_number.specs.ThreatWins.{threat_wins}

-- the tree of the search as a tree of the game
abbrev pub game_of : RuleKind → Search → Tree → GameTree
game_of rule s t = noted_tree rule s.root t s.notes.items

-- the search is for the same as before
pub record IsSameAim (old new : Search) : Type 0 where
  pub depth : new.depth ≡ old.depth
  pub budget : new.budget ≡ old.budget
  pub before : new.before ≡ old.before
  pub root : new.root ≡ old.root

-- a win by threats within so many moves that is written
abbrev pub IsNotedWin : RuleKind → ℕ → Grid → List Node → WrittenWin → Type 0
IsNotedWin rule n b c win = IsWrittenWin rule n b c win × WinsByThreats rule n b

-- the first child of node i has a win, and that is written for the board after this reply at node i too
pub record IsMet (g : GameTree) (notes : List Note) (c : List Node) (i : ℕ) (q : Point) : Type 0 where
  pub some : 0 < (note_at notes (link_at g.tree.links i).first).moves
  pub win : IsNotedWin g.rule (left_at g.left i) (after (board_at g i) q) c (win_of (note_at notes (link_at g.tree.links i).first))

-- Notes tell wins by threats that are written at the boards of their nodes. Each proved node of the attacker has one, but for those for
-- which way holds and that are no leaves. Open leaves have none, and no leaf of the defender is proved. A reply that has no node is met by
-- the win of the first that has one.
pub record AreWritten (g : GameTree) (notes : List Note) (c : List Node) (way : ℕ → Type 0) : Type 0 where
  pub true_wins : (i : ℕ) → i < length g.tree.links → 0 < (note_at notes i).moves
      → IsNotedWin g.rule (left_at g.left i) (board_at g i) c (win_of (note_at notes i))
  pub fresh : (i : ℕ) → i < length g.tree.links → (link_at g.tree.links i).count ≡ 0 → is_settled (numbers_at g.tree.numbers i) ≡ false
      → (note_at notes i).moves ≡ 0
  pub leaves : (i : ℕ) → i < length g.tree.links → (link_at g.tree.links i).count ≡ 0 → (link_at g.tree.links i).kind ≡ Attack
      → numbers_at g.tree.numbers i ≡ settled_numbers true → 0 < (note_at notes i).moves
  pub defends : (i : ℕ) → i < length g.tree.links → (link_at g.tree.links i).count ≡ 0 → (link_at g.tree.links i).kind ≡ Defend
      → numbers_at g.tree.numbers i ≡ settled_numbers true → ⊥
  pub all : (i : ℕ) → i < length g.tree.links → (link_at g.tree.links i).kind ≡ Attack → numbers_at g.tree.numbers i ≡ settled_numbers true
      → ¬ way i → 0 < (note_at notes i).moves
  pub met : (i : ℕ) → i < length g.tree.links → (link_at g.tree.links i).kind ≡ Defend → 0 < (link_at g.tree.links i).count
      → (q : Point) → outcome g.rule (board_at g i) q ≡ GoesOn → among (moves_of (link_at g.tree.links i) g.moves) q ≡ false
      → IsMet g notes c i q

-- how many nodes are none of the open leaves
abbrev pub closed_nodes : Tree → ℕ
closed_nodes t = sum_below (length t.links) (λ i. if is_open_leaf t i then 0 else 1)

-- what f says of a node of the attacker whose note tells no win
abbrev pub unwritten : (ℕ → ℕ) → Tree → List Note → ℕ → ℕ
unwritten f t notes i = if is_attack (link_at t.links i).kind && nat_eq (note_at notes i).moves 0 then f i else 0

-- 1 for a node of the attacker at which it wins by threats
abbrev pub won_at : GameTree → ℕ → ℕ
won_at g i = one_if (wins_by_threats g.rule (left_at g.left i) (board_at g i))

-- Once the root has children the numbers of all leaves and these to spare add up to no more than there are nodes; a lone root has no
-- more to spare than one, and none while it is open.
pub record HasSpare (t : Tree) (spare : Numbers) : Type 0 where
  pub fits : (kind : Kind) → sought kind spare ≤ length t.links
  pub leaves : (kind : Kind) → 1 < length t.links → leaf_sum kind t.links t.numbers + sought kind spare ≤ length t.links
  pub lone : (kind : Kind) → length t.links ≡ 1 → is_settled (numbers_at t.numbers 0) ≡ false → sought kind spare ≡ 0

-- one more of each number
abbrev pub one_more : Numbers → Numbers
one_more n = record { proof = n.proof + 1; disproof = n.disproof + 1 }

-- What holds of a search, its tree and the nodes of its compiler between steps, and on the way back from a leaf, where the nodes
-- for which way holds may be proved and have no win yet. No more nodes were added to the compiler than positions are counted,
-- beside one for each node of the attacker without a win; nor than positions of the game of threats are won, beside those that are not
-- written and those behind open leaves.
pub record IsSearching (rule : RuleKind) (s : Search) (t : Tree) (c : List Node) (way : ℕ → Type 0) : Type 0 where
  pub tree : IsTree t
  pub game : IsGameTree (game_of rule s t)
  pub depth : (note_at s.notes.items 0).left ≡ s.depth
  pub depth_fits : s.depth ≤ MAX_DEPTH
  pub budget_fits : s.budget ≤ MAX_BUDGET
  pub written : AreWritten (game_of rule s t) s.notes.items c way
  pub remembered : IsTrueMemo rule c (game_of rule s t) s.settled
  pub counted : IsCounted (game_of rule s t) s.budget s.attacked s.defended
  pub spare : HasSpare t s.spare
  pub compiled : IsCompiled c
  pub few : length c + sum_below (length t.links) (unwritten (λ i. 1) t s.notes.items) ≤ s.before + s.attacked
  pub wins : length c + sum_below (length t.links) (unwritten (won_at (game_of rule s t)) t s.notes.items)
      + behind_leaves wins_behind (game_of rule s t) ≤ s.before + threat_wins rule s.depth s.root

-- the same as one word, which proofs open where they need a part of it
pub data Searches (rule : RuleKind) (s : Search) (t : Tree) (c : List Node) (way : ℕ → Type 0) : Type 0 where
  known_searching : IsSearching rule s t c way → Searches rule s t c way

-- nothing but what is noted and remembered has changed, and the tree stands for the same game
pub record KeepsTree (old new : Search) : Type 0 where
  pub rest : new ≡ record old { notes = new.notes; settled = new.settled }
  pub places : (rule : RuleKind) (t : Tree) → game_of rule new t ≡ game_of rule old t

-- node j is above node i
abbrev pub IsAbove : List Link → ℕ → ℕ → Type 0
IsAbove links i j = IsOnWayUp links i j × (¬ (j ≡ i))

-- The search is at a leaf of its tree, and neither the leaf nor a node above it is settled: the view and the board are that of the leaf.
pub record IsAtLeaf (rule : RuleKind) (s : Search) (t : Tree) (c : List Node) (leaf : ℕ) (view : Grid) : Type 0 where
  pub searching : IsSearching rule s t c (λ i. ⊥)
  pub root_open : is_settled (numbers_at t.numbers 0) ≡ false
  pub alive : IsAlive t leaf
  pub in_tree : leaf < length t.links
  pub childless : (link_at t.links leaf).count ≡ 0
  pub leaf_open : is_settled (numbers_at t.numbers leaf) ≡ false
  pub view_is : view ≡ board_at (game_of rule s t) leaf
  pub board_is : s.board ≡ board_at (game_of rule s t) leaf

-- the same as one word
pub data StandsAt (rule : RuleKind) (s : Search) (t : Tree) (c : List Node) (leaf : ℕ) (view : Grid) : Type 0 where
  known_at_leaf : IsAtLeaf rule s t c leaf view → StandsAt rule s t c leaf view

-- The leaf is settled or has children: all holds again but that proved nodes from the leaf up to the root may have no win, one
-- open leaf fewer is left to be closed, and there is one more of each number to spare.
pub record HasGrown (rule : RuleKind) (old new : Search) (t u : Tree) (d : List Node) (leaf : ℕ) : Type 0 where
  pub searching : IsSearching rule new u d (IsOnWayUp u.links leaf)
  pub in_tree : leaf < length u.links
  pub aim : IsSameAim old new
  pub board : new.board ≡ old.board
  pub place : board_at (game_of rule new u) leaf ≡ board_at (game_of rule old t) leaf
  pub progress : closed_nodes t < closed_nodes u
  pub longer : length t.links ≤ length u.links
  pub spare : HasSpare u (one_more new.spare)

-- the same as one word
pub data Grows (rule : RuleKind) (old new : Search) (t u : Tree) (d : List Node) (leaf : ℕ) : Type 0 where
  known_grown : HasGrown rule old new t u d leaf → Grows rule old new t u d leaf

-- the budget is less than the game of threats has positions, the search has run out if the leaf is the most-proving one, and it may go on
-- with the tree as it was
pub record HasSpent (rule : RuleKind) (old new : Search) (t u : Tree) (d : List Node) (leaf : ℕ) : Type 0 where
  pub searching : IsSearching rule new u d (λ i. ⊥)
  pub spent : old.budget < threat_tree rule old.depth old.root
  pub ran_out : leaf ≡ most_proving t → HasRunOut rule old.depth old.budget old.root t
  pub same : u ≡ t
  pub keeps : KeepsTree old new

-- the tree is as it was
pub record HasStayed (old new : Search) (t u : Tree) : Type 0 where
  pub same : u ≡ t
  pub keeps : KeepsTree old new

-- what holds after a step: the first if it is done, the second if the budget is spent, and the third after a refusal
abbrev pub OnStep : Result Step SearchError → Type 0 → Type 0 → Type 0 → Type 0
OnStep (Ok Done) D S E = D
OnStep (Ok Spent) D S E = S
OnStep (Err e) D S E = E

-- how many nodes may still be written to the compiler, where it may have at most so many
unfoldable pub room_in : ℕ → List Node → ℕ
room_in most c = most - length c

-- no more nodes are added to the compiler than positions may be counted, nor than positions of the game of threats are won
unfoldable pub most_nodes : RuleKind → Search → ℕ
most_nodes rule s = s.before + min s.budget (threat_wins rule s.depth s.root)

-- nor than positions are counted
unfoldable pub nodes_so_far : RuleKind → Search → ℕ
nodes_so_far rule s = s.before + min s.attacked (threat_wins rule s.depth s.root)

-- what comes of a leaf that is to be settled or to get children, and what is written for it
pub record IsTried (rule : RuleKind) (old new : Search) (t u : Tree) (c d : List Node) (leaf : ℕ) (result : Result Step SearchError) :
    Type 0 where
  pub step : OnStep result (Grows rule old new t u d leaf) (HasSpent rule old new t u d leaf) (HasStayed old new t u)
  pub writes : Writes c d (room_in (most_nodes rule old) c) result

-- a step was done: all holds again, and one open leaf fewer is left to be closed
pub record HasStepped (rule : RuleKind) (new : Search) (t u : Tree) (d : List Node) : Type 0 where
  pub searching : Searches rule new u d (λ i. ⊥)
  pub progress : closed_nodes t < closed_nodes u

-- the budget is spent at the leaf: the search has run out if it is the most-proving one, and may go on with the tree as it was
pub record IsOverBudget (rule : RuleKind) (old new : Search) (t u : Tree) (d : List Node) (leaf : ℕ) : Type 0 where
  pub searching : Searches rule new u d (λ i. ⊥)
  pub same : u ≡ t
  pub spent : old.budget < threat_tree rule old.depth old.root
  pub ran_out : leaf ≡ most_proving t → HasRunOut rule old.depth old.budget old.root t

-- the budget is spent, and the search has run out
pub record HasEnded (rule : RuleKind) (old new : Search) (u : Tree) (d : List Node) : Type 0 where
  pub searching : Searches rule new u d (λ i. ⊥)
  pub spent : old.budget < threat_tree rule old.depth old.root
  pub ran_out : HasRunOut rule old.depth old.budget old.root u

-- what a step from the root to a leaf and back comes to, where this holds if the budget is spent, and what it leaves
pub record IsStep (rule : RuleKind) (old new : Search) (t u : Tree) (c d : List Node) (over : Type 0) (result : Result Step SearchError) :
    Type 0 where
  pub came : OnStep result (HasStepped rule new t u d) over (Unit {0})
  pub aim : IsSameAim old new
  pub board : new.board ≡ old.root
  pub tree : IsTree u
  pub longer : length t.links ≤ length u.links
  pub writes : Writes c d (room_in (most_nodes rule old) c) result

-- Some leaves were given other numbers, and the search is at one of them, as after the moves to it: the tree has the same links, and as
-- many open leaves.
pub record IsThere (rule : RuleKind) (old new : Search) (t u : Tree) (c : List Node) (leaf : ℕ) (view : Grid) : Type 0 where
  pub stands : StandsAt rule new u c leaf view
  pub aim : IsSameAim old new
  pub links : u.links ≡ t.links
  pub closed : closed_nodes u ≡ closed_nodes t

-- the leaf is one that the search may go to
pub record IsOpenLeaf (t : Tree) (leaf : ℕ) : Type 0 where
  pub alive : IsAlive t leaf
  pub in_tree : leaf < length t.links
  pub childless : (link_at t.links leaf).count ≡ 0

-- a leaf that isn't the root may take the numbers of this node: neither the node nor one above it is settled
pub record IsOther (t : Tree) (leaf node : ℕ) : Type 0 where
  pub below_root : 0 < leaf
  pub in_tree : node < length t.links
  pub alive : IsAlive t node

-- a leaf has other numbers, and the nodes above it follow: all holds as before
pub record HasFollowed (rule : RuleKind) (old new : Search) (t u : Tree) (c : List Node) : Type 0 where
  pub searching : Searches rule new u c (λ i. ⊥)
  pub rest : new ≡ record old { spare = new.spare }
  pub links : u.links ≡ t.links
  pub closed : closed_nodes u ≡ closed_nodes t
  pub alive : (i : ℕ) → i < length t.links → IsAlive t i → IsAlive u i

-- A node is passed on the way back from a leaf: it has its win, if it is a proved node of the attacker. No more nodes are written than
-- positions are counted, nor than are won.
pub record IsPassed {A : Type 0} (rule : RuleKind) (old new : Search) (t : Tree) (c d : List Node) (node : ℕ)
    (result : Result A SearchError) : Type 0 where
  pub searching : OnOk result (Searches rule new t d (IsAbove t.links node))
  pub keeps : KeepsTree old new
  pub writes : Writes c d (room_in (nodes_so_far rule old) c) result

-- all nodes up to the root are passed, and the moves are taken back
pub record IsBack (rule : RuleKind) (old new : Search) (t : Tree) (c d : List Node) (result : Result (Unit {0}) SearchError) : Type 0 where
  pub searching : OnOk result (Searches rule new t d (λ i. ⊥))
  pub aim : IsSameAim old new
  pub board : new.board ≡ old.root
  pub writes : Writes c d (room_in (nodes_so_far rule old) c) result

-- the leaf of the tree is settled, and only the numbers above it changed
pub record IsSettledAt (t u : Tree) (leaf : ℕ) (proved : Bool) : Type 0 where
  pub links : u.links ≡ t.links
  pub settled : numbers_at u.numbers leaf ≡ settled_numbers proved
  pub others : OthersStay t.links leaf t.numbers u.numbers
  pub leaves : (kind : Kind) → leaf_sum kind u.links u.numbers + finite (sought kind (numbers_at t.numbers leaf))
      ≤ leaf_sum kind t.links t.numbers
  pub tree : IsTree u

-- the leaf of the tree is given children with these numbers, and only the numbers above it changed
pub record IsExpandedAt (t u : Tree) (leaf : ℕ) (more : List Numbers) : Type 0 where
  pub links : u.links ≡ grown_links t.links leaf (length more)
  pub others : OthersStay u.links leaf (t.numbers ++ more) u.numbers
  pub children : (j : ℕ) → j < length more → numbers_at u.numbers (length t.links + j) ≡ numbers_at more j
  pub leaves : (kind : Kind) → leaf_sum kind u.links u.numbers ≤ leaf_sum kind u.links (t.numbers ++ more)
  pub tree : IsTree u

-- the notes after node i is won
abbrev pub noted_won : List Note → ℕ → WrittenWin → List Note
noted_won notes i win = slice_set notes i (record (note_at notes i) { moves = win.moves; node = win.node })

-- what a search begins with
pub record IsNew (depth budget before : ℕ) (b : Grid) (s : Search) : Type 0 where
  pub depth_is : s.depth ≡ depth
  pub budget_is : s.budget ≡ budget
  pub before_is : s.before ≡ before
  pub root_is : s.root ≡ b
  pub board_is : s.board ≡ b
  pub one : length s.notes.items ≡ 1
  pub left : (note_at s.notes.items 0).left ≡ depth
  pub unwon : (note_at s.notes.items 0).moves ≡ 0
  pub none : s.settled.entries ≡ []
  pub none_to_spare : s.spare ≡ no_numbers
  pub attacked_is : s.attacked ≡ 1
  pub defended_is : s.defended ≡ 0

-- a search is to begin at a board, with a lone node that is not settled
pub record CanBegin (s : Search) (t : Tree) (c : List Node) (b : Grid) : Type 0 where
  pub new : IsNew s.depth s.budget (length c) b s
  pub some_depth : 1 ≤ s.depth
  pub depth_fits : s.depth ≤ MAX_DEPTH
  pub some_budget : 1 ≤ s.budget
  pub budget_fits : s.budget ≤ MAX_BUDGET
  pub one_node : length t.links ≡ 1
  pub unsettled : is_settled (numbers_at t.numbers 0) ≡ false

-- the root was looked at first
pub record HasBegun (rule : RuleKind) (old new : Search) (u : Tree) (c d : List Node) (result : Result (Unit {0}) SearchError) :
    Type 0 where
  pub searching : OnOk result (Searches rule new u d (λ i. ⊥))
  pub aim : IsSameAim old new
  pub board : new.board ≡ old.board
  pub tree : IsTree u
  pub one_node : length u.links ≡ 1
  pub writes : Writes c d (min 1 (threat_wins rule old.depth old.root)) result
