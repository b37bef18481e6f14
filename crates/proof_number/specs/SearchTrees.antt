-- How far a search of the game of threats has come: its tree, the positions that are counted, and where it runs out of its budget.
use Rattle.std.specs.Prelude.{◌≡◌, ◌⊎◌, ℕ, zero, suc, ◌+◌, ◌-◌, ◌*◌, ◌<◌, ◌≤◌, Bool, true, false, ◌&&◌, not, nat_eq, if◌then◌else◌}
use Rattle.std.specs.Prelude.{List, [], length, Some}
use Rattle.game_rules.specs.Grid.{Grid}
use Rattle.game_rules.specs.Games.{behind_replies, wins_by_threats}
use Rattle.game_rules.specs.declared.RuleKind.{RuleKind}
use Rattle.game_rules.specs.declared.Point.{Point}
use Rattle.proof_tree.specs.Combining.{is_settled, settled_numbers}
use Rattle.proof_tree.specs.Trees.{IsTree, Tree, leaf_sum, link_at, most_proving, numbers_at}
use Rattle.proof_tree.specs.declared.Link.{Link}
use Rattle.proof_tree.specs.declared.Kind.{Kind}
use Rattle.proof_tree.specs.declared.Kind.TheVariants.{Attack, Defend}
use Rattle.threat_game.specs.declared.doubles.DoublePoint.{DoublePoint}
use Rattle.threat_game.specs.declared.replies.Children.{Children}
use Rattle.threat_game.specs.Attacks.{IsDoubleWin, tried_moves}
use Rattle.threat_game.specs.Replies.{AreReplies, answer_nodes, one_if}
use Rattle.threat_game.specs.ThreatGame.{threat_tree}
use Rattle.proof_number.specs.GameTrees.{GameTree, IsGameTree, board_at, left_at}
use Rattle.proof_number.specs.ThreatWins.{threat_wins}

-- ---- what is counted

-- the sum of f at the first n numbers
unfoldable pub sum_below : ℕ → (ℕ → ℕ) → ℕ
sum_below zero f = 0
sum_below (suc n) f = sum_below n f + f n

-- whether node i is a leaf that is not settled
abbrev pub is_open_leaf : Tree → ℕ → Bool
is_open_leaf t i = nat_eq (link_at t.links i).count 0 && not (is_settled (numbers_at t.numbers i))

-- whether the kind is that of the attacker
abbrev pub is_attack : Kind → Bool
is_attack Attack = true
is_attack Defend = false

-- how many of the nodes are the attacker's
abbrev pub attack_nodes : List Link → ℕ
attack_nodes links = sum_below (length links) (λ i. if is_attack (link_at links i).kind then 1 else 0)

-- 1 for a node of the attacker that is not proved
abbrev pub unproved : Tree → ℕ → ℕ
unproved t i = if is_attack (link_at t.links i).kind && not (nat_eq (numbers_at t.numbers i).proof 0) then 1 else 0

-- how many positions of the attacker may be counted behind an open leaf
abbrev pub attacks_behind : Kind → RuleKind → ℕ → Grid → ℕ
attacks_behind Attack rule n b = threat_tree rule n b - 1
attacks_behind Defend rule n b = behind_replies rule (threat_tree rule n) b

-- how many positions of the defender may be counted behind an open leaf
abbrev pub defences_behind : Kind → RuleKind → ℕ → Grid → ℕ
defences_behind Attack rule n b = threat_tree rule n b - 1
defences_behind Defend rule n b = behind_replies rule (threat_tree rule n) b - 1

-- how many won positions of the attacker there are behind an open leaf
abbrev pub wins_behind : Kind → RuleKind → ℕ → Grid → ℕ
wins_behind Attack rule n b = threat_wins rule n b - one_if (wins_by_threats rule n b)
wins_behind Defend rule n b = behind_replies rule (threat_wins rule n) b

-- what is counted behind node i, if it is an open leaf
abbrev pub behind_at : (Kind → RuleKind → ℕ → Grid → ℕ) → GameTree → ℕ → ℕ
behind_at count g i = if is_open_leaf g.tree i then count (link_at g.tree.links i).kind g.rule (left_at g.left i) (board_at g i) else 0

-- what is counted behind all open leaves
abbrev pub behind_leaves : (Kind → RuleKind → ℕ → Grid → ℕ) → GameTree → ℕ
behind_leaves count g = sum_below (length g.tree.links) (behind_at count g)

-- So many positions of each side are counted: no more than the budget, and with those behind the open leaves no more than the game
-- of threats has from the root. Each node of the defender counts as one. So does each of the attacker's, and one that is proved as two
-- more at most, for the answers to a double point. Once the root has children the numbers of all leaves add up to no more than there are
-- nodes.
pub record IsCounted (g : GameTree) (budget attacked defended : ℕ) : Type 0 where
  pub attacks : attacked + behind_leaves attacks_behind g ≤ threat_tree g.rule (left_at g.left 0) g.start
  pub defences : defended + behind_leaves defences_behind g ≤ threat_tree g.rule (left_at g.left 0) g.start
  pub attackers : attack_nodes g.tree.links ≤ attacked
  pub few_attacks : attacked + 2 * sum_below (length g.tree.links) (unproved g.tree) ≤ 3 * attack_nodes g.tree.links
  pub defenders : defended + attack_nodes g.tree.links ≡ length g.tree.links
  pub attacked_fits : attacked ≤ budget
  pub defended_fits : defended ≤ budget
  pub leaves : (kind : Kind) → 1 < length g.tree.links → leaf_sum kind g.tree.links g.tree.numbers ≤ length g.tree.links

-- ---- how far a search has come

-- A tree of the game of threats from b, with so many moves left at its root, within this budget, grown in any order: the move
-- that leads to each node and the moves that are left there, and how many positions of each side are counted.
pub record IsSearchTree (rule : RuleKind) (limit budget : ℕ) (b : Grid) (t : Tree) : Type 0 where
  pub moves : List Point
  pub left : List ℕ
  pub attacked : ℕ
  pub defended : ℕ
  pub tree : IsTree t
  pub game : IsGameTree (record { rule = rule; start = b; tree = t; moves = moves; left = left })
  pub whole : left_at left 0 ≡ limit
  pub counted : IsCounted (record { rule = rule; start = b; tree = t; moves = moves; left = left }) budget attacked defended

-- what holds of the kind, the moves left and the board of the most-proving leaf
abbrev pub AtMostProving : (rule : RuleKind) (b : Grid) (t : Tree) → List Point → List ℕ → (Kind → ℕ → Grid → Type 0) → Type 0
AtMostProving rule b t moves left P =
    P (link_at t.links (most_proving t)).kind (left_at left (most_proving t))
    (board_at (record { rule = rule; start = b; tree = t; moves = moves; left = left }) (most_proving t))

-- To go on at an open leaf, with so many positions of each side counted, would count more of one side than the budget: at the attacker's
-- with the answers to a double point that wins or with the moves that are to be tried, at the defender's with the replies that get a node.
abbrev pub PassesBudget : RuleKind → ℕ → ℕ → ℕ → Kind → ℕ → Grid → Type 0
PassesBudget rule budget attacked defended Attack n b =
    ((d : DoublePoint) × IsDoubleWin rule b d × (budget < attacked + answer_nodes rule b d))
    ⊎ (budget < defended + length (tried_moves rule b))
PassesBudget rule budget attacked defended Defend n b =
    (children : Children) × AreReplies rule n b (Some children) × (budget < attacked + children.count)

-- The search within so many moves has run out: its root is not settled, and to go on at the most-proving leaf would count more
-- positions of one side than the budget.
pub record HasRunOut (rule : RuleKind) (limit budget : ℕ) (b : Grid) (t : Tree) : Type 0 where
  pub so_far : IsSearchTree rule limit budget b t
  pub undecided : is_settled (numbers_at t.numbers 0) ≡ false
  pub over : AtMostProving rule b t so_far.moves so_far.left (PassesBudget rule budget so_far.attacked so_far.defended)

-- A tree within so many moves whose root is disproved. The root has children, one for each move that is to be tried, unless one move
-- alone is left or there is none to try.
pub record HasDisproved (rule : RuleKind) (limit budget : ℕ) (b : Grid) (t : Tree) : Type 0 where
  pub so_far : IsSearchTree rule limit budget b t
  pub lost : numbers_at t.numbers 0 ≡ settled_numbers false
  pub grown : (limit ≡ 1) ⊎ (tried_moves rule b ≡ []) ⊎ (0 < (link_at t.links 0).count)
