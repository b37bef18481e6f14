-- The boards of the nodes of a tree: each is its parent's after its move, and they stay where the tree grows. The moves that lead to a
-- node, played and taken back. In a tree that stands for a game every node tells truly whether the attacker wins: from the last node to the
-- first, since the children of a node come after it.
use Rattle.std.proofs.Common.{◌≡◌, ℕ, zero, suc, ◌<◌, ◌≤◌, Bool, true, false, cond, ◌||◌, refl, ap, ◌∙◌, arith}
use Rattle.std.proofs.Common.{List, [], ◌∷◌, length, nat_eq, sym, map, get_or, ◌⊎◌, inl, inr, ◌+◌, ◌-◌, take, subst}
use Rattle.std.proofs.Common.{drop, Contains, rules}
use Rattle.std.proofs.lemmas.Bool.{ne_eqb, cases_eq}
use Rattle.std.proofs.lemmas.List.{get_or-map, get_or-take, get_or-drop, get_or_default, length-take, length-drop}
use Rattle.std.proofs.lemmas.List.Elements.{Contains-get_or}
use Rattle.proof_number.proofs.Common.{Point, GoesOn, RuleKind, Grid, IsPosition, after, is_empty, points_of, is_same_point, outcome, mover}
use Rattle.proof_number.proofs.Common.{other, WinsByThreats, Kind, Attack, Defend, Link, Numbers, link_at, IsTree, combined, least}
use Rattle.proof_number.proofs.Common.{other_kind, total, children_of, numbers_at, move_at, nowhere, LosesToThreats, Note, GameTree}
use Rattle.proof_number.proofs.Common.{IsGameTree, board_at, board_of, board_within, left_at, left_before, HasTried, AreTried, TellsTruly}
use Rattle.proof_number.proofs.Common.{WinsAt, among, moves_of, no_note, note_at}
use Rattle.game_rules.proofs.Common.{holds, lift, IsUnwon}
use Rattle.game_rules.proofs.Positions.{IsPosition-after, GoesOn-empty}
use Rattle.game_rules.proofs.Undo.{stone_back, lift_back, unwon_back}
use Rattle.game_rules.proofs.Outcomes.{LosesOr-on}
use Rattle.game_rules.proofs.Points.{is_same_point-same}
use Rattle.proof_tree.proofs.Common.{IsLinked, AreNumbers, IsChild}
use Rattle.proof_tree.proofs.Settled.{least-zero, total-zero, settled-proved, settled-disproved}
use Rattle.proof_tree.proofs.Updated.{child-number}
use Rattle.stone_board.specs.Steps.{holds_stone}
use Rattle.stone_board.proofs.Stones.{put-holds_stone}
use Rattle.threat_game.proofs.TreeLaws.{by_move}

-- the moves that are left at the root are those of the first note
pub left-root : (notes : List Note) (depth : ℕ) → 0 < length notes → (note_at notes 0).left ≡ depth
    → left_at (map (λ (n : Note). n.left) notes) 0 ≡ depth
left-root notes depth some is = get_or-map (λ (n : Note). n.left) notes 0 no_note 0 some ∙ is

positive : (i : ℕ) → nat_eq i 0 ≡ false → 0 < i
positive i e = search rules

module _ (links : List Link) (moves : List Point) (b : Grid) (w : IsLinked links) where
  -- the bound on the moves that lead to a node plays no part
  within-same : (f g i : ℕ) → i < length links → i ≤ f → i ≤ g → board_within f links moves b i ≡ board_within g links moves b i
  unfolding board_within
  within-same zero zero i inside low high = refl
  within-same zero (suc g) zero inside low high = refl
  within-same zero (suc g) (suc i) inside low high = absurd (omega arith)
  within-same (suc f) zero zero inside low high = refl
  within-same (suc f) zero (suc i) inside low high = absurd (omega arith)
  within-same (suc f) (suc g) i inside low high = by_test (nat_eq i 0) refl (λ p a l h. within-same f g p a l h) where
    by_test : (r : Bool) → nat_eq i 0 ≡ r
        → ((p : ℕ) → p < length links → p ≤ f → p ≤ g → board_within f links moves b p ≡ board_within g links moves b p)
        → cond r b (after (board_within f links moves b (link_at links i).parent) (move_at moves i)) ≡ cond r b
        (after (board_within g links moves b (link_at links i).parent) (move_at moves i))
    by_test true e later = refl
    by_test false e later =
        let some : 0 < i = positive i e in
        let lower = w.parent_first i some inside in
        ap (λ (c : Grid). after c (move_at moves i))
        (later (link_at links i).parent (omega (arith, lower, inside)) (omega (arith, lower, low)) (omega (arith, lower, high)))

  pub board-root : board_of links moves b 0 ≡ b
  unfolding board_within
  board-root = refl

  pub board-step : (i : ℕ) → 0 < i → i < length links
      → board_of links moves b i ≡ after (board_of links moves b (link_at links i).parent) (move_at moves i)
  unfolding board_within
  board-step zero some inside = absurd (omega arith)
  board-step (suc i) some inside =
      let lower = w.parent_first (suc i) some inside in
      ap (λ r. cond r b (after (board_within i links moves b (link_at links (suc i)).parent) (move_at moves (suc i))))
      (ne_eqb (suc i) 0 (λ e. omega arith))
      ∙ ap (λ (c : Grid). after c (move_at moves (suc i)))
      (within-same i (link_at links (suc i)).parent (link_at links (suc i)).parent (omega (arith, lower, inside)) (omega (arith, lower))
      (omega arith))

-- the boards of the nodes stay where their parents and moves do
module _ (links more : List Link) (moves others : List Point) (b : Grid) (w : IsLinked links)
    (parents : (j : ℕ) → j < length links → (link_at more j).parent ≡ (link_at links j).parent)
    (same : (j : ℕ) → j < length links → move_at others j ≡ move_at moves j) where
  within-kept : (f i : ℕ) → i < length links → board_within f more others b i ≡ board_within f links moves b i
  unfolding board_within
  within-kept zero i inside = refl
  within-kept (suc f) i inside = by_test (nat_eq i 0) refl (λ p h. within-kept f p h) where
    by_test : (r : Bool) → nat_eq i 0 ≡ r → ((p : ℕ) → p < length links → board_within f more others b p ≡ board_within f links moves b p)
        → cond r b (after (board_within f more others b (link_at more i).parent) (move_at others i)) ≡ cond r b
        (after (board_within f links moves b (link_at links i).parent) (move_at moves i))
    by_test true e later = refl
    by_test false e later =
        let lower = w.parent_first i (positive i e) inside in
        ap (λ (c : Grid). after c (move_at others i))
        (ap (λ (p : ℕ). board_within f more others b p) (parents i inside)
        ∙ later (link_at links i).parent (omega (arith, lower, inside)))
        ∙ ap (after (board_within f links moves b (link_at links i).parent)) (same i inside)

  pub board-kept : (i : ℕ) → i < length links → board_of more others b i ≡ board_of links moves b i
  board-kept i inside = within-kept i i inside

-- the boards of all nodes have the same points
points-within : (f : ℕ) (links : List Link) (moves : List Point) (b : Grid) (i : ℕ)
    → points_of (board_within f links moves b i) ≡ points_of b
unfolding board_within
points-within zero links moves b i = refl
points-within (suc f) links moves b i = search (rules, points-within f links moves b (link_at links i).parent)

pub points-same : (g : GameTree) (i : ℕ) → points_of (board_at g i) ≡ points_of g.start
points-same g i = points-within i g.tree.links g.moves g.start i

-- the board of each node is a lawful position
module _ {g : GameTree} (w : IsLinked g.tree.links) (game : IsGameTree g) where
  positions-below : (n i : ℕ) → i < n → i < length g.tree.links → IsPosition g.rule (board_at g i)
  positions-below zero i low inside = absurd (omega arith)
  positions-below (suc n) zero low inside = rw (board-root g.tree.links g.moves g.start w) game.lawful
  positions-below (suc n) (suc i) low inside =
      let some : 0 < suc i = omega arith in
      let lower = w.parent_first (suc i) some inside in
      rw (board-step g.tree.links g.moves g.start w (suc i) some inside)
      (IsPosition-after g.rule (board_at g (link_at g.tree.links (suc i)).parent) (move_at g.moves (suc i))
      (positions-below n (link_at g.tree.links (suc i)).parent (omega (arith, lower, low)) (omega (arith, lower, inside)))
      (game.on (suc i) some inside))

  pub position-at : (i : ℕ) → i < length g.tree.links → IsPosition g.rule (board_at g i)
  position-at i inside = positions-below (suc i) i (omega arith) inside

-- no node has more moves left than the root
module _ {g : GameTree} (w : IsLinked g.tree.links) (game : IsGameTree g) where
  left-less : (k : Kind) (n m : ℕ) → left_before k n ≡ m → n ≤ m
  left-less k n m e = search rules

  lefts-below : (n i : ℕ) → i < n → i < length g.tree.links → left_at g.left i ≤ left_at g.left 0
  lefts-below zero i low inside = absurd (omega arith)
  lefts-below (suc n) zero low inside = omega arith
  lefts-below (suc n) (suc i) low inside =
      let some : 0 < suc i = omega arith in
      let lower = w.parent_first (suc i) some inside in
      let less = left-less (link_at g.tree.links (suc i)).kind (left_at g.left (suc i))
      (left_at g.left (link_at g.tree.links (suc i)).parent) (game.fewer (suc i) some inside) in
      let rest = lefts-below n (link_at g.tree.links (suc i)).parent (omega (arith, lower, low)) (omega (arith, lower, inside)) in
      omega (arith, less, rest)

  pub left-low : (i : ℕ) → i < length g.tree.links → left_at g.left i ≤ left_at g.left 0
  left-low i inside = lefts-below (suc i) i (omega arith) inside

-- the move and the moves left of a node are those of its note
pub noted-move : (notes : List Note) (i : ℕ) (n d : Note) → i < length notes → n ≡ get_or notes i n
    → move_at (map (λ m. m.at) notes) i ≡ n.at
noted-move notes i n d inside is = get_or-map (λ (m : Note). m.at) notes i n nowhere inside ∙ ap (λ (m : Note). m.at) (sym is)

pub noted-left : (notes : List Note) (i : ℕ) (n d : Note) → i < length notes → n ≡ get_or notes i n
    → left_at (map (λ m. m.left) notes) i ≡ n.left
noted-left notes i n d inside is = get_or-map (λ (m : Note). m.left) notes i n 0 inside ∙ ap (λ (m : Note). m.left) (sym is)

module _ {g : GameTree} (ok : IsTree g.tree) (game : IsGameTree g) (node : ℕ) (some : 0 < node) (inside : node < length g.tree.links)
    (p : Point) (move : move_at g.moves node ≡ p) where
  parent : ℕ
  parent = (link_at g.tree.links node).parent

  pub parent-inside : (link_at g.tree.links node).parent < length g.tree.links
  parent-inside = let low = ok.linked.parent_first node some inside in omega (arith, low, inside)

  pub before-lawful : IsPosition g.rule (board_at g (link_at g.tree.links node).parent)
  before-lawful = position-at ok.linked game (link_at g.tree.links node).parent parent-inside

  pub move-on : outcome g.rule (board_at g (link_at g.tree.links node).parent) p ≡ GoesOn
  move-on = rw move at (game.on node some inside)

  pub board-after : board_at g node ≡ after (board_at g (link_at g.tree.links node).parent) p
  board-after = search (rules, board-step)

  pub move-empty : is_empty (board_at g (link_at g.tree.links node).parent) p ≡ true
  move-empty = GoesOn-empty g.rule (board_at g (link_at g.tree.links node).parent) p move-on

  -- at the board of the node the move can be taken back
  module _ (c : Grid) (here : c ≡ board_at g node) where
    pub move-stone : holds c (other (mover c)) p ≡ true
    move-stone = stone_back g.rule (board_at g (link_at g.tree.links node).parent) c p before-lawful move-on (here ∙ board-after)

    pub move-unwon : IsUnwon g.rule (lift c p)
    move-unwon = unwon_back g.rule (board_at g (link_at g.tree.links node).parent) c p before-lawful move-on (here ∙ board-after)

    pub move-lifted : lift c p ≡ board_at g (link_at g.tree.links node).parent
    move-lifted = lift_back g.rule (board_at g (link_at g.tree.links node).parent) c p before-lawful move-on (here ∙ board-after)

    pub move-holds : holds_stone c p ≡ true
    move-holds = search (rules, board-after, put-holds_stone, before-lawful, move-empty)

-- ---- numbers

-- ---- children and their moves

pub child-move : (l : Link) (moves : List Point) (j : ℕ) → l.first + l.count ≤ length moves → IsChild l j
    → Contains (moves_of l moves) (move_at moves j)
child-move l moves j fits child =
    let first = child.from_first in
    let low = child.below_end in
    let k : ℕ = j - l.first in
    let inside : k < length (take l.count (drop l.first moves)) =
    omega (arith, length-take l.count (drop l.first moves), length-drop l.first moves, first, low, fits) in
    let at : get_or (take l.count (drop l.first moves)) k nowhere ≡ move_at moves j =
    get_or-take l.count (drop l.first moves) k nowhere (omega (arith, first, low)) ∙ get_or-drop l.first moves k nowhere
    ∙ ap (λ (m : ℕ). move_at moves m) (omega (arith, first)) in
    rw at at (Contains-get_or (moves_of l moves) k nowhere inside)

pub move-child : (l : Link) (moves : List Point) (p : Point) → l.first + l.count ≤ length moves → Contains (moves_of l moves) p
    → (j : ℕ) × IsChild l j × (move_at moves j ≡ p)
move-child l moves p fits (k, inside, at) =
    let b = length-drop l.first moves in
    let low : k < l.count = omega (arith, length-take l.count (drop l.first moves), inside) in
    let within : l.first + k < length moves = omega (arith, low, fits) in (
      l.first + k,
      record { from_first = omega arith; below_end = omega (arith, low) },
      get_or_default moves (l.first + k) nowhere p within ∙ sym (get_or-drop l.first moves k p)
          ∙ sym (get_or-take l.count (drop l.first moves) k p low) ∙ at,
    )

-- a point that is among these is one of them
pub among-listed : (q : Point) (ps : List Point) → among ps q ≡ true → Contains ps q
among-listed q [] h = cc
among-listed q (p ∷ ps) h = by_test (is_same_point q p) refl h (among-listed q ps) where
  by_test : (r : Bool) → is_same_point q p ≡ r → (r || among ps q) ≡ true → (among ps q ≡ true → Contains ps q) → Contains (p ∷ ps) q
  by_test true same found later = (0, omega arith, sym (is_same_point-same q p same))
  by_test false apart found later = let rest = later found in (suc rest.0, (let low = rest.1 in omega (arith, low)), rest.2)

-- ---- the tree

-- what holds of a child of node i
pub record IsChildOf (g : GameTree) (i j : ℕ) : Type 0 where
  pub inside : j < length g.tree.links
  pub later : i < j
  pub kind : (link_at g.tree.links j).kind ≡ other_kind (link_at g.tree.links i).kind
  pub board : board_at g j ≡ after (board_at g i) (move_at g.moves j)
  pub on : outcome g.rule (board_at g i) (move_at g.moves j) ≡ GoesOn
  pub fewer : left_before (link_at g.tree.links j).kind (left_at g.left j) ≡ left_at g.left i

pub tried-attack : (rule : RuleKind) (l : ℕ) (b : Grid) (ms : List Point) → HasTried Attack rule l b ms
    → (n : ℕ) × (l ≡ suc n) × AreTried rule n b ms
tried-attack rule l b ms h = search rules

module _ {g : GameTree} (ok : IsTree g.tree) (game : IsGameTree g) where
  pub child-of : (i j : ℕ) → i < length g.tree.links → IsChild (link_at g.tree.links i) j → IsChildOf g i j
  child-of i j inside child = search (rules, board-step)

  -- node i tells truly whether the attacker wins
  abbrev pub Tells : ℕ → Type 0
  Tells i = TellsTruly (numbers_at g.tree.numbers i) (WinsAt (link_at g.tree.links i).kind g.rule (left_at g.left i) (board_at g i))

  pub fits : (i : ℕ) → i < length g.tree.links → (link_at g.tree.links i).first + (link_at g.tree.links i).count ≤ length g.moves
  fits i inside = let within = ok.linked.within i inside in let same = game.moves in omega (arith, within, same)

  fits_numbers : (i : ℕ) → i < length g.tree.links → length (children_of (link_at g.tree.links i) g.tree.numbers)
      ≡ (link_at g.tree.links i).count
  fits_numbers i inside = search (rules, length-take, length-drop)

  -- where the least of the numbers of the children is 0, a child has it; where the sum is, each has it
  module _ (i : ℕ) (inside : i < length g.tree.links) (f : Numbers → ℕ) where
    pub some-zero : least (map f (children_of (link_at g.tree.links i) g.tree.numbers)) ≡ 0
        → (j : ℕ) × IsChild (link_at g.tree.links i) j × (f (numbers_at g.tree.numbers j) ≡ 0)
    some-zero e = search (rules, least-zero, fits_numbers, child-number)

    pub each-zero : total (map f (children_of (link_at g.tree.links i) g.tree.numbers)) ≡ 0 → (j : ℕ) → IsChild (link_at g.tree.links i) j
        → f (numbers_at g.tree.numbers j) ≡ 0
    each-zero e j child =
        let l = link_at g.tree.links i in
        let first = child.from_first in
        let k : ℕ = j - l.first in
        let low : k < l.count = omega (arith, first, child.below_end) in
        let back : l.first + k ≡ j = omega (arith, first) in
        ap (λ (m : ℕ). f (numbers_at g.tree.numbers m)) (sym back) ∙ ap f (sym (child-number l g.tree.numbers k low))
        ∙ total-zero f (children_of l g.tree.numbers) e k (let b = fits_numbers i inside in omega (arith, b, low))

  -- ---- one node, where its children tell truly

  module _ (i : ℕ) (inside : i < length g.tree.links) (some : 0 < (link_at g.tree.links i).count)
      (told : (j : ℕ) → IsChild (link_at g.tree.links i) j → Tells j) where
    abbrev Own : Kind → Type 0
    Own kind = HasTried kind g.rule (left_at g.left i) (board_at g i) (moves_of (link_at g.tree.links i) g.moves)

    -- the attacker wins at an attacker's node by a child where it wins
    attack-by : (link_at g.tree.links i).kind ≡ Attack → Own Attack → (j : ℕ) → IsChild (link_at g.tree.links i) j
        → WinsAt (link_at g.tree.links j).kind g.rule (left_at g.left j) (board_at g j)
        → WinsByThreats g.rule (left_at g.left i) (board_at g i)
    attack-by kind own j child wins =
        let c = child-of i j inside child in
        let tried = tried-attack g.rule (left_at g.left i) (board_at g i) (moves_of (link_at g.tree.links i) g.moves) own in
        let listed = child-move (link_at g.tree.links i) g.moves j (fits i inside) child in
        let defends : (link_at g.tree.links j).kind ≡ Defend = c.kind ∙ ap other_kind kind in
        let less = ap (λ (k : Kind). left_before k (left_at g.left j)) (sym defends) ∙ c.fewer in
        let same : left_at g.left j ≡ tried.0 = let e = tried.1 in omega (arith, less, e) in
        let loses = rw defends at wins in
        let there = rw same at (rw c.board at loses) in
        rw tried.1 (by_move g.rule tried.0 (board_at g i) (move_at g.moves j) c.on (tried.2.threat (move_at g.moves j) listed) there)

    -- and where it wins there, it wins at a child
    attack-through : (link_at g.tree.links i).kind ≡ Attack → Own Attack → WinsByThreats g.rule (left_at g.left i) (board_at g i)
        → (j : ℕ) × IsChild (link_at g.tree.links i) j × WinsAt (link_at g.tree.links j).kind g.rule (left_at g.left j) (board_at g j)
    attack-through kind own wins =
        let tried = tried-attack g.rule (left_at g.left i) (board_at g i) (moves_of (link_at g.tree.links i) g.moves) own in
        let found = tried.2.enough (subst (λ (n : ℕ). WinsByThreats g.rule n (board_at g i)) tried.1 wins) in
        let child = move-child (link_at g.tree.links i) g.moves found.0 (fits i inside) found.1 in
        let c = child-of i child.0 inside child.1 in
        let defends : (link_at g.tree.links child.0).kind ≡ Defend = c.kind ∙ ap other_kind kind in
        let less : suc (left_at g.left child.0) ≡ left_at g.left i =
        ap (λ (k : Kind). left_before k (left_at g.left child.0)) (sym defends) ∙ c.fewer in
        let same : tried.0 ≡ left_at g.left child.0 = let e = tried.1 in omega (arith, less, e) in
        let there : board_at g child.0 ≡ after (board_at g i) found.0 = c.board ∙ ap (after (board_at g i)) child.2 in
        let loses : LosesToThreats g.rule (left_at g.left child.0) (board_at g child.0) =
        subst (λ (n : ℕ). LosesToThreats g.rule n (board_at g child.0)) same (subst (LosesToThreats g.rule tried.0) (sym there) found.2) in
        (child.0, child.1, subst (λ (k : Kind). WinsAt k g.rule (left_at g.left child.0) (board_at g child.0)) (sym defends) loses)

    -- the attacker wins at a defender's node where it wins at each child
    reply-by : (link_at g.tree.links i).kind ≡ Defend → Own Defend
        → ((j : ℕ) → IsChild (link_at g.tree.links i) j → WinsAt (link_at g.tree.links j).kind g.rule (left_at g.left j) (board_at g j))
        → (q : Point) → outcome g.rule (board_at g i) q ≡ GoesOn → (r : Bool) → among (moves_of (link_at g.tree.links i) g.moves) q ≡ r
        → WinsByThreats g.rule (left_at g.left i) (after (board_at g i) q)
    reply-by kind own wins q on false none = own.others q on none
    reply-by kind own wins q on true found =
        let child = move-child (link_at g.tree.links i) g.moves q (fits i inside)
        (among-listed q (moves_of (link_at g.tree.links i) g.moves) found) in
        let c = child-of i child.0 inside child.1 in
        let attacks : (link_at g.tree.links child.0).kind ≡ Attack = c.kind ∙ ap other_kind kind in
        let same = ap (λ (k : Kind). left_before k (left_at g.left child.0)) (sym attacks) ∙ c.fewer in
        let there : board_at g child.0 ≡ after (board_at g i) q = c.board ∙ ap (after (board_at g i)) child.2 in
        let win = rw attacks at (wins child.0 child.1) in
        rw (← same) (rw there at win)

    defend-by : (link_at g.tree.links i).kind ≡ Defend → Own Defend
        → ((j : ℕ) → IsChild (link_at g.tree.links i) j → WinsAt (link_at g.tree.links j).kind g.rule (left_at g.left j) (board_at g j))
        → LosesToThreats g.rule (left_at g.left i) (board_at g i)
    defend-by kind own wins q = search (rules, LosesOr-on, reply-by)

    -- and where it wins there, it wins at each child
    defend-through : (link_at g.tree.links i).kind ≡ Defend → LosesToThreats g.rule (left_at g.left i) (board_at g i) → (j : ℕ)
        → IsChild (link_at g.tree.links i) j → WinsAt (link_at g.tree.links j).kind g.rule (left_at g.left j) (board_at g j)
    defend-through kind loses j child = search (rules, child-of)

    each : (j : ℕ) → IsChild (link_at g.tree.links i) j → AreNumbers (numbers_at g.tree.numbers j)
    each j child = ok.numbered.each j (child-of i j inside child).inside

    own-numbers : (kind : Kind) → (link_at g.tree.links i).kind ≡ kind
        → numbers_at g.tree.numbers i ≡ combined kind (children_of (link_at g.tree.links i) g.tree.numbers)
    own-numbers kind e = search rules

    inner-tells : (kind : Kind) → (link_at g.tree.links i).kind ≡ kind → Own kind
        → TellsTruly (numbers_at g.tree.numbers i) (WinsAt kind g.rule (left_at g.left i) (board_at g i))
    inner-tells Attack kind own = record {
      proved = λ h.
          let nothing = ap (λ (n : Numbers). n.proof) (sym (own-numbers Attack kind) ∙ h) in
          let child = some-zero i inside (λ n. n.proof) nothing in
          attack-by kind own child.0 child.1
          ((told child.0 child.1).proved (settled-proved (numbers_at g.tree.numbers child.0) (each child.0 child.1) child.2));
      disproved = λ h wins.
          let nothing = ap (λ (n : Numbers). n.disproof) (sym (own-numbers Attack kind) ∙ h) in
          let child = attack-through kind own wins in
          (told child.0 child.1).disproved
          (settled-disproved (numbers_at g.tree.numbers child.0) (each child.0 child.1)
          (each-zero i inside (λ n. n.disproof) nothing child.0 child.1)) child.2;
    }
    inner-tells Defend kind own = record {
      proved = λ h.
          let nothing = ap (λ (n : Numbers). n.proof) (sym (own-numbers Defend kind) ∙ h) in
          defend-by kind own (λ j child. (told j child).proved
          (settled-proved (numbers_at g.tree.numbers j) (each j child) (each-zero i inside (λ n. n.proof) nothing j child)));
      disproved = λ h loses.
          let nothing = ap (λ (n : Numbers). n.disproof) (sym (own-numbers Defend kind) ∙ h) in
          let child = some-zero i inside (λ n. n.disproof) nothing in
          (told child.0 child.1).disproved (settled-disproved (numbers_at g.tree.numbers child.0) (each child.0 child.1) child.2)
          (defend-through kind loses child.0 child.1);
    }

  -- ---- all nodes, from the last to the first

  tells-from : (n i : ℕ) → length g.tree.links ≤ i + n → i < length g.tree.links → Tells i
  tells-from zero i far inside = absurd (omega arith)
  tells-from (suc n) i far inside = by_count (cases_eq (link_at g.tree.links i).count 0)
      (λ j child. let c = child-of i j inside child in let later = c.later in tells-from n j (omega (arith, far, later)) c.inside) where
        by_count : ((link_at g.tree.links i).count ≡ 0) ⊎ ((link_at g.tree.links i).count ≡ 0 → ⊥)
            → ((j : ℕ) → IsChild (link_at g.tree.links i) j → Tells j) → Tells i
        by_count (inl none) told = game.leaf i inside none
        by_count (inr more) told = let some : 0 < (link_at g.tree.links i).count =
            omega (arith, more) in inner-tells i inside some told (link_at g.tree.links i).kind refl (game.inner i inside some)

  pub all-tell : (i : ℕ) → i < length g.tree.links → Tells i
  all-tell i inside = tells-from (length g.tree.links) i (omega arith) inside
