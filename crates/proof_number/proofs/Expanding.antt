-- What becomes of a tree of the game where a leaf is given children: it is one again, and what is counted behind the leaf is what is
-- counted behind its children.
use Rattle.std.proofs.Common.{◌≡◌, ◌≢◌, ◌⊎◌, inl, inr, ℕ, ◌+◌, ◌-◌, ◌<◌, ◌≤◌, true, false, cond, not}
use Rattle.std.proofs.Common.{◌&&◌, refl, sym, ap, subst, ◌∙◌, arith, List, ◌++◌, length, nat_eq, rules}
use Rattle.std.proofs.lemmas.Bool.{cases_eq, cases_lt, eq-eqb, ne_eqb}
use Rattle.std.proofs.lemmas.List.{drop-append-le, get_or-append-add, get_or_append_left, length-append, length-drop, take-append-le}
use Rattle.std.proofs.Math.Seq.{drop-append_seam, take-length}
use Rattle.proof_number.proofs.Common.{GoesOn, RuleKind, Point, Grid, outcome, after, Kind, Link, Numbers, is_settled, no_numbers}
use Rattle.proof_number.proofs.Common.{other_kind, IsTree, OthersStay, Tree, link_at, IsAlive, numbers_at, settled_numbers, move_at}
use Rattle.proof_number.proofs.Common.{nowhere, CanGrow, GameTree, HasTried, IsGameTree, TellsTruly, WinsAt, board_at, board_of, left_at}
use Rattle.proof_number.proofs.Common.{left_before, moves_of, behind_at, behind_leaves, closed_nodes, is_open_leaf, sum_below, IsDisproved}
use Rattle.proof_number.proofs.Common.{IsLostAt}
use Rattle.proof_tree.proofs.Changed.{IsGrown}
use Rattle.proof_tree.proofs.Settled.{leaf-beside}
use Rattle.proof_number.proofs.GameTruths.{board-kept, board-step}
use Rattle.proof_number.proofs.Remembering.{lost-kept}
use Rattle.proof_number.proofs.Settling.{one_unless}
use Rattle.proof_number.proofs.Staying.{expanded-stays}
use Rattle.proof_number.proofs.Sums.{sum-le, sum-less, sum-more}

-- one child of a leaf with this kind, so many moves and this board: its move goes on, and if it is open it can grow, else it tells
-- truly, and is not disproved
pub record IsNewChild (rule : RuleKind) (kind : Kind) (left : ℕ) (b : Grid) (p : Point) (n : ℕ) (numbers : Numbers) : Type 0 where
  pub on : outcome rule b p ≡ GoesOn
  pub fewer : left_before (other_kind kind) n ≡ left
  pub grows : is_settled numbers ≡ false → CanGrow (other_kind kind) rule n (after b p)
  pub tells : TellsTruly numbers (WinsAt (other_kind kind) rule n (after b p))
  pub not_lost : numbers ≡ settled_numbers false → ⊥

-- the leaf of g is given children, one for each of these numbers, with these moves and moves left, and the tree has these links and numbers
pub record IsExpansion (g : GameTree) (leaf : ℕ) (links : List Link) (numbers more : List Numbers) (ps : List Point) (ns : List ℕ) :
    Type 0 where
  pub ok : IsTree g.tree
  pub game : IsGameTree g
  pub inside : leaf < length g.tree.links
  pub childless : (link_at g.tree.links leaf).count ≡ 0
  pub unsettled : is_settled (numbers_at g.tree.numbers leaf) ≡ false
  pub some : 0 < length more
  pub points : length ps ≡ length more
  pub lefts : length ns ≡ length more
  pub long : IsGrown g.tree.links leaf (length more) links
  pub new : IsTree (record { links = links; numbers = numbers })
  pub others : OthersStay links leaf (g.tree.numbers ++ more) numbers
  pub children : (j : ℕ) → j < length more → numbers_at numbers (length g.tree.links + j) ≡ numbers_at more j
  pub tried : HasTried (link_at g.tree.links leaf).kind g.rule (left_at g.left leaf) (board_at g leaf) ps
  pub each : (j : ℕ) → j < length more → IsNewChild g.rule (link_at g.tree.links leaf).kind (left_at g.left leaf) (board_at g leaf)
      (move_at ps j) (left_at ns j) (numbers_at more j)

module _ {g : GameTree} {leaf : ℕ} {links : List Link} {numbers more : List Numbers} {ps : List Point} {ns : List ℕ}
    (x : IsExpansion g leaf links numbers more ps ns) where
  open x use {ok, game, inside, childless, unsettled, some, points, lefts, long, new, others, children, tried, each}

  -- the game once the leaf has its children
  abbrev pub Grown : GameTree
  Grown = record {
    rule = g.rule;
    start = g.start;
    tree = record { links = links; numbers = numbers };
    moves = g.moves ++ ps;
    left = g.left ++ ns;
  }

  pub old-parent : (j : ℕ) → j < length g.tree.links → (link_at links j).parent ≡ (link_at g.tree.links j).parent
  old-parent j low = elim (cases_eq j leaf) [
    | inl e ↦ ap (λ (k : ℕ). (link_at links k).parent) e ∙ ap (λ (l : Link). l.parent) long.here
        ∙ ap (λ (k : ℕ). (link_at g.tree.links k).parent) (sym e)
    | inr n ↦ ap (λ (l : Link). l.parent) (long.others j low n)
  ]

  pub old-kind : (j : ℕ) → j < length g.tree.links → (link_at links j).kind ≡ (link_at g.tree.links j).kind
  old-kind j low = elim (cases_eq j leaf) [
    | inl e ↦ ap (λ (k : ℕ). (link_at links k).kind) e ∙ ap (λ (l : Link). l.kind) long.here
        ∙ ap (λ (k : ℕ). (link_at g.tree.links k).kind) (sym e)
    | inr n ↦ ap (λ (l : Link). l.kind) (long.others j low n)
  ]

  old-move : (j : ℕ) → j < length g.tree.links → move_at (g.moves ++ ps) j ≡ move_at g.moves j
  old-move j low = get_or_append_left g.moves ps nowhere j (let e = game.moves in omega (arith, e, low))

  pub old-left : (j : ℕ) → j < length g.tree.links → left_at (g.left ++ ns) j ≡ left_at g.left j
  old-left j low = get_or_append_left g.left ns 0 j (let e = game.left in omega (arith, e, low))

  new-move : (j : ℕ) → move_at (g.moves ++ ps) (length g.tree.links + j) ≡ move_at ps j
  new-move j = ap (λ (m : ℕ). move_at (g.moves ++ ps) (m + j)) (sym game.moves) ∙ get_or-append-add g.moves ps j nowhere

  pub new-left : (j : ℕ) → left_at (g.left ++ ns) (length g.tree.links + j) ≡ left_at ns j
  new-left j = ap (λ (m : ℕ). left_at (g.left ++ ns) (m + j)) (sym game.left) ∙ get_or-append-add g.left ns j 0

  pub old-board : (j : ℕ) → j < length g.tree.links → board_of links (g.moves ++ ps) g.start j ≡ board_at g j
  old-board j low = board-kept g.tree.links links g.moves (g.moves ++ ps) g.start ok.linked old-parent old-move j low

  new-parent : (j : ℕ) → j < length more → (link_at links (length g.tree.links + j)).parent ≡ leaf
  new-parent j low = ap (λ (l : Link). l.parent) (long.leaves (length g.tree.links + j) (omega arith) (omega (arith, low)))

  pub new-kind : (j : ℕ) → j < length more → (link_at links (length g.tree.links + j)).kind ≡ other_kind (link_at g.tree.links leaf).kind
  new-kind j low = ap (λ (l : Link). l.kind) (long.leaves (length g.tree.links + j) (omega arith) (omega (arith, low)))

  pub new-board : (j : ℕ) → j < length more → board_of links (g.moves ++ ps) g.start (length g.tree.links + j) ≡ after (board_at g leaf)
      (move_at ps j)
  new-board j low = search (rules, board-step, new-parent, old-board, new-move)

  -- leaves that are old have the numbers that they had
  pub old-numbers : (j : ℕ) → j < length g.tree.links → (link_at links j).count ≡ 0 → j ≢ leaf
      → numbers_at numbers j ≡ numbers_at g.tree.numbers j
  old-numbers j low none other =
      others j (leaf-beside links new.linked leaf j (let e = long.sized in omega (arith, e, inside)) none other)
      ∙ get_or_append_left g.tree.numbers more no_numbers j (let e = ok.numbered.count in omega (arith, e, low))

  -- a node is old, or a new child
  pub split : (i : ℕ) → i < length links → (i < length g.tree.links) ⊎ ((j : ℕ) × (j < length more) × (i ≡ length g.tree.links + j))
  split i low = elim (cases_lt i (length g.tree.links)) [
    | inl old ↦ inl old
    | inr past ↦ inr (i - length g.tree.links, (let e = long.sized in omega (arith, e, low, past)), omega (arith, past))
  ]

  has-children : (i : ℕ) → i ≡ leaf → (link_at links i).count ≡ 0 → ⊥
  has-children i e none = search rules

  -- what a node has tried
  pub old-moves_of : (i : ℕ) → i < length g.tree.links
      → moves_of (link_at g.tree.links i) (g.moves ++ ps) ≡ moves_of (link_at g.tree.links i) g.moves
  old-moves_of i low = search (rules, length-drop, drop-append-le, take-append-le)

  pub grown-moves : moves_of (link_at links leaf) (g.moves ++ ps) ≡ ps
  grown-moves = search (rules, drop-append_seam, take-length)

  -- a node that is disproved stays so
  pub disproved-grown : IsAlive g.tree leaf → (n : ℕ) (b : Grid) → IsDisproved g n b → IsDisproved Grown n b
  disproved-grown alive n b is =
      let low = is.inside in
      record {
        node = is.node;
        inside = (let e = long.sized in omega (arith, e, low));
        attack = old-kind is.node low ∙ is.attack;
        disproved = expanded-stays g.tree ok leaf inside alive links numbers more old-parent others is.node low is.disproved;
        several = is.several;
        left_is = old-left is.node low ∙ is.left_is;
        board_is = old-board is.node low ∙ is.board_is;
      }

  pub game-grown : is_settled (numbers_at g.tree.numbers 0) ≡ false → IsAlive g.tree leaf → IsGameTree Grown
  game-grown root_open alive = record {
    moves = length-append g.moves ps ∙ (let a = game.moves in let b = long.sized in omega (arith, a, b, points));
    left = length-append g.left ns ∙ (let a = game.left in let b = long.sized in omega (arith, a, b, lefts));
    lawful = game.lawful;
    on = λ i positive low. elim (split i low) [
      | inl old ↦
          let up = ok.linked.parent_first i positive old in
          ap (λ (k : ℕ). outcome g.rule (board_of links (g.moves ++ ps) g.start k) (move_at (g.moves ++ ps) i)) (old-parent i old)
          ∙ ap (λ (c : Grid). outcome g.rule c (move_at (g.moves ++ ps) i))
          (old-board (link_at g.tree.links i).parent (omega (arith, up, old)))
          ∙ ap (outcome g.rule (board_at g (link_at g.tree.links i).parent)) (old-move i old)
          ∙ game.on i positive old
      | inr child ↦
          ap (λ (m : ℕ). outcome g.rule (board_of links (g.moves ++ ps) g.start (link_at links m).parent) (move_at (g.moves ++ ps) m))
          child.2
          ∙ ap (λ (k : ℕ). outcome g.rule (board_of links (g.moves ++ ps) g.start k)
          (move_at (g.moves ++ ps) (length g.tree.links + child.0))) (new-parent child.0 child.1)
          ∙ ap (λ (c : Grid). outcome g.rule c (move_at (g.moves ++ ps) (length g.tree.links + child.0))) (old-board leaf inside)
          ∙ ap (outcome g.rule (board_at g leaf)) (new-move child.0)
          ∙ (each child.0 child.1).on
    ];
    fewer = λ i positive low. elim (split i low) [
      | inl old ↦
          let up = ok.linked.parent_first i positive old in
          ap (λ (k : Kind). left_before k (left_at (g.left ++ ns) i)) (old-kind i old)
          ∙ ap (left_before (link_at g.tree.links i).kind) (old-left i old)
          ∙ game.fewer i positive old
          ∙ sym (old-left (link_at g.tree.links i).parent (omega (arith, up, old)))
          ∙ ap (left_at (g.left ++ ns)) (sym (old-parent i old))
      | inr child ↦
          ap (λ (m : ℕ). left_before (link_at links m).kind (left_at (g.left ++ ns) m)) child.2
          ∙ ap (λ (k : Kind). left_before k (left_at (g.left ++ ns) (length g.tree.links + child.0))) (new-kind child.0 child.1)
          ∙ ap (left_before (other_kind (link_at g.tree.links leaf).kind)) (new-left child.0)
          ∙ (each child.0 child.1).fewer
          ∙ sym (old-left leaf inside)
          ∙ ap (left_at (g.left ++ ns)) (sym (new-parent child.0 child.1))
          ∙ ap (λ (m : ℕ). left_at (g.left ++ ns) (link_at links m).parent) (sym child.2)
    ];
    inner = λ i low many. elim (split i low) [
      | inl old ↦ elim (cases_eq i leaf) [
        | inl e ↦
            subst (λ (k : ℕ). HasTried (link_at links k).kind g.rule (left_at (g.left ++ ns) k) (board_of links (g.moves ++ ps) g.start k)
            (moves_of (link_at links k) (g.moves ++ ps))) (sym e) leaf-tried
        | inr n ↦
            let same : link_at links i ≡ link_at g.tree.links i = long.others i old n in
            let before = game.inner i old (subst (λ (l : Link). 0 < l.count) same many) in
            tried-same (link_at links i).kind (link_at g.tree.links i).kind (left_at (g.left ++ ns) i) (left_at g.left i)
            (board_of links (g.moves ++ ps) g.start i) (board_at g i) (moves_of (link_at links i) (g.moves ++ ps))
            (moves_of (link_at g.tree.links i) g.moves)
            (ap (λ (l : Link). l.kind) same) (old-left i old) (old-board i old)
            (ap (λ (l : Link). moves_of l (g.moves ++ ps)) same ∙ old-moves_of i old) before
      ]
      | inr child ↦ absurd (let none : (link_at links i).count ≡ 0 =
          ap (λ (m : ℕ). (link_at links m).count) child.2
          ∙ ap (λ (l : Link). l.count) (long.leaves (length g.tree.links + child.0) (omega arith) (omega (arith, child.1))) in
          omega (arith, none, many))
    ];
    open_leaf = λ i low none not_settled. elim (split i low) [
      | inl old ↦ elim (cases_eq i leaf) [
        | inl e ↦ absurd (has-children i e none)
        | inr n ↦
            let same : link_at links i ≡ link_at g.tree.links i = long.others i old n in
            let before = game.open_leaf i old (ap (λ (l : Link). l.count) (sym same) ∙ none)
            (ap is_settled (sym (old-numbers i old none n)) ∙ not_settled) in
            grow-same (link_at links i).kind (link_at g.tree.links i).kind (left_at (g.left ++ ns) i) (left_at g.left i)
            (board_of links (g.moves ++ ps) g.start i) (board_at g i)
            (ap (λ (l : Link). l.kind) same) (old-left i old) (old-board i old) before
      ]
      | inr child ↦
          subst (λ (m : ℕ). CanGrow (link_at links m).kind g.rule (left_at (g.left ++ ns) m) (board_of links (g.moves ++ ps) g.start m))
          (sym child.2)
          (grow-same _ _ _ _ _ _ (new-kind child.0 child.1) (new-left child.0) (new-board child.0 child.1)
          ((each child.0 child.1).grows
          (ap is_settled (sym (children child.0 child.1)) ∙ ap (λ (m : ℕ). is_settled (numbers_at numbers m)) (sym child.2)
          ∙ not_settled)))
    ];
    leaf = λ i low none. elim (split i low) [
      | inl old ↦ elim (cases_eq i leaf) [
        | inl e ↦ absurd (has-children i e none)
        | inr n ↦
            let same : link_at links i ≡ link_at g.tree.links i = long.others i old n in
            tell-same _ _ _ _ _ _ _ _ (ap (λ (l : Link). l.kind) same) (old-left i old) (old-board i old) (old-numbers i old none n)
            (game.leaf i old (ap (λ (l : Link). l.count) (sym same) ∙ none))
      ]
      | inr child ↦
          subst (λ (m : ℕ). TellsTruly (numbers_at numbers m)
          (WinsAt (link_at links m).kind g.rule (left_at (g.left ++ ns) m) (board_of links (g.moves ++ ps) g.start m))) (sym child.2)
          (tell-same _ _ _ _ _ _ _ _ (new-kind child.0 child.1) (new-left child.0) (new-board child.0 child.1) (children child.0 child.1)
          (each child.0 child.1).tells)
    ];
    lost = λ i low none gone. elim (split i low) [
      | inl old ↦ elim (cases_eq i leaf) [
        | inl e ↦ absurd (has-children i e none)
        | inr n ↦
            let same : link_at links i ≡ link_at g.tree.links i = long.others i old n in
            let before = game.lost i old (ap (λ (l : Link). l.count) (sym same) ∙ none) (sym (old-numbers i old none n) ∙ gone) in
            lost-same (link_at links i).kind (link_at g.tree.links i).kind (left_at (g.left ++ ns) i) (left_at g.left i)
            (board_of links (g.moves ++ ps) g.start i) (board_at g i)
            (ap (λ (l : Link). l.kind) same) (old-left i old) (old-board i old)
            (lost-kept g Grown refl (disproved-grown alive) (link_at g.tree.links i).kind (left_at g.left i) (board_at g i)
            before)
      ]
      | inr child ↦ absurd ((each child.0 child.1).not_lost
          (sym (children child.0 child.1) ∙ ap (λ (m : ℕ). numbers_at numbers m) (sym child.2) ∙ gone))
    ];
    root = λ none gone. elim (cases_eq 0 leaf) [
      | inl same ↦ absurd (has-children 0 same none)
      | inr other ↦ absurd (
          let bad : false ≡ true = sym root_open ∙ ap is_settled (sym (old-numbers 0 ok.linked.some none other) ∙ gone) in cc)
    ];
  } where
    lost-same : (k k2 : Kind) (n n2 : ℕ) (c c2 : Grid) → k ≡ k2 → n ≡ n2 → c ≡ c2 → IsLostAt k2 Grown n2 c2 → IsLostAt k Grown n c
    lost-same k k2 n n2 c c2 ek en ec h =
        subst (λ (x : Kind). IsLostAt x Grown n c) (sym ek)
        (subst (λ (m : ℕ). IsLostAt k2 Grown m c) (sym en) (subst (IsLostAt k2 Grown n2) (sym ec) h))

    tried-same : (k k2 : Kind) (n n2 : ℕ) (c c2 : Grid) (ms ms2 : List Point) → k ≡ k2 → n ≡ n2 → c ≡ c2 → ms ≡ ms2
        → HasTried k2 g.rule n2 c2 ms2 → HasTried k g.rule n c ms
    tried-same k k2 n n2 c c2 ms ms2 ek en ec em h = rw (ek, en, ec, em) h

    grow-same : (k k2 : Kind) (n n2 : ℕ) (c c2 : Grid) → k ≡ k2 → n ≡ n2 → c ≡ c2 → CanGrow k2 g.rule n2 c2 → CanGrow k g.rule n c
    grow-same k k2 n n2 c c2 ek en ec h = rw (ek, en, ec) h

    tell-same : (k k2 : Kind) (n n2 : ℕ) (c c2 : Grid) (m m2 : Numbers) → k ≡ k2 → n ≡ n2 → c ≡ c2 → m ≡ m2
        → TellsTruly m2 (WinsAt k2 g.rule n2 c2) → TellsTruly m (WinsAt k g.rule n c)
    tell-same k k2 n n2 c c2 m m2 ek en ec em h = rw (ek, en, ec, em) h

    leaf-tried : HasTried (link_at links leaf).kind g.rule (left_at (g.left ++ ns) leaf) (board_of links (g.moves ++ ps) g.start leaf)
        (moves_of (link_at links leaf) (g.moves ++ ps))
    leaf-tried =
        tried-same (link_at links leaf).kind (link_at g.tree.links leaf).kind (left_at (g.left ++ ns) leaf) (left_at g.left leaf)
        (board_of links (g.moves ++ ps) g.start leaf) (board_at g leaf) (moves_of (link_at links leaf) (g.moves ++ ps)) ps
        (old-kind leaf inside) (old-left leaf inside) (old-board leaf inside) grown-moves tried

  -- ---- counts

  -- what is counted behind child j, if it is open
  pub child-behind : (Kind → RuleKind → ℕ → Grid → ℕ) → ℕ → ℕ
  child-behind f j = cond (not (is_settled (numbers_at more j)))
      (f (other_kind (link_at g.tree.links leaf).kind) g.rule (left_at ns j) (after (board_at g leaf) (move_at ps j))) 0

  pub child-counts : (f : Kind → RuleKind → ℕ → Grid → ℕ) (j : ℕ)
      → child-behind f j ≡ cond (not (is_settled (numbers_at more j)))
      (f (other_kind (link_at g.tree.links leaf).kind) g.rule (left_at ns j) (after (board_at g leaf) (move_at ps j))) 0
  unfolding child-behind
  child-counts f j = refl

  behind-old : (f : Kind → RuleKind → ℕ → Grid → ℕ) (i : ℕ) → i < length g.tree.links → i ≢ leaf
      → behind_at f Grown i ≡ behind_at f g i
  behind-old f i low other = by_count (cases_eq (link_at g.tree.links i).count 0) where
    same : link_at links i ≡ link_at g.tree.links i
    same = long.others i low other

    value : f (link_at links i).kind g.rule (left_at (g.left ++ ns) i) (board_of links (g.moves ++ ps) g.start i) ≡ f
        (link_at g.tree.links i).kind g.rule (left_at g.left i) (board_at g i)
    value =
        ap (λ (k : Kind). f k g.rule (left_at (g.left ++ ns) i) (board_of links (g.moves ++ ps) g.start i)) (ap (λ (l : Link). l.kind) same)
        ∙ ap (λ (n : ℕ). f (link_at g.tree.links i).kind g.rule n (board_of links (g.moves ++ ps) g.start i)) (old-left i low)
        ∙ ap (f (link_at g.tree.links i).kind g.rule (left_at g.left i)) (old-board i low)

    by_count : ((link_at g.tree.links i).count ≡ 0) ⊎ ((link_at g.tree.links i).count ≡ 0 → ⊥)
        → behind_at f Grown i ≡ behind_at f g i
    by_count (inl none) =
        ap (λ (l : Link). cond (nat_eq l.count 0 && not (is_settled (numbers_at numbers i)))
        (f (link_at links i).kind g.rule (left_at (g.left ++ ns) i) (board_of links (g.moves ++ ps) g.start i)) 0) same
        ∙ ap (λ (m : Numbers). cond (nat_eq (link_at g.tree.links i).count 0 && not (is_settled m))
        (f (link_at links i).kind g.rule (left_at (g.left ++ ns) i) (board_of links (g.moves ++ ps) g.start i)) 0)
        (old-numbers i low (ap (λ (l : Link). l.count) same ∙ none) other)
        ∙ ap (λ (m : ℕ). cond (nat_eq (link_at g.tree.links i).count 0 && not (is_settled (numbers_at g.tree.numbers i))) m 0) value
    by_count (inr many) =
        let shut : nat_eq (link_at g.tree.links i).count 0 ≡ false = ne_eqb (link_at g.tree.links i).count 0 many in
        ap (λ (l : Link). cond (nat_eq l.count 0 && not (is_settled (numbers_at numbers i)))
        (f (link_at links i).kind g.rule (left_at (g.left ++ ns) i) (board_of links (g.moves ++ ps) g.start i)) 0) same
        ∙ ap (λ r. cond (r && not (is_settled (numbers_at numbers i)))
        (f (link_at links i).kind g.rule (left_at (g.left ++ ns) i) (board_of links (g.moves ++ ps) g.start i)) 0) shut
        ∙ sym (ap (λ r. cond (r && not (is_settled (numbers_at g.tree.numbers i)))
        (f (link_at g.tree.links i).kind g.rule (left_at g.left i) (board_at g i)) 0) shut)

  leaf-inner : nat_eq (link_at links leaf).count 0 ≡ false
  leaf-inner = ne_eqb (link_at links leaf).count 0 (λ e. has-children leaf refl e)

  behind-leaf : (f : Kind → RuleKind → ℕ → Grid → ℕ)
      → behind_at f Grown leaf ≡ 0
  behind-leaf f = search (rules, leaf-inner)

  behind-new : (f : Kind → RuleKind → ℕ → Grid → ℕ) (j : ℕ) → j < length more
      → behind_at f Grown (length g.tree.links + j) ≡ child-behind f j
  unfolding child-behind
  behind-new f j low =
      let m : ℕ = length g.tree.links + j in
      let leaf_count : nat_eq (link_at links m).count 0 ≡ true =
      eq-eqb (link_at links m).count 0
      (ap (λ (l : Link). l.count) (long.leaves (length g.tree.links + j) (omega arith) (omega (arith, low)))) in
      ap (λ r. cond (r && not (is_settled (numbers_at numbers m)))
      (f (link_at links m).kind g.rule (left_at (g.left ++ ns) m) (board_of links (g.moves ++ ps) g.start m)) 0) leaf_count
      ∙ ap (λ (n : Numbers). cond (not (is_settled n))
      (f (link_at links m).kind g.rule (left_at (g.left ++ ns) m) (board_of links (g.moves ++ ps) g.start m)) 0) (children j low)
      ∙ ap (λ (k : Kind). cond (not (is_settled (numbers_at more j)))
      (f k g.rule (left_at (g.left ++ ns) m) (board_of links (g.moves ++ ps) g.start m)) 0) (new-kind j low)
      ∙ ap (λ (n : ℕ). cond (not (is_settled (numbers_at more j)))
      (f (other_kind (link_at g.tree.links leaf).kind) g.rule n (board_of links (g.moves ++ ps) g.start m)) 0) (new-left j)
      ∙ ap (λ (b : Grid). cond (not (is_settled (numbers_at more j)))
      (f (other_kind (link_at g.tree.links leaf).kind) g.rule (left_at ns j) b) 0) (new-board j low)

  -- the leaf counts no longer, and its children do
  pub behind-grown : (f : Kind → RuleKind → ℕ → Grid → ℕ)
      → behind_leaves f Grown + behind_at f g leaf ≤ behind_leaves f g + sum_below (length more) (child-behind f)
  behind-grown f =
      let after_it : GameTree = Grown in
      let parts = ap (λ (n : ℕ). sum_below n (behind_at f after_it)) long.sized
      ∙ sum-more (length g.tree.links) (length more) (behind_at f after_it) in
      let old = sum-less (length g.tree.links) (behind_at f after_it) (behind_at f g) leaf (behind_at f g leaf) inside
      (λ j low other. let e = behind-old f j low other in omega (arith, e)) (let e = behind-leaf f in omega (arith, e)) in
      let fresh = sum-le (length more) (λ j. behind_at f after_it (length g.tree.links + j)) (child-behind f)
      (λ j low. let e = behind-new f j low in omega (arith, e)) in
      omega (arith, parts, old, fresh)

  -- one node more is closed
  pub closed-grown : closed_nodes g.tree + 1 ≤ closed_nodes (record { links = links; numbers = numbers })
  closed-grown =
      let u : Tree = record { links = links; numbers = numbers } in
      let parts : closed_nodes u ≡ sum_below (length g.tree.links) (λ i. one_unless (is_open_leaf u i)) + sum_below (length more)
      (λ j. one_unless (is_open_leaf u (length g.tree.links + j))) =
      ap (λ (n : ℕ). sum_below n (λ i. one_unless (is_open_leaf u i))) long.sized
      ∙ sum-more (length g.tree.links) (length more) (λ i. one_unless (is_open_leaf u i)) in
      let old = sum-less (length g.tree.links) (λ i. one_unless (is_open_leaf g.tree i)) (λ i. one_unless (is_open_leaf u i)) leaf 1 inside
      (λ j low other. let e = closed-old j low other in omega (arith, e))
      (let a = leaf-before in let b = leaf-after in omega (arith, a, b)) in
      omega (arith, parts, old) where
        closed-old : (i : ℕ) → i < length g.tree.links → i ≢ leaf
            → one_unless (is_open_leaf g.tree i) ≡ one_unless (is_open_leaf (record { links = links; numbers = numbers }) i)
        closed-old i low other = by_count (cases_eq (link_at g.tree.links i).count 0) where
          same : link_at links i ≡ link_at g.tree.links i
          same = long.others i low other

          by_count : ((link_at g.tree.links i).count ≡ 0) ⊎ ((link_at g.tree.links i).count ≡ 0 → ⊥)
              → one_unless (is_open_leaf g.tree i) ≡ one_unless (is_open_leaf (record { links = links; numbers = numbers }) i)
          by_count (inl none) = sym (
              ap (λ (l : Link). one_unless (nat_eq l.count 0 && not (is_settled (numbers_at numbers i)))) same
              ∙ ap (λ (m : Numbers). one_unless (nat_eq (link_at g.tree.links i).count 0 && not (is_settled m)))
              (old-numbers i low (ap (λ (l : Link). l.count) same ∙ none) other))
          by_count (inr many) =
              let shut : nat_eq (link_at g.tree.links i).count 0 ≡ false = ne_eqb (link_at g.tree.links i).count 0 many in
              ap (λ r. one_unless (r && not (is_settled (numbers_at g.tree.numbers i)))) shut
              ∙ sym (ap (λ (l : Link). one_unless (nat_eq l.count 0 && not (is_settled (numbers_at numbers i)))) same
              ∙ ap (λ r. one_unless (r && not (is_settled (numbers_at numbers i)))) shut)

        leaf-before : one_unless (is_open_leaf g.tree leaf) ≡ 0
        leaf-before =
            ap (λ r. one_unless (r && not (is_settled (numbers_at g.tree.numbers leaf))))
            (eq-eqb (link_at g.tree.links leaf).count 0 childless)
            ∙ ap (λ r. one_unless (not r)) unsettled

        leaf-after : one_unless (is_open_leaf (record { links = links; numbers = numbers }) leaf) ≡ 1
        leaf-after = ap (λ r. one_unless (r && not (is_settled (numbers_at numbers leaf)))) leaf-inner
