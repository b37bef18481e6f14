-- A leaf is given other numbers: what is settled stays so, and all that holds of a search holds on.
use Rattle.std.proofs.Common.{◌≡◌, inr, ℕ, ◌+◌, ◌-◌, ◌<◌, ◌≤◌, true, false, cond, not, ◌&&◌, nat_eq, refl, sym, ap, ◌∙◌, arith, List}
use Rattle.std.proofs.Common.{Bool, length, min, set}
use Rattle.proof_number.proofs.Common.{AreWritten, GameTree, Grid, HasFollowed, HasSpare, IsCounted, IsDisproved, IsGameTree}
use Rattle.proof_number.proofs.Common.{IsSearching, IsTree, Kind, Node, Note, Numbers, OthersStay, RuleKind, Search, Searches, Tree}
use Rattle.proof_number.proofs.Common.{attacks_behind}
use Rattle.proof_number.proofs.Common.{behind_at, behind_leaves, closed_nodes, defences_behind, game_of, is_open_leaf, is_settled}
use Rattle.proof_number.proofs.Common.{known_searching}
use Rattle.proof_number.proofs.Common.{board_at, left_at, link_at, numbers_at, settled_numbers, sum_below, unproved, wins_behind}
use Rattle.proof_number.proofs.Common.{Attack, Defend, IsOpenLeaf, IsOther, leaf_sum}
use Rattle.proof_tree.specs.declared.TheConstants.{INFINITE}
use Rattle.proof_tree.proofs.Changed.{settled-nothing}
use Rattle.proof_tree.proofs.Common.{AreNumbers, IsOpen, finite, sought}
use Rattle.proof_tree.proofs.OpenWays.{alive-open}
use Rattle.proof_tree.proofs.SumLaws.{leaf_sum-moved}
use Rattle.proof_number.proofs.Sparing.{open-finite}
use Rattle.proof_tree.proofs.Renumbered.{alive-stays, proved-same, same-settled, settled-back, settled-forth}
use Rattle.proof_number.proofs.Opening.{searching-facts}
use Rattle.proof_number.proofs.Remembering.{lost-kept, memo-kept}
use Rattle.proof_number.proofs.Settling.{one_unless, unproved-less}
use Rattle.proof_number.proofs.Sums.{sum-le, sum-same}

module _ (g : GameTree) (numbers : List Numbers) (leaf : ℕ) (ok : IsTree g.tree)
    (now : IsTree (record { links = g.tree.links; numbers = numbers })) (inside : leaf < length g.tree.links)
    (others : OthersStay g.tree.links leaf g.tree.numbers numbers) (was : IsOpen (numbers_at g.tree.numbers leaf))
    (is : IsOpen (numbers_at numbers leaf)) where
  -- the game with the other numbers
  abbrev After : GameTree
  After = record g { tree = record { links = g.tree.links; numbers = numbers } }

  same : (i : ℕ) → i < length g.tree.links → is_settled (numbers_at numbers i) ≡ is_settled (numbers_at g.tree.numbers i)
  same = same-settled g.tree numbers leaf ok now inside others was is

  back : (p : Bool) (i : ℕ) → i < length g.tree.links → numbers_at numbers i ≡ settled_numbers p
      → numbers_at g.tree.numbers i ≡ settled_numbers p
  back = settled-back g.tree numbers leaf ok now inside others was is

  disproved-followed : (n : ℕ) (b : Grid) → IsDisproved g n b → IsDisproved After n b
  disproved-followed n b is_lost = record {
    node = is_lost.node;
    inside = is_lost.inside;
    attack = is_lost.attack;
    disproved = settled-forth g.tree numbers leaf ok now inside others was is false is_lost.node is_lost.inside is_lost.disproved;
    several = is_lost.several;
    left_is = is_lost.left_is;
    board_is = is_lost.board_is;
  }

  game-followed : IsGameTree g → IsGameTree After
  game-followed game = record {
    moves = game.moves;
    left = game.left;
    lawful = game.lawful;
    on = game.on;
    fewer = game.fewer;
    inner = game.inner;
    open_leaf = λ i low none unsettled. game.open_leaf i low none (sym (same i low) ∙ unsettled);
    leaf = λ i low none. record {
      proved = λ e. (game.leaf i low none).proved (back true i low e);
      disproved = λ e. (game.leaf i low none).disproved (back false i low e);
    };
    lost = λ i low none gone. lost-kept g After refl disproved-followed _ _ _ (game.lost i low none (back false i low gone));
    root = λ none gone. game.root none (back false 0 ok.linked.some gone);
  }

  written-followed : (notes : List Note) (c : List Node) (way : ℕ → Type 0) → AreWritten g notes c way → AreWritten After notes c way
  written-followed notes c way written = record {
    true_wins = written.true_wins;
    fresh = λ i low none unsettled. written.fresh i low none (sym (same i low) ∙ unsettled);
    leaves = λ i low none attack proved. written.leaves i low none attack (back true i low proved);
    defends = λ i low none defend proved. written.defends i low none defend (back true i low proved);
    all = λ i low attack proved beside. written.all i low attack (back true i low proved) beside;
    met = λ i low defend some q on none. let met = written.met i low defend some q on none in record { some = met.some; win = met.win };
  }

  behind-same : (f : Kind → RuleKind → ℕ → Grid → ℕ) → behind_leaves f After ≡ behind_leaves f g
  behind-same f = sum-same (length g.tree.links) (behind_at f After) (behind_at f g)
      (λ i low. ap (λ r. cond (nat_eq (link_at g.tree.links i).count 0 && not r)
      (f (link_at g.tree.links i).kind g.rule (left_at g.left i) (board_at g i)) 0) (same i low))

  closed-same : closed_nodes After.tree ≡ closed_nodes g.tree
  closed-same = sum-same (length g.tree.links) (λ i. one_unless (is_open_leaf After.tree i)) (λ i. one_unless (is_open_leaf g.tree i))
      (λ i low. ap (λ r. one_unless (nat_eq (link_at g.tree.links i).count 0 && not r)) (same i low))

  unproved-followed : sum_below (length g.tree.links) (unproved After.tree) ≤ sum_below (length g.tree.links) (unproved g.tree)
  unproved-followed = sum-le (length g.tree.links) (unproved After.tree) (unproved g.tree)
      (λ i low. unproved-less g.tree After.tree i refl (proved-same g.tree numbers leaf ok now inside others was is i low))

  counted-followed : (budget attacked defended : ℕ) (spare : Numbers) → HasSpare After.tree spare → IsCounted g budget attacked defended
      → IsCounted After budget attacked defended
  counted-followed budget attacked defended spare room counted = record {
    attacks = let a = counted.attacks in let b = behind-same attacks_behind in omega (arith, a, b);
    defences = let a = counted.defences in let b = behind-same defences_behind in omega (arith, a, b);
    attackers = counted.attackers;
    few_attacks = let a = counted.few_attacks in let b = unproved-followed in omega (arith, a, b);
    defenders = counted.defenders;
    attacked_fits = counted.attacked_fits;
    defended_fits = counted.defended_fits;
    leaves = λ kind many. let fits = room.leaves kind many in omega (arith, fits);
  }

module _ {rule : RuleKind} {s : Search} {t : Tree} {c : List Node} (searches : Searches rule s t c (λ i. ⊥)) (u : Tree) (leaf : ℕ)
    (links : u.links ≡ t.links) (tree : IsTree u) (inside : leaf < length t.links) (others : OthersStay t.links leaf t.numbers u.numbers)
    (was : IsOpen (numbers_at t.numbers leaf)) (is : IsOpen (numbers_at u.numbers leaf)) (v : Search)
    (rest : v ≡ record s { spare = v.spare })
    (room : HasSpare u v.spare) where
  h : IsSearching rule s t c (λ i. ⊥)
  h = searching-facts searches

  same-tree : u ≡ record { links = t.links; numbers = u.numbers }
  same-tree = λ i. record { links = links i; numbers = u.numbers }

  tree-now : IsTree (record { links = t.links; numbers = u.numbers })
  tree-now = rw same-tree at tree

  searching-now : IsSearching rule (record s { spare = v.spare }) (record { links = t.links; numbers = u.numbers }) c (λ i. ⊥)
  searching-now =
      let g : GameTree = game_of rule s t in
      record {
        tree = tree-now;
        game = game-followed g u.numbers leaf h.tree tree-now inside others was is h.game;
        depth = h.depth;
        depth_fits = h.depth_fits;
        budget_fits = h.budget_fits;
        written = written-followed g u.numbers leaf h.tree tree-now inside others was is s.notes.items c (λ i. ⊥) h.written;
        remembered = memo-kept g (game_of rule s (record { links = t.links; numbers = u.numbers })) refl
            (disproved-followed g u.numbers leaf h.tree tree-now inside others was is) rule c s.settled h.remembered;
        counted = counted-followed g u.numbers leaf h.tree tree-now inside others was is s.budget s.attacked s.defended v.spare
            (rw same-tree at room) h.counted;
        spare = rw same-tree at room;
        compiled = h.compiled;
        few = h.few;
        wins = let a = behind-same g u.numbers leaf h.tree tree-now inside others was is wins_behind in let b =
            h.wins in omega (arith, a, b);
      }

  pub has-followed : HasFollowed rule s v t u c
  has-followed = record {
    searching = known_searching (rw rest (rw same-tree searching-now));
    rest = rest;
    links = links;
    closed = rw same-tree (closed-same (game_of rule s t) u.numbers leaf h.tree tree-now inside others was is);
    alive = λ i low alive. rw same-tree (alive-stays t u.numbers leaf h.tree tree-now inside others was is i low alive);
  }

-- ---- the numbers that a leaf takes

-- what holds of both kinds
pub by_kind : (P : Kind → Type 0) → P Attack → P Defend → (kind : Kind) → P kind
by_kind P attack defend Attack = attack
by_kind P attack defend Defend = defend

module _ {rule : RuleKind} {s : Search} {t : Tree} {c : List Node} (searches : Searches rule s t c (λ i. ⊥)) (leaf node : ℕ)
    (there : IsOpenLeaf t leaf) (other : IsOther t leaf node) where
  k : IsSearching rule s t c (λ i. ⊥)
  k = searching-facts searches

  was : IsOpen (numbers_at t.numbers leaf)
  was = alive-open t k.tree leaf there.in_tree there.alive leaf (0, refl)

  theirs : IsOpen (numbers_at t.numbers node)
  theirs = alive-open t k.tree node other.in_tree other.alive node (0, refl)

  many : 1 < length t.links
  many = let some = other.below_root in let inside = there.in_tree in omega (arith, some, inside)

  -- another number in the leaf's place
  set-sum : (n : Numbers) (kind : Kind) → leaf_sum kind t.links (set t.numbers leaf n) + sought kind (numbers_at t.numbers leaf)
      ≡ leaf_sum kind t.links t.numbers + finite (sought kind n)
  set-sum n kind =
      let moved = leaf_sum-moved kind t.links t.numbers leaf n k.tree.numbered.count there.in_tree there.childless in
      let same = open-finite kind (numbers_at t.numbers leaf) was in
      omega (arith, moved, same)

  -- the leaf may have so much
  pub room-fits : (kind : Kind) → sought kind (numbers_at t.numbers leaf) + sought kind s.spare ≤ length t.links
  room-fits kind =
      let fits = k.spare.leaves kind many in
      let moved = set-sum (settled_numbers true) kind in
      let none = settled-nothing kind true in
      omega (arith, fits, moved, none)

  pub few-nodes : length t.links ≤ 20000000
  few-nodes =
      let a = k.counted.defenders in
      let b = k.counted.attackers in
      omega (arith, a, b, k.counted.attacked_fits, k.counted.defended_fits, k.budget_fits)

  module _ (found : Numbers) (is : (kind : Kind) → sought kind found
      ≡ min (sought kind (numbers_at t.numbers node)) (sought kind (numbers_at t.numbers leaf) + sought kind s.spare)) where
    found-open : IsOpen found
    found-open = record {
      proof_above = let e = is Attack in let a = was.proof_above in let b = theirs.proof_above in omega (arith, e, a, b);
      proof_below = let e = is Attack in let a = theirs.proof_below in omega (arith, e, a);
      disproof_above = let e = is Defend in let a = was.disproof_above in let b = theirs.disproof_above in omega (arith, e, a, b);
      disproof_below = let e = is Defend in let a = theirs.disproof_below in omega (arith, e, a);
    }

    pub found-numbers : AreNumbers found
    found-numbers = inr found-open

    found-sum : (kind : Kind) → leaf_sum kind t.links (set t.numbers leaf found) + sought kind (numbers_at t.numbers leaf)
        ≡ leaf_sum kind t.links t.numbers + sought kind found
    found-sum kind = let moved = set-sum found kind in let same = open-finite kind found found-open in omega (arith, moved, same)

    pub found-low : (kind : Kind) → sought kind found ≤ sought kind (numbers_at t.numbers leaf) + sought kind s.spare
    found-low kind = let e = is kind in omega (arith, e)

    pub found-sums : (kind : Kind) → leaf_sum kind t.links (set t.numbers leaf found) < INFINITE
    found-sums kind =
        let fits = k.spare.leaves kind many in
        let sum = found-sum kind in
        let low = found-low kind in
        let few = few-nodes in
        omega (arith, fits, sum, low, few)

    pub follows : (v : Search) → v ≡ record s { spare = v.spare }
        → ((kind : Kind) → sought kind v.spare ≡ sought kind (numbers_at t.numbers leaf) + sought kind s.spare - sought kind found)
        → (u : Tree) → u.links ≡ t.links → numbers_at u.numbers leaf ≡ found → OthersStay t.links leaf t.numbers u.numbers
        → ((kind : Kind) → leaf_sum kind u.links u.numbers ≤ leaf_sum kind t.links (set t.numbers leaf found)) → IsTree u
        → HasFollowed rule s v t u c
    follows v rest left u links numbers others leaves tree =
        has-followed searches u leaf links tree there.in_tree others was (rw numbers found-open) v rest (record {
          fits = λ kind. let low = room-fits kind in let e = left kind in let long = ap length links in omega (arith, low, e, long);
          leaves = λ kind more.
              let fits = k.spare.leaves kind many in
              let sum = found-sum kind in
              let less = leaves kind in
              let low = found-low kind in
              let e = left kind in
              let long = ap length links in
              omega (arith, fits, sum, less, low, e, long);
          lone = λ kind one unsettled. let long = ap length links in let several = many in absurd (omega (arith, one, long, several));
        })
