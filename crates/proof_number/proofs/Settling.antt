-- What becomes of a tree of the game, of what is written, and of the counts where a leaf is settled.
use Rattle.std.proofs.Common.{◌≡◌, ◌≢◌, ◌⊎◌, inl, inr, ℕ, ◌+◌, ◌<◌, ◌≤◌, Bool, true, false, cond, not}
use Rattle.std.proofs.Common.{◌&&◌, refl, sym, ap, subst, ◌∙◌, arith, List, ◌++◌, length, nat_eq, ◌*◌, rules}
use Rattle.std.proofs.lemmas.Bool.{cases_eq, eq-eqb, ne_eqb}
use Rattle.proof_number.proofs.Common.{RuleKind, Node, is_settled, settled_numbers, IsOnWayUp, IsTree, OthersStay, leaf_sum, link_at}
use Rattle.proof_number.proofs.Common.{IsAlive, numbers_at, Tree, Kind, Attack, Defend, Numbers, Note, note_at, win_of, GameTree}
use Rattle.proof_number.proofs.Common.{IsGameTree, TellsTruly, WinsAt, board_at, left_at, AreWritten, IsNotedWin, IsDisproved, IsLostAt}
use Rattle.proof_number.proofs.Common.{IsCounted, attacks_behind, behind_at, behind_leaves, closed_nodes, is_open_leaf, is_attack}
use Rattle.proof_number.proofs.Common.{sum_below, unproved, unwritten, IsBare, Grid, after, NamesLower}
use Rattle.strategy_compiler.proofs.Growing.{growth_keeps-wins}
use Rattle.proof_tree.proofs.Settled.{leaf-beside, settled-test}
use Rattle.proof_number.proofs.Remembering.{lost-kept}
use Rattle.proof_number.proofs.Staying.{beside-proved, settled-stays}
use Rattle.proof_number.proofs.Sums.{sum-less}
use Rattle.threat_game.proofs.TreeLaws.{one_where}

-- ---- the way up

-- 0 for yes, and 1 for no
abbrev pub one_unless : Bool → ℕ
one_unless r = cond r 0 1

-- where a node of the attacker gets its win, what is said of those without one is less by what is said of it
pub unwritten-less : (f : ℕ → ℕ) (t : Tree) (notes more : List Note) (node : ℕ) → node < length t.links
    → (link_at t.links node).kind ≡ Attack → (note_at notes node).moves ≡ 0 → 0 < (note_at more node).moves
    → ((i : ℕ) → i ≢ node → note_at more i ≡ note_at notes i)
    → sum_below (length t.links) (unwritten f t more) + f node ≤ sum_below (length t.links) (unwritten f t notes)
unwritten-less f t notes more node inside attack none some same =
    sum-less (length t.links) (unwritten f t more) (unwritten f t notes) node (f node) inside
    (λ j low other. let e = ap (λ (n : Note). cond (is_attack (link_at t.links j).kind && nat_eq n.moves 0) (f j) 0) (same j other) in
    omega (arith, e))
    (let a = now in let b = was in omega (arith, a, b)) where
      now : unwritten f t more node ≡ 0
      now =
          ap (λ (k : Kind). cond (is_attack k && nat_eq (note_at more node).moves 0) (f node) 0) attack
          ∙ ap (λ r. cond r (f node) 0) (ne_eqb (note_at more node).moves 0 (λ e. omega (arith, e, some)))

      was : unwritten f t notes node ≡ f node
      was =
          ap (λ (k : Kind). cond (is_attack k && nat_eq (note_at notes node).moves 0) (f node) 0) attack
          ∙ ap (λ r. cond r (f node) 0) (eq-eqb (note_at notes node).moves 0 none)

-- a node that is proved keeps its numbers: so no more are unproved
pub unproved-less : (t u : Tree) (i : ℕ) → (link_at u.links i).kind ≡ (link_at t.links i).kind
    → ((numbers_at t.numbers i).proof ≡ 0 → numbers_at u.numbers i ≡ numbers_at t.numbers i) → unproved u i ≤ unproved t i
unproved-less t u i kind stays = search (rules, cases_eq, one_where, ne_eqb)

-- ---- a leaf is settled

module _ (g : GameTree) (ok : IsTree g.tree) (numbers : List Numbers) (leaf : ℕ) (p : Bool)
    (inside : leaf < length g.tree.links) (childless : (link_at g.tree.links leaf).count ≡ 0)
    (unsettled : is_settled (numbers_at g.tree.numbers leaf) ≡ false)
    (here : numbers_at numbers leaf ≡ settled_numbers p) (others : OthersStay g.tree.links leaf g.tree.numbers numbers) where
  -- the game once the leaf is settled
  abbrev pub After : GameTree
  After = record g { tree = record { links = g.tree.links; numbers = numbers } }

  other-leaf : (j : ℕ) → (link_at g.tree.links j).count ≡ 0 → j ≢ leaf → numbers_at numbers j ≡ numbers_at g.tree.numbers j
  other-leaf j none other = others j (leaf-beside g.tree.links ok.linked leaf j inside none other)

  is-settled : is_settled (numbers_at numbers leaf) ≡ true
  is-settled = ap is_settled here ∙ settled-test p

  -- a node that is disproved stays so
  pub disproved-settled : IsAlive g.tree leaf → (n : ℕ) (b : Grid) → IsDisproved g n b → IsDisproved After n b
  disproved-settled alive n b is = search (rules, settled-stays)

  lost-test : (r : Bool) → settled_numbers r ≡ settled_numbers false → r ≡ false
  lost-test false e = refl
  lost-test true e = let bad : 0 ≡ 4294967295 = ap (λ (n : Numbers). n.proof) e in absurd (omega (arith, bad))

  pub game-settled : is_settled (numbers_at g.tree.numbers 0) ≡ false → IsAlive g.tree leaf → IsGameTree g
      → TellsTruly (settled_numbers p) (WinsAt (link_at g.tree.links leaf).kind g.rule (left_at g.left leaf) (board_at g leaf))
      → (p ≡ false → IsLostAt (link_at g.tree.links leaf).kind g (left_at g.left leaf) (board_at g leaf))
      → (p ≡ false → leaf ≡ 0 → IsBare g.rule (left_at g.left 0) g.start) → IsGameTree After
  game-settled root_open alive game truth why bare = record {
    moves = game.moves;
    left = game.left;
    lawful = game.lawful;
    on = game.on;
    fewer = game.fewer;
    inner = game.inner;
    open_leaf = λ i low none not_settled. elim (cases_eq i leaf) [
      | inl same ↦ let yes_settled : is_settled (numbers_at numbers i) ≡ true =
          ap (λ (k : ℕ). is_settled (numbers_at numbers k)) same ∙ is-settled in let bad : true ≡ false =
          sym yes_settled ∙ not_settled in cc
      | inr other ↦ game.open_leaf i low none (ap is_settled (sym (other-leaf i none other)) ∙ not_settled)
    ];
    leaf = λ i low none. elim (cases_eq i leaf) [
      | inl same ↦
          subst (λ (k : ℕ). TellsTruly (numbers_at numbers k)
          (WinsAt (link_at g.tree.links k).kind g.rule (left_at g.left k) (board_at g k))) (sym same)
          (rw here truth)
      | inr other ↦ subst (λ (n : Numbers). TellsTruly n (WinsAt (link_at g.tree.links i).kind g.rule (left_at g.left i) (board_at g i)))
          (sym (other-leaf i none other)) (game.leaf i low none)
    ];
    lost = λ i low none gone. elim (cases_eq i leaf) [
      | inl same ↦
          subst (λ (k : ℕ). IsLostAt (link_at g.tree.links k).kind After (left_at g.left k) (board_at g k)) (sym same)
          (lost-kept g After refl (disproved-settled alive) (link_at g.tree.links leaf).kind (left_at g.left leaf)
          (board_at g leaf) (why (lost-test p (sym here ∙ ap (numbers_at numbers) (sym same) ∙ gone))))
      | inr other ↦
          lost-kept g After refl (disproved-settled alive) (link_at g.tree.links i).kind (left_at g.left i) (board_at g i)
          (game.lost i low none (sym (other-leaf i none other) ∙ gone))
    ];
    root = λ none gone. elim (cases_eq 0 leaf) [
      | inl same ↦ bare (lost-test p (sym here ∙ ap (numbers_at numbers) (sym same) ∙ gone)) (sym same)
      | inr other ↦ absurd (let bad : false ≡ true = sym root_open ∙ ap is_settled (sym (other-leaf 0 none other) ∙ gone) in cc)
    ];
  }

  -- where the leaf is proved one node fewer is unproved
  pub unproved-settled : IsAlive g.tree leaf → (p ≡ true → (link_at g.tree.links leaf).kind ≡ Attack)
      → sum_below (length g.tree.links) (unproved After.tree) + one_where p ≤ sum_below (length g.tree.links) (unproved g.tree)
  unproved-settled alive attack =
      sum-less (length g.tree.links) (unproved After.tree) (unproved g.tree) leaf (one_where p) inside (λ j low other. stays j)
      (at-leaf p refl)
    where
      stays : (j : ℕ) → unproved After.tree j ≤ unproved g.tree j
      stays j = unproved-less g.tree After.tree j refl (λ none. others j (beside-proved g.tree ok leaf inside alive j none))

      at-leaf : (r : Bool) → p ≡ r → unproved After.tree leaf + one_where p ≤ unproved g.tree leaf
      at-leaf false e = let less = stays leaf in let zero_more = ap one_where e in omega (arith, less, zero_more)
      at-leaf true e =
          let one = ap one_where e in
          let now = ap (λ (k : Kind). one_where (is_attack k && not (nat_eq (numbers_at numbers leaf).proof 0))) (attack e)
          ∙ ap (λ (n : Numbers). one_where (not (nat_eq n.proof 0))) (here ∙ ap settled_numbers e) in
          let was : unproved g.tree leaf ≡ 1 =
          ap (λ (k : Kind). one_where (is_attack k && not (nat_eq (numbers_at g.tree.numbers leaf).proof 0))) (attack e)
          ∙ ap (λ r. one_where (not r)) (ne_eqb (numbers_at g.tree.numbers leaf).proof 0
          (λ none. beside-proved g.tree ok leaf inside alive leaf none (0, refl))) in
          omega (arith, one, now, was)

  pub written-settled : (notes more : List Note) (c : List Node) → AreWritten g notes c (λ i. ⊥)
      → ((i : ℕ) → i ≢ leaf → note_at more i ≡ note_at notes i)
      → (0 < (note_at more leaf).moves → IsNotedWin g.rule (left_at g.left leaf) (board_at g leaf) c (win_of (note_at more leaf)))
      → (p ≡ true → ((link_at g.tree.links leaf).kind ≡ Attack) × (0 < (note_at more leaf).moves))
      → AreWritten After more c (IsOnWayUp g.tree.links leaf)
  written-settled notes more c written same own has = record {
    true_wins = λ i low some. elim (cases_eq i leaf) [
      | inl e ↦ subst (λ (k : ℕ). IsNotedWin g.rule (left_at g.left k) (board_at g k) c (win_of (note_at more k))) (sym e)
          (own (subst (λ (k : ℕ). 0 < (note_at more k).moves) e some))
      | inr other ↦
          subst (λ (n : Note). IsNotedWin g.rule (left_at g.left i) (board_at g i) c (win_of n)) (sym (same i other))
          (written.true_wins i low (subst (λ (n : Note). 0 < n.moves) (same i other) some))
    ];
    fresh = λ i low none not_settled. elim (cases_eq i leaf) [
      | inl e ↦ let is : is_settled (numbers_at numbers i) ≡ true =
          ap (λ (k : ℕ). is_settled (numbers_at numbers k)) e ∙ is-settled in let bad : true ≡ false = sym is ∙ not_settled in cc
      | inr other ↦ ap (λ (n : Note). n.moves) (same i other)
          ∙ written.fresh i low none (ap is_settled (sym (other-leaf i none other)) ∙ not_settled)
    ];
    leaves = λ i low none attack proved. elim (cases_eq i leaf) [
      | inl e ↦
          subst (λ (k : ℕ). 0 < (note_at more k).moves) (sym e)
          (has (same-test p (sym here ∙ ap (numbers_at numbers) (sym e) ∙ proved))).1
      | inr other ↦ subst (λ (n : Note). 0 < n.moves) (sym (same i other))
          (written.leaves i low none attack (sym (other-leaf i none other) ∙ proved))
    ];
    defends = λ i low none defend proved. elim (cases_eq i leaf) [
      | inl e ↦ let attack = (has (same-test p (sym here ∙ ap (numbers_at numbers) (sym e) ∙ proved))).0 in let bad : Attack ≡ Defend =
          sym attack ∙ ap (λ (k : ℕ). (link_at g.tree.links k).kind) (sym e) ∙ defend in cc
      | inr other ↦ written.defends i low none defend (sym (other-leaf i none other) ∙ proved)
    ];
    all = λ i low attack proved beside.
        let other : i ≢ leaf = λ e. beside (0, sym e) in
        subst (λ (n : Note). 0 < n.moves) (sym (same i other)) (written.all i low attack (sym (others i beside) ∙ proved) (λ bad. bad));
    met = λ i low defend some q on none.
        let is = written.met i low defend some q on none in
        let first : ℕ = (link_at g.tree.links i).first in
        let other : first ≢ leaf = λ e.
        let nothing = ap (λ (k : ℕ). (note_at notes k).moves) e ∙ written.fresh leaf inside childless unsettled in
        let positive = is.some in
        omega (arith, nothing, positive) in
        record {
          some = subst (λ (n : Note). 0 < n.moves) (sym (same first other)) is.some;
          win = subst (λ (n : Note). IsNotedWin g.rule (left_at g.left i) (after (board_at g i) q) c (win_of n)) (sym (same first other))
              is.win;
        };
  } where
    same-test : (r : Bool) → settled_numbers r ≡ settled_numbers true → r ≡ true
    same-test true e = refl
    same-test false e = let bad : 0 ≡ 4294967295 = ap (λ (n : Numbers). n.disproof) e in absurd (omega (arith, bad))

  -- what is counted behind the leaf counts no longer
  behind-other : (f : Kind → RuleKind → ℕ → Grid → ℕ) (i : ℕ) → i ≢ leaf
      → behind_at f After i ≡ behind_at f g i
  behind-other f i other = by_count (cases_eq (link_at g.tree.links i).count 0) where
    by_count : ((link_at g.tree.links i).count ≡ 0) ⊎ ((link_at g.tree.links i).count ≡ 0 → ⊥)
        → behind_at f After i ≡ behind_at f g i
    by_count (inl none) = ap (λ (n : Numbers). cond (nat_eq (link_at g.tree.links i).count 0 && not (is_settled n))
        (f (link_at g.tree.links i).kind g.rule (left_at g.left i) (board_at g i)) 0) (other-leaf i none other)
    by_count (inr some) =
        let shut : nat_eq (link_at g.tree.links i).count 0 ≡ false = ne_eqb (link_at g.tree.links i).count 0 some in
        ap (λ r. cond (r && not (is_settled (numbers_at numbers i)))
        (f (link_at g.tree.links i).kind g.rule (left_at g.left i) (board_at g i)) 0) shut
        ∙ sym (ap (λ r. cond (r && not (is_settled (numbers_at g.tree.numbers i)))
        (f (link_at g.tree.links i).kind g.rule (left_at g.left i) (board_at g i)) 0) shut)

  behind-here : (f : Kind → RuleKind → ℕ → Grid → ℕ)
      → behind_at f After leaf ≡ 0
  behind-here f = search (rules, eq-eqb, is-settled)

  pub behind-before : (f : Kind → RuleKind → ℕ → Grid → ℕ)
      → behind_at f g leaf ≡ f (link_at g.tree.links leaf).kind g.rule (left_at g.left leaf) (board_at g leaf)
  behind-before f = search (rules, eq-eqb)

  pub behind-settled : (f : Kind → RuleKind → ℕ → Grid → ℕ)
      → behind_leaves f After + f (link_at g.tree.links leaf).kind g.rule (left_at g.left leaf) (board_at g leaf) ≤ behind_leaves f g
  behind-settled f =
      sum-less (length g.tree.links)
      (behind_at f After) (behind_at f g) leaf
      (f (link_at g.tree.links leaf).kind g.rule (left_at g.left leaf) (board_at g leaf)) inside
      (λ j low other. let e = behind-other f j other in omega (arith, e))
      (let a = behind-here f in let b = behind-before f in omega (arith, a, b))

  pub closed-settled : closed_nodes g.tree + 1 ≤ closed_nodes (record { links = g.tree.links; numbers = numbers })
  closed-settled =
      sum-less (length g.tree.links) (λ i. one_unless (is_open_leaf g.tree i))
      (λ i. one_unless (is_open_leaf (record { links = g.tree.links; numbers = numbers }) i)) leaf 1 inside
      (λ j low other. let e = closed-other j other in omega (arith, e))
      (let a = open-before in let b = closed-here in omega (arith, a, b)) where
        closed-other : (i : ℕ) → i ≢ leaf → one_unless (is_open_leaf g.tree i) ≡ one_unless
            (is_open_leaf (record { links = g.tree.links; numbers = numbers }) i)
        closed-other i other = by_count (cases_eq (link_at g.tree.links i).count 0) where
          by_count : ((link_at g.tree.links i).count ≡ 0) ⊎ ((link_at g.tree.links i).count ≡ 0 → ⊥)
              → one_unless (is_open_leaf g.tree i) ≡ one_unless (is_open_leaf (record { links = g.tree.links; numbers = numbers }) i)
          by_count (inl none) = sym
              (ap (λ (n : Numbers). one_unless (nat_eq (link_at g.tree.links i).count 0 && not (is_settled n))) (other-leaf i none other))
          by_count (inr some) =
              let shut : nat_eq (link_at g.tree.links i).count 0 ≡ false = ne_eqb (link_at g.tree.links i).count 0 some in
              ap (λ r. one_unless (r && not (is_settled (numbers_at g.tree.numbers i)))) shut
              ∙ sym (ap (λ r. one_unless (r && not (is_settled (numbers_at numbers i)))) shut)

        open-before : one_unless (is_open_leaf g.tree leaf) ≡ 0
        open-before =
            ap (λ r. one_unless (r && not (is_settled (numbers_at g.tree.numbers leaf))))
            (eq-eqb (link_at g.tree.links leaf).count 0 childless)
            ∙ ap (λ r. one_unless (not r)) unsettled

        closed-here : one_unless (is_open_leaf (record { links = g.tree.links; numbers = numbers }) leaf) ≡ 1
        closed-here =
            ap (λ r. one_unless (r && not (is_settled (numbers_at numbers leaf)))) (eq-eqb (link_at g.tree.links leaf).count 0 childless)
            ∙ ap (λ r. one_unless (not r)) is-settled

  pub counted-settled : (budget attacked defended more : ℕ) → IsCounted g budget attacked defended → attacked ≤ more → more ≤ budget
      → more ≤ attacked + attacks_behind (link_at g.tree.links leaf).kind g.rule (left_at g.left leaf) (board_at g leaf)
      → more + 2 * sum_below (length g.tree.links) (unproved After.tree) ≤ attacked + 2 * sum_below (length g.tree.links) (unproved g.tree)
      → ((kind : Kind) → leaf_sum kind g.tree.links numbers ≤ leaf_sum kind g.tree.links g.tree.numbers)
      → IsCounted After budget more defended
  counted-settled budget attacked defended more counted grows fits behind few sums = search (rules, behind-settled)

-- ---- the compiler grows

pub written-grown : (g : GameTree) (notes : List Note) (c more : List Node) (way : ℕ → Type 0) → NamesLower c → AreWritten g notes c way
    → AreWritten g notes (c ++ more) way
written-grown g notes c more way lower written = record {
  true_wins = λ i low some. let win = written.true_wins i low some in
      (growth_keeps-wins g.rule (left_at g.left i) (board_at g i) c more (win_of (note_at notes i)) lower win.0, win.1);
  fresh = written.fresh;
  leaves = written.leaves;
  defends = written.defends;
  all = written.all;
  met = λ i low defend some q on none.
      let is = written.met i low defend some q on none in
      record {
        some = is.some;
        win = (
          growth_keeps-wins g.rule (left_at g.left i) (after (board_at g i) q) c more
              (win_of (note_at notes (link_at g.tree.links i).first)) lower is.win.0,
          is.win.1,
        );
      };
}
