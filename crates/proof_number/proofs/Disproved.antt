-- In a tree that stands for a game each disproved node of the attacker is lost by disproved nodes. So they are a denial, where the root is
-- one of them.
use Rattle.std.proofs.Common.{◌≡◌, ◌∙◌, ◌⊎◌, inl, inr, ℕ, zero, suc, ◌-◌, ◌<◌, ◌≤◌, false, cond, refl}
use Rattle.std.proofs.Common.{sym, ap, subst, arith, List, [], ◌∷◌, ◌++◌, length, Contains, rules}
use Rattle.std.proofs.lemmas.Bool.{cases_eq, cases_lt}
use Rattle.std.proofs.lemmas.List.{length_push}
use Rattle.std.proofs.lemmas.List.Elements.{Contains-append_left, Contains-push, Contains-push_cases}
use Rattle.proof_number.proofs.Common.{Grid, after, Kind, Attack, Defend, Numbers, IsTree, children_of, combined}
use Rattle.proof_number.proofs.Common.{link_at, numbers_at, other_kind, settled_numbers, move_at, HasDenial, IsDenied, IsLost}
use Rattle.proof_number.proofs.Common.{IsRefuted, GameTree, HasTried, IsDisproved, IsGameTree, IsLostAt, attack_nodes, board_at}
use Rattle.proof_number.proofs.Common.{is_attack, left_at, left_before, moves_of, sum_below}
use Rattle.proof_tree.proofs.Settled.{settled-disproved}
use Rattle.proof_number.proofs.DenialLaws.{denied-more, lost-more}
use Rattle.proof_number.proofs.GameTruths.{all-tell, child-of, each-zero, fits, move-child, some-zero, tried-attack}
use Rattle.proof_number.proofs.Sums.{sum-suc}

module _ {g : GameTree} (ok : IsTree g.tree) (game : IsGameTree g) where
  -- a disproved node of the attacker denies it
  pub denied-node : (j : ℕ) → j < length g.tree.links → (link_at g.tree.links j).kind ≡ Attack
      → numbers_at g.tree.numbers j ≡ settled_numbers false → (n : ℕ) (b : Grid) → left_at g.left j ≡ n → board_at g j ≡ b
      → IsDenied g.rule (IsDisproved g) n b
  denied-node j inside attack lost n b left board = elim (cases_lt 2 n) [
    | inl several ↦ inl (record {
      node = j;
      inside = inside;
      attack = attack;
      disproved = lost;
      several = omega (arith, several);
      left_is = left;
      board_is = board;
    })
    | inr few ↦ inr (
      few,
      λ win. (all-tell ok game j inside).disproved lost
          (rw attack (rw left (rw board win))),
    )
  ]

  -- a disproved node of the defender refutes the move that leads to it
  refuted-at : (i : ℕ) → i < length g.tree.links → (link_at g.tree.links i).kind ≡ Defend
      → numbers_at g.tree.numbers i ≡ settled_numbers false
      → IsRefuted g.rule (IsDisproved g) (left_at g.left i) (board_at g i)
  refuted-at i inside defend lost = by_count (cases_eq (link_at g.tree.links i).count 0) where
    by_count : ((link_at g.tree.links i).count ≡ 0) ⊎ ((link_at g.tree.links i).count ≡ 0 → ⊥)
        → IsRefuted g.rule (IsDisproved g) (left_at g.left i) (board_at g i)
    by_count (inl none) = subst (λ (k : Kind). IsLostAt k g (left_at g.left i) (board_at g i)) defend (game.lost i inside none lost)
    by_count (inr more) =
        let some : 0 < (link_at g.tree.links i).count = omega (arith, more) in
        let own = ok.numbered.combined_at i inside some ∙ ap
        (λ (k : Kind). combined k (children_of (link_at g.tree.links i) g.tree.numbers)) defend in
        let nothing = ap (λ (n : Numbers). n.disproof) (sym own ∙ lost) in
        let child = some-zero ok game i inside (λ n. n.disproof) nothing in
        let c = child-of ok game i child.0 inside child.1 in
        let attack : (link_at g.tree.links child.0).kind ≡ Attack = c.kind ∙ ap other_kind defend in
        let same = ap (λ (k : Kind). left_before k (left_at g.left child.0)) (sym attack) ∙ c.fewer in
        let gone = settled-disproved (numbers_at g.tree.numbers child.0) (ok.numbered.each child.0 c.inside) child.2 in
        inr (inr (record {
          reply = move_at g.moves child.0;
          on = c.on;
          denied = denied-node child.0 c.inside attack gone (left_at g.left i) (after (board_at g i) (move_at g.moves child.0)) same
              c.board;
        }))

  -- a disproved node of the attacker is lost
  pub lost-at : (i : ℕ) → i < length g.tree.links → (link_at g.tree.links i).kind ≡ Attack
      → numbers_at g.tree.numbers i ≡ settled_numbers false → IsLostAt Attack g (left_at g.left i) (board_at g i)
  lost-at i inside attack lost several = by_count (cases_eq (link_at g.tree.links i).count 0) where
    by_count : ((link_at g.tree.links i).count ≡ 0) ⊎ ((link_at g.tree.links i).count ≡ 0 → ⊥)
        → IsLost g.rule (IsDisproved g) (left_at g.left i) (board_at g i)
    by_count (inl none) = subst (λ (k : Kind). IsLostAt k g (left_at g.left i) (board_at g i)) attack (game.lost i inside none lost) several
    by_count (inr more) =
        let some : 0 < (link_at g.tree.links i).count = omega (arith, more) in
        let own = ok.numbered.combined_at i inside some ∙ ap
        (λ (k : Kind). combined k (children_of (link_at g.tree.links i) g.tree.numbers)) attack in
        let nothing = ap (λ (n : Numbers). n.disproof) (sym own ∙ lost) in
        let tried = tried-attack g.rule (left_at g.left i) (board_at g i) (moves_of (link_at g.tree.links i) g.moves)
        (subst (λ (k : Kind). HasTried k g.rule (left_at g.left i) (board_at g i) (moves_of (link_at g.tree.links i) g.moves)) attack
        (game.inner i inside some)) in
        record {
          no_five = tried.2.no_five;
          refuted = λ p threat. elim (tried.2.others p threat) [
            | inl listed ↦
                let child = move-child (link_at g.tree.links i) g.moves p (fits ok game i inside) listed in
                let c = child-of ok game i child.0 inside child.1 in
                let defend : (link_at g.tree.links child.0).kind ≡ Defend = c.kind ∙ ap other_kind attack in
                let less = ap (λ (k : Kind). left_before k (left_at g.left child.0)) (sym defend) ∙ c.fewer in
                let same : left_at g.left child.0 ≡ left_at g.left i - 1 = omega (arith, less) in
                let there : board_at g child.0 ≡ after (board_at g i) p = c.board ∙ ap (after (board_at g i)) child.2 in
                let gone : numbers_at g.tree.numbers child.0 ≡ settled_numbers false =
                settled-disproved (numbers_at g.tree.numbers child.0) (ok.numbered.each child.0 c.inside)
                (each-zero ok game i inside (λ n. n.disproof) nothing child.0 child.1) in
                subst (λ (n : ℕ). IsRefuted g.rule (IsDisproved g) n (after (board_at g i) p)) same
                (subst (IsRefuted g.rule (IsDisproved g) (left_at g.left child.0)) there
                (refuted-at child.0 c.inside defend gone))
            | inr saved ↦ inl saved
          ];
        }

-- ---- the disproved nodes of the attacker, in a list

-- node i of the attacker is disproved, with three moves left or more
pub record IsListedNode (g : GameTree) (i : ℕ) : Type 0 where
  pub inside : i < length g.tree.links
  pub attack : (link_at g.tree.links i).kind ≡ Attack
  pub disproved : numbers_at g.tree.numbers i ≡ settled_numbers false
  pub several : 3 ≤ left_at g.left i

-- such nodes alone are listed, and those below m all are
pub record AreListed (g : GameTree) (m : ℕ) (listed : List (ℕ × Grid)) : Type 0 where
  pub true_of : (n : ℕ) (b : Grid) → Contains listed (n, b) → IsDisproved g n b
  pub all : (i : ℕ) → i < m → IsListedNode g i → Contains listed (left_at g.left i, board_at g i)
  pub few : length listed ≤ sum_below m (λ i. cond (is_attack (link_at g.tree.links i).kind) 1 0)

module _ (g : GameTree) (ok : IsTree g.tree) where
  by_kind : (i : ℕ) (k : Kind) → (link_at g.tree.links i).kind ≡ k → i < length g.tree.links
      → numbers_at g.tree.numbers i ≡ settled_numbers false → 3 ≤ left_at g.left i
      → IsListedNode g i ⊎ (IsListedNode g i → ⊥)
  by_kind i k e inside lost several = search rules

  decided : (i : ℕ) → IsListedNode g i ⊎ (IsListedNode g i → ⊥)
  decided i = elim (cases_lt i (length g.tree.links)) [
    | inr past ↦ inr (λ is. let low = is.inside in omega (arith, low, past))
    | inl inside ↦ elim (cases_eq (numbers_at g.tree.numbers i).disproof 0) [
      | inr some ↦ inr (λ is. some (ap (λ (n : Numbers). n.disproof) is.disproved))
      | inl none ↦ elim (cases_lt 2 (left_at g.left i)) [
        | inr few ↦ inr (λ is. let several = is.several in omega (arith, several, few))
        | inl several ↦ by_kind i (link_at g.tree.links i).kind refl inside
            (settled-disproved (numbers_at g.tree.numbers i) (ok.numbered.each i inside) none) (omega (arith, several))
      ]
    ]
  ]

  one-more : (m : ℕ) → (listed : List (ℕ × Grid)) → AreListed g m listed → IsListedNode g m ⊎ (IsListedNode g m → ⊥)
      → (more : List (ℕ × Grid)) × AreListed g (suc m) more
  one-more m listed are (inl is) =
      let x : ℕ × Grid = (left_at g.left m, board_at g m) in (
        listed ++ x ∷ [],
        record {
          true_of = λ n b has. elim (Contains-push_cases listed x (n, b) has) [
            | inl old ↦ are.true_of n b old
            | inr e ↦
                let same : left_at g.left m ≡ n = ap (λ (z : ℕ × Grid). z.0) e in
                record {
                  node = m;
                  inside = is.inside;
                  attack = is.attack;
                  disproved = is.disproved;
                  several = (let l = is.several in omega (arith, l, same));
                  left_is = same;
                  board_is = ap (λ (z : ℕ × Grid). z.1) e;
                }
          ];
          all = λ i low node. elim (cases_eq i m) [
            | inl same ↦ subst (λ (k : ℕ). Contains (listed ++ x ∷ []) (left_at g.left k, board_at g k)) (sym same)
                (Contains-push listed x)
            | inr other ↦ Contains-append_left listed (x ∷ []) (left_at g.left i, board_at g i)
                (are.all i (omega (arith, low, other)) node)
          ];
          few =
              let one : ◌≡◌ {A = ℕ} (cond (is_attack (link_at g.tree.links m).kind) 1 0) 1 =
              ap (λ (k : Kind). cond (is_attack k) 1 0) is.attack in
              let sum = sum-suc m (λ i. cond (is_attack (link_at g.tree.links i).kind) 1 0) in
              omega (arith, length_push listed x, are.few, sum, one);
        },
      )
  one-more m listed are (inr none) = (
    listed,
    record {
      true_of = are.true_of;
      all = λ i low node. elim (cases_eq i m) [
        | inl same ↦ absurd (none (rw same at node))
        | inr other ↦ are.all i (omega (arith, low, other)) node
      ];
      few = let sum = sum-suc m (λ i. cond (is_attack (link_at g.tree.links i).kind) 1 0) in omega (arith, are.few, sum);
    },
  )

  listed-below : (m : ℕ) → (listed : List (ℕ × Grid)) × AreListed g m listed
  listed-below zero = search rules
  listed-below (suc m) = let before = listed-below m in one-more m before.0 before.1 (decided m)

-- where the root is disproved there is a denial, with no more positions than the tree has nodes of the attacker
pub tree-denial : (g : GameTree) → IsTree g.tree → IsGameTree g → (n : ℕ) (b : Grid) → left_at g.left 0 ≡ n → board_at g 0 ≡ b
    → numbers_at g.tree.numbers 0 ≡ settled_numbers false → (most : ℕ) → attack_nodes g.tree.links ≤ most → HasDenial g.rule n b most
tree-denial g ok game n b left board lost most few =
    let found = listed-below g ok (length g.tree.links) in
    record {
      positions = found.0;
      lost = λ m c has.
          let is = found.1.true_of m c has in
          let node : IsLost g.rule (IsDisproved g) (left_at g.left is.node) (board_at g is.node) =
          lost-at ok game is.node is.inside is.attack is.disproved (let l = is.several in let e = is.left_is in omega (arith, l, e)) in
          lost-more g.rule (IsDisproved g) (λ k d. Contains found.0 (k, d)) (listed found.0 found.1) m c
          (subst (λ (k : ℕ). IsLost g.rule (IsDisproved g) k c) is.left_is
          (subst (IsLost g.rule (IsDisproved g) (left_at g.left is.node)) is.board_is node));
      denied = denied-more g.rule (IsDisproved g) (λ k d. Contains found.0 (k, d)) (listed found.0 found.1) n b
          (denied-node ok game 0 ok.linked.some ok.linked.root_attacks lost n b left board);
      few = let low = found.1.few in omega (arith, low, few);
    } where
      listed : (all : List (ℕ × Grid)) → AreListed g (length g.tree.links) all → (k : ℕ) (d : Grid) → IsDisproved g k d
          → Contains all (k, d)
      listed all are k d is =
          let inside = is.inside in
          subst (λ (e : Grid). Contains all (k, e)) is.board_is
          (subst (λ (m : ℕ). Contains all (m, board_at g is.node)) is.left_is
          (are.all is.node inside (record {
            inside = inside;
            attack = is.attack;
            disproved = is.disproved;
            several = (let l = is.several in let e = is.left_is in omega (arith, l, e));
          })))
