-- Where a depth looks at no more positions than the depth before, and neither has a win, no greater depth looks at more or has one.
use Rattle.std.proofs.Common.{◌≡◌, inl, inr, ℕ, zero, suc, ◌+◌, ◌-◌, ◌*◌, ◌≤◌, ◌<◌, Bool, true, false, cond}
use Rattle.std.proofs.Common.{refl, sym, ap, subst, ◌∙◌, arith, List, [], ◌∷◌, nat_le, sum_by}
use Rattle.std.specs.List.{list_any}
use Rattle.std.proofs.lemmas.Bool.{or_parts, cases_lt}
use Rattle.std.proofs.lemmas.Bool.Decides.{nat_tests}
use Rattle.game_rules.proofs.Common.{Grid, points_of, IsPosition, mover, after, has_five, starts_win, wins_by_fours}
use Rattle.game_rules.specs.declared.RuleKind.{RuleKind}
use Rattle.game_rules.specs.declared.Point.{Point}
use Rattle.game_rules.proofs.PointLists.{sums-less, sums-same}
use Rattle.game_rules.proofs.Tests.{le_from}
use Rattle.game_rules.proofs.Games.{five-wins, no-win}
use Rattle.threat_moves.specs.declared.block.BlockAnswer.{BlockAnswer}
use Rattle.threat_moves.specs.declared.block.BlockAnswer.TheVariants.{Lost, Won, Draw, One}
use Rattle.threat_moves.proofs.Common.{fate, is_four_move, block_wins}
use Rattle.threat_moves.proofs.BlockLaw.{block_decides}
use Rattle.threat_moves.proofs.Fates.{lawful-one}
use Rattle.four_search.specs.declared.search.Found.TheVariants.{NoWin}
use Rattle.four_search.specs.declared.answer.Sought.{Sought}
use Rattle.four_search.specs.declared.answer.Sought.TheVariants.{None, Spent}
use Rattle.four_search.proofs.Common.{IsSoughtOut, until, if_one, four_tree, four_cost, positions_behind, found_at}
use Rattle.four_search.proofs.Trying.{no_four, wins-is, tree-is, tree-some}
use Rattle.four_search.proofs.Deepening.{wins-more, spent_on, NoWinUpTo, cost-none, spent-more, found-no-win}

-- ---- sums over a list

until-all : (t : Point → Bool) (ps : List Point) → list_any t ps ≡ false → until t ps ≡ ps
until-all t [] h = refl
until-all t (p ∷ ps) h =
    let parts = or_parts (t p) (list_any t ps) h in
    let first : t p ≡ false = parts.0 in
    let rest : until t ps ≡ ps = until-all t ps parts.1 in
    rw (first, rest) refl

-- ---- positions behind a move, by the fate of its four

abbrev behind_of : RuleKind → ℕ → Grid → Point → ℕ
behind_of rule n b p = cond (is_four_move rule b p) (positions_behind rule n (after b p)) 0

abbrev starts : RuleKind → ℕ → Grid → Point → Bool
starts rule n b p = starts_win (has_five rule) rule b (wins_by_fours rule n) p

abbrev positions_as : RuleKind → ℕ → Grid → BlockAnswer → ℕ
positions_as rule zero c a = 0
positions_as rule (suc n) c a = if_one (four_tree rule (suc n)) c a

positions-are : (rule : RuleKind) (n : ℕ) (c : Grid) → positions_behind rule n c ≡ positions_as rule n c (fate rule c)
positions-are rule zero c = refl
positions-are rule (suc n) c = refl

lost-none : (rule : RuleKind) (n : ℕ) (c : Grid) → positions_as rule n c Lost ≡ 0
lost-none rule zero c = refl
lost-none rule (suc n) c = refl

draw-none : (rule : RuleKind) (n : ℕ) (c : Grid) (w : Point) → positions_as rule n c (Draw w) ≡ 0
draw-none rule zero c w = refl
draw-none rule (suc n) c w = refl

fewer-none : (rule : RuleKind) (n : ℕ) (b : Grid) → wins_by_fours rule (suc n) b ≡ false → wins_by_fours rule n b ≡ false
fewer-none rule n b h = by_test (wins_by_fours rule n b) refl where
  by_test : (r : Bool) → wins_by_fours rule n b ≡ r → r ≡ false
  by_test false e = refl
  by_test true e = let more : wins_by_fours rule (suc n) b ≡ true = wins-more rule n (suc n) b (omega arith) e in let bad : false ≡ true =
      sym h ∙ more in cc

no-five : (rule : RuleKind) (n : ℕ) (b : Grid) → wins_by_fours rule (suc n) b ≡ false → has_five rule b (mover b) ≡ false
no-five rule n b h = by_test (has_five rule b (mover b)) refl where
  by_test : (r : Bool) → has_five rule b (mover b) ≡ r → r ≡ false
  by_test false e = refl
  by_test true e = let bad : false ≡ true = sym h ∙ five-wins rule b n e in cc

-- without a win all moves are tried
tree-all : (rule : RuleKind) (n : ℕ) (b : Grid) → IsPosition rule b → wins_by_fours rule (suc n) b ≡ false
    → four_tree rule (suc n) b ≡ 1 + sum_by (behind_of rule n b) (points_of b)
tree-all rule n b lawful h =
    let none : has_five rule b (mover b) ≡ false = no-five rule n b h in
    let any : list_any (starts rule n b) (points_of b) ≡ false = sym (wins-is rule b lawful none n) ∙ h in
    tree-is rule b lawful none n ∙ ap (λ (ps : List Point). 1 + sum_by (behind_of rule n b) ps)
    (until-all (starts rule n b) (points_of b) any)

any-none : (rule : RuleKind) (n : ℕ) (b : Grid) → IsPosition rule b → wins_by_fours rule (suc n) b ≡ false
    → list_any (starts rule n b) (points_of b) ≡ false
any-none rule n b lawful h = sym (wins-is rule b lawful (no-five rule n b h) n) ∙ h

-- ---- more moves look at no fewer positions

-- behind each move there are no fewer
abbrev NoFewer : RuleKind → ℕ → Grid → Type 0
NoFewer rule n b = (p : Point) → starts rule (suc n) b p ≡ false → behind_of rule n b p ≤ behind_of rule (suc n) b p

no_fewer-zero : (rule : RuleKind) (b : Grid) → NoFewer rule zero b
no_fewer-zero rule b p h = by_test (is_four_move rule b p) where
  by_test : (r : Bool) → cond r (positions_behind rule zero (after b p)) 0 ≤ cond r (positions_behind rule (suc zero) (after b p)) 0
  by_test true = omega arith
  by_test false = omega arith

no_fewer-suc : (rule : RuleKind) (n : ℕ) (b : Grid) → IsPosition rule b
    → ((e : Grid) → IsPosition rule e → wins_by_fours rule (suc (suc n)) e ≡ false
    → four_tree rule (suc n) e ≤ four_tree rule (suc (suc n)) e) → NoFewer rule (suc n) b
no_fewer-suc rule n b lawful child p h = by_test (is_four_move rule b p) refl where
  by_fate : is_four_move rule b p ≡ true → (a : BlockAnswer) → a ≡ fate rule (after b p)
      → block_wins rule (suc (suc n)) (after b p) a ≡ false
      → if_one (four_tree rule (suc n)) (after b p) a ≤ if_one (four_tree rule (suc (suc n))) (after b p) a
  by_fate four (One w) e k = child (after (after b p) w) (lawful-one rule b p lawful four w e) k
  by_fate four _ e k = omega arith

  by_test : (r : Bool) → is_four_move rule b p ≡ r → cond r (positions_behind rule (suc n) (after b p)) 0 ≤ cond r
      (positions_behind rule (suc (suc n)) (after b p)) 0
  by_test true four = by_fate four (fate rule (after b p)) refl (sym (block_decides rule (suc (suc n)) b p lawful four) ∙ h)
  by_test false four = omega arith

tree-more_by : (rule : RuleKind) (n : ℕ) (b : Grid) → IsPosition rule b → wins_by_fours rule (suc (suc n)) b ≡ false → NoFewer rule n b
    → four_tree rule (suc n) b ≤ four_tree rule (suc (suc n)) b
tree-more_by rule n b lawful h less =
    let sums = sums-less (behind_of rule n b) (behind_of rule (suc n) b) (starts rule (suc n) b) less (points_of b)
    (any-none rule (suc n) b lawful h) in
    omega (arith, tree-all rule n b lawful (fewer-none rule (suc n) b h), tree-all rule (suc n) b lawful h, sums)

tree-more : (rule : RuleKind) (n : ℕ) (b : Grid) → IsPosition rule b → wins_by_fours rule (suc (suc n)) b ≡ false
    → four_tree rule (suc n) b ≤ four_tree rule (suc (suc n)) b
tree-more rule zero b lawful h = tree-more_by rule zero b lawful h (no_fewer-zero rule b)
tree-more rule (suc n) b lawful h = tree-more_by rule (suc n) b lawful h
    (no_fewer-suc rule n b lawful (λ e ok none. tree-more rule n e ok none))

no_fewer : (rule : RuleKind) (n : ℕ) (b : Grid) → IsPosition rule b → NoFewer rule n b
no_fewer rule zero b lawful = no_fewer-zero rule b
no_fewer rule (suc n) b lawful = no_fewer-suc rule n b lawful (λ e ok none. tree-more rule n e ok none)

-- ---- as many positions: no depth has more

-- with more moves there is no win, and as many positions
abbrev Settled : RuleKind → ℕ → Grid → Type 0
Settled rule n b = (m : ℕ) → n ≤ m → (wins_by_fours rule (suc m) b ≡ false) × (four_tree rule (suc m) b ≡ four_tree rule (suc n) b)

-- after the one block of a four that goes on
abbrev SettledOne : RuleKind → ℕ → Grid → Point → Type 0
SettledOne rule n c w =
    IsPosition rule (after c w) → (m : ℕ) → n ≤ m → wins_by_fours rule (suc n) (after c w) ≡ false
    → positions_as rule (suc n) c (One w) ≡ positions_as rule n c (One w)
    → (wins_by_fours rule m (after c w) ≡ false) × (positions_as rule m c (One w) ≡ positions_as rule n c (One w))

one-zero : (rule : RuleKind) (c : Grid) (w : Point) → SettledOne rule zero c w
one-zero rule c w lawful m l h e = let some = tree-some rule (suc zero) (after c w) in absurd (omega (arith, some, e))

one-suc : (rule : RuleKind) (n : ℕ) (c : Grid) (w : Point)
    → ((e : Grid) → IsPosition rule e → wins_by_fours rule (suc (suc n)) e ≡ false
    → four_tree rule (suc (suc n)) e ≡ four_tree rule (suc n) e → Settled rule n e) → SettledOne rule (suc n) c w
one-suc rule n c w child lawful zero l h e = absurd (omega arith)
one-suc rule n c w child lawful (suc m) l h e = child (after c w) lawful h e m (omega arith)

module _ (rule : RuleKind) (n : ℕ) (b : Grid) (lawful : IsPosition rule b) (none : has_five rule b (mover b) ≡ false)
    (one : (c : Grid) (w : Point) → SettledOne rule n c w) (m : ℕ) (l : n ≤ m) (p : Point) where
  settled_fate : is_four_move rule b p ≡ true → (a : BlockAnswer) → a ≡ fate rule (after b p)
      → block_wins rule (suc n) (after b p) a ≡ false → positions_as rule (suc n) (after b p) a ≡ positions_as rule n (after b p) a
      → (block_wins rule m (after b p) a ≡ false) × (positions_as rule m (after b p) a ≡ positions_as rule n (after b p) a)
  settled_fate four Lost e h k = (refl, lost-none rule m (after b p) ∙ sym (lost-none rule n (after b p)))
  settled_fate four Won e h k = absurd (let bad : true ≡ false = h in cc)
  settled_fate four (Draw w) e h k = (refl, draw-none rule m (after b p) w ∙ sym (draw-none rule n (after b p) w))
  settled_fate four (One w) e h k = one (after b p) w (lawful-one rule b p lawful four w e) m l h k

  settled_test : (r : Bool) → is_four_move rule b p ≡ r → starts rule (suc n) b p ≡ false
      → cond r (positions_behind rule (suc n) (after b p)) 0 ≡ cond r (positions_behind rule n (after b p)) 0
      → (starts rule m b p ≡ false) × (cond r (positions_behind rule m (after b p)) 0 ≡ cond r (positions_behind rule n (after b p)) 0)
  settled_test false four h k = (no_four rule m b lawful none p four, refl)
  settled_test true four h k =
      let by_fate = settled_fate four (fate rule (after b p)) refl (sym (block_decides rule (suc n) b p lawful four) ∙ h)
      (sym (positions-are rule (suc n) (after b p)) ∙ k ∙ positions-are rule n (after b p)) in (
        block_decides rule m b p lawful four ∙ by_fate.0,
        positions-are rule m (after b p) ∙ by_fate.1
            ∙ sym (positions-are rule n (after b p)),
      )

settled_by : (rule : RuleKind) (n : ℕ) (b : Grid) → IsPosition rule b → wins_by_fours rule (suc (suc n)) b ≡ false
    → four_tree rule (suc (suc n)) b ≡ four_tree rule (suc n) b → ((c : Grid) (w : Point) → SettledOne rule n c w) → Settled rule n b
settled_by rule n b lawful h e one m l =
    let none : has_five rule b (mover b) ≡ false = no-five rule (suc n) b h in
    let a = tree-all rule n b lawful (fewer-none rule (suc n) b h) in
    let z = tree-all rule (suc n) b lawful h in
    let sums : sum_by (behind_of rule (suc n) b) (points_of b) ≡ sum_by (behind_of rule n b) (points_of b) = omega (arith, a, z, e) in
    let all = sums-same (behind_of rule n b) (behind_of rule (suc n) b) (behind_of rule m b) (starts rule (suc n) b) (starts rule m b)
    (no_fewer rule n b lawful) (λ p h k. settled_test rule n b lawful none one m l p (is_four_move rule b p) refl h k) (points_of b)
    (any-none rule (suc n) b lawful h) sums in
    let lost : wins_by_fours rule (suc m) b ≡ false = wins-is rule b lawful none m ∙ all.0 in
    let y = tree-all rule m b lawful lost in
    let same = all.1 in
    (lost, omega (arith, a, y, same))

-- two depths one after another that look at as many positions and have no win
pub settled : (rule : RuleKind) (n : ℕ) (b : Grid) → IsPosition rule b → wins_by_fours rule (suc (suc n)) b ≡ false
    → four_tree rule (suc (suc n)) b ≡ four_tree rule (suc n) b → Settled rule n b
settled rule zero b lawful h e = settled_by rule zero b lawful h e (λ c w. one-zero rule c w)
settled rule (suc n) b lawful h e = settled_by rule (suc n) b lawful h e
    (λ c w. one-suc rule n c w (λ x ok none same. settled rule n x ok none same))

-- ---- sums of numbers

total : (cost all next so_far tree rest left budget more : ℕ) → cost ≡ all → all ≡ next + more → next ≡ so_far + tree → rest + tree ≡ left
    → left + so_far ≡ budget → cost + rest ≡ budget + more
total cost all next so_far tree rest left budget more a e f g h = omega arith

fits : (cost rest budget more : ℕ) → cost + rest ≡ budget + more → more ≤ rest → cost ≤ budget
fits cost rest budget more e h = omega arith

short : (cost rest budget more : ℕ) → cost + rest ≡ budget + more → rest < more → budget < cost
short cost rest budget more e h = omega arith

le-fails : (x y : ℕ) → nat_le x y ≡ false → y < x
le-fails x y h = grind (arith, nat_tests)

-- ---- the answer where a depth looked at as many positions as the one before

-- the depths after d are all alike
later : (rule : RuleKind) (b : Grid) → IsPosition rule b → (d before looked : ℕ) → wins_by_fours rule (d + 1) b ≡ false
    → looked ≡ four_tree rule (d + 1) b → looked ≡ before → (d ≡ 0 → before ≡ 0) → (0 < d → before ≡ four_tree rule d b) → (k : ℕ) → d < k
    → (wins_by_fours rule k b ≡ false) × (four_tree rule k b ≡ looked)
later rule b lawful zero before looked h is same first last k low =
    let some = tree-some rule (zero + 1) b in
    let start = first refl in
    absurd (omega (arith, some, start, is, same))
later rule b lawful (suc n) before looked h is same first last zero low = absurd (omega arith)
later rule b lawful (suc n) before looked h is same first last (suc m) low =
    let next : suc n + 1 ≡ suc (suc n) = omega arith in
    let none : wins_by_fours rule (suc (suc n)) b ≡ false = subst (λ (k : ℕ). wins_by_fours rule k b ≡ false) next h in
    let was : before ≡ four_tree rule (suc n) b = last (omega arith) in
    let now : looked ≡ four_tree rule (suc (suc n)) b = is ∙ ap (λ (k : ℕ). four_tree rule k b) next in
    let all = settled rule n b lawful none (sym now ∙ same ∙ was) m (omega arith) in
    (all.0, all.1 ∙ sym was ∙ sym same)

-- what depths take that are all alike
spent-alike : (rule : RuleKind) (b : Grid) (depth d count : ℕ) → ((k : ℕ) → d < k → four_tree rule k b ≡ count) → (e : ℕ)
    → spent_on rule b depth (d + e) ≡ spent_on rule b depth d + e * count
spent-alike rule b depth d count alike zero =
    let same : d + zero ≡ d = omega arith in
    let none : zero * count ≡ 0 = omega arith in
    let all : spent_on rule b depth (d + zero) ≡ spent_on rule b depth d = ap (spent_on rule b depth) same in
    omega (arith, all, none)
spent-alike rule b depth d count alike (suc e) =
    let same : d + suc e ≡ d + e + 1 = omega arith in
    let all : spent_on rule b depth (d + suc e) ≡ spent_on rule b depth (d + e + 1) = ap (spent_on rule b depth) same in
    let here = alike (d + e + 1) (omega arith) in
    let times : suc e * count ≡ count + e * count = omega arith in
    omega (arith, all, spent-more rule b depth (d + e), spent-alike rule b depth d count alike e, here, times)

module _ (rule : RuleKind) (b : Grid) (depth budget left d : ℕ) (l : d < depth) (lawful : IsPosition rule b)
    (none : NoWinUpTo rule b depth d) (spent : left + spent_on rule b depth d ≡ budget) (rest : ℕ)
    (found : NoWin rest ≡ found_at rule (d + 1) b left) where
  -- what this depth took
  pub looked-is : (rest + four_tree rule (d + 1) b ≡ left) × (0 < left - rest) × (left - rest ≡ four_tree rule (d + 1) b)
  looked-is =
      let took = (found-no-win rule (d + 1) b left rest found).0 in
      let some = tree-some rule (d + 1) b in
      (took, omega (arith, took, some), omega (arith, took))

  module _ (before : ℕ) (first : d ≡ 0 → before ≡ 0) (last : 0 < d → before ≡ four_tree rule d b) (same : left - rest ≡ before) where
    alike : (k : ℕ) → d < k → (wins_by_fours rule k b ≡ false) × (four_tree rule k b ≡ left - rest)
    alike k low = later rule b lawful d before (left - rest) (found-no-win rule (d + 1) b left rest found).1 looked-is.2 same first last k
        low

    alike-none : wins_by_fours rule depth b ≡ false
    alike-none = (alike depth l).0

    none_at_all : NoWinUpTo rule b depth depth
    none_at_all k low high = elim (cases_lt d k) [
      | inl after ↦ (alike k after).0
      | inr earlier ↦ none k low earlier
    ]

    alike-cost : four_cost rule depth b + rest ≡ budget + (depth - (d + 1)) * (left - rest)
    alike-cost =
        let end : d + 1 + (depth - (d + 1)) ≡ depth = omega arith in
        total (four_cost rule depth b) (spent_on rule b depth depth) (spent_on rule b depth (d + 1)) (spent_on rule b depth d)
        (four_tree rule (d + 1) b) rest left budget ((depth - (d + 1)) * (left - rest))
        (cost-none rule b depth none_at_all)
        (sym (ap (spent_on rule b depth) end) ∙ spent-alike rule b depth (d + 1) (left - rest) (λ k low. (alike k (omega (arith, low))).1)
        (depth - (d + 1)))
        (spent-more rule b depth d) looked-is.0 spent

    alike-fits : nat_le ((depth - (d + 1)) * (left - rest)) rest ≡ true → four_cost rule depth b ≤ budget
    alike-fits h = fits _ _ _ _ alike-cost (le_from _ _ h)

    alike-short : nat_le ((depth - (d + 1)) * (left - rest)) rest ≡ false → budget < four_cost rule depth b
    alike-short h = short _ _ _ _ alike-cost (le-fails _ _ h)

    -- so the answer is none where the rest suffices for them, and else the budget is spent
    pub alike-tells : (a : Sought) → a ≡ cond (nat_le ((depth - (d + 1)) * (left - rest)) rest) None Spent
        → IsSoughtOut rule depth budget b a
    alike-tells a e = subst (IsSoughtOut rule depth budget b) (sym e) (by_test (nat_le ((depth - (d + 1)) * (left - rest)) rest) refl) where
      by_test : (r : Bool) → nat_le ((depth - (d + 1)) * (left - rest)) rest ≡ r → IsSoughtOut rule depth budget b (cond r None Spent)
      by_test true h = record { none = alike-none; no_win = no-win rule depth b alike-none; fits = alike-fits h }
      by_test false h = alike-short h
