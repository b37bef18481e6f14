-- Lines that look the same within reach have the same fours.
use Rattle.std.proofs.Common.{◌≡◌, ◌≢◌, inl, inr, ℕ, zero, suc, ◌+◌, ◌-◌, ◌≤◌, ◌<◌, Bool, true, false, cond}
use Rattle.std.proofs.Common.{◌&&◌, ◌||◌, not, refl, sym, ap, ◌∙◌, arith, nat_eq, nat_le, Option, Some, None, count_by}
use Rattle.std.proofs.Common.{sum_by}
use Rattle.std.specs.List.{list_all, range_with_len}
use Rattle.std.proofs.lemmas.Bool.{cases_lt}
use Rattle.game_rules.proofs.Common.{Grid, IsBoard, is_on, is_empty, along, row_wins, stone_at, wins_on, wins_at, fours_of, place_stone}
use Rattle.game_rules.proofs.Common.{place_wins, stones_towards, go}
use Rattle.game_rules.specs.declared.RuleKind.{RuleKind}
use Rattle.game_rules.specs.declared.Side.{Side}
use Rattle.game_rules.specs.declared.Axis.{Axis}
use Rattle.game_rules.specs.declared.Point.{Point}
use Rattle.game_rules.specs.declared.Way.TheVariants.{Ahead, Behind}
use Rattle.game_rules.proofs.Rows.{all_in_range}
use Rattle.game_rules.proofs.Boards.{and-same, is_empty-on}
use Rattle.game_rules.proofs.Lines.{along-then, along-same, along-zero}
use Rattle.game_rules.proofs.Ways.{least}
use Rattle.game_rules.proofs.Wins.{wins_on-stones}
use Rattle.game_rules.proofs.Tests.{le_true, eq_true, eq_false, eq_from}
use Rattle.game_rules.proofs.RunEnds.{just_stones, more_stones}
use Rattle.row_shapes.proofs.Common.{is_four, are_stones, fours_from, free_at}
use Rattle.row_shapes.proofs.Counting.{fours_by_gap, fours_of-gap}
use Rattle.row_shapes.proofs.Alike.{wins_by, Both}

-- ---- tests over ranges

pub all_same : (f g : ℕ → Bool) (n a : ℕ) → ((i : ℕ) → a ≤ i → i < a + n → f i ≡ g i)
    → list_all f (range_with_len a n) ≡ list_all g (range_with_len a n)
all_same f g zero a h = refl
all_same f g (suc n) a h = rw (h a (omega arith) (omega arith), all_same f g n (a + 1) (λ i low high. h i (omega arith) (omega arith))) refl

pub sum_five : (f g : ℕ → ℕ) → ((i : ℕ) → i < 5 → f i ≡ g i) → sum_by f (range_with_len 0 5) ≡ sum_by g (range_with_len 0 5)
sum_five f g h = rw (h 0 (omega arith), h 1 (omega arith), h 2 (omega arith), h 3 (omega arith), h 4 (omega arith)) refl

pub count_four : (f g : ℕ → Bool) → ((i : ℕ) → 1 ≤ i → i < 5 → f i ≡ g i)
    → count_by f (range_with_len 1 4) ≡ count_by g (range_with_len 1 4)
count_four f g h = rw (
  h 1 (omega arith) (omega arith),
  h 2 (omega arith) (omega arith),
  h 3 (omega arith) (omega arith),
  h 4 (omega arith) (omega arith),
) refl

fours_same : (stone wins other wins' : ℕ → Bool)
    → ((first gap : ℕ) → first < 5 → 1 ≤ gap → gap < 5 → is_four stone wins first gap ≡ is_four other wins' first gap)
    → fours_by_gap stone wins ≡ fours_by_gap other wins'
fours_same stone wins other wins' h =
    sum_five (fours_from stone wins) (fours_from other wins')
    (λ first small. count_four (is_four stone wins first) (is_four other wins' first) (λ gap some few. h first gap small some few))

four_parts : (stone wins other wins' : ℕ → Bool) (first gap : ℕ) (t u v : Bool) → nat_eq first gap ≡ t → are_stones stone first gap ≡ u
    → nat_eq gap 4 ≡ v → are_stones other first gap ≡ u →
    (t ≡ false → u ≡ true → wins (gap + 4 - first) ≡ wins' (gap + 4 - first))
    → (t ≡ false → u ≡ true → v ≡ true → wins (3 - first) ≡ wins' (3 - first)) →
    is_four stone wins first gap ≡ is_four other wins' first gap
unfolding is_four
four_parts stone wins other wins' first gap true u v e f g h x y = rw e refl
four_parts stone wins other wins' first gap false false v e f g h x y = rw (e, f, h) refl
four_parts stone wins other wins' first gap false true false e f g h x y = rw (e, f, h, g, x refl refl) refl
four_parts stone wins other wins' first gap false true true e f g h x y = rw (e, f, h, g, x refl refl, y refl refl refl) refl

-- ---- a window of five places

exact_by : (t u v : Bool) (m n k l : ℕ) → k + l ≡ 4 → k ≤ m → l ≤ n → (u ≡ false → m ≡ k) → (u ≡ true → k < m) → (v ≡ false → n ≡ l)
    → (v ≡ true → l < n) → cond t (nat_le 5 (1 + m + n)) (nat_eq (1 + m + n) 5) ≡ (t || (not v && not u))
exact_by true u v m n k l sum x y a b c e = le_true 5 (1 + m + n) (omega arith)
exact_by false false false m n k l sum x y a b c e = let f = a refl in let g = c refl in eq_true (1 + m + n) 5 (omega (arith, f, g))
exact_by false true false m n k l sum x y a b c e = let f = b refl in eq_false (1 + m + n) 5 (λ same. absurd (omega (arith, f)))
exact_by false false true m n k l sum x y a b c e = let f = e refl in eq_false (1 + m + n) 5 (λ same. absurd (omega (arith, f)))
exact_by false true true m n k l sum x y a b c e = let f = e refl in eq_false (1 + m + n) 5 (λ same. absurd (omega (arith, f)))

module _ (r : ℕ) (rule : RuleKind) (b : Grid) (s : Side) (d : Axis) (p : Point) (ok : IsBoard b)
    (reads : (n : ℕ) → row_wins rule s n ≡ wins_by r n) (a j : ℕ) (from : a ≤ j) (to : j ≤ a + 4)
    (full : (i : ℕ) → a ≤ i → i ≤ a + 4 → i ≢ j → stone_at b s (along d p i 4) ≡ true) where
  module _ (x : Point) (here : along d p j 4 ≡ Some x) (on : is_on b x ≡ true) where
    ahead_place : (k : ℕ) → along d x k 0 ≡ along d p (j + k) 4
    ahead_place k = along-then d p x j 4 k 0 here ∙ along-same d p (j + k) (4 + 0) (j + k) 4 (omega arith)

    behind_place : (k : ℕ) → k ≤ j → along d x 0 k ≡ along d p (j - k) 4
    behind_place k near = along-then d p x j 4 0 k here ∙ along-same d p (j + 0) (4 + k) (j - k) 4 (omega arith)

    ahead_all : (k : ℕ) → 1 ≤ k → k ≤ a + 4 - j → stone_at b s (go Ahead d x k 0) ≡ true
    ahead_all k low high = ap (stone_at b s) (ahead_place k) ∙ full (j + k) (omega arith) (omega arith) (λ same. absurd (omega arith))

    behind_all : (k : ℕ) → 1 ≤ k → k ≤ j - a → stone_at b s (go Behind d x k 0) ≡ true
    behind_all k low high = ap (stone_at b s) (behind_place k (omega arith))
        ∙ full (j - k) (omega arith) (omega arith) (λ same. absurd (omega arith))

    ahead_next : stone_at b s (go Ahead d x (1 + (a + 4 - j)) 0) ≡ stone_at b s (along d p (a + 5) 4)
    ahead_next = ap (stone_at b s) (ahead_place (1 + (a + 4 - j)) ∙ along-same d p (j + (1 + (a + 4 - j))) 4 (a + 5) 4 (omega arith))

    behind_next : stone_at b s (go Behind d x (1 + (j - a)) 0) ≡ stone_at b s (along d p a 5)
    behind_next = ap (stone_at b s)
        (along-then d p x j 4 0 (1 + (j - a)) here ∙ along-same d p (j + 0) (4 + (1 + (j - a))) a 5 (omega arith))

    window_wins : row_wins rule s (1 + stones_towards Ahead b s d x + stones_towards Behind b s d x)
        ≡ (nat_eq r 4 || (not (stone_at b s (along d p a 5)) && not (stone_at b s (along d p (a + 5) 4))))
    window_wins =
        reads _ ∙ exact_by (nat_eq r 4) (stone_at b s (along d p (a + 5) 4)) (stone_at b s (along d p a 5)) _ _ (a + 4 - j) (j - a)
        (omega arith)
        (least b s d x on Ahead (a + 4 - j) ahead_all) (least b s d x on Behind (j - a) behind_all)
        (λ e. just_stones b s d x on Ahead (a + 4 - j) ahead_all (ahead_next ∙ e))
        (λ e. more_stones b s d x on Ahead (a + 4 - j) ahead_all (ahead_next ∙ e))
        (λ e. just_stones b s d x on Behind (j - a) behind_all (behind_next ∙ e))
        (λ e. more_stones b s d x on Behind (j - a) behind_all (behind_next ∙ e))

  window_point : (x : Point) → along d p j 4 ≡ Some x
      → wins_on rule b s d x
      ≡ (is_empty b x && (nat_eq r 4 || (not (stone_at b s (along d p a 5)) && not (stone_at b s (along d p (a + 5) 4)))))
  window_point x here = wins_on-stones rule b s d x ok ∙ and-same (is_empty b x) _ _ (λ e. window_wins x here (is_empty-on b x e))

  -- the place left out of a window of stones wins as its cell and those beside the window decide
  pub window_value : place_wins rule b s d p j
      ≡ (free_at b (along d p j 4) && (nat_eq r 4 || (not (stone_at b s (along d p a 5)) && not (stone_at b s (along d p (a + 5) 4)))))
  window_value = by_point (along d p j 4) refl where
    by_point : (o : Option Point) → along d p j 4 ≡ o → wins_at rule b s d o
        ≡ (free_at b o && (nat_eq r 4 || (not (stone_at b s (along d p a 5)) && not (stone_at b s (along d p (a + 5) 4)))))
    by_point None h = refl
    by_point (Some x) h = window_point x h

-- the places of a window of stones, but for the one that is left out, hold stones
pub kept : (b : Grid) (s : Side) (d : Axis) (p : Point) (first gap i : ℕ) → first < 5 → are_stones (place_stone b s d p) first gap ≡ true
    → 4 - first ≤ i → i < 9 - first → i + first ≢ gap + 4 → stone_at b s (along d p i 4) ≡ true
unfolding are_stones
kept b s d p first gap i small all low high differ =
    let item = all_in_range (λ i. nat_eq i gap || place_stone b s d p (i + 4 - first)) 5 0 (i + first - 4) all (omega arith)
    (omega arith) in
    let other : nat_eq (i + first - 4) gap ≡ false = eq_false _ _ (λ same. absurd (omega arith)) in
    let place : i + first - 4 + 4 - first ≡ i = omega arith in
    rw (other, place) at item

-- ---- two lines

module _ (r : ℕ) (rule kind : RuleKind) (b c : Grid) (s t : Side) (d e : Axis) (p q : Point) (both : Both r rule kind b c s t d e p q) where
  line-alike : (i h : ℕ) → i ≤ h + r → h ≤ i + r → stone_at b s (along d p i h) ≡ stone_at c t (along e q i h)
  line-alike i h x y = elim (cases_lt h i) [
    | inl ahead ↦ ap (stone_at b s) (along-same d p i h (i - h) 0 (omega arith))
        ∙ both.alike.stones Ahead (i - h) (omega arith) (omega arith) ∙ ap (stone_at c t) (along-same e q (i - h) 0 i h (omega arith))
    | inr rest ↦ elim (cases_lt i h) [
      | inl behind ↦ ap (stone_at b s) (along-same d p i h 0 (h - i) (omega arith))
          ∙ both.alike.stones Behind (h - i) (omega arith) (omega arith) ∙ ap (stone_at c t) (along-same e q 0 (h - i) i h (omega arith))
      | inr here ↦
          ap (stone_at b s) (along-same d p i h 0 0 (omega arith) ∙ along-zero d p) ∙ both.mine
          ∙ sym (ap (stone_at c t) (along-same e q i h 0 0 (omega arith) ∙ along-zero e q) ∙ both.own)
    ]
  ]

  line-free : (i h : ℕ) → i ≤ h + r → h ≤ i + r → i ≢ h → free_at b (along d p i h) ≡ free_at c (along e q i h)
  line-free i h x y differ = elim (cases_lt h i) [
    | inl ahead ↦ ap (free_at b) (along-same d p i h (i - h) 0 (omega arith)) ∙ both.alike.frees Ahead (i - h) (omega arith) (omega arith)
        ∙ ap (free_at c) (along-same e q (i - h) 0 i h (omega arith))
    | inr rest ↦ ap (free_at b) (along-same d p i h 0 (h - i) (omega arith)) ∙ both.alike.frees Behind (h - i) (omega arith) (omega arith)
        ∙ ap (free_at c) (along-same e q 0 (h - i) i h (omega arith))
  ]

  beside : (u : Bool) (a : ℕ) → nat_eq r 4 ≡ u → a ≤ 4 →
      (u || (not (stone_at b s (along d p a 5)) && not (stone_at b s (along d p (a + 5) 4))))
      ≡ (u || (not (stone_at c t (along e q a 5)) && not (stone_at c t (along e q (a + 5) 4))))
  beside true a h start = refl
  beside false a h start =
      let low = both.low in
      let five : r ≢ 4 = λ f. (let differ : true ≡ false = sym (eq_true r 4 f) ∙ h in cc) in
      rw (line-alike a 5 (omega arith) (omega (arith, low)), line-alike (a + 5) 4 (omega (arith, low)) (omega arith)) refl

  wins-alike : (a j : ℕ) → a ≤ 4 → a ≤ j → j ≤ a + 4 → j ≢ 4 → ((i : ℕ) → a ≤ i → i ≤ a + 4 → i ≢ j → stone_at b s (along d p i 4) ≡ true)
      → place_wins rule b s d p j ≡ place_wins kind c t e q j
  wins-alike a j start from to differ full =
      let low = both.low in
      let other : (i : ℕ) → a ≤ i → i ≤ a + 4 → i ≢ j → stone_at c t (along e q i 4) ≡ true =
      λ i x y z. sym (line-alike i 4 (omega (arith, low)) (omega (arith, low))) ∙ full i x y z in
      window_value r rule b s d p both.ok both.reads a j from to full
      ∙ rw (line-free j 4 (omega (arith, low)) (omega (arith, low)) differ, beside (nat_eq r 4) a refl start) refl
      ∙ sym (window_value r kind c t e q both.fine both.tells a j from to other)

  stones-alike : (first gap : ℕ) → first < 5 → are_stones (place_stone b s d p) first gap ≡ are_stones (place_stone c t e q) first gap
  unfolding are_stones
  stones-alike first gap small =
      let low = both.low in
      all_same _ _ 5 0 (λ i x y. ap (λ u. nat_eq i gap || u) (line-alike (i + 4 - first) 4 (omega (arith, low)) (omega (arith, low))))

  four-alike : (first gap : ℕ) → first < 5 → 1 ≤ gap → gap < 5
      → is_four (place_stone b s d p) (place_wins rule b s d p) first gap ≡ is_four (place_stone c t e q) (place_wins kind c t e q) first
      gap
  four-alike first gap small some few =
      four_parts _ _ _ _ first gap (nat_eq first gap) (are_stones (place_stone b s d p) first gap) (nat_eq gap 4) refl refl refl
      (sym (stones-alike first gap small))
      (λ x y. let differ : first ≢ gap = λ f. (let off : true ≡ false = sym (eq_true first gap f) ∙ x in cc) in
      wins-alike (4 - first) (gap + 4 - first) (omega arith) (omega arith) (omega arith) (λ f. absurd (omega arith))
      (λ i low high other. kept b s d p first gap i small y low (omega arith) (λ f. absurd (omega arith))))
      (λ x y z. let differ : first ≢ gap = λ f. (let off : true ≡ false = sym (eq_true first gap f) ∙ x in cc) in
      let last : gap ≡ 4 = eq_from gap 4 z in
      wins-alike (3 - first) (3 - first) (omega arith) (omega arith) (omega arith) (λ f. absurd (omega arith))
      (λ i low high other. kept b s d p first gap i small y (omega arith) (omega arith) (λ f. absurd (omega arith))))

  pub fours-alike : fours_of rule b s d p ≡ fours_of kind c t e q
  fours-alike = fours_of-gap rule b s d p ∙ fours_same _ _ _ _ four-alike ∙ sym (fours_of-gap kind c t e q)
