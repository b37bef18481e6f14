-- What a stone of Black makes on its line, as the two halves of the line tell it.
use Rattle.std.proofs.Common.{◌≡◌, ◌≢◌, inl, inr, ℕ, ◌+◌, ◌-◌, ◌≤◌, ◌<◌, ◌^◌, min, max, Bool, true}
use Rattle.std.proofs.Common.{false, cond, ◌&&◌, List, length, drop, get_or, refl, sym, ap, ◌∙◌, arith, nat_eq, nat_le}
use Rattle.std.proofs.Common.{length-drop, Option, Some, None, bit_or}
use Rattle.std.proofs.lemmas.Bool.{cases_lt}
use Rattle.std.proofs.lemmas.Nat.{or_lt, pow_below}
use Rattle.std.proofs.lemmas.List.{get_or-drop, get_or_past}
use Rattle.std.proofs.lemmas.List.Sums.{prefix_len_passes, prefix_len_stops, prefix_len-le-length}
use Rattle.game_rules.proofs.Common.{Grid, is_on, is_empty, is_stone_of, along, row_wins, stone_at, run_of, fours_of, is_straight}
use Rattle.game_rules.proofs.Common.{is_line_three_at, towards, opposite, stones_towards, go}
use Rattle.game_rules.specs.declared.Cell.{Cell}
use Rattle.game_rules.specs.declared.RuleKind.{RuleKind}
use Rattle.game_rules.specs.declared.Point.{Point}
use Rattle.game_rules.specs.declared.Way.{Way}
use Rattle.game_rules.specs.declared.Cell.TheVariants.{White as WhiteStone}
use Rattle.game_rules.specs.declared.Side.TheVariants.{Black}
use Rattle.game_rules.specs.declared.Axis.TheVariants.{Row}
use Rattle.game_rules.specs.declared.Way.TheVariants.{Ahead, Behind}
use Rattle.game_rules.proofs.Boards.{and_left, is_empty-on}
use Rattle.game_rules.proofs.Runs.{Leads}
use Rattle.game_rules.proofs.Ways.{go-then, go-same, leads}
use Rattle.game_rules.proofs.Tests.{le_true, le_false, eq_false, eq_from, le_from}
use Rattle.row_shapes.proofs.Common.{owns, is_free, row_past, row_beyond, wins_off, is_open, three_off, free_at, SeesHalf, SeesLine}
use Rattle.row_shapes.proofs.Common.{three_bits, stones_past, wins_past, is_open_four, three_place, place_towards, bit_of}
use Rattle.row_shapes.proofs.Alike.{wins_by, wins_same, le_same, leads_alike, past_value, straight_value, run_value, three_value}
use Rattle.row_shapes.proofs.Reaches.{few-no_fours}
use Rattle.row_shapes.proofs.ThreeBits.{eleven_bits}
use Rattle.row_shapes.proofs.ThreePoints.{no_place, three_bits as three_bits-at}

-- ---- a row of stones in one half

module _ (cells : List Cell) (k : ℕ) where
  row_next : (i j : ℕ) → i + 1 ≡ j → owns cells (k + j) ≡ is_stone_of Black (get_or (drop k cells) i WhiteStone)
  row_next i j e =
      let place : k + j - 1 ≡ k + i = omega arith in
      ap (λ x. is_stone_of Black (get_or cells x WhiteStone)) place ∙ sym (ap (is_stone_of Black) (get_or-drop k cells i WhiteStone))

  row_end : is_stone_of Black (get_or (drop k cells) (row_past cells k) WhiteStone) ≡ false
  row_end = elim (cases_lt (row_past cells k) (length (drop k cells))) [
    | inl less ↦ prefix_len_stops (is_stone_of Black) (drop k cells) WhiteStone less
    | inr all ↦ ap (is_stone_of Black) (get_or_past (drop k cells) (row_past cells k) WhiteStone all)
  ]

  -- as many places hold stones, and the next does not
  pub Leads-row : Leads (λ j. owns cells (k + j)) (row_past cells k)
  Leads-row = record {
    holds = λ j low high. row_next (j - 1) j (omega arith)
        ∙ prefix_len_passes (is_stone_of Black) (drop k cells) (j - 1) WhiteStone (omega arith);
    stops = row_next (row_past cells k) (1 + row_past cells k) (omega arith) ∙ row_end;
  }

  pub row_few : length cells ≡ 5 → k ≤ 5 → row_past cells k + k ≤ 5
  row_few five near =
      let most = prefix_len-le-length (is_stone_of Black) (drop k cells) in
      let left = length-drop k cells in
      omega (arith, most, left, five, near)

-- ---- the line of a stone

module _ (r : ℕ) (rule : RuleKind) (front rear : List Cell) (b : Grid) (p : Point) (low : 4 ≤ r) (high : r ≤ 5)
    (reads : (n : ℕ) → row_wins rule Black n ≡ wins_by r n) (sees : SeesLine front rear b p) where
  -- the half in that way
  abbrev pub half : Way → List Cell
  half Ahead = front
  half Behind = rear

  seen : (w : Way) → SeesHalf (half w) b w p
  seen Ahead = sees.forth
  seen Behind = sees.back

  on_p : is_on b p ≡ true
  on_p = and_left (is_on b p) _ sees.stone

  pub stones : (w : Way) (k : ℕ) → 1 ≤ k → k ≤ 5 → stone_at b Black (go w Row p k 0) ≡ owns (half w) k
  stones w k some near = (seen w).stones k some near

  pub frees : (w : Way) (k : ℕ) → 1 ≤ k → k ≤ 5 → free_at b (go w Row p k 0) ≡ is_free (half w) k
  frees w k some near = (seen w).frees k some near

  -- the stones next to the middle, up to five
  near : (w : Way) → min 5 (stones_towards w b Black Row p) ≡ row_past (half w) 0
  near w =
      let same = leads_alike (λ k. stone_at b Black (go w Row p k 0)) (λ j. owns (half w) (0 + j)) (stones_towards w b Black Row p)
      (row_past (half w) 0) 5 (leads b Black Row p on_p w) (Leads-row (half w) 0)
      (λ k some far. let here : k ≡ 0 + k = omega arith in stones w k some far ∙ ap (owns (half w)) here) in
      let few = row_few (half w) 0 (seen w).places (omega arith) in
      omega (arith, same, few)

  module _ (w : Way) (close : stones_towards w b Black Row p ≤ 4) where
    abbrev first : Option Point
    first = go w Row p (1 + stones_towards w b Black Row p) 0

    next_is : row_past (half w) 0 ≡ stones_towards w b Black Row p
    next_is = let row = near w in omega (arith, row, close)

    beyond_by : (q : Point) (t : Bool) → first ≡ Some q → is_empty b q ≡ t → is_free (half w) (1 + stones_towards w b Black Row p) ≡ t
        → min (4 - stones_towards w b Black Row p) (stones_past w b Black Row (Some q)) ≡ cond t
        (row_past (half w) (1 + stones_towards w b Black Row p)) 0
    beyond_by q false here e f = rw e (omega arith)
    beyond_by q true here e f =
        let there : (j : ℕ) → go w Row q j 0 ≡ go w Row p (1 + stones_towards w b Black Row p + j) 0 =
        λ j. go-then w Row p q (1 + stones_towards w b Black Row p) 0 j 0 here
        ∙ go-same w Row p (1 + stones_towards w b Black Row p + j) (0 + 0) (1 + stones_towards w b Black Row p + j) 0 (omega arith) in
        let same = leads_alike (λ j. stone_at b Black (go w Row q j 0)) (λ j. owns (half w) (1 + stones_towards w b Black Row p + j))
        (stones_towards w b Black Row q) (row_past (half w) (1 + stones_towards w b Black Row p)) (4 - stones_towards w b Black Row p)
        (leads b Black Row q (is_empty-on b q e) w) (Leads-row (half w) (1 + stones_towards w b Black Row p))
        (λ j some far. ap (stone_at b Black) (there j) ∙ stones w (1 + stones_towards w b Black Row p + j) (omega arith) (omega arith)) in
        let few = row_few (half w) (1 + stones_towards w b Black Row p) (seen w).places (omega (arith, close)) in
        rw e (omega (arith, same, few))

    -- the stones past the first empty place, as far as the half goes
    beyond : min (4 - stones_towards w b Black Row p) (stones_past w b Black Row first) ≡ row_beyond (half w)
    beyond = by_point first refl ∙ ap (λ k. cond (is_free (half w) (1 + k)) (row_past (half w) (1 + k)) 0) (sym next_is) where
      by_point : (o : Option Point) → first ≡ o → min (4 - stones_towards w b Black Row p) (stones_past w b Black Row o) ≡ cond
          (is_free (half w) (1 + stones_towards w b Black Row p)) (row_past (half w) (1 + stones_towards w b Black Row p)) 0
      by_point None h =
          let taken : is_free (half w) (1 + stones_towards w b Black Row p) ≡ false =
          sym (frees w (1 + stones_towards w b Black Row p) (omega arith) (omega (arith, close))) ∙ ap (free_at b) h in
          rw taken (omega arith)
      by_point (Some q) h =
          let free : is_free (half w) (1 + stones_towards w b Black Row p) ≡ is_empty b q =
          sym (frees w (1 + stones_towards w b Black Row p) (omega arith) (omega (arith, close))) ∙ ap (free_at b) h in
          rw free (beyond_by q (is_empty b q) h refl free)

  -- ---- runs

  pub run_wins : row_wins rule Black (run_of b Black Row p) ≡ wins_by r (1 + row_past front 0 + row_past rear 0)
  run_wins =
      let ahead = near Ahead in
      let behind = near Behind in
      let run = run_value r rule b Black Row p sees.board sees.stone reads in
      reads _ ∙ wins_same r _ _ low high (omega (arith, high, run, ahead, behind))

  pub run_long : nat_le 6 (run_of b Black Row p) ≡ nat_le 6 (1 + row_past front 0 + row_past rear 0)
  run_long =
      let ahead = near Ahead in
      let behind = near Behind in
      let run = run_value r rule b Black Row p sees.board sees.stone reads in
      le_same 6 _ _ (omega (arith, run, ahead, behind))

  -- ---- straight fours

  abbrev any : Bool
  any = nat_eq r 4

  end_wins : (w : Way) (k : ℕ) → 1 ≤ k → k ≤ 4 → wins_past rule b Black Row w (towards w Row p k) ≡ wins_off any (half w) k
  end_wins w k some few =
      let free = frees w k some (omega arith) in
      let next = stones w (1 + k) (omega arith) (omega arith) in
      past_value r rule b Black Row p sees.board sees.stone reads w k ∙ rw (free, next) refl

  open_by : (t : Bool) (w : Way) (fore back : ℕ) → nat_eq (fore + back) 3 ≡ t
      → is_open_four rule b Black Row p w fore back ≡ is_open any (half w) (half (opposite w)) fore back
  open_by false w fore back h = rw h refl
  open_by true w fore back h =
      let four = eq_from (fore + back) 3 h in
      let one = end_wins w (1 + fore) (omega arith) (omega (arith, four)) in
      let other = end_wins (opposite w) (1 + back) (omega arith) (omega (arith, four)) in
      rw (one, other) refl

  open_here : (w : Way) (fore back : ℕ) → is_open_four rule b Black Row p w fore back ≡ is_open any (half w) (half (opposite w)) fore back
  open_here w fore back = open_by (nat_eq (fore + back) 3) w fore back refl

  not_open : (u : Bool) (cells other : List Cell) (fore back : ℕ) → fore + back ≢ 3 → is_open u cells other fore back ≡ false
  not_open u cells other fore back h = rw (eq_false (fore + back) 3 h) refl

  pub straight_here : is_straight rule b Black Row p ≡ is_open any front rear (row_past front 0) (row_past rear 0)
  straight_here =
      let ahead = near Ahead in
      let behind = near Behind in
      straight_value r rule b Black Row p sees.board sees.stone reads
      ∙ open_here Ahead (stones_towards Ahead b Black Row p) (stones_towards Behind b Black Row p)
      ∙ elim (cases_lt 3 (stones_towards Ahead b Black Row p + stones_towards Behind b Black Row p)) [
        | inl many ↦ not_open any front rear _ _ (λ f. absurd (omega arith))
            ∙ sym (not_open any front rear _ _ (λ f. absurd (omega (arith, ahead, behind))))
        | inr few ↦
            let fore : stones_towards Ahead b Black Row p ≡ row_past front 0 = omega (arith, ahead) in
            let back : stones_towards Behind b Black Row p ≡ row_past rear 0 = omega (arith, behind) in
            rw (fore, back) refl
      ]

  -- ---- three points

  same_open : (w : Way) (n m m' o : ℕ) → n + o ≤ 2 → min (4 - n) m ≡ m'
      → is_open_four rule b Black Row p w (1 + n + m) o ≡ is_open any (half w) (half (opposite w)) (1 + n + m') o
  same_open w n m m' o few past = open_here w (1 + n + m) o ∙ elim (cases_lt 3 (1 + n + m + o)) [
    | inl many ↦ not_open any (half w) (half (opposite w)) (1 + n + m) o (λ f. absurd (omega arith))
        ∙ sym (not_open any (half w) (half (opposite w)) (1 + n + m') o (λ f. absurd (omega arith)))
    | inr fit ↦ let same : m ≡ m' = omega arith in ap (λ j. is_open any (half w) (half (opposite w)) (1 + n + j) o) same
  ]

  three_test : (w : Way) → stones_towards w b Black Row p + stones_towards (opposite w) b Black Row p ≤ 2 →
      is_line_three_at rule b Black Row p (towards w Row p (1 + stones_towards w b Black Row p))
      ≡ (is_free (half w) (1 + row_past (half w) 0) && is_open any (half w) (half (opposite w))
      (1 + row_past (half w) 0 + row_beyond (half w)) (row_past (half (opposite w)) 0))
  three_test w few =
      let fore : stones_towards w b Black Row p ≡ row_past (half w) 0 = let row = near w in omega (arith, row) in
      let back : stones_towards (opposite w) b Black Row p ≡ row_past (half (opposite w)) 0 = let row =
      near (opposite w) in omega (arith, row) in
      let free = frees w (1 + stones_towards w b Black Row p) (omega arith) (omega arith) in
      let past = beyond w (omega arith) in
      let opens = same_open w (stones_towards w b Black Row p)
      (stones_past w b Black Row (go w Row p (1 + stones_towards w b Black Row p) 0)) (row_beyond (half w))
      (stones_towards (opposite w) b Black Row p) few past in
      three_value rule b Black Row p sees.board sees.stone w
      ∙ rw (free, opens) refl
      ∙ ap (λ n. is_free (half w) (1 + n) && is_open any (half w) (half (opposite w)) (1 + n + row_beyond (half w))
      (stones_towards (opposite w) b Black Row p)) fore
      ∙ ap (λ o. is_free (half w) (1 + row_past (half w) 0) && is_open any (half w) (half (opposite w))
      (1 + row_past (half w) 0 + row_beyond (half w)) o) back

  three_way : (w : Way) → three_place rule b Black Row p w ≡ three_off any w (half w) (half (opposite w))
  three_way w =
      let fore = near w in
      let back = near (opposite w) in
      elim (cases_lt 2 (stones_towards w b Black Row p + stones_towards (opposite w) b Black Row p)) [
        | inl many ↦
            let none : nat_le (row_past (half w) 0 + row_past (half (opposite w)) 0) 2 ≡ false = le_false _ 2 (omega (arith, fore, back)) in
            no_place rule b Black Row p sees.board sees.stone w many ∙ rw none refl
        | inr few ↦
            let some : nat_le (row_past (half w) 0 + row_past (half (opposite w)) 0) 2 ≡ true = le_true _ 2 (omega (arith, fore, back)) in
            let place : stones_towards w b Black Row p ≡ row_past (half w) 0 = omega (arith, fore) in
            let test = three_test w few in
            rw (test, place, some) refl
      ]

  place_low : (w : Way) (n : ℕ) → n ≤ 2 → place_towards w (1 + n) < 11
  place_low Ahead n h = omega arith
  place_low Behind n h = omega arith

  bit_low_by : (w : Way) (t u v : Bool) (n : ℕ) → (t ≡ true → n ≤ 2)
      → bit_of (cond (t && u && v) (Some (place_towards w (1 + n))) None) < 2 ^ 11
  bit_low_by w false u v n few = omega arith
  bit_low_by w true false v n few = omega arith
  bit_low_by w true true false n few = omega arith
  bit_low_by w true true true n few = pow_below (place_towards w (1 + n)) 11 (place_low w n (few refl))

  three_sum : (ahead behind : Option ℕ) → three_place rule b Black Row p Ahead ≡ ahead → three_place rule b Black Row p Behind ≡ behind
      → bit_of ahead < 2 ^ 11 → bit_of behind < 2 ^ 11 → three_bits rule b Black Row p ≡ bit_or (bit_of ahead) (bit_of behind)
  unfolding three_bits
  three_sum ahead behind e f x y = sym
      (eleven_bits (λ i. is_line_three_at rule b Black Row p (along Row p i 5)) (bit_or (bit_of ahead) (bit_of behind)) (or_lt 11 _ _ x y)
      (λ i small. rw (← e, ← f) (three_bits-at rule b Black Row p sees.board sees.stone i)))

  pub three_here : three_bits rule b Black Row p ≡ bit_or (bit_of (three_off any Ahead front rear))
      (bit_of (three_off any Behind rear front))
  three_here = three_sum _ _ (three_way Ahead) (three_way Behind) (bit_low Ahead) (bit_low Behind) where
    bit_low : (w : Way) → bit_of (three_off any w (half w) (half (opposite w))) < 2 ^ 11
    bit_low w = bit_low_by w (nat_le (row_past (half w) 0 + row_past (half (opposite w)) 0) 2) _ _ (row_past (half w) 0)
        (λ h. let few = le_from _ 2 h in omega (arith, few))

  -- ---- few stones within reach

  pub few_fours : row_past front 0 + row_past rear 0 + max (row_beyond front) (row_beyond rear) < 3 → fours_of rule b Black Row p ≡ 0
  few_fours few =
      let ahead = near Ahead in
      let behind = near Behind in
      let past_ahead = beyond Ahead (omega (arith, ahead)) in
      let past_behind = beyond Behind (omega (arith, behind)) in
      few-no_fours b Black Row p on_p rule (omega (arith, ahead, behind, past_ahead, past_behind))
