-- The fours of a stone of Black on its line, as the two halves of the line tell them.
use Rattle.std.proofs.Common.{◌≡◌, ◌≢◌, ℕ, zero, suc, ◌+◌, ◌-◌, ◌≤◌, ◌<◌, inl, inr, Bool, true, false, ◌&&◌, ◌||◌, not, List, refl, sym, ap}
use Rattle.std.proofs.Common.{◌∙◌, arith, nat_eq}
use Rattle.std.specs.List.{sum_by, range_with_len}
use Rattle.std.proofs.lemmas.Bool.{cases_lt}
use Rattle.game_rules.proofs.Common.{Grid, along, row_wins, stone_at, fours_of, place_stone, place_wins}
use Rattle.game_rules.specs.declared.Cell.{Cell}
use Rattle.game_rules.specs.declared.RuleKind.{RuleKind}
use Rattle.game_rules.specs.declared.Point.{Point}
use Rattle.game_rules.specs.declared.Side.TheVariants.{Black}
use Rattle.game_rules.specs.declared.Axis.TheVariants.{Row}
use Rattle.game_rules.specs.declared.Way.TheVariants.{Ahead, Behind}
use Rattle.game_rules.proofs.Lines.{along-same, along-zero}
use Rattle.game_rules.proofs.Tests.{eq_true, eq_from, lt_true, lt_false}
use Rattle.row_shapes.specs.Gaps.{listed, is_four, are_stones, fours_from}
use Rattle.row_shapes.specs.Halves.{owns, nine_places, free_place, wins_window, is_four_off, fours_off, free_at, SeesLine}
use Rattle.row_shapes.proofs.Counting.{fours_of-gap}
use Rattle.row_shapes.proofs.Alike.{wins_by}
use Rattle.row_shapes.proofs.AlikeFours.{all_same, sum_five, count_four, window_value, kept}
use Rattle.row_shapes.proofs.HalfLines.{stones, frees}

-- what makes a four, where what wins is asked of one window at a time
four_by : (stone wins : ℕ → Bool) (first gap : ℕ) (x y t u v w : Bool) → nat_eq first gap ≡ t → are_stones stone first gap ≡ u
    → nat_eq gap 4 ≡ v → w ≡ u →
    (t ≡ false → u ≡ true → wins (gap + 4 - first) ≡ x) → (t ≡ false → u ≡ true → v ≡ true → wins (3 - first) ≡ y) →
    is_four stone wins first gap ≡ (not (nat_eq first gap) && w && (x || (nat_eq gap 4 && y)))
unfolding is_four
four_by stone wins first gap x y true u v w e f g h i j = rw e refl
four_by stone wins first gap x y false false v w e f g h i j = rw (e, f, h) refl
four_by stone wins first gap x y false true false w e f g h i j = rw (e, f, h, g, i refl refl) refl
four_by stone wins first gap x y false true true w e f g h i j = rw (e, f, h, g, i refl refl, j refl refl refl) refl

module _ (r : ℕ) (rule : RuleKind) (front rear : List Cell) (b : Grid) (p : Point) (low : 4 ≤ r) (high : r ≤ 5)
    (reads : (n : ℕ) → row_wins rule Black n ≡ wins_by r n) (sees : SeesLine front rear b p) where
  abbrev any : Bool
  any = nat_eq r 4

  ahead_stone : (i h k : ℕ) → i ≡ h + k → 1 ≤ k → k ≤ 5 → stone_at b Black (along Row p i h) ≡ owns front k
  ahead_stone i h k e some few = ap (stone_at b Black) (along-same Row p i h k 0 (omega arith))
      ∙ stones r rule front rear b p low high reads sees Ahead k some few

  behind_stone : (i h k : ℕ) → i + k ≡ h → 1 ≤ k → k ≤ 5 → stone_at b Black (along Row p i h) ≡ owns rear k
  behind_stone i h k e some few = ap (stone_at b Black) (along-same Row p i h 0 k (omega arith))
      ∙ stones r rule front rear b p low high reads sees Behind k some few

  -- the nine places around the middle
  nine_here : (i : ℕ) → i < 9 → place_stone b Black Row p i ≡ listed (nine_places front rear) i
  nine_here zero h = behind_stone 0 4 4 (omega arith) (omega arith) (omega arith)
  nine_here (suc zero) h = behind_stone 1 4 3 (omega arith) (omega arith) (omega arith)
  nine_here (suc (suc zero)) h = behind_stone 2 4 2 (omega arith) (omega arith) (omega arith)
  nine_here (suc (suc (suc zero))) h = behind_stone 3 4 1 (omega arith) (omega arith) (omega arith)
  nine_here (suc (suc (suc (suc zero)))) h = ap (stone_at b Black) (along-same Row p 4 4 0 0 (omega arith) ∙ along-zero Row p) ∙ sees.stone
  nine_here (suc (suc (suc (suc (suc zero))))) h = ahead_stone 5 4 1 (omega arith) (omega arith) (omega arith)
  nine_here (suc (suc (suc (suc (suc (suc zero)))))) h = ahead_stone 6 4 2 (omega arith) (omega arith) (omega arith)
  nine_here (suc (suc (suc (suc (suc (suc (suc zero))))))) h = ahead_stone 7 4 3 (omega arith) (omega arith) (omega arith)
  nine_here (suc (suc (suc (suc (suc (suc (suc (suc zero)))))))) h = ahead_stone 8 4 4 (omega arith) (omega arith) (omega arith)
  nine_here (suc (suc (suc (suc (suc (suc (suc (suc (suc i))))))))) h = absurd (omega arith)

  free_here : (i : ℕ) → i < 9 → i ≢ 4 → free_at b (along Row p i 4) ≡ free_place front rear i
  free_here i small apart = elim (cases_lt 4 i) [
    | inl ahead ↦
        let yes = lt_true 4 i ahead in
        ap (free_at b) (along-same Row p i 4 (i - 4) 0 (omega arith))
        ∙ frees r rule front rear b p low high reads sees Ahead (i - 4) (omega arith) (omega arith) ∙ rw yes refl
    | inr behind ↦
        let no = lt_false 4 i behind in
        ap (free_at b) (along-same Row p i 4 0 (4 - i) (omega arith))
        ∙ frees r rule front rear b p low high reads sees Behind (4 - i) (omega arith) (omega arith) ∙ rw no refl
  ]

  -- the place that is left out of a window of stones
  window_here : (start i : ℕ) → start ≤ 4 → start ≤ i → i ≤ start + 4 → i ≢ 4
      → ((k : ℕ) → start ≤ k → k ≤ start + 4 → k ≢ i → stone_at b Black (along Row p k 4) ≡ true)
      → place_wins rule b Black Row p i ≡ wins_window any front rear start i
  window_here start i early from to apart full =
      let free = free_here i (omega arith) apart in
      let before = behind_stone start 5 (5 - start) (omega arith) (omega arith) (omega arith) in
      let after = ahead_stone (start + 5) 4 (start + 1) (omega arith) (omega arith) (omega arith) in
      window_value r rule b Black Row p sees.board reads start i from to full ∙ rw (free, before, after) refl

  stones_here : (first gap : ℕ) → first < 5 → are_stones (listed (nine_places front rear)) first gap ≡ are_stones
      (place_stone b Black Row p) first gap
  unfolding are_stones
  stones_here first gap small = all_same _ _ 5 0 (λ i x y. ap (λ u. nat_eq i gap || u) (sym (nine_here (i + 4 - first) (omega arith))))

  four_here : (first gap : ℕ) → first < 5 → 1 ≤ gap → gap < 5
      → is_four (place_stone b Black Row p) (place_wins rule b Black Row p) first gap ≡ is_four_off any front rear (nine_places front rear)
      first gap
  four_here first gap small some few =
      four_by (place_stone b Black Row p) (place_wins rule b Black Row p) first gap _ _ (nat_eq first gap)
      (are_stones (place_stone b Black Row p) first gap) (nat_eq gap 4) (are_stones (listed (nine_places front rear)) first gap) refl
      refl refl (stones_here first gap small)
      (λ x y. let differ : first ≢ gap = λ f. (let off : true ≡ false = sym (eq_true first gap f) ∙ x in cc) in
      window_here (4 - first) (gap + 4 - first) (omega arith) (omega arith) (omega arith) (λ f. absurd (omega arith))
      (λ k from to other. kept b Black Row p first gap k small y from (omega arith) (λ f. absurd (omega arith))))
      (λ x y z. let differ : first ≢ gap = λ f. (let off : true ≡ false = sym (eq_true first gap f) ∙ x in cc) in
      let last : gap ≡ 4 = eq_from gap 4 z in
      window_here (3 - first) (3 - first) (omega arith) (omega arith) (omega arith) (λ f. absurd (omega arith))
      (λ k from to other. kept b Black Row p first gap k small y (omega arith) (omega arith) (λ f. absurd (omega arith))))

  pub fours_here : fours_of rule b Black Row p ≡ sum_by (fours_off any front rear (nine_places front rear)) (range_with_len 0 5)
  fours_here =
      fours_of-gap rule b Black Row p
      ∙ sum_five (fours_from (place_stone b Black Row p) (place_wins rule b Black Row p))
      (fours_off any front rear (nine_places front rear))
      (λ first small. count_four (is_four (place_stone b Black Row p) (place_wins rule b Black Row p) first)
      (is_four_off any front rear (nine_places front rear) first) (λ gap some few. four_here first gap small some few))
