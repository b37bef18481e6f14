-- Two gaps that make a row of five with a stone have two more stones of its side within four places of it.
use Rattle.std.proofs.Common.{◌≡◌, inl, inr, ◌⊎◌, ℕ, zero, suc, ◌+◌, ◌-◌, ◌*◌, ◌/◌, ◌%◌, ◌^◌}
use Rattle.std.proofs.Common.{◌≤◌, ◌<◌, true, refl, sym, ap, ◌∙◌, arith, bit_and, count_ones}
use Rattle.std.specs.Int.{bit_at}
use Rattle.std.proofs.lemmas.Bool.{cases_lt}
use Rattle.std.proofs.lemmas.Nat.{pow_pos}
use Rattle.std.proofs.lemmas.Nat.Bits.{bit_at_and, bit_at_lowest, bit_at-suc, bit_at_cat_high}
use lib.Count.{ones_step}
use Rattle.game_rules.proofs.Common.{Grid, IsBoard, is_on, stones_ahead, stones_behind}
use Rattle.game_rules.specs.declared.Side.{Side}
use Rattle.game_rules.specs.declared.Axis.{Axis}
use Rattle.game_rules.specs.declared.Point.{Point}
use Rattle.game_rules.proofs.Boards.{is_empty-on}
use Rattle.stone_board.specs.Lines.{line_of, place_on, TellsLine}
use Rattle.stone_board.proofs.LineBits.{board-near}
use Rattle.stone_board.proofs.LineStones.{along-places, ahead_bit, behind_low, behind_bit}
use Rattle.stone_board.proofs.Ones.{bit_shr}
use Rattle.four_search.proofs.Common.{AreGaps, IsGapOn}

-- ---- two bits of a number

ones-some : (i n : ℕ) → bit_at n i ≡ 1 → 1 ≤ count_ones n
ones-some zero n h = let step = ones_step n in let low = bit_at_lowest n in omega (arith, step, low, h)
ones-some (suc i) n h =
    let step = ones_step n in
    let rest = ones-some i (n / 2) (sym (bit_at-suc n i) ∙ h) in
    omega (arith, step, rest)

ones-two : (i j n : ℕ) → i < j → bit_at n i ≡ 1 → bit_at n j ≡ 1 → 2 ≤ count_ones n
ones-two zero zero n less h k = absurd (omega (arith, less))
ones-two zero (suc j) n less h k =
    let step = ones_step n in
    let low = bit_at_lowest n in
    let rest = ones-some j (n / 2) (sym (bit_at-suc n j) ∙ k) in
    omega (arith, step, low, rest, h)
ones-two (suc i) zero n less h k = absurd (omega (arith, less))
ones-two (suc i) (suc j) n less h k =
    let step = ones_step n in
    let rest = ones-two i j (n / 2) (omega (arith, less)) (sym (bit_at-suc n i) ∙ h) (sym (bit_at-suc n j) ∙ k) in
    omega (arith, step, rest)

-- ---- the two nearest of some stones

-- two of the places one to four steps away in one way
record Twice (X : ℕ → Type 0) : Type 0 where
  low : ℕ
  high : ℕ
  less : low < high
  few : high ≤ 4
  some : 1 ≤ low
  here : X low
  there : X high

-- one of them in each way
record Both (X Y : ℕ → Type 0) : Type 0 where
  fore : ℕ
  back : ℕ
  fore_few : fore ≤ 4
  back_few : back ≤ 4
  fore_some : 1 ≤ fore
  back_some : 1 ≤ back
  here : X fore
  there : Y back

abbrev Two : (ℕ → Type 0) → (ℕ → Type 0) → Type 0
Two X Y = Twice X ⊎ (Both X Y ⊎ Twice Y)

module _ (X Y : ℕ → Type 0) where
  twice : (k j : ℕ) → 1 ≤ k → k < j → j ≤ 4 → X k → X j → Two X Y
  twice k j some less few h l = inl (record { low = k; high = j; less = less; few = few; some = some; here = h; there = l })

  both_ways : (k j : ℕ) → 1 ≤ k → k ≤ 4 → 1 ≤ j → j ≤ 4 → X k → Y j → Two X Y
  both_ways k j some few more less h l = inr (inl (record {
    fore = k;
    back = j;
    fore_few = few;
    back_few = less;
    fore_some = some;
    back_some = more;
    here = h;
    there = l;
  }))

  twice_back : (k j : ℕ) → 1 ≤ k → k < j → j ≤ 4 → Y k → Y j → Two X Y
  twice_back k j some less few h l = inr (inr (record { low = k; high = j; less = less; few = few; some = some; here = h; there = l }))

  -- stones in a row on both sides, past the first gap, and then past the second
  module _ (a c e f : ℕ) (near : (k : ℕ) → 1 ≤ k → k ≤ a → X k) (far : (k : ℕ) → 1 ≤ k → k ≤ c → Y k)
      (past : (k j : ℕ) → 1 ≤ k → k ≤ e → j ≡ a + 1 + k → X j) where
    module _ (more : (k j : ℕ) → 1 ≤ k → k ≤ f → j ≡ a + 1 + e + 1 + k → X j) where
      two_one_way : 2 ≤ a + c + e + f → Two X Y
      two_one_way enough = elim (cases_lt 1 a) [
        | inl two ↦ twice 1 2 (omega arith) (omega arith) (omega arith) (near 1 (omega arith) (omega (arith, two)))
            (near 2 (omega arith) (omega (arith, two)))
        | inr few ↦ elim (cases_lt 0 a) [
          | inl one ↦ elim (cases_lt 0 c) [
            | inl back ↦ both_ways 1 1 (omega arith) (omega arith) (omega arith) (omega arith) (near 1 (omega arith) (omega (arith, one)))
                (far 1 (omega arith) (omega (arith, back)))
            | inr none ↦ elim (cases_lt 0 e) [
              | inl beyond ↦ twice 1 3 (omega arith) (omega arith) (omega arith) (near 1 (omega arith) (omega (arith, one)))
                  (past 1 3 (omega arith) (omega (arith, beyond)) (omega (arith, few, one)))
              | inr empty ↦ twice 1 4 (omega arith) (omega arith) (omega arith) (near 1 (omega arith) (omega (arith, one)))
                  (more 1 4 (omega arith) (omega (arith, enough, few, none, empty)) (omega (arith, few, one, empty)))
            ]
          ]
          | inr bare ↦ elim (cases_lt 1 c) [
            | inl two ↦ twice_back 1 2 (omega arith) (omega arith) (omega arith) (far 1 (omega arith) (omega (arith, two)))
                (far 2 (omega arith) (omega (arith, two)))
            | inr less ↦ elim (cases_lt 0 c) [
              | inl back ↦ elim (cases_lt 0 e) [
                | inl beyond ↦ both_ways 2 1 (omega arith) (omega arith) (omega arith) (omega arith)
                    (past 1 2 (omega arith) (omega (arith, beyond)) (omega (arith, bare))) (far 1 (omega arith) (omega (arith, back)))
                | inr empty ↦ both_ways 3 1 (omega arith) (omega arith) (omega arith) (omega arith)
                    (more 1 3 (omega arith) (omega (arith, enough, bare, less, empty)) (omega (arith, bare, empty)))
                    (far 1 (omega arith) (omega (arith, back)))
              ]
              | inr none ↦ elim (cases_lt 1 e) [
                | inl two ↦ twice 2 3 (omega arith) (omega arith) (omega arith)
                    (past 1 2 (omega arith) (omega (arith, two)) (omega (arith, bare)))
                    (past 2 3 (omega arith) (omega (arith, two)) (omega (arith, bare)))
                | inr least ↦ elim (cases_lt 0 e) [
                  | inl beyond ↦ twice 2 4 (omega arith) (omega arith) (omega arith)
                      (past 1 2 (omega arith) (omega (arith, beyond)) (omega (arith, bare)))
                      (more 1 4 (omega arith) (omega (arith, enough, bare, none, least)) (omega (arith, bare, least, beyond)))
                  | inr empty ↦ twice 3 4 (omega arith) (omega arith) (omega arith)
                      (more 1 3 (omega arith) (omega (arith, enough, bare, none, empty)) (omega (arith, bare, empty)))
                      (more 2 4 (omega arith) (omega (arith, enough, bare, none, empty)) (omega (arith, bare, empty)))
                ]
              ]
            ]
          ]
        ]
      ]

    module _ (more : (k j : ℕ) → 1 ≤ k → k ≤ f → j ≡ c + 1 + k → Y j) where
      two_both_ways : 2 ≤ a + c + e + f → Two X Y
      two_both_ways enough = elim (cases_lt 1 a) [
        | inl two ↦ twice 1 2 (omega arith) (omega arith) (omega arith) (near 1 (omega arith) (omega (arith, two)))
            (near 2 (omega arith) (omega (arith, two)))
        | inr few ↦ elim (cases_lt 0 a) [
          | inl one ↦ elim (cases_lt 0 c) [
            | inl back ↦ both_ways 1 1 (omega arith) (omega arith) (omega arith) (omega arith) (near 1 (omega arith) (omega (arith, one)))
                (far 1 (omega arith) (omega (arith, back)))
            | inr none ↦ elim (cases_lt 0 e) [
              | inl beyond ↦ twice 1 3 (omega arith) (omega arith) (omega arith) (near 1 (omega arith) (omega (arith, one)))
                  (past 1 3 (omega arith) (omega (arith, beyond)) (omega (arith, few, one)))
              | inr empty ↦ both_ways 1 2 (omega arith) (omega arith) (omega arith) (omega arith)
                  (near 1 (omega arith) (omega (arith, one)))
                  (more 1 2 (omega arith) (omega (arith, enough, few, none, empty)) (omega (arith, none)))
            ]
          ]
          | inr bare ↦ elim (cases_lt 1 c) [
            | inl two ↦ twice_back 1 2 (omega arith) (omega arith) (omega arith) (far 1 (omega arith) (omega (arith, two)))
                (far 2 (omega arith) (omega (arith, two)))
            | inr less ↦ elim (cases_lt 0 c) [
              | inl back ↦ elim (cases_lt 0 e) [
                | inl beyond ↦ both_ways 2 1 (omega arith) (omega arith) (omega arith) (omega arith)
                    (past 1 2 (omega arith) (omega (arith, beyond)) (omega (arith, bare))) (far 1 (omega arith) (omega (arith, back)))
                | inr empty ↦ twice_back 1 3 (omega arith) (omega arith) (omega arith) (far 1 (omega arith) (omega (arith, back)))
                    (more 1 3 (omega arith) (omega (arith, enough, bare, less, empty)) (omega (arith, less, back)))
              ]
              | inr none ↦ elim (cases_lt 1 e) [
                | inl two ↦ twice 2 3 (omega arith) (omega arith) (omega arith)
                    (past 1 2 (omega arith) (omega (arith, two)) (omega (arith, bare)))
                    (past 2 3 (omega arith) (omega (arith, two)) (omega (arith, bare)))
                | inr least ↦ elim (cases_lt 0 e) [
                  | inl beyond ↦ both_ways 2 2 (omega arith) (omega arith) (omega arith) (omega arith)
                      (past 1 2 (omega arith) (omega (arith, beyond)) (omega (arith, bare)))
                      (more 1 2 (omega arith) (omega (arith, enough, bare, none, least)) (omega (arith, none)))
                  | inr empty ↦ twice_back 2 3 (omega arith) (omega arith) (omega arith)
                      (more 1 2 (omega arith) (omega (arith, enough, bare, none, empty)) (omega (arith, none)))
                      (more 2 3 (omega arith) (omega (arith, enough, bare, none, empty)) (omega (arith, none)))
                ]
              ]
            ]
          ]
        ]
      ]

-- ---- the bits next to a place

-- the code's number, in 64 bits: the four places next to one in each way
abbrev pub moved : ℕ → ℕ → ℕ
moved bits place = bits * 16 % 18446744073709551616 / 2 ^ place

abbrev pub near_bits : ℕ → ℕ → ℕ
near_bits bits place = bit_and (moved bits place) 495

mask_ahead : (k : ℕ) → 1 ≤ k → k ≤ 4 → bit_at 495 (4 + k) ≡ 1
mask_ahead zero some few = absurd (omega (arith, some))
mask_ahead (suc zero) some few = refl
mask_ahead (suc (suc zero)) some few = refl
mask_ahead (suc (suc (suc zero))) some few = refl
mask_ahead (suc (suc (suc (suc zero)))) some few = refl
mask_ahead (suc (suc (suc (suc (suc k))))) some few = absurd (omega (arith, few))

mask_behind : (k : ℕ) → 1 ≤ k → k ≤ 4 → bit_at 495 (4 - k) ≡ 1
mask_behind zero some few = absurd (omega (arith, some))
mask_behind (suc zero) some few = refl
mask_behind (suc (suc zero)) some few = refl
mask_behind (suc (suc (suc zero))) some few = refl
mask_behind (suc (suc (suc (suc zero)))) some few = refl
mask_behind (suc (suc (suc (suc (suc k))))) some few = absurd (omega (arith, few))

module _ (bits place : ℕ) (fits : bits < 2 ^ 32) where
  moved_bit : (k m : ℕ) → m + 4 ≡ k + place → bit_at (moved bits place) k ≡ bit_at bits m
  moved_bit k m same =
      let whole : bits * 16 % 18446744073709551616 ≡ bits * 2 ^ 4 + 0 = omega (arith, fits) in
      let high : 4 ≤ k + place = omega (arith, same) in
      let there : k + place - 4 ≡ m = omega (arith, same) in
      bit_shr (bits * 16 % 18446744073709551616) place k ∙ ap (λ n. bit_at n (k + place)) whole
      ∙ bit_at_cat_high bits 4 0 (k + place) (pow_pos 4) high ∙ ap (bit_at bits) there

  near_bit : (k m : ℕ) → bit_at 495 k ≡ 1 → m + 4 ≡ k + place → bit_at bits m ≡ 1 → bit_at (near_bits bits place) k ≡ 1
  near_bit k m one same set =
      let both = bit_at_and (moved bits place) 495 k in
      let here = moved_bit k m same in
      omega (arith, both, here, one, set)

  -- a stone so many steps ahead, or behind
  abbrev Fore : ℕ → Type 0
  Fore k = 1 ≤ k → k ≤ 4 → bit_at (near_bits bits place) (4 + k) ≡ 1

  abbrev Back : ℕ → Type 0
  Back k = 1 ≤ k → k ≤ 4 → bit_at (near_bits bits place) (4 - k) ≡ 1

  two_ones : Two Fore Back → 2 ≤ count_ones (near_bits bits place)
  two_ones (inl h) =
      let some = h.some in let less = h.less in let few = h.few in
      ones-two (4 + h.low) (4 + h.high) (near_bits bits place) (omega (arith, less))
      (h.here some (omega (arith, less, few))) (h.there (omega (arith, some, less)) few)
  two_ones (inr (inl h)) =
      let fore = h.fore_some in let back = h.back_some in let few = h.back_few in
      ones-two (4 - h.back) (4 + h.fore) (near_bits bits place) (omega (arith, fore, back, few))
      (h.there back few) (h.here fore h.fore_few)
  two_ones (inr (inr h)) =
      let some = h.some in let less = h.less in let few = h.few in
      ones-two (4 - h.high) (4 - h.low) (near_bits bits place) (omega (arith, less, few))
      (h.there (omega (arith, some, less)) few) (h.here some (omega (arith, less, few)))

-- ---- the stones beside two gaps

module _ (b : Grid) (s : Side) (d : Axis) (p : Point) (bits : ℕ) (ok : IsBoard b) (on : is_on b p ≡ true)
    (tells : TellsLine b s d (line_of d p) bits) (fits : bits < 2 ^ 32) where
  abbrev here : ℕ
  here = place_on d p

  module _ (q : Point) (there : is_on b q ≡ true) (line : line_of d q ≡ line_of d p) where
    fore_of : (m : ℕ) → place_on d q ≡ here + m → (k j : ℕ) → 1 ≤ k → k ≤ stones_ahead b s d q → j ≡ m + k → Fore bits here fits j
    fore_of m place k j some within is = λ low few.
        let bit = ahead_bit b s d (line_of d p) bits ok tells q there line k some within in
        near_bit bits here fits (4 + j) (place_on d q + k) (mask_ahead j low few) (omega (arith, place, is)) bit

    back_of : (m : ℕ) → place_on d q + m ≡ here → (k j : ℕ) → 1 ≤ k → k ≤ stones_behind b s d q → j ≡ m + k → Back bits here fits j
    back_of m place k j some within is = λ low few.
        let bit = behind_bit b s d (line_of d p) bits ok tells q there line k some within in
        let least = behind_low b s d (line_of d p) bits ok tells q there line k within in
        near_bit bits here fits (4 - j) (place_on d q - k) (mask_behind j low few) (omega (arith, place, is, least, few)) bit

  two_by : (q r : Point) → is_on b q ≡ true → is_on b r ≡ true → AreGaps b s d p q r → Two (Fore bits here fits) (Back bits here fits)
  two_by q r one two (inl h) =
      let first = along-places d p q _ 0 (board-near b p ok on) (board-near b q ok one) h.first in
      let second = along-places d q r _ 0 (board-near b q ok one) (board-near b r ok two) h.second in
      let near = first.place in let far = second.place in let enough = h.enough in
      two_one_way (Fore bits here fits) (Back bits here fits) (stones_ahead b s d p) (stones_behind b s d p) (stones_ahead b s d q)
      (stones_ahead b s d r)
      (λ k some within. fore_of p on refl 0 (omega arith) k k some within (omega arith))
      (λ k some within. back_of p on refl 0 (omega arith) k k some within (omega arith))
      (λ k j some within is. fore_of q one first.line (stones_ahead b s d p + 1) (omega (arith, near)) k j some within (omega (arith, is)))
      (λ k j some within is. fore_of r two (second.line ∙ first.line) (stones_ahead b s d p + 1 + stones_ahead b s d q + 1)
      (omega (arith, near, far)) k j some within (omega (arith, is)))
      (omega (arith, enough))
  two_by q r one two (inr (inl h)) =
      let first = along-places d p q 0 _ (board-near b p ok on) (board-near b q ok one) h.first in
      let second = along-places d q r 0 _ (board-near b q ok one) (board-near b r ok two) h.second in
      let near = first.place in let far = second.place in let enough = h.enough in
      swapped (two_one_way (Back bits here fits) (Fore bits here fits) (stones_behind b s d p) (stones_ahead b s d p)
      (stones_behind b s d q)
      (stones_behind b s d r)
      (λ k some within. back_of p on refl 0 (omega arith) k k some within (omega arith))
      (λ k some within. fore_of p on refl 0 (omega arith) k k some within (omega arith))
      (λ k j some within is. back_of q one first.line (stones_behind b s d p + 1) (omega (arith, near)) k j some within (omega (arith, is)))
      (λ k j some within is. back_of r two (second.line ∙ first.line) (stones_behind b s d p + 1 + stones_behind b s d q + 1)
      (omega (arith, near, far)) k j some within (omega (arith, is)))
      (omega (arith, enough))) where
        swapped : Two (Back bits here fits) (Fore bits here fits) → Two (Fore bits here fits) (Back bits here fits)
        swapped (inl t) = inr (inr t)
        swapped (inr (inl t)) = inr (inl (record {
          fore = t.back;
          back = t.fore;
          fore_few = t.back_few;
          back_few = t.fore_few;
          fore_some = t.back_some;
          back_some = t.fore_some;
          here = t.there;
          there = t.here;
        }))
        swapped (inr (inr t)) = inl t
  two_by q r one two (inr (inr h)) =
      let first = along-places d p q _ 0 (board-near b p ok on) (board-near b q ok one) h.ahead in
      let second = along-places d p r 0 _ (board-near b p ok on) (board-near b r ok two) h.behind in
      let near = first.place in let far = second.place in let enough = h.enough in
      two_both_ways (Fore bits here fits) (Back bits here fits) (stones_ahead b s d p) (stones_behind b s d p) (stones_ahead b s d q)
      (stones_behind b s d r)
      (λ k some within. fore_of p on refl 0 (omega arith) k k some within (omega arith))
      (λ k some within. back_of p on refl 0 (omega arith) k k some within (omega arith))
      (λ k j some within is. fore_of q one first.line (stones_ahead b s d p + 1) (omega (arith, near)) k j some within (omega (arith, is)))
      (λ k j some within is. back_of r two second.line (stones_behind b s d p + 1) (omega (arith, far)) k j some within (omega (arith, is)))
      (omega (arith, enough))

  -- a gap on the axis has two stones near the stone that it is seen from
  pub two_near : (x : Point) → IsGapOn b s d p x → 2 ≤ count_ones (near_bits bits here)
  two_near x h = two_ones bits here fits (two_by h.one h.two (is_empty-on b h.one h.one_empty) (is_empty-on b h.two h.two_empty) h.gaps)
