-- Rows of bits: what they tell of the points some steps ahead or back on an axis.
use Rattle.std.proofs.Common.{rules, ◌≡◌, inl, inr, ℕ, ◌+◌, ◌-◌, ◌*◌, ◌/◌, ◌%◌, ◌^◌, ◌≤◌, ◌<◌, Bool, true, false, cond}
use Rattle.std.proofs.Common.{nat_le, List, replicate, set, refl, sym, ap, ◌∙◌, arith, Option, Some, None}
use Rattle.std.specs.Prelude.{slice_index_or}
use Rattle.std.specs.Int.{bit_at}
use Rattle.std.proofs.lemmas.Bool.{cases_eq, cases_lt}
use Rattle.std.proofs.lemmas.Bool.Decides.{nat_tests}
use Rattle.std.proofs.lemmas.List.{get_or-set_same, get_or-set_other, get_or-replicate, length-replicate, get_or_past, length-set}
use Rattle.std.proofs.lemmas.Nat.{pow_pos, div-add-mod'}
use Rattle.std.proofs.lemmas.Nat.Bits.{bit_at-zero, bit_at_cat_low, bit_at_cat_high}
use Rattle.game_rules.proofs.Common.{along}
use Rattle.game_rules.specs.declared.Axis.{Axis}
use Rattle.game_rules.specs.declared.Axis.TheVariants.{Row, Column, Down, Up}
use Rattle.game_rules.specs.declared.Point.{Point}
use Rattle.game_rules.proofs.Lines.{OnLine-along}
use Rattle.stone_board.proofs.Ones.{bit_shr}
use Rattle.open_windows.specs.Rows.{TellsRows, TellsTo, point_at, stepped, stepped_back}

abbrev pub one : Bool → ℕ
one r = cond r 1 0

pub zeros : (n i : ℕ) → ◌≡◌ {A = ℕ} (slice_index_or (replicate n 0) i 0) 0
zeros n i = elim (cases_lt i n) [
  | inl less ↦ get_or-replicate n i 0 0 less
  | inr past ↦ get_or_past (replicate n 0) i 0 (let m = length-replicate {A = ℕ} n 0 in omega (arith, m, past))
]

-- a bit of a number that is shifted up in 32 bits
kept : (n x : ℕ) → x < 32 → bit_at (n % 4294967296) x ≡ bit_at n x
kept n x low = sym (bit_at_cat_low (n / 2 ^ 32) 32 (n % 2 ^ 32) x low) ∙ ap (λ m. bit_at m x) (div-add-mod' n (2 ^ 32))

shl_low : (n k x : ℕ) → x < 32 → x < k → bit_at (n * 2 ^ k % 4294967296) x ≡ 0
shl_low n k x low under =
    let same : n * 2 ^ k ≡ n * 2 ^ k + 0 = omega arith in
    kept (n * 2 ^ k) x low ∙ ap (λ m. bit_at m x) same ∙ bit_at_cat_low n k 0 x under ∙ bit_at-zero x

shl_high : (n k x : ℕ) → x < 32 → k ≤ x → bit_at (n * 2 ^ k % 4294967296) x ≡ bit_at n (x - k)
shl_high n k x low over =
    let same : n * 2 ^ k ≡ n * 2 ^ k + 0 = omega arith in
    kept (n * 2 ^ k) x low ∙ ap (λ m. bit_at m x) same ∙ bit_at_cat_high n k 0 x (pow_pos k) over

pub at_row : (i x : ℕ) → 4 ≤ i → point_at i x ≡ Some (record { x = x; y = i - 4 })
at_row i x low = let test : nat_le 4 i ≡ true = grind (arith, nat_tests) in rw test refl

before : (i x : ℕ) → i < 4 → point_at i x ≡ None
before i x low = let test : nat_le 4 i ≡ false = grind (arith, nat_tests) in rw test refl

module _ (f : Option Point → Bool) (nowhere : f None ≡ false) where
  pub tells-none : TellsTo f (replicate 40 0) 4
  tells-none = record {
    all = length-replicate {A = ℕ} 40 0;
    bits = λ i x low. ap (λ n. bit_at n x) (zeros 40 i) ∙ bit_at-zero x ∙ sym (ap one (ap f (before i x low) ∙ nowhere));
    none = λ i past. zeros 40 i;
  }

  pub tells-more : (rows : List ℕ) (n m v : ℕ) → n + 1 ≡ m → n < 40 → TellsTo f rows n → ((x : ℕ) → bit_at v x ≡ one (f (point_at n x)))
      → TellsTo f (set rows n v) m
  tells-more rows n m v next within h told = record {
    all = length-set rows n v ∙ h.all;
    bits = λ i x low. elim (cases_eq i n) [
      | inl same ↦ ap (λ j. bit_at (slice_index_or (set rows n v) j 0) x) same
          ∙ ap (λ k. bit_at k x) (get_or-set_same rows n v 0 (let all = h.all in omega (arith, all, within)))
          ∙ told x ∙ ap (λ j. one (f (point_at j x))) (sym same)
      | inr other ↦ ap (λ k. bit_at k x) (get_or-set_other rows n i v 0 other) ∙ h.bits i x (omega (arith, low, other, next))
    ];
    none = λ i past. get_or-set_other rows n i v 0 (λ same. absurd (omega (arith, past, same, next)))
        ∙ h.none i (omega (arith, past, next));
  }

  pub tells-all : (rows : List ℕ) (n : ℕ) → TellsTo f rows n → ((i x : ℕ) → n ≤ i → f (point_at i x) ≡ false) → TellsRows f rows
  tells-all rows n h off = record {
    all = h.all;
    bits = λ i x low. elim (cases_lt i n) [
      | inl less ↦ h.bits i x less
      | inr past ↦ ap (λ m. bit_at m x) (h.none i past) ∙ bit_at-zero x ∙ sym (ap one (off i x past))
    ];
  }

  module _ (rows : List ℕ) (tells : TellsRows f rows) (i x : ℕ) (low : 4 ≤ i) (high : i < 36) where
    abbrev here : Point
    here = record { x = x; y = i - 4 }

    -- a bit of number j tells of a point some steps from here
    told : (j m : ℕ) (o : Option Point) → j < 40 → point_at j m ≡ o → bit_at (slice_index_or rows j 0) m ≡ one (f o)
    told j m o within at = tells.bits j m within ∙ ap (λ (q : Option Point). one (f q)) at

    there : (d : Axis) (ahead back j m : ℕ) → 4 ≤ j → along d here ahead back ≡ Some (record { x = m; y = j - 4 })
        → point_at j m ≡ along d here ahead back
    there d ahead back j m low at = at_row j m low ∙ sym at

    above : (k : ℕ) → i - 4 < k → along Up here k 0 ≡ None
    above k far = search rules

    pub step_bit : (d : Axis) (k : ℕ) → k < 5 → bit_at (stepped rows d i k) x ≡ one (f (along d here k 0))
    step_bit Row k near =
        bit_shr (slice_index_or rows i 0) k x
        ∙ told i (x + k) _ (omega (arith, high)) (there Row k 0 i (x + k) low (OnLine-along Row here k 0 _ (omega arith, refl)))
    step_bit Column k near = told (i + k) x _ (omega (arith, high, near))
        (there Column k 0 (i + k) x (omega (arith, low)) (OnLine-along Column here k 0 _ (refl, omega (arith, low))))
    step_bit Down k near =
        bit_shr (slice_index_or rows (i + k) 0) k x
        ∙ told (i + k) (x + k) _ (omega (arith, high, near))
        (there Down k 0 (i + k) (x + k) (omega (arith, low)) (OnLine-along Down here k 0 _ (omega arith, omega (arith, low))))
    step_bit Up k near = bit_shr (slice_index_or rows (i - k) 0) k x ∙ elim (cases_lt (i - 4) k) [
      | inl far ↦ told (i - k) (x + k) _ (omega (arith, high)) (before (i - k) (x + k) (omega (arith, far, low)) ∙ sym (above k far))
      | inr close ↦ told (i - k) (x + k) _ (omega (arith, high)) (there Up k 0 (i - k) (x + k) (omega (arith, low, close))
          (OnLine-along Up here k 0 _ (omega arith, omega (arith, low, close))))
    ]

    module _ (column : x < 32) where
      left_of : (k : ℕ) → x < k → along Row here 0 k ≡ None
      left_of k far = search rules

      left_down : (k : ℕ) → x < k → along Down here 0 k ≡ None
      left_down k far = search rules

      left_up : (k : ℕ) → x < k → along Up here 0 k ≡ None
      left_up k far = search rules

      over : (k : ℕ) → i - 4 < k → along Column here 0 k ≡ None
      over k far = search rules

      over_down : (k : ℕ) → i - 4 < k → along Down here 0 k ≡ None
      over_down k far = search rules

      nothing : (n k : ℕ) (o : Option Point) → x < k → o ≡ None → bit_at (n * 2 ^ k % 4294967296) x ≡ one (f o)
      nothing n k o far none = shl_low n k x column far ∙ sym (ap one (ap f none ∙ nowhere))

      pub back_bit : (d : Axis) (k : ℕ) → k < 5 → bit_at (stepped_back rows d i k) x ≡ one (f (along d here 0 k))
      back_bit Row k near = elim (cases_lt x k) [
        | inl far ↦ nothing (slice_index_or rows i 0) k _ far (left_of k far)
        | inr close ↦ shl_high (slice_index_or rows i 0) k x column close
            ∙ told i (x - k) _ (omega (arith, high))
            (there Row 0 k i (x - k) low (OnLine-along Row here 0 k _ (omega (arith, close), refl)))
      ]
      back_bit Column k near = elim (cases_lt (i - 4) k) [
        | inl far ↦ told (i - k) x _ (omega (arith, high)) (before (i - k) x (omega (arith, far, low)) ∙ sym (over k far))
        | inr close ↦ told (i - k) x _ (omega (arith, high)) (there Column 0 k (i - k) x (omega (arith, low, close))
            (OnLine-along Column here 0 k _ (refl, omega (arith, low, close))))
      ]
      back_bit Down k near = elim (cases_lt x k) [
        | inl far ↦ nothing (slice_index_or rows (i - k) 0) k _ far (left_down k far)
        | inr close ↦ shl_high (slice_index_or rows (i - k) 0) k x column close ∙ elim (cases_lt (i - 4) k) [
          | inl far ↦ told (i - k) (x - k) _ (omega (arith, high))
              (before (i - k) (x - k) (omega (arith, far, low)) ∙ sym (over_down k far))
          | inr inside ↦ told (i - k) (x - k) _ (omega (arith, high)) (there Down 0 k (i - k) (x - k) (omega (arith, low, inside))
              (OnLine-along Down here 0 k _ (omega (arith, close), omega (arith, low, inside))))
        ]
      ]
      back_bit Up k near = elim (cases_lt x k) [
        | inl far ↦ nothing (slice_index_or rows (i + k) 0) k _ far (left_up k far)
        | inr close ↦ shl_high (slice_index_or rows (i + k) 0) k x column close
            ∙ told (i + k) (x - k) _ (omega (arith, high, near)) (there Up 0 k (i + k) (x - k) (omega (arith, low))
            (OnLine-along Up here 0 k _ (omega (arith, close), omega (arith, low))))
      ]
