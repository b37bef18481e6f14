-- The bits of lines: a turn of a point's bits on its four lines changes what is told of that point and side, and nothing else.
use Rattle.std.proofs.Common.{◌≡◌, ◌≢◌, ◌⊎◌, inl, inr, ℕ, zero, suc, ◌+◌, ◌*◌, ◌%◌, ◌^◌, ◌<◌, true, false, cond, ◌&&◌, refl, sym, ap, subst}
use Rattle.std.proofs.Common.{◌∙◌, arith, List, length, replicate, slice_index_or, bit_xor}
use Rattle.std.specs.Int.{bit_at}
use Rattle.std.proofs.lemmas.Bool.{cases_eq, cases_lt, both_ways}
use Rattle.std.proofs.Math.Bool.{and-false}
use Rattle.std.proofs.lemmas.List.{get_or-set_same, get_or-set_other, get_or-replicate, length-replicate, get_or_past}
use Rattle.std.proofs.Math.ListN.{length-set}
use Rattle.std.proofs.lemmas.Nat.Bits.{bit_at_xor, bit_at-pow_same, bit_at-pow_other, bit_at-lt, bit_at-zero}
use Rattle.stone_board.proofs.Common.{Grid, IsBoard, is_on, is_empty, is_stone_of, stone_of, place_of, holds, put, lift, Cell, Empty, Side}
use Rattle.stone_board.proofs.Common.{Black, White, Axis, Row, Column, Down, Up, Point, line_of, place_on, axis_number, side_number}
use Rattle.stone_board.proofs.Common.{index_of, told, AreLines, turned, all_turned}
use Rattle.game_rules.proofs.Boards.{Apart, same_or_apart, not-apart, and_left, empty_holds, stone_of_side, holds-put_same, holds-put_other}
use Rattle.game_rules.proofs.Boards.{is_empty-on, on_x, on_y}
use Rattle.game_rules.proofs.Positions.{holds-other, put-lift, lift-empty, IsBoard-lift}
use Rattle.game_rules.proofs.Cells.{empty_cell, empty_stone}

-- ---- a point, its axis and a side are told by an index and a place

-- a point of some board
pub record IsNear (p : Point) : Type 0 where
  pub column : p.x < 32
  pub row : p.y < 32

pub line_low : (d : Axis) (p : Point) → IsNear p → line_of d p < 64
line_low Row p near = omega arith
line_low Column p near = omega arith
line_low Down p near = omega arith
line_low Up p near = omega arith

side_low : (s : Side) → side_number s < 2
side_low Black = omega arith
side_low White = omega arith

axis_low : (d : Axis) → axis_number d < 4
axis_low Row = omega arith
axis_low Column = omega arith
axis_low Down = omega arith
axis_low Up = omega arith

same_side : (s t : Side) → side_number s ≡ side_number t → s ≡ t
same_side Black Black h = refl
same_side Black White h = absurd (omega arith)
same_side White Black h = absurd (omega arith)
same_side White White h = refl

numbered : ℕ → Axis
numbered zero = Row
numbered (suc zero) = Column
numbered (suc (suc zero)) = Down
numbered (suc (suc (suc n))) = Up

numbered_again : (d : Axis) → numbered (axis_number d) ≡ d
unfolding numbered
numbered_again Row = refl
numbered_again Column = refl
numbered_again Down = refl
numbered_again Up = refl

same_axis : (d e : Axis) → axis_number d ≡ axis_number e → d ≡ e
same_axis d e h = sym (numbered_again d) ∙ ap numbered h ∙ numbered_again e

parts : (a c n m u v : ℕ) → n < 64 → m < 64 → u < 2 → v < 2 → 128 * a + 2 * n + u ≡ 128 * c + 2 * m + v → (a ≡ c) × (n ≡ m) × (u ≡ v)
parts a c n m u v n_low m_low u_low v_low h = (omega arith, omega arith, omega arith)

pub same_place : (d : Axis) (p q : Point) → IsNear p → IsNear q → line_of d p ≡ line_of d q → place_on d p ≡ place_on d q → p ≡ q
same_place d p q near close line place =
    elim (same_or_apart p q) [ inl same ↦ same | inr apart ↦ absurd (by_axis d line place apart) ] where
      by_axis : (d : Axis) → line_of d p ≡ line_of d q → place_on d p ≡ place_on d q → Apart p q → ⊥
      by_axis Row line place apart = apart.apart (omega arith) (omega arith)
      by_axis Column line place apart = apart.apart (omega arith) (omega arith)
      by_axis Down line place apart = apart.apart (omega arith) (omega arith)
      by_axis Up line place apart = apart.apart (omega arith) (omega arith)

-- ---- one turn

module _ (lines : List ℕ) (s : Side) (d : Axis) (p : Point) where
  pub length-turned : length (turned lines s d p) ≡ length lines
  unfolding turned
  length-turned = length-set lines _ _

  turned-same : index_of s d (line_of d p) < length lines → told (turned lines s d p) s d p ≡ (told lines s d p + 1) % 2
  unfolding turned
  turned-same within =
      let i : ℕ = index_of s d (line_of d p) in
      let k : ℕ = place_on d p in
      ap (λ n. bit_at n k) (get_or-set_same lines i (bit_xor (slice_index_or lines i 0) (2 ^ k)) 0 within)
      ∙ bit_at_xor (slice_index_or lines i 0) (2 ^ k) k ∙ ap (λ n. (told lines s d p + n) % 2) (bit_at-pow_same k)

  turned-other : (t : Side) (e : Axis) (q : Point) → index_of s d (line_of d p) < length lines
      → (index_of t e (line_of e q) ≡ index_of s d (line_of d p) → place_on e q ≡ place_on d p → ⊥)
      → told (turned lines s d p) t e q ≡ told lines t e q
  unfolding turned
  turned-other t e q within differ =
      let i : ℕ = index_of s d (line_of d p) in
      let j : ℕ = index_of t e (line_of e q) in
      let k : ℕ = place_on d p in
      let n : ℕ = place_on e q in
      let bits : ℕ = bit_xor (slice_index_or lines i 0) (2 ^ k) in
      elim (cases_eq j i) [
        | inr other ↦ ap (λ m. bit_at m n) (get_or-set_other lines i j bits 0 other)
        | inl same ↦
            let apart : n ≢ k = differ same in
            let low = bit_at-lt (slice_index_or lines j 0) n in
            ap (λ m. bit_at (slice_index_or (turned lines s d p) m 0) n) same ∙ ap (λ m. bit_at m n) (get_or-set_same lines i bits 0 within)
            ∙ bit_at_xor (slice_index_or lines i 0) (2 ^ k) n ∙ ap (λ m. (bit_at (slice_index_or lines i 0) n + m) % 2)
            (bit_at-pow_other k n apart) ∙ ap (λ m. (bit_at (slice_index_or lines m 0) n + 0) % 2) (sym same) ∙ omega (arith, low)
      ]

-- ---- the four turns of a point

module _ (lines : List ℕ) (s : Side) (p : Point) (all : length lines ≡ 512) (near : IsNear p) where
  within : (d : Axis) (more : List ℕ) → length more ≡ 512 → index_of s d (line_of d p) < length more
  within d more full =
      let line = line_low d p near in
      let side = side_low s in
      let axis = axis_low d in
      omega (arith, full, line, side, axis)

  abbrev first : List ℕ
  first = turned lines s Row p

  abbrev second : List ℕ
  second = turned first s Column p

  abbrev third : List ℕ
  third = turned second s Down p

  full_first : length first ≡ 512
  full_first = length-turned lines s Row p ∙ all

  full_second : length second ≡ 512
  full_second = length-turned first s Column p ∙ full_first

  full_third : length third ≡ 512
  full_third = length-turned second s Down p ∙ full_second

  pub length-all_turned : length (all_turned lines s p) ≡ 512
  unfolding all_turned
  length-all_turned = length-turned third s Up p ∙ full_third

  -- a bit that is another's stays in each turn
  stays : (t : Side) (e : Axis) (q : Point) → IsNear q → (d : Axis) (more : List ℕ) → length more ≡ 512 → (t ≡ s → e ≡ d → q ≡ p → ⊥)
      → told (turned more s d p) t e q ≡ told more t e q
  stays t e q close d more full differ = turned-other more s d p t e q (within d more full) (λ index place.
      let same = parts (axis_number e) (axis_number d) (line_of e q) (line_of d p) (side_number t) (side_number s)
      (line_low e q close) (line_low d p near) (side_low t) (side_low s) index in
      let axis : e ≡ d = same_axis e d same.0 in
      let line : line_of d q ≡ line_of d p = ap (λ (a : Axis). line_of a q) (sym axis) ∙ same.1 in
      let there : place_on d q ≡ place_on d p = ap (λ (a : Axis). place_on a q) (sym axis) ∙ place in
      differ (same_side t s same.2) axis (same_place d q p close near line there))

  pub all_turned-other : (t : Side) (e : Axis) (q : Point) → IsNear q → (t ≡ s → q ≡ p → ⊥)
      → told (all_turned lines s p) t e q ≡ told lines t e q
  unfolding all_turned
  all_turned-other t e q close differ = stays t e q close Up third full_third (λ side axis point. differ side point)
      ∙ stays t e q close Down second full_second (λ side axis point. differ side point) ∙ stays t e q close Column first full_first
      (λ side axis point. differ side point) ∙ stays t e q close Row lines all (λ side axis point. differ side point)

  pub all_turned-same : (e : Axis) → told (all_turned lines s p) s e p ≡ (told lines s e p + 1) % 2
  unfolding all_turned
  all_turned-same Row =
      stays s Row p near Up third full_third (λ side axis point. cc) ∙ stays s Row p near Down second full_second (λ side axis point. cc)
      ∙ stays s Row p near Column first full_first (λ side axis point. cc) ∙ turned-same lines s Row p (within Row lines all)
  all_turned-same Column = stays s Column p near Up third full_third (λ side axis point. cc)
      ∙ stays s Column p near Down second full_second (λ side axis point. cc) ∙ turned-same first s Column p
      (within Column first full_first) ∙ ap (λ n. (n + 1) % 2) (stays s Column p near Row lines all (λ side axis point. cc))
  all_turned-same Down = stays s Down p near Up third full_third (λ side axis point. cc)
      ∙ turned-same second s Down p (within Down second full_second) ∙ ap (λ n. (n + 1) % 2)
      (stays s Down p near Column first full_first (λ side axis point. cc) ∙ stays s Down p near Row lines all (λ side axis point. cc))
  all_turned-same Up = turned-same third s Up p (within Up third full_third)
      ∙ ap (λ n. (n + 1) % 2) (stays s Up p near Down second full_second (λ side axis point. cc)
      ∙ stays s Up p near Column first full_first (λ side axis point. cc) ∙ stays s Up p near Row lines all (λ side axis point. cc))

-- ---- a stone that comes and goes

pub board-near : (b : Grid) (p : Point) → IsBoard b → is_on b p ≡ true → IsNear p
board-near b p ok on =
    let x = on_x b p on in
    let y = on_y b p on in
    record { column = omega (arith, x, ok.width_fits); row = omega (arith, y, ok.height_fits) }

-- s has no stone where t has one that is put, or they are one
rival : (s t : Side) → (t ≡ s) ⊎ (is_stone_of t (stone_of s) ≡ false)
rival Black Black = inl refl
rival Black White = inr refl
rival White Black = inr refl
rival White White = inl refl

module _ (b : Grid) (s : Side) (p : Point) (ok : IsBoard b) (empty : is_empty b p ≡ true) where
  here : is_on b p ≡ true
  here = is_empty-on b p empty

  close : IsNear p
  close = board-near b p ok here

  -- of another side, or another point, both boards say the same
  else-same : (t : Side) (q : Point) → (t ≡ s → q ≡ p → ⊥) → holds (put b s p) t q ≡ holds b t q
  else-same t q differ = elim (rival s t) [
    | inr other ↦ holds-other b s t p ok empty other q
    | inl side ↦ elim (same_or_apart p q) [ inr apart ↦ holds-put_other b s t p q here apart | inl same ↦ absurd (differ side (sym same)) ]
  ]

  -- the bit of a side and a point is that of the stone, or another
  stone_or_else : (t : Side) (q : Point) → ((t ≡ s) × (q ≡ p)) ⊎ (t ≡ s → q ≡ p → ⊥)
  stone_or_else t q = elim (same_or_apart p q) [
    | inr apart ↦ inr (λ side same. not-apart p (subst (λ (r : Point). Apart p r) same apart))
    | inl same ↦ elim (rival s t) [
      | inl side ↦ inl (side, sym same)
      | inr other ↦ inr (λ side point. both_ways _ other (ap (λ (u : Side). is_stone_of u (stone_of s)) side ∙ stone_of_side s))
    ]
  ]

  module _ (lines : List ℕ) where
    abbrev more : List ℕ
    more = all_turned lines s p

    put-told : AreLines b lines → (t : Side) (e : Axis) (q : Point) → is_on b q ≡ true → told more t e q ≡ cond (holds (put b s p) t q) 1 0
    put-told h t e q on = elim (stone_or_else t q) [
      | inl same ↦
          let turn = all_turned-same lines s p h.all close e in
          let before : told lines s e p ≡ 0 = h.stones s e p here ∙ ap (λ r. cond r 1 0) (empty_holds b s p empty) in
          let after : told more s e p ≡ cond (holds (put b s p) s p) 1 0 =
          turn ∙ ap (λ n. (n + 1) % 2) before ∙ sym (ap (λ r. cond r 1 0) (holds-put_same b s p ok here)) in
          subst (λ (u : Side). told more u e q ≡ cond (holds (put b s p) u q) 1 0)
          (sym same.0) (subst (λ (r : Point). told more s e r ≡ cond (holds (put b s p) s r) 1 0) (sym same.1) after)
      | inr differ ↦ all_turned-other lines s p h.all close t e q (board-near b q ok on) differ
          ∙ h.stones t e q on ∙ sym (ap (λ r. cond r 1 0) (else-same t q differ))
    ]

    lift-told : AreLines (put b s p) lines → (t : Side) (e : Axis) (q : Point) → is_on b q ≡ true → told more t e q ≡ cond (holds b t q) 1 0
    lift-told h t e q on = elim (stone_or_else t q) [
      | inl same ↦
          let turn = all_turned-same lines s p h.all close e in
          let before : told lines s e p ≡ 1 = h.stones s e p here ∙ ap (λ r. cond r 1 0) (holds-put_same b s p ok here) in
          let after : told more s e p ≡ cond (holds b s p) 1 0 =
          turn ∙ ap (λ n. (n + 1) % 2) before ∙ sym (ap (λ r. cond r 1 0) (empty_holds b s p empty)) in
          subst (λ (u : Side). told more u e q ≡ cond (holds b u q) 1 0)
          (sym same.0) (subst (λ (r : Point). told more s e r ≡ cond (holds b s r) 1 0) (sym same.1) after)
      | inr differ ↦ all_turned-other lines s p h.all close t e q (board-near b q ok on) differ
          ∙ h.stones t e q on ∙ ap (λ r. cond r 1 0) (else-same t q differ)
    ]

    -- with a stone more, and with one less
    pub AreLines-put : AreLines b lines → AreLines (put b s p) more
    AreLines-put h = record { all = length-all_turned lines s p h.all close; stones = put-told h }

    pub AreLines-unput : AreLines (put b s p) lines → AreLines b more
    AreLines-unput h = record { all = length-all_turned lines s p h.all close; stones = lift-told h }

pub AreLines-lift : (b : Grid) (s : Side) (p : Point) (lines : List ℕ) → IsBoard b → holds b s p ≡ true → AreLines b lines
    → AreLines (lift b p) (all_turned lines s p)
AreLines-lift b s p lines ok mine h =
    let there : is_on b p ≡ true = and_left (is_on b p) _ mine in
    AreLines-unput (lift b p) s p (IsBoard-lift b p ok) (lift-empty b p ok there) lines
    (subst (λ (c : Grid). AreLines c lines) (sym (put-lift b s p mine)) h)

-- ---- the empty board

pub AreLines-empty : (width height : ℕ) → AreLines (record { width = width; height = height; cells = replicate (width * height) Empty })
    (replicate 512 0)
AreLines-empty width height =
    let b : Grid = record { width = width; height = height; cells = replicate (width * height) Empty } in
    record {
      all = length-replicate 512 no_bits;
      stones = λ s d p on. ap (λ (n : ℕ). bit_at n (place_on d p)) (none 512 (index_of s d (line_of d p))) ∙ bit_at-zero (place_on d p)
          ∙ sym (ap (λ (c : Cell). cond (is_on b p && is_stone_of s c) 1 0) (empty_cell (width * height) (place_of b p))
          ∙ ap (λ r. cond (is_on b p && r) 1 0) (empty_stone s) ∙ ap (λ r. cond r 1 0) (and-false (is_on b p)));
    } where
      no_bits : ℕ
      no_bits = 0

      none : (n i : ℕ) → slice_index_or (replicate n no_bits) i no_bits ≡ no_bits
      none n i = elim (cases_lt i n) [
        | inl less ↦ get_or-replicate n i 0 0 less
        | inr past ↦ get_or_past (replicate n 0) i 0 (let m = length-replicate n no_bits in omega (arith, m, past))
      ]
