-- The bytes of a board, and what they tell of it.
use Rattle.std.proofs.Common.{◌≡◌, ℕ, zero, suc, ◌+◌, ◌*◌, ◌<◌, ◌≤◌, ◌/◌, ◌%◌, List, length, get_or, set, replicate, length-set}
use Rattle.std.proofs.Common.{get_or-set_other, get_or-set_same, below_more, inl, inr, refl, sym, ap, subst, ◌∙◌, arith, lit<}
use Rattle.std.proofs.lemmas.Bool.{cases_lt}
use Rattle.std.proofs.lemmas.List.{ext_get_or, get_or_past, get_or-replicate, length-replicate}
use Rattle.std.proofs.lemmas.List.FromFn.{fill_by_all, get_or-map-range_with_len}
use Rattle.game_rules.specs.Grid.{Grid, IsBoard}
use Rattle.game_rules.specs.declared.Cell.{Cell}
use Rattle.game_rules.specs.declared.Cell.TheVariants.{Empty, Black, White}
use Rattle.game_rules.proofs.Boards.{cells_fit, grid_eq}
use Rattle.position_table.specs.Packing.{Packed, packed, bytes_of, byte_at, code_at, code_of}

-- past the last cell the bits are 0
pub code_at-past : (cells : List Cell) (place : ℕ) → length cells ≤ place → code_at cells place ≡ 0
code_at-past cells place past = ap code_of (get_or_past cells place Empty past)

-- past the last cell the bytes are 0
pub byte_at-past : (cells : List Cell) (k : ℕ) → length cells ≤ 4 * k → byte_at cells k ≡ 0
byte_at-past cells k past =
    let first = code_at-past cells (4 * k) past in
    let second = code_at-past cells (4 * k + 1) (omega arith) in
    let third = code_at-past cells (4 * k + 2) (omega arith) in
    let fourth = code_at-past cells (4 * k + 3) (omega arith) in
    omega arith

-- a list of 256 bytes that has each byte of the cells is the bytes of the cells
pub bytes_of-fill : (bytes : List ℕ) (cells : List Cell) → length bytes ≡ 256 → ((k : ℕ) → k < 256 → get_or bytes k 0 ≡ byte_at cells k)
    → bytes ≡ bytes_of cells
unfolding bytes_of
bytes_of-fill bytes cells long each = fill_by_all (byte_at cells) bytes 256 0 long each

-- byte k of the bytes of the cells
pub bytes_of-get : (cells : List Cell) (k : ℕ) → k < 256 → get_or (bytes_of cells) k 0 ≡ byte_at cells k
unfolding bytes_of
bytes_of-get cells k below = get_or-map-range_with_len (byte_at cells) 0 256 k k 0 below (omega arith)

code_of-small : (c : Cell) → code_of c < 4
code_of-small Empty = lit< tt
code_of-small _ = lit< tt

-- the bits of a cell tell the cell
code_of-tells : (c d : Cell) → code_of c ≡ code_of d → c ≡ d
code_of-tells Empty Empty e = refl
code_of-tells Empty Black e = absurd (omega arith)
code_of-tells Empty White e = absurd (omega arith)
code_of-tells Black Empty e = absurd (omega arith)
code_of-tells Black Black e = refl
code_of-tells Black White e = absurd (omega arith)
code_of-tells White Empty e = absurd (omega arith)
code_of-tells White Black e = absurd (omega arith)
code_of-tells White White e = refl

-- four pairs of bits are told by their byte
pub record AreSameFour (a b c d w x y z : ℕ) : Type 0 where
  pub first : a ≡ w
  pub second : b ≡ x
  pub third : c ≡ y
  pub fourth : d ≡ z

four_told : (a b c d w x y z : ℕ) → a < 4 → b < 4 → c < 4 → w < 4 → x < 4 → y < 4
    → a + 4 * b + 16 * c + 64 * d ≡ w + 4 * x + 16 * y + 64 * z → AreSameFour a b c d w x y z
four_told a b c d w x y z ha hb hc hw hx hy e = record {
  first = omega arith;
  second = omega arith;
  third = omega arith;
  fourth = omega arith;
}

byte_told : (s t : List Cell) (k : ℕ) → byte_at s k ≡ byte_at t k
    → AreSameFour (code_at s (4 * k)) (code_at s (4 * k + 1)) (code_at s (4 * k + 2)) (code_at s (4 * k + 3)) (code_at t (4 * k))
    (code_at t (4 * k + 1)) (code_at t (4 * k + 2)) (code_at t (4 * k + 3))
byte_told s t k e =
    four_told (code_at s (4 * k)) (code_at s (4 * k + 1)) (code_at s (4 * k + 2)) (code_at s (4 * k + 3)) (code_at t (4 * k))
    (code_at t (4 * k + 1)) (code_at t (4 * k + 2)) (code_at t (4 * k + 3)) (code_of-small _) (code_of-small _) (code_of-small _)
    (code_of-small _) (code_of-small _) (code_of-small _) e

told_at : (s t : List Cell) (k r : ℕ) → r < 4 → byte_at s k ≡ byte_at t k → code_at s (4 * k + r) ≡ code_at t (4 * k + r)
told_at s t k zero below e = let none : 4 * k + 0 ≡ 4 * k = omega arith in rw none (byte_told s t k e).first
told_at s t k (suc zero) below e = (byte_told s t k e).second
told_at s t k (suc (suc zero)) below e = (byte_told s t k e).third
told_at s t k (suc (suc (suc zero))) below e = (byte_told s t k e).fourth
told_at s t k (suc (suc (suc (suc r)))) below e = absurd (omega arith)

-- equal bytes tell equal bits at each of their places
code_told : (s t : List Cell) (i : ℕ) → byte_at s (i / 4) ≡ byte_at t (i / 4) → code_at s i ≡ code_at t i
code_told s t i e =
    let at : 4 * (i / 4) + i % 4 ≡ i = omega arith in
    subst (λ n. code_at s n ≡ code_at t n) at (told_at s t (i / 4) (i % 4) (omega arith) e)

-- cells of one number with the same bytes are the same
cells_told : (s t : List Cell) → length s ≡ length t → length s ≤ 1024 → bytes_of s ≡ bytes_of t → s ≡ t
cells_told s t long fits e =
    ext_get_or Empty s t long (λ i below.
    let in_bytes : i / 4 < 256 = omega arith in
    let bytes : byte_at s (i / 4) ≡ byte_at t (i / 4) =
    sym (bytes_of-get s (i / 4) in_bytes) ∙ ap (λ l. get_or l (i / 4) 0) e ∙ bytes_of-get t (i / 4) in_bytes in
    code_of-tells (get_or s i Empty) (get_or t i Empty) (code_told s t i bytes))

-- two boards that are packed alike are the same board
pub packed-tells : (a b : Grid) → IsBoard a → IsBoard b → packed a ≡ packed b → a ≡ b
packed-tells a b in_a in_b e =
    let width : a.width ≡ b.width = ap (λ (k : Packed). k.width) e in
    let height : a.height ≡ b.height = ap (λ (k : Packed). k.height) e in
    let bytes : bytes_of a.cells ≡ bytes_of b.cells = ap (λ (k : Packed). k.bytes) e in
    let area : a.width * a.height ≡ b.width * b.height = cc in
    grid_eq a b width height (cells_told a.cells b.cells (in_a.filled ∙ area ∙ sym in_b.filled) (cells_fit a in_a) bytes)

-- the first k bytes are those of the cells, and the others are 0
pub record IsPackedTo (cells : List Cell) (bytes : List ℕ) (k : ℕ) : Type 0 where
  pub long : length bytes ≡ 256
  pub filled : (j : ℕ) → j < k → get_or bytes j 0 ≡ byte_at cells j
  pub blank : (j : ℕ) → k ≤ j → get_or bytes j 0 ≡ 0

pub packed_to-more : (cells : List Cell) (bytes : List ℕ) (k byte : ℕ) → k < 256 → IsPackedTo cells bytes k → byte ≡ byte_at cells k
    → IsPackedTo cells (set bytes k byte) (k + 1)
packed_to-more cells bytes k byte within so_far e = record {
  long = length-set bytes k byte ∙ so_far.long;
  filled = below_more _ _
      (λ j below. get_or-set_other bytes k j byte 0 (λ (same : j ≡ k). absurd (omega arith)) ∙ so_far.filled j below)
      (get_or-set_same bytes k byte 0 (let long = so_far.long in omega arith) ∙ e);
  blank = λ j past. get_or-set_other bytes k j byte 0 (λ (same : j ≡ k). absurd (omega arith)) ∙ so_far.blank j (omega arith);
}

-- where no cell is left, all bytes are right
pub packed_to-end : (cells : List Cell) (bytes : List ℕ) (k : ℕ) → IsPackedTo cells bytes k → length cells ≤ 4 * k → bytes ≡ bytes_of cells
packed_to-end cells bytes k so_far past =
    bytes_of-fill bytes cells so_far.long (λ j in_bytes. elim (cases_lt j k) [
      | inl before ↦ so_far.filled j before
      | inr after ↦ so_far.blank j after ∙ sym (byte_at-past cells j (omega arith))
    ])

-- where all bytes are filled, all are right
pub packed_to-full : (cells : List Cell) (bytes : List ℕ) (k : ℕ) → IsPackedTo cells bytes k → 256 ≤ k → bytes ≡ bytes_of cells
packed_to-full cells bytes k so_far all = bytes_of-fill bytes cells so_far.long (λ j in_bytes. so_far.filled j (omega arith))

blank_at : (n j : ℕ) → ◌≡◌ {A = ℕ} (get_or (replicate n 0) j 0) 0
blank_at n j = elim (cases_lt j n) [
  | inl within ↦ get_or-replicate n j 0 0 within
  | inr past ↦ get_or_past (replicate n 0) j 0 (simp length-replicate past)
]

-- before the first cell all bytes are 0
pub packed_to-none : (cells : List Cell) (n : ℕ) → n ≡ 256 → IsPackedTo cells (replicate n 0) 0
packed_to-none cells n all = record {
  long = length-replicate n 0 ∙ all;
  filled = λ j before. absurd (omega arith);
  blank = λ j past. blank_at n j;
}
