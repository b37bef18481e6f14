-- What a board keeps of its stones, as they come and go.
use Rattle.std.proofs.Common.{◌≡◌, ℕ, zero, suc, ◌+◌, ◌-◌, ◌*◌, ◌<◌, ◌≤◌, true, subst, replicate, cond, sym, ap, ◌∙◌, List, [], ◌∷◌, length}
use Rattle.std.proofs.Common.{refl, arith, slice_index_or, count_by}
use Rattle.std.proofs.lemmas.List.{length-replicate}
use Rattle.std.proofs.lemmas.List.Folds.{sum_by-replicate}
use Rattle.game_rules.proofs.Cells.{empty_stone}
use Rattle.stone_board.proofs.Common.{Grid, IsBoard, is_on, is_empty, is_stone_of, stone_of, holds, put, lift, Cell, Empty, MAX_SIDE, Point}
use Rattle.stone_board.proofs.Common.{Side, Black, White, IsKept, all_turned}
use Rattle.game_rules.proofs.Common.{stones_of}
use Rattle.game_rules.specs.declared.TheConstants.{MIN_SIDE}
use Rattle.game_rules.proofs.Positions.{stones_of-put, IsBoard-put, put-lift, lift-empty, IsBoard-lift}
use Rattle.game_rules.proofs.Boards.{and_left}
use Rattle.stone_board.proofs.LineBits.{AreLines-put, AreLines-lift, AreLines-empty}

pub put-black : (b : Grid) (p : Point) (black white : ℕ) (bits : List ℕ) → IsKept b black white bits → is_empty b p ≡ true
    → IsKept (put b Black p) (black + 1) white (all_turned bits Black p)
put-black b p black white bits kept empty = record {
  lines = AreLines-put b Black p kept.board empty bits kept.lines;
  board = IsBoard-put b Black p kept.board;
  blacks = let one = stones_of-put b Black Black p kept.board empty in let same = kept.blacks in omega (arith, one, same);
  whites = let none = stones_of-put b Black White p kept.board empty in let same = kept.whites in omega (arith, none, same);
}

pub put-white : (b : Grid) (p : Point) (black white : ℕ) (bits : List ℕ) → IsKept b black white bits → is_empty b p ≡ true
    → IsKept (put b White p) black (white + 1) (all_turned bits White p)
put-white b p black white bits kept empty = record {
  lines = AreLines-put b White p kept.board empty bits kept.lines;
  board = IsBoard-put b White p kept.board;
  blacks = let none = stones_of-put b White Black p kept.board empty in let same = kept.blacks in omega (arith, none, same);
  whites = let one = stones_of-put b White White p kept.board empty in let same = kept.whites in omega (arith, one, same);
}

-- an item of a list is the same whatever stands for those past its end
pub same_item : {X : Type 0} (xs : List X) (i : ℕ) (c d : X) → i < length xs → slice_index_or xs i c ≡ slice_index_or xs i d
same_item [] i c d h = absurd (omega arith)
same_item (x ∷ xs) zero c d h = refl
same_item (x ∷ xs) (suc i) c d h = same_item xs i c d (omega arith)

-- a stone that is lifted goes from its side's number alone
gone : (b : Grid) (s t : Side) (p : Point) → IsBoard b → holds b s p ≡ true → stones_of b t ≡ stones_of (lift b p) t + cond
    (is_stone_of t (stone_of s)) 1 0
gone b s t p ok mine =
    let there : is_on b p ≡ true = and_left (is_on b p) _ mine in
    ap (λ (c : Grid). stones_of c t) (sym (put-lift b s p mine)) ∙ stones_of-put (lift b p) s t p (IsBoard-lift b p ok)
    (lift-empty b p ok there)

pub lift-black : (b : Grid) (p : Point) (black white : ℕ) (bits : List ℕ) → IsKept b black white bits → holds b Black p ≡ true
    → IsKept (lift b p) (black - 1) white (all_turned bits Black p)
lift-black b p black white bits kept mine = record {
  board = IsBoard-lift b p kept.board;
  blacks = let one = gone b Black Black p kept.board mine in let same = kept.blacks in omega (arith, one, same);
  whites = let none = gone b Black White p kept.board mine in let same = kept.whites in omega (arith, none, same);
  lines = AreLines-lift b Black p bits kept.board mine kept.lines;
}

pub lift-white : (b : Grid) (p : Point) (black white : ℕ) (bits : List ℕ) → IsKept b black white bits → holds b White p ≡ true
    → IsKept (lift b p) black (white - 1) (all_turned bits White p)
lift-white b p black white bits kept mine = record {
  board = IsBoard-lift b p kept.board;
  blacks = let none = gone b White Black p kept.board mine in let same = kept.blacks in omega (arith, none, same);
  whites = let one = gone b White White p kept.board mine in let same = kept.whites in omega (arith, one, same);
  lines = AreLines-lift b White p bits kept.board mine kept.lines;
}

-- a board with no stone
pub kept-empty : (width height : ℕ) (cells : List Cell) (bits : List ℕ)
    → MIN_SIDE ≤ width → width ≤ MAX_SIDE → MIN_SIDE ≤ height → height ≤ MAX_SIDE → cells ≡ replicate (width * height) Empty
    → bits ≡ replicate 512 0 → IsKept (record { width = width; height = height; cells = cells }) 0 0 bits
kept-empty width height cells bits wide width_fits high height_fits e f =
    let b : List Cell → Grid = λ l. record { width = width; height = height; cells = l } in
    let none : (s : Side) → 0 ≡ stones_of (b (replicate (width * height) Empty)) s = λ s. sym (no_stones s (width * height)) in
    subst (λ (l : List Cell). IsKept (b l) 0 0 bits)
    (sym e) (subst (λ (l : List ℕ). IsKept (b (replicate (width * height) Empty)) 0 0 l) (sym f) (record {
      board = record {
        wide = wide;
        width_fits = width_fits;
        high = high;
        height_fits = height_fits;
        filled = length-replicate (width * height) Empty;
      };
      blacks = none Black;
      whites = none White;
      lines = AreLines-empty width height;
    })) where
      no_stones : (s : Side) (n : ℕ) → count_by (is_stone_of s) (replicate n Empty) ≡ 0
      no_stones s n =
          let each = sum_by-replicate (λ c. cond (is_stone_of s c) 1 0) n Empty in
          each ∙ ap (λ r. n * cond r 1 0) (empty_stone s) ∙ omega arith

-- a board whose stones were all taken off
pub kept-cleared : (b : Grid) (black white : ℕ) (bits clear : List ℕ) (cells : List Cell) → IsKept b black white bits
    → cells ≡ replicate (length b.cells) Empty → clear ≡ replicate (length bits) 0 → IsKept (record b { cells = cells }) 0 0 clear
kept-cleared b black white bits clear cells kept bare none =
    let no_bits : ℕ = 0 in
    kept-empty b.width b.height cells clear kept.board.wide kept.board.width_fits kept.board.high kept.board.height_fits
    (bare ∙ ap (λ (n : ℕ). replicate n Empty) kept.board.filled) (none ∙ ap (λ (n : ℕ). replicate n no_bits) kept.lines.all)
