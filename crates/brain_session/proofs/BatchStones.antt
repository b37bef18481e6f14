-- The stones of a batch that makes a board.
use Rattle.std.proofs.Common.{not, List, map, ℕ, ◌<◌, [], ◌∷◌, ◌≤◌, arith, ◌++◌, ◌≡◌, refl, ap, ◌∙◌, Bool, false, ◌||◌, true, inl, inr, sym}
use Rattle.std.proofs.Common.{subst, cond, ◌&&◌, ◌+◌, ◌*◌, ◌/◌, ◌%◌, length, filter, slice_index_or, rules}
use Rattle.std.specs.List.{list_any}
use Rattle.std.proofs.Math.Nat.{div-lt_iff_lt-mul}
use Rattle.std.proofs.lemmas.Bool.{lt-ltb, or_right}
use Rattle.std.proofs.lemmas.List.{ext_get_or}
use Rattle.brain_session.proofs.Common.{Grid, holds, is_empty, is_on, is_empty_cell, is_stone_of, put, IsBoard, points_of, mover, other}
use Rattle.brain_session.proofs.Common.{is_same_point, Point, RuleKind, Empty, BatchStone, has_stone_at, side_of, with_batch_stones}
use Rattle.brain_session.proofs.Common.{same_rule, empty_board}
use Rattle.game_rules.proofs.Common.{cell_at}
use Rattle.game_rules.proofs.Places.{place, earlier-differs, listed_on}
use Rattle.game_rules.proofs.Boards.{same_or_apart, cell_at-put_other, cell_at-put_same, and_right, is_empty-cell}
use Rattle.game_rules.proofs.Points.{apart-is_same_point, is_same_point-itself, points-found}
use Rattle.game_rules.proofs.Cells.{stone-there, Makes, IsLike, on-like, same-length, makes-empty}
use Rattle.game_rules.proofs.Positions.{IsBoard-put}
use Rattle.brain_session.proofs.SessionBoards.{empty-board, empty-empty}

-- the stone on a point, where the brain is the side to move
abbrev pub stone_at : Grid → Point → BatchStone
stone_at b p = record { at = p; own = holds b (mover b) p }

-- the stones on these points
abbrev pub stones_at : Grid → List Point → List BatchStone
stones_at b ps = map (stone_at b) (filter (λ p. not (is_empty b p)) ps)

-- the stones are at places before k
pub Before : ℕ → ℕ → List BatchStone → Type 0
Before width k [] = Unit {0}
Before width k (s ∷ ss) = (place width s.at < k) × Before width k ss

pub before-none : (width k : ℕ) → Before width k []
unfolding Before
before-none width k = tt

pub before-more : (width k m : ℕ) (ss : List BatchStone) → k ≤ m → Before width k ss → Before width m ss
unfolding Before
before-more width k m [] l h = tt
before-more width k m (s ∷ ss) l h = let low = h.0 in (omega (arith, low), before-more width k m ss l h.1)

pub before-push : (width k : ℕ) (ss : List BatchStone) (s : BatchStone) → Before width k ss → place width s.at < k
    → Before width k (ss ++ s ∷ [])
unfolding Before
before-push width k [] s h low = (low, tt)
before-push width k (x ∷ ss) s h low = (h.0, before-push width k ss s h.1 low)

pub before-apart : (width : ℕ) (p : Point) (ss : List BatchStone) → Before width (place width p) ss → has_stone_at ss p ≡ false
unfolding Before
before-apart width p [] h = refl
before-apart width p (s ∷ ss) h = ap (λ (r : Bool). r || has_stone_at ss p) (earlier-differs width s.at p h.0) ∙ before-apart width p ss h.1

pub same_rule-itself : (rule : RuleKind) → same_rule rule rule ≡ true
same_rule-itself rule = search rules

-- and else its stone is put there
module _ (b c : Grid) (p : Point) (ps : List Point) (like : IsLike b c) (on_p : is_on b p ≡ true) (taken : is_empty b p ≡ false) where
  abbrev pub next : Grid
  next = put c (side_of (mover b) (stone_at b p)) p

  cell-taken : is_empty_cell (cell_at b p) ≡ false
  cell-taken = sym (ap (λ (r : Bool). r && is_empty_cell (cell_at b p)) on_p) ∙ taken

  own-is : holds b (mover b) p ≡ is_stone_of (mover b) (cell_at b p)
  own-is = ap (λ (r : Bool). r && is_stone_of (mover b) (cell_at b p)) on_p

  there : cell_at next p ≡ cell_at b p
  there = search (rules, cell_at-put_same, on-like, own-is, stone-there, cell-taken)

  makes-stone : Makes b c (p ∷ ps) → Makes b next ps
  unfolding Makes
  makes-stone makes q on = elim (same_or_apart p q) [
    | inl same ↦ inl (subst (λ (x : Point). cell_at next x ≡ cell_at b x) same there)
    | inr apart ↦
        let kept : cell_at next q ≡ cell_at c q =
        cell_at-put_other c (side_of (mover b) (stone_at b p)) p q (on-like b c p like on_p) (on-like b c q like on) apart in
        elim (makes q on) [
          | inl same ↦ inl (kept ∙ same)
          | inr later ↦ inr
              (kept ∙ later.0, sym (ap (λ (r : Bool). r || list_any (λ x. is_same_point x q) ps) (apart-is_same_point p q apart)) ∙ later.1)
        ]
  ]

-- the cells of two boards of one width that have the same cell at each point
same-at : (b c : Grid) → IsBoard b → c.width ≡ b.width → ((q : Point) → is_on b q ≡ true → cell_at c q ≡ cell_at b q) → (k : ℕ)
    → k < length b.cells → slice_index_or c.cells k Empty ≡ slice_index_or b.cells k Empty
same-at b c board wide same k less =
    let p : Point = record { x = k % b.width; y = k / b.width } in
    let least = board.wide in
    let filled = board.filled in
    let some_width : 0 < b.width = omega (arith, least) in
    let across : k % b.width < b.width = omega (arith, some_width) in
    let size : b.width * b.height ≡ b.height * b.width = omega arith in
    let rows : k / b.width < b.height = (div-lt_iff_lt-mul some_width).1 (omega (arith, less, filled, size)) in
    let at : k / b.width * b.width + k % b.width ≡ k = omega (arith, some_width) in
    let there : k / b.width * c.width + k % b.width ≡ k = ap (λ (w : ℕ). k / b.width * w + k % b.width) wide ∙ at in
    sym (ap (λ (i : ℕ). slice_index_or c.cells i Empty) there)
    ∙ same p (rw (lt-ltb p.x b.width across, lt-ltb p.y b.height rows) refl) ∙ ap (λ (i : ℕ). slice_index_or b.cells i Empty) at

-- two boards of one size that have the same cell at each point are one
pub same-cells : (b c : Grid) → IsBoard b → IsBoard c → c.width ≡ b.width → c.height ≡ b.height
    → ((q : Point) → is_on b q ≡ true → cell_at c q ≡ cell_at b q) → c ≡ b
same-cells b c board other wide high same =
    let count = same-length b c board other wide high in
    let cells : c.cells ≡ b.cells = ext_get_or Empty c.cells b.cells count
    (λ k less. same-at b c board wide same k (subst (λ (n : ℕ). k < n) count less)) in
    λ i. record { width = wide i; height = high i; cells = cells i }

rebuilt : (b : Grid) → IsBoard b → (ps : List Point) → ((q : Point) → list_any (λ p. is_same_point p q) ps ≡ true → is_on b q ≡ true)
    → (c : Grid) → IsLike b c → Makes b c ps → with_batch_stones (mover b) c (stones_at b ps) ≡ b
unfolding Makes
rebuilt b board [] on c like makes = same-cells b c board like.board like.wide like.high
    (λ q o. elim (makes q o) [ inl same ↦ same | inr later ↦ let wrong = later.1 in absurd (cc) ])
rebuilt b board (p ∷ ps) on c like makes = by_test (is_empty b p) refl (λ d alike made. rebuilt b board ps rest d alike made) where
  rest : (q : Point) → list_any (λ x. is_same_point x q) ps ≡ true → is_on b q ≡ true
  rest q h = on q (or_right (is_same_point p q) _ h)

  on_p : is_on b p ≡ true
  on_p = on p (ap (λ (r : Bool). r || list_any (λ x. is_same_point x p) ps) (is_same_point-itself p))

  by_test : (r : Bool) → is_empty b p ≡ r → ((d : Grid) → IsLike b d → Makes b d ps → with_batch_stones (mover b) d (stones_at b ps) ≡ b)
      → with_batch_stones (mover b) c
      (map (stone_at b) (cond (not r) (p ∷ filter (λ x. not (is_empty b x)) ps) (filter (λ x. not (is_empty b x)) ps))) ≡ b
  by_test true e later = later c like (makes-empty b c p ps e makes)
  by_test false e later = later (put c (side_of (mover b) (stone_at b p)) p)
      (record { board = IsBoard-put c (side_of (mover b) (stone_at b p)) p like.board; wide = like.wide; high = like.high })
      (makes-stone b c p ps like on_p e makes)

-- the stones of a board make it
pub stones-make : (b : Grid) → IsBoard b → with_batch_stones (mover b) (empty_board b.width b.height) (stones_at b (points_of b)) ≡ b
unfolding Makes
stones-make b board = rebuilt b board (points_of b)
    (listed_on b) (empty_board b.width b.height) (record { board = empty-board b board; wide = refl; high = refl }) (λ q on. inr (
      is_empty-cell (cell_at (empty_board b.width b.height) q)
          (and_right (is_on b q) (is_empty_cell (cell_at (empty_board b.width b.height) q)) (empty-empty b.width b.height q on)),
      points-found b (λ p. is_same_point p q) q on (is_same_point-itself q),
    ))
