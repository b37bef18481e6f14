-- Windows with fewer stones, and before a stone.
use Rattle.std.proofs.Common.{◌≡◌, inl, inr, ℕ, ◌+◌, ◌≤◌, true, ◌&&◌, not, nat_le}
use Rattle.std.proofs.Common.{refl, sym, ap, arith, Option, Some, None}
use Rattle.std.specs.List.{list_all, count_by, range_with_len}
use Rattle.std.proofs.lemmas.Bool.Decides.{nat_tests}
use Rattle.game_rules.proofs.Common.{Grid, IsBoard, is_on, is_empty, put, along, stone_at, other}
use Rattle.game_rules.specs.declared.Side.{Side}
use Rattle.game_rules.specs.declared.Axis.{Axis}
use Rattle.game_rules.specs.declared.Point.{Point}
use Rattle.game_rules.proofs.Boards.{and_left, and_right, stone_of-other, is_empty-on}
use Rattle.game_rules.proofs.Lines.{along-steps}
use Rattle.game_rules.proofs.OneLine.{empty-before}
use Rattle.game_rules.proofs.Positions.{holds-other, stone_at-else, meets_or_misses}
use Rattle.open_windows.specs.OpenWindows.{is_open_at, is_window, in_window}
use Rattle.open_windows.proofs.Points.{one_fewer, in-lies, in-made}

-- what has so many stones has fewer
window-fewer : (b : Grid) (s : Side) (more least : ℕ) (d : Axis) (o : Option Point) → least ≤ more → is_window b s more d o ≡ true
    → is_window b s least d o ≡ true
unfolding is_window
window-fewer b s more least d None few h = cc
window-fewer b s more least d (Some p) few h =
    let all = and_left (list_all (λ k. is_open_at b s (along d p k 0)) (range_with_len 0 5)) _ h in
    let many = and_right (list_all (λ k. is_open_at b s (along d p k 0)) (range_with_len 0 5)) _ h in
    let enough : nat_le least (count_by (λ k. stone_at b s (along d p k 0)) (range_with_len 0 5)) ≡ true = grind (arith, nat_tests) in
    rw (all, enough) refl

pub in-fewer : (b : Grid) (s : Side) (more least : ℕ) (p : Point) → least ≤ more → in_window b s more p ≡ true
    → in_window b s least p ≡ true
in-fewer b s more least p few h =
    let lies = in-lies b s more p h in
    in-made b s least lies.axis p lies.back lies.near lies.empty (window-fewer b s more least lies.axis _ few lies.there)

-- ---- before a stone of the side on q

module _ (b : Grid) (s : Side) (q : Point) (ok : IsBoard b) (free : is_empty b q ≡ true) where
  same_open : (o : Option Point) → is_open_at (put b s q) s o ≡ is_open_at b s o
  same_open None = refl
  same_open (Some z) = ap (λ r. is_on b z && not r) (holds-other b s (other s) q ok free (stone_of-other s) z)

  window-before : (least : ℕ) (d : Axis) (o : Option Point) → is_window (put b s q) s (least + 1) d o ≡ true
      → is_window b s least d o ≡ true
  unfolding is_window
  window-before least d None h = cc
  window-before least d (Some p) h =
      let all : list_all (λ k. is_open_at (put b s q) s (along d p k 0)) (range_with_len 0 5) ≡ true = and_left _ _ h in
      let many : nat_le (least + 1) (count_by (λ k. stone_at (put b s q) s (along d p k 0)) (range_with_len 0 5)) ≡ true = and_right
      (list_all (λ k. is_open_at (put b s q) s (along d p k 0)) (range_with_len 0 5)) _ h in
      let still : list_all (λ k. is_open_at b s (along d p k 0)) (range_with_len 0 5) ≡ true =
      rw (
        sym (same_open (along d p 0 0)),
        sym (same_open (along d p 1 0)),
        sym (same_open (along d p 2 0)),
        sym (same_open (along d p 3 0)),
        sym (same_open (along d p 4 0)),
      ) all in
      let fewer : count_by (λ k. stone_at (put b s q) s (along d p k 0)) (range_with_len 0 5)
      ≤ count_by (λ k. stone_at b s (along d p k 0)) (range_with_len 0 5) + 1 = elim (meets_or_misses (λ k. along d p k 0) q 4) [
        | inl found ↦ one_fewer (λ k. stone_at (put b s q) s (along d p k 0)) (λ k. stone_at b s (along d p k 0)) found.0
            (λ k near differ. stone_at-else b s q ok free s (along d p k 0)
            (λ here. differ (let same = along-steps d p q k 0 found.0 0 here found.3 in
            omega (arith, same))))
        | inr none ↦ one_fewer (λ k. stone_at (put b s q) s (along d p k 0)) (λ k. stone_at b s (along d p k 0)) 0
            (λ k near differ. stone_at-else b s q ok free s (along d p k 0) (none k (omega (arith, differ)) (omega (arith, near))))
      ] in
      let enough : nat_le least (count_by (λ k. stone_at b s (along d p k 0)) (range_with_len 0 5)) ≡ true = grind (arith, nat_tests) in
      rw (still, enough) refl

  -- a point of a window with it was one of a window with one stone fewer
  pub in-before : (least : ℕ) (p : Point) → in_window (put b s q) s (least + 1) p ≡ true → in_window b s least p ≡ true
  in-before least p h =
      let lies = in-lies (put b s q) s (least + 1) p h in
      in-made b s least lies.axis p lies.back lies.near (empty-before b s q p ok (is_empty-on b q free) lies.empty).1
      (window-before least lies.axis _ lies.there)
