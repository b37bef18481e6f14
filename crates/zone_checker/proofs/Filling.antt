-- Marks that are made: opened point by point, blank, or with one point more.
use Rattle.std.proofs.Common.{◌≡◌, inl, inr, ℕ, ◌+◌, ◌*◌, ◌<◌, Bool, true, false, cond, ◌||◌, refl, sym, ap, subst, ◌∙◌, arith, List, []}
use Rattle.std.proofs.Common.{◌∷◌, ◌++◌, length, get_or, set, length-set, slice_get}
use Rattle.std.proofs.lemmas.Bool.{cases_lt}
use Rattle.std.proofs.lemmas.List.{get_or-set_same, get_or-set_other, get_or_push, get_or_append_left}
use Rattle.zone_checker.proofs.Common.{Grid, IsBoard, is_on, is_same_point, place_of, points_of, Side, Axis, Row, Column, Down, Up, Point}
use Rattle.zone_checker.proofs.Common.{Mark, AreOpened, IsEntered, blank, mark_at, spare_of}
use Rattle.game_rules.proofs.Boards.{Apart, place_fits, places_differ, same_or_apart}
use Rattle.game_rules.proofs.Places.{points_get, points_length}
use Rattle.game_rules.proofs.Points.{is_same_point-itself, apart-is_same_point}
use Rattle.zone_checker.specs.Marks.{IsOpenedAt}
use Rattle.zone_checker.proofs.Steps.{get_or-from_get}

-- the marks of the first i points
abbrev pub OpenedTo : Grid → Side → List Point → List Mark → ℕ → Type 0
OpenedTo b s ps ms i = (k : ℕ) (d : Point) → k < i → IsOpenedAt b s (get_or ps k d) (get_or ms k blank)

module _ (b : Grid) (s : Side) (ps : List Point) (ms : List Mark) where
  pub opened-push : (i : ℕ) (p : Point) (m : Mark) → length ms ≡ i → ((d : Point) → get_or ps i d ≡ p) → OpenedTo b s ps ms i
      → IsOpenedAt b s p m → OpenedTo b s ps (ms ++ m ∷ []) (i + 1)
  opened-push i p m size here before now k d l = elim (cases_lt k i) [
    | inl less ↦ subst (λ (n : Mark). IsOpenedAt b s (get_or ps k d) n) (sym (get_or_append_left ms (m ∷ []) blank k (omega arith)))
        (before k d less)
    | inr more ↦
        let same : i ≡ k = omega arith in
        subst (λ (j : ℕ). IsOpenedAt b s (get_or ps j d) (get_or (ms ++ m ∷ []) j blank)) same
        (subst (λ (n : Mark). IsOpenedAt b s (get_or ps i d) n) (sym (get_or_push ms m blank i size))
        (subst (λ (q : Point). IsOpenedAt b s q m) (sym (here d)) now))
  ]

  pub opened-all : IsBoard b → ps ≡ points_of b → length ms ≡ length ps → OpenedTo b s ps ms (length ps) → AreOpened b s ms
  opened-all ok points size each = record {
    size = size ∙ ap length points ∙ points_length b ∙ sym ok.filled;
    marks = λ p on.
        let there = get_or-from_get ps (place_of b p) p (ap (λ (l : List Point). slice_get l (place_of b p)) points ∙ points_get b p on) in
        let mine : mark_at b ms p ≡ get_or ms (place_of b p) blank = ap (λ t. cond t (get_or ms (place_of b p) blank) blank) on in
        subst (λ (m : Mark). IsOpenedAt b s p m) (sym mine)
        (subst (λ (q : Point). IsOpenedAt b s q (get_or ms (place_of b p) blank)) (there.1 p) (each (place_of b p) p there.0));
  }

-- a mark that says what was said at its point, and that it is inside
pub entered-set : (b : Grid) (ms : List Mark) (p : Point) (w : ℕ) (m : Mark) → IsBoard b → is_on b p ≡ true → length ms ≡ length b.cells
    → w ≡ b.width → m.inside ≡ true → ((d : Axis) → spare_of d m ≡ spare_of d (mark_at b ms p))
    → IsEntered b p ms (set ms (p.y * w + p.x) m)
entered-set b ms p w m ok on size wide inside spare =
    subst (λ (k : ℕ). IsEntered b p ms (set ms k m)) (ap (λ (w : ℕ). p.y * w + p.x) (sym wide)) (record {
      size = length-set ms (place_of b p) m;
      inside = λ q. elim (same_or_apart p q) [
        | inl same ↦ subst (λ (v : Point). (mark_at b (set ms (place_of b p) m) v).inside ≡ (is_same_point p v || (mark_at b ms v).inside))
            same (ap (λ (n : Mark). n.inside) here ∙ inside ∙ sym (ap (λ r. r || (mark_at b ms p).inside) (is_same_point-itself p)))
        | inr apart ↦ ap (λ (n : Mark). n.inside) (there q apart)
            ∙ sym (ap (λ r. r || (mark_at b ms q).inside) (apart-is_same_point p q apart))
      ];
      spare = λ d q. elim (same_or_apart p q) [
        | inl same ↦ subst (λ (v : Point). spare_of d (mark_at b (set ms (place_of b p) m) v) ≡ spare_of d (mark_at b ms v)) same
            (ap (spare_of d) here ∙ spare d)
        | inr apart ↦ ap (spare_of d) (there q apart)
      ];
    }) where
      fits : place_of b p < length ms
      fits = rw size (place_fits b p ok on)

      here : mark_at b (set ms (place_of b p) m) p ≡ m
      here = ap (λ t. cond t (get_or (set ms (place_of b p) m) (place_of b p) blank) blank) on
          ∙ get_or-set_same ms (place_of b p) m blank fits

      there : (q : Point) → Apart p q → mark_at b (set ms (place_of b p) m) q ≡ mark_at b ms q
      there q apart = by_test (is_on b q) refl where
        by_test : (t : Bool) → is_on b q ≡ t → cond t (get_or (set ms (place_of b p) m) (place_of b q) blank) blank
            ≡ cond t (get_or ms (place_of b q) blank) blank
        by_test true e = get_or-set_other ms (place_of b p) (place_of b q) m blank (places_differ b p q on e apart)
        by_test false e = refl

-- the same mark, inside
abbrev pub inside_also : Mark → Mark
inside_also m = record { inside = true; row = m.row; column = m.column; down = m.down; up = m.up }

pub inside_also-spare : (d : Axis) (m : Mark) → spare_of d (inside_also m) ≡ spare_of d m
inside_also-spare Row m = refl
inside_also-spare Column m = refl
inside_also-spare Down m = refl
inside_also-spare Up m = refl
