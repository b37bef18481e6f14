-- The greatest zone of a node by those of its answers: it has the fewest points and bears the most.
use Rattle.std.proofs.Common.{◌≡◌, inl, inr, ℕ, zero, suc, ◌+◌, ◌-◌, ◌≤◌, ◌<◌, min, Bool, true, false, cond, ◌||◌, refl, sym, ap, subst}
use Rattle.std.proofs.Common.{◌∙◌, arith, List, [], ◌∷◌, length, map, get_or, Option, Some, None}
use Rattle.std.specs.List.{list_any}
use Rattle.std.proofs.lemmas.Bool.{both_ways, or_cases, eqb-true, eq-eqb}
use Rattle.std.proofs.lemmas.Bool.Decides.{nat_tests}
use Rattle.game_rules.proofs.Axes.{no_axis, some_axis}
use Rattle.game_rules.proofs.Lines.{along-then, along-same, along-zero}
use Rattle.game_rules.proofs.Points.{is_at-Some, is_at-here}
use Rattle.game_rules.proofs.Rows.{any_found, any_in_range}
use Rattle.game_rules.proofs.Tests.{or_none, or_right as or_last}
use Rattle.zone_checker.proofs.Common.{Grid, is_on, along, place_of, Axis, Row, Column, Down, Up, Point, Zone, Covers, Mark, ANY}
use Rattle.zone_checker.proofs.Common.{AreCovered, LiesUnder, blank, covered, harms, kept_back, mark_at, spare_of, zone_of, is_full_at}
use Rattle.zone_checker.proofs.Common.{is_full_through, SayMore}
use Rattle.game_rules.proofs.Common.{is_at, axes}
use Rattle.relevance_zone.specs.Windows.{is_in_window}
use Rattle.relevance_zone.specs.Zones.{IsHarmless}
use Rattle.zone_checker.specs.Marks.{bearing, less}

-- ---- numbers

bearing-more : (n k l : ℕ) → k ≤ l → bearing n k ≤ bearing n l
bearing-more n k l h = grind (arith, nat_tests)

bearing-back : (n k l : ℕ) → k ≤ less l → bearing n k ≤ bearing (n + 1) l - 1
bearing-back n k l h = grind (arith, nat_tests)

pub bearing-few : (n k : ℕ) → k ≤ 3 → bearing n k ≡ k
bearing-few n k h = grind (arith, nat_tests)

less-limited : (k m l : ℕ) → less l < ANY → k ≤ m - 1 → (l < ANY → m ≤ l) → k ≤ less l
less-limited k m l h back few = grind (arith, nat_tests)

spare-covered : (d : Axis) (m o : Mark) → spare_of d (covered m o) ≡ min (spare_of d m) (spare_of d o)
spare-covered Row m o = refl
spare-covered Column m o = refl
spare-covered Down m o = refl
spare-covered Up m o = refl

spare-back : (d : Axis) (m : Mark) → spare_of d (kept_back m) ≡ less (spare_of d m)
spare-back Row m = refl
spare-back Column m = refl
spare-back Down m = refl
spare-back Up m = refl

-- ---- marks that say more

pub more-none : (b : Grid) (ms : List Mark) → SayMore b ms ms
more-none b ms = record { size = refl; inside = λ p h. h; spare = λ d p. omega arith }

pub more-then : (b : Grid) (one two three : List Mark) → SayMore b one two → SayMore b two three → SayMore b one three
more-then b one two three h k = record {
  size = k.size ∙ h.size;
  inside = λ p i. k.inside p (h.inside p i);
  spare = λ d p. let a = h.spare d p in let c = k.spare d p in omega (arith, a, c);
}

pub more-covers : (b : Grid) (old new : List Mark) (n : ℕ) → SayMore b old new → Covers 0 (zone_of b new n) (zone_of b old n)
more-covers b old new n h =
    record { points = h.inside; windows = λ d p. let more = bearing-more n _ _ (h.spare d p) in omega (arith, more) }

mark-covered : (b : Grid) (old others new : List Mark) → AreCovered old others new → (p : Point)
    → mark_at b new p ≡ covered (mark_at b old p) (mark_at b others p)
mark-covered b old others new h p = by_test (is_on b p) where
  by_test : (t : Bool) → cond t (get_or new (place_of b p) blank) blank
      ≡ covered (cond t (get_or old (place_of b p) blank) blank) (cond t (get_or others (place_of b p) blank) blank)
  by_test true = h.each (place_of b p)
  by_test false = refl

module _ (b : Grid) (old others new : List Mark) (h : AreCovered old others new) where
  inside-covered : (p : Point) → (mark_at b new p).inside ≡ ((mark_at b old p).inside || (mark_at b others p).inside)
  inside-covered p = ap (λ (m : Mark). m.inside) (mark-covered b old others new h p)

  least-covered : (d : Axis) (p : Point) → spare_of d (mark_at b new p) ≡ min (spare_of d (mark_at b old p))
      (spare_of d (mark_at b others p))
  least-covered d p = ap (spare_of d) (mark-covered b old others new h p) ∙ spare-covered d (mark_at b old p) (mark_at b others p)

  pub covered-old : SayMore b old new
  covered-old = record {
    size = h.size;
    inside = λ p i. inside-covered p ∙ ap (λ r. r || (mark_at b others p).inside) i;
    spare = λ d p. let least = least-covered d p in omega (arith, least);
  }

  pub covered-others : length others ≡ length old → SayMore b others new
  covered-others same = record {
    size = h.size ∙ sym same;
    inside = λ p i. inside-covered p ∙ or_right (mark_at b old p).inside (mark_at b others p).inside i;
    spare = λ d p. let least = least-covered d p in omega (arith, least);
  } where
    or_right : (x y : Bool) → y ≡ true → (x || y) ≡ true
    or_right true y e = refl
    or_right false y e = e

  -- what lies under both lies under what says both
  pub under-covered : (z : Zone) → LiesUnder b old z → LiesUnder b others z → LiesUnder b new z
  under-covered z one two = record {
    points = λ p i. elim (or_cases (mark_at b old p).inside _ (sym (inside-covered p) ∙ i)) [
      | inl first ↦ one.points p first
      | inr second ↦ two.points p second
    ];
    windows = λ d p l.
        let least = least-covered d p in
        let first = one.windows d p in
        let second = two.windows d p in
        lesser (spare_of d (mark_at b old p)) (spare_of d (mark_at b others p)) (spare_of d (mark_at b new p)) (z.spare d p) least
        first second l;
  } where
    lesser : (x y m k : ℕ) → m ≡ min x y → (x < ANY → k ≤ x) → (y < ANY → k ≤ y) → m < ANY → k ≤ m
    lesser x y m k e first second l = grind (arith, nat_tests)

pub under-map : (ms : List Mark) (k : ℕ) → get_or (map kept_back ms) k blank ≡ kept_back (get_or ms k blank)
under-map [] k = refl
under-map (m ∷ ms) zero = refl
under-map (m ∷ ms) (suc k) = under-map ms k

mark-back : (b : Grid) (ms : List Mark) (p : Point) → mark_at b (map kept_back ms) p ≡ kept_back (mark_at b ms p)
mark-back b ms p = by_test (is_on b p) where
  by_test : (t : Bool) → cond t (get_or (map kept_back ms) (place_of b p) blank) blank ≡ kept_back
      (cond t (get_or ms (place_of b p) blank) blank)
  by_test true = under-map ms (place_of b p)
  by_test false = refl

-- a zone that is covered, with one stone more, by z
pub under-back : (b : Grid) (ms : List Mark) (z y : Zone) → LiesUnder b ms y → Covers 1 z y → LiesUnder b (map kept_back ms) z
under-back b ms z y under covers = record {
  points = λ p i. covers.points p (under.points p (sym (ap (λ (m : Mark). m.inside) (mark-back b ms p)) ∙ i));
  windows = λ d p l.
      let back = ap (spare_of d) (mark-back b ms p) ∙ spare-back d (mark_at b ms p) in
      let same : less (spare_of d (mark_at b ms p)) ≡ spare_of d (mark_at b (map kept_back ms) p) = sym back in
      subst (λ k. z.spare d p ≤ k) same (less-limited (z.spare d p) (y.spare d p) (spare_of d (mark_at b ms p))
      (subst (λ k. k < ANY) (sym same) l) (covers.windows d p) (under.windows d p));
}

pub back-covers : (b : Grid) (ms new : List Mark) (n : ℕ) → SayMore b (map kept_back ms) new
    → Covers 1 (zone_of b new n) (zone_of b ms (n + 1))
back-covers b ms new n h = record {
  points = λ p i. h.inside p (ap (λ (m : Mark). m.inside) (mark-back b ms p) ∙ i);
  windows = λ d p.
      let back = ap (spare_of d) (mark-back b ms p) ∙ spare-back d (mark_at b ms p) in
      let few = h.spare d p in
      bearing-back n _ (spare_of d (mark_at b ms p)) (subst (λ k. spare_of d (mark_at b new p) ≤ k) back few);
}

-- ---- harm

-- the point of the window that is k places on from its first has that first point k places back
back_along : (d : Axis) (p q : Point) (k : ℕ) → along d p k 0 ≡ Some q → along d q 0 k ≡ Some p
back_along d p q k here = along-then d p q k 0 0 k here ∙ along-same d p (k + 0) (0 + k) 0 0 (omega arith) ∙ along-zero d p

module _ (b : Grid) (ms : List Mark) (q : Point) where
  full-none : (d : Axis) → list_any (λ d. is_full_through b ms d q) axes ≡ false → is_full_through b ms d q ≡ false
  full-none d h = no_axis (λ d. is_full_through b ms d q) h d

  -- what does no harm to the marks does none to their zone
  pub harmless-zone : harms b ms q ≡ false → (n : ℕ) → IsHarmless (zone_of b ms (n + 1)) q
  unfolding is_in_window is_full_through
  harmless-zone h n = record {
    point = or_none (mark_at b ms q).inside _ h;
    windows = λ d p inside. some (spare_of d (mark_at b ms p)) (not_full d p inside (full-none d (or_last (mark_at b ms q).inside _ h)));
  } where
    some : (k : ℕ) → (k ≡ 0 → ⊥) → 0 < bearing (n + 1) k
    some k h = grind (arith, nat_tests)

    not_full : (d : Axis) (p : Point) → is_in_window q d p ≡ true → is_full_through b ms d q ≡ false → spare_of d (mark_at b ms p) ≡ 0 → ⊥
    not_full d p inside none full =
        let found = any_in_range (λ k. is_at q (along d p k 0)) 5 0 inside in
        let here = back_along d p q found.0 (is_at-Some q _ found.3) in
        both_ways _ none (any_found (λ k. is_full_at b ms d (along d q 0 k)) 5 0 found.0 (omega arith) found.2
        (ap (is_full_at b ms d) here ∙ eq-eqb _ 0 full))

  -- and what does harm does so to each zone that lies under them
  pub harm-under : harms b ms q ≡ true → (y : Zone) → LiesUnder b ms y → IsHarmless y q → ⊥
  unfolding is_in_window is_full_through
  harm-under h y under harmless = elim (or_cases (mark_at b ms q).inside _ h) [
    | inl inside ↦ both_ways _ harmless.point (under.points q inside)
    | inr full ↦ let some = some_axis (λ d. is_full_through b ms d q) full in by_axis some.0 some.1
  ] where
    ahead : (d : Axis) (p : Point) (k : ℕ) → along d q 0 k ≡ Some p → along d p k 0 ≡ Some q
    ahead d p k here = along-then d q p 0 k k 0 here ∙ along-same d q (0 + k) (k + 0) 0 0 (omega arith) ∙ along-zero d q

    inside : (d : Axis) (k : ℕ) (p : Point) → k < 0 + 5 → along d q 0 k ≡ Some p → is_in_window q d p ≡ true
    inside d k p l e = any_found (λ k. is_at q (along d p k 0)) 5 0 k (omega arith) l (is_at-here q _ (ahead d p k e))

    by_place : (d : Axis) (k : ℕ) → k < 0 + 5 → (o : Option Point) → along d q 0 k ≡ o → is_full_at b ms d o ≡ true → ⊥
    by_place d k l None e h = cc
    by_place d k l (Some p) e h =
        let none : spare_of d (mark_at b ms p) ≡ 0 = eqb-true _ 0 h in
        let few = under.windows d p (subst (λ k. k < ANY) (sym none) (omega arith)) in
        let some = harmless.windows d p (inside d k p l e) in
        omega (arith, none, few, some)

    by_axis : (d : Axis) → is_full_through b ms d q ≡ true → ⊥
    by_axis d full =
        let found = any_in_range (λ k. is_full_at b ms d (along d q 0 k)) 5 0 full in
        by_place d found.0 found.2 (along d q 0 found.0) refl found.3
