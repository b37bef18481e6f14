-- Lists of five points, and what they are in short.
use Rattle.std.proofs.Common.{◌≡◌, ◌⊎◌, inl, inr, Bool, true, false, cond, ◌&&◌, refl, sym, ap, subst, ◌∙◌, List, []}
use Rattle.std.proofs.Common.{◌∷◌, Option, Some, None, filter}
use Rattle.std.specs.List.{list_any, list_all}
use Rattle.std.proofs.lemmas.Map.Views.{any-filter_same}
use Rattle.game_rules.proofs.Common.{Grid, is_on, points_of, is_same_point}
use Rattle.game_rules.specs.declared.Point.{Point}
use Rattle.game_rules.proofs.Boards.{Apart, and_left, and_right, not-apart}
use Rattle.game_rules.proofs.Points.{points-found, filter-passes, is_same_point-itself, is_same_point-same, is_same_point-apart}
use Rattle.row_shapes.specs.declared.fives.FivePoints.{FivePoints}
use Rattle.row_shapes.specs.declared.fives.FivePoints.TheVariants.{None as NoPoint, One, Several}
use Rattle.row_shapes.proofs.Common.{in_short, with_more}
use Rattle.game_rules.proofs.Places.{two_passing-apart}
use Rattle.game_rules.proofs.Tests.{or_false}

-- the list of a point, if there is one
abbrev pub listed : Option Point → List Point
listed None = []
listed (Some p) = p ∷ []

-- ---- what is told of the points with a property

abbrev pub Tells : FivePoints → (Point → Type 0) → Type 0
Tells NoPoint F = (q : Point) → F q → ⊥
Tells (One w) F = F w × ((q : Point) → F q → q ≡ w)
Tells Several F = (w : Point) × (v : Point) × F w × F v × Apart w v

-- the same is told of a property that is the same
pub tells-map : (F G : Point → Type 0) (found : FivePoints) → ((q : Point) → F q → G q) → ((q : Point) → G q → F q) → Tells found F
    → Tells found G
tells-map F G NoPoint to back h = λ q g. h q (back q g)
tells-map F G (One w) to back h = (to w h.0, λ q g. h.1 q (back q g))
tells-map F G Several to back h = (h.0, h.1, to h.0 h.2, to h.1 h.3, h.4)

the_point : (q r : Point) → Some q ≡ Some r → r ≡ q
the_point q r e = cc

-- ---- one more point

-- what is told with one more point, of the property that this point has too
pub tells-more : (F : Point → Type 0) (found : FivePoints) (o : Option Point) → Tells found F
    → Tells (with_more found o) (λ q. F q ⊎ (o ≡ Some q))
tells-more F NoPoint None h = λ q m. elim m [ inl x ↦ h q x | inr e ↦ cc ]
tells-more F (One w) None h = (inl h.0, λ q m. elim m [ inl x ↦ h.1 q x | inr e ↦ cc ])
tells-more F Several None h = (h.0, h.1, inl h.2, inl h.3, h.4)
tells-more F NoPoint (Some q) h = (inr refl, λ r m. elim m [ inl x ↦ absurd (h r x) | inr e ↦ the_point q r e ])
tells-more F (One w) (Some q) h = by_test (is_same_point w q) refl where
  by_test : (r : Bool) → is_same_point w q ≡ r → Tells (cond r (One w) Several) (λ v. F v ⊎ (Some q ≡ Some v))
  by_test true e = (inl h.0, λ r m. elim m [ inl x ↦ h.1 r x | inr g ↦ the_point q r g ∙ sym (is_same_point-same w q e) ])
  by_test false e = (w, q, inl h.0, inr refl, is_same_point-apart w q e)
tells-more F Several (Some q) h = (h.0, h.1, inl h.2, inl h.3, h.4)

-- ---- what is told is the list in short

module _ (b : Grid) (f : Point → Bool) (on : (q : Point) → f q ≡ true → is_on b q ≡ true) where
  is_passing : Point → Point → Bool
  is_passing w q = f q && is_same_point w q

  -- a passing point is in the list
  listed-in : (w : Point) → f w ≡ true → (xs : List Point) → filter f (points_of b) ≡ xs → list_any (is_passing w) xs ≡ true
  unfolding is_passing
  listed-in w h xs e =
      let here : is_passing w w ≡ true = rw (h, is_same_point-itself w) refl in
      ap (list_any (is_passing w)) (sym e)
      ∙ any-filter_same (is_passing w) f true (λ q k. and_left (f q) _ k) (points_of b)
      ∙ points-found b (is_passing w) w (on w h) here

  -- where the list has one point, it is that
  only : (w u : Point) → f w ≡ true → filter f (points_of b) ≡ u ∷ [] → w ≡ u
  unfolding is_passing
  only w u h e = is_same_point-same w u (and_right (f u) _ (or_false _ (listed-in w h (u ∷ []) e)))

  passes : (xs : List Point) → filter f (points_of b) ≡ xs → list_all f xs ≡ true
  passes xs e = ap (list_all f) (sym e) ∙ filter-passes f (points_of b)

  nowhere : (w : Point) → f w ≡ true → filter f (points_of b) ≡ [] → ⊥
  nowhere w h e = let no : false ≡ true = listed-in w h [] e in cc

  by_list : (found : FivePoints) → Tells found (λ q. f q ≡ true) → (xs : List Point) → filter f (points_of b) ≡ xs → found ≡ in_short xs
  by_list NoPoint h [] e = refl
  by_list NoPoint h (u ∷ xs) e = absurd (h u (and_left (f u) _ (passes (u ∷ xs) e)))
  by_list (One w) h [] e = absurd (nowhere w h.0 e)
  by_list (One w) h (u ∷ []) e = ap One (only w u h.0 e)
  by_list (One w) h (u ∷ v ∷ xs) e =
      let all = passes (u ∷ v ∷ xs) e in
      let first : u ≡ w = h.1 u (and_left (f u) _ all) in
      let second : v ≡ w = h.1 v (and_left (f v) _ (and_right (f u) _ all)) in
      absurd (not-apart v (subst (λ (r : Point). Apart r v) (first ∙ sym second) (two_passing-apart b f u v xs e)))
  by_list Several h [] e = absurd (nowhere h.0 h.2 e)
  by_list Several h (u ∷ []) e =
      absurd (not-apart h.1 (subst (λ (r : Point). Apart r h.1) (only h.0 u h.2 e ∙ sym (only h.1 u h.3 e)) h.4))
  by_list Several h (u ∷ v ∷ xs) e = refl

  pub tells-short : (found : FivePoints) → Tells found (λ q. f q ≡ true) → found ≡ in_short (filter f (points_of b))
  tells-short found h = by_list found h (filter f (points_of b)) refl
