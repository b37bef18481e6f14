-- Five points told in short, and what a stone leaves of those of the other side.
use Rattle.std.proofs.Common.{◌≡◌, ◌≢◌, inl, inr, true, false, cond, ◌&&◌, not, refl, sym, ap, subst, ◌∙◌, List, [], ◌∷◌}
use Rattle.std.specs.List.{list_all}
use Rattle.std.proofs.lemmas.Bool.{false_from_ne_true}
use Rattle.std.proofs.Math.Bool.{and-true, and-false}
use Rattle.game_rules.proofs.Common.{Grid, IsBoard, is_empty, put, points_of, five, is_same_point, other, IsPosition, mover, after}
use Rattle.game_rules.proofs.Common.{has_five, five_points}
use Rattle.game_rules.specs.declared.RuleKind.{RuleKind}
use Rattle.game_rules.specs.declared.Side.{Side}
use Rattle.game_rules.specs.declared.Point.{Point}
use Rattle.game_rules.proofs.Boards.{Apart, not-apart, same_or_apart, and_left, and_right, is_empty-on}
use Rattle.game_rules.proofs.Points.{points-found, filter-passes, filter-none, filter-some, is_same_point-itself, is_same_point-same}
use Rattle.game_rules.proofs.Points.{apart-is_same_point}
use Rattle.game_rules.proofs.Fives.{five-empty, five-other}
use Rattle.game_rules.proofs.Places.{two_passing-apart}
use Rattle.game_rules.proofs.OneLine.{empty-before}
use Rattle.game_rules.proofs.PointLists.{without, filter-same, filter-both}
use Rattle.row_shapes.specs.declared.fives.FivePoints.{FivePoints}
use Rattle.row_shapes.specs.declared.fives.FivePoints.TheVariants.{None, One, Several, One as OnePoint}
use Rattle.row_shapes.specs.FivePoints.{in_short, takes}

-- ---- lists in short

short-none : (xs : List Point) → in_short xs ≡ None → xs ≡ []
short-none [] h = refl
short-none (w ∷ []) h = cc
short-none (w ∷ v ∷ more) h = cc

pub short-one : (w : Point) (xs : List Point) → in_short xs ≡ One w → xs ≡ w ∷ []
short-one w [] h = cc
short-one w (v ∷ []) h = let same : v ≡ w = cc in ap (λ (u : Point). u ∷ []) same
short-one w (v ∷ u ∷ more) h = cc

-- whether a side has a five point, by what is told
pub has_five-none : (rule : RuleKind) (b : Grid) (s : Side) → in_short (five_points rule b s) ≡ None → has_five rule b s ≡ false
has_five-none rule b s h = filter-none (five rule b s) (points_of b) (short-none (five_points rule b s) h)

pub has_five-one : (rule : RuleKind) (b : Grid) (s : Side) (w : Point) → in_short (five_points rule b s) ≡ One w → has_five rule b s ≡ true
has_five-one rule b s w h = filter-some (five rule b s) w [] (points_of b) (short-one w (five_points rule b s) h)

has_five-list : (rule : RuleKind) (b : Grid) (s : Side) (xs : List Point) → five_points rule b s ≡ xs → in_short xs ≡ Several
    → has_five rule b s ≡ true
has_five-list rule b s [] e h = cc
has_five-list rule b s (w ∷ more) e h = filter-some (five rule b s) w more (points_of b) e

pub has_five-several : (rule : RuleKind) (b : Grid) (s : Side) → in_short (five_points rule b s) ≡ Several → has_five rule b s ≡ true
has_five-several rule b s h = has_five-list rule b s (five_points rule b s) refl h

-- and what is told where it has none
pub none-short : (rule : RuleKind) (b : Grid) (s : Side) → has_five rule b s ≡ false → in_short (five_points rule b s) ≡ None
none-short rule b s none = by_told (in_short (five_points rule b s)) refl where
  by_told : (t : FivePoints) → in_short (five_points rule b s) ≡ t → t ≡ None
  by_told None h = refl
  by_told (One w) h = let no : false ≡ true = sym none ∙ has_five-one rule b s w h in cc
  by_told Several h = let no : false ≡ true = sym none ∙ has_five-several rule b s h in cc

-- nor is any listed
pub none-listed : (rule : RuleKind) (b : Grid) (s : Side) → has_five rule b s ≡ false → five_points rule b s ≡ []
none-listed rule b s none = short-none (five_points rule b s) (none-short rule b s none)

-- the one five point that is told is one, so it is empty
pub one-five : (rule : RuleKind) (b : Grid) (s : Side) (w : Point) → in_short (five_points rule b s) ≡ One w → five rule b s w ≡ true
one-five rule b s w h =
    let all : list_all (five rule b s) (w ∷ []) ≡ true =
    ap (list_all (five rule b s)) (sym (short-one w (five_points rule b s) h)) ∙ filter-passes (five rule b s) (points_of b) in
    and_left (five rule b s w) _ all

pub one-empty : (rule : RuleKind) (b : Grid) (s : Side) (w : Point) → in_short (five_points rule b s) ≡ One w → is_empty b w ≡ true
one-empty rule b s w h = five-empty rule b s w (one-five rule b s w h)

-- ---- what a stone leaves of the five points of the other side

module _ (rule : RuleKind) (b : Grid) (s : Side) (p : Point) (ok : IsBoard b) (empty : is_empty b p ≡ true) where
  -- the point with the stone is no five point
  taken : (t : Side) → five rule (put b s p) t p ≡ false
  taken t = false_from_ne_true _ (λ h. not-apart p (empty-before b s p p ok (is_empty-on b p empty) (five-empty rule (put b s p) t p h)).0)

  five-left : (q : Point) → five rule (put b s p) (other s) q ≡ (five rule b (other s) q && not (is_same_point p q))
  five-left q = elim (same_or_apart p q) [
    | inl same ↦
        subst (λ (r : Point). five rule (put b s p) (other s) r ≡ (five rule b (other s) r && not (is_same_point p r))) same
        (taken (other s) ∙ sym (ap (λ r. five rule b (other s) p && not r) (is_same_point-itself p) ∙ and-false (five rule b (other s) p)))
    | inr apart ↦
        five-other b s p ok empty rule q apart
        ∙ sym (ap (λ r. five rule b (other s) q && not r) (apart-is_same_point p q apart) ∙ and-true (five rule b (other s) q))
  ]

  -- a stone takes from the five points of the other side its own point, and no other
  pub left-points : five_points rule (put b s p) (other s) ≡ without p (five_points rule b (other s))
  left-points = filter-same (five rule (put b s p) (other s)) (λ q. five rule b (other s) q && not (is_same_point p q)) (points_of b)
      five-left
      ∙ filter-both (five rule b (other s)) (λ q. not (is_same_point p q)) (points_of b)

  -- with none, none is left
  pub none-left : in_short (five_points rule b (other s)) ≡ None → in_short (five_points rule (put b s p) (other s)) ≡ None
  none-left h = ap in_short (left-points ∙ ap (without p) (short-none (five_points rule b (other s)) h))

  -- with one, that is left, unless it is taken
  pub one-left : (w : Point) → in_short (five_points rule b (other s)) ≡ One w → p ≢ w
      → in_short (five_points rule (put b s p) (other s)) ≡ One w
  one-left w h differ =
      let else : is_same_point p w ≡ false = elim (same_or_apart p w)
      [ inl same ↦ absurd (differ same) | inr apart ↦ apart-is_same_point p w apart ] in
      ap in_short (left-points ∙ ap (without p) (short-one w (five_points rule b (other s)) h) ∙ ap (λ r. cond (not r) (w ∷ []) []) else)

  pub one-taken : (w : Point) → in_short (five_points rule b (other s)) ≡ One w → p ≡ w
      → in_short (five_points rule (put b s p) (other s)) ≡ None
  one-taken w h same =
      let here : is_same_point p w ≡ true = ap (is_same_point p) (sym same) ∙ is_same_point-itself p in
      ap in_short (left-points ∙ ap (without p) (short-one w (five_points rule b (other s)) h) ∙ ap (λ r. cond (not r) (w ∷ []) []) here)

  left-five : (w : Point) → five rule b (other s) w ≡ true → Apart p w → has_five rule (put b s p) (other s) ≡ true
  left-five w h apart = points-found (put b s p) (five rule (put b s p) (other s)) w (is_empty-on b w (five-empty rule b (other s) w h))
      (five-other b s p ok empty rule w apart ∙ h)

  several-by : (xs : List Point) → five_points rule b (other s) ≡ xs → in_short xs ≡ Several → has_five rule (put b s p) (other s) ≡ true
  several-by [] e h = cc
  several-by (w ∷ []) e h = cc
  several-by (w ∷ v ∷ more) e h =
      let all : list_all (five rule b (other s)) (w ∷ v ∷ more) ≡ true =
      ap (list_all (five rule b (other s))) (sym e) ∙ filter-passes (five rule b (other s)) (points_of b) in
      let first : five rule b (other s) w ≡ true = and_left (five rule b (other s) w) _ all in
      let second : five rule b (other s) v ≡ true = and_left (five rule b (other s) v) _ (and_right (five rule b (other s) w) _ all) in
      elim (same_or_apart p w) [
        | inl same ↦ left-five v second
            (subst (λ (r : Point). Apart r v) (sym same) (two_passing-apart b (five rule b (other s)) w v more e))
        | inr apart ↦ left-five w first apart
      ]

  -- with several, some is left
  pub several-left : in_short (five_points rule b (other s)) ≡ Several → has_five rule (put b s p) (other s) ≡ true
  several-left h = several-by (five_points rule b (other s)) refl h

  -- a stone that takes none of them, or not all, leaves one
  pub not_taken-five : (t : FivePoints) → t ≡ in_short (five_points rule b (other s)) → takes t p ≡ false
      → has_five rule (put b s p) (other s) ≡ true
  not_taken-five None e h = cc
  not_taken-five (One w) e h =
      let differ : p ≢ w = λ same. let yes : is_same_point w p ≡ true =
      ap (is_same_point w) same ∙ is_same_point-itself w in let bad : false ≡ true = sym h ∙ yes in cc in
      has_five-one rule (put b s p) (other s) w (one-left w (sym e) differ)
  not_taken-five Several e h = several-left (sym e)

  -- one that takes all leaves none
  pub taken-none : (t : FivePoints) → t ≡ in_short (five_points rule b (other s)) → takes t p ≡ true
      → has_five rule (put b s p) (other s) ≡ false
  taken-none None e h = has_five-none rule (put b s p) (other s) (none-left (sym e))
  taken-none (One w) e h = has_five-none rule (put b s p) (other s) (one-taken w (sym e) (sym (is_same_point-same w p h)))
  taken-none Several e h = cc

module _ (rule : RuleKind) (b : Grid) (lawful : IsPosition rule b) (p : Point) (empty : is_empty b p ≡ true) where
  pub one-stays : (w : Point) → in_short (five_points rule b (other (mover b))) ≡ OnePoint w → is_same_point p w ≡ false
      → has_five rule (after b p) (other (mover b)) ≡ true
  one-stays w h differ =
      has_five-one rule (after b p) (other (mover b)) w
      (one-left rule b (mover b) p lawful.board empty w h
      (λ same. let yes : is_same_point p w ≡ true = ap (is_same_point p) (sym same) ∙ is_same_point-itself p in let no : false ≡ true =
      sym differ ∙ yes in cc))
