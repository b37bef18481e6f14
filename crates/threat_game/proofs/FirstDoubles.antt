-- The double points that are kept before the replies are the first ones, and what a reply stops of them.
use Rattle.std.proofs.Common.{◌≡◌, true, false, cond, Bool, ℕ, ◌<◌, ◌≤◌, refl, sym, ap, subst, ◌∙◌, arith, List, []}
use Rattle.std.proofs.Common.{◌∷◌, ◌++◌, map, length, get_or, take, All, Contains, append_assoc, length-append, append-nil, rules}
use Rattle.std.proofs.Common.{filter}
use Rattle.std.proofs.lemmas.List.{get_or-map, length-map, map-append, take-append-le, take_all}
use Rattle.std.proofs.lemmas.List.Elements.{All-push}
use Rattle.game_rules.specs.declared.RuleKind.{RuleKind}
use Rattle.game_rules.specs.declared.Side.{Side}
use Rattle.game_rules.specs.declared.Point.{Point}
use Rattle.game_rules.proofs.Common.{Grid, put, points_of, outcome, mover, other, after, has_five, five_points, is_double_point}
use Rattle.row_shapes.specs.FivePoints.{in_short}
use Rattle.row_shapes.specs.declared.fives.FivePoints.TheVariants.{None as NoPoint}
use Rattle.row_shapes.proofs.FiveLaws.{none-short}
use Rattle.threat_game.specs.declared.doubles.DoublePoint.{DoublePoint}
use Rattle.threat_game.specs.declared.doubles.Kept.{Kept}
use Rattle.threat_game.specs.declared.doubles.TheConstants.{MOST_KEPT}
use Rattle.threat_game.proofs.Common.{AreKept, AreStopped, IsKeptAt, StopsDoubles, IsBeside}

-- these are kept, where these points are left to be looked at
pub record FirstSoFar (rule : RuleKind) (b : Grid) (s : Side) (found : List Kept) (left : List Point) : Type 0 where
  pub few : length found ≤ MOST_KEPT
  pub each : All (λ kept. IsKeptAt rule b s kept.double.at kept) found
  pub points : take MOST_KEPT (map (λ kept. kept.double.at) found ++ filter (is_double_point rule b s) left)
      ≡ take MOST_KEPT (filter (is_double_point rule b s) (points_of b))

-- a double point is its point and its two five points
one-double : (d e : DoublePoint) → d.at ≡ e.at → d.first ∷ d.second ∷ [] ≡ e.first ∷ e.second ∷ [] → d ≡ e
one-double d e at fives = search rules

module _ (rule : RuleKind) (b : Grid) (s : Side) where
  abbrev at : Kept → Point
  at kept = kept.double.at

  abbrev test : Point → Bool
  test = is_double_point rule b s

  module _ (found : List Kept) (p : Point) (rest left : List Point) (next : left ≡ p ∷ rest) (so_far : FirstSoFar rule b s found left) where
    old : FirstSoFar rule b s found (p ∷ rest)
    old = subst (λ (ps : List Point). FirstSoFar rule b s found ps) next so_far

    -- it is one, and is kept
    pub first-more : (kept : Kept) → IsKeptAt rule b s p kept → length found < MOST_KEPT → (more : List Kept) → more ≡ found ++ kept ∷ []
        → FirstSoFar rule b s more rest
    first-more kept is room more added =
        let own : IsKeptAt rule b s (at kept) kept = subst (λ (q : Point). IsKeptAt rule b s q kept) (sym is.at) is in
        subst (λ (items : List Kept). FirstSoFar rule b s items rest) (sym added) (record {
          few = let long = length-append found (kept ∷ []) in omega (arith, long, room);
          each = All-push (λ (x : Kept). IsKeptAt rule b s (at x) x) found kept old.each own;
          points =
              ap (λ (qs : List Point). take MOST_KEPT (qs ++ filter test rest)) (map-append at found (kept ∷ []))
              ∙ ap (take MOST_KEPT) (append_assoc (map at found) (at kept ∷ []) (filter test rest))
              ∙ ap (λ (q : Point). take MOST_KEPT (map at found ++ q ∷ filter test rest)) is.at
              ∙ ap (λ r. take MOST_KEPT (map at found ++ cond r (p ∷ filter test rest) (filter test rest))) (sym is.double)
              ∙ old.points;
        })

  -- none is kept yet
  pub first-none : (left : List Point) → filter test left ≡ filter test (points_of b) → FirstSoFar rule b s [] left
  first-none left all = record {
    few = omega arith;
    each = λ k d low. absurd (omega (arith, low));
    points = ap (take MOST_KEPT) all;
  }

  -- enough are kept
  pub first-enough : (found : List Kept) (left : List Point) → FirstSoFar rule b s found left → MOST_KEPT ≤ length found
      → FirstSoFar rule b s found []
  first-enough found left so_far many = search (rules, length-map, take-append-le)

  -- no point is left
  pub first-all : (found : List Kept) → FirstSoFar rule b s found [] → AreKept rule b s found
  first-all found so_far = record {
    each = λ k d low. (so_far.each k d low).is;
    all = λ none d first. listed d first.fives (in_found d first.listed);
  } where
    points : map at found ≡ take MOST_KEPT (filter test (points_of b))
    points =
        let long = length-map found at in
        sym (take_all MOST_KEPT (map at found) (let few = so_far.few in omega (arith, long, few)))
        ∙ ap (take MOST_KEPT) (sym (append-nil (map at found))) ∙ so_far.points

    in_found : (d : DoublePoint) → Contains (take MOST_KEPT (filter test (points_of b))) d.at → Contains (map at found) d.at
    in_found d = subst (λ (ps : List Point). Contains ps d.at) (sym points)

    listed : (d : DoublePoint) → take 2 (five_points rule (put b s d.at) s) ≡ d.first ∷ d.second ∷ [] → Contains (map at found) d.at
        → Contains (map (λ kept. kept.double) found) d
    listed d fives has =
        let k : ℕ = has.0 in
        let low : k < length found = let long = length-map found at in let l = has.1 in omega (arith, long, l) in
        let none : Kept = record { double = d; sure = true } in
        let kept : Kept = get_or found k none in
        let here : at kept ≡ d.at = sym (get_or-map at found k none d.at low) ∙ has.2 in
        let own : kept.double.first ∷ kept.double.second ∷ [] ≡ d.first ∷ d.second ∷ [] =
        sym (so_far.each k none low).fives ∙ ap (λ (q : Point). take 2 (five_points rule (put b s q) s)) here ∙ fives in
        let same : kept.double ≡ d = one-double kept.double d here own in (
          k,
          (let long = length-map found (λ (x : Kept). x.double) in omega (arith, long, low)),
          get_or-map (λ (x : Kept). x.double) found k none d low ∙ same,
        )

-- where the side has a five point none need be kept
pub none-kept : (rule : RuleKind) (b : Grid) (s : Side) → 0 < length (five_points rule b s) → AreKept rule b s []
none-kept rule b s some = record {
  each = λ k d low. absurd (omega (arith, low));
  all = λ none d first. absurd (
      let empty = no-fives (five_points rule b s) (none-short rule b s none) in omega (arith, some, empty));
} where
  no-fives : (ps : List Point) → in_short ps ≡ NoPoint → length ps ≡ 0
  no-fives [] e = refl
  no-fives (p ∷ []) e = cc
  no-fives (p ∷ q ∷ ps) e = cc

-- ---- after the reply q at c

-- what is stopped of those that are kept is stopped of the first ones
pub stops-first : (rule : RuleKind) (c : Grid) (q : Point) (doubles : List Kept) → AreKept rule c (other (mover c)) doubles
    → (has_five rule (after c q) (mover c) ≡ false → AreStopped rule (after c q) q doubles) → StopsDoubles rule c q
stops-first rule c q doubles kept stopped = record {
  stops = λ none safe d first beside on.
      let has = kept.all none d first in
      let low : has.0 < length doubles = let long = length-map doubles (λ (x : Kept). x.double) in let l =
      has.1 in omega (arith, long, l) in
      let default : Kept = record { double = d; sure = true } in
      let same : (get_or doubles has.0 default).double ≡ d =
      sym (get_or-map (λ (x : Kept). x.double) doubles has.0 default d low) ∙ has.2 in
      (stopped safe).each has.0 default low (subst (λ (x : DoublePoint). IsBeside x q) (sym same) beside)
      (ap (λ (x : DoublePoint). outcome rule (after c q) x.at) same ∙ on);
}
