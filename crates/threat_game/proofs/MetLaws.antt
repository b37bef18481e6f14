-- The replies after which the win of the first one wins too: what a scan that passes over them leaves.
use Rattle.std.proofs.Common.{◌≡◌, Bool, true, false, ◌&&◌, ◌||◌, not, refl, sym, ap, subst, ◌∙◌, ℕ, ◌<◌, List, [], ◌∷◌, ◌++◌}
use Rattle.std.proofs.Common.{Option, Some}
use Rattle.std.proofs.Common.{None, slice_get, cond}
use Rattle.std.specs.List.{filter, find, list_all}
use Rattle.std.proofs.lemmas.Bool.{or_parts}
use Rattle.game_rules.specs.declared.RuleKind.{RuleKind}
use Rattle.game_rules.specs.declared.Outcome.TheVariants.{GoesOn}
use Rattle.game_rules.specs.declared.Point.{Point}
use Rattle.game_rules.proofs.Common.{Grid, points_of, is_same_point, IsPosition, outcome, goes_on, mover, other, after}
use Rattle.game_rules.proofs.Common.{five, has_five, five_points}
use Rattle.game_rules.proofs.Boards.{and_left, is_empty-on}
use Rattle.game_rules.proofs.Fives.{five-empty}
use Rattle.game_rules.proofs.PointLists.{filter-both, other_first}
use Rattle.game_rules.proofs.Points.{filter-passes}
use Rattle.game_rules.proofs.Positions.{GoesOn-on, GoesOn-empty, mover-then}
use Rattle.stone_board.proofs.LineBits.{board-near}
use Rattle.open_windows.specs.OpenWindows.{in_window}
use Rattle.open_windows.specs.PointSets.{has_point, TellsWindows}
use Rattle.threat_game.specs.declared.doubles.DoublePoint.{DoublePoint}
use Rattle.threat_game.specs.declared.replies.Child.{Child}
use Rattle.threat_game.specs.declared.replies.Judged.{Judged}
use Rattle.threat_game.specs.declared.replies.Judged.TheVariants.{Five}
use Rattle.threat_game.proofs.Common.{AreJudgedInPart, IsChild, IsMetAt, StandsBy, TellsUnmet, first_with, is_met}
use Rattle.threat_game.proofs.Kept.{first-more, stands}
use Rattle.threat_game.proofs.ReplyLaws.{PartSoFar, all-in_part, first-beside, part-met, part-more, part-none, part-pass}
use Rattle.threat_game.proofs.TreeLaws.{still-safe}
use Rattle.threat_game.proofs.WindowLaws.{outside-no_five}

-- ---- a scan that passes over replies that are met

-- each reply that goes on, and that the test passes over, is met by the first
abbrev pub PassesMet : RuleKind → Grid → Option Child → (Point → Bool) → Type 0
PassesMet rule c first test = (q : Point) → outcome rule c q ≡ GoesOn → test q ≡ false → IsMetAt rule c first q

-- this is judged of some of the replies before some points; of these a test passes over replies that are met, and leaves the points left
pub record PartLeft (rule : RuleKind) (moves : ℕ) (c : Grid) (part : List Child) (left : List Point) : Type 0 where
  pub before : List Point
  pub test : Point → Bool
  pub so_far : PartSoFar rule moves c part before
  pub passes : PassesMet rule c (find stands part) test
  pub left_are : left ≡ filter test before

-- one more child keeps the first, where something is met by it
met-more : (rule : RuleKind) (c : Grid) (part : List Child) (x : Child) (q : Point) → IsMetAt rule c (find stands part) q
    → IsMetAt rule c (find stands (part ++ x ∷ [])) q
met-more rule c part x q met =
    subst (λ (o : Option Child). IsMetAt rule c o q) (sym (first-more part x)) (by_first (find stands part) met) where
      by_first : (first : Option Child) → IsMetAt rule c first q → IsMetAt rule c (first_with first x) q
      by_first None h = let no = h.met in cc
      by_first (Some s) h = h

module _ (rule : RuleKind) (moves : ℕ) (c : Grid) where
  -- all points at first
  pub left-all : (left : List Point) (test : Point → Bool) → left ≡ filter test (points_of c) → PassesMet rule c None test
      → PartLeft rule moves c [] left
  left-all left test are passes = record {
    before = points_of c;
    test = test;
    so_far = part-none rule moves c (points_of c) refl;
    passes = passes;
    left_are = are;
  }

  module _ (part : List Child) where
    -- what is judged so far, up to the first of the points left
    abbrev Passed : (Point → Bool) → List Point → Type 0
    Passed test [] = PartSoFar rule moves c part []
    Passed test (q ∷ left) = (more : List Point) × PartSoFar rule moves c part (q ∷ more) × (left ≡ filter test more)

    passed : (test : Point → Bool) → PassesMet rule c (find stands part) test → (before left : List Point)
        → left ≡ filter test before → PartSoFar rule moves c part before → Passed test left
    passed test passes [] left e so_far = subst (Passed test) (sym e) so_far
    passed test passes (x ∷ xs) left e so_far = by_test (test x) refl (passed test passes xs left) where
      by_test : (r : Bool) → test x ≡ r → (left ≡ filter test xs → PartSoFar rule moves c part xs → Passed test left) → Passed test left
      by_test true t more =
          let is : left ≡ x ∷ filter test xs = e ∙ ap (λ r. cond r (x ∷ filter test xs) (filter test xs)) t in
          subst (Passed test) (sym is) (xs, so_far, refl)
      by_test false t more =
          more (e ∙ ap (λ r. cond r (x ∷ filter test xs) (filter test xs)) t)
          (part-met rule moves c part x xs (x ∷ xs) refl so_far c refl (λ on. passes x on t))

    module _ (points : List Point) (so_far : PartLeft rule moves c part points) where
      here : Passed so_far.test points
      here = passed so_far.test so_far.passes so_far.before points so_far.left_are so_far.so_far

      -- where no point is left, it is judged of all replies in part
      pub left-none : points ≡ [] → AreJudgedInPart rule moves c part
      left-none none = all-in_part rule moves c part [] refl (subst (Passed so_far.test) none here)

      module _ (q : Point) (left : List Point) (next : points ≡ q ∷ left) (d : Grid) (same : d ≡ c) where
        at : Passed so_far.test (q ∷ left)
        at = subst (Passed so_far.test) next here

        -- the first is no reply, or it is met
        pub left-met : (outcome rule d q ≡ GoesOn → IsMetAt rule d (find stands part) q) → PartLeft rule moves c part left
        left-met met = record {
          before = at.0;
          test = so_far.test;
          so_far = part-met rule moves c part q at.0 (q ∷ at.0) refl at.1 d same met;
          passes = so_far.passes;
          left_are = at.2;
        }

        pub left-pass : goes_on (outcome rule d q) ≡ false → PartLeft rule moves c part left
        left-pass off = record {
          before = at.0;
          test = so_far.test;
          so_far = part-pass rule moves c part q at.0 (q ∷ at.0) refl at.1 d same off;
          passes = so_far.passes;
          left_are = at.2;
        }

        -- it is judged, and of the points after it those of a set are left
        pub left-more : (judged : Judged) → IsChild rule moves d (record { at = q; judged = judged }) → (more : List Child)
            → more ≡ part ++ record { at = q; judged = judged } ∷ [] → (set : List ℕ) → TellsUnmet rule c (find stands more) set
            → (kept : List Point) → kept ≡ filter (has_point set) left → PartLeft rule moves c more kept
        left-more judged child more added set unmet kept are = record {
          before = at.0;
          test = λ p. so_far.test p && has_point set p;
          so_far = part-more rule moves c part q at.0 (q ∷ at.0) refl at.1 d same judged child more added;
          passes = λ p on out. by_test p on (so_far.test p) refl out;
          left_are = are ∙ ap (filter (has_point set)) at.2 ∙ sym (filter-both so_far.test (has_point set) at.0);
        } where
          by_test : (p : Point) → outcome rule c p ≡ GoesOn → (r : Bool) → so_far.test p ≡ r → (r && has_point set p) ≡ false
              → IsMetAt rule c (find stands more) p
          by_test p on false t out = subst (λ (xs : List Child). IsMetAt rule c (find stands xs) p) (sym added)
              (met-more rule c part (record { at = q; judged = judged }) p (so_far.passes p on t))
          by_test p on true t out = unmet.met p on out

-- ---- the points at which a reply may not be met

module _ (rule : RuleKind) (c : Grid) (lawful : IsPosition rule c) where
  -- all of them
  pub passes-none : (first : Option Child) (set : List ℕ) → ((p : Point) → p.x < 32 → p.y < 32 → has_point set p ≡ true)
      → PassesMet rule c first (has_point set)
  passes-none first set all q on out =
      let near = board-near c q lawful.board (GoesOn-on rule c q on) in
      let bad : true ≡ false = sym (all q near.column near.row) ∙ out in cc

  first-of : (fives : List Point) (w q : Point) → slice_get fives 0 ≡ Some w → is_same_point w q ≡ false
      → Some w ≡ find (λ x. not (is_same_point x q)) fives
  first-of [] w q at differ = cc
  first-of (x ∷ xs) w q at differ =
      let same : x ≡ w = cc in
      rw same (sym (ap (λ r. cond (not r) (Some w) (find (λ x. not (is_same_point x q)) xs)) differ))

  pub first-on : (w : Point) → slice_get (five_points rule c (other (mover c))) 0 ≡ Some w → (w.x < 32) × (w.y < 32)
  first-on w at =
      let five_there = found (five_points rule c (other (mover c))) (filter-passes (five rule c (other (mover c))) (points_of c)) at in
      let near = board-near c w lawful.board (is_empty-on c w (five-empty rule c (other (mover c)) w five_there)) in
      (near.column, near.row) where
        found : (xs : List Point) → list_all (five rule c (other (mover c))) xs ≡ true → slice_get xs 0 ≡ Some w
            → five rule c (other (mover c)) w ≡ true
        found [] all h = cc
        found (x ∷ xs) all h =
            let same : x ≡ w = cc in
            subst (λ (p : Point). five rule c (other (mover c)) p ≡ true) same (and_left (five rule c (other (mover c)) x) _ all)

  -- the first five point, where the win is by it
  pub unmet-five : (first : Option Child) (fives : List Point) (w : Point) → fives ≡ five_points rule c (other (mover c))
      → slice_get fives 0 ≡ Some w → is_met first (Five w) ≡ true → (set : List ℕ)
      → ((q : Point) → has_point set q ≡ is_same_point q w) → TellsUnmet rule c first set
  unmet-five first fives w are at met set has = record {
    met = λ q on out.
        let differ : is_same_point w q ≡ false = other_first q w (sym (has q) ∙ out) in
        record { judged = Five w; is = first-beside rule c q lawful on fives w are (first-of fives w q at differ); met = met };
  }

  -- the windows and the points of the double point by which it stands
  pub unmet-double : (first : Option Child) (d : DoublePoint) → StandsBy rule c first d → has_five rule c (mover c) ≡ false
      → has_five rule c (other (mover c)) ≡ false → (windows with_at with_first set : List ℕ) → TellsWindows c (mover c) 3 windows
      → ((q : Point) → has_point with_at q ≡ (is_same_point q d.at || has_point windows q))
      → ((q : Point) → has_point with_first q ≡ (is_same_point q d.first || has_point with_at q))
      → ((q : Point) → has_point set q ≡ (is_same_point q d.second || has_point with_first q)) → TellsUnmet rule c first set
  unmet-double first d stands none safe windows with_at with_first set tells at_has first_has has = record {
    met = λ q on out.
        let second = or_parts (is_same_point q d.second) (has_point with_first q) (sym (has q) ∙ out) in
        let one = or_parts (is_same_point q d.first) (has_point with_at q) (sym (first_has q) ∙ second.1) in
        let at = or_parts (is_same_point q d.at) (has_point windows q) (sym (at_has q) ∙ one.1) in
        let quiet : in_window c (mover c) 3 q ≡ false = sym (tells.points q (GoesOn-on rule c q on)) ∙ at.1 in
        stands.met q on (rw (other_first q d.at at.0, other_first q d.first one.0, other_first q d.second second.0) refl)
        (ap (has_five rule (after c q)) (mover-then rule c q lawful on) ∙ still-safe rule c q lawful on safe)
        (outside-no_five rule c (mover c) q lawful.board none quiet (GoesOn-empty rule c q on));
  }
