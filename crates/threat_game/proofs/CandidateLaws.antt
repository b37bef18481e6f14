-- Moves outside a set of points, which need not be tried.
use Rattle.std.proofs.Common.{◌≡◌, Bool, true, false, cond, ◌&&◌, refl, sym, ap, ◌∙◌, ℕ, ◌<◌, List, [], ◌∷◌}
use Rattle.std.proofs.lemmas.Bool.{false_from_ne_true, both_ways}
use Rattle.std.specs.List.{filter, list_all}
use Rattle.game_rules.specs.declared.RuleKind.{RuleKind}
use Rattle.game_rules.specs.declared.Point.{Point}
use Rattle.game_rules.proofs.Common.{Grid, is_same_point, IsPosition, mover, other, has_five, five_points}
use Rattle.game_rules.proofs.PointLists.{other_first}
use Rattle.game_rules.proofs.Positions.{GoesOn-on, GoesOn-empty}
use Rattle.row_shapes.specs.declared.fives.FivePoints.{FivePoints}
use Rattle.row_shapes.specs.declared.fives.FivePoints.TheVariants.{One, Several}
use Rattle.row_shapes.specs.FivePoints.{in_short, takes}
use Rattle.row_shapes.proofs.FiveLaws.{not_taken-five}
use Rattle.stone_board.proofs.LineBits.{board-near}
use Rattle.open_windows.specs.PointSets.{has_point, TellsWindows}
use Rattle.threat_game.specs.declared.attacks.Attempt.TheVariants.{Passed}
use Rattle.threat_game.proofs.Common.{AreCandidates, IsAttempt, is_threat_move, points_of_two}
use Rattle.threat_game.proofs.AttackLaws.{no_threat-passed, threat-goes_on, unsafe-passed}
use Rattle.threat_game.proofs.DoubleLaws.{no_threat-no_move}
use Rattle.threat_game.proofs.WindowLaws.{outside-no_threat}

-- what fails outside a set is found in it alone, and what holds outside holds of all where it holds in it
pub filter-in : (h f : Point → Bool) → ((p : Point) → h p ≡ false → f p ≡ false) → (xs : List Point) → filter f (filter h xs) ≡ filter f xs
filter-in h f out [] = refl
filter-in h f out (x ∷ xs) = by_test (h x) refl (filter-in h f out xs) where
  by_test : (r : Bool) → h x ≡ r → filter f (filter h xs) ≡ filter f xs → filter f (filter h (x ∷ xs)) ≡ filter f (x ∷ xs)
  by_test true e rest = rw e (ap (λ (ps : List Point). cond (f x) (x ∷ ps) ps) rest)
  by_test false e rest = rw (e, out x e) rest

pub all-in : (h f : Point → Bool) → ((p : Point) → h p ≡ false → f p ≡ true) → (xs : List Point) → list_all f (filter h xs) ≡ list_all f xs
all-in h f out [] = refl
all-in h f out (x ∷ xs) = by_test (h x) refl (all-in h f out xs) where
  by_test : (r : Bool) → h x ≡ r → list_all f (filter h xs) ≡ list_all f xs → list_all f (filter h (x ∷ xs)) ≡ list_all f (x ∷ xs)
  by_test true e rest = rw e (ap (λ r. f x && r) rest)
  by_test false e rest = rw (e, out x e) rest

module _ (rule : RuleKind) (b : Grid) (lawful : IsPosition rule b) where
  -- one that does not take the five points of the other side
  untaken : (threat : FivePoints) → threat ≡ in_short (five_points rule b (other (mover b))) → (p : Point) → takes threat p ≡ false
      → IsAttempt rule b p Passed
  untaken threat told p out =
      unsafe-passed rule b p lawful (λ empty. not_taken-five rule b (mover b) p lawful.board empty threat told out)

  pub several-candidates : Several ≡ in_short (five_points rule b (other (mover b))) → (set : List ℕ) → AreCandidates rule b set
  several-candidates told set = record { passed = λ p out. untaken Several told p refl }

  pub one-candidates : (w : Point) → One w ≡ in_short (five_points rule b (other (mover b))) → (set : List ℕ)
      → ((q : Point) → has_point set q ≡ is_same_point q w) → AreCandidates rule b set
  one-candidates w told set has = record { passed = λ p out. untaken (One w) told p (other_first p w (sym (has p) ∙ out)) }

  -- one that is none of the game of threats
  no_move : (p : Point) → (is_threat_move rule b p ≡ true → is_threat_move rule b p ≡ false) → IsAttempt rule b p Passed
  no_move p not_one = no_threat-passed rule b p (false_from_ne_true _ (λ h. both_ways _ (not_one h) h))

  pub all-candidates : (set : List ℕ) → ((p : Point) → p.x < 32 → p.y < 32 → has_point set p ≡ true) → AreCandidates rule b set
  all-candidates set all = record {
    passed = λ p out. no_move p (λ threat.
        let near = board-near b p lawful.board (GoesOn-on rule b p (threat-goes_on rule b p threat)) in
        absurd (both_ways _ out (all p near.column near.row)));
  }

  pub window-candidates : has_five rule b (mover b) ≡ false → points_of_two rule b (mover b) ≡ [] → (set : List ℕ)
      → TellsWindows b (mover b) 2 set → AreCandidates rule b set
  window-candidates none quiet set tells = record {
    passed = λ p out. no_move p (λ threat.
        let on = threat-goes_on rule b p threat in
        sym (no_threat-no_move rule b p (sym (outside-no_threat rule b (mover b) p lawful.board none (GoesOn-empty rule b p on)
        (sym (tells.points p (GoesOn-on rule b p on)) ∙ out) quiet))));
  }
