-- Two moves against a side without fouls: the first has to leave two five points, and the other side none.
use Rattle.std.proofs.Common.{◌≡◌, Bool, true, false, ◌&&◌, refl, sym, ap, subst, ◌∙◌, List, [], ◌∷◌, All, IsTrue, None, find}
use Rattle.std.proofs.Common.{not}
use Rattle.std.proofs.lemmas.List.Elements.{All-contains}
use Rattle.game_rules.specs.declared.RuleKind.{RuleKind}
use Rattle.game_rules.specs.declared.Outcome.{Outcome}
use Rattle.game_rules.specs.declared.Outcome.TheVariants.{Refused, Wins, Fouls, Draws, GoesOn}
use Rattle.game_rules.specs.declared.Point.{Point}
use Rattle.game_rules.proofs.Common.{Grid, IsPosition, is_empty, outcome, mover, other, after, goes_on, has_five}
use Rattle.game_rules.proofs.Common.{five_points}
use Rattle.game_rules.proofs.Common.{has_fouls, has_threat, loses_or, is_same_point, WinsOr, LosesOr, WinsByThreats}
use Rattle.game_rules.proofs.Games.{win-has_five}
use Rattle.game_rules.proofs.Outcomes.{reply-stays}
use Rattle.game_rules.proofs.Places.{points_passing}
use Rattle.game_rules.proofs.Points.{is_same_point-itself}
use Rattle.game_rules.proofs.Positions.{GoesOn-empty, GoesOn-on, IsPosition-after, mover-other, mover-then}
use Rattle.row_shapes.specs.FivePoints.{in_short, is_several, takes}
use Rattle.row_shapes.specs.declared.fives.FivePoints.{FivePoints}
use Rattle.row_shapes.specs.declared.fives.FivePoints.TheVariants.{None as NoPoint, One, Several}
use Rattle.row_shapes.proofs.FiveLaws.{not_taken-five, one-empty, short-one}
use Rattle.threat_moves.proofs.GainLaws.{threat-empty}
use Rattle.threat_game.specs.TwoMoves.{counters}
use Rattle.threat_game.proofs.Common.{makes_two, points_of_two}
use Rattle.threat_game.proofs.AttackLaws.{no_fouls-last, saved-by-five, saving-saves, threat-by}
use Rattle.threat_game.proofs.ReplyLaws.{none-beside}

short-nil : (xs : List Point) → in_short xs ≡ NoPoint → xs ≡ []
short-nil [] e = refl
short-nil (w ∷ []) e = cc
short-nil (w ∷ v ∷ more) e = cc

module _ (rule : RuleKind) (b : Grid) (lawful : IsPosition rule b) (none : has_five rule b (mover b) ≡ false)
    (calm : has_fouls rule (other (mover b)) ≡ false) where
  module _ (p : Point) (on : outcome rule b p ≡ GoesOn) (loses : (q : Point) → LosesOr (outcome rule (after b p) q)
      (WinsByThreats rule 1 (after (after b p) q))) where
    turn : mover (after b p) ≡ other (mover b)
    turn = mover-then rule b p lawful on

    attacker : other (mover (after b p)) ≡ mover b
    attacker = mover-other rule b p lawful on

    now : IsPosition rule (after b p)
    now = IsPosition-after rule b p lawful on

    -- an empty point beside which no five point is left is a reply that does not lose
    still : (q : Point) (fives : List Point) → is_empty (after b p) q ≡ true → fives ≡ five_points rule (after b p) (mover b)
        → None ≡ find (λ x. not (is_same_point x q)) fives → (o : Outcome) → outcome rule (after b p) q ≡ o
        → LosesOr o (WinsByThreats rule 1 (after (after b p) q)) → loses_or o false ≡ false → ⊥
    still q fives empty are beside Refused e h k = cc
    still q fives empty are beside (Fouls f) e h k = cc
    still q fives empty are beside Wins e h k = h
    still q fives empty are beside Draws e h k = h
    still q fives empty are beside GoesOn e h k =
        no_fouls-last rule (after (after b p) q) (IsPosition-after rule (after b p) q now e)
        (none-beside rule (after b p) q now e fives (are ∙ ap (five_points rule (after b p)) (sym attacker)) beside)
        (ap (has_fouls rule) (mover-other rule (after b p) q now e ∙ turn) ∙ calm) h

    escapes : (q : Point) (fives : List Point) → is_empty (after b p) q ≡ true → fives ≡ five_points rule (after b p) (mover b)
        → None ≡ find (λ x. not (is_same_point x q)) fives → ⊥
    escapes q fives empty are beside = still q fives empty are beside (outcome rule (after b p) q) refl (loses q)
        (reply-stays rule (after b p) q empty (ap (has_fouls rule) turn ∙ calm))

    -- so the move leaves two five points
    leaves-two : has_threat rule (after b p) (mover b) ≡ true → (fives : FivePoints)
        → in_short (five_points rule (after b p) (mover b)) ≡ fives → is_several fives ≡ true
    leaves-two threat NoPoint e =
        let w = threat-empty rule (after b p) (mover b) threat in
        absurd (escapes w.0 [] w.1 (sym (short-nil (five_points rule (after b p) (mover b)) e)) refl)
    leaves-two threat (One w) e =
        absurd (escapes w (w ∷ []) (one-empty rule (after b p) (mover b) w e)
        (sym (short-one w (five_points rule (after b p) (mover b)) e)) (rw (is_same_point-itself w) refl))
    leaves-two threat Several e = refl

  -- where no such move takes the five points of the other side there is no win within two moves
  pub no_double-no_win : (threat : FivePoints) → threat ≡ in_short (five_points rule b (other (mover b))) → (twos : List Point)
      → twos ≡ points_of_two rule b (mover b) → All (λ p. counters rule b threat p ≡ false) twos → WinsByThreats rule 2 b → ⊥
  no_double-no_win threat told twos are all (p, win) = by_outcome (outcome rule b p) refl win where
    on-goes : outcome rule b p ≡ GoesOn → has_threat rule (after b p) (mover b) ≡ true
        → ((q : Point) → LosesOr (outcome rule (after b p) q) (WinsByThreats rule 1 (after (after b p) q))) → ⊥
    on-goes on left loses = by_test (takes threat p) refl where
      empty : is_empty b p ≡ true
      empty = GoesOn-empty rule b p on

      by_test : (r : Bool) → takes threat p ≡ r → ⊥
      by_test false e = saving-saves rule 1 (after b p)
          (saved-by-five rule b p lawful (threat-by rule b p on left)
          (not_taken-five rule b (mover b) p lawful.board empty threat told e)) loses
      by_test true e =
          let two : makes_two rule b (mover b) p ≡ true =
          ap (λ r. r && is_several (in_short (five_points rule (after b p) (mover b)))) empty
          ∙ leaves-two p on loses left (in_short (five_points rule (after b p) (mover b))) refl in
          let never : counters rule b threat p ≡ false =
          All-contains (λ q. counters rule b threat q ≡ false) (points_of_two rule b (mover b)) p
          (subst (All (λ q. counters rule b threat q ≡ false)) are all)
          (points_passing b (makes_two rule b (mover b)) p (GoesOn-on rule b p on) two) in
          let bad : true ≡ false = sym (ap (λ r. r && goes_on (outcome rule b p)) e ∙ ap goes_on on) ∙ never in cc

    by_outcome : (o : Outcome) → outcome rule b p ≡ o → WinsOr o (IsTrue (has_threat rule (after b p) (mover b))
        × ((q : Point) → LosesOr (outcome rule (after b p) q) (WinsByThreats rule 1 (after (after b p) q)))) → ⊥
    by_outcome Wins e w = let yes_five = win-has_five rule b p e in let bad : true ≡ false = sym yes_five ∙ none in cc
    by_outcome GoesOn e w = on-goes e w.0 w.1
    by_outcome _ e w = w
