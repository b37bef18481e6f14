-- Moves of the game of threats: which of them have to be tried, and what each other comes to. Wins within one move: only by a five point,
-- or by a last move, to which each reply fouls. The moves that have to be tried are enough: where there is a win by threats, one of them
-- wins.
use Rattle.std.proofs.Common.{◌≡◌, Bool, true, false, cond, ◌&&◌, ◌||◌, not, refl, sym, ap, ◌∙◌, ℕ, suc, subst, IsTrue, zero, ◌≤◌, arith}
use Rattle.std.proofs.Common.{List, [], Contains, ◌⊎◌, inl, inr, rules}
use Rattle.std.specs.List.{list_any, list_all}
use Rattle.std.proofs.Math.Bool.{and-true, and-false}
use Rattle.game_rules.specs.declared.RuleKind.{RuleKind}
use Rattle.game_rules.specs.declared.Outcome.{Outcome}
use Rattle.game_rules.specs.declared.Outcome.TheVariants.{Refused, Wins, Fouls, Draws, GoesOn}
use Rattle.game_rules.specs.declared.Point.{Point}
use Rattle.game_rules.proofs.Common.{Grid, is_empty, points_of, five, IsPosition, outcome, mover, other, after, goes_on_with, goes_on}
use Rattle.game_rules.proofs.Common.{saves, has_five, has_threat, has_fouls, WinsOr, LosesOr, WinsByThreats, loses_or}
use Rattle.game_rules.proofs.Common.{is_on}
use Rattle.game_rules.proofs.Boards.{is_empty-on, and_left, and_right}
use Rattle.game_rules.proofs.Positions.{GoesOn-empty, GoesOn-on, mover-then}
use Rattle.game_rules.proofs.Points.{points-found, any_witness, all_at, all_of}
use Rattle.game_rules.proofs.Fives.{five-empty}
use Rattle.game_rules.proofs.Outcomes.{five-outcome, goes_on_with-parts, goes_on-split, fouls-all, fouls-test, reply-stays, saved}
use Rattle.game_rules.proofs.Games.{LosesOr-loses_or, each_reply, win-has_five}
use Rattle.game_rules.proofs.Places.{points_passing}
use Rattle.threat_moves.proofs.Common.{is_four_move, is_three_move, all_foul}
use Rattle.threat_moves.proofs.BlockLaw.{no-reply-wins}
use Rattle.threat_moves.proofs.GainLaws.{threat-empty}
use Rattle.threat_game.specs.declared.attacks.Attempt.TheVariants.{Tried, Passed}
use Rattle.threat_game.specs.declared.attacks.BestReply.TheVariants.{GoesOn as SomeGoesOn, Saves, Fouls as EachFouls}
use Rattle.threat_game.proofs.Common.{is_threat_move, has_reply, has_saving, best_reply, is_fouled, is_last_move, is_tried, is_settled_move}
use Rattle.threat_game.proofs.Common.{IsAttempt, OthersFail, LosesToThreats, tried_moves, HasEscape}

-- ---- a threat move is a four move or a three move

module _ (rule : RuleKind) (b : Grid) (p : Point) where
  threat-split : is_threat_move rule b p ≡ (is_four_move rule b p || is_three_move rule b p)
  unfolding is_threat_move is_four_move is_three_move
  threat-split = search (rules, goes_on-split)

  pub four-threat : is_four_move rule b p ≡ true → true ≡ is_threat_move rule b p
  four-threat h = sym (threat-split ∙ ap (λ r. r || is_three_move rule b p) h)

  pub three-threat : is_four_move rule b p ≡ false → is_three_move rule b p ≡ is_threat_move rule b p
  three-threat h = sym (threat-split ∙ ap (λ r. r || is_three_move rule b p) h)

  threat-parts : is_threat_move rule b p ≡ true → (outcome rule b p ≡ GoesOn) × (has_threat rule (after b p) (mover b) ≡ true)
  unfolding is_threat_move
  threat-parts h = goes_on_with-parts (outcome rule b p) (has_threat rule (after b p) (mover b)) h

  -- a threat move goes on
  pub threat-goes_on : is_threat_move rule b p ≡ true → outcome rule b p ≡ GoesOn
  threat-goes_on h = (threat-parts h).0

  -- and leaves a threat
  pub threat-left : is_threat_move rule b p ≡ true → has_threat rule (after b p) (mover b) ≡ true
  threat-left h = (threat-parts h).1

  -- a move that goes on and leaves a threat is one
  pub threat-by : outcome rule b p ≡ GoesOn → has_threat rule (after b p) (mover b) ≡ true → is_threat_move rule b p ≡ true
  unfolding is_threat_move
  threat-by on threat = ap (λ o. goes_on_with o (has_threat rule (after b p) (mover b))) on ∙ threat

-- ---- what the replies come to

module _ (rule : RuleKind) (c : Grid) where
  pub best-here : has_reply rule c ≡ true → SomeGoesOn ≡ best_reply rule c
  unfolding best_reply
  best-here h = sym (ap (λ r. cond r SomeGoesOn (cond (has_saving rule c) Saves EachFouls)) h)

  pub best-saved : has_reply rule c ≡ false → has_saving rule c ≡ true → Saves ≡ best_reply rule c
  unfolding best_reply
  best-saved h k = sym (ap (λ r. cond r SomeGoesOn (cond (has_saving rule c) Saves EachFouls)) h ∙ ap (λ r. cond r Saves EachFouls) k)

  pub best-fouled : has_reply rule c ≡ false → has_saving rule c ≡ false → EachFouls ≡ best_reply rule c
  unfolding best_reply
  best-fouled h k = sym (ap (λ r. cond r SomeGoesOn (cond (has_saving rule c) Saves EachFouls)) h ∙ ap (λ r. cond r Saves EachFouls) k)

  best-goes_on : best_reply rule c ≡ SomeGoesOn → has_reply rule c ≡ true
  unfolding best_reply
  best-goes_on h = search rules

  best-saves : best_reply rule c ≡ Saves → (has_reply rule c ≡ false) × (has_saving rule c ≡ true)
  unfolding best_reply
  best-saves h = search rules

  best-fouls : best_reply rule c ≡ EachFouls → (has_reply rule c ≡ false) × (has_saving rule c ≡ false)
  unfolding best_reply
  best-fouls h = search rules

  -- where none goes on or saves, each fouls
  pub best-all_foul : best_reply rule c ≡ EachFouls → all_foul rule c ≡ true
  best-all_foul h = fouls-all (outcome rule c) (points_of c) (best-fouls h).0 (best-fouls h).1

-- as what they come to tells
pub fouled-is : (rule : RuleKind) (c : Grid) → is_fouled (best_reply rule c) ≡ all_foul rule c
unfolding best_reply
fouled-is rule c = by_tests (has_reply rule c) (has_saving rule c) ∙ sym (fouls-test (outcome rule c) (points_of c)) where
  by_tests : (r s : Bool) → is_fouled (cond r SomeGoesOn (cond s Saves EachFouls)) ≡ (not r && not s)
  by_tests true s = refl
  by_tests false true = refl
  by_tests false false = refl

module _ (rule : RuleKind) (b : Grid) (p : Point) where
  -- where each reply fouls, a threat move is a last move
  pub fouled-last : all_foul rule (after b p) ≡ true → is_threat_move rule b p ≡ is_last_move rule b p
  unfolding is_last_move
  fouled-last h = sym (ap (λ r. is_threat_move rule b p && r) h ∙ and-true (is_threat_move rule b p))

  pub unfouled-last : all_foul rule (after b p) ≡ false → false ≡ is_last_move rule b p
  unfolding is_last_move
  unfouled-last h = sym (ap (λ r. is_threat_move rule b p && r) h ∙ and-false (is_threat_move rule b p))

  pub stopped-last : goes_on (outcome rule b p) ≡ false → false ≡ is_last_move rule b p
  unfolding is_last_move is_threat_move
  stopped-last h = search rules

-- ---- what is to be done with a move

module _ (rule : RuleKind) (b : Grid) (p : Point) where
  pub no_threat-passed : is_threat_move rule b p ≡ false → IsAttempt rule b p Passed
  unfolding is_tried is_settled_move
  no_threat-passed h = search rules

  -- a five point of the other side saves it
  pub saved-by-five : IsPosition rule b → is_threat_move rule b p ≡ true → has_five rule (after b p) (other (mover b)) ≡ true
      → has_saving rule (after b p) ≡ true
  saved-by-five lawful threat some =
      let on = threat-goes_on rule b p threat in
      let turn : mover (after b p) ≡ other (mover b) = mover-then rule b p lawful on in
      let here : has_five rule (after b p) (mover (after b p)) ≡ true = ap (has_five rule (after b p)) turn ∙ some in
      let found = any_witness (five rule (after b p) (mover (after b p))) (points_of (after b p)) here in
      points-found (after b p) (λ q. saves (outcome rule (after b p) q)) found.0
      (is_empty-on (after b p) found.0 (five-empty rule (after b p) (mover (after b p)) found.0 found.1))
      (ap saves (five-outcome rule (after b p) found.0 found.1))

  or_last : (a c : Bool) → (a || c || true) ≡ true
  or_last a c = search rules

  or_middle : (a c : Bool) → (a || true || c) ≡ true
  or_middle a c = search rules

  and_never : (a c : Bool) → (a && false && c) ≡ false
  and_never a c = search rules

  -- a move that leaves the other side a five point need not be tried
  pub unsafe-passed : IsPosition rule b → (is_empty b p ≡ true → has_five rule (after b p) (other (mover b)) ≡ true)
      → IsAttempt rule b p Passed
  unfolding is_tried is_settled_move
  unsafe-passed lawful some = by_test (is_threat_move rule b p) refl where
    by_test : (r : Bool) → is_threat_move rule b p ≡ r → IsAttempt rule b p Passed
    by_test false h = no_threat-passed h
    by_test true h =
        let five_there = some (GoesOn-empty rule b p (threat-goes_on rule b p h)) in
        let saved = saved-by-five lawful h five_there in (
          ap (λ r. is_threat_move rule b p && not r && has_reply rule (after b p)) five_there
              ∙ and_never (is_threat_move rule b p) (has_reply rule (after b p)),
          ap (λ r. not (is_threat_move rule b p) || is_tried rule b p || r) saved
              ∙ or_last (not (is_threat_move rule b p)) (is_tried rule b p),
        )

  module _ (threat : is_threat_move rule b p ≡ true) (safe : has_five rule (after b p) (other (mover b)) ≡ false) where
    pub reply-tried : best_reply rule (after b p) ≡ SomeGoesOn → IsAttempt rule b p Tried
    unfolding is_tried is_settled_move
    reply-tried best =
        let here : is_tried rule b p ≡ true =
        ap (λ r. r && not (has_five rule (after b p) (other (mover b))) && has_reply rule (after b p)) threat
        ∙ ap (λ r. not r && has_reply rule (after b p)) safe
        ∙ best-goes_on rule (after b p) best in (
          here,
          ap (λ r. not (is_threat_move rule b p) || r || has_saving rule (after b p)) here
              ∙ or_middle (not (is_threat_move rule b p)) (has_saving rule (after b p)),
        )

    pub saved-passed : best_reply rule (after b p) ≡ Saves → IsAttempt rule b p Passed
    unfolding is_tried is_settled_move
    saved-passed best =
        let told = best-saves rule (after b p) best in (
          ap (λ r. is_threat_move rule b p && not (has_five rule (after b p) (other (mover b))) && r) told.0
              ∙ and-false (is_threat_move rule b p && not (has_five rule (after b p) (other (mover b)))),
          ap (λ r. not (is_threat_move rule b p) || is_tried rule b p || r) told.1
              ∙ or_last (not (is_threat_move rule b p)) (is_tried rule b p),
        )

  pub fouls-last : is_threat_move rule b p ≡ true → best_reply rule (after b p) ≡ EachFouls → is_last_move rule b p ≡ true
  unfolding is_last_move
  fouls-last threat best = ap (λ r. r && all_foul rule (after b p)) threat ∙ best-all_foul rule (after b p) best

  settled-fails : is_settled_move rule b p ≡ true → is_threat_move rule b p ≡ true → is_tried rule b p ≡ false
      → has_saving rule (after b p) ≡ true
  unfolding is_settled_move
  settled-fails settled threat untried = search rules

-- where that is so of all points, all moves that need not be tried fail
pub others-fail : (rule : RuleKind) (b : Grid) → list_all (is_settled_move rule b) (points_of b) ≡ true → OthersFail rule b
others-fail rule b all = record {
  fails = λ p threat untried. settled-fails rule b p
      (all_at b (is_settled_move rule b) p all (GoesOn-on rule b p (threat-goes_on rule b p threat))) threat untried;
}

module _ (rule : RuleKind) (b : Grid) (p : Point) where
  last-parts : is_last_move rule b p ≡ true → (is_threat_move rule b p ≡ true) × (all_foul rule (after b p) ≡ true)
  unfolding is_last_move
  last-parts h = (and_left (is_threat_move rule b p) _ h, and_right (is_threat_move rule b p) _ h)

  -- a last move goes on
  pub last-goes_on : is_last_move rule b p ≡ true → outcome rule b p ≡ GoesOn
  last-goes_on h = threat-goes_on rule b p (last-parts h).0

  -- each reply to it fouls
  pub last-fouled : is_last_move rule b p ≡ true → (W : Grid → Type 0) → (q : Point)
      → LosesOr (outcome rule (after b p) q) (W (after (after b p) q))
  last-fouled h W q = each_reply rule (after b p) (λ c. false) W (λ c e. absurd (never e)) (last-parts h).1 q where
    never : false ≡ true → ⊥
    never e = cc

  -- it wins
  pub last-wins : is_last_move rule b p ≡ true → (n : ℕ) → WinsByThreats rule (suc n) b
  last-wins h n = (
    p,
    subst (λ (o : Outcome). WinsOr o
        (IsTrue (has_threat rule (after b p) (mover b))
        × ((q : Point) → LosesOr (outcome rule (after b p) q) (WinsByThreats rule n (after (after b p) q))))) (sym (last-goes_on h))
        (threat-left rule b p (last-parts h).0, λ q. last-fouled h (WinsByThreats rule n) q),
  )

module _ (rule : RuleKind) (b : Grid) (lawful : IsPosition rule b) (none : has_five rule b (mover b) ≡ false) where
  one-last : WinsByThreats rule 1 b → (p : Point) × (is_last_move rule b p ≡ true)
  unfolding is_last_move
  one-last win = (win.0, by_outcome (outcome rule b win.0) refl win.1) where
    by_outcome : (o : Outcome) → outcome rule b win.0 ≡ o
        → WinsOr o (IsTrue (has_threat rule (after b win.0) (mover b)) × ((q : Point) → LosesOr (outcome rule (after b win.0) q) ⊥))
        → (is_threat_move rule b win.0 && all_foul rule (after b win.0)) ≡ true
    by_outcome Refused e h = absurd h
    by_outcome Wins e h = absurd (no-reply-wins rule b lawful none win.0 e)
    by_outcome (Fouls f) e h = absurd h
    by_outcome Draws e h = absurd h
    by_outcome GoesOn e h =
        ap (λ r. r && all_foul rule (after b win.0)) (threat-by rule b win.0 e h.0)
        ∙ all_of (λ q. loses_or (outcome rule (after b win.0) q) false) (points_of (after b win.0))
        (λ q. LosesOr-loses_or (outcome rule (after b win.0) q) false ⊥ (λ k. absurd k) (h.1 q))

  -- without a last move there is no win within one move
  pub none-last : false ≡ list_any (is_last_move rule b) (points_of b) → WinsByThreats rule 1 b → ⊥
  none-last never win =
      let last = one-last win in
      let some = points-found b (is_last_move rule b) last.0 (GoesOn-on rule b last.0 (last-goes_on rule b last.0 last.1)) last.1 in
      let bad : false ≡ true = never ∙ some in
      cc

  -- nor where the other side has no fouls
  pub no_fouls-last : has_fouls rule (other (mover b)) ≡ false → WinsByThreats rule 1 b → ⊥
  no_fouls-last free win =
      let last = one-last win in
      let p = last.0 in
      let parts = last-parts rule b p last.1 in
      let on = threat-goes_on rule b p parts.0 in
      let w = threat-empty rule (after b p) (mover b) (threat-left rule b p parts.0) in
      let turn : mover (after b p) ≡ other (mover b) = mover-then rule b p lawful on in
      let lost : loses_or (outcome rule (after b p) w.0) false ≡ true =
      all_at (after b p) (λ q. loses_or (outcome rule (after b p) q) false) w.0 parts.1 (is_empty-on (after b p) w.0 w.1) in
      let stays = reply-stays rule (after b p) w.0 w.1 (ap (has_fouls rule) turn ∙ free) in
      let bad : false ≡ true = sym stays ∙ lost in
      cc

tried-listed : (rule : RuleKind) (b : Grid) (p : Point) → is_on b p ≡ true → is_tried rule b p ≡ true → Contains (tried_moves rule b) p
tried-listed rule b p on tried = points_passing b (is_tried rule b) p on tried

-- a move of the game of threats is one of those to be tried, or a reply to it wins or fills the board
pub tried-or-saved : (rule : RuleKind) (b : Grid) → OthersFail rule b → (p : Point) → is_threat_move rule b p ≡ true
    → Contains (tried_moves rule b) p ⊎ (has_saving rule (after b p) ≡ true)
tried-or-saved rule b others p threat = by_test (is_tried rule b p) refl where
  by_test : (r : Bool) → is_tried rule b p ≡ r → Contains (tried_moves rule b) p ⊎ (has_saving rule (after b p) ≡ true)
  by_test true e = inl (tried-listed rule b p (GoesOn-on rule b p (threat-goes_on rule b p threat)) e)
  by_test false e = inr (others.fails p threat e)

-- where a reply wins or fills the board the attacker does not win whatever the reply
pub saving-saves : (rule : RuleKind) (n : ℕ) (c : Grid) → has_saving rule c ≡ true → LosesToThreats rule n c → ⊥
saving-saves rule n c some loses = search (rules, any_witness, saved)

pub tried-enough : (rule : RuleKind) (n : ℕ) (b : Grid) → has_five rule b (mover b) ≡ false → OthersFail rule b
    → WinsByThreats rule (suc n) b → (p : Point) × Contains (tried_moves rule b) p × LosesToThreats rule n (after b p)
unfolding is_threat_move
tried-enough rule n b none others (p, win) = by_outcome (outcome rule b p) refl win where
  Goal : Type 0
  Goal = (q : Point) × Contains (tried_moves rule b) q × LosesToThreats rule n (after b q)

  on-goes : outcome rule b p ≡ GoesOn → IsTrue (has_threat rule (after b p) (mover b)) → LosesToThreats rule n (after b p)
      → (q : Point) × Contains (tried_moves rule b) q × LosesToThreats rule n (after b q)
  on-goes go threat loses = by_test (is_tried rule b p) refl where
    threat-move : is_threat_move rule b p ≡ true
    threat-move = ap (λ o. goes_on_with o (has_threat rule (after b p) (mover b))) go ∙ threat

    by_test : (r : Bool) → is_tried rule b p ≡ r → (q : Point) × Contains (tried_moves rule b) q × LosesToThreats rule n (after b q)
    by_test true e = (p, tried-listed rule b p (GoesOn-on rule b p go) e, loses)
    by_test false e = absurd (saving-saves rule n (after b p) (others.fails p threat-move e) loses)

  by_outcome : (o : Outcome) → outcome rule b p ≡ o → WinsOr o
      (IsTrue (has_threat rule (after b p) (mover b)) × LosesToThreats rule n (after b p))
      → (q : Point) × Contains (tried_moves rule b) q × LosesToThreats rule n (after b q)
  by_outcome Wins e w = absurd (let yes_five = win-has_five rule b p e in let bad : true ≡ false = sym yes_five ∙ none in cc)
  by_outcome GoesOn e w = on-goes e w.0 w.1
  by_outcome _ e w = absurd w

-- where no move has to be tried there is no win by threats
pub none-tried : (rule : RuleKind) (n : ℕ) (b : Grid) → has_five rule b (mover b) ≡ false → OthersFail rule b → tried_moves rule b ≡ []
    → 1 ≤ n → WinsByThreats rule n b → ⊥
none-tried rule zero b none others empty some win = absurd win
none-tried rule (suc n) b none others empty some win =
    let found = tried-enough rule n b none others win in
    let listed : Contains [] found.0 = subst (λ (ps : List Point). Contains ps found.0) empty found.1 in
    omega (arith, listed.1)

-- where a reply leaves no win the attacker does not win whatever the reply
pub escape-saves : (rule : RuleKind) (n : ℕ) (c : Grid) → HasEscape rule n c → LosesToThreats rule n c → ⊥
escape-saves rule n c escape loses = search rules
