-- Where an escape meets each move that has to be tried, there is no win by threats. Where each move on an empty point goes on, and what
-- that tells of the replies.
use Rattle.std.proofs.Common.{◌≡◌, ℕ, suc, Bool, false, subst, List, IfOk, IsTrue, Result, Ok, Err, All, ◌≤◌, true, ◌&&◌, not}
use Rattle.std.proofs.Common.{ap, ◌∙◌, arith, nat_eq, Option, None, rules}
use Rattle.std.proofs.lemmas.List.Elements.{All-contains, All-from_get_or}
use Rattle.std.proofs.lemmas.Bool.Decides.{nat_tests}
use Rattle.game_rules.specs.declared.RuleKind.{RuleKind}
use Rattle.game_rules.specs.declared.Outcome.TheVariants.{GoesOn}
use Rattle.game_rules.specs.declared.Point.{Point}
use Rattle.game_rules.specs.declared.Foul.{Foul}
use Rattle.game_rules.proofs.Common.{Grid, outcome, mover, after, WinsByThreats, has_five, is_empty, empties_of, five}
use Rattle.game_rules.proofs.Common.{IsPosition, outcome_by, has_fouls, foul_of, goes_on}
use Rattle.game_rules.proofs.Boards.{and_left, and_right}
use Rattle.game_rules.proofs.Positions.{GoesOn-on, mover-then}
use Rattle.game_rules.proofs.Points.{points-found, any_witness, taken_refused, is_same_point-itself, is_same_point-same}
use Rattle.game_rules.proofs.Outcomes.{goes_on-is, no_foul}
use Rattle.game_rules.proofs.Wins.{no_five}
use Rattle.threat_game.specs.declared.doubles.DoublePoint.{DoublePoint}
use Rattle.threat_game.proofs.Common.{OthersFail, tried_moves, nowhere, HasEscape, IsDoubleWin, has_reply_at, EachGoesOn}
use Rattle.threat_game.proofs.TreeLaws.{tried-at, still-safe}
use Rattle.threat_game.proofs.AttackLaws.{escape-saves, tried-enough}

-- each move that has to be tried goes on
pub tried-on : (rule : RuleKind) (b : Grid) → All (λ p. outcome rule b p ≡ GoesOn) (tried_moves rule b)
tried-on rule b = All-from_get_or (λ p. outcome rule b p ≡ GoesOn) (tried_moves rule b) nowhere (λ j low. (tried-at rule b j low).on)

-- with an escape after each of them, there is no win by one more move than the escapes leave
pub tried-escaped : (rule : RuleKind) (n : ℕ) (b : Grid) → has_five rule b (mover b) ≡ false → OthersFail rule b
    → All (λ p. HasEscape rule n (after b p)) (tried_moves rule b) → WinsByThreats rule (suc n) b → ⊥
tried-escaped rule n b none others escapes win =
    let found = tried-enough rule n b none others win in
    escape-saves rule n (after b found.0) (All-contains (λ p. HasEscape rule n (after b p)) (tried_moves rule b) found.0 escapes found.1)
    found.2

-- the same of an answer that tells of such escapes
pub fails-told : {E : Type 0} (rule : RuleKind) (n : ℕ) (b d : Grid) → d ≡ b → has_five rule b (mover b) ≡ false → OthersFail rule b
    → (moves : List Point) → moves ≡ tried_moves rule b → (told : Result Bool E)
    → IfOk told (λ found. IsTrue found → All (λ p. HasEscape rule n (after d p)) moves)
    → IfOk told (λ found. IsTrue found → WinsByThreats rule (suc n) b → ⊥)
fails-told rule n b d same none others moves are (Err e) escapes = tt
fails-told rule n b d same none others moves are (Ok found) escapes =
    λ is.
    tried-escaped rule n b none others
    (subst (λ (c : Grid). All (λ p. HasEscape rule n (after c p)) (tried_moves rule b)) same
    (subst (λ (ps : List Point). All (λ p. HasEscape rule n (after d p)) ps) are (escapes is)))

pub not_one : (n : ℕ) → 2 ≤ n → nat_eq n 1 ≡ false
not_one n h = grind (arith, nat_tests)

-- without a five point and fouls, and with two empty points or more, each goes on
pub each-goes_on : (rule : RuleKind) (b : Grid) → has_five rule b (mover b) ≡ false → has_fouls rule (mover b) ≡ false → 2 ≤ empties_of b
    → EachGoesOn rule b
unfolding outcome
each-goes_on rule b none calm many = record {
  on = λ q empty.
      ap (λ e. outcome_by e (five rule b (mover b) q) (foul_of rule b (mover b) q) (nat_eq (empties_of b) 1)) empty
      ∙ ap (λ f. outcome_by true f (foul_of rule b (mover b) q) (nat_eq (empties_of b) 1)) (no_five rule b (mover b) q none)
      ∙ ap (λ (o : Option Foul). outcome_by true false o (nat_eq (empties_of b) 1)) (no_foul rule b (mover b) q calm)
      ∙ ap (λ l. outcome_by true false None l) (not_one (empties_of b) many);
}

-- then whether a move goes on is whether its point is empty
pub free-tells : (rule : RuleKind) (b : Grid) → EachGoesOn rule b → (q : Point) → is_empty b q ≡ goes_on (outcome rule b q)
free-tells rule b each q = search (rules, taken_refused)

-- a test and no other
pub other-same : (a r : Bool) → r ≡ true → false ≡ (a && not r)
other-same a r h = search rules

pub other-apart : (a r : Bool) → r ≡ false → a ≡ (a && not r)
other-apart a r h = search rules

-- the reply on a point goes on exactly where one on it does
pub reply-at : (rule : RuleKind) (c : Grid) (w : Point) → goes_on (outcome rule c w) ≡ has_reply_at rule c w
reply-at rule c w =
    search (rules, is_same_point-same, and_right, and_left, any_witness, points-found, GoesOn-on, goes_on-is, is_same_point-itself)

-- after a double point that wins the other side has no five point
pub double-safe : (rule : RuleKind) (b : Grid) (d : DoublePoint) → IsPosition rule b → IsDoubleWin rule b d
    → has_five rule (after b d.at) (mover (after b d.at)) ≡ false
double-safe rule b d lawful wins =
    ap (has_five rule (after b d.at)) (mover-then rule b d.at lawful wins.on) ∙ still-safe rule b d.at lawful wins.on wins.safe
