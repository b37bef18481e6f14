use Rattle.std.proofs.Common.{sym, ap, ◌∙◌, ◌≡◌, ◌≤◌, ◌↔◌, ℕ, Bool, true, IfOk, IsTrue, Result, Ok, Err}
use Rattle.proof_number.proofs.Common.{RuleKind, Grid, has_five, has_threat, LosesToThreats, WinsByFewFours}
use Rattle.game_rules.proofs.Common.{other, wins_by_fours}
use Rattle.game_rules.proofs.Games.{one-winner, test-WinsUnder}
use Rattle.four_search.specs.FourGame.{four_cost}
use Rattle.proof_number.proofs.denials.is_denied.Goals as goal

denied : {E : Type 0} (rule : RuleKind) (b : Grid) (found : Result Bool E)
    → IfOk found (λ found. IsTrue found ↔ ((wins_by_fours rule 20 b ≡ true) × (four_cost rule 20 b ≤ 50)))
    → IfOk found (λ found. IsTrue found → (moves : ℕ) → LosesToThreats rule moves b → ⊥)
denied rule b (Err e) h = tt
denied rule b (Ok found) h = λ is moves loses.
    one-winner (has_five rule) (has_threat rule) rule 20 moves b (test-WinsUnder (has_five rule) rule 20 b (h.0 is).0) loses

few-fours : {E : Type 0} (rule : RuleKind) (b : Grid) (found : Result Bool E)
    → IfOk found (λ found. IsTrue found ↔ ((wins_by_fours rule 20 b ≡ true) × (four_cost rule 20 b ≤ 50)))
    → IfOk found (λ found. IsTrue found → WinsByFewFours rule b)
few-fours rule b (Err e) h = tt
few-fours rule b (Ok found) h = λ is. record { wins = test-WinsUnder (has_five rule) rule 20 b (h.0 is).0; few = (h.0 is).1 }

pub returns-clause-denied : goal.returns-clause-denied
returns-clause-denied g c = denied g.R.Rule.KIND (g.V.Seen.position c.args.view.now) c.finds_fours_without_fives.result
    c.finds_fours_without_fives.ensures.found

pub returns-clause-fours : goal.returns-clause-fours
returns-clause-fours g c = few-fours g.R.Rule.KIND (g.V.Seen.position c.args.view.now) c.finds_fours_without_fives.result
    c.finds_fours_without_fives.ensures.found

pub finds_fours_without_fives-requires-clause-safe : goal.finds_fours_without_fives-requires-clause-safe
finds_fours_without_fives-requires-clause-safe g c =
    let b : Grid = g.V.Seen.position c.args.view.now in
    sym (c.has_five.ensures.five ∙ ap (λ (w : Grid). has_five g.R.Rule.KIND w c.other-attacker.result) c.board.ensures.board
    ∙ ap (has_five g.R.Rule.KIND b) (c.other-attacker.ensures.other ∙ ap other c.side.ensures.side)) ∙ c.if-has_five.false
