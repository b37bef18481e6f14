-- Verdicts on a table, and when each of them comes.
use Rattle.std.specs.Prelude.{◌≡◌, ◌↔◌, ℕ, ◌<◌, ◌≤◌, List, Result, Ok, Err}
use Rattle.game_rules.specs.declared.Point.{Point}
use Rattle.strategy_graph.specs.declared.Why.{Why}
use Rattle.strategy_checker.specs.declared.Verdict.{Verdict}
use Rattle.strategy_checker.specs.declared.error.HeldError.{HeldError}
use Rattle.strategy_checker.specs.declared.error.HeldError.TheVariants.{Refused as RefusedRoot, Spent as SpentRoot, Memory}
use Rattle.strategy_checker.specs.declared.Verdict.TheVariants.{Accepted, Refused, Spent}

-- P holds of the moves and the arrivals, if the verdict accepts
abbrev pub IfAccepted : (ℕ → ℕ → Type 0) → Verdict → Type 0
IfAccepted P (Accepted moves arrivals) = P moves arrivals
IfAccepted P (Refused line why) = Unit {0}
IfAccepted P Spent = Unit {0}

-- P holds of the line and the fault, if the verdict refuses
abbrev pub IfRefused : (List Point → Why → Type 0) → Verdict → Type 0
IfRefused P (Accepted moves arrivals) = Unit {0}
IfRefused P (Refused line why) = P line why
IfRefused P Spent = Unit {0}

-- the verdict accepts
abbrev pub Accepts : Verdict → Type 0
Accepts (Accepted moves arrivals) = Unit {0}
Accepts (Refused line why) = ⊥
Accepts Spent = ⊥

-- the verdict refuses
abbrev pub Refuses : Verdict → Type 0
Refuses (Accepted moves arrivals) = ⊥
Refuses (Refused line why) = Unit {0}
Refuses Spent = ⊥

-- the verdict is that the work is spent
abbrev pub Spends : Verdict → Type 0
Spends (Accepted moves arrivals) = ⊥
Spends (Refused line why) = ⊥
Spends Spent = Unit {0}

-- it accepts exactly where the table is accepted and the arrivals are at most the work
abbrev pub AcceptsExactly : Type 0 → ℕ → ℕ → Verdict → Type 0
AcceptsExactly accepted arrivals work v = Accepts v ↔ (accepted × (arrivals ≤ work))

-- it refuses only where the table is not accepted, and always there if the arrivals are at most the work
pub record RefusesRightly (accepted : Type 0) (arrivals work : ℕ) (v : Verdict) : Type 0 where
  pub only_then : Refuses v → ¬ accepted
  pub always_then : ¬ accepted → arrivals ≤ work → Refuses v

-- it is spent only where the arrivals are above the work, and always there if the table is accepted
pub record SpendsRightly (accepted : Type 0) (arrivals work : ℕ) (v : Verdict) : Type 0 where
  pub only_then : Spends v → work < arrivals
  pub always_then : accepted → work < arrivals → Spends v

-- the verdict on a root of this depth, by what a check of it answers: none for want of memory
abbrev pub IsVerdictOf : ℕ → Result ℕ HeldError → Verdict → Type 0
IsVerdictOf moves (Ok n) v = v ≡ Accepted moves n
IsVerdictOf moves (Err (RefusedRoot line why)) v = v ≡ Refused line why
IsVerdictOf moves (Err SpentRoot) v = v ≡ Spent
IsVerdictOf moves (Err Memory) v = ⊥
