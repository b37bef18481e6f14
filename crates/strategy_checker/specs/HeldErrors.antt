-- Why a root is not accepted, or not held.
use Rattle.std.specs.Prelude.{List}
use Rattle.game_rules.specs.declared.Point.{Point}
use Rattle.strategy_graph.specs.declared.Why.{Why}
use Rattle.strategy_checker.specs.declared.error.HeldError.{HeldError}
use Rattle.strategy_checker.specs.declared.error.HeldError.TheVariants.{Refused, Spent, Memory}

-- P holds of the line and the fault, if the root is refused
abbrev pub IfRootRefused : (List Point → Why → Type 0) → HeldError → Type 0
IfRootRefused P (Refused line why) = P line why
IfRootRefused P Spent = Unit {0}
IfRootRefused P Memory = Unit {0}

-- P holds, if the work is spent
abbrev pub IfRootSpent : Type 0 → HeldError → Type 0
IfRootSpent P (Refused line why) = Unit {0}
IfRootSpent P Spent = P
IfRootSpent P Memory = Unit {0}
