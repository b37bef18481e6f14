-- What the answers of a line proof say.
use Rattle.std.specs.Prelude.{◌≡◌, ℕ, min, Bool, true, false, List, Option, Some, None}
use Rattle.game_rules.specs.Grid.{Grid}
use Rattle.game_rules.specs.Games.{wins_by_fours}
use Rattle.game_rules.specs.declared.RuleKind.{RuleKind}
use Rattle.strategy_graph.specs.declared.Node.{Node}
use Rattle.strategy_compiler.specs.Wins.{IsWrittenWin}
use Rattle.strategy_compiler.specs.declared.wins.WrittenWin.{WrittenWin}
use Rattle.line_proof.specs.declared.proof.LineAnswer.{LineAnswer}
use Rattle.line_proof.specs.declared.proof.LineAnswer.TheVariants.{Proved, Fails}

-- P holds of the win, if the answer is one
abbrev pub OnProved : LineAnswer → (WrittenWin → Type 0) → Type 0
OnProved (Proved win) P = P win
OnProved Fails P = Unit {0}

-- what is told of a line at b is so, where this tells whether it wins: a win within n moves, or that it does not win
abbrev pub IsTold : RuleKind → ℕ → Grid → List Node → Bool → LineAnswer → Type 0
IsTold rule n b t wins (Proved win) = (wins ≡ true) × IsWrittenWin rule n b t win
IsTold rule n b t wins Fails = wins ≡ false

-- what is found at b within two of n moves: a win by continuous fours, or that there is none, and then nothing was written
abbrev pub IsQuick : RuleKind → ℕ → Grid → List Node → List Node → Option WrittenWin → Type 0
IsQuick rule n b old new (Some win) = (wins_by_fours rule (min n 2) b ≡ true) × IsWrittenWin rule n b new win
IsQuick rule n b old new None = (wins_by_fours rule (min n 2) b ≡ false) × (new ≡ old)
