-- The command `foul`: its answers.
use Rattle.std.proofs.Common.{List, ℕ}
use Rattle.position_commands.proofs.Common.{PositionFile, Status, IsFoulList, foul_command}

-- what is said of a position is an answer
pub foul-answers : (file : PositionFile) → foul_command.IsEnough file → (status : Status) (text : List ℕ) → IsFoulList file status text
    → foul_command.IsAnswer status
foul-answers file enough status text list = list.ends
