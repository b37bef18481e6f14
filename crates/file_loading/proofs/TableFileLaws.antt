-- The text of a table has one table, and what is told of a root that is not accepted is what is said of its table.
use Rattle.std.proofs.Common.{◌≡◌, ◌⊎◌, inl, inr, ℕ, ◌<◌, List}
use Rattle.strategy_graph.specs.Roots.{AcceptedRoot, LeadsRoot, root_arrivals}
use Rattle.strategy_checker.specs.HeldErrors.{IfRootRefused, IfRootSpent}
use Rattle.strategy_checker.specs.declared.error.HeldError.{HeldError}
use Rattle.strategy_checker.specs.declared.error.HeldError.TheVariants.{Refused as RefusedRoot, Spent as SpentRoot, Memory as NotHeld}
use Rattle.file_loading.proofs.Common.{TableFile, Status, IsRefusedTable, IsSpentWork, IsTableAt, IsToldOf}
use Rattle.position_files.proofs.ReadBack.{table-read-back}

-- bytes are the text of one table at a lawful position with its number of moves
pub one-table : (file other : TableFile) (bytes : List ℕ) → IsTableAt file bytes → IsTableAt other bytes → other ≡ file
one-table file other bytes at is = let only = table-read-back file bytes at.text at.lawful at.moves in only.no_other other is.text

-- what is told of a root that is not accepted is what is said of its table
pub told-root : (work : ℕ) (file : TableFile) (error : HeldError) (status : Status) (text : List ℕ)
    → IfRootRefused (λ line why. ¬ AcceptedRoot file.kind file.table file.root file.board) error
    → IfRootRefused (λ line why. LeadsRoot file.kind file.table file.root file.board line why) error
    → IfRootSpent (work < root_arrivals file.kind file.table file.root file.board) error → IsToldOf error status text
    → IsRefusedTable file status text ⊎ IsSpentWork work file status text
told-root work file (RefusedRoot line why) status text refused leads spent told =
    inl (record { refused = refused; moves = line; why = why; leads = leads; ends = told.0; line = told.1 })
told-root work file SpentRoot status text refused leads spent told = inr (record { more = spent; ends = told.0; line = told.1 })
told-root work file NotHeld status text refused leads spent told = absurd told
