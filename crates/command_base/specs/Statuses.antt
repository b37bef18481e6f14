-- The statuses of the program and their numbers.
use Rattle.std.specs.Prelude.{ℕ}
use Rattle.command_base.specs.declared.status.Status.{Status}
use Rattle.command_base.specs.declared.status.Status.TheVariants.{Done, Usage, ShelfFault, RefusedText, RefusedTable, Spent, Memory}
use Rattle.command_base.specs.declared.status.Status.TheVariants.{ReadFault, WriteFault, NotFound, TooLong, Full}

-- the number that the program ends with
abbrev pub status_number : Status → ℕ
status_number Done = 0
status_number Usage = 1
status_number ShelfFault = 2
status_number RefusedText = 3
status_number RefusedTable = 4
status_number Spent = 5
status_number Memory = 6
status_number ReadFault = 7
status_number WriteFault = 8
status_number NotFound = 9
status_number TooLong = 11
status_number Full = 12
