-- The entries of a book as roots that are held, and why they are not.
use Rattle.std.specs.Prelude.{ℕ, ◌<◌, ◌≤◌, List}
use Rattle.game_rules.specs.declared.Point.{Point}
use Rattle.strategy_graph.specs.Roots.{AcceptedRoot, LeadsRoot, root_arrivals}
use Rattle.strategy_graph.specs.declared.Node.{Node}
use Rattle.strategy_graph.specs.declared.Why.{Why}
use Rattle.strategy_checker.specs.declared.error.HeldError.{HeldError}
use Rattle.strategy_checker.specs.declared.error.HeldError.TheVariants.{Refused as RefusedRoot, Spent as SpentRoot, Memory as NoRoom}
use Rattle.strategy_checker.specs.declared.held.HeldRoot.{HeldRoot}
use Rattle.table_book.specs.declared.Entry.{Entry}
use Rattle.table_book.specs.declared.error.HoldError.{HoldError}
use Rattle.table_book.specs.declared.error.HoldError.TheVariants.{Refused, Spent, Memory}
use Rattle.table_book.specs.Faults.{IsEarliest}

-- the root of an entry as one that is held: at its board, under its rule
abbrev pub held_entry : Entry → HeldRoot
held_entry e = record { root = e.root; kind = e.kind; board = e.board }

-- the arrivals from the root of an entry at its position
abbrev pub entry_arrivals : List Node → Entry → ℕ
entry_arrivals t e = root_arrivals e.kind t e.root e.board

-- the root of the entry is accepted at its position with at most so many arrivals
pub record IsAccepted (t : List Node) (work : ℕ) (e : Entry) : Type 0 where
  pub accepted : AcceptedRoot e.kind t e.root e.board
  pub arrivals : entry_arrivals t e ≤ work

-- the error of a root, said of the entry of this number
abbrev pub at_entry : ℕ → HeldError → HoldError
at_entry n (RefusedRoot line why) = Refused n line why
at_entry n SpentRoot = Spent n
at_entry n NoRoom = Memory

-- the entries before entry n are accepted, it is not, and the line leads from its root to the fault
pub record IsRefusedAt (t : List Node) (es : List Entry) (work n : ℕ) (line : List Point) (why : Why) : Type 0 where
  pub entry : Entry
  pub earliest : IsEarliest (IsAccepted t work) es n entry
  pub refused : ¬ AcceptedRoot entry.kind t entry.root entry.board
  pub leads : LeadsRoot entry.kind t entry.root entry.board line why

-- the entries before entry n are accepted, and there are more arrivals from its root than the work
pub record IsSpentAt (t : List Node) (es : List Entry) (work n : ℕ) : Type 0 where
  pub entry : Entry
  pub earliest : IsEarliest (IsAccepted t work) es n entry
  pub spent : work < entry_arrivals t entry

-- what each error says of entries that are checked in their order, each with so much work
abbrev pub IsHoldFault : List Node → List Entry → ℕ → HoldError → Type 0
IsHoldFault t es work (Refused n line why) = IsRefusedAt t es work n line why
IsHoldFault t es work (Spent n) = IsSpentAt t es work n
IsHoldFault t es work Memory = Unit {0}
