use Rattle.std.proofs.Common.{◌≡◌, ℕ, ◌<◌, Some, slice_get}
use Rattle.strategy_graph.specs.declared.Node.{Node}
use Rattle.strategy_graph.proofs.Common.{NamesOnBoard}
use Rattle.quiet_command.proofs.quiet.is_on_board.Given as goal

-- the nodes so far name points of the board alone
abbrev pub invariant-loop-i : goal.invariant-loop-i
invariant-loop-i l = (k : ℕ) (n : Node) → k < l.i → slice_get l.table k ≡ Some n → NamesOnBoard l.board n
