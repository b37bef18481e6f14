-- A table names points of the board alone where each of its nodes does.
use Rattle.std.proofs.Common.{◌≡◌, ◌<◌, refl, arith, ℕ, suc, List, [], ◌∷◌, length, Some, slice_get}
use Rattle.game_rules.proofs.Common.{Grid}
use Rattle.strategy_graph.specs.declared.Node.{Node}
use Rattle.strategy_graph.proofs.Common.{NamesOnBoard, TableOnBoard}

pub table-on : (b : Grid) (t : List Node) → ((i : ℕ) (n : Node) → i < length t → slice_get t i ≡ Some n → NamesOnBoard b n)
    → TableOnBoard b t
table-on b [] each = tt
table-on b (n ∷ t) each =
    (each 0 n (omega arith) refl, table-on b t (λ i m l e. each (suc i) m (omega (arith, l)) e))
