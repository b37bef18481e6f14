-- That a table names lower nodes alone, by a test of each of its places.
use Rattle.std.proofs.Common.{◌≡◌, ℕ, Bool, true, List, subst, Option, Some, None, slice_get}
use Rattle.strategy_graph.specs.declared.Node.{Node}
use Rattle.strategy_graph.proofs.Common.{answers_of, names_below, NamesLower}

abbrev pub names_lower : Option Node → ℕ → Bool
names_lower None i = true
names_lower (Some n) i = names_below (answers_of n) i

pub lower_by : (t : List Node) → ((i : ℕ) → names_lower (slice_get t i) i ≡ true) → NamesLower t
lower_by t at = record { lower = λ i n e. subst (λ (o : Option Node). names_lower o i ≡ true) e (at i) }
