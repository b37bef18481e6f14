use Rattle.strategy_compiler.proofs.Places.{PlacesUpTo}
use Rattle.strategy_compiler.proofs.renumbering.places_in.Given as goal

abbrev pub invariant-loop-place : goal.invariant-loop-place
invariant-loop-place l = PlacesUpTo l.order l.len l.places.items l.place
