use Rattle.strategy_compiler.proofs.Places.{places-none, places-more, places-all}
use Rattle.strategy_compiler.proofs.renumbering.places_in.Goals as goal

pub loop-place-init : goal.loop-place-init
loop-place-init c = places-none c.args.order.now c.args.len c.in_ok-places.places.items
    (c.in_ok-places.ensures.items_if_clones_equal (λ y e. e))

pub loop-place-preserved : goal.loop-place-preserved
loop-place-preserved c =
    places-more c.args.order.now c.args.len c.loop-place.places.items c.loop-place.place c.requires.once c.loop-place-test.true
    (c.requires.within c.loop-place.place c.loop-place-test.true) c.loop-place.invariant

pub returns-clause-places : goal.returns-clause-places
returns-clause-places c = places-all c.args.order.now c.args.len c.loop-place.places.items c.loop-place.place c.loop-place-test.false
    c.loop-place.invariant
