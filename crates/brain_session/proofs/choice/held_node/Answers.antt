use Rattle.std.proofs.Common.{sym, ap, ◌∙◌, arith, slice_get}
use Rattle.brain_session.proofs.Common.{Moves, game_of}
use Rattle.brain_session.proofs.HeldNodes.{led_to, first-skip, first-found, first-none}
use Rattle.brain_session.proofs.choice.held_node.Goals as goal

pub loop-i-preserved : goal.loop-i-preserved
loop-i-preserved c =
    let game = c.args.game.now in
    let roots = c.args.held.now.roots in
    let led = ap (λ (m : Moves). led_to (game_of m game) (slice_get roots c.loop-i.i)) (sym c.loop-i.invariant.same)
    ∙ sym c.root_node.ensures.node ∙ c.in_default.is in
    record {
      same = c.root_node.ensures.same ∙ c.loop-i.invariant.same;
      first = first-skip (game_of c.args.played.now game) roots c.loop-i.i _ c.loop-i.invariant.first (omega arith) led;
    }

pub returns-in-Some-clause-node : goal.returns-in-Some-clause-node
returns-in-Some-clause-node c =
    let game = c.args.game.now in
    let roots = c.args.held.now.roots in
    let led = ap (λ (m : Moves). led_to (game_of m game) (slice_get roots c.loop-i.i)) (sym c.loop-i.invariant.same)
    ∙ sym c.root_node.ensures.node ∙ c.in-Some.is in
    first-found (game_of c.args.played.now game) roots c.loop-i.i _ c.loop-i.invariant.first (omega arith) c.in-Some.node led

pub returns-clause-node : goal.returns-clause-node
returns-clause-node c = first-none (game_of c.args.played.now c.args.game.now) c.args.held.now.roots c.loop-i.i _ c.loop-i.invariant.first
    (omega arith)
