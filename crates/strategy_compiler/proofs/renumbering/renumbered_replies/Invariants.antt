use Rattle.std.proofs.Common.{◌≡◌, map, take, get_or}
use Rattle.strategy_graph.specs.Renumbered.{renumbered_reply}
use Rattle.strategy_compiler.proofs.renumbering.renumbered_replies.Given as goal

abbrev pub invariant-loop-reply : goal.invariant-loop-reply
invariant-loop-reply l = l.renumbered ≡ map (renumbered_reply (λ j. get_or l.places j 0)) (take l.reply-index l.replies)
