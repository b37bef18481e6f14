-- The node that is put in lists no replies.
use Rattle.strategy_graph.specs.declared.Rest.TheVariants.{Wins}
use Rattle.strategy_compiler.proofs.Briefs.{answered-winning}
use Rattle.strategy_compiler.proofs.Forks.{answered-leaf}
use Rattle.strategy_compiler.proofs.compiler.Compiler.winning.Goals as goal

pub returns-clause-stands : goal.returns-clause-stands
returns-clause-stands c = answered-winning c.args.self.now c.put_in.new.nodes.keys c.put_in.result c.args.attack c.new-replies.result
    c.new-replies.ensures.empty c.put_in.ensures.node

pub returns-clause-wins : goal.returns-clause-wins
returns-clause-wins c = answered-leaf c.put_in.new.nodes.keys c.put_in.ensures.compiled c.args.attack
    (record { attack = c.args.attack; replies = c.new-replies.result; rest = Wins }) c.put_in.result c.put_in.ensures.node
    (λ i. record { attack = c.args.attack; replies = c.new-replies.ensures.empty i; rest = Wins })
