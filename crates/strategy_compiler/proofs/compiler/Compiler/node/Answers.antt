-- The node that is put in is the one that answers as given.
use Rattle.std.proofs.Common.{length, sym, subst}
use Rattle.strategy_compiler.proofs.Common.{Node, IsNode}
use Rattle.strategy_compiler.proofs.Briefs.{IsNode-answering, answered-stands, answered-answers, answered-points}
use Rattle.strategy_compiler.proofs.Forks.{answered-fork}
use Rattle.strategy_compiler.proofs.compiler.Compiler.node.Goals as goal

pub put_in-requires-clause-node : goal.put_in-requires-clause-node
put_in-requires-clause-node c = subst (λ (n : Node). IsNode n (length c.self.inside.nodes.keys)) (sym c.in-Ok.ensures.node)
    (rw (c.self.view_is) (IsNode-answering c.args.attack c.args.answers.now (length c.args.self.now) c.requires.rising c.requires.below))

pub returns-clause-answers : goal.returns-clause-answers
returns-clause-answers c =
    answered-answers c.args.self.now c.put_in.new.nodes.keys c.put_in.result c.args.attack c.args.answers.now c.in-Ok.node
    c.in-Ok.ensures.node c.requires.rising c.put_in.ensures.node

pub returns-clause-stands : goal.returns-clause-stands
returns-clause-stands c =
    answered-stands c.args.self.now c.put_in.new.nodes.keys c.put_in.result c.args.attack c.args.answers.now c.in-Ok.node
    c.in-Ok.ensures.node c.requires.rising c.put_in.ensures.node (rw (← c.self.view_is) c.put_in.ensures.put_in)

pub returns-clause-points : goal.returns-clause-points
returns-clause-points c =
    answered-points c.args.self.now c.put_in.new.nodes.keys c.put_in.result c.args.attack c.args.answers.now c.in-Ok.node
    c.in-Ok.ensures.node c.put_in.ensures.node

pub returns-clause-wins : goal.returns-clause-wins
returns-clause-wins c =
    answered-fork c.put_in.new.nodes.keys c.put_in.ensures.compiled c.args.attack c.in-Ok.node c.put_in.result c.put_in.ensures.node
    c.args.self.now (rw (← c.self.view_is) c.self.invariant)
    c.args.answers.now c.requires.rising c.requires.below c.in-Ok.ensures.node (rw (← c.self.view_is) c.put_in.ensures.put_in)
