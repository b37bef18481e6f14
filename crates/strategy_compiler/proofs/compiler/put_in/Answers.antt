-- What the set says of the node, by the place at which an equal one is found or put.
use Rattle.std.proofs.Common.{refl, sym, arith}
use Rattle.strategy_graph.proofs.Equal.{position-found, Contains-found, list_any-Contains, stored-at}
use Rattle.strategy_compiler.proofs.Briefs.{PutsIn-insert_key, PutsIn-found, IsCompiled-insert_key}
use Rattle.strategy_compiler.proofs.compiler.put_in.Goals as goal

pub returns-in_default-clause-full : goal.returns-in_default-clause-full
returns-in_default-clause-full c =
    (λ e. (list_any-Contains c.args.node c.args.nodes.now.keys (sym c.in_default.ensures.found), omega arith), λ h. refl)

pub returns-then-len-clause-node : goal.returns-then-len-clause-node
returns-then-len-clause-node c = position-found c.args.node c.args.nodes.now.keys c.in-Some.place (sym c.in-Some.ensures.index)

pub returns-then-len-clause-put_in : goal.returns-then-len-clause-put_in
returns-then-len-clause-put_in c = PutsIn-found c.args.node c.args.nodes.now.keys (sym c.in-Some.ensures.found)

pub returns-then-len-clause-full : goal.returns-then-len-clause-full
returns-then-len-clause-full c =
    (λ e. cc, λ h. absurd (h.0 (Contains-found c.args.node c.args.nodes.now.keys (sym c.in-Some.ensures.found))))

pub returns-clause-node : goal.returns-clause-node
returns-clause-node c = stored-at c.args.node c.insert_full.new.self.keys c.in-Ok.place c.in-Ok.ensures.stored

pub returns-clause-put_in : goal.returns-clause-put_in
returns-clause-put_in c = PutsIn-insert_key c.args.nodes.now.keys c.args.node c.insert_full.new.self.keys c.in-Ok.ensures.keys

pub returns-clause-compiled : goal.returns-clause-compiled
returns-clause-compiled c =
    IsCompiled-insert_key c.args.nodes.now.keys c.args.node c.insert_full.new.self.keys c.requires.compiled c.requires.node
    (λ e. let other = c.if-len.false in absurd (omega (arith, c.if-len.false))) c.insert_full.ensures.unique c.in-Ok.ensures.keys
