use Rattle.std.proofs.Common.{◌≡◌, List, sym, subst, Some, slice_get}
use Rattle.strategy_graph.specs.Lent.{lent_node}
use Rattle.brain_session.proofs.Common.{Node, IsTable, Guide, nodes_of}
use Rattle.brain_session.proofs.Guiding.{held-moves, own-moves}
use Rattle.brain_session.proofs.guide.Guide.attack.Goals as goal

pub returns-in-HeldNode : goal.returns-in-HeldNode
returns-in-HeldNode c =
    let at = subst (λ (t : List Node). slice_get t c.in-HeldNode.node ≡ Some (lent_node c.node.result)) c.table.ensures.table
    c.node.ensures.node in
    let table = subst IsTable c.table.ensures.table c.node.ensures.table in
    record {
      attack = λ rule b stands. held-moves c.args.held.now rule b c.args.self.now c.in-HeldNode.node (lent_node c.node.result)
          c.in-HeldNode.is at;
      table = subst (λ (g : Guide). IsTable (nodes_of c.args.held.now g)) (sym c.in-HeldNode.is) table;
    }

pub returns-in-OwnWin : goal.returns-in-OwnWin
returns-in-OwnWin c = record {
  attack = λ rule b stands. own-moves c.args.held.now rule b c.args.self.now c.in-OwnWin.own
      (lent_node c.node-in-OwnWin.result) c.in-OwnWin.is c.node-in-OwnWin.ensures.node stands;
  table = subst (λ (g : Guide). IsTable (nodes_of c.args.held.now g)) (sym c.in-OwnWin.is) c.node-in-OwnWin.ensures.table;
}
