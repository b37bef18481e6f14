use Rattle.std.proofs.Common.{◌≡◌, ◌∙◌, ap, sym, subst, length, Some, slice_get}
use Rattle.std.proofs.lemmas.Option.{slice_get_within}
use Rattle.strategy_graph.specs.declared.Node.{Node}
use Rattle.strategy_graph.proofs.Common.{IsNode}
use Rattle.strategy_graph.proofs.Filling.{IsTable-lower}
use Rattle.strategy_compiler.proofs.Common.{winning_node}
use Rattle.strategy_compiler.proofs.Growing.{node-stays}
use Rattle.threat_game.proofs.DoubleLaws.{double-threat, double-threats}
use Rattle.threat_game.proofs.StandingLaws.{standing-is, standing-wins}
use Rattle.threat_game.proofs.WrittenLaws.{threat-win}
use Rattle.threat_game.proofs.doubles.compile_standing.Goals as goal

pub put_node-requires : goal.put_node-requires
put_node-requires c =
    let at : slice_get c.leaf-2.new.self c.in_ok-at_first.at_first ≡ Some (winning_node c.args.double.second) =
    node-stays c.leaf.new.self c.leaf-2.new.self _ c.in_ok-at_first.at_first _ c.in_ok-beside.ensures.writes.grows
    c.in_ok-at_first.ensures.node in
    record {
      node = subst (λ (n : Node). IsNode n (length c.leaf-2.new.self)) (sym c.in_ok-given.ensures.node)
          (standing-is c.args.double c.in_ok-at_first.at_first c.in_ok-beside.beside (length c.leaf-2.new.self)
          (slice_get_within c.leaf-2.new.self c.in_ok-at_first.at_first _ at) c.in_ok-beside.ensures.in_compiler);
    }

pub returns-clause-win : goal.returns-clause-win
returns-clause-win c =
    let first : slice_get c.put_node.new.compiler c.in_ok-at_first.at_first ≡ Some (winning_node c.args.double.second) =
    node-stays c.leaf-2.new.self c.put_node.new.compiler _ c.in_ok-at_first.at_first _ c.in_ok-node.ensures.writes.grows
    (node-stays c.leaf.new.self c.leaf-2.new.self _ c.in_ok-at_first.at_first _ c.in_ok-beside.ensures.writes.grows
    c.in_ok-at_first.ensures.node) in
    let beside : slice_get c.put_node.new.compiler c.in_ok-beside.beside ≡ Some (winning_node c.args.double.first) =
    node-stays c.leaf-2.new.self c.put_node.new.compiler _ c.in_ok-beside.beside _ c.in_ok-node.ensures.writes.grows
    c.in_ok-beside.ensures.node in
    λ rule b moves lawful wins l.
    threat-win rule c.put_node.new.compiler (record { node = c.in_ok-node.node; moves = 2 }) 2 moves b
    (standing-wins c.put_node.new.compiler (IsTable-lower c.put_node.new.compiler c.in_ok-node.ensures.writes.compiled.table)
    c.args.double c.in_ok-at_first.at_first c.in_ok-beside.beside c.in_ok-node.node first beside
    (c.in_ok-node.ensures.node ∙ ap Some c.in_ok-given.ensures.node) rule b _ (double-threat rule b c.args.double lawful wins)) l
    (double-threats rule b c.args.double lawful wins moves l)
