use Rattle.std.proofs.Common.{◌≡◌, inl, inr, subst, arith, rules}
use Rattle.std.proofs.lemmas.Bool.{cases_lt}
use Rattle.strategy_graph.specs.Lent.{lent_node}
use Rattle.strategy_graph.specs.declared.Node.{Node}
use Rattle.strategy_graph.proofs.Common.{NamesOnBoard}
use Rattle.quiet_command.proofs.BoardTests.{table-on}
use Rattle.quiet_command.proofs.quiet.is_on_board.Goals as goal

pub loop-i-preserved : goal.loop-i-preserved
loop-i-preserved c = λ k n l e.
    elim (cases_lt k c.loop-i.i) [
      | inl before ↦ c.loop-i.invariant k n before e
      | inr here ↦
          let names : NamesOnBoard c.args.board.now (lent_node c.node-node.result) = search rules in
          let same : k ≡ c.loop-i.i = omega arith in
          let node : lent_node c.node-node.result ≡ n = cc in
          subst (λ (m : Node). NamesOnBoard c.args.board.now m) node names
    ]

pub returns : goal.returns
returns c = record {
  on_board = λ _. table-on c.args.board.now c.args.table.now (λ i n l e. c.loop-i.invariant i n (omega arith) e);
}
