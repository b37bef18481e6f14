use Rattle.std.proofs.Common.{◌∙◌, refl}
use Rattle.strategy_graph.proofs.Rising.{points-rising}
use Rattle.line_proof.proofs.Doubling.{double-is}
use Rattle.line_proof.proofs.doubles.compile_double.Goals as goal

pub double-requires : goal.double-requires
double-requires c = record {
  rising = λ answers at. points-rising c.args.board.now _ (at ∙ c.as_slice.ensures.items ∙ c.in_ok-points.ensures.all);
}

pub returns-clause-double : goal.returns-clause-double
returns-clause-double c =
    double-is c.args.board.now _ _ _ _ (c.as_slice.ensures.items ∙ c.in_ok-points.ensures.all) refl c.in_ok-win.ensures.moves
    c.in_ok-win.ensures.win
