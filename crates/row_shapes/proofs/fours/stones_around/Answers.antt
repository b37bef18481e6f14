use Rattle.std.proofs.Common.{false, rules}
use Rattle.std.proofs.lemmas.List.FromFn.{fill_by_all}
use Rattle.game_rules.proofs.Common.{place_stone}
use Rattle.row_shapes.proofs.fours.stones_around.Goals as goal

pub returns : goal.returns
returns c = record {
  stones = fill_by_all (place_stone c.args.board.now c.args.side c.args.axis c.args.p) c.loop-i.stones 9 false
      c.loop-i.invariant.0 (search rules);
}
