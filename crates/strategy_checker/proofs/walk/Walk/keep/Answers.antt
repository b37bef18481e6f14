use Rattle.strategy_checker.proofs.Common.{packed, IsWalked}
use Rattle.position_table.proofs.Remembering.{true-kept}
use Rattle.position_table.proofs.Lateness.{late-kept}
use Rattle.strategy_checker.proofs.walk.Walk.keep.Goals as goal

pub returns-then-not-is_soon_won-clause-ready : goal.returns-then-not-is_soon_won-clause-ready
returns-then-not-is_soon_won-clause-ready g c = record {
  lawful = c.requires.ready.lawful;
  no_line = c.requires.ready.no_line;
  memo = true-kept g.R.Rule.KIND (IsWalked g.R.Rule.KIND c.args.table.now) c.args.position.now c.board.result.now c.args.i c.args.arrivals
      c.args.self.now.memo.table c.requires.ready.lawful c.board.ensures.board c.requires.ready.memo c.keep.new.self.table c.requires.walked
      (late-kept (packed c.board.result.now, c.args.i) c.args.arrivals c.keep.result c.args.self.now.memo c.keep.new.self
      c.keep.ensures.kept c.keep.ensures.refused);
}
