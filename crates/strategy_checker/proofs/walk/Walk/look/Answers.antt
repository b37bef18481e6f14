use Rattle.std.proofs.Common.{◌≡◌, ℕ, inl, ap, Option, Some, None, IfSome}
use Rattle.strategy_checker.proofs.Common.{packed, IsWalked}
use Rattle.position_table.specs.Remembering.{value_under}
use Rattle.position_table.specs.Lateness.{Late}
use Rattle.position_table.proofs.Remembering.{true-found, true-looked}
use Rattle.strategy_checker.proofs.walk.Walk.look.Goals as goal

pub returns-else-is_soon_won-clause-found : goal.returns-else-is_soon_won-clause-found
returns-else-is_soon_won-clause-found g c = by_value c.find.result c.find.ensures.value where
  by_value : (o : Option ℕ) → o ≡ value_under (packed c.board.result.now, c.args.i) c.args.self.now.memo.table
      → IfSome o (IsWalked g.R.Rule.KIND c.args.table.now c.args.position.now c.args.i)
  by_value None e = tt
  by_value (Some n) e = true-found g.R.Rule.KIND (IsWalked g.R.Rule.KIND c.args.table.now) c.args.position.now c.board.result.now c.args.i n
      c.args.self.now.memo.table c.requires.ready.lawful c.board.ensures.board c.requires.ready.memo e

pub returns-else-is_soon_won-clause-ready : goal.returns-else-is_soon_won-clause-ready
returns-else-is_soon_won-clause-ready g c = record {
  lawful = c.requires.ready.lawful;
  no_line = c.requires.ready.no_line;
  memo = true-looked g.R.Rule.KIND (IsWalked g.R.Rule.KIND c.args.table.now) c.args.self.now.memo.table c.find.new.self.table
      (packed c.board.result.now, c.args.i) (inl (ap (λ (m : Late). m.table) c.find.ensures.entries)) c.requires.ready.memo;
}
