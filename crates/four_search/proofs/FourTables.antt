-- The table of the fewest win by fours, made of the compiler of its plan.
use Rattle.std.proofs.Common.{◌≡◌, ℕ, ◌*◌, ◌<◌, sym, subst, ap, arith, List, [], length}
use Rattle.game_rules.proofs.Common.{Grid, IsPosition}
use Rattle.game_rules.specs.declared.RuleKind.{RuleKind}
use Rattle.game_rules.specs.declared.Point.{Point}
use Rattle.strategy_graph.specs.declared.Node.{Node}
use Rattle.strategy_graph.proofs.Common.{IsTable}
use Rattle.strategy_compiler.proofs.Common.{IsTableOf, last, GrowsBy, StandsFor}
use Rattle.strategy_compiler.proofs.Growing.{grows-length}
use Rattle.four_search.specs.declared.fewest.FourTable.{FourTable}
use Rattle.four_search.proofs.Common.{IsSought, IsFourWin, IsFinished, IsFourTable, four_plan}
use Rattle.four_search.proofs.Written.{sought-win}

-- the table that is made of a compiler that was new, and has the plan of the win, is that of the win
pub table-made : (rule : RuleKind) (b : Grid) (limit budget moves : ℕ) (line : List Point) → IsSought rule limit budget b moves line
    → IsPosition rule b → (old t : List Node) → old ≡ [] → GrowsBy old t (2 * moves) → IsTable t → (node : ℕ) → node < length t
    → StandsFor t node (four_plan rule moves b) → (made : FourTable) → IsFinished t (record { node = node; moves = moves }) made
    → IsFourTable rule limit b made
table-made rule b limit budget moves line is lawful old t new grows table node within stands made done =
    let plan : IsTableOf (four_plan rule moves b) made.table = done.trees (four_plan rule moves b) stands in
    let written = sought-win rule b limit budget moves line is lawful t table node within stands in
    let low : last made.table < length made.table = let some = done.some in omega (arith, some) in
    let here = sought-win rule b limit budget moves line is lawful made.table plan.table (last made.table) low plan.stands in
    let none : length old ≡ 0 = ap (λ (l : List Node). length l) new in
    record {
      win = subst (λ (n : ℕ). IsFourWin rule limit b made.table (record { node = n; moves = made.moves })) (sym done.last_node)
          (subst (λ (m : ℕ). IsFourWin rule limit b made.table (record { node = last made.table; moves = m })) (sym done.moves) here);
      plan = subst (λ (m : ℕ). IsTableOf (four_plan rule m b) made.table) (sym done.moves) plan;
      last_node = done.last_node;
      few = let few = done.few in let same = done.moves in omega (arith, few, same, none, grows-length old t (2 * moves) grows);
      reached = done.reached;
      on_board = done.on_board rule limit b written.written;
    }
