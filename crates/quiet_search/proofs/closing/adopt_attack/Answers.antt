-- What is tested makes the node one of a table.
use Rattle.std.proofs.Common.{rules, ◌≡◌, ◌<◌, true, arith, length, List}
use Rattle.std.specs.Prelude.{nat_lt}
use Rattle.std.specs.List.{list_all}
use Rattle.strategy_graph.specs.declared.Reply.{Reply}
use Rattle.strategy_graph.proofs.Common.{is_rising}
use Rattle.quiet_search.proofs.FitNodes.{fit-node}
use Rattle.quiet_search.proofs.closing.adopt_attack.Goals as goal

pub adopt-requires : goal.adopt-requires
adopt-requires c =
    let rs : List Reply = c.args.replies in
    let k = length c.args.compiler.now in
    let low : c.args.rest < k = omega arith in
    let rising : is_rising rs ≡ true = search rules in
    let each : list_all (λ (r : Reply). nat_lt r.next k) rs ≡ true = search rules in
    record { node = fit-node c.args.attack rs c.args.rest k low rising each }
