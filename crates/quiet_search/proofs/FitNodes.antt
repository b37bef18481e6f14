-- What is tested of an attack and its answers makes them a node of a table.
use Rattle.std.proofs.Common.{◌≡◌, ℕ, ◌<◌, List, true, sym, arith}
use Rattle.std.specs.Prelude.{◌&&◌, nat_lt}
use Rattle.std.specs.List.{list_all}
use Rattle.std.proofs.lemmas.Bool.Decides.{nat_tests}
use Rattle.game_rules.specs.declared.Point.{Point}
use Rattle.strategy_graph.specs.declared.Reply.{Reply}
use Rattle.strategy_graph.specs.declared.Rest.TheVariants.{To}
use Rattle.strategy_graph.proofs.Common.{IsNode, is_rising}
use Rattle.strategy_graph.proofs.Naming.{names_below-then}

lower : (rest k : ℕ) → rest < k → true ≡ (nat_lt rest k && true)
lower rest k low = grind (arith, nat_tests)

pub fit-node : (attack : Point) (rs : List Reply) (rest k : ℕ) → rest < k → is_rising rs ≡ true
    → list_all (λ (r : Reply). nat_lt r.next k) rs ≡ true → IsNode (record { attack = attack; replies = rs; rest = To rest }) k
fit-node attack rs rest k low rising each = record {
  below = sym (names_below-then (record { replies = rs; rest = To rest }) k true each (lower rest k low));
  rising = rising;
  winning = λ e. cc;
}
