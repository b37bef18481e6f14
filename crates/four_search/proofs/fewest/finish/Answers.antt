use Rattle.std.proofs.Common.{ℕ, ◌-◌, refl, ap}
use Rattle.four_search.proofs.fewest.finish.Goals as goal

pub returns : goal.returns
returns c =
    let done = c.in_ok-table.ensures in
    record {
      made = record {
        moves = refl;
        last_node = ap (λ (n : ℕ). n - 1) c.len-node.ensures.count;
        some = done.some;
        few = done.few;
        trees = done.trees;
        reached = done.reached;
        on_board = λ rule limit b win. (done.win rule limit b win).on_board;
      };
    }
