use Rattle.std.proofs.Common.{◌*◌, ◌/◌, ◌^◌, ◌<◌, ◌≡◌, ◌≤◌, ◌%◌, ℕ, subst, ap, sym, ◌∙◌, arith}
use Rattle.std.specs.Prelude.{bit_and, count_ones}
use Rattle.std.proofs.Math.Nat.{mod-eq_of_lt}
use Rattle.threat_game.specs.NearDoubles.{stones_around as around}
use Rattle.threat_game.proofs.AroundBits.{around-bits}
use Rattle.threat_game.proofs.near_stones.stones_around.Goals as goal

pub returns-clause-most : goal.returns-clause-most
returns-clause-most c =
    let all = around-bits c.args.board.now c.args.side c.args.axis c.args.p c.line_through-bits.result c.line_through-bits.ensures.board
    c.requires.on c.line_through-bits.ensures.tells in
    let low : c.from.result * 16 < 18446744073709551616 = let same = c.from.ensures in let fits = c.line_through-bits.type_inv in
    omega (arith, same, fits) in
    let whole : c.from.result * 16 % 18446744073709551616 ≡ c.line_through-bits.result * 2 ^ 4 =
    mod-eq_of_lt low ∙ ap (λ n. n * 16) c.from.ensures in
    subst (λ (n : ℕ). around c.args.board.now c.args.side c.args.axis c.args.p ≤ count_ones (bit_and (n / 2 ^ c.place_on.result) 511))
    (sym whole)
    (subst (λ (n : ℕ). around c.args.board.now c.args.side c.args.axis c.args.p
    ≤ count_ones (bit_and (c.line_through-bits.result * 2 ^ 4 / 2 ^ n) 511)) (sym c.place_on.ensures.place) all)
