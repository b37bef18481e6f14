use Rattle.std.proofs.Common.{◌*◌, ◌/◌, ◌^◌, ◌<◌, ◌≡◌, ◌%◌, ℕ, false, nat_eq, not, ap, sym, ◌∙◌, arith}
use Rattle.std.specs.Prelude.{bit_and}
use Rattle.std.proofs.Math.Nat.{mod-eq_of_lt}
use Rattle.std.proofs.lemmas.Bool.Decides.{nat_tests}
use Rattle.threat_game.proofs.AroundBits.{none_before}
use Rattle.threat_game.proofs.near_doubles.begins_near.Goals as goal

is_zero : (n : ℕ) → not (nat_eq n 0) ≡ false → n ≡ 0
is_zero n h = grind (arith, nat_tests)

pub returns : goal.returns
returns c = record {
  none = λ off.
      let low : c.from.result * 16 < 18446744073709551616 = let same = c.from.ensures in let fits = c.ranges.starts in
      omega (arith, same, fits) in
      let whole : c.from.result * 16 % 18446744073709551616 ≡ c.args.starts * 2 ^ 4 =
      mod-eq_of_lt low ∙ ap (λ n. n * 16) c.from.ensures in
      none_before c.args.starts c.args.place (ap (λ n. bit_and (n / 2 ^ c.args.place) 31) (sym whole) ∙ is_zero _ off);
}
