use Rattle.std.proofs.Common.{◌≡◌, ◌/◌, ◌^◌, nat_eq, ap, ◌∙◌}
use Rattle.std.specs.Prelude.{bit_and}
use Rattle.std.specs.Int.{bit_at}
use Rattle.std.proofs.lemmas.Bool.{both_ways}
use Rattle.std.proofs.lemmas.Nat.Bits.{shr_and_one}
use Rattle.threat_game.proofs.near_doubles.is_free_near.Goals as goal

pub returns-then-begins_near : goal.returns-then-begins_near
returns-then-begins_near c = record {
  none = λ off clear.
      let zero : bit_and (c.from.result / 2 ^ c.args.place) 1 ≡ 0 =
      shr_and_one c.from.result c.args.place ∙ ap (λ n. bit_at n c.args.place) c.from.ensures ∙ clear in
      absurd (both_ways _ off (ap (λ n. nat_eq n 0) zero));
}
