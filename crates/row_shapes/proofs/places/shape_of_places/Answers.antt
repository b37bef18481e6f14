use Rattle.std.proofs.Common.{◌-◌, ◌≤◌, ◌∙◌, ap, arith, inl, inr, ℕ, bit_or}
use Rattle.std.specs.Int.{w64}
use Rattle.std.proofs.lemmas.Nat.{or_lt}
use Rattle.std.proofs.lemmas.Nat.Bits.{bit_at_not, bit_at_or}
use Rattle.row_shapes.proofs.HalfPlaces.{AreHalves, told_places}
use Rattle.row_shapes.proofs.places.shape_of_places.Goals as goal

pub returns : goal.returns
returns c =
    let few : c.args.reach ≤ 5 = elim c.requires.reach [ inl four ↦ omega (arith, four) | inr five ↦ omega (arith, five) ] in
    let fits = or_lt 64 c.args.own c.args.taken c.ranges.own.fits c.ranges.taken.fits in
    let free : ℕ = 18446744073709551615 - bit_or c.args.own c.args.taken in
    let are : AreHalves c.args.reach c.args.own c.args.taken free c.bits_ahead.result c.bits_ahead-2.result c.bits_behind.result
    c.bits_behind-2.result = record {
      digits = c.requires.digits;
      frees = λ i low. bit_at_not w64 (bit_or c.args.own c.args.taken) i fits (omega (arith, few, low))
          ∙ ap (λ n. 1 - n) (bit_at_or c.args.own c.args.taken i);
      ahead_low = c.bits_ahead.ensures.bound;
      free_low = c.bits_ahead-2.ensures.bound;
      behind_low = c.bits_behind.ensures.bound;
      last_low = c.bits_behind-2.ensures.bound;
      forth = c.bits_ahead.ensures.bits;
      forth_free = c.bits_ahead-2.ensures.bits;
      back = c.bits_behind.ensures.bits;
      back_free = c.bits_behind-2.ensures.bits;
    } in
    record {
      shape = told_places c.args.reach c.requires.reach c.args.own c.args.taken free _ _ _ _ c.shape_of_line.result are
          (λ b p sees. c.shape_of_line.ensures.shape b p (rw (c.new-ahead.ensures.seen, c.new-behind.ensures.seen) sees));
    }
