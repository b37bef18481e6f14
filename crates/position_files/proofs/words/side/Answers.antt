use Rattle.std.proofs.Common.{arith, sym, ◌∙◌, ◌≡◌}
use Rattle.std.proofs.lemmas.Fmt.{decimal_injective}
use Rattle.position_files.proofs.words.side.Goals as goal

pub returns-then-side-lt-MIN_SIDE : goal.returns-then-side-lt-MIN_SIDE
returns-then-side-lt-MIN_SIDE c = record {
  side = λ v fits e.
      let few = fits.fits in
      let same : c.in_ok-side.field-0 ≡ v = decimal_injective c.in_ok-side.field-0 v (omega arith) (omega (arith, few))
      (sym c.in_ok-side.ensures.number.1 ∙ e) in
      omega (arith, same, fits.long);
}
