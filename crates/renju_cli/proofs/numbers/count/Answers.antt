use Rattle.std.proofs.Common.{◌≡◌, sym, ap, ◌∙◌, arith, string_bytes}
use Rattle.std.specs.Fmt.{decimal}
use Rattle.std.proofs.lemmas.Fmt.{decimal_injective}
use Rattle.renju_cli.proofs.numbers.count.Goals as goal

-- a word that is zero is no number from 1 on
pub returns-then-number-eq0 : goal.returns-then-number-eq0
returns-then-number-eq0 c =
    let zero : string_bytes c.args.word.now ≡ decimal 0 =
    sym c.as_bytes.ensures.value ∙ c.in_ok-number.ensures.number.1 ∙ ap decimal c.if-number-eq0.true in
    record {
      number = λ n range is.
          let least = range.0 in
          let most = range.1 in
          let few = c.requires.few in
          let none : n ≡ 0 = decimal_injective n 0 (omega (arith, most, few)) (omega arith) (sym is ∙ zero) in
          omega (arith, none, least);
    }
