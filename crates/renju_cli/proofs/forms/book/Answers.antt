use Rattle.std.proofs.Common.{◌≡◌, length, arith, codes, string_bytes}
use Rattle.std.specs.Fmt.{decimal}
use Rattle.renju_cli.proofs.Words.{same-count, one-word}
use Rattle.renju_cli.proofs.FormLaws.{no-work}
use Rattle.renju_cli.proofs.forms.book.Goals as goal

-- no word, or more than one
pub returns-in_default : goal.returns-in_default
returns-in_default c = record {
  form = no-work (codes "book") _ (λ is. (_, is))
      (λ work range is. let one : length c.args.rest.now ≡ 1 = same-count string_bytes _ _ is in omega (arith, one));
}

pub returns-in_default-2 : goal.returns-in_default-2
returns-in_default-2 c = record {
  form = no-work (codes "book") _ (λ is. (_, is))
      (λ work range is. let one : length c.args.rest.now ≡ 1 = same-count string_bytes _ _ is in omega (arith, one));
}

-- a word that is no number in the range
pub returns-in_err-work : goal.returns-in_err-work
returns-in_err-work c = rw c.from_residual.ensures (record {
  form = no-work (codes "book") _ (λ is. (_, is)) (λ work range is.
      let word = one-word string_bytes c.args.rest.now c.work-item.result (omega arith) c.work-item.is in
      let same : string_bytes c.work-item.result ≡ decimal work = cc in
      c.in_err-work.ensures.number work range same);
})
