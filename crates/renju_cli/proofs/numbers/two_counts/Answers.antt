use Rattle.std.proofs.Common.{◌≡◌, length, arith, string_bytes}
use Rattle.std.specs.Fmt.{decimal}
use Rattle.renju_cli.proofs.Words.{same-count, two-words}
use Rattle.renju_cli.proofs.numbers.two_counts.Goals as goal

-- fewer words than two, or more
pub returns-in_default : goal.returns-in_default
returns-in_default c = record {
  numbers = λ first second are. let count : length c.args.words.now ≡ 2 =
      same-count string_bytes _ _ are.spelled in omega (arith, count);
}

pub returns-in_default-2 : goal.returns-in_default-2
returns-in_default-2 c = record {
  numbers = λ first second are. let count : length c.args.words.now ≡ 2 =
      same-count string_bytes _ _ are.spelled in omega (arith, count);
}

-- a word that is no number in its range
pub returns-in_err-first : goal.returns-in_err-first
returns-in_err-first c = rw c.from_residual.ensures (record {
  numbers = λ first second are.
      let words = two-words string_bytes c.args.words.now c.first-item.result c.second-item.result (omega arith) c.first-item.is
      c.second-item.is in
      let spelled = are.spelled in
      let same : string_bytes c.first-item.result ≡ decimal first = cc in
      c.in_err-first.ensures.number first (are.in_range.0, are.in_range.1) same;
})

pub returns-in_err-second : goal.returns-in_err-second
returns-in_err-second c = rw c.from_residual-in_err-second.ensures (record {
  numbers = λ first second are.
      let words = two-words string_bytes c.args.words.now c.first-item.result c.second-item.result (omega arith) c.first-item.is
      c.second-item.is in
      let spelled = are.spelled in
      let same : string_bytes c.second-item.result ≡ decimal second = cc in
      c.in_err-second.ensures.number second (are.in_range.2, are.in_range.3) same;
})
