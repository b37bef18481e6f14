use Rattle.std.proofs.Common.{ℕ, ◌≢◌, ◌≤◌, ◌∙◌, length, ap, sym, subst, inl, inr, Some, Ok, Result, arith}
use Rattle.renju_io.proofs.Common.{HasNoLineFeed, ReaderState, told_lines}
use Rattle.renju_io.specs.declared.TheConstants.{MAX_SESSION_BYTES}
use Rattle.renju_io.proofs.AskedCalls.{within_more, within_asked}
use Rattle.renju_io.proofs.LinesSoFar.{Ended, ReadSoFar, Reading-read, Ended-read, KeepsLine-failed, lines_left-told, IsExhausted-past}
use Rattle.renju_io.proofs.LinesSoFar.{open_until_last, not_exhausted_line, not_exhausted_last, open_after, ends_as_before, some_kept}
use Rattle.renju_io.specs.declared.line_reader.Line.{Line}
use Rattle.renju_io.specs.declared.line_reader.Line.TheVariants.{Text}
use Rattle.renju_io.specs.declared.line_reader.ReadError.{ReadError}
use Rattle.renju_io.proofs.line_reader.LineReader.next.Given.{Over}
use Rattle.renju_io.proofs.line_reader.LineReader.next.Goals as goal

-- how many bytes a reader took
abbrev taken : ReaderState → ℕ
taken reader = reader.taken

pub returns-in-Some-clause-advances : goal.returns-in-Some-clause-advances
returns-in-Some-clause-advances g c = λ _.
    omega (arith, c.loop-self.invariant.0.grown, c.in-Some.ensures.shorter, c.in-Some.ensures.taken)

pub returns-in-Some-clause-within : goal.returns-in-Some-clause-within
returns-in-Some-clause-within g c = λ _.
    let few : c.loop-self.self.taken ≤ MAX_SESSION_BYTES =
    omega (arith, c.loop-self-test.true, ap (λ (reader : ReaderState). reader.taken) c.self-in-loop-self.view_is) in
    not_exhausted_line c.args.self.now c.loop-self.self c.end_line.new.self (g.S.Source.left c.args.source.now)
    (g.S.Source.left c.loop-self.source) c.in-Some.line
    (c.loop-self.invariant.0.within few) c.in-Some.ensures.told c.in-Some.ensures.taken few
    (λ e. c.in-Some.ensures.a_line (ap (λ l. Some l) e))

pub end_input-requires-clause-open : goal.end_input-requires-clause-open
end_input-requires-clause-open g c =
    open_after _ _ _ _ _ c.in-Ok-eq0.ensures.ok c.in-Ok-eq0.field-0-test
    (subst (λ (reader : ReaderState). HasNoLineFeed reader.kept) (sym c.in_default.ensures.none) c.in_default.ensures.open)

-- the read gave nothing, so the input has ended
ended : (g : Over) (c : goal.After-end_input g) →
    Ended c.args.self.now (g.S.Source.left c.args.source.now) (told_lines (Ok c.end_input.result) c.end_input.new.self.text)
    c.end_input.new.self (g.S.Source.left c.read_on.new.source)
ended g c =
    let few : c.loop-self.self.taken ≤ MAX_SESSION_BYTES =
    omega (arith, c.loop-self-test.true, ap (λ (reader : ReaderState). reader.taken) c.self-in-loop-self.view_is) in
    Ended-read c.args.self.now c.loop-self.self c.end_line.new.self c.read_on.new.self c.end_input.new.self _ _ _ _ _
    c.loop-self.invariant.0 c.in_default.ensures.none few c.in_default.ensures.open c.in-Ok-eq0.ensures.ok c.in-Ok-eq0.ensures.text
    c.in-Ok-eq0.field-0-test
    c.end_input.ensures.all c.end_input.ensures.none_kept c.end_input.ensures.taken c.end_input.ensures.ended
    (c.in-Ok-eq0.ensures.end (ap (λ n. Ok n) c.in-Ok-eq0.field-0-test))

pub returns-in-Ok-eq0-clause-told : goal.returns-in-Ok-eq0-clause-told
returns-in-Ok-eq0-clause-told g c = (ended g c).takes

pub returns-in-Ok-eq0-clause-first : goal.returns-in-Ok-eq0-clause-first
returns-in-Ok-eq0-clause-first g c = lines_left-told c.args.self.now c.end_input.new.self _ _ _ (ended g c).takes

pub returns-in-Ok-eq0-clause-end : goal.returns-in-Ok-eq0-clause-end
returns-in-Ok-eq0-clause-end g c = λ is_end.
    let not_text : c.end_input.result ≢ Text = λ is_text. cc in
    let ends = ends_as_before c.args.self.now c.end_input.new.self _ _ _ (ended g c)
    (ap (λ (answer : Result Line ReadError). told_lines answer c.end_input.new.self.text) is_end)
    (c.end_input.ensures.text not_text ∙ c.in-Ok-eq0.ensures.text ∙ ap (λ (reader : ReaderState). reader.text) c.in_default.ensures.none
    ∙ c.loop-self.invariant.0.text) c.end_input.ensures.ended in
    (ends.0, ends.1, λ _. ends.2)

pub returns-in-Ok-eq0-clause-advances : goal.returns-in-Ok-eq0-clause-advances
returns-in-Ok-eq0-clause-advances g c = λ is_line.
    let few : c.loop-self.self.taken ≤ MAX_SESSION_BYTES =
    omega (arith, c.loop-self-test.true, ap (λ (reader : ReaderState). reader.taken) c.self-in-loop-self.view_is) in
    let reading = Reading-read c.args.self.now c.loop-self.self c.end_line.new.self c.read_on.new.self _ _ _ _
    c.loop-self.invariant.0 c.in_default.ensures.none few c.in_default.ensures.open c.in-Ok-eq0.ensures.ok c.in-Ok-eq0.ensures.text in
    let some = some_kept c.read_on.new.self.kept c.end_input.new.self.text c.end_input.result c.end_input.ensures.all
    (λ e. is_line (ap (λ l. Ok l) e)) in
    omega (arith, reading.grown, some, c.end_input.ensures.taken, ap length c.end_input.ensures.none_kept)

pub returns-in-Ok-eq0-clause-within : goal.returns-in-Ok-eq0-clause-within
returns-in-Ok-eq0-clause-within g c = λ _. not_exhausted_last c.args.self.now c.end_input.new.self _ _ _ (ended g c).takes (ended g c).last
    (ended g c).few

pub loop-self-preserved : goal.loop-self-preserved
loop-self-preserved g c =
    let few : c.loop-self.self.taken ≤ MAX_SESSION_BYTES =
    omega (arith, c.loop-self-test.true, ap (λ (reader : ReaderState). reader.taken) c.self-in-loop-self.view_is) in (
      Reading-read c.args.self.now c.loop-self.self c.end_line.new.self c.read_on.new.self _ _ _ _
          c.loop-self.invariant.0 c.in_default.ensures.none few c.in_default.ensures.open c.in-Ok.ensures.ok c.in-Ok.ensures.text,
      c.in-Ok.ensures.ended ∙ ap (λ (reader : ReaderState). reader.ended) c.in_default.ensures.none ∙ c.loop-self.invariant.1,
      c.in-Ok.ensures.uncounted ∙ c.loop-self.invariant.2,
      within_asked _ _ _ _ _ _ c.loop-self.invariant.3 c.read_on.ensures.asks
          (omega (arith, c.in-Ok.field-0-test.1, c.in-Ok.ensures.ok.counted, ap taken c.in_default.ensures.none)),
      inr (open_until_last c.args.self.now c.loop-self.self c.end_line.new.self c.read_on.new.self _ _ _ _ _
          c.loop-self.invariant.0 c.in_default.ensures.none few c.in_default.ensures.open c.in-Ok.ensures.ok c.in-Ok.ensures.last),
    )

-- no read was made once the line had ended
pub returns-in-Some-clause-no_further : goal.returns-in-Some-clause-no_further
returns-in-Some-clause-no_further g c = elim c.loop-self.invariant.4 [
  | inl unread ↦ inl (c.in-Some.ensures.taken ∙ unread.0, unread.1, unread.2)
  | inr read ↦ inr read
]

pub returns-in-Ok-eq0-clause-no_further : goal.returns-in-Ok-eq0-clause-no_further
returns-in-Ok-eq0-clause-no_further g c =
    let few : c.loop-self.self.taken ≤ MAX_SESSION_BYTES =
    omega (arith, c.loop-self-test.true, ap (λ (reader : ReaderState). reader.taken) c.self-in-loop-self.view_is) in
    inr (open_until_last c.args.self.now c.loop-self.self c.end_line.new.self c.read_on.new.self _ _ _ _ _
    c.loop-self.invariant.0 c.in_default.ensures.none few c.in_default.ensures.open c.in-Ok-eq0.ensures.ok c.in-Ok-eq0.ensures.last)

-- each read before the last took a byte at least
pub returns-in-Some-clause-few_reads : goal.returns-in-Some-clause-few_reads
returns-in-Some-clause-few_reads g c =
    within_more _ _ _ _ _ c.loop-self.invariant.3 (omega (arith, c.in-Some.ensures.taken))

pub returns-in-Ok-eq0-clause-few_reads : goal.returns-in-Ok-eq0-clause-few_reads
returns-in-Ok-eq0-clause-few_reads g c =
    within_asked _ _ _ _ _ _ c.loop-self.invariant.3 c.read_on.ensures.asks
    (rw c.end_input.ensures.ended
    (omega (arith, c.in-Ok-eq0.ensures.ok.counted, ap taken c.in_default.ensures.none, c.end_input.ensures.taken)))

pub returns-in-Err-clause-few_failed : goal.returns-in-Err-clause-few_failed
returns-in-Err-clause-few_failed g c = λ _.
    within_asked _ _ _ _ _ _ c.loop-self.invariant.3 c.read_on.ensures.asks
    (omega (arith, ap taken c.in-Err.ensures.stays, ap taken c.in_default.ensures.none))

pub returns-in-Err-clause-stays : goal.returns-in-Err-clause-stays
returns-in-Err-clause-stays g c = λ _.
    let few : c.loop-self.self.taken ≤ MAX_SESSION_BYTES =
    omega (arith, c.loop-self-test.true, ap (λ (reader : ReaderState). reader.taken) c.self-in-loop-self.view_is) in
    let P : ReaderState → Type 0 = λ reader. ReadSoFar c.args.self.now (g.S.Source.left c.args.source.now) reader
    (g.S.Source.left c.loop-self.source) in
    KeepsLine-failed c.args.self.now c.end_line.new.self c.read_on.new.self _ _ _
    (subst P (sym c.in_default.ensures.none) (c.loop-self.invariant.0.within few))
    (subst (λ (reader : ReaderState). HasNoLineFeed reader.kept) (sym c.in_default.ensures.none) c.in_default.ensures.open)
    c.in-Err.ensures.kept c.in-Err.ensures.stays

pub returns-clause-few_past : goal.returns-clause-few_past
returns-clause-few_past g c = λ _. c.loop-self.invariant.3

pub returns-clause-exhausted : goal.returns-clause-exhausted
returns-clause-exhausted g c = λ _.
    IsExhausted-past c.args.self.now c.loop-self.self _ _
    (c.loop-self.invariant.0.past
    (omega (arith, c.loop-self-test.false, ap (λ (reader : ReaderState). reader.taken) c.self-in-loop-self.view_is)))
