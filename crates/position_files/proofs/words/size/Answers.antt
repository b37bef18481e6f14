use Rattle.std.proofs.Common.{ℕ, List, ◌++◌, Bor, sym, ap, ◌∙◌, Option, option_copied}
use Rattle.std.specs.Fmt.{decimal}
use Rattle.text_lines.proofs.Common.{comma, tail_text}
use Rattle.position_files.proofs.Spellings.{bad_width, bad_height, bad_square}
use Rattle.position_files.proofs.words.size.Goals as goal

pub returns-in_err-width : goal.returns-in_err-width
returns-in_err-width c = rw c.from_residual.ensures
    (record { size = bad_width c.args.bytes.now c.cut.result.0.now _ c.cut.ensures.parts c.cut.ensures.word c.in_err-width.ensures.side })

pub returns-in_err-height : goal.returns-in_err-height
returns-in_err-height c = rw c.from_residual-in_err-height.ensures (record {
  size = bad_height c.args.bytes.now c.cut.result.0.now c.in-Some.height.now
      (c.cut.ensures.parts ∙ ap (λ (t : Option (Bor (List ℕ))). c.cut.result.0.now ++ tail_text comma (option_copied t)) c.in-Some.is)
      c.cut.ensures.word c.in_err-height.ensures.side;
})

pub returns-then-width-height : goal.returns-then-width-height
returns-then-width-height c = record {
  size = bad_square c.args.bytes.now c.cut.result.0.now c.in-Some.height.now c.in_ok-width.width c.in_ok-width.ensures.side.0
      (c.cut.ensures.parts ∙ ap (λ (t : Option (Bor (List ℕ))). c.cut.result.0.now ++ tail_text comma (option_copied t)) c.in-Some.is)
      c.cut.ensures.word c.in_ok-width.ensures.side.1 (c.in_ok-height.ensures.side.1 ∙ ap decimal (sym c.if-width-height.true));
}
