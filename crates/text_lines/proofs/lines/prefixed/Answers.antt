use Rattle.std.proofs.Common.{◌≡◌, List, ℕ, ◌++◌, true}
use Rattle.text_lines.proofs.Common.{line_feed, is_free}
use Rattle.text_lines.proofs.Cuts.{is_free-append}
use Rattle.text_lines.proofs.LineLaws.{bad_line}
use Rattle.text_lines.proofs.lines.prefixed.Goals as goal

pub returns-in_err-after : goal.returns-in_err-after
returns-in_err-after c = rw c.from_residual-in_err-after.ensures (record {
  text = bad_line (λ (text : List ℕ). is_free line_feed text ≡ true) (λ (text : List ℕ). c.args.word.now ++ text)
      (λ text free. is_free-append line_feed c.args.word.now text c.requires.word free)
      c.args.bytes.now c.in_ok-line.line.now c.in_ok-line.rest.now c.in_ok-line.ensures.ended c.in_ok-line.ensures.line
      (λ text free e. c.in_err-after.ensures.rest text tt e);
})
