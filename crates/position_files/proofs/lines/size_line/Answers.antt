use Rattle.std.proofs.Common.{refl, ℕ, codes}
use Rattle.position_files.proofs.Common.{size_text, AreSides}
use Rattle.text_lines.proofs.LineLaws.{prefix_none, prefix_bad}
use Rattle.position_files.proofs.Spellings.{size-free}
use Rattle.position_files.proofs.lines.size_line.Goals as goal

pub returns-in_err-text : goal.returns-in_err-text
returns-in_err-text c = rw c.from_residual.ensures (record {
  size = prefix_none AreSides (λ (sides : ℕ × ℕ). size_text sides.0 sides.1) size-free (codes "size ") c.args.bytes.now
      c.in_err-text.ensures.text;
})

pub returns-in_err-size : goal.returns-in_err-size
returns-in_err-size c = rw c.from_residual-in_err-size.ensures (record {
  size = prefix_bad AreSides (λ (sides : ℕ × ℕ). size_text sides.0 sides.1) size-free (codes "size ") c.args.bytes.now c.in_ok-text.text.now
      c.in_ok-text.rest.now refl c.in_ok-text.ensures.text.0 c.in_ok-text.ensures.text.1 c.in_err-size.ensures.size;
})
