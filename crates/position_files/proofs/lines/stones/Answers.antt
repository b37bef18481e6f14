use Rattle.std.proofs.Common.{option_copied}
use Rattle.std.proofs.lemmas.Bool.{both_ways}
use Rattle.text_lines.proofs.Common.{point_text, IsWithin}
use Rattle.text_lines.proofs.Items.{first_word, gives_after_word}
use Rattle.position_files.proofs.lines.stones.Goals as goal

pub returns-then-not-is_text : goal.returns-then-not-is_text
returns-then-not-is_text c = record {
  stones = λ ps fits e.
      let words = first_word point_text c.cut.result.0.now c.args.word.now c.args.line.now (option_copied c.cut.result.1) ps
      c.cut.ensures.word c.requires.word c.cut.ensures.parts e in
      both_ways c.is_text.result c.if-not-is_text.true (c.is_text.ensures.same.1 words.0);
}

pub returns : goal.returns
returns c = record {
  stones = gives_after_word (IsWithin c.args.width c.args.height) point_text c.cut.result.0.now c.args.word.now c.args.line.now
      (option_copied c.cut.result.1) _ c.cut.ensures.word c.requires.word (c.is_text.ensures.same.0 c.if-not-is_text.false)
      c.cut.ensures.parts c.points.ensures.points;
}
