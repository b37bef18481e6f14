use Rattle.text_lines.proofs.Cuts.{after_reads}
use Rattle.text_lines.proofs.words.after.Goals as goal

pub returns : goal.returns
returns c = record { rest = after_reads c.args.text.now c.args.bytes.now c.strip_prefix.result c.strip_prefix.ensures.cases }
