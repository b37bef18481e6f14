use Rattle.std.proofs.Common.{sym, ◌∙◌}
use Rattle.text_lines.proofs.Cuts.{free_before, free_all, parts_at}
use Rattle.text_lines.proofs.words.cut.Goals as goal

pub returns-in-None-clause-word : goal.returns-in-None-clause-word
returns-in-None-clause-word c = free_all c.args.separator c.args.bytes.now (sym c.place.ensures.place ∙ c.in-None.is)

pub returns-in-Some-clause-parts : goal.returns-in-Some-clause-parts
returns-in-Some-clause-parts c = parts_at c.args.separator c.in-Some.at c.args.bytes.now (sym c.place.ensures.place ∙ c.in-Some.is)

pub returns-in-Some-clause-word : goal.returns-in-Some-clause-word
returns-in-Some-clause-word c = free_before c.args.separator c.in-Some.at c.args.bytes.now (sym c.place.ensures.place ∙ c.in-Some.is)
