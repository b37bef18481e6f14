use Rattle.std.proofs.Common.{refl, codes}
use Rattle.position_files.proofs.Common.{RuleKind, rule_word}
use Rattle.text_lines.proofs.LineLaws.{prefix_bad}
use Rattle.position_files.proofs.Spellings.{rule_word-free}
use Rattle.position_files.proofs.lines.rule_line.Goals as goal

pub returns-in_err-rule : goal.returns-in_err-rule
returns-in_err-rule c = rw c.from_residual-in_err-rule.ensures (record {
  rule = prefix_bad (λ (kind : RuleKind). Unit {0}) rule_word rule_word-free (codes "rule ") c.args.bytes.now c.in_ok-word.word.now
      c.in_ok-word.rest.now refl c.in_ok-word.ensures.text.0 c.in_ok-word.ensures.text.1 c.in_err-rule.ensures.rule;
})
