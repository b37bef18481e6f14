use Rattle.std.specs.Prelude.{codes}
use Rattle.position_commands.specs.Fours.{AreLimits}
use Rattle.renju_cli.proofs.FormLaws.{no-two_numbers}
use Rattle.renju_cli.proofs.forms.quiet.Goals as goal

pub returns-in_err-depth : goal.returns-in_err-depth
returns-in_err-depth c = rw c.from_residual.ensures (record {
  form = no-two_numbers AreLimits (codes "quiet") _ (λ is. (_, _, is))
      (λ depth nodes are. c.in_err-depth.ensures.numbers depth nodes (rw c.from.ensures are));
})
