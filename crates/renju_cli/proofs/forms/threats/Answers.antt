use Rattle.std.specs.Prelude.{codes}
use Rattle.position_commands.specs.Threats.{AreLengthAndNodes}
use Rattle.renju_cli.proofs.FormLaws.{no-two_numbers}
use Rattle.renju_cli.proofs.forms.threats.Goals as goal

pub returns-in_err-length : goal.returns-in_err-length
returns-in_err-length c = rw c.from_residual.ensures (record {
  form = no-two_numbers AreLengthAndNodes (codes "threats") _ (λ is. (_, _, is))
      (λ limit nodes are. c.in_err-length.ensures.numbers limit nodes (rw c.from.ensures are));
})
