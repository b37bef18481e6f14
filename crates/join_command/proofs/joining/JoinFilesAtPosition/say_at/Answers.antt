use Rattle.std.proofs.Common.{sym}
use Rattle.join_command.proofs.Joined.{goes-says}
use Rattle.join_command.proofs.joining.JoinFilesAtPosition.say_at.Goals as goal

pub returns-in-GoesOn : goal.returns-in-GoesOn
returns-in-GoesOn g c = record {
  says = goes-says c.args.self.now.files.now g.R.Rule.KIND c.args.position c.outcome.new.self c.args.self.now.attack
      c.in-GoesOn.ensures.same (sym c.in-GoesOn.ensures.outcome) c.join_nodes.result c.join_nodes.ensures.says;
}
