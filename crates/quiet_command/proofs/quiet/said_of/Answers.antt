use Rattle.std.proofs.Common.{inl, subst}
use Rattle.game_rules.proofs.Common.{Grid}
use Rattle.solve_command.specs.Solves.{SolutionSays}
use Rattle.command_base.specs.Positions.{file_at}
use Rattle.quiet_command.proofs.quiet.said_of.Goals as goal

pub returns-in-Done : goal.returns-in-Done
returns-in-Done g c =
    let solution = c.in_ok-solution.solution in
    record {
      says = inl (record {
        says = subst (λ (b : Grid). SolutionSays c.args.depth c.args.nodes (file_at g.R.Rule.KIND b) solution.status
            solution.text)
            c.in_ok-copy.ensures.copy c.in_ok-solution.ensures.says;
        decides = c.in-Done.is;
      });
    }
