use Rattle.std.proofs.Common.{◌<◌, ◌+◌, ◌∙◌, ap, arith, inl, Err}
use Rattle.command_base.specs.Positions.{file_at}
use Rattle.position_commands.proofs.Searches.{new-few}
use Rattle.solve_command.proofs.Solutions.{line-says, line-proved, full-says}
use Rattle.solve_command.proofs.solve.prove_first.Goals as goal

pub returns-in-Ok-Proved : goal.returns-in-Ok-Proved
returns-in-Ok-Proved g c =
    let rule = g.R.Rule.KIND in
    let p = c.args.position in
    let compiled = c.prove_line.new.compiler in
    let win = c.in-Ok-Proved.win in
    let is = rw c.in-Ok-Proved.field-0-is at c.in-Ok-Proved.ensures.proved in
    record {
      says = line-says c.win_text.result c.args.depth c.args.nodes rule p c.into_position.result
          (c.into_position.ensures.position ∙ c.prove_line.ensures.same) compiled win c.args.line.now is (new-few c.new-compiler.result compiled _ c.new-compiler.ensures.empty c.prove_line.ensures.added)
          c.requires.no_fours c.requires.line
          (line-proved rule c.args.line.now c.args.depth p c.in-Ok-Proved.field-0 win c.in-Ok-Proved.field-0-is
          c.in-Ok-Proved.ensures.fails) c.win_text.ensures.status c.win_text.ensures.shown;
    }

pub returns-in-Err-Full : goal.returns-in-Err-Full
returns-in-Err-Full g c =
    let rule = g.R.Rule.KIND in
    let line = c.args.line.now in
    let p = c.args.position in
    let above = rw c.new-compiler.ensures.empty at (c.in-Err-Full.ensures.full (ap Err c.in-Err-Full.field-0-is)) in
    record {
      says = full-says c.full.result c.args.depth c.args.nodes (file_at rule p) c.requires.no_fours
          (inl (line, c.requires.line, omega (arith, above))) c.full.ensures.status c.full.ensures.text;
    }
