use Rattle.solve_command.proofs.solve.by_line.Goals as goal

pub by_threats-requires-clause-left : goal.by_threats-requires-clause-left
by_threats-requires-clause-left g c =
    let no = rw c.in-None.is at c.in_ok-line.ensures.line in
    record { no_fours = c.requires.no_fours; no_line = λ w. no w.line w.first }
