use Rattle.position_files.specs.declared.sections.Head.{Head}
use Rattle.position_files.proofs.SectionLaws.{one_head}
use Rattle.position_files.proofs.sections.read_head.Goals as goal

pub returns-clause-only : goal.returns-clause-only
returns-clause-only c = λ other rest is.
    let head : Head = record { kind = c.in_ok-kind.kind; board = c.in_ok-kind.board } in
    one_head head other c.in_ok-kind.rest.now rest c.args.bytes.now
    (record { board = c.in_ok-kind.ensures.board; text = c.in_ok-kind.ensures.text }) is
