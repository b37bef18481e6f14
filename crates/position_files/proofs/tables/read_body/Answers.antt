use Rattle.std.proofs.Common.{subst, sym, refl}
use Rattle.std.specs.List.{AllByRecursion}
use Rattle.std.proofs.lemmas.Result.{err_from_is_err_and}
use Rattle.position_files.proofs.Common.{MAX_NODES, IsBetween, NodeFits, IsBodyLines, IsBoardLines}
use Rattle.position_files.proofs.SectionLaws.{body_text, fault_in, nodes_on}
use Rattle.position_files.proofs.BodyBad.{head_part, no_moves_line, no_nodes_line, body_nodes_fault}
use Rattle.position_files.proofs.tables.read_body.Goals as goal

pub returns-in_err-kind-clause-refused : goal.returns-in_err-kind-clause-refused
returns-in_err-kind-clause-refused c =
    let p = err_from_is_err_and c.from_residual.result c.from_residual.ensures.1 in
    rw (p.1, p.2) (fault_in IsBoardLines (IsBodyLines c.args.least) (head_part c.args.least c.requires.least) c.args.bytes.now
    c.in_err-kind.field-0.0 c.in_err-kind.ensures.refused)

pub returns-in_default-clause-refused : goal.returns-in_default-clause-refused
returns-in_default-clause-refused c = (
  4,
  refl,
  no_moves_line c.args.least c.requires.least c.args.bytes.now c.in_ok-kind.kind c.in_ok-kind.board _ c.in_ok-kind.ensures.board
      c.in_ok-kind.ensures.text c.in_default.ensures.number,
)

pub returns-in_default-number_line-clause-refused : goal.returns-in_default-number_line-clause-refused
returns-in_default-number_line-clause-refused c = (
  5,
  refl,
  no_nodes_line c.args.least c.requires.least c.args.bytes.now c.in_ok-kind.kind c.in_ok-kind.board _ c.in_ok-kind.ensures.board
      c.in_ok-kind.ensures.text c.in-Some.moves c.in-Some.rest.now c.in-Some.ensures.number.0
      c.in-Some.ensures.number.1 c.in_default-number_line.ensures.number,
)

pub returns-in-Err-clause-refused : goal.returns-in-Err-clause-refused
returns-in-Err-clause-refused c =
    rw c.after.ensures.error (body_nodes_fault c.args.least c.requires.least c.args.bytes.now c.in_ok-kind.kind c.in_ok-kind.board
    _ c.in_ok-kind.ensures.board c.in_ok-kind.ensures.text c.in-Some.moves c.in-Some.rest.now
    c.in-Some.ensures.number.0 c.in-Some.ensures.number.1
    c.in-Some-number_line.count c.in-Some-number_line.rest.now c.in-Some-number_line.ensures.number.0 c.in-Some-number_line.ensures.number.1
    c.in-Err.error (rw (sym c.width.ensures.width, sym c.height.ensures.height) c.in-Err.ensures.refused))

pub returns-clause-fits : goal.returns-clause-fits
returns-clause-fits c = record {
  board = c.in_ok-kind.ensures.board;
  on_board = nodes_on c.in_ok-kind.board c.in-Ok.found.0
      (subst (λ n. AllByRecursion (NodeFits c.in_ok-kind.board.width n) c.in-Ok.found.0) c.height.ensures.height
      (subst (λ n. AllByRecursion (NodeFits n c.height.result) c.in-Ok.found.0) c.width.ensures.width c.in-Ok.ensures.nodes));
  nodes = subst (IsBetween c.args.least MAX_NODES) (sym c.in-Ok.ensures.count) c.in-Some-number_line.ensures.number.0;
  moves = c.in-Some.ensures.number.0;
}

pub returns-clause-text : goal.returns-clause-text
returns-clause-text c = body_text c.in_ok-kind.kind c.in_ok-kind.board c.in-Ok.found.0 c.in-Some.moves c.in-Some-number_line.count
    c.args.bytes.now _ c.in-Some.rest.now c.in-Some-number_line.rest.now _
    c.in_ok-kind.ensures.text c.in-Some.ensures.number.1 c.in-Some-number_line.ensures.number.1 c.in-Ok.ensures.count c.in-Ok.ensures.text
