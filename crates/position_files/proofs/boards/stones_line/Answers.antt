use Rattle.std.proofs.Common.{◌≡◌, ◌++◌, List, ℕ, Bor, sym, subst, ◌∙◌}
use Rattle.std.specs.List.{AllByRecursion}
use Rattle.std.proofs.lemmas.Result.{err_from_is_err_and}
use Rattle.position_files.proofs.Common.{Point, Bad, points_text, IsWithin, stones}
use Rattle.text_lines.proofs.FaultLaws.{gives_bad, same_fault}
use Rattle.position_files.proofs.BoardLines.{stones_first, stones_fit, listed_stones}
use Rattle.position_files.proofs.boards.stones_line.Goals as goal

pub returns-in_err-points-clause-bad : goal.returns-in_err-points-clause-bad
returns-in_err-points-clause-bad c = λ is b rest ok same e.
    let p = err_from_is_err_and c.from_residual.result c.from_residual.ensures.1 in
    let first = stones_first b c.args.side c.args.word.now c.in-Some.line.now c.in-Some.rest.now rest c.args.bytes.now ok
    c.requires.one_line c.in-Some.ensures.ended c.in-Some.ensures.line e in
    let bad : c.in_err-points.field-0.0 ≡ Bad = sym p.2 ∙ same_fault {X = Bor (List ℕ)} p.0 Bad (sym p.1 ∙ is) in
    gives_bad (AllByRecursion (IsWithin c.width-width.result c.height-height.result))
    (λ (ps : List Point). c.args.word.now ++ points_text ps) c.in_err-points.field-0.0 c.in-Some.line.now bad
    c.in_err-points.ensures.stones (stones b c.args.side)
    (rw (c.width-width.ensures.width, c.height-height.ensures.height) (stones_fit c.args.board.now b c.args.side same)) first

pub returns-then-not-put_stones-clause-bad : goal.returns-then-not-put_stones-clause-bad
returns-then-not-put_stones-clause-bad c = λ is b rest ok same e.
    let first = stones_first b c.args.side c.args.word.now c.in-Some.line.now c.in-Some.rest.now rest c.args.bytes.now ok
    c.requires.one_line c.in-Some.ensures.ended c.in-Some.ensures.line e in
    let within : AllByRecursion (IsWithin c.args.board.now.width c.args.board.now.height) c.in_ok-points.points =
    subst (λ n. AllByRecursion (IsWithin c.args.board.now.width n) c.in_ok-points.points) c.height-height.ensures.height
    (subst (λ n. AllByRecursion (IsWithin n c.height-height.result) c.in_ok-points.points) c.width-width.ensures.width
    c.in_ok-points.ensures.stones.0) in
    let fit = listed_stones c.args.board.now b c.args.side c.args.word.now c.in-Some.line.now c.in_ok-points.points
    c.width-width.ensures.board same within c.in_ok-points.ensures.stones.1 first in
    c.put_stones.ensures.refused c.if-not-put_stones.true b ok same (fit ∙ sym c.as_slice.ensures.items)
