use Rattle.std.proofs.Common.{◌<◌, ◌≤◌, ◌^◌, refl, arith}
use Rattle.std.proofs.lemmas.Result.{err_from_is_err_and}
use Rattle.table_book.proofs.EntryBad.{no_root_line, no_such_node, root_fault}
use Rattle.table_book.proofs.entry_lines.root_line.Goals as goal

pub returns-then-number-below-clause-refused : goal.returns-then-number-below-clause-refused
returns-then-number-below-clause-refused c =
    let few : c.in-Some.number < 2 ^ 32 = let most = c.in-Some.ensures.number.0.few in omega (arith, most) in
    let few_k : c.args.below < 2 ^ 32 = omega arith in
    let past : c.args.below ≤ c.in-Some.number = omega arith in (
      0,
      refl,
      no_root_line c.args.below c.args.bytes.now
          (no_such_node c.args.below c.args.bytes.now c.in-Some.number c.in-Some.rest.now few few_k past c.in-Some.ensures.number.1),
    )

pub returns-in_err-start-clause-refused : goal.returns-in_err-start-clause-refused
returns-in_err-start-clause-refused c =
    let p = err_from_is_err_and c.from_residual.result c.from_residual.ensures.1 in
    let few_k : c.args.below < 2 ^ 32 = omega arith in
    rw (p.1, p.2) (root_fault c.args.below c.args.bytes.now c.in_default.ensures.number few_k c.in_err-start.field-0.0
    c.in_err-start.ensures.refused)

pub returns-clause-text : goal.returns-clause-text
returns-clause-text c = c.in_ok-start.ensures.found.text
