use Rattle.std.proofs.Common.{◌<◌, ◌+◌, ◌∙◌, ap, length, length-append, arith, Err}
use Rattle.solve_command.proofs.solve.searched_within.Goals as goal

-- a new compiler has no nodes
pub returns-in-Ok-Win-clause-told : goal.returns-in-Ok-Win-clause-told
returns-in-Ok-Win-clause-told g c =
    let rule = g.R.Rule.KIND in
    let b = c.args.view.now in
    let added = c.proof_number.new.compiler in
    let is = rw c.in-Ok-Win.field-0-is at c.in-Ok-Win.ensures.win in
    let grows = c.in-Ok-Win.ensures.leaves.writes.grows in
    let long = ap length grows.is ∙ length-append _ grows.added in
    let none = ap length c.new-compiler.ensures.empty in
    let few = grows.few in
    (is, omega (arith, long, none, few))

pub returns-in-Ok-None-clause-told : goal.returns-in-Ok-None-clause-told
returns-in-Ok-None-clause-told g c =
    let none = c.in-Ok-None.ensures.none c.in-Ok-None.field-0-is in (
      none.no_threats,
      c.in-Ok-None.ensures.denial c.in-Ok-None.field-0-is,
      (c.proof_number.new.tree, c.in-Ok-None.ensures.looked c.in-Ok-None.field-0-is),
    )

pub returns-in-Ok-Spent-clause-told : goal.returns-in-Ok-Spent-clause-told
returns-in-Ok-Spent-clause-told g c = (
  c.in-Ok-Spent.ensures.spent c.in-Ok-Spent.field-0-is,
  (c.proof_number.new.tree, c.in-Ok-Spent.ensures.ran_out c.in-Ok-Spent.field-0-is),
)

pub returns-in-Err-Full-clause-told : goal.returns-in-Err-Full-clause-told
returns-in-Err-Full-clause-told g c =
    let b = c.args.view.now in
    let more = c.in-Err-Full.ensures.leaves.writes.full (ap Err c.in-Err-Full.field-0-is) in
    let none = rw c.new-compiler.ensures.empty at more in
    omega (arith, none)
