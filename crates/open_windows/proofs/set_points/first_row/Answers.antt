use Rattle.std.proofs.Common.{ap, ◌∙◌, arith}
use Rattle.open_windows.specs.PointSets.{set_points}
use Rattle.open_windows.proofs.SetOrder.{no-bits, past-rows, row-found, row-passed}
use Rattle.open_windows.proofs.set_points.first_row.Goals as goal

pub returns-then-bits-ne0-clause-some : goal.returns-then-bits-ne0-clause-some
returns-then-bits-ne0-clause-some c =
    row-found c.args.rows.now c.args.width c.args.height c.args.row.y c.args.row.bits c.full_row-full.result c.loop-y.y c.requires.left
    c.if-row-ne0.false c.full_row-full.ensures.full c.loop-y.invariant c.loop-y-test.true c.if-bits-ne0.true

pub loop-y-preserved : goal.loop-y-preserved
loop-y-preserved c =
    c.loop-y.invariant ∙ row-passed c.args.rows.now c.args.width c.args.height c.full_row-full.result c.loop-y.y
    c.full_row-full.ensures.full
    c.loop-y-test.true c.if-bits-ne0.false

pub returns-clause-none : goal.returns-clause-none
returns-clause-none c =
    ap (set_points c.args.rows.now c.args.width c.args.height c.args.row.y) c.if-row-ne0.false
    ∙ no-bits c.args.rows.now c.args.width c.args.height c.args.row.y
    ∙ c.loop-y.invariant
    ∙ past-rows c.args.rows.now c.args.width c.args.height c.loop-y.y (let end = c.loop-y-test.false in omega (arith, end))
