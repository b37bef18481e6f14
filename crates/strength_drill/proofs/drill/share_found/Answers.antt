use Rattle.std.proofs.Common.{◌⊎◌, refl}
use Rattle.std.proofs.lemmas.Result.{IfOk-weaker}
use Rattle.strength_drill.proofs.Common.{FourTable, DEPTH, BUDGET, Counts, PlaysGame, IsNotHeld, ComesOf, found_within}
use Rattle.strength_drill.proofs.DrillCounts.{comes-win, comes-none, comes-spent}
use Rattle.strength_drill.proofs.drill.share_found.Goals as goal

pub try_table-requires : goal.try_table-requires
try_table-requires g c =
    let made : FourTable = c.in-Win.field-0 in
    let is = rw c.in-Win.is at c.requires.found in
    record { last_node = is.made.last_node; in_table = is.made.win.written.in_compiler; wide = c.requires.wide; high = c.requires.high }

pub returns-in-Win-clause-comes : goal.returns-in-Win-clause-comes
returns-in-Win-clause-comes g c =
    let rule = g.R.Rule.KIND in
    let b = c.args.position in
    let s = c.args.draws.now.number in
    let u = c.try_table.new.draws.number in
    let made : FourTable = c.in-Win.field-0 in
    let is = rw c.in-Win.is at c.requires.found in
    IfOk-weaker c.try_table.result (λ (d : Counts). PlaysGame rule b made.table s d u ⊎ IsNotHeld rule b made.table s d u)
    (λ (d : Counts). ComesOf rule b (found_within DEPTH BUDGET rule b) s d u) (λ d tried. comes-win rule b s d u made is tried)
    c.try_table.ensures.tried

pub returns-in-None-clause-comes : goal.returns-in-None-clause-comes
returns-in-None-clause-comes g c =
    let rule = g.R.Rule.KIND in
    let none = rw c.in-None.is at c.requires.found in
    comes-none rule c.args.position c.args.draws.now.number _ c.args.draws.now.number none refl refl

pub returns-in-Spent-clause-comes : goal.returns-in-Spent-clause-comes
returns-in-Spent-clause-comes g c =
    let rule = g.R.Rule.KIND in
    comes-spent rule c.args.position c.args.draws.now.number _ c.args.draws.now.number (rw c.in-Spent.is at c.requires.found) refl refl
