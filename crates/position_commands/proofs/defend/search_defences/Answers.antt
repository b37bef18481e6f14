use Rattle.std.proofs.Common.{◌≡◌, ◌<◌, ◌≤◌, ◌+◌, ◌∙◌, sym, ap, [], length, arith}
use Rattle.std.specs.Prelude.{Err}
use Rattle.position_commands.proofs.Common.{IsBoard, defences_of, most_nodes}
use Rattle.game_rules.proofs.PointLists.{no_points}
use Rattle.position_commands.proofs.DefendLaws.{few-nodes, lost-says}
use Rattle.position_commands.proofs.Searches.{new-few}
use Rattle.position_commands.proofs.defend.search_defences.Goals as goal

-- a new compiler has room for what may be added
pub unreachable-requires : goal.unreachable-requires
unreachable-requires g c =
    let n = c.args.depth in
    let p = c.args.position in
    let more = c.in-Err-Full.ensures.writes.full (ap Err c.in-Err-Full.field-0-is) in
    let none = rw c.new-compiler.ensures.empty at more in
    let board : IsBoard p = c.requires.lawful.board in
    let fits = c.requires.limits.1 in
    let few = few-nodes n p fits board in
    omega (arith, none, few)

pub returns-else-len-gt0 : goal.returns-else-len-gt0
returns-else-len-gt0 g c =
    let rule = g.R.Rule.KIND in
    let n = c.args.depth in
    let p = c.args.position in
    let b = c.into_board-board.result in
    let t = c.defences.new.compiler in
    let good = c.in-Ok-Known.good in
    let bad = c.in-Ok-Known.bad in
    let good_are = rw c.in-Ok-Known.field-0-is at c.in-Ok-Known.ensures.good in
    let beaten = rw c.in-Ok-Known.field-0-is at c.in-Ok-Known.ensures.bad in
    let enough = rw c.in-Ok-Known.field-0-is at c.in-Ok-Known.ensures.spent in
    let count = c.len.ensures.length in
    let few = c.if-len-gt0.false in
    let none : defences_of rule n p ≡ [] = sym good_are ∙ no_points good (omega (arith, count, few)) in
    let there = c.into_board-board.ensures.board ∙ c.into_position.ensures.position ∙ c.defences.ensures.same in
    let short : length t ≤ most_nodes n p = new-few c.new-compiler.result t (most_nodes n p) c.new-compiler.ensures.empty
    c.in-Ok-Known.ensures.writes.grows in
    let text = rw c.KIND.ensures at c.lost.ensures.text in
    record {
      says = lost-says n c.args.nodes rule p c.lost.result b t bad there none enough beaten short c.lost.ensures.status text;
    }
