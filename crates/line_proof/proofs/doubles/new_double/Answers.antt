use Rattle.std.proofs.Common.{rules, ◌≡◌, refl, ◌∙◌, arith}
use Rattle.game_rules.specs.Grid.{Grid}
use Rattle.strategy_compiler.proofs.Growing.{writes-fails, writes-nothing, writes-tells}
use Rattle.line_proof.proofs.Doubling.{double-wins, hint-kept, leaves_two-wins, told-leaves_two}
use Rattle.strategy_compiler.proofs.Standing.{compiled-lower}
use Rattle.line_proof.proofs.doubles.new_double.Goals as goal

pub returns-then-not-is_double_threat-clause-writes : goal.returns-then-not-is_double_threat-clause-writes
returns-then-not-is_double_threat-clause-writes g c = writes-nothing _ _ _ _ c.requires.compiled refl

pub returns-in_err-double-in-Some-clause-writes : goal.returns-in_err-double-in-Some-clause-writes
returns-in_err-double-in-Some-clause-writes g c =
    let b : Grid = g.V.Seen.position c.args.view.now in
    let leaves_two = rw c.in_ok-find_double_threat.ensures.same at
    (c.is_double_threat.ensures.leaves_two c.if-not-is_double_threat.false) in
    rw (leaves_two-wins g.R.Rule.KIND b c.requires.lawful c.in-Some.start c.in-Some.ends leaves_two)
    (writes-fails _ _ 3 3 _ _ c.in_err-double-in-Some.ensures.writes (omega arith) (search rules))

pub returns-in_ok-double-in-Some-clause-writes : goal.returns-in_ok-double-in-Some-clause-writes
returns-in_ok-double-in-Some-clause-writes g c =
    let b : Grid = g.V.Seen.position c.args.view.now in
    let leaves_two = rw c.in_ok-find_double_threat.ensures.same at
    (c.is_double_threat.ensures.leaves_two c.if-not-is_double_threat.false) in
    rw (leaves_two-wins g.R.Rule.KIND b c.requires.lawful c.in-Some.start c.in-Some.ends leaves_two)
    (writes-tells _ _ 3 3 _ _ c.in_ok-double-in-Some.ensures.writes (omega arith))

pub returns-in_ok-double-in-Some-clause-wins : goal.returns-in_ok-double-in-Some-clause-wins
returns-in_ok-double-in-Some-clause-wins g c =
    let leaves_two = rw c.in_ok-find_double_threat.ensures.same at
    (c.is_double_threat.ensures.leaves_two c.if-not-is_double_threat.false) in
    leaves_two-wins _ _ c.requires.lawful c.in-Some.start c.in-Some.ends leaves_two

pub returns-in_ok-double-in-Some-clause-win : goal.returns-in_ok-double-in-Some-clause-win
returns-in_ok-double-in-Some-clause-win g c =
    let b : Grid = g.V.Seen.position c.args.view.now in
    let leaves_two = rw c.in_ok-find_double_threat.ensures.same at
    (c.is_double_threat.ensures.leaves_two c.if-not-is_double_threat.false) in
    let board : c.board.result.now ≡ b = c.board.ensures.board ∙ c.if-not-is_double_threat.ensures.same
    ∙ c.in_ok-find_double_threat.ensures.same in
    let told = told-leaves_two g.R.Rule.KIND b _ _ c.in_ok-double-in-Some.double c.in_ok-double-in-Some.ensures.start
    c.in_ok-double-in-Some.ensures.ends leaves_two in
    double-wins _ _ c.requires.lawful _ _ (rw board at c.in_ok-double-in-Some.ensures.double) told _ c.double_of.ensures.node
    c.double_of.ensures.moves

pub returns-in_ok-double-in-Some-clause-hint : goal.returns-in_ok-double-in-Some-clause-hint
returns-in_ok-double-in-Some-clause-hint g c =
    let b : Grid = g.V.Seen.position c.args.view.now in
    let board : c.board.result.now ≡ b = c.board.ensures.board ∙ c.if-not-is_double_threat.ensures.same
    ∙ c.in_ok-find_double_threat.ensures.same in
    rw c.unwrap_or.ensures (hint-kept b.width b.height _ _ 3 _ _ (compiled-lower _ c.requires.compiled)
    c.compile_double.ensures.writes.grows c.requires.hint (rw board at c.in_ok-double-in-Some.ensures.double))
