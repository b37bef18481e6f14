use Rattle.std.proofs.Common.{refl}
use Rattle.strategy_compiler.proofs.Growing.{writes-nothing}
use Rattle.line_proof.proofs.Doubling.{double-wins, leaves_two-wins}
use Rattle.line_proof.proofs.doubles.double_win.Goals as goal

pub returns-in-Some-clause-win : goal.returns-in-Some-clause-win
returns-in-Some-clause-win g c =
    double-wins _ _ c.side.ensures.lawful _ _ (rw c.in-Some.ensures.given at c.requires.hint) c.in-Some.ensures.leaves_two _
    c.double_of.ensures.node c.double_of.ensures.moves

pub returns-in-Some-clause-wins : goal.returns-in-Some-clause-wins
returns-in-Some-clause-wins g c = leaves_two-wins _ _ c.side.ensures.lawful _ _ c.in-Some.ensures.leaves_two

pub returns-in-Some-clause-writes : goal.returns-in-Some-clause-writes
returns-in-Some-clause-writes g c = writes-nothing _ _ _ _ c.requires.compiled refl
