use Rattle.std.proofs.Common.{◌+◌, ◌-◌, ap, ◌∙◌, arith}
use Rattle.std.specs.Int.{bit_at}
use Rattle.stone_board.proofs.Ones.{ahead_set, ahead_clear, behind_set, behind_clear}
use Rattle.stone_board.proofs.lines.ones_towards.Goals as goal

pub returns-in-Ahead-clause-set : goal.returns-in-Ahead-clause-set
returns-in-Ahead-clause-set c =
    let found = c.trailing_ones.ensures in
    rw c.in-Ahead.is (λ k low high near. ahead_set c.args.bits c.args.place c.ranges.bits.fits k low (omega (arith, found, high)))

pub returns-in-Ahead-clause-clear : goal.returns-in-Ahead-clause-clear
returns-in-Ahead-clause-clear c = rw c.in-Ahead.is (λ short. ap (λ n. bit_at c.args.bits (c.args.place + (1 + n))) c.trailing_ones.ensures
    ∙ ahead_clear c.args.bits c.args.place c.ranges.bits.fits)

pub returns-in-Behind-clause-set : goal.returns-in-Behind-clause-set
returns-in-Behind-clause-set c =
    let found = c.leading_ones.ensures in
    rw c.in-Behind.is (λ k low high near. behind_set c.args.bits c.args.place c.requires.place k low (omega (arith, found, high)) near)

pub returns-in-Behind-clause-clear : goal.returns-in-Behind-clause-clear
returns-in-Behind-clause-clear c =
    let found = c.leading_ones.ensures in
    rw c.in-Behind.is (λ short. ap (λ n. bit_at c.args.bits (c.args.place - (1 + n))) found
    ∙ behind_clear c.args.bits c.args.place c.requires.place (omega (arith, found, short)))
