use Rattle.std.proofs.Common.{ap, arith}
use Rattle.proof_tree.specs.declared.Link.{Link}
use Rattle.proof_tree.proofs.Settled.{proved-child}
use Rattle.proof_number.proofs.record.first_proved.Goals as goal

pub unreachable-requires : goal.unreachable-requires
unreachable-requires c =
    let child = proved-child c.args.tree.now c.args.node c.len-len.ensures.tree c.requires.in_tree c.requires.some c.requires.attack
    c.requires.proved in
    let first = child.1.from_first in
    let low = child.1.below_end in
    let from = ap (λ (l : Link). l.first) c.link-link.ensures.link in
    let many = ap (λ (l : Link). l.count) c.link-link.ensures.link in
    c.loop-i.invariant child.0 first (omega (arith, low, from, many)) child.2
