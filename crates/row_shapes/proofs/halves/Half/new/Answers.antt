use Rattle.std.proofs.Common.{◌≡◌, sym, ◌∙◌, refl, arith}
use Rattle.row_shapes.proofs.Common.{cells_of, row_beyond, row_past}
use Rattle.row_shapes.proofs.HalfBits.{near_told, few_told, beyond_told}
use Rattle.row_shapes.proofs.halves.Half.new.Goals as goal
use Rattle.row_shapes.proofs.halves.Half.new.Goals.{then-is_set, else-is_set}

pub overflow_shr-own : goal.overflow_shr-own
overflow_shr-own c =
    let near = near_told c.args.own c.args.free c.requires.own in
    let few = few_told c.args.own c.args.free c.requires.own in
    omega (arith, near, few, c.trailing_ones-near.ensures)

pub invariant_of-result : goal.invariant_of-result
invariant_of-result c =
    let near : c.trailing_ones-near.result ≡ row_past (cells_of c.args.own c.args.free) 0 = c.trailing_ones-near.ensures
    ∙ sym (near_told c.args.own c.args.free c.requires.own) in
    let told = beyond_told c.args.own c.args.free c.requires.own c.requires.free c.trailing_ones-near.result near in
    let beyond : c.if-is_set.beyond ≡ row_beyond (cells_of c.args.own c.args.free) = elim c.if-is_set.branch [
      | then-is_set w ↦ w.beyond-is ∙ w.trailing_ones.ensures
          ∙ sym (told ∙ rw (sym c.is_set.ensures.set ∙ w.if-is_set.true) refl)
      | else-is_set w ↦ w.beyond-is ∙ sym (told ∙ rw (sym c.is_set.ensures.set ∙ w.if-is_set.false) refl)
    ] in
    let few = few_told c.args.own c.args.free c.requires.own in
    record { near_told = near; beyond_told = beyond; few = omega (arith, near, beyond, few) }
