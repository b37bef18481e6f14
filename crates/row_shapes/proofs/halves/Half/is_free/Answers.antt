use Rattle.std.proofs.Common.{sym, ◌∙◌, refl}
use Rattle.row_shapes.proofs.HalfBits.{free_told}
use Rattle.row_shapes.proofs.halves.Half.is_free.Goals as goal

pub returns-then-not-is_set : goal.returns-then-not-is_set
returns-then-not-is_set c = record {
  free = c.is_set-then-not-is_set.ensures.set
      ∙ sym (free_told c.args.self.now.own c.args.self.now.free c.args.k c.requires.near c.requires.far
      ∙ rw (sym c.is_set.ensures.set ∙ c.if-not-is_set.true) refl);
}

pub returns-else-not-is_set : goal.returns-else-not-is_set
returns-else-not-is_set c = record {
  free = rw c.if-not-is_set.false
      (sym (free_told c.args.self.now.own c.args.self.now.free c.args.k c.requires.near c.requires.far
      ∙ rw (sym c.is_set.ensures.set ∙ c.if-not-is_set.false) refl));
}
