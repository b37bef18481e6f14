use Rattle.std.proofs.Common.{sym, ◌∙◌}
use Rattle.row_shapes.proofs.HalfBits.{owns_told}
use Rattle.row_shapes.proofs.halves.Half.owns.Goals as goal

pub returns : goal.returns
returns c = record {
  owns = c.is_set.ensures.set ∙ sym (owns_told c.args.self.now.own c.args.self.now.free c.args.k c.requires.near c.requires.far);
}
