use Rattle.std.proofs.Common.{refl, sym, ap}
use Rattle.threat_space.proofs.Common.{BarrenMemory}
use Rattle.position_table.proofs.Lateness.{late-kept}
use Rattle.threat_space.proofs.BarrenLists.{memory-kept}
use Rattle.threat_space.proofs.barren.BarrenBoards.keep.Goals as goal

pub invariant_of-self : goal.invariant_of-self
invariant_of-self g c =
    memory-kept _ (record { side = c.self.inside.side; late = c.self.inside.table }) _ _ c.width.ensures.board c.self.invariant
    (record { side = c.self.inside.side; late = c.keep.new.self }) _ refl
    (rw (ap (λ (m : BarrenMemory). m.side) (sym c.self.view_is)) at c.requires.barren)
    (late-kept _ _ _ _ _ c.keep.ensures.kept c.keep.ensures.refused)
