use Rattle.std.proofs.Common.{refl}
use Rattle.position_table.proofs.Remembering.{true-kept}
use Rattle.position_table.proofs.Lateness.{late-kept}
use Rattle.four_search.proofs.memory.FourMemory.keep.Goals as goal

pub invariant_of-self : goal.invariant_of-self
invariant_of-self g c =
    true-kept _ _ _ _ _ _ _ c.requires.lawful refl c.self.invariant _ c.requires.denied
    (late-kept _ _ _ _ _ c.keep.ensures.kept c.keep.ensures.refused)
