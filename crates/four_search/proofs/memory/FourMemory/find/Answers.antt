use Rattle.std.proofs.Common.{inl, ap}
use Rattle.position_table.specs.Lateness.{Late}
use Rattle.position_table.proofs.Remembering.{true-looked}
use Rattle.four_search.proofs.Remembering.{memory-denies}
use Rattle.four_search.proofs.memory.FourMemory.find.Goals as goal

pub invariant_of-self : goal.invariant_of-self
invariant_of-self g c = true-looked _ _ _ _ _ (inl (ap (λ (m : Late). m.table) c.find.ensures.entries)) c.self.invariant

pub returns-clause-denied : goal.returns-clause-denied
returns-clause-denied g c = memory-denies _ _ _ c.self.inside.table _ c.requires.lawful c.self.invariant c.find.ensures.value
