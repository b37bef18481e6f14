use Rattle.std.proofs.Common.{refl, ap}
use Rattle.threat_space.proofs.Common.{BarrenMemory}
use Rattle.position_table.specs.Lateness.{Late}
use Rattle.threat_space.proofs.BarrenLists.{memory-barren, memory-looked}
use Rattle.threat_space.proofs.barren.BarrenBoards.find.Goals as goal

pub invariant_of-self : goal.invariant_of-self
invariant_of-self g c =
    memory-looked _ (record { side = c.self.inside.side; late = c.self.inside.table }) _ _ c.width.ensures.board c.self.invariant
    (record { side = c.self.inside.side; late = c.find.new.self }) refl (ap (λ (m : Late). m.table) c.find.ensures.entries)

pub returns-clause-barren : goal.returns-clause-barren
returns-clause-barren g c =
    rw (ap (λ (m : BarrenMemory). m.side) c.self.view_is) at
    (memory-barren g.R.Rule.KIND (record { side = c.self.inside.side; late = c.self.inside.table }) c.args.board.now c.args.more
    c.width.ensures.board c.self.invariant c.find.result c.find.ensures.value)
