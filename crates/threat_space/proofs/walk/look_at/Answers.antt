use Rattle.threat_space.proofs.BarrenLists.{barren-end}
use Rattle.threat_space.proofs.walk.look_at.Goals as goal

pub returns-in-None-clause-barren : goal.returns-in-None-clause-barren
returns-in-None-clause-barren g c barren = barren-end _ _ _ _ (rw c.as_slice.ensures.items at (c.in_ok-finals.ensures.barren barren))
