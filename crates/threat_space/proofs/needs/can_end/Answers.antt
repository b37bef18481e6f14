use Rattle.std.proofs.Common.{sym, ◌∙◌}
use Rattle.threat_space.proofs.BarrenLists.{not-final}
use Rattle.threat_space.proofs.needs.can_end.Goals as goal

pub returns-clause-none : goal.returns-clause-none
returns-clause-none g c none start us ends is = not-final _ _ _ start us _ is (sym c.is_final_point.ensures.least ∙ none)
