use Rattle.std.proofs.Common.{sym, ◌∙◌}
use Rattle.threat_space.proofs.FarFinals.{new-final}
use Rattle.threat_space.proofs.needs.is_final_point.Goals as goal

pub returns-then-not-some_five-clause-least : goal.returns-then-not-some_five-clause-least
returns-then-not-some_five-clause-least g c =
    c.is_new_double_point.ensures.double ∙ sym (new-final _ _ _ _ (sym c.requires.five ∙ c.if-not-some_five.true))
