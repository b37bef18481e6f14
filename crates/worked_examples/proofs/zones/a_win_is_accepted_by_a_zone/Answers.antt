use Rattle.worked_examples.proofs.ThreeZone.{three-text, three-has_zone, three-accepted}
use Rattle.worked_examples.proofs.zones.a_win_is_accepted_by_a_zone.Goals as goal

pub returns : goal.returns
returns c = record { text = three-text; zone = three-has_zone; accepted = three-accepted }
