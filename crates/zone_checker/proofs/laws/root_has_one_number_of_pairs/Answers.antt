use Rattle.zone_checker.proofs.Counting.{roots-one, roots-some}
use Rattle.zone_checker.proofs.laws.root_has_one_number_of_pairs.Goals as goal

pub returns : goal.returns
returns c = record { one = roots-one; some = roots-some }
