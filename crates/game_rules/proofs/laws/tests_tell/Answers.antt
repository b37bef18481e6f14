use Rattle.game_rules.proofs.Games.{test-WinsUnder, WinsUnder-test}
use Rattle.game_rules.proofs.laws.tests_tell.Goals as goal

pub returns : goal.returns
returns c = record { tell = λ demand rule n b. (test-WinsUnder demand rule n b, WinsUnder-test demand rule n b) }
