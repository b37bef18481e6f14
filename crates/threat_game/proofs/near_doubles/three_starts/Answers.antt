use Rattle.threat_game.proofs.OpenThrees.{start-bit}
use Rattle.threat_game.proofs.near_doubles.three_starts.Goals as goal

pub returns : goal.returns
returns c = record { starts = λ i is. start-bit c.args.own c.args.theirs i is }
