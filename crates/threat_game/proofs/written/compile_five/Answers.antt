use Rattle.threat_game.proofs.WrittenLaws.{five-written}
use Rattle.threat_game.proofs.written.compile_five.Goals as goal

pub returns-clause-win : goal.returns-clause-win
returns-clause-win c = five-written c.leaf.new.self c.in_ok-node.node c.args.five c.in_ok-node.ensures.wins
