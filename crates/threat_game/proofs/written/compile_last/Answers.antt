use Rattle.threat_game.proofs.WrittenLaws.{last-written}
use Rattle.threat_game.proofs.written.compile_last.Goals as goal

pub returns-clause-win : goal.returns-clause-win
returns-clause-win c = last-written c.args.compiler.now c.fork.new.self c.in_ok-node.node c.args.attack c.in_ok-node.ensures.wins
