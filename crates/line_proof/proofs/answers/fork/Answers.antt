use Rattle.line_proof.proofs.Doubling.{fork-wins}
use Rattle.line_proof.proofs.answers.fork.Goals as goal

pub returns-clause-win : goal.returns-clause-win
returns-clause-win c = fork-wins _ _ _ _ _ _ c.as_slice.ensures.value c.in_ok-node.ensures.wins
