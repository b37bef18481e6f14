use Rattle.foul_judge.proofs.Lawfulness.{lawful-exactly}
use Rattle.foul_judge.proofs.position.refusal_under.Goals as goal

pub returns-clause-lawful : goal.returns-clause-lawful
returns-clause-lawful g c =
    lawful-exactly g.R.Rule.KIND c.args.board.now _ c.first_refusal.ensures.board c.first_refusal.ensures.refusal
