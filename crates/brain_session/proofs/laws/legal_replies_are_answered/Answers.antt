use Rattle.brain_session.proofs.HeldReplies.{legal-replies-are_answered}
use Rattle.brain_session.proofs.laws.legal_replies_are_answered.Goals as goal

pub returns : goal.returns
returns c = record { answered = legal-replies-are_answered }
