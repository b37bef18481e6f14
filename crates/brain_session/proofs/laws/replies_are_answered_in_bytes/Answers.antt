use Rattle.brain_session.proofs.TurnLines.{own-replies-in_bytes, replies-in_bytes}
use Rattle.brain_session.proofs.laws.replies_are_answered_in_bytes.Goals as goal

pub returns : goal.returns
returns c = record { answered = replies-in_bytes; own = own-replies-in_bytes }
