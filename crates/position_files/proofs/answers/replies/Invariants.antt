use Rattle.std.proofs.Common.{length, option_copied}
use Rattle.position_files.proofs.Common.{space, tail_text, reply_text, ReplyFits}
use Rattle.text_lines.proofs.Items.{Follows}
use Rattle.position_files.proofs.answers.replies.Given as goal

-- the line begins with these replies, and goes on with the rest
abbrev pub invariant-loop-rest : goal.invariant-loop-rest
invariant-loop-rest l = Follows
    (ReplyFits l.width l.height) reply_text l.replies (tail_text space (option_copied l.rest)) (tail_text space (option_copied l.fn.tail))

abbrev pub decreases-loop-rest : goal.decreases-loop-rest
decreases-loop-rest l = length (tail_text space (option_copied l.rest))
