use Rattle.std.proofs.Common.{◌≡◌, ◌++◌, length}
use Rattle.std.specs.List.{AllByRecursion}
use Rattle.position_files.proofs.Common.{ReplyFits, replies_text}
use Rattle.position_files.proofs.fronts.replies.Given as goal

-- the bytes begin with these replies, and go on with the rest
abbrev pub invariant-loop-text : goal.invariant-loop-text
invariant-loop-text l =
    record { fit : AllByRecursion (ReplyFits l.width l.height) l.listed; text : l.bytes ≡ replies_text l.listed ++ l.rest }

abbrev pub decreases-loop-text : goal.decreases-loop-text
decreases-loop-text l = length l.rest
