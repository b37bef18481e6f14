use Rattle.std.proofs.Common.{◌≡◌, ◌++◌, take, string_bytes}
use Rattle.position_files.specs.Tables.{replies_text}
use Rattle.position_files.proofs.writers.push_replies.Given as goal

-- the replies so far stand behind the text
abbrev pub invariant-loop-reply : goal.invariant-loop-reply
invariant-loop-reply l = string_bytes l.text ≡ string_bytes l.fn.text ++ replies_text (take l.reply-index l.replies)
