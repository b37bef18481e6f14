use Rattle.std.proofs.Common.{append_assoc, string_bytes}
use Rattle.text_lines.proofs.TextLaws.{regroup}
use Rattle.cover_command.proofs.covering.covered.Goals as goal

pub returns : goal.returns
returns c = record { line = regroup string_bytes c.format.result _ _ (simp append_assoc) c.format.ensures.ok }
