use Rattle.std.proofs.Common.{inl, inr, refl}
use Rattle.table_commands.proofs.Common.{BRAIN_WORK, TableFileSays}
use Rattle.command_base.proofs.ToldLaws.{unread-devices}
use Rattle.file_loading.proofs.HeldFileLaws.{told-sound}
use Rattle.table_commands.proofs.RefereeLaws.{referees-by-file}
use Rattle.table_commands.proofs.referee.referee_with.Goals as goal

pub returns-in-Ok-Holds-clause-referees : goal.returns-in-Ok-Holds-clause-referees
returns-in-Ok-Holds-clause-referees g c = λ words. referees-by-file c.args.file.now _ c.in-Ok-Holds.held c.load_file.ensures.once
    (rw c.in-Ok-Holds.field-0-is at c.in-Ok-Holds.ensures.loaded) c.tell.ensures.ends

pub returns-in-Ok-Tells-clause-referees : goal.returns-in-Ok-Tells-clause-referees
returns-in-Ok-Tells-clause-referees g c = λ words. record {
  once = c.load_file.ensures.once;
  ends = inr (inl (record {
    status = c.in-Ok-Tells.answer.status;
    text = c.in-Ok-Tells.answer.text;
    why = rw c.in-Ok-Tells.field-0-is at c.in-Ok-Tells.ensures.loaded;
    input = record { same = refl; faults = refl; asked = refl };
    delivered = rw (← c.as_slice.ensures.value) c.deliver.ensures.delivered;
  }));
}

pub returns-in-Ok-Tells-clause-devices : goal.returns-in-Ok-Tells-clause-devices
returns-in-Ok-Tells-clause-devices g c = λ words. unread-devices _ (record { same = refl; faults = refl; asked = refl })
    c.deliver.ensures.counted c.load_file.ensures.shelf c.load_file.ensures.files c.deliver.ensures.writes
    (told-sound (TableFileSays BRAIN_WORK) _ c.args.file.now c.in-Ok-Tells.answer.status c.in-Ok-Tells.answer.text _ _
    (rw c.in-Ok-Tells.field-0-is at c.in-Ok-Tells.ensures.loaded) (rw c.as_slice.ensures.value at c.deliver.ensures.delivered))
