use Rattle.std.proofs.Common.{refl, inl, inr, arith}
use Rattle.command_base.proofs.ToldLaws.{unread-devices}
use Rattle.file_loading.proofs.ManyFileLaws.{refused-sound, unfit-told}
use Rattle.cover_command.proofs.PartLaws.{kept-few}
use Rattle.cover_command.proofs.covering.cover_with.Goals as goal

-- no more is kept than there are files
pub tell-requires : goal.tell-requires
tell-requires g c = record {
  in_range = rw c.as_slice.ensures.value (kept-few c.args.covering.now.work _ _ _
      (rw c.in-Ok-None.field-0-is at c.in-Ok-None.ensures.loaded) c.requires.names);
}

pub returns-in-Ok-Some-clause-covers : goal.returns-in-Ok-Some-clause-covers
returns-in-Ok-Some-clause-covers g c = λ words. record {
  each = c.load_files.ensures.each;
  ends = inr (inl (record {
    status = c.in-Ok-Some.answer.status;
    text = c.in-Ok-Some.answer.text;
    why = unfit-told _ _ _ _ c.in-Ok-Some.answer (rw c.in-Ok-Some.field-0-is at c.in-Ok-Some.ensures.loaded);
    input = record { same = refl; faults = refl; asked = refl };
    delivered = rw c.as_slice-in-Ok-Some.ensures.value at c.deliver.ensures.delivered;
  }));
}

pub returns-in-Ok-Some-clause-devices : goal.returns-in-Ok-Some-clause-devices
returns-in-Ok-Some-clause-devices g c = λ words.
    let refused = unfit-told _ _ _ _ c.in-Ok-Some.answer (rw c.in-Ok-Some.field-0-is at c.in-Ok-Some.ensures.loaded) in
    unread-devices _ (record { same = refl; faults = refl; asked = refl }) c.deliver.ensures.counted c.load_files.ensures.shelf
    c.load_files.ensures.files c.deliver.ensures.writes (refused-sound _ _ _ _ _ _ _ refused (rw c.as_slice-in-Ok-Some.ensures.value at c.deliver.ensures.delivered))

-- memory ran out before the input was asked
pub returns-clause-devices : goal.returns-clause-devices
returns-clause-devices g c = λ words. unread-devices _ (record { same = refl; faults = refl; asked = refl }) (omega arith)
    c.load_files.ensures.shelf c.load_files.ensures.files (λ other. refl) (λ other out. c.in-Err.ensures.memory)
