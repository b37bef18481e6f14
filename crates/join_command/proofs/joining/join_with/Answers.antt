use Rattle.std.proofs.Common.{refl, inl, inr}
use Rattle.file_loading.proofs.ManyFileLaws.{refused-sound, unfit-told}
use Rattle.join_command.proofs.Files.{accepted-files}
use Rattle.join_command.proofs.joining.join_with.Goals as goal

pub tell-requires : goal.tell-requires
tell-requires g c =
    let kept = rw c.in-Ok-None.field-0-is at c.in-Ok-None.ensures.loaded in
    record { in_range = rw (c.as_slice.ensures.value, kept.kept) (accepted-files _ _ _ _ kept.accepted) }

pub returns-in-Ok-Some-clause-joins : goal.returns-in-Ok-Some-clause-joins
returns-in-Ok-Some-clause-joins g c = λ words. record {
  each = c.load_files.ensures.each;
  ends = inr (inl (record {
    status = c.in-Ok-Some.answer.status;
    text = c.in-Ok-Some.answer.text;
    why = unfit-told _ _ _ _ c.in-Ok-Some.answer (rw c.in-Ok-Some.field-0-is at c.in-Ok-Some.ensures.loaded);
    input = record { same = refl; faults = refl; asked = refl };
    delivered = rw c.as_slice-in-Ok-Some.ensures.value at c.deliver.ensures.delivered;
  }));
}

pub returns-in-Ok-Some-clause-loads : goal.returns-in-Ok-Some-clause-loads
returns-in-Ok-Some-clause-loads g c =
    let refused = unfit-told _ _ _ _ c.in-Ok-Some.answer (rw c.in-Ok-Some.field-0-is at c.in-Ok-Some.ensures.loaded) in
    refused-sound _ _ _ _ _ _ _ refused (rw c.as_slice-in-Ok-Some.ensures.value at c.deliver.ensures.delivered)
