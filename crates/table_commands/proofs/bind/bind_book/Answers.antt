use Rattle.std.proofs.Common.{inl}
use Rattle.table_commands.proofs.bind.bind_book.Goals as goal

pub returns-in-Ok-clause-binds : goal.returns-in-Ok-clause-binds
returns-in-Ok-clause-binds g c = λ words input last unasked. record {
  input = unasked;
  each = c.bind_files.ensures.each;
  ends = inl (record {
    status = c.in-Ok.answer.status;
    text = c.in-Ok.answer.text;
    says = c.in-Ok.ensures.says;
    delivered = rw c.as_slice.ensures.value at c.deliver.ensures.delivered;
  });
}
