use Rattle.std.proofs.Common.{inl, inr, ap, Err}
use Rattle.command_base.specs.declared.status.Status.TheVariants.{TooLong}
use Rattle.command_base.proofs.ToldLaws.{too-long}
use Rattle.command_base.proofs.told.tell.Goals as goal

pub returns-in-Err-TooLong-clause-ends : goal.returns-in-Err-TooLong-clause-ends
returns-in-Err-TooLong-clause-ends g c = inl (record {
  status = TooLong;
  text = c.as_bytes.result.now;
  due = inr (too-long _ _ c.as_bytes.ensures.value c.in-Err-TooLong.ensures.few_reads
      (c.in-Err-TooLong.ensures.too_long (ap Err c.in-Err-TooLong.field-0-is)));
  delivered = c.deliver-in-Err-TooLong.ensures.delivered;
})
