use Rattle.open_windows.proofs.WindowBits.{six-and}
use Rattle.open_windows.proofs.windows.start_at.Goals as goal

pub returns : goal.returns
returns c = record {
  bits = λ x.
      six-and c.args.own.now c.args.clear.now c.args.axis c.args.least c.args.i x c.set_in-held.result c.stepped.result c.stepped-2.result
      c.stepped-3.result c.stepped-4.result c.stepped-5.result c.stepped-6.result c.stepped-7.result c.stepped-8.result c.stepped-9.result
      c.stepped-10.result c.stepped.ensures.stepped c.stepped-2.ensures.stepped c.stepped-3.ensures.stepped c.stepped-4.ensures.stepped
      c.stepped-5.ensures.stepped c.stepped-6.ensures.stepped c.stepped-7.ensures.stepped c.stepped-8.ensures.stepped
      c.stepped-9.ensures.stepped c.stepped-10.ensures.stepped (c.set_in-held.ensures.bits x);
}
