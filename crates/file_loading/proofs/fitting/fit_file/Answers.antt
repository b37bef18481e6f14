-- What the shelf gives is read and checked; else it is told what `brain FILE` tells.
use Rattle.std.proofs.Common.{inr, ap, arith, Err}
use Rattle.renju_io.proofs.AskedCalls.{few_once, none_asked}
use Rattle.command_base.specs.Runs.{change}
use Rattle.file_loading.proofs.HeldFileLaws.{unheld-long}
use Rattle.file_loading.proofs.ManyFileLaws.{fitted-file}
use Rattle.file_loading.proofs.fitting.fit_file.Goals as goal

pub returns-in-Ok-clause-fitted : goal.returns-in-Ok-clause-fitted
returns-in-Ok-clause-fitted g c =
    fitted-file c.args.work (change g.F.Shelf.files g.F.Shelf.faults g.F.Shelf.asked c.args.shelf.now c.load.new.self) c.args.number
    c.args.name.now c.as_slice.result.now
    (rw c.as_slice.ensures.value (record { found = c.in-Ok.ensures.found; sound = c.in-Ok.ensures.uncounted }))
    (rw c.as_slice.ensures.value c.in-Ok.ensures.short) c.fit_numbered.result c.fit_numbered.ensures.fitted

pub returns-in-Err-Failed-clause-fitted : goal.returns-in-Err-Failed-clause-fitted
returns-in-Err-Failed-clause-fitted g c = (
  c.as_bytes.result.now,
  inr (inr (record {
    failed = c.in-Err-Failed.ensures.failed (ap Err c.in-Err-Failed.field-0-is);
    ends = c.in_ok-failed.ensures.status;
    line = c.as_bytes.ensures.value;
  })),
  c.in_ok-failed.ensures.text,
)

pub returns-in_ok-long-in-Err-TooLong-clause-fitted : goal.returns-in_ok-long-in-Err-TooLong-clause-fitted
returns-in_ok-long-in-Err-TooLong-clause-fitted g c = (
  c.as_bytes-in-Err-TooLong.result.now,
  unheld-long _ (change g.F.Shelf.files g.F.Shelf.faults g.F.Shelf.asked c.args.shelf.now c.load.new.self) c.args.name.now _ _
      (c.in-Err-TooLong.ensures.too_long (ap Err c.in-Err-TooLong.field-0-is))
      (c.in-Err-TooLong.ensures.not_failed (let is = c.in-Err-TooLong.field-0-is in λ failed. absurd (cc)))
      c.in_ok-long-in-Err-TooLong.ensures.status c.as_bytes-in-Err-TooLong.ensures.value,
  c.in_ok-long-in-Err-TooLong.ensures.text,
)

pub returns-in_ok-long-in-Err-TooLong-clause-each : goal.returns-in_ok-long-in-Err-TooLong-clause-each
returns-in_ok-long-in-Err-TooLong-clause-each g c = few_once 0 1 _ _ _ (none_asked 0 _) c.load.ensures.asks (omega arith)

pub returns-in-Ok-clause-each : goal.returns-in-Ok-clause-each
returns-in-Ok-clause-each g c = few_once 0 1 _ _ _ (none_asked 0 _) c.load.ensures.asks (omega arith)
