-- File by file, up to the first that is not accepted, or not kept.
use Rattle.std.proofs.Common.{◌∙◌, refl, inl, inr, arith, string_bytes}
use Rattle.std.proofs.lemmas.List.{length-map}
use Rattle.renju_io.proofs.AskedCalls.{few_then}
use Rattle.command_base.specs.Runs.{change}
use Rattle.file_loading.proofs.ManyFileLaws.{fits-from, refused-at, stop-at, tells-from, up-to-all, up-to-count, up-to-more}
use Rattle.file_loading.proofs.keeping.load_files.Goals as goal

pub keep-requires : goal.keep-requires
keep-requires g c =
    let fits = (rw c.in-Fits.is at c.in_ok-file.ensures.fitted).0 in
    let so_far = c.loop-before.invariant.so_far in
    let count = up-to-count string_bytes _ _ _ _ c.loop-before-test.true c.index-names-before.is c.as_str.ensures.value _ _ _ so_far in
    record {
      read = (fits.bytes, fits.at);
      room = (so_far.files, so_far.holds, rw count (c.requires.room c.loop-before.before c.loop-before-test.true));
    }

pub returns-in-Some-clause-loaded : goal.returns-in-Some-clause-loaded
returns-in-Some-clause-loaded g c =
    let from = change g.F.Shelf.files g.F.Shelf.faults g.F.Shelf.asked c.loop-before.shelf c.fit_file.new.shelf in
    let shelf = change g.F.Shelf.files g.F.Shelf.faults g.F.Shelf.asked c.args.shelf.now c.fit_file.new.shelf in
    let fits = fits-from from shelf c.loop-before.invariant.files c.loop-before.invariant.faults refl _ _ c.in-Fits.file
    (rw c.in-Fits.is at c.in_ok-file.ensures.fitted) in
    let so_far = c.loop-before.invariant.so_far in
    inr (record {
      stop = stop-at string_bytes _ _ _ _ c.loop-before-test.true c.index-names-before.is c.as_str.ensures.value _ _ _ so_far;
      file = c.in-Fits.file;
      last = fits.0;
      sound = fits.1;
      tells = (rw c.in-Some.is at c.in_ok-keep-in-Fits.ensures.tells) so_far.files so_far.holds;
    })

pub returns-in-Tells-clause-loaded : goal.returns-in-Tells-clause-loaded
returns-in-Tells-clause-loaded g c =
    let from = change g.F.Shelf.files g.F.Shelf.faults g.F.Shelf.asked c.loop-before.shelf c.fit_file.new.shelf in
    let shelf = change g.F.Shelf.files g.F.Shelf.faults g.F.Shelf.asked c.args.shelf.now c.fit_file.new.shelf in
    inl (refused-at string_bytes _ _ _ _ c.loop-before-test.true c.index-names-before.is c.as_str.ensures.value _ shelf _ c.in-Tells.told
    c.loop-before.invariant.so_far
    (tells-from from shelf c.loop-before.invariant.files c.loop-before.invariant.faults refl _ _ _ c.in-Tells.told
    (rw c.in-Tells.is at c.in_ok-file.ensures.fitted)))

pub loop-before-preserved : goal.loop-before-preserved
loop-before-preserved g c =
    let from = change g.F.Shelf.files g.F.Shelf.faults g.F.Shelf.asked c.loop-before.shelf c.fit_file.new.shelf in
    let shelf = change g.F.Shelf.files g.F.Shelf.faults g.F.Shelf.asked c.args.shelf.now c.fit_file.new.shelf in
    let fits = fits-from from shelf c.loop-before.invariant.files c.loop-before.invariant.faults refl _ _ c.in-Fits.file
    (rw c.in-Fits.is at c.in_ok-file.ensures.fitted) in
    record {
      so_far = up-to-more string_bytes _ _ _ _ c.loop-before-test.true c.index-names-before.is c.as_str.ensures.value _ _ _ _ _
          c.loop-before.invariant.so_far fits.0 (rw c.in-None.is at c.in_ok-keep-in-Fits.ensures.keeps);
      files = c.fit_file.ensures.files ∙ c.loop-before.invariant.files;
      faults = fits.1;
      each = few_then _ _ _ _ _ _ c.loop-before.invariant.each c.in_ok-file.ensures.each (omega arith);
    }

pub returns-clause-loaded : goal.returns-clause-loaded
returns-clause-loaded g c =
    up-to-all string_bytes _ _ _ (change g.F.Shelf.files g.F.Shelf.faults g.F.Shelf.asked c.args.shelf.now c.loop-before.shelf) _
    c.loop-before-test.false c.loop-before.invariant.faults c.loop-before.invariant.so_far

-- the shelf is asked for each file once
pub returns-in_err-file-clause-each : goal.returns-in_err-file-clause-each
returns-in_err-file-clause-each g c = few_then _ _ _ _ _ _ c.loop-before.invariant.each c.fit_file.ensures.each
    (omega (arith, c.loop-before-test.true, length-map c.args.names.now string_bytes))

pub returns-in_err-keep-in-Fits-clause-each : goal.returns-in_err-keep-in-Fits-clause-each
returns-in_err-keep-in-Fits-clause-each g c = few_then _ _ _ _ _ _ c.loop-before.invariant.each c.fit_file.ensures.each
    (omega (arith, c.loop-before-test.true, length-map c.args.names.now string_bytes))

pub returns-in-Some-clause-each : goal.returns-in-Some-clause-each
returns-in-Some-clause-each g c = few_then _ _ _ _ _ _ c.loop-before.invariant.each c.fit_file.ensures.each
    (omega (arith, c.loop-before-test.true, length-map c.args.names.now string_bytes))

pub returns-in-Tells-clause-each : goal.returns-in-Tells-clause-each
returns-in-Tells-clause-each g c = few_then _ _ _ _ _ _ c.loop-before.invariant.each c.fit_file.ensures.each
    (omega (arith, c.loop-before-test.true, length-map c.args.names.now string_bytes))
