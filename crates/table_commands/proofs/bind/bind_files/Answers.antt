-- The files are loaded, and what is told of one is said; else the book of all is written.
use Rattle.command_base.specs.Runs.{change}
use Rattle.table_commands.proofs.BindLaws.{says-written, says-told, some-left}
use Rattle.table_commands.proofs.bind.bind_files.Goals as goal

pub book_of-requires : goal.book_of-requires
book_of-requires g c = record { some = some-left _ _ _ (rw c.in-None.is at c.in_ok-load_files.ensures.loaded) c.requires.names }

pub returns-in-None-clause-says : goal.returns-in-None-clause-says
returns-in-None-clause-says g c =
    says-written _ (change g.F.Shelf.files g.F.Shelf.faults g.F.Shelf.asked c.args.shelf.now c.load_files.new.shelf) _
    (rw c.in-None.is at c.in_ok-load_files.ensures.loaded) c.book_of.result c.book_of.ensures.status c.book_of.ensures.well_formed
    c.book_of.ensures.text

pub returns-in-Some-clause-says : goal.returns-in-Some-clause-says
returns-in-Some-clause-says g c = says-told _ _ _ c.in-Some.told (rw c.in-Some.is at c.in_ok-load_files.ensures.loaded)
