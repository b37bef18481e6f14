use Rattle.file_loading.proofs.HeldFileLaws.{book-held}
use Rattle.file_loading.proofs.loading.hold_entries.Goals as goal

pub returns-in-Ok : goal.returns-in-Ok
returns-in-Ok c =
    record { loaded = (c.in-Ok.ensures.accepted, book-held c.args.book c.in-Ok.held c.in-Ok.ensures.table c.in-Ok.ensures.roots) }
