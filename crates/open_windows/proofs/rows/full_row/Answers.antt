use Rattle.open_windows.proofs.BoardRows.{full-is}
use Rattle.open_windows.proofs.rows.full_row.Goals as goal

pub returns : goal.returns
returns c = record { full = full-is c.args.width c.requires.fits }
