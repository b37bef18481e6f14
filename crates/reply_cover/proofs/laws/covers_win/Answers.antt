use Rattle.reply_cover.proofs.CoverLaws.{covers-win}
use Rattle.reply_cover.proofs.laws.covers_win.Goals as goal

pub returns : goal.returns
returns c = record { win = covers-win }
