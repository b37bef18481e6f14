use Rattle.reply_cover.proofs.CoverLaws.{covers-exact}
use Rattle.reply_cover.proofs.laws.covers_are_exact.Goals as goal

pub returns : goal.returns
returns c = record { exact = covers-exact }
