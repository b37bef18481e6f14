use Rattle.defence_finder.proofs.Losing.{no_defence-loses, beaten-replies-planned, beaten-replies-win}
use Rattle.defence_finder.proofs.laws.no_defence_loses.Goals as goal

pub returns : goal.returns
returns c = record { loses = no_defence-loses; wins = beaten-replies-win; planned = beaten-replies-planned }
