use Rattle.game_rules.specs.Games.{has_threat}
use Rattle.game_rules.proofs.Games.{WinsByFours-WinsByThreats, WinsUnder-WinsWithin, WinsUnder-more}
use Rattle.game_rules.proofs.laws.wins_are_ordered.Goals as goal

pub returns : goal.returns
returns c = record {
  fours = WinsByFours-WinsByThreats;
  threats = λ rule n b. WinsUnder-WinsWithin (has_threat rule) rule n b;
  more = WinsUnder-more;
}
