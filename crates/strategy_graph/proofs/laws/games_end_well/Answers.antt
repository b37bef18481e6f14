use Rattle.strategy_graph.proofs.Endings.{games-end-well}
use Rattle.strategy_graph.proofs.laws.games_end_well.Goals as goal

pub returns : goal.returns
returns c = record { ends = games-end-well }
