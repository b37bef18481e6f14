use Rattle.game_referee.proofs.Following.{games-go-by-root, games-go-by-table}
use Rattle.game_referee.proofs.laws.game_goes_by_table.Goals as goal

pub returns : goal.returns
returns c = record { goes = games-go-by-table; from_root = games-go-by-root }
