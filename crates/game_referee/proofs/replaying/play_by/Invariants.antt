use Rattle.game_referee.specs.Replays.{in_turn}
use Rattle.game_referee.proofs.Playing.{ReplayedOn}
use Rattle.game_referee.proofs.replaying.play_by.Given as goal

-- the moves so far were played, and this is in turn
abbrev pub invariant-loop-played : goal.invariant-loop-played
invariant-loop-played g l =
    ReplayedOn g.R.Rule.KIND l.table (in_turn l.table l.fn.first) l.fn.position l.moves l.played (in_turn l.table l.turn) l.position
