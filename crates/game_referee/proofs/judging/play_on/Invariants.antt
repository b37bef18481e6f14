use Rattle.game_referee.proofs.Playing.{PlayedOn}
use Rattle.game_referee.proofs.judging.play_on.Given as goal

-- the moves so far were played
abbrev pub invariant-loop-played : goal.invariant-loop-played
invariant-loop-played g l = PlayedOn g.R.Rule.KIND l.fn.position l.moves l.played l.position
