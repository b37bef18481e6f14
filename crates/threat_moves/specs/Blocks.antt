-- What becomes of a four.
use Rattle.std.specs.Prelude.{if◌then◌else◌, List, [], ◌∷◌}
use Rattle.game_rules.specs.Grid.{Grid}
use Rattle.game_rules.specs.Play.{outcome, mover, after, other}
use Rattle.game_rules.specs.Games.{has_five, five_points}
use Rattle.game_rules.specs.declared.RuleKind.{RuleKind}
use Rattle.game_rules.specs.declared.Outcome.{Outcome}
use Rattle.game_rules.specs.declared.Outcome.TheVariants.{Refused, Wins, Fouls, Draws, GoesOn}
use Rattle.game_rules.specs.declared.Point.{Point}
use Rattle.threat_moves.specs.declared.block.BlockAnswer.{BlockAnswer}
use Rattle.threat_moves.specs.declared.block.BlockAnswer.TheVariants.{Lost, Won, Draw, One}

-- what becomes of a four whose one block is w, by the outcome of the block: a foul wins for the attacker. A block is an
-- empty point, and it wins only where it is a five point of the defender.
abbrev pub by_block : Point → Outcome → BlockAnswer
by_block w Refused = Lost
by_block w Wins = Lost
by_block w (Fouls f) = Won
by_block w Draws = Draw w
by_block w GoesOn = One w

-- what becomes of a four at c, by the five points of the attacker: with two or more it has won
abbrev pub by_fives : RuleKind → Grid → List Point → BlockAnswer
by_fives rule c [] = Lost
by_fives rule c (w ∷ []) = by_block w (outcome rule c w)
by_fives rule c (w ∷ v ∷ more) = Won

-- what becomes of a four at c, where the defender is to move: it is lost where the defender has a five point, and else the
-- attacker's five points decide
unfoldable pub fate : RuleKind → Grid → BlockAnswer
fate rule c = if has_five rule c (mover c) then Lost else by_fives rule c (five_points rule c (other (mover c)))

-- what becomes of the four move p
abbrev pub block_answer : RuleKind → Grid → Point → BlockAnswer
block_answer rule b p = fate rule (after b p)
