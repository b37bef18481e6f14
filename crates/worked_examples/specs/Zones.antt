-- The zone of a win, worked out by hand.
use Rattle.std.specs.Prelude.{◌-◌, ◌||◌}
use Rattle.game_rules.specs.Shapes.{is_same_point}
use Rattle.game_rules.specs.declared.Side.TheVariants.{White}
use Rattle.brain_session.specs.States.{point_at}
use Rattle.relevance_zone.specs.Windows.{stones_in}
use Rattle.relevance_zone.specs.Zones.{Zone}
use Rattle.worked_examples.specs.HeldSessions.{four_board}

-- The zone of the win with three in the row: the points of its attacks, and in each window as many further stones of White as make three
-- with those that stand there.
abbrev pub three_zone : Zone
three_zone = record {
  points = λ p. is_same_point (point_at 4 7) p || is_same_point (point_at 3 7) p || is_same_point (point_at 8 7) p;
  spare = λ d p. 3 - stones_in four_board White d p;
}
