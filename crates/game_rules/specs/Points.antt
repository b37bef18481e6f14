-- Points in reading order.
use Rattle.std.specs.Prelude.{Bool, ◌&&◌, ◌||◌, ◌==◌, nat_lt}
use Rattle.game_rules.specs.declared.Point.{Point}

-- whether p comes before q in reading order
abbrev pub precedes : Point → Point → Bool
precedes p q = nat_lt p.y q.y || (p.y == q.y && nat_lt p.x q.x)
