use Rattle.std.proofs.Common.{sym, subst}
use Rattle.game_rules.specs.declared.Way.{Way}
use Rattle.stone_board.specs.Lines.{place_towards}
use Rattle.threat_game.specs.OpenThrees.{IsPassed}
use Rattle.threat_game.proofs.near_doubles.is_near.Goals as goal

pub returns-in-Ahead : goal.returns-in-Ahead
returns-in-Ahead c = record {
  none = λ off left. subst (λ (w : Way). IsPassed c.args.line.own c.args.line.starts (place_towards w c.args.place c.args.k))
      (sym c.in-Ahead.is)
      (c.is_free_near.ensures.none off);
}

pub returns-then-k-place : goal.returns-then-k-place
returns-then-k-place c = record {
  none = λ off left. subst (λ (w : Way). IsPassed c.args.line.own c.args.line.starts (place_towards w c.args.place c.args.k))
      (sym c.in-Behind.is)
      (c.is_free_near-then-k-place.ensures.none off);
}
