use Rattle.std.proofs.Common.{sym, subst, arith, List}
use Rattle.threat_game.specs.declared.doubles.Kept.{Kept}
use Rattle.threat_game.specs.Replies.{AreKept}
use Rattle.threat_game.proofs.FirstDoubles.{none-kept}
use Rattle.threat_game.proofs.replies.doubles_for.Goals as goal
use Rattle.game_rules.proofs.Fives.{none_counted}

pub first_doubles-requires : goal.first_doubles-requires
first_doubles-requires g c =
    record { none = none_counted g.R.Rule.KIND c.args.board.now c.args.side c.args.fives c.requires.fives c.if-fives-eq0.true }

pub returns-clause-kept : goal.returns-clause-kept
returns-clause-kept g c =
    let some = c.if-fives-eq0.false in
    let many = c.requires.fives in
    subst (λ (ds : List Kept). AreKept g.R.Rule.KIND c.args.board.now c.args.side ds) (sym c.new.ensures.items)
    (none-kept g.R.Rule.KIND c.args.board.now c.args.side (omega (arith, some, many)))
