use Rattle.std.proofs.Common.{sym, subst, ◌∙◌, IfSome}
use Rattle.threat_game.proofs.Common.{IsQuiet}
use Rattle.threat_game.proofs.quiet_points.has_two_quiet.Goals as goal

pub returns-then-not-is : goal.returns-then-not-is
returns-then-not-is c = record {
  two = λ told. record {
    first = c.in-Some-first.p;
    second = c.in-Some.q;
    apart = sym c.is.ensures.same ∙ c.if-not-is.true;
    first_quiet = subst (λ o. IfSome o (IsQuiet c.args.board.now)) c.in-Some-first.is c.loop-q.invariant;
    second_quiet = c.is_quiet.ensures.quiet c.if-is_quiet.true;
  };
}
