use Rattle.threat_game.proofs.ReplyLaws.{escape-has}
use Rattle.threat_game.proofs.escapes.some_escapes.Goals as goal

pub returns-then-escapes_by-clause-escape : goal.returns-then-escapes_by-clause-escape
returns-then-escapes_by-clause-escape g c =
    λ is. escape-has g.R.Rule.KIND 1 (g.V.Seen.position c.args.view.now) (g.V.Seen.position c.loop-q.view) c.in-Some.q c.loop-q.invariant.0
    (c.escapes_by.ensures.escape c.if-escapes_by.true)
