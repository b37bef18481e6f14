use Rattle.std.proofs.Common.{ℕ, ◌≤◌, sym, subst, ◌∙◌}
use Rattle.game_rules.specs.Ways.{towards}
use Rattle.stone_board.specs.Lines.{places_left, place_towards}
use Rattle.stone_board.proofs.LineBits.{board-near}
use Rattle.threat_game.specs.OpenThrees.{IsPassed}
use Rattle.threat_game.proofs.NearDoubles.{at-none, at-some}
use Rattle.threat_game.proofs.OpenThrees.{far-away}
use Rattle.threat_game.proofs.CrossDoubles.{step-same}
use Rattle.threat_game.proofs.near_doubles.double_towards.Goals as goal

pub returns-in-None-clause-double : goal.returns-in-None-clause-double
returns-in-None-clause-double g c =
    at-none g.R.Rule.KIND c.args.board.now c.args.side c.args.line.axis (towards c.args.way c.args.line.axis c.args.line.point c.args.k)
    (sym c.step_towards.ensures.step ∙ c.in-None.is)

pub returns-in-Some-clause-double : goal.returns-in-Some-clause-double
returns-in-Some-clause-double g c =
    c.double_from.ensures.double
    ∙ at-some g.R.Rule.KIND c.args.board.now c.args.side c.args.line.axis (towards c.args.way c.args.line.axis c.args.line.point c.args.k)
    c.in-Some.q
    (sym c.step_towards.ensures.step ∙ c.in-Some.is)

pub returns-then-not-is_near-clause-double : goal.returns-then-not-is_near-clause-double
returns-then-not-is_near-clause-double g c =
    sym (far-away g.R.Rule.KIND c.args.board.now c.args.side c.args.line.axis c.args.line.point c.args.line.own c.args.line.starts
    c.requires.on c.requires.own c.requires.starts c.args.way c.args.k
    (subst (λ (n : ℕ). c.args.k ≤ places_left c.args.way n → IsPassed c.args.line.own c.args.line.starts
    (place_towards c.args.way n c.args.k)) c.place_on.ensures.place (c.is_near.ensures.none c.if-not-is_near.true)))

pub place_on-requires-clause-column : goal.place_on-requires-clause-column
place_on-requires-clause-column g c = (board-near c.args.board.now c.args.line.point c.requires.starts.board c.requires.on).column

pub place_on-requires-clause-row : goal.place_on-requires-clause-row
place_on-requires-clause-row g c = (board-near c.args.board.now c.args.line.point c.requires.starts.board c.requires.on).row

pub double_from-requires-clause-alone : goal.double_from-requires-clause-alone
double_from-requires-clause-alone g c =
    c.requires.crossings.alone c.args.line.axis c.in-Some.q
    (step-same c.args.board.now c.args.way c.args.line.axis c.args.line.point c.in-Some.q
    c.args.k (sym c.step_towards.ensures.step ∙ c.in-Some.is))
