use Rattle.std.proofs.Common.{◌≡◌, true, sym, ap, subst, ◌∙◌}
use Rattle.game_rules.proofs.Common.{Grid, IsBoard, is_empty, put, lift, five_points}
use Rattle.game_rules.proofs.Boards.{lift-put}
use Rattle.row_shapes.specs.FivePoints.{in_short}
use Rattle.stone_board.specs.Steps.{holds_stone}
use Rattle.stone_board.proofs.Stones.{put-holds_stone}
use Rattle.threat_moves.proofs.Common.{is_gain, is_several}
use Rattle.threat_moves.proofs.GainLaws.{gain-empty, no_gain-double, gain-double}
use Rattle.threat_moves.proofs.doubles.is_double_point.Goals as goal

pub returns-then-not-is_gain-clause-double : goal.returns-then-not-is_gain-clause-double
returns-then-not-is_gain-clause-double g c =
    sym (no_gain-double g.R.Rule.KIND c.args.board.now c.args.side c.args.p (sym c.is_gain.ensures.gain ∙ c.if-not-is_gain.true))

pub put-requires : goal.put-requires
put-requires g c =
    let gain : is_gain g.R.Rule.KIND c.args.board.now c.args.side c.args.p ≡ true = sym c.is_gain.ensures.gain ∙ c.if-not-is_gain.false in
    record {
      empty = ap (λ (b : Grid). is_empty b c.args.p) c.is_gain.ensures.same
          ∙ gain-empty g.R.Rule.KIND c.args.board.now c.args.side c.args.p gain;
    }

pub lift-requires : goal.lift-requires
lift-requires g c =
    let gain : is_gain g.R.Rule.KIND c.args.board.now c.args.side c.args.p ≡ true = sym c.is_gain.ensures.gain ∙ c.if-not-is_gain.false in
    let empty : is_empty c.args.board.now c.args.p ≡ true = gain-empty g.R.Rule.KIND c.args.board.now c.args.side c.args.p gain in
    let ok : IsBoard c.args.board.now = subst (λ (b : Grid). IsBoard b) c.is_gain.ensures.same c.put.ensures.board in
    let there : c.put.new.self ≡ put c.args.board.now c.args.side c.args.p =
    c.put.ensures.put ∙ ap (λ (b : Grid). put b c.args.side c.args.p) c.is_gain.ensures.same in
    record { stone = ap (λ (b : Grid). holds_stone b c.args.p) there ∙ put-holds_stone c.args.board.now c.args.side c.args.p ok empty }

pub returns-clause-double : goal.returns-clause-double
returns-clause-double g c =
    let gain : is_gain g.R.Rule.KIND c.args.board.now c.args.side c.args.p ≡ true = sym c.is_gain.ensures.gain ∙ c.if-not-is_gain.false in
    let there : c.put.new.self ≡ put c.args.board.now c.args.side c.args.p =
    c.put.ensures.put ∙ ap (λ (b : Grid). put b c.args.side c.args.p) c.is_gain.ensures.same in
    c.is_several-two.ensures.several
    ∙ ap is_several (c.fives_in_short.ensures.fives ∙ ap (λ (b : Grid). in_short (five_points g.R.Rule.KIND b c.args.side)) there)
    ∙ sym (gain-double g.R.Rule.KIND c.args.board.now c.args.side c.args.p gain)

pub returns-clause-same : goal.returns-clause-same
returns-clause-same g c =
    let gain : is_gain g.R.Rule.KIND c.args.board.now c.args.side c.args.p ≡ true = sym c.is_gain.ensures.gain ∙ c.if-not-is_gain.false in
    let there : c.put.new.self ≡ put c.args.board.now c.args.side c.args.p =
    c.put.ensures.put ∙ ap (λ (b : Grid). put b c.args.side c.args.p) c.is_gain.ensures.same in
    c.lift.ensures.lift ∙ ap (λ (b : Grid). lift b c.args.p) there
    ∙ lift-put c.args.board.now c.args.side c.args.p (gain-empty g.R.Rule.KIND c.args.board.now c.args.side c.args.p gain)
