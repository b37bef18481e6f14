use Rattle.std.proofs.Common.{◌≡◌, true, sym, ap, subst, ◌∙◌}
use Rattle.game_rules.specs.Grid.{Grid, IsBoard, is_empty, put, lift}
use Rattle.game_rules.proofs.Boards.{lift-put, is_empty-on, holds-put_same}
use Rattle.game_rules.proofs.Positions.{IsBoard-put}
use Rattle.stone_board.specs.Steps.{holds_stone}
use Rattle.stone_board.proofs.Stones.{put-holds_stone}
use Rattle.threat_moves.specs.Threats.{is_gain, makes_threat}
use Rattle.threat_moves.proofs.GainLaws.{gain-empty, no_gain-no_threat, gain-threat}
use Rattle.threat_moves.proofs.gains.is_threat.Goals as goal

pub returns-then-not-is_gain-clause-threat : goal.returns-then-not-is_gain-clause-threat
returns-then-not-is_gain-clause-threat g c =
    sym (no_gain-no_threat g.R.Rule.KIND c.args.board.now c.args.side c.args.gain c.args.axis c.args.kind
    (sym c.is_gain.ensures.gain ∙ c.if-not-is_gain.true))

pub put-requires : goal.put-requires
put-requires g c =
    let gain : is_gain g.R.Rule.KIND c.args.board.now c.args.side c.args.gain ≡ true =
    sym c.is_gain.ensures.gain ∙ c.if-not-is_gain.false in
    record {
      empty = ap (λ (b : Grid). is_empty b c.args.gain) c.is_gain.ensures.same
          ∙ gain-empty g.R.Rule.KIND c.args.board.now c.args.side c.args.gain gain;
    }

pub makes_threat-makes-requires : goal.makes_threat-makes-requires
makes_threat-makes-requires g c =
    let gain : is_gain g.R.Rule.KIND c.args.board.now c.args.side c.args.gain ≡ true =
    sym c.is_gain.ensures.gain ∙ c.if-not-is_gain.false in
    let empty : is_empty c.args.board.now c.args.gain ≡ true = gain-empty g.R.Rule.KIND c.args.board.now c.args.side c.args.gain gain in
    let ok : IsBoard c.args.board.now = subst (λ (b : Grid). IsBoard b) c.is_gain.ensures.same c.put.ensures.board in
    let there : c.put.new.self ≡ put c.args.board.now c.args.side c.args.gain =
    c.put.ensures.put ∙ ap (λ (b : Grid). put b c.args.side c.args.gain) c.is_gain.ensures.same in
    record {
      board = rw there (IsBoard-put c.args.board.now c.args.side c.args.gain ok);
      stone = rw there (holds-put_same c.args.board.now c.args.side c.args.gain ok (is_empty-on c.args.board.now c.args.gain empty));
    }

pub lift-requires : goal.lift-requires
lift-requires g c =
    let gain : is_gain g.R.Rule.KIND c.args.board.now c.args.side c.args.gain ≡ true =
    sym c.is_gain.ensures.gain ∙ c.if-not-is_gain.false in
    let empty : is_empty c.args.board.now c.args.gain ≡ true = gain-empty g.R.Rule.KIND c.args.board.now c.args.side c.args.gain gain in
    let ok : IsBoard c.args.board.now = subst (λ (b : Grid). IsBoard b) c.is_gain.ensures.same c.put.ensures.board in
    let there : c.put.new.self ≡ put c.args.board.now c.args.side c.args.gain =
    c.put.ensures.put ∙ ap (λ (b : Grid). put b c.args.side c.args.gain) c.is_gain.ensures.same in
    record {
      stone = ap (λ (b : Grid). holds_stone b c.args.gain) (c.makes_threat-makes.ensures.same ∙ there)
          ∙ put-holds_stone c.args.board.now c.args.side c.args.gain ok empty;
    }

pub returns-clause-threat : goal.returns-clause-threat
returns-clause-threat g c =
    let gain : is_gain g.R.Rule.KIND c.args.board.now c.args.side c.args.gain ≡ true =
    sym c.is_gain.ensures.gain ∙ c.if-not-is_gain.false in
    let there : c.put.new.self ≡ put c.args.board.now c.args.side c.args.gain =
    c.put.ensures.put ∙ ap (λ (b : Grid). put b c.args.side c.args.gain) c.is_gain.ensures.same in
    c.makes_threat-makes.ensures.makes
    ∙ ap (λ (b : Grid). makes_threat g.R.Rule.KIND b c.args.side c.args.axis c.args.gain c.args.kind) there
    ∙ sym (gain-threat g.R.Rule.KIND c.args.board.now c.args.side c.args.gain c.args.axis c.args.kind gain)

pub returns-clause-same : goal.returns-clause-same
returns-clause-same g c =
    let gain : is_gain g.R.Rule.KIND c.args.board.now c.args.side c.args.gain ≡ true =
    sym c.is_gain.ensures.gain ∙ c.if-not-is_gain.false in
    let there : c.put.new.self ≡ put c.args.board.now c.args.side c.args.gain =
    c.put.ensures.put ∙ ap (λ (b : Grid). put b c.args.side c.args.gain) c.is_gain.ensures.same in
    c.lift.ensures.lift ∙ ap (λ (b : Grid). lift b c.args.gain) (c.makes_threat-makes.ensures.same ∙ there)
    ∙ lift-put c.args.board.now c.args.side c.args.gain (gain-empty g.R.Rule.KIND c.args.board.now c.args.side c.args.gain gain)
