use Rattle.std.proofs.Common.{◌≡◌, true, List, sym, ap, subst, ◌∙◌, IfOk, flat_map}
use Rattle.game_rules.specs.Grid.{Grid, IsBoard, is_empty, put, lift, axes}
use Rattle.game_rules.proofs.Boards.{lift-put, is_empty-on, holds-put_same}
use Rattle.game_rules.proofs.Positions.{IsBoard-put}
use Rattle.stone_board.specs.Steps.{holds_stone}
use Rattle.stone_board.proofs.Stones.{put-holds_stone}
use Rattle.threat_moves.specs.declared.threat_list.Threat.{Threat}
use Rattle.threat_moves.specs.Threats.{is_gain, threats_on}
use Rattle.threat_moves.proofs.GainLaws.{gain-empty, no_gain-threats, gain-threats}
use Rattle.threat_moves.proofs.gains.threats_at.Goals as goal

pub returns-then-not-is_gain-clause-threats : goal.returns-then-not-is_gain-clause-threats
returns-then-not-is_gain-clause-threats g c =
    c.new-none.ensures.empty ∙ sym
    (no_gain-threats g.R.Rule.KIND c.args.board.now c.args.side c.args.gain (sym c.is_gain.ensures.gain ∙ c.if-not-is_gain.true))

pub put-requires : goal.put-requires
put-requires g c =
    let gain : is_gain g.R.Rule.KIND c.args.board.now c.args.side c.args.gain ≡ true =
    sym c.is_gain.ensures.gain ∙ c.if-not-is_gain.false in
    record {
      empty = ap (λ (b : Grid). is_empty b c.args.gain) c.is_gain.ensures.same
          ∙ gain-empty g.R.Rule.KIND c.args.board.now c.args.side c.args.gain gain;
    }

pub threats_of_stone-found-requires : goal.threats_of_stone-found-requires
threats_of_stone-found-requires g c =
    let gain : is_gain g.R.Rule.KIND c.args.board.now c.args.side c.args.gain ≡ true =
    sym c.is_gain.ensures.gain ∙ c.if-not-is_gain.false in
    let empty : is_empty c.args.board.now c.args.gain ≡ true = gain-empty g.R.Rule.KIND c.args.board.now c.args.side c.args.gain gain in
    let ok : IsBoard c.args.board.now = subst (λ (b : Grid). IsBoard b) c.is_gain.ensures.same c.put.ensures.board in
    let there : c.put.new.self ≡ put c.args.board.now c.args.side c.args.gain =
    c.put.ensures.put ∙ ap (λ (b : Grid). put b c.args.side c.args.gain) c.is_gain.ensures.same in
    record {
      board = rw there (IsBoard-put c.args.board.now c.args.side c.args.gain ok);
      stone = rw there (holds-put_same c.args.board.now c.args.side c.args.gain ok (is_empty-on c.args.board.now c.args.gain empty));
    }

pub lift-requires : goal.lift-requires
lift-requires g c =
    let gain : is_gain g.R.Rule.KIND c.args.board.now c.args.side c.args.gain ≡ true =
    sym c.is_gain.ensures.gain ∙ c.if-not-is_gain.false in
    let empty : is_empty c.args.board.now c.args.gain ≡ true = gain-empty g.R.Rule.KIND c.args.board.now c.args.side c.args.gain gain in
    let ok : IsBoard c.args.board.now = subst (λ (b : Grid). IsBoard b) c.is_gain.ensures.same c.put.ensures.board in
    let there : c.put.new.self ≡ put c.args.board.now c.args.side c.args.gain =
    c.put.ensures.put ∙ ap (λ (b : Grid). put b c.args.side c.args.gain) c.is_gain.ensures.same in
    record {
      stone = ap (λ (b : Grid). holds_stone b c.args.gain) (c.threats_of_stone-found.ensures.same ∙ there)
          ∙ put-holds_stone c.args.board.now c.args.side c.args.gain ok empty;
    }

pub returns-clause-threats : goal.returns-clause-threats
returns-clause-threats g c =
    let gain : is_gain g.R.Rule.KIND c.args.board.now c.args.side c.args.gain ≡ true =
    sym c.is_gain.ensures.gain ∙ c.if-not-is_gain.false in
    let there : c.put.new.self ≡ put c.args.board.now c.args.side c.args.gain =
    c.put.ensures.put ∙ ap (λ (b : Grid). put b c.args.side c.args.gain) c.is_gain.ensures.same in
    subst (λ (ts : List Threat). IfOk c.threats_of_stone-found.result (λ threats. threats ≡ ts))
    (ap (λ (b : Grid). flat_map (threats_on g.R.Rule.KIND b c.args.side c.args.gain) axes) there
    ∙ sym (gain-threats g.R.Rule.KIND c.args.board.now c.args.side c.args.gain gain))
    c.threats_of_stone-found.ensures.threats

pub returns-clause-same : goal.returns-clause-same
returns-clause-same g c =
    let gain : is_gain g.R.Rule.KIND c.args.board.now c.args.side c.args.gain ≡ true =
    sym c.is_gain.ensures.gain ∙ c.if-not-is_gain.false in
    let there : c.put.new.self ≡ put c.args.board.now c.args.side c.args.gain =
    c.put.ensures.put ∙ ap (λ (b : Grid). put b c.args.side c.args.gain) c.is_gain.ensures.same in
    c.lift.ensures.lift ∙ ap (λ (b : Grid). lift b c.args.gain) (c.threats_of_stone-found.ensures.same ∙ there)
    ∙ lift-put c.args.board.now c.args.side c.args.gain (gain-empty g.R.Rule.KIND c.args.board.now c.args.side c.args.gain gain)
