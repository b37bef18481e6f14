use Rattle.std.proofs.Common.{◌≡◌, ◌&&◌, true, false, ap, sym, ◌∙◌}
use Rattle.game_rules.proofs.Common.{Grid, is_empty, mover, after, five_points}
use Rattle.row_shapes.specs.FivePoints.{in_short, is_several}
use Rattle.threat_game.proofs.attacks.makes_two.Goals as goal

pub returns-then-not-is_empty : goal.returns-then-not-is_empty
returns-then-not-is_empty g c =
    let b : Grid = g.V.Seen.position c.args.view.now in
    let taken : is_empty b c.args.p ≡ false = ap (λ (w : Grid). is_empty w c.args.p) (sym c.board.ensures.board)
    ∙ sym c.is_empty.ensures.empty ∙ c.if-not-is_empty.true in
    record { two = sym (ap (λ r. r && is_several (in_short (five_points g.R.Rule.KIND (after b c.args.p) (mover b)))) taken) }

pub fives_made-requires-clause-empty : goal.fives_made-requires-clause-empty
fives_made-requires-clause-empty g c =
    ap (λ (w : Grid). is_empty w c.args.p) (sym c.board.ensures.board) ∙ sym c.is_empty.ensures.empty ∙ c.if-not-is_empty.false

pub returns : goal.returns
returns g c =
    let b : Grid = g.V.Seen.position c.args.view.now in
    let free : is_empty b c.args.p ≡ true = ap (λ (w : Grid). is_empty w c.args.p) (sym c.board.ensures.board)
    ∙ sym c.is_empty.ensures.empty ∙ c.if-not-is_empty.false in
    record {
      two =
          c.is_several.ensures.several
          ∙ ap is_several c.fives_made.ensures.made
          ∙ sym (ap (λ r. r && is_several (in_short (five_points g.R.Rule.KIND (after b c.args.p) (mover b)))) free);
    }
