use Rattle.std.proofs.Common.{◌≡◌, true, false, ap, sym, subst, ◌∙◌, All, arith, length}
use Rattle.std.proofs.lemmas.Bool.{eqb-true}
use Rattle.game_rules.proofs.Common.{Grid, has_five, mover, other, after}
use Rattle.threat_game.proofs.Common.{IsStillKept, AreStopped, IsBeside, IsJudged}
use Rattle.game_rules.proofs.Positions.{GoesOn-empty, mover-other}
use Rattle.game_rules.proofs.Undo.{stone_back, lift_back, unwon_back}
use Rattle.threat_game.proofs.KeptDoubles.{all-still}
use Rattle.threat_game.proofs.replies.judge_double.Goals as goal

pub makes_five-requires-clause-empty : goal.makes_five-requires-clause-empty
makes_five-requires-clause-empty g c = GoesOn-empty g.R.Rule.KIND (g.V.Seen.position c.args.view.now) c.args.q c.requires.on

pub returns-then-is_empty-clause-stops : goal.returns-then-is_empty-clause-stops
returns-then-is_empty-clause-stops g c = λ open_is safe. record {
  each = λ k kept low. let none = eqb-true (length c.args.doubles.now) 0 (sym c.is_empty.ensures ∙ c.if-is_empty.true) in
      absurd (omega (arith, none, low));
}

pub returns-then-makes_five-clause-stops : goal.returns-then-makes_five-clause-stops
returns-then-makes_five-clause-stops g c = λ open_is safe.
    let bad : true ≡ false = sym c.if-makes_five.true ∙ c.makes_five.ensures.five ∙ safe in cc

pub still_double-found-requires-clause-none : goal.still_double-found-requires-clause-none
still_double-found-requires-clause-none g c = ap (λ (b : Grid). has_five g.R.Rule.KIND b (mover b)) c.play.ensures.played ∙ c.requires.none

pub still_double-found-requires-clause-safe : goal.still_double-found-requires-clause-safe
still_double-found-requires-clause-safe g c =
    let b : Grid = g.V.Seen.position c.args.view.now in
    ap (λ (w : Grid). has_five g.R.Rule.KIND w (other (mover w))) c.play.ensures.played
    ∙ ap (has_five g.R.Rule.KIND (after b c.args.q)) (mover-other g.R.Rule.KIND b c.args.q c.play.ensures.lawful c.requires.on)
    ∙ sym c.makes_five.ensures.five ∙ c.if-makes_five.false

pub still_double-found-requires-clause-doubles : goal.still_double-found-requires-clause-doubles
still_double-found-requires-clause-doubles g c =
    let b : Grid = g.V.Seen.position c.args.view.now in
    subst (λ (w : Grid). All (λ kept. IsBeside kept.double c.args.q → IsStillKept g.R.Rule.KIND w kept) c.args.doubles.now)
    (sym c.play.ensures.played)
    (all-still g.R.Rule.KIND b c.args.q c.play.ensures.lawful c.requires.on c.args.doubles.now c.requires.doubles)

pub undo-requires-clause-stone : goal.undo-requires-clause-stone
undo-requires-clause-stone g c =
    stone_back g.R.Rule.KIND (g.V.Seen.position c.args.view.now) _ c.args.q c.play.ensures.lawful c.requires.on
    (c.still_double-found.ensures.same ∙ c.play.ensures.played)

pub undo-requires-clause-unwon : goal.undo-requires-clause-unwon
undo-requires-clause-unwon g c =
    unwon_back g.R.Rule.KIND (g.V.Seen.position c.args.view.now) _ c.args.q c.play.ensures.lawful c.requires.on
    (c.still_double-found.ensures.same ∙ c.play.ensures.played)

pub returns-clause-judged : goal.returns-clause-judged
returns-clause-judged g c = subst (λ (b : Grid). IsJudged g.R.Rule.KIND b c.still_double-found.result) c.play.ensures.played
    c.still_double-found.ensures.judged

pub returns-clause-same : goal.returns-clause-same
returns-clause-same g c =
    c.undo.ensures.undone ∙ lift_back g.R.Rule.KIND (g.V.Seen.position c.args.view.now) _ c.args.q c.play.ensures.lawful c.requires.on
    (c.still_double-found.ensures.same ∙ c.play.ensures.played)

pub returns-clause-stops : goal.returns-clause-stops
returns-clause-stops g c = λ open_is safe.
    subst (λ (b : Grid). AreStopped g.R.Rule.KIND b c.args.q c.args.doubles.now) c.play.ensures.played
    (c.still_double-found.ensures.stops open_is)
