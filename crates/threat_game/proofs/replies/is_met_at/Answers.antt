use Rattle.std.proofs.Common.{◌≡◌, true, false, ap, sym, subst, ◌∙◌, Option, IfSome}
use Rattle.std.proofs.lemmas.Bool.{not-true}
use Rattle.game_rules.proofs.Common.{Grid, is_empty}
use Rattle.game_rules.proofs.Positions.{GoesOn-empty}
use Rattle.threat_game.specs.declared.doubles.DoublePoint.{DoublePoint}
use Rattle.threat_game.specs.declared.replies.Judged.TheVariants.{Five}
use Rattle.threat_game.proofs.Common.{StandsBy}
use Rattle.threat_game.proofs.ReplyLaws.{first-beside, none-beside}
use Rattle.threat_game.proofs.replies.is_met_at.Goals as goal

pub returns-then-not-is_empty : goal.returns-then-not-is_empty
returns-then-not-is_empty g c = record {
  met = λ is on.
      let b : Grid = g.V.Seen.position c.args.view.now in
      let bad : true ≡ false = sym (GoesOn-empty g.R.Rule.KIND b c.args.q on)
      ∙ ap (λ (w : Grid). is_empty w c.args.q) (sym c.board.ensures.board)
      ∙ sym c.is_empty.ensures.empty ∙ c.if-not-is_empty.true in cc;
}

pub returns-in-Some : goal.returns-in-Some
returns-in-Some g c = record {
  met = λ is on. record {
    judged = Five c.in-Some.five;
    is = first-beside g.R.Rule.KIND (g.V.Seen.position c.args.view.now) c.args.q c.requires.lawful on c.args.known.fives.now
        c.in-Some.five c.requires.fives c.in-Some.ensures.beside;
    met = sym c.is_met.ensures.met ∙ is;
  };
}

pub returns-then-is_beside : goal.returns-then-is_beside
returns-then-is_beside g c = record {
  met = λ is on.
      let b : Grid = g.V.Seen.position c.args.view.now in
      let stands : StandsBy g.R.Rule.KIND b c.args.first c.in-Some-standing.double =
      subst (λ (o : Option DoublePoint). IfSome o (StandsBy g.R.Rule.KIND b c.args.first)) c.in-Some-standing.is c.requires.stands in
      stands.met c.args.q on (sym c.is_beside.ensures.beside ∙ c.if-is_beside.true)
      (none-beside g.R.Rule.KIND b c.args.q c.requires.lawful on c.args.known.fives.now c.requires.fives c.in-None.ensures.beside)
      (sym c.makes_five.ensures.five ∙ not-true c.makes_five.result is);
}
