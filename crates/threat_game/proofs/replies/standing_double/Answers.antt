use Rattle.std.proofs.Common.{◌≡◌, false, sym, ap, ◌∙◌, arith, get_or}
use Rattle.game_rules.proofs.Common.{Grid, put, mover, other, empties_of, after}
use Rattle.game_rules.proofs.Boards.{is_empty-on}
use Rattle.game_rules.proofs.Fives.{five-empty}
use Rattle.game_rules.specs.declared.Point.{Point}
use Rattle.threat_game.specs.declared.doubles.Kept.{Kept}
use Rattle.threat_game.specs.declared.replies.Judged.TheVariants.{DoublePoint as DoubleWins}
use Rattle.threat_game.proofs.Common.{answer_nodes}
use Rattle.threat_game.proofs.KeptDoubles.{sure-wins}
use Rattle.threat_game.proofs.Kept.{met-double}
use Rattle.threat_game.proofs.replies.standing_double.Goals as goal

-- the double point that stands where none is
abbrev corner : Point
corner = record { x = 0; y = 0 }

abbrev none : Kept
none = record { double = record { at = corner; first = corner; second = corner }; sure = false }

pub returns : goal.returns
returns g c = record {
  stands =
      let b : Grid = g.V.Seen.position c.args.view.now in
      let kept : Kept = get_or c.args.doubles.now 0 none in
      let some = c.in-len1-up.len_at_least in
      let count : c.empties.result ≡ empties_of b = c.empties.ensures.empties ∙ ap empties_of c.board.ensures.board in
      let many = c.if-empties-lt3.false in
      let after_it : Grid = put b (other (mover b)) kept.double.at in
      let both = (c.requires.doubles 0 none (omega (arith, some))).both in
      record {
        at_on = is_empty-on b kept.double.at both.empty;
        first_on = is_empty-on after_it kept.double.first
            (five-empty g.R.Rule.KIND after_it (other (mover b)) kept.double.first both.first);
        second_on = is_empty-on after_it kept.double.second (five-empty g.R.Rule.KIND after_it (other (mover b)) kept.double.second
            both.second);
        met = λ q on beside quiet safe. record {
          judged = DoubleWins kept.double (answer_nodes g.R.Rule.KIND (after b q) kept.double);
          is = sure-wins g.R.Rule.KIND b q c.requires.lawful on kept (c.requires.doubles 0 none (omega (arith, some))) c.if-not-kept.false
              beside (omega (arith, count, many)) quiet safe;
          met = met-double c.args.first kept.double (answer_nodes g.R.Rule.KIND (after b q) kept.double) 2
              ∙ sym c.is_met.ensures.met ∙ c.if-not-is_met.false;
        };
      };
}
