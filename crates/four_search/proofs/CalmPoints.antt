-- Where Black has two calm points, no move of White leaves it fouls alone.
use Rattle.std.proofs.Common.{◌≡◌, ℕ, ◌<◌, ◌≤◌, Bool, true, false, cond, refl, sym, ap, ◌∙◌, arith, nat_le, None}
use Rattle.std.proofs.lemmas.Bool.Decides.{nat_tests}
use Rattle.game_rules.specs.declared.RuleKind.{RuleKind}
use Rattle.game_rules.specs.declared.Axis.{Axis}
use Rattle.game_rules.specs.declared.Axis.TheVariants.{Row, Column, Down, Up}
use Rattle.game_rules.specs.declared.Side.TheVariants.{Black, White}
use Rattle.game_rules.specs.declared.Point.{Point}
use Rattle.game_rules.proofs.Common.{Grid, IsBoard, is_on, is_empty, put, mover, outcome, foul_of, black_foul, has_fouls}
use Rattle.game_rules.proofs.Common.{is_same_point, loses_or}
use Rattle.game_rules.proofs.Boards.{is_empty-on, is_empty-put, holds-put_same}
use Rattle.game_rules.proofs.Outcomes.{unfouled-stays}
use Rattle.game_rules.proofs.PointLists.{Apart-back}
use Rattle.game_rules.proofs.Points.{all_at, is_same_point-apart, is_same_point-same}
use Rattle.game_rules.proofs.Positions.{IsBoard-put}
use Rattle.row_shapes.specs.Reach.{stones_in_reach}
use Rattle.row_shapes.proofs.Reaches.{reach-put}
use Rattle.foul_judge.specs.ShortCut.{reaches_of, may_foul, may_have_two_threes, has_line_three}
use Rattle.foul_judge.proofs.MayFoul.{few_three_points, no_foul}
use Rattle.threat_moves.proofs.Common.{IsSure, all_foul}
use Rattle.threat_moves.proofs.FarStones.{stays-free}
use Rattle.four_search.specs.CalmPoints.{IsCalm, HasCalmPoints}

module _ (rule : RuleKind) (b : Grid) (ok : IsBoard b) (q : Point) (calm : IsCalm b q) where
  on : is_on b q ≡ true
  on = is_empty-on b q calm.empty

  no_three : (d : Axis) → has_line_three rule (put b Black q) d q ≡ false
  no_three d = few_three_points rule (put b Black q) q (holds-put_same b Black q ok on) (IsBoard-put b Black q ok) d
      (stones_in_reach b Black d q) (sym (reach-put b Black q on d)) (calm.few d)

  sure : IsSure rule b Black q
  sure fouls = rw (no_three Row, no_three Column, no_three Down, no_three Up) (omega arith)

  fewer : (d : Axis) (n : ℕ) → 2 ≤ n → nat_le n (stones_in_reach b Black d q) ≡ false
  fewer d n two = let few = calm.few d in grind (arith, nat_tests)

  no : may_foul (reaches_of b q) ≡ false
  unfolding may_foul reaches_of may_have_two_threes
  no =
      let three = λ (d : Axis). fewer d 3 (omega arith) in
      let two = λ (d : Axis). fewer d 2 (omega arith) in
      rw (three Row, three Column, three Down, three Up, two Row, two Column, two Down, two Up) refl

  free : foul_of rule b Black q ≡ None
  free = by_fouls (has_fouls rule Black) where
    by_fouls : (r : Bool) → cond r (black_foul rule b q) None ≡ None
    by_fouls true = no_foul rule b q ok calm.empty no
    by_fouls false = refl

  module _ (z : Point) (free_z : is_empty b z ≡ true) (apart : is_same_point q z ≡ false) where
    abbrev c : Grid
    c = put b White z

    still_empty : is_empty c q ≡ true
    still_empty = is_empty-put b White z q (is_empty-on b z free_z) (Apart-back q z (is_same_point-apart q z apart)) ∙ calm.empty

    -- after a move of White elsewhere it is a reply that does not lose at once
    reply : mover c ≡ Black → all_foul rule c ≡ false
    reply turn = by_test (all_foul rule c) refl where
      stays : loses_or (outcome rule c q) false ≡ false
      stays = unfouled-stays rule c q still_empty (ap (λ s. foul_of rule c s q) turn
          ∙ stays-free rule b Black q ok calm.empty sure free z free_z apart)

      by_test : (r : Bool) → all_foul rule c ≡ r → r ≡ false
      by_test false e = refl
      by_test true e =
          let yes = all_at c (λ p. loses_or (outcome rule c p) false) q e (is_empty-on c q still_empty) in
          let bad : false ≡ true = sym stays ∙ yes in cc

-- one of the two is elsewhere
pub calm-reply : (rule : RuleKind) (b : Grid) → IsBoard b → HasCalmPoints b → (z : Point) → is_empty b z ≡ true
    → mover (put b White z) ≡ Black → all_foul rule (put b White z) ≡ false
calm-reply rule b ok calm z free_z turn = by_test (is_same_point calm.one z) refl where
  by_test : (r : Bool) → is_same_point calm.one z ≡ r → all_foul rule (put b White z) ≡ false
  by_test false e = reply rule b ok calm.one calm.one_calm z free_z e turn
  by_test true e =
      let same : calm.one ≡ z = is_same_point-same calm.one z e in
      reply rule b ok calm.more calm.more_calm z free_z (ap (is_same_point calm.more) (sym same) ∙ calm.apart) turn
