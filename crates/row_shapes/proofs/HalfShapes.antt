-- The shape of a stone of Black, as the two halves of its line tell it, by whether any run of five or more wins.
use Rattle.std.proofs.Common.{◌≡◌, ◌+◌, ◌<◌, max, Bool, true, false, cond, List, ◌∙◌, arith, nat_eq, nat_le, bit_or}
use Rattle.game_rules.proofs.Common.{Grid, row_wins, run_of, fours_of, is_straight}
use Rattle.game_rules.specs.declared.Cell.{Cell}
use Rattle.game_rules.specs.declared.Point.{Point}
use Rattle.game_rules.specs.declared.RuleKind.TheVariants.{Freestyle, Exact}
use Rattle.game_rules.specs.declared.Side.TheVariants.{Black}
use Rattle.game_rules.specs.declared.Axis.TheVariants.{Row}
use Rattle.game_rules.specs.declared.Way.TheVariants.{Ahead, Behind}
use Rattle.row_shapes.proofs.Common.{row_past, row_beyond, is_open, three_off, nine_places, fours_off, rule_by, SeesLine, three_bits}
use Rattle.row_shapes.proofs.Common.{bit_of}
use Rattle.row_shapes.proofs.Alike.{wins-line}
use Rattle.row_shapes.proofs.HalfLines.{run_wins, run_long, straight_here, three_here, few_fours}
use Rattle.row_shapes.proofs.HalfFours.{fours_here}

module _ (front rear : List Cell) (b : Grid) (p : Point) (sees : SeesLine front rear b p) where
  pub five_told : (any : Bool) → row_wins (rule_by any) Black (run_of b Black Row p) ≡ cond any
      (nat_le 5 (1 + row_past front 0 + row_past rear 0)) (nat_eq (1 + row_past front 0 + row_past rear 0) 5)
  five_told true = run_wins 4 Freestyle front rear b p (omega arith) (omega arith) (wins-line 4) sees
  five_told false = run_wins 5 Exact front rear b p (omega arith) (omega arith) (wins-line 5) sees

  pub over_told : nat_le 6 (run_of b Black Row p) ≡ nat_le 6 (1 + row_past front 0 + row_past rear 0)
  over_told = run_long 5 Exact front rear b p (omega arith) (omega arith) (wins-line 5) sees

  pub straight_told : (any : Bool) → is_straight (rule_by any) b Black Row p ≡ is_open any front rear (row_past front 0) (row_past rear 0)
  straight_told true = straight_here 4 Freestyle front rear b p (omega arith) (omega arith) (wins-line 4) sees
  straight_told false = straight_here 5 Exact front rear b p (omega arith) (omega arith) (wins-line 5) sees

  pub three_told : (any : Bool) → three_bits (rule_by any) b Black Row p ≡ bit_or (bit_of (three_off any Ahead front rear))
      (bit_of (three_off any Behind rear front))
  three_told true = three_here 4 Freestyle front rear b p (omega arith) (omega arith) (wins-line 4) sees
  three_told false = three_here 5 Exact front rear b p (omega arith) (omega arith) (wins-line 5) sees

  pub no_fours : (any : Bool) → row_past front 0 + row_past rear 0 + max (row_beyond front) (row_beyond rear) < 3
      → fours_of (rule_by any) b Black Row p ≡ 0
  no_fours true few = few_fours 4 Freestyle front rear b p (omega arith) (omega arith) (wins-line 4) sees few
  no_fours false few = few_fours 5 Exact front rear b p (omega arith) (omega arith) (wins-line 5) sees few

  pub all_fours : (any : Bool) → fours_of (rule_by any) b Black Row p ≡ fours_off any front rear (nine_places front rear) 0 + fours_off any
      front rear (nine_places front rear) 1 + fours_off any front rear (nine_places front rear) 2 + fours_off any front rear
      (nine_places front rear) 3 + fours_off any front rear (nine_places front rear) 4
  all_fours true = let sum = fours_here 4 Freestyle front rear b p (omega arith) (omega arith) (wins-line 4) sees in sum ∙ omega arith
  all_fours false = let sum = fours_here 5 Exact front rear b p (omega arith) (omega arith) (wins-line 5) sees in sum ∙ omega arith
