-- A plain move is at an empty point, where the position is lawful.
use Rattle.std.proofs.Common.{◌≡◌, ◌<◌, Bool, true, ◌&&◌, not, refl, Option, Some, None, filter, rules}
use Rattle.brain_session.proofs.Common.{Grid, IsBoard, is_empty, points_of, empties_of, five, IsPosition, outcome, mover, other, is_foul}
use Rattle.brain_session.proofs.Common.{RuleKind, Point, or_else, five_to_make, five_to_block, next_to_middle, least_empty, plain_move}
use Rattle.game_rules.proofs.Boards.{and_left}
use Rattle.game_rules.proofs.Fives.{five-empty}
use Rattle.game_rules.proofs.Points.{points-found, filter-passes}
use Rattle.game_rules.proofs.Places.{find-in, find-passes, find-some}
use Rattle.game_rules.proofs.ReadingOrder.{some_empty}

-- ---- some point is empty

-- ---- the four rules

least-is_empty : (b : Grid) → IsBoard b → 0 < empties_of b → is_empty b (least_empty b) ≡ true
least-is_empty b ok some = search (rules, some_empty, find-some, points-found, and_left)

make-is_empty : (rule : RuleKind) (b : Grid) (p : Point) → five_to_make rule b ≡ Some p → is_empty b p ≡ true
make-is_empty rule b p h = five-empty rule b (mover b) p (find-passes (five rule b (mover b)) (points_of b) p h)

block-is_empty : (rule : RuleKind) (b : Grid) (p : Point) → five_to_block rule b ≡ Some p → is_empty b p ≡ true
block-is_empty rule b p h =
    five-empty rule b (other (mover b)) p (and_left (five rule b (other (mover b)) p) (not (is_foul (outcome rule b p)))
    (find-passes (λ q. five rule b (other (mover b)) q && not (is_foul (outcome rule b q))) (points_of b) p h))

next-is_empty : (rule : RuleKind) (b : Grid) (p : Point) → next_to_middle rule b ≡ Some p → is_empty b p ≡ true
next-is_empty rule b p h =
    let plain : Point → Bool = λ q. is_empty b q && not (is_foul (outcome rule b q)) in
    let both = find-in _ plain (filter plain (points_of b)) p (filter-passes plain (points_of b)) h in
    and_left (is_empty b p) (not (is_foul (outcome rule b p))) both.1

-- a plain move is at an empty point
pub plain-is_empty : (rule : RuleKind) (b : Grid) → IsPosition rule b → is_empty b (plain_move rule b) ≡ true
plain-is_empty rule b lawful = by_rule (five_to_make rule b) _ (make-is_empty rule b)
    (by_rule (five_to_block rule b) _ (block-is_empty rule b)
    (by_rule (next_to_middle rule b) _ (next-is_empty rule b) (least-is_empty b lawful.board lawful.open_points))) where
      by_rule : (o : Option Point) (other : Unit {0} → Point)
          → ((p : Point) → o ≡ Some p → is_empty b p ≡ true) → is_empty b (other tt) ≡ true → is_empty b (or_else o other) ≡ true
      by_rule None other here rest = rest
      by_rule (Some p) other here rest = here p refl
