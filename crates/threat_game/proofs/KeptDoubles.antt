-- Double points that are kept to settle replies by: each stays what it is after a stone of the other side beside it. The replies to a
-- double point that wins.
use Rattle.std.proofs.Common.{◌≡◌, ◌≤◌, true, false, ◌&&◌, not, refl, sym, ap, ◌∙◌, arith, List, All}
use Rattle.std.proofs.Common.{None, rules}
use Rattle.std.proofs.lemmas.Bool.{not-true}
use Rattle.game_rules.specs.declared.RuleKind.{RuleKind}
use Rattle.game_rules.specs.declared.Side.{Side}
use Rattle.game_rules.specs.declared.Outcome.TheVariants.{GoesOn}
use Rattle.game_rules.specs.declared.Point.{Point}
use Rattle.game_rules.proofs.Common.{Grid, IsPosition, is_empty, put, outcome, mover, other, after, foul_of, empties_of}
use Rattle.game_rules.proofs.Common.{has_five, has_fouls, is_same_point, is_double_point, goes_on}
use Rattle.game_rules.proofs.Boards.{and_left, and_right, empties_of-put, is_empty-on, other-other}
use Rattle.game_rules.proofs.Fives.{five-empty}
use Rattle.game_rules.proofs.PointLists.{other_first}
use Rattle.game_rules.proofs.Points.{points-found}
use Rattle.game_rules.proofs.Positions.{GoesOn-empty, mover-other, mover-then}
use Rattle.game_rules.proofs.Wins.{no_five}
use Rattle.threat_moves.proofs.Common.{StaysFree}
use Rattle.threat_game.specs.declared.doubles.DoublePoint.{DoublePoint}
use Rattle.threat_game.specs.declared.doubles.Kept.{Kept}
use Rattle.threat_game.proofs.Common.{IsDoubleWin, IsJudgedDouble, IsKept, IsStillKept, answer_nodes, has_reply_at, has_reply_beside}
use Rattle.threat_game.proofs.Common.{IsBeside}
use Rattle.threat_game.proofs.FreeMoves.{not_one, each-goes_on, double-safe, reply-at}
use Rattle.threat_game.proofs.ReplyLaws.{both-kept}

-- a double point is no foul
double-none : (rule : RuleKind) (b : Grid) (s : Side) (p : Point) → is_double_point rule b s p ≡ true → foul_of rule b s p ≡ None
unfolding is_double_point
double-none rule b s p double = search (rules, and_right, and_left)

-- and where the point stays free it stays none
pub double-free : (rule : RuleKind) (b : Grid) (s : Side) (p : Point) → is_double_point rule b s p ≡ true → StaysFree rule b s p
    → (z : Point) → is_empty b z ≡ true → is_same_point p z ≡ false → foul_of rule (put b (other s) z) s p ≡ None
double-free rule b s p double stays = stays (double-none rule b s p double)

module _ (rule : RuleKind) (c : Grid) (q : Point) (lawful : IsPosition rule c) (on : outcome rule c q ≡ GoesOn) where
  -- one that is kept stays so after a reply beside it
  kept-still : (kept : Kept) → IsKept rule c (other (mover c)) kept → IsBeside kept.double q → IsStillKept rule (after c q) kept
  kept-still kept is beside = record {
    both = both-kept rule c q lawful on kept.double is.both beside;
    free = λ sure.
        ap (λ (s : Side). foul_of rule (after c q) s kept.double.at) (mover-then rule c q lawful on)
        ∙ ap (λ (s : Side). foul_of rule (put c s q) (other (mover c)) kept.double.at) (sym (other-other (mover c)))
        ∙ is.free sure q (GoesOn-empty rule c q on) (not-true (is_same_point kept.double.at q)
        (and_left (not (is_same_point kept.double.at q)) _
        (and_left (not (is_same_point kept.double.at q) && not (is_same_point kept.double.first q)) _ beside)));
  }

  pub all-still : (all : List Kept) → All (IsKept rule c (other (mover c))) all
      → All (λ kept. IsBeside kept.double q → IsStillKept rule (after c q) kept) all
  all-still all are i kept within beside = kept-still _ (are i kept within) beside

-- a double point that is no foul goes on where its side has no five point and another point is empty
pub still-goes_on : (rule : RuleKind) (b : Grid) (p : Point) → is_empty b p ≡ true → has_five rule b (mover b) ≡ false
    → foul_of rule b (mover b) p ≡ None → 2 ≤ empties_of b → outcome rule b p ≡ GoesOn
unfolding outcome
still-goes_on rule b p empty none free many = search (rules, no_five, not_one)

-- one that is sure wins after a reply beside it that leaves no five point
pub sure-wins : (rule : RuleKind) (c : Grid) (q : Point) → IsPosition rule c → outcome rule c q ≡ GoesOn → (kept : Kept)
    → IsKept rule c (other (mover c)) kept → kept.sure ≡ true → IsBeside kept.double q → 3 ≤ empties_of c
    → has_five rule (after c q) (mover (after c q)) ≡ false → has_five rule (after c q) (mover c) ≡ false
    → IsJudgedDouble rule (after c q) kept.double (answer_nodes rule (after c q) kept.double)
sure-wins rule c q lawful on kept is sure beside many none safe =
    let still = kept-still rule c q lawful on kept is beside in
    let fewer = empties_of-put c (mover c) q lawful.board (GoesOn-empty rule c q on) in
    record {
      no_five = none;
      wins = record {
        on = still-goes_on rule (after c q) kept.double.at still.both.empty none (still.free sure) (omega (arith, fewer, many));
        both = still.both;
        safe = ap (has_five rule (after c q)) (mover-other rule c q lawful on) ∙ safe;
      };
      nodes_are = refl;
    }

-- where the other side has no fouls and enough points are empty, both replies to a double point that wins are there
pub both-replies : (rule : RuleKind) (b : Grid) (d : DoublePoint) → IsPosition rule b → IsDoubleWin rule b d
    → has_fouls rule (other (mover b)) ≡ false → 3 ≤ empties_of b → 2 ≡ answer_nodes rule b d
both-replies rule b d lawful wins calm many =
    let c : Grid = after b d.at in
    let free : has_fouls rule (mover c) ≡ false = ap (has_fouls rule) (mover-then rule b d.at lawful wins.on) ∙ calm in
    let fewer = empties_of-put b (mover b) d.at lawful.board (GoesOn-empty rule b d.at wins.on) in
    let each = each-goes_on rule c (double-safe rule b d lawful wins) free (omega (arith, fewer, many)) in
    let first : outcome rule c d.first ≡ GoesOn = each.on d.first (five-empty rule c (mover b) d.first wins.both.first) in
    let second : outcome rule c d.second ≡ GoesOn = each.on d.second (five-empty rule c (mover b) d.second wins.both.second) in
    let at : has_reply_at rule c d.first ≡ true = sym (reply-at rule c d.first) ∙ ap goes_on first in
    let beside : has_reply_beside rule c d.first ≡ true =
    points-found c (λ q. goes_on (outcome rule c q) && not (is_same_point q d.first)) d.second
    (is_empty-on c d.second (five-empty rule c (mover b) d.second wins.both.second))
    (rw (second, other_first d.first d.second wins.both.apart) refl) in
    rw (at, beside) refl
