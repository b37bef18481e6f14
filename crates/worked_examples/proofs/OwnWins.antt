-- The win by continuous fours that the brain finds with three in the row, open at both ends.
use Rattle.std.proofs.Common.{◌≡◌, ◌≢◌, ℕ, ◌+◌, ◌≤◌, Bool, true, false, cond, ◌&&◌, ◌||◌, not, List, ◌∷◌, ◌++◌, get_or, length, drop, refl}
use Rattle.std.proofs.Common.{sym, ap, subst, arith, inl, inr, nat_eq, if◌then◌else◌, Option, Some, None, nat_le}
use Rattle.std.specs.List.{list_all, find, sum_by}
use Rattle.std.proofs.lemmas.List.Sums.{sum_by-le}
use Rattle.std.proofs.lemmas.Bool.{or_cases, not-true}
use Rattle.std.proofs.lemmas.Bool.Decides.{nat_tests}
use Rattle.game_rules.proofs.Common.{Grid, is_on, is_empty, row_from, points_of, empties_of, five, is_same_point, is_at, outcome}
use Rattle.game_rules.proofs.Common.{outcome_by, foul_of, after, mover, has_five, wins_or, loses_or, starts_win, wins_under, wins_by_fours}
use Rattle.game_rules.proofs.Common.{four_move}
use Rattle.game_rules.specs.declared.RuleKind.TheVariants.{Freestyle}
use Rattle.game_rules.specs.declared.Side.{Side}
use Rattle.game_rules.specs.declared.Foul.{Foul}
use Rattle.game_rules.specs.declared.Outcome.{Outcome}
use Rattle.game_rules.specs.declared.Outcome.TheVariants.{Wins as WinsNow, GoesOn}
use Rattle.game_rules.specs.declared.Point.{Point}
use Rattle.game_rules.proofs.Boards.{and_left, and_right, is_empty-on}
use Rattle.game_rules.proofs.Points.{points-found, taken_refused, is_same_point-same}
use Rattle.game_rules.proofs.Positions.{GoesOn-on}
use Rattle.game_rules.proofs.PointLists.{all-append, any_none, all_implied, find_after}
use Rattle.game_rules.proofs.Outcomes.{wins_now, not_wins, is_going, going_is}
use Rattle.game_rules.proofs.Games.{no_start-demand, no_start-reply}
use Rattle.threat_moves.specs.declared.block.BlockAnswer.{BlockAnswer}
use Rattle.threat_moves.specs.declared.block.BlockAnswer.TheVariants.{Lost}
use Rattle.threat_moves.proofs.Common.{is_four_move, fate}
use Rattle.four_search.specs.FourGame.{tried, if_one, behind_move, four_tree, four_cost, least_moves}
use Rattle.four_search.proofs.Costs.{until-length}
use Rattle.brain_session.specs.States.{point_at}
use Rattle.brain_session.specs.ChosenMoves.{own_win}
use Rattle.worked_examples.specs.HeldSessions.{three_board}

-- ---- moves that start no win

-- a corner, or where that is p the point beside it
abbrev spare : Point → Point
spare p = if is_same_point (point_at 14 14) p then point_at 13 14 else point_at 14 14

-- whether the move p does not win, and the other side can play elsewhere after it
abbrev leaves_spare : Grid → Point → Bool
leaves_spare c p = not (five Freestyle c (mover c) p)
    && (not (is_empty c p) || (is_on c (spare p) && is_going (outcome Freestyle (after c p) (spare p))))

-- where each move leaves a spare point, nobody wins at once
spare_none : (c : Grid) (demand : Grid → Side → Bool) (next : Grid → Bool) → ((b : Grid) → next b ≡ false) → (p : Point)
    → leaves_spare c p ≡ true → starts_win demand Freestyle c next p ≡ false
spare_none c demand next never p h = by_empty (is_empty c p) refl (and_right (not (five Freestyle c (mover c) p)) _ h) where
  quiet : outcome Freestyle c p ≢ WinsNow
  quiet = not_wins Freestyle c p (not-true (five Freestyle c (mover c) p) (and_left (not (five Freestyle c (mover c) p)) _ h))

  by_empty : (r : Bool) → is_empty c p ≡ r → (not r || (is_on c (spare p) && is_going (outcome Freestyle (after c p) (spare p)))) ≡ true
      → starts_win demand Freestyle c next p ≡ false
  by_empty false e k = ap (λ (o : Outcome). wins_or o
      (demand (after c p) (mover c) && list_all (λ q. loses_or (outcome Freestyle (after c p) q) (next (after (after c p) q)))
      (points_of c))) (taken_refused Freestyle c p e)
  by_empty true e k = no_start-reply Freestyle demand c next p quiet (spare p) (and_left (is_on c (spare p)) _ k)
      (going_is (outcome Freestyle (after c p) (spare p)) (and_right (is_on c (spare p)) _ k)) (never (after (after c p) (spare p)))

no_win_at_once : (c : Grid) → list_all (leaves_spare c) (points_of c) ≡ true → wins_by_fours Freestyle 1 c ≡ false
unfolding wins_under
no_win_at_once c all = any_none (starts_win (has_five Freestyle) Freestyle c (λ b. false)) (leaves_spare c) (points_of c)
    (spare_none c (has_five Freestyle) (λ b. false) (λ b. refl)) all

-- a five point wins at once
win_at_once : (c : Grid) (w : Point) → is_empty c w ≡ true → five Freestyle c (mover c) w ≡ true → wins_by_fours Freestyle 1 c ≡ true
unfolding wins_under
win_at_once c w e f =
    points-found c (starts_win (has_five Freestyle) Freestyle c (λ b. false)) w (is_empty-on c w e) (ap (λ (o : Outcome). wins_or o
    (has_five Freestyle (after c w) (mover c) && list_all (λ q. loses_or (outcome Freestyle (after c w) q) false) (points_of c)))
    (wins_now Freestyle c w e f))

-- ---- the board with three: nobody wins at once, and 4,7 wins with the next move

-- the five point that is left after White's reply q
abbrev five_left : Point → Point
five_left q = if is_same_point (point_at 3 7) q then point_at 8 7 else point_at 3 7

-- whether the reply q at b is no move, or wins nothing and leaves Black its five
abbrev leaves_five : Grid → Point → Bool
leaves_five b q = not (is_empty b q) || (not (five Freestyle b (mover b) q)
    && (is_empty (after b q) (five_left q) && five Freestyle (after b q) (mover (after b q)) (five_left q)))

some_left : (e w l : Bool) (o : Option Foul) → w ≡ false → l ≡ false → (r : Bool) → (e ≡ true → r ≡ true)
    → loses_or (outcome_by e w o l) r ≡ true
some_left true false false None f g r h = h refl
some_left true false false (Some k) f g r h = refl
some_left false false false None f g r h = refl
some_left false false false (Some k) f g r h = refl
some_left e true l o f g r h = cc
some_left e false true o f g r h = cc

reply_loses : (b : Grid) (q : Point) → nat_eq (empties_of b) 1 ≡ false → leaves_five b q ≡ true
    → loses_or (outcome Freestyle b q) (wins_by_fours Freestyle 1 (after b q)) ≡ true
unfolding outcome
reply_loses b q some h = by_empty (is_empty b q) refl h where
  by_empty : (r : Bool) → is_empty b q ≡ r → (not r || (not (five Freestyle b (mover b) q)
      && (is_empty (after b q) (five_left q) && five Freestyle (after b q) (mover (after b q)) (five_left q)))) ≡ true
      → loses_or (outcome_by (is_empty b q) (five Freestyle b (mover b) q) (foul_of Freestyle b (mover b) q) (nat_eq (empties_of b) 1))
      (wins_by_fours Freestyle 1 (after b q)) ≡ true
  by_empty false e k = ap (λ (o : Outcome). loses_or o (wins_by_fours Freestyle 1 (after b q))) (taken_refused Freestyle b q e)
  by_empty true e k =
      let rest = and_right (not (five Freestyle b (mover b) q)) _ k in
      some_left (is_empty b q) (five Freestyle b (mover b) q) (nat_eq (empties_of b) 1) (foul_of Freestyle b (mover b) q)
      (not-true (five Freestyle b (mover b) q) (and_left (not (five Freestyle b (mover b) q)) _ k)) some _
      (λ empty. win_at_once (after b q) (five_left q) (and_left (is_empty (after b q) (five_left q)) _ rest)
      (and_right (is_empty (after b q) (five_left q)) _ rest))

three_tested : list_all (leaves_spare three_board) (points_of three_board) ≡ true
unfolding three_board outcome
three_tested = refl

first_none : wins_by_fours Freestyle 1 three_board ≡ false
first_none = no_win_at_once three_board three_tested

unfoldable pub attacked : Grid
attacked = after three_board (point_at 4 7)

attacked_tested : list_all (leaves_five attacked) (points_of attacked) ≡ true
unfolding attacked three_board
attacked_tested = refl

pub attacked_some : nat_eq (empties_of attacked) 1 ≡ false
unfolding attacked three_board
attacked_some = refl

pub attack_goes_on : outcome Freestyle three_board (point_at 4 7) ≡ GoesOn
unfolding three_board outcome
attack_goes_on = refl

attack_threatens : has_five Freestyle attacked (mover three_board) ≡ true
unfolding attacked three_board
attack_threatens = refl

attack_starts : starts_win (has_five Freestyle) Freestyle three_board (wins_by_fours Freestyle 1) (point_at 4 7) ≡ true
unfolding attacked
attack_starts =
    let all : list_all (λ q. loses_or (outcome Freestyle attacked q) (wins_by_fours Freestyle 1 (after attacked q)))
    (points_of attacked) ≡ true = all_implied (λ q. loses_or (outcome Freestyle attacked q) (wins_by_fours Freestyle 1 (after attacked q)))
    (leaves_five attacked) (points_of attacked) (λ q. reply_loses attacked q attacked_some) attacked_tested in
    rw (attack_goes_on, attack_threatens, all) refl

second_wins : wins_by_fours Freestyle 2 three_board ≡ true
unfolding wins_under
second_wins = points-found three_board (starts_win (has_five Freestyle) Freestyle three_board (wins_by_fours Freestyle 1)) (point_at 4 7)
    (GoesOn-on Freestyle three_board (point_at 4 7) attack_goes_on) attack_starts

-- ---- the search of it looks at few positions

one_behind : (b : Grid) (p : Point) → behind_move Freestyle b (four_tree Freestyle 1) p ≤ 1
unfolding four_tree
one_behind b p = by_test (is_four_move Freestyle b p) where
  by_fate : (a : BlockAnswer) → if_one (λ c. 1) (after b p) a ≤ 1
  by_fate Lost = omega arith
  by_fate _ = omega arith

  by_test : (r : Bool) → cond r (if_one (λ c. 1) (after b p) (fate Freestyle (after b p))) 0 ≤ 1
  by_test true = by_fate (fate Freestyle (after b p))
  by_test false = omega arith

points_are : length (points_of three_board) ≡ 225
unfolding three_board
points_are = refl

tree_small : four_tree Freestyle 2 three_board ≤ 226
unfolding four_tree
tree_small = by_test (has_five Freestyle three_board (mover three_board)) where
  few : sum_by (behind_move Freestyle three_board (four_tree Freestyle 1)) (tried Freestyle 2 three_board) ≤ 225
  few =
      let each = sum_by-le (behind_move Freestyle three_board (four_tree Freestyle 1)) 1 (tried Freestyle 2 three_board)
      (λ k d lt. one_behind three_board (get_or (tried Freestyle 2 three_board) k d)) in
      let short = until-length (λ p. is_at p (four_move Freestyle 2 three_board)) (points_of three_board) in
      omega (arith, each, short, points_are)

  by_test : (r : Bool) → cond r 1 (1 + sum_by (behind_move Freestyle three_board (four_tree Freestyle 1)) (tried Freestyle 2 three_board))
      ≤ 226
  by_test true = omega arith
  by_test false = let h = few in omega (arith, h)

cost_is : four_cost Freestyle 6 three_board ≡ 0 + four_tree Freestyle 1 three_board + four_tree Freestyle 2 three_board
cost_is = rw (first_none, second_wins) refl

tree_one : four_tree Freestyle 1 three_board ≤ 1
unfolding four_tree
tree_one = omega arith

cost_small : nat_le (four_cost Freestyle 6 three_board) 2000 ≡ true
cost_small = rw cost_is (by_numbers (four_tree Freestyle 1 three_board) (four_tree Freestyle 2 three_board) tree_one tree_small) where
  by_numbers : (m n : ℕ) → m ≤ 1 → n ≤ 226 → nat_le (0 + m + n) 2000 ≡ true
  by_numbers m n a b = grind (arith, nat_tests)

least_is : least_moves Freestyle 6 three_board ≡ Some 2
least_is = rw (first_none, second_wins) refl

pub own_win_is : own_win Freestyle three_board ≡ Some 2
own_win_is = rw (cost_small, least_is) refl

-- ---- its first move: no point before 4,7 starts a win

blocked : Grid
blocked = after (after three_board (point_at 3 7)) (point_at 4 7)

blocked_tested : list_all (leaves_spare blocked) (points_of blocked) ≡ true
unfolding blocked three_board outcome
blocked_tested = refl

block_goes_on : outcome Freestyle (after three_board (point_at 3 7)) (point_at 4 7) ≡ GoesOn
unfolding three_board outcome
block_goes_on = refl

-- whether p is 3,7, or does not win and leaves no five point
starts_none : Point → Bool
starts_none p = is_same_point (point_at 3 7) p
    || (not (five Freestyle three_board (mover three_board) p) && not (has_five Freestyle (after three_board p) (mover three_board)))

abbrev from_six : List Point
from_six = row_from 6 0 15 ++ row_from 7 0 4

abbrev from_five : List Point
from_five = row_from 5 0 15 ++ from_six

abbrev from_four : List Point
from_four = row_from 4 0 15 ++ from_five

abbrev from_three : List Point
from_three = row_from 3 0 15 ++ from_four

abbrev from_two : List Point
from_two = row_from 2 0 15 ++ from_three

abbrev from_one : List Point
from_one = row_from 1 0 15 ++ from_two

-- the points before 4,7
front : List Point
front = row_from 0 0 15 ++ from_one

back : List Point
back = drop 110 (points_of three_board)

row_zero : list_all starts_none (row_from 0 0 15) ≡ true
unfolding starts_none three_board
row_zero = refl

row_one : list_all starts_none (row_from 1 0 15) ≡ true
unfolding starts_none three_board
row_one = refl

row_two : list_all starts_none (row_from 2 0 15) ≡ true
unfolding starts_none three_board
row_two = refl

row_three : list_all starts_none (row_from 3 0 15) ≡ true
unfolding starts_none three_board
row_three = refl

row_four : list_all starts_none (row_from 4 0 15) ≡ true
unfolding starts_none three_board
row_four = refl

row_five : list_all starts_none (row_from 5 0 15) ≡ true
unfolding starts_none three_board
row_five = refl

row_six : list_all starts_none (row_from 6 0 15) ≡ true
unfolding starts_none three_board
row_six = refl

row_seven : list_all starts_none (row_from 7 0 4) ≡ true
unfolding starts_none three_board
row_seven = refl

points_split : points_of three_board ≡ front ++ point_at 4 7 ∷ back
unfolding front back three_board
points_split = refl

front_tested : list_all starts_none front ≡ true
unfolding front
front_tested = all-append starts_none (row_from 0 0 15) from_one row_zero
    (all-append starts_none (row_from 1 0 15) from_two row_one (all-append starts_none (row_from 2 0 15) from_three row_two
    (all-append starts_none (row_from 3 0 15) from_four row_three
    (all-append starts_none (row_from 4 0 15) from_five row_four (all-append starts_none (row_from 5 0 15) from_six row_five
    (all-append starts_none (row_from 6 0 15) (row_from 7 0 4) row_six row_seven))))))

no_five_yet : has_five Freestyle three_board (mover three_board) ≡ false
unfolding three_board
no_five_yet = refl

no_five_there : five Freestyle three_board (mover three_board) (point_at 3 7) ≡ false
unfolding three_board
no_five_there = refl

-- 3,7 is blocked at 4,7, after which Black doesn't win at once
block_starts_none : starts_win (has_five Freestyle) Freestyle three_board (wins_by_fours Freestyle 1) (point_at 3 7) ≡ false
unfolding blocked
block_starts_none = no_start-reply Freestyle (has_five Freestyle) three_board
    (wins_by_fours Freestyle 1) (point_at 3 7) (not_wins Freestyle three_board (point_at 3 7) no_five_there)
    (point_at 4 7) (GoesOn-on Freestyle three_board (point_at 4 7) attack_goes_on) block_goes_on (no_win_at_once blocked blocked_tested)

none_before : (p : Point) → starts_none p ≡ true → starts_win (has_five Freestyle) Freestyle three_board (wins_by_fours Freestyle 1) p
    ≡ false
unfolding starts_none
none_before p h = elim (or_cases (is_same_point (point_at 3 7) p) _ h) [
  | inl same ↦ subst (λ (q : Point). starts_win (has_five Freestyle) Freestyle three_board (wins_by_fours Freestyle 1) q ≡ false)
      (is_same_point-same (point_at 3 7) p same) block_starts_none
  | inr k ↦ no_start-demand Freestyle (has_five Freestyle) three_board (wins_by_fours Freestyle 1) p (not_wins Freestyle three_board p
      (not-true (five Freestyle three_board (mover three_board) p) (and_left (not (five Freestyle three_board (mover three_board) p)) _ k)))
      (not-true (has_five Freestyle (after three_board p) (mover three_board))
      (and_right (not (five Freestyle three_board (mover three_board) p)) _ k))
]

pub first_move : four_move Freestyle 2 three_board ≡ Some (point_at 4 7)
unfolding four_move
first_move = rw no_five_yet
    (subst (λ (ps : List Point). find (starts_win (has_five Freestyle) Freestyle three_board (wins_by_fours Freestyle 1)) ps ≡ Some
    (point_at 4 7)) (sym points_split)
    (find_after (starts_win (has_five Freestyle) Freestyle three_board (wins_by_fours Freestyle 1)) front (point_at 4 7) back
    (any_none (starts_win (has_five Freestyle) Freestyle three_board (wins_by_fours Freestyle 1)) starts_none front none_before
    front_tested) attack_starts))

-- ---- the move after it

unfoldable pub replied_board : Grid
replied_board = after (after three_board (point_at 4 7)) (point_at 0 14)

-- where there are five points the first one is played
pub move-five : (b : Grid) (p : Point) → has_five Freestyle b (mover b) ≡ true
    → find (five Freestyle b (mover b)) (points_of b) ≡ Some p → four_move Freestyle 1 b ≡ Some p
unfolding four_move
move-five b p some first = rw some first

pub second_move : four_move Freestyle 1 replied_board ≡ Some (point_at 3 7)
unfolding replied_board three_board
second_move = move-five replied_board (point_at 3 7) refl refl
