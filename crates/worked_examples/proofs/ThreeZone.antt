-- The win with three in a row has its zone.
use Rattle.std.proofs.Common.{◌≡◌, inl, inr, ℕ, ◌+◌, ◌-◌, ◌≤◌, Bool, true, false, not, ◌||◌, nat_le, refl, subst, arith, Option, Some, []}
use Rattle.std.proofs.Common.{◌∷◌, ◌++◌, sym, codes}
use Rattle.std.specs.Fmt.{digits}
use Rattle.std.specs.List.{list_all}
use Rattle.game_rules.proofs.Common.{Grid, is_empty, is_on, is_same_point, points_of, put, along, mover}
use Rattle.game_rules.specs.declared.Axis.{Axis}
use Rattle.game_rules.specs.declared.Axis.TheVariants.{Row, Column, Down, Up}
use Rattle.game_rules.specs.declared.Point.{Point}
use Rattle.game_rules.specs.declared.RuleKind.TheVariants.{Freestyle}
use Rattle.game_rules.specs.declared.Side.{Side}
use Rattle.game_rules.specs.declared.Side.TheVariants.{Black, White}
use Rattle.game_rules.proofs.Boards.{and_left}
use Rattle.game_rules.proofs.Lines.{along-zero}
use Rattle.game_rules.proofs.Points.{all_at, is_same_point-same}
use Rattle.game_rules.proofs.Rows.{all_in_range}
use Rattle.strategy_graph.proofs.Common.{Answers, answers_of}
use Rattle.strategy_graph.specs.declared.roots.Root.TheVariants.{Attack}
use Rattle.relevance_zone.specs.Windows.{stones_in, is_clear_at, is_clear_of}
use Rattle.relevance_zone.specs.Zones.{Zone, Covers, IsWithstood, Withstands, HasZoneWithin, HasZone, AcceptedRootByZone}
use Rattle.position_files.proofs.Common.{board_lines, stones, table_text, nodes_lines}
use Rattle.brain_session.specs.States.{point_at}
use Rattle.worked_examples.specs.HeldSessions.{three_board, four_board, two_roots, answers_by}
use Rattle.worked_examples.specs.Zones.{three_zone}

-- ---- White has three stones at most in each window that Black leaves free

abbrev is_short : Axis → Point → Bool
is_short d p = not (is_clear_of four_board Black d p) || nat_le (stones_in four_board White d p) 3

abbrev all_short : Axis → Type 0
all_short d = list_all (is_short d) (points_of four_board) ≡ true

rows : all_short Row
unfolding four_board three_board is_clear_of stones_in
rows = refl

columns : all_short Column
unfolding four_board three_board is_clear_of stones_in
columns = refl

downs : all_short Down
unfolding four_board three_board is_clear_of stones_in
downs = refl

ups : all_short Up
unfolding four_board three_board is_clear_of stones_in
ups = refl

each_axis : (d : Axis) → all_short d
each_axis Row = rows
each_axis Column = columns
each_axis Down = downs
each_axis Up = ups

clear_on : (b : Grid) (d : Axis) (p : Point) → is_clear_of b Black d p ≡ true → is_on b p ≡ true
unfolding is_clear_of
clear_on b d p clear =
    let first : is_clear_at b Black (along d p 0 0) ≡ true =
    all_in_range (λ k. is_clear_at b Black (along d p k 0)) 5 0 0 clear (omega arith) (omega arith) in
    let here : is_clear_at b Black (Some p) ≡ true = subst (λ (o : Option Point). is_clear_at b Black o ≡ true) (along-zero d p) first in
    and_left (is_on b p) _ here

few : (stones : ℕ) → nat_le stones 3 ≡ true → stones + (3 - stones) ≤ 3
few stones h = grind arith

by_test : (clear : Bool) (stones : ℕ) → clear ≡ true → not clear || nat_le stones 3 ≡ true → stones + (3 - stones) ≤ 3
by_test true stones e h = few stones h
by_test false stones e h = cc

short : (d : Axis) (p : Point) → is_clear_of four_board Black d p ≡ true → stones_in four_board White d p + three_zone.spare d p ≤ 3
short d p clear = by_test (is_clear_of four_board Black d p)
    (stones_in four_board White d p) clear (all_at four_board (is_short d) p (each_axis d) (clear_on four_board d p clear))

-- ---- the replies to the four

-- a five at this point is made whatever stones come elsewhere, no more than four in a window
abbrev five_zone : Point → Zone
five_zone made = record { points = λ p. is_same_point made p; spare = λ d p. 4 }

abbrev Has : ℕ → Grid → Zone → Type 0
Has = HasZoneWithin 2 Freestyle two_roots.table Black

passed : Has 0 four_board (five_zone (point_at 3 7))
unfolding HasZoneWithin four_board three_board
passed = (refl, refl, inl refl)

blocked : Has 1 (put four_board White (point_at 3 7)) (five_zone (point_at 8 7))
unfolding HasZoneWithin four_board three_board
blocked = (refl, refl, inl refl)

covers_rest : Covers 1 three_zone (five_zone (point_at 3 7))
covers_rest = record { points = λ p at. grind (arith, at); windows = λ d p. omega arith }

covers_block : Covers 0 three_zone (five_zone (point_at 8 7))
covers_block = record { points = λ p at. grind (arith, at); windows = λ d p. omega arith }

abbrev block : Answers
block = answers_of (answers_by (point_at 4 7) (record { at = point_at 3 7; next = 1 } ∷ []) 0)

reply : (q : Point) → IsWithstood Black block Has four_board three_zone (five_zone (point_at 3 7)) q
reply q = by_block (is_same_point (point_at 3 7) q) refl where
  by_block : (r : Bool) → is_same_point (point_at 3 7) q ≡ r
      → IsWithstood Black block Has four_board three_zone (five_zone (point_at 3 7)) q
  by_block true same = subst (IsWithstood Black block Has four_board three_zone (five_zone (point_at 3 7)))
      (is_same_point-same (point_at 3 7) q same) (inr (1, five_zone (point_at 8 7), refl, blocked, covers_block))
  by_block false apart = inl (rw apart refl, record { point = apart; windows = λ d p in_window. omega arith })

-- ---- the win

pub three-text : table_text Freestyle three_board two_roots.table (Attack 2) 2
    ≡ codes "renju-table 1\nrule freestyle\nsize 15\nblack 5,7 6,7 7,7\nwhite 0,0 2,0 4,0\n"
    ++ codes "moves 2\nnodes 3\n3,7 wins\n8,7 wins\n4,7 rest 0 3,7>1\n"
unfolding table_text board_lines nodes_lines stones three_board digits
three-text = refl

four_is : put three_board Black (point_at 4 7) ≡ four_board
unfolding four_board three_board
four_is = refl

attack_is_empty : is_empty three_board (point_at 4 7) ≡ true
unfolding three_board
attack_is_empty = refl

pub three-has_zone : HasZone Freestyle two_roots.table Black 2 three_board three_zone
unfolding HasZoneWithin
three-has_zone = (
  refl,
  attack_is_empty,
  inr (subst (λ (b : Grid). Withstands Black block Has b three_zone) (sym four_is) (record {
    short = short;
    rest = 0;
    named = refl;
    zone = five_zone (point_at 3 7);
    passed = passed;
    covered = covers_rest;
    replies = λ q empty. reply q;
  })),
)

black_moves : mover three_board ≡ Black
unfolding three_board
black_moves = refl

pub three-accepted : AcceptedRootByZone Freestyle two_roots.table (Attack 2) three_board
three-accepted = (
  refl,
  (three_zone, subst (λ (s : Side). HasZone Freestyle two_roots.table s 2 three_board three_zone) (sym black_moves) three-has_zone),
)
