-- A stone that makes a three lies in an open window with two stones of its side: with a stone on the three point its run is of four, and
-- the points at both ends of that run are empty.
use Rattle.std.proofs.Common.{◌≡◌, ◌≢◌, inl, inr, ℕ, ◌+◌, ◌-◌, ◌<◌, true, ◌&&◌, sym, ap, ◌∙◌, arith, Option, Some, None, nat_eq}
use Rattle.std.proofs.lemmas.Bool.{cases_eq}
use Rattle.game_rules.proofs.Common.{Grid, IsBoard, is_on, is_empty, put, along, holds, stone_at, go, towards, opposite, stones_towards}
use Rattle.game_rules.proofs.Common.{run_end, is_line_three_point}
use Rattle.game_rules.specs.declared.RuleKind.{RuleKind}
use Rattle.game_rules.specs.declared.Side.{Side}
use Rattle.game_rules.specs.declared.Axis.{Axis}
use Rattle.game_rules.specs.declared.Way.{Way}
use Rattle.game_rules.specs.declared.Way.TheVariants.{Ahead, Behind}
use Rattle.game_rules.specs.declared.Point.{Point}
use Rattle.game_rules.proofs.Boards.{and_left, and_right, is_empty-on, holds-put_same}
use Rattle.game_rules.proofs.OneLine.{empty-before}
use Rattle.game_rules.proofs.Positions.{IsBoard-put}
use Rattle.game_rules.proofs.Threes.{three_empty}
use Rattle.game_rules.proofs.Ways.{go-same, towards-put, beyond-put}
use Rattle.row_shapes.specs.Threes.{wins_past}
use Rattle.row_shapes.proofs.ThreePoints.{three-open, three_first, first_open}
use Rattle.open_windows.specs.OpenWindows.{is_open_at, in_window}
use Rattle.open_windows.proofs.OpenRuns.{Inside, stone_there, open_there, empty-open}
use Rattle.open_windows.proofs.Points.{two_of_five, window-made, in-made}

-- the stone on p has the three point q on the axis, as far as the axis decides
module _ (rule : RuleKind) (b : Grid) (s : Side) (d : Axis) (p q : Point) (ok : IsBoard b) (free : is_empty b p ≡ true)
    (three : is_line_three_point rule (put b s p) s d p q ≡ true) where
  abbrev later : Grid
  later = put b s p

  on_p : is_on b p ≡ true
  on_p = is_empty-on b p free

  ok_later : IsBoard later
  ok_later = IsBoard-put b s p ok

  mine : holds later s p ≡ true
  mine = holds-put_same b s p ok on_p

  free_later : is_empty later q ≡ true
  free_later = three_empty rule later s d p q three

  free_q : is_empty b q ≡ true
  free_q = (empty-before b s p q ok on_p free_later).1

  past_open : (w : Way) (o : Option Point) → wins_past rule later s d w o ≡ true → is_open_at b s o ≡ true
  past_open w None h = cc
  past_open w (Some e) h = empty-open b s e (empty-before b s p e ok on_p (and_left (is_empty later e) _ h)).1

  -- q is the end of its run in that way
  module _ (v : Way) (there : run_end later s d v p ≡ Some q) where
    abbrev fore : ℕ
    fore = stones_towards v b s d p

    abbrev past : ℕ
    past = stones_towards v b s d q

    near_same : stones_towards v later s d p ≡ fore
    near_same = towards-put b s p on_p v d

    here : run_end b s d v p ≡ Some q
    here = ap (λ k. towards v d p (1 + k)) (sym near_same) ∙ there

    past_same : stones_towards v later s d q ≡ past
    past_same = beyond-put b s p on_p v d fore q here (is_empty-on b q free_q)

    two : fore + past + stones_towards (opposite v) b s d p ≡ 2
    two =
        let sum = first_open rule later s d p ok_later mine v q there three in
        let near = near_same in let more = past_same in let far = towards-put b s p on_p (opposite v) d in
        omega (arith, sum, near, more, far)

    -- so the point past the run, with q filled, is open
    ends-open : (x y : ℕ) → x ≡ y + (2 + fore + past) → is_open_at b s (go v d p x y) ≡ true
    ends-open x y at =
        let near = near_same in let more = past_same in
        let run : (nat_eq (1 + stones_towards v later s d p + stones_towards v later s d q + stones_towards (opposite v) later s d p) 3
        && wins_past rule later s d v (towards v d p (1 + (1 + stones_towards v later s d p + stones_towards v later s d q)))) ≡ true =
        and_left _ _ (sym (three-open rule later s v d p q ok_later mine free_later there) ∙ three) in
        ap (is_open_at b s) (go-same v d p x y (1 + (1 + stones_towards v later s d p + stones_towards v later s d q)) 0
        (omega (arith, at, near, more)))
        ∙ past_open v _ (and_right _ _ run)

  -- p lies in the window of the run and that point
  by_way : (v : Way) → run_end later s d v p ≡ Some q → in_window b s 2 p ≡ true
  by_way Ahead there =
      let t : ℕ = stones_towards Behind b s d p in
      let sum = two Ahead there in
      let inside : (k : ℕ) → k < 5 → k ≢ 4 → Inside b s d p q Ahead k t =
      λ k near differ. (omega arith, omega (arith, near, differ, sum)) in
      in-made b s 2 d p t (omega (arith, sum)) free (window-made b s 2 d p t (omega (arith, sum))
      (λ k near. elim (cases_eq k 4) [
        | inl last ↦ ends-open Ahead there k t (omega (arith, last, sum))
        | inr differ ↦ open_there b s d p q free free_q Ahead (here Ahead there) k t (inside k near differ)
      ])
      (two_of_five (λ k. stone_at b s (along d p k t)) t (t + (1 + stones_towards Ahead b s d p)) 4
      (λ k near off_p off_q differ.
      stone_there b s d p q free free_q Ahead (here Ahead there) k t (inside k near differ) off_p off_q)))
  by_way Behind there =
      let t : ℕ = 4 - stones_towards Ahead b s d p in
      let sum = two Behind there in
      let inside : (k : ℕ) → k < 5 → k ≢ 0 → Inside b s d p q Behind t k = λ k near differ.
      (omega (arith, near, sum), omega (arith, differ, sum)) in
      in-made b s 2 d p t (omega arith) free (window-made b s 2 d p t (omega arith)
      (λ k near. elim (cases_eq k 0) [
        | inl first ↦ ends-open Behind there t k (omega (arith, first, sum))
        | inr differ ↦ open_there b s d p q free free_q Behind (here Behind there) t k (inside k near differ)
      ])
      (two_of_five (λ k. stone_at b s (along d p k t)) t (t - (1 + stones_towards Behind b s d p)) 0
      (λ k near off_p off_q differ. stone_there b s d p q free free_q Behind (here Behind there) t k (inside k near differ)
      (λ same. off_p (omega (arith, same))) (λ same. off_q (omega (arith, same))))))

  pub three-in : in_window b s 2 p ≡ true
  three-in = let w = three_first rule later s d p q ok_later mine three in by_way w.0 w.1
