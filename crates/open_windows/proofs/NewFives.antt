-- A stone that makes a five point lies in an open window with three stones of its side: its winning run with the stone on the five
-- point has five places or more, all of which but these two hold stones.
use Rattle.std.proofs.Common.{◌≡◌, ◌≢◌, inl, inr, ℕ, ◌+◌, ◌-◌, ◌≤◌, ◌<◌, min, true, false}
use Rattle.std.proofs.Common.{sym, ap, ◌∙◌, arith, Some}
use Rattle.std.proofs.lemmas.Bool.{cases_eq, cases_lt}
use Rattle.game_rules.proofs.Common.{Grid, IsBoard, is_on, is_empty, put, along, holds, stone_at, wins_on, five}
use Rattle.game_rules.proofs.Common.{has_five}
use Rattle.game_rules.proofs.Common.{towards, opposite, stones_towards, run_end, points_of}
use Rattle.game_rules.specs.declared.RuleKind.{RuleKind}
use Rattle.game_rules.specs.declared.Side.{Side}
use Rattle.game_rules.specs.declared.Axis.{Axis}
use Rattle.game_rules.specs.declared.Way.{Way}
use Rattle.game_rules.specs.declared.Way.TheVariants.{Ahead, Behind}
use Rattle.game_rules.specs.declared.Point.{Point}
use Rattle.game_rules.proofs.Axes.{some_axis}
use Rattle.game_rules.proofs.Boards.{and_left, and_right, is_empty-on, holds-put_same}
use Rattle.game_rules.proofs.OneLine.{empty-before}
use Rattle.game_rules.proofs.Points.{any_witness}
use Rattle.game_rules.proofs.Positions.{IsBoard-put}
use Rattle.game_rules.proofs.RunEnds.{new_end}
use Rattle.game_rules.proofs.Ways.{go-same, go-zero, leads, leads_back, towards-put, beyond-put, run_before_end}
use Rattle.game_rules.proofs.Wins.{wins_on-ways, no_win, row_wins-five}
use Rattle.open_windows.specs.OpenWindows.{is_open_at, in_window}
use Rattle.open_windows.proofs.OpenRuns.{Inside, stone_there, open_there, stone-open, empty-open}
use Rattle.open_windows.proofs.Points.{four_of_five, three_of_five, window-made, in-made}

-- a point where a stone of the side wins on the axis
module _ (rule : RuleKind) (b : Grid) (s : Side) (d : Axis) (p : Point) (ok : IsBoard b) (wins : wins_on rule b s d p ≡ true) where
  free : is_empty b p ≡ true
  free = and_left (is_empty b p) _ wins

  there : is_on b p ≡ true
  there = is_empty-on b p free

  abbrev fore : ℕ
  fore = stones_towards Ahead b s d p

  abbrev back : ℕ
  back = stones_towards Behind b s d p

  long : 5 ≤ 1 + fore + back
  long = row_wins-five rule s _ (and_right (is_empty b p) _ (sym (wins_on-ways rule b s Ahead d p ok) ∙ wins))

  abbrev t : ℕ
  t = min back 4

  stone_near : (k : ℕ) → k < 5 → k ≢ t → stone_at b s (along d p k t) ≡ true
  stone_near k near differ = let five = long in elim (cases_lt k t) [
    | inl behind ↦ ap (stone_at b s) (go-same Ahead d p k t 0 (t - k) (omega (arith, behind)))
        ∙ (leads_back b s d p there Ahead).holds (t - k) (omega (arith, behind)) (omega arith)
    | inr ahead ↦ ap (stone_at b s) (go-same Ahead d p k t (k - t) 0 (omega (arith, ahead)))
        ∙ (leads b s d p there Ahead).holds (k - t) (omega (arith, ahead, differ)) (omega (arith, near, five))
  ]

  open_near : (k : ℕ) → k < 5 → is_open_at b s (along d p k t) ≡ true
  open_near k near = elim (cases_eq k t) [
    | inl same ↦ ap (is_open_at b s) (go-same Ahead d p k t 0 0 (omega (arith, same)) ∙ go-zero Ahead d p) ∙ empty-open b s p free
    | inr differ ↦ stone-open b s (along d p k t) (stone_near k near differ)
  ]

  -- it lies in a window with four stones
  pub win-in : in_window b s 4 p ≡ true
  win-in = in-made b s 4 d p t (omega arith) free (window-made b s 4 d p t (omega arith) open_near
      (four_of_five (λ k. stone_at b s (along d p k t)) t stone_near))

-- so does a five point
pub five-point-in : (rule : RuleKind) (b : Grid) (s : Side) (p : Point) → IsBoard b → five rule b s p ≡ true → in_window b s 4 p ≡ true
five-point-in rule b s p ok h = let made = some_axis (λ d. wins_on rule b s d p) h in win-in rule b s made.0 p ok made.1

-- a stone of the side on p lets one win at w on the axis
module _ (rule : RuleKind) (b : Grid) (s : Side) (p w : Point) (d : Axis) (ok : IsBoard b) (free : is_empty b p ≡ true)
    (made : wins_on rule (put b s p) s d w ≡ true) where
  point_on : is_on b p ≡ true
  point_on = is_empty-on b p free

  free_w : is_empty (put b s p) w ≡ true
  free_w = and_left (is_empty (put b s p) w) _ made

  pub win_on : is_on b w ≡ true
  win_on = is_empty-on (put b s p) w free_w

  open_w : is_empty b w ≡ true
  open_w = (empty-before b s p w ok point_on free_w).1

  -- w is an end of p's run
  module _ (v : Way) (here : run_end b s d v p ≡ Some w) where
    mine : holds (put b s p) s p ≡ true
    mine = holds-put_same b s p ok point_on

    pub many : 3 ≤ stones_towards v b s d p + stones_towards (opposite v) b s d p + stones_towards v b s d w
    many =
        let five = row_wins-five rule s _ (and_right (is_empty (put b s p) w) _
        (sym (wins_on-ways rule (put b s p) s v d w (IsBoard-put b s p ok)) ∙ made)) in
        let fore = beyond-put b s p point_on v d (stones_towards v b s d p) w here win_on in
        let same_near = towards-put b s p point_on v d in
        let same_back = towards-put b s p point_on (opposite v) d in
        let behind = run_before_end (put b s p) s v d p w mine (ap (λ k. towards v d p (1 + k)) same_near ∙ here) win_on in
        omega (arith, five, fore, same_near, same_back, behind)

  -- then p lies in a window of the run
  pub end-in : (v : Way) → run_end b s d v p ≡ Some w → in_window b s 3 p ≡ true
  end-in Ahead here =
      let t : ℕ = min (stones_towards Behind b s d p) 4 in
      let sum = many Ahead here in
      let inside : (k : ℕ) → k < 5 → Inside b s d p w Ahead k t = λ k near. (omega arith, omega (arith, near, sum)) in
      in-made b s 3 d p t (omega arith) free (window-made b s 3 d p t (omega arith)
      (λ k near. open_there b s d p w free open_w Ahead here k t (inside k near))
      (three_of_five (λ k. stone_at b s (along d p k t)) t (t + (1 + stones_towards Ahead b s d p))
      (λ k near off_p off_w. stone_there b s d p w free open_w Ahead here k t (inside k near) off_p off_w)))
  end-in Behind here =
      let t : ℕ = 4 - min (stones_towards Ahead b s d p) 4 in
      let sum = many Behind here in
      let inside : (k : ℕ) → k < 5 → Inside b s d p w Behind t k = λ k near. (omega (arith, sum), omega (arith, near)) in
      in-made b s 3 d p t (omega arith) free (window-made b s 3 d p t (omega arith)
      (λ k near. open_there b s d p w free open_w Behind here t k (inside k near))
      (three_of_five (λ k. stone_at b s (along d p k t)) t (t - (1 + stones_towards Behind b s d p))
      (λ k near off_p off_w. stone_there b s d p w free open_w Behind here t k (inside k near) (λ same. off_p (omega (arith, same)))
      (λ same. off_w (omega (arith, same))))))

-- where none won there before, it is such an end
module _ (rule : RuleKind) (b : Grid) (s : Side) (p w : Point) (d : Axis) (ok : IsBoard b) (free : is_empty b p ≡ true)
    (before : wins_on rule b s d w ≡ false) (made : wins_on rule (put b s p) s d w ≡ true) where
  pub end : (v : Way) × (run_end b s d v p ≡ Some w)
  end = new_end b s p ok free rule d w before made

  pub joins-in : in_window b s 3 p ≡ true
  joins-in = end-in rule b s p w d ok free made end.0 end.1

-- a stone that makes a five point, where its side has none, lies in a window with three stones
pub five-in : (rule : RuleKind) (b : Grid) (s : Side) (p : Point) → IsBoard b → is_empty b p ≡ true → has_five rule b s ≡ false
    → has_five rule (put b s p) s ≡ true → in_window b s 3 p ≡ true
five-in rule b s p ok free none five_there =
    let found = any_witness (five rule (put b s p) s) (points_of (put b s p)) five_there in
    let made = some_axis (λ d. wins_on rule (put b s p) s d found.0) found.1 in
    joins-in rule b s p found.0 made.0 ok free (no_win rule b s made.0 found.0 none) made.1
