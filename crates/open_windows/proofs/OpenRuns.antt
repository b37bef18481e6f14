-- A run of stones of a side with two empty points, one within it and one at its end: none of its places holds a stone of the other side.
use Rattle.std.proofs.Common.{rules, ◌≡◌, ◌≢◌, inl, inr, ℕ, ◌+◌, ◌-◌, ◌≤◌, Bool, true, false, ◌&&◌, not, sym, ap, ◌∙◌, arith, Option, Some}
use Rattle.std.proofs.Common.{None}
use Rattle.std.proofs.lemmas.Bool.{cases_eq, cases_lt}
use Rattle.game_rules.proofs.Common.{Grid, is_on, is_empty, is_stone_of, cell_at, holds, stone_at, go, opposite, stones_towards, run_end}
use Rattle.game_rules.proofs.Common.{other}
use Rattle.game_rules.specs.declared.Cell.{Cell}
use Rattle.game_rules.specs.declared.Side.{Side}
use Rattle.game_rules.specs.declared.Axis.{Axis}
use Rattle.game_rules.specs.declared.Way.{Way}
use Rattle.game_rules.specs.declared.Point.{Point}
use Rattle.game_rules.proofs.Boards.{is_empty-on, empty_holds}
use Rattle.game_rules.proofs.Ways.{go-then, go-same, go-zero, leads, leads_back}
use Rattle.open_windows.specs.OpenWindows.{is_open_at}

stone_clear : (r : Bool) (c : Cell) (s : Side) → (r && is_stone_of s c) ≡ true → (r && not (r && is_stone_of (other s) c)) ≡ true
stone_clear r c s h = search rules

pub stone-open : (b : Grid) (s : Side) (o : Option Point) → stone_at b s o ≡ true → is_open_at b s o ≡ true
stone-open b s None h = cc
stone-open b s (Some q) h = stone_clear (is_on b q) (cell_at b q) s h

pub empty-open : (b : Grid) (s : Side) (q : Point) → is_empty b q ≡ true → is_open_at b s (Some q) ≡ true
empty-open b s q empty = clear_by (is_on b q) (holds b (other s) q) (is_empty-on b q empty) (empty_holds b (other s) q empty) where
  clear_by : (r h : Bool) → r ≡ true → h ≡ false → (r && not h) ≡ true
  clear_by r h on none = search rules

-- the places of the run through p that has w as its end in that way: from p so many steps on, and so many back
abbrev pub Inside : Grid → Side → Axis → Point → Point → Way → ℕ → ℕ → Type 0
Inside b s d p w v x y =
    (y ≤ x + stones_towards (opposite v) b s d p) × (x ≤ y + (1 + stones_towards v b s d p + stones_towards v b s d w))

-- a run of the side's stones through the empty point p, with the empty point w as its end in that way
module _ (b : Grid) (s : Side) (d : Axis) (p w : Point) (free : is_empty b p ≡ true) (free_w : is_empty b w ≡ true) (v : Way)
    (here : run_end b s d v p ≡ Some w) where
  abbrev fore_run : ℕ
  fore_run = stones_towards v b s d p

  pub stone_there : (x y : ℕ) → Inside b s d p w v x y → x ≢ y → x ≢ y + (1 + fore_run) → stone_at b s (go v d p x y) ≡ true
  stone_there x y inside off_p off_w =
      let low = inside.0 in
      let high = inside.1 in
      elim (cases_lt x y) [
        | inl behind ↦ ap (stone_at b s) (go-same v d p x y 0 (y - x) (omega (arith, behind)))
            ∙ (leads_back b s d p (is_empty-on b p free) v).holds (y - x) (omega (arith, behind)) (omega (arith, low, behind))
        | inr ahead ↦ elim (cases_lt (x - y) (1 + fore_run)) [
          | inl near ↦ ap (stone_at b s) (go-same v d p x y (x - y) 0 (omega (arith, ahead)))
              ∙ (leads b s d p (is_empty-on b p free) v).holds (x - y) (omega (arith, ahead, off_p)) (omega (arith, near))
          | inr far ↦
              let past : ℕ = x - y - (1 + fore_run) in
              ap (stone_at b s) (go-same v d p x y (1 + fore_run + past) (0 + 0) (omega (arith, ahead, far))
              ∙ sym (go-then v d p w (1 + fore_run) 0 past 0 here))
              ∙ (leads b s d w (is_empty-on b w free_w) v).holds past (omega (arith, ahead, far, off_w)) (omega (arith, ahead, far, high))
        ]
      ]

  pub open_there : (x y : ℕ) → Inside b s d p w v x y → is_open_at b s (go v d p x y) ≡ true
  open_there x y inside = elim (cases_eq x y) [
    | inl same ↦ ap (is_open_at b s) (go-same v d p x y 0 0 (omega (arith, same)) ∙ go-zero v d p) ∙ empty-open b s p free
    | inr off_p ↦ elim (cases_eq x (y + (1 + fore_run))) [
      | inl same ↦ ap (is_open_at b s) (go-same v d p x y (1 + fore_run) 0 (omega (arith, same)) ∙ here)
          ∙ empty-open b s w free_w
      | inr off_w ↦ stone-open b s (go v d p x y) (stone_there x y inside off_p off_w)
    ]
  ]
