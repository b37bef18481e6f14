-- A side with no five point gets one by a stone only at the ends of the runs of that stone.
use Rattle.std.proofs.Common.{◌≡◌, ◌⊎◌, inl, inr, ℕ, ◌+◌, Bool, true, false, cond, ◌&&◌, refl, sym, ap, ◌∙◌}
use Rattle.std.proofs.Common.{arith, Option, Some, None}
use Rattle.game_rules.proofs.Common.{Grid, IsBoard, is_on, is_empty, holds, put, row_wins, wins_on, five, has_five, five_points, towards}
use Rattle.game_rules.proofs.Common.{opposite, stones_towards, run_end}
use Rattle.game_rules.specs.declared.RuleKind.{RuleKind}
use Rattle.game_rules.specs.declared.Side.{Side}
use Rattle.game_rules.specs.declared.Axis.{Axis}
use Rattle.game_rules.specs.declared.Point.{Point}
use Rattle.game_rules.specs.declared.Way.{Way}
use Rattle.game_rules.specs.declared.Axis.TheVariants.{Row, Column, Down, Up}
use Rattle.game_rules.specs.declared.Way.TheVariants.{Ahead, Behind}
use Rattle.game_rules.proofs.Axes.{axis_of, some_axis}
use Rattle.game_rules.proofs.Boards.{and-same, is_empty-on, is_empty-put, holds-put_same}
use Rattle.game_rules.proofs.Fives.{five-empty}
use Rattle.game_rules.proofs.Positions.{IsBoard-put}
use Rattle.game_rules.proofs.Ways.{run_before_end, towards-put, beyond-put}
use Rattle.game_rules.proofs.Wins.{wins_on-ways, no_win}
use Rattle.game_rules.proofs.RunEnds.{end_same, end_apart, new_end}
use Rattle.row_shapes.specs.declared.fives.FivePoints.{FivePoints}
use Rattle.row_shapes.specs.declared.fives.FivePoints.TheVariants.{None as NoPoint}
use Rattle.row_shapes.proofs.Common.{in_short, kept_five, end_five, joins_to_win, with_more, with_axis}
use Rattle.row_shapes.proofs.ShortLists.{Tells, tells-map, tells-more, tells-short}

-- the five points that the ends on all four axes tell
abbrev pub end_fives : RuleKind → Grid → Side → Point → FivePoints
end_fives rule b s p = with_axis rule b s p (with_axis rule b s p (with_axis rule b s p (with_axis rule b s p NoPoint Row) Column) Down) Up

-- a point that is kept is the point, and wins
pub kept_five-Some : (rule : RuleKind) (b : Grid) (s : Side) (d : Axis) (o : Option Point) (q : Point) → kept_five rule b s d o ≡ Some q
    → (o ≡ Some q) × (wins_on rule b s d q ≡ true)
kept_five-Some rule b s d None q h = cc
kept_five-Some rule b s d (Some r) q h = by_test (wins_on rule b s d r) refl h where
  by_test : (t : Bool) → wins_on rule b s d r ≡ t → cond t (Some r) None ≡ Some q → (Some r ≡ Some q) × (wins_on rule b s d q ≡ true)
  by_test true e k = let same : r ≡ q = cc in (k, ap (wins_on rule b s d) (sym same) ∙ e)
  by_test false e k = cc

-- ---- after a stone of the side on the empty point p

module _ (b : Grid) (s : Side) (p : Point) (ok : IsBoard b) (empty : is_empty b p ≡ true) where
  on_p : is_on b p ≡ true
  on_p = is_empty-on b p empty

  mine : holds (put b s p) s p ≡ true
  mine = holds-put_same b s p ok on_p

  abbrev near : Way → Axis → ℕ
  near w d = stones_towards w b s d p

  -- q is an end of the run of p
  module _ (w : Way) (d : Axis) (q : Point) (end : towards w d p (1 + near w d) ≡ Some q) where
    before : is_on b q ≡ true → stones_towards (opposite w) (put b s p) s d q ≡ near w d + 1 + near (opposite w) d
    before on =
        let there : run_end (put b s p) s d w p ≡ Some q = end_same b s p on_p d w ∙ end in
        run_before_end (put b s p) s w d p q mine there on
        ∙ ap (λ k. k + 1 + stones_towards (opposite w) (put b s p) s d p) (towards-put b s p on_p w d)
        ∙ ap (λ k. near w d + 1 + k) (towards-put b s p on_p (opposite w) d)

    -- a stone at the end joins what stands on its two sides
    joined : is_on b q ≡ true → 1 + stones_towards w (put b s p) s d q + stones_towards (opposite w) (put b s p) s d q ≡ 1
        + (1 + near w d + near (opposite w) d) + stones_towards w b s d q
    joined on =
        let fore = beyond-put b s p on_p w d (near w d) q end on in
        let back = before on in
        omega (arith, fore, back)

    pub end_joins : (rule : RuleKind) → wins_on rule (put b s p) s d q ≡ joins_to_win rule b s d w q (1 + near w d + near (opposite w) d)
    end_joins rule =
        wins_on-ways rule (put b s p) s w d q (IsBoard-put b s p ok)
        ∙ ap (λ r. r && row_wins rule s (1 + stones_towards w (put b s p) s d q + stones_towards (opposite w) (put b s p) s d q))
        (is_empty-put b s p q on_p (end_apart b s p q d w end))
        ∙ and-same (is_empty b q) _ _ (λ e. ap (row_wins rule s) (joined (is_empty-on b q e)))

    -- the end as the code finds it
    pub end_is : (rule : RuleKind) (r : Bool) → joins_to_win rule b s d w q (1 + near w d + near (opposite w) d) ≡ r
        → end_five rule b s d p w ≡ cond r (Some q) None
    unfolding end_five
    end_is rule r h = ap (kept_five rule (put b s p) s d) end ∙ ap (λ t. cond t (Some q) None) (end_joins rule ∙ h)

    pub end_wins : (rule : RuleKind) → wins_on rule (put b s p) s d q ≡ true → end_five rule b s d p w ≡ Some q
    end_wins rule h = end_is rule true (sym (end_joins rule) ∙ h)

  -- an end that is found is a five point
  found_wins : (rule : RuleKind) (d : Axis) (w : Way) (q : Point) → end_five rule b s d p w ≡ Some q → wins_on rule (put b s p) s d q ≡ true
  unfolding end_five
  found_wins rule d w q h = (kept_five-Some rule (put b s p) s d (run_end b s d w p) q h).1

  -- the end as the code finds it, by the numbers of stones that it counts
  pub end_by : (rule : RuleKind) (w : Way) (d : Axis) (q : Point) (n f : ℕ) → n ≡ near w d → f ≡ near (opposite w) d
      → towards w d p (1 + n) ≡ Some q → (t r : Bool) → t ≡ joins_to_win rule b s d w q (1 + n + f) → t ≡ r
      → cond r (Some q) None ≡ end_five rule b s d p w
  end_by rule w d q n f e g end t r h k = sym
      (end_is w d q (ap (λ k. towards w d p (1 + k)) (sym e) ∙ end) rule r
      (ap (λ k. joins_to_win rule b s d w q (1 + k + near (opposite w) d)) (sym e)
      ∙ ap (λ k. joins_to_win rule b s d w q (1 + n + k)) (sym g) ∙ sym h ∙ k))

  -- ---- the side had no five point

  module _ (rule : RuleKind) (none : has_five rule b s ≡ false) where
    -- a five point on an axis is one of its ends
    made_at : (d : Axis) (q : Point) → wins_on rule (put b s p) s d q ≡ true → (w : Way) × (end_five rule b s d p w ≡ Some q)
    made_at d q wins =
        let end = new_end b s p ok empty rule d q (no_win rule b s d q none) wins in
        (end.0, end_wins end.0 d q end.1 rule wins)

    -- ---- all ends

    -- with the property, or an end on the axis
    abbrev Ends : (Point → Type 0) → Axis → Point → Type 0
    Ends F d q = (F q ⊎ (end_five rule b s d p Ahead ≡ Some q)) ⊎ (end_five rule b s d p Behind ≡ Some q)

    abbrev Rows : Point → Type 0
    Rows = Ends (λ q. ⊥) Row

    abbrev Columns : Point → Type 0
    Columns = Ends Rows Column

    abbrev Downs : Point → Type 0
    Downs = Ends Columns Down

    abbrev AllEnds : Point → Type 0
    AllEnds = Ends Downs Up

    tells-axis : (F : Point → Type 0) (found : FivePoints) (d : Axis) → Tells found F → Tells (with_axis rule b s p found d) (Ends F d)
    tells-axis F found d h =
        tells-more (λ q. F q ⊎ (end_five rule b s d p Ahead ≡ Some q)) (with_more found (end_five rule b s d p Ahead))
        (end_five rule b s d p Behind)
        (tells-more F found (end_five rule b s d p Ahead) h)

    tells-ends : Tells (end_fives rule b s p) AllEnds
    tells-ends = tells-axis Downs _ Up (tells-axis Columns _ Down (tells-axis Rows _ Column (tells-axis (λ q. ⊥) NoPoint Row (λ q h. h))))

    wins_five : (d : Axis) (w : Way) (q : Point) → end_five rule b s d p w ≡ Some q → five rule (put b s p) s q ≡ true
    wins_five d w q h = axis_of (λ e. wins_on rule (put b s p) s e q) d (found_wins rule d w q h)

    ends-five : (F : Point → Type 0) (d : Axis) (q : Point) → (F q → five rule (put b s p) s q ≡ true) → Ends F d q
        → five rule (put b s p) s q ≡ true
    ends-five F d q h (inl (inl f)) = h f
    ends-five F d q h (inl (inr e)) = wins_five d Ahead q e
    ends-five F d q h (inr e) = wins_five d Behind q e

    all-five : (q : Point) → AllEnds q → five rule (put b s p) s q ≡ true
    all-five q = ends-five Downs Up q (ends-five Columns Down q (ends-five Rows Column q (ends-five (λ r. ⊥) Row q (λ h. absurd h))))

    end_here : (F : Point → Type 0) (d : Axis) (w : Way) (q : Point) → end_five rule b s d p w ≡ Some q → Ends F d q
    end_here F d Ahead q h = inl (inr h)
    end_here F d Behind q h = inr h

    all_ends : (d : Axis) (w : Way) (q : Point) → end_five rule b s d p w ≡ Some q → AllEnds q
    all_ends Row w q h = inl (inl (inl (inl (inl (inl (end_here (λ r. ⊥) Row w q h))))))
    all_ends Column w q h = inl (inl (inl (inl (end_here Rows Column w q h))))
    all_ends Down w q h = inl (inl (end_here Columns Down w q h))
    all_ends Up w q h = end_here Downs Up w q h

    five-all : (q : Point) → five rule (put b s p) s q ≡ true → AllEnds q
    five-all q h =
        let axis = some_axis (λ e. wins_on rule (put b s p) s e q) h in
        let way = made_at axis.0 q axis.1 in
        all_ends axis.0 way.0 q way.1

    -- what the ends tell are the five points after the stone in short
    pub ends_short : end_fives rule b s p ≡ in_short (five_points rule (put b s p) s)
    ends_short = tells-short (put b s p) (five rule (put b s p) s) (λ q h. is_empty-on (put b s p) q (five-empty rule (put b s p) s q h))
        (end_fives rule b s p)
        (tells-map AllEnds (λ q. five rule (put b s p) s q ≡ true) (end_fives rule b s p) all-five five-all tells-ends)

-- ---- as the code tells them

told_axes : (rule : RuleKind) (b : Grid) (s : Side) (p : Point) (row column down up : FivePoints) → row ≡ with_axis rule b s p NoPoint Row
    → column ≡ with_axis rule b s p row Column → down ≡ with_axis rule b s p column Down → up ≡ with_axis rule b s p down Up
    → up ≡ end_fives rule b s p
told_axes rule b s p row column down up e f g h =
    h
    ∙ ap (λ (t : FivePoints). with_axis rule b s p t Up) (g
    ∙ ap (λ (t : FivePoints). with_axis rule b s p t Down) (f
    ∙ ap (λ (t : FivePoints). with_axis rule b s p t Column) e))

-- they are the five points after the stone in short
pub told_by : (rule : RuleKind) (b : Grid) (s : Side) (p : Point) → IsBoard b → is_empty b p ≡ true → has_five rule b s ≡ false
    → (row column down up : FivePoints) → row ≡ with_axis rule b s p NoPoint Row → column ≡ with_axis rule b s p row Column
    → down ≡ with_axis rule b s p column Down → up ≡ with_axis rule b s p down Up → up ≡ in_short (five_points rule (put b s p) s)
told_by rule b s p ok empty none row column down up e f g h =
    told_axes rule b s p row column down up e f g h ∙ ends_short b s p ok empty rule none
