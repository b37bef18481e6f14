-- A board and what a turn makes of it: won games.
use Rattle.std.proofs.Common.{◌≡◌, ◌↔◌, ℕ, zero, suc, Bool, true, false, ◌&&◌, ◌||◌, not, nat_le, cond, refl, sym, ap, subst, ◌∙◌, List}
use Rattle.std.proofs.Common.{length, IsTrue, is_none}
use Rattle.std.proofs.lemmas.List.Sums.{length-filter}
use Rattle.board_symmetry.proofs.Common.{Grid, is_on, points_within, five, outcome, after, Cell, Side, Point, RuleKind}
use Rattle.game_rules.proofs.Common.{mover, WinsOr, LosesOr, WinsUnder, WinsWithin, WinsAfter, has_five, five_points, is_double_point}
use Rattle.game_rules.proofs.Common.{has_threat}
use Rattle.game_rules.specs.declared.Outcome.{Outcome}
use Rattle.game_rules.proofs.Games.{WinsOr-map, LosesOr-map}
use Rattle.game_rules.proofs.Points.{WinsOr-on, off_refused}
use Rattle.board_symmetry.proofs.Turns.{Turn, within}
use Rattle.board_symmetry.proofs.Alike.{grid, Turned, empty-same, five-same, put-turned}
use Rattle.board_symmetry.proofs.TurnedOutcomes.{points-any, points-sum, mover-same, foul-same, outcome-same, after-turned}

-- what is asked of a board and a side is asked alike of what a turn makes of it
pub record Asks (w h : ℕ) (to : Point → Point) (demand : Grid → Side → Bool) : Type 0 where
  pub alike : (xs ys : List Cell) → Turned w h to xs ys → (s : Side) → demand (grid w h ys) s ≡ demand (grid w h xs) s

-- a reply off the board is no move
LosesOr-off : (rule : RuleKind) (b : Grid) (q : Point) (W : Type 0) → is_on b q ≡ false → LosesOr (outcome rule b q) W
LosesOr-off rule b q W off = subst (λ (o : Outcome). LosesOr o W) (sym (off_refused rule b q off)) tt

module _ (w h : ℕ) (to from : Point → Point) (turn : Turn w h to from) where
  -- ---- replies

  -- what each reply leaves is known at the images where it is known at the points
  pub replies-there : (rule : RuleKind) (xs ys : List Cell) → Turned w h to xs ys → (V W : Point → Type 0)
      → ((q : Point) → within w h q ≡ true → V q → W (to q))
      → ((q : Point) → LosesOr (outcome rule (grid w h xs) q) (V q)) → (q : Point) → LosesOr (outcome rule (grid w h ys) q) (W q)
  replies-there rule xs ys turned V W f each q = by_test (within w h q) refl where
    by_test : (r : Bool) → within w h q ≡ r → LosesOr (outcome rule (grid w h ys) q) (W q)
    by_test false off = LosesOr-off rule (grid w h ys) q (W q) off
    by_test true on =
        let here : within w h (from q) ≡ true = turn.come q on in
        subst (λ (z : Point). LosesOr (outcome rule (grid w h ys) z) (W z)) (turn.redone q on)
        (subst (λ (o : Outcome). LosesOr o (W (to (from q)))) (sym (outcome-same w h to from turn xs ys turned rule (from q) here))
        (LosesOr-map (outcome rule (grid w h xs) (from q)) _ _ (f (from q) here) (each (from q))))

  -- and the other way round
  pub replies-here : (rule : RuleKind) (xs ys : List Cell) → Turned w h to xs ys → (V W : Point → Type 0)
      → ((q : Point) → within w h q ≡ true → W (to q) → V q)
      → ((q : Point) → LosesOr (outcome rule (grid w h ys) q) (W q)) → (q : Point) → LosesOr (outcome rule (grid w h xs) q) (V q)
  replies-here rule xs ys turned V W f each q = by_test (within w h q) refl where
    by_test : (r : Bool) → within w h q ≡ r → LosesOr (outcome rule (grid w h xs) q) (V q)
    by_test false off = LosesOr-off rule (grid w h xs) q (V q) off
    by_test true on = subst (λ (o : Outcome). LosesOr o (V q))
        (outcome-same w h to from turn xs ys turned rule q on) (LosesOr-map (outcome rule (grid w h ys) (to q)) _ _ (f q on) (each (to q)))

  -- ---- wins

  module _ (demand : Grid → Side → Bool) (asks : Asks w h to demand) (rule : RuleKind) where
    asks-after : (xs ys : List Cell) → Turned w h to xs ys → (p : Point) → within w h p ≡ true
        → demand (after (grid w h ys) (to p)) (mover (grid w h ys)) ≡ demand (after (grid w h xs) p) (mover (grid w h xs))
    asks-after xs ys turned p on = ap (demand (after (grid w h ys) (to p))) (mover-same w h to from turn xs ys turned)
        ∙ asks.alike _ _ (after-turned w h to from turn xs ys turned rule p on) (mover (grid w h xs))

    -- what has to hold after a move that goes on
    abbrev Then : ℕ → List Cell → Point → Type 0
    Then n zs p = IsTrue (demand (after (grid w h zs) p) (mover (grid w h zs)))
        × ((q : Point) → LosesOr (outcome rule (after (grid w h zs) p) q) (WinsUnder demand rule n (after (after (grid w h zs) p) q)))

    then-there : (n : ℕ) → ((xs ys : List Cell) → Turned w h to xs ys → WinsUnder demand rule n (grid w h xs)
        → WinsUnder demand rule n (grid w h ys))
        → (xs ys : List Cell) → Turned w h to xs ys → (p : Point) → within w h p ≡ true → Then n xs p → Then n ys (to p)
    then-there n later xs ys turned p on (asked, each) =
        let next = after-turned w h to from turn xs ys turned rule p on in (
          asks-after xs ys turned p on ∙ asked,
          replies-there rule _ _ next (λ q. WinsUnder demand rule n (after (after (grid w h xs) p) q))
              (λ q. WinsUnder demand rule n (after (after (grid w h ys) (to p)) q))
              (λ q on_q. later _ _ (after-turned w h to from turn _ _ next rule q on_q)) each,
        )

    then-here : (n : ℕ) → ((xs ys : List Cell) → Turned w h to xs ys → WinsUnder demand rule n (grid w h ys)
        → WinsUnder demand rule n (grid w h xs))
        → (xs ys : List Cell) → Turned w h to xs ys → (p : Point) → within w h p ≡ true → Then n ys (to p) → Then n xs p
    then-here n later xs ys turned p on (asked, each) =
        let next = after-turned w h to from turn xs ys turned rule p on in (
          sym (asks-after xs ys turned p on) ∙ asked,
          replies-here rule _ _ next (λ q. WinsUnder demand rule n (after (after (grid w h xs) p) q))
              (λ q. WinsUnder demand rule n (after (after (grid w h ys) (to p)) q))
              (λ q on_q. later _ _ (after-turned w h to from turn _ _ next rule q on_q)) each,
        )

    pub wins-there : (n : ℕ) (xs ys : List Cell) → Turned w h to xs ys → WinsUnder demand rule n (grid w h xs)
        → WinsUnder demand rule n (grid w h ys)
    wins-there zero xs ys turned won = won
    wins-there (suc n) xs ys turned won =
        let on : within w h won.0 ≡ true = WinsOr-on rule (grid w h xs) won.0 _ won.1 in (
          to won.0,
          subst (λ (o : Outcome). WinsOr o (Then n ys (to won.0))) (sym (outcome-same w h to from turn xs ys turned rule won.0 on))
              (WinsOr-map (outcome rule (grid w h xs) won.0) _ _
              (then-there n (λ zs us t. wins-there n zs us t) xs ys turned won.0 on) won.1),
        )

    pub wins-here : (n : ℕ) (xs ys : List Cell) → Turned w h to xs ys → WinsUnder demand rule n (grid w h ys)
        → WinsUnder demand rule n (grid w h xs)
    wins-here zero xs ys turned won = won
    wins-here (suc n) xs ys turned won =
        let on : within w h won.0 ≡ true = WinsOr-on rule (grid w h ys) won.0 _ won.1 in
        let here : within w h (from won.0) ≡ true = turn.come won.0 on in (
          from won.0,
          WinsOr-map (outcome rule (grid w h xs) (from won.0)) _ _
              (then-here n (λ zs us t. wins-here n zs us t) xs ys turned (from won.0) here)
              (subst (λ (o : Outcome). WinsOr o (Then n ys (to (from won.0))))
              (outcome-same w h to from turn xs ys turned rule (from won.0) here)
              (subst (λ (z : Point). WinsOr (outcome rule (grid w h ys) z) (Then n ys z)) (sym (turn.redone won.0 on)) won.1)),
        )

    pub wins-same : (n : ℕ) (xs ys : List Cell) → Turned w h to xs ys → WinsUnder demand rule n (grid w h ys)
        ↔ WinsUnder demand rule n (grid w h xs)
    wins-same n xs ys turned = (wins-here n xs ys turned, wins-there n xs ys turned)

  -- ---- what is asked of the moves of a win

  pub asks_nothing : Asks w h to (λ c s. true)
  asks_nothing = record { alike = λ xs ys turned s. refl }

  pub asks_five : (rule : RuleKind) → Asks w h to (has_five rule)
  asks_five rule = record {
    alike = λ xs ys turned s. points-any w h to from turn (five rule (grid w h xs) s) (five rule (grid w h ys) s)
        (five-same w h to from turn xs ys turned rule s);
  }

  fives-same : (rule : RuleKind) (s : Side) (xs ys : List Cell) → Turned w h to xs ys
      → length (five_points rule (grid w h ys) s) ≡ length (five_points rule (grid w h xs) s)
  fives-same rule s xs ys turned = length-filter (five rule (grid w h ys) s) (points_within w h)
      ∙ points-sum w h to from turn _ _ (λ q on. ap (λ r. cond r 1 0) (five-same w h to from turn xs ys turned rule s q on))
      ∙ sym (length-filter (five rule (grid w h xs) s) (points_within w h))

  double-same : (rule : RuleKind) (s : Side) (xs ys : List Cell) → Turned w h to xs ys → (p : Point) → within w h p ≡ true
      → is_double_point rule (grid w h ys) s (to p) ≡ is_double_point rule (grid w h xs) s p
  unfolding is_double_point
  double-same rule s xs ys turned p on = λ i.
      ((empty-same w h to from turn xs ys turned p on i && not (five-same w h to from turn xs ys turned rule s p on i))
      && is_none (foul-same w h to from turn xs ys turned rule p on s i))
      && nat_le 2 (fives-same rule s _ _ (put-turned w h to from turn xs ys turned s p on) i)

  pub asks_threat : (rule : RuleKind) → Asks w h to (has_threat rule)
  asks_threat rule = record {
    alike = λ xs ys turned s i. (asks_five rule).alike xs ys turned s i || points-any w h to from turn
        (is_double_point rule (grid w h xs) s) (is_double_point rule (grid w h ys) s) (double-same rule s xs ys turned) i;
  }

  -- whatever is played first
  pub wins_after-same : (rule : RuleKind) (n : ℕ) (xs ys : List Cell) → Turned w h to xs ys → WinsAfter rule n (grid w h ys)
      ↔ WinsAfter rule n (grid w h xs)
  wins_after-same rule n xs ys turned = (
    replies-here rule xs ys turned (λ q. WinsWithin rule n (after (grid w h xs) q)) (λ q. WinsWithin rule n (after (grid w h ys) q))
        (λ q on. wins-here (λ c s. true) asks_nothing rule n _ _ (after-turned w h to from turn xs ys turned rule q on)),
    replies-there rule xs ys turned (λ q. WinsWithin rule n (after (grid w h xs) q)) (λ q. WinsWithin rule n (after (grid w h ys) q))
        (λ q on. wins-there (λ c s. true) asks_nothing rule n _ _ (after-turned w h to from turn xs ys turned rule q on)),
  )
