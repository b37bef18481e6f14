-- Points that win: they are empty, and their stone joins those ahead of it and behind it to a run that wins.
use Rattle.std.proofs.Common.{◌≡◌, ℕ, ◌+◌, ◌≤◌, true, false, ◌&&◌, ap, rules}
use Rattle.std.proofs.lemmas.Bool.{false_from_ne_true, both_ways}
use Rattle.game_rules.proofs.Common.{Grid, IsBoard, is_empty, row_wins, stones_ahead, stones_behind, wins_on, five, opposite}
use Rattle.game_rules.proofs.Common.{stones_towards, has_five, RuleKind, Side, Axis, Way, Point}
use Rattle.game_rules.proofs.Axes.{no_axis}
use Rattle.game_rules.proofs.Boards.{and-same, is_empty-on, run_of-put}
use Rattle.game_rules.proofs.Points.{points-found}
use Rattle.game_rules.proofs.Fives.{five-empty}
use Rattle.game_rules.proofs.Ways.{run_towards}

module _ (rule : RuleKind) (b : Grid) (s : Side) where
  -- no stone has to be put to tell whether a point wins
  pub wins_on-stones : (d : Axis) (p : Point) → IsBoard b
      → wins_on rule b s d p ≡ (is_empty b p && row_wins rule s (1 + stones_ahead b s d p + stones_behind b s d p))
  wins_on-stones d p ok = and-same (is_empty b p) _ _ (λ empty. ap (row_wins rule s) (run_of-put b s p (is_empty-on b p empty) ok d))

  -- the same from either of the two ways
  pub wins_on-ways : (w : Way) (d : Axis) (p : Point) → IsBoard b
      → wins_on rule b s d p ≡ (is_empty b p && row_wins rule s (1 + stones_towards w b s d p + stones_towards (opposite w) b s d p))
  wins_on-ways w d p ok = and-same (is_empty b p) _ _ (λ empty. ap (row_wins rule s) (run_towards b s w d p ok (is_empty-on b p empty)))

  -- where the side has no five point, no point is one, or wins on an axis
  pub no_five : (p : Point) → has_five rule b s ≡ false → five rule b s p ≡ false
  no_five p none = search (rules, false_from_ne_true, both_ways, points-found, is_empty-on, five-empty)

  pub no_win : (d : Axis) (p : Point) → has_five rule b s ≡ false → wins_on rule b s d p ≡ false
  no_win d p none = no_axis (λ d. wins_on rule b s d p) (no_five p none) d

-- a run that wins has five stones or more
pub row_wins-five : (rule : RuleKind) (s : Side) (n : ℕ) → row_wins rule s n ≡ true → 5 ≤ n
row_wins-five rule s n h = search rules
