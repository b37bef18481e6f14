-- What stands at steps along an axis.
use Rattle.std.proofs.Common.{◌≡◌, true, refl, sym, ap, ◌∙◌, Option, Some, None}
use Rattle.stone_board.proofs.Common.{Grid, is_on, Point, RuleKind, Side, Axis, kept_on}
use Rattle.game_rules.proofs.Common.{is_line_three_at}
use Rattle.game_rules.proofs.Boards.{kept_by}
use Rattle.game_rules.proofs.Threes.{kept_three_by}

pub kept-Some : (b : Grid) (o : Option Point) (q : Point) → kept_on b o ≡ Some q → (o ≡ Some q) × (is_on b q ≡ true)
kept-Some b None q h = cc
kept-Some b (Some p) q h =
    let both = kept_by b p q (is_on b p) refl h in
    (ap Some both.0, ap (is_on b) (sym both.0) ∙ both.1)

pub three-kept : (rule : RuleKind) (b : Grid) (s : Side) (d : Axis) (p : Point) (o : Option Point)
    → is_line_three_at rule b s d p (kept_on b o) ≡ is_line_three_at rule b s d p o
three-kept rule b s d p None = refl
three-kept rule b s d p (Some q) = kept_three_by rule b s d p q (is_on b q) refl
