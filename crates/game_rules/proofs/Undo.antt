-- A move that goes on, taken back.
use Rattle.std.proofs.Common.{◌≡◌, true, ap, ◌∙◌}
use Rattle.game_rules.proofs.Common.{Grid, lift, holds, IsPosition, IsUnwon, outcome, mover, other, after, RuleKind, Point, GoesOn}
use Rattle.game_rules.proofs.Positions.{after-stone, lift-after}

module _ (rule : RuleKind) (b c : Grid) (p : Point) (lawful : IsPosition rule b) (on : outcome rule b p ≡ GoesOn)
    (played : c ≡ after b p) where
  -- the stone is there to be lifted
  pub stone_back : holds c (other (mover c)) p ≡ true
  stone_back = ap (λ (w : Grid). holds w (other (mover w)) p) played ∙ after-stone rule b p lawful on

  -- the board without it is the board before
  pub lift_back : lift c p ≡ b
  lift_back = ap (λ (w : Grid). lift w p) played ∙ lift-after rule b p lawful on

  pub unwon_back : IsUnwon rule (lift c p)
  unwon_back = rw lift_back lawful.unwon
