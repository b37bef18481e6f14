-- A move that goes on, played on a view and put on a board that is a copy of it, and taken back on both.
use Rattle.std.proofs.Common.{◌≡◌, true, ap, sym, ◌∙◌}
use Rattle.stone_board.proofs.Common.{Grid, IsBoard, is_empty, put, lift, RuleKind, Side, Point, holds_stone}
use Rattle.game_rules.proofs.Common.{outcome, mover, after}
use Rattle.game_rules.specs.declared.Outcome.TheVariants.{GoesOn}
use Rattle.game_rules.proofs.Boards.{lift-put}
use Rattle.game_rules.proofs.Positions.{GoesOn-empty}
use Rattle.stone_board.proofs.Stones.{put-holds_stone}

module _ (rule : RuleKind) {view board : Grid} (p : Point) (copy : board ≡ view) (on : outcome rule view p ≡ GoesOn) where
  pub copy-empty : is_empty board p ≡ true
  copy-empty = ap (λ (b : Grid). is_empty b p) copy ∙ GoesOn-empty rule view p on

  module _ (s : Side) {more : Grid} (with_stone : more ≡ put board s p) where
    -- the board is again a copy
    pub copy-played : {played : Grid} → s ≡ mover view → played ≡ after view p → more ≡ played
    copy-played side play = with_stone ∙ ap (λ (b : Grid). put b s p) copy ∙ ap (λ (t : Side). put view t p) side ∙ sym play

    -- the stone is there to be lifted, and the board without it is the board before
    pub copy-stone : {then : Grid} → IsBoard board → then ≡ more → holds_stone then p ≡ true
    copy-stone ok kept = ap (λ (b : Grid). holds_stone b p) (kept ∙ with_stone) ∙ put-holds_stone board s p ok copy-empty

    pub copy-back : {then last : Grid} → then ≡ more → last ≡ lift then p → last ≡ board
    copy-back kept lifted = lifted ∙ ap (λ (b : Grid). lift b p) (kept ∙ with_stone) ∙ lift-put board s p copy-empty
