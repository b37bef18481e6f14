use Rattle.std.proofs.Common.{◌≡◌, take}
use Rattle.brain_session.proofs.Common.{empty_board, with_batch_stones}
use Rattle.brain_session.proofs.BatchGames.{Waits}
use Rattle.brain_session.proofs.batch.BatchReader.board.Given as goal

-- the stones so far are put, and the points of the others are empty
abbrev pub invariant-loop-stone : goal.invariant-loop-stone
invariant-loop-stone l = record {
  put_so_far : l.board ≡ with_batch_stones l.brain (empty_board l.width l.height) (take l.stone-index l.stone-items);
  waits : Waits l.stone-items l.stone-index l.board;
}
