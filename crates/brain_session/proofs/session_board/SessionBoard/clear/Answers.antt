use Rattle.std.proofs.Common.{◌≡◌, subst, None}
use Rattle.gomocup_text.specs.declared.Answer.TheVariants.{Ok as SaysOk}
use Rattle.brain_session.proofs.Common.{Says, Place, placed, restart_row, Takes, place_of}
use Rattle.brain_session.proofs.SessionBoards.{cleared-untouched, cleared-place, restart-takes}
use Rattle.brain_session.proofs.session_board.SessionBoard.clear.Goals as goal

pub invariant_of-self : goal.invariant_of-self
invariant_of-self c = cleared-untouched c.self.inside.played c.clear.new.self c.clear.ensures.cleared

pub returns : goal.returns
returns c =
    let m = c.self.inside.played in
    let o = c.self.inside.game in
    let n = c.clear.new.self in
    let view : place_of m o ≡ c.args.self.now = c.self.view_is in
    record {
      row = λ s. subst (λ (w : Place). Takes (restart_row s w) s (Says SaysOk) (placed s (place_of n None))) view
          (restart-takes m n o s c.clear.ensures.cleared);
      place = λ h. cleared-place h m n c.clear.ensures.board c.clear.ensures.cleared;
    }
