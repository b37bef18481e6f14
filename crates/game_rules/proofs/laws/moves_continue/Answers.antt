use Rattle.game_rules.proofs.Positions.{IsPosition-after, mover-after, lift-after, GoesOn-empty}
use Rattle.game_rules.proofs.laws.moves_continue.Goals as goal

pub returns : goal.returns
returns c = record {
  continues = λ rule b p lawful on. record {
    lawful = IsPosition-after rule b p lawful on;
    other_moves = mover-after b p lawful.board (GoesOn-empty rule b p on) lawful.turns;
    taken_back = lift-after rule b p lawful on;
  };
}
