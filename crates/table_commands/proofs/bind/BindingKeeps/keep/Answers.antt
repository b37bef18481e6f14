-- There is room for the file's entry, and where the nodes are too many it is told.
use Rattle.std.proofs.Common.{ap, Err}
use Rattle.table_commands.proofs.BindLaws.{full-at, room-left}
use Rattle.table_commands.proofs.bind.BindingKeeps.keep.Goals as goal

pub add-requires : goal.add-requires
add-requires c = record {
  can_be_bound =
      record { text = (c.requires.read.0, c.requires.read.1.text); lawful = c.requires.read.1.lawful; moves = c.requires.read.1.moves };
  room = room-left c.requires.room.0 _ c.requires.room.1 c.requires.room.2;
}

pub returns-in-Err-Full-clause-tells : goal.returns-in-Err-Full-clause-tells
returns-in-Err-Full-clause-tells c = λ files bound. full-at files c.args.file _ _ _
    (c.in-Err-Full.ensures.full (ap Err c.in-Err-Full.field-0-is)) c.full.ensures.status c.full.ensures.text bound
