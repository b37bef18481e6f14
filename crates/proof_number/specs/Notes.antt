-- What is noted of the nodes of a tree.
use Rattle.std.specs.Prelude.{ℕ, nat_eq, if◌then◌else◌, List, map, slice_index_or, Option, Some, None}
use Rattle.std.specs.List.{find}
use Rattle.game_rules.specs.Shapes.{is_same_point}
use Rattle.game_rules.specs.declared.Point.{Point}
use Rattle.strategy_graph.specs.declared.Reply.{Reply}
use Rattle.strategy_compiler.specs.declared.wins.WrittenWin.{WrittenWin}
use Rattle.proof_number.specs.declared.notes.Note.{Note}

-- what a read past the end of a list of notes gives
abbrev pub no_note : Note
no_note = record { at = record { x = 0; y = 0 }; left = 0; moves = 0; node = 0 }

-- the note of node i
abbrev pub note_at : List Note → ℕ → Note
note_at notes i = slice_index_or notes i no_note

-- the win that a note tells, if its moves are not 0
abbrev pub win_of : Note → WrittenWin
win_of n = record { node = n.node; moves = n.moves }

-- the win of a note, if it tells one
abbrev pub noted_win : Note → Option WrittenWin
noted_win n = if nat_eq n.moves 0 then None else Some (win_of n)

-- the answer to the reply that leads to a node by the win of the node
abbrev pub answer_of : Note → Reply
answer_of n = record { at = n.at; next = n.node }

-- the note if there is one, or else the first of these
abbrev pub or_first : Option Note → List Note → Note
or_first None notes = note_at notes 0
or_first (Some n) notes = n

-- the first of these notes whose move this is, or else the first of all
abbrev pub noted_for : List Note → Point → Note
noted_for notes q = or_first (find (λ n. is_same_point q n.at) notes) notes

-- this as the note of the move
abbrev pub note_for : List Note → Point → Note
note_for notes q = record (noted_for notes q) { at = q }

-- such a note of each of these moves
abbrev pub all_notes : List Note → List Point → List Note
all_notes notes points = map (note_for notes) points
