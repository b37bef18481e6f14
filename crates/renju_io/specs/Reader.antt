-- What a reader of lines holds.
use Rattle.std.specs.Prelude.{◌≡◌, true, [], ◌+◌, ◌<◌, ◌≤◌, ◌++◌, slice_range, vec_len, vec_capacity}
use Rattle.renju_io.specs.Lines.{ReaderState, HasNoLineFeed}
use Rattle.renju_io.specs.declared.line_reader.LineReader.TheInside.{Inside}
use Rattle.renju_io.specs.declared.TheConstants.{MAX_LINE_BYTES, MAX_SESSION_BYTES}

-- what a reader shows: its kept bytes are those of the line begun, and those of the last read that were not looked at
abbrev pub reader_state : Inside → ReaderState
reader_state r = record {
  text = r.text.items;
  kept = r.line.items ++ slice_range r.piece.items r.next r.end;
  taken = r.taken;
  ended = r.ended;
}

-- there is room for a line and for one read, the line begun has no end, one byte too many at most was taken, and nothing is
-- kept behind the end of the input, which comes before that byte
pub record IsReader (r : Inside) : Type 0 where
  pub text_room : MAX_LINE_BYTES + 1 ≤ vec_capacity r.text
  pub line_room : MAX_LINE_BYTES + 1 ≤ vec_capacity r.line
  pub line_short : vec_len r.line ≤ MAX_LINE_BYTES + 1
  pub line_open : HasNoLineFeed r.line.items
  pub piece_room : 0 < vec_len r.piece
  pub next_within : r.next ≤ r.end
  pub end_within : r.end ≤ vec_len r.piece
  pub taken_within : r.taken ≤ MAX_SESSION_BYTES + 1
  pub ended_within : r.ended ≡ true → r.taken ≤ MAX_SESSION_BYTES
  pub ended_empty : r.ended ≡ true → (reader_state r).kept ≡ []
