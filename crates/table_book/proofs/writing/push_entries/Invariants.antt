use Rattle.std.proofs.Common.{◌≡◌, ◌++◌, take, string_bytes, flat_map}
use Rattle.table_book.proofs.Common.{text_of, entry_lines}
use Rattle.table_book.proofs.writing.push_entries.Given as goal

-- the lines of the entries so far stand behind the text
abbrev pub invariant-loop-entry : goal.invariant-loop-entry
invariant-loop-entry l = string_bytes l.text ≡ string_bytes l.fn.text ++ text_of (flat_map entry_lines (take l.entry-index l.entries))
