use Rattle.std.proofs.Common.{string_bytes}
use Rattle.table_book.proofs.Growth.{entry_grown}
use Rattle.table_book.proofs.writing.push_entry.Goals as goal

pub returns : goal.returns
returns c = record {
  lines = entry_grown c.args.entry.now (string_bytes c.args.text.now) (string_bytes c.push_head.new.text)
      (string_bytes c.push_number_line.new.text) (string_bytes c.push_root.new.text) c.in_ok-push_head.ensures.lines
      c.in_ok-push_number_line.ensures.line c.in_ok-push_root.ensures.line;
}
