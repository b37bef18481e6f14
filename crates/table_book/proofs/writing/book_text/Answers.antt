use Rattle.std.proofs.Common.{ap, ◌∙◌, ◌++◌, List, string_bytes, flat_map}
use Rattle.table_book.proofs.Common.{ended, text_of, entries_line, entry_lines, nodes_line, Entry}
use Rattle.table_book.proofs.Growth.{book_grown}
use Rattle.table_book.proofs.writing.book_text.Goals as goal

pub returns : goal.returns
returns c = record {
  text = book_grown c.args.book.now (string_bytes c.new-text.result) (string_bytes c.push_line.new.text)
      (string_bytes c.push_number_line.new.text) (string_bytes c.push_nodes.new.text) (string_bytes c.push_number_line-2.new.text)
      (string_bytes c.push_entries.new.text) c.new-text.ensures.bytes c.in_ok-push_line.ensures.line
      (c.in_ok-push_number_line.ensures.line ∙ ap (λ n. string_bytes c.push_line.new.text ++ ended (nodes_line n)) c.len.ensures.count)
      c.in_ok-push_nodes.ensures.nodes
      (c.in_ok-push_number_line-2.ensures.line ∙ ap (λ n. string_bytes c.push_nodes.new.text ++ ended (entries_line n))
      c.len-2.ensures.count) (c.in_ok-push_entries.ensures.lines ∙ ap
      (λ (es : List Entry). string_bytes c.push_number_line-2.new.text ++ text_of (flat_map entry_lines es)) c.as_slice.ensures.items);
}
