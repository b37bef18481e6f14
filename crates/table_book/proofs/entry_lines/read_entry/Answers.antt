use Rattle.std.proofs.Common.{◌<◌, ◌^◌, refl, arith}
use Rattle.std.proofs.lemmas.Result.{err_from_is_err_and}
use Rattle.position_files.specs.Sections.{IsBoardLines}
use Rattle.position_files.proofs.SectionLaws.{fault_in}
use Rattle.table_book.specs.Sections.{IsEntryLines}
use Rattle.table_book.proofs.EntryLaws.{entry_text}
use Rattle.table_book.proofs.EntryBad.{entry_root_fault, head_in_entry, no_moves_line}
use Rattle.table_book.proofs.entry_lines.read_entry.Goals as goal

pub returns-in_err-head-clause-refused : goal.returns-in_err-head-clause-refused
returns-in_err-head-clause-refused c =
    let p = err_from_is_err_and c.from_residual.result c.from_residual.ensures.1 in
    rw (p.1, p.2) (fault_in IsBoardLines (IsEntryLines c.args.below) (head_in_entry c.args.below) c.args.bytes.now c.in_err-head.field-0.0
    c.in_err-head.ensures.refused)

pub returns-in_default-clause-refused : goal.returns-in_default-clause-refused
returns-in_default-clause-refused c = (
  4,
  refl,
  no_moves_line c.args.below c.in_ok-head.head.kind c.in_ok-head.head.board c.in_ok-head.ensures.found.board c.args.bytes.now _
      c.in_ok-head.ensures.found.text c.in_default.ensures.number,
)

pub returns-in-Ok-clause-text : goal.returns-in-Ok-clause-text
returns-in-Ok-clause-text c =
    entry_text (record {
      kind = c.in_ok-head.head.kind;
      board = c.in_ok-head.head.board;
      root = c.in-Ok.root;
      moves = c.in-Some.moves;
    }) c.args.bytes.now _ c.in-Some.rest.now c.in-Ok.rest.now
    c.in_ok-head.ensures.found.text c.in-Some.ensures.number.1 c.in-Ok.ensures.text

pub returns-in-Err-clause-refused : goal.returns-in-Err-clause-refused
returns-in-Err-clause-refused c =
    let few_k : c.args.below < 2 ^ 64 = omega arith in
    rw c.after.ensures.error (entry_root_fault c.args.below c.in_ok-head.head.kind c.in_ok-head.head.board c.in_ok-head.ensures.found.board c.in-Some.moves
    c.in-Some.ensures.number.0.few few_k c.args.bytes.now _ c.in-Some.rest.now
    c.in_ok-head.ensures.found.text c.in-Some.ensures.number.1 c.in-Err.error
    c.in-Err.ensures.refused)
