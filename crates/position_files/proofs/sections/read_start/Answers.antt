use Rattle.std.proofs.Common.{◌≡◌, ◌∙◌, ◌++◌, sym, [], ◌∷◌, append_assoc}
use Rattle.position_files.proofs.Common.{ended, line_feed, start_line}
use Rattle.position_files.proofs.SectionLaws.{one_start, start_left}
use Rattle.position_files.proofs.sections.read_start.Goals as goal

pub returns-in-Ok-clause-found : goal.returns-in-Ok-clause-found
returns-in-Ok-clause-found c = record {
  start = c.in-Ok.ensures.start.0;
  text = c.in-Ok.ensures.start.1 ∙ sym (append_assoc (start_line c.in-Ok.found.0) (line_feed ∷ []) c.in-Ok.found.1.now);
}

pub returns-in-Ok-clause-only : goal.returns-in-Ok-clause-only
returns-in-Ok-clause-only c = λ other rest is.
    let text : c.args.bytes.now ≡ ended (start_line c.in-Ok.found.0) ++ c.in-Ok.found.1.now =
    c.in-Ok.ensures.start.1 ∙ sym (append_assoc (start_line c.in-Ok.found.0) (line_feed ∷ []) c.in-Ok.found.1.now) in
    one_start c.args.width c.args.height c.requires.wide c.requires.high c.args.below c.in-Ok.found.0 other c.in-Ok.found.1.now rest
    c.args.bytes.now (record { start = c.in-Ok.ensures.start.0; text = text }) is

pub returns-in-Err-clause-refused : goal.returns-in-Err-clause-refused
returns-in-Err-clause-refused c = rw c.at.ensures.error
    (start_left c.args.width c.args.height c.args.below c.args.bytes.now c.in-Err.fault c.in-Err.ensures.start)
