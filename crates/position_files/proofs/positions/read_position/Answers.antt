use Rattle.std.proofs.Common.{refl, sym, ◌∙◌}
use Rattle.position_files.specs.Positions.{IsTextOfPosition}
use Rattle.text_lines.proofs.TextLaws.{no_bytes, some_bytes}
use Rattle.position_files.proofs.PositionBad.{no_first_line, board_fault, more_lines_than_five, unlawful_fault, one_position}
use Rattle.position_files.proofs.PositionBad.{position_found}
use Rattle.position_files.proofs.positions.read_position.Goals as goal
use Rattle.position_files.proofs.positions.read_position.Goals.{Else-not-is_empty}

pub returns-in_default-clause-refused : goal.returns-in_default-clause-refused
returns-in_default-clause-refused c = no_first_line c.args.bytes.now (λ rest e. c.in_default.ensures.rest rest tt e)

pub returns-in-Err-clause-refused : goal.returns-in-Err-clause-refused
returns-in-Err-clause-refused c = rw (c.from.ensures, c.after-in-Err.ensures.error)
    (board_fault c.args.bytes.now c.in-Some.rest.now c.in-Some.ensures.rest.1 c.in-Err.error c.in-Err.ensures.refused)

pub returns-then-not-is_empty-clause-refused : goal.returns-then-not-is_empty-clause-refused
returns-then-not-is_empty-clause-refused c =
    more_lines_than_five c.args.bytes.now c.in-Some.rest.now c.in-Some.ensures.rest.1 c.in-Ok.found.0 c.in-Ok.found.1
    c.in-Ok.found.2.now c.in-Ok.ensures.board c.in-Ok.ensures.text
    (some_bytes c.in-Ok.found.2.now (sym c.is_empty.ensures ∙ c.if-not-is_empty.true))

-- the bytes are the text of the position that is read
text : (c : Else-not-is_empty) → IsTextOfPosition (record { kind = c.in-Ok.found.0; board = c.in-Ok.found.1 }) c.args.bytes.now
text c = position_found c.in-Ok.found.0 c.in-Ok.found.1 c.in-Ok.found.1 c.args.bytes.now c.in-Some.rest.now
    c.in-Ok.found.2.now c.in-Ok.ensures.board c.in-Some.ensures.rest.1 c.in-Ok.ensures.text
    (no_bytes c.in-Ok.found.2.now (sym c.is_empty.ensures ∙ c.if-not-is_empty.false)) refl

pub returns-in-Some-refusal-clause-refused : goal.returns-in-Some-refusal-clause-refused
returns-in-Some-refusal-clause-refused c =
    let read = text (goal.at.returns-in-Some-refusal-clause-refused c).Else-not-is_empty in
    unlawful_fault _ c.args.bytes.now c.in-Some-refusal.why read (sym c.in-Some-refusal.ensures.refusal)

pub returns-in-None-clause-found : goal.returns-in-None-clause-found
returns-in-None-clause-found c = text (goal.at.returns-in-None-clause-found c).Else-not-is_empty

pub returns-in-None-clause-only : goal.returns-in-None-clause-only
returns-in-None-clause-only c =
    λ other is. one_position _ other c.args.bytes.now (text (goal.at.returns-in-None-clause-only c).Else-not-is_empty) is
