use Rattle.std.proofs.Common.{refl, sym, ◌∙◌}
use Rattle.text_lines.proofs.TextLaws.{no_bytes, some_bytes}
use Rattle.position_files.specs.Games.{IsTextOfGame}
use Rattle.position_files.proofs.GameLaws.{sized, no_first_line, board_fault, moves_fault, more_lines_than_six, unlawful_fault, one_game}
use Rattle.position_files.proofs.GameLaws.{game_found}
use Rattle.position_files.proofs.games.read_game.Goals as goal
use Rattle.position_files.proofs.games.read_game.Goals.{Else-not-is_empty}

pub returns-in_default-clause-refused : goal.returns-in_default-clause-refused
returns-in_default-clause-refused c = no_first_line c.args.bytes.now (λ rest e. c.in_default.ensures.rest rest tt e)

pub returns-in-Err-clause-refused : goal.returns-in-Err-clause-refused
returns-in-Err-clause-refused c = rw (c.from.ensures, c.after-in-Err.ensures.error)
    (board_fault c.args.bytes.now c.in-Some.rest.now c.in-Some.ensures.rest.1 c.in-Err.error c.in-Err.ensures.refused)

pub returns-in-Err-moves_line-clause-refused : goal.returns-in-Err-moves_line-clause-refused
returns-in-Err-moves_line-clause-refused c = rw (c.from-in-Err-moves_line.ensures, c.at.ensures.error)
    (moves_fault c.args.bytes.now c.in-Some.rest.now c.in-Some.ensures.rest.1 c.in-Ok.found.0 c.in-Ok.found.1 _ c.in-Ok.ensures.board
    c.in-Ok.ensures.text c.width.result c.height.result c.width.ensures.width c.height.ensures.height c.in-Err-moves_line.fault
    c.in-Err-moves_line.ensures.moves)

pub returns-then-not-is_empty-clause-refused : goal.returns-then-not-is_empty-clause-refused
returns-then-not-is_empty-clause-refused c =
    let moves = c.in-Ok-moves_line.ensures.moves in
    more_lines_than_six c.args.bytes.now c.in-Some.rest.now c.in-Some.ensures.rest.1 c.in-Ok.found.0 c.in-Ok.found.1 _ c.in-Ok.ensures.board
    c.in-Ok.ensures.text c.in-Ok-moves_line.found.0 c.in-Ok-moves_line.found.1.now
    (sized c.in-Ok.found.1 c.width.result c.height.result c.in-Ok-moves_line.found.0 c.width.ensures.width c.height.ensures.height
    moves.0) moves.1 (some_bytes c.in-Ok-moves_line.found.1.now (sym c.is_empty.ensures ∙ c.if-not-is_empty.true))

-- the bytes are the text of the file that is read
text : (c : Else-not-is_empty)
    → IsTextOfGame (record { kind = c.in-Ok.found.0; board = c.in-Ok.found.1; moves = c.in-Ok-moves_line.found.0 }) c.args.bytes.now
text c =
    let moves = c.in-Ok-moves_line.ensures.moves in
    game_found c.in-Ok.found.0 c.in-Ok.found.1 c.in-Ok.found.1 c.in-Ok-moves_line.found.0 c.args.bytes.now c.in-Some.rest.now _
    c.in-Ok-moves_line.found.1.now c.in-Ok.ensures.board
    (sized c.in-Ok.found.1 c.width.result c.height.result c.in-Ok-moves_line.found.0 c.width.ensures.width c.height.ensures.height
    moves.0) c.in-Some.ensures.rest.1 c.in-Ok.ensures.text moves.1
    (no_bytes c.in-Ok-moves_line.found.1.now (sym c.is_empty.ensures ∙ c.if-not-is_empty.false)) refl

pub returns-in-Some-refusal-clause-refused : goal.returns-in-Some-refusal-clause-refused
returns-in-Some-refusal-clause-refused c =
    let read = text (goal.at.returns-in-Some-refusal-clause-refused c).Else-not-is_empty in
    unlawful_fault _ c.args.bytes.now c.in-Some-refusal.why read (sym c.in-Some-refusal.ensures.refusal)

pub returns-in-None-clause-found : goal.returns-in-None-clause-found
returns-in-None-clause-found c = text (goal.at.returns-in-None-clause-found c).Else-not-is_empty

pub returns-in-None-clause-only : goal.returns-in-None-clause-only
returns-in-None-clause-only c =
    λ other is. one_game _ other c.args.bytes.now (text (goal.at.returns-in-None-clause-only c).Else-not-is_empty) is
