use Rattle.std.proofs.lemmas.Result.{err_from_is_err_and}
use Rattle.position_files.proofs.GameLaws.{no_moves}
use Rattle.position_files.proofs.games.moves_line.Goals as goal

pub returns-in_err-moves : goal.returns-in_err-moves
returns-in_err-moves c =
    let p = err_from_is_err_and c.from_residual.result c.from_residual.ensures.1 in
    rw (p.1, p.2) (record {
      moves = no_moves c.args.width c.args.height c.requires.wide c.requires.high c.args.bytes.now c.in-Some.text.now c.in-Some.rest.now
          c.in-Some.ensures.ended c.in-Some.ensures.line c.in_err-moves.field-0.0 c.in_err-moves.ensures.stones;
    })
