use Rattle.std.proofs.Common.{arith}
use Rattle.position_commands.proofs.fours.table_text.Goals as goal

pub write_table-requires-clause-root : goal.write_table-requires-clause-root
write_table-requires-clause-root g c =
    let some = c.requires.some in
    let count = c.len.ensures.count in
    let fits = c.requires.moves_fit in
    (omega (arith, some, count), c.requires.some_moves, omega (arith, fits))

pub returns-clause-text : goal.returns-clause-text
returns-clause-text g c = rw c.written.ensures.answer (rw (c.len.ensures.count, c.KIND.ensures) at c.in_ok-bytes.ensures.written)
