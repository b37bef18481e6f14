use Rattle.std.proofs.Common.{arith}
use Rattle.renju_io.proofs.line_reader.LineReader.new.Goals as goal

pub invariant_of-result : goal.invariant_of-result
invariant_of-result c = record {
  text_room = omega (arith, c.in_ok-text.ensures.capacity);
  line_room = omega (arith, c.in_ok-line.ensures.capacity);
  line_short = omega (arith, c.in_ok-line.ensures.len);
  line_open = rw c.in_ok-line.ensures.items tt;
  piece_room = omega (arith, c.in_ok-piece.ensures.len);
  next_within = omega arith;
  end_within = omega arith;
  taken_within = omega arith;
  ended_within = λ _. omega arith;
  ended_empty = λ is_ended. cc;
}
