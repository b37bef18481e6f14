use Rattle.std.proofs.Common.{◌≡◌}
use Rattle.std.specs.Slice.Iter.{chunks_rest, chunks_size}
use Rattle.renju_io.proofs.Common.{piece_count, HasStayed}
use Rattle.renju_io.specs.declared.TheConstants.{MAX_PIECE_BYTES}
use Rattle.renju_io.proofs.AskedCalls.{IsAskedUpTo}
use Rattle.renju_io.proofs.TakenText.{HasTaken}
use Rattle.renju_io.proofs.writing.write_text.Given as goal

-- the sink has taken what stands before the rest that is still to be cut, a piece by each write
abbrev pub invariant-loop-piece : goal.invariant-loop-piece
invariant-loop-piece g l = HasTaken (g.O.Sink.written l.initial.sink) (g.O.Sink.written l.sink) l.text (chunks_rest l.piece-iterator)
    × HasStayed (g.O.Sink.faults l.initial.sink) (g.O.Sink.faults l.sink)
    × IsAskedUpTo (piece_count (chunks_rest l.piece-iterator)) (piece_count l.text)
    (g.O.Sink.asked l.initial.sink) (g.O.Sink.asked l.sink)
    × (chunks_size l.piece-iterator ≡ MAX_PIECE_BYTES)
