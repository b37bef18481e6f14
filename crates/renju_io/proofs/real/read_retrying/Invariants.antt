use Rattle.std.specs.Io.KnownBytes.{Keeps}
use Rattle.renju_io.proofs.real.read_retrying.Given as goal

-- the reads so far were cut off, and consumed nothing
abbrev pub invariant-loop : goal.invariant-loop
invariant-loop g l = Keeps (g.R.Read.remaining l.initial.reader) (g.R.Read.remaining l.reader)
