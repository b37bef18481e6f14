use Rattle.open_windows.proofs.Sums.{three-added}
use Rattle.open_windows.proofs.added.added.Goals as goal

pub returns : goal.returns
returns c = record { sum = λ x. three-added c.args.a c.args.b c.args.c x }
