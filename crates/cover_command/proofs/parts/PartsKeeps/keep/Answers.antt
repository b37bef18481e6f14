use Rattle.std.proofs.Common.{rules}
use Rattle.cover_command.proofs.PartLaws.{kept-more}
use Rattle.cover_command.proofs.parts.PartsKeeps.keep.Goals as goal

pub returns-in-Attack-clause-keeps : goal.returns-in-Attack-clause-keeps
returns-in-Attack-clause-keeps c = λ files kept. kept-more _ _ c.args.file (search rules) files kept

pub returns-clause-keeps : goal.returns-clause-keeps
returns-clause-keeps c = λ files kept. kept-more _ _ c.args.file (search rules) files kept
