use Rattle.std.proofs.Common.{sym, ◌∙◌}
use Rattle.row_shapes.proofs.FiveLaws.{one-empty}
use Rattle.four_search.proofs.search.fate.Goals as goal

pub no_five_outcome-requires-clause-empty : goal.no_five_outcome-requires-clause-empty
no_five_outcome-requires-clause-empty g c = one-empty _ _ _ _ (sym c.requires.made ∙ c.in-One.is)
