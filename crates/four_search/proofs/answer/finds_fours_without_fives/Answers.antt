use Rattle.four_search.proofs.SoughtLaws.{wins-by}
use Rattle.four_search.proofs.answer.finds_fours_without_fives.Goals as goal

pub returns-clause-found : goal.returns-clause-found
returns-clause-found g c = rw c.is_win.ensures.win (wins-by _ _ _ _ _ c.in_ok-sought.ensures.sought)
