use Rattle.proof_number.proofs.search.Search.+take_back.Given as goal

abbrev pub decreases-take_back : goal.decreases-take_back
decreases-take_back g l = l.node
