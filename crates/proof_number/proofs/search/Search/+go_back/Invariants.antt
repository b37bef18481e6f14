use Rattle.proof_number.proofs.search.Search.+go_back.Given as goal

abbrev pub decreases-go_back : goal.decreases-go_back
decreases-go_back g l = l.node
