-- What the words of the contracts stand for.
use Rattle.std.proofs.Common.{ℕ, List}
use Rattle.proof_number.proofs.Common.{Grid, RuleKind, Tree, Node, Search, Grows, HasGrown, IsAtLeaf, IsSearching, Searches, StandsAt}
use Rattle.proof_number.proofs.Common.{known_searching, known_at_leaf, known_grown}

pub searching-facts : {rule : RuleKind} {s : Search} {t : Tree} {c : List Node} {way : ℕ → Type 0} → Searches rule s t c way
    → IsSearching rule s t c way
searching-facts (known_searching h) = h

pub leaf-facts : {rule : RuleKind} {s : Search} {t : Tree} {c : List Node} {leaf : ℕ} {view : Grid} → StandsAt rule s t c leaf view
    → IsAtLeaf rule s t c leaf view
leaf-facts (known_at_leaf h) = h

pub grown-facts : {rule : RuleKind} {s v : Search} {t u : Tree} {d : List Node} {leaf : ℕ} → Grows rule s v t u d leaf
    → HasGrown rule s v t u d leaf
grown-facts (known_grown h) = h
