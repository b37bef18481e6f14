-- What nodes reach: walks complete nothing else, and a table that grows keeps it. A node stands for the same trees in each table that
-- begins with its table.
use Rattle.std.proofs.Common.{◌≡◌, ◌⊎◌, inl, inr, ℕ, zero, suc, ◌<◌, Bool, true, false, cond, ◌||◌, ◌==◌, List, [], ◌∷◌, ◌++◌, length, refl}
use Rattle.std.proofs.Common.{sym, subst, ◌∙◌, arith, Option, Some, None, fold, slice_get, Contains, ◌*◌, ◌≤◌, rules}
use Rattle.std.specs.Option.{option_map_or, option_map}
use Rattle.std.proofs.lemmas.Bool.Decides.{Decides-eqb}
use Rattle.strategy_compiler.proofs.Common.{Point, RuleKind, Grid, Node, Rest, Wins, Answers, answers_of, NamesLower, answer, depth}
use Rattle.strategy_compiler.proofs.Common.{is_winning, IsTable, AtNode, Accepted, arrivals, visits, visits_at, is_in_list}
use Rattle.strategy_compiler.proofs.Common.{completed_within, completed_after, completed_from, Reaches, Itself, Through, ReachedFrom}
use Rattle.strategy_compiler.proofs.Common.{GrowthKeepsReach, Tree, Branches, Leaf, Fork, NoBranch, Branch, StandsFor, StandsForAll}
use Rattle.strategy_compiler.proofs.Common.{GrowthKeepsTrees, AnswersBriefly, replies_of, PutsIn, winning_node, IsCompiled, StaysOnBoard}
use Rattle.game_rules.proofs.Common.{wins_by_fours}
use Rattle.strategy_graph.proofs.Naming.{slice_get-longer, slice_get-shorter}
use Rattle.strategy_graph.proofs.Answering.{IsSomeAnd-map, attack_at, AtNode-parts, nothing_not_winning, winning_no_answer, not_winning_by}
use Rattle.strategy_compiler.proofs.Walking.{among-push, visited-named, named-below, lt_trans}

-- ---- what walks complete

module _ (t : List Node) where
  visits-through : (i j k : ℕ) → Contains (visits_at t i) j → Reaches t j k → Reaches t i k
  visits-through i j k c r = by_node (slice_get t i) refl c where
    by_node : (o : Option Node) → slice_get t i ≡ o → Contains (option_map_or (λ n. visits (answers_of n)) o []) j → Reaches t i k
    by_node None at (m, l, e) = absurd (omega arith)
    by_node (Some n) at c = Through i j k n at (visited-named (answers_of n) j c) r

  -- what a walk from each of these numbers completes was completed before, or one of them reaches it
  fold-reached : (f : List ℕ → ℕ → List ℕ) (k : ℕ)
      → ((done : List ℕ) (j : ℕ) → is_in_list k (f done j) ≡ true → (is_in_list k done ≡ true) ⊎ Reaches t j k) → (js done : List ℕ)
      → is_in_list k (fold f done js) ≡ true → (is_in_list k done ≡ true) ⊎ ReachedFrom t js k
  fold-reached f k step [] done h = inl h
  fold-reached f k step (j ∷ js) done h = elim (fold-reached f k step js (f done j) h) [
    | inl e ↦ elim (step done j e) [ inl before ↦ inl before | inr r ↦ inr (j, (0, omega arith, refl), r) ]
    | inr later ↦ inr (later.0, (suc later.1.0, (let inside = later.1.1 in omega (arith, inside)), later.1.2), later.2)
  ]

  either : (a b : Bool) → (a || b) ≡ true → (a ≡ true) ⊎ (b ≡ true)
  either a b h = search rules

  within-reached : (f k : ℕ) (done : List ℕ) (i : ℕ) → is_in_list k (completed_within f t done i) ≡ true
      → (is_in_list k done ≡ true) ⊎ Reaches t i k
  unfolding completed_within
  within-reached zero k done i h = inl h
  within-reached (suc f) k done i h = by_test (is_in_list i done) h
      (λ e. inner (fold-reached (completed_within f t) k (λ d j. within-reached f k d j) (visits_at t i) done e)) where
        inner : (is_in_list k done ≡ true) ⊎ ReachedFrom t (visits_at t i) k → (is_in_list k done ≡ true) ⊎ Reaches t i k
        inner (inl before) = inl before
        inner (inr r) = inr (visits-through i r.0 k r.1 r.2)

        by_test : (b : Bool) → is_in_list k (cond b done (fold (completed_within f t) done (visits_at t i) ++ i ∷ [])) ≡ true
            → (is_in_list k (fold (completed_within f t) done (visits_at t i)) ≡ true → (is_in_list k done ≡ true) ⊎ Reaches t i k)
            → (is_in_list k done ≡ true) ⊎ Reaches t i k
        by_test true h next = inl h
        by_test false h next =
            elim (either (is_in_list k (fold (completed_within f t) done (visits_at t i))) (i == k)
            (sym (among-push k i (fold (completed_within f t) done (visits_at t i))) ∙ h)) [
              | inl e ↦ next e
              | inr same ↦ inr (subst (Reaches t i) ((Decides-eqb i k).0 same) (Itself i))
            ]

  walk-reached : (k : ℕ) (done : List ℕ) (i : ℕ) → is_in_list k (completed_after t done i) ≡ true
      → (is_in_list k done ≡ true) ⊎ Reaches t i k
  unfolding completed_after
  walk-reached k done i h = within-reached (suc i) k done i h

  -- one of the roots reaches each node that walks from them complete
  pub completed-reached : (roots : List ℕ) (k : ℕ) → is_in_list k (completed_from t roots) ≡ true → ReachedFrom t roots k
  completed-reached roots k h = search (rules, fold-reached, walk-reached)

-- ---- what a node reaches, however the table grows

pub reaches-longer : (t more : List Node) (i k : ℕ) → Reaches t i k → Reaches (t ++ more) i k
reaches-longer t more _ _ (Itself i) = Itself i
reaches-longer t more _ _ (Through i j k n at c r) = Through i j k n (slice_get-longer t more i n at) c (reaches-longer t more j k r)

pub reaches-shorter : (t more : List Node) → NamesLower t → (i k : ℕ) → i < length t → Reaches (t ++ more) i k → Reaches t i k
reaches-shorter t more lower _ _ l (Itself i) = Itself i
reaches-shorter t more lower _ _ l (Through i j k n at c r) =
    let here = slice_get-shorter t more i n l at in
    Through i j k n here c (reaches-shorter t more lower j k (lt_trans j i (length t) (named-below t lower i n here j c) l) r)

-- what is reached is no higher
pub reaches-inside : (t : List Node) → NamesLower t → (i k : ℕ) → i < length t → Reaches t i k → k < length t
reaches-inside t lower _ _ l (Itself i) = l
reaches-inside t lower _ _ l (Through i j k n at c r) =
    reaches-inside t lower j k (lt_trans j i (length t) (named-below t lower i n at j c) l) r

pub growth_keeps-reach : GrowthKeepsReach
growth_keeps-reach t more lower i k l = (reaches-shorter t more lower i k l, reaches-longer t more i k)

AtNode-from : (o p : Option Node) (P Q : Node → Type 0) → ((n : Node) → o ≡ Some n → p ≡ Some n) → ((n : Node) → P n → Q n) → AtNode o P
    → AtNode p Q
AtNode-from o p P Q f g h = search rules

mutual
  unfolding StandsFor

  stands-longer : (t more : List Node) (i : ℕ) (tree : Tree) → StandsFor t i tree → StandsFor (t ++ more) i tree
  stands-longer t more i (Leaf p) h = AtNode-from (slice_get t i) (slice_get (t ++ more) i) _ _ (slice_get-longer t more i) (λ n k. k) h
  stands-longer t more i (Fork p bs) h = AtNode-from (slice_get t i)
      (slice_get (t ++ more) i) _ _ (slice_get-longer t more i) (λ n k. (k.0, k.1, stands_all-longer t more (answers_of n) bs k.2)) h

  stands_all-longer : (t more : List Node) (a : Answers) (bs : Branches) → StandsForAll t a bs → StandsForAll (t ++ more) a bs
  stands_all-longer t more a NoBranch h = tt
  stands_all-longer t more a (Branch q s bs) h = (
    IsSomeAnd-map (answer a q) (λ j. StandsFor t j s) (λ j. StandsFor (t ++ more) j s) (λ j e k. stands-longer t more j s k) h.0,
    stands_all-longer t more a bs h.1,
  )

pub growth_keeps-trees : GrowthKeepsTrees
growth_keeps-trees t more i tree h = stands-longer t more i tree h

-- and once a node is put in
pub stands-put_in : (old : List Node) (n : Node) (new : List Node) → PutsIn old n new → (i : ℕ) (tree : Tree) → StandsFor old i tree
    → StandsFor new i tree
stands-put_in old n new p i tree h = by_put p where
  by_put : PutsIn old n new → StandsFor new i tree
  by_put (inl k) = subst (λ (t : List Node). StandsFor t i tree) (sym k.1) h
  by_put (inr k) = subst (λ (t : List Node). StandsFor t i tree) (sym k.1) (stands-longer old (n ∷ []) i tree h)

unfoldable pub tree_attack : Tree → Point
tree_attack (Leaf p) = p
tree_attack (Fork p bs) = p

pub tree-attack : (t : List Node) (i : ℕ) (tree : Tree) → StandsFor t i tree
    → option_map (λ n. n.attack) (slice_get t i) ≡ Some (tree_attack tree)
unfolding StandsFor tree_attack
tree-attack t i tree h = search (rules, attack_at)

pub at_fork : (t : List Node) (i : ℕ) (p : Point) (bs : Branches) → StandsFor t i (Fork p bs)
    → (n : Node) × (slice_get t i ≡ Some n) × StandsForAll t (answers_of n) bs
unfolding StandsFor
at_fork t i p bs h = search rules

-- what is known of a node that stands for the plan of a win within n moves
pub record IsWritten (rule : RuleKind) (t : List Node) (i n : ℕ) (b : Grid) : Type 0 where
  pub accepted : Accepted rule t i b
  pub deep : depth t i ≤ n
  pub wins : wins_by_fours rule (depth t i) b ≡ true
  pub on_board : StaysOnBoard b t i
  pub short : arrivals rule t i b ≤ b.width * b.height * n

pub winning-is : (t : List Node) (i : ℕ) (n : Node) (x : Point)
    → IsTable t → slice_get t i ≡ Some n → n.attack ≡ x → is_winning n.rest ≡ true → n ≡ winning_node x
winning-is t i n x table at plays win =
    let none = (table.nodes i n at).winning win in
    let rest = by_rest n.rest win in
    λ k. record { attack = plays k; replies = none k; rest = rest k } where
      by_rest : (r : Rest) → is_winning r ≡ true → r ≡ Wins
      by_rest Wins h = refl
      by_rest _ h = cc

pub leaf_node : (t : List Node) (i : ℕ) (x : Point) → StandsFor t i (Leaf x)
    → (n : Node) × (slice_get t i ≡ Some n) × ((n.attack ≡ x) × (is_winning n.rest ≡ true))
unfolding StandsFor
leaf_node t i x h = AtNode-parts (slice_get t i) (λ n. (n.attack ≡ x) × (is_winning n.rest ≡ true)) h

pub fork_node : (t : List Node) (i : ℕ) (x : Point) (bs : Branches) → StandsFor t i (Fork x bs) → (n : Node)
    × (slice_get t i ≡ Some n) × ((n.attack ≡ x) × AnswersBriefly (answers_of n) (replies_of bs) × StandsForAll t (answers_of n) bs)
unfolding StandsFor
fork_node t i x bs h = search (rules, AtNode-parts)

pub forks_not_winning : (t : List Node) (i : ℕ) (n : Node) → IsTable t → slice_get t i ≡ Some n → (bs : Branches)
    → AnswersBriefly (answers_of n) (replies_of bs) → StandsForAll t (answers_of n) bs → is_winning n.rest ≡ true → ⊥
unfolding StandsFor
forks_not_winning t i n table at NoBranch brief stands win = nothing_not_winning n.rest brief.0 win
forks_not_winning t i n table at (Branch q s bs) brief stands win = not_winning_by
    (answer (answers_of n) q) (λ j. StandsFor t j s) (winning_no_answer n q n.rest win ((table.nodes i n at).winning win)) stands.0

pub compiled-lower : (t : List Node) → IsCompiled t → NamesLower t
compiled-lower t ok = record { lower = λ i n at. (ok.table.nodes i n at).below }
