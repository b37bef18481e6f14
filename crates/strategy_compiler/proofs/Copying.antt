-- A table that holds nodes of another under other numbers, no two under one: its copies stand for the same trees, are
-- completed in the same order, reach the same nodes, and are different where the nodes are.
use Rattle.std.proofs.Common.{◌≡◌, ℕ, zero, suc, ◌+◌, Bool, true, false, cond, not, ◌&&◌, ◌||◌, ◌==◌, List, [], ◌∷◌, ◌++◌, map, filter}
use Rattle.std.proofs.Common.{refl, sym, ap, subst, ◌∙◌, arith, Option, Some, nat_le, nat_eq, slice_get, fold, Contains, rules}
use Rattle.std.specs.Prelude.{IsSomeAnd}
use Rattle.std.specs.List.{list_all, find}
use Rattle.std.specs.Option.{option_map, option_map_or, option_eq}
use Rattle.std.proofs.lemmas.Option.{same_Some}
use Rattle.std.proofs.lemmas.List.{map-append}
use Rattle.std.proofs.lemmas.List.Folds.{list_all-append}
use Rattle.std.proofs.lemmas.List.Sums.{sum_by-cons}
use Rattle.strategy_compiler.proofs.Common.{Point, Node, Answers, answers_of, answer, named, rest_node, is_winning, AtNode, renumbered_node}
use Rattle.strategy_compiler.proofs.Common.{renumbered_reply, renumbered_rest, renumbered_answers, Tree, Branches, Leaf, Fork, NoBranch}
use Rattle.strategy_compiler.proofs.Common.{Branch, StandsFor, StandsForAll, AnswersBriefly, replies_of, answers_to, commonest, times}
use Rattle.strategy_compiler.proofs.Common.{Reaches, Itself, Through, visits, visits_at, is_in_list, completed_within}
use Rattle.game_rules.proofs.Boards.{and_left, and_right}
use Rattle.strategy_graph.proofs.Answering.{answer-named}
use Rattle.strategy_graph.proofs.Copies.{Copies, answer-renumbered, is_winning-renumbered, named-renumbered}
use Rattle.strategy_graph.proofs.Renumbering.{points-renumbered, IsOneToOne, rest_node-renumbered, rest_nodes-renumbered, nexts-renumbered}
use Rattle.strategy_compiler.proofs.Walking.{contains-map, visits-pass}

module _ (f : ℕ → ℕ) (passes : ℕ → Bool) (one : IsOneToOne f passes) where
  -- ---- numbers among others, and the commonest
  among-map : (i : ℕ) (js : List ℕ) → passes i ≡ true → is_in_list (f i) (map f js) ≡ is_in_list i js
  among-map i [] p = refl
  among-map i (j ∷ js) p = λ k. one.apart j i p k || among-map i js p k

  times-map : (i : ℕ) (js : List ℕ) → passes i ≡ true → times (f i) (map f js) ≡ times i js
  times-map i [] p = refl
  times-map i (j ∷ js) p = sum_by-cons (λ k. cond (k == f i) 1 0) (f j) (map f js)
      ∙ (λ k. cond (one.apart j i p k) 1 0 + times-map i js p k) ∙ sym (sum_by-cons (λ k. cond (k == i) 1 0) j js)

  -- whether j is as common as any of these
  tops : ℕ → List ℕ → List ℕ → Bool
  tops j js ks = list_all (λ k. nat_le (times k js) (times j js)) ks

  tops-map : (j : ℕ) (js ks : List ℕ) → passes j ≡ true → list_all passes ks ≡ true → tops (f j) (map f js) (map f ks) ≡ tops j js ks
  unfolding tops
  tops-map j js [] p h = refl
  tops-map j js (k ∷ ks) p h =
      λ i. nat_le (times-map k js (and_left (passes k) _ h) i) (times-map j js p i) && tops-map j js ks p (and_right (passes k) _ h) i

  find-map : (js ks : List ℕ) → list_all passes js ≡ true → list_all passes ks ≡ true
      → find (λ j. tops j (map f js) (map f js)) (map f ks) ≡ option_map f (find (λ j. tops j js js) ks)
  find-map js [] h l = refl
  find-map js (k ∷ ks) h l = search (rules, tops-map, and_left, and_right, find-map js ks h (and_right (passes k) _ l))

  pub commonest-map : (js : List ℕ) → list_all passes js ≡ true → commonest (map f js) ≡ option_map f (commonest js)
  unfolding tops
  commonest-map js h = find-map js js h h

  -- ---- answers
  answers_to-renumbered : (a : Answers) (qs : List Point) → answers_to (renumbered_answers f a) qs ≡ map f (answers_to a qs)
  answers_to-renumbered a [] = refl
  answers_to-renumbered a (q ∷ qs) = search (rules, answer-renumbered, answers_to-renumbered a qs)

  module _ (a : Answers) (all : list_all passes (named a) ≡ true) where
    answers_to-pass : (qs : List Point) → list_all passes (answers_to a qs) ≡ true
    answers_to-pass [] = refl
    answers_to-pass (q ∷ qs) = search (rules, answer-named, answers_to-pass qs)

    rest-passes : (j : ℕ) → rest_node a.rest ≡ Some j → passes j ≡ true
    rest-passes j e = search (rules, and_right, list_all-append, and_left)

    -- whether an answer is that of the rest
    same-renumbered : (o r : Option ℕ) → ((j : ℕ) → r ≡ Some j → passes j ≡ true)
        → option_eq nat_eq (option_map f o) (option_map f r) ≡ option_eq nat_eq o r
    same-renumbered o r g = search rules

    beside-renumbered : (q : Point) → not (option_eq nat_eq (answer (renumbered_answers f a) q) (rest_node (renumbered_rest f a.rest)))
        ≡ not (option_eq nat_eq (answer a q) (rest_node a.rest))
    beside-renumbered q = search (rules, answer-renumbered, rest_node-renumbered, same-renumbered, rest-passes)

    pub brief-renumbered : (qs : List Point) → AnswersBriefly a qs → AnswersBriefly (renumbered_answers f a) qs
    brief-renumbered [] h = (ap (renumbered_rest f) h.0, ap (map (renumbered_reply f)) h.1)
    brief-renumbered (q ∷ qs) h = record {
      rest_is_commonest = (rest_node-renumbered f passes one) a.rest ∙ ap (option_map f) h.rest_is_commonest
          ∙ sym (commonest-map (answers_to a (q ∷ qs)) (answers_to-pass (q ∷ qs))) ∙ ap commonest (sym (answers_to-renumbered a (q ∷ qs)));
      others_are_listed = points-renumbered f a.replies
          ∙ h.others_are_listed ∙ ap (λ (p : Point → Bool). filter p (q ∷ qs)) (λ i r. sym (beside-renumbered r) i);
    }

  pub visits-renumbered : (a : Answers) → visits (renumbered_answers f a) ≡ map f (visits a)
  visits-renumbered a = search (rules, rest_nodes-renumbered, nexts-renumbered, map-append)

  contained-passes : (js : List ℕ) (j : ℕ) → list_all passes js ≡ true → Contains js j → passes j ≡ true
  contained-passes [] j h (k, l, e) = absurd (omega arith)
  contained-passes (x ∷ xs) j h (zero, l, e) = subst (λ (k : ℕ). passes k ≡ true) e (and_left (passes x) _ h)
  contained-passes (x ∷ xs) j h (suc k, l, e) = contained-passes xs j (and_right (passes x) _ h) (k, omega arith, e)

  module _ (t u : List Node) (copies : Copies f passes t u) where
    visits_at-copied : (i : ℕ) → passes i ≡ true → visits_at u (f i) ≡ map f (visits_at t i)
    visits_at-copied i p =
        let c = copies.copied i p in
        ap (λ (o : Option Node). option_map_or (λ n. visits (answers_of n)) o []) c.2
        ∙ visits-renumbered (answers_of c.0) ∙ sym (ap (λ (o : Option Node). map f (option_map_or (λ n. visits (answers_of n)) o [])) c.1)

    visits_at-pass : (i : ℕ) → passes i ≡ true → list_all passes (visits_at t i) ≡ true
    visits_at-pass i p =
        let c = copies.copied i p in
        ap (λ (o : Option Node). list_all passes (option_map_or (λ n. visits (answers_of n)) o [])) c.1
        ∙ visits-pass passes (answers_of c.0) c.3

    pub fold-copied : (g h : List ℕ → ℕ → List ℕ) → ((done : List ℕ) (j : ℕ) → passes j ≡ true → h (map f done) (f j) ≡ map f (g done j))
        → (js done : List ℕ) → list_all passes js ≡ true → fold h (map f done) (map f js) ≡ map f (fold g done js)
    fold-copied g h same [] done l = refl
    fold-copied g h same (j ∷ js) done l =
        search (rules, and_left, and_right, fold-copied g h same js (g done j) (and_right (passes j) _ l))

    -- the copies are completed in the same order
    pub within-copied : (k : ℕ) (done : List ℕ) (i : ℕ) → passes i ≡ true
        → completed_within k u (map f done) (f i) ≡ map f (completed_within k t done i)
    unfolding completed_within
    within-copied zero done i p = refl
    within-copied (suc k) done i p = ap
        (λ (b : Bool). cond b (map f done) (fold (completed_within k u) (map f done) (visits_at u (f i)) ++ f i ∷ [])) (among-map i done p)
        ∙ ap (λ (js : List ℕ). cond (is_in_list i done) (map f done) (fold (completed_within k u) (map f done) js ++ f i ∷ []))
        (visits_at-copied i p) ∙ ap (λ (ds : List ℕ). cond (is_in_list i done) (map f done) (ds ++ f i ∷ []))
        (fold-copied (completed_within k t) (completed_within k u) (λ d j q. within-copied k d j q) (visits_at t i) done
        (visits_at-pass i p)) ∙ ap (λ (ds : List ℕ). cond (is_in_list i done) (map f done) ds)
        (sym (map-append f (fold (completed_within k t) done (visits_at t i)) (i ∷ []))) ∙ by_test (is_in_list i done) where
          by_test : (b : Bool) → cond b (map f done) (map f (fold (completed_within k t) done (visits_at t i) ++ i ∷ [])) ≡ map f
              (cond b done (fold (completed_within k t) done (visits_at t i) ++ i ∷ []))
          by_test true = refl
          by_test false = refl

    -- they reach copies of what the nodes reach
    pub reaches-copied : (i j : ℕ) → passes i ≡ true → Reaches t i j → Reaches u (f i) (f j)
    reaches-copied _ _ p (Itself i) = Itself (f i)
    reaches-copied _ _ p (Through i j k n at c r) =
        let copy = copies.copied i p in
        let same : copy.0 ≡ n = same_Some copy.0 n (sym copy.1 ∙ at) in
        let all : list_all passes (named (answers_of n)) ≡ true =
        subst (λ (m : Node). list_all passes (named (answers_of m)) ≡ true) same copy.3 in
        let there : slice_get u (f i) ≡ Some (renumbered_node f n) = copy.2 ∙ ap (λ (m : Node). Some (renumbered_node f m)) same in
        Through (f i) (f j) (f k) (renumbered_node f n) there
        (subst (λ (js : List ℕ). Contains js (f j)) (sym (named-renumbered f (answers_of n))) (contains-map f (named (answers_of n)) j c))
        (reaches-copied j k (contained-passes (named (answers_of n)) j all c) r)

    at-copy : (i : ℕ) (P Q : Node → Type 0) → passes i ≡ true
        → ((n : Node) → list_all passes (named (answers_of n)) ≡ true → P n → Q (renumbered_node f n)) → AtNode (slice_get t i) P
        → AtNode (slice_get u (f i)) Q
    at-copy i P Q p g h = search rules

    answered-copied : (o : Option ℕ) (P Q : ℕ → Type 0) → ((j : ℕ) → o ≡ Some j → P j → Q (f j)) → IsSomeAnd o P
        → IsSomeAnd (option_map f o) Q
    answered-copied o P Q g h = search rules

    -- they stand for the same trees
    mutual
      unfolding StandsFor

      pub stands-copied : (i : ℕ) (tree : Tree) → passes i ≡ true → StandsFor t i tree → StandsFor u (f i) tree
      stands-copied i (Leaf q) p h = at-copy i (λ n. (n.attack ≡ q) × (is_winning n.rest ≡ true))
          (λ n. (n.attack ≡ q) × (is_winning n.rest ≡ true)) p (λ n all k. (k.0, is_winning-renumbered f n.rest ∙ k.1)) h
      stands-copied i (Fork q bs) p h =
          at-copy i (λ n. (n.attack ≡ q) × AnswersBriefly (answers_of n) (replies_of bs) × StandsForAll t (answers_of n) bs)
          (λ n. (n.attack ≡ q) × AnswersBriefly (answers_of n) (replies_of bs) × StandsForAll u (answers_of n) bs) p
          (λ n all k. (k.0, brief-renumbered (answers_of n) all (replies_of bs) k.1, stands_all-copied (answers_of n) bs all k.2)) h

      pub stands_all-copied : (a : Answers) (bs : Branches) → list_all passes (named a) ≡ true → StandsForAll t a bs
          → StandsForAll u (renumbered_answers f a) bs
      stands_all-copied a NoBranch all h = tt
      stands_all-copied a (Branch q s bs) all h = (
        subst (λ (o : Option ℕ). IsSomeAnd o (λ j. StandsFor u j s)) (sym (answer-renumbered f a q))
            (answered-copied (answer a q) (λ j. StandsFor t j s) (λ j. StandsFor u j s)
            (λ j e k. stands-copied j s (answer-named passes a q j all e) k) h.0),
        stands_all-copied a bs all h.1,
      )
