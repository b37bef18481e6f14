-- A tree has one table, and branches have one start: nodes that stand for a same tree in two tables are walked over alike, and are the
-- same.
use Rattle.std.proofs.Common.{◌≡◌, ℕ, zero, suc, ◌+◌, ◌<◌, ◌≤◌, Bool, true, false, cond, not, ◌&&◌, ◌||◌, ◌==◌, List, [], ◌∷◌, ◌++◌, filter}
use Rattle.std.proofs.Common.{IsSomeAnd, rules, find, length, get_or, refl, sym, ap, subst, ◌∙◌, arith, Option, Some, None, nat_le, nat_eq}
use Rattle.std.proofs.Common.{slice_get, fold, Contains}
use Rattle.std.specs.List.{list_all, cons_option, range_with_len}
use Rattle.std.specs.Option.{option_map_or, option_eq}
use Rattle.std.proofs.lemmas.Bool.Decides.{Decides-eqb}
use Rattle.std.proofs.lemmas.Option.{same_Some}
use Rattle.std.proofs.lemmas.List.Sums.{sum_by-cons}
use Rattle.strategy_compiler.proofs.Common.{Point, Node, Rest, Answers, answers_of, answer, names_below, rest_node, rest_nodes, is_rising}
use Rattle.strategy_compiler.proofs.Common.{is_winning, IsTable, Tree, Branches, Leaf, Fork, NoBranch, Branch, StandsFor, StandsForAll}
use Rattle.strategy_compiler.proofs.Common.{IsBrief, replies_of, answers_to, commonest, times, AreDifferent, TreeHasOneTable, completed}
use Rattle.strategy_compiler.proofs.Common.{completed_after, completed_from, completed_within, is_in_list, last, visits, visits_at}
use Rattle.strategy_compiler.proofs.Common.{AnswersBriefly, BranchesHaveOneStart, IsStartOfBranches}
use Rattle.game_rules.proofs.PointLists.{filter-inside}
use Rattle.strategy_graph.specs.declared.Rest.TheVariants.{To, Nothing}
use Rattle.std.proofs.lemmas.List.FromFn.{length-range_with_len, get_or-range_with_len}
use Rattle.strategy_graph.proofs.Filling.{IsTable-lower}
use Rattle.strategy_compiler.proofs.Walking.{within-enough}
use Rattle.strategy_graph.proofs.Answering.{answer-below}
use Rattle.strategy_graph.proofs.Rising.{answered-as-listed}
use Rattle.strategy_graph.proofs.Pairs.{Pairs, Ends, Goes, OptionPair, Neither, Both, TellsApart, NodePair, AnswerPairs, IsThere}
use Rattle.strategy_graph.proofs.Pairs.{AtNode-some, there-at, same-pairs, pairs-append, pairs-length, pairs-at, pairs-weaker, fold-pairs}
use Rattle.strategy_graph.proofs.Pairs.{node-right, node-left, node-itself, bare-pair, winning-rest, rest-to, listed-pairs}
use Rattle.strategy_graph.proofs.Naming.{ext-slice_get}
use Rattle.strategy_compiler.proofs.Briefs.{commonest-there}

-- ---- lists that are related place by place

module _ (R : ℕ → ℕ → Type 0) (one : TellsApart R) where
  among-pairs : (i j : ℕ) (is js : List ℕ) → R i j → Pairs R is js → is_in_list i is ≡ is_in_list j js
  among-pairs i j _ _ r Ends = refl
  among-pairs i j _ _ r (Goes x y xs ys s p) = λ k. one.apart x i y j s r k || among-pairs i j xs ys r p k

  times-pairs : (i j : ℕ) (is js : List ℕ) → R i j → Pairs R is js → times i is ≡ times j js
  times-pairs i j _ _ r Ends = refl
  times-pairs i j _ _ r (Goes x y xs ys s p) = sum_by-cons (λ k. cond (k == i) 1 0) x xs
      ∙ (λ k. cond (one.apart x i y j s r k) 1 0 + times-pairs i j xs ys r p k) ∙ sym (sum_by-cons (λ k. cond (k == j) 1 0) y ys)

  tops : ℕ → List ℕ → List ℕ → Bool
  tops j js ks = list_all (λ k. nat_le (times k js) (times j js)) ks

  tops-pairs : (i j : ℕ) (is js xs ys : List ℕ) → R i j → Pairs R is js → Pairs R xs ys → tops i is xs ≡ tops j js ys
  unfolding tops
  tops-pairs i j is js _ _ r p Ends = refl
  tops-pairs i j is js _ _ r p (Goes x y xs ys s q) =
      λ k. nat_le (times-pairs x y is js s p k) (times-pairs i j is js r p k) && tops-pairs i j is js xs ys r p q k

  find-pairs : (is js xs ys : List ℕ) → Pairs R is js → Pairs R xs ys
      → OptionPair R (find (λ k. tops k is is) xs) (find (λ k. tops k js js) ys)
  find-pairs is js _ _ p Ends = Neither
  find-pairs is js _ _ p (Goes x y xs ys s q) =
      by_test (tops x is is) (tops y js js) (tops-pairs x y is js is js s p p) (find-pairs is js xs ys p q) where
        by_test : (a b : Bool) → a ≡ b → OptionPair R (find (λ k. tops k is is) xs) (find (λ k. tops k js js) ys)
            → OptionPair R (cond a (Some x) (find (λ k. tops k is is) xs)) (cond b (Some y) (find (λ k. tops k js js) ys))
        by_test true true e h = Both x y s
        by_test true false e h = cc
        by_test false true e h = cc
        by_test false false e h = h

  pub commonest-pairs : (is js : List ℕ) → Pairs R is js → OptionPair R (commonest is) (commonest js)
  unfolding tops
  commonest-pairs is js p = find-pairs is js is js p p

-- ---- nodes that stand for a same tree

pub record Alike (u v : List Node) (i j : ℕ) : Type 0 where
  pub tree : Tree
  pub left : StandsFor u i tree
  pub right : StandsFor v j tree

-- ---- where nodes that stand for a same tree are alike below, they are alike

answers-pairs : (R : ℕ → ℕ → Type 0) (a b : Answers) (qs : List Point) → AnswerPairs R a b qs → Pairs R (answers_to a qs) (answers_to b qs)
answers-pairs R a b [] h = Ends
answers-pairs R a b (q ∷ qs) h = by_answers (answer a q) (answer b q) h.0 (answers-pairs R a b qs h.2) where
  by_answers : (o p : Option ℕ) → OptionPair R o p → Pairs R (answers_to a qs) (answers_to b qs)
      → Pairs R (cons_option o (answers_to a qs)) (cons_option p (answers_to b qs))
  by_answers _ _ Neither k = k
  by_answers _ _ (Both x y g) k = Goes x y _ _ g k

others-alike : (R : ℕ → ℕ → Type 0) → TellsApart R → (a b : Answers) (o p : Option ℕ) (qs : List Point) → OptionPair R o p
    → AnswerPairs R a b qs → filter (λ q. not (option_eq nat_eq (answer a q) o)) qs ≡ filter (λ q. not (option_eq nat_eq (answer b q) p)) qs
others-alike R one a b o p [] g h = refl
others-alike R one a b o p (q ∷ qs) g h = search (rules, same-pairs, others-alike R one a b o p qs g h.2)

module _ (u v : List Node) (tu : IsTable u) (tv : IsTable v) where
  -- they stand for a same tree, and the first is below k
  abbrev pub AlikeBelow : ℕ → ℕ → ℕ → Type 0
  AlikeBelow k i j = Alike u v i j × (i < k)

  answers-from : (i : ℕ) (a b : Answers) (bs : Branches) → names_below a i ≡ true → StandsForAll u a bs → StandsForAll v b bs
      → AnswerPairs (AlikeBelow i) a b (replies_of bs)
  unfolding StandsForAll
  answers-from i a b NoBranch low h k = tt
  answers-from i a b (Branch q s bs) low h k =
      (both (answer a q) (answer b q) refl h.0 k.0, there (answer a q) h.0, answers-from i a b bs low h.1 k.1) where
        both : (o p : Option ℕ) → answer a q ≡ o → IsSomeAnd o (λ x. StandsFor u x s) → IsSomeAnd p (λ y. StandsFor v y s)
            → OptionPair (AlikeBelow i) o p
        both None p e x y = absurd x
        both (Some m) None e x y = absurd y
        both (Some m) (Some l) e x y = Both m l (record { tree = s; left = x; right = y }, answer-below a i q m low e)

        there : (o : Option ℕ) → IsSomeAnd o (λ x. StandsFor u x s) → IsThere o
        there None x = absurd x
        there (Some m) x = tt

  first-there : (R : ℕ → ℕ → Type 0) (a b : Answers) (q : Point) (qs : List Point) → AnswerPairs R a b (q ∷ qs)
      → commonest (answers_to a (q ∷ qs)) ≡ None → ⊥
  first-there R a b q qs h = search (rules, commonest-there)

  module _ (i : ℕ) (n m : Node) (one : TellsApart (AlikeBelow i)) (up : is_rising n.replies ≡ true) (up' : is_rising m.replies ≡ true) where
    fork-pair : (q : Point) (qs : List Point) → n.attack ≡ m.attack → IsBrief (answers_of n) (q ∷ qs) → IsBrief (answers_of m) (q ∷ qs)
        → AnswerPairs (AlikeBelow i) (answers_of n) (answers_of m) (q ∷ qs) → NodePair (AlikeBelow i) n m
    fork-pair q qs attack brief brief' h =
        let a : Answers = answers_of n in
        let b : Answers = answers_of m in
        let best = commonest-pairs (AlikeBelow i) one (answers_to a (q ∷ qs)) (answers_to b (q ∷ qs))
        (answers-pairs (AlikeBelow i) a b (q ∷ qs) h) in
        let rests : OptionPair (AlikeBelow i) (rest_node n.rest) (rest_node m.rest) =
        subst (λ (o : Option ℕ). OptionPair (AlikeBelow i) o (rest_node m.rest)) (sym brief.rest_is_commonest)
        (subst (λ (o : Option ℕ). OptionPair (AlikeBelow i) (commonest (answers_to a (q ∷ qs))) o) (sym brief'.rest_is_commonest) best) in
        let points = brief.others_are_listed ∙ others-alike (AlikeBelow i) one a b (rest_node n.rest) (rest_node m.rest) (q ∷ qs) rests h
        ∙ sym brief'.others_are_listed in
        let to = by_rest (rest_node n.rest) (rest_node m.rest) refl refl rests in
        record {
          attack = attack;
          winning = ap is_winning to.3 ∙ sym (ap is_winning to.4);
          points = points;
          rests =
              subst (λ (r : Rest). Pairs (AlikeBelow i) (rest_nodes r) (rest_nodes m.rest)) (sym to.3)
              (subst (λ (r : Rest). Pairs (AlikeBelow i) (to.0 ∷ []) (rest_nodes r)) (sym to.4) (Goes to.0 to.1 [] [] to.2 Ends));
          nexts =
              listed-pairs (AlikeBelow i) a b (q ∷ qs) n.replies m.replies h points
              (λ p c. filter-inside (λ p. not (option_eq nat_eq (answer a p) (rest_node a.rest))) (q ∷ qs) p
              (subst (λ (ps : List Point). Contains ps p) brief.others_are_listed c))
              (answered-as-listed a up) (answered-as-listed b up');
        } where
          by_rest : (o p : Option ℕ) → rest_node n.rest ≡ o → rest_node m.rest ≡ p → OptionPair (AlikeBelow i) o p
              → (x : ℕ) × (y : ℕ) × AlikeBelow i x y × (n.rest ≡ To x) × (m.rest ≡ To y)
          by_rest _ _ e f Neither = absurd
              (first-there (AlikeBelow i) (answers_of n) (answers_of m) q qs h (sym brief.rest_is_commonest ∙ e))
          by_rest _ _ e f (Both x y g) = (x, y, g, rest-to n.rest x e, rest-to m.rest y f)

  module _ (i j : ℕ) (n m : Node) (one : TellsApart (AlikeBelow i)) (at : slice_get u i ≡ Some n) (at' : slice_get v j ≡ Some m) where
    pair-by : (s : Tree) → StandsFor u i s → StandsFor v j s → NodePair (AlikeBelow i) n m
    unfolding StandsFor
    pair-by (Leaf p) h k =
        let here = AtNode-some (slice_get u i) n (λ n. (n.attack ≡ p) × (is_winning n.rest ≡ true)) at h in
        let there = AtNode-some (slice_get v j) m (λ n. (n.attack ≡ p) × (is_winning n.rest ≡ true)) at' k in
        bare-pair (AlikeBelow i) n m (here.0 ∙ sym there.0) (winning-rest n.rest here.1 ∙ sym (winning-rest m.rest there.1))
        (ap rest_nodes (winning-rest m.rest there.1)) ((tu.nodes i n at).winning here.1) ((tv.nodes j m at').winning there.1)
    pair-by (Fork p NoBranch) h k =
        let here = AtNode-some (slice_get u i) n (λ n. (n.attack ≡ p) × ((n.rest ≡ Nothing) × (n.replies ≡ [])) × Unit {0}) at h in
        let there = AtNode-some (slice_get v j) m (λ n. (n.attack ≡ p) × ((n.rest ≡ Nothing) × (n.replies ≡ [])) × Unit {0}) at' k in
        bare-pair (AlikeBelow i) n m (here.0 ∙ sym there.0) (here.1.0 ∙ sym there.1.0) (ap rest_nodes there.1.0) here.1.1 there.1.1
    pair-by (Fork p (Branch q s bs)) h k =
        let here = AtNode-some (slice_get u i) n
        (λ n. (n.attack ≡ p) × IsBrief (answers_of n) (q ∷ replies_of bs) × StandsForAll u (answers_of n) (Branch q s bs)) at h in
        let there = AtNode-some (slice_get v j) m
        (λ n. (n.attack ≡ p) × IsBrief (answers_of n) (q ∷ replies_of bs) × StandsForAll v (answers_of n) (Branch q s bs)) at' k in
        fork-pair i n m one ((tu.nodes i n at).rising) ((tv.nodes j m at').rising) q (replies_of bs) (here.0 ∙ sym there.0) here.1 there.1
        (answers-from i (answers_of n) (answers_of m) (Branch q s bs) ((tu.nodes i n at).below) here.2 there.2)

  node-at : (i : ℕ) (s : Tree) (t : List Node) → StandsFor t i s → (n : Node) × (slice_get t i ≡ Some n)
  unfolding StandsFor
  node-at i (Leaf p) t h = there-at (slice_get t i) _ h
  node-at i (Fork p bs) t h = there-at (slice_get t i) _ h

  module _ (du : AreDifferent u) (dv : AreDifferent v) where
    one-less : (k i : ℕ) → i ≤ k → TellsApart (AlikeBelow k) → TellsApart (AlikeBelow i)
    one-less k i l one = search rules

    below : (x i k : ℕ) → x < i → i < suc k → x < k
    below x i k a b = omega arith

    module _ (k : ℕ) (one : TellsApart (AlikeBelow k)) (i j : ℕ) (alike : Alike u v i j) (l : i < suc k) where
      left-node : (n : Node) × (slice_get u i ≡ Some n)
      left-node = node-at i alike.tree u alike.left

      right-node : (m : Node) × (slice_get v j ≡ Some m)
      right-node = node-at j alike.tree v alike.right

      node-pair : NodePair (AlikeBelow i) left-node.0 right-node.0
      node-pair = pair-by i j left-node.0 right-node.0 (one-less k i (omega arith) one) left-node.1 right-node.1 alike.tree alike.left
          alike.right

    module _ (k : ℕ) (one : TellsApart (AlikeBelow k)) (i i' j j' : ℕ) (a : Alike u v i j) (l : i < suc k) (a' : Alike u v i' j')
        (l' : i' < suc k) where
      to-right : i ≡ i' → j ≡ j'
      to-right e =
          let n = left-node k one i j a l in
          let n' = left-node k one i' j' a' l' in
          let m = right-node k one i j a l in
          let m' = right-node k one i' j' a' l' in
          let same : n.0 ≡ n'.0 = same_Some _ _ (sym n.1 ∙ ap (slice_get u) e ∙ n'.1) in
          let equal : m.0 ≡ m'.0 = node-right (AlikeBelow i) (AlikeBelow i') (λ x y z r s. (Decides-eqb y z).0
          (sym (one.apart x x y z (r.0, below x i k r.1 l) (s.0, below x i' k s.1 l')) ∙ (Decides-eqb x x).1 refl)) n.0 m.0 m'.0
          (node-pair k one i j a l) (subst (λ (x : Node). NodePair (AlikeBelow i') x m'.0) (sym same) (node-pair k one i' j' a' l')) in
          dv.different j j' m'.0 (m.1 ∙ ap Some equal) m'.1

      to-left : j ≡ j' → i ≡ i'
      to-left e =
          let n = left-node k one i j a l in
          let n' = left-node k one i' j' a' l' in
          let m = right-node k one i j a l in
          let m' = right-node k one i' j' a' l' in
          let same : m.0 ≡ m'.0 = same_Some _ _ (sym m.1 ∙ ap (slice_get v) e ∙ m'.1) in
          let equal : n.0 ≡ n'.0 = node-left (AlikeBelow i) (AlikeBelow i') (λ x y z r s. (Decides-eqb y z).0
          (one.apart y z x x (r.0, below y i k r.1 l) (s.0, below z i' k s.1 l') ∙ (Decides-eqb x x).1 refl)) m.0 n.0 n'.0
          (node-pair k one i j a l) (subst (λ (x : Node). NodePair (AlikeBelow i') n'.0 x) (sym same) (node-pair k one i' j' a' l')) in
          du.different i i' n'.0 (n.1 ∙ ap Some equal) n'.1

      apart-more : (i == i') ≡ (j == j')
      apart-more = search (rules, Decides-eqb, to-right, to-left)

    one-more : (k : ℕ) → TellsApart (AlikeBelow k) → TellsApart (AlikeBelow (suc k))
    one-more k one = record { apart = λ i i' j j' h h'. apart-more k one i i' j j' h.0 h.1 h'.0 h'.1 }

    one-all : (k : ℕ) → TellsApart (AlikeBelow k)
    one-all zero = record { apart = λ x x' y y' h h'. absurd (omega (arith, h.1)) }
    one-all (suc k) = one-more k (one-all k)

    alike-one : TellsApart (Alike u v)
    alike-one = record { apart = λ i i' j j' h h'. (one-all (suc (i + i'))).apart i i' j j' (h, omega arith) (h', omega arith) }

    pair-at : (i j : ℕ) (n m : Node) → slice_get u i ≡ Some n → slice_get v j ≡ Some m → Alike u v i j → NodePair (AlikeBelow i) n m
    pair-at i j n m at at' h = pair-by i j n m (one-all i) at at' h.tree h.left h.right

    -- ---- they are walked over alike

    visits-alike : (i j : ℕ) → Alike u v i j → Pairs (Alike u v) (visits_at u i) (visits_at v j)
    visits-alike i j h =
        let n = node-at i h.tree u h.left in
        let m = node-at j h.tree v h.right in
        let pair = pair-at i j n.0 m.0 n.1 m.1 h in
        subst (λ (o : Option Node). Pairs (Alike u v) (option_map_or (λ n. visits (answers_of n)) o []) (visits_at v j)) (sym n.1)
        (subst (λ (o : Option Node). Pairs (Alike u v) (visits (answers_of n.0)) (option_map_or (λ n. visits (answers_of n)) o []))
        (sym m.1) (pairs-append (Alike u v) _ _ _ _ (pairs-weaker (AlikeBelow i) (Alike u v) (λ x y r. r.0) _ _ pair.rests)
        (pairs-weaker (AlikeBelow i) (Alike u v) (λ x y r. r.0) _ _ pair.nexts)))

    within-alike : (k : ℕ) (d e : List ℕ) (i j : ℕ) → Alike u v i j → Pairs (Alike u v) d e
        → Pairs (Alike u v) (completed_within k u d i) (completed_within k v e j)
    unfolding completed_within
    within-alike zero d e i j h p = p
    within-alike (suc k) d e i j h p = by_test
        (is_in_list i d) (is_in_list j e) (among-pairs (Alike u v) alike-one i j d e h p) (pairs-append (Alike u v) _ _ (i ∷ []) (j ∷ [])
        (fold-pairs (Alike u v) (completed_within k u) (completed_within k v) (λ d e x y r q. within-alike k d e x y r q) (visits_at u i)
        (visits_at v j) d e (visits-alike i j h) p) (Goes i j [] [] h Ends)) where
          by_test : (a b : Bool) → a ≡ b → Pairs (Alike u v) (fold (completed_within k u) d (visits_at u i) ++ i ∷ [])
              (fold (completed_within k v) e (visits_at v j) ++ j ∷ [])
              → Pairs (Alike u v) (cond a d (fold (completed_within k u) d (visits_at u i) ++ i ∷ []))
              (cond b e (fold (completed_within k v) e (visits_at v j) ++ j ∷ []))
          by_test true true s q = p
          by_test true false s q = cc
          by_test false true s q = cc
          by_test false false s q = q

    after-alike : (d e : List ℕ) (i j : ℕ) → Alike u v i j → Pairs (Alike u v) d e
        → Pairs (Alike u v) (completed_after u d i) (completed_after v e j)
    unfolding completed_after
    after-alike d e i j h p =
        let k : ℕ = suc (i + j) in
        subst (λ (js : List ℕ). Pairs (Alike u v) js (completed_after v e j))
        (within-enough u (IsTable-lower u tu) k (suc i) i d (omega arith) (omega arith))
        (subst (Pairs (Alike u v) (completed_within k u d i))
        (within-enough v (IsTable-lower v tv) k (suc j) j e (omega arith) (omega arith)) (within-alike k d e i j h p))

    range-at : (n k : ℕ) → k < n → get_or (range_with_len 0 n) k 0 ≡ k
    range-at n k l = get_or-range_with_len 0 n k 0 l ∙ zero_plus k where
      zero_plus : (k : ℕ) → 0 + k ≡ k
      zero_plus k = omega arith

    -- ---- where nodes of the same numbers are alike, the tables are one

    module _ (numbers : Pairs (Alike u v) (range_with_len 0 (length u)) (range_with_len 0 (length v))) where
      same-length : length u ≡ length v
      same-length = sym (length-range_with_len 0 (length u)) ∙ pairs-length
          (Alike u v) (range_with_len 0 (length u)) (range_with_len 0 (length v)) numbers ∙ length-range_with_len 0 (length v)

      number-alike : (k : ℕ) → k < length u → Alike u v k k
      number-alike k l =
          let long = length-range_with_len 0 (length u) in
          let both = same-length in
          let pair = pairs-at (Alike u v) (range_with_len 0 (length u)) (range_with_len 0 (length v)) k numbers (omega (arith, long, l)) in
          subst (λ (j : ℕ). Alike u v j k) (range-at (length u) k l)
          (subst (Alike u v (get_or (range_with_len 0 (length u)) k 0)) (range-at (length v) k (omega (arith, both, l))) pair)

      same-number : (x z : ℕ) → x < length u → Alike u v x z → x ≡ z
      same-number x z low h = (Decides-eqb x z).0 (sym (alike-one.apart x x x z (number-alike x low) h) ∙ (Decides-eqb x x).1 refl)

      -- nodes that name related nodes of the tables are one
      pair-same : (k : ℕ) → k ≤ length u → (n m : Node) → NodePair (AlikeBelow k) n m → n ≡ m
      pair-same k l n m pair = node-right (λ x y. x ≡ y)
          (AlikeBelow k) (λ x y z e r. sym e ∙ same-number x z (lt_of x k (length u) r.1 l) r.0) n n m (node-itself n) pair where
            lt_of : (a b c : ℕ) → a < b → b ≤ c → a < c
            lt_of a b c h k = omega arith

      node-same : (k : ℕ) → k < length u → slice_get u k ≡ slice_get v k
      node-same k l =
          let h = number-alike k l in
          let n = node-at k h.tree u h.left in
          let m = node-at k h.tree v h.right in
          n.1 ∙ ap Some (pair-same k (omega arith) n.0 m.0 (pair-at k k n.0 m.0 n.1 m.1 h)) ∙ sym m.1

      numbered-same : u ≡ v
      numbered-same = ext-slice_get u v same-length node-same

    -- ---- starts that answer the replies of the same branches

    module _ (bs : Branches) (a b : Answers) (hu : IsStartOfBranches bs u a) (hv : IsStartOfBranches bs v b) where
      -- the answers as those of a node
      abbrev node_of : Answers → Node
      node_of c = record { attack = record { x = 0; y = 0 }; replies = c.replies; rest = c.rest }

      start-pair : NodePair (AlikeBelow (length u)) (node_of a) (node_of b)
      start-pair = by_branches bs hu.brief hv.brief hu.stands hv.stands where
        by_branches : (bs : Branches) → AnswersBriefly a (replies_of bs) → AnswersBriefly b (replies_of bs) → StandsForAll u a bs
            → StandsForAll v b bs → NodePair (AlikeBelow (length u)) (node_of a) (node_of b)
        by_branches NoBranch h k x y =
            bare-pair (AlikeBelow (length u)) (node_of a) (node_of b) refl (h.0 ∙ sym k.0) (ap rest_nodes k.0) h.1 k.1
        by_branches (Branch q s bs) h k x y =
            fork-pair (length u) (node_of a) (node_of b) (one-all (length u)) hu.start.rising hv.start.rising q (replies_of bs) refl h k
            (answers-from (length u) a b (Branch q s bs) hu.below x y)

      starts-alike : Pairs (Alike u v) (visits a) (visits b)
      starts-alike = pairs-append (Alike u v) _ _ _ _ (pairs-weaker (AlikeBelow (length u)) (Alike u v) (λ x y r. r.0) _ _ start-pair.rests)
          (pairs-weaker (AlikeBelow (length u)) (Alike u v) (λ x y r. r.0) _ _ start-pair.nexts)

      start-numbers : Pairs (Alike u v) (range_with_len 0 (length u)) (range_with_len 0 (length v))
      start-numbers = subst (λ (js : List ℕ). Pairs (Alike u v) js (range_with_len 0 (length v))) hu.numbered
          (subst (Pairs (Alike u v) (completed_from u (visits a))) hv.numbered
          (fold-pairs (Alike u v) (completed_after u) (completed_after v) (λ d e x y r p. after-alike d e x y r p) (visits a) (visits b) []
          [] starts-alike Ends))

      one-pair : (u ≡ v) × (a ≡ b)
      one-pair =
          (numbered-same start-numbers, ap answers_of (pair-same start-numbers (length u) (omega arith) (node_of a) (node_of b) start-pair))

-- ---- the table of a tree is one

pub one-table : TreeHasOneTable
unfolding completed_after
one-table tree u v hu hv =
    let alike : Alike u v (last u) (last v) = record { tree = tree; left = hu.stands; right = hv.stands } in
    numbered-same u v hu.table hv.table hu.different hv.different
    (subst (λ (js : List ℕ). Pairs (Alike u v) js (range_with_len 0 (length v))) hu.numbered
    (subst (Pairs (Alike u v) (completed u (last u))) hv.numbered
    (after-alike u v hu.table hv.table hu.different hv.different [] [] (last u) (last v) alike Ends)))

-- ---- and so are the table and the start of branches

pub one-start : BranchesHaveOneStart
one-start bs u v a b hu hv = one-pair u v hu.table hv.table hu.different hv.different bs a b hu hv
