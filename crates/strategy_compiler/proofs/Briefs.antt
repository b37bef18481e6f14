-- A set of nodes in order: which node is at a place, and what is put in. The node that answers given replies: it is a node of a table,
-- answers each as given, and stands for the tree of these branches. The commonest of some numbers, found by going over them.
use Rattle.std.proofs.Common.{◌≡◌, inl, inr, ◌<◌, ◌≤◌, Bool, true, false, cond, List, [], ◌∷◌, ◌++◌, length, refl, sym, subst, ℕ, not, map}
use Rattle.std.proofs.Common.{filter, ap, ◌∙◌, Option, Some, None, Result, IfOk, OnOk, nat_lt, nat_eq, slice_get, All, Contains, ◌+◌, max}
use Rattle.std.proofs.Common.{◌==◌, take, get_or, arith, IsSome, nat_le, rules, find, count_by, sum_by, leb-true, leb-false, le-leb}
use Rattle.std.specs.List.{list_any, IsDistinct, list_all, AllByRecursion}
use Rattle.std.specs.Option.{option_or, option_eq}
use Rattle.std.proofs.lemmas.Bool.Decides.{Decides-eqb}
use Rattle.std.proofs.lemmas.List.Folds.{list_all-append}
use Rattle.std.proofs.lemmas.List.Elements.{All-from_recursion, All-filter}
use Rattle.std.proofs.lemmas.Result.{IfOk-weaker}
use Rattle.std.proofs.lemmas.List.{map_more, take_all}
use Rattle.std.proofs.lemmas.List.Sums.{sum_by-cons, get_or-le-sum_by}
use Rattle.strategy_compiler.proofs.Common.{Point, Node, MAX_NODES, Reply, Wins, IsNode, IsTable, Answers, answers_of, answer, is_rising}
use Rattle.strategy_compiler.proofs.Common.{is_winning, named, rest_node, rest_nodes, AtNode, greatest, AreDifferent, IsCompiled, PutsIn}
use Rattle.strategy_compiler.proofs.Common.{Tree, Branches, Leaf, Fork, NoBranch, Branch, StandsFor, StandsForAll, AnswersBranches}
use Rattle.strategy_compiler.proofs.Common.{AnswersBriefly, replies_of, answers_to, commonest, NamesOnly, answering_node, answers_beside}
use Rattle.strategy_compiler.proofs.Common.{brief_answers, commonest_next, rest_of, winning_node, times}
use Rattle.game_rules.proofs.Boards.{and_left, and_right}
use Rattle.strategy_graph.specs.contracts.NodePartialEq.TheImpl.{ghosts as node_ghosts}
use Rattle.strategy_graph.proofs.Equal.{lt_of_le, Contains-found, list_any-Contains, different_by}
use Rattle.strategy_graph.proofs.Filling.{IsTable-push}
use Rattle.strategy_graph.proofs.Common.{answer_at}
use Rattle.strategy_graph.proofs.Rising.{is_rising-filter, next-filter, Kept, kept_all, AnsweredAsGiven, point-given, all-next}
use Rattle.strategy_compiler.proofs.Standing.{stands-put_in}
use Rattle.indexmap.specs.IndexSet.{insert_key}

-- ---- the place of a node

-- ---- what is put in

put_by : (old : List Node) (n : Node) (new : List Node) (b : Bool) → list_any (node_ghosts.eq n) old ≡ b → new ≡ cond b old (old ++ n ∷ [])
    → PutsIn old n new
put_by old n new b e h = search (rules, Contains-found, list_any-Contains)

pub PutsIn-insert_key : (old : List Node) (n : Node) (new : List Node) → new ≡ insert_key node_ghosts.eq old n → PutsIn old n new
PutsIn-insert_key old n new h = put_by old n new (list_any (node_ghosts.eq n) old) refl h

-- ---- no two are equal

pub AreDifferent-distinct : (ks : List Node) → IsDistinct node_ghosts.eq ks → AreDifferent ks
AreDifferent-distinct ks h = record { different = different_by ks h }

-- ---- the nodes of a compiler

table_by : (old : List Node) (n : Node) (new : List Node) → IsTable old → IsNode n (length old) → length old < MAX_NODES → PutsIn old n new
    → IsTable new
table_by old n new t node room (inl h) = subst IsTable (sym h.1) t
table_by old n new t node room (inr h) = subst IsTable (sym h.1) (IsTable-push old n t node room)

-- they stay so once a node is put in
pub IsCompiled-insert_key : (old : List Node) (n : Node) (new : List Node) → IsCompiled old → IsNode n (length old)
    → (length old ≡ MAX_NODES → ⊥) → IsDistinct node_ghosts.eq new → new ≡ insert_key node_ghosts.eq old n → IsCompiled new
IsCompiled-insert_key old n new c node room distinct h = search (rules, table_by, lt_of_le, PutsIn-insert_key, AreDifferent-distinct)

pub PutsIn-found : (n : Node) (ks : List Node) → list_any (node_ghosts.eq n) ks ≡ true → PutsIn ks n ks
PutsIn-found n ks h = inl (Contains-found n ks h, refl)

-- ---- what is kept of the answers

found_passes : (p q : ℕ → Bool) (js : List ℕ) (j : ℕ) → list_all p js ≡ true → find q js ≡ Some j → p j ≡ true
found_passes p q [] j h e = cc
found_passes p q (k ∷ ks) j h e = search (rules, and_right, and_left, found_passes p q ks j (and_right (p k) _ h))

all-rest : (p : ℕ → Bool) (o : Option ℕ) → ((j : ℕ) → o ≡ Some j → p j ≡ true) → list_all p (rest_nodes (rest_of o)) ≡ true
all-rest p o h = search rules

not_winning : (o : Option ℕ) → is_winning (rest_of o) ≡ false
not_winning o = search rules

-- what holds of each node that answers holds of each that the answers in brief name
pub brief-named : (p : ℕ → Bool) (rs : List Reply) → list_all p (map (λ r. r.next) rs) ≡ true → list_all p (named (brief_answers rs)) ≡ true
brief-named p rs all = search (rules, list_all-append, next-filter, all-rest, found_passes)

pub brief-rising : (rs : List Reply) → is_rising rs ≡ true → is_rising (brief_answers rs).replies ≡ true
brief-rising rs rising = is_rising-filter (λ r. not (option_eq nat_eq (Some r.next) (commonest_next rs))) rs rising

pub brief-not_winning : (rs : List Reply) → is_winning (brief_answers rs).rest ≡ false
brief-not_winning rs = not_winning (commonest_next rs)

-- the node that answers rising replies by nodes below k is one of a table, as node k
pub IsNode-answering : (attack : Point) (rs : List Reply) (k : ℕ) → is_rising rs ≡ true → All (λ r. r.next < k) rs
    → IsNode (answering_node attack rs) k
IsNode-answering attack rs k rising below = record {
  below = brief-named (λ j. nat_lt j k) rs (all-next rs k below);
  rising = brief-rising rs rising;
  winning = λ e. cc (e, brief-not_winning rs);
}

-- ---- the answer to each reply

rest_node-of : (o : Option ℕ) → rest_node (rest_of o) ≡ o
rest_node-of o = search rules

equal_option : (j : ℕ) (o : Option ℕ) → option_eq nat_eq (Some j) o ≡ true → o ≡ Some j
equal_option j o h = search (rules, Decides-eqb)

answer_by : (o : Option ℕ) (j : ℕ) (b : Bool) → option_eq nat_eq (Some j) o ≡ b → option_or (cond (not b) (Some j) None) o ≡ Some j
answer_by o j b h = search (rules, equal_option)

as_given : (a : Answers) (o : Option ℕ) (rs ss : List Reply) → a.replies ≡ answers_beside o rs → rest_node a.rest ≡ o
    → AllByRecursion (Kept (λ r. not (option_eq nat_eq (Some r.next) o)) rs) ss → AnsweredAsGiven a ss
unfolding Kept
as_given a o rs [] e f h = tt
as_given a o rs (s ∷ ss) e f h = search (rules, answer_by, as_given a o rs ss e f h.1)

-- the answers in brief are as given
pub brief-as_given : (rs : List Reply) → is_rising rs ≡ true → AnsweredAsGiven (brief_answers rs) rs
brief-as_given rs h = as_given (brief_answers rs) (commonest_next rs) rs rs refl
    (rest_node-of (commonest_next rs)) (kept_all (λ r. not (option_eq nat_eq (Some r.next) (commonest_next rs))) rs h)

-- in a table that has the node
pub answers-at : (t : List Node) (i : ℕ) (attack : Point) (rs : List Reply) → slice_get t i ≡ Some (answering_node attack rs)
    → is_rising rs ≡ true → All (λ r. answer_at t i r.at ≡ Some r.next) rs
answers-at t i attack rs at h = search (rules, All-from_recursion, brief-as_given)

-- ---- the tree that the node stands for

replies-branches : (t : List Node) (rs : List Reply) (bs : Branches) → AnswersBranches t rs bs → map (λ r. r.at) rs ≡ replies_of bs
replies-branches t [] NoBranch h = refl
replies-branches t [] (Branch q s bs) h = absurd h
replies-branches t (r ∷ rs) NoBranch h = absurd h
replies-branches t (r ∷ rs) (Branch q s bs) h = rw (h.0, replies-branches t rs bs h.2) refl

answers_to-given : (a : Answers) (rs : List Reply) → AnsweredAsGiven a rs → answers_to a (map (λ r. r.at) rs) ≡ map (λ r. r.next) rs
answers_to-given a [] h = refl
answers_to-given a (r ∷ rs) h = rw (h.0, answers_to-given a rs h.1) refl

others-given : (a : Answers) (o : Option ℕ) (rs : List Reply) → AnsweredAsGiven a rs
    → map (λ r. r.at) (answers_beside o rs) ≡ filter (λ q. not (option_eq nat_eq (answer a q) o)) (map (λ r. r.at) rs)
others-given a o [] h = refl
others-given a o (r ∷ rs) h = search (rules, others-given a o rs h.1)

answers-briefly : (rs : List Reply) → AnsweredAsGiven (brief_answers rs) rs → AnswersBriefly (brief_answers rs) (map (λ r. r.at) rs)
answers-briefly [] h = (refl, refl)
answers-briefly (r ∷ rs) h =
    let a : Answers = brief_answers (r ∷ rs) in
    let o : Option ℕ = commonest_next (r ∷ rs) in
    record {
      rest_is_commonest = rest_node-of o ∙ ap commonest (sym (answers_to-given a (r ∷ rs) h));
      others_are_listed = others-given a o (r ∷ rs) h ∙ ap
          (λ (p : Option ℕ). filter (λ q. not (option_eq nat_eq (answer a q) p)) (map (λ r. r.at) (r ∷ rs))) (sym (rest_node-of o));
    }

stands-all : (t u : List Node) (a : Answers) (rs : List Reply) (bs : Branches) → ((j : ℕ) (s : Tree) → StandsFor t j s → StandsFor u j s)
    → AnsweredAsGiven a rs → AnswersBranches t rs bs → StandsForAll u a bs
unfolding StandsForAll
stands-all t u a [] NoBranch keep g h = tt
stands-all t u a [] (Branch q s bs) keep g h = absurd h
stands-all t u a (r ∷ rs) NoBranch keep g h = absurd h
stands-all t u a (r ∷ rs) (Branch q s bs) keep g h = search (rules, stands-all t u a rs bs keep g.1 h.2)

-- where each given node stands for the tree of a branch, the answers in brief stand for the branches in each list that keeps the trees
pub brief-branches : (t u : List Node) (rs : List Reply) → is_rising rs ≡ true → ((j : ℕ) (s : Tree) → StandsFor t j s → StandsFor u j s)
    → (bs : Branches) → AnswersBranches t rs bs → AnswersBriefly (brief_answers rs) (replies_of bs) × StandsForAll u (brief_answers rs) bs
brief-branches t u rs h keep bs given =
    let given_as = brief-as_given rs h in (
      subst (AnswersBriefly (brief_answers rs)) (replies-branches t rs bs given) (answers-briefly rs given_as),
      stands-all t u (brief_answers rs) rs bs keep given_as given,
    )

-- and the node put in stands for the tree with this attack and these branches
pub stands-answering : (old new : List Node) (i : ℕ) (attack : Point) (rs : List Reply) → is_rising rs ≡ true
    → PutsIn old (answering_node attack rs) new → slice_get new i ≡ Some (answering_node attack rs) → (bs : Branches)
    → AnswersBranches old rs bs → StandsFor new i (Fork attack bs)
unfolding StandsFor
stands-answering old new i attack rs h put at bs given =
    let P : Node → Type 0 = λ n. (n.attack ≡ attack) × AnswersBriefly (answers_of n) (replies_of bs) × StandsForAll new (answers_of n) bs in
    let all = brief-branches old new rs h (λ j s k. stands-put_in old (answering_node attack rs) new put j s k) bs given in
    subst (λ (o : Option Node). AtNode o P) (sym at) (refl, all.0, all.1)

pub stands-winning : (t : List Node) (i : ℕ) (attack : Point) → slice_get t i ≡ Some (winning_node attack) → StandsFor t i (Leaf attack)
unfolding StandsFor
stands-winning t i attack at = search rules

pub points-kept : (rs : List Reply) → All (λ r. Contains (map (λ s. s.at) rs) r.at) (brief_answers rs).replies
points-kept rs = search (rules, All-filter, point-given)

names-only : (attack : Point) (rs : List Reply) → NamesOnly attack (map (λ r. r.at) rs) (answering_node attack rs)
names-only attack rs = search (rules, points-kept)

-- ---- what a call answers

IfOk-both : {T E : Type 0} (r : Result T E) (P Q : T → Type 0) (W : Type 0) → ((x : T) → P x → W → Q x) → IfOk r P → OnOk r W → IfOk r Q
IfOk-both r P Q W f h k = search rules

module _ {E : Type 0} (old new : List Node) (r : Result ℕ E) (attack : Point) where
  pub answered-stands : (rs : List Reply) (n : Node) → n ≡ answering_node attack rs → is_rising rs ≡ true
      → IfOk r (λ i. slice_get new i ≡ Some n) → OnOk r (PutsIn old n new)
      → IfOk r (λ i. (bs : Branches) → AnswersBranches old rs bs → StandsFor new i (Fork attack bs))
  answered-stands rs n e rising = IfOk-both r (λ i. slice_get new i ≡ Some n)
      (λ i. (bs : Branches) → AnswersBranches old rs bs → StandsFor new i (Fork attack bs)) (PutsIn old n new)
      (λ i at put. stands-answering old new i attack rs rising (subst (λ (m : Node). PutsIn old m new) e put) (at ∙ ap Some e))

  pub answered-answers : (rs : List Reply) (n : Node) → n ≡ answering_node attack rs → is_rising rs ≡ true
      → IfOk r (λ i. slice_get new i ≡ Some n) → IfOk r (λ i. All (λ r. answer_at new i r.at ≡ Some r.next) rs)
  answered-answers rs n e rising = IfOk-weaker r (λ i. slice_get new i ≡ Some n)
      (λ i. All (λ r. answer_at new i r.at ≡ Some r.next) rs) (λ i at. answers-at new i attack rs (at ∙ ap Some e) rising)

  pub answered-points : (rs : List Reply) (n : Node) → n ≡ answering_node attack rs → IfOk r (λ i. slice_get new i ≡ Some n)
      → IfOk r (λ i. AtNode (slice_get new i) (NamesOnly attack (map (λ r. r.at) rs)))
  answered-points rs n e =
      IfOk-weaker r (λ i. slice_get new i ≡ Some n) (λ i. AtNode (slice_get new i) (NamesOnly attack (map (λ r. r.at) rs)))
      (λ i at. subst (λ (o : Option Node). AtNode o (NamesOnly attack (map (λ r. r.at) rs))) (sym (at ∙ ap Some e)) (names-only attack rs))

  pub answered-winning : (rs : List Reply) → rs ≡ []
      → IfOk r (λ i. slice_get new i ≡ Some (record { attack = attack; replies = rs; rest = Wins }))
      → IfOk r (λ i. StandsFor new i (Leaf attack))
  answered-winning rs e = search (rules, IfOk-weaker, stands-winning)

-- how many of the answers are the node j
abbrev pub answers_of_node : List Reply → ℕ → ℕ
answers_of_node answers j = count_by (λ r. r.next == j) answers

-- the first of the numbers at which f is no less than m
abbrev pub first_with : (ℕ → ℕ) → ℕ → List ℕ → Option ℕ
first_with f m js = find (λ j. nat_le m (f j)) js

-- best is the first of the numbers at which f is greatest, and most is what it is there
pub record IsBestSoFar (f : ℕ → ℕ) (js : List ℕ) (best : Option ℕ) (most : ℕ) : Type 0 where
  pub best_is : best ≡ first_with f most js
  pub most_is : most ≡ greatest (map f js)
  pub some : 0 < most → IsSome best

-- among the answers that were seen, best is the node of the most answers, and most is of how many
abbrev pub IsCommonestSoFar : List Reply → List Reply → Option ℕ → ℕ → Type 0
IsCommonestSoFar answers seen best most = IsBestSoFar (answers_of_node answers) (map (λ r. r.next) seen) best most

-- ---- find

find-push_none : (p : ℕ → Bool) (js : List ℕ) (j : ℕ) → find p js ≡ None → find p (js ++ j ∷ []) ≡ cond (p j) (Some j) None
find-push_none p [] j h = refl
find-push_none p (x ∷ xs) j h = search (rules, find-push_none p xs j)

find-push_some : (p : ℕ → Bool) (js : List ℕ) (j k : ℕ) → find p js ≡ Some k → find p (js ++ j ∷ []) ≡ Some k
find-push_some p [] j k h = cc
find-push_some p (x ∷ xs) j k h = search (rules, find-push_some p xs j k)

-- none has more than the greatest
none_above : (f : ℕ → ℕ) (m : ℕ) (js : List ℕ) → greatest (map f js) < m → find (λ j. nat_le m (f j)) js ≡ None
none_above f m [] h = refl
none_above f m (j ∷ js) h = search (rules, leb-true, none_above f m js (omega arith))

greatest-push : (f : ℕ → ℕ) (js : List ℕ) (j : ℕ) → greatest (map f (js ++ j ∷ [])) ≡ max (greatest (map f js)) (f j)
greatest-push f [] j = omega arith
greatest-push f (x ∷ xs) j = let later = greatest-push f xs j in omega (arith, later)

-- ---- one number more

pub best-none : (f : ℕ → ℕ) → IsBestSoFar f [] None 0
best-none f = record { best_is = refl; most_is = refl; some = λ h. absurd (omega arith) }

module _ (f : ℕ → ℕ) (js : List ℕ) (best : Option ℕ) (most j : ℕ) (so_far : IsBestSoFar f js best most) where
  -- with a greater value
  pub best-greater : most < f j → IsBestSoFar f (js ++ j ∷ []) (Some j) (f j)
  best-greater h = search (rules, none_above, find-push_none, le-leb, greatest-push)

  keep_by : (o : Option ℕ) → best ≡ o → 0 < most → first_with f most (js ++ j ∷ []) ≡ best
  keep_by o e l = search (rules, find-push_some)

  -- with one that is no greater, and not 0
  pub best-kept : f j ≤ most → 1 ≤ f j → IsBestSoFar f (js ++ j ∷ []) best most
  best-kept h l = search (rules, keep_by, greatest-push)

-- the number that is found is one of them
found-le : (f : ℕ → ℕ) (p : ℕ → Bool) (js : List ℕ) (k : ℕ) → find p js ≡ Some k → f k ≤ greatest (map f js)
found-le f p [] k h = cc
found-le f p (j ∷ js) k h = search (rules, found-le f p js k)

-- with the best itself
pub best-again : (f : ℕ → ℕ) (js : List ℕ) (best : Option ℕ) (most j : ℕ) → IsBestSoFar f js best most → best ≡ Some j → 1 ≤ f j
    → IsBestSoFar f (js ++ j ∷ []) best most
best-again f js best most j so_far e l =
    let most_is : most ≡ greatest (map f js) = so_far.most_is in
    let low = found-le f (λ k. nat_le most (f k)) js j (sym so_far.best_is ∙ e) in
    best-kept f js best most j so_far (omega (arith, most_is, low)) l

-- ---- at the end

le_greatest : (f : ℕ → ℕ) (m : ℕ) (js : List ℕ) → list_all (λ k. nat_le (f k) m) js ≡ nat_le (greatest (map f js)) m
le_greatest f m [] = sym (le-leb 0 m (omega arith))
le_greatest f m (j ∷ js) = search (rules, le_greatest f m js)

best-all : (f : ℕ → ℕ) (js : List ℕ) (best : Option ℕ) (most : ℕ) → IsBestSoFar f js best most
    → best ≡ find (λ j. list_all (λ k. nat_le (f k) (f j)) js) js
best-all f js best most h =
    h.best_is ∙ ap (λ (m : ℕ). first_with f m js) h.most_is ∙ ap (λ (p : ℕ → Bool). find p js) (λ i j. sym (le_greatest f (f j) js) i)

-- ---- answers

times-map : (answers : List Reply) (j : ℕ) → answers_of_node answers j ≡ times j (map (λ r. r.next) answers)
times-map answers j = sum_by-map_of (λ k. cond (k == j) 1 0) answers where
  sum_by-map_of : (g : ℕ → ℕ) (rs : List Reply) → sum_by (λ r. g r.next) rs ≡ sum_by g (map (λ r. r.next) rs)
  sum_by-map_of g [] = refl
  sum_by-map_of g (r ∷ rs) = sum_by-cons (λ r. g r.next) r rs
      ∙ ap (λ (n : ℕ). g r.next + n) (sum_by-map_of g rs) ∙ sym (sum_by-cons g r.next (map (λ r. r.next) rs))

positive : (answers : List Reply) (i : ℕ) (d : Reply) → i < length answers → 1 ≤ answers_of_node answers (get_or answers i d).next
positive answers i d l =
    let one : ℕ = 1 in
    let here : cond ((get_or answers i d).next == (get_or answers i d).next) one 0 ≡ one =
    ap (λ (b : Bool). cond b one 0) ((Decides-eqb (get_or answers i d).next (get_or answers i d).next).1 refl) in
    let low = get_or-le-sum_by (λ r. cond (r.next == (get_or answers i d).next) 1 0) answers i d l in
    omega (arith, here, low)

module _ (answers : List Reply) (i : ℕ) (d : Reply) (best : Option ℕ) (most count : ℕ)
    (so_far : IsCommonestSoFar answers (take i answers) best most) (l : i < length answers)
    (is : count ≡ answers_of_node answers (get_or answers i d).next) where
  one_more : map (λ r. r.next) (take (i + 1) answers) ≡ map (λ r. r.next) (take i answers) ++ (get_or answers i d).next ∷ []
  one_more = map_more (λ (r : Reply). r.next) answers i d l

  pub commonest-greater : (best' : Option ℕ) (most' : ℕ) → best' ≡ Some (get_or answers i d).next → most' ≡ count → most < count
      → IsCommonestSoFar answers (take (i + 1) answers) best' most'
  commonest-greater best' most' b m h = subst (λ (js : List ℕ). IsBestSoFar (answers_of_node answers) js best' most') (sym one_more)
      (rw (b, m ∙ is) (best-greater (answers_of_node answers) (map (λ r. r.next) (take i answers)) best most (get_or answers i d).next
      so_far (omega arith)))

  pub commonest-kept : (best' : Option ℕ) (most' : ℕ) → best' ≡ best → most' ≡ most → count ≤ most
      → IsCommonestSoFar answers (take (i + 1) answers) best' most'
  commonest-kept best' most' b m h =
      let low = positive answers i d l in
      subst (λ (js : List ℕ). IsBestSoFar (answers_of_node answers) js best' most') (sym one_more)
      (rw (b, m) (best-kept (answers_of_node answers) (map (λ r. r.next) (take i answers)) best most (get_or answers i d).next so_far
      (omega arith) low))

pub equal_best : (o : Option ℕ) (j : ℕ) → option_eq nat_eq o (Some j) ≡ true → o ≡ Some j
equal_best o j h = search (rules, Decides-eqb)

-- an answer that is the best already
pub commonest-again : (answers : List Reply) (i : ℕ) (d : Reply) (best : Option ℕ) (most : ℕ)
    → IsCommonestSoFar answers (take i answers) best most → i < length answers → best ≡ Some (get_or answers i d).next
    → IsCommonestSoFar answers (take (i + 1) answers) best most
commonest-again answers i d best most so_far l e =
    subst (λ (js : List ℕ). IsBestSoFar (answers_of_node answers) js best most) (sym (map_more (λ (r : Reply). r.next) answers i d l))
    (best-again (answers_of_node answers) (map (λ r. r.next) (take i answers)) best most (get_or answers i d).next so_far e
    (positive answers i d l))

-- once all were seen, it is the commonest of all
pub commonest-all : (answers : List Reply) (i : ℕ) (best : Option ℕ) (most : ℕ) → length answers ≤ i
    → IsCommonestSoFar answers (take i answers) best most → best ≡ commonest_next answers
commonest-all answers i best most l h =
    let nexts : List ℕ = map (λ r. r.next) answers in
    let all : IsBestSoFar (answers_of_node answers) nexts best most =
    subst (λ (rs : List Reply). IsCommonestSoFar answers rs best most) (take_all i answers l) h in
    best-all (answers_of_node answers) nexts best most all
    ∙ ap (λ (f : ℕ → ℕ). find (λ j. list_all (λ k. nat_le (f k) (f j)) nexts) nexts) (λ p j. times-map answers j p)

-- ---- some number is the commonest

some-greatest : (f : ℕ → ℕ) (m : ℕ) (js : List ℕ) → 1 ≤ m → m ≤ greatest (map f js) → find (λ j. nat_le m (f j)) js ≡ None → ⊥
some-greatest f m [] l h e = absurd (omega arith)
some-greatest f m (j ∷ js) l h e = search (rules, leb-false, some-greatest f m js l)

pub commonest-there : (j : ℕ) (js : List ℕ) → commonest (j ∷ js) ≡ None → ⊥
commonest-there j js e =
    let f : ℕ → ℕ = λ k. times k (j ∷ js) in
    let once = sum_by-cons (λ k. cond (k == j) 1 0) j js in
    let one : ℕ = 1 in
    let here : cond (j == j) one 0 ≡ one = ap (λ (b : Bool). cond b one 0) ((Decides-eqb j j).1 refl) in
    let low : one ≤ f j = omega (arith, once, here) in
    some-greatest f (greatest (map f (j ∷ js))) (j ∷ js) (omega (arith, low)) (omega arith)
    (ap (λ (p : ℕ → Bool). find p (j ∷ js)) (λ i k. sym (le_greatest f (f k) (j ∷ js)) i) ∙ e)
