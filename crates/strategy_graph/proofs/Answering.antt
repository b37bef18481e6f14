-- Answers to replies: which nodes they are, and what holds of them.
use Rattle.std.proofs.Common.{rules, ◌≡◌, ℕ, ◌≤◌, ◌<◌, Bool, true, false, cond, List, [], ◌∷◌, ◌++◌, map, refl, arith, zero, suc, subst, ap}
use Rattle.std.proofs.Common.{IsSomeAnd, ◌+◌, length, drop, get_or, drop-cons, add-one, ◌∙◌, sym, Option, Some, None, nat_lt, Contains}
use Rattle.std.proofs.Common.{find, filter, option_map, ltb-true}
use Rattle.std.specs.List.{list_all, AllByRecursion}
use Rattle.std.specs.Option.{option_or}
use Rattle.std.proofs.Math.ListN.{drop_of_length-le}
use Rattle.strategy_graph.proofs.Common.{is_same_point, Grid, is_on, Point, Reply, Rest, Nothing, Answers, answer, listed_node, rest_node}
use Rattle.strategy_graph.proofs.Common.{rest_nodes, named, names_below, greatest, RepliesOn, is_winning, AtNode, Node}
use Rattle.game_rules.proofs.Boards.{and_left, and_right}

-- an answer is the node that is listed, or that of the rest
option_or_cases : (o p : Option ℕ) (j : ℕ) (W : Type 0) → (o ≡ Some j → W) → (p ≡ Some j → W) → option_or o p ≡ Some j → W
option_or_cases o p j W f g h = search rules

-- an answer is no deeper than the deepest node that is named
greatest-left : (d : ℕ → ℕ) (rs : List Reply) (js : List ℕ) (q : Point) (j : ℕ) → listed_node rs q ≡ Some j
    → d j ≤ greatest (map d (map (λ r. r.next) rs ++ js))
greatest-left d [] js q j h = cc
greatest-left d (r ∷ rs) js q j h = search (rules, greatest-left d rs js q j)

greatest-rest : (d : ℕ → ℕ) (rest : Rest) (j : ℕ) → rest_node rest ≡ Some j → d j ≤ greatest (map d (rest_nodes rest))
greatest-rest d rest j h = search rules

greatest-right : (d : ℕ → ℕ) (rs : List Reply) (js : List ℕ) (m : ℕ) → m ≤ greatest (map d js)
    → m ≤ greatest (map d (map (λ r. r.next) rs ++ js))
greatest-right d [] js m h = h
greatest-right d (r ∷ rs) js m h = let low = greatest-right d rs js m h in omega (arith, low)

pub answer-greatest : (d : ℕ → ℕ) (a : Answers) (q : Point) (j : ℕ) → answer a q ≡ Some j → d j ≤ greatest (map d (named a))
answer-greatest d a q j h = search (rules, option_or_cases, greatest-left, greatest-right, greatest-rest)

-- an answer is one of the nodes that are named
all-left : (p : ℕ → Bool) (rs : List Reply) (js : List ℕ) (q : Point) (j : ℕ) → list_all p (map (λ r. r.next) rs ++ js) ≡ true
    → listed_node rs q ≡ Some j → p j ≡ true
all-left p [] js q j all h = cc
all-left p (r ∷ rs) js q j all h = by_test (is_same_point r.at q) h (all-left p rs js q j (and_right (p r.next) _ all)) where
  by_test : (t : Bool) → option_map (λ r. r.next) (cond t (Some r) (find (λ r. is_same_point r.at q) rs)) ≡ Some j
      → (listed_node rs q ≡ Some j → p j ≡ true) → p j ≡ true
  by_test true h below = let e : r.next ≡ j = cc in let here : p r.next ≡ true = and_left (p r.next) _ all in cc
  by_test false h below = below h

all-right : (p : ℕ → Bool) (rs : List Reply) (js : List ℕ) → list_all p (map (λ r. r.next) rs ++ js) ≡ true → list_all p js ≡ true
all-right p [] js all = all
all-right p (r ∷ rs) js all = all-right p rs js (and_right (p r.next) _ all)

all-rest : (p : ℕ → Bool) (rest : Rest) (j : ℕ) → list_all p (rest_nodes rest) ≡ true → rest_node rest ≡ Some j → p j ≡ true
all-rest p rest j all h = search (rules, and_left)

-- what holds of each node that is named holds of an answer
pub answer-named : (p : ℕ → Bool) (a : Answers) (q : Point) (j : ℕ) → list_all p (named a) ≡ true → answer a q ≡ Some j → p j ≡ true
answer-named p a q j all h = search (rules, option_or_cases, all-left, all-rest, all-right)

-- where the answers name only nodes below k, an answer is below k
pub answer-below : (a : Answers) (k : ℕ) (q : Point) (j : ℕ) → names_below a k ≡ true → answer a q ≡ Some j → j < k
answer-below a k q j below h = ltb-true _ _ (answer-named (λ j. nat_lt j k) a q j below h)

-- ---- there is an answer of which a fact holds

pub IsSomeAnd-map : (o : Option ℕ) (P Q : ℕ → Type 0) → ((j : ℕ) → o ≡ Some j → P j → Q j) → IsSomeAnd o P → IsSomeAnd o Q
IsSomeAnd-map o P Q f h = search rules

pub IsSomeAnd-elim : (o : Option ℕ) (P : ℕ → Type 0) (W : Type 0) → ((j : ℕ) → o ≡ Some j → P j → W) → IsSomeAnd o P → W
IsSomeAnd-elim o P W f h = search rules

pub next-all : (P : ℕ → Type 0) (rs : List Reply) → AllByRecursion (λ r. P r.next) rs → (j : ℕ) → Contains (map (λ r. r.next) rs) j → P j
next-all P [] h j (k, l, e) = absurd (omega arith)
next-all P (r ∷ rs) h j (zero, l, e) = subst P e h.0
next-all P (r ∷ rs) h j (suc k, l, e) = next-all P rs h.1 j (k, omega arith, e)

pub nodes-append_nil : (t : List Node) → t ++ [] ≡ t
nodes-append_nil [] = refl
nodes-append_nil (n ∷ t) = ap (λ (r : List Node). n ∷ r) (nodes-append_nil t)

module _ (p : ℕ → Bool) (rs : List Reply) (i : ℕ) where
  pub find-next_hit : (d : Reply) → i < length rs → p (get_or rs i d).next ≡ true
      → find p (map (λ r. r.next) (drop i rs)) ≡ Some (get_or rs i d).next
  find-next_hit d l h = search (rules, drop-cons)

  pub find-next_miss : (d : Reply) → i < length rs → p (get_or rs i d).next ≡ false
      → find p (map (λ r. r.next) (drop i rs)) ≡ find p (map (λ r. r.next) (drop (i + 1) rs))
  find-next_miss d l h = search (rules, add-one, drop-cons)

  pub find-next_none : length rs ≤ i → find p (map (λ r. r.next) (drop i rs)) ≡ None
  find-next_none l = ap (λ (xs : List Reply). find p (map (λ r. r.next) xs)) (drop_of_length-le rs l)

-- replies at the points of others
pub replies-on : (b : Grid) (rs ss : List Reply) → map (λ r. r.at) rs ≡ map (λ r. r.at) ss → RepliesOn b ss → RepliesOn b rs
replies-on b [] ss e h = tt
replies-on b (r ∷ rs) [] e h = cc
replies-on b (r ∷ rs) (s ∷ ss) e h =
    let at : r.at ≡ s.at = cc in
    let later : map (λ r. r.at) rs ≡ map (λ r. r.at) ss = cc in
    (ap (is_on b) at ∙ h.0, replies-on b rs ss later h.1)

pub attack_at : (o : Option Node) (P : Node → Type 0) (p : Point) → ((n : Node) → P n → n.attack ≡ p) → AtNode o P
    → option_map (λ n. n.attack) o ≡ Some p
attack_at o P p f h = search rules

pub AtNode-parts : (o : Option Node) (P : Node → Type 0) → AtNode o P → (n : Node) × (o ≡ Some n) × P n
AtNode-parts o P h = search rules

pub nothing_not_winning : (r : Rest) → r ≡ Nothing → is_winning r ≡ true → ⊥
nothing_not_winning r e h = search rules

pub winning_no_answer : (n : Node) (q : Point) (r : Rest) → is_winning r ≡ true → n.replies ≡ []
    → answer (record { replies = n.replies; rest = r }) q ≡ None
winning_no_answer n q r h e = search rules

pub not_winning_by : (o : Option ℕ) (P : ℕ → Type 0) → o ≡ None → IsSomeAnd o P → ⊥
not_winning_by o P e h = search rules

-- replies at points that pass
pub passed : (f : Point → Bool) (ps : List Point) (rs : List Reply) → map (λ r. r.at) rs ≡ filter f ps
    → AllByRecursion (λ r. f r.at ≡ true) rs
passed f ps rs e = at_points rs (subst (AllByRecursion (λ q. f q ≡ true)) (sym e) (passing ps)) where
  at_points : (rs : List Reply) → AllByRecursion (λ q. f q ≡ true) (map (λ r. r.at) rs) → AllByRecursion (λ r. f r.at ≡ true) rs
  at_points [] h = tt
  at_points (r ∷ rs) h = (h.0, at_points rs h.1)

  passing : (ps : List Point) → AllByRecursion (λ q. f q ≡ true) (filter f ps)
  passing [] = tt
  passing (p ∷ ps) = by_test (f p) refl (passing ps) where
    by_test : (b : Bool) → f p ≡ b → AllByRecursion (λ q. f q ≡ true) (filter f ps)
        → AllByRecursion (λ q. f q ≡ true) (cond b (p ∷ filter f ps) (filter f ps))
    by_test true e rest = (e, rest)
    by_test false e rest = rest

pub push-all : (P : Reply → Type 0) (rs : List Reply) (r : Reply) → AllByRecursion P rs → P r → AllByRecursion P (rs ++ r ∷ [])
push-all P [] r h k = (k, tt)
push-all P (s ∷ rs) r h k = (h.0, push-all P rs r h.1 k)

pub push-points : (rs : List Reply) (r : Reply) → map (λ r. r.at) (rs ++ r ∷ []) ≡ map (λ r. r.at) rs ++ r.at ∷ []
push-points [] r = refl
push-points (s ∷ rs) r = ap (λ (ps : List Point). s.at ∷ ps) (push-points rs r)
