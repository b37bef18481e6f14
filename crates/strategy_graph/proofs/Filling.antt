-- A table that grows says the same at the nodes that it had. Tables that a node is added to, with the depths of their nodes.
use Rattle.std.proofs.Common.{◌≡◌, ℕ, zero, suc, ◌≤◌, ◌<◌, Bool, true, List, [], ◌∷◌, ◌++◌, length, refl, ap, sym, subst, ◌∙◌, arith, Some}
use Rattle.std.proofs.Common.{slice_get, nat_lt, ◌+◌, map, ◌⊎◌, inl, inr, length-append, get_or, replicate, append_assoc, Option, None}
use Rattle.std.proofs.Common.{IfSome, slice_index, rules, ltb-true, lt-ltb}
use Rattle.std.specs.List.{list_all}
use Rattle.std.proofs.lemmas.Option.{slice_get-get_or}
use Rattle.std.proofs.lemmas.List.{get_or_push, get_or_append_left, append-nil, length-replicate}
use Rattle.std.proofs.lemmas.Bool.{cases_lt}
use Rattle.strategy_graph.proofs.Common.{Point, Node, Reply, Rest, MAX_NODES, Wins, Answers, answers_of, named, names_below, NamesLower}
use Rattle.strategy_graph.proofs.Common.{SaysSame, StartSaysSame, answer, IsNode, IsTable, AreDepths, IsTableWithDepths, greatest}
use Rattle.strategy_graph.proofs.Common.{node_depth, depth_within, depth, start_depth}
use Rattle.game_rules.proofs.Boards.{and_left, and_right}
use Rattle.strategy_graph.proofs.Copies.{iff_by, renumbered-same, renumbered_answers-same, Copies, depth_within-copied}
use Rattle.strategy_graph.proofs.Copies.{accepted_within-copied, arrivals_within-copied, game-copied, attacks-copied, Leads-copied}
use Rattle.strategy_graph.proofs.Starts.{starts-same}
use Rattle.strategy_graph.proofs.Fuel.{depth-step}
use Rattle.strategy_graph.proofs.Answering.{answer-below}

-- ---- a longer table has the nodes of the shorter

has_node : (t more : List Node) (i : ℕ) → i < length t → (n : Node) × (slice_get t i ≡ Some n) × (slice_get (t ++ more) i ≡ Some n)
has_node [] more i l = absurd (omega arith)
has_node (n ∷ t) more zero l = (n, refl, refl)
has_node (n ∷ t) more (suc i) l = has_node t more i (omega arith)

pub list_all-weaker : (p q : ℕ → Bool) → ((j : ℕ) → p j ≡ true → q j ≡ true) → (js : List ℕ) → list_all p js ≡ true → list_all q js ≡ true
list_all-weaker p q f [] h = refl
list_all-weaker p q f (j ∷ js) h = rw (f j (and_left (p j) _ h), list_all-weaker p q f js (and_right (p j) _ h)) refl

-- what names only nodes below i names only nodes below a greater number
pub names_below-more : (a : Answers) (i k : ℕ) → i ≤ k → names_below a i ≡ true → names_below a k ≡ true
names_below-more a i k l h = search (rules, list_all-weaker, ltb-true, lt-ltb)

growth-Copies : (t more : List Node) → NamesLower t → Copies (λ j. j) (λ j. nat_lt j (length t)) t (t ++ more)
growth-Copies t more lower = record {
  copied = λ i p.
      let low : i < length t = ltb-true _ _ p in
      let here = has_node t more i low in (
        here.0,
        here.1,
        here.2 ∙ ap Some (sym (renumbered-same here.0)),
        names_below-more (answers_of here.0) i (length t) (omega (arith, low)) (lower.lower i here.0 here.1),
      );
}

-- node i says the same in the longer table
pub growth-same : (t more : List Node) → NamesLower t → (i : ℕ) → i < length t → SaysSame t i (t ++ more) i
growth-same t more lower i l =
    let c = growth-Copies t more lower in
    let p : nat_lt i (length t) ≡ true = lt-ltb _ _ l in
    record {
      same_depth = depth_within-copied (λ j. j) _ t (t ++ more) c (suc i) i p;
      same_accepted = λ rule b. iff_by _ _ (accepted_within-copied (λ j. j) _ t (t ++ more) c rule (suc i) i b p);
      same_arrivals = λ rule b. arrivals_within-copied (λ j. j) _ t (t ++ more) c rule (suc i) i b p;
      same_game = λ rule b qs. game-copied (λ j. j) _ t (t ++ more) c rule i b qs p;
      same_attacks = λ rule b qs. attacks-copied (λ j. j) _ t (t ++ more) c rule i b qs p;
      same_leads = λ rule b line why. iff_by _ _ (Leads-copied (λ j. j) _ t (t ++ more) c rule i b line why p);
    }

-- a start that names nodes of the shorter table
pub growth-same-start : (t more : List Node) → NamesLower t → (a : Answers) → names_below a (length t) ≡ true
    → StartSaysSame t a (t ++ more) a
growth-same-start t more lower a below =
    let c = growth-Copies t more lower in
    subst
    (StartSaysSame t a (t ++ more)) (renumbered_answers-same a) (starts-same (λ j. j) (λ j. nat_lt j (length t)) t (t ++ more) (record {
      deep = λ j p. depth_within-copied (λ j. j) _ t (t ++ more) c (suc j) j p;
      accepted = λ rule j p b. accepted_within-copied (λ j. j) _ t (t ++ more) c rule (suc j) j b p;
      count = λ rule j p b. arrivals_within-copied (λ j. j) _ t (t ++ more) c rule (suc j) j b p;
      leads = λ rule line why j p b. Leads-copied (λ j. j) _ t (t ++ more) c rule j b line why p;
    }) a below)

-- a node of the longer table is one of the shorter, or the new one
pushed_node : (t : List Node) (n : Node) (i : ℕ) (m : Node) → slice_get (t ++ n ∷ []) i ≡ Some m
    → (slice_get t i ≡ Some m) ⊎ ((length t ≡ i) × (n ≡ m))
pushed_node [] n zero m h = inr (refl, cc)
pushed_node [] n (suc i) m h = cc
pushed_node (x ∷ t) n zero m h = inl h
pushed_node (x ∷ t) n (suc i) m h = elim (pushed_node t n i m h) [ inl e ↦ inl e | inr p ↦ inr (ap suc p.0, p.1) ]

-- a table stays one when such a node is added to it, and there is room
pub IsTable-push : (t : List Node) (n : Node) → IsTable t → IsNode n (length t) → length t < MAX_NODES → IsTable (t ++ n ∷ [])
IsTable-push t n ok new room = record {
  nodes = λ i m h. elim (pushed_node t n i m h) [
    | inl e ↦ ok.nodes i m e
    | inr p ↦ subst (λ (j : ℕ). IsNode m j) p.0 (subst (λ (v : Node). IsNode v (length t)) p.1 new)
  ];
  size = omega (arith, length-append t (n ∷ []));
}

-- a table names only lower nodes
pub IsTable-lower : (t : List Node) → IsTable t → NamesLower t
IsTable-lower t ok = record { lower = λ i n e. (ok.nodes i n e).below }

-- ---- depths

greatest_le : (d : ℕ → ℕ) (m : ℕ) → ((j : ℕ) → d j ≤ m) → (js : List ℕ) → greatest (map d js) ≤ m
greatest_le d m h [] = omega arith
greatest_le d m h (j ∷ js) = let here = h j in let rest = greatest_le d m h js in omega (arith, here, rest)

node_depth_le : (o : Option Node) (d : ℕ → ℕ) (m : ℕ) → ((j : ℕ) → d j ≤ m) → node_depth o d ≤ suc m
node_depth_le None d m h = omega arith
node_depth_le (Some n) d m h = let low = greatest_le d m h (named (answers_of n)) in omega (arith, low)

within_le : (k : ℕ) (t : List Node) (i : ℕ) → depth_within k t i ≤ k
unfolding depth_within
within_le zero t i = omega arith
within_le (suc k) t i = node_depth_le (slice_get t i) (depth_within k t) k (within_le k t)

-- no node is deeper than one more than its number
depth-le : (t : List Node) (i : ℕ) → depth t i ≤ suc i
depth-le t i = within_le (suc i) t i

greatest_same : (p : ℕ → ℕ) (d : ℕ → ℕ) (k : ℕ) → ((j : ℕ) → j < k → p j ≡ d j) → (js : List ℕ) → list_all (λ j. nat_lt j k) js ≡ true
    → greatest (map p js) ≡ greatest (map d js)
greatest_same p d k h [] all = refl
greatest_same p d k h (j ∷ js) all = search (rules, ltb-true, and_left, and_right, greatest_same p d k h js (and_right (nat_lt j k) _ all))

greatest_under : (p : ℕ → ℕ) (k : ℕ) → ((j : ℕ) → j < k → p j ≤ k) → (js : List ℕ) → list_all (λ j. nat_lt j k) js ≡ true
    → greatest (map p js) ≤ k
greatest_under p k h [] all = omega arith
greatest_under p k h (j ∷ js) all = search (rules, ltb-true, and_left, and_right, greatest_under p k h js (and_right (nat_lt j k) _ all))

-- the greatest depth by the list is that of the table
greatest-depths : (t : List Node) (ds : List ℕ) → AreDepths t ds → (a : Answers) → names_below a (length t) ≡ true
    → greatest (map (λ j. slice_index ds j) (named a)) ≡ start_depth t a
greatest-depths t ds h a below = greatest_same (λ j. slice_index ds j) (depth t) (length t) h.each (named a) below

-- the nodes that are named are no deeper than the table is long
pub greatest-le : (t : List Node) (ds : List ℕ) → AreDepths t ds → (a : Answers) → names_below a (length t) ≡ true
    → greatest (map (λ j. slice_index ds j) (named a)) ≤ length t
greatest-le t ds h a below = search (rules, greatest_under, depth-le)

node_depth-at : (t : List Node) (i : ℕ) (n : Node) → NamesLower t → slice_get t i ≡ Some n → depth t i ≡ suc (start_depth t (answers_of n))
node_depth-at t i n lower e = depth-step t lower i ∙ ap (λ (o : Option Node). node_depth o (depth t)) e

pub last_node : (t : List Node) (n : Node) → slice_get (t ++ n ∷ []) (length t) ≡ Some n
last_node [] n = refl
last_node (m ∷ t) n = last_node t n

-- a node that is added is one deeper than the deepest that it names
added_depth : (t : List Node) (ds : List ℕ) (n : Node) → NamesLower t → NamesLower (t ++ n ∷ []) → AreDepths t ds
    → names_below (answers_of n) (length t) ≡ true
    → depth (t ++ n ∷ []) (length t) ≡ suc (greatest (map (λ j. slice_index ds j) (named (answers_of n))))
added_depth t ds n lower longer h below = node_depth-at (t ++ n ∷ []) (length t) n longer (last_node t n)
    ∙ ap suc ((growth-same-start t (n ∷ []) lower (answers_of n) below).same_depth ∙ sym (greatest-depths t ds h (answers_of n) below))

AreDepths-push : (t : List Node) (ds : List ℕ) (n : Node) (d : ℕ) → NamesLower t → AreDepths t ds → d ≡ depth (t ++ n ∷ []) (length t)
    → AreDepths (t ++ n ∷ []) (ds ++ d ∷ [])
AreDepths-push t ds n d lower h e = search (rules, length-append, cases_lt, get_or_append_left, growth-same, get_or_push)

-- a table and its depths stay so when such a node is added with its depth
pub IsTableWithDepths-push : (t : List Node) (ds : List ℕ) (n : Node) (m : ℕ) → IsTableWithDepths t ds → IsNode n (length t)
    → length t < MAX_NODES → m ≡ greatest (map (λ j. slice_index ds j) (named (answers_of n)))
    → IsTableWithDepths (t ++ n ∷ []) (ds ++ (m + 1) ∷ [])
IsTableWithDepths-push t ds n m h new room value =
    let longer : IsTable (t ++ n ∷ []) = IsTable-push t n h.table new room in
    let added = added_depth t ds n (IsTable-lower t h.table) (IsTable-lower (t ++ n ∷ []) longer) h.counted new.below in
    record { table = longer; counted = AreDepths-push t ds n (m + 1) (IsTable-lower t h.table) h.counted (omega (arith, added, value)) }

-- ---- the same where answers are read in parts

pub greatest-read : (ds es : List ℕ) (a : Answers) (rs : List Reply) (r : Rest) (m : ℕ) → es ≡ ds → rs ≡ a.replies → r ≡ a.rest
    → m ≡ greatest (map (λ j. slice_index es j) (named (record { replies = rs; rest = r })))
    → m ≡ greatest (map (λ j. slice_index ds j) (named a))
greatest-read ds es a rs r m list same last value = value ∙ rw (same, last, list) refl

pub start_depth-read : (t u : List Node) (ds : List ℕ) (a : Answers) (m : ℕ) → u ≡ t → AreDepths u ds → names_below a (length t) ≡ true
    → m ≡ greatest (map (λ j. slice_index ds j) (named a)) → m ≡ start_depth t a
start_depth-read t u ds a m table h below value = search (rules, greatest-depths)

-- the answer of a node of a table is a lower node
answer_lower : (a : Answers) (i : ℕ) (q : Point) (o : Option ℕ) → names_below a i ≡ true → o ≡ answer a q → IfSome o (λ j. j < i)
answer_lower a i q o below e = search (rules, answer-below)

pub lookup-below : (t : List Node) (i : ℕ) (n : Node) (q : Point) (o : Option ℕ) → IsTable t → slice_get t i ≡ Some n
    → o ≡ answer (answers_of n) q → IfSome o (λ j. j < i)
lookup-below t i n q o ok here e = answer_lower (answers_of n) i q o (ok.nodes i n here).below e

-- the node that wins at once in the corner
abbrev pub corner : Node
corner = record { attack = record { x = 0; y = 0 }; replies = []; rest = Wins }

corner_node : (i : ℕ) → IsNode corner i
corner_node i = record { below = refl; rising = refl; winning = λ wins. refl }

pub filled_table : (m : ℕ) (nodes : List Node) → IsTable nodes → length nodes + m ≤ MAX_NODES → IsTable (nodes ++ replicate m corner)
filled_table zero nodes table few = subst IsTable (sym (append-nil nodes)) table
filled_table (suc m) nodes table few =
    let count = length-append nodes (corner ∷ []) in
    subst IsTable (append_assoc nodes (corner ∷ []) (replicate m corner))
    (filled_table m (nodes ++ corner ∷ []) (IsTable-push nodes corner table (corner_node (length nodes)) (omega arith))
    (omega (arith, count)))

pub filled_length : (m : ℕ) (nodes : List Node) → length (nodes ++ replicate m corner) ≡ length nodes + m
filled_length m nodes = length-append nodes (replicate m corner) ∙ ap (λ n. length nodes + n) (length-replicate m corner)

pub node_at : (ns : List Node) (i : ℕ) → IsTable ns → i < length ns → IsNode (get_or ns i corner) i
node_at ns i table within = table.nodes i (get_or ns i corner) (slice_get-get_or ns i corner within)
