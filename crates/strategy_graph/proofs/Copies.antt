-- A table that holds a copy of nodes of another, under other numbers, says the same at them.
use Rattle.std.proofs.Common.{◌≡◌, ℕ, zero, suc, Bool, true, false, cond, List, [], ◌∷◌, ◌++◌, map, refl, sym, ap, subst, ◌∙◌, Option, Some}
use Rattle.std.proofs.Common.{IsSomeAnd, slice_get, ◌↔◌, rules, option_map}
use Rattle.std.specs.List.{list_all}
use Rattle.std.specs.Option.{option_or, option_map_or}
use Rattle.strategy_graph.proofs.Common.{Grid, outcome, after, WinsOr, LosesOr, RuleKind, Outcome, GoesOn, Point, Reply, Rest, Node, Why}
use Rattle.strategy_graph.proofs.Common.{Answers, answers_of, answer, listed_node, rest_node, rest_nodes, named, is_winning, greatest}
use Rattle.strategy_graph.proofs.Common.{node_depth, depth_within, renumbered_rest, renumbered_reply, renumbered_answers, renumbered_node}
use Rattle.strategy_graph.proofs.Common.{Meets, AcceptedNode, AcceptedWithin, arrivals_at, arrivals_after, arrivals_behind, arrivals_within}
use Rattle.strategy_graph.proofs.Common.{End, NoMove, Open, after_attack, after_reply, if_node, end_at, game, points_on, points_from}
use Rattle.strategy_graph.proofs.Common.{attacks_at, attacks, attack_fault, reply_fault, AtNode, ReplyLeads, Leads}
use Rattle.game_rules.proofs.Common.{if_goes_on}
use Rattle.strategy_graph.proofs.Answering.{answer-named}
use Rattle.game_rules.proofs.Boards.{and_left, and_right}

-- For each number i that passes, table t has a node i, table u has the same node renumbered_node at f i, and each number that
-- the node names passes too.
pub record Copies (f : ℕ → ℕ) (passes : ℕ → Bool) (t u : List Node) : Type 0 where
  pub copied : (i : ℕ) → passes i ≡ true → (n : Node) × (slice_get t i ≡ Some n) × (slice_get u (f i) ≡ Some (renumbered_node f n))
      × (list_all passes (named (answers_of n)) ≡ true)

-- facts that are equal follow from one another
pub iff_by : (A B : Type 0) → A ≡ B → A ↔ B
iff_by A B e = (subst (λ (X : Type 0). X) e, subst (λ (X : Type 0). X) (sym e))

-- ---- answers

option_or-map : (f : ℕ → ℕ) (o p : Option ℕ) → option_or (option_map f o) (option_map f p) ≡ option_map f (option_or o p)
option_or-map f o p = search rules

listed-renumbered : (f : ℕ → ℕ) (rs : List Reply) (q : Point)
    → listed_node (map (renumbered_reply f) rs) q ≡ option_map f (listed_node rs q)
listed-renumbered f [] q = refl
listed-renumbered f (r ∷ rs) q = search (rules, listed-renumbered f rs q)

rest_node-renumbered : (f : ℕ → ℕ) (r : Rest) → rest_node (renumbered_rest f r) ≡ option_map f (rest_node r)
rest_node-renumbered f r = search rules

pub answer-renumbered : (f : ℕ → ℕ) (a : Answers) (q : Point) → answer (renumbered_answers f a) q ≡ option_map f (answer a q)
answer-renumbered f a q = search (rules, listed-renumbered, rest_node-renumbered, option_or-map)

pub is_winning-renumbered : (f : ℕ → ℕ) (r : Rest) → is_winning (renumbered_rest f r) ≡ is_winning r
is_winning-renumbered f r = search rules

rest_nodes-renumbered : (f : ℕ → ℕ) (r : Rest) → rest_nodes (renumbered_rest f r) ≡ map f (rest_nodes r)
rest_nodes-renumbered f r = search rules

named_by : (f : ℕ → ℕ) (rs : List Reply) (r : Rest)
    → map (λ r. r.next) (map (renumbered_reply f) rs) ++ rest_nodes (renumbered_rest f r) ≡ map f (map (λ r. r.next) rs ++ rest_nodes r)
named_by f [] r = rest_nodes-renumbered f r
named_by f (x ∷ rs) r = ap (λ js. f x.next ∷ js) (named_by f rs r)

pub named-renumbered : (f : ℕ → ℕ) (a : Answers) → named (renumbered_answers f a) ≡ map f (named a)
named-renumbered f a = named_by f a.replies a.rest

-- ---- each number for itself

renumbered_rest-same : (r : Rest) → renumbered_rest (λ j. j) r ≡ r
renumbered_rest-same r = search rules

renumbered_replies-same : (rs : List Reply) → map (renumbered_reply (λ j. j)) rs ≡ rs
renumbered_replies-same [] = refl
renumbered_replies-same (r ∷ rs) = ap (λ ys. r ∷ ys) (renumbered_replies-same rs)

pub renumbered-same : (n : Node) → renumbered_node (λ j. j) n ≡ n
renumbered-same n = λ i. record { attack = n.attack; replies = renumbered_replies-same n.replies i; rest = renumbered_rest-same n.rest i }

pub renumbered_answers-same : (a : Answers) → renumbered_answers (λ j. j) a ≡ a
renumbered_answers-same a = λ i. record { replies = renumbered_replies-same a.replies i; rest = renumbered_rest-same a.rest i }

-- ---- one step, where the values at the answers agree

module _ (f : ℕ → ℕ) (passes : ℕ → Bool) where
  greatest-copied : (d e : ℕ → ℕ) → ((j : ℕ) → passes j ≡ true → e (f j) ≡ d j) → (js : List ℕ) → list_all passes js ≡ true
      → greatest (map e (map f js)) ≡ greatest (map d js)
  greatest-copied d e same [] all = refl
  greatest-copied d e same (j ∷ js) all = search (rules, and_left, and_right, greatest-copied d e same js (and_right (passes j) _ all))

  answered-copied : (P P' : ℕ → Type 0) (o : Option ℕ) → ((j : ℕ) → o ≡ Some j → P' (f j) ≡ P j)
      → IsSomeAnd (option_map f o) P' ≡ IsSomeAnd o P
  answered-copied P P' o h = search rules

  map_or-copied : (m m' : ℕ → ℕ) (o : Option ℕ) → ((j : ℕ) → o ≡ Some j → m' (f j) ≡ m j)
      → option_map_or m' (option_map f o) 0 ≡ option_map_or m o 0
  map_or-copied m m' o h = search rules

  if_node-copied : (e e' : ℕ → End) (o : Option ℕ) → ((j : ℕ) → o ≡ Some j → e' (f j) ≡ e j) → if_node (option_map f o) e' ≡ if_node o e
  if_node-copied e e' o h = search rules

  points_from-copied : (ps ps' : ℕ → List Point) (o : Option ℕ) → ((j : ℕ) → o ≡ Some j → ps' (f j) ≡ ps j)
      → points_from (option_map f o) ps' ≡ points_from o ps
  points_from-copied ps ps' o h = search rules

  reply_fault-copied : (u : Outcome) (o : Option ℕ) → reply_fault u (option_map f o) ≡ reply_fault u o
  reply_fault-copied u o = search rules

  reply_leads-copied : (u : Outcome) (o : Option ℕ) (line : List Point) (P P' : ℕ → Type 0) (why : Why)
      → ((j : ℕ) → o ≡ Some j → P' (f j) ≡ P j) → ReplyLeads u (option_map f o) line P' why ≡ ReplyLeads u o line P why
  reply_leads-copied u o [] P P' why h = ap (λ (w : Option Why). w ≡ Some why) (reply_fault-copied u o)
  reply_leads-copied u o (p ∷ line) P P' why h = ap (λ (W : Type 0). (u ≡ GoesOn) × W) (answered-copied P P' o h)

  module _ (a : Answers) (all : list_all passes (named a) ≡ true) where
    -- each answer passes
    passing : (q : Point) (j : ℕ) → answer a q ≡ Some j → passes j ≡ true
    passing q j e = answer-named passes a q j all e

    pub Meets-copied : (rule : RuleKind) (N N' : ℕ → Grid → Type 0) → ((j : ℕ) → passes j ≡ true → (c : Grid) → N' (f j) c ≡ N j c)
        → (b : Grid) (q : Point) → Meets rule (renumbered_answers f a) N' b q ≡ Meets rule a N b q
    Meets-copied rule N N' same b q = ap
        (λ (W : Type 0). LosesOr (outcome rule b q) W) (ap (λ (o : Option ℕ). IsSomeAnd o (λ j. N' j (after b q))) (answer-renumbered f a q)
        ∙ answered-copied (λ j. N j (after b q)) (λ j. N' j (after b q)) (answer a q) (λ j e. same j (passing q j e) (after b q)))

    arrivals_at-copied : (rule : RuleKind) (m m' : ℕ → Grid → ℕ) → ((j : ℕ) → passes j ≡ true → (c : Grid) → m' (f j) c ≡ m j c)
        → (b : Grid) (q : Point) → arrivals_at rule (renumbered_answers f a) m' b q ≡ arrivals_at rule a m b q
    arrivals_at-copied rule m m' same b q = ap (λ (k : ℕ). if_goes_on (outcome rule b q) k)
        (ap (λ (o : Option ℕ). option_map_or (λ j. m' j (after b q)) o 0) (answer-renumbered f a q)
        ∙ map_or-copied (λ j. m j (after b q)) (λ j. m' j (after b q)) (answer a q) (λ j e. same j (passing q j e) (after b q)))

    pub arrivals_after-copied : (rule : RuleKind) (m m' : ℕ → Grid → ℕ) → ((j : ℕ) → passes j ≡ true → (c : Grid) → m' (f j) c ≡ m j c)
        → (b : Grid) → arrivals_after rule (renumbered_answers f a) m' b ≡ arrivals_after rule a m b
    arrivals_after-copied rule m m' same b = search (rules, arrivals_at-copied)

    if_node-answer : (e e' : ℕ → Grid → End) → ((j : ℕ) → passes j ≡ true → (c : Grid) → e' (f j) c ≡ e j c) → (c : Grid) (q : Point)
        → if_node (answer (renumbered_answers f a) q) (λ j. e' j c) ≡ if_node (answer a q) (λ j. e j c)
    if_node-answer e e' same c q = ap (λ (o : Option ℕ). if_node o (λ j. e' j c)) (answer-renumbered f a q)
        ∙ if_node-copied (λ j. e j c) (λ j. e' j c) (answer a q) (λ j h. same j (passing q j h) c)

    points_from-answer : (ps ps' : ℕ → Grid → List Point) → ((j : ℕ) → passes j ≡ true → (c : Grid) → ps' (f j) c ≡ ps j c)
        → (c : Grid) (q : Point) → points_from (answer (renumbered_answers f a) q) (λ j. ps' j c) ≡ points_from (answer a q) (λ j. ps j c)
    points_from-answer ps ps' same c q = ap (λ (o : Option ℕ). points_from o (λ j. ps' j c)) (answer-renumbered f a q)
        ∙ points_from-copied (λ j. ps j c) (λ j. ps' j c) (answer a q) (λ j h. same j (passing q j h) c)

    pub reply_leads-answer : (N N' : ℕ → Grid → Type 0) → ((j : ℕ) → passes j ≡ true → (c : Grid) → N' (f j) c ≡ N j c)
        → (u : Outcome) (line : List Point) (why : Why) (c : Grid) (q : Point)
        → ReplyLeads u (answer (renumbered_answers f a) q) line (λ j. N' j c) why ≡ ReplyLeads u (answer a q) line (λ j. N j c) why
    reply_leads-answer N N' same u line why c q = ap (λ (o : Option ℕ). ReplyLeads u o line (λ j. N' j c) why) (answer-renumbered f a q)
        ∙ reply_leads-copied u (answer a q) line (λ j. N j c) (λ j. N' j c) why (λ j h. same j (passing q j h) c)

    pub depths-copied : (d e : ℕ → ℕ) → ((j : ℕ) → passes j ≡ true → e (f j) ≡ d j)
        → greatest (map e (named (renumbered_answers f a))) ≡ greatest (map d (named a))
    depths-copied d e same = ap (λ (js : List ℕ). greatest (map e js)) (named-renumbered f a) ∙ greatest-copied d e same (named a) all

  module _ (n : Node) (all : list_all passes (named (answers_of n)) ≡ true) where
    pub accepted_node-copied : (rule : RuleKind) (N N' : ℕ → Grid → Type 0) → ((j : ℕ) → passes j ≡ true → (c : Grid) → N' (f j) c ≡ N j c)
        → (b : Grid) → AcceptedNode rule (Some (renumbered_node f n)) N' b ≡ AcceptedNode rule (Some n) N b
    accepted_node-copied rule N N' same b =
        let inside : ((is_winning (renumbered_rest f n.rest) ≡ false)
        × ((q : Point) → Meets rule (renumbered_answers f (answers_of n)) N' (after b n.attack) q))
        ≡ ((is_winning n.rest ≡ false) × ((q : Point) → Meets rule (answers_of n) N (after b n.attack) q)) =
        λ i. (is_winning-renumbered f n.rest i ≡ false)
        × ((q : Point) → Meets-copied (answers_of n) all rule N N' same (after b n.attack) q i) in
        ap (λ (W : Type 0). WinsOr (outcome rule b n.attack) W) inside

    pub arrivals_behind-copied : (rule : RuleKind) (m m' : ℕ → Grid → ℕ) → ((j : ℕ) → passes j ≡ true → (c : Grid) → m' (f j) c ≡ m j c)
        → (b : Grid) → arrivals_behind rule (Some (renumbered_node f n)) m' b ≡ arrivals_behind rule (Some n) m b
    arrivals_behind-copied rule m m' same b = ap (λ (w : Bool). if_goes_on (outcome rule b n.attack)
        (cond w 0 (arrivals_after rule (renumbered_answers f (answers_of n)) m' (after b n.attack)))) (is_winning-renumbered f n.rest)
        ∙ ap (λ (k : ℕ). if_goes_on (outcome rule b n.attack) (cond (is_winning n.rest) 0 k))
        (arrivals_after-copied (answers_of n) all rule m m' same (after b n.attack))

    end_at-open : (rule : RuleKind) (b : Grid) → end_at rule (Some (renumbered_node f n)) b (λ n. Open) ≡ end_at rule (Some n) b (λ n. Open)
    end_at-open rule b = ap (λ (w : Bool). after_attack (outcome rule b n.attack) (cond w NoMove Open)) (is_winning-renumbered f n.rest)

    end_at-copied : (rule : RuleKind) (e e' : ℕ → Grid → End) → ((j : ℕ) → passes j ≡ true → (c : Grid) → e' (f j) c ≡ e j c)
        → (b : Grid) (q : Point) → end_at rule (Some (renumbered_node f n)) b
        (λ n. after_reply (outcome rule (after b n.attack) q) (if_node (answer (answers_of n) q) (λ j. e' j (after (after b n.attack) q))))
        ≡ end_at rule (Some n) b
        (λ n. after_reply (outcome rule (after b n.attack) q) (if_node (answer (answers_of n) q) (λ j. e j (after (after b n.attack) q))))
    end_at-copied rule e e' same b q =
        ap (λ (w : Bool). after_attack (outcome rule b n.attack) (cond w NoMove (after_reply (outcome rule (after b n.attack) q)
        (if_node (answer (renumbered_answers f (answers_of n)) q) (λ j. e' j (after (after b n.attack) q))))))
        (is_winning-renumbered f n.rest) ∙ ap (λ (x : End). after_attack (outcome rule b n.attack)
        (cond (is_winning n.rest) NoMove (after_reply (outcome rule (after b n.attack) q) x)))
        (if_node-answer (answers_of n) all e e' same (after (after b n.attack) q) q)

    attacks_at-none : (rule : RuleKind) (b : Grid) → attacks_at rule (Some (renumbered_node f n)) b (λ n. []) ≡ attacks_at rule (Some n) b
        (λ n. [])
    attacks_at-none rule b = search (rules, is_winning-renumbered)

    attacks_at-copied : (rule : RuleKind) (ps ps' : ℕ → Grid → List Point) → ((j : ℕ) → passes j ≡ true → (c : Grid) → ps' (f j) c ≡ ps j c)
        → (b : Grid) (q : Point) → attacks_at rule (Some (renumbered_node f n)) b (λ n. points_on (outcome rule (after b n.attack) q)
        (points_from (answer (answers_of n) q) (λ j. ps' j (after (after b n.attack) q)))) ≡ attacks_at rule (Some n) b
        (λ n. points_on (outcome rule (after b n.attack) q)
        (points_from (answer (answers_of n) q) (λ j. ps j (after (after b n.attack) q))))
    attacks_at-copied rule ps ps' same b q =
        ap (λ (w : Bool). n.attack ∷ points_on (outcome rule b n.attack) (cond w [] (points_on (outcome rule (after b n.attack) q)
        (points_from (answer (renumbered_answers f (answers_of n)) q) (λ j. ps' j (after (after b n.attack) q))))))
        (is_winning-renumbered f n.rest) ∙ ap (λ (xs : List Point). n.attack ∷ points_on (outcome rule b n.attack)
        (cond (is_winning n.rest) [] (points_on (outcome rule (after b n.attack) q) xs)))
        (points_from-answer (answers_of n) all ps ps' same (after (after b n.attack) q) q)

    attack_fault-renumbered : (u : Outcome) → attack_fault u (renumbered_rest f n.rest) ≡ attack_fault u n.rest
    attack_fault-renumbered u = search rules

    leads_last-copied : (rule : RuleKind) (b : Grid) (p : Point) (why : Why)
        → AtNode (Some (renumbered_node f n)) (λ n. (p ≡ n.attack) × (attack_fault (outcome rule b p) n.rest ≡ Some why)) ≡ AtNode (Some n)
        (λ n. (p ≡ n.attack) × (attack_fault (outcome rule b p) n.rest ≡ Some why))
    leads_last-copied rule b p why = ap (λ (w : Option Why). (p ≡ n.attack) × (w ≡ Some why)) (attack_fault-renumbered (outcome rule b p))

    leads_step-copied : (rule : RuleKind) (N N' : ℕ → Grid → Type 0)
        → ((j : ℕ) → passes j ≡ true → (c : Grid) → N' (f j) c ≡ N j c) → (b : Grid) (p q : Point) (line : List Point) (why : Why)
        → AtNode (Some (renumbered_node f n)) (λ n. (p ≡ n.attack) × (outcome rule b p ≡ GoesOn) × (is_winning n.rest ≡ false)
        × ReplyLeads (outcome rule (after b p) q) (answer (answers_of n) q) line (λ j. N' j (after (after b p) q)) why) ≡ AtNode (Some n)
        (λ n. (p ≡ n.attack) × (outcome rule b p ≡ GoesOn) × (is_winning n.rest ≡ false)
        × ReplyLeads (outcome rule (after b p) q) (answer (answers_of n) q) line (λ j. N j (after (after b p) q)) why)
    leads_step-copied rule N N' same b p q line why =
        λ i. (p ≡ n.attack) × (outcome rule b p ≡ GoesOn) × (is_winning-renumbered f n.rest i ≡ false)
        × reply_leads-answer (answers_of n) all N N' same (outcome rule (after b p) q) line why (after (after b p) q) q i

-- ---- whole tables

module _ (f : ℕ → ℕ) (passes : ℕ → Bool) (t u : List Node) (copies : Copies f passes t u) where
  -- what is computed of a node of each table agrees where it agrees for the node and its copy
  at_copy {ℓ} : (X : Type ℓ) (g g' : Option Node → X) (i : ℕ) → passes i ≡ true
      → ((n : Node) → list_all passes (named (answers_of n)) ≡ true → g' (Some (renumbered_node f n)) ≡ g (Some n))
      → g' (slice_get u (f i)) ≡ g (slice_get t i)
  at_copy X g g' i p h =
      let c = copies.copied i p in
      ap g' c.2 ∙ h c.0 c.3 ∙ sym (ap g c.1)

  pub depth_within-copied : (k i : ℕ) → passes i ≡ true → depth_within k u (f i) ≡ depth_within k t i
  unfolding depth_within
  depth_within-copied zero i p = refl
  depth_within-copied (suc k) i p = at_copy ℕ (λ o. node_depth o (depth_within k t)) (λ o. node_depth o (depth_within k u)) i p
      (λ n all. ap suc (depths-copied f passes (answers_of n) all (depth_within k t) (depth_within k u) (λ j h. depth_within-copied k j h)))

  pub accepted_within-copied : (rule : RuleKind) (k i : ℕ) (b : Grid) → passes i ≡ true
      → AcceptedWithin k rule u (f i) b ≡ AcceptedWithin k rule t i b
  unfolding AcceptedWithin
  accepted_within-copied rule zero i b p = refl
  accepted_within-copied rule (suc k) i b p =
      at_copy (Type 0) (λ o. AcceptedNode rule o (AcceptedWithin k rule t) b) (λ o. AcceptedNode rule o (AcceptedWithin k rule u) b) i p
      (λ n all. accepted_node-copied f passes n all rule (AcceptedWithin k rule t) (AcceptedWithin k rule u)
      (λ j h c. accepted_within-copied rule k j c h) b)

  pub arrivals_within-copied : (rule : RuleKind) (k i : ℕ) (b : Grid) → passes i ≡ true
      → arrivals_within k rule u (f i) b ≡ arrivals_within k rule t i b
  unfolding arrivals_within
  arrivals_within-copied rule zero i b p = refl
  arrivals_within-copied rule (suc k) i b p = at_copy ℕ
      (λ o. suc (arrivals_behind rule o (arrivals_within k rule t) b)) (λ o. suc (arrivals_behind rule o (arrivals_within k rule u) b)) i p
      (λ n all. ap suc (arrivals_behind-copied f passes n all rule (arrivals_within k rule t) (arrivals_within k rule u)
      (λ j h c. arrivals_within-copied rule k j c h) b))

  pub game-copied : (rule : RuleKind) (i : ℕ) (b : Grid) (qs : List Point) → passes i ≡ true → game rule u (f i) b qs ≡ game rule t i b qs
  unfolding game
  game-copied rule i b [] p = search (rules, end_at-open)
  game-copied rule i b (q ∷ qs) p = at_copy End (λ o. end_at rule o b (λ n. after_reply (outcome rule (after b n.attack) q)
      (if_node (answer (answers_of n) q) (λ j. game rule t j (after (after b n.attack) q) qs))))
      (λ o. end_at rule o b (λ n. after_reply (outcome rule (after b n.attack) q)
      (if_node (answer (answers_of n) q) (λ j. game rule u j (after (after b n.attack) q) qs)))) i p
      (λ n all. end_at-copied f passes n all rule (λ j c. game rule t j c qs) (λ j c. game rule u j c qs)
      (λ j h c. game-copied rule j c qs h) b q)

  pub attacks-copied : (rule : RuleKind) (i : ℕ) (b : Grid) (qs : List Point) → passes i ≡ true
      → attacks rule u (f i) b qs ≡ attacks rule t i b qs
  unfolding attacks
  attacks-copied rule i b [] p = search (rules, attacks_at-none)
  attacks-copied rule i b (q ∷ qs) p = at_copy (List Point) (λ o. attacks_at rule o b (λ n. points_on (outcome rule (after b n.attack) q)
      (points_from (answer (answers_of n) q) (λ j. attacks rule t j (after (after b n.attack) q) qs))))
      (λ o. attacks_at rule o b (λ n. points_on (outcome rule (after b n.attack) q)
      (points_from (answer (answers_of n) q) (λ j. attacks rule u j (after (after b n.attack) q) qs)))) i p
      (λ n all. attacks_at-copied f passes n all rule (λ j c. attacks rule t j c qs) (λ j c. attacks rule u j c qs)
      (λ j h c. attacks-copied rule j c qs h) b q)

  pub Leads-copied : (rule : RuleKind) (i : ℕ) (b : Grid) (line : List Point) (why : Why) → passes i ≡ true
      → Leads rule u (f i) b line why ≡ Leads rule t i b line why
  unfolding Leads
  Leads-copied rule i b [] why h = refl
  Leads-copied rule i b (p ∷ []) why h =
      at_copy (Type 0) (λ o. AtNode o (λ n. (p ≡ n.attack) × (attack_fault (outcome rule b p) n.rest ≡ Some why)))
      (λ o. AtNode o (λ n. (p ≡ n.attack) × (attack_fault (outcome rule b p) n.rest ≡ Some why))) i h
      (λ n all. leads_last-copied f passes n all rule b p why)
  Leads-copied rule i b (p ∷ q ∷ line) why h =
      at_copy (Type 0) (λ o. AtNode o (λ n. (p ≡ n.attack) × (outcome rule b p ≡ GoesOn) × (is_winning n.rest ≡ false)
      × ReplyLeads (outcome rule (after b p) q) (answer (answers_of n) q) line (λ j. Leads rule t j (after (after b p) q) line why) why))
      (λ o. AtNode o (λ n. (p ≡ n.attack) × (outcome rule b p ≡ GoesOn) × (is_winning n.rest ≡ false)
      × ReplyLeads (outcome rule (after b p) q) (answer (answers_of n) q) line (λ j. Leads rule u j (after (after b p) q) line why) why))
      i h (λ n all. leads_step-copied f passes n all rule (λ j c. Leads rule t j c line why) (λ j c. Leads rule u j c line why)
      (λ j k c. Leads-copied rule j c line why k) b p q line why)
