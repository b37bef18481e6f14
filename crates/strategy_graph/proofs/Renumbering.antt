-- A table that holds copies of nodes of another, under other numbers, says the same at them: what a compiler of
-- tables needs.
use Rattle.std.proofs.Common.{rules, ◌≡◌, ℕ, suc, ◌+◌, Bool, true, List, ◌∙◌, arith, refl, ap, [], ◌∷◌, map, sym, ◌&&◌, ◌==◌, ◌<◌, nat_lt}
use Rattle.std.proofs.Common.{option_map, lt-ltb}
use Rattle.strategy_graph.proofs.Common.{Grid, precedes, RuleKind, Point, Node, Answers, NamesLower, depth, named, rest_nodes, answers_of}
use Rattle.strategy_graph.proofs.Common.{is_rising, rest_node, IsNode, renumbered_answers, renumbered_rest, renumbered_reply}
use Rattle.strategy_graph.proofs.Common.{renumbered_node, Accepted, arrivals, SaysSame, StartSaysSame, Rest, Wins, To, Nothing, Reply}
use Rattle.game_rules.proofs.Boards.{and_left, and_right}
use Rattle.std.specs.List.{list_all}
use Rattle.std.proofs.lemmas.List.Folds.{list_all-append}
use Rattle.std.proofs.lemmas.Bool.Decides.{Decides-eqb}
use Rattle.strategy_graph.proofs.Copies.{iff_by, Copies, depth_within-copied, accepted_within-copied, arrivals_within-copied, game-copied}
use Rattle.strategy_graph.proofs.Copies.{attacks-copied, Leads-copied, named-renumbered, is_winning-renumbered}
use Rattle.strategy_graph.proofs.Starts.{starts-same}
use Rattle.strategy_graph.proofs.Fuel.{depth_within-enough, accepted_within-enough, arrivals_within-enough}
use Rattle.strategy_graph.proofs.Pairs.{cons-first, cons-others}

module _ (f : ℕ → ℕ) (passes : ℕ → Bool) (t u : List Node) (copies : Copies f passes t u) (lower : NamesLower t) (lower' : NamesLower u)
    (i : ℕ) (p : passes i ≡ true) where
  -- more than either number
  most : ℕ
  most = suc (i + f i)

  depth-copied : depth u (f i) ≡ depth t i
  unfolding most
  depth-copied = depth_within-enough u lower' most (suc (f i)) (f i) (omega arith) (omega arith)
      ∙ depth_within-copied f passes t u copies most i p ∙ depth_within-enough t lower (suc i) most i (omega arith) (omega arith)

  accepted-copied : (rule : RuleKind) (b : Grid) → Accepted rule u (f i) b ≡ Accepted rule t i b
  unfolding most
  accepted-copied rule b = accepted_within-enough u lower' rule most (suc (f i)) (f i) b (omega arith) (omega arith)
      ∙ accepted_within-copied f passes t u copies rule most i b p
      ∙ accepted_within-enough t lower rule (suc i) most i b (omega arith) (omega arith)

  arrivals-copied : (rule : RuleKind) (b : Grid) → arrivals rule u (f i) b ≡ arrivals rule t i b
  unfolding most
  arrivals-copied rule b = arrivals_within-enough u lower' rule most (suc (f i)) (f i) b (omega arith) (omega arith)
      ∙ arrivals_within-copied f passes t u copies rule most i b p
      ∙ arrivals_within-enough t lower rule (suc i) most i b (omega arith) (omega arith)

  -- the copy at f i says what node i says
  pub copies-same : SaysSame t i u (f i)
  copies-same = search (rules, depth-copied, iff_by, accepted-copied, arrivals-copied, game-copied, attacks-copied, Leads-copied)

-- a start with the numbers of the copies says what the start says
pub copies-same-start : (f : ℕ → ℕ) (passes : ℕ → Bool) (t u : List Node) → Copies f passes t u → NamesLower t → NamesLower u
    → (a : Answers) → list_all passes (named a) ≡ true → StartSaysSame t a u (renumbered_answers f a)
copies-same-start f passes t u copies lower lower' a all = starts-same f passes t u (record {
  deep = λ j p. depth-copied f passes t u copies lower lower' j p;
  accepted = λ rule j p b. accepted-copied f passes t u copies lower lower' j p rule b;
  count = λ rule j p b. arrivals-copied f passes t u copies lower lower' j p rule b;
  leads = λ rule line why j p b. Leads-copied f passes t u copies rule j b line why p;
}) a all

-- it matters only what is put for the numbers that are named
pub renumbered_rest-agree : (f g : ℕ → ℕ) (passes : ℕ → Bool) → ((j : ℕ) → passes j ≡ true → f j ≡ g j) → (rest : Rest)
    → list_all passes (rest_nodes rest) ≡ true → renumbered_rest f rest ≡ renumbered_rest g rest
renumbered_rest-agree f g passes same rest h = search (rules, and_left)

pub renumbered_replies-agree : (f g : ℕ → ℕ) (passes : ℕ → Bool) → ((j : ℕ) → passes j ≡ true → f j ≡ g j) → (rs : List Reply)
    → list_all passes (map (λ r. r.next) rs) ≡ true → map (renumbered_reply f) rs ≡ map (renumbered_reply g) rs
renumbered_replies-agree f g passes same [] h = refl
renumbered_replies-agree f g passes same (r ∷ rs) h =
    search (rules, and_left, and_right, renumbered_replies-agree f g passes same rs (and_right (passes r.next) _ h))

pub renumbered-agree : (f g : ℕ → ℕ) (passes : ℕ → Bool) → ((j : ℕ) → passes j ≡ true → f j ≡ g j) → (n : Node)
    → list_all passes (named (answers_of n)) ≡ true → renumbered_node f n ≡ renumbered_node g n
renumbered-agree f g passes same n h = search (rules, list_all-append, renumbered_replies-agree, and_left, renumbered_rest-agree, and_right)

-- the replies are as they were
all_precede-renumbered : (f : ℕ → ℕ) (p : Point) (rs : List Reply)
    → list_all (λ s. precedes p s.at) (map (renumbered_reply f) rs) ≡ list_all (λ s. precedes p s.at) rs
all_precede-renumbered f p [] = refl
all_precede-renumbered f p (r ∷ rs) = ap (λ (b : Bool). precedes p r.at && b) (all_precede-renumbered f p rs)

pub rising-renumbered : (f : ℕ → ℕ) (rs : List Reply) → is_rising (map (renumbered_reply f) rs) ≡ is_rising rs
rising-renumbered f [] = refl
rising-renumbered f (r ∷ rs) = λ i. all_precede-renumbered f r.at rs i && rising-renumbered f rs i

pub points-renumbered : (f : ℕ → ℕ) (rs : List Reply) → map (λ r. r.at) (map (renumbered_reply f) rs) ≡ map (λ r. r.at) rs
points-renumbered f [] = refl
points-renumbered f (r ∷ rs) = ap (λ (ps : List Point). r.at ∷ ps) (points-renumbered f rs)

-- no number that passes has the number of another
pub record IsOneToOne (f : ℕ → ℕ) (passes : ℕ → Bool) : Type 0 where
  pub apart : (j i : ℕ) → passes i ≡ true → (f j == f i) ≡ (j == i)

module _ (f : ℕ → ℕ) (passes : ℕ → Bool) (one : IsOneToOne f passes) where
  pub rest_node-renumbered : (r : Rest) → rest_node (renumbered_rest f r) ≡ option_map f (rest_node r)
  rest_node-renumbered r = search rules

  -- ---- nodes
  pub reply-renumbered : (r s : Reply) → passes r.next ≡ true → passes s.next ≡ true → renumbered_reply f r ≡ renumbered_reply f s → r ≡ s
  reply-renumbered r s p q e =
      let at : r.at ≡ s.at = ap (λ (x : Reply). x.at) e in
      let mapped : f r.next ≡ f s.next = ap (λ (x : Reply). x.next) e in
      let next : r.next ≡ s.next = one-to-one r.next s.next q mapped in
      λ i. record { at = at i; next = next i } where
        one-to-one : (j i : ℕ) → passes i ≡ true → f j ≡ f i → j ≡ i
        one-to-one j i p e = (Decides-eqb j i).0 (sym (one.apart j i p) ∙ (Decides-eqb (f j) (f i)).1 e)

  pub replies-renumbered : (rs ss : List Reply) → list_all passes (map (λ r. r.next) rs) ≡ true
      → list_all passes (map (λ r. r.next) ss) ≡ true → map (renumbered_reply f) rs ≡ map (renumbered_reply f) ss → rs ≡ ss
  replies-renumbered [] [] h k e = refl
  replies-renumbered [] (s ∷ ss) h k e = cc
  replies-renumbered (r ∷ rs) [] h k e = cc
  replies-renumbered (r ∷ rs) (s ∷ ss) h k e =
      let first : renumbered_reply f r ≡ renumbered_reply f s = cons-first _ _ _ _ e in
      let others : map (renumbered_reply f) rs ≡ map (renumbered_reply f) ss = cons-others _ _ _ _ e in
      let here : r ≡ s = reply-renumbered r s (and_left (passes r.next) _ h) (and_left (passes s.next) _ k) first in
      let later : rs ≡ ss = replies-renumbered rs ss (and_right (passes r.next) _ h) (and_right (passes s.next) _ k) others in
      λ i. here i ∷ later i

  pub rests-renumbered : (r s : Rest) → list_all passes (rest_nodes r) ≡ true → list_all passes (rest_nodes s) ≡ true
      → renumbered_rest f r ≡ renumbered_rest f s → r ≡ s
  rests-renumbered Wins Wins h k e = refl
  rests-renumbered Wins (To j) h k e = cc
  rests-renumbered Wins Nothing h k e = cc
  rests-renumbered (To i) Wins h k e = cc
  rests-renumbered (To i) (To j) h k e =
      let mapped : f i ≡ f j = cc in
      ap To ((Decides-eqb i j).0 (sym (one.apart i j (and_left (passes j) true k)) ∙ (Decides-eqb (f i) (f j)).1 mapped))
  rests-renumbered (To i) Nothing h k e = cc
  rests-renumbered Nothing Wins h k e = cc
  rests-renumbered Nothing (To j) h k e = cc
  rests-renumbered Nothing Nothing h k e = refl

  -- nodes that are different stay so
  pub nodes-renumbered : (n m : Node) → list_all passes (named (answers_of n)) ≡ true → list_all passes (named (answers_of m)) ≡ true
      → renumbered_node f n ≡ renumbered_node f m → n ≡ m
  nodes-renumbered n m h k e =
      let parts = sym (list_all-append passes (map (λ (r : Reply). r.next) n.replies) (rest_nodes n.rest)) ∙ h in
      let parts' = sym (list_all-append passes (map (λ (r : Reply). r.next) m.replies) (rest_nodes m.rest)) ∙ k in
      let attack : n.attack ≡ m.attack = ap (λ (x : Node). x.attack) e in
      let replies : n.replies ≡ m.replies = replies-renumbered n.replies m.replies (and_left _ (list_all passes (rest_nodes n.rest)) parts)
      (and_left _ (list_all passes (rest_nodes m.rest)) parts') (ap (λ (x : Node). x.replies) e) in
      let rest : n.rest ≡ m.rest =
      rests-renumbered n.rest m.rest (and_right (list_all passes (map (λ (r : Reply). r.next) n.replies)) _ parts)
      (and_right (list_all passes (map (λ (r : Reply). r.next) m.replies)) _ parts') (ap (λ (x : Node). x.rest) e) in
      λ i. record { attack = attack i; replies = replies i; rest = rest i }

  -- ---- tables
  pub rest_nodes-renumbered : (r : Rest) → rest_nodes (renumbered_rest f r) ≡ map f (rest_nodes r)
  rest_nodes-renumbered r = search rules

  pub nexts-renumbered : (rs : List Reply) → map (λ r. r.next) (map (renumbered_reply f) rs) ≡ map f (map (λ r. r.next) rs)
  nexts-renumbered [] = refl
  nexts-renumbered (r ∷ rs) = ap (λ (js : List ℕ). f r.next ∷ js) (nexts-renumbered rs)

all-mapped : (p q : ℕ → Bool) (f : ℕ → ℕ) → ((j : ℕ) → p j ≡ true → q (f j) ≡ true) → (js : List ℕ) → list_all p js ≡ true
    → list_all q (map f js) ≡ true
all-mapped p q f keep [] h = refl
all-mapped p q f keep (j ∷ js) h = rw (keep j (and_left (p j) _ h)) (all-mapped p q f keep js (and_right (p j) _ h))

-- it is a node of a table, at a place above those of all that it names
pub IsNode-renumbered : (f : ℕ → ℕ) (passes : ℕ → Bool) (n : Node) (i k : ℕ) → IsNode n i → ((j : ℕ) → passes j ≡ true → f j < k)
    → list_all passes (named (answers_of n)) ≡ true → IsNode (renumbered_node f n) k
IsNode-renumbered f passes n i k node low h = record {
  below = ap (list_all (λ j. nat_lt j k)) (named-renumbered f (answers_of n))
      ∙ all-mapped passes (λ j. nat_lt j k) f (λ j e. lt-ltb (f j) k (low j e)) (named (answers_of n)) h;
  rising = rising-renumbered f n.replies ∙ node.rising;
  winning = λ e. ap (map (renumbered_reply f)) (node.winning (sym (is_winning-renumbered f n.rest) ∙ e));
}
