-- Lists of numbers that are related place by place, and nodes that are the same but for related numbers.
use Rattle.std.proofs.Common.{ℕ, true, List, [], ◌∷◌, ◌++◌, ◌≡◌, ◌==◌, ◌<◌, subst, refl, ap, sym, ◌∙◌, map, zero, suc, arith, length}
use Rattle.std.proofs.Common.{get_or, Option, Some, None, Contains, fold, nat_eq, rules}
use Rattle.std.specs.List.{AllByRecursion}
use Rattle.std.specs.Option.{option_eq}
use Rattle.strategy_graph.proofs.Common.{Point, Rest, Wins, To, Nothing, Reply, Node, AtNode, rest_nodes, is_winning, rest_node, Answers}
use Rattle.strategy_graph.proofs.Common.{answer}

pub data Pairs (R : ℕ → ℕ → Type 0) : List ℕ → List ℕ → Type 0 where
  Ends : Pairs R [] []
  Goes : (j k : ℕ) (js ks : List ℕ) → R j k → Pairs R js ks → Pairs R (j ∷ js) (k ∷ ks)

-- what is related to one thing is one, on either side
pub pairs-right : (R S : ℕ → ℕ → Type 0) → ((x y z : ℕ) → R x y → S x z → y ≡ z) → (js ks ls : List ℕ) → Pairs R js ks → Pairs S js ls
    → ks ≡ ls
pairs-right R S f _ _ ls Ends k = none ls k where
  none : (ls : List ℕ) → Pairs S [] ls → [] ≡ ls
  none _ Ends = refl
pairs-right R S f _ _ ls (Goes x y js ks h hs) k = more ls k (λ ls k. pairs-right R S f js ks ls hs k) where
  more : (ls : List ℕ) → Pairs S (x ∷ js) ls → ((ls : List ℕ) → Pairs S js ls → ks ≡ ls) → y ∷ ks ≡ ls
  more _ (Goes _ z _ ls k ks) later = let first = f x y z h k in let others = later ls ks in λ i. first i ∷ others i

pub pairs-left : (R S : ℕ → ℕ → Type 0) → ((x y z : ℕ) → R y x → S z x → y ≡ z) → (js ks ls : List ℕ) → Pairs R ks js → Pairs S ls js
    → ks ≡ ls
pairs-left R S f js ks ls h k = pairs-right (λ x y. R y x) (λ x y. S y x) f js ks ls (flip R ks js h) (flip S ls js k) where
  flip : (T : ℕ → ℕ → Type 0) (xs ys : List ℕ) → Pairs T xs ys → Pairs (λ x y. T y x) ys xs
  flip T _ _ Ends = Ends
  flip T _ _ (Goes x y xs ys h k) = Goes y x ys xs h (flip T xs ys k)

pub pairs-weaker : (R S : ℕ → ℕ → Type 0) → ((x y : ℕ) → R x y → S x y) → (js ks : List ℕ) → Pairs R js ks → Pairs S js ks
pairs-weaker R S f _ _ Ends = Ends
pairs-weaker R S f _ _ (Goes x y js ks h k) = Goes x y js ks (f x y h) (pairs-weaker R S f js ks k)

pub pairs-itself : (js : List ℕ) → Pairs (λ x y. x ≡ y) js js
pairs-itself [] = Ends
pairs-itself (j ∷ js) = Goes j j js js refl (pairs-itself js)

pub pairs-append : (R : ℕ → ℕ → Type 0) (js ks js' ks' : List ℕ) → Pairs R js ks → Pairs R js' ks' → Pairs R (js ++ js') (ks ++ ks')
pairs-append R _ _ js' ks' Ends h = h
pairs-append R _ _ js' ks' (Goes j k js ks r p) h = Goes j k (js ++ js') (ks ++ ks') r (pairs-append R js ks js' ks' p h)

pub pairs-length : (R : ℕ → ℕ → Type 0) (js ks : List ℕ) → Pairs R js ks → length js ≡ length ks
pairs-length R _ _ Ends = refl
pairs-length R _ _ (Goes j k js ks r p) = ap suc (pairs-length R js ks p)

pub pairs-at : (R : ℕ → ℕ → Type 0) (js ks : List ℕ) (i : ℕ) → Pairs R js ks → i < length js → R (get_or js i 0) (get_or ks i 0)
pairs-at R _ _ i Ends l = absurd (omega arith)
pairs-at R _ _ zero (Goes j k js ks r p) l = r
pairs-at R _ _ (suc i) (Goes j k js ks r p) l = pairs-at R js ks i p (omega arith)

pub fold-pairs : (R : ℕ → ℕ → Type 0) (f g : List ℕ → ℕ → List ℕ)
    → ((d e : List ℕ) (x y : ℕ) → R x y → Pairs R d e → Pairs R (f d x) (g e y))
    → (js ks d e : List ℕ) → Pairs R js ks → Pairs R d e → Pairs R (fold f d js) (fold g e ks)
fold-pairs R f g step _ _ d e Ends p = p
fold-pairs R f g step _ _ d e (Goes j k js ks r q) p = fold-pairs R f g step js ks (f d j) (g e k) q (step d e j k r p)

-- both are there and related, or neither is there
pub data OptionPair (R : ℕ → ℕ → Type 0) : Option ℕ → Option ℕ → Type 0 where
  Neither : OptionPair R None None
  Both : (j k : ℕ) → R j k → OptionPair R (Some j) (Some k)

-- the relation tells numbers apart on one side where it does on the other
pub record TellsApart (R : ℕ → ℕ → Type 0) : Type 0 where
  pub apart : (i i' j j' : ℕ) → R i j → R i' j' → (i == i') ≡ (j == j')

pub same-pairs : (R : ℕ → ℕ → Type 0) → TellsApart R → (o p o' p' : Option ℕ) → OptionPair R o o' → OptionPair R p p'
    → option_eq nat_eq o p ≡ option_eq nat_eq o' p'
same-pairs R one o p o' p' h k = search rules

-- nodes that are the same but for related numbers
pub record NodePair (R : ℕ → ℕ → Type 0) (n m : Node) : Type 0 where
  pub attack : n.attack ≡ m.attack
  pub winning : is_winning n.rest ≡ is_winning m.rest
  pub points : map (λ r. r.at) n.replies ≡ map (λ r. r.at) m.replies
  pub rests : Pairs R (rest_nodes n.rest) (rest_nodes m.rest)
  pub nexts : Pairs R (map (λ r. r.next) n.replies) (map (λ r. r.next) m.replies)

pub cons-first : {X : Type 0} (x y : X) (xs ys : List X) → x ∷ xs ≡ y ∷ ys → x ≡ y
cons-first x y xs ys e = cc

pub cons-others : {X : Type 0} (x y : X) (xs ys : List X) → x ∷ xs ≡ y ∷ ys → xs ≡ ys
cons-others x y xs ys e = cc

pub node-by_parts : (n m : Node) → n.attack ≡ m.attack → is_winning n.rest ≡ is_winning m.rest
    → map (λ r. r.at) n.replies ≡ map (λ r. r.at) m.replies
    → rest_nodes n.rest ≡ rest_nodes m.rest → map (λ r. r.next) n.replies ≡ map (λ r. r.next) m.replies → n ≡ m
node-by_parts n m attack winning points rests nexts =
    let rest = rest-same n.rest m.rest winning rests in
    let replies = replies-same n.replies m.replies points nexts in
    λ i. record { attack = attack i; replies = replies i; rest = rest i } where
      rest-same : (r s : Rest) → is_winning r ≡ is_winning s → rest_nodes r ≡ rest_nodes s → r ≡ s
      rest-same Wins Wins e f = refl
      rest-same (To j) (To k) e f = let same : j ≡ k = cc in ap To same
      rest-same Nothing Nothing e f = refl
      rest-same Wins (To k) e f = cc
      rest-same Wins Nothing e f = cc
      rest-same (To j) Wins e f = cc
      rest-same (To j) Nothing e f = cc
      rest-same Nothing Wins e f = cc
      rest-same Nothing (To k) e f = cc

      replies-same : (rs ss : List Reply) → map (λ r. r.at) rs ≡ map (λ r. r.at) ss → map (λ r. r.next) rs ≡ map (λ r. r.next) ss → rs ≡ ss
      replies-same [] [] e f = refl
      replies-same [] (s ∷ ss) e f = cc
      replies-same (r ∷ rs) [] e f = cc
      replies-same (r ∷ rs) (s ∷ ss) e f =
          let at : r.at ≡ s.at = cons-first _ _ _ _ e in
          let next : r.next ≡ s.next = cons-first _ _ _ _ f in
          let others = replies-same rs ss (cons-others _ _ _ _ e) (cons-others _ _ _ _ f) in
          λ i. record { at = at i; next = next i } ∷ others i

pub node-right : (R S : ℕ → ℕ → Type 0) → ((x y z : ℕ) → R x y → S x z → y ≡ z) → (n m l : Node) → NodePair R n m → NodePair S n l → m ≡ l
node-right R S f n m l h k = search (rules, node-by_parts, pairs-right)

pub node-left : (R S : ℕ → ℕ → Type 0) → ((x y z : ℕ) → R y x → S z x → y ≡ z) → (n m l : Node) → NodePair R m n → NodePair S l n → m ≡ l
node-left R S f n m l h k = search (rules, node-by_parts, pairs-left)

pub node-itself : (n : Node) → NodePair (λ x y. x ≡ y) n n
node-itself n = search (rules, pairs-itself)

-- nodes that name none
pub bare-pair : (R : ℕ → ℕ → Type 0) (n m : Node) → n.attack ≡ m.attack → n.rest ≡ m.rest → rest_nodes m.rest ≡ [] → n.replies ≡ []
    → m.replies ≡ [] → NodePair R n m
bare-pair R n m attack rest none e f = record {
  attack = attack;
  winning = ap is_winning rest;
  points = ap (map (λ r. r.at)) (e ∙ sym f);
  rests =
      subst (λ (r : Rest). Pairs R (rest_nodes r) (rest_nodes m.rest)) (sym rest) (subst (λ (js : List ℕ). Pairs R js js) (sym none) Ends);
  nexts = subst (λ (rs : List Reply). Pairs R (map (λ r. r.next) rs) (map (λ r. r.next) m.replies))
      (sym e) (subst (λ (rs : List Reply). Pairs R [] (map (λ r. r.next) rs)) (sym f) Ends);
}

pub AtNode-some : (o : Option Node) (n : Node) (P : Node → Type 0) → o ≡ Some n → AtNode o P → P n
AtNode-some o n P e h = search rules

pub there-at : (o : Option Node) (P : Node → Type 0) → AtNode o P → (n : Node) × (o ≡ Some n)
there-at o P h = search rules

pub winning-rest : (r : Rest) → is_winning r ≡ true → r ≡ Wins
winning-rest r h = search rules

pub rest-to : (r : Rest) (j : ℕ) → rest_node r ≡ Some j → r ≡ To j
rest-to r j e = search rules

abbrev pub IsThere : Option ℕ → Type 0
IsThere None = ⊥
IsThere (Some j) = Unit {0}

-- an answer at each reply, of related nodes
abbrev pub AnswerPairs : (ℕ → ℕ → Type 0) → Answers → Answers → List Point → Type 0
AnswerPairs R a b [] = Unit {0}
AnswerPairs R a b (q ∷ qs) = OptionPair R (answer a q) (answer b q) × IsThere (answer a q) × AnswerPairs R a b qs

some-pair : (R : ℕ → ℕ → Type 0) (j k : ℕ) → OptionPair R (Some j) (Some k) → R j k
some-pair R _ _ (Both j k r) = r

answer-pair : (R : ℕ → ℕ → Type 0) (a b : Answers) (qs : List Point) (q : Point) (j k : ℕ) → AnswerPairs R a b qs → Contains qs q
    → answer a q ≡ Some j → answer b q ≡ Some k → R j k
answer-pair R a b [] q j k h (m, l, e) x y = absurd (omega arith)
answer-pair R a b (p ∷ qs) q j k h (zero, l, e) x y = search (rules, some-pair)
answer-pair R a b (p ∷ qs) q j k h (suc m, l, e) x y = answer-pair R a b qs q j k h.2 (m, omega arith, e) x y

pub listed-pairs : (R : ℕ → ℕ → Type 0) (a b : Answers) (qs : List Point) (rs ss : List Reply)
    → AnswerPairs R a b qs → map (λ r. r.at) rs ≡ map (λ s. s.at) ss
    → ((q : Point) → Contains (map (λ r. r.at) rs) q → Contains qs q) → AllByRecursion (λ r. answer a r.at ≡ Some r.next) rs
    → AllByRecursion (λ r. answer b r.at ≡ Some r.next) ss → Pairs R (map (λ r. r.next) rs) (map (λ s. s.next) ss)
listed-pairs R a b qs [] [] h e inside x y = Ends
listed-pairs R a b qs [] (s ∷ ss) h e inside x y = cc
listed-pairs R a b qs (r ∷ rs) [] h e inside x y = cc
listed-pairs R a b qs (r ∷ rs) (s ∷ ss) h e inside x y = Goes r.next s.next _ _
    (answer-pair R a b qs r.at r.next s.next h (inside r.at (0, omega arith, refl)) x.0 (ap (answer b) (cons-first _ _ _ _ e) ∙ y.0))
    (listed-pairs R a b qs rs ss h (cons-others _ _ _ _ e) (λ q c. inside q (suc c.0, omega arith, c.2)) x.1 y.1)
