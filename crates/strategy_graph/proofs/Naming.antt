-- Nodes at their places in a table, and in one that grows. The nodes that answers name, and the greatest of their depths.
use Rattle.std.proofs.Common.{◌≡◌, ℕ, zero, suc, ◌<◌, List, [], ◌∷◌, ◌++◌, length, arith, refl, Some, slice_get, max, Bool, true, false}
use Rattle.std.proofs.Common.{◌&&◌, map, get_or, sym, ap, ◌∙◌, subst, nat_lt, None, All, rules, ltb-true}
use Rattle.std.specs.List.{list_all}
use Rattle.std.proofs.lemmas.Option.{same_Some}
use Rattle.std.proofs.lemmas.List.Folds.{list_all-append, list_all-map}
use Rattle.std.proofs.lemmas.List.Sums.{AllPass-from_list_all}
use Rattle.game_rules.proofs.Boards.{and_left, and_right}
use Rattle.strategy_graph.proofs.Common.{Node, Reply, Rest, Answers, named, names_below, rest_nodes, rest_node, greatest}

pub slice_get-shorter : (t more : List Node) (i : ℕ) (n : Node) → i < length t → slice_get (t ++ more) i ≡ Some n → slice_get t i ≡ Some n
slice_get-shorter [] more i n l h = absurd (omega arith)
slice_get-shorter (m ∷ t) more zero n l h = h
slice_get-shorter (m ∷ t) more (suc i) n l h = slice_get-shorter t more i n (omega arith) h

-- a longer table has the nodes of the shorter
pub slice_get-longer : (t more : List Node) (i : ℕ) (n : Node) → slice_get t i ≡ Some n → slice_get (t ++ more) i ≡ Some n
slice_get-longer [] more i n h = cc
slice_get-longer (m ∷ t) more zero n h = h
slice_get-longer (m ∷ t) more (suc i) n h = slice_get-longer t more i n h

pub ext-slice_get : (t u : List Node) → length t ≡ length u → ((i : ℕ) → i < length t → slice_get t i ≡ slice_get u i) → t ≡ u
ext-slice_get [] [] e h = refl
ext-slice_get [] (m ∷ u) e h = absurd (omega (arith, e))
ext-slice_get (n ∷ t) [] e h = absurd (omega (arith, e))
ext-slice_get (n ∷ t) (m ∷ u) e h =
    let first : n ≡ m = same_Some n m (h 0 (omega arith)) in
    let others : t ≡ u = ext-slice_get t u (omega (arith, e)) (λ i l. h (suc i) (omega arith)) in
    λ i. first i ∷ others i

-- the nodes that are listed, and that of the rest
pub names_below-parts : (a : Answers) (k : ℕ) → names_below a k
    ≡ (list_all (λ r. nat_lt r.next k) a.replies && list_all (λ j. nat_lt j k) (rest_nodes a.rest))
names_below-parts a k = search (rules, list_all-append, list_all-map)

-- a reply that is listed names a node below k where all do
pub reply-below : (a : Answers) (k i : ℕ) (d : Reply) → names_below a k ≡ true → i < length a.replies → (get_or a.replies i d).next < k
reply-below a k i d h l = search (rules, ltb-true, AllPass-from_list_all, and_left, names_below-parts)

rest_by : (r : Rest) (k j : ℕ) → list_all (λ j. nat_lt j k) (rest_nodes r) ≡ true → rest_node r ≡ Some j → j < k
rest_by r k j h e = search (rules, ltb-true, and_left)

-- and so does the rest
pub rest-below : (a : Answers) (k j : ℕ) → names_below a k ≡ true → rest_node a.rest ≡ Some j → j < k
rest-below a k j h e = rest_by a.rest k j (and_right (list_all (λ r. nat_lt r.next k) a.replies) _ (sym (names_below-parts a k) ∙ h)) e

-- ---- the greatest depth

greatest-append : (d : ℕ → ℕ) (xs ys : List ℕ) → greatest (map d (xs ++ ys)) ≡ max (greatest (map d xs)) (greatest (map d ys))
greatest-append d [] ys = omega arith
greatest-append d (x ∷ xs) ys = let rest = greatest-append d xs ys in omega (arith, rest)

-- the greatest depth of the nodes that the replies name
abbrev pub greatest_listed : (ℕ → ℕ) → List Reply → ℕ
greatest_listed d rs = greatest (map d (map (λ r. r.next) rs))

pub greatest-parts : (d : ℕ → ℕ) (a : Answers) → greatest (map d (named a)) ≡ max (greatest (map d (rest_nodes a.rest)))
    (greatest_listed d a.replies)
greatest-parts d a = let both = greatest-append d (map (λ r. r.next) a.replies) (rest_nodes a.rest) in omega (arith, both)

pub greatest_rest-none : (d : ℕ → ℕ) (r : Rest) → rest_node r ≡ None → greatest (map d (rest_nodes r)) ≡ 0
greatest_rest-none d r e = search rules

pub greatest_rest-some : (d : ℕ → ℕ) (r : Rest) (j : ℕ) → rest_node r ≡ Some j → greatest (map d (rest_nodes r)) ≡ d j
greatest_rest-some d r j e = search rules

-- ---- by parts

pub names_below-then : (a : Answers) (k : ℕ) (y : Bool) → list_all (λ r. nat_lt r.next k) a.replies ≡ true
    → y ≡ list_all (λ j. nat_lt j k) (rest_nodes a.rest) → y ≡ names_below a k
names_below-then a k y h e = e ∙ sym (names_below-parts a k ∙ ap (λ (b : Bool). b && list_all (λ j. nat_lt j k) (rest_nodes a.rest)) h)

pub names_below-else : (a : Answers) (k : ℕ) (y : Bool) → list_all (λ r. nat_lt r.next k) a.replies ≡ false → y ≡ false
    → y ≡ names_below a k
names_below-else a k y h e = e ∙ sym (names_below-parts a k ∙ ap (λ (b : Bool). b && list_all (λ j. nat_lt j k) (rest_nodes a.rest)) h)

-- the greatest depth begins with that of the rest
pub greatest-none : (d : ℕ → ℕ) (a : Answers) (m : ℕ) → rest_node a.rest ≡ None → m ≡ 0
    → greatest (map d (named a)) ≡ max m (greatest_listed d a.replies)
greatest-none d a m e h = greatest-parts d a ∙ ap (λ (k : ℕ). max k (greatest_listed d a.replies)) (greatest_rest-none d a.rest e ∙ sym h)

pub greatest-some : (d : ℕ → ℕ) (a : Answers) (m j : ℕ) → rest_node a.rest ≡ Some j → m ≡ d j
    → greatest (map d (named a)) ≡ max m (greatest_listed d a.replies)
greatest-some d a m j e h = search (rules, greatest-parts, greatest_rest-some)

-- the listed replies name nodes below k where all that is named is
pub replies-below : (a : Answers) (k : ℕ) (rs : List Reply) → rs ≡ a.replies → names_below a k ≡ true → All (λ r. r.next < k) rs
replies-below a k rs e h = subst (All (λ r. r.next < k)) (sym e) (λ i d l. reply-below a k i d h l)
