-- `==` holds of two nodes exactly where they are equal.
use Rattle.std.proofs.Common.{◌≡◌, true, ◌&&◌, ◌==◌, refl, ap, subst, ◌<◌, ◌≤◌, List, length, arith, ℕ, get_or, sym, ◌∙◌, zero, suc, false}
use Rattle.std.proofs.Common.{[], ◌∷◌, Some, slice_get, position, Contains, rules}
use Rattle.std.specs.Bool.{Decides}
use Rattle.std.proofs.lemmas.Bool.Decides.{Decides-eqb}
use Rattle.std.proofs.lemmas.List.Quantifiers.{position-Some}
use Rattle.std.proofs.lemmas.Option.{slice_get-get_or}
use Rattle.std.specs.List.{list_any, AllByRecursion, IsDistinct}
use Rattle.std.proofs.lemmas.Map.Views.{Contains-from_any}
use Rattle.strategy_graph.proofs.Common.{Node, Rest, same_replies, same_replies_decides, MAX_NODES}
use Rattle.strategy_graph.specs.contracts.NodePartialEq.TheImpl.{ghosts as node_ghosts}
use Rattle.strategy_graph.specs.contracts.RestPartialEq.TheImpl.{ghosts as rest_ghosts}
use Rattle.game_rules.proofs.Boards.{and_left, and_right}
use Rattle.game_rules.proofs.Tests.{or_none, or_right}

rest-eq : (r s : Rest) → Decides (rest_ghosts.eq r s) (r ≡ s)
rest-eq r s = search (rules, Decides-eqb)

node_from : (m n : Node) → node_ghosts.eq m n ≡ true → m ≡ n
node_from m n h =
    let at : (m.attack.x == n.attack.x && m.attack.y == n.attack.y) ≡ true =
    and_left (m.attack.x == n.attack.x && m.attack.y == n.attack.y) _ h in
    let others : (same_replies m.replies n.replies && rest_ghosts.eq m.rest n.rest) ≡ true =
    and_right (m.attack.x == n.attack.x && m.attack.y == n.attack.y) _ h in
    let x : m.attack.x ≡ n.attack.x = (Decides-eqb m.attack.x n.attack.x).0 (and_left (m.attack.x == n.attack.x) _ at) in
    let y : m.attack.y ≡ n.attack.y = (Decides-eqb m.attack.y n.attack.y).0 (and_right (m.attack.x == n.attack.x) _ at) in
    let replies : m.replies ≡ n.replies = (same_replies_decides m.replies n.replies).0
    (and_left (same_replies m.replies n.replies) _ others) in
    let rest : m.rest ≡ n.rest = (rest-eq m.rest n.rest).0 (and_right (same_replies m.replies n.replies) _ others) in
    λ i. record { attack = record { x = x i; y = y i }; replies = replies i; rest = rest i }

node_itself : (n : Node) → node_ghosts.eq n n ≡ true
node_itself n = rw (
  (Decides-eqb n.attack.x n.attack.x).1 refl,
  (Decides-eqb n.attack.y n.attack.y).1 refl,
  (same_replies_decides n.replies n.replies).1 refl,
) ((rest-eq n.rest n.rest).1 refl)

pub lt_of_le : (ks : List Node) → length ks ≤ MAX_NODES → (length ks ≡ MAX_NODES → ⊥) → length ks < MAX_NODES
lt_of_le ks l e = omega arith

-- the node is at the place that is found for it
pub position-found : (n : Node) (ks : List Node) (i : ℕ) → position (node_ghosts.eq n) ks ≡ Some i → slice_get ks i ≡ Some n
position-found n ks i h =
    let at = position-Some (node_ghosts.eq n) ks i n h in
    slice_get-get_or ks i n at.0 ∙ ap Some (sym (node_from n (get_or ks i n) at.1))

-- a node that is found is there, and one that is not found is not
pub Contains-found : (n : Node) (ks : List Node) → list_any (node_ghosts.eq n) ks ≡ true → Contains ks n
Contains-found n ks h = Contains-from_any node_from n ks h

pub list_any-Contains : (n : Node) (ks : List Node) → list_any (node_ghosts.eq n) ks ≡ false → ¬ Contains ks n
list_any-Contains n [] h (i, l, e) = absurd (omega arith)
list_any-Contains n (k ∷ ks) h (zero, l, e) = search (rules, node_itself, or_none)
list_any-Contains n (k ∷ ks) h (suc i, l, e) = list_any-Contains n ks (or_right (node_ghosts.eq n k) _ h) (i, omega arith, e)

-- the node is at the place where one is equal to it
pub stored-at : (n : Node) (ks : List Node) (i : ℕ) → (k : Node) × (slice_get ks i ≡ Some k) × (node_ghosts.eq n k ≡ true)
    → slice_get ks i ≡ Some n
stored-at n ks i (k, at, e) = at ∙ ap Some (sym (node_from n k e))

none_equal : (n : Node) (ks : List Node) (i : ℕ) → AllByRecursion (λ k. node_ghosts.eq n k ≡ false) ks → slice_get ks i ≡ Some n → ⊥
none_equal n [] i h e = cc
none_equal n (k ∷ ks) zero h e = search (rules, node_itself)
none_equal n (k ∷ ks) (suc i) h e = none_equal n ks i h.1 e

pub different_by : (ks : List Node) → IsDistinct node_ghosts.eq ks → (i j : ℕ) (n : Node) → slice_get ks i ≡ Some n
    → slice_get ks j ≡ Some n → i ≡ j
unfolding IsDistinct
different_by [] h i j n a b = cc
different_by (k ∷ ks) h zero zero n a b = refl
different_by (k ∷ ks) h zero (suc j) n a b = let equal : k ≡ n =
    cc in absurd (none_equal n ks j (subst (λ (m : Node). AllByRecursion (λ y. node_ghosts.eq m y ≡ false) ks) equal h.0) b)
different_by (k ∷ ks) h (suc i) zero n a b = let equal : k ≡ n =
    cc in absurd (none_equal n ks i (subst (λ (m : Node). AllByRecursion (λ y. node_ghosts.eq m y ≡ false) ks) equal h.0) a)
different_by (k ∷ ks) h (suc i) (suc j) n a b = ap suc (different_by ks h.1 i j n a b)
