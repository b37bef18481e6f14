-- When two replies, and two lists of replies, are the same, and what is hashed of them.
use Rattle.std.specs.Prelude.{◌≡◌, Bool, true, ◌&&◌, ◌==◌, List, ◌++◌}
use Rattle.std.specs.Bool.{Decides}
use Rattle.std.specs.Cmp.{IsEquivalence, IsPartialEquivalence, partial_equiv_from_equiv, first_so, second_so}
use Rattle.std.specs.Cmp.Lexicographic.{pointwise_decides}
use Rattle.std.specs.Hash.{HashWrites, u8, u32, slice}
use Rattle.std.proofs.Common.{ap, subst}
use Rattle.std.proofs.lemmas.Bool.Decides.{Decides-eqb}
use Rattle.std.proofs.lemmas.Cmp.{nat_eq_equiv, on_equiv, and_equiv, lists_equiv}
use lib.Pointwise.{pointwise}
use Rattle.game_rules.specs.Shapes.{is_same_point}
use Rattle.strategy_graph.specs.declared.Reply.{Reply}

-- whether the replies are at one point and name one node
abbrev pub same_reply : Reply → Reply → Bool
same_reply r s = is_same_point r.at s.at && r.next == s.next

-- whether the lists are as long, and have the same reply at each place
abbrev pub same_replies : List Reply → List Reply → Bool
same_replies = pointwise same_reply

-- what a hash reads of replies: their number, and of each its point and its node
abbrev pub hashed_replies : List Reply → HashWrites
hashed_replies = slice (λ r. u8 r.at.x ++ u8 r.at.y ++ u32 r.next)

-- to be the same is an equivalence
same_reply_equiv : IsEquivalence same_reply
same_reply_equiv = and_equiv (and_equiv (on_equiv (λ (r : Reply). r.at.x) nat_eq_equiv) (on_equiv (λ (r : Reply). r.at.y) nat_eq_equiv))
    (on_equiv (λ (r : Reply). r.next) nat_eq_equiv)

-- and so it is of lists
pub same_replies_equiv : IsEquivalence same_replies
same_replies_equiv = lists_equiv same_reply_equiv

-- and what std asks of `==`
pub same_replies_per : IsPartialEquivalence same_replies
same_replies_per = partial_equiv_from_equiv same_replies_equiv

-- replies that are the same are equal
reply_from : (r s : Reply) → same_reply r s ≡ true → r ≡ s
reply_from r s h =
    let at : is_same_point r.at s.at ≡ true = first_so (is_same_point r.at s.at) (r.next == s.next) h in
    let x : r.at.x ≡ s.at.x = (Decides-eqb r.at.x s.at.x).0 (first_so (r.at.x == s.at.x) (r.at.y == s.at.y) at) in
    let y : r.at.y ≡ s.at.y = (Decides-eqb r.at.y s.at.y).0 (second_so (r.at.x == s.at.x) (r.at.y == s.at.y) at) in
    let next : r.next ≡ s.next = (Decides-eqb r.next s.next).0 (second_so (is_same_point r.at s.at) (r.next == s.next) h) in
    λ i. record { at = record { x = x i; y = y i }; next = next i }

-- the test of replies decides whether they are equal
same_reply_decides : (r s : Reply) → Decides (same_reply r s) (r ≡ s)
same_reply_decides r s = (reply_from r s, λ e. subst (λ (v : Reply). same_reply r v ≡ true) e (same_reply_equiv.refl r))

-- the test of lists decides whether they are equal
pub same_replies_decides : (xs ys : List Reply) → Decides (same_replies xs ys) (xs ≡ ys)
same_replies_decides = pointwise_decides same_reply_decides

-- what is the same is hashed alike
pub same_replies_hashed : (xs ys : List Reply) → same_replies xs ys ≡ true → hashed_replies xs ≡ hashed_replies ys
same_replies_hashed xs ys h = ap hashed_replies ((same_replies_decides xs ys).0 h)
