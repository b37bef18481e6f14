-- Points in reading order, and replies at such points, which rise. Replies that rise strictly in reading order.
use Rattle.std.proofs.Common.{◌≡◌, ℕ, ◌+◌, Bool, true, refl, sym, subst, List, [], ◌∷◌, map, zero, suc, ◌≤◌, ◌<◌, false, cond, ◌&&◌, length}
use Rattle.std.proofs.Common.{get_or, drop, drop-cons, add-one, ap, ◌∙◌, arith, Some, None, Option, All, Contains, nat_lt, rules}
use Rattle.std.specs.List.{list_all, filter, AllByRecursion}
use Rattle.std.specs.Option.{option_or}
use Rattle.std.proofs.lemmas.List.Sums.{AllPass-from_list_all}
use Rattle.std.proofs.Math.ListN.{drop_of_length-le}
use Rattle.std.proofs.lemmas.List.{length-map, get_or-map}
use borrow.Author.Tests.{lt-ltb}
use Rattle.strategy_graph.proofs.Common.{Point, Grid, points_of, precedes, is_same_point, Reply, is_rising, listed_node, Answers, answer}
use Rattle.strategy_graph.proofs.Common.{rest_node}
use Rattle.game_rules.proofs.ReadingOrder.{From, Following, rows-following, later, filter-following, precedes-from}
use Rattle.game_rules.proofs.Boards.{and_left, and_right}
use Rattle.game_rules.proofs.Points.{is_same_point-itself, precedes-trans, precedes-differs, precedes-differs_back, is_same_point-same}

-- ---- replies at such points

all-after : (p : Point) (y x : ℕ) (rs : List Reply) → ((q : Point) → From y x q → From p.y (p.x + 1) q) → Following y x (map (λ r. r.at) rs)
    → list_all (λ s. precedes p s.at) rs ≡ true
unfolding Following
all-after p y x [] f h = refl
all-after p y x (r ∷ rs) f h =
    rw (precedes-from p r.at (f r.at h.0)) (all-after p r.at.y (r.at.x + 1) rs (λ q k. later r.at q k p.y (p.x + 1) (f r.at h.0)) h.1)

replies-rise : (y x : ℕ) (rs : List Reply) → Following y x (map (λ r. r.at) rs) → is_rising rs ≡ true
unfolding Following
replies-rise y x [] h = refl
replies-rise y x (r ∷ rs) h = rw (all-after r.at r.at.y (r.at.x + 1) rs (λ q k. k) h.1) (replies-rise r.at.y (r.at.x + 1) rs h.1)

-- replies at the points of a board that pass a test, in reading order, rise
pub replies-rising : (b : Grid) (f : Point → Bool) (rs : List Reply) → map (λ r. r.at) rs ≡ filter f (points_of b) → is_rising rs ≡ true
replies-rising b f rs e = replies-rise 0 0 rs
    (subst (λ (ps : List Point). Following 0 0 ps) (sym e) (filter-following f 0 0 (points_of b) (rows-following b.width 0 b.height)))

-- and so do replies at all points
pub points-rising : (b : Grid) (rs : List Reply) → map (λ r. r.at) rs ≡ points_of b → is_rising rs ≡ true
points-rising b rs e = replies-rise 0 0 rs (subst (λ (ps : List Point). Following 0 0 ps) (sym e) (rows-following b.width 0 b.height))

-- each reply comes after the one before it, and the first after p
abbrev pub climbs : Point → List Reply → Bool
climbs p [] = true
climbs p (r ∷ rs) = precedes p r.at && climbs r.at rs

all_after : (p q : Point) → precedes p q ≡ true → (rs : List Reply) → list_all (λ s. precedes q s.at) rs ≡ true
    → list_all (λ s. precedes p s.at) rs ≡ true
all_after p q h [] k = refl
all_after p q h (r ∷ rs) k = search (rules, precedes-trans, and_left, and_right, all_after p q h rs (and_right (precedes q r.at) _ k))

climbs_by : (a b c d : Bool) → (a ≡ true → b ≡ true → c ≡ true) → (a && (b && d)) ≡ ((a && c) && (b && d))
climbs_by a b c d f = search rules

-- to come after one another is to come after all earlier ones
pub climbs-rising : (p : Point) (rs : List Reply) → climbs p rs ≡ (list_all (λ s. precedes p s.at) rs && is_rising rs)
climbs-rising p [] = refl
climbs-rising p (r ∷ rs) = search (rules, climbs_by, all_after, climbs-rising r.at rs)

pub is_rising-climbs : (r : Reply) (rs : List Reply) → is_rising (r ∷ rs) ≡ climbs r.at rs
is_rising-climbs r rs = sym (climbs-rising r.at rs)

pub climbs-drop : (p : Point) (rs : List Reply) (i : ℕ) (d : Reply) → i < length rs
    → climbs p (drop i rs) ≡ (precedes p (get_or rs i d).at && climbs (get_or rs i d).at (drop (i + 1) rs))
climbs-drop p rs i d l = rw (add-one, drop-cons rs i d) refl

-- ---- what is listed of rising replies

-- nothing is listed for a point before all of them, some of them left out or not
none_listed : (f : Reply → Bool) (p : Point) (rs : List Reply) → list_all (λ s. precedes p s.at) rs ≡ true
    → listed_node (filter f rs) p ≡ None
none_listed f p [] h = refl
none_listed f p (r ∷ rs) h =
    search (rules, precedes-differs_back, and_left, and_right, none_listed f p rs (and_right (precedes p r.at) _ h))

after_head : (r : Reply) (rs : List Reply) (k : ℕ) (d : Reply) → is_rising (r ∷ rs) ≡ true → k < length rs
    → is_same_point r.at (get_or rs k d).at ≡ false
after_head r rs k d h l = search (rules, precedes-differs, AllPass-from_list_all, and_left)

-- of rising replies, one that is kept is listed for its point
pub listed-kept : (f : Reply → Bool) (rs : List Reply) (k : ℕ) (d : Reply) → is_rising rs ≡ true → k < length rs → f (get_or rs k d) ≡ true
    → listed_node (filter f rs) (get_or rs k d).at ≡ Some (get_or rs k d).next
listed-kept f [] k d h l e = absurd (omega arith)
listed-kept f (r ∷ rs) zero d h l e = rw (e, is_same_point-itself r.at) refl
listed-kept f (r ∷ rs) (suc k) d h l e = by_test (f r) (after_head r rs k d h (omega arith))
    (listed-kept f rs k d (and_right (list_all (λ s. precedes r.at s.at) rs) _ h) (omega arith) e) where
      by_test : (b : Bool) → is_same_point r.at (get_or rs k d).at ≡ false
          → listed_node (filter f rs) (get_or rs k d).at ≡ Some (get_or rs k d).next
          → listed_node (cond b (r ∷ filter f rs) (filter f rs)) (get_or rs k d).at ≡ Some (get_or rs k d).next
      by_test true e h = rw e h
      by_test false e h = h

all_filter : (p : Reply → Bool) (f : Reply → Bool) (rs : List Reply) → list_all p rs ≡ true → list_all p (filter f rs) ≡ true
all_filter p f [] h = refl
all_filter p f (r ∷ rs) h = search (rules, and_left, and_right, all_filter p f rs (and_right (p r) _ h))

-- rising replies rise where some are left out
pub is_rising-filter : (f : Reply → Bool) (rs : List Reply) → is_rising rs ≡ true → is_rising (filter f rs) ≡ true
is_rising-filter f [] h = refl
is_rising-filter f (r ∷ rs) h = by_test (f r) (all_filter (λ s. precedes r.at s.at) f rs (and_left _ _ h))
    (is_rising-filter f rs (and_right (list_all (λ s. precedes r.at s.at) rs) _ h)) where
      by_test : (b : Bool) → list_all (λ s. precedes r.at s.at) (filter f rs) ≡ true → is_rising (filter f rs) ≡ true
          → is_rising (cond b (r ∷ filter f rs) (filter f rs)) ≡ true
      by_test true e h = rw (e, h) refl
      by_test false e h = h

-- ---- a walk over the replies after the first

pub falls-at : (rs : List Reply) (r : Reply) (os : List Reply) (last : Point) (i : ℕ) (d : Reply) → rs ≡ r ∷ os
    → climbs r.at os ≡ climbs last (drop i os) → i < length os → precedes last (get_or os i d).at ≡ false → false ≡ is_rising rs
falls-at rs r os last i d e h l not_after = sym (ap is_rising e ∙ is_rising-climbs r os ∙ h ∙ climbs-drop last os i d l
    ∙ ap (λ (b : Bool). b && climbs (get_or os i d).at (drop (i + 1) os)) not_after)

pub rises-to : (rs : List Reply) (r : Reply) (os : List Reply) (last : Point) (i : ℕ) → rs ≡ r ∷ os
    → climbs r.at os ≡ climbs last (drop i os) → length os ≤ i → true ≡ is_rising rs
rises-to rs r os last i e h l = sym (ap is_rising e ∙ is_rising-climbs r os ∙ h ∙ ap (climbs last) (drop_of_length-le os l))

pub next-filter : (p : ℕ → Bool) (q : Reply → Bool) (rs : List Reply) → list_all p (map (λ r. r.next) rs) ≡ true
    → list_all p (map (λ r. r.next) (filter q rs)) ≡ true
next-filter p q [] h = refl
next-filter p q (r ∷ rs) h = by_test (q r) (next-filter p q rs (and_right (p r.next) _ h)) where
  by_test : (b : Bool) → list_all p (map (λ r. r.next) (filter q rs)) ≡ true
      → list_all p (map (λ r. r.next) (cond b (r ∷ filter q rs) (filter q rs))) ≡ true
  by_test true k = rw (and_left (p r.next) _ h) k
  by_test false k = k

-- the first of rising replies, and those after it
listed-first : (q : Reply → Bool) (r : Reply) (rs : List Reply) → list_all (λ s. precedes r.at s.at) rs ≡ true
    → listed_node (filter q (r ∷ rs)) r.at ≡ cond (q r) (Some r.next) None
listed-first q r rs h = search (rules, is_same_point-itself, none_listed)

listed-skips : (q : Reply → Bool) (r : Reply) (rs : List Reply) (p : Point) → precedes r.at p ≡ true
    → listed_node (filter q (r ∷ rs)) p ≡ listed_node (filter q rs) p
listed-skips q r rs p h = search (rules, precedes-differs)

-- each reply that is kept is listed with its node, and no other is
unfoldable pub Kept : (Reply → Bool) → List Reply → Reply → Type 0
Kept q rs r = listed_node (filter q rs) r.at ≡ cond (q r) (Some r.next) None

kept_more : (q : Reply → Bool) (r : Reply) (rs ss : List Reply) → list_all (λ s. precedes r.at s.at) ss ≡ true
    → AllByRecursion (Kept q rs) ss → AllByRecursion (Kept q (r ∷ rs)) ss
unfolding Kept
kept_more q r rs [] h k = tt
kept_more q r rs (s ∷ ss) h k =
    (listed-skips q r rs s.at (and_left (precedes r.at s.at) _ h) ∙ k.0, kept_more q r rs ss (and_right (precedes r.at s.at) _ h) k.1)

pub kept_all : (q : Reply → Bool) (rs : List Reply) → is_rising rs ≡ true → AllByRecursion (Kept q rs) rs
unfolding Kept
kept_all q [] h = tt
kept_all q (r ∷ rs) h =
    let after : list_all (λ s. precedes r.at s.at) rs ≡ true = and_left _ (is_rising rs) h in
    (listed-first q r rs after, kept_more q r rs rs after (kept_all q rs (and_right (list_all (λ s. precedes r.at s.at) rs) _ h)))

-- the answers to the replies, as given
abbrev pub AnsweredAsGiven : Answers → List Reply → Type 0
AnsweredAsGiven a rs = AllByRecursion (λ r. answer a r.at ≡ Some r.next) rs

pub filter-all : (rs : List Reply) → filter (λ r. true) rs ≡ rs
filter-all [] = refl
filter-all (r ∷ rs) = ap (λ (xs : List Reply). r ∷ xs) (filter-all rs)

-- each reply of a rising list is answered as it is listed
pub answered-as-listed : (a : Answers) → is_rising a.replies ≡ true → AllByRecursion (λ r. answer a r.at ≡ Some r.next) a.replies
unfolding Kept
answered-as-listed a h = each a.replies (kept_all (λ r. true) a.replies h) where
  each : (rs : List Reply) → AllByRecursion (Kept (λ r. true) a.replies) rs → AllByRecursion (λ r. answer a r.at ≡ Some r.next) rs
  each [] k = tt
  each (r ∷ rs) k = (
    ap (λ (o : Option ℕ). option_or o (rest_node a.rest))
        (sym (ap (λ (xs : List Reply). listed_node xs r.at) (filter-all a.replies)) ∙ k.0),
    each rs k.1,
  )

-- it names no points but those given
pub point-given : (rs : List Reply) → All (λ r. Contains (map (λ r. r.at) rs) r.at) rs
point-given rs = λ k d l. (
  k,
  let long = length-map rs (λ (r : Reply). r.at) in
      omega (arith, long, l),
  get_or-map (λ (r : Reply). r.at) rs k d (get_or rs k d).at l,
)

-- a reply that is listed is answered as given
pub listed-given : (a : Answers) (rs : List Reply) (q : Point) (j : ℕ) → AnsweredAsGiven a rs → listed_node rs q ≡ Some j
    → answer a q ≡ Some j
listed-given a [] q j given e = cc
listed-given a (r ∷ rs) q j given e = search (rules, is_same_point-same, listed-given a rs q j given.1)

pub all-next : (rs : List Reply) (k : ℕ) → All (λ r. r.next < k) rs → list_all (λ j. nat_lt j k) (map (λ r. r.next) rs) ≡ true
all-next [] k h = refl
all-next (r ∷ rs) k h = rw (lt-ltb r.next k (h 0 r (omega arith))) (all-next rs k (λ i d l. h (suc i) d (omega arith)))
