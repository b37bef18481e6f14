-- Lists of points: what is found, filtered, counted and summed in them.
use Rattle.std.proofs.Common.{rules, not, List, ◌≡◌, Bool, cond, refl, ap, ◌∙◌, [], ◌∷◌, true, false, ◌&&◌, ◌||◌, suc, sym, subst, arith}
use Rattle.std.proofs.Common.{zero, ℕ, ◌+◌, ◌<◌, length, drop, get_or, ◌++◌, take, ◌≤◌, reverse, nat_le, leb-true, leb-false, le-leb}
use Rattle.std.proofs.Common.{filter, find, All, sum_by, Some, None, Contains, Option, unwrap_or}
use Rattle.std.specs.List.{list_any, list_all, AllByRecursion}
use Rattle.std.specs.Option.{option_or}
use Rattle.std.proofs.lemmas.Bool.{or_right, and_from, false_from_ne_true, or_parts, or_from}
use Rattle.std.proofs.Math.Seq.{drop-cons}
use Rattle.std.proofs.lemmas.List.{take_more, reverse-append}
use Rattle.std.proofs.lemmas.List.Folds.{list_all-append}
use Rattle.std.proofs.lemmas.List.Sums.{sum_by-cons}
use Rattle.game_rules.proofs.Common.{is_same_point, is_at, Grid, is_on, points_of, Point}
use Rattle.game_rules.proofs.Points.{is_same_point-same, filter-passes, is_same_point-itself, points-found}
use Rattle.game_rules.proofs.Boards.{Apart, and_left, and_right}
use Rattle.game_rules.proofs.Places.{find-passes, find-some}

-- the points of a list but p
abbrev pub without : Point → List Point → List Point
without p xs = filter (λ q. not (is_same_point p q)) xs

pub filter-same : (f g : Point → Bool) (xs : List Point) → ((q : Point) → f q ≡ g q) → filter f xs ≡ filter g xs
filter-same f g [] h = refl
filter-same f g (x ∷ xs) h = search (rules, filter-same f g xs h)

pub filter-both : (f g : Point → Bool) (xs : List Point) → filter (λ q. f q && g q) xs ≡ filter g (filter f xs)
filter-both f g [] = refl
filter-both f g (x ∷ xs) = search (rules, filter-both f g xs)

pub unfound-none : (f : Point → Bool) (xs : List Point) → find f xs ≡ None → list_any f xs ≡ false
unfound-none f [] h = refl
unfound-none f (x ∷ xs) h = search (rules, unfound-none f xs)

pub none-unfound : (f : Point → Bool) (xs : List Point) → list_any f xs ≡ false → find f xs ≡ None
none-unfound f [] h = refl
none-unfound f (x ∷ xs) h = search (rules, none-unfound f xs)

pub found_all : (P : Point → Type 0) (q : Point) (xs : List Point) → All P xs → list_any (is_same_point q) xs ≡ true → P q
found_all P q [] all h = cc
found_all P q (x ∷ xs) all h = by_test (is_same_point q x) refl h (found_all P q xs (λ j d l. all (suc j) d (omega arith))) where
  by_test : (r : Bool) → is_same_point q x ≡ r → (r || list_any (is_same_point q) xs) ≡ true → (list_any (is_same_point q) xs ≡ true → P q)
      → P q
  by_test true e k later = subst P (sym (is_same_point-same q x e)) (all 0 q (omega arith))
  by_test false e k later = later k

-- what passes is still there among those that pass
pub still-found : (f : Point → Bool) (q : Point) (ps : List Point) → f q ≡ true → list_any (is_same_point q) ps ≡ true
    → list_any (is_same_point q) (filter f ps) ≡ true
still-found f q [] h k = cc
still-found f q (p ∷ ps) h k = search (rules, or_right, is_same_point-same, still-found f q ps h)

pub filter-inside : (p : Point → Bool) (qs : List Point) (q : Point) → Contains (filter p qs) q → Contains qs q
filter-inside p [] q (k, l, e) = absurd (omega arith)
filter-inside p (r ∷ qs) q c = by_test (p r) c (filter-inside p qs q) where
  later : Contains qs q → Contains (r ∷ qs) q
  later (k, l, e) = (suc k, omega arith, e)

  by_test : (b : Bool) → Contains (cond b (r ∷ filter p qs) (filter p qs)) q → (Contains (filter p qs) q → Contains qs q)
      → Contains (r ∷ qs) q
  by_test true (zero, l, e) next = (0, omega arith, e)
  by_test true (suc k, l, e) next = later (next (k, omega arith, e))
  by_test false c next = later (next c)

pub next_point : (points : List Point) (i : ℕ) → i < length points
    → drop i points ≡ get_or points i (record { x = 0; y = 0 }) ∷ drop (i + 1) points
next_point points i within = search (rules, drop-cons)

pub first_points : (points : List Point) (i : ℕ) → i < length points
    → take (i + 1) points ≡ take i points ++ get_or points i (record { x = 0; y = 0 }) ∷ []
first_points points i within = take_more points i (record { x = 0; y = 0 }) within

pub all-append : (f : Point → Bool) (xs ys : List Point) → list_all f xs ≡ true → list_all f ys ≡ true → list_all f (xs ++ ys) ≡ true
all-append f xs ys h k = list_all-append f xs ys ∙ and_from (list_all f xs) _ h k

pub some_passes : (f g : Point → Bool) (xs : List Point) → list_any f (filter g xs) ≡ true → (x : Point) × (g x ≡ true)
some_passes f g [] h = cc
some_passes f g (x ∷ xs) h = search (rules, some_passes f g xs)

pub no_point : (ps : List Point) → filter (λ p. false) ps ≡ []
no_point [] = refl
no_point (p ∷ ps) = no_point ps

pub passing : (f : Point → Bool) (ps xs : List Point) → filter f ps ≡ xs → list_all f xs ≡ true
passing f ps xs e = subst (λ ys. list_all f ys ≡ true) e (filter-passes f ps)

-- whether q is one of the points
abbrev pub among_points : Point → List Point → Bool
among_points q ps = list_any (λ p. is_same_point q p) ps

abbrev pub AmongPoints : Point → List Point → Type 0
AmongPoints q ps = among_points q ps ≡ true

pub apart_same : (p q : Point) → Apart p q → is_same_point q p ≡ false
apart_same p q h = search (rules, false_from_ne_true, is_same_point-same)

pub find-and : (f g : Point → Bool) (ps : List Point) → find (λ x. f x && g x) ps ≡ find g (filter f ps)
find-and f g [] = refl
find-and f g (p ∷ ps) = search (rules, find-and f g ps)

pub find-any : (f : Point → Bool) (ps : List Point) (p : Point) → find f ps ≡ Some p → list_any f ps ≡ true
find-any f [] p h = cc
find-any f (x ∷ ps) p h = search (rules, find-any f ps p)

pub any-find : (f : Point → Bool) (ps : List Point) → list_any f ps ≡ true → (p : Point) × (find f ps ≡ Some p)
any-find f [] h = cc
any-find f (x ∷ ps) h = by_test (f x) h (any-find f ps) where
  by_test : (r : Bool) → (r || list_any f ps) ≡ true → (list_any f ps ≡ true → (p : Point) × (find f ps ≡ Some p))
      → (p : Point) × (cond r (Some x) (find f ps) ≡ Some p)
  by_test true h k = (x, refl)
  by_test false h k = k h

pub snoc-parts : (xs ys : List Point) (x y : Point) → xs ++ x ∷ [] ≡ ys ++ y ∷ [] → (xs ≡ ys) × (x ≡ y)
snoc-parts [] [] x y h = (refl, let e : x ≡ y = cc in e)
snoc-parts [] (b ∷ ys) x y h = absurd (no_end ys (let e : [] ≡ ys ++ y ∷ [] = cc in e)) where
  no_end : (ys : List Point) → [] ≡ ys ++ y ∷ [] → ⊥
  no_end [] h = cc
  no_end (b ∷ ys) h = cc
snoc-parts (a ∷ xs) [] x y h = absurd (no_end xs (let e : xs ++ x ∷ [] ≡ [] = cc in e)) where
  no_end : (xs : List Point) → xs ++ x ∷ [] ≡ [] → ⊥
  no_end [] h = cc
  no_end (b ∷ xs) h = cc
snoc-parts (a ∷ xs) (b ∷ ys) x y h =
    let e : a ≡ b = cc in
    let rest : xs ++ x ∷ [] ≡ ys ++ y ∷ [] = cc in
    let parts = snoc-parts xs ys x y rest in
    let f : xs ≡ ys = parts.0 in
    (ap (λ (c : Point). c ∷ xs) e ∙ ap (λ (l : List Point). b ∷ l) f, parts.1)

pub list_one : (xs : List Point) (d : Point) → 1 ≤ length xs → length xs < 2 → xs ≡ get_or xs 0 d ∷ []
list_one [] d low high = absurd (omega arith)
list_one (x ∷ []) d low high = refl
list_one (x ∷ y ∷ xs) d low high = absurd (omega arith)

pub list_two : (xs : List Point) (d : Point) → 2 ≤ length xs → (more : List Point) × (xs ≡ get_or xs 0 d ∷ get_or xs 1 d ∷ more)
list_two [] d low = absurd (omega arith)
list_two (x ∷ []) d low = absurd (omega arith)
list_two (x ∷ y ∷ xs) d low = (xs, refl)

pub head_find : (f : Point → Bool) (ps : List Point) (x : Point) (more : List Point) → filter f ps ≡ x ∷ more → find f ps ≡ Some x
head_find f [] x more h = cc
head_find f (p ∷ ps) x more h = search (rules, head_find f ps x more)

pub list_some : (xs : List Point) (d : Point) → 1 ≤ length xs → (more : List Point) × (xs ≡ get_or xs 0 d ∷ more)
list_some [] d low = absurd (omega arith)
list_some (x ∷ xs) d low = (xs, refl)

-- no item passes t: then each item adds no more to the sum of f than to that of g
pub sums-less : (f g : Point → ℕ) (t : Point → Bool) → ((p : Point) → t p ≡ false → f p ≤ g p) → (ps : List Point) → list_any t ps ≡ false
    → sum_by f ps ≤ sum_by g ps
sums-less f g t less [] h = omega arith
sums-less f g t less (p ∷ ps) h =
    let parts = or_parts (t p) (list_any t ps) h in
    let one = less p parts.0 in
    let rest = sums-less f g t less ps parts.1 in
    let a = sum_by-cons f p ps in
    let z = sum_by-cons g p ps in
    omega (arith, one, rest, a, z)

-- and where both sums are the same, so is each item, and what follows of that
pub sums-same : (f g k : Point → ℕ) (t u : Point → Bool) → ((p : Point) → t p ≡ false → f p ≤ g p)
    → ((p : Point) → t p ≡ false → g p ≡ f p → (u p ≡ false) × (k p ≡ f p)) → (ps : List Point) → list_any t ps ≡ false
    → sum_by g ps ≡ sum_by f ps → (list_any u ps ≡ false) × (sum_by k ps ≡ sum_by f ps)
sums-same f g k t u less point [] h e = (refl, refl)
sums-same f g k t u less point (p ∷ ps) h e =
    let parts = or_parts (t p) (list_any t ps) h in
    let one = less p parts.0 in
    let more = sums-less f g t less ps parts.1 in
    let a = sum_by-cons f p ps in
    let z = sum_by-cons g p ps in
    let here : g p ≡ f p = omega (arith, one, more, a, z, e) in
    let there : sum_by g ps ≡ sum_by f ps = omega (arith, one, more, a, z, e) in
    let first = point p parts.0 here in
    let rest = sums-same f g k t u less point ps parts.1 there in
    let c = sum_by-cons k p ps in
    let x = first.1 in
    let y = rest.1 in
    (or_from (u p) (list_any u ps) first.0 rest.0, omega (arith, a, c, x, y))

-- each number is at most 1
pub sum-ones : (f : Point → ℕ) (ps : List Point) → AllByRecursion (λ q. f q ≤ 1) ps → sum_by f ps ≤ length ps
sum-ones f [] h = omega arith
sum-ones f (p ∷ ps) h = search (rules, sum_by-cons, sum-ones f ps h.1)

-- and one of them is 0
pub sum-ones-but : (f : Point → ℕ) (w : Point) → ((q : Point) → f q ≤ 1) → f w ≡ 0 → (ps : List Point) → among_points w ps ≡ true
    → sum_by f ps + 1 ≤ length ps
sum-ones-but f w each none [] among = cc
sum-ones-but f w each none (p ∷ ps) among = by_test (is_same_point w p) refl among (sum-ones-but f w each none ps) where
  all : (ps : List Point) → AllByRecursion (λ q. f q ≤ 1) ps
  all [] = tt
  all (q ∷ qs) = (each q, all qs)

  by_test : (r : Bool) → is_same_point w p ≡ r → (r || among_points w ps) ≡ true → (among_points w ps ≡ true → sum_by f ps + 1 ≤ length ps)
      → sum_by f (p ∷ ps) + 1 ≤ length (p ∷ ps)
  by_test true e k rest =
      let zero_here : f p ≡ 0 = ap f (sym (is_same_point-same w p e)) ∙ none in
      let split = sum_by-cons f p ps in
      let others = sum-ones f ps (all ps) in
      omega (arith, zero_here, split, others)
  by_test false e k rest =
      let split = sum_by-cons f p ps in
      let low = each p in
      let others = rest k in
      omega (arith, split, low, others)

pub not_found : (f : Point → Bool) (ps : List Point) (p : Point) → f p ≡ false → is_at p (find f ps) ≡ false
not_found f ps p h = search (rules, is_same_point-same, find-passes)

pub sum-each_one : (f : Point → ℕ) → ((q : Point) → f q ≤ 1) → (ps : List Point) → sum_by f ps ≤ length ps
sum-each_one f each [] = omega arith
sum-each_one f each (p ∷ ps) = search (rules, sum_by-cons, sum-each_one f each ps)

pub each-append : (P : Point → Type 0) (ps qs : List Point) → AllByRecursion P ps → AllByRecursion P qs → AllByRecursion P (ps ++ qs)
each-append P [] qs h k = k
each-append P (p ∷ ps) qs h k = (h.0, each-append P ps qs h.1 k)

find-few : (f : Point → Bool) (ps : List Point) → length (filter f ps) < 1 → find f ps ≡ None
find-few f [] l = refl
find-few f (p ∷ ps) l = search (rules, find-few f ps)

find-first : (f : Point → Bool) (ps : List Point) (d : Point) → 1 ≤ length (filter f ps) → find f ps ≡ Some (get_or (filter f ps) 0 d)
find-first f [] d l = absurd (omega arith)
find-first f (p ∷ ps) d l = search (rules, find-first f ps d)

pub none-first : (f : Point → Bool) (ps xs : List Point) → xs ≡ filter f ps → length xs < 1 → find f ps ≡ None
none-first f ps xs e l = find-few f ps (subst (λ (ys : List Point). length ys < 1) e l)

pub some-first : (f : Point → Bool) (ps xs : List Point) (d : Point) → xs ≡ filter f ps → 1 ≤ length xs → find f ps ≡ Some (get_or xs 0 d)
some-first f ps xs d e l = search (rules, find-first)

pub points-append_nil : (ps : List Point) → ps ++ [] ≡ ps
points-append_nil [] = refl
points-append_nil (p ∷ ps) = ap (λ (r : List Point). p ∷ r) (points-append_nil ps)

pub none-listed : (g : Point → Bool) (ps : List Point) → [] ≡ filter g ps → list_any g ps ≡ true → ⊥
none-listed g [] e h = cc
none-listed g (p ∷ ps) e h = search (rules, none-listed g ps)

-- a sum over those that pass one test is no more than that over those that pass a weaker one
pub filter-sum : (f g : Point → Bool) (h : Point → ℕ) → ((p : Point) → f p ≡ true → g p ≡ true) → (ps : List Point)
    → sum_by h (filter f ps) ≤ sum_by (λ p. cond (g p) (h p) 0) ps
filter-sum f g h weaker [] = omega arith
filter-sum f g h weaker (p ∷ ps) = by_test (f p) refl (filter-sum f g h weaker ps) where
  by_test : (r : Bool) → f p ≡ r → sum_by h (filter f ps) ≤ sum_by (λ q. cond (g q) (h q) 0) ps
      → sum_by h (cond r (p ∷ filter f ps) (filter f ps)) ≤ sum_by (λ q. cond (g q) (h q) 0) (p ∷ ps)
  by_test true e rest =
      let here : cond (g p) (h p) 0 ≡ h p = ap (λ r. cond r (h p) 0) (weaker p e) in
      let a = sum_by-cons h p (filter f ps) in
      let b = sum_by-cons (λ q. cond (g q) (h q) 0) p ps in
      omega (arith, here, a, b, rest)
  by_test false e rest = let b = sum_by-cons (λ q. cond (g q) (h q) 0) p ps in omega (arith, b, rest)

pub some-counts : (f : Point → Bool) (h : Point → ℕ) → ((p : Point) → f p ≡ true → 1 ≤ h p) → (ps : List Point) → list_any f ps ≡ true
    → 1 ≤ sum_by h ps
some-counts f h one [] e = cc
some-counts f h one (p ∷ ps) e = search (rules, sum_by-cons, some-counts f h one ps)

pub any-filter : (g f : Point → Bool) (ps : List Point) → list_any f (filter g ps) ≡ list_any (λ q. g q && f q) ps
any-filter g f [] = refl
any-filter g f (p ∷ ps) = search (rules, any-filter g f ps)

pub other_first : (p q : Point) → is_same_point p q ≡ false → is_same_point q p ≡ false
other_first p q h = search (rules, is_same_point-same, is_same_point-itself)

pub Apart-back : (p q : Point) → Apart p q → Apart q p
Apart-back p q d = record { apart = λ x y. d.apart (sym x) (sym y) }

pub none_found-filter : (f g : Point → Bool) → ((x : Point) → f x ≡ false → g x ≡ false) → (ps : List Point) → find f ps ≡ None
    → filter g ps ≡ []
none_found-filter f g out [] h = refl
none_found-filter f g out (p ∷ ps) h = search (rules, none_found-filter f g out ps)

-- a point is another one either way
pub other_way : (q x : Point) → not (is_same_point x q) ≡ false → not (is_same_point q x) ≡ false
other_way q x h = search (rules, is_same_point-same, is_same_point-itself)

-- no points in a list of length 0
pub no_points : (xs : List Point) → length xs ≡ 0 → xs ≡ []
no_points [] h = refl
no_points (x ∷ xs) h = absurd (omega arith)

-- a sum is at least each of its numbers
pub sum-at : (f : Point → ℕ) (p : Point) (ps : List Point) → list_any (λ x. is_same_point x p) ps ≡ true → f p ≤ sum_by f ps
sum-at f p [] h = cc
sum-at f p (x ∷ ps) h = search (rules, is_same_point-same, sum_by-cons, sum-at f p ps)

-- tests that agree find the same
pub find-same : (f g : Point → Bool) → ((p : Point) → f p ≡ g p) → (ps : List Point) → find f ps ≡ find g ps
find-same f g same [] = refl
find-same f g same (p ∷ ps) = rw (same p, find-same f g same ps) refl

pub reverse-push : (ps : List Point) (p : Point) → reverse (ps ++ p ∷ []) ≡ p ∷ reverse ps
reverse-push ps p = reverse-append ps (p ∷ [])

pub found-either : (f : Point → Bool) (ps qs : List Point) (d : Point) → list_any f qs ≡ true
    → f (unwrap_or (option_or (find f ps) (find f qs)) d) ≡ true
found-either f [] qs d h = find-some f qs d h
found-either f (x ∷ ps) qs d h = search (rules, found-either f ps qs d h)

pub sum-least : (f : Point → ℕ) (b : Grid) (p : Point) → is_on b p ≡ true → f p ≤ sum_by f (points_of b)
sum-least f b p on = sum-at f p (points_of b) (points-found b (λ x. is_same_point x p) p on (is_same_point-itself p))

-- tests of lists
pub any_none : (f g : Point → Bool) (ps : List Point) → ((p : Point) → g p ≡ true → f p ≡ false) → list_all g ps ≡ true
    → list_any f ps ≡ false
any_none f g [] h all = refl
any_none f g (p ∷ ps) h all = rw (h p (and_left (g p) _ all), any_none f g ps h (and_right (g p) _ all)) refl

pub all_implied : (f g : Point → Bool) (ps : List Point) → ((p : Point) → g p ≡ true → f p ≡ true) → list_all g ps ≡ true
    → list_all f ps ≡ true
all_implied f g [] h all = refl
all_implied f g (p ∷ ps) h all = rw (h p (and_left (g p) _ all), all_implied f g ps h (and_right (g p) _ all)) refl

pub find_after : (f : Point → Bool) (before : List Point) (p : Point) (later : List Point) → list_any f before ≡ false → f p ≡ true
    → find f (before ++ p ∷ later) ≡ Some p
find_after f [] p later none e = rw e refl
find_after f (q ∷ before) p later none e = search (rules, find_after f before p later)

-- whether none of the points is nearer
abbrev pub none_nearer : (Point → ℕ) → Point → List Point → Bool
none_nearer distance p ps = list_all (λ q. nat_le (distance p) (distance q)) ps

-- the first of the points to which none is nearer
abbrev pub first_nearest : (Point → ℕ) → List Point → Option Point
first_nearest distance ps = find (λ p. none_nearer distance p ps) ps

module _ (distance : Point → ℕ) where
  -- what no point is nearer than, no point is nearer than what is as near
  pub none_nearer-than : (p q : Point) (ps : List Point) → distance p ≤ distance q → none_nearer distance q ps ≡ true
      → none_nearer distance p ps ≡ true
  none_nearer-than p q [] near h = refl
  none_nearer-than p q (x ∷ xs) near h =
      search (rules, leb-true, and_left, and_right, le-leb, none_nearer-than p q xs near (and_right (nat_le (distance q) (distance x)) _ h))

  -- where one of the points is nearer than p, the nearest of them is
  pub nearer-than : (p q : Point) (ps : List Point) → none_nearer distance p ps ≡ false → none_nearer distance q ps ≡ true
      → distance q < distance p
  nearer-than p q [] fails holds = cc
  nearer-than p q (x ∷ xs) fails holds = search (rules, leb-true, and_left, and_right, leb-false, nearer-than p q xs)

  -- whether the first point is the nearest tells the nearest of all
  pub first_nearest-cons : (p : Point) (ps : List Point)
      → first_nearest distance (p ∷ ps) ≡ cond (none_nearer distance p ps) (Some p) (first_nearest distance ps)
  first_nearest-cons p ps = rw (le-leb (distance p) (distance p) (omega arith)) (by_test (none_nearer distance p ps) refl) where
    same : none_nearer distance p ps ≡ false → (q : Point)
        → (nat_le (distance q) (distance p) && none_nearer distance q ps) ≡ none_nearer distance q ps
    same fails q = by_rest (none_nearer distance q ps) refl where
      by_rest : (r : Bool) → none_nearer distance q ps ≡ r → (nat_le (distance q) (distance p) && r) ≡ r
      by_rest true e = let near = nearer-than p q ps fails e in rw (le-leb (distance q) (distance p) (omega (arith, near))) refl
      by_rest false e = none (nat_le (distance q) (distance p)) where
        none : (t : Bool) → (t && false) ≡ false
        none true = refl
        none false = refl

    by_test : (r : Bool) → none_nearer distance p ps ≡ r
        → cond r (Some p) (find (λ q. nat_le (distance q) (distance p) && none_nearer distance q ps) ps) ≡ cond r (Some p)
        (first_nearest distance ps)
    by_test true e = refl
    by_test false e = find-same _ _ (same e) ps
