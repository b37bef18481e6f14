-- The order in which a walk completes nodes: the bound on the nodes that follow one another plays no part, and the walk goes step by step.
-- The walks that complete nodes, step by step.
use Rattle.std.proofs.Common.{◌≡◌, ℕ, zero, suc, ◌<◌, Bool, true, false, cond, not, ◌||◌, ◌==◌, List, [], ◌∷◌, ◌++◌, map, refl, sym, ap}
use Rattle.std.proofs.Common.{subst, ◌∙◌, arith, Option, Some, None, nat_lt, slice_get, fold, Contains, ◌+◌, ◌≤◌, reverse, length, get_or}
use Rattle.std.proofs.Common.{◌⊎◌, inl, inr, length-append, rules, find, ltb-true, lt-ltb}
use Rattle.std.specs.List.{list_all}
use Rattle.std.specs.Option.{option_map_or}
use Rattle.std.proofs.lemmas.Bool.Decides.{Decides-eqb}
use Rattle.std.proofs.lemmas.List.Folds.{list_any-append, list_all-append}
use Rattle.std.proofs.lemmas.Option.{slice_get_within, slice_get_read, same_Some}
use Rattle.std.proofs.lemmas.List.{take-append-le, get_or-set_same, get_or-set_other, reverse-append}
use Rattle.std.proofs.lemmas.List.Elements.{Contains-append_cases, Contains-append_left, Contains-append_right}
use Rattle.std.proofs.Math.Seq.{take-append_seam}
use Rattle.std.proofs.Math.ListN.{set, length-set}
use Rattle.std.proofs.lemmas.List.Sums.{sum_by-set}
use Rattle.std.proofs.lemmas.Bool.{or_right}
use Rattle.std.proofs.Math.Bool.{and_comm}
use Rattle.game_rules.proofs.Boards.{and_left, and_right}
use Rattle.strategy_compiler.proofs.Common.{Node, Answers, answers_of, names_below, rest_nodes, NamesLower, named, visits, visits_at}
use Rattle.strategy_compiler.proofs.Common.{is_in_list, completed_within, completed_after, IsOrder, Flags, unset, IsBetween}
use Rattle.strategy_graph.proofs.Filling.{names_below-more}

-- ---- numbers among others

pub among-push : (k i : ℕ) (js : List ℕ) → is_in_list k (js ++ i ∷ []) ≡ (is_in_list k js || (i == k))
among-push k i js = search (rules, list_any-append)

pub among-last : (i : ℕ) (js : List ℕ) → is_in_list i (js ++ i ∷ []) ≡ true
among-last i js = search (rules, among-push, Decides-eqb)

pub among-kept : (k i : ℕ) (js : List ℕ) → is_in_list k js ≡ true → is_in_list k (js ++ i ∷ []) ≡ true
among-kept k i js h = among-push k i js ∙ ap (λ (b : Bool). b || (i == k)) h

pub among-other : (k i : ℕ) (js : List ℕ) → i < k → is_in_list k (js ++ i ∷ []) ≡ is_in_list k js
among-other k i js l = search (rules, among-push)

-- ---- what node i visits is below it

-- what holds of the nodes that the answers name holds of those that they visit
pub visits-pass : (passes : ℕ → Bool) (a : Answers) → list_all passes (named a) ≡ true → list_all passes (visits a) ≡ true
visits-pass passes a h = search (rules, list_all-append, and_comm)

pub visits-below : (a : Answers) (k : ℕ) → names_below a k ≡ true → list_all (λ j. nat_lt j k) (visits a) ≡ true
visits-below a k h = visits-pass (λ j. nat_lt j k) a h

module _ (t : List Node) (lower : NamesLower t) where
  pub visits_at-below : (i : ℕ) → list_all (λ j. nat_lt j i) (visits_at t i) ≡ true
  visits_at-below i = by_node (slice_get t i) (λ n at. visits-below (answers_of n) i (lower.lower i n at)) where
    by_node : (o : Option Node) → ((n : Node) → o ≡ Some n → list_all (λ j. nat_lt j i) (visits (answers_of n)) ≡ true)
        → list_all (λ j. nat_lt j i) (option_map_or (λ n. visits (answers_of n)) o []) ≡ true
    by_node None f = refl
    by_node (Some n) f = f n refl

  -- ---- the bound plays no part

  fold-same : (f g : List ℕ → ℕ → List ℕ) (k : ℕ) → ((done : List ℕ) (j : ℕ) → j < k → f done j ≡ g done j) → (js done : List ℕ)
      → list_all (λ j. nat_lt j k) js ≡ true → fold f done js ≡ fold g done js
  fold-same f g k same [] done h = refl
  fold-same f g k same (j ∷ js) done h =
      search (rules, and_right, ltb-true, and_left, fold-same f g k same js (f done j) (and_right (nat_lt j k) _ h))

  pub within-enough : (f g : ℕ) (i : ℕ) (done : List ℕ) → i < f → i < g → completed_within f t done i ≡ completed_within g t done i
  unfolding completed_within
  within-enough zero g i done l m = absurd (omega arith)
  within-enough (suc f) zero i done l m = absurd (omega arith)
  within-enough (suc f) (suc g) i done l m = ap (λ (js : List ℕ). cond (is_in_list i done) done (js ++ i ∷ []))
      (fold-same (completed_within f t) (completed_within g t) i (λ d j k. within-enough f g j d (omega arith) (omega arith))
      (visits_at t i) done (visits_at-below i))

  pub walked-step : (done : List ℕ) (i : ℕ) → is_in_list i done ≡ false
      → completed_after t done i ≡ fold (completed_after t) done (visits_at t i) ++ i ∷ []
  unfolding completed_after completed_within
  walked-step done i h =
      ap (λ (b : Bool). cond b done (fold (completed_within i t) done (visits_at t i) ++ i ∷ [])) h ∙ ap (λ (js : List ℕ). js ++ i ∷ [])
      (fold-same (completed_within i t) (λ d j. completed_within (suc j) t d j) i (λ d j k. within-enough i (suc j) j d k (omega arith))
      (visits_at t i) done (visits_at-below i))

  pub walked-done : (done : List ℕ) (i : ℕ) → is_in_list i done ≡ true → completed_after t done i ≡ done
  unfolding completed_after completed_within
  walked-done done i h = ap (λ (b : Bool). cond b done (fold (completed_within i t) done (visits_at t i) ++ i ∷ [])) h

  -- ---- what was completed stays, and what is above the node is not completed by a walk from it

  fold-kept : (f : List ℕ → ℕ → List ℕ) (k : ℕ) → ((done : List ℕ) (j : ℕ) → is_in_list k done ≡ true → is_in_list k (f done j) ≡ true)
      → (js done : List ℕ) → is_in_list k done ≡ true → is_in_list k (fold f done js) ≡ true
  fold-kept f k keep [] done h = h
  fold-kept f k keep (j ∷ js) done h = fold-kept f k keep js (f done j) (keep done j h)

  within-kept : (f k : ℕ) (done : List ℕ) (i : ℕ) → is_in_list k done ≡ true → is_in_list k (completed_within f t done i) ≡ true
  unfolding completed_within
  within-kept zero k done i h = h
  within-kept (suc f) k done i h = by_test (is_in_list i done) (among-kept k i (fold (completed_within f t) done (visits_at t i))
      (fold-kept (completed_within f t) k (λ d j. within-kept f k d j) (visits_at t i) done h)) where
        by_test : (b : Bool) → is_in_list k (fold (completed_within f t) done (visits_at t i) ++ i ∷ []) ≡ true
            → is_in_list k (cond b done (fold (completed_within f t) done (visits_at t i) ++ i ∷ [])) ≡ true
        by_test true e = h
        by_test false e = e

  pub walked-kept : (k : ℕ) (done : List ℕ) (i : ℕ) → is_in_list k done ≡ true → is_in_list k (completed_after t done i) ≡ true
  unfolding completed_after
  walked-kept k done i h = within-kept (suc i) k done i h

  pub walked-itself : (done : List ℕ) (i : ℕ) → is_in_list i (completed_after t done i) ≡ true
  walked-itself done i = search (rules, walked-kept, walked-step, among-last)

  fold-above : (f : List ℕ → ℕ → List ℕ) (k i : ℕ)
      → ((done : List ℕ) (j : ℕ) → j < i → is_in_list k done ≡ false → is_in_list k (f done j) ≡ false) → (js done : List ℕ)
      → list_all (λ j. nat_lt j i) js ≡ true → is_in_list k done ≡ false → is_in_list k (fold f done js) ≡ false
  fold-above f k i keep [] done l h = h
  fold-above f k i keep (j ∷ js) done l h =
      fold-above f k i keep js (f done j) (and_right (nat_lt j i) _ l) (keep done j (ltb-true _ _ (and_left (nat_lt j i) _ l)) h)

  within-above : (f k : ℕ) (done : List ℕ) (i : ℕ) → i < k → is_in_list k done ≡ false → is_in_list k (completed_within f t done i) ≡ false
  unfolding completed_within
  within-above zero k done i l h = h
  within-above (suc f) k done i l h = by_test (is_in_list i done) (among-other k i (fold (completed_within f t) done (visits_at t i)) l
      ∙ fold-above (completed_within f t) k i (λ d j m. within-above f k d j (omega arith)) (visits_at t i) done (visits_at-below i)
      h) where
        by_test : (b : Bool) → is_in_list k (fold (completed_within f t) done (visits_at t i) ++ i ∷ []) ≡ false
            → is_in_list k (cond b done (fold (completed_within f t) done (visits_at t i) ++ i ∷ [])) ≡ false
        by_test true e = h
        by_test false e = e

  pub walked-above : (k : ℕ) (done : List ℕ) (i : ℕ) → i < k → is_in_list k done ≡ false → is_in_list k (completed_after t done i) ≡ false
  unfolding completed_after
  walked-above k done i l h = within-above (suc i) k done i l h

  -- what node i visits is completed without it
  pub visited-above : (i : ℕ) → is_in_list i (fold (completed_after t) [] (visits_at t i)) ≡ false
  visited-above i = fold-above (completed_after t) i i (λ d j l h. walked-above i d j l h) (visits_at t i) [] (visits_at-below i) refl

  -- each of several nodes is completed once walks from them end
  pub walks-itself : (js done : List ℕ) (j : ℕ) → Contains js j → is_in_list j (fold (completed_after t) done js) ≡ true
  walks-itself [] done j (k, l, e) = absurd (omega arith)
  walks-itself (x ∷ xs) done j (zero, l, e) = search (rules, fold-kept, walked-kept, walked-itself)
  walks-itself (x ∷ xs) done j (suc k, l, e) = walks-itself xs (completed_after t done x) j (k, omega arith, e)

  -- ---- a walk by the first node that is not completed

  fold-first : (js done : List ℕ) (c : ℕ) → find (λ j. not (is_in_list j done)) js ≡ Some c
      → fold (completed_after t) done js ≡ fold (completed_after t) (completed_after t done c) js
  fold-first [] done c h = cc
  fold-first (j ∷ js) done c h = search (rules, walked-done, walked-kept, walked-itself, fold-first js done c)

  -- a walk from node i begins with a walk from the first node that it visits and that is not completed
  pub walked-first : (done : List ℕ) (i c : ℕ) → is_in_list i done ≡ false → c < i
      → find (λ j. not (is_in_list j done)) (visits_at t i) ≡ Some c
      → completed_after t (completed_after t done c) i ≡ completed_after t done i
  walked-first done i c h l first = search (rules, walked-step, walked-above, fold-first)

  fold-all : (js done : List ℕ) → find (λ j. not (is_in_list j done)) js ≡ None → fold (completed_after t) done js ≡ done
  fold-all [] done h = refl
  fold-all (j ∷ js) done h = search (rules, walked-done, fold-all js done)

  -- where all that it visits are completed, it is completed next
  pub walked-last : (done : List ℕ) (i : ℕ) → is_in_list i done ≡ false → find (λ j. not (is_in_list j done)) (visits_at t i) ≡ None
      → completed_after t done i ≡ done ++ i ∷ []
  walked-last done i h none = walked-step done i h ∙ ap (λ (js : List ℕ). js ++ i ∷ []) (fold-all (visits_at t i) done none)

-- ---- the first that passes, of those that are left

-- ---- flags

or_no : (b : Bool) → (b || false) ≡ b
or_no b = search rules

pub unset-set : (flags : List Bool) (i : ℕ) → i < length flags → get_or flags i false ≡ false → unset (set flags i true) + 1 ≡ unset flags
unset-set flags i l h = search (rules, sum_by-set)

pub Flags-push : (flags : List Bool) (order : List ℕ) (i : ℕ) → i < length flags → Flags flags order
    → Flags (set flags i true) (order ++ i ∷ [])
Flags-push flags order i l h = search (rules, Decides-eqb, get_or-set_same, among-last, get_or-set_other, among-push, or_no)

-- the first of these that has no flag is the first that is not in the list
pub first-flags : (flags : List Bool) (order : List ℕ) (js : List ℕ) → Flags flags order
    → find (λ j. not (get_or flags j false)) js ≡ find (λ j. not (is_in_list j order)) js
first-flags flags order js h = ap (λ (p : ℕ → Bool). find p js) (λ i j. not (h.flagged j i))

-- ---- the way from the root to where the walk is, the last node first

abbrev pub IsWay : List Node → List ℕ → List ℕ → Type 0
IsWay t order [] = Unit {0}
IsWay t order (x ∷ xs) = (x < length t) × (is_in_list x order ≡ false) × (list_all (λ y. nat_lt x y) xs ≡ true) × IsWay t order xs

-- the number of the last, or 0
abbrev pub front : List ℕ → ℕ
front [] = 0
front (x ∷ xs) = x

way-push : (t : List Node) (order xs : List ℕ) (x : ℕ) → list_all (λ y. nat_lt x y) xs ≡ true → IsWay t order xs
    → IsWay t (order ++ x ∷ []) xs
way-push t order [] x l h = tt
way-push t order (y ∷ ys) x l h =
    search (rules, among-other, ltb-true, and_left, and_right, way-push t order ys x (and_right (nat_lt x y) _ l) h.3)

all_above : (c x : ℕ) (xs : List ℕ) → c < x → list_all (λ y. nat_lt x y) xs ≡ true → list_all (λ y. nat_lt c y) xs ≡ true
all_above c x [] l h = refl
all_above c x (y ∷ ys) l h = search (rules, ltb-true, and_left, lt-ltb, and_right, all_above c x ys l (and_right (nat_lt x y) _ h))

-- ---- what a number finds

found-in : (p : ℕ → Bool) (js : List ℕ) (c : ℕ) → find p js ≡ Some c → Contains js c
found-in p [] c h = cc
found-in p (j ∷ js) c h = by_test (p j) h (found-in p js c) where
  by_test : (b : Bool) → cond b (Some j) (find p js) ≡ Some c → (find p js ≡ Some c → Contains js c) → Contains (j ∷ js) c
  by_test true e next = let same : j ≡ c = cc in (0, omega arith, same)
  by_test false e next = let later = next e in (suc later.0, omega arith, later.2)

none-left : (p : ℕ → Bool) (js : List ℕ) (j : ℕ) → find (λ j. not (p j)) js ≡ None → Contains js j → p j ≡ true
none-left p [] j h (k, l, e) = absurd (omega arith)
none-left p (x ∷ xs) j h c = by_test (p x) refl h (none-left p xs j) c where
  by_test : (b : Bool) → p x ≡ b → cond (not b) (Some x) (find (λ j. not (p j)) xs) ≡ None
      → (find (λ j. not (p j)) xs ≡ None → Contains xs j → p j ≡ true) → Contains (x ∷ xs) j → p j ≡ true
  by_test true e h next (zero, l, same) = subst (λ (k : ℕ). p k ≡ true) same e
  by_test true e h next (suc k, l, same) = next h (k, omega arith, same)
  by_test false e h next c = cc

pub contains-map : (f : ℕ → ℕ) (js : List ℕ) (j : ℕ) → Contains js j → Contains (map f js) (f j)
contains-map f [] j (k, l, e) = absurd (omega arith)
contains-map f (x ∷ xs) j (zero, l, e) = (0, omega arith, ap f e)
contains-map f (x ∷ xs) j (suc k, l, e) = let later = contains-map f xs j (k, omega arith, e) in (suc later.0, omega arith, later.2)

-- what is visited is what is named, in another order
swapped : (xs ys : List ℕ) (j : ℕ) → Contains (xs ++ ys) j → Contains (ys ++ xs) j
swapped xs ys j c = elim (Contains-append_cases xs ys j c)
    [ inl l ↦ Contains-append_right ys xs j l | inr r ↦ Contains-append_left ys xs j r ]

pub visited-named : (a : Answers) (j : ℕ) → Contains (visits a) j → Contains (named a) j
visited-named a j c = swapped (rest_nodes a.rest) (map (λ r. r.next) a.replies) j c

pub named-visited : (a : Answers) (j : ℕ) → Contains (named a) j → Contains (visits a) j
named-visited a j c = swapped (map (λ r. r.next) a.replies) (rest_nodes a.rest) j c

-- ---- the order so far

le_of_lt : (k n : ℕ) → k < n → k ≤ n
le_of_lt k n l = omega arith

-- a place of a longer list is one of the shorter, or the last
pub at-push : {X : Type 0} (xs : List X) (x y : X) (k : ℕ) → slice_get (xs ++ x ∷ []) k ≡ Some y
    → (slice_get xs k ≡ Some y) ⊎ ((k ≡ length xs) × (x ≡ y))
at-push [] x y zero e = inr (refl, same_Some x y e)
at-push [] x y (suc k) e = cc
at-push (z ∷ xs) x y zero e = inl e
at-push (z ∷ xs) x y (suc k) e = elim (at-push xs x y k e) [ inl h ↦ inl h | inr h ↦ inr (ap suc h.0, h.1) ]

pub among-at : (order : List ℕ) (k i : ℕ) → slice_get order k ≡ Some i → is_in_list i order ≡ true
among-at [] k i e = cc
among-at (x ∷ xs) zero i e = let same : x ≡ i = same_Some x i e in ap (λ (b : Bool). b || is_in_list i xs) ((Decides-eqb x i).1 same)
among-at (x ∷ xs) (suc k) i e = or_right (x == i) (is_in_list i xs) (among-at xs k i e)

module _ (t : List Node) (order : List ℕ) (x : ℕ) (is_order : IsOrder t order) (inside : x < length t) (new : is_in_list x order ≡ false)
    (room : length (order ++ x ∷ []) ≤ length t)
    (named_before : (n : Node) (j : ℕ) → slice_get t x ≡ Some n → Contains (named (answers_of n)) j → is_in_list j order ≡ true) where
  not_before : (k : ℕ) → slice_get order k ≡ Some x → ⊥
  not_before k e = cc (among-at order k x e, new)

  order-push : IsOrder t (order ++ x ∷ [])
  order-push = search (rules, at-push, take-append-le, le_of_lt, slice_get_within, take-append_seam, not_before)

-- ---- the walk

found-not : (p : ℕ → Bool) (js : List ℕ) (c : ℕ) → find (λ j. not (p j)) js ≡ Some c → p c ≡ false
found-not p [] c h = cc
found-not p (j ∷ js) c h = search (rules, found-not p js c)

pub lt_trans : (a b c : ℕ) → a < b → b < c → a < c
lt_trans a b c h k = omega arith

pub all-contains : (p : ℕ → Bool) (js : List ℕ) (j : ℕ) → list_all p js ≡ true → Contains js j → p j ≡ true
all-contains p [] j h (k, l, e) = absurd (omega arith)
all-contains p (x ∷ xs) j h (zero, l, e) = subst (λ (k : ℕ). p k ≡ true) e (and_left (p x) _ h)
all-contains p (x ∷ xs) j h (suc k, l, e) = all-contains p xs j (and_right (p x) _ h) (k, omega arith, e)

-- a node names only nodes below it
pub named-below : (t : List Node) → NamesLower t → (i : ℕ) (n : Node) → slice_get t i ≡ Some n → (j : ℕ) → Contains (named (answers_of n)) j
    → j < i
named-below t lower i n at j c = ltb-true _ _ (all-contains (λ j. nat_lt j i) (named (answers_of n)) j (lower.lower i n at) c)

-- what is completed has its flag, and what is ahead of the walk ends at the whole order
pub record IsWalk (t : List Node) (whole : List ℕ) (flags : List Bool) (order way : List ℕ) : Type 0 where
  pub so_far : IsBetween t order flags
  pub ahead : fold (completed_after t) order way ≡ whole
  pub on_way : IsWay t order way

module _ (t : List Node) (whole : List ℕ) where
  pub walk-start : (flags : List Bool) (order : List ℕ) (root : ℕ) → IsBetween t order flags → root < length t
      → is_in_list root order ≡ false → completed_after t order root ≡ whole → IsWalk t whole flags order (root ∷ [])
  walk-start flags order root between l new is = record { so_far = between; ahead = is; on_way = (l, new, refl, tt) }

  module _ (lower : NamesLower t) (flags : List Bool) (order xs : List ℕ) (x : ℕ) (n : Node) (walk : IsWalk t whole flags order (x ∷ xs))
      (at : slice_get t x ≡ Some n) where
    visits-is : visits_at t x ≡ visits (answers_of n)
    visits-is = ap (λ (o : Option Node). option_map_or (λ n. visits (answers_of n)) o []) at

    -- on to a node that is not completed
    module _ (c : ℕ) (first : find (λ j. not (get_or flags j false)) (visits (answers_of n)) ≡ Some c) where
      first-among : find (λ j. not (is_in_list j order)) (visits (answers_of n)) ≡ Some c
      first-among = sym (first-flags flags order (visits (answers_of n)) walk.so_far.flags_are) ∙ first

      c-named : Contains (named (answers_of n)) c
      c-named = visited-named (answers_of n) c (found-in (λ j. not (is_in_list j order)) (visits (answers_of n)) c first-among)

      pub c-below : c < x
      c-below = named-below t lower x n at c c-named

      pub walk-push : IsWalk t whole flags order (c ∷ x ∷ xs)
      walk-push =
          let way = walk.on_way in
          record {
            so_far = walk.so_far;
            ahead = ap (λ (d : List ℕ). fold (completed_after t) d xs)
                (walked-first t lower order x c way.1 c-below (ap (find (λ j. not (is_in_list j order))) visits-is ∙ first-among))
                ∙ walk.ahead;
            on_way = (
              lt_trans c x (length t) c-below way.0,
              found-not (λ j. is_in_list j order) (visits (answers_of n)) c first-among,
              rw (lt-ltb c x c-below) (all_above c x xs c-below way.2),
              way,
            );
          }

    -- and back where it is completed
    module _ (none : find (λ j. not (get_or flags j false)) (visits (answers_of n)) ≡ None) where
      none-among : find (λ j. not (is_in_list j order)) (visits (answers_of n)) ≡ None
      none-among = sym (first-flags flags order (visits (answers_of n)) walk.so_far.flags_are) ∙ none

      x-flag : get_or flags x false ≡ false
      x-flag = walk.so_far.flags_are.flagged x ∙ walk.on_way.1

      pub x-inside : x < length flags
      x-inside = let sized = walk.so_far.sized in let low = walk.on_way.0 in omega (arith, sized, low)

      pub unset-less : unset (set flags x true) + 1 ≡ unset flags
      unset-less = unset-set flags x x-inside x-flag

      pub walk-complete : IsWalk t whole (set flags x true) (order ++ x ∷ []) xs
      walk-complete =
          let way = walk.on_way in
          let counted = walk.so_far.counted in
          let less = unset-less in
          let longer : length (order ++ x ∷ []) ≡ length order + 1 = length-append order (x ∷ []) in
          record {
            so_far = record {
              order_is = order-push t order x walk.so_far.order_is way.0 way.1 (omega (arith, counted, less, longer))
                  (λ m j e c. none-left (λ j. is_in_list j order) (visits (answers_of n)) j none-among
                  (named-visited (answers_of n) j
                  (subst (λ (o : Node). Contains (named (answers_of o)) j) (same_Some m n (sym e ∙ at)) c)));
              sized = length-set flags x true ∙ walk.so_far.sized;
              flags_are = Flags-push flags order x x-inside walk.so_far.flags_are;
              counted = omega (arith, counted, less, longer);
            };
            ahead =
                ap (λ (d : List ℕ). fold (completed_after t) d xs)
                (sym (walked-last t lower order x way.1 (ap (find (λ j. not (is_in_list j order))) visits-is ∙ none-among)))
                ∙ walk.ahead;
            on_way = way-push t order xs x way.2 way.3;
          }

-- ---- the way as the list that is kept, the last node last

pub way-last : (path before : List ℕ) (x : ℕ) → path ≡ before ++ x ∷ [] → reverse path ≡ x ∷ reverse before
way-last path before x e = ap reverse e ∙ reverse-append before (x ∷ [])

module _ (t : List Node) (whole : List ℕ) (flags : List Bool) (order path before : List ℕ) (x : ℕ) (n : Node)
    (walk : IsWalk t whole flags order (reverse path)) (e : path ≡ before ++ x ∷ []) where
  pub walk-at : IsWalk t whole flags order (x ∷ reverse before)
  walk-at = subst (IsWalk t whole flags order) (way-last path before x e) walk

  pub x-in-table : x < length t
  x-in-table = walk-at.on_way.0

  module _ (lower : NamesLower t) (read : n ≡ get_or t x n) (flags' : List Bool) (same : flags' ≡ flags) where
    at : slice_get t x ≡ Some n
    at = slice_get_read t (length t) x n refl x-in-table read

    pub named-in-flags : names_below (answers_of n) (length flags') ≡ true
    named-in-flags =
        let sized : length flags' ≡ length t = ap length same ∙ walk-at.so_far.sized in
        let inside : x < length t = x-in-table in
        names_below-more (answers_of n) x (length flags') (omega arith) (lower.lower x n at)

    pub path-push : (c : ℕ) (path' path'' : List ℕ) → Some c ≡ find (λ j. not (get_or flags' j false)) (visits (answers_of n))
        → path' ≡ before ++ x ∷ [] → path'' ≡ path' ++ c ∷ [] → IsWalk t whole flags order (reverse path'')
    path-push c path' path'' first e' e'' =
        subst (IsWalk t whole flags order) (sym (way-last path'' path' c e'' ∙ ap (λ (xs : List ℕ). c ∷ xs) (way-last path' before x e')))
        (walk-push t whole lower flags order (reverse before) x n walk-at at c
        (ap (λ (fs : List Bool). find (λ j. not (get_or fs j false)) (visits (answers_of n))) (sym same) ∙ sym first))

    pub path-push-lower : (c m : ℕ) (path' path'' : List ℕ) → Some c ≡ find (λ j. not (get_or flags' j false)) (visits (answers_of n))
        → path' ≡ before ++ x ∷ [] → path'' ≡ path' ++ c ∷ [] → m + front (reverse path'') < m + front (reverse path)
    path-push-lower c m path' path'' first e' e'' =
        let low : c < x = c-below t whole lower flags order (reverse before) x n walk-at at c
        (ap (λ (fs : List Bool). find (λ j. not (get_or fs j false)) (visits (answers_of n))) (sym same) ∙ sym first) in
        let now : front (reverse path'') ≡ c = ap front (way-last path'' path' c e'') in
        let was : front (reverse path) ≡ x = ap front (way-last path before x e) in
        omega (arith, low, now, was)

    pub path-complete : (order' : List ℕ) → None ≡ find (λ j. not (get_or flags' j false)) (visits (answers_of n))
        → order' ≡ order ++ x ∷ [] → IsWalk t whole (set flags x true) order' (reverse before)
    path-complete order' none e' = subst (λ (o : List ℕ). IsWalk t whole (set flags x true) o (reverse before))
        (sym e') (walk-complete t whole lower flags order (reverse before) x n walk-at at
        (ap (λ (fs : List Bool). find (λ j. not (get_or fs j false)) (visits (answers_of n))) (sym same) ∙ sym none))

-- the first step of a walk from a root that is not completed
pub path-start : (t : List Node) (flags : List Bool) (order : List ℕ) (root : ℕ) (empty path : List ℕ) → IsBetween t order flags
    → root < length t → get_or flags root false ≡ false → empty ≡ [] → path ≡ empty ++ root ∷ []
    → IsWalk t (completed_after t order root) flags order (reverse path)
path-start t flags order root empty path between l unset e p = search (rules, way-last, walk-start)

-- a walk from a root that is completed
pub path-none : (t : List Node) (flags : List Bool) (order : List ℕ) (root : ℕ) → NamesLower t → IsBetween t order flags
    → get_or flags root false ≡ true → order ≡ completed_after t order root
path-none t flags order root lower between set = sym (walked-done t lower order root (sym (between.flags_are.flagged root) ∙ set))
