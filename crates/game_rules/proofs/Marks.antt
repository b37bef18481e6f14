-- The cells that pass a test, as points in reading order.
use Rattle.std.proofs.Common.{ℕ, ◌/◌, ◌%◌, ◌≡◌, zero, suc, ◌+◌, ◌<◌, Bool, true, false, cond, not, refl, arith, List, [], ◌∷◌, ◌++◌, length}
use Rattle.std.proofs.Common.{drop, set, get_or, ◌*◌, ◌-◌, ◌≤◌, sym, replicate, map, rules}
use Rattle.std.specs.List.{list_all}
use Rattle.std.proofs.lemmas.Bool.{and_parts, not-true, both_ways}
use Rattle.std.proofs.lemmas.Nat.{div-add-mod'}
use Rattle.game_rules.proofs.Common.{Grid, Point, Cell, Empty}

-- the point with this place on a board of this width
abbrev pub point_at : ℕ → ℕ → Point
point_at width k = record { x = k % width; y = k / width }

module _ (at : ℕ → Point) (test : Cell → Bool) where
  -- the points of the cells that pass the test, the first cell having place k
  abbrev pub marked : ℕ → List Cell → List Point
  marked k [] = []
  marked k (c ∷ cs) = cond (test c) (at k ∷ marked (k + 1) cs) (marked (k + 1) cs)

  -- no cell passes the test
  abbrev pub is_clear : List Cell → Bool
  is_clear cs = list_all (λ c. not (test c)) cs

  pub marked-append : (k : ℕ) (cs ds : List Cell) → marked k (cs ++ ds) ≡ marked k cs ++ marked (k + length cs) ds
  marked-append k [] ds = let same : k + 0 ≡ k = omega arith in rw same refl
  marked-append k (c ∷ cs) ds = search (rules, marked-append (k + 1) cs ds)

  pub clear_none : (k : ℕ) (cs : List Cell) → is_clear cs ≡ true → marked k cs ≡ []
  clear_none k [] h = refl
  clear_none k (c ∷ cs) h =
      let parts = and_parts (not (test c)) (is_clear cs) h in
      let no : test c ≡ false = not-true (test c) parts.0 in
      rw no (clear_none (k + 1) cs parts.1)

  pub clear_drop : (j : ℕ) (cs : List Cell) → is_clear cs ≡ true → is_clear (drop j cs) ≡ true
  clear_drop zero cs h = h
  clear_drop (suc j) [] h = refl
  clear_drop (suc j) (c ∷ cs) h = clear_drop j cs (and_parts (not (test c)) (is_clear cs) h).1

  -- a change from a cell that does not pass to one that does not leaves the marks
  pub marked-set_other : (k i : ℕ) (cs : List Cell) (stone : Cell) → test stone ≡ false → i < length cs → test (get_or cs i Empty) ≡ false
      → marked k (set cs i stone) ≡ marked k cs
  marked-set_other k i [] stone fails within was = absurd (omega arith)
  marked-set_other k zero (c ∷ cs) stone fails within was = rw (fails, was) refl
  marked-set_other k (suc i) (c ∷ cs) stone fails within was = rw (marked-set_other (k + 1) i cs stone fails (omega arith) was) refl

point_at-place : (width k : ℕ) → (point_at width k).y * width + (point_at width k).x ≡ k
point_at-place width k = div-add-mod' k width

-- The first mark is at a place from k on, where a cell passes the test, and the others come after it.
pub record NextMark (width : ℕ) (test : Cell → Bool) (k : ℕ) (cs : List Cell) (place : ℕ) (others : List Point) : Type 0 where
  pub later : k ≤ place
  pub passes : test (get_or cs (place - k) Empty) ≡ true
  pub rest : marked (point_at width) test (place + 1) (drop (place + 1 - k) cs) ≡ others

next_mark_by : (width : ℕ) (test : Cell → Bool) (k : ℕ) (c : Cell) (cs : List Cell) (p : Point) (ps : List Point) (place : ℕ)
    → place ≡ p.y * width + p.x → (marked (point_at width) test (k + 1) cs ≡ p ∷ ps → NextMark width test (k + 1) cs place ps)
    → (r : Bool) → test c ≡ r → cond r (point_at width k ∷ marked (point_at width) test (k + 1) cs)
    (marked (point_at width) test (k + 1) cs) ≡ p ∷ ps → NextMark width test k (c ∷ cs) place ps
next_mark_by width test k c cs p ps place is deeper r e h = search (rules, point_at-place)

pub next_mark : (width : ℕ) (test : Cell → Bool) (k : ℕ) (cs : List Cell) (p : Point) (ps : List Point) (place : ℕ)
    → place ≡ p.y * width + p.x → marked (point_at width) test k cs ≡ p ∷ ps → NextMark width test k cs place ps
next_mark width test k [] p ps place is h = absurd cc
next_mark width test k (c ∷ cs) p ps place is h = search (rules, next_mark_by, next_mark width test (k + 1) cs p ps place is)

-- no mark stands before its place
too_early : (width : ℕ) (test : Cell → Bool) (k : ℕ) (cs : List Cell) (ps : List Point)
    → point_at width k ∷ ps ≡ marked (point_at width) test (k + 1) cs → ⊥
too_early width test k cs ps h =
    let next = next_mark width test (k + 1) cs (point_at width k) ps k (sym (point_at-place width k)) (sym h) in
    let later = next.later in
    omega (arith, later)

same_tests_by : (width : ℕ) (test : Cell → Bool) (k : ℕ) (cs ds : List Cell) (q r : Bool)
    → cond q (point_at width k ∷ marked (point_at width) test (k + 1) cs) (marked (point_at width) test (k + 1) cs) ≡ cond r
    (point_at width k ∷ marked (point_at width) test (k + 1) ds) (marked (point_at width) test (k + 1) ds)
    → (q ≡ r) × (marked (point_at width) test (k + 1) cs ≡ marked (point_at width) test (k + 1) ds)
same_tests_by width test k cs ds q r h = search (rules, too_early)

-- cells with the same marks pass at the same places
pub same_tests : (width : ℕ) (test : Cell → Bool) (k : ℕ) (cs ds : List Cell) → length cs ≡ length ds
    → marked (point_at width) test k cs ≡ marked (point_at width) test k ds → (i : ℕ) → test (get_or cs i Empty) ≡ test (get_or ds i Empty)
same_tests width test k [] [] len h i = refl
same_tests width test k [] (d ∷ ds) len h i = absurd (omega arith)
same_tests width test k (c ∷ cs) [] len h i = absurd (omega arith)
same_tests width test k (c ∷ cs) (d ∷ ds) len h zero = (same_tests_by width test k cs ds (test c) (test d) h).0
same_tests width test k (c ∷ cs) (d ∷ ds) len h (suc i) =
    same_tests width test (k + 1) cs ds (omega arith) (same_tests_by width test k cs ds (test c) (test d) h).1 i

module _ (at : ℕ → Point) (test : Cell → Bool) where
  pub clear_from_none : (k : ℕ) (cs : List Cell) → marked at test k cs ≡ [] → is_clear at test cs ≡ true
  clear_from_none k [] h = refl
  clear_from_none k (c ∷ cs) h = search (rules, clear_from_none (k + 1) cs)

-- a cell of cells without marks has none
pub clear_at : (at : ℕ → Point) (test : Cell → Bool) (cs : List Cell) (i : ℕ) → is_clear at test cs ≡ true → i < length cs
    → test (get_or cs i Empty) ≡ true → ⊥
clear_at at test [] i h within passes = omega arith
clear_at at test (c ∷ cs) zero h within passes = search (rules, both_ways, not-true, and_parts)
clear_at at test (c ∷ cs) (suc i) h within passes =
    clear_at at test cs i (and_parts (not (test c)) (is_clear at test cs) h).1 (omega arith) passes

pub clear_replicate : (at : ℕ → Point) (test : Cell → Bool) (n : ℕ) → test Empty ≡ false → is_clear at test (replicate n Empty) ≡ true
clear_replicate at test zero h = refl
clear_replicate at test (suc n) h = rw h (clear_replicate at test n h)

abbrev pub empty_board : ℕ → ℕ → Grid
empty_board width height = record { width = width; height = height; cells = replicate (width * height) Empty }

pub marked-map : (at : ℕ → Point) (test other : Cell → Bool) (f : Cell → Cell) → ((c : Cell) → test (f c) ≡ other c)
    → (k : ℕ) (cs : List Cell) → marked at test k (map f cs) ≡ marked at other k cs
marked-map at test other f same k [] = refl
marked-map at test other f same k (c ∷ cs) = rw (same c, marked-map at test other f same (k + 1) cs) refl

pub marked-none : (at : ℕ → Point) (k : ℕ) (cs : List Cell) → marked at (λ _. false) k cs ≡ []
marked-none at k [] = refl
marked-none at k (c ∷ cs) = marked-none at (k + 1) cs
