-- Facts about all points of a board: lists, tests, and points off the board.
use Rattle.std.proofs.Common.{◌≡◌, ℕ, Bool, true, false, ◌&&◌, ◌||◌, not, refl, sym, ap, ◌∙◌, arith, List, [], ◌∷◌, map, eq-eqb, rules}
use Rattle.std.proofs.Common.{filter, flat_map, Option, Some, nat_lt, ◌==◌}
use Rattle.std.specs.List.{list_any, list_all, range_with_len}
use Rattle.std.proofs.lemmas.Bool.{false_from_ne_true}
use Rattle.std.proofs.lemmas.Bool.Decides.{nat_tests}
use Rattle.std.proofs.lemmas.List.Folds.{list_any-append}
use Rattle.game_rules.proofs.Common.{Grid, is_on, is_empty, points_of, row_from, precedes, is_at, is_same_point, outcome, WinsOr, RuleKind}
use Rattle.game_rules.proofs.Common.{Point, Refused}
use Rattle.game_rules.proofs.Rows.{any_found}
use Rattle.game_rules.proofs.Boards.{and_left, and_right, Apart, not-apart, on_x, on_y}

list_any-flat_map : (h : Point → Bool) (row : ℕ → List Point) (ys : List ℕ)
    → list_any h (flat_map row ys) ≡ list_any (λ y. list_any h (row y)) ys
list_any-flat_map h row [] = refl
list_any-flat_map h row (y ∷ ys) = search (rules, list_any-append, list_any-flat_map h row ys)

list_any-map : (h : Point → Bool) (at : ℕ → Point) (xs : List ℕ) → list_any h (map at xs) ≡ list_any (λ x. h (at x)) xs
list_any-map h at [] = refl
list_any-map h at (x ∷ xs) = ap (λ r. h (at x) || r) (list_any-map h at xs)

-- a test that holds at a point of the board holds somewhere
pub points-found : (b : Grid) (h : Point → Bool) (q : Point) → is_on b q ≡ true → h q ≡ true → list_any h (points_of b) ≡ true
points-found b h q on e =
    let in_row : list_any h (row_from q.y 0 b.width) ≡ true =
    list_any-map h (λ x. let p : Point = record { x = x; y = q.y } in p) (range_with_len 0 b.width) ∙ any_found
    (λ x. let p : Point = record { x = x; y = q.y } in h p) b.width 0 q.x (omega arith) (let l = on_x b q on in omega (arith, l)) e in
    list_any-flat_map h (λ y. row_from y 0 b.width) (range_with_len 0 b.height)
    ∙ any_found (λ y. list_any h (row_from y 0 b.width)) b.height 0 q.y (omega arith) (let l = on_y b q on in omega (arith, l)) in_row

-- a test that holds somewhere holds of an item
pub any_witness : (f : Point → Bool) (xs : List Point) → list_any f xs ≡ true → (x : Point) × (f x ≡ true)
any_witness f [] h = cc
any_witness f (x ∷ xs) h = search (rules, any_witness f xs)

-- a test that holds of no point holds nowhere
pub none_of : (f : Point → Bool) (xs : List Point) → ((q : Point) → f q ≡ true → ⊥) → list_any f xs ≡ false
none_of f [] h = refl
none_of f (x ∷ xs) h = search (rules, none_of f xs h)

-- a test that holds of all points holds everywhere
pub all_of : (f : Point → Bool) (xs : List Point) → ((q : Point) → f q ≡ true) → list_all f xs ≡ true
all_of f [] h = refl
all_of f (x ∷ xs) h = rw (h x, all_of f xs h) refl

all-any : (f : Point → Bool) (xs : List Point) → list_any (λ x. not (f x)) xs ≡ not (list_all f xs)
all-any f [] = refl
all-any f (x ∷ xs) = search (rules, all-any f xs)

-- a test that holds everywhere holds at each point of the board
pub all_at : (b : Grid) (f : Point → Bool) (q : Point) → list_all f (points_of b) ≡ true → is_on b q ≡ true → f q ≡ true
all_at b f q h on = by_test (f q) refl where
  by_test : (r : Bool) → f q ≡ r → r ≡ true
  by_test true e = refl
  by_test false e =
      let found : list_any (λ x. not (f x)) (points_of b) ≡ true = points-found b (λ x. not (f x)) q on (ap not e) in
      let no : true ≡ false = sym found ∙ all-any f (points_of b) ∙ ap not h in cc

-- ---- whether two points are one

pub is_same_point-itself : (q : Point) → is_same_point q q ≡ true
is_same_point-itself q = rw (eq-eqb q.x q.x refl, eq-eqb q.y q.y refl) refl

pub is_same_point-same : (w q : Point) → is_same_point w q ≡ true → w ≡ q
is_same_point-same w q h = search (rules, and_left, and_right)

pub is_same_point-apart : (w q : Point) → is_same_point w q ≡ false → Apart w q
is_same_point-apart w q h = search (rules, eq-eqb)

pub apart-is_same_point : (p q : Point) → Apart p q → is_same_point p q ≡ false
apart-is_same_point p q apart = search (rules, false_from_ne_true, not-apart, is_same_point-same)

-- where there is a point, and it is q
pub is_at-here : (q : Point) (o : Option Point) → o ≡ Some q → is_at q o ≡ true
is_at-here q o e = rw e (is_same_point-itself q)

pub is_at-Some : (q : Point) (o : Option Point) → is_at q o ≡ true → o ≡ Some q
is_at-Some q o h = search (rules, is_same_point-same)

-- ---- the order of points

precedes-by : (a b c x y z : ℕ) → (nat_lt a b || (a == b && nat_lt x y)) ≡ true → (nat_lt b c || (b == c && nat_lt y z)) ≡ true
    → (nat_lt a c || (a == c && nat_lt x z)) ≡ true
precedes-by a b c x y z h k = grind (arith, nat_tests)

pub precedes-trans : (p q r : Point) → precedes p q ≡ true → precedes q r ≡ true → precedes p r ≡ true
precedes-trans p q r h k = precedes-by p.y q.y r.y p.x q.x r.x h k

precedes-differs_by : (a b c d : ℕ) → (nat_lt b d || (b == d && nat_lt a c)) ≡ true → (a == c && b == d) ≡ false
precedes-differs_by a b c d h = grind (arith, nat_tests)

-- a point before another is not the same
pub precedes-differs : (p q : Point) → precedes p q ≡ true → is_same_point p q ≡ false
precedes-differs p q h = precedes-differs_by p.x p.y q.x q.y h

pub precedes-differs_back : (p q : Point) → precedes p q ≡ true → is_same_point q p ≡ false
precedes-differs_back p q h = search rules

-- ---- the points that pass a test

pub filter-passes : (f : Point → Bool) (ps : List Point) → list_all f (filter f ps) ≡ true
filter-passes f [] = refl
filter-passes f (p ∷ ps) = search (rules, filter-passes f ps)

pub filter-none : (f : Point → Bool) (ps : List Point) → filter f ps ≡ [] → list_any f ps ≡ false
filter-none f [] h = refl
filter-none f (p ∷ ps) h = search (rules, filter-none f ps)

pub filter-some : (f : Point → Bool) (w : Point) (more ps : List Point) → filter f ps ≡ w ∷ more → list_any f ps ≡ true
filter-some f w more [] h = cc
filter-some f w more (p ∷ ps) h = search (rules, filter-some f w more ps)

-- a point that is not empty is refused, and so is a point off the board
pub taken_refused : (rule : RuleKind) (b : Grid) (q : Point) → is_empty b q ≡ false → outcome rule b q ≡ Refused
unfolding outcome
taken_refused rule b q h = rw h refl

pub off_refused : (rule : RuleKind) (b : Grid) (q : Point) → is_on b q ≡ false → outcome rule b q ≡ Refused
unfolding outcome
off_refused rule b q h = rw h refl

-- a move that wins, or goes on, is on the board
pub WinsOr-on : (rule : RuleKind) (b : Grid) (p : Point) (W : Type 0) → WinsOr (outcome rule b p) W → is_on b p ≡ true
WinsOr-on rule b p W h = search (rules, off_refused)

pub same_point-on : (b : Grid) (p q : Point) → is_same_point p q ≡ true → is_on b p ≡ is_on b q
same_point-on b p q same = ap (is_on b) (is_same_point-same p q same)
