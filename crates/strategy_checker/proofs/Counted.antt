-- The replies that are counted and not walked: the points of a board, taken apart into those that are listed, one more, and
-- the others, and what each of the others is.
use Rattle.std.proofs.Common.{◌≡◌, ℕ, zero, suc, ◌+◌, ◌*◌, ◌<◌, ◌≤◌, Bool, true, false, cond, ◌&&◌, ◌||◌, not, List, [], ◌∷◌, length, drop}
use Rattle.std.proofs.Common.{refl, sym, ap, subst, ◌∙◌, arith, nat_eq, eq-eqb, drop-cons, rules, Some, None, All, count_by, sum_by}
use Rattle.std.proofs.Common.{flat_map}
use Rattle.std.specs.List.{list_any, list_all, range_with_len}
use Rattle.std.proofs.lemmas.Bool.{lt-ltb}
use Rattle.std.proofs.lemmas.List.{drop_all}
use Rattle.std.proofs.lemmas.List.Sums.{sum_by-cons, sum_by-append}
use Rattle.strategy_checker.proofs.Common.{Grid, IsBoard, is_empty, points_of, empties_of, is_same_point, precedes, has_five, IsPosition}
use Rattle.strategy_checker.proofs.Common.{outcome, after, mover, has_fouls, goes_on, RuleKind, Outcome, Wins, GoesOn, Point, Reply, Rest}
use Rattle.strategy_checker.proofs.Common.{Node, Answers, answer, is_rising, listed_node, rest_node, Accepted, AcceptedStart, Meets}
use Rattle.strategy_checker.proofs.Common.{arrivals, arrivals_after, arrivals_at, Sure, IsSure, is_apart}
use Rattle.game_rules.proofs.Common.{is_on, is_empty_cell, cell_at, row_from}
use Rattle.game_rules.specs.declared.Outcome.TheVariants.{Refused, Fouls, Draws}
use Rattle.game_rules.specs.declared.Cell.{Cell}
use Rattle.game_rules.specs.declared.Cell.TheVariants.{Empty}
use Rattle.game_rules.proofs.Boards.{and_left, and_right, place_fits}
use Rattle.game_rules.proofs.Outcomes.{outcome-five, outcome-more, draws-last}
use Rattle.game_rules.proofs.Wins.{no_five}
use Rattle.game_rules.proofs.Points.{points-found, is_same_point-itself, is_same_point-same, precedes-differs_back, off_refused}
use Rattle.game_rules.proofs.Points.{taken_refused}
use Rattle.game_rules.proofs.Places.{place, Rising, rising-first, rows-rising, earlier-differs}
use Rattle.game_rules.proofs.Tests.{eq_from, or_none, or_right}
use Rattle.strategy_graph.proofs.Steps.{arrivals-answer, arrivals-stops, met-answer, met-foul, met-no_move}
use Rattle.strategy_checker.proofs.Sureness.{sure-accepted}
use Rattle.strategy_checker.proofs.Walking.{drop-none}

-- ---- sums

sum_by-same : {X : Type 0} (f g : X → ℕ) (xs : List X) → ((x : X) → f x ≡ g x) → sum_by f xs ≡ sum_by g xs
sum_by-same f g xs e = λ i. sum_by (λ x. e x i) xs

sum_by-both : {X : Type 0} (f g : X → ℕ) (xs : List X) → sum_by (λ x. f x + g x) xs ≡ sum_by f xs + sum_by g xs
sum_by-both f g [] = refl
sum_by-both f g (x ∷ xs) = search (rules, sum_by-cons, sum_by-both f g xs)

-- ---- one point

-- what f is at e, and 0 elsewhere
pub only_at : Point → (Point → ℕ) → Point → ℕ
only_at e f q = cond (is_same_point e q) (f q) 0

only_at-else : (e : Point) (f : Point → ℕ) (q : Point) → is_same_point e q ≡ false → only_at e f q ≡ 0
unfolding only_at
only_at-else e f q h = ap (λ r. cond r (f q) 0) h

only_at-here : (e : Point) (f : Point → ℕ) (q : Point) → is_same_point e q ≡ true → only_at e f q ≡ f e
unfolding only_at
only_at-here e f q h = ap (λ r. cond r (f q) 0) h ∙ ap f (sym (is_same_point-same e q h))

module _ (width : ℕ) (e : Point) (f : Point → ℕ) where
  one-past : (k : ℕ) (ps : List Point) → Rising width k ps → place width e < k → sum_by (only_at e f) ps ≡ 0
  one-past k [] rising past = refl
  one-past k (p ∷ ps) rising past =
      let first = rising-first width k p ps rising in
      let low = first.0 in
      let here = only_at-else e f p (earlier-differs width e p (omega (arith, low, past))) in
      let rest = one-past (place width p + 1) ps first.1 (omega (arith, low, past)) in
      let all = sum_by-cons (only_at e f) p ps in
      omega (arith, all, here, rest)

  one-found : (k : ℕ) (ps : List Point) → Rising width k ps → list_any (is_same_point e) ps ≡ true → sum_by (only_at e f) ps ≡ f e
  one-found k [] rising h = cc
  one-found k (p ∷ ps) rising h = by_test (is_same_point e p) refl h
      (one-found (place width p + 1) ps (rising-first width k p ps rising).1) where
        by_test : (r : Bool) → is_same_point e p ≡ r → (r || list_any (is_same_point e) ps) ≡ true
            → (list_any (is_same_point e) ps ≡ true → sum_by (only_at e f) ps ≡ f e) → sum_by (only_at e f) (p ∷ ps) ≡ f e
        by_test true s m later =
            let first = rising-first width k p ps rising in
            let all = sum_by-cons (only_at e f) p ps in
            let at : place width e ≡ place width p = ap (place width) (is_same_point-same e p s) in
            let here = only_at-here e f p s in
            let rest = one-past (place width p + 1) ps first.1 (omega (arith, at)) in
            omega (arith, all, here, rest)
        by_test false s m later =
            let all = sum_by-cons (only_at e f) p ps in
            let here = only_at-else e f p s in
            let rest = later m in
            omega (arith, all, here, rest)

  one-missing : (ps : List Point) → list_any (is_same_point e) ps ≡ false → sum_by (only_at e f) ps ≡ 0
  one-missing [] h = refl
  one-missing (p ∷ ps) h = search (rules, only_at, sum_by-cons, only_at-else, one-missing ps)

-- a sum over the points of a board of what is 0 but at one point
pub sum-only : (b : Grid) (e : Point) (f : Point → ℕ) → (is_on b e ≡ false → f e ≡ 0) → sum_by (only_at e f) (points_of b) ≡ f e
sum-only b e f off = by_test (list_any (is_same_point e) (points_of b)) refl where
  by_test : (r : Bool) → list_any (is_same_point e) (points_of b) ≡ r → sum_by (only_at e f) (points_of b) ≡ f e
  by_test true h = one-found b.width e f (0 * b.width) (points_of b) (rows-rising b.width 0 b.height) h
  by_test false h = one-missing b.width e f (points_of b) h ∙ sym (off (by_on (is_on b e) refl)) where
    by_on : (r : Bool) → is_on b e ≡ r → is_on b e ≡ false
    by_on false s = s
    by_on true s = let found : list_any (is_same_point e) (points_of b) ≡ true =
        points-found b (is_same_point e) e s (is_same_point-itself e) in let no : false ≡ true = sym h ∙ found in cc

-- ---- the points that are listed

-- whether the point is listed
abbrev pub is_listed : List Reply → Point → Bool
is_listed rs q = list_any (λ r. is_same_point r.at q) rs

-- what f is at the points that are listed, and 0 elsewhere
pub only_listed : List Reply → (Point → ℕ) → Point → ℕ
only_listed rs f q = cond (is_listed rs q) (f q) 0

-- a point before all that are listed is not listed
first-unlisted : (p : Point) (rs : List Reply) → list_all (λ s. precedes p s.at) rs ≡ true → is_listed rs p ≡ false
first-unlisted p [] h = refl
first-unlisted p (s ∷ rs) h =
    search (rules, precedes-differs_back, and_left, and_right, first-unlisted p rs (and_right (precedes p s.at) _ h))

-- a sum over the points of a board of what is 0 but where listed
pub sum-listed : (b : Grid) (f : Point → ℕ) → ((e : Point) → is_on b e ≡ false → f e ≡ 0) → (rs : List Reply) → is_rising rs ≡ true
    → sum_by (only_listed rs f) (points_of b) ≡ sum_by (λ r. f r.at) rs
unfolding only_listed only_at
sum-listed b f off [] rising = none (points_of b) where
  none : (ps : List Point) → sum_by (λ q. zero) ps ≡ 0
  none [] = refl
  none (p ∷ ps) = let all = sum_by-cons (λ (q : Point). zero) p ps in let rest = none ps in omega (arith, all, rest)
sum-listed b f off (r ∷ rs) rising =
    let split = sum_by-same (only_listed (r ∷ rs) f)
    (λ q. only_at r.at f q + only_listed rs f q) (points_of b) (λ q. by_tests q (is_same_point r.at q) (is_listed rs q) refl refl) in
    let both = sum_by-both (only_at r.at f) (only_listed rs f) (points_of b) in
    let one = sum-only b r.at f (off r.at) in
    let rest = sum-listed b f off rs (and_right (list_all (λ (s : Reply). precedes r.at s.at) rs) _ rising) in
    let all = sum_by-cons (λ (s : Reply). f s.at) r rs in
    omega (arith, split, both, one, rest, all) where
      by_tests : (q : Point) (s t : Bool) → is_same_point r.at q ≡ s → is_listed rs q ≡ t
          → cond (s || t) (f q) 0 ≡ cond s (f q) 0 + cond t (f q) 0
      by_tests q true true e h =
          let unlisted : is_listed rs q ≡ false = subst (λ (p : Point). is_listed rs p ≡ false) (is_same_point-same r.at q e)
          (first-unlisted r.at rs (and_left _ (is_rising rs) rising)) in
          let no : false ≡ true = sym unlisted ∙ h in cc
      by_tests q true false e h = omega arith
      by_tests q false t e h = omega arith

-- ---- those that are apart: listed, or one more

-- a sum over the points of a board, taken apart
pub sum-apart : (b : Grid) (f : Point → ℕ) → ((e : Point) → is_on b e ≡ false → f e ≡ 0) → (rs : List Reply)
    → is_rising rs ≡ true → (w : Point) → sum_by f (points_of b) ≡ sum_by (λ q. cond (is_apart rs w q) 0 (f q)) (points_of b)
    + (sum_by (λ r. f r.at) rs + cond (is_listed rs w) 0 (f w))
unfolding only_listed only_at
sum-apart b f off rs rising w =
    let split =
    sum_by-same f (λ q. cond (is_apart rs w q) 0 (f q) + (only_listed rs f q + only_at w (λ p. cond (is_listed rs w) 0 (f p)) q))
    (points_of b) (λ q. by_tests q (is_listed rs w) (is_listed rs q) (is_same_point w q) refl refl refl) in
    let outer = sum_by-both
    (λ q. cond (is_apart rs w q) 0 (f q)) (λ q. only_listed rs f q + only_at w (λ p. cond (is_listed rs w) 0 (f p)) q) (points_of b) in
    let inner = sum_by-both (only_listed rs f) (only_at w (λ p. cond (is_listed rs w) 0 (f p))) (points_of b) in
    let listed = sum-listed b f off rs rising in
    let one =
    sum-only b w (λ p. cond (is_listed rs w) 0 (f p)) (λ h. ap (λ n. cond (is_listed rs w) 0 n) (off w h) ∙ none (is_listed rs w)) in
    omega (arith, split, outer, inner, listed, one) where
      none : (r : Bool) → cond r 0 zero ≡ 0
      none true = refl
      none false = refl

      by_tests : (q : Point) (l t s : Bool) → is_listed rs w ≡ l → is_listed rs q ≡ t → is_same_point w q ≡ s
          → f q ≡ cond (t || s) 0 (f q) + (cond t (f q) 0 + cond s (cond l 0 (f q)) 0)
      by_tests q l true false el et es = omega arith
      by_tests q true true true el et es = omega arith
      by_tests q false true true el et es =
          let same : is_listed rs w ≡ true = subst (λ (p : Point). is_listed rs p ≡ true) (sym (is_same_point-same w q es)) et in
          let no : false ≡ true = sym el ∙ same in cc
      by_tests q l false false el et es = omega arith
      by_tests q false false true el et es = omega arith
      by_tests q true false true el et es =
          let same : is_listed rs q ≡ true = subst (λ (p : Point). is_listed rs p ≡ true) (is_same_point-same w q es) el in
          let no : false ≡ true = sym et ∙ same in cc

-- ---- the empty points

module _ (b : Grid) (ok : IsBoard b) where
  abbrev empty : Point → ℕ
  empty q = cond (is_empty b q) 1 0

  abbrev cells_from : ℕ → ℕ
  cells_from k = sum_by (λ (c : Cell). cond (is_empty_cell c) 1 0) (drop k b.cells)

  cell-more : (x y : ℕ) → x < b.width → y < b.height
      → empty (record { x = x; y = y }) + cells_from (y * b.width + x + 1) ≡ cells_from (y * b.width + x)
  cell-more x y l h =
      let p : Point = record { x = x; y = y } in
      let k : ℕ = y * b.width + x in
      let on : is_on b p ≡ true = rw (lt-ltb x b.width l, lt-ltb y b.height h) refl in
      let split : cells_from k ≡ cond (is_empty_cell (cell_at b p)) 1 0 + cells_from (suc k) =
      ap (sum_by (λ (c : Cell). cond (is_empty_cell c) 1 0)) (drop-cons b.cells k Empty (place_fits b p ok on))
      ∙ sum_by-cons (λ (c : Cell). cond (is_empty_cell c) 1 0) (cell_at b p) (drop (suc k) b.cells) in
      let here : empty p ≡ cond (is_empty_cell (cell_at b p)) 1 0 = ap (λ r. cond (r && is_empty_cell (cell_at b p)) 1 0) on in
      let e : suc k ≡ k + 1 = omega arith in
      let next = ap cells_from e in
      omega (arith, split, here, next)

  row-empties : (y x n : ℕ) → y < b.height → x + n ≤ b.width
      → sum_by empty (row_from y x n) + cells_from (y * b.width + x + n) ≡ cells_from (y * b.width + x)
  row-empties y x zero h l = search rules
  row-empties y x (suc n) h l =
      let p : Point = record { x = x; y = y } in
      let all = sum_by-cons empty p (row_from y (x + 1) n) in
      let here = cell-more x y (omega (arith, l)) h in
      let rest = row-empties y (x + 1) n h (omega (arith, l)) in
      let e : y * b.width + (x + 1) + n ≡ y * b.width + x + suc n = omega arith in
      let f : y * b.width + (x + 1) ≡ y * b.width + x + 1 = omega arith in
      let last = ap cells_from e in
      let next = ap cells_from f in
      omega (arith, all, here, rest, last, next)

  rows-empties : (y n : ℕ) → y + n ≤ b.height
      → sum_by empty (flat_map (λ z. row_from z 0 b.width) (range_with_len y n)) + cells_from ((y + n) * b.width) ≡ cells_from (y * b.width)
  rows-empties y zero h = search rules
  rows-empties y (suc n) h = search (rules, sum_by-append, row-empties, rows-empties (y + 1) n (omega (arith, h)))

  -- as many points are empty as cells
  pub count-empty : count_by (is_empty b) (points_of b) ≡ empties_of b
  count-empty =
      let all = rows-empties 0 b.height (omega arith) in
      let filled = ok.filled in
      let e : (0 + b.height) * b.width ≡ length b.cells = omega (arith, filled) in
      let past = ap (sum_by (λ (c : Cell). cond (is_empty_cell c) 1 0)) (drop_all ((0 + b.height) * b.width) b.cells (omega (arith, e))) in
      let f : 0 * b.width ≡ 0 = omega arith in
      let first = ap cells_from f in
      let whole : drop 0 b.cells ≡ b.cells = drop-none b.cells in
      let start = ap (sum_by (λ (c : Cell). cond (is_empty_cell c) 1 0)) whole in
      let total : sum_by empty (points_of b) ≡ sum_by (λ (c : Cell). cond (is_empty_cell c) 1 0) b.cells =
      omega (arith, all, past, first, start) in
      total

-- how many are empty that are not apart
pub count-others : (b : Grid) → IsBoard b → (rs : List Reply) → is_rising rs ≡ true → (w : Point) → is_empty b w ≡ true
    → count_by (λ q. is_empty b q && not (is_apart rs w q)) (points_of b) + (count_by (λ r. is_empty b r.at) rs + cond (is_listed rs w) 0 1)
    ≡ empties_of b
count-others b ok rs rising w free =
    let all =
    sum-apart b (λ q. cond (is_empty b q) 1 0) (λ e off. ap (λ r. cond (r && is_empty_cell (cell_at b e)) 1 zero) off) rs rising w in
    let others = sum_by-same (λ q. cond (is_apart rs w q) 0 (cond (is_empty b q) 1 0))
    (λ q. cond (is_empty b q && not (is_apart rs w q)) 1 0) (points_of b) (λ q. by_tests (is_apart rs w q) (is_empty b q)) in
    let one : cond (is_listed rs w) 0 (cond (is_empty b w) 1 0) ≡ cond (is_listed rs w) 0 1 =
    ap (λ r. cond (is_listed rs w) zero (cond r 1 0)) free in
    let count = count-empty b ok in
    omega (arith, all, others, one, count) where
      by_tests : (r s : Bool) → cond r zero (cond s 1 0) ≡ cond (s && not r) 1 zero
      by_tests true true = refl
      by_tests true false = refl
      by_tests false true = refl
      by_tests false false = refl

-- ---- what each of them is

pub going-empty : (rule : RuleKind) (b : Grid) → has_five rule b (mover b) ≡ false → has_fouls rule (mover b) ≡ false → 1 < empties_of b
    → (q : Point) → goes_on (outcome rule b q) ≡ is_empty b q
going-empty rule b free calm more q = search (rules, outcome-more, taken_refused)

-- where a side without fouls has no five point, the replies that go on are the empty points
pub count-going : (rule : RuleKind) (b : Grid) (rs : List Reply) (w : Point) → has_five rule b (mover b) ≡ false
    → has_fouls rule (mover b) ≡ false → 1 < empties_of b → count_by (λ q. is_empty b q && not (is_apart rs w q)) (points_of b) ≡ count_by
    (λ q. goes_on (outcome rule b q) && not (is_apart rs w q)) (points_of b)
count-going rule b rs w free calm more = search (rules, going-empty)

nat_eq-itself : (n : ℕ) → nat_eq n n ≡ true
nat_eq-itself n = eq-eqb n n refl

unlisted-none : (rs : List Reply) (q : Point) → is_listed rs q ≡ false → listed_node rs q ≡ None
unlisted-none [] q h = refl
unlisted-none (r ∷ rs) q h = search (rules, unlisted-none rs q)

listed-all : (P : Point → Type 0) (rs : List Reply) (q : Point) → All (λ r. P r.at) rs → is_listed rs q ≡ true → P q
listed-all P [] q all h = cc
listed-all P (r ∷ rs) q all h = by_test (is_same_point r.at q) refl h (listed-all P rs q (λ j d l. all (suc j) d (omega (arith, l)))) where
  by_test : (s : Bool) → is_same_point r.at q ≡ s → (s || list_any (λ (x : Reply). is_same_point x.at q) rs) ≡ true
      → (list_any (λ (x : Reply). is_same_point x.at q) rs ≡ true → P q) → P q
  by_test true e k later = subst P (is_same_point-same r.at q e) (all 0 r (omega arith))
  by_test false e k later = later k

-- where all empty points are listed, a point that isn't listed is not empty
unlisted-taken : (b : Grid) → IsBoard b → (rs : List Reply) → is_rising rs ≡ true → count_by (λ r. is_empty b r.at) rs ≡ empties_of b
    → (q : Point) → is_listed rs q ≡ false → is_empty b q ≡ false
unlisted-taken b ok rs rising whole q unlisted = by_test (is_empty b q) refl where
  by_test : (r : Bool) → is_empty b q ≡ r → r ≡ false
  by_test false e = refl
  by_test true e =
      let all = sum-apart b (λ p. cond (is_empty b p) 1 0) (λ p off. ap (λ r. cond (r && is_empty_cell (cell_at b p)) 1 zero) off) rs rising
      q in
      let here : cond (is_listed rs q) 0 (cond (is_empty b q) 1 0) ≡ 1 = ap (λ r. cond r zero (cond (is_empty b q) 1 0)) unlisted
      ∙ ap (λ r. cond r 1 zero) e in
      let count = count-empty b ok in
      absurd (omega (arith, all, here, count, whole))

module _ (rule : RuleKind) (t : List Node) (b : Grid) (rs : List Reply) (rest : Rest) (ok : IsBoard b) (rising : is_rising rs ≡ true)
    (whole : count_by (λ r. is_empty b r.at) rs ≡ empties_of b) where
  abbrev answers : Answers
  answers = record { replies = rs; rest = rest }

  taken : (q : Point) → is_listed rs q ≡ false → outcome rule b q ≡ Refused
  taken q unlisted = taken_refused rule b q (unlisted-taken b ok rs rising whole q unlisted)

  -- then the arrivals are those behind the replies that are listed
  pub arrivals-listed : arrivals_after rule answers (arrivals rule t) b ≡ sum_by (λ r. arrivals_at rule answers (arrivals rule t) b r.at) rs
  unfolding only_listed
  arrivals-listed =
      sum_by-same (arrivals_at rule answers (arrivals rule t) b) (only_listed rs (arrivals_at rule answers (arrivals rule t) b))
      (points_of b) (λ q. by_test q (is_listed rs q) refl) ∙ sum-listed b (arrivals_at rule answers (arrivals rule t) b)
      (λ e off. arrivals-stops rule t answers b e Refused (off_refused rule b e off) (λ x. cc)) rs rising where
        by_test : (q : Point) (r : Bool) → is_listed rs q ≡ r
            → arrivals_at rule answers (arrivals rule t) b q ≡ cond r (arrivals_at rule answers (arrivals rule t) b q) 0
        by_test q true h = refl
        by_test q false h = arrivals-stops rule t answers b q Refused (taken q h) (λ e. cc)

  -- and all replies are met once those are
  pub met-listed : All (λ r. Meets rule answers (Accepted rule t) b r.at) rs → (q : Point) → Meets rule answers (Accepted rule t) b q
  met-listed all q = by_test (is_listed rs q) refl where
    by_test : (r : Bool) → is_listed rs q ≡ r → Meets rule answers (Accepted rule t) b q
    by_test true h = listed-all (Meets rule answers (Accepted rule t) b) rs q all h
    by_test false h = met-no_move rule t answers b q (taken q h)

module _ (rule : RuleKind) (t : List Node) (b : Grid) (rs : List Reply) (rest : Rest) (s : Sure) (lawful : IsPosition rule b)
    (is : IsSure rule t b s) (to : rest_node rest ≡ Some s.node) where
  abbrev pub a : Answers
  a = record { replies = rs; rest = rest }

  won : (q : Point) → is_apart rs s.attack q ≡ false → outcome rule b q ≡ GoesOn
      → Accepted rule t s.node (after b q) × (arrivals rule t s.node (after b q) ≡ 1)
  won q h on = sure-accepted rule t b q lawful on (Some s) s.node is
      (rw (nat_eq-itself s.node, or_right (is_listed rs q) (is_same_point s.attack q) h) refl)

  answered : (q : Point) → is_apart rs s.attack q ≡ false → answer a q ≡ Some s.node
  answered q h = search (rules, unlisted-none, or_none)

  arrivals-other : (q : Point) → is_apart rs s.attack q ≡ false → (u : Outcome) → outcome rule b q ≡ u
      → arrivals_at rule a (arrivals rule t) b q ≡ cond (goes_on u && true) 1 0
  arrivals-other q h Refused o = arrivals-stops rule t a b q Refused o (λ e. cc)
  arrivals-other q h Wins o = arrivals-stops rule t a b q Wins o (λ e. cc)
  arrivals-other q h (Fouls f) o = arrivals-stops rule t a b q (Fouls f) o (λ e. cc)
  arrivals-other q h Draws o = arrivals-stops rule t a b q Draws o (λ e. cc)
  arrivals-other q h GoesOn o = arrivals-answer rule t a b q s.node o (answered q h) ∙ (won q h o).1

  arrivals-each : (q : Point) (r : Bool) → is_apart rs s.attack q ≡ r
      → cond r 0 (arrivals_at rule a (arrivals rule t) b q) ≡ cond (goes_on (outcome rule b q) && not r) 1 0
  arrivals-each q r h = search (rules, arrivals-other)

  -- the arrivals behind all replies: one for each other reply that goes on, and those behind the replies that are apart
  pub arrivals-most : is_rising rs ≡ true
      → arrivals_after rule a (arrivals rule t) b ≡ count_by (λ q. goes_on (outcome rule b q) && not (is_apart rs s.attack q)) (points_of b)
      + (sum_by (λ r. arrivals_at rule a (arrivals rule t) b r.at) rs + cond (is_listed rs s.attack) 0
      (arrivals_at rule a (arrivals rule t) b s.attack))
  arrivals-most rising =
      let all = sum-apart b (arrivals_at rule a (arrivals rule t) b)
      (λ e off. arrivals-stops rule t a b e Refused (off_refused rule b e off) (λ x. cc)) rs rising s.attack in
      let others = sum_by-same (λ q. cond (is_apart rs s.attack q) 0 (arrivals_at rule a (arrivals rule t) b q))
      (λ q. cond (goes_on (outcome rule b q) && not (is_apart rs s.attack q)) 1 0) (points_of b)
      (λ q. arrivals-each q (is_apart rs s.attack q) refl) in
      omega (arith, all, others)

  -- all replies are met once those that are apart are
  pub met-most : has_five rule b (mover b) ≡ false → 1 < empties_of b → All (λ r. Meets rule a (Accepted rule t) b r.at) rs
      → (is_listed rs s.attack ≡ false → Meets rule a (Accepted rule t) b s.attack) → AcceptedStart rule t a b
  met-most free more listed last q = by_tests (is_listed rs q) (is_same_point s.attack q) refl refl where
    by_outcome : is_apart rs s.attack q ≡ false → (u : Outcome) → outcome rule b q ≡ u → Meets rule a (Accepted rule t) b q
    by_outcome h Refused o = met-no_move rule t a b q o
    by_outcome h Wins o = let five_is = outcome-five rule b q o in let none = no_five rule b (mover b) q free in let no : false ≡ true =
        sym none ∙ five_is in cc
    by_outcome h (Fouls f) o = met-foul rule t a b q f o
    by_outcome h Draws o = let one = (draws-last rule b q o).1 in let no : 1 < 1 =
        subst (λ (n : ℕ). 1 < n) (eq_from (empties_of b) 1 one) more in absurd (omega (arith, no))
    by_outcome h GoesOn o = met-answer rule t a b q s.node o (answered q h) (won q h o).0

    by_tests : (l r : Bool) → is_listed rs q ≡ l → is_same_point s.attack q ≡ r → Meets rule a (Accepted rule t) b q
    by_tests true r e k = listed-all (Meets rule a (Accepted rule t) b) rs q listed e
    by_tests false true e k = subst (Meets rule a (Accepted rule t) b) (is_same_point-same s.attack q k)
        (last (subst (λ (p : Point). is_listed rs p ≡ false) (sym (is_same_point-same s.attack q k)) e))
    by_tests false false e k = by_outcome (rw (e, k) refl) (outcome rule b q) refl
