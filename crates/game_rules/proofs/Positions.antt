-- A move that goes on leaves a lawful position.
use Rattle.std.proofs.Common.{rules, ◌≡◌, ◌≢◌, ◌⊎◌, inl, inr, ℕ, zero, suc, ◌+◌, ◌-◌, ◌≤◌, Bool, true, false, cond, ◌&&◌, refl, sym, ap}
use Rattle.std.proofs.Common.{subst, ◌∙◌, arith, length-set, List, [], ◌∷◌, set, get_or, get_or-set_same, nat_eq, eq-eqb, ◌*◌, Option, Some}
use Rattle.std.proofs.Common.{None}
use Rattle.std.specs.List.{prefix_len, range_with_len}
use Rattle.std.proofs.lemmas.Bool.{cases_lt}
use Rattle.std.proofs.lemmas.Bool.Decides.{nat_tests}
use Rattle.std.proofs.lemmas.List.Sums.{sum_by-set}
use Rattle.game_rules.proofs.Common.{Grid, IsBoard, is_on, is_empty, is_stone_of, stone_of, holds, put, lift, along, stones_of, empties_of}
use Rattle.game_rules.proofs.Common.{stone_at, stones_ahead, stones_behind, run_of, line_bound, row_wins, wins_on, five, IsPosition}
use Rattle.game_rules.proofs.Common.{NamesMover, outcome, outcome_by, foul_of, mover, other, after, Foul, Side, Cell, Axis, Point, RuleKind}
use Rattle.game_rules.proofs.Common.{GoesOn, Black, White, Empty}
use Rattle.game_rules.proofs.Axes.{no_axis}
use Rattle.game_rules.proofs.Boards.{and_left, and_right, is_empty-on, is_empty-cell, same_or_apart, empty_holds, other-other}
use Rattle.game_rules.proofs.Boards.{holds-put_other, holds-put_same, place_fits, empties_of-put, prefix_len-same, cell_at-put_same}
use Rattle.game_rules.proofs.Boards.{lift-put}
use Rattle.game_rules.proofs.Lines.{along-then, along-same, along-zero}
use Rattle.game_rules.proofs.Runs.{Leads, ahead_leads, behind_leads, ahead_is, behind_is, run-same}

-- ---- a further stone

-- a stone on an empty point adds to its side and takes nothing
pub holds-put_more : (b : Grid) (s : Side) (p q : Point) → IsBoard b → is_empty b p ≡ true → holds b s q ≡ true
    → holds (put b s p) s q ≡ true
holds-put_more b s p q ok empty h = search (rules, same_or_apart, holds-put_same, is_empty-on, holds-put_other)

-- it is that point, or it is not
pub is_at_or_not : (o : Option Point) (p : Point) → (o ≡ Some p) ⊎ (o ≢ Some p)
is_at_or_not o p = search (rules, same_or_apart)

-- whether p is one of the first m places
abbrev pub Meets : (ℕ → Option Point) → Point → ℕ → Type 0
Meets at p m = (e : ℕ) × (1 ≤ e) × (e ≤ m) × (at e ≡ Some p)

abbrev pub Misses : (ℕ → Option Point) → Point → ℕ → Type 0
Misses at p m = (e : ℕ) → 1 ≤ e → e ≤ m → at e ≢ Some p

pub meets_or_misses : (at : ℕ → Option Point) (p : Point) (m : ℕ) → Meets at p m ⊎ Misses at p m
meets_or_misses at p zero = inr (λ e low high. absurd (omega arith))
meets_or_misses at p (suc m) = elim (meets_or_misses at p m) [
  | inl found ↦ inl (found.0, found.1, omega arith, found.3)
  | inr none ↦ elim (is_at_or_not (at (suc m)) p) [
    | inl here ↦ inl (suc m, omega arith, omega arith, here)
    | inr not_here ↦ inr (λ e low high. elim (cases_lt m e) [
      | inl last ↦ let same : suc m ≡ e = omega arith in subst (λ (k : ℕ). at k ≢ Some p) same not_here
      | inr earlier ↦ none e low earlier
    ])
  ]
]

module _ (b : Grid) (s : Side) (p : Point) (ok : IsBoard b) (empty : is_empty b p ≡ true) where
  on_p : is_on b p ≡ true
  on_p = is_empty-on b p empty

  -- other points and the other side stay
  pub stone_at-else : (t : Side) (o : Option Point) → o ≢ Some p → stone_at (put b s p) t o ≡ stone_at b t o
  stone_at-else t o h = search (rules, same_or_apart, holds-put_other, on_p)

  -- and none of its own goes
  pub stone_at-more : (o : Option Point) → stone_at b s o ≡ true → stone_at (put b s p) s o ≡ true
  stone_at-more o h = search (rules, holds-put_more)

  pub not_before : (o : Option Point) → stone_at (put b s p) s o ≡ false → stone_at b s o ≡ false
  not_before o h = search (rules, stone_at-more)

  -- as many stones stood unbroken before, where p is none of their places
  pub leads_before : (at : ℕ → Option Point) (m : ℕ) → Leads (λ k. stone_at (put b s p) s (at k)) m → Misses at p m
      → Leads (λ k. stone_at b s (at k)) m
  leads_before at m h miss = search (rules, stone_at-else, not_before)

  -- ---- runs after the move

  run_before : (d : Axis) (q : Point) → holds b s q ≡ true → Misses (λ k. along d q k 0) p (stones_ahead (put b s p) s d q)
      → Misses (λ k. along d q 0 k) p (stones_behind (put b s p) s d q) → run_of (put b s p) s d q ≡ run_of b s d q
  run_before d q mine ahead behind =
      let on : is_on b q ≡ true = and_left (is_on b q) _ mine in
      let a : stones_ahead b s d q ≡ stones_ahead (put b s p) s d q =
      ahead_is b s d q on _ (leads_before (λ k. along d q k 0) _ (ahead_leads (put b s p) s d q on) ahead) in
      let z : stones_behind b s d q ≡ stones_behind (put b s p) s d q =
      behind_is b s d q on _ (leads_before (λ k. along d q 0 k) _ (behind_leads (put b s p) s d q on) behind) in
      rw (mine, holds-put_more b s p q ok empty mine, a, z) refl

  leads_reach : (f : ℕ → Bool) (m e : ℕ) → Leads f m → ((j : ℕ) → 1 ≤ j → j ≤ e → f j ≡ true) → e ≤ m
  leads_reach f m e h all = search (rules, cases_lt)

  -- p is e steps behind q, in its run: then q is e steps ahead of p, in the run of p
  run_behind : (d : Axis) (q : Point) (e : ℕ) → holds b s q ≡ true → 1 ≤ e → e ≤ stones_behind (put b s p) s d q → along d q 0 e ≡ Some p
      → run_of (put b s p) s d q ≡ run_of (put b s p) s d p
  run_behind d q e mine step far here =
      let mine' = holds-put_more b s p q ok empty mine in
      let on : is_on b q ≡ true = and_left (is_on b q) _ mine in
      let back : along d p e 0 ≡ Some q = along-then d q p 0 e e 0 here ∙ along-same d q (0 + e) (e + 0) 0 0 (omega arith)
      ∙ along-zero d q in
      let place : (j : ℕ) (k l : ℕ) → j + l ≡ k + e → stone_at (put b s p) s (along d p j 0) ≡ stone_at (put b s p) s (along d q k l) =
      λ j k l sum. ap (stone_at (put b s p) s) (along-then d q p 0 e j 0 here ∙ along-same d q (0 + j) (e + 0) k l (omega arith)) in
      let reach : e ≤ stones_ahead (put b s p) s d p = leads_reach _ _ e (ahead_leads (put b s p) s d p on_p)
      (λ j low high. elim (cases_lt j e) [
        | inl less ↦ place j 0 (e - j) (omega arith) ∙ (behind_leads (put b s p) s d q on).holds (e - j) (omega arith) (omega arith)
        | inr more ↦ place j 0 0 (omega arith) ∙ ap (stone_at (put b s p) s) (along-zero d q) ∙ mine'
      ]) in
      run-same (put b s p) s d p q e back (holds-put_same b s p ok on_p) reach step

  -- a stone of the mover is in the run of p, or in the run that it was in
  run_after : (d : Axis) (q : Point) → holds b s q ≡ true
      → (run_of (put b s p) s d q ≡ run_of (put b s p) s d p) ⊎ (run_of (put b s p) s d q ≡ run_of b s d q)
  run_after d q mine =
      let mine' = holds-put_more b s p q ok empty mine in
      elim (meets_or_misses (λ k. along d q k 0) p (stones_ahead (put b s p) s d q)) [
        | inl found ↦ inl (sym (run-same (put b s p) s d q p found.0 found.3 mine' found.2 found.1))
        | inr none ↦ elim (meets_or_misses (λ k. along d q 0 k) p (stones_behind (put b s p) s d q)) [
          | inl found ↦ inl (run_behind d q found.0 mine found.1 found.2 found.3)
          | inr nor ↦ inr (run_before d q mine none nor)
        ]
      ]

-- ---- the other side

other_side : (s t : Side) → (s ≡ t) ⊎ (is_stone_of t (stone_of s) ≡ false)
other_side s t = search rules

prefix_same : (f g : ℕ → Bool) (n a : ℕ) → ((k : ℕ) → f k ≡ g k) → prefix_len f (range_with_len a n) ≡ prefix_len g (range_with_len a n)
prefix_same f g n a h = prefix_len-same f g n a (λ k l. h k)

-- t is the side whose stone is not put: it has what it had
module _ (b : Grid) (s t : Side) (p : Point) (ok : IsBoard b) (empty : is_empty b p ≡ true)
    (differ : is_stone_of t (stone_of s) ≡ false) where
  pub holds-other : (q : Point) → holds (put b s p) t q ≡ holds b t q
  holds-other q = elim (same_or_apart p q) [
    | inl same ↦ subst (λ (r : Point). holds (put b s p) t r ≡ holds b t r) same (not_mine ∙ sym (empty_holds b t p empty))
    | inr apart ↦ holds-put_other b s t p q (is_empty-on b p empty) apart
  ] where
    not_mine : holds (put b s p) t p ≡ false
    not_mine = rw (is_empty-on b p empty, cell_at-put_same b s p ok (is_empty-on b p empty)) differ

  pub stone_at-other : (o : Option Point) → stone_at (put b s p) t o ≡ stone_at b t o
  stone_at-other o = search (rules, holds-other)

  pub ahead-other : (d : Axis) (q : Point) → stones_ahead (put b s p) t d q ≡ stones_ahead b t d q
  ahead-other d q = prefix_same _ _ (line_bound b) 1 (λ k. stone_at-other (along d q k 0))

  pub behind-other : (d : Axis) (q : Point) → stones_behind (put b s p) t d q ≡ stones_behind b t d q
  behind-other d q = prefix_same _ _ (line_bound b) 1 (λ k. stone_at-other (along d q 0 k))

  pub run-other : (d : Axis) (q : Point) → run_of (put b s p) t d q ≡ run_of b t d q
  run-other d q = rw (holds-other q, ahead-other d q, behind-other d q) refl

-- ---- the position

and_false : (a b : Bool) → a ≡ true → (a && b) ≡ false → b ≡ false
and_false a b e h = search rules

pub goes_on : (e f l : Bool) (o : Option Foul) → outcome_by e f o l ≡ GoesOn → (e ≡ true) × (f ≡ false) × (l ≡ false)
goes_on true false false None h = (refl, refl, refl)
goes_on true false true None h = cc
goes_on true true l None h = cc
goes_on false f l None h = cc
goes_on true false l (Some g) h = cc
goes_on true true l (Some g) h = cc
goes_on false f l (Some g) h = cc

module _ (rule : RuleKind) (b : Grid) (p : Point) (lawful : IsPosition rule b) (on : outcome rule b p ≡ GoesOn) where
  parts : (is_empty b p ≡ true) × (five rule b (mover b) p ≡ false) × (nat_eq (empties_of b) 1 ≡ false)
  unfolding outcome
  parts = goes_on (is_empty b p) (five rule b (mover b) p) (nat_eq (empties_of b) 1) (foul_of rule b (mover b) p) on

  -- the new stone is in no winning run
  new_run : (d : Axis) → row_wins rule (mover b) (run_of (put b (mover b) p) (mover b) d p) ≡ false
  new_run d = and_false (is_empty b p) _ parts.0 (no_axis (λ d. wins_on rule b (mover b) d p) parts.1 d)

  unwon_after : (t : Side) (d : Axis) (q : Point) → holds (put b (mover b) p) t q ≡ true
      → row_wins rule t (run_of (put b (mover b) p) t d q) ≡ false
  unwon_after t d q h = elim (other_side (mover b) t) [
    | inl same ↦ subst (λ (u : Side). row_wins rule u (run_of (put b (mover b) p) u d q) ≡ false) same
        (mine (subst (λ (u : Side). holds (put b (mover b) p) u q ≡ true) (sym same) h))
    | inr differ ↦ rw (run-other b (mover b) t p lawful.board parts.0 differ d q)
        (lawful.unwon.no_winning_run t d q (sym (holds-other b (mover b) t p lawful.board parts.0 differ q) ∙ h))
  ] where
    mine : holds (put b (mover b) p) (mover b) q ≡ true → row_wins rule (mover b) (run_of (put b (mover b) p) (mover b) d q) ≡ false
    mine k = elim (same_or_apart p q) [
      | inl here ↦ subst (λ (r : Point). row_wins rule (mover b) (run_of (put b (mover b) p) (mover b) d r) ≡ false) here (new_run d)
      | inr apart ↦
          let before : holds b (mover b) q ≡ true = sym (holds-put_other b (mover b) (mover b) p q (is_empty-on b p parts.0) apart) ∙ k in
          elim (run_after b (mover b) p lawful.board parts.0 d q before) [
            | inl run ↦ rw run (new_run d)
            | inr run ↦ rw run (lawful.unwon.no_winning_run (mover b) d q before)
          ]
    ]

-- ---- counts

pub stones_of-put : (b : Grid) (s t : Side) (p : Point) → IsBoard b → is_empty b p ≡ true
    → stones_of (put b s p) t ≡ stones_of b t + cond (is_stone_of t (stone_of s)) 1 0
stones_of-put b s t p ok empty = search (rules, is_empty-cell, and_right, sum_by-set, place_fits, is_empty-on)

pub IsBoard-put : (b : Grid) (s : Side) (p : Point) → IsBoard b → IsBoard (put b s p)
IsBoard-put b s p ok = search (rules, length-set)

-- who moves, by the counts
mover_by : (r : Bool) (x y : ℕ) → nat_eq x y ≡ r → (x ≡ y) ⊎ (x ≡ y + 1) → ((r ≡ true) × (x ≡ y)) ⊎ ((r ≡ false) × (x ≡ y + 1))
mover_by r x y h e = search rules

not_eq : (x y : ℕ) → x ≡ y + 1 → nat_eq x y ≡ false
not_eq x y e = grind (arith, nat_tests)

module _ (b : Grid) (p : Point) (ok : IsBoard b) (empty : is_empty b p ≡ true) (turns : NamesMover b) where
  turn : (side : Side) × (mover b ≡ side)
      × (((side ≡ Black) × (stones_of b Black ≡ stones_of b White)) ⊎ ((side ≡ White) × (stones_of b Black ≡ stones_of b White + 1)))
  turn = search (rules, mover_by)

  pub turns_after : NamesMover (after b p)
  turns_after = elim turn.2 [
    | inl h ↦
        let e : mover b ≡ Black = turn.1 ∙ h.0 in
        let black = stones_of-put b Black Black p ok empty in
        let white = stones_of-put b Black White p ok empty in
        let both = h.1 in
        rw e (inr (omega (arith, black, white, both)))
    | inr h ↦
        let e : mover b ≡ White = turn.1 ∙ h.0 in
        let black = stones_of-put b White Black p ok empty in
        let white = stones_of-put b White White p ok empty in
        let both = h.1 in
        rw e (inl (omega (arith, black, white, both)))
  ]

  -- the sides alternate
  pub mover-after : other (mover (after b p)) ≡ mover b
  mover-after = elim turn.2 [
    | inl h ↦
        let e : mover b ≡ Black = turn.1 ∙ h.0 in
        let black = stones_of-put b Black Black p ok empty in
        let white = stones_of-put b Black White p ok empty in
        let both = h.1 in
        let differ : nat_eq (stones_of (put b Black p) Black) (stones_of (put b Black p) White) ≡ false =
        not_eq _ _ (omega (arith, black, white, both)) in
        rw e (ap (λ r. other (cond r Black White)) differ)
    | inr h ↦
        let e : mover b ≡ White = turn.1 ∙ h.0 in
        let black = stones_of-put b White Black p ok empty in
        let white = stones_of-put b White White p ok empty in
        let both = h.1 in
        let same : stones_of (put b White p) Black ≡ stones_of (put b White p) White = omega (arith, black, white, both) in
        let equal : nat_eq (stones_of (put b White p) Black) (stones_of (put b White p) White) ≡ true = eq-eqb _ _ same in
        rw e (ap (λ r. other (cond r Black White)) equal)
  ]

-- ---- the law

-- a move that goes on leads from a lawful position to one
pub IsPosition-after : (rule : RuleKind) (b : Grid) (p : Point) → IsPosition rule b → outcome rule b p ≡ GoesOn
    → IsPosition rule (after b p)
IsPosition-after rule b p lawful on =
    let facts = parts rule b p lawful on in
    let fewer = empties_of-put b (mover b) p lawful.board facts.0 in
    let more : empties_of b ≢ 1 = λ e. let full : nat_eq (empties_of b) 1 ≡ true = rw e refl in let no : false ≡ true =
    sym facts.2 ∙ full in cc in
    let some = lawful.open_points in
    record {
      board = IsBoard-put b (mover b) p lawful.board;
      turns = turns_after b p lawful.board facts.0 lawful.turns;
      unwon = record { no_winning_run = unwon_after rule b p lawful on };
      open_points = omega (arith, fewer, more, some);
    }

-- what undoing it finds: the mover's stone, and the position before it
pub after-stone : (rule : RuleKind) (b : Grid) (p : Point) → IsPosition rule b → outcome rule b p ≡ GoesOn
    → holds (after b p) (other (mover (after b p))) p ≡ true
after-stone rule b p lawful on =
    let facts = parts rule b p lawful on in
    rw (mover-after b p lawful.board facts.0 lawful.turns) (holds-put_same b (mover b) p lawful.board (is_empty-on b p facts.0))

pub lift-after : (rule : RuleKind) (b : Grid) (p : Point) → IsPosition rule b → outcome rule b p ≡ GoesOn → lift (after b p) p ≡ b
lift-after rule b p lawful on = lift-put b (mover b) p (parts rule b p lawful on).0

-- a move that goes on is to an empty point
pub GoesOn-empty : (rule : RuleKind) (b : Grid) (p : Point) → outcome rule b p ≡ GoesOn → is_empty b p ≡ true
unfolding outcome
GoesOn-empty rule b p on = (goes_on (is_empty b p) (five rule b (mover b) p) (nat_eq (empties_of b) 1) (foul_of rule b (mover b) p) on).0

-- the side that moved is the one that is not to move
pub mover-other : (rule : RuleKind) (b : Grid) (p : Point) → IsPosition rule b → outcome rule b p ≡ GoesOn
    → other (mover (after b p)) ≡ mover b
mover-other rule b p lawful on = mover-after b p lawful.board (GoesOn-empty rule b p on) lawful.turns

-- the side to move after it
pub mover-then : (rule : RuleKind) (b : Grid) (p : Point) → IsPosition rule b → outcome rule b p ≡ GoesOn
    → mover (after b p) ≡ other (mover b)
mover-then rule b p lawful on = sym (other-other (mover (after b p))) ∙ ap other (mover-other rule b p lawful on)

pub GoesOn-on : (rule : RuleKind) (b : Grid) (p : Point) → outcome rule b p ≡ GoesOn → is_on b p ≡ true
GoesOn-on rule b p on = is_empty-on b p (GoesOn-empty rule b p on)

-- ---- taking a stone back

set_again : (l : List Cell) (i : ℕ) (x y : Cell) → get_or l i Empty ≡ y → set (set l i x) i y ≡ l
set_again [] i x y h = refl
set_again (z ∷ l) zero x y h = ap (λ w. w ∷ l) (sym h)
set_again (z ∷ l) (suc i) x y h = ap (λ w. z ∷ w) (set_again l i x y h)

stone_cell : (s : Side) (c : Cell) → is_stone_of s c ≡ true → c ≡ stone_of s
stone_cell s c h = search rules

-- a stone that is lifted and put again
pub put-lift : (b : Grid) (s : Side) (p : Point) → holds b s p ≡ true → put (lift b p) s p ≡ b
put-lift b s p h = search (rules, stone_cell, and_right, set_again)

pub lift-empty : (b : Grid) (p : Point) → IsBoard b → is_on b p ≡ true → is_empty (lift b p) p ≡ true
lift-empty b p ok on = search (rules, get_or-set_same, place_fits)

pub IsBoard-lift : (b : Grid) (p : Point) → IsBoard b → IsBoard (lift b p)
IsBoard-lift b p ok = search (rules, length-set)

-- a board has a point for each move
pub points-many : (rule : RuleKind) (b : Grid) → IsPosition rule b → (m : ℕ) → 1 ≤ b.width * b.height * suc m
points-many rule b lawful m = search rules
