-- One step of the walk: what a reply leaves, what all replies leave, and the greatest zone of a node.
use Rattle.std.proofs.Common.{◌≡◌, inl, inr, ℕ, ◌+◌, ◌-◌, ◌≤◌, ◌<◌, Bool, true, false, refl, sym, ap, subst, ◌∙◌, arith, List, [], ◌∷◌}
use Rattle.std.proofs.Common.{zero, suc, cond, length, map, get_or, nat_le, Option, Some, None, slice_get}
use Rattle.std.proofs.lemmas.Bool.{both_ways, cases_Bool, leb-true, leb-false, or_cases, or_left, or_right}
use Rattle.std.proofs.lemmas.Option.{same_Some}
use Rattle.zone_checker.proofs.Common.{Grid, IsBoard, along, is_on, is_empty, five, put, other, place_of, points_of, is_same_point}
use Rattle.zone_checker.proofs.Common.{RuleKind, Side, Axis, Row, Column, Down, Up, Point, Node, Rest, To, Answers, answers_of, answer}
use Rattle.zone_checker.proofs.Common.{listed_node, stones_in, is_clear_at, is_clear_of, Zone, Covers, IsWithstood, NodeHasZone, Withstands}
use Rattle.zone_checker.proofs.Common.{Mark, ANY, AreCovered, AreOpened, IsEntered, IsGreatest, LiesUnder, blank, harms, kept_back, mark_at}
use Rattle.zone_checker.proofs.Common.{room, spare_of, zone_of, AreReplied, IsReplied, SayMore}
use Rattle.game_rules.proofs.Boards.{and_left, is_empty-on}
use Rattle.game_rules.proofs.Lines.{along-zero}
use Rattle.game_rules.proofs.Places.{points_get}
use Rattle.game_rules.proofs.Rows.{all_in_range}
use Rattle.game_rules.proofs.Points.{is_same_point-itself, is_same_point-same}
use Rattle.zone_checker.specs.Marks.{HasFour}
use Rattle.zone_checker.proofs.Greatest.{more-none, more-then, more-covers, covered-old, covered-others, under-covered, under-back}
use Rattle.zone_checker.proofs.Greatest.{back-covers, harmless-zone, harm-under, bearing-few}

covers-then : (one two three : Zone) (k : ℕ) → Covers 0 one two → Covers k two three → Covers k one three
covers-then one two three k h g = record {
  points = λ p i. h.points p (g.points p i);
  windows = λ d p. let a = h.windows d p in let c = g.windows d p in omega (arith, a, c);
}

same_rest : (i j : ℕ) (r : Rest) → r ≡ To i → r ≡ To j → i ≡ j
same_rest i j r h k = cc

pub same_answer : (i j : ℕ) (o : Option ℕ) → o ≡ Some i → o ≡ Some j → i ≡ j
same_answer i j o h k = cc

pub get_or-from_get : (ps : List Point) (k : ℕ) (q : Point) → slice_get ps k ≡ Some q → (k < length ps) × ((d : Point) → get_or ps k d ≡ q)
get_or-from_get [] k q h = cc
get_or-from_get (p ∷ ps) zero q h = (omega arith, λ d. same_Some p q h)
get_or-from_get (p ∷ ps) (suc k) q h = let rest = get_or-from_get ps k q h in (let l = rest.0 in omega (arith, l), rest.1)

module _ (s : Side) (a : Answers) (Has : ℕ → Grid → Zone → Type 0) (b : Grid) where
  -- a zone that covers another withstands all replies as it does
  pub withstands-less : (y z : Zone) → Covers 0 z y → Withstands s a Has b y → Withstands s a Has b z
  withstands-less y z covers w = record {
    short = λ d p clear. let few = w.short d p clear in let less = covers.windows d p in omega (arith, few, less);
    rest = w.rest;
    named = w.named;
    zone = w.zone;
    passed = w.passed;
    covered = covers-then z y w.zone 1 covers w.covered;
    replies = λ q empty. elim (w.replies q empty) [ inl h ↦ inl h | inr h ↦ inr (h.0, h.1, h.2, h.3, covers-then z y h.1 0 covers h.4) ];
  }

  -- what withstands a reply does so where the marks say more
  pub withstood-more : (y : Zone) (q : Point) (old new : List Mark) (n : ℕ) → SayMore b old new
      → IsWithstood s a Has b (zone_of b old n) y q → IsWithstood s a Has b (zone_of b new n) y q
  withstood-more y q old new n more h = elim h [
    | inl k ↦ inl k
    | inr k ↦ inr (k.0, k.1, k.2, k.3, covers-then (zone_of b new n) (zone_of b old n) k.1 0 (more-covers b old new n more) k.4)
  ]

  module _ (passed : List Mark) (rest : ℕ) (named : a.rest ≡ To rest) (best : IsGreatest (Has rest b) b passed) (q : Point) where
    -- a point that is taken needs no answer
    pub reply-taken : (ms : List Mark) → is_empty b q ≡ false → IsReplied s a Has b passed q ms ms
    reply-taken ms taken =
        record { more = more-none b ms; withstood = λ n empty. absurd (both_ways _ taken empty); greatest = λ z w under. under }

    -- a reply that is not listed and does no harm is passed over
    pub reply-harmless : (ms : List Mark) → listed_node a.replies q ≡ None → harms b passed q ≡ false → IsReplied s a Has b passed q ms ms
    reply-harmless ms unlisted calm = record {
      more = more-none b ms;
      withstood = λ n empty. inl (unlisted, harmless-zone b passed q calm n);
      greatest = λ z w under. under;
    }

    module _ (j : ℕ) (given : answer a q ≡ Some j) (empty : is_empty b q ≡ true)
        (asked : listed_node a.replies q ≡ None → harms b passed q ≡ true) where
      -- each zone with which all replies are withstood has one behind this reply that it covers
      own_zone : (z : Zone) → Withstands s a Has b z → (x : Zone) × Has j (put b (other s) q) x × Covers 0 z x
      own_zone z w = elim (w.replies q empty) [
        | inl h ↦ absurd (harm-under b passed q (asked h.0) w.zone
            (best.greatest w.zone (subst (λ k. Has k b w.zone) (same_rest w.rest rest a.rest w.named named) w.passed)) h.1)
        | inr h ↦ (h.1, subst (λ k. Has k (put b (other s) q) h.1) (same_answer h.0 j (answer a q) h.2 given) h.3, h.4)
      ]

      -- where there is none, nothing is withstood
      pub reply-fails : ((x : Zone) → Has j (put b (other s) q) x → ⊥) → (z : Zone) → Withstands s a Has b z → ⊥
      reply-fails none z w = let own = own_zone z w in none own.0 own.1

      pub reply-walked : (found old new : List Mark) → IsGreatest (Has j (put b (other s) q)) (put b (other s) q) found
          → AreCovered old found new → length found ≡ length old → IsReplied s a Has b passed q old new
      reply-walked found old new greatest covered size = record {
        more = covered-old b old found new covered;
        withstood = λ n _. inr
            (j, zone_of b found n, given, greatest.zones n, more-covers b found new n (covered-others b old found new covered size));
        greatest = λ z w under.
            let own = own_zone z w in
            let below = greatest.greatest own.0 own.1 in
            let lies : LiesUnder b found z = record {
              points = λ p i. own.2.points p (below.points p i);
              windows = λ d p l. let few = below.windows d p l in let less = own.2.windows d p in omega (arith, few, less);
            } in
            under-covered b old found new covered z under lies;
      }

  -- ---- all replies

  room_limits : (d : Axis) (p : Point) (k : ℕ) → room b s d p ≡ Some k → k < ANY
      → (is_clear_of b s d p ≡ true) × (stones_in b (other s) d p + k ≡ 3)
  unfolding room
  room_limits d p k h l = by_tests (is_clear_of b s d p) (nat_le (stones_in b (other s) d p) 3) refl refl h where
    by_tests : (t u : Bool) → is_clear_of b s d p ≡ t → nat_le (stones_in b (other s) d p) 3 ≡ u
        → cond t (cond u (Some (3 - stones_in b (other s) d p)) None) (Some ANY) ≡ Some k
        → (is_clear_of b s d p ≡ true) × (stones_in b (other s) d p + k ≡ 3)
    by_tests false u e f h = let same : ANY ≡ k = cc in absurd (omega (arith, same, l))
    by_tests true false e f h = cc
    by_tests true true e f h =
        let same : 3 - stones_in b (other s) d p ≡ k = cc in
        let few = leb-true _ 3 f in
        (e, omega (arith, same, few))

  room_clear : (d : Axis) (p : Point) (k : ℕ) → room b s d p ≡ Some k → is_clear_of b s d p ≡ true → stones_in b (other s) d p + k ≡ 3
  unfolding room
  room_clear d p k h clear = by_test (nat_le (stones_in b (other s) d p) 3) refl
      (sym (ap (λ t. cond t (cond (nat_le (stones_in b (other s) d p) 3) (Some (3 - stones_in b (other s) d p)) None) (Some ANY)) clear)
      ∙ h) where
        by_test : (u : Bool) → nat_le (stones_in b (other s) d p) 3 ≡ u → cond u (Some (3 - stones_in b (other s) d p)) None ≡ Some k
            → stones_in b (other s) d p + k ≡ 3
        by_test false f h = cc
        by_test true f h = let same : 3 - stones_in b (other s) d p ≡ k = cc in let few = leb-true _ 3 f in omega (arith, same, few)

  -- a window without room shows that nothing is withstood
  pub four-fails : HasFour b s → (z : Zone) → Withstands s a Has b z → ⊥
  unfolding room
  four-fails h z w = by_tests (is_clear_of b s h.0 h.1) (nat_le (stones_in b (other s) h.0 h.1) 3) refl refl h.2 where
    by_tests : (t u : Bool) → is_clear_of b s h.0 h.1 ≡ t → nat_le (stones_in b (other s) h.0 h.1) 3 ≡ u
        → cond t (cond u (Some (3 - stones_in b (other s) h.0 h.1)) None) (Some ANY) ≡ None → ⊥
    by_tests false u e f k = cc
    by_tests true true e f k = cc
    by_tests true false e f k = let few = w.short h.0 h.1 e in let many = leb-false _ 3 f in omega (arith, few, many)

  clear-on : (d : Axis) (p : Point) → is_clear_of b s d p ≡ true → is_on b p ≡ true
  unfolding is_clear_of
  clear-on d p h =
      let first = all_in_range (λ k. is_clear_at b s (along d p k 0)) 5 0 0 h (omega arith) (omega arith) in
      and_left (is_on b p) _ (sym (ap (is_clear_at b s) (along-zero d p)) ∙ first)

  opened_outside : (ms : List Mark) → AreOpened b s ms → (p : Point) → (mark_at b ms p).inside ≡ false
  opened_outside ms opened p = by_test (is_on b p) refl where
    by_test : (t : Bool) → is_on b p ≡ t → (mark_at b ms p).inside ≡ false
    by_test true e = (opened.marks p e).outside
    by_test false e = ap (λ t. (cond t (get_or ms (place_of b p) blank) blank).inside) e

  off_any : (ms : List Mark) (d : Axis) (p : Point) → is_on b p ≡ false → spare_of d (mark_at b ms p) ≡ ANY
  off_any ms d p e = ap (λ t. spare_of d (cond t (get_or ms (place_of b p) blank) blank)) e ∙ spare_blank d where
    spare_blank : (d : Axis) → spare_of d blank ≡ ANY
    spare_blank Row = refl
    spare_blank Column = refl
    spare_blank Down = refl
    spare_blank Up = refl

  opened_lies : (ms : List Mark) (z : Zone) → AreOpened b s ms → Withstands s a Has b z → LiesUnder b ms z
  opened_lies ms z opened w = record {
    points = λ p i. absurd (both_ways _ (opened_outside ms opened p) i);
    windows = λ d p l. elim (cases_Bool (is_on b p)) [
      | inl on ↦
          let limits = room_limits d p _ ((opened.marks p on).rooms d) l in
          let few = w.short d p limits.0 in
          let room = limits.1 in
          omega (arith, few, room)
      | inr off ↦ let any = off_any ms d p off in absurd (omega (arith, any, l))
    ];
  }

  -- the marks that open, with those of the rest kept back, and then each reply: the greatest zone with which all are withstood
  pub replies-greatest : (passed opened first last : List Mark) (rest : ℕ) → IsBoard b → a.rest ≡ To rest → IsGreatest (Has rest b) b passed
      → AreOpened b s opened → AreCovered opened (map kept_back passed) first → length (map kept_back passed) ≡ length opened
      → AreReplied s a Has b passed (points_of b) first last → IsGreatest (Withstands s a Has b) b last
  replies-greatest passed opened first last rest ok named best open_marks covered size replied = record {
    size = replied.more.size ∙ covered.size ∙ open_marks.size;
    zones = λ n. record {
      short = λ d p clear.
          let on = clear-on d p clear in
          let room = room_clear d p _ ((open_marks.marks p on).rooms d) clear in
          let less = replied.more.spare d p in
          let least = (covered-old b opened (map kept_back passed) first covered).spare d p in
          let few = bearing-few n (spare_of d (mark_at b last p)) (omega (arith, room, less, least)) in
          omega (arith, room, less, least, few);
      rest = rest;
      named = named;
      zone = zone_of b passed (n + 1);
      passed = best.zones (n + 1);
      covered = back-covers b passed last n
          (more-then b (map kept_back passed) first last (covered-others b opened (map kept_back passed) first covered size) replied.more);
      replies = λ q empty.
          let place = place_of b q in
          let on = is_empty-on b q empty in
          let there = get_or-from_get (points_of b) place q (points_get b q on) in
          subst (λ p. IsWithstood s a Has b (zone_of b last n) (zone_of b passed (n + 1)) p)
          (there.1 q) (replied.withstood place n q there.0 (subst (λ p. is_empty b p ≡ true) (sym (there.1 q)) empty));
    };
    greatest = λ z w. replied.greatest z w
        (under-covered b opened (map kept_back passed) first covered z (opened_lies opened z open_marks w) (under-back b passed z w.zone
        (best.greatest w.zone (subst (λ k. Has k b w.zone) (same_rest w.rest rest a.rest w.named named) w.passed)) w.covered));
  }

-- ---- a node

module _ (rule : RuleKind) (s : Side) (Has : ℕ → Grid → Zone → Type 0) (n : Node) (b : Grid) (ms marks : List Mark)
    (entered : IsEntered b n.attack ms marks) (empty : is_empty b n.attack ≡ true) where
  entered_more : SayMore b ms marks
  entered_more = record {
    size = entered.size;
    inside = λ p i. entered.inside p ∙ or_right (is_same_point n.attack p) _ i;
    spare = λ d p. let same = entered.spare d p in omega (arith, same);
  }

  attack_inside : (mark_at b marks n.attack).inside ≡ true
  attack_inside = entered.inside n.attack ∙ or_left _ (mark_at b ms n.attack).inside (is_same_point-itself n.attack)

  -- the points of the marks are those before, and the attack
  inside_by : (z : Zone) → z.points n.attack ≡ true → ((p : Point) → (mark_at b ms p).inside ≡ true → z.points p ≡ true)
      → (p : Point) → (mark_at b marks p).inside ≡ true → z.points p ≡ true
  inside_by z attack others p i = elim (or_cases (is_same_point n.attack p) _ (sym (entered.inside p) ∙ i)) [
    | inl same ↦ ap z.points (sym (is_same_point-same n.attack p same)) ∙ attack
    | inr there ↦ others p there
  ]

  -- an attack that leaves replies
  pub node-greatest : five rule b s n.attack ≡ false → IsGreatest (Withstands s (answers_of n) Has (put b s n.attack)) (put b s n.attack) ms
      → length ms ≡ length b.cells → IsGreatest (NodeHasZone rule s (Some n) Has b) b marks
  node-greatest quiet best size = record {
    size = entered.size ∙ size;
    zones = λ k. (
      attack_inside,
      empty,
      inr (withstands-less s (answers_of n) Has (put b s n.attack) (zone_of b ms k) (zone_of b marks k)
          (more-covers b ms marks k entered_more) (best.zones k)),
    );
    greatest = λ z h. elim h.2 [
      | inl wins ↦ absurd (both_ways _ quiet wins)
      | inr w ↦
          let under = best.greatest z w in
          record {
            points = inside_by z h.0 under.points;
            windows = λ d p l.
                let same = entered.spare d p in
                subst (λ k. z.spare d p ≤ k) (sym same) (under.windows d p (subst (λ k. k < ANY) same l));
          }
    ];
  }

  -- an attack that makes a five: the marks before say nothing
  pub five-greatest : five rule b s n.attack ≡ true → ((p : Point) → mark_at b ms p ≡ blank) → length ms ≡ length b.cells
      → IsGreatest (NodeHasZone rule s (Some n) Has b) b marks
  five-greatest wins blanks size = record {
    size = entered.size ∙ size;
    zones = λ k. (attack_inside, empty, inl wins);
    greatest = λ z h. record {
      points = inside_by z h.0 (λ p i. absurd (both_ways _ (ap (λ (m : Mark). m.inside) (blanks p)) i));
      windows = λ d p l. let any = entered.spare d p ∙ ap (spare_of d) (blanks p) ∙ spare_blank d in absurd (omega (arith, any, l));
    };
  } where
    spare_blank : (d : Axis) → spare_of d blank ≡ ANY
    spare_blank Row = refl
    spare_blank Column = refl
    spare_blank Down = refl
    spare_blank Up = refl
