-- Further stones of the defender that a zone bears, before and after a move; and that they make no five.
use Rattle.std.proofs.Common.{◌≡◌, inl, inr, ℕ, ◌+◌, ◌≤◌, ◌<◌, true, false, cond, ◌&&◌, not, sym, ap, subst, ◌∙◌, arith, Option, Some, None}
use Rattle.std.proofs.Common.{rules}
use Rattle.std.proofs.lemmas.Bool.{both_ways, cases_Bool, false_from_ne_true}
use Rattle.relevance_zone.proofs.Common.{Grid, IsBoard, is_empty, put, other, RuleKind, Side, Point, stones_in, is_clear_at, is_clear_of}
use Rattle.relevance_zone.proofs.Common.{is_in_window, Zone, Bears, Covers, IsHarmless}
use Rattle.game_rules.proofs.Common.{is_on, holds, cell_at, along, stone_at, run_of, stones_ahead, stones_behind, line_bound, wins_on, five}
use Rattle.game_rules.specs.declared.Axis.{Axis}
use Rattle.game_rules.proofs.Axes.{some_axis}
use Rattle.game_rules.proofs.Boards.{and_left, and_right, is_empty-on, is_empty-put, same_or_apart, empty_holds, stone_kept, stone_of-other}
use Rattle.game_rules.proofs.Boards.{holds-put_other, holds-put_same}
use Rattle.game_rules.proofs.Cells.{on-like, taken_by, not_both_stones}
use Rattle.game_rules.proofs.Fives.{same_fives}
use Rattle.game_rules.proofs.OneLine.{empty-before, holds-put_others, wins_alike}
use Rattle.game_rules.proofs.Positions.{IsBoard-put, holds-other}
use Rattle.game_rules.proofs.Rows.{all_range}
use Rattle.game_rules.proofs.Wins.{row_wins-five}
use Rattle.relevance_zone.proofs.Counts.{count_all, visits-once, visits-never, stones_in-put, stones_in-other, filled}

-- a board has no further stones
pub bears_itself : (s : Side) (z : Zone) (b : Grid) → IsBoard b → Bears s z b b
bears_itself s z b ok = search rules

module _ (s : Side) (z : Zone) (b c : Grid) (bears : Bears s z b c) where
  on_before : (p : Point) → is_on c p ≡ true → is_on b p ≡ true
  on_before p on = search (rules, on-like)

  -- what is empty was empty
  pub was_empty : (p : Point) → is_empty c p ≡ true → is_empty b p ≡ true
  was_empty p empty = search (rules, on_before, is_empty-on, taken_by, both_ways, empty_holds)

  -- the attacker has the same five points, where they are empty on both
  pub five_same : (rule : RuleKind) (a : Point) → is_empty b a ≡ true → is_empty c a ≡ true → five rule c s a ≡ five rule b s a
  five_same rule a free empty =
      let bound : line_bound c ≡ line_bound b = ap (λ n. n + c.height) bears.wide ∙ ap (λ n. b.width + n) bears.high in
      same_fives rule b c s a (λ d. wins_alike c b s d a (λ p line. bears.attackers p) bound rule bears.later bears.before
      (empty ∙ sym free))

  -- after an attack
  pub bears_attack : (a : Point) → is_empty b a ≡ true → is_empty c a ≡ true → Bears s z (put b s a) (put c s a)
  bears_attack a free empty = record {
    before = IsBoard-put b s a bears.before;
    later = IsBoard-put c s a bears.later;
    wide = bears.wide;
    high = bears.high;
    attackers = λ p. elim (same_or_apart a p) [
      | inl same ↦ subst (λ (v : Point). holds (put c s a) s v ≡ holds (put b s a) s v) same
          (holds-put_same c s a bears.later on_c ∙ sym (holds-put_same b s a bears.before on_b))
      | inr apart ↦ holds-put_other c s s a p on_c apart ∙ bears.attackers p ∙ sym (holds-put_other b s s a p on_b apart)
    ];
    defenders = λ p h. holds-other c s (other s) a bears.later empty (stone_of-other s) p
        ∙ bears.defenders p (sym (holds-other b s (other s) a bears.before free (stone_of-other s) p) ∙ h);
    points = λ p in_zone bare.
        let before = empty-before b s a p bears.before on_b bare in
        is_empty-put c s a p on_c before.0 ∙ bears.points p in_zone before.1;
    windows = λ d p.
        let now = stones_in-other c s a bears.later empty d p in
        let then = stones_in-other b s a bears.before free d p in
        let few = bears.windows d p in
        omega (arith, now, then, few);
  } where
    on_b : is_on b a ≡ true
    on_b = is_empty-on b a free

    on_c : is_on c a ≡ true
    on_c = is_empty-on c a empty

  module _ (q : Point) (empty : is_empty c q ≡ true) where
    on_c : is_on c q ≡ true
    on_c = is_empty-on c q empty

    free : is_empty b q ≡ true
    free = was_empty q empty

    on_b : is_on b q ≡ true
    on_b = is_empty-on b q free

    -- after a reply on both boards, with a zone that is covered
    pub bears_reply : (x : Zone) → Covers 0 z x → Bears s x (put b (other s) q) (put c (other s) q)
    bears_reply x covers = record {
      before = IsBoard-put b (other s) q bears.before;
      later = IsBoard-put c (other s) q bears.later;
      wide = bears.wide;
      high = bears.high;
      attackers = λ p. holds-put_others c s q p bears.later empty ∙ bears.attackers p ∙ sym (holds-put_others b s q p bears.before free);
      defenders = λ p h. elim (same_or_apart q p) [
        | inl same ↦ subst (λ (v : Point). holds (put c (other s) q) (other s) v ≡ true) same
            (holds-put_same c (other s) q bears.later on_c)
        | inr apart ↦ holds-put_other c (other s) (other s) q p on_c apart
            ∙ bears.defenders p (sym (holds-put_other b (other s) (other s) q p on_b apart) ∙ h)
      ];
      points = λ p in_zone bare.
          let before = empty-before b (other s) q p bears.before on_b bare in
          is_empty-put c (other s) q p on_c before.0 ∙ bears.points p (covers.points p in_zone) before.1;
      windows = λ d p.
          let now = stones_in-put c (other s) q bears.later empty d p in
          let then = stones_in-put b (other s) q bears.before free d p in
          let few = bears.windows d p in
          let less = covers.windows d p in
          omega (arith, now, then, few, less);
    }

    -- after a reply that was passed over, and does no harm
    pub bears_harmless : (y : Zone) → Covers 1 z y → IsHarmless y q → Bears s y b (put c (other s) q)
    bears_harmless y covers harmless = record {
      before = bears.before;
      later = IsBoard-put c (other s) q bears.later;
      wide = bears.wide;
      high = bears.high;
      attackers = λ p. holds-put_others c s q p bears.later empty ∙ bears.attackers p;
      defenders = λ p h. stone_kept c (other s) (other s) p q (bears.defenders p h) empty;
      points = λ p in_zone bare. elim (same_or_apart q p) [
        | inl same ↦ absurd (both_ways _ harmless.point (ap y.points same ∙ in_zone))
        | inr apart ↦ is_empty-put c (other s) q p on_c apart ∙ bears.points p (covers.points p in_zone) bare
      ];
      windows = λ d p.
          let now = stones_in-put c (other s) q bears.later empty d p in
          let few = bears.windows d p in
          let less = covers.windows d p in
          elim (cases_Bool (is_in_window q d p)) [
            | inl inside ↦
                let some = harmless.windows d p inside in
                let once = visits-once q d p in
                omega (arith, now, few, less, some, once)
            | inr outside ↦ let never = visits-never q d p outside in omega (arith, now, few, less, never)
          ];
    }

  module _ (rule : RuleKind) (short : (d : Axis) (p : Point) → is_clear_of b s d p ≡ true → stones_in b (other s) d p + z.spare d p ≤ 3)
      (q : Point) where
    module _ (d : Axis) (wins : wins_on rule c (other s) d q ≡ true) where
      open_q : is_empty c q ≡ true
      open_q = and_left (is_empty c q) _ wins

      mine : holds (put c (other s) q) (other s) q ≡ true
      mine = holds-put_same c (other s) q bears.later (is_empty-on c q open_q)

      long : 5 ≤ 1 + stones_ahead (put c (other s) q) (other s) d q + stones_behind (put c (other s) q) (other s) d q
      long =
          let run = row_wins-five rule (other s) (run_of (put c (other s) q) (other s) d q) (and_right (is_empty c q) _ wins) in
          let through : run_of (put c (other s) q) (other s) d q
          ≡ 1 + stones_ahead (put c (other s) q) (other s) d q + stones_behind (put c (other s) q) (other s) d q =
          ap (λ r. cond r (1 + stones_ahead (put c (other s) q) (other s) d q + stones_behind (put c (other s) q) (other s) d q) 0) mine in
          omega (arith, run, through)

      window : (p : Point) × ((k : ℕ) → k < 5 → stone_at (put c (other s) q) (other s) (along d p k 0) ≡ true)
      window = filled (put c (other s) q) (other s) d q mine long

      clear_at : (o : Option Point) → stone_at (put c (other s) q) (other s) o ≡ true → is_clear_at b s o ≡ true
      clear_at None h = cc
      clear_at (Some r) h =
          let none : holds c s r ≡ false = false_from_ne_true _ (λ own. not_both_stones s (cell_at (put c (other s) q) r)
          (and_right (is_on c r) _ (holds-put_others c s q r bears.later open_q ∙ own)) (and_right (is_on c r) _ h)) in
          ap (λ v. v && not (holds b s r)) (on_before r (and_left (is_on c r) _ h)) ∙ ap not (sym (bears.attackers r) ∙ none)

      clear : is_clear_of b s d window.0 ≡ true
      unfolding is_clear_of
      clear = all_range (λ k. is_clear_at b s (along d window.0 k 0)) 5 0 (λ k low high. clear_at (along d window.0 k 0) (window.1 k high))

      five_in : stones_in (put c (other s) q) (other s) d window.0 ≡ 5
      unfolding stones_in
      five_in = count_all (λ k. stone_at (put c (other s) q) (other s) (along d window.0 k 0)) 5 0 (λ k low high. window.1 k high)

      too_many : ⊥
      too_many =
          let five_there = five_in in
          let one_more = stones_in-put c (other s) q bears.later open_q d window.0 in
          let once = visits-once q d window.0 in
          let few = bears.windows d window.0 in
          let three = short d window.0 clear in
          omega (arith, five_there, one_more, once, few, three)

    -- where the defender is two stones or more short of five in each window, it has no five point
    pub no_five : five rule c (other s) q ≡ false
    no_five = false_from_ne_true _ (λ h. let some = some_axis (λ d. wins_on rule c (other s) d q) h in too_many some.0 some.1)
