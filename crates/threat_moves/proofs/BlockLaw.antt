-- In the game of continuous fours only the block of a four needs an answer of its own.
use Rattle.std.proofs.Common.{◌≡◌, inl, inr, ℕ, zero, suc, Bool, true, false, cond, ◌&&◌, refl, sym, ap, subst, ◌∙◌, List, [], ◌∷◌}
use Rattle.std.specs.List.{list_all}
use Rattle.game_rules.proofs.Common.{Grid, is_on, points_of, five, IsPosition, outcome, mover, other, after, has_five, five_points, wins_or}
use Rattle.game_rules.proofs.Common.{loses_or, wins_under, wins_by_fours}
use Rattle.game_rules.specs.declared.RuleKind.{RuleKind}
use Rattle.game_rules.specs.declared.Outcome.{Outcome}
use Rattle.game_rules.specs.declared.Outcome.TheVariants.{Refused, Wins, Fouls, Draws, GoesOn}
use Rattle.game_rules.specs.declared.Point.{Point}
use Rattle.game_rules.proofs.Boards.{and_left, and_right, is_empty-on, Apart, same_or_apart}
use Rattle.game_rules.proofs.Points.{points-found, any_witness, all_of, all_at, filter-passes, filter-none}
use Rattle.game_rules.proofs.Fives.{five-empty, five-other}
use Rattle.game_rules.proofs.Places.{two_passing-apart}
use Rattle.game_rules.proofs.Positions.{IsPosition-after, GoesOn-empty, mover-after, mover-then}
use Rattle.game_rules.proofs.Outcomes.{five-outcome, outcome-five, refused-taken, loses_or-by, no_other_empty}
use Rattle.game_rules.proofs.Games.{none_in_zero, five-wins}
use Rattle.threat_moves.specs.declared.block.BlockAnswer.TheVariants.{Lost}
use Rattle.threat_moves.proofs.Common.{by_block, by_fives, fate, block_wins, BlockDecides, LeavesFive, OthersLeaveFive}
use Rattle.threat_moves.proofs.FourLaws.{four-goes_on, four-five}

-- ---- a five point wins by fours

-- ---- after a four: c, where the defender is to move

module _ (rule : RuleKind) (c : Grid) (lawful : IsPosition rule c) where
  -- a five point of the attacker that is not taken stays
  five-stays : (q w : Point) → outcome rule c q ≡ GoesOn → five rule c (other (mover c)) w ≡ true → Apart q w
      → has_five rule (after c q) (mover (after c q)) ≡ true
  five-stays q w on h apart =
      let still : five rule (after c q) (other (mover c)) w ≡ true =
      five-other c (mover c) q lawful.board (GoesOn-empty rule c q on) rule w apart ∙ h in
      rw (mover-then rule c q lawful on)
      (points-found (after c q) (five rule (after c q) (other (mover c))) w (is_empty-on c w (five-empty rule c (other (mover c)) w h))
      still)

  -- where the side to move has no five point, no move wins
  pub no-reply-wins : has_five rule c (mover c) ≡ false → (q : Point) → outcome rule c q ≡ Wins → ⊥
  no-reply-wins none q wins =
      let h : five rule c (mover c) q ≡ true = outcome-five rule c q wins in
      let some = points-found c (five rule c (mover c)) q (is_empty-on c q (five-empty rule c (mover c) q h)) h in
      let no : false ≡ true = sym none ∙ some in cc

  lost : ℕ → Point → Bool
  lost n q = loses_or (outcome rule c q) (wins_by_fours rule n (after c q))

  -- a reply beside a five point of the attacker loses
  beside-lost : (n : ℕ) → has_five rule c (mover c) ≡ false → (w : Point) → five rule c (other (mover c)) w ≡ true → (q : Point) → Apart q w
      → lost (suc n) q ≡ true
  unfolding lost
  beside-lost n none w h q apart = loses_or-by (outcome rule c q) _
      (no-reply-wins none q)
      (λ draws. no_other_empty rule c q draws lawful w (five-empty rule c (other (mover c)) w h) apart)
      (λ on. five-wins rule (after c q) n (five-stays q w on h apart))

  -- where the attacker has two five points, each reply loses
  two-lost : (n : ℕ) → has_five rule c (mover c) ≡ false → (w v : Point) → five rule c (other (mover c)) w ≡ true
      → five rule c (other (mover c)) v ≡ true → Apart w v → (q : Point) → lost (suc n) q ≡ true
  two-lost n none w v hw hv apart q = elim (same_or_apart q w) [
    | inl same ↦ beside-lost n none v hv q (subst (λ (r : Point). Apart r v) (sym same) apart)
    | inr else ↦ beside-lost n none w hw q else
  ]

  -- one reply that does not lose is enough
  not-all : (n : ℕ) (q : Point) → is_on c q ≡ true → lost n q ≡ false → list_all (lost n) (points_of c) ≡ false
  not-all n q on wins = by_test (list_all (lost n) (points_of c)) refl where
    by_test : (r : Bool) → list_all (lost n) (points_of c) ≡ r → r ≡ false
    by_test false e = refl
    by_test true e = let yes = all_at c (lost n) q e on in let bad : false ≡ true = sym wins ∙ yes in cc

  module _ (none : has_five rule c (mover c) ≡ false) (w : Point) (h : five rule c (other (mover c)) w ≡ true) where
    w_on : is_on c w ≡ true
    w_on = is_empty-on c w (five-empty rule c (other (mover c)) w h)

    lost-block : (n : ℕ) (o : Outcome) → outcome rule c w ≡ o → lost n w ≡ loses_or o (wins_by_fours rule n (after c w))
    unfolding lost
    lost-block n o e = ap (λ o. loses_or o (wins_by_fours rule n (after c w))) e

    -- where the block loses, all replies do
    block-lost : (n : ℕ) → lost (suc n) w ≡ true → list_all (lost (suc n)) (points_of c) ≡ true
    block-lost n here = all_of (lost (suc n)) (points_of c) (λ q. elim (same_or_apart q w) [
      | inl same ↦ subst (λ (r : Point). lost (suc n) r ≡ true) (sym same) here
      | inr apart ↦ beside-lost n none w h q apart
    ])

    -- the one block decides
    one-block : (n : ℕ) (o : Outcome) → outcome rule c w ≡ o → list_all (lost n) (points_of c) ≡ block_wins rule n c (by_block w o)
    unfolding lost wins_under
    one-block n Refused e = let no : false ≡ true = sym (refused-taken rule c w e) ∙ five-empty rule c (other (mover c)) w h in cc
    one-block n Wins e = absurd (no-reply-wins none w e)
    one-block n Draws e = not-all n w w_on (lost-block n Draws e)
    one-block zero (Fouls f) e = refl
    one-block (suc n) (Fouls f) e = block-lost n (lost-block (suc n) (Fouls f) e)
    one-block zero GoesOn e = not-all zero w w_on (lost-block zero GoesOn e ∙ none_in_zero rule (after c w))
        ∙ sym (none_in_zero rule (after c w))
    one-block (suc n) GoesOn e = by_test (wins_by_fours rule (suc n) (after c w)) refl where
      by_test : (r : Bool) → wins_by_fours rule (suc n) (after c w) ≡ r → list_all (lost (suc n)) (points_of c) ≡ r
      by_test true k = block-lost n (lost-block (suc n) GoesOn e ∙ k)
      by_test false k = not-all (suc n) w w_on (lost-block (suc n) GoesOn e ∙ k)

  -- a reply that wins
  lost-reply : (n : ℕ) → has_five rule c (mover c) ≡ true → list_all (lost n) (points_of c) ≡ false
  unfolding lost
  lost-reply n some =
      let found = any_witness (five rule c (mover c)) (points_of c) some in
      not-all n found.0 (is_empty-on c found.0 (five-empty rule c (mover c) found.0 found.1))
      (ap (λ o. loses_or o (wins_by_fours rule n (after c found.0))) (five-outcome rule c found.0 found.1))

  -- ---- the fate decides

  passes : (xs : List Point) → five_points rule c (other (mover c)) ≡ xs → list_all (five rule c (other (mover c))) xs ≡ true
  passes xs e = subst (λ ys. list_all (five rule c (other (mover c))) ys ≡ true) e
      (filter-passes (five rule c (other (mover c))) (points_of c))

  by_points : (n : ℕ) (xs : List Point) → has_five rule c (mover c) ≡ false → has_five rule c (other (mover c)) ≡ true
      → five_points rule c (other (mover c)) ≡ xs → list_all (lost n) (points_of c) ≡ block_wins rule n c (by_fives rule c xs)
  unfolding lost wins_under
  by_points n [] none some e =
      let no : false ≡ true = sym (filter-none (five rule c (other (mover c))) (points_of c) e) ∙ some in cc
  by_points n (w ∷ []) none some e = one-block none w (and_left _ _ (passes (w ∷ []) e)) n (outcome rule c w) refl
  by_points zero (w ∷ v ∷ more) none some e = refl
  by_points (suc n) (w ∷ v ∷ more) none some e =
      let both = passes (w ∷ v ∷ more) e in
      all_of (lost (suc n)) (points_of c)
      (two-lost n none w v (and_left (five rule c (other (mover c)) w) _ both)
      (and_left (five rule c (other (mover c)) v) _ (and_right (five rule c (other (mover c)) w) _ both))
      (two_passing-apart c (five rule c (other (mover c))) w v more e))

  by_fate : (n : ℕ) (r : Bool) → has_five rule c (mover c) ≡ r → has_five rule c (other (mover c)) ≡ true
      → list_all (lost n) (points_of c) ≡ block_wins rule n c (cond r Lost (by_fives rule c (five_points rule c (other (mover c)))))
  by_fate n true e some = lost-reply n e
  by_fate n false e some = by_points n (five_points rule c (other (mover c))) e some refl

  pub fate-decides : (n : ℕ) → has_five rule c (other (mover c)) ≡ true
      → list_all (λ q. loses_or (outcome rule c q) (wins_by_fours rule n (after c q))) (points_of c) ≡ block_wins rule n c (fate rule c)
  unfolding fate lost
  fate-decides n some = by_fate n (has_five rule c (mover c)) refl some

-- ---- the laws

pub block_decides : BlockDecides
block_decides rule n b p lawful four =
    let on : outcome rule b p ≡ GoesOn = four-goes_on rule b p four in
    let some : has_five rule (after b p) (mover b) ≡ true = four-five rule b p four in
    let turn = mover-after b p lawful.board (GoesOn-empty rule b p on) lawful.turns in
    let all = fate-decides rule (after b p) (IsPosition-after rule b p lawful on) n (ap (has_five rule (after b p)) turn ∙ some) in
    ap (λ o. wins_or o (has_five rule (after b p) (mover b) && list_all
    (λ q. loses_or (outcome rule (after b p) q) (wins_by_fours rule n (after (after b p) q))) (points_of b))) on
    ∙ ap (λ r. r && list_all (λ q. loses_or (outcome rule (after b p) q) (wins_by_fours rule n (after (after b p) q))) (points_of b)) some
    ∙ all

module _ (rule : RuleKind) (c : Grid) (lawful : IsPosition rule c) (q : Point) (on : outcome rule c q ≡ GoesOn) where
  leaves_by_block : (w : Point) → five rule c (other (mover c)) w ≡ true → (o : Outcome) → outcome rule c w ≡ o
      → LeavesFive rule c q (by_block w o)
  leaves_by_block w h Refused e = tt
  leaves_by_block w h Wins e = tt
  leaves_by_block w h (Fouls f) e = elim (same_or_apart q w) [
    | inl same ↦ let both : Fouls f ≡ GoesOn = sym e ∙ ap (outcome rule c) (sym same) ∙ on in cc
    | inr apart ↦ five-stays rule c lawful q w on h apart
  ]
  leaves_by_block w h Draws e = tt
  leaves_by_block w h GoesOn e = λ differ. elim (same_or_apart q w) [
    | inl same ↦ absurd (differ same)
    | inr apart ↦ five-stays rule c lawful q w on h apart
  ]

  leaves_by_points : (xs : List Point) → five_points rule c (other (mover c)) ≡ xs → LeavesFive rule c q (by_fives rule c xs)
  leaves_by_points [] e = tt
  leaves_by_points (w ∷ []) e = leaves_by_block w (and_left _ _ (passes rule c lawful (w ∷ []) e)) (outcome rule c w) refl
  leaves_by_points (w ∷ v ∷ more) e =
      let both = passes rule c lawful (w ∷ v ∷ more) e in
      let h : five rule c (other (mover c)) w ≡ true = and_left (five rule c (other (mover c)) w) _ both in
      let k : five rule c (other (mover c)) v ≡ true = and_left (five rule c (other (mover c)) v) _
      (and_right (five rule c (other (mover c)) w) _ both) in
      elim (same_or_apart q w) [
        | inl same ↦ five-stays rule c lawful q v on k
            (subst (λ (r : Point). Apart r v) (sym same) (two_passing-apart c (five rule c (other (mover c))) w v more e))
        | inr apart ↦ five-stays rule c lawful q w on h apart
      ]

  leaves_by_fate : (r : Bool) → LeavesFive rule c q (cond r Lost (by_fives rule c (five_points rule c (other (mover c)))))
  leaves_by_fate true = tt
  leaves_by_fate false = leaves_by_points (five_points rule c (other (mover c))) refl

  pub leaves-five : LeavesFive rule c q (fate rule c)
  unfolding fate
  leaves-five = leaves_by_fate (has_five rule c (mover c))

pub others_leave_five : OthersLeaveFive
others_leave_five rule b p q lawful four on = leaves-five rule (after b p) (IsPosition-after rule b p lawful (four-goes_on rule b p four)) q
    on
