-- What becomes of a four with one block.
use Rattle.std.proofs.Common.{◌≡◌, Bool, true, false, cond, refl, ap, List, [], ◌∷◌, ◌∙◌, sym}
use Rattle.game_rules.proofs.Common.{Grid, IsBoard, is_empty, outcome, mover, other, after, has_fouls, IsPosition, has_five, five_points}
use Rattle.game_rules.proofs.Common.{loses_or}
use Rattle.game_rules.specs.declared.RuleKind.{RuleKind}
use Rattle.game_rules.specs.declared.Outcome.{Outcome}
use Rattle.game_rules.specs.declared.Outcome.TheVariants.{Refused, GoesOn}
use Rattle.game_rules.specs.declared.Point.{Point}
use Rattle.game_rules.proofs.Boards.{is_empty-on}
use Rattle.game_rules.proofs.Points.{all_at}
use Rattle.game_rules.proofs.Outcomes.{reply-stays}
use Rattle.game_rules.proofs.Positions.{IsPosition-after}
use Rattle.row_shapes.specs.declared.fives.FivePoints.TheVariants.{One}
use Rattle.row_shapes.specs.FivePoints.{in_short}
use Rattle.row_shapes.proofs.FiveLaws.{has_five-none, one-taken}
use Rattle.threat_moves.specs.declared.block.BlockAnswer.TheVariants.{Lost, One as OneBlock, Won}
use Rattle.threat_moves.proofs.Common.{by_block, by_fives, fate, all_foul, is_four_move}
use Rattle.threat_moves.proofs.FourLaws.{four-goes_on, one-goes_on}

-- ---- what becomes of a four at c, where the defender is to move

module _ (rule : RuleKind) (c : Grid) where
  one-block : (w : Point) (xs : List Point) → by_fives rule c xs ≡ OneBlock w → xs ≡ w ∷ []
  one-block w [] h = cc
  one-block w (v ∷ []) h = by_outcome (outcome rule c v) h where
    by_outcome : (o : Outcome) → by_block v o ≡ OneBlock w → v ∷ [] ≡ w ∷ []
    by_outcome GoesOn k = let same : v ≡ w = cc in ap (λ (u : Point). u ∷ []) same
    by_outcome _ k = cc
  one-block w (v ∷ u ∷ more) h = cc

  -- a four with one block: the defender has no five point, and the attacker has the block alone
  pub block-alone : (w : Point) → fate rule c ≡ OneBlock w
      → (has_five rule c (mover c) ≡ false) × (five_points rule c (other (mover c)) ≡ w ∷ [])
  unfolding fate
  block-alone w h = by_test (has_five rule c (mover c)) h where
    by_test : (r : Bool) → cond r Lost (by_fives rule c (five_points rule c (other (mover c)))) ≡ OneBlock w
        → (r ≡ false) × (five_points rule c (other (mover c)) ≡ w ∷ [])
    by_test true k = cc
    by_test false k = (refl, one-block w (five_points rule c (other (mover c))) k)

  -- once the block is taken, the attacker has no five point
  pub blocked : (w : Point) → IsBoard c → is_empty c w ≡ true → in_short (five_points rule c (other (mover c))) ≡ One w
      → has_five rule (after c w) (other (mover c)) ≡ false
  blocked w ok empty h = has_five-none rule (after c w) (other (mover c)) (one-taken rule c (mover c) w ok empty w h refl)

pub one-points : (rule : RuleKind) (c : Grid) (w : Point) → OneBlock w ≡ fate rule c → five_points rule c (other (mover c)) ≡ w ∷ []
unfolding fate
one-points rule c w h = by_fate (has_five rule c (mover c)) h where
  by_block_one : (v : Point) (o : Outcome) → OneBlock w ≡ by_block v o → v ≡ w
  by_block_one v Refused h = cc
  by_block_one v _ h = cc

  by_points : (xs : List Point) → OneBlock w ≡ by_fives rule c xs → xs ≡ w ∷ []
  by_points [] h = cc
  by_points (v ∷ []) h = ap (λ (x : Point). x ∷ []) (by_block_one v (outcome rule c v) h)
  by_points (v ∷ u ∷ more) h = cc

  by_fate : (r : Bool) → OneBlock w ≡ cond r Lost (by_fives rule c (five_points rule c (other (mover c))))
      → five_points rule c (other (mover c)) ≡ w ∷ []
  by_fate true h = cc
  by_fate false h = by_points (five_points rule c (other (mover c))) h

-- a four that has won by its one block: the block does not go on
pub won-foul : (rule : RuleKind) (c : Grid) (w : Point) → Won ≡ fate rule c → five_points rule c (other (mover c)) ≡ w ∷ []
    → outcome rule c w ≡ GoesOn → ⊥
unfolding fate
won-foul rule c w h e on = by_fate (has_five rule c (mover c)) h where
  by_points : Won ≡ by_fives rule c (five_points rule c (other (mover c))) → ⊥
  by_points h =
      let k : Won ≡ by_block w (outcome rule c w) = h ∙ ap (by_fives rule c) e in
      let l : Won ≡ OneBlock w = k ∙ ap (by_block w) on in cc

  by_fate : (r : Bool) → Won ≡ cond r Lost (by_fives rule c (five_points rule c (other (mover c)))) → ⊥
  by_fate true h = cc
  by_fate false h = by_points h

pub won-some : (rule : RuleKind) (c : Grid) → Won ≡ fate rule c → five_points rule c (other (mover c)) ≡ [] → ⊥
unfolding fate
won-some rule c h e = by_fate (has_five rule c (mover c)) h where
  by_fate : (r : Bool) → Won ≡ cond r Lost (by_fives rule c (five_points rule c (other (mover c)))) → ⊥
  by_fate true h = cc
  by_fate false h = let k : Won ≡ Lost = h ∙ ap (by_fives rule c) e in cc

pub not_all-foul : (rule : RuleKind) (c : Grid) (w : Point) → is_empty c w ≡ true → has_fouls rule (mover c) ≡ false
    → all_foul rule c ≡ false
not_all-foul rule c w empty h = by_test (all_foul rule c) refl where
  by_test : (r : Bool) → all_foul rule c ≡ r → r ≡ false
  by_test false e = refl
  by_test true e =
      let yes = all_at c (λ q. loses_or (outcome rule c q) false) w e (is_empty-on c w empty) in
      let bad : false ≡ true = sym (reply-stays rule c w empty h) ∙ yes in cc

module _ (rule : RuleKind) (b : Grid) (p : Point) (lawful : IsPosition rule b) (four : is_four_move rule b p ≡ true) where
  lawful-four : IsPosition rule (after b p)
  lawful-four = IsPosition-after rule b p lawful (four-goes_on rule b p four)

  pub lawful-one : (w : Point) → OneBlock w ≡ fate rule (after b p) → IsPosition rule (after (after b p) w)
  lawful-one w e = IsPosition-after rule (after b p) w lawful-four (one-goes_on rule (after b p) w e)
