-- What an outcome says of the move that has it.
use Rattle.std.proofs.Common.{◌≡◌, ℕ, ◌≤◌, Bool, true, false, cond, nat_eq, refl, ap, ◌∙◌, arith, not, ◌&&◌, ◌||◌, List, [], ◌∷◌, ◌≢◌}
use Rattle.std.proofs.Common.{subst, ◌⊎◌, rules, Option, None, is_some, is_none}
use Rattle.std.proofs.lemmas.Bool.Decides.{nat_tests}
use Rattle.std.specs.List.{list_any, list_all}
use Rattle.game_rules.proofs.Common.{Grid, is_empty, empties_of, is_on, five, outcome, outcome_by, foul_of, has_fouls, black_foul, mover}
use Rattle.game_rules.proofs.Common.{goes_on, goes_on_with, saves, first_foul, IsPosition, after, LosesOr, loses_or, if_goes_on, has_five}
use Rattle.game_rules.proofs.Common.{WinsOr, RuleKind, Side, Foul, Outcome, Point, Refused, Wins, GoesOn}
use Rattle.game_rules.specs.declared.Outcome.TheVariants.{Fouls, Draws, Wins as WinsNow}
use Rattle.game_rules.proofs.Boards.{is_empty-on, is_empty-put, Apart, empties_of-put}
use Rattle.game_rules.proofs.Fives.{five-empty}
use Rattle.game_rules.proofs.Points.{points-found, off_refused, taken_refused}
use Rattle.game_rules.proofs.Tests.{or_right, or_none}
use Rattle.game_rules.proofs.Positions.{IsBoard-put}

-- ---- tests of outcomes

pub goes_on-is : (o : Outcome) → goes_on o ≡ true → o ≡ GoesOn
goes_on-is o h = search rules

pub goes_on_with-parts : (o : Outcome) (r : Bool) → goes_on_with o r ≡ true → (o ≡ GoesOn) × (r ≡ true)
goes_on_with-parts o r h = search rules

pub goes_on_with-else : (o : Outcome) (r : Bool) → (o ≡ GoesOn → ⊥) → goes_on_with o r ≡ false
goes_on_with-else o r h = search rules

-- a count of what goes on is at least 1
pub if_goes_on-one : (o : Outcome) (k : ℕ) → 1 ≤ k → goes_on o ≡ true → 1 ≤ if_goes_on o k
if_goes_on-one o k l h = search rules

-- a reply that loses or goes on loses where what follows is known of those that go on
pub LosesOr-on : (o : Outcome) (V W : Type 0) → LosesOr o V → (o ≡ GoesOn → W) → LosesOr o W
LosesOr-on o V W h f = search rules

-- a reply that neither wins nor draws loses where it loses after it went on
pub loses_or-by : (o : Outcome) (r : Bool) → (o ≡ Wins → ⊥) → (o ≡ Draws → ⊥) → (o ≡ GoesOn → r ≡ true) → loses_or o r ≡ true
loses_or-by o r no_win no_draw on = search rules

-- what neither goes on nor saves fouls, or is no move
pub loses_or-none : (o : Outcome) → goes_on o ≡ false → saves o ≡ false → loses_or o false ≡ true
loses_or-none o g s = search rules

-- ---- what a move is that has an outcome

wins_parts : (e f l : Bool) (o : Option Foul) → outcome_by e f o l ≡ Wins → (e ≡ true) × (f ≡ true)
wins_parts e f l o h = search rules

draws_parts : (e f l : Bool) (o : Option Foul) → outcome_by e f o l ≡ Draws → (e ≡ true) × (l ≡ true)
draws_parts e f l o h = search rules

refused_parts : (e f l : Bool) (o : Option Foul) → outcome_by e f o l ≡ Refused → e ≡ false
refused_parts e f l o h = search rules

wins_by : (l : Bool) (o : Option Foul) → outcome_by true true o l ≡ Wins
wins_by l o = search rules

stays_by : (f l : Bool) → loses_or (outcome_by true f None l) false ≡ false
stays_by f l = search rules

-- a side without fouls makes none
pub no_foul : (rule : RuleKind) (b : Grid) (s : Side) (q : Point) → has_fouls rule s ≡ false → foul_of rule b s q ≡ None
no_foul rule b s q calm = ap (λ r. cond r (black_foul rule b q) None) calm

module _ (rule : RuleKind) (b : Grid) (p : Point) where
  -- what wins is a five point
  pub outcome-five : outcome rule b p ≡ Wins → five rule b (mover b) p ≡ true
  unfolding outcome
  outcome-five h = (wins_parts (is_empty b p) (five rule b (mover b) p) (nat_eq (empties_of b) 1) (foul_of rule b (mover b) p) h).1

  -- a five point wins
  pub five-outcome : five rule b (mover b) p ≡ true → outcome rule b p ≡ Wins
  unfolding outcome
  five-outcome h = search (rules, five-empty, wins_by)

  -- what is no move is not empty
  pub refused-taken : outcome rule b p ≡ Refused → is_empty b p ≡ false
  unfolding outcome
  refused-taken h = refused_parts (is_empty b p) (five rule b (mover b) p) (nat_eq (empties_of b) 1) (foul_of rule b (mover b) p) h

  -- what draws is the last empty point
  pub draws-last : outcome rule b p ≡ Draws → (is_empty b p ≡ true) × (nat_eq (empties_of b) 1 ≡ true)
  unfolding outcome
  draws-last h = draws_parts (is_empty b p) (five rule b (mover b) p) (nat_eq (empties_of b) 1) (foul_of rule b (mover b) p) h

  -- a reply on an empty point that makes no foul does not lose at once
  pub unfouled-stays : is_empty b p ≡ true → foul_of rule b (mover b) p ≡ None → loses_or (outcome rule b p) false ≡ false
  unfolding outcome
  unfouled-stays empty none = search (rules, stays_by)

  -- so where its side has no fouls
  pub reply-stays : is_empty b p ≡ true → has_fouls rule (mover b) ≡ false → loses_or (outcome rule b p) false ≡ false
  reply-stays empty calm = unfouled-stays empty (no_foul rule b (mover b) p calm)

-- ---- a move that makes no five, where its side has no fouls

module _ (rule : RuleKind) (b : Grid) (p : Point) (empty : is_empty b p ≡ true) (none : has_five rule b (mover b) ≡ false)
    (calm : has_fouls rule (mover b) ≡ false) where
  no_five : five rule b (mover b) p ≡ false
  no_five = search (rules, points-found, is_empty-on)

  -- it goes on, or fills the board
  outcome-calm : outcome rule b p ≡ cond (nat_eq (empties_of b) 1) Draws GoesOn
  unfolding outcome
  outcome-calm = search (rules, no_five)

  pub outcome-last : (n : ℕ) → n ≡ empties_of b → n ≡ 1 → Draws ≡ outcome rule b p
  outcome-last n is one = search (rules, outcome-calm)

  pub outcome-more : (n : ℕ) → n ≡ empties_of b → (n ≡ 1 → ⊥) → GoesOn ≡ outcome rule b p
  outcome-more n is more = search (rules, outcome-calm)

pub no_first : (r : Bool) → first_foul r false false false ≡ None
no_first r = search rules

pub none_by : (o : Option Foul) (r : Bool) → is_some o ≡ not r → r ≡ is_none o
none_by o r h = search rules

pub if_goes_on-stops : (u : Outcome) (m : ℕ) → (u ≡ GoesOn → ⊥) → if_goes_on u m ≡ 0
if_goes_on-stops u m h = search rules

pub if_goes_on-none : (u : Outcome) → if_goes_on u 0 ≡ 0
if_goes_on-none u = search rules

pub wins-on : (rule : RuleKind) (b : Grid) (p : Point) → outcome rule b p ≡ WinsNow → is_on b p ≡ true
wins-on rule b p wins = search (rules, off_refused)

-- where the first and the second test are as before, the third holds no more, and the fourth not at all, there is no foul as before
pub no_first-fewer : (five over fours fours' threes threes' : Bool) → (fours' ≡ true → fours ≡ true) → threes' ≡ false
    → first_foul five over fours threes ≡ None → first_foul five over fours' threes' ≡ None
no_first-fewer five over fours fours' threes threes' f g h = search rules

pub loses_by : (o : Outcome) (V W : Type 0) → LosesOr o V → (o ≡ GoesOn → V → W) → LosesOr o W
loses_by o V W h f = search rules

pub goes_on_with-false : (o : Outcome) → goes_on_with o false ≡ false
goes_on_with-false o = search rules

pub goes_on_with-true : (o : Outcome) → goes_on_with o true ≡ true → o ≡ GoesOn
goes_on_with-true o h = search rules

pub goes_on-split : (o : Outcome) (f d : Bool) → goes_on_with o (f || d) ≡ (goes_on_with o f || goes_on_with o (not f && d))
goes_on-split o f d = search rules

pub fouls-all : (o : Point → Outcome) (ps : List Point) → list_any (λ q. goes_on (o q)) ps ≡ false → list_any (λ q. saves (o q)) ps ≡ false
    → list_all (λ q. loses_or (o q) false) ps ≡ true
fouls-all o [] g s = refl
fouls-all o (p ∷ ps) g s =
    search (rules, loses_or-none, or_none, or_right, fouls-all o ps (or_right (goes_on (o p)) _ g) (or_right (saves (o p)) _ s))

-- and only there
not_both : (a : Bool) → (not a && false) ≡ false
not_both a = search rules

pub fouls-test : (o : Point → Outcome) (ps : List Point)
    → list_all (λ q. loses_or (o q) false) ps ≡ (not (list_any (λ q. goes_on (o q)) ps) && not (list_any (λ q. saves (o q)) ps))
fouls-test o [] = refl
fouls-test o (p ∷ ps) = search (rules, not_both, fouls-test o ps)

pub never-goes_on : (o : Outcome) → false ≡ goes_on_with o false
never-goes_on o = search rules

pub always-goes_on : (o : Outcome) → goes_on o ≡ goes_on_with o true
always-goes_on o = search rules

pub saved : (o : Outcome) (W : Type 0) → saves o ≡ true → LosesOr o W → ⊥
saved o W h k = search rules

pub not-last : (e w l : Bool) (f : Option Foul) → outcome_by e w f l ≡ GoesOn → l ≡ false
not-last e w l f h = search rules

pub none-draws : (e w l : Bool) (f : Option Foul) → l ≡ false → (outcome_by e w f l ≡ Wins → ⊥) → LosesOr (outcome_by e w f l) (Unit {0})
none-draws e w l f more no_win = search rules

-- a move to an empty point is not refused
pub moved : (rule : RuleKind) (b : Grid) (p : Point) → is_empty b p ≡ true → outcome rule b p ≢ Refused
unfolding outcome
moved rule b p empty e = search rules

-- a move that wins or goes on is at an empty point
pub empty_at : (rule : RuleKind) (b : Grid) (p : Point) → WinsOr (outcome rule b p) (Unit {0}) → is_empty b p ≡ true
empty_at rule b p h = search (rules, taken_refused)

pub going : (o : Outcome) (W : Type 0) → o ≡ GoesOn → LosesOr o W → W
going o W go h = subst (λ (x : Outcome). LosesOr x W) go h

pub tight : (o : Outcome) (W : Type 0) → LosesOr o W → LosesOr o (Unit {0})
tight o W h = search rules

pub wins_or_goes_on : (o : Outcome) (W : Type 0) → WinsOr o W → (o ≡ WinsNow) ⊎ (o ≡ GoesOn)
wins_or_goes_on o W h = search rules

module _ (rule : RuleKind) (c : Grid) (q : Point) (draws : outcome rule c q ≡ Draws) where
  -- a move that draws leaves no other point empty
  pub no_other_empty : IsPosition rule c → (w : Point) → is_empty c w ≡ true → Apart q w → ⊥
  no_other_empty lawful w empty apart =
      let one : empties_of c ≡ 1 = let last = (draws-last rule c q draws).1 in grind (arith, nat_tests) in
      let here = empties_of-put c (mover c) q lawful.board (draws-last rule c q draws).0 in
      let still : is_empty (after c q) w ≡ true = is_empty-put c (mover c) q w (is_empty-on c q (draws-last rule c q draws).0) apart
      ∙ empty in
      let there = empties_of-put (after c q) (mover c) w (IsBoard-put c (mover c) q lawful.board) still in
      absurd (omega (arith, one, here, there))

now-wins_by : (e w l : Bool) (o : Option Foul) → e ≡ true → w ≡ true → outcome_by e w o l ≡ WinsNow
now-wins_by u w l o e f = search rules

pub wins_now : (rule : RuleKind) (b : Grid) (p : Point) → is_empty b p ≡ true → five rule b (mover b) p ≡ true → outcome rule b p ≡ WinsNow
unfolding outcome
wins_now rule b p e f = now-wins_by (is_empty b p) (five rule b (mover b) p) (nat_eq (empties_of b) 1) (foul_of rule b (mover b) p) e f

quiet_by : (e w l : Bool) (o : Option Foul) → e ≡ true → w ≡ false → l ≡ false
    → (outcome_by e w o l ≡ GoesOn) ⊎ ((f : Foul) × (outcome_by e w o l ≡ Fouls f))
quiet_by u w l o e f g = search rules

pub quiet_move : (rule : RuleKind) (b : Grid) (q : Point) → is_empty b q ≡ true → five rule b (mover b) q ≡ false
    → nat_eq (empties_of b) 1 ≡ false → (outcome rule b q ≡ GoesOn) ⊎ ((f : Foul) × (outcome rule b q ≡ Fouls f))
unfolding outcome
quiet_move rule b q e f g = quiet_by (is_empty b q) (five rule b (mover b) q) (nat_eq (empties_of b) 1) (foul_of rule b (mover b) q) e f g

not_wins_by : (e w l : Bool) (o : Option Foul) → w ≡ false → outcome_by e w o l ≢ WinsNow
not_wins_by b w l o e h = search rules

pub not_wins : (rule : RuleKind) (b : Grid) (p : Point) → five rule b (mover b) p ≡ false → outcome rule b p ≢ WinsNow
unfolding outcome
not_wins rule b p e = not_wins_by (is_empty b p) (five rule b (mover b) p) (nat_eq (empties_of b) 1) (foul_of rule b (mover b) p) e

-- whether an outcome is that the game goes on
abbrev pub is_going : Outcome → Bool
is_going Refused = false
is_going WinsNow = false
is_going (Fouls f) = false
is_going Draws = false
is_going GoesOn = true

pub going_is : (o : Outcome) → is_going o ≡ true → o ≡ GoesOn
going_is o h = search rules
