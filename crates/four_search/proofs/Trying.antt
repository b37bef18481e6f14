-- The fours of a position, tried one after another. Moves that need not be tried: where the defender has a five point, and at the last
-- move. The points that make a five point, tried one after another: only those that take the defender's five points may help.
use Rattle.std.proofs.Common.{◌≡◌, ℕ, zero, suc, ◌+◌, ◌-◌, ◌≤◌, ◌<◌, Bool, true, false, cond, ◌&&◌, ◌||◌, refl, sym, ap, ◌∙◌, arith, List}
use Rattle.std.proofs.Common.{[], ◌∷◌, ◌++◌, nat_le, Option, Some, filter, subst, map, length, get_or}
use Rattle.std.specs.List.{list_any, find, sum_by}
use Rattle.std.proofs.lemmas.Bool.Decides.{nat_tests}
use Rattle.std.proofs.lemmas.List.Sums.{sum_by-cons}
use Rattle.game_rules.specs.declared.RuleKind.{RuleKind}
use Rattle.game_rules.specs.declared.RuleKind.TheVariants.{Renju}
use Rattle.game_rules.specs.declared.Side.{Side}
use Rattle.game_rules.specs.declared.Side.TheVariants.{Black, White}
use Rattle.game_rules.specs.declared.Outcome.{Outcome}
use Rattle.game_rules.specs.declared.Outcome.TheVariants.{Refused, Wins, Fouls, Draws, GoesOn}
use Rattle.game_rules.specs.declared.Point.{Point}
use Rattle.game_rules.proofs.Common.{Grid, points_of, five, is_at, IsPosition, outcome, mover, after, goes_on_with, has_five, wins_or}
use Rattle.game_rules.proofs.Common.{starts_win, wins_under, wins_by_fours, four_move, is_empty, is_same_point, has_fouls, other}
use Rattle.game_rules.proofs.Common.{five_points, empties_of, put}
use Rattle.game_rules.proofs.Points.{is_same_point-itself, any_witness, none_of}
use Rattle.game_rules.proofs.PointLists.{not_found, no_point}
use Rattle.game_rules.proofs.Games.{five-wins}
use Rattle.game_rules.proofs.Boards.{is_empty-on, empties_of-put}
use Rattle.game_rules.proofs.Positions.{IsPosition-after, GoesOn-empty, mover-then, mover-other}
use Rattle.game_rules.proofs.Fives.{five-empty, only}
use Rattle.game_rules.proofs.Outcomes.{goes_on_with-else, outcome-more}
use Rattle.row_shapes.specs.FivePoints.{in_short, takes}
use Rattle.row_shapes.specs.declared.fives.FivePoints.{FivePoints}
use Rattle.row_shapes.specs.declared.fives.FivePoints.TheVariants.{None as NoPoint, One as OnePoint, Several}
use Rattle.row_shapes.proofs.FiveLaws.{one-empty, short-one, several-left, one-stays, not_taken-five, taken-none}
use Rattle.threat_moves.specs.declared.block.BlockAnswer.{BlockAnswer}
use Rattle.threat_moves.specs.declared.block.BlockAnswer.TheVariants.{Lost, One}
use Rattle.threat_moves.proofs.Common.{is_four_move, fate, block_wins, by_block, by_fives, all_foul}
use Rattle.threat_moves.proofs.BlockLaw.{block_decides, no-reply-wins}
use Rattle.threat_moves.proofs.FourLaws.{four-goes_on, four-five, taken-no_four, no_last-win, none-no_four}
use Rattle.threat_moves.proofs.Fates.{blocked, not_all-foul}
use Rattle.four_search.specs.declared.search.Found.{Found}
use Rattle.four_search.specs.declared.search.Found.TheVariants.{Win, NoWin, Spent}
use Rattle.four_search.specs.FourGame.{until, tried, if_one, behind_move, four_tree}
use Rattle.four_search.specs.Searching.{found_by, line_behind, line_from, four_line, positions_behind, found_at, found_behind, found_trying}
use Rattle.four_search.specs.Searching.{found_answering}
use Rattle.four_search.specs.declared.four_points.FourPoint.{FourPoint}
use Rattle.four_search.specs.FourPoints.{makes, four_point_at, four_points_of, RulesOut, HasCalmBlock}
use Rattle.four_search.specs.CalmPoints.{HasCalmPoints}
use Rattle.four_search.proofs.CalmPoints.{calm-reply}
use Rattle.four_search.proofs.Listing.{at-told, each-told}

-- ---- one after another

-- what is no four move gives nothing
pub trying-no_four : (rule : RuleKind) (n : ℕ) (b : Grid) (p : Point) (left : ℕ) → is_four_move rule b p ≡ false
    → found_trying rule n b p left ≡ NoWin left
trying-no_four rule n b p left h = ap (λ r. cond r (found_behind rule n b p left) (NoWin left)) h

-- a four move gives what is behind it
pub trying-four : (rule : RuleKind) (n : ℕ) (b : Grid) (p : Point) (left : ℕ) → is_four_move rule b p ≡ true
    → found_trying rule n b p left ≡ found_behind rule n b p left
trying-four rule n b p left h = ap (λ r. cond r (found_behind rule n b p left) (NoWin left)) h

-- what is found next, with the budget that is left
abbrev pub found_next : Found → (ℕ → Found) → Found
found_next (Win left line) next = Win left line
found_next (NoWin left) next = next left
found_next Spent next = Spent

-- what is found at the first of these moves that ends the search
unfoldable pub try_all : RuleKind → ℕ → Grid → ℕ → List Point → Found
try_all rule n b left [] = NoWin left
try_all rule n b left (p ∷ ps) = found_next (found_trying rule n b p left) (λ l. try_all rule n b l ps)

pub try_all-none : (rule : RuleKind) (n : ℕ) (b : Grid) (left : ℕ) → try_all rule n b left [] ≡ NoWin left
unfolding try_all
try_all-none rule n b left = refl

-- ---- one step, at a board that is the one tried

module _ (rule : RuleKind) (n : ℕ) (b : Grid) (left : ℕ) (p : Point) (ps qs : List Point) (left_are : ps ≡ p ∷ qs) where
  pub step_at : (f : Found) → found_trying rule n b p left ≡ f → try_all rule n b left ps ≡ found_next f (λ l. try_all rule n b l qs)
  unfolding try_all
  step_at f e = ap (try_all rule n b left) left_are ∙ ap (λ f. found_next f (λ l. try_all rule n b l qs)) e

  module _ (f : Found) (found : f ≡ found_trying rule n b p left) where
    -- no win behind the move
    pub step-goes_on : (rest : ℕ) → f ≡ NoWin rest → try_all rule n b left ps ≡ try_all rule n b rest qs
    step-goes_on rest h = step_at (NoWin rest) (sym found ∙ h)

    -- the search ends at the move
    pub step-ends : ((rest : ℕ) → f ≡ NoWin rest → ⊥) → try_all rule n b left ps ≡ f
    step-ends h = step_at f (sym found) ∙ ends f h where
      ends : (f : Found) → ((rest : ℕ) → f ≡ NoWin rest → ⊥) → found_next f (λ l. try_all rule n b l qs) ≡ f
      ends (NoWin l) h = absurd (h l refl)
      ends _ h = refl

-- ---- budgets

no_win : (left : ℕ) (line : List Point) → NoWin left ≡ found_by left 0 false line
no_win left line =
    let e : nat_le 0 left ≡ true = grind (arith, nat_tests) in
    let m : left ≡ left - 0 = omega arith in
    ap NoWin m ∙ ap (λ r. cond r (NoWin (left - 0)) Spent) (sym e)

module _ (left t s : ℕ) (l1 l2 : List Point) where
  next_spent : (w a r : Bool) → nat_le (t + s) left ≡ r → nat_le s (left - t) ≡ r → t ≤ left
      → found_by (left - t) s a l2 ≡ found_by left (t + s) a l2
  next_spent w a r e f low =
      let m : left - t - s ≡ left - (t + s) = omega arith in
      rw (e, f, m) refl

  fits_rest : t ≤ left → nat_le s (left - t) ≡ nat_le (t + s) left
  fits_rest low = by_test (nat_le (t + s) left) refl where
    by_test : (r : Bool) → nat_le (t + s) left ≡ r → nat_le s (left - t) ≡ r
    by_test true e = grind (arith, nat_tests)
    by_test false e = grind (arith, nat_tests)

  spent_rest : nat_le t left ≡ false → nat_le (t + s) left ≡ false
  spent_rest h = grind (arith, nat_tests)

  next_by : (w a r : Bool) → nat_le t left ≡ r → found_next (cond r (cond w (Win (left - t) l1) (NoWin (left - t))) Spent)
      (λ x. found_by x s a l2) ≡ found_by left (t + cond w 0 s) (w || a) (cond w l1 l2)
  next_by true a true e =
      let z : t + 0 ≡ t = omega arith in
      rw (z, e) refl
  next_by false a true e =
      let low : t ≤ left = grind (arith, nat_tests) in
      next_spent false a (nat_le (t + s) left) refl (fits_rest low) low
  next_by true a false e =
      let z : t + 0 ≡ t = omega arith in
      rw (z, e) refl
  next_by false a false e = rw (spent_rest e) refl

found_next-by : (left t s : ℕ) (w a : Bool) (l1 l2 : List Point)
    → found_next (found_by left t w l1) (λ x. found_by x s a l2) ≡ found_by left (t + cond w 0 s) (w || a) (cond w l1 l2)
found_next-by left t s w a l1 l2 = next_by left t s l1 l2 w a (nat_le t left) refl

-- ---- all fours of a position without a five point

lose_by : (o : Outcome) (d a : Bool) → (o ≡ Wins → ⊥) → goes_on_with o d ≡ false → wins_or o (d && a) ≡ false
lose_by Refused d a no_win h = refl
lose_by Wins d a no_win h = absurd (no_win refl)
lose_by (Fouls f) d a no_win h = refl
lose_by Draws d a no_win h = refl
lose_by GoesOn true a no_win h = cc
lose_by GoesOn false a no_win h = refl

module _ (rule : RuleKind) (n : ℕ) (b : Grid) (lawful : IsPosition rule b) (none : has_five rule b (mover b) ≡ false) where
  -- whether the move starts a win
  abbrev pub test : Point → Bool
  test p = starts_win (has_five rule) rule b (wins_by_fours rule n) p

  -- the positions behind the move
  abbrev pub behind : Point → ℕ
  behind p = cond (is_four_move rule b p) (positions_behind rule n (after b p)) 0

  abbrev line : Option Point → List Point
  line o = line_from rule b (four_line rule n) o

  pub no_four : (p : Point) → is_four_move rule b p ≡ false → test p ≡ false
  unfolding is_four_move
  no_four p h = lose_by (outcome rule b p) (has_five rule (after b p) (mover b)) _ (no-reply-wins rule b lawful none p) h

  one_by : (left : ℕ) (p : Point) (r : Bool) → is_four_move rule b p ≡ r
      → cond r (found_behind rule n b p left) (NoWin left) ≡ found_by left (cond r (positions_behind rule n (after b p)) 0) (test p)
      (line (Some p))
  one_by left p true four = ap (λ w. found_by left (positions_behind rule n (after b p)) w (line (Some p)))
      (sym (block_decides rule n b p lawful four))
  one_by left p false four = no_win left (line (Some p)) ∙ ap (λ w. found_by left 0 w (line (Some p))) (sym (no_four p four))

  step_by : (left : ℕ) (p : Point) (ps : List Point) (r : Bool)
      → found_by left (behind p + cond r 0 (sum_by behind (until test ps))) (r || list_any test ps)
      (cond r (line (Some p)) (line (find test ps))) ≡ found_by left (sum_by behind (p ∷ cond r [] (until test ps))) (r || list_any test ps)
      (line (cond r (Some p) (find test ps)))
  step_by left p ps true =
      let one : sum_by behind (p ∷ []) ≡ behind p + 0 = sum_by-cons behind p [] in
      ap (λ t. found_by left t true (line (Some p))) (sym one)
  step_by left p ps false =
      let more : sum_by behind (p ∷ until test ps) ≡ behind p + sum_by behind (until test ps) = sum_by-cons behind p (until test ps) in
      ap (λ t. found_by left t (list_any test ps) (line (find test ps))) (sym more)

  -- the first that wins, if the budget is not spent before
  try_all-is : (left : ℕ) (ps : List Point) → try_all rule n b left ps ≡ found_by left (sum_by behind (until test ps)) (list_any test ps)
      (line (find test ps))
  unfolding try_all
  try_all-is left [] = no_win left []
  try_all-is left (p ∷ ps) =
      ap (λ f. found_next f (λ l. try_all rule n b l ps)) (one_by left p (is_four_move rule b p) refl)
      ∙ ap (λ (next : ℕ → Found). found_next (found_by left (behind p) (test p) (line (Some p))) next) (λ i l. try_all-is l ps i)
      ∙ found_next-by left (behind p) (sum_by behind (until test ps)) (test p) (list_any test ps) (line (Some p)) (line (find test ps))
      ∙ step_by left p ps (test p)

-- ---- the chosen move

-- up to the first that passes
until-find : (f : Point → Bool) (ps : List Point) → until (λ p. is_at p (find f ps)) ps ≡ until f ps
until-find f [] = refl
until-find f (x ∷ ps) = by_test (f x) refl (until-find f ps) where
  by_test : (r : Bool) → f x ≡ r → until (λ p. is_at p (find f ps)) ps ≡ until f ps
      → x ∷ cond (is_at x (cond r (Some x) (find f ps))) [] (until (λ p. is_at p (cond r (Some x) (find f ps))) ps) ≡ x ∷ cond r []
      (until f ps)
  by_test true e rest = rw (is_same_point-itself x) refl
  by_test false e rest = rw (not_found f ps x e, rest) refl

-- ---- what one search finds

no_positions : (rule : RuleKind) (b : Grid) (ps : List Point)
    → sum_by (λ p. cond (is_four_move rule b p) (positions_behind rule zero (after b p)) 0) ps ≡ 0
no_positions rule b [] = refl
no_positions rule b (p ∷ ps) =
    let count : Point → ℕ = λ p. cond (is_four_move rule b p) (positions_behind rule zero (after b p)) 0 in
    sum_by-cons count p ps ∙ zeros (is_four_move rule b p) (no_positions rule b ps) where
      zeros : (r : Bool) → sum_by (λ p. cond (is_four_move rule b p) (positions_behind rule zero (after b p)) 0) ps ≡ 0
          → cond r 0 0 + sum_by (λ p. cond (is_four_move rule b p) (positions_behind rule zero (after b p)) 0) ps ≡ 0
      zeros true h = rw h refl
      zeros false h = rw h refl

module _ (rule : RuleKind) (b : Grid) (lawful : IsPosition rule b) (none : has_five rule b (mover b) ≡ false) where
  pub move-is : (n : ℕ) → four_move rule (suc n) b ≡ find (test rule n b lawful none) (points_of b)
  unfolding four_move
  move-is n = ap (λ r. cond r (find (five rule b (mover b)) (points_of b)) (find (test rule n b lawful none) (points_of b))) none

  tried-is : (n : ℕ) → tried rule (suc n) b ≡ until (test rule n b lawful none) (points_of b)
  tried-is n = ap (λ (o : Option Point). until (λ p. is_at p o) (points_of b)) (move-is n)
      ∙ until-find (test rule n b lawful none) (points_of b)

  pub tree-is : (n : ℕ) → four_tree rule (suc n) b ≡ 1 + sum_by (behind rule n b lawful none)
      (until (test rule n b lawful none) (points_of b))
  unfolding four_tree
  tree-is zero = ap (λ t. 1 + t) (sym (no_positions rule b (until (test rule zero b lawful none) (points_of b))))
  tree-is (suc m) =
      ap (λ r. cond r 1 (1 + sum_by (behind_move rule b (four_tree rule (suc m))) (tried rule (suc (suc m)) b))) none
      ∙ ap (λ ps. 1 + sum_by (behind_move rule b (four_tree rule (suc m))) ps) (tried-is (suc m))

  line-is : (n : ℕ) → four_line rule (suc n) b ≡ line rule n b lawful none (find (test rule n b lawful none) (points_of b))
  unfolding four_line
  line-is n = ap (λ r. cond r [] (line_from rule b (four_line rule n) (four_move rule (suc n) b))) none
      ∙ ap (line_from rule b (four_line rule n)) (move-is n)

  pub wins-is : (n : ℕ) → wins_by_fours rule (suc n) b ≡ list_any (test rule n b lawful none) (points_of b)
  unfolding wins_under
  wins-is n = refl

  one_more : (budget s : ℕ) (a : Bool) (l : List Point) → 0 < budget → found_by (budget - 1) s a l ≡ found_by budget (1 + s) a l
  one_more budget s a l some =
      let fits : nat_le s (budget - 1) ≡ nat_le (1 + s) budget = same (nat_le (1 + s) budget) refl in
      let rest : budget - 1 - s ≡ budget - (1 + s) = omega arith in
      rw (fits, rest) refl where
        same : (r : Bool) → nat_le (1 + s) budget ≡ r → nat_le s (budget - 1) ≡ r
        same true e = grind (arith, nat_tests)
        same false e = grind (arith, nat_tests)

  -- all moves tried
  found-after-all : (n budget : ℕ) → 0 < budget → try_all rule n b (budget - 1) (points_of b) ≡ found_at rule (suc n) b budget
  found-after-all n budget some =
      try_all-is rule n b lawful none (budget - 1) (points_of b)
      ∙ one_more budget _ _ _ some
      ∙ ap (λ t. found_by budget t (list_any (test rule n b lawful none) (points_of b))
      (line rule n b lawful none (find (test rule n b lawful none) (points_of b)))) (sym (tree-is n))
      ∙ ap (λ w. found_by budget (four_tree rule (suc n) b) w (line rule n b lawful none (find (test rule n b lawful none) (points_of b))))
      (sym (wins-is n))
      ∙ ap (λ l. found_by budget (four_tree rule (suc n) b) (wins_by_fours rule (suc n) b) l) (sym (line-is n))

before : (n : ℕ) → suc n - 1 ≡ n
before n = omega arith

pub found-after : (rule : RuleKind) (moves budget : ℕ) (b : Grid) → IsPosition rule b → has_five rule b (mover b) ≡ false → 0 < moves
    → 0 < budget → try_all rule (moves - 1) b (budget - 1) (points_of b) ≡ found_at rule moves b budget
found-after rule zero budget b lawful none some fits = absurd (omega arith)
found-after rule (suc n) budget b lawful none some fits =
    ap (λ m. try_all rule m b (budget - 1) (points_of b)) (before n) ∙ found-after-all rule b lawful none n budget fits

-- a five point
pub found-five : (rule : RuleKind) (moves budget : ℕ) (b : Grid) → has_five rule b (mover b) ≡ true → 0 < moves → 0 < budget
    → Win (budget - 1) [] ≡ found_at rule moves b budget
unfolding four_tree four_line
found-five rule zero budget b some moves fits = absurd (omega arith)
found-five rule (suc n) budget b some moves fits =
    let fit : nat_le 1 budget ≡ true = grind (arith, nat_tests) in
    ap (λ r. cond r (Win (budget - 1) []) Spent) (sym fit)
    ∙ ap (λ t. found_by budget t true []) (sym (tree n))
    ∙ ap (λ w. found_by budget (four_tree rule (suc n) b) w []) (sym (five-wins rule b n some))
    ∙ ap (λ l. found_by budget (four_tree rule (suc n) b) (wins_by_fours rule (suc n) b) l)
    (ap (λ r. cond r [] (line_from rule b (four_line rule n) (four_move rule (suc n) b))) (sym some)) where
      tree : (n : ℕ) → four_tree rule (suc n) b ≡ 1
      tree zero = refl
      tree (suc m) = ap (λ r. cond r 1 (1 + sum_by (behind_move rule b (four_tree rule (suc m))) (tried rule (suc (suc m)) b))) some

pub tree-some : (rule : RuleKind) (n : ℕ) (b : Grid) → 0 < four_tree rule n b
unfolding four_tree
tree-some rule zero b = omega arith
tree-some rule (suc zero) b = omega arith
tree-some rule (suc (suc n)) b = by_test (has_five rule b (mover b)) where
  by_test : (r : Bool) → 0 < cond r 1 (1 + sum_by (behind_move rule b (four_tree rule (suc n))) (tried rule (suc (suc n)) b))
  by_test true = omega arith
  by_test false = omega arith

-- no budget
pub found-nothing : (rule : RuleKind) (moves budget : ℕ) (b : Grid) → budget ≡ 0 → Spent ≡ found_at rule moves b budget
found-nothing rule moves budget b e =
    let some = tree-some rule moves b in
    let short : nat_le (four_tree rule moves b) budget ≡ false = grind (arith, nat_tests) in
    rw short refl

-- ---- after a four, by its fate

module _ (rule : RuleKind) (c : Grid) (budget : ℕ) where
  positions : ℕ → BlockAnswer → ℕ
  positions zero a = 0
  positions (suc n) a = if_one (four_tree rule (suc n)) c a

  found_as : ℕ → BlockAnswer → Found
  found_as n a = found_by budget (positions n a) (block_wins rule n c a) (line_behind (four_line rule n) c a)

  by_answer : (n : ℕ) (a : BlockAnswer) → a ≡ fate rule c → found_as n a ≡ found_answering rule n c budget
  unfolding found_as positions
  by_answer zero a e = ap (found_as zero) e
  by_answer (suc n) a e = ap (found_as (suc n)) e

  pub answering-lost : (n : ℕ) → Lost ≡ fate rule c → NoWin budget ≡ found_answering rule n c budget
  unfolding found_as positions
  answering-lost zero e = no_win budget [] ∙ by_answer zero Lost e
  answering-lost (suc n) e = no_win budget [] ∙ by_answer (suc n) Lost e

  pub answering-no-more : (n : ℕ) (w : Point) → n ≡ 0 → One w ≡ fate rule c → NoWin budget ≡ found_answering rule n c budget
  unfolding found_as positions wins_under four_line
  answering-no-more zero w z e = no_win budget [] ∙ by_answer zero (One w) e
  answering-no-more (suc n) w z e = absurd (omega arith)

-- ---- behind a four: what is after it, with the four at the end of the line

module _ (rule : RuleKind) (n : ℕ) (b : Grid) (p : Point) (budget : ℕ) where
  -- the same found, with p at the end of the line
  abbrev pub with_move : Found → Found
  with_move (Win left line) = Win left (line ++ p ∷ [])
  with_move (NoWin left) = NoWin left
  with_move Spent = Spent

  moves_by : (t : ℕ) (line : List Point) (r w : Bool)
      → with_move (cond r (cond w (Win (budget - t) line) (NoWin (budget - t))) Spent) ≡ cond r
      (cond w (Win (budget - t) (line ++ p ∷ [])) (NoWin (budget - t))) Spent
  moves_by t line true true = refl
  moves_by t line true false = refl
  moves_by t line false w = refl

  behind-moves : with_move (found_answering rule n (after b p) budget) ≡ found_behind rule n b p budget
  behind-moves = moves_by (positions_behind rule n (after b p)) (line_behind (four_line rule n) (after b p) (fate rule (after b p)))
      (nat_le (positions_behind rule n (after b p)) budget) (block_wins rule n (after b p) (fate rule (after b p)))

  pub behind-no_win : (left : ℕ) → NoWin left ≡ found_answering rule n (after b p) budget → NoWin left ≡ found_behind rule n b p budget
  behind-no_win left e = ap with_move e ∙ behind-moves

  pub behind-else : (f : Found) → ((left : ℕ) (line : List Point) → f ≡ Win left line → ⊥) → f ≡ found_answering rule n (after b p) budget
      → f ≡ found_behind rule n b p budget
  behind-else (Win left line) h e = absurd (h left line refl)
  behind-else _ h e = ap with_move e ∙ behind-moves

-- ---- where the defender keeps a five point

module _ (rule : RuleKind) (n : ℕ) (b : Grid) (lawful : IsPosition rule b) where
  lost : (p : Point) → outcome rule b p ≡ GoesOn → has_five rule (after b p) (other (mover b)) ≡ true → fate rule (after b p) ≡ Lost
  unfolding fate
  lost p on some =
      let five : has_five rule (after b p) (mover (after b p)) ≡ true =
      ap (has_five rule (after b p)) (mover-then rule b p lawful on) ∙ some in
      rw five refl

  -- a move that leaves the defender a five point gives nothing
  pub trying-lost : (p : Point) (left : ℕ) → (is_empty b p ≡ true → has_five rule (after b p) (other (mover b)) ≡ true)
      → found_trying rule n b p left ≡ NoWin left
  trying-lost p left some = by_empty (is_empty b p) refl where
    by_test : (r : Bool) → is_four_move rule b p ≡ r → is_empty b p ≡ true → cond r (found_behind rule n b p left) (NoWin left) ≡ NoWin left
    by_test false e h = refl
    by_test true e h = sym (behind-no_win rule n b p left left
        (answering-lost rule (after b p) left n (sym (lost p (four-goes_on rule b p e) (some h)))))

    by_empty : (r : Bool) → is_empty b p ≡ r → found_trying rule n b p left ≡ NoWin left
    by_empty true e = by_test (is_four_move rule b p) refl e
    by_empty false e = trying-no_four rule n b p left (taken-no_four rule b p e)

  -- points that give nothing may be left out
  pub try_all-filter : (f : Point → Bool) → ((p : Point) (l : ℕ) → f p ≡ false → found_trying rule n b p l ≡ NoWin l)
      → (left : ℕ) (ps : List Point) → try_all rule n b left ps ≡ try_all rule n b left (filter f ps)
  unfolding try_all
  try_all-filter f skip left [] = refl
  try_all-filter f skip left (p ∷ ps) = by_test (f p) refl (λ l. try_all-filter f skip l ps) where
    by_test : (r : Bool) → f p ≡ r → ((l : ℕ) → try_all rule n b l ps ≡ try_all rule n b l (filter f ps))
        → found_next (found_trying rule n b p left) (λ l. try_all rule n b l ps) ≡ try_all rule n b left
        (cond r (p ∷ filter f ps) (filter f ps))
    by_test true e rest = ap (λ (next : ℕ → Found). found_next (found_trying rule n b p left) next) (λ i l. rest l i)
    by_test false e rest = ap (λ x. found_next x (λ l. try_all rule n b l ps)) (skip p left e) ∙ rest left

  try_all-single : (left : ℕ) (w : Point) → try_all rule n b left (w ∷ []) ≡ found_trying rule n b w left
  unfolding try_all
  try_all-single left w = alone (found_trying rule n b w left) where
    alone : (f : Found) → found_next f (λ l. NoWin l) ≡ f
    alone (Win l line) = refl
    alone _ = refl

-- ---- five points of the defender

-- ---- what a search finds where the defender has five points

module _ (rule : RuleKind) (moves budget : ℕ) (b : Grid) (lawful : IsPosition rule b) (none : has_five rule b (mover b) ≡ false)
    (some : 0 < moves) (fits : 0 < budget) where
  -- with two five points or more of the defender there is no win
  pub found-several : in_short (five_points rule b (other (mover b))) ≡ Several → NoWin (budget - 1) ≡ found_at rule moves b budget
  found-several several =
      let skip : (p : Point) (l : ℕ) → found_trying rule (moves - 1) b p l ≡ NoWin l =
      λ p l. trying-lost rule (moves - 1) b lawful p l (λ empty. several-left rule b (mover b) p lawful.board empty several) in
      sym (try_all-none rule (moves - 1) b (budget - 1))
      ∙ ap (try_all rule (moves - 1) b (budget - 1)) (sym (no_point (points_of b)))
      ∙ sym (try_all-filter rule (moves - 1) b lawful (λ p. false) (λ p l e. skip p l) (budget - 1) (points_of b))
      ∙ found-after rule moves budget b lawful none some fits

  -- with one only that is tried
  pub found-one : (w : Point) → in_short (five_points rule b (other (mover b))) ≡ OnePoint w
      → found_trying rule (moves - 1) b w (budget - 1) ≡ found_at rule moves b budget
  found-one w one =
      let skip : (p : Point) (l : ℕ) → is_same_point p w ≡ false → found_trying rule (moves - 1) b p l ≡ NoWin l =
      λ p l e. trying-lost rule (moves - 1) b lawful p l (λ empty. one-stays rule b lawful p empty w one e) in
      sym (try_all-single rule (moves - 1) b lawful (budget - 1) w)
      ∙ ap (try_all rule (moves - 1) b (budget - 1)) (sym (only b w (is_empty-on b w (one-empty rule b (other (mover b)) w one))))
      ∙ sym (try_all-filter rule (moves - 1) b lawful (λ p. is_same_point p w) skip (budget - 1) (points_of b))
      ∙ found-after rule moves budget b lawful none some fits

-- ---- the last move

no_fouls : (rule : RuleKind) → has_fouls rule White ≡ false
no_fouls Renju = refl
no_fouls _ = refl

module _ (rule : RuleKind) (b : Grid) (lawful : IsPosition rule b) (none : has_five rule b (mover b) ≡ false) where
  module _ (stays : (p : Point) → is_four_move rule b p ≡ true → all_foul rule (after b p) ≡ false) where
    last-four : (p : Point) → is_four_move rule b p ≡ true → starts_win (has_five rule) rule b (wins_by_fours rule zero) p ≡ false
    last-four p four = block_decides rule zero b p lawful four ∙ no_last-win rule (after b p) (fate rule (after b p)) (stays p four)

    last-start : (p : Point) → test rule zero b lawful none p ≡ true → ⊥
    last-start p h = by_test (is_four_move rule b p) refl where
      by_test : (r : Bool) → is_four_move rule b p ≡ r → ⊥
      by_test true e = let no : true ≡ false = sym h ∙ last-four p e in cc
      by_test false e = let no : true ≡ false = sym h ∙ no_four rule zero b lawful none p e in cc

    -- with one move left and no five point there is no win, where no four leaves the defender fouls alone
    found-stays : (moves budget : ℕ) → moves ≡ 1 → 0 < budget → NoWin (budget - 1) ≡ found_at rule moves b budget
    unfolding four_tree
    found-stays moves budget e fits =
        let fit : nat_le 1 budget ≡ true = grind (arith, nat_tests) in
        let lost : wins_by_fours rule 1 b ≡ false = wins-is rule b lawful none zero
        ∙ none_of (test rule zero b lawful none) (points_of b) last-start in
        ap (λ r. cond r (NoWin (budget - 1)) Spent) (sym fit)
        ∙ ap (λ w. found_by budget 1 w (four_line rule 1 b)) (sym lost)
        ∙ ap (λ (m : ℕ). found_at rule m b budget) (sym e)

  -- so where the defender has no fouls
  pub found-last : has_fouls rule (other (mover b)) ≡ false → (moves budget : ℕ) → moves ≡ 1 → 0 < budget
      → NoWin (budget - 1) ≡ found_at rule moves b budget
  found-last calm = found-stays (λ p four.
      let found = any_witness (five rule (after b p) (mover b)) (points_of (after b p)) (four-five rule b p four) in
      let empty = five-empty rule (after b p) (mover b) found.0 found.1 in
      not_all-foul rule (after b p) found.0 empty (ap (has_fouls rule) (mover-then rule b p lawful (four-goes_on rule b p four)) ∙ calm))

  -- and where it has two calm points
  pub found-calm : HasCalmPoints b → (moves budget : ℕ) → moves ≡ 1 → 0 < budget → NoWin (budget - 1) ≡ found_at rule moves b budget
  found-calm calm = by_side (mover b) refl where
    by_side : (s : Side) → mover b ≡ s → (moves budget : ℕ) → moves ≡ 1 → 0 < budget → NoWin (budget - 1) ≡ found_at rule moves b budget
    by_side Black e = found-last (ap (λ s. has_fouls rule (other s)) e ∙ no_fouls rule)
    by_side White e = found-stays (λ p four.
        let on = four-goes_on rule b p four in
        let same : put b White p ≡ after b p = ap (λ s. put b s p) (sym e) in
        let turn : mover (put b White p) ≡ Black = ap mover same ∙ mover-then rule b p lawful on ∙ ap other e in
        ap (all_foul rule) (sym same) ∙ calm-reply rule b lawful.board calm p (GoesOn-empty rule b p on) turn)

-- ---- after the one block of a four

module _ (rule : RuleKind) (c : Grid) (w : Point) (lawful : IsPosition rule c) (on : outcome rule c w ≡ GoesOn)
    (one : in_short (five_points rule c (other (mover c))) ≡ OnePoint w) where
  -- the attacker has no five point
  pub block-none : has_five rule (after c w) (mover (after c w)) ≡ false
  block-none = ap (has_five rule (after c w)) (mover-then rule c w lawful on) ∙ blocked rule c w lawful.board (GoesOn-empty rule c w on) one

  -- the defender's five points are those of the side that blocked
  pub block-threat : in_short (five_points rule (after c w) (mover c)) ≡ in_short (five_points rule (after c w) (other (mover (after c w))))
  block-threat = ap (λ s. in_short (five_points rule (after c w) s)) (sym (mover-other rule c w lawful on))

  -- with one move left there is no win, where the defender has no fouls
  pub block-last : (moves budget : ℕ) → moves ≡ 1 → 0 < budget → has_fouls rule (mover c) ≡ false
      → NoWin (budget - 1) ≡ found_at rule moves (after c w) budget
  block-last moves budget e fits calm = found-last rule (after c w) (IsPosition-after rule c w lawful on) block-none
      (ap (has_fouls rule) (mover-other rule c w lawful on) ∙ calm) moves budget e fits

-- ---- a last four with one block

module _ (rule : RuleKind) (b : Grid) (p : Point) (lawful : IsPosition rule b) (on : outcome rule b p ≡ GoesOn)
    (safe : has_five rule (after b p) (other (mover b)) ≡ false) where
  abbrev four : Grid
  four = after b p

  turn : mover four ≡ other (mover b)
  turn = mover-then rule b p lawful on

  module _ (w : Point) (made : OnePoint w ≡ in_short (five_points rule four (mover b))) (calm : has_fouls rule (other (mover b)) ≡ false)
      (room : 2 < empties_of b) where
    one_of : in_short (five_points rule four (other (mover four))) ≡ OnePoint w
    one_of = ap (λ s. in_short (five_points rule four s)) (mover-other rule b p lawful on) ∙ sym made

    calm_of : has_fouls rule (mover four) ≡ false
    calm_of = ap (has_fouls rule) turn ∙ calm

    block-goes : outcome rule four w ≡ GoesOn
    block-goes =
        let fewer = empties_of-put b (mover b) p lawful.board (GoesOn-empty rule b p on) in
        sym (outcome-more rule four w (one-empty rule four (other (mover four)) w one_of) (ap (has_five rule four) turn ∙ safe) calm_of
        (empties_of four) refl (λ last. omega arith))

    block-is : One w ≡ fate rule four
    unfolding fate
    block-is = sym (ap (λ r. cond r Lost (by_fives rule four (five_points rule four (other (mover four)))))
        (ap (has_five rule four) turn ∙ safe) ∙ ap (by_fives rule four) (short-one w _ one_of) ∙ ap (by_block w) block-goes)

    answer-is : (budget : ℕ) → found_at rule 1 (after four w) budget ≡ found_answering rule 1 four budget
    unfolding found_as positions
    answer-is budget = by_answer rule four budget 1 (One w) block-is

    counted-one : (budget : ℕ) → found_by budget 1 false [] ≡ found_behind rule 1 b p budget
    counted-one budget = by_test (nat_le 1 budget) refl where
      by_test : (r : Bool) → nat_le 1 budget ≡ r → cond r (NoWin (budget - 1)) Spent ≡ found_behind rule 1 b p budget
      by_test true e = behind-no_win rule 1 b p budget (budget - 1)
          (block-last rule four w (IsPosition-after rule b p lawful on) block-goes one_of 1 budget refl (grind (arith, nat_tests)) calm_of
          ∙ answer-is budget)
      by_test false e = behind-else rule 1 b p budget Spent (λ left line h. cc)
          (found-nothing rule 1 budget (after four w) (grind (arith, nat_tests)) ∙ answer-is budget)

  -- with one move left it is counted, and nothing is found
  pub behind-last : (made : FivePoints) (moves budget : ℕ) → made ≡ in_short (five_points rule four (mover b)) → HasCalmBlock rule b made
      → moves ≡ 1 → cond (nat_le 1 budget) (NoWin (budget - 1)) Spent ≡ found_behind rule moves b p budget
  behind-last NoPoint moves budget told calm one = absurd calm
  behind-last (OnePoint w) moves budget told calm one = counted-one w told calm.0 calm.1 budget
      ∙ ap (λ m. found_behind rule m b p budget) (sym one)
  behind-last Several moves budget told calm one = absurd calm

-- ---- which moves are fours

module _ (rule : RuleKind) (n : ℕ) (b : Grid) (p : Point) (budget : ℕ) where
  pub trying-no_five : has_five rule (after b p) (mover b) ≡ false → NoWin budget ≡ found_trying rule n b p budget
  trying-no_five h = sym (trying-no_four rule n b p budget (none-no_four rule b p h))

  -- nor is one that does not go on
  pub trying-else : (outcome rule b p ≡ GoesOn → ⊥) → NoWin budget ≡ found_trying rule n b p budget
  unfolding is_four_move
  trying-else h = sym (trying-no_four rule n b p budget no_four) where
    no_four : is_four_move rule b p ≡ false
    no_four = goes_on_with-else (outcome rule b p) (has_five rule (after b p) (mover b)) h

  pub trying-goes : has_five rule (after b p) (mover b) ≡ true → outcome rule b p ≡ GoesOn
      → found_behind rule n b p budget ≡ found_trying rule n b p budget
  unfolding is_four_move
  trying-goes some on = sym (trying-four rule n b p budget (ap (λ o. goes_on_with o (has_five rule (after b p) (mover b))) on ∙ some))

makes-no_four : (rule : RuleKind) (b : Grid) (p : Point) → makes rule b p ≡ false → is_four_move rule b p ≡ false
makes-no_four rule b p h = by_empty (is_empty b p) refl where
  by_empty : (r : Bool) → is_empty b p ≡ r → is_four_move rule b p ≡ false
  by_empty true e = none-no_four rule b p (sym (ap (λ r. r && has_five rule (after b p) (mover b)) e) ∙ h)
  by_empty false e = taken-no_four rule b p e

module _ (rule : RuleKind) (b : Grid) (lawful : IsPosition rule b) where
  -- of all points only these need be tried
  pub try-four_points : (n left : ℕ) → try_all rule n b left (map (λ m. m.at) (four_points_of rule b)) ≡ try_all rule n b left (points_of b)
  try-four_points n left =
      ap (try_all rule n b left) (at-told rule b (filter (makes rule b) (points_of b)))
      ∙ sym (try_all-filter rule n b lawful (makes rule b) (λ p l e. trying-no_four rule n b p l (makes-no_four rule b p e)) left
      (points_of b))

  -- what is found by trying all
  pub found-four_points : (ms : List FourPoint) (moves budget : ℕ) → ms ≡ four_points_of rule b → has_five rule b (mover b) ≡ false
      → 0 < moves
      → 0 < budget → try_all rule (moves - 1) b (budget - 1) (map (λ m. m.at) ms) ≡ found_at rule moves b budget
  found-four_points ms moves budget is none some fits =
      ap (λ (xs : List FourPoint). try_all rule (moves - 1) b (budget - 1) (map (λ m. m.at) xs)) is
      ∙ try-four_points (moves - 1) (budget - 1) ∙ found-after rule moves budget b lawful none some fits

  -- each is told with its five points
  pub each-four_point : (ms : List FourPoint) (i : ℕ) (m : FourPoint) → ms ≡ four_points_of rule b → i < length ms
      → (get_or ms i m ≡ four_point_at rule b (get_or ms i m).at) × (makes rule b (get_or ms i m).at ≡ true)
  each-four_point ms i m is within =
      let F : List FourPoint → Type 0 = λ xs. i < length xs → (get_or xs i m ≡ four_point_at rule b (get_or xs i m).at)
      × (makes rule b (get_or xs i m).at ≡ true) in
      subst F (sym is) (each-told rule b (makes rule b) (points_of b) i m) within

  module _ (threat : FivePoints) (told : threat ≡ in_short (five_points rule b (other (mover b)))) (p : Point) where
    -- a point that leaves the defender a five point gives nothing
    pub not_taken : (n left : ℕ) → takes threat p ≡ false → found_trying rule n b p left ≡ NoWin left
    not_taken n left h = trying-lost rule n b lawful p left (λ empty. not_taken-five rule b (mover b) p lawful.board empty threat told h)

    -- one that takes all leaves none
    pub taken-safe : is_empty b p ≡ true → takes threat p ≡ true → has_five rule (after b p) (other (mover b)) ≡ false
    taken-safe empty h = taken-none rule b (mover b) p lawful.board empty threat told h

  -- where no four can be made nothing is found
  pub ruled-out : (threat : FivePoints) → threat ≡ in_short (five_points rule b (other (mover b))) → (moves budget : ℕ)
      → has_five rule b (mover b) ≡ false → 0 < moves → 0 < budget → RulesOut rule b threat
      → NoWin (budget - 1) ≡ found_at rule moves b budget
  ruled-out NoPoint e moves budget none some fits h = absurd h
  ruled-out (OnePoint w) e moves budget none some fits h =
      trying-no_five rule (moves - 1) b w (budget - 1) h ∙ found-one rule moves budget b lawful none some fits w (sym e)
  ruled-out Several e moves budget none some fits h = found-several rule moves budget b lawful none some fits (sym e)
