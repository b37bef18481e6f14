-- Laws of won games: a stronger demand is a stronger win, more moves are no harder, the test and the fact agree, and one side alone wins.
use Rattle.std.proofs.Common.{rules, ◌≡◌, ℕ, zero, suc, ◌≤◌, Bool, true, false, refl, sym, subst, arith, cond, ◌∙◌, ◌<◌, ◌≢◌, ◌&&◌, find}
use Rattle.std.proofs.Common.{Some}
use Rattle.std.specs.List.{list_all}
use Rattle.std.proofs.lemmas.Bool.{or_left}
use Rattle.game_rules.proofs.Common.{Grid, is_on, points_of, outcome, mover, after, WinsOr, LosesOr, WinsUnder, WinsWithin, WinsByFours}
use Rattle.game_rules.proofs.Common.{WinsByThreats, has_five, has_threat, wins_or, loses_or, starts_win, wins_under, wins_by_fours}
use Rattle.game_rules.proofs.Common.{four_move, five, RuleKind, Side, Outcome, Point, Wins, GoesOn, Wins as WinsNow}
use Rattle.game_rules.proofs.Boards.{and_left, and_right, is_empty-on}
use Rattle.game_rules.proofs.Points.{points-found, any_witness, all_of, all_at, off_refused, WinsOr-on}
use Rattle.game_rules.proofs.Outcomes.{five-outcome, outcome-five}
use Rattle.game_rules.proofs.Places.{find-passes}
use Rattle.game_rules.proofs.Fives.{five-empty}

-- ---- one step, whatever the outcome

pub WinsOr-map : (o : Outcome) (V W : Type 0) → (V → W) → WinsOr o V → WinsOr o W
WinsOr-map o V W f h = search rules

pub LosesOr-map : (o : Outcome) (V W : Type 0) → (V → W) → LosesOr o V → LosesOr o W
LosesOr-map o V W f h = search rules

-- ---- stronger and longer wins

-- a win is one within more moves
pub WinsUnder-more : (demand : Grid → Side → Bool) (rule : RuleKind) (n m : ℕ) (b : Grid) → n ≤ m → WinsUnder demand rule n b
    → WinsUnder demand rule m b
WinsUnder-more demand rule zero m b l h = absurd h
WinsUnder-more demand rule (suc n) zero b l h = absurd (omega arith)
WinsUnder-more demand rule (suc n) (suc m) b l h = (
  h.0,
  WinsOr-map (outcome rule b h.0) _ _ (λ w. (
    w.0,
    λ q. LosesOr-map (outcome rule (after b h.0) q) _ _ (WinsUnder-more demand rule n m (after (after b h.0) q) (omega arith)) (w.1 q),
  )) h.1,
)

-- a win under a demand is one under each demand that follows from it
pub WinsUnder-weaker : (strong weak : Grid → Side → Bool) → ((c : Grid) (s : Side) → strong c s ≡ true → weak c s ≡ true)
    → (rule : RuleKind) (n : ℕ) (b : Grid) → WinsUnder strong rule n b → WinsUnder weak rule n b
WinsUnder-weaker strong weak implies rule zero b h = h
WinsUnder-weaker strong weak implies rule (suc n) b h = (
  h.0,
  WinsOr-map (outcome rule b h.0) _ _ (λ w. (
    implies _ _ w.0,
    λ q. LosesOr-map (outcome rule (after b h.0) q) _ _ (WinsUnder-weaker strong weak implies rule n (after (after b h.0) q)) (w.1 q),
  )) h.1,
)

-- a win by fours is a win by threats, and that is a win
pub WinsByFours-WinsByThreats : (rule : RuleKind) (n : ℕ) (b : Grid) → WinsByFours rule n b → WinsByThreats rule n b
WinsByFours-WinsByThreats rule n b h = search (rules, WinsUnder-weaker, or_left)

pub WinsUnder-WinsWithin : (demand : Grid → Side → Bool) (rule : RuleKind) (n : ℕ) (b : Grid) → WinsUnder demand rule n b
    → WinsWithin rule n b
WinsUnder-WinsWithin demand rule n b h = WinsUnder-weaker demand (λ c s. true) (λ c s e. refl) rule n b h

-- ---- the test and the fact

pub wins_or-WinsOr : (o : Outcome) (w : Bool) (W : Type 0) → (w ≡ true → W) → wins_or o w ≡ true → WinsOr o W
wins_or-WinsOr o w W f h = search rules

pub WinsOr-wins_or : (o : Outcome) (w : Bool) (W : Type 0) → (W → w ≡ true) → WinsOr o W → wins_or o w ≡ true
WinsOr-wins_or o w W f h = search rules

pub loses_or-LosesOr : (o : Outcome) (w : Bool) (W : Type 0) → (w ≡ true → W) → loses_or o w ≡ true → LosesOr o W
loses_or-LosesOr o w W f h = search rules

pub LosesOr-loses_or : (o : Outcome) (w : Bool) (W : Type 0) → (W → w ≡ true) → LosesOr o W → loses_or o w ≡ true
LosesOr-loses_or o w W f h = search rules

-- where the test of each reply on the board holds, each reply loses
pub each_reply : (rule : RuleKind) (c : Grid) (next : Grid → Bool) (W : Grid → Type 0) → ((d : Grid) → next d ≡ true → W d)
    → list_all (λ q. loses_or (outcome rule c q) (next (after c q))) (points_of c) ≡ true → (q : Point)
    → LosesOr (outcome rule c q) (W (after c q))
each_reply rule c next W f all q = search (rules, loses_or-LosesOr, all_at, off_refused)

pub test-WinsUnder : (demand : Grid → Side → Bool) (rule : RuleKind) (n : ℕ) (b : Grid) → wins_under demand rule n b ≡ true
    → WinsUnder demand rule n b
unfolding wins_under
test-WinsUnder demand rule zero b h = cc
test-WinsUnder demand rule (suc n) b h =
    let move = any_witness (starts_win demand rule b (wins_under demand rule n)) (points_of b) h in (
      move.0,
      wins_or-WinsOr (outcome rule b move.0) _ _ (λ w. (
        and_left _ _ w,
        each_reply rule (after b move.0) (wins_under demand rule n) (WinsUnder demand rule n) (λ d. test-WinsUnder demand rule n d)
            (and_right (demand (after b move.0) (mover b)) _ w),
      )) move.1,
    )

pub WinsUnder-test : (demand : Grid → Side → Bool) (rule : RuleKind) (n : ℕ) (b : Grid) → WinsUnder demand rule n b
    → wins_under demand rule n b ≡ true
unfolding wins_under
WinsUnder-test demand rule zero b h = absurd h
WinsUnder-test demand rule (suc n) b h = points-found b (starts_win demand rule b (wins_under demand rule n)) h.0
    (WinsOr-on rule b h.0 _ h.1) (WinsOr-wins_or (outcome rule b h.0) _ _ (λ w. rw (w.0) (all_of _ (points_of b) (λ q.
    LosesOr-loses_or (outcome rule (after b h.0) q) _ _ (WinsUnder-test demand rule n (after (after b h.0) q)) (w.1 q)))) h.1)

pub WinsWithin-more : (rule : RuleKind) (n m : ℕ) (b : Grid) → n ≤ m → WinsWithin rule n b → WinsWithin rule m b
WinsWithin-more rule n m b l h = WinsUnder-more (λ c s. true) rule n m b l h

pub five-starts : (rule : RuleKind) (b : Grid) (next : Grid → Bool) (p : Point) → five rule b (mover b) p ≡ true
    → starts_win (has_five rule) rule b next p ≡ true
five-starts rule b next p h = let wins : outcome rule b p ≡ Wins = five-outcome rule b p h in rw wins refl

pub none_in_zero : (rule : RuleKind) (b : Grid) → wins_by_fours rule zero b ≡ false
unfolding wins_under
none_in_zero rule b = refl

pub no_move : (rule : RuleKind) (b : Grid) (p : Point) → four_move rule zero b ≡ Some p → ⊥
unfolding four_move
no_move rule b p h = cc

-- where it goes on there is no five point
pub goes_on-no_five : (rule : RuleKind) (n : ℕ) (b : Grid) (p : Point) → four_move rule n b ≡ Some p → outcome rule b p ≡ GoesOn
    → has_five rule b (mover b) ≡ false
unfolding four_move
goes_on-no_five rule zero b p chosen go = cc
goes_on-no_five rule (suc n) b p chosen go = by_five (has_five rule b (mover b)) chosen where
  by_five : (r : Bool) → cond r (find (five rule b (mover b)) (points_of b))
      (find (starts_win (has_five rule) rule b (wins_by_fours rule n)) (points_of b)) ≡ Some p → r ≡ false
  by_five true h =
      let wins : outcome rule b p ≡ WinsNow = five-outcome rule b p (find-passes (five rule b (mover b)) (points_of b) p h) in
      let bad : WinsNow ≡ GoesOn = sym wins ∙ go in cc
  by_five false h = refl

pub wins-some : (rule : RuleKind) (n : ℕ) (b : Grid) → wins_by_fours rule n b ≡ true → 0 < n
unfolding wins_under
wins-some rule n b h = search rules

pub five-threats : (rule : RuleKind) (b : Grid) (w : Point) (n : ℕ) → five rule b (mover b) w ≡ true → 1 ≤ n → WinsByThreats rule n b
five-threats rule b w zero h l = absurd (omega arith)
five-threats rule b w (suc n) h l = (
  w,
  subst (λ (o : Outcome). WinsOr o ((has_threat rule (after b w) (mover b) ≡ true)
      × ((q : Point) → LosesOr (outcome rule (after b w) q) (WinsByThreats rule n (after (after b w) q)))))
      (sym (five-outcome rule b w h)) tt,
)

pub five-wins : (rule : RuleKind) (b : Grid) (n : ℕ) → has_five rule b (mover b) ≡ true → wins_by_fours rule (suc n) b ≡ true
unfolding wins_under
five-wins rule b n h =
    let found = any_witness (five rule b (mover b)) (points_of b) h in
    points-found b (starts_win (has_five rule) rule b (wins_under (has_five rule) rule n)) found.0
    (is_empty-on b found.0 (five-empty rule b (mover b) found.0 found.1))
    (five-starts rule b (wins_under (has_five rule) rule n) found.0 found.1)

-- where the test finds no win there is none
pub no-win : (rule : RuleKind) (n : ℕ) (b : Grid) → wins_by_fours rule n b ≡ false → WinsByFours rule n b → ⊥
no-win rule n b none win = search (rules, WinsUnder-test)

pub win-has_five : (rule : RuleKind) (b : Grid) (p : Point) → outcome rule b p ≡ Wins → has_five rule b (mover b) ≡ true
win-has_five rule b p h = search (rules, outcome-five, points-found, is_empty-on, five-empty)

no_win_left : (o : Outcome) (d : Bool) → o ≢ WinsNow → wins_or o (d && false) ≡ false
no_win_left o d h = search rules

no_win_right : (o : Outcome) (l : Bool) → o ≢ WinsNow → wins_or o (false && l) ≡ false
no_win_right o l h = search rules

module _ (rule : RuleKind) (demand : Grid → Side → Bool) (c : Grid) (next : Grid → Bool) (p : Point)
    (quiet : outcome rule c p ≢ WinsNow) where
  -- the demand is not met
  pub no_start-demand : demand (after c p) (mover c) ≡ false → starts_win demand rule c next p ≡ false
  no_start-demand e = search (rules, no_win_right)

  -- the reply q goes on, and there is no win after it
  pub no_start-reply : (q : Point) → is_on c q ≡ true → outcome rule (after c p) q ≡ GoesOn → next (after (after c p) q) ≡ false
      → starts_win demand rule c next p ≡ false
  no_start-reply q on e none = search (rules, no_win_left, all_at)

-- ---- one side alone wins

-- a move that wins the game for one side is a reply that does not lose it for the other
wins-meets : (o : Outcome) (V W : Type 0) → WinsOr o V → LosesOr o W → V × W
wins-meets o V W v w = search rules

-- where the side to move wins, the other side has no win whatever is played first, of whatever kind and within however many moves
pub one-winner : (first second : Grid → Side → Bool) (rule : RuleKind) (n m : ℕ) (b : Grid) → WinsUnder first rule n b
    → ((q : Point) → LosesOr (outcome rule b q) (WinsUnder second rule m (after b q))) → ⊥
one-winner first second rule zero m b wins loses = wins
one-winner first second rule (suc n) zero b wins loses = (wins-meets (outcome rule b wins.0) _ _ wins.1 (loses wins.0)).1
one-winner first second rule (suc n) (suc m) b wins loses =
    let met = wins-meets (outcome rule b wins.0) _ _ wins.1 (loses wins.0) in
    let next = wins-meets (outcome rule (after b wins.0) met.1.0) _ _ met.1.1 (met.0.1 met.1.0) in
    one-winner first second rule n m (after (after b wins.0) met.1.0) next.1 next.0.1
