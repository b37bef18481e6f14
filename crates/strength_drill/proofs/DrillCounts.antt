-- The counts of a drill: each table of a win may be held, each game is won, a number has one drill; and what the calls say of a position.
use Rattle.std.proofs.Common.{Option, Some, None, All, find, ◌≡◌, ◌⊎◌, inl, inr, refl, sym, ap, subst, ◌∙◌, ℕ, zero, suc, ◌+◌, ◌*◌, ◌<◌}
use Rattle.std.proofs.Common.{◌≤◌, Bool, true, false, cond, nat_le, List, [], ◌∷◌, length, add-one, arith, ◌++◌, rules}
use Rattle.std.specs.List.{range_with_len}
use Rattle.std.proofs.lemmas.Bool.{cases_lt, lt-ltb}
use Rattle.std.proofs.lemmas.Bool.Decides.{nat_tests}
use Rattle.strength_drill.proofs.Common.{Grid, IsPosition, outcome, after, RuleKind, GoesOn, Point, Node, Attack, last, HeldTable, IsHeld}
use Rattle.strength_drill.proofs.Common.{FourTable, Done, Turn, Game, InGame, State, new_brain, brain_step, Counts, DEPTH, BUDGET, SIDE}
use Rattle.strength_drill.proofs.Common.{next_number, drawn, number_after, position_drawn, rule_at, held_at, position_lines, move_said}
use Rattle.strength_drill.proofs.Common.{drawn_move, told_all, state_begun, is_ended, after_turns, is_won, IsPlayedOut, IsGamePlayed, Found}
use Rattle.strength_drill.proofs.Common.{WinIn, NoWin, OverBudget, found_by, found_within, no_counts, together, IsHoldable, PlaysGame}
use Rattle.strength_drill.proofs.Common.{IsNotHeld, ComesOf, IsShare, AreCounts, IsCounted, AreOnlyCounts, AreWithin}
use Rattle.game_rules.proofs.Common.{wins_by_fours}
use Rattle.strategy_graph.proofs.Common.{Accepted, arrivals, root_below}
use Rattle.strategy_graph.proofs.Following.{accepted-in_table}
use Rattle.strategy_compiler.proofs.Common.{IsTableOf}
use Rattle.strategy_compiler.proofs.Unique.{one-table}
use Rattle.strategy_checker.specs.HeldRoots.{IsHeldRoot}
use Rattle.strategy_checker.specs.declared.held.HeldRoot.{HeldRoot}
use Rattle.four_search.specs.Answers.{IsWithoutFours}
use Rattle.four_search.specs.FewestWins.{IsFoundTable}
use Rattle.four_search.specs.FourGame.{four_cost, least_moves}
use Rattle.four_search.specs.Plans.{four_plan}
use Rattle.four_search.proofs.Written.{least-none, least-wins, plan-written}
use Rattle.brain_session.specs.declared.TheConstants.{BRAIN_WORK}
use Rattle.strength_drill.specs.declared.positions.TheConstants.{DRAWN_POINTS}
use Rattle.strength_drill.proofs.DrillMaking.{board-wide, board-high, board-lawful}
use Rattle.strength_drill.proofs.DrillTurns.{IsOver, attacks, over-now, ended-now, going-now}
use Rattle.strength_drill.proofs.DrillCourse.{IsOpened, opened, IsAtTurn, turn-none, course-first, outcome-at, met, then_state, course-next}

-- ---- what a search finds

module _ (depth budget : ℕ) (rule : RuleKind) (b : Grid) where
  found-by : (r : Bool) → nat_le (four_cost rule depth b) budget ≡ r
      → found_within depth budget rule b ≡ cond r (found_by (least_moves rule depth b)) OverBudget
  unfolding found_within
  found-by r e = ap (λ (t : Bool). cond t (found_by (least_moves rule depth b)) OverBudget) e

  within : four_cost rule depth b ≤ budget → found_within depth budget rule b ≡ found_by (least_moves rule depth b)
  within fits = found-by true (grind (arith, nat_tests))

  pub found-win : (moves : ℕ) → four_cost rule depth b ≤ budget → least_moves rule depth b ≡ Some moves
      → found_within depth budget rule b ≡ WinIn moves
  found-win moves fits least = within fits ∙ ap found_by least

  pub found-none : wins_by_fours rule depth b ≡ false → four_cost rule depth b ≤ budget → found_within depth budget rule b ≡ NoWin
  found-none none fits = within fits ∙ ap found_by (least-none rule depth b none)

  found-least : (moves : ℕ) → found_within depth budget rule b ≡ WinIn moves → least_moves rule depth b ≡ Some moves
  found-least moves e = by_test (nat_le (four_cost rule depth b) budget) refl where
    by_least : (o : Option ℕ) → found_by o ≡ WinIn moves → o ≡ Some moves
    by_least None f = cc
    by_least (Some m) f = let same : m ≡ moves = cc in ap (λ (k : ℕ). Some k) same

    by_test : (r : Bool) → nat_le (four_cost rule depth b) budget ≡ r → least_moves rule depth b ≡ Some moves
    by_test true t = by_least (least_moves rule depth b) (sym (found-by true t) ∙ e)
    by_test false t = let wrong : OverBudget ≡ WinIn moves = sym (found-by false t) ∙ e in cc

-- a number that is found in a range is one of it
find-below : (f : ℕ → Bool) (d a m : ℕ) → find f (range_with_len a d) ≡ Some m → m < a + d
find-below f zero a m h = cc
find-below f (suc d) a m h = search (rules, find-below f d (a + 1) m)

least-within : (rule : RuleKind) (depth : ℕ) (b : Grid) (moves : ℕ) → least_moves rule depth b ≡ Some moves → moves ≤ depth
least-within rule depth b moves h = let low = find-below (λ k. wins_by_fours rule k b) depth 1 moves h in omega (arith, low)

-- ---- each table of a win may be held

-- few arrivals: as many as a board of the drill has points for each move
few-arrivals : (w g m a : ℕ) → w ≡ SIDE → g ≡ SIDE → m ≤ DEPTH → a ≤ w * g * m → a ≤ BRAIN_WORK
few-arrivals w g m a wide high low short = search rules

pub win-holdable : (rule : RuleKind) (b : Grid) → IsPosition rule b → b.width ≡ SIDE → b.height ≡ SIDE → (moves : ℕ)
    → found_within DEPTH BUDGET rule b ≡ WinIn moves → (t : List Node) → IsTableOf (four_plan rule moves b) t → IsHoldable rule b t
win-holdable rule b lawful wide high moves found t table =
    let least = found-least DEPTH BUDGET rule b moves found in
    let written = plan-written rule t table.table moves (last t) b lawful (least-wins rule DEPTH b moves least) table.stands in
    record {
      accepted = written.accepted;
      within = few-arrivals b.width b.height moves _ wide high (least-within rule DEPTH b moves least) written.short;
    }

-- ---- each game is won

-- after so many turns, none of which found the game ended, the brain has made a move by the table, or the game is over
AtOrOver : HeldTable → RuleKind → Grid → ℕ → ℕ → Type 0
AtOrOver h rule b n k =
    ((number : ℕ) × (c : Grid) × (at : Point) × IsAtTurn h rule b n (after_turns (state_begun h rule b) n k) number c at k)
    ⊎ IsOver (after_turns (state_begun h rule b) n k) k

over-ended : (s : State) (k : ℕ) → IsOver s k → is_ended s.place ≡ true
over-ended s k over = ap is_ended over.place ∙ over.ended

-- the game of an ended place is the one that is over
over-won : (s : State) (k : ℕ) (g : Game) → IsOver s k → s.place ≡ InGame g → is_won g ≡ true
over-won s k g over at = search rules

differ : (r : Bool) → r ≡ true → r ≡ false → ⊥
differ r on off = let wrong : true ≡ false = sym on ∙ off in cc

module _ (h : HeldTable) (rule : RuleKind) (b : Grid) (n : ℕ)
    (open_ : IsOpened h rule b (brain_step (told_all (new_brain h) (position_lines rule b)) Done)) where
  abbrev begun : State
  begun = state_begun h rule b

  -- one turn more
  module _ (k number : ℕ) (c : Grid) (at : Point) (t : IsAtTurn h rule b n (after_turns begun n k) number c at k)
      (on : outcome rule c at ≡ GoesOn) where
    abbrev now : State
    now = after_turns begun n k

    abbrev q : Point
    q = drawn_move (after c at) (drawn (next_number number))

    more-turns : AtOrOver h rule b n (k + 1)
    unfolding AtOrOver
    more-turns =
        let then =
        then_state h rule b n now number c at k t on (after c at) refl (next_number number) (drawn (next_number number)) refl refl q refl in
        elim (met h rule b n now number c at k t on (after c at) refl (next_number number) (drawn (next_number number)) refl refl q refl) [
          | inl foul ↦ inr (rw then at foul.over)
          | inr answer ↦ inl (
            next_number number,
            after (after c at) q,
            answer.playing.node.attack,
            course-next h rule b n now number c at k t on
                (after c at) refl (next_number number) (drawn (next_number number)) refl refl q refl (after_turns begun n (k + 1))
                (brain_step now (Turn q.x q.y)).reaction (sym then) refl answer.playing.node.attack (ap move_said answer.says),
          )
        ]

  at-or-over : (k : ℕ) → ((j : ℕ) → j < k → is_ended (after_turns begun n j).place ≡ false) → AtOrOver h rule b n k
  unfolding AtOrOver
  at-or-over zero before =
      let first = turn-none begun n in
      inl (
        n,
        b,
        open_.playing.node.attack,
        course-first h rule b n (brain_step (told_all (new_brain h) (position_lines rule b)) Done)
            (after_turns begun n 0) n b open_.playing.node.attack refl open_ first refl refl (ap move_said open_.says),
      )
  at-or-over (suc k) before = subst (AtOrOver h rule b n) (add-one k) (elim (at-or-over k (λ j less. before j (omega (arith, less)))) [
    | inl at ↦ elim (attacks h rule (after_turns begun n k) k at.3.playing) [
      | inl wins ↦ absurd (differ _ (ended-now h rule (after_turns begun n k) k at.3.playing wins) (before k (omega arith)))
      | inr on ↦ more-turns k at.0 at.1 at.2 at.3 (outcome-at h rule b n (after_turns begun n k) at.0 at.1 at.2 k at.3 ∙ on)
    ]
    | inr over ↦ absurd (differ _ (over-ended (after_turns begun n k) k over) (before k (omega arith)))
  ])

  -- the game that is played out is won
  played-won : (turns : ℕ) (g : Game) → IsPlayedOut begun n turns g → is_won g ≡ true
  unfolding AtOrOver
  played-won turns g played = elim (at-or-over turns played.no_sooner) [
    | inl at ↦ elim (attacks h rule (after_turns begun n turns) turns at.3.playing) [
      | inl wins ↦ over-won (after_turns begun n turns) (turns + 1) g (over-now h rule (after_turns begun n turns) turns at.3.playing wins)
          played.game
      | inr on ↦ absurd (differ _ (ap is_ended played.game ∙ played.ended)
          (going-now h rule (after_turns begun n turns) turns at.3.playing on))
    ]
    | inr over ↦ over-won (after_turns begun n turns) turns g over played.game
  ]

-- a brain may hold the table with this one root
pub held-one : (rule : RuleKind) (b : Grid) (t : List Node) → IsPosition rule b → Accepted rule t (last t) b → IsHeld (held_at rule b t)
held-one rule b t lawful accepted = record {
  roots = one
      (record { lawful = lawful; below = lt-ltb (last t) (length t) (accepted-in_table rule t (last t) b accepted); accepted = accepted });
  few = omega arith;
} where
  one : IsHeldRoot t (record { root = Attack (last t); kind = rule; board = b })
      → All (IsHeldRoot t) (record { root = Attack (last t); kind = rule; board = b } ∷ [])
  one held zero d less = held
  one held (suc k) d less = absurd (omega (arith, less))

pub game-won : (rule : RuleKind) (b : Grid) (t : List Node) → IsPosition rule b → b.width ≡ SIDE → b.height ≡ SIDE → IsHoldable rule b t
    → (n moves : ℕ) (won : Bool) (u : ℕ) → IsGamePlayed (state_begun (held_at rule b t) rule b) n moves won u → won ≡ true
game-won rule b t lawful wide high can n moves won u played = played.ends ∙ played-won (held_at rule b t) rule b n
    (opened (held_at rule b t) rule b (last t) wide high lawful (held-one rule b t lawful can.accepted) refl) played.turns played.game
    played.played

-- ---- one game

turns-same : (s : State) (n j k : ℕ) (g e : Game) → IsPlayedOut s n j g → IsPlayedOut s n k e → j ≡ k
turns-same s n j k g e first second = search (rules, cases_lt)

-- its moves, whether it is won, and the number after it
pub record IsSame (m k : ℕ) (won lost : Bool) (u v : ℕ) : Type 0 where
  pub moves : m ≡ k
  pub ends : won ≡ lost
  pub number : u ≡ v

game-one : (s : State) (n m k : ℕ) (won lost : Bool) (u v : ℕ) → IsGamePlayed s n m won u → IsGamePlayed s n k lost v
    → IsSame m k won lost u v
game-one s n m k won lost u v first second = search (rules, turns-same)

-- ---- what comes of a position

-- each table of these counts is accepted, and each game of them is won
abbrev pub AreAllWon : Counts → Type 0
AreAllWon c = (c.accepted ≡ c.wins) × (c.games ≡ c.wins)

-- the counts of a win whose game has so many moves, and is won or not
abbrev pub win_counts : ℕ → Bool → Counts
win_counts moves won = record no_counts { wins = 1; accepted = 1; games = cond won 1 0; moves = moves }

module _ (rule : RuleKind) (n : ℕ) where
  abbrev b : Grid
  b = position_drawn rule n

  lawful : IsPosition rule b
  lawful = board-lawful rule n DRAWN_POINTS

  wide : b.width ≡ SIDE
  wide = board-wide rule n DRAWN_POINTS

  high : b.height ≡ SIDE
  high = board-high rule n DRAWN_POINTS

  plays-won : (t : List Node) (s : ℕ) (c : Counts) (u : ℕ) → PlaysGame rule b t s c u → AreAllWon c
  plays-won t s c u plays =
      let won = game-won rule b t lawful wide high plays.holdable s plays.moves plays.won u plays.game in
      rw plays.counts (refl, ap (λ (r : Bool). cond r 1 0) won)

  comes-won : (f : Found) → found_within DEPTH BUDGET rule b ≡ f → (s : ℕ) (c : Counts) (u : ℕ) → ComesOf rule b f s c u → AreAllWon c
  comes-won (WinIn moves) e s c u comes = by_game comes.2 where
    by_game : PlaysGame rule b comes.0 s c u ⊎ IsNotHeld rule b comes.0 s c u → AreAllWon c
    by_game (inl plays) = plays-won comes.0 s c u plays
    by_game (inr refused) = absurd (refused.refused (win-holdable rule b lawful wide high moves e comes.0 comes.1))
  comes-won NoWin e s c u comes = subst AreAllWon (sym comes.0) (refl, refl)
  comes-won OverBudget e s c u comes = subst AreAllWon (sym comes.0) (refl, refl)

  pub share-one : (c d : Counts) (u v : ℕ) → IsShare rule n c u → IsShare rule n d v → (c ≡ d) × (u ≡ v)
  share-one c d u v first second = search (rules, one-table, game-one, win-holdable)

-- ---- all positions

-- no position yet, and one more
pub counts-none : (n s : ℕ) → s ≡ n → AreCounts n 0 no_counts s
unfolding AreCounts
counts-none n s same = (refl, same)

pub counts-more : (n i : ℕ) (before share c : Counts) (r s : ℕ) → AreCounts n i before r → IsShare (rule_at i) r share s
    → c ≡ together before share → AreCounts n (i + 1) c s
unfolding AreCounts
counts-more n i before share c r s counts is sum = search (add-one)

pub counts-won : (n i : ℕ) (c : Counts) (s : ℕ) → AreCounts n i c s → AreAllWon c
unfolding AreCounts
counts-won n zero c s h = subst AreAllWon (sym h.0) (refl, refl)
counts-won n (suc i) c s h = search (rules, comes-won, counts-won n i h.0 h.2 h.3)

pub counts-one : (n i : ℕ) (c d : Counts) (s r : ℕ) → AreCounts n i c s → AreCounts n i d r → (c ≡ d) × (s ≡ r)
unfolding AreCounts
counts-one n zero c d s r first second = (first.0 ∙ sym second.0, first.1 ∙ sym second.1)
counts-one n (suc i) c d s r first second = search (rules, share-one, counts-one n i first.0 second.0 first.2 second.2 first.3 second.3)

pub only-counts : (n : ℕ) (c : Counts) → IsCounted n c → AreOnlyCounts n c
only-counts n c is = search (rules, counts-one, counts-won)

-- ---- the table of a win

-- the last node is one of the table
pub node-below : (t u : List Node) (i : ℕ) → u ≡ t → i < length t → root_below (Attack i) (length u) ≡ true
node-below t u i same low = lt-ltb i (length u) (let e : length u ≡ length t = ap length same in omega (arith, e, low))

-- the root that was added to the table is its last node, at the board
pub held-as : (rule : RuleKind) (b c : Grid) (t : List Node) (i : ℕ) (new old : HeldTable)
    → c ≡ b → i ≡ last t → old.table ≡ t → old.roots ≡ [] → new.table ≡ old.table
    → new.roots ≡ old.roots ++ (let r : HeldRoot = record { root = Attack i; kind = rule; board = c } in r) ∷ [] → new ≡ held_at rule b t
held-as rule b c t i new old board node table none kept added = search rules

-- node i is accepted at the board, and has few arrivals
abbrev pub IsHeldNode : RuleKind → List Node → ℕ → Grid → Type 0
IsHeldNode rule t i b = Accepted rule t i b × (arrivals rule t i b ≤ BRAIN_WORK)

-- the table may be held where its last node was found to be so, and only there
pub holdable-as : (rule : RuleKind) (b c : Grid) (t u : List Node) (i : ℕ) → c ≡ b → i ≡ last t → u ≡ t → IsHeldNode rule u i c
    → IsHoldable rule b t
holdable-as rule b c t u i board node table held = search rules

-- what comes of a table that is held, by the game that is played by it
pub plays-as : (rule : RuleKind) (b : Grid) (t : List Node) (s : ℕ) (c : Counts) (u moves : ℕ) (won : Bool) (h : HeldTable)
    → h ≡ held_at rule b t → IsHoldable rule b t → IsGamePlayed (state_begun h rule b) s moves won u → c ≡ win_counts moves won
    → PlaysGame rule b t s c u
plays-as rule b t s c u moves won h held can game counts =
    record { holdable = can; moves = moves; won = won; game = rw held at game; counts = counts }

-- the counts of one win
pub win-within : (moves : ℕ) (won : Bool) → moves ≤ 225 → AreWithin 1 (win_counts moves won)
win-within moves won few = search rules

-- ---- the position

-- what comes of the board, by what is found there
module _ (rule : RuleKind) (b : Grid) (s : ℕ) (c : Counts) (u : ℕ) where
  by-found : (f : Found) → found_within DEPTH BUDGET rule b ≡ f → ComesOf rule b f s c u
      → ComesOf rule b (found_within DEPTH BUDGET rule b) s c u
  by-found f found comes = rw found comes

  pub comes-win : (made : FourTable) → IsFoundTable rule DEPTH BUDGET b made
      → PlaysGame rule b made.table s c u ⊎ IsNotHeld rule b made.table s c u → ComesOf rule b (found_within DEPTH BUDGET rule b) s c u
  comes-win made is tried =
      by-found _ (found-win DEPTH BUDGET rule b made.moves is.fits is.made.win.least) (made.table, is.made.plan, tried)

  pub comes-none : IsWithoutFours rule DEPTH BUDGET b → c ≡ record no_counts { none = 1 } → u ≡ s
      → ComesOf rule b (found_within DEPTH BUDGET rule b) s c u
  comes-none is counts same = by-found _ (found-none DEPTH BUDGET rule b is.none is.fits) (counts, same)

  pub comes-spent : BUDGET < four_cost rule DEPTH b → c ≡ record no_counts { spent = 1 } → u ≡ s
      → ComesOf rule b (found_within DEPTH BUDGET rule b) s c u
  comes-spent more counts same = search (rules, by-found, found-by)

-- on the board that is drawn it is the share
pub share-as : (rule : RuleKind) (n : ℕ) (b : Grid) (s : ℕ) → b ≡ position_drawn rule n → s ≡ number_after n DRAWN_POINTS → (c : Counts)
    (u : ℕ) → ComesOf rule b (found_within DEPTH BUDGET rule b) s c u → IsShare rule n c u
share-as rule n b s board number c u comes = search rules
