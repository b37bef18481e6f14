-- Games by a win of the brain's own go well: from the command that begins one, the answers to the replies are the chosen moves of the
-- win; and they are the attacks of the table of the win.
use Rattle.std.proofs.Common.{◌≡◌, ℕ, zero, suc, ◌+◌, ◌-◌, ◌≤◌, ◌<◌, Bool, true, false, cond, List, [], ◌∷◌, length, refl, sym, ap, subst}
use Rattle.std.proofs.Common.{◌∙◌, arith, nat_le, Option, Some, None, slice_get, rules, IsSomeAnd, find, option_map, option_and_then}
use Rattle.std.specs.List.{range_with_len}
use Rattle.std.proofs.lemmas.Option.{same_Some}
use Rattle.brain_session.proofs.Common.{Grid, points_of, five, IsPosition, outcome, after, mover, other, WinsOr, LosesOr, has_five}
use Rattle.brain_session.proofs.Common.{wins_by_fours, RuleKind, Foul, Outcome, Refused, Fouls, Draws, GoesOn, Point, HeldTable, Node}
use Rattle.brain_session.proofs.Common.{answers_of, answer, answer_at, is_winning, IsTable, Accepted, NoMove, Open, after_attack, one_later}
use Rattle.brain_session.proofs.Common.{game, attacks, StandsFor, four_plan, four_cost, least_moves, Command, Answer, Move, Error}
use Rattle.brain_session.proofs.Common.{OpponentFoul, OWN_MOVES, OWN_POSITIONS, Says, Followed, OwnWin, Game, board_of, State, new_brain}
use Rattle.brain_session.proofs.Common.{Choice, followed_after, by_following, last_move, chosen, by_followed, first_node, own_win, Step}
use Rattle.brain_session.proofs.Common.{step_by, with_choice, brain_step, state_after, AreReplies, IsWonWithin, replies, answers_to_replies}
use Rattle.brain_session.proofs.Common.{answers_by, turns, BeginsOwnGame, PlaysWin, win_game, win_attacks, win_answers, OwnGameGoesWell}
use Rattle.brain_session.proofs.Common.{OwnGamesGoWell, OwnRepliesAreAnswered}
use Rattle.game_rules.proofs.Common.{starts_win, four_move}
use Rattle.game_rules.specs.declared.Outcome.TheVariants.{Wins as WinsNow}
use Rattle.game_rules.proofs.Boards.{and_right, other-other}
use Rattle.game_rules.proofs.Games.{WinsOr-map, wins_or-WinsOr, each_reply, test-WinsUnder, wins-some}
use Rattle.game_rules.proofs.Outcomes.{five-outcome}
use Rattle.game_rules.proofs.Places.{find-passes}
use Rattle.game_rules.proofs.Positions.{IsPosition-after, mover-then}
use Rattle.strategy_graph.proofs.Common.{End, after_reply, if_node, points_on, points_from}
use Rattle.strategy_graph.proofs.Answering.{IsSomeAnd-elim}
use Rattle.strategy_compiler.proofs.Common.{IsTableOf, last}
use Rattle.four_search.proofs.Written.{four_move-some, plan-attacks, PlanAt, plan-replies, plan-written}
use Rattle.brain_session.proofs.OwnWins.{own_win-wins}
use Rattle.brain_session.proofs.SessionGames.{along-lawful, chosen-followed}
use Rattle.brain_session.proofs.Choosing.{chosen-own}
use Rattle.strategy_graph.proofs.Endings.{none_on}
use Rattle.strategy_graph.proofs.Fuel.{accepted_node}
use Rattle.brain_session.proofs.FollowedGames.{all-answered, foul-later, won-later, state_in, game_then, IsNextTo, IsFollowed, all-go_well}
use Rattle.brain_session.proofs.HeldSteps.{none_left}
use Rattle.brain_session.proofs.HeldReplies.{session_by, supported}
use Rattle.brain_session.proofs.LawfulStates.{LawfulState, IsToMove, LawfulRow, row-lawful, session-lawful, new-lawful}

-- ---- the chosen move of a win by fours

-- each reply at c leads to a win by fours within n moves, or loses at once
abbrev RepliesLose : RuleKind → ℕ → Grid → Type 0
RepliesLose rule n c = (q : Point) → LosesOr (outcome rule c q) (wins_by_fours rule n (after c q) ≡ true)

-- it wins, or goes on and each reply loses
move-wins : (rule : RuleKind) (n : ℕ) (b : Grid) (p : Point) → four_move rule n b ≡ Some p
    → WinsOr (outcome rule b p) (RepliesLose rule (n - 1) (after b p))
unfolding four_move
move-wins rule zero b p h = cc
move-wins rule (suc n) b p h = by_five (has_five rule b (mover b)) h where
  by_five : (r : Bool) → cond r (find (five rule b (mover b)) (points_of b))
      (find (starts_win (has_five rule) rule b (wins_by_fours rule n)) (points_of b)) ≡ Some p
      → WinsOr (outcome rule b p) (RepliesLose rule (suc n - 1) (after b p))
  by_five true e = subst (λ (o : Outcome). WinsOr o (RepliesLose rule (suc n - 1) (after b p)))
      (sym (five-outcome rule b p (find-passes (five rule b (mover b)) (points_of b) p e))) tt
  by_five false e =
      let fewer : n ≡ suc n - 1 = omega arith in
      subst (λ (k : ℕ). WinsOr (outcome rule b p) (RepliesLose rule k (after b p))) fewer
      (wins_or-WinsOr (outcome rule b p) _ (RepliesLose rule n (after b p))
      (λ test. each_reply rule (after b p) (wins_by_fours rule n) (λ c. wins_by_fours rule n c ≡ true) (λ c k. k)
      (and_right (has_five rule (after b p) (mover b)) _ test))
      (find-passes (starts_win (has_five rule) rule b (wins_by_fours rule n)) (points_of b) p e))

-- ---- the answers and the end of the game

-- the answers to the attack p and to these replies are those of the game of the win by fours within n moves from b, which is won within
-- them or open
record GoesByWin (rule : RuleKind) (n : ℕ) (b : Grid) (p : Point) (qs : List Point) (said : List Answer) : Type 0 where
  answers : Move p ∷ said ≡ win_answers rule n b qs
  won : IsWonWithin n (length qs) (win_game rule n b qs)

attacks_are : (rule : RuleKind) (n : ℕ) (b : Grid) (qs ps : List Point) → win_attacks rule n b qs ≡ ps
    → answers_by rule b ps qs ≡ win_answers rule n b qs
attacks_are rule n b qs ps e = ap (λ (l : List Point). answers_by rule b l qs) (sym e)

open_or_won : (o : Outcome) (n : ℕ) → 1 ≤ n → WinsOr o (Unit {0}) → IsWonWithin n 0 (after_attack o Open)
open_or_won o n l h = search rules

module _ (rule : RuleKind) (n : ℕ) (b : Grid) (p : Point) (chosen_is : four_move rule n b ≡ Some p) (some : 1 ≤ n) where
  attacks_none : win_attacks rule n b [] ≡ p ∷ []
  unfolding win_attacks
  attacks_none = rw chosen_is (ap (λ (l : List Point). p ∷ l) (none_on (outcome rule b p) true))

  by_none : WinsOr (outcome rule b p) (Unit {0}) → GoesByWin rule n b p [] []
  unfolding win_game
  by_none wins = search (rules, attacks_are, attacks_none, open_or_won)

  -- the chosen move is the first attack
  attacks_first : (q : Point) (qs : List Point) → (rest : List Point) × (win_attacks rule n b (q ∷ qs) ≡ p ∷ rest)
  unfolding win_attacks
  attacks_first q qs = (
    points_on (outcome rule b p) (points_on (outcome rule (after b p) q) (win_attacks rule (n - 1) (after (after b p) q) qs)),
    rw chosen_is refl,
  )

  module _ (on : outcome rule b p ≡ GoesOn) (q : Point) where
    attacks_foul : (qs : List Point) (f : Foul) → outcome rule (after b p) q ≡ Fouls f → win_attacks rule n b (q ∷ qs) ≡ p ∷ []
    unfolding win_attacks
    attacks_foul qs f e = rw (chosen_is, on, e) refl

    said_foul : (f : Foul) → outcome rule (after b p) q ≡ Fouls f → Move p ∷ Error OpponentFoul ∷ [] ≡ answers_by rule b (p ∷ []) (q ∷ [])
    said_foul f e = rw e refl

    by_foul : (f : Foul) → outcome rule (after b p) q ≡ Fouls f → GoesByWin rule n b p (q ∷ []) (Error OpponentFoul ∷ [])
    unfolding win_game
    by_foul f e = search (rules, said_foul, attacks_are, attacks_foul)

    attacks_next : (qs : List Point) → outcome rule (after b p) q ≡ GoesOn
        → win_attacks rule n b (q ∷ qs) ≡ p ∷ win_attacks rule (n - 1) (after (after b p) q) qs
    unfolding win_attacks
    attacks_next qs e = rw (chosen_is, on, e) refl

    said_next : (qs : List Point) → outcome rule (after b p) q ≡ GoesOn
        → Move p ∷ win_answers rule (n - 1) (after (after b p) q) qs ≡ answers_by rule b
        (p ∷ win_attacks rule (n - 1) (after (after b p) q) qs) (q ∷ qs)
    said_next qs e = search (rules, foul-later)

    won_next : (qs : List Point) → outcome rule (after b p) q ≡ GoesOn
        → IsWonWithin (n - 1) (length qs) (win_game rule (n - 1) (after (after b p) q) qs)
        → IsWonWithin n (suc (length qs)) (win_game rule n b (q ∷ qs))
    unfolding win_game
    won_next qs e h = rw (chosen_is, on, e) (won-later (n - 1) n (length qs) _ (omega (arith, some)) h)

    by_next : (v : Point) (qs : List Point) (said : List Answer) → outcome rule (after b p) q ≡ GoesOn
        → GoesByWin rule (n - 1) (after (after b p) q) v qs said → GoesByWin rule n b p (q ∷ qs) (Move v ∷ said)
    by_next v qs said e h = search (rules, said_next, attacks_are, attacks_next, won_next)

-- ---- the win is followed

-- a win by fours within so many moves, of which this is the chosen move
record OwnAt : Type 0 where
  moves : ℕ
  at : Point

-- where there is such a win in a game, in which the brain is to move
record OwnStands (x : OwnAt) (g : Game) : Type 0 where
  some : 1 ≤ x.moves
  chosen_is : four_move g.rule x.moves (board_of g) ≡ Some x.at
  lawful : IsPosition g.rule (board_of g)
  turn : mover (board_of g) ≡ g.brain

abbrev own_choice : OwnAt → Choice
own_choice x = record { at = x.at; followed = Some (OwnWin x.moves) }

abbrev OwnLegal : OwnAt → Game → List Point → Type 0
OwnLegal x g qs = AreReplies g.rule (board_of g) (win_attacks g.rule x.moves (board_of g) qs) qs

abbrev OwnGoes : OwnAt → Game → List Point → List Answer → Type 0
OwnGoes x g qs said = GoesByWin g.rule x.moves (board_of g) x.at qs said

chosen_next : (h : HeldTable) (g : Game) (n : ℕ) (p q : Point) (before : List Point) → g.followed ≡ Some (OwnWin n) → g.moves ≡ q ∷ before
    → four_move g.rule (n - 1) (board_of g) ≡ Some p → chosen h g ≡ record { at = p; followed = Some (OwnWin (n - 1)) }
chosen_next h g n p q before f ms e = chosen-followed h g
    (record { at = p; followed = Some (OwnWin (n - 1)) }) (ap (λ (o : Option Followed). option_and_then (by_following h g)
    (option_and_then (λ x. option_and_then (followed_after h x) (last_move g.moves)) o)) f
    ∙ ap (λ (l : List Point). option_and_then (by_following h g) (option_and_then (followed_after h (OwnWin n)) (last_move l))) ms
    ∙ ap (option_map (λ (v : Point). let c : Choice = record { at = v; followed = Some (OwnWin (n - 1)) } in c)) e)

module _ (h : HeldTable) (x : OwnAt) (g : Game) (s : OwnStands x g) (o : outcome g.rule (board_of g) x.at ≡ GoesOn) where
  next_own : (q : Point) → outcome g.rule (after (board_of g) x.at) q ≡ GoesOn
      → wins_by_fours g.rule (x.moves - 1) (after (after (board_of g) x.at) q) ≡ true
      → IsNextTo h OwnAt own_choice OwnStands OwnLegal OwnGoes x g q
  next_own q on wins =
      let g2 = game_then g (own_choice x) q in
      let move = four_move-some g.rule (x.moves - 1) (board_of g2) wins in
      let lawful = IsPosition-after g.rule (board_of g) x.at s.lawful o in
      let turn : mover (after (board_of g) x.at) ≡ other g.brain = mover-then g.rule (board_of g) x.at s.lawful o ∙ ap other s.turn in
      record {
        next = record { moves = x.moves - 1; at = move.0 };
        stands = record {
          some = wins-some g.rule (x.moves - 1) (board_of g2) wins;
          chosen_is = move.1;
          lawful = IsPosition-after g.rule (after (board_of g) x.at) q lawful on;
          turn = mover-then g.rule (after (board_of g) x.at) q lawful on ∙ ap other turn ∙ other-other g.brain;
        };
        chooses = chosen_next h g2 x.moves move.0 q (x.at ∷ g.moves) refl refl move.1;
        more = λ qs said goes. by_next g.rule x.moves (board_of g) x.at s.chosen_is s.some o q move.0 qs said on goes;
        legal = λ qs legal. (subst (λ (ps : List Point). AreReplies g.rule (board_of g) ps (q ∷ qs))
            (attacks_next g.rule x.moves (board_of g) x.at s.chosen_is s.some o q qs on) legal).2;
      }

  replies_lose : RepliesLose g.rule (x.moves - 1) (after (board_of g) x.at)
  replies_lose = subst (λ (r : Outcome). WinsOr r (RepliesLose g.rule (x.moves - 1) (after (board_of g) x.at))) o
      (move-wins g.rule x.moves (board_of g) x.at s.chosen_is)

  own_replied : (q : Point) → LosesOr (outcome g.rule (after (board_of g) x.at) q)
      (IsNextTo h OwnAt own_choice OwnStands OwnLegal OwnGoes x g q)
  own_replied q = by_reply (outcome g.rule (after (board_of g) x.at) q) refl (replies_lose q) where
    by_reply : (r : Outcome) → outcome g.rule (after (board_of g) x.at) q ≡ r
        → LosesOr r (wins_by_fours g.rule (x.moves - 1) (after (after (board_of g) x.at) q) ≡ true)
        → LosesOr r (IsNextTo h OwnAt own_choice OwnStands OwnLegal OwnGoes x g q)
    by_reply GoesOn e met = next_own q e met
    by_reply Refused e met = met
    by_reply WinsNow e met = met
    by_reply (Fouls f) e met = met
    by_reply Draws e met = met

own_wins : (x : OwnAt) (g : Game) → OwnStands x g → WinsOr (outcome g.rule (board_of g) x.at) (Unit {0})
own_wins x g s = WinsOr-map (outcome g.rule (board_of g) x.at) _ _ (λ w. tt) (move-wins g.rule x.moves (board_of g) x.at s.chosen_is)

own_followed : (h : HeldTable) → IsFollowed h OwnAt own_choice OwnStands OwnLegal OwnGoes
own_followed h = record {
  lawful = λ x g s. s.lawful;
  turn = λ x g s. s.turn;
  wins = own_wins;
  none = λ x g s. by_none g.rule x.moves (board_of g) x.at s.chosen_is s.some (own_wins x g s);
  fouls = λ x g s o q f e. by_foul g.rule x.moves (board_of g) x.at s.chosen_is s.some o q f e;
  replied = λ x g s o q. own_replied h x g s o q;
  legal_first = λ x g s q qs legal.
      let first = attacks_first g.rule x.moves (board_of g) x.at s.chosen_is s.some q qs in
      let are = subst (λ (ps : List Point). AreReplies g.rule (board_of g) ps (q ∷ qs)) first.1 legal in
      (are.0, are.1);
  legal_foul = λ x g s o q f e qs legal.
      none_left g.rule (after (after (board_of g) x.at) q) qs (subst (λ (ps : List Point). AreReplies g.rule (board_of g) ps (q ∷ qs))
      (attacks_foul g.rule x.moves (board_of g) x.at s.chosen_is s.some o q qs f e) legal).2;
}

-- ---- the table of the win

after_same : (o : Outcome) (r : Bool) (e f : End) → (o ≡ GoesOn → (r ≡ false) × (e ≡ f))
    → after_attack o (cond r NoMove e) ≡ after_attack o f
after_same o r e f same = search rules

on_same : (o : Outcome) (r : Bool) (ps vs : List Point) → (o ≡ GoesOn → (r ≡ false) × (ps ≡ vs))
    → points_on o (cond r [] ps) ≡ points_on o vs
on_same o r ps vs same = search rules

reply_same : (o : Outcome) (e f : End) → (o ≡ GoesOn → e ≡ f) → after_reply o e ≡ after_reply o f
reply_same o e f same = search rules

-- the accepted node i, which is m, is no winning node where its attack goes on
no_winning : (rule : RuleKind) (t : List Node) (i : ℕ) (m : Node) (b : Grid)
    → Accepted rule t i b → slice_get t i ≡ Some m → outcome rule b m.attack ≡ GoesOn → is_winning m.rest ≡ false
no_winning rule t i m b accepted at on = search (rules, accepted_node, same_Some)

module _ (rule : RuleKind) (t : List Node) (table : IsTable t) where
  -- the game from node i at b against these replies is that of the win by fours within n moves
  record PlaysSame (n i : ℕ) (b : Grid) (qs : List Point) : Type 0 where
    same_attacks : attacks rule t i b qs ≡ win_attacks rule n b qs
    same_end : game rule t i b qs ≡ win_game rule n b qs

  -- node i stands for the plan of the win at b
  module _ (n i : ℕ) (b : Grid) (lawful : IsPosition rule b) (wins : wins_by_fours rule n b ≡ true)
      (stands : StandsFor t i (four_plan rule n b)) where
    -- its attack is the chosen move
    its_node : (m : Node) × (slice_get t i ≡ Some m) × (four_move rule n b ≡ Some m.attack)
    its_node = search (rules, plan-attacks, four_move-some)

    module _ (m : Node) (at : slice_get t i ≡ Some m) (chosen_is : four_move rule n b ≡ Some m.attack) where
      no_winning_here : outcome rule b m.attack ≡ GoesOn → is_winning m.rest ≡ false
      no_winning_here on = no_winning rule t i m b (plan-written rule t table n i b lawful wins stands).accepted at on

      none_same : PlaysSame n i b []
      unfolding attacks game win_attacks win_game
      none_same = search (rules, on_same, no_winning_here, after_same)

      module _ (q : Point) (qs : List Point) (later : (j : ℕ) (c : Grid) → IsPosition rule c → wins_by_fours rule (n - 1) c ≡ true
          → StandsFor t j (four_plan rule (n - 1) c) → PlaysSame (n - 1) j c qs) where
        abbrev then_board : Grid
        then_board = after (after b m.attack) q

        -- where both moves go on, the node answers the reply, and the game goes on the same
        record GoesOnSame : Type 0 where
          attacks_on : points_from (answer (answers_of m) q) (λ j. attacks rule t j then_board qs) ≡ win_attacks rule (n - 1) then_board qs
          end_on : if_node (answer (answers_of m) q) (λ j. game rule t j then_board qs) ≡ one_later (win_game rule (n - 1) then_board qs)

        answered_same : (j : ℕ) → answer (answers_of m) q ≡ Some j → PlaysSame (n - 1) j then_board qs → GoesOnSame
        answered_same j reply same = search rules

        both_on : outcome rule b m.attack ≡ GoesOn → outcome rule (after b m.attack) q ≡ GoesOn → GoesOnSame
        both_on on reply_on =
            let lawful_on = IsPosition-after rule b m.attack lawful on in
            let answered =
            subst (λ (o : Outcome). LosesOr o (IsSomeAnd (answer_at t i q) (λ j. PlanAt rule t (n - 1) j then_board))) reply_on
            ((plan-replies rule t table n i b m.attack lawful chosen_is on stands).1 q) in
            IsSomeAnd-elim (answer (answers_of m) q) _ _ (λ j reply plan. answered_same j reply
            (later j then_board (IsPosition-after rule (after b m.attack) q lawful_on reply_on) plan.wins plan.stands))
            (subst (λ (o : Option Node). IsSomeAnd (option_and_then (λ x. answer (answers_of x) q) o)
            (λ j. PlanAt rule t (n - 1) j then_board)) at answered)

        reply_same_there : PlaysSame n i b (q ∷ qs)
        unfolding attacks game win_attacks win_game
        reply_same_there = record {
          same_attacks =
              rw (at, chosen_is) (ap (λ (l : List Point). m.attack ∷ l) (on_same (outcome rule b m.attack) (is_winning m.rest) _ _ (λ on. (
                no_winning_here on,
                on_same (outcome rule (after b m.attack) q) false _ _ (λ reply_on. (refl, (both_on on reply_on).attacks_on)),
              ))));
          same_end = rw (at, chosen_is) (after_same (outcome rule b m.attack) (is_winning m.rest) _ _
              (λ on. (no_winning_here on, reply_same (outcome rule (after b m.attack) q) _ _ (λ reply_on. (both_on on reply_on).end_on))));
        }

  plays_same : (qs : List Point) (n i : ℕ) (b : Grid) → IsPosition rule b → wins_by_fours rule n b ≡ true
      → StandsFor t i (four_plan rule n b) → PlaysSame n i b qs
  plays_same [] n i b lawful wins stands = let x = its_node n i b lawful wins stands in none_same n i b lawful wins stands x.0 x.1 x.2
  plays_same (q ∷ qs) n i b lawful wins stands =
      let x = its_node n i b lawful wins stands in
      reply_same_there n i b lawful wins stands x.0 x.1 x.2 q qs (λ j c ok w s. plays_same qs (n - 1) j c ok w s)

-- each table of the plan plays the win
plays_win : (rule : RuleKind) (n : ℕ) (b : Grid) → IsPosition rule b → wins_by_fours rule n b ≡ true → (t : List Node)
    → IsTableOf (four_plan rule n b) t → PlaysWin rule n b t
plays_win rule n b lawful wins t is = record {
  plays = λ qs. (plays_same rule t is.table qs n (last t) b lawful wins is.stands).same_attacks;
  ends = λ qs. (plays_same rule t is.table qs n (last t) b lawful wins is.stands).same_end;
  no_deeper = (plan-written rule t is.table n (last t) b lawful wins is.stands).deep;
}

-- ---- the game from the command that begins it

-- a number that is found in a range is one of it
found_low : (f : ℕ → Bool) (a d m : ℕ) → find f (range_with_len a d) ≡ Some m → m < a + d
found_low f a zero m h = cc
found_low f a (suc d) m h = search (rules, found_low f (a + 1) d m)

least_low : (rule : RuleKind) (b : Grid) (limit m : ℕ) (r : Bool) → cond r (least_moves rule limit b) None ≡ Some m → m ≤ limit
least_low rule b limit m r h = search (rules, found_low)

own_win_low : (rule : RuleKind) (b : Grid) (m : ℕ) → own_win rule b ≡ Some m → m ≤ OWN_MOVES
own_win_low rule b m h = least_low rule b OWN_MOVES m (nat_le (four_cost rule OWN_MOVES b) OWN_POSITIONS) h

-- the choice where nothing is followed, no root leads to a node, and there is a win of the brain's own
chosen_own : (h : HeldTable) (g : Game) (m : ℕ) (p : Point) → by_followed h g ≡ None → first_node g h.roots ≡ None
    → own_win g.rule (board_of g) ≡ Some m
    → four_move g.rule m (board_of g) ≡ Some p → chosen h g ≡ record { at = p; followed = Some (OwnWin m) }
unfolding chosen
chosen_own h g m p followed held found move = search (rules, chosen-own)

-- where a game by a win of the brain's own begins, the win stands in the game, and the step is its first move
record OwnBegins (s : State) (c : Command) (g : Game) (m : ℕ) : Type 0 where
  wins : wins_by_fours g.rule m (board_of g) ≡ true
  at : Point
  stands : OwnStands (record { moves = m; at = at }) g
  step : brain_step s c ≡ record {
    reaction = Says (Move at);
    next = state_in s.held s.wish (with_choice g (own_choice (record { moves = m; at = at })));
  }

own_begins : (s : State) (c : Command) (g : Game) (m : ℕ) → LawfulState s → BeginsOwnGame s c g m → OwnBegins s c g m
own_begins s c g m lawful b =
    let to_move : IsToMove g = subst (LawfulRow s.held) b.chooses (row-lawful s c lawful) in
    let wins = own_win-wins g.rule (board_of g) m b.found in
    let move = four_move-some g.rule m (board_of g) wins in
    record {
      wins = wins;
      at = move.0;
      stands = record {
        some = wins-some g.rule m (board_of g) wins;
        chosen_is = move.1;
        lawful = along-lawful g.rule g.start g.moves to_move.along;
        turn = to_move.turn;
      };
      step = ap (step_by s) b.chooses
          ∙ ap (λ (ch : Choice). let st : Step = record { reaction = Says (Move ch.at); next = state_in s.held s.wish (with_choice g ch) }
          in st) (chosen_own s.held g m move.0 b.not_followed b.not_held b.found move.1);
    }

own_game : (s : State) (c : Command) (later : List Command) (g : Game) (m : ℕ) → LawfulState s → BeginsOwnGame s c g m
    → OwnGameGoesWell s c later g m
own_game s c later g m lawful b =
    let begun = own_begins s c g m lawful b in
    let x : OwnAt = record { moves = m; at = begun.at } in
    let then = state_in s.held s.wish (with_choice g (own_choice x)) in
    let goes : GoesByWin g.rule m (board_of g) begun.at (replies then later) (answers_to_replies then later) =
    all-go_well s.held OwnAt own_choice OwnStands OwnLegal OwnGoes (own_followed s.held) later s.wish x g begun.stands in
    record {
      few = own_win_low g.rule (board_of g) m b.found;
      wins = test-WinsUnder (has_five g.rule) g.rule m (board_of g) begun.wins;
      first = Move begun.at;
      says = ap (λ (st : Step). st.reaction) begun.step;
      answers = subst (λ (st : Step). Move begun.at ∷ answers_to_replies st.next later ≡ win_answers g.rule m (board_of g)
          (replies st.next later)) (sym begun.step) goes.answers;
      won = subst (λ (st : Step). IsWonWithin m (length (replies st.next later))
          (win_game g.rule m (board_of g) (replies st.next later))) (sym begun.step) goes.won;
      table = plays_win g.rule m (board_of g) begun.stands.lawful begun.wins;
    }

pub own-games-go_well : OwnGamesGoWell
own-games-go_well held is_held before c later g m b =
    own_game (state_after (new_brain held) before) c later g m (session-lawful held (new_brain held) before (new-lawful held)).0 b

-- ---- legal replies

-- the board at which such a game begins is that of a position
pub own-position : (s : State) (c : Command) (g : Game) (m : ℕ) → LawfulState s → BeginsOwnGame s c g m → IsPosition g.rule (board_of g)
own-position s c g m lawful b = (own_begins s c g m lawful b).stands.lawful

pub own-replies-are_answered : OwnRepliesAreAnswered
own-replies-are_answered held is_held before c g m qs b are =
    let s = state_after (new_brain held) before in
    let begun = own_begins s c g m (session-lawful held (new_brain held) before (new-lawful held)).0 b in
    session_by s c (turns qs) _ begun.step
    ∙ (all-answered s.held OwnAt own_choice OwnStands OwnLegal OwnGoes (own_followed s.held) qs s.wish
    (record { moves = m; at = begun.at }) g begun.stands (supported s c g b.chooses) are).answers
