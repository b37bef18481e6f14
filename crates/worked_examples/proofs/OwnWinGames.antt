-- Sessions in which a win of the brain's own is followed to its end, whatever is held that has no say where it is found.
use Rattle.std.proofs.Common.{◌≡◌, ℕ, true, false, List, [], ◌∷◌, ◌++◌, codes, refl, ap, ◌∙◌, arith, Option, Some}
use Rattle.std.proofs.Common.{None, slice_get, zero, suc}
use Rattle.std.specs.Fmt.{digits}
use Rattle.std.proofs.lemmas.List.Elements.{All-nil, All-cons}
use Rattle.game_rules.proofs.Common.{IsPosition, after, Grid, IsBoard, outcome, five, four_move}
use Rattle.game_rules.specs.declared.RuleKind.TheVariants.{Freestyle}
use Rattle.game_rules.specs.declared.Side.TheVariants.{Black}
use Rattle.game_rules.specs.declared.Point.{Point}
use Rattle.game_rules.specs.declared.Outcome.TheVariants.{Wins, GoesOn}
use Rattle.foul_judge.specs.Lawful.{refusal}
use Rattle.foul_judge.proofs.Lawfulness.{lawful_from_none}
use Rattle.strategy_graph.proofs.Common.{one_later, NamesLower, Accepted, Won}
use Rattle.strategy_graph.proofs.Steps.{accepted-by-win}
use Rattle.strategy_graph.specs.declared.roots.Root.TheVariants.{Attack}
use Rattle.strategy_checker.specs.HeldRoots.{HeldTable, IsHeldRoot, IsHeld}
use Rattle.gomocup_text.specs.Commands.{commands}
use Rattle.gomocup_text.specs.declared.Command.{Command}
use Rattle.gomocup_text.specs.declared.Command.TheVariants.{Turn, Done, End}
use Rattle.gomocup_text.specs.declared.Answer.{Answer}
use Rattle.gomocup_text.specs.declared.Answer.TheVariants.{Ok as SaysOk, Move}
use Rattle.brain_session.specs.declared.Reaction.TheVariants.{Says}
use Rattle.brain_session.specs.States.{Followed, OwnWin, Game, point_at, InGame, State, new_brain}
use Rattle.brain_session.specs.ChosenMoves.{chosen, chosen_anew, first_node}
use Rattle.brain_session.specs.Steps.{Chooses, Step, move_row, placed, row_of, with_choice, brain_step}
use Rattle.brain_session.specs.Sessions.{answers_from, state_after, answer_texts, session_text}
use Rattle.brain_session.specs.HeldGames.{replies, answers_by}
use Rattle.brain_session.specs.OwnGames.{BeginsOwnGame, win_game, win_attacks, win_answers}
use Rattle.brain_session.proofs.HeldReplies.{session_by}
use Rattle.brain_session.proofs.OwnGames.{own-games-go_well}
use Rattle.brain_commands.specs.Brains.{nothing_held}
use Rattle.worked_examples.specs.HeldSessions.{PlaysOwnGame, three_board, blocked_input, passed_input, passed_board, passed_game, one_five}
use Rattle.worked_examples.proofs.OwnWins.{attack_goes_on, own_win_is, first_move, move-five, replied_board, second_move}
use Rattle.worked_examples.proofs.TestedTables.{names_lower, lower_by}
use Rattle.worked_examples.proofs.OwnWinSession.{chooses, replies_by_step}
unfoldable use Rattle.worked_examples.proofs.OwnWinSession.{told}

-- the game at its beginning, and after Black's first move
abbrev game_with : List Point → Option Followed → Game
game_with moves followed =
    record { rule = Freestyle; start = three_board; moves = moves; brain = Black; ended = false; followed = followed }

abbrev start_game : Game
start_game = game_with [] None

abbrev attacked_game : Game
attacked_game = game_with (point_at 4 7 ∷ []) (Some (OwnWin 2))

abbrev attacked : Grid
attacked = after three_board (point_at 4 7)

-- ---- the session, with any reply after which the game goes on and the brain makes five

module _ (h : HeldTable) (x y : ℕ) (made : Point) (apart : first_node start_game h.roots ≡ None)
    (on : outcome Freestyle attacked (point_at x y) ≡ GoesOn)
    (last : four_move Freestyle 1 (after attacked (point_at x y)) ≡ Some made)
    (wins : outcome Freestyle (after attacked (point_at x y)) made ≡ Wins) where
  abbrev state_at : Game → State
  state_at g = record { wish = 0; held = h; place = InGame g; batch = None }

  abbrev replied_game : Game
  replied_game = game_with (point_at x y ∷ point_at 4 7 ∷ []) (Some (OwnWin 2))

  abbrev later : List Command
  later = Turn x y ∷ End ∷ []

  own_choice : chosen h start_game ≡ record { at = point_at 4 7; followed = Some (OwnWin 2) }
  unfolding chosen chosen_anew
  own_choice = rw (apart, own_win_is, first_move) refl

  own_choice_again : chosen h replied_game ≡ record { at = made; followed = Some (OwnWin 1) }
  unfolding chosen
  own_choice_again = rw last refl

  done_row : row_of (state_after (new_brain h) told) Done ≡ Chooses start_game
  unfolding told three_board state_after row_of refusal
  done_row = refl

  done_step : brain_step (state_after (new_brain h) told) Done
      ≡ record { reaction = Says (Move (point_at 4 7)); next = state_at attacked_game }
  unfolding told three_board state_after row_of outcome
  done_step = chooses (state_after (new_brain h) told) Done start_game _ done_row own_choice

  turn_row : row_of (state_at attacked_game) (Turn x y) ≡ Chooses replied_game
  unfolding three_board row_of
  turn_row = ap (move_row (state_at attacked_game) attacked_game (point_at x y)) on

  abbrev won_state : State
  won_state = placed (state_at attacked_game) (InGame (with_choice replied_game (record { at = made; followed = Some (OwnWin 1) })))

  turn_step : brain_step (state_at attacked_game) (Turn x y) ≡ record { reaction = Says (Move made); next = won_state }
  turn_step = chooses (state_at attacked_game) (Turn x y) replied_game _ turn_row own_choice_again

  told_answers : answers_from (new_brain h) (told ++ Done ∷ later) ≡ SaysOk ∷ answers_from (state_after (new_brain h) told) (Done ∷ later)
  unfolding told answers_from state_after row_of
  told_answers = refl

  no_answers : answers_from won_state (End ∷ []) ≡ []
  unfolding answers_from row_of
  no_answers = refl

  session_answers : answers_from (new_brain h) (told ++ Done ∷ later) ≡ SaysOk ∷ Move (point_at 4 7) ∷ Move made ∷ []
  session_answers = told_answers ∙ ap (λ (l : List Answer). SaysOk ∷ l) (session_by (state_after (new_brain h) told) Done later _ done_step)
      ∙ ap (λ (l : List Answer). SaysOk ∷ Move (point_at 4 7) ∷ l) (session_by (state_at attacked_game) (Turn x y) (End ∷ []) _ turn_step)
      ∙ ap (λ (l : List Answer). SaysOk ∷ Move (point_at 4 7) ∷ Move made ∷ l) no_answers

  pub session_says : (input : List ℕ) → commands input ≡ told ++ Done ∷ later
      → session_text (new_brain h) input ≡ answer_texts (SaysOk ∷ Move (point_at 4 7) ∷ Move made ∷ [])
  session_says input lines =
      ap (λ (cs : List Command). answer_texts (answers_from (new_brain h) cs)) lines ∙ ap answer_texts session_answers

  own_begins : BeginsOwnGame (state_after (new_brain h) told) Done start_game 2
  unfolding told three_board state_after row_of refusal
  own_begins = record { chooses = done_row; not_followed = refl; not_held = apart; found = own_win_is }

  no_more : replies won_state (End ∷ []) ≡ []
  unfolding replies row_of
  no_more = refl

  own_replied : replies (brain_step (state_after (new_brain h) told) Done).next later ≡ point_at x y ∷ []
  own_replied = ap (λ (st : Step). replies st.next later) done_step
      ∙ replies_by_step (state_at attacked_game) (Turn x y) (End ∷ []) _ turn_step ∙ ap (λ (ps : List Point). point_at x y ∷ ps) no_more

  attacks_later : win_attacks Freestyle 1 (after attacked (point_at x y)) [] ≡ made ∷ []
  unfolding win_attacks
  attacks_later = rw (last, wins) refl

  own_attacks : win_attacks Freestyle 2 three_board (point_at x y ∷ []) ≡ point_at 4 7 ∷ made ∷ []
  unfolding win_attacks
  own_attacks = rw (first_move, attack_goes_on, on) (ap (λ (ps : List Point). point_at 4 7 ∷ ps) attacks_later)

  no_foul : answers_by Freestyle three_board (point_at 4 7 ∷ made ∷ []) (point_at x y ∷ []) ≡ Move (point_at 4 7) ∷ Move made ∷ []
  no_foul = rw on refl

  own_said : win_answers Freestyle 2 three_board (point_at x y ∷ []) ≡ Move (point_at 4 7) ∷ Move made ∷ []
  own_said = ap (λ (ps : List Point). answers_by Freestyle three_board ps (point_at x y ∷ [])) own_attacks ∙ no_foul

  end_later : win_game Freestyle 1 (after attacked (point_at x y)) [] ≡ Won 1
  unfolding win_game
  end_later = rw (last, wins) refl

  own_won : win_game Freestyle 2 three_board (point_at x y ∷ []) ≡ Won 2
  unfolding win_game
  own_won = rw (first_move, attack_goes_on, on) (ap one_later end_later)

  pub plays_own_game : IsHeld h → (input : List ℕ) → commands input ≡ told ++ Done ∷ later
      → PlaysOwnGame h input 2 (point_at x y ∷ []) (Move (point_at 4 7) ∷ Move made ∷ []) 2
  plays_own_game held input lines =
      let law = own-games-go_well h held told Done later start_game 2 own_begins in
      record {
        before = told;
        command = Done;
        later = later;
        game_there = start_game;
        lines = lines;
        begins = own_begins;
        replied = own_replied;
        first = law.first;
        says = law.says;
        answered = law.answers ∙ ap (λ (qs : List Point). win_answers Freestyle 2 three_board qs) own_replied ∙ own_said;
        won = own_won;
      }

-- ---- the block, by a brain that holds nothing

block_on : outcome Freestyle attacked (point_at 3 7) ≡ GoesOn
unfolding three_board outcome
block_on = refl

abbrev blocked : Grid
blocked = after attacked (point_at 3 7)

far_end : four_move Freestyle 1 blocked ≡ Some (point_at 8 7)
unfolding three_board
far_end = move-five blocked (point_at 8 7) refl refl

far_end_wins : outcome Freestyle blocked (point_at 8 7) ≡ Wins
unfolding three_board outcome
far_end_wins = refl

blocked_lines : commands blocked_input ≡ told ++ Done ∷ Turn 3 7 ∷ End ∷ []
unfolding blocked_input told
blocked_lines = refl

pub nothing-held : IsHeld nothing_held
nothing-held = record { roots = All-nil (IsHeldRoot []); few = omega arith }

pub blocked-text : session_text (new_brain nothing_held) blocked_input ≡ codes "OK\r\n4,7\r\n8,7\r\n"
unfolding digits
blocked-text = session_says nothing_held 3 7 (point_at 8 7) refl block_on far_end far_end_wins blocked_input blocked_lines

pub blocked-game : PlaysOwnGame nothing_held blocked_input 2 (point_at 3 7 ∷ []) (Move (point_at 4 7) ∷ Move (point_at 8 7) ∷ []) 2
blocked-game = plays_own_game nothing_held 3 7 (point_at 8 7) refl block_on far_end far_end_wins nothing-held blocked_input blocked_lines

-- ---- a root whose position the game comes to

passed_on : outcome Freestyle attacked (point_at 0 14) ≡ GoesOn
unfolding three_board outcome
passed_on = refl

near_end : four_move Freestyle 1 (after attacked (point_at 0 14)) ≡ Some (point_at 3 7)
unfolding replied_board
near_end = second_move

near_end_wins : outcome Freestyle (after attacked (point_at 0 14)) (point_at 3 7) ≡ Wins
unfolding three_board outcome
near_end_wins = refl

passed_lines : commands passed_input ≡ told ++ Done ∷ Turn 0 14 ∷ End ∷ []
unfolding passed_input told
passed_lines = refl

apart_there : first_node start_game one_five.roots ≡ None
unfolding three_board passed_board
apart_there = refl

lower : NamesLower one_five.table
lower = lower_by one_five.table at where
  at : (i : ℕ) → names_lower (slice_get one_five.table i) i ≡ true
  at zero = refl
  at (suc i) = refl

eight_wins : outcome Freestyle passed_board (point_at 8 7) ≡ Wins
unfolding passed_board outcome
eight_wins = refl

eight_accepted : Accepted Freestyle one_five.table 0 passed_board
eight_accepted = accepted-by-win Freestyle one_five.table lower 0 passed_board _ refl eight_wins

passed_is_board : IsBoard passed_board
unfolding passed_board
passed_is_board = record { wide = omega arith; width_fits = omega arith; high = omega arith; height_fits = omega arith; filled = refl }

passed_unrefused : refusal Freestyle passed_board ≡ None
unfolding passed_board refusal
passed_unrefused = refl

lawful : IsPosition Freestyle passed_board
lawful = lawful_from_none Freestyle passed_board passed_is_board passed_unrefused

pub one_five-held : IsHeld one_five
one_five-held = record {
  roots = All-cons (IsHeldRoot one_five.table) (record { root = Attack 0; kind = Freestyle; board = passed_board }) []
      (record { lawful = lawful; below = refl; accepted = eight_accepted }) (All-nil (IsHeldRoot one_five.table));
  few = omega arith;
}

pub root-there : first_node passed_game one_five.roots ≡ Some 0
unfolding three_board passed_board
root-there = refl

pub passed-text : session_text (new_brain one_five) passed_input ≡ codes "OK\r\n4,7\r\n3,7\r\n"
unfolding digits
passed-text = session_says one_five 0 14 (point_at 3 7) apart_there passed_on near_end near_end_wins passed_input passed_lines

pub passed-own_game : PlaysOwnGame one_five passed_input 2 (point_at 0 14 ∷ []) (Move (point_at 4 7) ∷ Move (point_at 3 7) ∷ []) 2
passed-own_game =
    plays_own_game one_five 0 14 (point_at 3 7) apart_there passed_on near_end near_end_wins one_five-held passed_input passed_lines
