-- The session in which a win of the brain's own is followed, and after moves were taken back a held start.
use Rattle.std.proofs.Common.{◌≡◌, ℕ, zero, suc, Bool, true, false, List, [], ◌∷◌, ◌++◌, codes, refl, sym, ap, subst}
use Rattle.std.proofs.Common.{◌∙◌, arith, nat_eq, Option, Some, None, slice_get}
use Rattle.std.specs.Fmt.{digits}
use Rattle.std.specs.List.{list_all}
use Rattle.std.proofs.lemmas.List.Elements.{All-nil, All-cons}
use Rattle.game_rules.proofs.Common.{after, IsBoard, points_of, empties_of, outcome}
use Rattle.game_rules.specs.declared.RuleKind.TheVariants.{Freestyle}
use Rattle.game_rules.specs.declared.Side.TheVariants.{Black}
use Rattle.game_rules.specs.declared.Point.{Point}
use Rattle.foul_judge.specs.Lawful.{refusal}
use Rattle.foul_judge.proofs.Lawfulness.{lawful_from_none}
use Rattle.strategy_graph.specs.declared.Rest.TheVariants.{To}
use Rattle.strategy_graph.proofs.Common.{one_later, Answers, NamesLower, AcceptedStart, Won, game, attacks}
use Rattle.strategy_graph.specs.declared.roots.Root.TheVariants.{Defend}
use Rattle.strategy_checker.specs.HeldRoots.{IsHeldRoot, IsHeld}
use Rattle.gomocup_text.specs.Commands.{commands}
use Rattle.gomocup_text.specs.declared.Command.{Command}
use Rattle.gomocup_text.specs.declared.Command.TheVariants.{Start, Turn, Takeback, Board, Stone, Done, End}
use Rattle.gomocup_text.specs.declared.Answer.{Answer}
use Rattle.gomocup_text.specs.declared.Answer.TheVariants.{Ok as SaysOk, Move}
use Rattle.brain_session.specs.declared.Reaction.TheVariants.{Says}
use Rattle.brain_session.specs.States.{Followed, OwnWin, Game, board_of, point_at, InGame, State, new_brain}
use Rattle.brain_session.specs.ChosenMoves.{Choice, chosen, chosen_anew}
use Rattle.brain_session.specs.Steps.{Chooses, placed, row_of, with_choice, Step, step_by, brain_step}
use Rattle.brain_session.specs.Sessions.{answers_from, then_state, state_after, answer_texts, session_text}
use Rattle.brain_session.specs.HeldGames.{BeginsHeldGame, replies, game_answers, then_replies, answers_by}
use Rattle.worked_examples.specs.HeldSessions.{PlaysHeldGame, three_board, four_board, one_start, taken_back_input, PlaysOwnGame}
use Rattle.worked_examples.proofs.TestedTables.{names_lower, lower_by}
use Rattle.worked_examples.proofs.OwnWins.{attack_goes_on, own_win_is, first_move, replied_board, second_move}
use Rattle.worked_examples.proofs.PlayedGames.{plays_held}
use Rattle.game_rules.specs.declared.Outcome.TheVariants.{Wins, GoesOn}
use Rattle.brain_session.specs.OwnGames.{BeginsOwnGame, win_game, win_attacks, win_answers}
use Rattle.brain_session.proofs.HeldReplies.{session_by}
use Rattle.brain_session.proofs.OwnGames.{own-games-go_well}
use Rattle.strategy_graph.proofs.Soundness.{is_met, met-by_test}

-- ---- the start is accepted

lower : NamesLower one_start.table
lower = lower_by one_start.table at where
  at : (i : ℕ) → names_lower (slice_get one_start.table i) i ≡ true
  at zero = refl
  at (suc zero) = refl
  at (suc (suc i)) = refl

abbrev after_four : Answers
after_four = record { replies = record { at = point_at 8 7; next = 1 } ∷ []; rest = To 0 }

-- no point is passed over
unfoldable pub none : Point → Bool
none q = false

pub none_over : (q : Point) (W : Type 0) → none q ≡ true → W
unfolding none
none_over q W h = cc

start_met : list_all (is_met Freestyle one_start.table after_four four_board none) (points_of four_board) ≡ true
unfolding none four_board
start_met = refl

pub start_leaves : nat_eq (empties_of four_board) 1 ≡ false
unfolding four_board
start_leaves = refl

start_accepted : AcceptedStart Freestyle one_start.table after_four four_board
start_accepted q = met-by_test Freestyle one_start.table lower after_four four_board start_leaves q none start_met (none_over q _)

four_is_board : IsBoard four_board
unfolding four_board
four_is_board = record { wide = omega arith; width_fits = omega arith; high = omega arith; height_fits = omega arith; filled = refl }

pub four_unrefused : refusal Freestyle four_board ≡ None
unfolding four_board refusal
four_unrefused = refl

pub one_start-held : IsHeld one_start
one_start-held = record {
  roots = All-cons (IsHeldRoot one_start.table) (record { root = Defend after_four; kind = Freestyle; board = four_board }) []
      (record { lawful = lawful_from_none Freestyle four_board four_is_board four_unrefused; below = refl; accepted = start_accepted })
      (All-nil (IsHeldRoot one_start.table));
  few = omega arith;
}

-- ---- one command after another

pub chooses : (s : State) (c : Command) (g : Game) (ch : Choice) → row_of s c ≡ Chooses g → chosen s.held g ≡ ch
    → brain_step s c ≡ record { reaction = Says (Move ch.at); next = placed s (InGame (with_choice g ch)) }
chooses s c g ch row is = ap (step_by s) row ∙ ap
    (λ (x : Choice). let st : Step = record { reaction = Says (Move x.at); next = placed s (InGame (with_choice g x)) } in st) is

state_by_step : (s : State) (c : Command) (cs : List Command) (st : Step) → brain_step s c ≡ st
    → state_after s (c ∷ cs) ≡ then_state st.reaction st.next (state_after st.next cs)
unfolding state_after
state_by_step s c cs st e = ap (λ (x : Step). then_state x.reaction x.next (state_after x.next cs)) e

-- the game at its beginning, after the brain's move, after White's, and at its end
abbrev game_at : List Point → Bool → Option Followed → Game
game_at moves ended followed =
    record { rule = Freestyle; start = three_board; moves = moves; brain = Black; ended = ended; followed = followed }

abbrev state_at : Game → State
state_at g = record { wish = 0; held = one_start; place = InGame g; batch = None }

unfoldable pub told : List Command
told = Start 15 ∷ Board ∷ Stone 5 7 1 ∷ Stone 6 7 1 ∷ Stone 7 7 1 ∷ Stone 0 0 2 ∷ Stone 2 0 2 ∷ Stone 4 0 2 ∷ []

unfoldable pub rest : List Command
rest = Takeback 3 7 ∷ Takeback 0 14 ∷ Turn 1 14 ∷ End ∷ []

own_choice : chosen one_start (game_at [] false None) ≡ record { at = point_at 4 7; followed = Some (OwnWin 2) }
unfolding chosen chosen_anew
own_choice = rw (own_win_is, first_move) refl

own_choice_again : chosen one_start (game_at (point_at 0 14 ∷ point_at 4 7 ∷ []) false (Some (OwnWin 2)))
    ≡ record { at = point_at 3 7; followed = Some (OwnWin 1) }
unfolding chosen replied_board
own_choice_again = rw second_move refl

done_row : row_of (state_after (new_brain one_start) told) Done ≡ Chooses (game_at [] false None)
unfolding told three_board state_after row_of refusal
done_row = refl

done_step : brain_step (state_after (new_brain one_start) told) Done
    ≡ record { reaction = Says (Move (point_at 4 7)); next = state_at (game_at (point_at 4 7 ∷ []) false (Some (OwnWin 2))) }
unfolding told three_board state_after row_of outcome
done_step = chooses (state_after (new_brain one_start) told) Done (game_at [] false None) _ done_row own_choice

turn_row : row_of (state_at (game_at (point_at 4 7 ∷ []) false (Some (OwnWin 2)))) (Turn 0 14) ≡ Chooses
    (game_at (point_at 0 14 ∷ point_at 4 7 ∷ []) false (Some (OwnWin 2)))
unfolding three_board row_of outcome
turn_row = refl

turn_step : brain_step (state_at (game_at (point_at 4 7 ∷ []) false (Some (OwnWin 2)))) (Turn 0 14) ≡ record {
  reaction = Says (Move (point_at 3 7));
  next = state_at (game_at (point_at 3 7 ∷ point_at 0 14 ∷ point_at 4 7 ∷ []) true (Some (OwnWin 1)));
}
unfolding three_board outcome
turn_step = chooses (state_at (game_at (point_at 4 7 ∷ []) false (Some (OwnWin 2)))) (Turn 0 14)
    (game_at (point_at 0 14 ∷ point_at 4 7 ∷ []) false (Some (OwnWin 2))) _ turn_row own_choice_again

-- ---- the session

pub lines : commands taken_back_input ≡ told ++ Done ∷ Turn 0 14 ∷ rest
unfolding taken_back_input told rest
lines = refl

told_answers : answers_from (new_brain one_start) (told ++ Done ∷ Turn 0 14 ∷ rest) ≡ SaysOk ∷ answers_from
    (state_after (new_brain one_start) told) (Done ∷ Turn 0 14 ∷ rest)
unfolding told answers_from state_after row_of
told_answers = refl

rest_answers : answers_from (state_at (game_at (point_at 3 7 ∷ point_at 0 14 ∷ point_at 4 7 ∷ []) true (Some (OwnWin 1)))) rest ≡ SaysOk ∷
    SaysOk ∷ Move (point_at 8 7) ∷ []
unfolding rest three_board four_board answers_from row_of chosen chosen_anew outcome
rest_answers = refl

answers : answers_from (new_brain one_start) (told ++ Done ∷ Turn 0 14 ∷ rest) ≡ SaysOk ∷ Move (point_at 4 7) ∷ Move (point_at 3 7) ∷ SaysOk
    ∷ SaysOk ∷ Move (point_at 8 7) ∷ []
answers = told_answers
    ∙ ap (λ (x : List Answer). SaysOk ∷ x) (session_by (state_after (new_brain one_start) told) Done (Turn 0 14 ∷ rest) _ done_step)
    ∙ ap (λ (x : List Answer). SaysOk ∷ Move (point_at 4 7) ∷ x)
    (session_by (state_at (game_at (point_at 4 7 ∷ []) false (Some (OwnWin 2)))) (Turn 0 14) rest _ turn_step)
    ∙ ap (λ (x : List Answer). SaysOk ∷ Move (point_at 4 7) ∷ Move (point_at 3 7) ∷ x) rest_answers

pub own_win-text : session_text (new_brain one_start) taken_back_input ≡ codes "OK\r\n4,7\r\n3,7\r\nOK\r\nOK\r\n8,7\r\n"
unfolding digits
own_win-text = ap (λ (cs : List Command). answer_texts (answers_from (new_brain one_start) cs)) lines ∙ ap answer_texts answers

-- ---- the held game

unfoldable pub taken_back : List Command
taken_back = Takeback 3 7 ∷ Takeback 0 14 ∷ []

abbrev pub before : List Command
before = told ++ Done ∷ Turn 0 14 ∷ taken_back

pub lines_again : commands taken_back_input ≡ before ++ Turn 1 14 ∷ End ∷ []
unfolding taken_back_input told taken_back
lines_again = refl

told_state : state_after (new_brain one_start) before ≡ state_after (state_after (new_brain one_start) told) (Done ∷ Turn 0 14 ∷ taken_back)
unfolding told state_after row_of
told_state = refl

taken_state : state_after (state_at (game_at (point_at 3 7 ∷ point_at 0 14 ∷ point_at 4 7 ∷ []) true (Some (OwnWin 1)))) taken_back
    ≡ state_at (game_at (point_at 4 7 ∷ []) false None)
unfolding taken_back three_board state_after row_of
taken_state = refl

state_is : state_after (new_brain one_start) before ≡ state_at (game_at (point_at 4 7 ∷ []) false None)
state_is = told_state ∙ state_by_step (state_after (new_brain one_start) told) Done (Turn 0 14 ∷ taken_back) _ done_step
    ∙ state_by_step (state_at (game_at (point_at 4 7 ∷ []) false (Some (OwnWin 2)))) (Turn 0 14) taken_back _ turn_step ∙ taken_state

played : Game
played = game_at (point_at 1 14 ∷ point_at 4 7 ∷ []) false None

begins_there : BeginsHeldGame (state_at (game_at (point_at 4 7 ∷ []) false None)) (Turn 1 14) played 0
unfolding played three_board four_board row_of outcome
begins_there = record { chooses = refl; not_followed = refl; leads = refl }

begins : BeginsHeldGame (state_after (new_brain one_start) before) (Turn 1 14) played 0
begins = subst (λ (s : State). BeginsHeldGame s (Turn 1 14) played 0) (sym state_is) begins_there

no_reply : replies (brain_step (state_after (new_brain one_start) before) (Turn 1 14)).next (End ∷ []) ≡ []
unfolding replies row_of
no_reply = refl

game_said : game_answers Freestyle one_start.table 0 (board_of played) [] ≡ Move (point_at 8 7) ∷ []
unfolding played three_board attacks outcome
game_said = refl

game_won : game Freestyle one_start.table 0 (board_of played) [] ≡ Won 1
unfolding played three_board game outcome
game_won = refl

pub own_win-game : PlaysHeldGame one_start taken_back_input 0 [] (Move (point_at 8 7) ∷ []) 1
unfolding played
own_win-game = plays_held one_start one_start-held taken_back_input before (Turn 1 14) (End ∷ []) played 0 _ _ 1 lines_again begins no_reply
    (ap (λ (s : State). game_answers Freestyle s.held.table 0 (board_of played) []) state_is ∙ game_said) game_won

-- ---- the game by the win of its own

own_begins : BeginsOwnGame (state_after (new_brain one_start) told) Done (game_at [] false None) 2
unfolding told three_board state_after row_of refusal
own_begins = record { chooses = done_row; not_followed = refl; not_held = refl; found = own_win_is }

pub replies_by_step : (s : State) (c : Command) (cs : List Command) (st : Step) → brain_step s c ≡ st
    → replies s (c ∷ cs) ≡ then_replies c st.reaction (replies st.next cs)
unfolding replies
replies_by_step s c cs st e = ap (λ (x : Step). then_replies c x.reaction (replies x.next cs)) e

no_more : replies (state_at (game_at (point_at 3 7 ∷ point_at 0 14 ∷ point_at 4 7 ∷ []) true (Some (OwnWin 1)))) rest ≡ []
unfolding rest replies row_of
no_more = refl

own_replied : replies (brain_step (state_after (new_brain one_start) told) Done).next (Turn 0 14 ∷ rest) ≡ point_at 0 14 ∷ []
own_replied = ap (λ (st : Step). replies st.next (Turn 0 14 ∷ rest)) done_step
    ∙ replies_by_step (state_at (game_at (point_at 4 7 ∷ []) false (Some (OwnWin 2)))) (Turn 0 14) rest _ turn_step
    ∙ ap (λ (ps : List Point). point_at 0 14 ∷ ps) no_more

reply_on : outcome Freestyle (after three_board (point_at 4 7)) (point_at 0 14) ≡ GoesOn
unfolding three_board outcome
reply_on = refl

second_wins : outcome Freestyle replied_board (point_at 3 7) ≡ Wins
unfolding replied_board three_board outcome
second_wins = refl

attacks_later : win_attacks Freestyle 1 replied_board [] ≡ point_at 3 7 ∷ []
unfolding win_attacks
attacks_later = rw (second_move, second_wins) refl

own_attacks : win_attacks Freestyle 2 three_board (point_at 0 14 ∷ []) ≡ point_at 4 7 ∷ point_at 3 7 ∷ []
unfolding win_attacks replied_board
own_attacks = rw (first_move, attack_goes_on, reply_on) (ap (λ (ps : List Point). point_at 4 7 ∷ ps) attacks_later)

own_said : win_answers Freestyle 2 three_board (point_at 0 14 ∷ []) ≡ Move (point_at 4 7) ∷ Move (point_at 3 7) ∷ []
own_said = ap (λ (ps : List Point). answers_by Freestyle three_board ps (point_at 0 14 ∷ [])) own_attacks ∙ no_foul where
  no_foul : answers_by Freestyle three_board (point_at 4 7 ∷ point_at 3 7 ∷ []) (point_at 0 14 ∷ []) ≡ Move (point_at 4 7) ∷ Move
      (point_at 3 7) ∷ []
  no_foul = rw reply_on refl

end_later : win_game Freestyle 1 replied_board [] ≡ Won 1
unfolding win_game
end_later = rw (second_move, second_wins) refl

own_won : win_game Freestyle 2 three_board (point_at 0 14 ∷ []) ≡ Won 2
unfolding win_game replied_board
own_won = rw (first_move, attack_goes_on, reply_on) (ap one_later end_later)

pub own_win-own_game : PlaysOwnGame one_start taken_back_input 2 (point_at 0 14 ∷ []) (Move (point_at 4 7) ∷ Move (point_at 3 7) ∷ []) 2
own_win-own_game =
    let law = own-games-go_well one_start one_start-held told Done (Turn 0 14 ∷ rest) (game_at [] false None) 2 own_begins in
    record {
      before = told;
      command = Done;
      later = Turn 0 14 ∷ rest;
      game_there = game_at [] false None;
      lines = lines;
      begins = own_begins;
      replied = own_replied;
      first = law.first;
      says = law.says;
      answered = law.answers ∙ ap (λ (qs : List Point). win_answers Freestyle 2 three_board qs) own_replied ∙ own_said;
      won = own_won;
    }
