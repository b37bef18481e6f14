-- The session in which a start is followed after moves were taken back.
use Rattle.std.proofs.Common.{◌≡◌, ℕ, zero, suc, true, false, List, [], ◌∷◌, ◌++◌, codes, refl, ap, ◌∙◌, arith, None, slice_get}
use Rattle.std.specs.Fmt.{digits}
use Rattle.std.specs.List.{list_all}
use Rattle.std.proofs.lemmas.List.Elements.{All-nil, All-cons}
use Rattle.game_rules.proofs.Common.{IsBoard, points_of, outcome, after}
use Rattle.game_rules.specs.declared.RuleKind.TheVariants.{Freestyle}
use Rattle.game_rules.specs.declared.Side.TheVariants.{Black}
use Rattle.foul_judge.specs.Lawful.{refusal}
use Rattle.foul_judge.proofs.Lawfulness.{lawful_from_none}
use Rattle.strategy_graph.specs.declared.Rest.TheVariants.{To}
use Rattle.strategy_graph.proofs.Common.{Answers, NamesLower, Accepted, AcceptedStart, Won, game, attacks}
use Rattle.strategy_graph.proofs.Steps.{accepted-by-replies}
use Rattle.strategy_checker.specs.declared.held.HeldRoot.{HeldRoot}
use Rattle.strategy_graph.specs.declared.roots.Root.TheVariants.{Defend}
use Rattle.strategy_graph.proofs.Soundness.{is_met, met-by_test}
use Rattle.strategy_checker.specs.HeldRoots.{IsHeldRoot, IsHeld}
use Rattle.gomocup_text.specs.declared.Command.{Command}
use Rattle.gomocup_text.specs.declared.Command.TheVariants.{Turn, Done, End}
use Rattle.gomocup_text.specs.declared.Answer.TheVariants.{Ok as SaysOk, Move}
use Rattle.brain_session.specs.States.{Game, board_of, new_game, point_at, new_brain}
use Rattle.brain_session.specs.ChosenMoves.{chosen, chosen_anew}
use Rattle.brain_session.specs.Steps.{row_of, brain_step}
use Rattle.brain_session.specs.Sessions.{answers_from, state_after, answer_texts, session_text}
use Rattle.brain_session.specs.HeldGames.{BeginsHeldGame, replies, game_answers}
use Rattle.worked_examples.specs.HeldSessions.{PlaysHeldGame, three_board, four_board, two_roots, taken_back_input}
use Rattle.worked_examples.proofs.TestedTables.{names_lower, lower_by}
use Rattle.worked_examples.proofs.OwnWinSession.{start_leaves, four_unrefused, none_over, lines, lines_again, before}
use Rattle.worked_examples.proofs.OwnWins.{attack_goes_on, attacked_some}
use Rattle.worked_examples.proofs.PlayedGames.{plays_held}
unfoldable use Rattle.worked_examples.proofs.OwnWinSession.{none, told, rest, taken_back}
unfoldable use Rattle.worked_examples.proofs.OwnWins.{attacked}

-- ---- both roots are accepted

lower : NamesLower two_roots.table
lower = lower_by two_roots.table at where
  at : (i : ℕ) → names_lower (slice_get two_roots.table i) i ≡ true
  at zero = refl
  at (suc zero) = refl
  at (suc (suc zero)) = refl
  at (suc (suc (suc i))) = refl

-- the answers after the attack, and those of the start
abbrev after_three : Answers
after_three = record { replies = record { at = point_at 3 7; next = 1 } ∷ []; rest = To 0 }

abbrev after_four : Answers
after_four = record { replies = record { at = point_at 8 7; next = 0 } ∷ []; rest = To 1 }

attack_met : list_all (is_met Freestyle two_roots.table after_three attacked none) (points_of attacked) ≡ true
unfolding attacked none three_board
attack_met = refl

start_met : list_all (is_met Freestyle two_roots.table after_four four_board none) (points_of four_board) ≡ true
unfolding none four_board
start_met = refl

attack_accepted : Accepted Freestyle two_roots.table 2 three_board
unfolding attacked
attack_accepted = accepted-by-replies Freestyle two_roots.table lower 2 three_board _ refl attack_goes_on refl (λ q.
    met-by_test Freestyle two_roots.table lower after_three attacked attacked_some q none attack_met (none_over q _))

start_accepted : AcceptedStart Freestyle two_roots.table after_four four_board
start_accepted q = met-by_test Freestyle two_roots.table lower after_four four_board start_leaves q none start_met (none_over q _)

three_is_board : IsBoard three_board
unfolding three_board
three_is_board = record { wide = omega arith; width_fits = omega arith; high = omega arith; height_fits = omega arith; filled = refl }

four_is_board : IsBoard four_board
unfolding four_board
four_is_board = record { wide = omega arith; width_fits = omega arith; high = omega arith; height_fits = omega arith; filled = refl }

three_unrefused : refusal Freestyle three_board ≡ None
unfolding three_board refusal
three_unrefused = refl

abbrev start_root : HeldRoot
start_root = record { root = Defend after_four; kind = Freestyle; board = four_board }

pub two_roots-held : IsHeld two_roots
two_roots-held = record {
  roots = All-cons (IsHeldRoot two_roots.table) _ (start_root ∷ [])
      (record { lawful = lawful_from_none Freestyle three_board three_is_board three_unrefused; below = refl; accepted = attack_accepted })
      (All-cons (IsHeldRoot two_roots.table) start_root []
      (record { lawful = lawful_from_none Freestyle four_board four_is_board four_unrefused; below = refl; accepted = start_accepted })
      (All-nil (IsHeldRoot two_roots.table)));
  few = omega arith;
}

-- ---- the session

-- the bytes are those of the session in which a win of the brain's own is followed; here the root before it is held as well
answers : answers_from (new_brain two_roots) (told ++ Done ∷ Turn 0 14 ∷ rest)
    ≡ SaysOk ∷ Move (point_at 4 7) ∷ Move (point_at 3 7) ∷ SaysOk ∷ SaysOk ∷ Move (point_at 8 7) ∷ []
unfolding told rest three_board four_board answers_from row_of chosen chosen_anew refusal outcome
answers = refl

pub taken_back-text : session_text (new_brain two_roots) taken_back_input ≡ codes "OK\r\n4,7\r\n3,7\r\nOK\r\nOK\r\n8,7\r\n"
unfolding digits
taken_back-text = ap (λ (cs : List Command). answer_texts (answers_from (new_brain two_roots) cs)) lines ∙ ap answer_texts answers

-- ---- the first game

played : Game
played = new_game Freestyle three_board Black

begins : BeginsHeldGame (state_after (new_brain two_roots) told) Done played 2
unfolding told played three_board four_board state_after row_of chosen chosen_anew refusal outcome
begins = record { chooses = refl; not_followed = refl; leads = refl }

replied : replies (brain_step (state_after (new_brain two_roots) told) Done).next (Turn 0 14 ∷ rest) ≡ point_at 0 14 ∷ []
unfolding told rest three_board four_board replies state_after row_of chosen chosen_anew refusal outcome
replied = refl

game_said : game_answers Freestyle two_roots.table 2 three_board (point_at 0 14 ∷ []) ≡ Move (point_at 4 7) ∷ Move (point_at 3 7) ∷ []
unfolding three_board attacks outcome
game_said = refl

game_won : game Freestyle two_roots.table 2 three_board (point_at 0 14 ∷ []) ≡ Won 2
unfolding three_board game outcome
game_won = refl

pub first-game : PlaysHeldGame two_roots taken_back_input 2 (point_at 0 14 ∷ []) (Move (point_at 4 7) ∷ Move (point_at 3 7) ∷ []) 2
unfolding played state_after three_board told row_of
first-game = plays_held two_roots two_roots-held taken_back_input told Done (Turn 0 14 ∷ rest) played 2 _ _ 2 lines begins replied game_said
    game_won

-- ---- the second game, in which White's move was made at the start

played_again : Game
played_again = record {
  rule = Freestyle;
  start = three_board;
  moves = point_at 1 14 ∷ point_at 4 7 ∷ [];
  brain = Black;
  ended = false;
  followed = None;
}

begins_again : BeginsHeldGame (state_after (new_brain two_roots) before) (Turn 1 14) played_again 1
unfolding told taken_back played_again three_board four_board state_after row_of chosen chosen_anew refusal outcome
begins_again = record { chooses = refl; not_followed = refl; leads = refl }

no_reply : replies (brain_step (state_after (new_brain two_roots) before) (Turn 1 14)).next (End ∷ []) ≡ []
unfolding replies row_of
no_reply = refl

game_said_again : game_answers Freestyle two_roots.table 1 (board_of played_again) [] ≡ Move (point_at 8 7) ∷ []
unfolding played_again three_board attacks outcome
game_said_again = refl

game_won_again : game Freestyle two_roots.table 1 (board_of played_again) [] ≡ Won 1
unfolding played_again three_board game outcome
game_won_again = refl

pub second-game : PlaysHeldGame two_roots taken_back_input 1 [] (Move (point_at 8 7) ∷ []) 1
unfolding played_again state_after told taken_back row_of refusal outcome chosen chosen_anew three_board
second-game = plays_held two_roots two_roots-held taken_back_input before (Turn 1 14) (End ∷ []) played_again 1 _ _ 1 lines_again
    begins_again no_reply game_said_again game_won_again
