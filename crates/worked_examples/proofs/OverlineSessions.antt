-- The sessions with the block that is a foul.
use Rattle.std.proofs.Common.{◌≡◌, ℕ, zero, suc, Bool, true, false, List, [], ◌∷◌, ◌++◌, codes, refl, ap, subst, ◌∙◌, arith, nat_eq}
use Rattle.std.proofs.Common.{None, slice_get}
use Rattle.std.specs.Fmt.{digits}
use Rattle.std.specs.List.{list_all}
use Rattle.std.proofs.lemmas.List.Elements.{All-nil, All-cons}
use Rattle.game_rules.proofs.Common.{Grid, IsBoard, points_of, empties_of, is_same_point, fours_of, is_three_point}
use Rattle.game_rules.proofs.Common.{gives_straight, is_straight, outcome, after, black_foul, black_foul_within, stone_foul, is_three}
use Rattle.game_rules.specs.declared.RuleKind.TheVariants.{Renju}
use Rattle.game_rules.specs.declared.Side.TheVariants.{White}
use Rattle.game_rules.specs.declared.Foul.TheVariants.{Overline}
use Rattle.game_rules.specs.declared.Outcome.TheVariants.{GoesOn, Fouls}
use Rattle.game_rules.specs.declared.Point.{Point}
use Rattle.game_rules.proofs.Points.{is_same_point-same}
use Rattle.foul_judge.specs.Lawful.{refusal}
use Rattle.foul_judge.proofs.Lawfulness.{lawful_from_none}
use Rattle.strategy_graph.specs.declared.Rest.TheVariants.{To}
use Rattle.strategy_graph.proofs.Common.{Answers, NamesLower, Meets, Accepted, Won, game, attacks}
use Rattle.strategy_graph.proofs.Steps.{accepted-by-replies, met-foul}
use Rattle.strategy_graph.proofs.Soundness.{is_met, met-by_test}
use Rattle.strategy_checker.specs.HeldRoots.{IsHeldRoot, IsHeld}
use Rattle.gomocup_text.specs.Commands.{commands}
use Rattle.gomocup_text.specs.declared.Command.{Command}
use Rattle.gomocup_text.specs.declared.Command.TheVariants.{Start, Turn, Board, Stone, Done, Rule, End}
use Rattle.gomocup_text.specs.declared.Answer.TheVariants.{Ok as SaysOk, Move, Error}
use Rattle.gomocup_text.specs.declared.ErrorText.TheVariants.{GameOver, OpponentFoul}
use Rattle.brain_session.specs.States.{Game, new_game, point_at, new_brain}
use Rattle.brain_session.specs.ChosenMoves.{chosen, chosen_anew}
use Rattle.brain_session.specs.Steps.{row_of, brain_step}
use Rattle.brain_session.specs.Sessions.{answers_from, state_after, answer_texts, session_text}
use Rattle.brain_session.specs.HeldGames.{BeginsHeldGame, replies, game_answers}
use Rattle.worked_examples.specs.HeldSessions.{PlaysHeldGame, overline_board, overline_table, elsewhere_input, block_input}
use Rattle.worked_examples.proofs.TestedTables.{names_lower, lower_by}
use Rattle.worked_examples.proofs.PlayedGames.{plays_held}

-- ---- the table is accepted

lower : NamesLower overline_table.table
lower = lower_by overline_table.table at where
  at : (i : ℕ) → names_lower (slice_get overline_table.table i) i ≡ true
  at zero = refl
  at (suc zero) = refl
  at (suc (suc i)) = refl

-- the answers after the attack: every reply has one
abbrev any_reply : Answers
any_reply = record { replies = []; rest = To 0 }

-- the board after the attack
attacked : Grid
attacked = after overline_board (point_at 6 3)

on_the_block : Point → Bool
on_the_block q = is_same_point (point_at 7 3) q

all_met : list_all (is_met Renju overline_table.table any_reply attacked on_the_block) (points_of attacked) ≡ true
unfolding attacked on_the_block overline_board
all_met = refl

block_fouls : outcome Renju attacked (point_at 7 3) ≡ Fouls Overline
unfolding attacked overline_board outcome black_foul black_foul_within stone_foul fours_of is_three is_three_point
    gives_straight is_straight
block_fouls = refl

attack_goes_on : outcome Renju overline_board (point_at 6 3) ≡ GoesOn
unfolding overline_board outcome
attack_goes_on = refl

more_than_one : nat_eq (empties_of attacked) 1 ≡ false
unfolding attacked overline_board
more_than_one = refl

accepted : Accepted Renju overline_table.table 1 overline_board
unfolding attacked on_the_block
accepted = accepted-by-replies Renju overline_table.table lower 1 overline_board _ refl attack_goes_on refl (λ q.
    met-by_test Renju overline_table.table lower any_reply attacked more_than_one q on_the_block all_met (λ same.
    subst (λ (r : Point). Meets Renju any_reply (Accepted Renju overline_table.table) attacked r) (is_same_point-same (point_at 7 3) q same)
    (met-foul Renju overline_table.table any_reply attacked (point_at 7 3) Overline block_fouls)))

is_board : IsBoard overline_board
unfolding overline_board
is_board = record { wide = omega arith; width_fits = omega arith; high = omega arith; height_fits = omega arith; filled = refl }

unrefused : refusal Renju overline_board ≡ None
unfolding overline_board refusal
unrefused = refl

pub overline-held : IsHeld overline_table
overline-held = record {
  roots = All-cons (IsHeldRoot overline_table.table) _ []
      (record { lawful = lawful_from_none Renju overline_board is_board unrefused; below = refl; accepted = accepted })
      (All-nil (IsHeldRoot overline_table.table));
  few = omega arith;
}

-- ---- the sessions

told : List Command
told =
    Start 15 ∷ Rule 4 ∷ Board ∷ Stone 3 3 1 ∷ Stone 4 3 1 ∷ Stone 5 3 1 ∷ Stone 12 14 1 ∷ Stone 14 14 1 ∷ Stone 7 0 2 ∷ Stone 7 1 2 ∷ Stone
    7 2 2 ∷ Stone 2 3 2 ∷ Stone 7 4 2 ∷ Stone 7 5 2 ∷ []

played : Game
played = new_game Renju overline_board White

begins : BeginsHeldGame (state_after (new_brain overline_table) told) Done played 1
unfolding told played overline_board state_after row_of chosen chosen_anew refusal outcome black_foul black_foul_within stone_foul fours_of
    is_three is_three_point gives_straight is_straight
begins = record { chooses = refl; not_followed = refl; leads = refl }

elsewhere : List Command
elsewhere = Turn 0 14 ∷ Turn 1 14 ∷ End ∷ []

elsewhere_lines : commands elsewhere_input ≡ told ++ Done ∷ elsewhere
unfolding elsewhere_input told elsewhere
elsewhere_lines = refl

elsewhere_answers : answers_from (new_brain overline_table) (told ++ Done ∷ elsewhere) ≡ SaysOk ∷ Move (point_at 6 3) ∷ Move (point_at 7 3)
    ∷ Error GameOver ∷ []
unfolding told elsewhere overline_board answers_from row_of chosen chosen_anew refusal outcome black_foul black_foul_within stone_foul
    fours_of is_three is_three_point gives_straight is_straight
elsewhere_answers = refl

pub elsewhere-text : session_text (new_brain overline_table) elsewhere_input ≡ codes "OK\r\n6,3\r\n7,3\r\nERROR game over\r\n"
unfolding digits
elsewhere-text = ap (λ (cs : List Command). answer_texts (answers_from (new_brain overline_table) cs)) elsewhere_lines
    ∙ ap answer_texts elsewhere_answers

elsewhere_replies : replies (brain_step (state_after (new_brain overline_table) told) Done).next elsewhere ≡ point_at 0 14 ∷ []
unfolding told elsewhere overline_board replies state_after row_of chosen chosen_anew refusal outcome black_foul black_foul_within
    stone_foul fours_of is_three is_three_point gives_straight is_straight
elsewhere_replies = refl

elsewhere_game : game_answers Renju overline_table.table 1 overline_board (point_at 0 14 ∷ []) ≡ Move (point_at 6 3) ∷ Move (point_at 7 3) ∷
    []
unfolding overline_board attacks outcome black_foul black_foul_within stone_foul fours_of is_three is_three_point gives_straight is_straight
elsewhere_game = refl

elsewhere_won : game Renju overline_table.table 1 overline_board (point_at 0 14 ∷ []) ≡ Won 2
unfolding overline_board game outcome black_foul black_foul_within stone_foul fours_of is_three is_three_point gives_straight is_straight
elsewhere_won = refl

pub elsewhere-game : PlaysHeldGame overline_table elsewhere_input 1 (point_at 0 14 ∷ []) (Move (point_at 6 3) ∷ Move (point_at 7 3) ∷ []) 2
unfolding played state_after overline_board told row_of
elsewhere-game = plays_held overline_table overline-held elsewhere_input told Done elsewhere played 1 _ _ 2 elsewhere_lines begins
    elsewhere_replies elsewhere_game elsewhere_won

-- ---- the block

block : List Command
block = Turn 7 3 ∷ Turn 1 14 ∷ End ∷ []

block_lines : commands block_input ≡ told ++ Done ∷ block
unfolding block_input told block
block_lines = refl

block_answers : answers_from (new_brain overline_table) (told ++ Done ∷ block) ≡ SaysOk ∷ Move (point_at 6 3) ∷ Error OpponentFoul ∷ Error
    GameOver ∷ []
unfolding told block overline_board answers_from row_of chosen chosen_anew refusal outcome black_foul black_foul_within stone_foul fours_of
    is_three is_three_point gives_straight is_straight
block_answers = refl

pub block-text : session_text (new_brain overline_table) block_input ≡ codes "OK\r\n6,3\r\nERROR opponent foul\r\nERROR game over\r\n"
unfolding digits
block-text = ap (λ (cs : List Command). answer_texts (answers_from (new_brain overline_table) cs)) block_lines
    ∙ ap answer_texts block_answers

block_replies : replies (brain_step (state_after (new_brain overline_table) told) Done).next block ≡ point_at 7 3 ∷ []
unfolding told block overline_board replies state_after row_of chosen chosen_anew refusal outcome black_foul black_foul_within stone_foul
    fours_of is_three is_three_point gives_straight is_straight
block_replies = refl

block_game : game_answers Renju overline_table.table 1 overline_board (point_at 7 3 ∷ []) ≡ Move (point_at 6 3) ∷ Error OpponentFoul ∷ []
unfolding overline_board attacks outcome black_foul black_foul_within stone_foul fours_of is_three is_three_point gives_straight is_straight
block_game = refl

block_won : game Renju overline_table.table 1 overline_board (point_at 7 3 ∷ []) ≡ Won 1
unfolding overline_board game outcome black_foul black_foul_within stone_foul fours_of is_three is_three_point gives_straight is_straight
block_won = refl

pub block-game : PlaysHeldGame overline_table block_input 1 (point_at 7 3 ∷ []) (Move (point_at 6 3) ∷ Error OpponentFoul ∷ []) 1
unfolding played state_after overline_board told row_of
block-game = plays_held overline_table overline-held block_input told Done block played 1 _ _ 1 block_lines begins
    block_replies block_game block_won
