-- The words of brain_session, all in one place for the files of laws.
pub use Rattle.brain_session.specs.Batches.{colour_by, colour_in, game_from, has_stone_at, lawful_game, new_batch, side_of, spoiled}
pub use Rattle.brain_session.specs.Batches.{with_batch_stone, with_batch_stones, with_stone_at}
pub use Rattle.brain_session.specs.ChosenMoves.{Choice, by_followed, by_following, by_held, by_own_win, by_plain_move, first_node}
pub use Rattle.brain_session.specs.ChosenMoves.{five_to_block, five_to_make, followed_after, followed_on, last_move, least_empty, move_by}
pub use Rattle.brain_session.specs.ChosenMoves.{next_to_middle, node_at, off_middle, or_else, own_win, plain_move, root_node, same_board}
pub use Rattle.brain_session.specs.ChosenMoves.{same_cell, same_rule, start_answer}
unfoldable pub use Rattle.brain_session.specs.ChosenMoves.{chosen, chosen_anew}
pub use Rattle.brain_session.specs.Drawings.{Drawing, Exchange, SessionsAreDrawn, Sheet, answer_in, blank, board_now, drawn, drawn_after}
pub use Rattle.brain_session.specs.Drawings.{drawn_board, sent_anew, sent_board, set_out, set_up, taken_back, wiped, with_answer}
pub use Rattle.brain_session.specs.Drawings.{with_moves, with_reply}
unfoldable pub use Rattle.brain_session.specs.Drawings.{exchanges}
pub use Rattle.brain_session.specs.HeldGames.{AnswersAndWins, AreReplies, BeginsHeldGame, HeldGameGoesWell, HeldGamesAreLed}
pub use Rattle.brain_session.specs.HeldGames.{HeldGamesGoWell, IsLedTo, IsTight, IsWonWithin, LegalRepliesAreAnswered, RootWinsGames}
pub use Rattle.brain_session.specs.HeldGames.{SessionsGoWell, StartsAreTight, WhoeverHoldsWins, WinsGames, answers_by, ends_with_foul}
pub use Rattle.brain_session.specs.HeldGames.{game_answers, is_no_reply, then_answers_to, then_replies, turns}
unfoldable pub use Rattle.brain_session.specs.HeldGames.{answers_to_replies, replies}
pub use Rattle.brain_session.specs.Kept.{GoesOnAfter, GuidesAt, GuidesOn, IsBegun, IsFound, IsInTable, IsKept, IsKeptUp, IsOwnTable}
pub use Rattle.brain_session.specs.Kept.{IsPointOn, IsReady, IsRow, IsSessionBoard, IsStateOf, IsUntouched, Moves, NodeStandsAt}
pub use Rattle.brain_session.specs.Kept.{OwnStandsAt, StandsAt, Takes, are_one, choice_of, followed_of, game_of, guide_after}
pub use Rattle.brain_session.specs.Kept.{has_no_place_in_batch, held_or_none, in_place, is_spoiled, nodes_of, place_in, place_of}
pub use Rattle.brain_session.specs.Kept.{turn_refusal, without_last}
pub use Rattle.brain_session.specs.LineGames.{BeginsByLines, HeldLinesWin, begun_at, drawing_of}
pub use Rattle.brain_session.specs.Memory.{begins_none, is_following, is_game, is_settled, takes_none}
pub use Rattle.brain_session.specs.Nearer.{is_nearer}
pub use Rattle.brain_session.specs.OwnGames.{BeginsOwnGame, OwnGameGoesWell, OwnGamesGoWell, OwnRepliesAreAnswered, PlaysWin, win_answers}
unfoldable pub use Rattle.brain_session.specs.OwnGames.{win_attacks, win_game}
pub use Rattle.brain_session.specs.RootGames.{BeginsByRoot, HasComeTo, IsNodeOf, IsThere, RootsBeginGames}
pub use Rattle.brain_session.specs.Running.{EndsAlong, EndsGame, FollowsAt, FollowsOn, GoesOnAlong, IsBrain, IsOpponentNext, IsPlace}
pub use Rattle.brain_session.specs.Running.{IsPlayed, IsRunning, StonesFit}
pub use Rattle.brain_session.specs.Serving.{HasAnswered, HasNoEnd, IsAnswered, IsHalfAnswered, IsReadToEnd, IsTooLong, IsWritten, Output}
pub use Rattle.brain_session.specs.Serving.{ReadsAfterAnswers, Served, StopsAtRead, StopsAtStep, StopsAtWrite, StopsInTurn, TakesCommands}
pub use Rattle.brain_session.specs.Serving.{Writes, output_of, served, within_limit}
pub use Rattle.brain_session.specs.Sessions.{answer_texts, session_text, then_answers, then_state}
unfoldable pub use Rattle.brain_session.specs.Sessions.{answers_from, state_after}
pub use Rattle.brain_session.specs.States.{Batch, Followed, Fresh, Game, HeldNode, InGame, NoBoard, OwnWin, Place, State, board_after}
pub use Rattle.brain_session.specs.States.{board_of, empty_board, new_brain, new_game, point_at}
pub use Rattle.brain_session.specs.Steps.{Chooses, Reacts, Row, Step, batch_row, begin_row, board_in, board_row, brain_step, done_row}
pub use Rattle.brain_session.specs.Steps.{end_row, fails, if_not_reading, if_supported, is_bare, is_side, last_row, move_row, place_before}
pub use Rattle.brain_session.specs.Steps.{placed, reading, restart_row, rule_of, same_side, start_row, step_by, stone_row, takeback_row}
pub use Rattle.brain_session.specs.Steps.{turn_row, unread, with_choice, with_move}
unfoldable pub use Rattle.brain_session.specs.Steps.{row_of}
pub use Rattle.brain_session.specs.TurnLines.{IsSomeBoards, OwnRepliesAreAnsweredInBytes, RepliesAreAnsweredInBytes, TurnLinesAreRead}
pub use Rattle.brain_session.specs.TurnLines.{turn_line, turn_lines}
pub use Rattle.brain_session.specs.declared.Reaction.{Reaction}
pub use Rattle.brain_session.specs.declared.Reaction.TheVariants.{Ends, Says, Silent}
pub use Rattle.brain_session.specs.declared.TheConstants.{OWN_MOVES, OWN_POSITIONS}
pub use Rattle.brain_session.specs.declared.batch.BatchStone.{BatchStone}
pub use Rattle.brain_session.specs.declared.game.SessionGame.{SessionGame}
pub use Rattle.brain_session.specs.declared.guide.Guide.{Guide}
pub use Rattle.four_search.specs.FourGame.{four_cost, least_moves}
unfoldable pub use Rattle.four_search.specs.Plans.{four_plan}
pub use Rattle.four_search.specs.declared.fewest.FourTable.{FourTable}
pub use Rattle.game_rules.specs.Games.{LosesOr, WinsOr, has_five, wins_by_fours}
pub use Rattle.game_rules.specs.Grid.{Grid, IsBoard, empties_of, holds, is_empty, is_empty_cell, is_on, is_stone_of, points_of, put}
pub use Rattle.game_rules.specs.Grid.{stones_of}
pub use Rattle.game_rules.specs.Play.{IsPosition, after, goes_on, is_foul, mover, other}
unfoldable pub use Rattle.game_rules.specs.Play.{outcome}
pub use Rattle.game_rules.specs.Shapes.{five, is_same_point}
pub use Rattle.game_rules.specs.declared.Cell.{Cell}
pub use Rattle.game_rules.specs.declared.Cell.TheVariants.{Empty}
pub use Rattle.game_rules.specs.declared.Foul.{Foul}
pub use Rattle.game_rules.specs.declared.Outcome.{Outcome}
pub use Rattle.game_rules.specs.declared.Outcome.TheVariants.{Draws, Fouls, GoesOn, Refused}
pub use Rattle.game_rules.specs.declared.Point.{Point}
pub use Rattle.game_rules.specs.declared.RuleKind.{RuleKind}
pub use Rattle.game_rules.specs.declared.Side.{Side}
pub use Rattle.game_rules.specs.declared.Side.TheVariants.{Black, White}
pub use Rattle.game_rules.specs.declared.TheConstants.{MAX_SIDE}
pub use Rattle.gomocup_text.specs.Answers.{answer_text}
pub use Rattle.gomocup_text.specs.Commands.{command_told, commands}
pub use Rattle.gomocup_text.specs.declared.Answer.{Answer}
pub use Rattle.gomocup_text.specs.declared.Answer.TheVariants.{Error, Move}
pub use Rattle.gomocup_text.specs.declared.Command.{Command}
pub use Rattle.gomocup_text.specs.declared.Command.TheVariants.{About, Begin, Blank, Board, Done, Info, Malformed, RectStart, Restart, Rule}
pub use Rattle.gomocup_text.specs.declared.Command.TheVariants.{Start, Stone, Takeback, Turn, Unknown}
pub use Rattle.gomocup_text.specs.declared.ErrorText.{ErrorText}
pub use Rattle.gomocup_text.specs.declared.ErrorText.TheVariants.{BadArguments, BadBoard, BadMove, GameOver, NotReading, OpponentFoul}
pub use Rattle.gomocup_text.specs.declared.ErrorText.TheVariants.{UnsupportedRule, WrongTurn}
pub use Rattle.renju_io.specs.Asked.{IsAskedWithin}
pub use Rattle.renju_io.specs.Lines.{ReaderState, lines, reads_for, whole_lines}
pub use Rattle.renju_io.specs.declared.TheConstants.{MAX_SESSION_BYTES}
pub use Rattle.strategy_checker.specs.HeldRoots.{HeldTable, IsHeld, IsHeldRoot}
pub use Rattle.strategy_checker.specs.declared.held.HeldRoot.{HeldRoot}
pub use Rattle.strategy_compiler.specs.Trees.{StandsFor}
pub use Rattle.strategy_graph.specs.Acceptance.{Accepted, Meets}
unfoldable pub use Rattle.strategy_graph.specs.Acceptance.{AcceptedWithin}
pub use Rattle.strategy_graph.specs.Games.{NoMove, Open, after_attack, one_later}
unfoldable pub use Rattle.strategy_graph.specs.Games.{attacks, game}
pub use Rattle.strategy_graph.specs.Roots.{AcceptedRoot}
pub use Rattle.strategy_graph.specs.Tables.{Answers, IsTable, answer, answer_at, answers_of, depth, is_winning, start_depth}
unfoldable pub use Rattle.strategy_graph.specs.Tables.{depth_within}
pub use Rattle.strategy_graph.specs.declared.Node.{Node}
pub use Rattle.strategy_graph.specs.declared.roots.Root.{Root}
pub use Rattle.strategy_graph.specs.declared.roots.Root.TheVariants.{Attack, Defend}
