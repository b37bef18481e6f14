-- The words of foul_judge, all in one place for the files of laws.
pub use Rattle.foul_judge.specs.BlackMoves.{black_outcome, foul_in, outcome_of_shapes, quiet_outcome}
pub use Rattle.foul_judge.specs.Lawful.{is_on_winning_run, names_mover, wins_through, won_or_full}
unfoldable pub use Rattle.foul_judge.specs.Lawful.{refusal}
unfoldable pub use Rattle.foul_judge.specs.ShortCut.{has_line_three, may_foul, may_have_two_threes, reaches_of}
pub use Rattle.foul_judge.specs.Threes.{free_three, stone_shapes, two_threes}
