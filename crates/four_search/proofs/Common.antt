-- The words of four_search, all in one place for the files of laws.
pub use Rattle.four_search.specs.Answers.{IsFourWin, IsSought, IsSoughtOut, IsWithoutFours, OnWin, is_win, most_added}
pub use Rattle.four_search.specs.FewestWins.{IsFewestWin, IsFinished, IsFoundTable, IsFourTable, win_of}
pub use Rattle.four_search.specs.FourGame.{behind_move, depths_tried, four_cost, if_one, least_moves, tried, until}
unfoldable pub use Rattle.four_search.specs.FourGame.{four_tree}
pub use Rattle.four_search.specs.FourPoints.{AfterFour, AfterReply, AreFourPoints, Joins, RulesOut, WasFourPoint, four_point_at}
pub use Rattle.four_search.specs.FourPoints.{four_points_of, has_four_point, makes, place_in, still_at, still_of}
pub use Rattle.four_search.specs.Gaps.{AreGaps, GapsOneWay, IsGap, IsGapOn, IsOfPair, IsPast, TellsGaps, next_gap}
pub use Rattle.four_search.specs.Plans.{answer_if, answers_for, branch_if, branches_for, plan_from}
unfoldable pub use Rattle.four_search.specs.Plans.{four_plan}
pub use Rattle.four_search.specs.Remembering.{IsDenied, IsTrueMemory}
pub use Rattle.four_search.specs.Roots.{TellsNoFive, TellsRoot}
pub use Rattle.four_search.specs.Searching.{found_answering, found_at, found_behind, found_by, found_trying, line_behind, line_from}
pub use Rattle.four_search.specs.Searching.{positions_behind}
unfoldable pub use Rattle.four_search.specs.Searching.{four_line}
