-- The words of defence_finder, all in one place for the files of laws.
pub use Rattle.defence_finder.specs.Answers.{AreBeaten, IsLostStart, IsPlanned, OnKnown, most_nodes, nodes_after, plans_after, spent_at}
pub use Rattle.defence_finder.specs.Defences.{HoldsOr, IsShortAfter, SufficesAfterEach, beaten_of, defences_of, first_spent, holds_or}
pub use Rattle.defence_finder.specs.Defences.{is_beaten, is_defence, is_spent}
pub use Rattle.defence_finder.specs.Finding.{AreFound, IsAdded, IsSettled, IsToldAt, IsVerdict, IsWalked}
pub use Rattle.defence_finder.specs.Laws.{BeatenRepliesArePlanned, BeatenRepliesWin, DefencesAreTold, NoDefenceLoses, SpentIsTold}
pub use Rattle.defence_finder.specs.Lines.{point_line}
