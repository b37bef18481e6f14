-- The words of strategy_checker, all in one place for the files of laws.
pub use Rattle.game_rules.specs.Games.{has_five}
pub use Rattle.game_rules.specs.Grid.{Grid, IsBoard, empties_of, is_empty, lift, points_of}
pub use Rattle.game_rules.specs.Play.{IsPosition, after, goes_on, has_fouls, mover}
unfoldable pub use Rattle.game_rules.specs.Play.{outcome}
pub use Rattle.game_rules.specs.Points.{precedes}
pub use Rattle.game_rules.specs.Shapes.{is_same_point}
pub use Rattle.game_rules.specs.declared.Outcome.{Outcome}
pub use Rattle.game_rules.specs.declared.Outcome.TheVariants.{GoesOn, Wins}
pub use Rattle.game_rules.specs.declared.Point.{Point}
pub use Rattle.game_rules.specs.declared.RuleKind.{RuleKind}
pub use Rattle.position_table.specs.Packing.{packed}
pub use Rattle.strategy_checker.specs.Checks.{IsChecked, IsEndOf, IsTold}
pub use Rattle.strategy_checker.specs.HeldErrors.{IfRootRefused, IfRootSpent}
pub use Rattle.strategy_checker.specs.HeldRoots.{HeldTable, IsHeld, IsHeldRoot}
pub use Rattle.strategy_checker.specs.Meetings.{Advanced, AreMet, Asked, Entered, Handed, IsStage, IsWhole, Owes, Settled, Stops, Under}
pub use Rattle.strategy_checker.specs.Meetings.{Waits, WentOn, all_to_ask, apart_points, left_at, owed, to_ask, to_do}
pub use Rattle.strategy_checker.specs.Verdicts.{AcceptsExactly, IfAccepted, IfRefused, IsVerdictOf, RefusesRightly, SpendsRightly}
pub use Rattle.strategy_checker.specs.Walks.{AreFives, HadNone, IsNoted, IsOutlook, IsQuick, IsReady, IsSure, IsTrueMemo, IsWalked, Stopped}
pub use Rattle.strategy_checker.specs.Walks.{Takes, TellsFives, Walked, WalkedNode, WalkedReply, fives_after, is_apart, is_sure_after}
pub use Rattle.strategy_checker.specs.Walks.{leaves_none}
pub use Rattle.strategy_checker.specs.declared.TheConstants.{MAX_ROOTS}
pub use Rattle.strategy_checker.specs.declared.held.HeldRoot.{HeldRoot}
pub use Rattle.strategy_checker.specs.declared.outlook.Sure.{Sure}
pub use Rattle.strategy_checker.specs.declared.walk.Stage.{Stage}
pub use Rattle.strategy_checker.specs.declared.walk.Stop.{Stop}
pub use Rattle.strategy_checker.specs.declared.walk.Stop.TheVariants.{Fault, Memory, Spent}
pub use Rattle.strategy_checker.specs.declared.walk.Walk.{Walk}
pub use Rattle.strategy_graph.specs.Acceptance.{Accepted, AcceptedStart, Meets}
pub use Rattle.strategy_graph.specs.Arrivals.{arrivals, arrivals_after, arrivals_at}
pub use Rattle.strategy_graph.specs.Leads.{LeadsStart, attack_fault}
unfoldable pub use Rattle.strategy_graph.specs.Leads.{Leads}
pub use Rattle.strategy_graph.specs.Lent.{lent_node}
pub use Rattle.strategy_graph.specs.Tables.{Answers, answer, answers_of, is_rising, is_winning, listed_node, rest_node}
pub use Rattle.strategy_graph.specs.declared.Node.{Node}
pub use Rattle.strategy_graph.specs.declared.Reply.{Reply}
pub use Rattle.strategy_graph.specs.declared.Rest.{Rest}
pub use Rattle.strategy_graph.specs.declared.Why.{Why}
