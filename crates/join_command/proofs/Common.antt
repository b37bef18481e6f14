-- The words of join_command, all in one place for the files of laws.
pub use Rattle.command_base.specs.declared.answer.Answer.{Answer}
pub use Rattle.command_base.specs.declared.status.Status.TheVariants.{Done, NotFound}
pub use Rattle.file_loading.specs.ManyFiles.{AreTableFiles}
pub use Rattle.game_rules.specs.Grid.{Grid, points_of}
pub use Rattle.game_rules.specs.Play.{after, goes_on}
unfoldable pub use Rattle.game_rules.specs.Play.{outcome}
pub use Rattle.game_rules.specs.declared.Outcome.{Outcome}
pub use Rattle.game_rules.specs.declared.Outcome.TheVariants.{GoesOn}
pub use Rattle.game_rules.specs.declared.Point.{Point}
pub use Rattle.game_rules.specs.declared.RuleKind.{RuleKind}
pub use Rattle.join_command.specs.Adopting.{AreAdopted, IsAdopted}
pub use Rattle.join_command.specs.Answering.{AnswersAt, IsOpenReply, MayBeAsked, OpenOr}
pub use Rattle.join_command.specs.Asking.{IsAnswerTold, LacksZone}
pub use Rattle.join_command.specs.Joins.{AttackJoins, node_count}
pub use Rattle.join_command.specs.Making.{IsNodeTold, IsTextOfNode}
pub use Rattle.join_command.specs.Meeting.{AreAnswered, HaveRoots, IsAnswered}
pub use Rattle.join_command.specs.declared.TheConstants.{MAX_PAIRS}
pub use Rattle.position_files.specs.declared.PositionFile.{PositionFile}
pub use Rattle.position_files.specs.declared.TableFile.{TableFile}
pub use Rattle.strategy_compiler.specs.Growth.{GrowsBy}
pub use Rattle.strategy_compiler.specs.Nodes.{IsCompiled, PutsIn, answering_node}
pub use Rattle.strategy_compiler.specs.Walks.{last}
pub use Rattle.strategy_graph.specs.Acceptance.{Accepted}
pub use Rattle.strategy_graph.specs.Laws.{SaysSame}
pub use Rattle.strategy_graph.specs.Tables.{IsTable, NamesLower, TableOnBoard, answer_at, answers_of, depth}
pub use Rattle.strategy_graph.specs.declared.Node.{Node}
pub use Rattle.strategy_graph.specs.declared.Reply.{Reply}
pub use Rattle.strategy_graph.specs.declared.TheConstants.{MAX_NODES}
pub use Rattle.strategy_graph.specs.declared.roots.Root.{Root}
pub use Rattle.strategy_graph.specs.declared.roots.Root.TheVariants.{Attack}
pub use Rattle.zone_checker.specs.Verdicts.{IsVerdict}
