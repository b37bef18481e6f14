-- What is said of a position where a table was found and checked.
use Rattle.std.proofs.Common.{◌≡◌, inl, inr, ℕ, List, Result, Ok, Err, IfOk}
use Rattle.game_rules.specs.declared.RuleKind.{RuleKind}
use Rattle.game_rules.proofs.Common.{Grid}
use Rattle.strategy_graph.specs.declared.Node.{Node}
use Rattle.position_files.proofs.Common.{IsTextOfTable}
use Rattle.command_base.specs.declared.answer.Answer.{Answer}
use Rattle.command_base.specs.declared.status.Status.TheVariants.{Done}
use Rattle.command_base.specs.Positions.{file_at}
use Rattle.position_commands.specs.Fours.{table_at}
use Rattle.quiet_command.proofs.Common.{IsCheckedTable, IsFinished, IsUnsolved, QuietSays}

pub checked-says : {E : Type 0} (r : Result Answer E) (limit nodes : ℕ) (rule : RuleKind) (b : Grid) (t : List Node) (moves : ℕ)
    → IsUnsolved limit nodes (file_at rule b) → IsFinished t → IsCheckedTable rule limit b t moves → IfOk r (λ a. a.status ≡ Done)
    → IfOk r (λ a. IsTextOfTable (table_at (file_at rule b) moves t) a.text)
    → IfOk r (λ a. QuietSays limit nodes (file_at rule b) a.status a.text)
checked-says (Err e) limit nodes rule b t moves unsolved finished checked done text = tt
checked-says (Ok a) limit nodes rule b t moves unsolved finished checked done text = inr (inl (record {
  unsolved = unsolved;
  win = record {
    moves = moves;
    table = t;
    within = checked.within;
    accepted = checked.accepted;
    deep = checked.deep;
    different = finished.different;
    reached = finished.reached;
    written = text;
  };
  ends = done;
}))
