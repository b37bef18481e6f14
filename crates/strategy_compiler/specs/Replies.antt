-- Replies that lose.
use Rattle.std.specs.Prelude.{ℕ, List}
use Rattle.game_rules.specs.Grid.{Grid}
use Rattle.game_rules.specs.Play.{after}
use Rattle.game_rules.specs.declared.RuleKind.{RuleKind}
use Rattle.strategy_graph.specs.declared.Node.{Node}
use Rattle.strategy_graph.specs.declared.Reply.{Reply}
use Rattle.strategy_graph.specs.Tables.{depth}
use Rattle.strategy_compiler.specs.Wins.{IsWrittenWin}

-- The node that answers the reply r at b wins after it: it is one of these nodes, is accepted at the board after the reply and is no
-- deeper than the limit, and what it reaches names points of the board alone.
abbrev pub IsBeatenBy : RuleKind → ℕ → Grid → List Node → Reply → Type 0
IsBeatenBy rule limit b t r = IsWrittenWin rule limit (after b r.at) t (record { node = r.next; moves = depth t r.next })
