-- Games from a root: from a node on, or after the first move at a start.
use Rattle.std.specs.Prelude.{ℕ, List, [], ◌∷◌, Option, Some, None}
use Rattle.std.specs.Option.{option_map}
use Rattle.game_rules.specs.Grid.{Grid}
use Rattle.game_rules.specs.Play.{after}
use Rattle.game_rules.specs.declared.RuleKind.{RuleKind}
use Rattle.game_rules.specs.declared.Point.{Point}
use Rattle.strategy_graph.specs.declared.Node.{Node}
use Rattle.strategy_graph.specs.declared.roots.Root.{Root}
use Rattle.strategy_graph.specs.declared.roots.Root.TheVariants.{Attack, Defend}
use Rattle.strategy_graph.specs.Tables.{Answers, answer, answer_at}
use Rattle.strategy_graph.specs.Games.{End, game}

-- the end of a game after the move q at the start, against these replies: that from the node that answers q, if there is one
abbrev pub start_game : RuleKind → List Node → Answers → Grid → Point → List Point → Option End
start_game rule t a b q qs = option_map (λ j. game rule t j (after b q) qs) (answer a q)

-- the end of a game from the root at b against these moves of the other side, of which at a start the first is played before any
-- answer: no game, where there is none, or no answer to it
abbrev pub root_game : RuleKind → List Node → Root → Grid → List Point → Option End
root_game rule t (Attack i) b qs = Some (game rule t i b qs)
root_game rule t (Defend a) b [] = None
root_game rule t (Defend a) b (q ∷ qs) = start_game rule t a b q qs

-- the node with which the root answers the move q of the other side, if there is one
abbrev pub root_answer : List Node → Root → Point → Option ℕ
root_answer t (Attack i) q = answer_at t i q
root_answer t (Defend a) q = answer a q
