-- A game beside a table: what the table has in turn, and the first move at which the side of the table leaves it.
use Rattle.std.specs.Prelude.{ℕ, ◌+◌, Bool, true, false, not, List, [], ◌∷◌, Option, Some, None, slice_get}
use Rattle.std.specs.Option.{option_map}
use Rattle.game_rules.specs.Grid.{Grid}
use Rattle.game_rules.specs.Shapes.{is_same_point}
use Rattle.game_rules.specs.declared.RuleKind.{RuleKind}
use Rattle.game_rules.specs.declared.Outcome.{Outcome}
use Rattle.game_rules.specs.declared.Outcome.TheVariants.{Refused, Wins, Fouls, Draws, GoesOn}
use Rattle.game_rules.specs.declared.Point.{Point}
use Rattle.strategy_graph.specs.declared.Node.{Node}
use Rattle.strategy_graph.specs.declared.roots.Root.{Root}
use Rattle.strategy_graph.specs.declared.roots.Root.TheVariants.{Attack, Defend}
use Rattle.strategy_graph.specs.Tables.{answers_of, answer}
use Rattle.game_referee.specs.declared.ReplayAnswer.{ReplayAnswer}
use Rattle.game_referee.specs.declared.ReplayAnswer.TheVariants.{Follows, Departs}
use Rattle.game_referee.specs.declared.replaying.Turn.{Turn}
use Rattle.game_referee.specs.declared.replaying.Turn.TheVariants.{Attack as Attacks, Reply, Begin}
use Rattle.game_referee.specs.Verdicts.{outcomes}

-- whether p is the attack of the node, if there is one
abbrev pub is_attack : Option Node → Point → Bool
is_attack None p = false
is_attack (Some n) p = is_same_point n.attack p

-- What is in turn after the move p: where the attack of a node is due, the answers of this node to the reply; where a reply is due,
-- the node that answers it, if there is one.
abbrev pub next_turn : List Node → Option Root → Point → Option Root
next_turn t None p = None
next_turn t (Some (Attack i)) p = option_map (λ n. Defend (answers_of n)) (slice_get t i)
next_turn t (Some (Defend a)) p = option_map (λ j. Attack j) (answer a p)

-- whether the move p strays from the table: the attack of a node is due, and p is another point
abbrev pub is_stray : List Node → Option Root → Point → Bool
is_stray t None p = false
is_stray t (Some (Attack i)) p = not (is_attack (slice_get t i) p)
is_stray t (Some (Defend a)) p = false

-- which of the moves stray, where this is in turn at the first of them
abbrev pub strays : List Node → Option Root → List Point → List Bool
strays t turn [] = []
strays t turn (p ∷ ps) = is_stray t turn p ∷ strays t (next_turn t turn p) ps

-- The first move that strays, if each move before it goes on, where n moves went on before: by which of the moves stray, and by
-- their outcomes.
abbrev pub departs_from : ℕ → List Bool → List Outcome → ReplayAnswer
departs_from n [] os = Follows
departs_from n (true ∷ bs) os = Departs (n + 1)
departs_from n (false ∷ bs) [] = Follows
departs_from n (false ∷ bs) (Refused ∷ os) = Follows
departs_from n (false ∷ bs) (Wins ∷ os) = Follows
departs_from n (false ∷ bs) (Fouls f ∷ os) = Follows
departs_from n (false ∷ bs) (Draws ∷ os) = Follows
departs_from n (false ∷ bs) (GoesOn ∷ os) = departs_from (n + 1) bs os

-- The replay of a game by a table: it departs at the first move that strays, if each move before it goes on, and else it follows.
unfoldable pub replay : RuleKind → List Node → Root → Grid → List Point → ReplayAnswer
replay rule t root b ms = departs_from 0 (strays t (Some root) ms) (outcomes rule b ms)

-- what the code says is in turn, as a root
abbrev pub in_turn : List Node → Turn → Option Root
in_turn t (Attacks i) = Some (Attack i)
in_turn t (Reply i) = option_map (λ n. Defend (answers_of n)) (slice_get t i)
in_turn t (Begin a) = Some (Defend a.now)
