-- The laws of tables that the layers above rest on.
use Rattle.std.specs.Prelude.{◌≡◌, ◌↔◌, ℕ, suc, ◌<◌, true, List, ◌++◌, length, slice_get, Option, Some, None}
use Rattle.std.specs.Option.{option_map_or}
use Rattle.game_rules.specs.Grid.{Grid}
use Rattle.game_rules.specs.Games.{WinsWithin, WinsAfter}
use Rattle.game_rules.specs.declared.RuleKind.{RuleKind}
use Rattle.game_rules.specs.declared.Point.{Point}
use Rattle.strategy_graph.specs.declared.Node.{Node}
use Rattle.strategy_graph.specs.declared.Why.{Why}
use Rattle.strategy_graph.specs.declared.roots.Root.{Root}
use Rattle.strategy_graph.specs.declared.roots.Root.TheVariants.{Attack, Defend}
use Rattle.strategy_graph.specs.Tables.{Answers, answers_of, NamesLower, names_below, depth, start_depth, answer}
use Rattle.strategy_graph.specs.Acceptance.{AcceptedNode, Accepted, AcceptedStart}
use Rattle.strategy_graph.specs.Arrivals.{arrivals_behind, arrivals, start_arrivals}
use Rattle.strategy_graph.specs.Games.{game, attacks, EndsWell}
use Rattle.strategy_graph.specs.Leads.{Leads, LeadsStart}

-- depth, acceptance and arrivals of node i, by those of the nodes that it names
pub record GoesByNode (t : List Node) (i : ℕ) : Type 0 where
  pub depth_by_node : depth t i ≡ option_map_or (λ n. suc (start_depth t (answers_of n))) (slice_get t i) 0
  pub accepted_by_node : (rule : RuleKind) (b : Grid) → Accepted rule t i b ↔ AcceptedNode rule (slice_get t i) (Accepted rule t) b
  pub arrivals_by_node : (rule : RuleKind) (b : Grid) → arrivals rule t i b ≡ suc (arrivals_behind rule (slice_get t i) (arrivals rule t) b)

-- the bound on the nodes that follow one another plays no part
abbrev pub NodesGoByNode : Type 0
NodesGoByNode = (t : List Node) → NamesLower t → (i : ℕ) → GoesByNode t i

-- an accepted node wins within its depth
abbrev pub AcceptedWins : Type 0
AcceptedWins = (rule : RuleKind) (t : List Node) (i : ℕ) (b : Grid) → Accepted rule t i b → WinsWithin rule (depth t i) b

-- whatever is played first, an accepted start wins within its depth
abbrev pub AcceptedStartWins : Type 0
AcceptedStartWins =
    (rule : RuleKind) (t : List Node) (a : Answers) (b : Grid) → AcceptedStart rule t a b → WinsAfter rule (start_depth t a) b

-- a game from an accepted node ends well, whatever the replies
abbrev pub GamesEndWell : Type 0
GamesEndWell =
    (rule : RuleKind) (t : List Node) (i : ℕ) (b : Grid) (qs : List Point) → Accepted rule t i b
    → EndsWell (depth t i) (length qs) (game rule t i b qs)

-- node j of table u says what node i of table t says: its depth, where it is accepted, its arrivals, its games, and
-- the lines to a fault
pub record SaysSame (t : List Node) (i : ℕ) (u : List Node) (j : ℕ) : Type 0 where
  pub same_depth : depth u j ≡ depth t i
  pub same_accepted : (rule : RuleKind) (b : Grid) → Accepted rule u j b ↔ Accepted rule t i b
  pub same_arrivals : (rule : RuleKind) (b : Grid) → arrivals rule u j b ≡ arrivals rule t i b
  pub same_game : (rule : RuleKind) (b : Grid) (qs : List Point) → game rule u j b qs ≡ game rule t i b qs
  pub same_attacks : (rule : RuleKind) (b : Grid) (qs : List Point) → attacks rule u j b qs ≡ attacks rule t i b qs
  pub same_leads : (rule : RuleKind) (b : Grid) (line : List Point) (why : Why) → Leads rule u j b line why ↔ Leads rule t i b line why

-- the start c says with table u what the start a says with table t: its depth, where it is accepted, its arrivals, and the
-- lines to a fault
pub record StartSaysSame (t : List Node) (a : Answers) (u : List Node) (c : Answers) : Type 0 where
  pub same_depth : start_depth u c ≡ start_depth t a
  pub same_accepted : (rule : RuleKind) (b : Grid) → AcceptedStart rule u c b ↔ AcceptedStart rule t a b
  pub same_arrivals : (rule : RuleKind) (b : Grid) → start_arrivals rule u c b ≡ start_arrivals rule t a b
  pub same_leads : (rule : RuleKind) (b : Grid) (line : List Point) (why : Why)
      → LeadsStart rule u c b line why ↔ LeadsStart rule t a b line why

-- the answers are both there, and the second says in table u what the first says in table t; or neither is there
abbrev pub AnswersSaySame : List Node → Option ℕ → List Node → Option ℕ → Type 0
AnswersSaySame t None u None = Unit {0}
AnswersSaySame t None u (Some j) = ⊥
AnswersSaySame t (Some i) u None = ⊥
AnswersSaySame t (Some i) u (Some j) = SaysSame t i u j

-- The root s says with table u what the root r says with table t: its depth, where it is accepted, its arrivals, and its games.
-- The games of a start are, for each reply, those of the node that answers it, if there is one.
abbrev pub RootSaysSame : List Node → Root → List Node → Root → Type 0
RootSaysSame t (Attack i) u (Attack j) = SaysSame t i u j
RootSaysSame t (Attack i) u (Defend c) = ⊥
RootSaysSame t (Defend a) u (Attack j) = ⊥
RootSaysSame t (Defend a) u (Defend c) = StartSaysSame t a u c × ((q : Point) → AnswersSaySame t (answer a q) u (answer c q))

-- a node says the same however the table grows
abbrev pub GrowthKeeps : Type 0
GrowthKeeps = (t more : List Node) → NamesLower t → (i : ℕ) → i < length t → SaysSame t i (t ++ more) i

-- a start that names nodes of the table says the same however the table grows
abbrev pub GrowthKeepsStart : Type 0
GrowthKeepsStart = (t more : List Node) → NamesLower t → (a : Answers) → names_below a (length t) ≡ true → StartSaysSame t a (t ++ more) a

-- a node from which a line leads to a fault is not accepted
abbrev pub FaultsRefute : Type 0
FaultsRefute =
    (rule : RuleKind) (t : List Node) (i : ℕ) (b : Grid) (line : List Point) (why : Why) → Leads rule t i b line why → ¬ Accepted rule t i b

-- a start from which a line leads to a fault is not accepted
abbrev pub FaultsRefuteStart : Type 0
FaultsRefuteStart =
    (rule : RuleKind) (t : List Node) (a : Answers) (b : Grid) (line : List Point) (why : Why) → LeadsStart rule t a b line why
    → ¬ AcceptedStart rule t a b
