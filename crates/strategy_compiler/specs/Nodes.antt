-- The nodes of a compiler: which node answers given replies, and what is added.
use Rattle.std.specs.Prelude.{◌≡◌, ◌⊎◌, ℕ, not, nat_eq, List, [], ◌∷◌, ◌++◌, map, All, Contains, Option, Some, None}
use Rattle.std.specs.List.{filter}
use Rattle.std.specs.Option.{option_eq}
use Rattle.game_rules.specs.declared.Point.{Point}
use Rattle.strategy_graph.specs.declared.Reply.{Reply}
use Rattle.strategy_graph.specs.declared.Rest.{Rest}
use Rattle.strategy_graph.specs.declared.Rest.TheVariants.{Wins, To, Nothing}
use Rattle.strategy_graph.specs.declared.Node.{Node}
use Rattle.strategy_graph.specs.Tables.{Answers, IsTable}
use Rattle.strategy_compiler.specs.Trees.{commonest}
use Rattle.strategy_compiler.specs.Walks.{AreDifferent}

-- the nodes of a compiler: they are a table, and no two are equal
pub record IsCompiled (t : List Node) : Type 0 where
  pub table : IsTable t
  pub different : AreDifferent t

-- the winning node with this attack
abbrev pub winning_node : Point → Node
winning_node attack = record { attack = attack; replies = []; rest = Wins }

-- the rest that is this node, or `Nothing` if there is none
abbrev pub rest_of : Option ℕ → Rest
rest_of None = Nothing
rest_of (Some j) = To j

-- the node that answers the most of the replies, and on a tie the earliest, if there are answers
abbrev pub commonest_next : List Reply → Option ℕ
commonest_next answers = commonest (map (λ r. r.next) answers)

-- the answers that are another node than this
abbrev pub answers_beside : Option ℕ → List Reply → List Reply
answers_beside rest answers = filter (λ r. not (option_eq nat_eq (Some r.next) rest)) answers

-- these answers in brief: the rest is the commonest, and only the answers that differ are listed
abbrev pub brief_answers : List Reply → Answers
brief_answers answers =
    record { replies = answers_beside (commonest_next answers) answers; rest = rest_of (commonest_next answers) }

-- the node with this attack and these answers in brief
abbrev pub answering_node : Point → List Reply → Node
answering_node attack answers =
    record { attack = attack; replies = (brief_answers answers).replies; rest = (brief_answers answers).rest }

-- the nodes after n is put in: they stay where one is equal to it, and else n is added last
abbrev pub PutsIn : List Node → Node → List Node → Type 0
PutsIn old n new = (Contains old n × (new ≡ old)) ⊎ ((¬ Contains old n) × (new ≡ old ++ n ∷ []))

-- the node names no points but the attack and these
pub record NamesOnly (attack : Point) (points : List Point) (n : Node) : Type 0 where
  pub attack_is : n.attack ≡ attack
  pub replies_among : All (λ r. Contains points r.at) n.replies
