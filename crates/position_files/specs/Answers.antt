-- What the readers of nodes and starts find.
use Rattle.std.specs.Prelude.{◌≡◌, ℕ, true, List, [], ◌∷◌, ◌++◌, ◌<◌, ◌^◌}
use Rattle.std.specs.List.{AllByRecursion}
use Rattle.game_rules.specs.declared.Point.{Point}
use Rattle.strategy_graph.specs.Tables.{Answers, IsStart, answers_of, is_winning, names_below}
use Rattle.strategy_graph.specs.declared.Reply.{Reply}
use Rattle.strategy_graph.specs.declared.Rest.{Rest}
use Rattle.strategy_graph.specs.declared.Rest.TheVariants.{Wins, To, Nothing}
use Rattle.strategy_graph.specs.declared.Node.{Node}
use Rattle.text_lines.specs.Lines.{line_feed}
use Rattle.position_files.specs.Tables.{node_line}
use Rattle.text_lines.specs.Reading.{IsWithin}

-- the reply is at a point within these bounds, and names a node by a number of 32 bits
pub record ReplyFits (width height : ℕ) (r : Reply) : Type 0 where
  pub at : IsWithin width height r.at
  pub next : r.next < 2 ^ 32

-- the rest names no node, or one by a number of 32 bits
abbrev pub RestFits : Rest → Type 0
RestFits Wins = Unit {0}
RestFits (To j) = j < 2 ^ 32
RestFits Nothing = Unit {0}

-- the rest is not winning, and names no node, or one by a number of 32 bits
abbrev pub OpenRestFits : Rest → Type 0
OpenRestFits Wins = ⊥
OpenRestFits (To j) = j < 2 ^ 32
OpenRestFits Nothing = Unit {0}

-- the replies and the rest fit, and a rest that wins comes with no replies
pub record AnswersFit (width height : ℕ) (a : Answers) : Type 0 where
  pub replies : AllByRecursion (ReplyFits width height) a.replies
  pub rest : RestFits a.rest
  pub winning : is_winning a.rest ≡ true → a.replies ≡ []

-- the attack is at a point within these bounds, and the answers fit
pub record NodeFits (width height : ℕ) (n : Node) : Type 0 where
  pub attack : IsWithin width height n.attack
  pub answers : AnswersFit width height (answers_of n)

-- the start fits, and names only nodes below this number
pub record StartFits (width height len : ℕ) (a : Answers) : Type 0 where
  pub answers : AnswersFit width height a
  pub start : IsStart a
  pub below : names_below a len ≡ true

-- the new nodes are the old ones and one more that fits, whose line the bytes begin with, and the rest is what comes after it
pub record AddsNode (width height : ℕ) (old new : List Node) (bytes rest : List ℕ) : Type 0 where
  pub node : Node
  pub fits : NodeFits width height node
  pub nodes : new ≡ old ++ node ∷ []
  pub text : bytes ≡ node_line node ++ line_feed ∷ rest

-- replies and a rest as answers
abbrev pub answers_with : List Reply × Rest → Answers
answers_with found = record { replies = found.0; rest = found.1 }

-- a node of an attack and a rest, and of replies
abbrev pub node_with : Point × Rest → List Reply → Node
node_with found rs = record { attack = found.0; replies = rs; rest = found.1 }
