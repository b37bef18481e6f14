-- Games against a table: how one ends, and which attacks are played in it.
use Rattle.std.specs.Prelude.{ℕ, ◌+◌, ◌≤◌, ◌<◌, if◌then◌else◌, List, [], ◌∷◌, Option, Some, None, slice_get}
use Rattle.game_rules.specs.Grid.{Grid}
use Rattle.game_rules.specs.Play.{outcome, after}
use Rattle.game_rules.specs.declared.RuleKind.{RuleKind}
use Rattle.game_rules.specs.declared.Outcome.{Outcome}
use Rattle.game_rules.specs.declared.Outcome.TheVariants.{Refused, Wins, Fouls, Draws, GoesOn}
use Rattle.game_rules.specs.declared.Point.{Point}
use Rattle.strategy_graph.specs.declared.Node.{Node}
use Rattle.strategy_graph.specs.Tables.{answers_of, answer, is_winning}

-- how a game ends: won with so many attacks, lost, drawn, at a place where the table has no move, with no reply left,
-- or at a reply that is no move
pub data End : Type 0 where
  Won : (attacks : ℕ) → End
  Lost : End
  Drawn : End
  NoMove : End
  Open : End
  IllegalReply : End

-- the end at an attack with this outcome, where e is the end if the game goes on
abbrev pub after_attack : Outcome → End → End
after_attack Refused e = Lost
after_attack Wins e = Won 1
after_attack (Fouls f) e = Lost
after_attack Draws e = Drawn
after_attack GoesOn e = e

-- the end at a reply with this outcome, where e is the end if the game goes on
abbrev pub after_reply : Outcome → End → End
after_reply Refused e = IllegalReply
after_reply Wins e = Lost
after_reply (Fouls f) e = Won 1
after_reply Draws e = Drawn
after_reply GoesOn e = e

-- the same end, with one more attack before it
abbrev pub one_later : End → End
one_later (Won k) = Won (k + 1)
one_later Lost = Lost
one_later Drawn = Drawn
one_later NoMove = NoMove
one_later Open = Open
one_later IllegalReply = IllegalReply

-- the end from the answer on, one attack later, or no move if there is no answer
abbrev pub if_node : Option ℕ → (ℕ → End) → End
if_node None end_from = NoMove
if_node (Some j) end_from = one_later (end_from j)

-- the end at a node: that of its attack; where it goes on, a winning node has no move, and else the end is that of
-- the reply
abbrev pub end_at : RuleKind → Option Node → Grid → (Node → End) → End
end_at rule None b reply = NoMove
end_at rule (Some n) b reply = after_attack (outcome rule b n.attack) (if is_winning n.rest then NoMove else reply n)

-- the end of a game from node i at b against these replies
unfoldable pub game : RuleKind → List Node → ℕ → Grid → List Point → End
game rule t i b [] = end_at rule (slice_get t i) b (λ n. Open)
game rule t i b (q ∷ qs) =
    end_at rule (slice_get t i) b (λ n. after_reply (outcome rule (after b n.attack) q)
    (if_node (answer (answers_of n) q) (λ j. game rule t j (after (after b n.attack) q) qs)))

-- the list where the game goes on, and else none
abbrev pub points_on : Outcome → List Point → List Point
points_on Refused ps = []
points_on Wins ps = []
points_on (Fouls f) ps = []
points_on Draws ps = []
points_on GoesOn ps = ps

-- the list from the answer on, or none if there is no answer
abbrev pub points_from : Option ℕ → (ℕ → List Point) → List Point
points_from None next = []
points_from (Some j) next = next j

-- the attack of a node, and the attacks after it where it goes on and the node is no winning one
abbrev pub attacks_at : RuleKind → Option Node → Grid → (Node → List Point) → List Point
attacks_at rule None b next = []
attacks_at rule (Some n) b next = n.attack ∷ points_on (outcome rule b n.attack) (if is_winning n.rest then [] else next n)

-- The attacks that are played in a game from node i at b against these replies. An attack that is refused, fouls or draws
-- counts as played and is the last; an accepted node plays none such.
unfoldable pub attacks : RuleKind → List Node → ℕ → Grid → List Point → List Point
attacks rule t i b [] = attacks_at rule (slice_get t i) b (λ n. [])
attacks rule t i b (q ∷ qs) =
    attacks_at rule (slice_get t i) b (λ n. points_on (outcome rule (after b n.attack) q)
    (points_from (answer (answers_of n) q) (λ j. attacks rule t j (after (after b n.attack) q) qs)))

-- The end is a win with 1 to d attacks, a reply that is no move, or no reply left where fewer than d were given.
abbrev pub EndsWell : ℕ → ℕ → End → Type 0
EndsWell d given (Won k) = (1 ≤ k) × (k ≤ d)
EndsWell d given Lost = ⊥
EndsWell d given Drawn = ⊥
EndsWell d given NoMove = ⊥
EndsWell d given Open = given < d
EndsWell d given IllegalReply = Unit {0}
