-- An accepted node, and an accepted start, wins within its depth. A node is accepted where its answers are, step by step.
use Rattle.std.proofs.Common.{ℕ, zero, suc, map, List, refl, Option, Some, None, slice_get, Bool, false, ◌&&◌, ◌||◌, not, ◌≡◌, true, nat_eq}
use Rattle.std.proofs.Common.{rules}
use Rattle.std.specs.List.{list_all}
use Rattle.std.proofs.lemmas.Bool.{or_cases, not-true}
use Rattle.strategy_graph.proofs.Common.{RuleKind, Point, GoesOn, Grid, outcome, after, LosesOr, is_empty, points_of, Node, Answers}
use Rattle.strategy_graph.proofs.Common.{answers_of, answer, named, greatest, node_depth, depth_within, depth, start_depth, Meets}
use Rattle.strategy_graph.proofs.Common.{AcceptedNode, AcceptedWithin, Accepted, AcceptedStart, NamesLower}
use Rattle.game_rules.proofs.Common.{WinsWithin, WinsAfter, empties_of, five, mover}
use Rattle.game_rules.proofs.Games.{WinsOr-map, LosesOr-map, WinsWithin-more}
use Rattle.game_rules.proofs.Boards.{and_left, and_right}
use Rattle.game_rules.proofs.Points.{all_at, taken_refused, off_refused}
use Rattle.game_rules.proofs.Outcomes.{wins_now, quiet_move}
use Rattle.strategy_graph.proofs.Answering.{answer-greatest, IsSomeAnd-elim}
use Rattle.strategy_graph.proofs.Steps.{accepted-by-win, met-no_move, met-foul, met-answer}

-- a reply that is met loses within the greatest depth of the nodes that are named
met_loses : (rule : RuleKind) (a : Answers) (Next : ℕ → Grid → Type 0) (d : ℕ → ℕ)
    → ((j : ℕ) (c : Grid) → Next j c → WinsWithin rule (d j) c) → (b : Grid) (q : Point) → Meets rule a Next b q
    → LosesOr (outcome rule b q) (WinsWithin rule (greatest (map d (named a))) (after b q))
met_loses rule a Next d next b q h = search (rules, LosesOr-map, IsSomeAnd-elim, WinsWithin-more, answer-greatest)

node_wins : (rule : RuleKind) (o : Option Node) (Next : ℕ → Grid → Type 0) (d : ℕ → ℕ)
    → ((j : ℕ) (c : Grid) → Next j c → WinsWithin rule (d j) c) → (b : Grid) → AcceptedNode rule o Next b
    → WinsWithin rule (node_depth o d) b
node_wins rule None Next d next b h = absurd h
node_wins rule (Some n) Next d next b h = (
  n.attack,
  WinsOr-map (outcome rule b n.attack) _ _ (λ w. (refl, λ q. met_loses rule (answers_of n) Next d next (after b n.attack) q (w.1 q))) h,
)

within_wins : (rule : RuleKind) (t : List Node) (f i : ℕ) (b : Grid) → AcceptedWithin f rule t i b → WinsWithin rule (depth_within f t i) b
unfolding AcceptedWithin depth_within
within_wins rule t zero i b h = absurd h
within_wins rule t (suc f) i b h = node_wins rule (slice_get t i) (AcceptedWithin f rule t) (depth_within f t) (within_wins rule t f) b h

-- an accepted node wins within its depth
pub accepted-wins : (rule : RuleKind) (t : List Node) (i : ℕ) (b : Grid) → Accepted rule t i b → WinsWithin rule (depth t i) b
accepted-wins rule t i b h = within_wins rule t (suc i) i b h

-- whatever is played first, an accepted start wins within its depth
pub accepted-start-wins : (rule : RuleKind) (t : List Node) (a : Answers) (b : Grid) → AcceptedStart rule t a b
    → WinsAfter rule (start_depth t a) b
accepted-start-wins rule t a b h q = met_loses rule a (Accepted rule t) (depth t) (accepted-wins rule t) b q (h q)

-- whether there is such a node, and its attack wins
abbrev pub accepted_wins : RuleKind → Option Node → Grid → Bool
accepted_wins rule None c = false
accepted_wins rule (Some m) c = is_empty c m.attack && five rule c (mover c) m.attack

-- whether there is such an answer, and its attack wins
abbrev pub answer_wins : RuleKind → List Node → Option ℕ → Grid → Bool
answer_wins rule t None c = false
answer_wins rule t (Some j) c = accepted_wins rule (slice_get t j) c

-- whether the reply q is passed over, is no move, or does not win and is answered by a win
abbrev pub is_met : RuleKind → List Node → Answers → Grid → (Point → Bool) → Point → Bool
is_met rule t a b skip q = skip q || (not (is_empty b q) || (not (five rule b (mover b) q) && answer_wins rule t (answer a q) (after b q)))

module _ (rule : RuleKind) (t : List Node) (lower : NamesLower t) (a : Answers) (b : Grid) (some : nat_eq (empties_of b) 1 ≡ false)
    (q : Point) where
  by_node : (j : ℕ) (o : Option Node) → slice_get t j ≡ o → accepted_wins rule o (after b q) ≡ true → Accepted rule t j (after b q)
  by_node j None e h = cc
  by_node j (Some m) e h = accepted-by-win rule t lower j (after b q) m e
      (wins_now rule (after b q) m.attack (and_left (is_empty (after b q) m.attack) _ h) (and_right (is_empty (after b q) m.attack) _ h))

  by_answer : (o : Option ℕ) → answer a q ≡ o → answer_wins rule t o (after b q) ≡ true → outcome rule b q ≡ GoesOn
      → Meets rule a (Accepted rule t) b q
  by_answer o e h on = search (rules, met-answer, by_node)

  by_empty : (r : Bool) → is_empty b q ≡ r → (not r || (not (five rule b (mover b) q) && answer_wins rule t (answer a q) (after b q)))
      ≡ true → Meets rule a (Accepted rule t) b q
  by_empty r e h = search (rules, met-no_move, taken_refused, quiet_move, not-true, and_left, by_answer, and_right, met-foul)

  pub met-by_test : (skip : Point → Bool) → list_all (is_met rule t a b skip) (points_of b) ≡ true
      → (skip q ≡ true → Meets rule a (Accepted rule t) b q) → Meets rule a (Accepted rule t) b q
  met-by_test skip all passed = search (rules, met-no_move, off_refused, or_cases, all_at, by_empty)
