-- Games from an accepted node end well. One step of a game against a table, and of its attacks: what a player that follows a table needs.
use Rattle.std.proofs.Common.{◌≡◌, ℕ, zero, suc, ◌≤◌, cond, List, [], ◌∷◌, length, arith, Option, Some, None, slice_get, false, Bool}
use Rattle.std.proofs.Common.{IsSomeAnd, ap, rules}
use Rattle.strategy_graph.proofs.Common.{RuleKind, Outcome, Point, Grid, outcome, after, WinsOr, LosesOr, Rest, Node, answers_of, answer}
use Rattle.strategy_graph.proofs.Common.{is_winning, node_depth, depth_within, depth, AcceptedNode, AcceptedWithin, Accepted, End, NoMove}
use Rattle.strategy_graph.proofs.Common.{Open, after_attack, after_reply, one_later, if_node, end_at, game, EndsWell, attacks, points_on}
use Rattle.strategy_graph.proofs.Common.{attacks_at}
use Rattle.strategy_graph.proofs.Answering.{answer-greatest}

attack_ends : (o : Outcome) (W : Type 0) (d m : ℕ) (e : End) → 1 ≤ d → (W → EndsWell d m e) → WinsOr o W → EndsWell d m (after_attack o e)
attack_ends o W d m e l f h = search rules

reply_ends : (o : Outcome) (W : Type 0) (d m : ℕ) (e : End) → 1 ≤ d → (W → EndsWell d m e) → LosesOr o W → EndsWell d m (after_reply o e)
reply_ends o W d m e l f h = search rules

not_winning : (r : Rest) (e : End) → is_winning r ≡ false → cond (is_winning r) NoMove e ≡ e
not_winning r e h = search rules

one_later_ends : (e : End) (d dd m : ℕ) → d ≤ dd → EndsWell d m e → EndsWell (suc dd) (suc m) (one_later e)
one_later_ends e d dd m l h = search rules

node_ends_well : (o : Option ℕ) (P : ℕ → Type 0) (d m : ℕ) (end_from : ℕ → End)
    → ((j : ℕ) → o ≡ Some j → P j → EndsWell d m (one_later (end_from j))) → IsSomeAnd o P → EndsWell d m (if_node o end_from)
node_ends_well o P d m end_from f h = search rules

no_reply_ends : (rule : RuleKind) (o : Option Node) (Next : ℕ → Grid → Type 0) (d : ℕ → ℕ) (b : Grid) → AcceptedNode rule o Next b
    → EndsWell (node_depth o d) 0 (end_at rule o b (λ n. Open))
no_reply_ends rule o Next d b h = search (rules, attack_ends, not_winning)

step_ends : (rule : RuleKind) (o : Option Node) (Next : ℕ → Grid → Type 0) (d : ℕ → ℕ) (end : ℕ → Grid → End) (m : ℕ)
    → ((j : ℕ) (c : Grid) → Next j c → EndsWell (d j) m (end j c)) → (b : Grid) (q : Point)
    → AcceptedNode rule o Next b → EndsWell (node_depth o d) (suc m) (end_at rule o b (λ n. after_reply (outcome rule (after b n.attack) q)
    (if_node (answer (answers_of n) q) (λ j. end j (after (after b n.attack) q)))))
step_ends rule None Next d end m next b q h = absurd h
step_ends rule (Some n) Next d end m next b q h = attack_ends (outcome rule b n.attack) _ _
    (suc m) _ (omega arith) (λ w. rw (not_winning n.rest _ w.0) (reply_ends (outcome rule (after b n.attack) q) _ _ (suc m) _ (omega arith)
    (node_ends_well (answer (answers_of n) q) _ _ (suc m) (λ j. end j (after (after b n.attack) q)) (λ j e k.
    one_later_ends (end j (after (after b n.attack) q)) (d j) _ m (answer-greatest d (answers_of n) q j e)
    (next j (after (after b n.attack) q) k))) (w.1 q))) h

within_ends : (rule : RuleKind) (t : List Node) (f i : ℕ) (b : Grid) (qs : List Point) → AcceptedWithin f rule t i b
    → EndsWell (depth_within f t i) (length qs) (game rule t i b qs)
unfolding AcceptedWithin depth_within game
within_ends rule t zero i b qs h = absurd h
within_ends rule t (suc f) i b [] h = no_reply_ends rule (slice_get t i) (AcceptedWithin f rule t) (depth_within f t) b h
within_ends rule t (suc f) i b (q ∷ qs) h = step_ends rule (slice_get t i)
    (AcceptedWithin f rule t) (depth_within f t) (λ j c. game rule t j c qs) (length qs) (λ j c. within_ends rule t f j c qs) b q h

-- a game from an accepted node ends well, whatever the replies
pub games-end-well : (rule : RuleKind) (t : List Node) (i : ℕ) (b : Grid) (qs : List Point) → Accepted rule t i b
    → EndsWell (depth t i) (length qs) (game rule t i b qs)
games-end-well rule t i b qs h = within_ends rule t (suc i) i b qs h

-- with no reply left there is no further attack
pub none_on : (o : Outcome) (r : Bool) → points_on o (cond r [] []) ≡ []
none_on o r = search rules

module _ (rule : RuleKind) (t : List Node) (i : ℕ) (b : Grid) (n : Node) (at : slice_get t i ≡ Some n) where
  -- with no reply left, the attack is the last
  pub attacks-open : attacks rule t i b [] ≡ n.attack ∷ []
  unfolding attacks
  attacks-open = rw at (ap (λ (ps : List Point). n.attack ∷ ps) (none_on (outcome rule b n.attack) (is_winning n.rest)))

pub first_at : (rule : RuleKind) (b : Grid) (o : Option Node) (n : Node) (next : Node → List Point) → o ≡ Some n
    → (rest : List Point) × (attacks_at rule o b next ≡ n.attack ∷ rest)
first_at rule b None n next e = cc
first_at rule b (Some m) n next e =
    let same : m ≡ n = cc in
    let rest = points_on (outcome rule b m.attack) (cond (is_winning m.rest) [] (next m)) in
    (rest, ap (λ (x : Node). x.attack ∷ rest) same)
