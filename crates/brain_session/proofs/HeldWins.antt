-- Whoever answers by an accepted table wins within its depth, whatever legal replies come.
use Rattle.std.proofs.Common.{◌≡◌, ℕ, suc, ◌≤◌, true, false, List, [], ◌∷◌, get_or, length, refl, sym, subst, arith, ◌⊎◌, inl, inr, Some}
use Rattle.std.proofs.Common.{slice_get, IsSomeAnd, rules}
use Rattle.brain_session.proofs.Common.{Grid, is_empty, outcome, after, is_foul, WinsOr, LosesOr, RuleKind, Foul, Outcome, Refused, Fouls}
use Rattle.brain_session.proofs.Common.{Draws, GoesOn, Point, Node, Root, Answers, answers_of, answer, is_winning, depth_within, depth}
use Rattle.brain_session.proofs.Common.{start_depth, Meets, AcceptedWithin, Accepted, AcceptedRoot, game, attacks, IsWonWithin, AreReplies}
use Rattle.brain_session.proofs.Common.{WinsGames, AnswersAndWins, RootWinsGames, WhoeverHoldsWins}
use Rattle.game_rules.proofs.Games.{WinsOr-map}
use Rattle.game_rules.specs.declared.Outcome.TheVariants.{Wins as WinsNow}
use Rattle.game_rules.proofs.Outcomes.{moved}
use Rattle.strategy_graph.proofs.Common.{End}
use Rattle.strategy_graph.proofs.Answering.{answer-greatest, IsSomeAnd-elim}
use Rattle.strategy_graph.proofs.Fuel.{depth_some, deeper, accepted_node}
use Rattle.brain_session.proofs.HeldSteps.{by_none, by_foul, attacks-first, attacks-foul, attacks-next, won_next}

won_more : (d e n : ℕ) (end : End) → d ≤ e → IsWonWithin d n end → IsWonWithin e n end
won_more d e n end less h = search rules

module _ (rule : RuleKind) (t : List Node) where
  WinsOver : List Point → Type 0
  WinsOver qs = (f i : ℕ) (b : Grid) → AcceptedWithin f rule t i b → AreReplies rule b (attacks rule t i b qs) qs
      → IsWonWithin (depth_within f t i) (length qs) (game rule t i b qs)

  -- node i, which is n, is accepted at b
  module _ (i : ℕ) (b : Grid) (n : Node) (k : ℕ) (at : slice_get t i ≡ Some n)
      (wins : WinsOr (outcome rule b n.attack)
      ((is_winning n.rest ≡ false) × ((q : Point) → Meets rule (answers_of n) (AcceptedWithin k rule t) (after b n.attack) q))) where
    going : (o : Outcome) → WinsOr o
        ((is_winning n.rest ≡ false) × ((q : Point) → Meets rule (answers_of n) (AcceptedWithin k rule t) (after b n.attack) q))
        → o ≡ GoesOn
        → (is_winning n.rest ≡ false) × ((q : Point) → Meets rule (answers_of n) (AcceptedWithin k rule t) (after b n.attack) q)
    going o w e = search rules

    none_left : IsWonWithin (depth_within (suc k) t i) 0 (game rule t i b [])
    none_left = (by_none rule t _ i b n at (depth_some t i n k at) (WinsOr-map (outcome rule b n.attack) _ _ (λ w. tt) wins)
        (λ e. (going (outcome rule b n.attack) wins e).0)).won

    module _ (q : Point) (qs : List Point) (on : outcome rule b n.attack ≡ GoesOn) (empty : is_empty (after b n.attack) q ≡ true)
        (over : WinsOver qs) where
      winning : is_winning n.rest ≡ false
      winning = (going (outcome rule b n.attack) wins on).0

      fouled : (f : Foul) (vs : List Point) → outcome rule (after b n.attack) q ≡ Fouls f
          → AreReplies rule (after (after b n.attack) q) [] vs
          → IsWonWithin (depth_within (suc k) t i) (suc (length vs)) (game rule t i b (q ∷ vs))
      fouled f [] e are = (by_foul rule t _ i b n at (depth_some t i n k at) on winning q f e).won
      fouled f (v ∷ vs) e are = absurd are

      by_reply : (p : Outcome) → outcome rule (after b n.attack) q ≡ p
          → LosesOr p (IsSomeAnd (answer (answers_of n) q) (λ j. AcceptedWithin k rule t j (after (after b n.attack) q)))
          → AreReplies rule b (attacks rule t i b (q ∷ qs)) (q ∷ qs)
          → IsWonWithin (depth_within (suc k) t i) (suc (length qs)) (game rule t i b (q ∷ qs))
      unfolding WinsOver
      by_reply Refused e met are = absurd (moved rule (after b n.attack) q empty e)
      by_reply WinsNow e met are = absurd met
      by_reply (Fouls f) e met are = fouled f qs e (subst (λ (ps : List Point). AreReplies rule b ps (q ∷ qs))
          (attacks-foul rule t 1 i b n at (omega arith) on winning q qs f e) are).2
      by_reply Draws e met are = absurd met
      by_reply GoesOn e met are = IsSomeAnd-elim (answer (answers_of n) q) _ _ (λ j reply accepted.
          let more = subst (λ (ps : List Point). AreReplies rule b ps (q ∷ qs))
          (attacks-next rule t 1 i b n at (omega arith) on winning q j qs e reply) are in
          won_next rule t _ i b n at (depth_some t i n k at) on winning q _ j qs e reply (deeper t i n k q j at reply)
          (over k j (after (after b n.attack) q) accepted more.2)) met

  wins-over : (qs : List Point) → WinsOver qs
  unfolding WinsOver
  wins-over [] f i b h are = search (rules, accepted_node, none_left)
  wins-over (q ∷ qs) f i b h are =
      let node = accepted_node rule t i b f h in
      let first = attacks-first rule t 1 i b node.1 node.3 (omega arith) (q ∷ qs) in
      let legal = subst (λ (ps : List Point). AreReplies rule b ps (q ∷ qs)) first.1 are in
      subst (λ (d : ℕ). IsWonWithin (depth_within d t i) (suc (length qs)) (game rule t i b (q ∷ qs))) (sym node.2)
      (by_reply i b node.1 node.0 node.3 node.4 q qs legal.0 legal.1 (wins-over qs) (outcome rule (after b node.1.attack) q) refl
      ((going i b node.1 node.0 node.3 node.4 (outcome rule b node.1.attack) node.4 legal.0).1 q) are)

  -- from an accepted node
  node_wins : (i : ℕ) (b : Grid) → Accepted rule t i b → WinsGames rule t i b (depth t i)
  unfolding WinsOver
  node_wins i b h qs are = wins-over qs (suc i) i b h are

  -- after a move at an accepted start
  start_wins : (a : Answers) (b : Grid) (q : Point) → is_empty b q ≡ true → Meets rule a (Accepted rule t) b q
      → (is_foul (outcome rule b q) ≡ true) ⊎ AnswersAndWins rule t a b q (start_depth t a)
  start_wins a b q empty met = by_outcome (outcome rule b q) refl met where
    by_outcome : (o : Outcome) → outcome rule b q ≡ o → LosesOr o (IsSomeAnd (answer a q) (λ j. Accepted rule t j (after b q)))
        → (is_foul o ≡ true) ⊎ AnswersAndWins rule t a b q (start_depth t a)
    by_outcome Refused e h = absurd (moved rule b q empty e)
    by_outcome WinsNow e h = absurd h
    by_outcome (Fouls f) e h = inl refl
    by_outcome Draws e h = absurd h
    by_outcome GoesOn e h = inr (IsSomeAnd-elim (answer a q) _ _ (λ j reply accepted. record {
      node = j;
      answers = reply;
      wins = λ qs are. won_more (depth t j) (start_depth t a) (length qs) _ (answer-greatest (depth t) a q j reply)
          (node_wins j (after b q) accepted qs are);
    }) h)

  root_wins : (root : Root) (b : Grid) → AcceptedRoot rule t root b → RootWinsGames rule t root b
  root_wins root b h = search (rules, node_wins, start_wins)

pub whoever-holds_wins : WhoeverHoldsWins
whoever-holds_wins held h = λ k d lt. let r = get_or held.roots k d in root_wins r.kind held.table r.root r.board (h.roots k d lt).accepted
