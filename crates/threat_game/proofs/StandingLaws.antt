-- The node of a double point that answers all replies: it wins wherever the double point wins.
use Rattle.std.proofs.Common.{◌≡◌, ◌<◌, ℕ, Bool, true, false, cond, refl, ap, ◌∙◌, arith, List, [], ◌∷◌, Option, Some, IsSomeAnd}
use Rattle.std.proofs.Common.{slice_get}
use Rattle.std.proofs.lemmas.Option.{slice_get_within}
use Rattle.std.proofs.lemmas.Bool.Decides.{nat_tests}
use Rattle.game_rules.specs.declared.RuleKind.{RuleKind}
use Rattle.game_rules.specs.declared.Outcome.{Outcome}
use Rattle.game_rules.specs.declared.Outcome.TheVariants.{Wins as WinsNow, Draws, GoesOn}
use Rattle.game_rules.specs.declared.Point.{Point}
use Rattle.game_rules.proofs.Common.{Grid, is_on, is_same_point, outcome, after, LosesOr}
use Rattle.game_rules.proofs.Points.{is_same_point-itself, is_same_point-same}
use Rattle.game_rules.proofs.PointLists.{other_first}
use Rattle.game_rules.proofs.Positions.{GoesOn-on}
use Rattle.strategy_graph.specs.declared.Node.{Node}
use Rattle.strategy_graph.proofs.Common.{IsNode, NamesLower, Accepted, answer, answers_of, depth, node_depth}
use Rattle.strategy_graph.proofs.Fuel.{depth-step}
use Rattle.strategy_graph.proofs.Steps.{accepted-by-win, accepted-by-replies}
use Rattle.strategy_graph.proofs.Greatest.{contained}
use Rattle.strategy_compiler.proofs.Common.{IsDoubleThreat, IsWrittenWin, StaysOnBoard, winning_node}
use Rattle.strategy_compiler.proofs.Forks.{stays-by}
use Rattle.threat_game.specs.declared.doubles.DoublePoint.{DoublePoint}
use Rattle.threat_game.proofs.Common.{standing_node}

same-back : (p q : Point) (r : Bool) → is_same_point p q ≡ r → is_same_point q p ≡ r
same-back p q true e = ap (λ (x : Point). is_same_point q x) (is_same_point-same p q e) ∙ is_same_point-itself q
same-back p q false e = other_first p q e

-- it is a node of a table
pub standing-is : (d : DoublePoint) (i j k : ℕ) → i < k → j < k → IsNode (standing_node d i j) k
standing-is d i j k low less = record { below = grind (arith, nat_tests); rising = refl; winning = λ e. cc }

module _ (t : List Node) (lower : NamesLower t) where
  leaf-deep : (i : ℕ) (w : Point) → slice_get t i ≡ Some (winning_node w) → depth t i ≡ 1
  leaf-deep i w at = depth-step t lower i ∙ ap (λ (o : Option Node). node_depth o (depth t)) at

  leaf-stays : (b : Grid) (i : ℕ) (w : Point) → slice_get t i ≡ Some (winning_node w) → is_on b w ≡ true → StaysOnBoard b t i
  leaf-stays b i w at on = stays-by b t i (winning_node w) at (record { attack = on; replies = tt })
      (λ j c. contained (StaysOnBoard b t) [] tt j c)

  module _ (d : DoublePoint) (i j k : ℕ) (at_first : slice_get t i ≡ Some (winning_node d.second))
      (beside : slice_get t j ≡ Some (winning_node d.first)) (at : slice_get t k ≡ Some (standing_node d i j)) where
    -- the point that wins after the reply q, and that it is answered by a node that takes it
    abbrev taken : Point → Point
    taken q = cond (is_same_point q d.first) d.second d.first

    record IsAnswered (q : Point) : Type 0 where
      node : ℕ
      answer_is : answer (answers_of (standing_node d i j)) q ≡ Some node
      takes : slice_get t node ≡ Some (winning_node (taken q))

    answered : (q : Point) → IsAnswered q
    answered q = by_test (is_same_point q d.first) refl where
      by_test : (r : Bool) → is_same_point q d.first ≡ r → IsAnswered q
      by_test true e = record {
        node = i;
        answer_is = rw (same-back q d.first true e) refl;
        takes = rw e at_first;
      }
      by_test false e = record {
        node = j;
        answer_is = rw (same-back q d.first false e) refl;
        takes = rw e beside;
      }

    pub standing-wins : (rule : RuleKind) (b : Grid) (points : List Point) → IsDoubleThreat rule b d.at d.first d.second points
        → IsWrittenWin rule 2 b t (record { node = k; moves = 2 })
    standing-wins rule b points threat = record {
      in_compiler = slice_get_within t k (standing_node d i j) at;
      accepted = accepted-by-replies rule t lower k b (standing_node d i j) at threat.goes_on refl
          (λ q. met q (outcome rule (after b d.at) q) (threat.lost q));
      deep =
          let step = depth-step t lower k ∙ ap (λ (o : Option Node). node_depth o (depth t)) at in
          let one = leaf-deep i d.second at_first in
          let other = leaf-deep j d.first beside in
          omega (arith, step, one, other);
      within = omega arith;
      on_board = stays-by b t k (standing_node d i j) at
          (record { attack = GoesOn-on rule b d.at threat.goes_on; replies = (threat.on_board.0, tt) })
          (λ m c. contained (StaysOnBoard b t) (i ∷ j ∷ [])
          (leaf-stays b i d.second at_first threat.on_board.1.0, (leaf-stays b j d.first beside threat.on_board.0, tt)) m c);
    } where
      met : (q : Point) (o : Outcome) → LosesOr o (outcome rule (after (after b d.at) q) (taken q) ≡ WinsNow)
          → LosesOr o (IsSomeAnd (answer (answers_of (standing_node d i j)) q) (λ m. Accepted rule t m (after (after b d.at) q)))
      met q WinsNow h = h
      met q Draws h = h
      met q GoesOn h =
          let here = answered q in
          rw here.answer_is (accepted-by-win rule t lower here.node (after (after b d.at) q) (winning_node (taken q)) here.takes h)
      met q _ h = tt
