-- A node that stands for the plan of a win by fours is accepted, and its depth is at most the moves of the plan; within that depth there is
-- a win by fours. One move of a win by fours, and the node that stands for its plan: the node's attack is the chosen move, and where that
-- goes on each reply that goes on is answered by a node that stands for the plan of the win that is left. And the fewest moves.
use Rattle.std.proofs.Common.{◌≡◌, ◌⊎◌, inl, inr, ℕ, zero, suc, ◌+◌, ◌*◌, ◌≤◌, ◌<◌, Bool, true, false}
use Rattle.std.proofs.Common.{◌&&◌, refl, sym, ap, subst, ◌∙◌, IsSomeAnd, arith, List, map, length, Option, Some, None, slice_get}
use Rattle.std.proofs.Common.{◌-◌, cond, [], ◌∷◌, sum_by, find, option_map, option_and_then}
use Rattle.std.specs.List.{list_all, range_with_len}
use Rattle.std.specs.Option.{option_map_or}
use Rattle.std.proofs.lemmas.Bool.{cases_lt}
use Rattle.game_rules.specs.declared.RuleKind.{RuleKind}
use Rattle.game_rules.specs.declared.Outcome.{Outcome}
use Rattle.game_rules.specs.declared.Outcome.TheVariants.{Wins as WinsNow, Draws, GoesOn}
use Rattle.game_rules.specs.declared.Point.{Point}
use Rattle.game_rules.proofs.Common.{Grid, IsBoard, is_on, is_empty, is_empty_cell, cell_at, points_of, five, is_same_point, IsPosition}
use Rattle.game_rules.proofs.Common.{outcome, mover, after, goes_on_with, LosesOr, has_five, wins_or, loses_or, starts_win, wins_under}
use Rattle.game_rules.proofs.Common.{WinsByFours, wins_by_fours, four_move, if_goes_on}
use Rattle.game_rules.proofs.Boards.{is_empty-on, cell_at-put_same, stone_of-taken}
use Rattle.game_rules.proofs.Points.{points-found, all_of, taken_refused, is_same_point-itself}
use Rattle.game_rules.proofs.Games.{each_reply, LosesOr-loses_or, test-WinsUnder, WinsUnder-test, wins-some, five-wins, no_move}
use Rattle.game_rules.proofs.Games.{goes_on-no_five}
use Rattle.game_rules.proofs.Positions.{IsPosition-after, GoesOn-on, GoesOn-empty, points-many}
use Rattle.game_rules.proofs.Outcomes.{five-outcome, loses_by}
use Rattle.game_rules.proofs.Places.{points_length, find-passes}
use Rattle.game_rules.proofs.PointLists.{any-find, sum-ones-but}
use Rattle.game_rules.proofs.ReadingOrder.{sum-once}
use Rattle.strategy_graph.specs.declared.Node.{Node}
use Rattle.strategy_graph.proofs.Common.{answers_of, answer, is_winning, IsTable, depth, node_depth, named, greatest, Meets, Accepted}
use Rattle.strategy_graph.proofs.Common.{arrivals_at, arrivals, answer_at}
use Rattle.strategy_graph.proofs.Answering.{IsSomeAnd-map, answer-greatest}
use Rattle.strategy_graph.proofs.Fuel.{depth-step}
use Rattle.strategy_graph.proofs.Steps.{accepted-by-replies, arrivals-by-replies, arrivals-winning}
use Rattle.strategy_graph.proofs.Greatest.{greatest-each}
use Rattle.strategy_graph.proofs.Filling.{IsTable-lower}
use Rattle.strategy_compiler.proofs.Common.{Tree, Branches, Leaf, Fork, StandsFor, StandsForAll, AnswersBriefly, replies_of, StaysOnBoard}
use Rattle.strategy_compiler.proofs.Forks.{briefly-named, leaf-wins, stays-before, stays-by}
use Rattle.strategy_compiler.proofs.Standing.{IsWritten, winning-is, leaf_node, fork_node, forks_not_winning, tree_attack, tree-attack}
use Rattle.strategy_compiler.proofs.Standing.{at_fork}
use Rattle.threat_moves.specs.declared.block.BlockAnswer.{BlockAnswer}
use Rattle.threat_moves.specs.declared.block.BlockAnswer.TheVariants.{Won, One}
use Rattle.threat_moves.proofs.BlockLaw.{block_decides, others_leave_five}
use Rattle.threat_moves.proofs.FourLaws.{one-goes_on}
use Rattle.threat_moves.proofs.Common.{is_four_move, fate, block_wins, LeavesFive}
use Rattle.four_search.proofs.Common.{IsFourWin, IsSought, branches_for, four_plan, plan_from, least_moves}
use Rattle.four_search.proofs.Trying.{move-is, wins-is}
use Rattle.four_search.proofs.Planning.{plan-leaf, plan-fork, plan-goes_on, answers-each, answer-at, listed-on}
use Rattle.four_search.proofs.Deepening.{NoWinUpTo, wins-more, least-win}

-- ---- a winning node

module _ (rule : RuleKind) (t : List Node) (table : IsTable t) (i : ℕ) (b : Grid) (lawful : IsPosition rule b) (x : Point)
    (h : five rule b (mover b) x ≡ true) (some : has_five rule b (mover b) ≡ true) (n : Node) (at : slice_get t i ≡ Some n)
    (plays : n.attack ≡ x) (win : is_winning n.rest ≡ true) where
  leaf-written : (m : ℕ) → IsWritten rule t i (suc m) b
  leaf-written m =
      let won = leaf-wins t (IsTable-lower t table) i x (at ∙ ap Some (winning-is t i n x table at plays win)) rule b
      (five-outcome rule b x h) in
      let deep = won.deep in
      record {
        accepted = won.accepted;
        deep = omega (arith, deep);
        wins = ap (λ (k : ℕ). wins_by_fours rule k b) won.deep ∙ five-wins rule b 0 some;
        on_board = won.on_board;
        short = let one = arrivals-winning rule t (IsTable-lower t table) i b n at win in let many = points-many rule b lawful m in omega
            (arith, one, many);
      }

-- ---- a node of a four

taken_after : (b : Grid) (p : Point) → IsBoard b → is_empty b p ≡ true → is_empty (after b p) p ≡ false
taken_after b p ok empty =
    let here : is_on b p ≡ true = is_empty-on b p empty in
    ap (λ r. r && is_empty_cell (cell_at (after b p) p)) here ∙ ap is_empty_cell (cell_at-put_same b (mover b) p ok here)
    ∙ stone_of-taken (mover b)

module _ (rule : RuleKind) (t : List Node) (table : IsTable t) (i m : ℕ) (b : Grid) (p : Point) (lawful : IsPosition rule b)
    (on : outcome rule b p ≡ GoesOn) (starts : starts_win (has_five rule) rule b (wins_by_fours rule m) p ≡ true) (n : Node)
    (at : slice_get t i ≡ Some n) (plays : n.attack ≡ p)
    (brief : AnswersBriefly (answers_of n)
    (replies_of (branches_for (outcome rule (after b p)) (λ q. four_plan rule m (after (after b p) q)) (points_of b))))
    (stands : StandsForAll t (answers_of n)
    (branches_for (outcome rule (after b p)) (λ q. four_plan rule m (after (after b p) q)) (points_of b)))
    (later : (j : ℕ) (c : Grid) → IsPosition rule c → wins_by_fours rule m c ≡ true → StandsFor t j (four_plan rule m c)
    → IsWritten rule t j m c) where
  branches : Branches
  branches = branches_for (outcome rule (after b p)) (λ q. four_plan rule m (after (after b p) q)) (points_of b)

  goes : (has_five rule (after b p) (mover b) ≡ true)
      × (list_all (λ q. loses_or (outcome rule (after b p) q) (wins_by_fours rule m (after (after b p) q))) (points_of b) ≡ true)
  goes = and_parts (has_five rule (after b p) (mover b)) _
      (sym (ap (λ o. wins_or o
      (has_five rule (after b p) (mover b) && list_all
      (λ q. loses_or (outcome rule (after b p) q) (wins_by_fours rule m (after (after b p) q))) (points_of b))) on) ∙ starts) where
        and_parts : (a c : Bool) → (a && c) ≡ true → (a ≡ true) × (c ≡ true)
        and_parts true c h = (refl, h)
        and_parts false c h = cc

  -- each reply is no move, fouls, or goes on to a win within the moves left
  lost : (q : Point) → LosesOr (outcome rule (after b p) q) (wins_by_fours rule m (after (after b p) q) ≡ true)
  lost q = each_reply rule (after b p) (wins_by_fours rule m) (λ d. wins_by_fours rule m d ≡ true) (λ d h. h) goes.1 q

  won : (q : Point) → outcome rule (after b p) q ≡ GoesOn → wins_by_fours rule m (after (after b p) q) ≡ true
  won q go = subst (λ (o : Outcome). LosesOr o (wins_by_fours rule m (after (after b p) q) ≡ true)) go (lost q)

  next_lawful : (q : Point) → outcome rule (after b p) q ≡ GoesOn → IsPosition rule (after (after b p) q)
  next_lawful q go = IsPosition-after rule (after b p) q (IsPosition-after rule b p lawful on) go

  next_written : (q : Point) (j : ℕ) → outcome rule (after b p) q ≡ GoesOn → StandsFor t j (four_plan rule m (after (after b p) q))
      → IsWritten rule t j m (after (after b p) q)
  next_written q j go s = later j (after (after b p) q) (next_lawful q go) (won q go) s

  -- the answer to a reply that goes on
  answered : (q : Point) → outcome rule (after b p) q ≡ GoesOn
      → IsSomeAnd (answer (answers_of n) q) (λ j. StandsFor t j (four_plan rule m (after (after b p) q)))
  answered q go = answer-at t (answers_of n) (outcome rule (after b p)) (λ q. four_plan rule m (after (after b p) q)) (points_of b) q
      (points-found (after b p) (λ x. is_same_point q x) q (GoesOn-on rule (after b p) q go) (is_same_point-itself q)) go stands

  by_loses : (q : Point) (W : Type 0) → (outcome rule (after b p) q ≡ GoesOn → W) → LosesOr (outcome rule (after b p) q) W
  by_loses q W f = by_outcome (outcome rule (after b p) q) f (lost q) where
    by_outcome : (o : Outcome) → (o ≡ GoesOn → W) → LosesOr o (wins_by_fours rule m (after (after b p) q) ≡ true) → LosesOr o W
    by_outcome WinsNow f h = h
    by_outcome Draws f h = h
    by_outcome GoesOn f h = f refl
    by_outcome _ f h = tt

  -- it is no winning node
  no_win : is_winning n.rest ≡ false
  no_win = by_test (is_winning n.rest) refl where
    by_test : (r : Bool) → is_winning n.rest ≡ r → r ≡ false
    by_test false e = refl
    by_test true e = absurd (forks_not_winning t i n table at
        (branches_for (outcome rule (after b p)) (λ q. four_plan rule m (after (after b p) q)) (points_of b)) brief stands e)

  written_accepted : Accepted rule t i b
  written_accepted = accepted-by-replies rule t (IsTable-lower t table) i b n at (ap (outcome rule b) plays ∙ on) no_win (λ q.
      subst (λ (x : Point). Meets rule (answers_of n) (Accepted rule t) (after b x) q) (sym plays)
      (by_loses q (IsSomeAnd (answer (answers_of n) q) (λ j. Accepted rule t j (after (after b p) q)))
      (λ go. IsSomeAnd-map (answer (answers_of n) q) (λ j. StandsFor t j (four_plan rule m (after (after b p) q)))
      (λ j. Accepted rule t j (after (after b p) q)) (λ j e s. (next_written q j go s).accepted) (answered q go))))

  written_depth : depth t i ≡ suc (greatest (map (depth t) (named (answers_of n))))
  written_depth = depth-step t (IsTable-lower t table) i ∙ ap (λ (o : Option Node). node_depth o (depth t)) at

  written_deep : depth t i ≤ suc m
  written_deep =
      let low = greatest-each (depth t) m (named (answers_of n))
      (briefly-named (λ j. depth t j ≤ m) (answers_of n) _ (table.nodes i n at).rising brief
      (answers-each t (answers_of n) (outcome rule (after b p)) (λ q. four_plan rule m (after (after b p) q)) (λ j. depth t j ≤ m)
      (points_of b) (λ q j go s. (next_written q j go s).deep) stands)) in
      omega (arith, low, written_depth)

  written_wins : wins_by_fours rule (depth t i) b ≡ true
  unfolding wins_under
  written_wins =
      let k : ℕ = greatest (map (depth t) (named (answers_of n))) in
      let each : list_all (λ q. loses_or (outcome rule (after b p) q) (wins_by_fours rule k (after (after b p) q))) (points_of b) ≡ true =
      all_of (λ q. loses_or (outcome rule (after b p) q) (wins_by_fours rule k (after (after b p) q))) (points_of b)
      (λ q. LosesOr-loses_or (outcome rule (after b p) q) (wins_by_fours rule k (after (after b p) q))
      (wins_by_fours rule k (after (after b p) q) ≡ true) (λ h. h)
      (by_loses q (wins_by_fours rule k (after (after b p) q) ≡ true)
      (λ go. next_wins q (answer (answers_of n) q) refl (next_one q go)))) in
      let here : starts_win (has_five rule) rule b (wins_by_fours rule k) p ≡ true =
      ap (λ o. wins_or o (has_five rule (after b p) (mover b) && list_all
      (λ q. loses_or (outcome rule (after b p) q) (wins_by_fours rule k (after (after b p) q))) (points_of b))) on
      ∙ ap (λ r. r && list_all (λ q. loses_or (outcome rule (after b p) q) (wins_by_fours rule k (after (after b p) q))) (points_of b))
      goes.0
      ∙ each in
      ap (λ (d : ℕ). wins_by_fours rule d b) written_depth
      ∙ points-found b (starts_win (has_five rule) rule b (wins_by_fours rule k)) p (GoesOn-on rule b p on) here where
        next_one : (q : Point) → outcome rule (after b p) q ≡ GoesOn
            → IsSomeAnd (answer (answers_of n) q) (λ j. wins_by_fours rule (depth t j) (after (after b p) q) ≡ true)
        next_one q go = IsSomeAnd-map (answer (answers_of n) q) (λ j. StandsFor t j (four_plan rule m (after (after b p) q)))
            (λ j. wins_by_fours rule (depth t j) (after (after b p) q) ≡ true) (λ j e s. (next_written q j go s).wins) (answered q go)

        next_wins : (q : Point) (o : Option ℕ) → answer (answers_of n) q ≡ o
            → IsSomeAnd o (λ j. wins_by_fours rule (depth t j) (after (after b p) q) ≡ true)
            → wins_by_fours rule (greatest (map (depth t) (named (answers_of n)))) (after (after b p) q) ≡ true
        next_wins q None e h = absurd h
        next_wins q (Some j) e h = wins-more rule (depth t j) (greatest (map (depth t) (named (answers_of n)))) (after (after b p) q)
            (answer-greatest (depth t) (answers_of n) q j e) h

  written_on : StaysOnBoard b t i
  written_on = stays-by b t i n at
      (record {
        attack = ap (is_on b) plays ∙ GoesOn-on rule b p on;
        replies = listed-on (is_on b) (answers_of n) (outcome rule (after b p)) (λ q. four_plan rule m (after (after b p) q)) (points_of b)
            (λ q go. GoesOn-on rule (after b p) q go) brief;
      })
      (briefly-named (StaysOnBoard b t) (answers_of n) _ (table.nodes i n at).rising brief
      (answers-each t (answers_of n) (outcome rule (after b p)) (λ q. four_plan rule m (after (after b p) q)) (StaysOnBoard b t)
      (points_of b)
      (λ q j go s. stays-before b p t j (stays-before (after b p) q t j (next_written q j go s).on_board)) stands))

  -- ---- arrivals

  four : is_four_move rule b p ≡ true
  unfolding is_four_move
  four = ap (λ o. goes_on_with o (has_five rule (after b p) (mover b))) on ∙ goes.0

  decided : block_wins rule m (after b p) (fate rule (after b p)) ≡ true
  decided = sym (block_decides rule m b p lawful four) ∙ starts

  -- the arrivals behind a reply
  count : Point → ℕ
  count q = arrivals_at rule (answers_of n) (arrivals rule t) (after b p) q

  by_counts : (q : Point) (k : ℕ)
      → (outcome rule (after b p) q ≡ GoesOn → (j : ℕ) → answer (answers_of n) q ≡ Some j
      → StandsFor t j (four_plan rule m (after (after b p) q)) → arrivals rule t j (after (after b p) q) ≤ k) → count q ≤ k
  unfolding count
  by_counts q k f = by_outcome (outcome rule (after b p) q) refl where
    by_answer : (o : Option ℕ) → answer (answers_of n) q ≡ o → outcome rule (after b p) q ≡ GoesOn
        → IsSomeAnd o (λ j. StandsFor t j (four_plan rule m (after (after b p) q)))
        → option_map_or (λ j. arrivals rule t j (after (after b p) q)) o 0 ≤ k
    by_answer None e go s = omega arith
    by_answer (Some j) e go s = f go j e s

    by_outcome : (o : Outcome) → outcome rule (after b p) q ≡ o
        → if_goes_on o (option_map_or (λ j. arrivals rule t j (after (after b p) q)) (answer (answers_of n) q) 0) ≤ k
    by_outcome GoesOn e = by_answer (answer (answers_of n) q) refl e (answered q e)
    by_outcome _ e = omega arith

  -- a reply that leaves the attacker a five point leads to a winning node
  one_behind : (q : Point) → (outcome rule (after b p) q ≡ GoesOn
      → has_five rule (after (after b p) q) (mover (after (after b p) q)) ≡ true) → count q ≤ 1
  one_behind q leaves = by_counts q 1 (λ go j e s.
      let x = any-find (five rule (after (after b p) q) (mover (after (after b p) q))) (points_of (after (after b p) q)) (leaves go) in
      let leaf : StandsFor t j (Leaf x.0) = subst (λ (s : Tree). StandsFor t j s)
      (plan-leaf rule m (after (after b p) q) x.0 x.1 (wins-some rule m (after (after b p) q) (won q go))) s in
      let node = leaf_node t j x.0 leaf in
      omega (arith, arrivals-winning rule t (IsTable-lower t table) j (after (after b p) q) node.0 node.1 node.2.1))

  total : arrivals rule t i b ≡ suc (sum_by count (points_of b))
  unfolding count
  total = arrivals-by-replies rule t (IsTable-lower t table) i b n at (ap (outcome rule b) plays ∙ on) no_win
      ∙ ap (λ (x : Point). suc (sum_by (arrivals_at rule (answers_of n) (arrivals rule t) (after b x)) (points_of b))) plays

  size_grows : b.width * b.height * suc m ≡ b.width * b.height + b.width * b.height * m
  size_grows = omega arith

  points_are : length (points_of b) ≡ b.width * b.height
  points_are = points_length b

  -- the four's own point is taken
  none_at : count p ≡ 0
  unfolding count
  none_at = ap (λ o. if_goes_on o (option_map_or (λ j. arrivals rule t j (after (after b p) p)) (answer (answers_of n) p) 0))
      (taken_refused rule (after b p) p (taken_after b p lawful.board (GoesOn-empty rule b p on)))

  won_short : fate rule (after b p) ≡ Won → arrivals rule t i b ≤ b.width * b.height * suc m
  won_short won_by =
      let each : (q : Point) → count q ≤ 1 = λ q. one_behind q
      (λ go. subst (LeavesFive rule (after b p) q) won_by (others_leave_five rule b p q lawful four go)) in
      let sum = sum-ones-but count p each none_at (points_of b)
      (points-found b (λ x. is_same_point p x) p (GoesOn-on rule b p on) (is_same_point-itself p)) in
      omega (arith, sum, total, points_are, size_grows)

  one_short : (w : Point) → fate rule (after b p) ≡ One w → arrivals rule t i b ≤ b.width * b.height * suc m
  one_short w one =
      let go : outcome rule (after b p) w ≡ GoesOn = one-goes_on rule (after b p) w (sym one) in
      let most : ℕ = b.width * b.height * m in
      let high : count w ≤ most = by_counts w most (λ go j e s. (next_written w j go s).short) in
      let each : (q : Point) → is_same_point q w ≡ false → count q ≤ 1 =
      λ q apart. one_behind q
      (λ g. subst (LeavesFive rule (after b p) q) one (others_leave_five rule b p q lawful four g)
      (λ same. let yes : is_same_point q w ≡ true = ap (λ (z : Point). is_same_point z w) same ∙ is_same_point-itself w in
      let bad : false ≡ true = sym apart ∙ yes in cc)) in
      let some : 1 ≤ most = some_points m (wins-some rule m (after (after b p) w) (won w go)) in
      omega (arith, sum-once count w most some high each b, total, points_are, size_grows) where
        some_points : (k : ℕ) → 0 < k → 1 ≤ b.width * b.height * k
        some_points zero l = absurd (omega arith)
        some_points (suc k) l = points-many rule b lawful k

  written_short : arrivals rule t i b ≤ b.width * b.height * suc m
  written_short = by_fate (fate rule (after b p)) refl decided where
    by_fate : (a : BlockAnswer) → fate rule (after b p) ≡ a → block_wins rule m (after b p) a ≡ true
        → arrivals rule t i b ≤ b.width * b.height * suc m
    by_fate Won e h = won_short e
    by_fate (One w) e h = one_short w e
    by_fate _ e h = cc

  fork-written : IsWritten rule t i (suc m) b
  fork-written = record {
    accepted = written_accepted;
    deep = written_deep;
    wins = written_wins;
    on_board = written_on;
    short = written_short;
  }

-- ---- the law

-- a node that stands for the plan of a win by fours within n moves is accepted, is at most n deep, and within its depth there
-- is a win by fours
pub plan-written : (rule : RuleKind) (t : List Node) → IsTable t → (n i : ℕ) (b : Grid) → IsPosition rule b → wins_by_fours rule n b ≡ true
    → StandsFor t i (four_plan rule n b) → IsWritten rule t i n b
plan-written rule t table zero i b lawful wins stands = absurd (never rule b wins) where
  never : (rule : RuleKind) (b : Grid) → wins_by_fours rule zero b ≡ true → ⊥
  never rule b h = let some = wins-some rule zero b h in omega (arith, some)
plan-written rule t table (suc m) i b lawful wins stands =
    by_five (has_five rule b (mover b)) refl (λ j c ok w s. plan-written rule t table m j c ok w s) where
      by_leaf : has_five rule b (mover b) ≡ true → IsWritten rule t i (suc m) b
      by_leaf some =
          let x = any-find (five rule b (mover b)) (points_of b) some in
          let leaf : StandsFor t i (Leaf x.0) = subst (λ (s : Tree). StandsFor t i s) (plan-leaf rule (suc m) b x.0 x.1 (omega arith))
          stands in
          let node = leaf_node t i x.0 leaf in
          leaf-written rule t table i b lawful x.0 (find-passes (five rule b (mover b)) (points_of b) x.0 x.1) some node.0 node.1 node.2.0
          node.2.1 m

      by_fork : has_five rule b (mover b) ≡ false
          → ((j : ℕ) (c : Grid) → IsPosition rule c → wins_by_fours rule m c ≡ true → StandsFor t j (four_plan rule m c)
          → IsWritten rule t j m c) → IsWritten rule t i (suc m) b
      by_fork none later =
          let test : Point → Bool = starts_win (has_five rule) rule b (wins_by_fours rule m) in
          let x = any-find test (points_of b) (sym (wins-is rule b lawful none m) ∙ wins) in
          let chosen : four_move rule (suc m) b ≡ Some x.0 = move-is rule b lawful none m ∙ x.1 in
          let fork : StandsFor t i (Fork x.0
          (branches_for (outcome rule (after b x.0)) (λ q. four_plan rule m (after (after b x.0) q)) (points_of b))) =
          subst (λ (s : Tree). StandsFor t i s) (plan-fork rule m b x.0 none chosen) stands in
          let node = fork_node t i x.0 _ fork in
          fork-written rule t table i m b x.0 lawful (plan-goes_on rule (suc m) b x.0 lawful none chosen)
          (find-passes test (points_of b) x.0 x.1) node.0 node.1 node.2.0 node.2.1 node.2.2 later

      by_five : (r : Bool) → has_five rule b (mover b) ≡ r
          → ((j : ℕ) (c : Grid) → IsPosition rule c → wins_by_fours rule m c ≡ true → StandsFor t j (four_plan rule m c)
          → IsWritten rule t j m c) → IsWritten rule t i (suc m) b
      by_five true some later = by_leaf some
      by_five false none later = by_fork none later

-- what the search says of a win
pub four-win : (rule : RuleKind) (b : Grid) (limit d : ℕ) → d < limit → NoWinUpTo rule b limit d → IsPosition rule b
    → wins_by_fours rule (d + 1) b ≡ true → (t : List Node) → IsTable t → (i : ℕ) → i < length t → StandsFor t i (four_plan rule (d + 1) b)
    → IsFourWin rule limit b t (record { node = i; moves = d + 1 })
four-win rule b limit d l none lawful wins t table i within stands =
    let written = plan-written rule t table (d + 1) i b lawful wins stands in
    record {
      written = record {
        in_compiler = within;
        accepted = written.accepted;
        deep = by_order (cases_lt d (depth t i)) written.deep written.wins;
        within = omega (arith, l);
        on_board = written.on_board;
      };
      fewest = record { wins = test-WinsUnder (has_five rule) rule (d + 1) b wins; no_fewer = fewer };
      least = least-win rule b limit d l none wins;
      stands = stands;
      short = written.short;
    } where
      lost : (k : ℕ) → k ≤ d → wins_by_fours rule k b ≡ true → ⊥
      lost k less won =
          let some = wins-some rule k b won in
          let no = none k (omega (arith, some)) less in
          let bad : false ≡ true = sym no ∙ won in
          cc

      fewer : (k : ℕ) → k < d + 1 → WinsByFours rule k b → ⊥
      fewer k low win = lost k (omega (arith, low)) (WinsUnder-test (has_five rule) rule k b win)

      by_order : (d < depth t i) ⊎ (depth t i ≤ d) → depth t i ≤ d + 1 → wins_by_fours rule (depth t i) b ≡ true → depth t i ≡ d + 1
      by_order (inl more) high won = omega arith
      by_order (inr less) high won = absurd (lost (depth t i) less won)

-- the same of what the depths come to
pub sought-win : (rule : RuleKind) (b : Grid) (limit budget moves : ℕ) (line : List Point) → IsSought rule limit budget b moves line
    → IsPosition rule b → (t : List Node) → IsTable t → (i : ℕ) → i < length t → StandsFor t i (four_plan rule moves b)
    → IsFourWin rule limit b t (record { node = i; moves = moves })
sought-win rule b limit budget zero line is lawful t table i within stands = absurd (let some = is.some in omega (arith, some))
sought-win rule b limit budget (suc d) line is lawful t table i within stands =
    let same : suc d ≡ d + 1 = omega arith in
    let low = is.within in
    subst (λ (m : ℕ). IsFourWin rule limit b t (record { node = i; moves = m })) (sym same)
    (four-win rule b limit d (omega (arith, low)) (λ k some less. is.no_fewer k some (omega (arith, less))) lawful
    (ap (λ m. wins_by_fours rule m b) (sym same) ∙ is.wins) t table i within
    (subst (λ (m : ℕ). StandsFor t i (four_plan rule m b)) same stands))

-- and then there is a win within the limit
pub sought-limit : (rule : RuleKind) (b : Grid) (limit budget moves : ℕ) (line : List Point) → IsSought rule limit budget b moves line
    → wins_by_fours rule limit b ≡ true
sought-limit rule b limit budget moves line is = wins-more rule moves limit b is.within is.wins

-- ---- the chosen move

-- where there is a win by fours there is a chosen move
pub four_move-some : (rule : RuleKind) (n : ℕ) (b : Grid) → wins_by_fours rule n b ≡ true → (p : Point) × (four_move rule n b ≡ Some p)
unfolding wins_under four_move
four_move-some rule zero b wins = cc
four_move-some rule (suc n) b wins = by_five (has_five rule b (mover b)) refl where
  by_five : (r : Bool) → has_five rule b (mover b) ≡ r
      → (p : Point) × (cond r (find (five rule b (mover b)) (points_of b))
      (find (starts_win (has_five rule) rule b (wins_by_fours rule n)) (points_of b)) ≡ Some p)
  by_five true some = any-find (five rule b (mover b)) (points_of b) some
  by_five false none = any-find (starts_win (has_five rule) rule b (wins_by_fours rule n)) (points_of b) wins

-- ---- the attack of its node

from-attack : (wins : Bool) (p : Point) (branches : Point → Branches) → tree_attack (plan_from wins (Some p) branches) ≡ p
unfolding tree_attack
from-attack true p branches = refl
from-attack false p branches = refl

plan-attack : (rule : RuleKind) (n : ℕ) (b : Grid) (p : Point) → four_move rule n b ≡ Some p → tree_attack (four_plan rule n b) ≡ p
unfolding four_plan
plan-attack rule zero b p chosen = absurd (no_move rule b p chosen)
plan-attack rule (suc n) b p chosen =
    let branches : Point → Branches = λ x. branches_for (outcome rule (after b x)) (λ q. four_plan rule n (after (after b x) q))
    (points_of b) in
    ap (λ (o : Option Point). tree_attack (plan_from (has_five rule b (mover b)) o branches)) chosen
    ∙ from-attack (has_five rule b (mover b)) p branches

-- the attack of a node that stands for the plan is the chosen move
pub plan-attacks : (rule : RuleKind) (t : List Node) (n i : ℕ) (b : Grid) → wins_by_fours rule n b ≡ true
    → StandsFor t i (four_plan rule n b) → option_map (λ n. n.attack) (slice_get t i) ≡ four_move rule n b
plan-attacks rule t n i b wins stands =
    let chosen = four_move-some rule n b wins in
    tree-attack t i (four_plan rule n b) stands ∙ ap Some (plan-attack rule n b chosen.0 chosen.1) ∙ sym chosen.1

-- ---- the replies to it

-- a node stands for the plan of a win within n moves at b, and is accepted there
pub record PlanAt (rule : RuleKind) (t : List Node) (n j : ℕ) (b : Grid) : Type 0 where
  pub wins : wins_by_fours rule n b ≡ true
  pub stands : StandsFor t j (four_plan rule n b)
  pub accepted : Accepted rule t j b

-- each reply at c is no move, fouls, or goes on, and is answered at node i by a node that stands for the plan within n moves
abbrev pub PlansOn : RuleKind → List Node → ℕ → ℕ → Grid → Type 0
PlansOn rule t n i c = (q : Point) → LosesOr (outcome rule c q) (IsSomeAnd (answer_at t i q) (λ j. PlanAt rule t n j (after c q)))

module _ (rule : RuleKind) (t : List Node) (table : IsTable t) (m i : ℕ) (b : Grid) (p : Point) (lawful : IsPosition rule b)
    (chosen : four_move rule (suc m) b ≡ Some p) (go : outcome rule b p ≡ GoesOn) (stands : StandsFor t i (four_plan rule (suc m) b)) where
  none : has_five rule b (mover b) ≡ false
  none = goes_on-no_five rule (suc m) b p chosen go

  starts : starts_win (has_five rule) rule b (wins_by_fours rule m) p ≡ true
  starts = find-passes (starts_win (has_five rule) rule b (wins_by_fours rule m)) (points_of b) p
      (sym (move-is rule b lawful none m) ∙ chosen)

  replies_lose : list_all (λ q. loses_or (outcome rule (after b p) q) (wins_by_fours rule m (after (after b p) q))) (points_of b) ≡ true
  replies_lose = and_right (has_five rule (after b p) (mover b)) _
      (sym (ap (λ o. wins_or o
      (has_five rule (after b p) (mover b) && list_all
      (λ q. loses_or (outcome rule (after b p) q) (wins_by_fours rule m (after (after b p) q))) (points_of b))) go) ∙ starts) where
        and_right : (a c : Bool) → (a && c) ≡ true → c ≡ true
        and_right true c h = h
        and_right false c h = cc

  after_lawful : IsPosition rule (after b p)
  after_lawful = IsPosition-after rule b p lawful go

  fork : StandsFor t i (Fork p (branches_for (outcome rule (after b p)) (λ q. four_plan rule m (after (after b p) q)) (points_of b)))
  fork = subst (λ (s : Tree). StandsFor t i s) (plan-fork rule m b p none chosen) stands

  answered_there : (q : Point) → outcome rule (after b p) q ≡ GoesOn
      → IsSomeAnd (answer_at t i q) (λ j. StandsFor t j (four_plan rule m (after (after b p) q)))
  answered_there q on =
      let node = at_fork t i p _ fork in
      let found = answer-at t (answers_of node.0) (outcome rule (after b p)) (λ q. four_plan rule m (after (after b p) q)) (points_of b) q
      (points-found (after b p) (λ x. is_same_point q x) q (GoesOn-on rule (after b p) q on) (is_same_point-itself q)) on node.2 in
      subst (λ (o : Option Node). IsSomeAnd (option_and_then (λ n. answer (answers_of n) q) o)
      (λ j. StandsFor t j (four_plan rule m (after (after b p) q)))) (sym node.1) found

  plan_replies : PlansOn rule t m i (after b p)
  plan_replies q =
      loses_by (outcome rule (after b p) q) (wins_by_fours rule m (after (after b p) q) ≡ true) _
      (each_reply rule (after b p) (wins_by_fours rule m) (λ d. wins_by_fours rule m d ≡ true) (λ d h. h) replies_lose q)
      (λ on wins. IsSomeAnd-map (answer_at t i q) (λ j. StandsFor t j (four_plan rule m (after (after b p) q)))
      (λ j. PlanAt rule t m j (after (after b p) q))
      (λ j e s. record {
        wins = wins;
        stands = s;
        accepted =
            (plan-written rule t table m j (after (after b p) q) (IsPosition-after rule (after b p) q after_lawful on) wins s).accepted;
      })
      (answered_there q on))

-- where the chosen move goes on, each reply that does is answered by a node that stands for the plan of the win that is left
pub plan-replies : (rule : RuleKind) (t : List Node) → IsTable t → (n i : ℕ) (b : Grid) (p : Point) → IsPosition rule b
    → four_move rule n b ≡ Some p → outcome rule b p ≡ GoesOn → StandsFor t i (four_plan rule n b)
    → (1 ≤ n) × PlansOn rule t (n - 1) i (after b p)
plan-replies rule t table zero i b p lawful chosen go stands = absurd (no_move rule b p chosen)
plan-replies rule t table (suc m) i b p lawful chosen go stands =
    let same : m ≡ suc m - 1 = omega arith in
    (omega arith, subst (λ (k : ℕ). PlansOn rule t k i (after b p)) same (plan_replies rule t table m i b p lawful chosen go stands))

-- ---- the fewest moves

-- a number that is found passes
found-passes : (f : ℕ → Bool) (ks : List ℕ) (m : ℕ) → find f ks ≡ Some m → f m ≡ true
found-passes f [] m h = cc
found-passes f (k ∷ ks) m h = by_test (f k) refl h (found-passes f ks m) where
  by_test : (r : Bool) → f k ≡ r → cond r (Some k) (find f ks) ≡ Some m → (find f ks ≡ Some m → f m ≡ true) → f m ≡ true
  by_test true e h rest = let same : k ≡ m = cc in subst (λ (j : ℕ). f j ≡ true) same e
  by_test false e h rest = rest h

-- within the fewest moves there is a win
pub least-wins : (rule : RuleKind) (n : ℕ) (b : Grid) (m : ℕ) → least_moves rule n b ≡ Some m → wins_by_fours rule m b ≡ true
least-wins rule n b m h = found-passes (λ k. wins_by_fours rule k b) (range_with_len 1 n) m h

none-in : (f : ℕ → Bool) (a d : ℕ) → ((k : ℕ) → k < a + d → f k ≡ false) → find f (range_with_len a d) ≡ None
none-in f a zero h = refl
none-in f a (suc d) h =
    let first : f a ≡ false = h a (omega arith) in
    ap (λ r. cond r (Some a) (find f (range_with_len (a + 1) d))) first ∙ none-in f (a + 1) d (λ k low. h k (omega (arith, low)))

-- where there is no win within n moves there is no fewest number
pub least-none : (rule : RuleKind) (n : ℕ) (b : Grid) → wins_by_fours rule n b ≡ false → least_moves rule n b ≡ None
least-none rule n b none = none-in (λ k. wins_by_fours rule k b) 1 n
    (λ k low. fewer k (wins_by_fours rule k b) refl (omega (arith, low))) where
      fewer : (k : ℕ) (r : Bool) → wins_by_fours rule k b ≡ r → k ≤ n → r ≡ false
      fewer k true e low = let more = wins-more rule k n b low e in let bad : false ≡ true = sym none ∙ more in cc
      fewer k false e low = refl
