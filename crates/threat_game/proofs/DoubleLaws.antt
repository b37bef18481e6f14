-- Double points: the two five points that a stone leaves, and the win that they are. A double point is a double threat, whatever the
-- reply,
-- and its node a win by threats. Where no point makes two five points, a stone makes double points only on the lines through it: in the
-- runs of any other point it plays no part.
use Rattle.std.proofs.Common.{◌≡◌, ℕ, ◌≤◌, Bool, true, false, cond, ◌&&◌, sym, ap, ◌∙◌, arith, List, [], ◌∷◌, length, get_or, ◌+◌}
use Rattle.std.proofs.Common.{refl, rules}
use Rattle.std.specs.List.{list_any, list_all, filter, AllByRecursion}
use Rattle.game_rules.specs.declared.RuleKind.{RuleKind}
use Rattle.game_rules.specs.declared.Side.{Side}
use Rattle.game_rules.specs.declared.Outcome.{Outcome}
use Rattle.game_rules.specs.declared.Point.{Point}
use Rattle.game_rules.specs.declared.Outcome.TheVariants.{Wins as WinsNow, Draws, GoesOn}
use Rattle.game_rules.proofs.Common.{Grid, is_empty, put, points_of, five, is_same_point, IsPosition, outcome, mover, other, after}
use Rattle.game_rules.proofs.Common.{goes_on_with, has_five, five_points, starts_win, wins_by_fours, wins_under, WinsByFours, WinsByThreats}
use Rattle.game_rules.proofs.Common.{LosesOr, loses_or, wins_or, is_on, goes_on, has_threat}
use Rattle.game_rules.proofs.Boards.{and_left, and_right, is_empty-on, other-other}
use Rattle.game_rules.proofs.Positions.{GoesOn-on, mover-then, IsPosition-after}
use Rattle.game_rules.proofs.Points.{points-found, filter-passes, is_same_point-itself, apart-is_same_point, is_same_point-same}
use Rattle.game_rules.proofs.Points.{taken_refused}
use Rattle.game_rules.proofs.Places.{two_passing-apart}
use Rattle.game_rules.proofs.Fives.{five-empty}
use Rattle.game_rules.proofs.Games.{WinsUnder-more, WinsByFours-WinsByThreats, test-WinsUnder, each_reply}
use Rattle.game_rules.proofs.PointLists.{still-found, any-filter, other_first}
use Rattle.game_rules.proofs.Outcomes.{five-outcome, goes_on-is, never-goes_on, always-goes_on}
use Rattle.row_shapes.specs.FivePoints.{in_short}
use Rattle.row_shapes.proofs.FiveLaws.{has_five-none, has_five-one, has_five-several}
use Rattle.strategy_compiler.proofs.Common.{IsDoubleThreat, double_nodes}
use Rattle.threat_moves.specs.declared.block.BlockAnswer.TheVariants.{Lost, Won}
use Rattle.threat_moves.proofs.Common.{is_four_move, by_fives, fate, block_wins}
use Rattle.threat_moves.proofs.BlockLaw.{block_decides}
use Rattle.threat_moves.proofs.FourLaws.{two-won}
use Rattle.threat_game.specs.declared.doubles.DoublePoint.{DoublePoint}
use Rattle.threat_game.proofs.TreeLaws.{double-five, still-safe}
use Rattle.threat_game.proofs.Common.{LeavesBoth, IsDoubleWin, answer_nodes, replies_at, is_threat_move, is_some_point}
use Rattle.threat_game.proofs.ReplyLaws.{beside-five}

-- ---- the first two of the five points that a stone leaves

pub leaves-both : (rule : RuleKind) (b : Grid) (s : Side) (p : Point) → is_empty b p ≡ true → (xs : List Point)
    → xs ≡ five_points rule (put b s p) s → 2 ≤ length xs
    → LeavesBoth rule b s (record { at = p; first = get_or xs 0 (record { x = 0; y = 0 }); second = get_or xs 1 (record { x = 0; y = 0 }) })
leaves-both rule b s p empty [] are many = absurd (omega arith)
leaves-both rule b s p empty (w ∷ []) are many = absurd (omega arith)
leaves-both rule b s p empty (w ∷ v ∷ more) are many =
    let all : list_all (five rule (put b s p) s) (w ∷ v ∷ more) ≡ true =
    ap (list_all (five rule (put b s p) s)) are ∙ filter-passes (five rule (put b s p) s) (points_of (put b s p)) in
    record {
      empty = empty;
      first = and_left (five rule (put b s p) s w) _ all;
      second = and_left (five rule (put b s p) s v) _ (and_right (five rule (put b s p) s w) _ all);
      apart = apart-is_same_point w v (two_passing-apart (put b s p) (five rule (put b s p) s) w v more (sym are));
    }

-- ---- a double point wins by fours within two moves

module _ (rule : RuleKind) (b : Grid) (d : DoublePoint) (lawful : IsPosition rule b) (wins : IsDoubleWin rule b d) where
  turn : mover (after b d.at) ≡ other (mover b)
  turn = mover-then rule b d.at lawful wins.on

  pub back_turn : other (mover (after b d.at)) ≡ mover b
  back_turn = ap other turn ∙ other-other (mover b)

  safe_now : has_five rule (after b d.at) (mover (after b d.at)) ≡ false
  safe_now = ap (has_five rule (after b d.at)) turn ∙ still-safe rule b d.at lawful wins.on wins.safe

  five_now : (w : Point) → five rule (after b d.at) (mover b) w ≡ true
      → list_any (is_same_point w) (five_points rule (after b d.at) (mover b)) ≡ true
  five_now w h = still-found (five rule (after b d.at) (mover b)) w (points_of (after b d.at)) h
      (points-found (after b d.at) (is_same_point w) w (is_empty-on (after b d.at) w (five-empty rule (after b d.at) (mover b) w h))
      (is_same_point-itself w))

  won : fate rule (after b d.at) ≡ Won
  unfolding fate
  won =
      ap (λ (r : Bool). cond r Lost (by_fives rule (after b d.at) (five_points rule (after b d.at) (other (mover (after b d.at))))))
      safe_now
      ∙ ap (λ (s : Side). by_fives rule (after b d.at) (five_points rule (after b d.at) s)) back_turn
      ∙ two-won rule (after b d.at) d.first d.second (five_points rule (after b d.at) (mover b)) (five_now d.first wins.both.first)
      (five_now d.second wins.both.second) wins.both.apart

  four : is_four_move rule b d.at ≡ true
  unfolding is_four_move
  four = ap (λ (o : Outcome). goes_on_with o (has_five rule (after b d.at) (mover b))) wins.on ∙ double-five rule b d lawful wins

  starts : starts_win (has_five rule) rule b (wins_by_fours rule 1) d.at ≡ true
  starts = block_decides rule 1 b d.at lawful four ∙ ap (block_wins rule 1 (after b d.at)) won

  each_lost : list_all (λ q. loses_or (outcome rule (after b d.at) q) (wins_by_fours rule 1 (after (after b d.at) q))) (points_of b) ≡ true
  each_lost = and_right (has_five rule (after b d.at) (mover b)) _
      (sym (ap (λ (o : Outcome). wins_or o
      (has_five rule (after b d.at) (mover b) && list_all
      (λ q. loses_or (outcome rule (after b d.at) q) (wins_by_fours rule 1 (after (after b d.at) q))) (points_of b))) wins.on) ∙ starts)

  -- no reply to it wins or fills the board
  pub double-lost : (q : Point) → LosesOr (outcome rule (after b d.at) q) (WinsByFours rule 1 (after (after b d.at) q))
  double-lost q = each_reply rule (after b d.at) (wins_by_fours rule 1) (WinsByFours rule 1)
      (λ c h. test-WinsUnder (has_five rule) rule 1 c h) each_lost q

  double-fours : WinsByFours rule 2 b
  unfolding wins_under
  double-fours = test-WinsUnder (has_five rule) rule 2 b
      (points-found b (starts_win (has_five rule) rule b (wins_by_fours rule 1)) d.at (GoesOn-on rule b d.at wins.on) starts)

  pub double-threats : (n : ℕ) → 2 ≤ n → WinsByThreats rule n b
  double-threats n l = WinsByFours-WinsByThreats rule n b (WinsUnder-more (has_five rule) rule 2 n b l double-fours)

-- the nodes that answer the replies, and its own
pub nodes-are : (rule : RuleKind) (b : Grid) (d : DoublePoint)
    → double_nodes d.first (replies_at rule (after b d.at)) ≡ 1 + answer_nodes rule b d
nodes-are rule b d = search (rules, any-filter)

module _ (rule : RuleKind) (b : Grid) (d : DoublePoint) (lawful : IsPosition rule b) (wins : IsDoubleWin rule b d) where
  lawful_c : IsPosition rule (after b d.at)
  lawful_c = IsPosition-after rule b d.at lawful wins.on

  -- one of the two five points that the reply is not on wins
  five-wins : (q w : Point) → outcome rule (after b d.at) q ≡ GoesOn → five rule (after b d.at) (mover b) w ≡ true
      → is_same_point w q ≡ false → outcome rule (after (after b d.at) q) w ≡ WinsNow
  five-wins q w on h apart =
      five-outcome rule (after (after b d.at) q) w
      (beside-five rule (after b d.at) q lawful_c on w
      (ap (λ (s : Side). five rule (after b d.at) s w) (back_turn rule b d lawful wins) ∙ h) apart)

  taken : (q : Point) → outcome rule (after b d.at) q ≡ GoesOn → (r : Bool) → is_same_point q d.first ≡ r
      → outcome rule (after (after b d.at) q) (cond r d.second d.first) ≡ WinsNow
  taken q on true e =
      five-wins q d.second on wins.both.second
      (ap (λ (x : Point). is_same_point d.second x) (is_same_point-same q d.first e) ∙ other_first d.first d.second wins.both.apart)
  taken q on false e = five-wins q d.first on wins.both.first (other_first q d.first e)

  by_outcome : (q : Point) (o : Outcome) → outcome rule (after b d.at) q ≡ o → LosesOr o (WinsByFours rule 1 (after (after b d.at) q))
      → LosesOr o (outcome rule (after (after b d.at) q) (cond (is_same_point q d.first) d.second d.first) ≡ WinsNow)
  by_outcome q WinsNow e h = h
  by_outcome q Draws e h = h
  by_outcome q GoesOn e h = taken q e (is_same_point q d.first) refl
  by_outcome q _ e h = tt

  replies-on : (ps : List Point) → AllByRecursion (λ q. is_on b q ≡ true) (filter (λ q. goes_on (outcome rule (after b d.at) q)) ps)
  replies-on [] = tt
  replies-on (p ∷ ps) = by_test (goes_on (outcome rule (after b d.at) p)) refl (replies-on ps) where
    by_test : (r : Bool) → goes_on (outcome rule (after b d.at) p) ≡ r
        → AllByRecursion (λ q. is_on b q ≡ true) (filter (λ q. goes_on (outcome rule (after b d.at) q)) ps)
        → AllByRecursion (λ q. is_on b q ≡ true)
        (cond r (p ∷ filter (λ q. goes_on (outcome rule (after b d.at) q)) ps)
        (filter (λ q. goes_on (outcome rule (after b d.at) q)) ps))
    by_test true e k = (GoesOn-on rule (after b d.at) p (goes_on-is (outcome rule (after b d.at) p) e), k)
    by_test false e k = k

  five-on : (w : Point) → five rule (after b d.at) (mover b) w ≡ true → is_on b w ≡ true
  five-on w h = is_empty-on (after b d.at) w (five-empty rule (after b d.at) (mover b) w h)

  pub double-threat : IsDoubleThreat rule b d.at d.first d.second (replies_at rule (after b d.at))
  double-threat = record {
    goes_on = wins.on;
    lost = λ q. by_outcome q (outcome rule (after b d.at) q) refl (double-lost rule b d lawful wins q);
    listed = λ q on. still-found (λ q. goes_on (outcome rule (after b d.at) q)) q (points_of (after b d.at)) (ap goes_on on)
        (points-found (after b d.at) (is_same_point q) q (GoesOn-on rule (after b d.at) q on) (is_same_point-itself q));
    on_board = (five-on d.first wins.both.first, (five-on d.second wins.both.second, replies-on (points_of (after b d.at))));
  }

-- ---- five points in short, and threats

pub some-five : (rule : RuleKind) (b : Grid) (s : Side) → is_some_point (in_short (five_points rule b s)) ≡ has_five rule b s
some-five rule b s = search (rules, has_five-none, has_five-one, has_five-several)

-- ---- moves of the game of threats

module _ (rule : RuleKind) (b : Grid) (p : Point) where
  pub taken-no_move : is_empty b p ≡ false → false ≡ is_threat_move rule b p
  unfolding is_threat_move
  taken-no_move h = sym (ap (λ o. goes_on_with o (has_threat rule (after b p) (mover b))) (taken_refused rule b p h))

  pub no_threat-no_move : has_threat rule (after b p) (mover b) ≡ false → false ≡ is_threat_move rule b p
  unfolding is_threat_move
  no_threat-no_move h = never-goes_on (outcome rule b p) ∙ sym (ap (goes_on_with (outcome rule b p)) h)

  pub threat-move : has_threat rule (after b p) (mover b) ≡ true → goes_on (outcome rule b p) ≡ is_threat_move rule b p
  unfolding is_threat_move
  threat-move h = always-goes_on (outcome rule b p) ∙ sym (ap (goes_on_with (outcome rule b p)) h)
