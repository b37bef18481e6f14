-- A double threat wins in two moves, and so does its node. The answers to all replies to a move win, and so does the node that has them.
use Rattle.std.proofs.Common.{◌≡◌, ℕ, Bool, true, false, cond, ◌&&◌, refl, sym, ap, subst, ◌∙◌, List, [], ◌∷◌}
use Rattle.std.proofs.Common.{Option, Some, None, IfSome, suc, ◌+◌, unwrap_or, filter}
use Rattle.std.specs.List.{list_any, list_all}
use Rattle.game_rules.proofs.Common.{Grid, is_on, points_of, points_within, five, is_same_point, IsPosition, outcome, mover, after, other}
use Rattle.game_rules.proofs.Common.{goes_on_with, LosesOr, has_five, wins_or, loses_or, starts_win, wins_under, wins_by_fours}
use Rattle.game_rules.specs.declared.RuleKind.{RuleKind}
use Rattle.game_rules.specs.declared.Outcome.{Outcome}
use Rattle.game_rules.specs.declared.Outcome.TheVariants.{Wins as WinsNow, Draws, GoesOn}
use Rattle.game_rules.specs.declared.Point.{Point}
use Rattle.game_rules.proofs.Boards.{and_right, is_empty-on}
use Rattle.game_rules.proofs.Points.{points-found, is_same_point-itself, is_same_point-same, is_same_point-apart}
use Rattle.game_rules.proofs.Games.{each_reply}
use Rattle.game_rules.proofs.Positions.{IsPosition-after, GoesOn-on, GoesOn-empty, mover-other, mover-then}
use Rattle.game_rules.proofs.Fives.{five-empty, five-other}
use Rattle.game_rules.proofs.Outcomes.{five-outcome, goes_on_with-true}
use Rattle.game_rules.proofs.PointLists.{still-found}
use Rattle.game_rules.proofs.ReadingOrder.{points-on}
use Rattle.strategy_graph.specs.declared.Node.{Node}
use Rattle.strategy_compiler.proofs.Common.{IsBeatenBy, IsWrittenWin, GrowsBy, IsDoubleThreat, double_moves, AnswersWin, WinsByAnswers}
use Rattle.strategy_compiler.proofs.Growing.{win-stays}
use Rattle.threat_moves.specs.declared.block.BlockAnswer.TheVariants.{Lost, Won}
use Rattle.threat_moves.proofs.BlockLaw.{block_decides}
use Rattle.threat_moves.proofs.FourLaws.{two-won}
use Rattle.strategy_compiler.specs.declared.wins.WrittenWin.{WrittenWin}
use Rattle.line_proof.specs.declared.doubles.DoubleThreat.{DoubleThreat}
use Rattle.line_proof.specs.declared.doubles.TwoFives.{TwoFives}
use Rattle.line_proof.proofs.Common.{LeavesTwoFives, IsDouble, each_loses, AnswersAll}
use Rattle.strategy_graph.specs.declared.Reply.{Reply}
use Rattle.strategy_graph.proofs.Common.{NamesLower, depth}
use Rattle.strategy_graph.proofs.Answering.{passed}
use Rattle.strategy_compiler.proofs.Forks.{IsAnswer, all-both, alone-deep, answer-by-win, answers-win}
use Rattle.threat_moves.proofs.Common.{by_fives, fate, is_four_move, block_wins}
use Rattle.line_proof.specs.declared.answers.Answering.{Answering}

-- ---- the points of a board are on it

-- ---- two five points

module _ (rule : RuleKind) (d : Grid) (lawful : IsPosition rule d) (s : Point) (ends : TwoFives)
    (leaves_two : LeavesTwoFives rule d s ends) where
  e_lawful : IsPosition rule (after d s)
  e_lawful = IsPosition-after rule d s lawful leaves_two.goes_on

  on-end : (w : Point) → five rule (after d s) (other (mover (after d s))) w ≡ true → is_on (after d s) w ≡ true
  on-end w h = is_empty-on (after d s) w (five-empty rule (after d s) (other (mover (after d s))) w h)

  four : is_four_move rule d s ≡ true
  unfolding is_four_move
  four =
      ap (λ o. goes_on_with o (has_five rule (after d s) (mover d))) leaves_two.goes_on
      ∙ points-found (after d s) (five rule (after d s) (mover d)) ends.first (on-end ends.first leaves_two.open_ends.first)
      (ap (λ t. five rule (after d s) t ends.first) (sym (mover-other rule d s lawful leaves_two.goes_on)) ∙ leaves_two.open_ends.first)

  found : (w : Point) → five rule (after d s) (other (mover (after d s))) w ≡ true
      → list_any (is_same_point w) (filter (five rule (after d s) (other (mover (after d s)))) (points_of (after d s))) ≡ true
  found w h = still-found (five rule (after d s) (other (mover (after d s)))) w (points_of (after d s)) h
      (points-found (after d s) (is_same_point w) w (on-end w h) (is_same_point-itself w))

  won : fate rule (after d s) ≡ Won
  unfolding fate
  won =
      ap (λ r. cond r Lost (by_fives rule (after d s) (filter (five rule (after d s) (other (mover (after d s)))) (points_of (after d s)))))
      leaves_two.open_ends.none
      ∙ two-won rule (after d s) ends.first ends.second _ (found ends.first leaves_two.open_ends.first)
      (found ends.second leaves_two.open_ends.second) leaves_two.open_ends.apart

  starts : starts_win (has_five rule) rule d (wins_by_fours rule 1) s ≡ true
  starts = block_decides rule 1 d s lawful four ∙ ap (block_wins rule 1 (after d s)) won

  -- it is a win by two fours
  pub leaves_two-wins : wins_by_fours rule 2 d ≡ true
  unfolding wins_under
  leaves_two-wins = points-found d (starts_win (has_five rule) rule d (wins_by_fours rule 1)) s (GoesOn-on rule d s leaves_two.goes_on)
      starts

  lost : list_all (λ q. loses_or (outcome rule (after d s) q) (wins_by_fours rule 1 (after (after d s) q))) (points_of (after d s)) ≡ true
  lost = and_right (has_five rule (after d s) (mover d)) _
      (sym (ap (λ o. wins_or o (has_five rule (after d s) (mover d) && list_all
      (λ q. loses_or (outcome rule (after d s) q) (wins_by_fours rule 1 (after (after d s) q))) (points_of d))) leaves_two.goes_on)
      ∙ starts)

  -- after a reply beside it an end is a five point
  end-stays : (q w : Point) → outcome rule (after d s) q ≡ GoesOn → five rule (after d s) (other (mover (after d s))) w ≡ true
      → is_same_point q w ≡ false → outcome rule (after (after d s) q) w ≡ WinsNow
  end-stays q w go h apart =
      let still : five rule (after (after d s) q) (other (mover (after d s))) w ≡ true =
      five-other (after d s) (mover (after d s)) q e_lawful.board (GoesOn-empty rule (after d s) q go) rule w
      (is_same_point-apart q w apart) ∙ h in
      five-outcome rule (after (after d s) q) w
      (ap (λ t. five rule (after (after d s) q) t w) (mover-then rule (after d s) q e_lawful go) ∙ still)

  -- and a double threat to the points of the board
  pub leaves_two-threat : IsDoubleThreat rule d s ends.first ends.second (points_of d)
  leaves_two-threat = record {
    goes_on = leaves_two.goes_on;
    lost = λ q. by_outcome q (outcome rule (after d s) q) refl
        (each_reply rule (after d s) (wins_by_fours rule 1) (λ b. Unit {0}) (λ b e. tt) lost q);
    listed = λ q go. points-found d (is_same_point q) q (GoesOn-on rule (after d s) q go) (is_same_point-itself q);
    on_board = (on-end ends.first leaves_two.open_ends.first, (on-end ends.second leaves_two.open_ends.second, points-on d));
  } where
    taken : (q : Point) → outcome rule (after d s) q ≡ GoesOn → (r : Bool) → is_same_point q ends.first ≡ r
        → outcome rule (after (after d s) q) (cond r ends.second ends.first) ≡ WinsNow
    taken q go true same = end-stays q ends.second go leaves_two.open_ends.second
        (ap (λ (x : Point). is_same_point x ends.second) (is_same_point-same q ends.first same) ∙ leaves_two.open_ends.apart)
    taken q go false apart = end-stays q ends.first go leaves_two.open_ends.first apart

    by_outcome : (q : Point) (o : Outcome) → outcome rule (after d s) q ≡ o → LosesOr o (Unit {0})
        → LosesOr o (outcome rule (after (after d s) q) (cond (is_same_point q ends.first) ends.second ends.first) ≡ WinsNow)
    by_outcome q WinsNow e h = absurd h
    by_outcome q Draws e h = absurd h
    by_outcome q GoesOn e h = taken q e (is_same_point q ends.first) refl
    by_outcome q _ e h = tt

  -- it takes two moves, since the board has points
  pub leaves_two-moves : double_moves (points_of d) ≡ 2
  leaves_two-moves = some (points_of d)
      (points-found d (is_same_point ends.first) ends.first (on-end ends.first leaves_two.open_ends.first)
      (is_same_point-itself ends.first))
    where
      some : (ps : List Point) → list_any (is_same_point ends.first) ps ≡ true → double_moves ps ≡ 2
      some [] h = cc
      some (p ∷ ps) h = refl

-- the node that was compiled for the points of a board is one for each board of its size
pub double-is : (b : Grid) (t : List Node) (points : List Point) (h : DoubleThreat) (win : WrittenWin) → points ≡ points_of b
    → h.node ≡ win.node → win.moves ≡ double_moves points
    → ((rule : RuleKind) (d : Grid) → IsDoubleThreat rule d h.start h.ends.first h.ends.second points → IsWrittenWin rule 2 d t win)
    → IsDouble b.width b.height t h
double-is b t points h win are node moves wins = record {
  wins = λ rule d w v lawful leaves_two.
      let same : points_of d ≡ points = (λ i. points_within (w i) (v i)) ∙ sym are in
      let threat = subst (IsDoubleThreat rule d h.start h.ends.first h.ends.second) same
      (leaves_two-threat rule d lawful h.start h.ends leaves_two) in
      let two : win.moves ≡ 2 = moves ∙ ap double_moves (sym same) ∙ leaves_two-moves rule d lawful h.start h.ends leaves_two in
      subst (λ (m : ℕ). IsWrittenWin rule 2 d t (record { node = h.node; moves = m })) two
      (subst (λ (i : ℕ). IsWrittenWin rule 2 d t (record { node = i; moves = win.moves })) (sym node) (wins rule d threat));
}

pub double-wins : (rule : RuleKind) (d : Grid) → IsPosition rule d → (t : List Node) (h : DoubleThreat) → IsDouble d.width d.height t h
    → LeavesTwoFives rule d h.start h.ends → (win : WrittenWin) → win.node ≡ h.node → win.moves ≡ 2 → IsWrittenWin rule 2 d t win
double-wins rule d lawful t h double leaves_two win node moves =
    subst (λ (i : ℕ). IsWrittenWin rule 2 d t (record { node = i; moves = win.moves })) (sym node)
    (subst (λ (m : ℕ). IsWrittenWin rule 2 d t (record { node = h.node; moves = m })) (sym moves)
    (double.wins rule d refl refl lawful leaves_two))

pub hint-grown : (w h : ℕ) (t u : List Node) (k : ℕ) (o : Option DoubleThreat) → NamesLower t → GrowsBy t u k → IfSome o (IsDouble w h t)
    → IfSome o (IsDouble w h u)
hint-grown w h t u k None lower grown double = tt
hint-grown w h t u k (Some d) lower grown double = record
    { wins = λ rule b x y lawful leaves_two. win-stays rule 2 b t u k _ lower grown (double.wins rule b x y lawful leaves_two) }

-- the one that is given stays where there is one, and else the new one is given
pub hint-kept : (w h : ℕ) (t u : List Node) (k : ℕ) (o : Option DoubleThreat) (d : DoubleThreat) → NamesLower t → GrowsBy t u k
    → IfSome o (IsDouble w h t) → IsDouble w h u d → IsDouble w h u (unwrap_or o d)
hint-kept w h t u k None d lower grown given new = new
hint-kept w h t u k (Some e) d lower grown given new = hint-grown w h t u k (Some e) lower grown given

-- the threat that was compiled is the one that was found
pub told-leaves_two : (rule : RuleKind) (b : Grid) (start : Point) (ends : TwoFives) (h : DoubleThreat) → h.start ≡ start → h.ends ≡ ends
    → LeavesTwoFives rule b start ends → LeavesTwoFives rule b h.start h.ends
told-leaves_two rule b start ends h e f leaves_two =
    subst (λ (x : Point). LeavesTwoFives rule b x h.ends) (sym e)
    (subst (λ (x : TwoFives). LeavesTwoFives rule b start x) (sym f) leaves_two)

pub five-found : (rule : RuleKind) (d : Grid) (w : Point) → five rule d (mover d) w ≡ true → has_five rule d (mover d) ≡ true
five-found rule d w h = points-found d (five rule d (mover d)) w (is_empty-on d w (five-empty rule d (mover d) w h)) h

module _ (rule : RuleKind) (n : ℕ) (c : Grid) (won : Grid → Bool) (lost : each_loses rule c won ≡ true) (t : List Node) (a : Answering)
    (all : AnswersAll rule n t c a) where
  answers-all : AnswersWin rule n c t a.replies.items
  answers-all = answers-win rule n c t a.replies.items (each_reply rule c won (λ d. Unit {0}) (λ d e. tt) lost)
      (λ q go. subst (λ (ps : List Point). list_any (is_same_point q) ps ≡ true) (sym all.all)
      (still-found (λ q. goes_on_with (outcome rule c q) true) q (points_of c) (ap (λ o. goes_on_with o true) go)
      (points-found c (is_same_point q) q (GoesOn-on rule c q go) (is_same_point-itself q))))
      (all-both (λ (r : Reply). goes_on_with (outcome rule c r.at) true ≡ true) (IsBeatenBy rule n c t) (IsAnswer rule n c t)
      (λ r go win. answer-by-win rule n c t r (depth t r.next) (goes_on_with-true (outcome rule c r.at) go) win) a.replies.items
      (passed (λ q. goes_on_with (outcome rule c q) true) (points_of c) a.replies.items all.all) all.answers.wins)

pub fork-wins : (old new : List Node) (p : Point) (a : Answering) (rs : List Reply) (i : ℕ) → rs ≡ a.replies.items
    → WinsByAnswers old p rs new i → (rule : RuleKind) (n : ℕ) (b : Grid) (won : Grid → Bool) → outcome rule b p ≡ GoesOn
    → each_loses rule (after b p) won ≡ true
    → AnswersAll rule n old (after b p) a → IsWrittenWin rule (suc n) b new (record { node = i; moves = a.moves + 1 })
fork-wins old new p a rs i are wins rule n b won on lost all =
    subst (λ (k : ℕ). IsWrittenWin rule (suc n) b new (record { node = i; moves = k + 1 }))
    (alone-deep old a.replies.items ∙ sym all.answers.most)
    (subst (λ (rs : List Reply). WinsByAnswers old p rs new i) are wins rule n b on (answers-all rule n (after b p) won lost old a all))
