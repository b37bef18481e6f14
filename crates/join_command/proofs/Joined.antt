-- The answers to all replies make a node that wins, and its table plays on as the files.
use Rattle.std.proofs.Common.{◌≡◌, inl, inr, ℕ, zero, suc, ◌<◌, ◌≤◌, List, [], ◌∷◌, length, map, ap, refl, sym, subst, ◌∙◌, arith, Option}
use Rattle.std.proofs.Common.{Some, None, slice_get, All, true, false, Bool, Result, Ok, Err, IfOk, option_map, append-nil, ◌||◌, rules}
use Rattle.std.specs.List.{AllByRecursion, list_any}
use Rattle.join_command.proofs.Common.{Grid, after, goes_on, outcome, points_of, RuleKind, Outcome, GoesOn, Point, Node, Reply, MAX_NODES}
use Rattle.join_command.proofs.Common.{Accepted, IsTable, NamesLower, SaysSame, TableOnBoard, answer_at, answers_of, PutsIn, answering_node}
use Rattle.join_command.proofs.Common.{last, PositionFile, TableFile, Answer, NotFound, AnswersAt, IsOpenReply, MayBeAsked, AreAdopted}
use Rattle.join_command.proofs.Common.{IsAdopted, AreAnswered, HaveRoots, IsAnswered, IsNodeTold, IsTextOfNode, AttackJoins, node_count}
use Rattle.game_rules.proofs.Common.{is_same_point}
use Rattle.game_rules.proofs.PointLists.{still-found}
use Rattle.game_rules.proofs.Points.{is_same_point-itself, is_same_point-same, points-found}
use Rattle.game_rules.proofs.Positions.{GoesOn-on}
use Rattle.game_rules.proofs.Tests.{all_get}
use Rattle.strategy_graph.proofs.Common.{NamesOnBoard, answer, attacks, is_winning}
use Rattle.strategy_graph.proofs.Endings.{attacks-open}
use Rattle.strategy_graph.proofs.Filling.{IsTable-lower, growth-same}
use Rattle.strategy_graph.proofs.Following.{accepted-node}
use Rattle.strategy_compiler.proofs.Common.{AnswersWin, commonest_next, rest_of}
use Rattle.strategy_compiler.proofs.Forks.{IsAnswer, all-weaker, answers-win}
use Rattle.join_command.specs.Making.{TellsNode}
use Rattle.join_command.specs.Joins.{FollowsFile, IsJoinText, JoinSays, JoinedSays, no_answer_line}
use Rattle.join_command.proofs.Adopted.{root-at, table-same}
use Rattle.join_command.proofs.Making.{depth-few}
use Rattle.join_command.proofs.Replies.{asked-before}

-- ---- roots of files

-- a file that may be asked after a move has a root
pub have-roots : (b : Grid) (p : Point) (u : List Node) (files : List TableFile) (roots : List (Option ℕ)) → AreAdopted b u files roots
    → HaveRoots files roots (after b p)
have-roots b p u [] [] h k file i at asked = cc
have-roots b p u [] (r ∷ roots) h k file i at asked = absurd h
have-roots b p u (f ∷ files) [] h k file i at asked = absurd h
have-roots b p u (f ∷ files) (None ∷ roots) h zero file i at asked =
    let same : f ≡ file = cc in
    absurd (h.0 i (asked-before b p f i (subst (λ (x : TableFile). MayBeAsked (after b p) x i) (sym same) asked)))
have-roots b p u (f ∷ files) (Some j ∷ roots) h zero file i at asked = (j, refl)
have-roots b p u (f ∷ files) (r ∷ roots) h (suc k) file i at asked = have-roots b p u files roots h.1 k file i at asked

module _ (rule : RuleKind) (b : Grid) (p : Point) (nodes : List Node) (files : List TableFile) (roots : List (Option ℕ))
    (adopted : AreAdopted b nodes files roots) where
  -- the answer to a reply is a node that says what the root of the file says
  module _ (r : Reply) (is : IsAnswered rule files roots (after b p) r) where
    abbrev by : AnswersAt rule files (after (after b p) r.at) is.1.0
    by = is.1.1

    root : IsAdopted b nodes by.file (Some r.next)
    root = root-at b nodes files roots is.1.0 by.file (Some r.next) adopted by.at is.1.2

    answer-inside : r.next < length nodes
    answer-inside = root.2

    answer-same : SaysSame by.file.table by.node nodes r.next
    answer-same =
        let mine = root.1.root in
        let its = by.asked.root in
        let same : root.0 ≡ by.node = cc in
        subst (λ (i : ℕ). SaysSame by.file.table i nodes r.next) same root.3

  pub answers-below : (answers : List Reply) → AllByRecursion (IsAnswered rule files roots (after b p)) answers
      → All (λ r. r.next < length nodes) answers
  answers-below [] all k d l = absurd (omega (arith, l))
  answers-below (r ∷ answers) all zero d l = answer-inside r all.0
  answers-below (r ∷ answers) all (suc k) d l = answers-below answers all.1 k d (omega (arith, l))

  -- each reply that goes on is listed
  module _ (answers : List Reply) (are : AreAnswered rule files roots (after b p) answers) where
    pub listed : (q : Point) → outcome rule (after b p) q ≡ GoesOn → list_any (is_same_point q) (map (λ r. r.at) answers) ≡ true
    listed q go = subst (λ (ps : List Point). list_any (is_same_point q) ps ≡ true)
        (sym are.points) (still-found (λ q. goes_on (outcome rule (after b p) q)) q (points_of (after b p)) (ap goes_on go)
        (points-found (after b p) (is_same_point q) q (GoesOn-on rule (after b p) q go) (is_same_point-itself q)))

    -- so the answers win
    pub answers-all : IsTable nodes → TableOnBoard b nodes → AnswersWin rule MAX_NODES (after b p) nodes answers
    answers-all table on = answers-win rule MAX_NODES (after b p) nodes answers are.lost listed
        (all-weaker (IsAnswered rule files roots (after b p)) (IsAnswer rule MAX_NODES (after b p) nodes) (λ r is. record {
          on_board = GoesOn-on rule (after b p) r.at is.0;
          accepted = λ go. ((answer-same r is).same_accepted rule (after (after b p) r.at)).1 is.1.1.accepted;
          within = depth-few nodes r.next table (answer-inside r is);
          stays = λ k n reach at. all_get (NamesOnBoard (after b p)) nodes k n at (table-same b (after b p) refl refl nodes on);
        }) answers are.each)

-- ---- the table plays on as the files

-- the rest of a node that answers is that of no winning node
not-winning : (o : Option ℕ) → is_winning (rest_of o) ≡ false
not-winning o = search rules

module _ (rule : RuleKind) (b : Grid) (p : Point) (on : outcome rule b p ≡ GoesOn) (t : List Node) (root : ℕ) (answers : List Reply)
    (at : slice_get t root ≡ Some (answering_node p answers)) where
  -- one step of the attacks from the node
  attacks-step : (q : Point) (j : ℕ) (qs : List Point) → outcome rule (after b p) q ≡ GoesOn → answer_at t root q ≡ Some j
      → attacks rule t root b (q ∷ qs) ≡ p ∷ attacks rule t j (after (after b p) q) qs
  unfolding attacks
  attacks-step q j qs go next =
      let here : answer (answers_of (answering_node p answers)) q ≡ Some j = rw at at next in
      rw at (rw (on, not-winning (commonest_next answers), go, here) refl)

-- the reply of an answer that is found, and what is known of it
reply-at : (Good : Reply → Type 0) (t : List Node) (root : ℕ) (q : Point) (answers : List Reply) → AllByRecursion Good answers
    → All (λ r. answer_at t root r.at ≡ Some r.next) answers → list_any (is_same_point q) (map (λ r. r.at) answers) ≡ true
    → (r : Reply) × (r.at ≡ q) × Good r × (answer_at t root r.at ≡ Some r.next)
reply-at Good t root q [] good all found = cc
reply-at Good t root q (r ∷ answers) good all found =
    by-test (is_same_point q r.at) refl found (reply-at Good t root q answers good.1 (λ k d l. all (suc k) d (omega arith))) where
      by-test : (same : Bool) → is_same_point q r.at ≡ same → (same || list_any (is_same_point q) (map (λ r. r.at) answers)) ≡ true
          → (list_any (is_same_point q) (map (λ r. r.at) answers) ≡ true
          → (r : Reply) × (r.at ≡ q) × Good r × (answer_at t root r.at ≡ Some r.next))
          → (r : Reply) × (r.at ≡ q) × Good r × (answer_at t root r.at ≡ Some r.next)
      by-test true e here later = (r, sym (is_same_point-same q r.at e), good.0, all 0 r (omega arith))
      by-test false e here later = later here

-- a node says the same once another is put in
put-same : (old new : List Node) (n : Node) → NamesLower old → PutsIn old n new → (j : ℕ) → j < length old → SaysSame old j new j
put-same old new n lower (inl e) j l = subst (λ (t : List Node). SaysSame old j t j) (sym e.1)
    (subst (λ (t : List Node). SaysSame old j t j) (append-nil old) (growth-same old [] lower j l))
put-same old new n lower (inr e) j l = subst (λ (t : List Node). SaysSame old j t j) (sym e.1) (growth-same old (n ∷ []) lower j l)

module _ (rule : RuleKind) (b : Grid) (p : Point) (on : outcome rule b p ≡ GoesOn) (nodes : List Node) (table : IsTable nodes)
    (files : List TableFile) (roots : List (Option ℕ)) (adopted : AreAdopted b nodes files roots) (answers : List Reply)
    (are : AreAnswered rule files roots (after b p) answers) where
  pub joined-text : (text : List ℕ) → TellsNode nodes p answers (record { kind = rule; board = b }) text
      → IsJoinText files (record { kind = rule; board = b }) p text
  joined-text text h = record {
    moves = told.moves;
    table = told.table;
    accepted = accepted;
    deep = told.deep;
    different = told.different;
    reached = told.reached;
    written = told.written;
    attack = attack;
    follows = follows;
  } where
    told : IsTextOfNode h.grown h.root (record { kind = rule; board = b }) text
    told = h.told

    accepted : Accepted rule told.table (last told.table) b
    accepted = (told.same.same_accepted rule b).1 h.accepted

    attack : option_map (λ n. n.attack) (slice_get told.table (last told.table)) ≡ Some p
    attack =
        let there = accepted-node rule told.table (last told.table) b accepted in
        let its = attacks-open rule told.table (last told.table) b there.0 there.1 in
        let mine = attacks-open rule h.grown h.root b (answering_node p answers) h.at in
        let same = told.same.same_attacks rule b [] in
        let first : there.0.attack ≡ p = cc in
        rw there.1 (ap Some first)

    follows : (q : Point) → outcome rule (after b p) q ≡ GoesOn → FollowsFile files (record { kind = rule; board = b }) p told.table q
    follows q go =
        let r = reply-at (IsAnswered rule files roots (after b p)) h.grown h.root q answers are.each h.listed
        (listed rule b p nodes files roots adopted answers are q go) in
        subst (FollowsFile files (record { kind = rule; board = b }) p told.table) r.1 (
          r.2.1.0,
          r.2.1.1,
          λ qs. told.same.same_attacks rule b (r.0.at ∷ qs)
              ∙ attacks-step rule b p on h.grown h.root answers h.at r.0.at r.0.next qs r.2.0 r.3 ∙ ap
              (λ (ps : List Point). p ∷ ps) ((put-same nodes h.grown (answering_node p answers) (IsTable-lower nodes table) h.put r.0.next
              (answer-inside rule b p nodes files roots adopted r.0 r.2)).same_attacks rule (after (after b p) r.0.at) qs
              ∙ (answer-same rule b p nodes files roots adopted r.0 r.2).same_attacks rule (after (after b p) r.0.at) qs),
        )

  -- what is said
  pub joined-says : (few : length nodes ≤ node_count files) → {E : Type 0} (r : Result Answer E)
      → IfOk r (λ a. IsNodeTold nodes p answers (record { kind = rule; board = b }) a.status a.text)
      → IfOk r (λ a. JoinedSays files (record { kind = rule; board = b }) p a.status a.text)
  joined-says few (Ok a) (inl h) = inl (h.0, joined-text a.text h.1)
  joined-says few (Ok a) (inr h) = let full = h.2 in inr (inr (h.0, h.1, omega (arith, full, few)))
  joined-says few (Err e) h = tt

-- an open reply is told
pub open-says : (files : List TableFile) (file : PositionFile) (p q : Point) → IsOpenReply file.kind files (after file.board p) q
    → {E : Type 0} (r : Result Answer E) → IfOk r (λ a. a.status ≡ NotFound) → IfOk r (λ a. a.text ≡ no_answer_line q)
    → IfOk r (λ a. JoinedSays files file p a.status a.text)
open-says files file p q stays (Ok a) status text = inr (inl (status, (q, stays, text)))
open-says files file p q stays (Err e) status text = tt

-- what is said where the attack goes on is what is said of the position
pub goes-says : (files : List TableFile) (rule : RuleKind) (b c : Grid) (p : Point) → c ≡ b → outcome rule b p ≡ GoesOn
    → {E : Type 0} (r : Result Answer E) → IfOk r (λ a. JoinedSays files (record { kind = rule; board = c }) p a.status a.text)
    → IfOk r (λ a. JoinSays p files (record { kind = rule; board = b }) a.status a.text)
goes-says files rule b c p same go (Ok a) says =
    subst (λ (o : Outcome). AttackJoins files (record { kind = rule; board = b }) p o a.status a.text) (sym go)
    (subst (λ (d : Grid). JoinedSays files (record { kind = rule; board = d }) p a.status a.text) same says)
goes-says files rule b c p same go (Err e) says = tt
