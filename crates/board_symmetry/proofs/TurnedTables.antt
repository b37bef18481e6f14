-- A table whose points a turn took to other points says of the board that the turn made what the table says of the board.
use Rattle.std.proofs.Common.{◌≡◌, ◌↔◌, ℕ, zero, suc, max, true, cond, refl, sym, ap, subst, ◌∙◌, List, [], ◌∷◌, map, false, Option, Some}
use Rattle.std.proofs.Common.{None, slice_get, IsSomeAnd, option_and_then, option_map, rules}
use Rattle.std.specs.Option.{option_or, option_map_or}
use Rattle.std.specs.List.{list_all}
use Rattle.std.proofs.lemmas.Option.{slice_get-map}
use Rattle.board_symmetry.proofs.Common.{Grid, outcome, after, Cell, Point, RuleKind, Answers, TableOnBoard, IsTable, is_rising, RepliesOn}
use Rattle.board_symmetry.proofs.Common.{Node, empty_board, start_game}
use Rattle.game_rules.proofs.Common.{WinsOr, if_goes_on}
use Rattle.game_rules.specs.declared.Outcome.{Outcome}
use Rattle.game_rules.proofs.Boards.{and_left, and_right}
use Rattle.game_rules.proofs.Tests.{all_get}
use Rattle.game_rules.proofs.Games.{WinsOr-map}
use Rattle.strategy_graph.proofs.Common.{rest_nodes, node_depth, answers_of, answer, answer_at, rest_node, named, is_winning, NamesOnBoard}
use Rattle.strategy_graph.proofs.Common.{greatest, depth_within, depth, start_depth, Meets, AcceptedNode, AcceptedWithin, Accepted}
use Rattle.strategy_graph.proofs.Common.{AcceptedStart, arrivals_at, arrivals_after, arrivals_behind, arrivals_within, arrivals}
use Rattle.strategy_graph.proofs.Common.{start_arrivals, End, Open, after_reply, if_node, end_at, game}
use Rattle.strategy_graph.proofs.Answering.{IsSomeAnd-map}
use Rattle.strategy_graph.proofs.Naming.{greatest-parts}
use Rattle.board_symmetry.proofs.Turns.{Turn, within}
use Rattle.board_symmetry.proofs.Alike.{grid, Turned}
use Rattle.board_symmetry.proofs.TurnedOutcomes.{points-sum, outcome-same, after-turned}
use Rattle.board_symmetry.proofs.TurnedWins.{replies-there, replies-here}
use Rattle.board_symmetry.proofs.TurnedReplies.{replies_to, listed-same, greatest_listed-same}

module _ (w h : ℕ) (to from : Point → Point) (turn : Turn w h to from) where
  -- the answers, each reply where the turn takes it
  abbrev pub answers_to : Answers → Answers
  answers_to a = record { replies = replies_to w h to from turn a.replies; rest = a.rest }

  -- the node, with its attack and each reply where the turn takes them
  abbrev pub node_to : Node → Node
  node_to n = record { attack = to n.attack; replies = replies_to w h to from turn n.replies; rest = n.rest }

  pub answer-same : (a : Answers) (q : Point) → within w h q ≡ true → answer (answers_to a) (to q) ≡ answer a q
  answer-same a q on = ap (λ (o : Option ℕ). option_or o (rest_node a.rest)) (listed-same w h to from turn a.replies q on)

  pub answer_at-same : (t : List Node) (i : ℕ) (q : Point) → within w h q ≡ true → answer_at (map node_to t) i (to q) ≡ answer_at t i q
  answer_at-same t i q on =
      ap (option_and_then (λ n. answer (answers_of n) (to q))) (slice_get-map node_to t i) ∙ by_node (slice_get t i) where
        by_node : (o : Option Node) → option_and_then (λ n. answer (answers_of n) (to q)) (option_map node_to o)
            ≡ option_and_then (λ n. answer (answers_of n) q) o
        by_node None = refl
        by_node (Some n) = answer-same (answers_of n) q on

  -- ---- acceptance

  -- what holds of a node at what the turn made of a board holds of it at the board, and the other way round
  abbrev Same : (ℕ → Grid → Type 0) → (ℕ → Grid → Type 0) → Type 0
  Same N M = (j : ℕ) (xs ys : List Cell) → Turned w h to xs ys → M j (grid w h ys) ↔ N j (grid w h xs)

  module _ (rule : RuleKind) (N M : ℕ → Grid → Type 0) (same : Same N M) where
    meets-same : (a : Answers) (xs ys : List Cell) → Turned w h to xs ys
        → ((q : Point) → Meets rule (answers_to a) M (grid w h ys) q) ↔ ((q : Point) → Meets rule a N (grid w h xs) q)
    meets-same a xs ys turned = (
      replies-here w h to from turn rule xs ys turned (λ q. IsSomeAnd (answer a q) (λ j. N j (after (grid w h xs) q)))
          (λ q. IsSomeAnd (answer (answers_to a) q) (λ j. M j (after (grid w h ys) q))) (λ q on met. IsSomeAnd-map (answer a q) _ _
          (λ j e there. (same j _ _ (after-turned w h to from turn xs ys turned rule q on)).0 there)
          (subst (λ (o : Option ℕ). IsSomeAnd o (λ j. M j (after (grid w h ys) (to q)))) (answer-same a q on) met)),
      replies-there w h to from turn rule xs ys turned (λ q. IsSomeAnd (answer a q) (λ j. N j (after (grid w h xs) q)))
          (λ q. IsSomeAnd (answer (answers_to a) q) (λ j. M j (after (grid w h ys) q)))
          (λ q on met. subst (λ (o : Option ℕ). IsSomeAnd o (λ j. M j (after (grid w h ys) (to q)))) (sym (answer-same a q on))
          (IsSomeAnd-map (answer a q) _ _ (λ j e here. (same j _ _ (after-turned w h to from turn xs ys turned rule q on)).1 here) met)),
    )

    -- what is asked of a node at what the turn made of a board, where that is the outcome of its attack
    abbrev Asked : Node → List Cell → Outcome → Type 0
    Asked n ys o = WinsOr o ((is_winning n.rest ≡ false)
        × ((q : Point) → Meets rule (answers_to (answers_of n)) M (after (grid w h ys) (to n.attack)) q))

    node-same : (o : Option Node) (xs ys : List Cell) → Turned w h to xs ys → ((n : Node) → o ≡ Some n → NamesOnBoard (empty_board w h) n)
        → AcceptedNode rule (option_map node_to o) M (grid w h ys) ↔ AcceptedNode rule o N (grid w h xs)
    node-same None xs ys turned names = (λ no. no, λ no. no)
    node-same (Some n) xs ys turned names =
        let on : within w h n.attack ≡ true = (names n refl).attack in
        let is : outcome rule (grid w h ys) (to n.attack) ≡ outcome rule (grid w h xs) n.attack =
        outcome-same w h to from turn xs ys turned rule n.attack on in (
          λ accepted. WinsOr-map (outcome rule (grid w h xs) n.attack) _ _ (λ (more, each). (
            more,
            (meets-same (answers_of n) _ _ (after-turned w h to from turn xs ys turned rule n.attack on)).0 each,
          )) (subst (Asked n ys) is accepted),
          λ accepted. subst (Asked n ys) (sym is) (WinsOr-map (outcome rule (grid w h xs) n.attack) _ _ (λ (more, each). (
            more,
            (meets-same (answers_of n) _ _ (after-turned w h to from turn xs ys turned rule n.attack on)).1 each,
          )) accepted),
        )

  module _ (rule : RuleKind) (t : List Node) (on_board : TableOnBoard (empty_board w h) t) where
    within-same : (f : ℕ) → Same (AcceptedWithin f rule t) (AcceptedWithin f rule (map node_to t))
    unfolding AcceptedWithin
    within-same zero j xs ys turned = (λ no. no, λ no. no)
    within-same (suc f) j xs ys turned =
        subst (λ (o : Option Node). AcceptedNode rule o (AcceptedWithin f rule (map node_to t)) (grid w h ys)
        ↔ AcceptedNode rule (slice_get t j) (AcceptedWithin f rule t) (grid w h xs)) (sym (slice_get-map node_to t j))
        (node-same rule (AcceptedWithin f rule t) (AcceptedWithin f rule (map node_to t)) (within-same f) (slice_get t j) xs ys turned
        (λ n e. all_get (NamesOnBoard (empty_board w h)) t j n e on_board))

    pub accepted-same : (i : ℕ) (xs ys : List Cell) → Turned w h to xs ys → Accepted rule (map node_to t) i (grid w h ys)
        ↔ Accepted rule t i (grid w h xs)
    accepted-same i xs ys turned = within-same (suc i) i xs ys turned

    pub accepted_start-same : (a : Answers) (xs ys : List Cell) → Turned w h to xs ys
        → AcceptedStart rule (map node_to t) (answers_to a) (grid w h ys) ↔ AcceptedStart rule t a (grid w h xs)
    accepted_start-same a xs ys turned =
        meets-same rule (Accepted rule t) (Accepted rule (map node_to t)) (λ j. within-same (suc j) j) a xs ys turned

    -- ---- arrivals

    -- counts of a node at a board, and at what the turn made of it
    abbrev Counts : (ℕ → Grid → ℕ) → (ℕ → Grid → ℕ) → Type 0
    Counts m k = (j : ℕ) (xs ys : List Cell) → Turned w h to xs ys → k j (grid w h ys) ≡ m j (grid w h xs)

    answered-count : (o : Option ℕ) (m k : ℕ → ℕ) → ((j : ℕ) → k j ≡ m j) → option_map_or k o 0 ≡ option_map_or m o 0
    answered-count o m k same = search rules

    module _ (m k : ℕ → Grid → ℕ) (counts : Counts m k) where
      arrivals_after-same : (a : Answers) (xs ys : List Cell) → Turned w h to xs ys
          → arrivals_after rule (answers_to a) k (grid w h ys) ≡ arrivals_after rule a m (grid w h xs)
      arrivals_after-same a xs ys turned =
          points-sum w h to from turn (arrivals_at rule a m (grid w h xs)) (arrivals_at rule (answers_to a) k (grid w h ys)) (λ q on.
          ap (λ (o : Outcome). if_goes_on o (option_map_or (λ j. k j (after (grid w h ys) (to q))) (answer (answers_to a) (to q)) 0))
          (outcome-same w h to from turn xs ys turned rule q on) ∙ ap (λ n. if_goes_on (outcome rule (grid w h xs) q) n)
          (ap (λ (o : Option ℕ). option_map_or (λ j. k j (after (grid w h ys) (to q))) o 0) (answer-same a q on)
          ∙ answered-count (answer a q) _ _ (λ j. counts j _ _ (after-turned w h to from turn xs ys turned rule q on))))

      arrivals_behind-same : (o : Option Node) (xs ys : List Cell) → Turned w h to xs ys
          → ((n : Node) → o ≡ Some n → NamesOnBoard (empty_board w h) n)
          → arrivals_behind rule (option_map node_to o) k (grid w h ys) ≡ arrivals_behind rule o m (grid w h xs)
      arrivals_behind-same None xs ys turned names = refl
      arrivals_behind-same (Some n) xs ys turned names =
          let on : within w h n.attack ≡ true = (names n refl).attack in
          ap (λ (o : Outcome). if_goes_on o (cond (is_winning n.rest) 0
          (arrivals_after rule (answers_to (answers_of n)) k (after (grid w h ys) (to n.attack)))))
          (outcome-same w h to from turn xs ys turned rule n.attack on)
          ∙ ap (λ c. if_goes_on (outcome rule (grid w h xs) n.attack) (cond (is_winning n.rest) 0 c))
          (arrivals_after-same (answers_of n) _ _ (after-turned w h to from turn xs ys turned rule n.attack on))

    arrivals_within-same : (f : ℕ) → Counts (arrivals_within f rule t) (arrivals_within f rule (map node_to t))
    unfolding arrivals_within
    arrivals_within-same zero j xs ys turned = refl
    arrivals_within-same (suc f) j xs ys turned =
        ap (λ (o : Option Node). suc (arrivals_behind rule o (arrivals_within f rule (map node_to t)) (grid w h ys)))
        (slice_get-map node_to t j)
        ∙ ap suc (arrivals_behind-same (arrivals_within f rule t) (arrivals_within f rule (map node_to t)) (arrivals_within-same f)
        (slice_get t j) xs ys turned (λ n e. all_get (NamesOnBoard (empty_board w h)) t j n e on_board))

    pub arrivals-same : (i : ℕ) (xs ys : List Cell) → Turned w h to xs ys → arrivals rule (map node_to t) i (grid w h ys)
        ≡ arrivals rule t i (grid w h xs)
    arrivals-same i xs ys turned = arrivals_within-same (suc i) i xs ys turned

    pub start_arrivals-same : (a : Answers) (xs ys : List Cell) → Turned w h to xs ys
        → start_arrivals rule (map node_to t) (answers_to a) (grid w h ys) ≡ start_arrivals rule t a (grid w h xs)
    start_arrivals-same a xs ys turned =
        ap suc (arrivals_after-same (arrivals rule t) (arrivals rule (map node_to t)) (λ j. arrivals_within-same (suc j) j) a xs ys turned)

    -- ---- games

    end_at-same : (o : Option Node) (xs ys : List Cell) → Turned w h to xs ys → ((n : Node) → o ≡ Some n → NamesOnBoard (empty_board w h) n)
        → (here there : Node → End) → ((n : Node) → within w h n.attack ≡ true → there (node_to n) ≡ here n)
        → end_at rule (option_map node_to o) (grid w h ys) there ≡ end_at rule o (grid w h xs) here
    end_at-same o xs ys turned names here there same = search (rules, within, outcome-same, grid)

    node_end : (o : Option ℕ) (e f : ℕ → End) → ((j : ℕ) → f j ≡ e j) → if_node o f ≡ if_node o e
    node_end o e f same = search rules

    pub game-same : (i : ℕ) (xs ys : List Cell) (qs : List Point) → Turned w h to xs ys → list_all (within w h) qs ≡ true
        → game rule (map node_to t) i (grid w h ys) (map to qs) ≡ game rule t i (grid w h xs) qs
    unfolding game
    game-same i xs ys [] turned all = ap (λ (o : Option Node). end_at rule o (grid w h ys) (λ n. Open)) (slice_get-map node_to t i)
        ∙ end_at-same (slice_get t i) xs ys turned
        (λ n e. all_get (NamesOnBoard (empty_board w h)) t i n e on_board) (λ n. Open) (λ n. Open) (λ n on. refl)
    game-same i xs ys (q ∷ qs) turned all =
        let on_q : within w h q ≡ true = and_left (within w h q) _ all in
        ap (λ (o : Option Node). end_at rule o (grid w h ys) (λ n. after_reply (outcome rule (after (grid w h ys) n.attack) (to q))
        (if_node (answer (answers_of n) (to q)) (λ j. game rule (map node_to t) j (after (after (grid w h ys) n.attack) (to q))
        (map to qs))))) (slice_get-map node_to t i) ∙ end_at-same (slice_get t i) xs ys turned
        (λ n e. all_get (NamesOnBoard (empty_board w h)) t i n e on_board) (λ n. after_reply (outcome rule (after (grid w h xs) n.attack) q)
        (if_node (answer (answers_of n) q) (λ j. game rule t j (after (after (grid w h xs) n.attack) q) qs)))
        (λ n. after_reply (outcome rule (after (grid w h ys) n.attack) (to q))
        (if_node (answer (answers_of n) (to q)) (λ j. game rule (map node_to t) j (after (after (grid w h ys) n.attack) (to q))
        (map to qs)))) (λ n on.
        let next = after-turned w h to from turn xs ys turned rule n.attack on in
        let last = after-turned w h to from turn _ _ next rule q on_q in
        ap (λ (o : Outcome). after_reply o (if_node (answer (answers_to (answers_of n)) (to q))
        (λ j. game rule (map node_to t) j (after (after (grid w h ys) (to n.attack)) (to q)) (map to qs))))
        (outcome-same w h to from turn _ _ next rule q on_q)
        ∙ ap (λ (e : End). after_reply (outcome rule (after (grid w h xs) n.attack) q) e)
        (ap (λ (o : Option ℕ). if_node o (λ j. game rule (map node_to t) j (after (after (grid w h ys) (to n.attack)) (to q))
        (map to qs))) (answer-same (answers_of n) q on_q)
        ∙ node_end (answer (answers_of n) q) _ _ (λ j. game-same j _ _ qs last (and_right (within w h q) _ all))))

    pub start_game-same : (a : Answers) (xs ys : List Cell) (q : Point) (qs : List Point) → Turned w h to xs ys
        → list_all (within w h) (q ∷ qs) ≡ true
        → start_game rule (map node_to t) (answers_to a) (grid w h ys) (to q) (map to qs) ≡ start_game rule t a (grid w h xs) q qs
    start_game-same a xs ys q qs turned all =
        let on_q : within w h q ≡ true = and_left (within w h q) _ all in
        let next = after-turned w h to from turn xs ys turned rule q on_q in
        ap (option_map (λ j. game rule (map node_to t) j (after (grid w h ys) (to q)) (map to qs))) (answer-same a q on_q)
        ∙ same_map (answer a q) _ _ (λ j. game-same j _ _ qs next (and_right (within w h q) _ all)) where
          same_map : (o : Option ℕ) (e f : ℕ → End) → ((j : ℕ) → f j ≡ e j) → option_map f o ≡ option_map e o
          same_map None e f same = refl
          same_map (Some j) e f same = ap Some (same j)

  -- ---- depths

  named-same : (d : ℕ → ℕ) (a : Answers) → is_rising a.replies ≡ true → RepliesOn (empty_board w h) a.replies
      → greatest (map d (named (answers_to a))) ≡ greatest (map d (named a))
  named-same d a rising on = greatest-parts d (answers_to a) ∙ ap (λ n. max (greatest (map d (rest_nodes a.rest))) n)
      (greatest_listed-same w h to from turn d a.replies rising on) ∙ sym (greatest-parts d a)

  module _ (t : List Node) (table : IsTable t) (on_board : TableOnBoard (empty_board w h) t) where
    node_depth-same : (d e : ℕ → ℕ) → ((j : ℕ) → e j ≡ d j) → (o : Option Node)
        → ((n : Node) → o ≡ Some n → (is_rising n.replies ≡ true) × NamesOnBoard (empty_board w h) n)
        → node_depth (option_map node_to o) e ≡ node_depth o d
    node_depth-same d e same None names = refl
    node_depth-same d e same (Some n) names =
        let fine = names n refl in
        let alike : e ≡ d = λ i j. same j i in
        ap (λ (f : ℕ → ℕ). suc (greatest (map f (named (answers_to (answers_of n)))))) alike
        ∙ ap suc (named-same d (answers_of n) fine.0 fine.1.replies)

    depth_within-same : (f i : ℕ) → depth_within f (map node_to t) i ≡ depth_within f t i
    unfolding depth_within
    depth_within-same zero i = refl
    depth_within-same (suc f) i = ap (λ (o : Option Node). node_depth o (depth_within f (map node_to t))) (slice_get-map node_to t i)
        ∙ node_depth-same (depth_within f t) (depth_within f (map node_to t)) (depth_within-same f)
        (slice_get t i) (λ n e. ((table.nodes i n e).rising, all_get (NamesOnBoard (empty_board w h)) t i n e on_board))

    pub depth-same : (i : ℕ) → depth (map node_to t) i ≡ depth t i
    depth-same i = depth_within-same (suc i) i

    pub start_depth-same : (a : Answers) → is_rising a.replies ≡ true → RepliesOn (empty_board w h) a.replies
        → start_depth (map node_to t) (answers_to a) ≡ start_depth t a
    start_depth-same a rising on = search (rules, depth-same, named-same)
