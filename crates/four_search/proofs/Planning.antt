-- What a node names are the answers to the replies of its tree. The plan of a win by fours, node by node.
use Rattle.std.proofs.Common.{◌≡◌, ℕ, Bool, true, false, ◌||◌, not, refl, sym, ap, subst, ◌∙◌, List, [], ◌∷◌, map, nat_eq, Option, Some}
use Rattle.std.specs.Prelude.{IsSomeAnd}
use Rattle.std.proofs.Common.{None, inl, inr, zero, suc, ◌-◌, ◌≤◌, ◌<◌, cond, ◌&&◌, arith, ◌++◌, length, get_or, Result, Ok, Err, IfOk, All}
use Rattle.std.specs.Option.{option_eq}
use Rattle.std.specs.List.{AllByRecursion, list_all, find}
use Rattle.std.proofs.lemmas.Bool.{false_from_ne_true}
use Rattle.std.proofs.lemmas.List.Elements.{All-from_recursion}
use Rattle.game_rules.specs.declared.Outcome.{Outcome}
use Rattle.game_rules.specs.declared.Outcome.TheVariants.{Refused, Fouls, GoesOn}
use Rattle.game_rules.specs.declared.Point.{Point}
use Rattle.game_rules.specs.declared.RuleKind.{RuleKind}
use Rattle.game_rules.proofs.Points.{is_same_point-same, is_same_point-itself}
use Rattle.game_rules.proofs.PointLists.{among_points, AmongPoints, apart_same, find-any, any-find, snoc-parts, list_one, list_two}
use Rattle.game_rules.proofs.PointLists.{head_find, list_some}
use Rattle.game_rules.proofs.Common.{is_same_point, Grid, points_of, five, IsPosition, outcome, mover, other, after, has_five, five_points}
use Rattle.game_rules.proofs.Common.{loses_or, starts_win, wins_by_fours, wins_under, four_move}
use Rattle.game_rules.proofs.Boards.{Apart, same_or_apart}
use Rattle.game_rules.proofs.Positions.{GoesOn-empty, IsPosition-after, mover-after}
use Rattle.game_rules.proofs.Fives.{least_five, first-left, second-left}
use Rattle.game_rules.proofs.Places.{find-passes}
use Rattle.game_rules.proofs.Games.{wins-some, no_move}
use Rattle.strategy_graph.specs.declared.Node.{Node}
use Rattle.strategy_graph.specs.declared.Reply.{Reply}
use Rattle.strategy_graph.proofs.Common.{Answers, answer, rest_node}
use Rattle.strategy_compiler.proofs.Forks.{IfAnswer, all-filter}
use Rattle.strategy_compiler.proofs.Common.{Tree, StandsFor, StandsForAll, AnswersBriefly, replies_of, Branches, Leaf, Fork}
use Rattle.strategy_compiler.proofs.Common.{AnswersBranches, answer_node}
use Rattle.threat_moves.specs.declared.block.BlockAnswer.TheVariants.{Lost, Won, Draw, One}
use Rattle.threat_moves.proofs.Common.{is_four_move, fate, block_wins, all_foul}
use Rattle.threat_moves.proofs.FourLaws.{four-goes_on, one-goes_on}
use Rattle.threat_moves.proofs.BlockLaw.{block_decides}
use Rattle.threat_moves.proofs.Fates.{one-points, won-foul, won-some}
use Rattle.four_search.specs.Plans.{branch_if, branches_for, plan_from, four_plan, answer_if, answers_for}
use Rattle.four_search.specs.Searching.{line_behind, line_from, four_line}
use Rattle.four_search.proofs.Trying.{move-is, no_four}

-- ---- a four that is not lost leaves the defender no five point

fate-lost : (rule : RuleKind) (c : Grid) → has_five rule c (mover c) ≡ true → fate rule c ≡ Lost
unfolding fate
fate-lost rule c h = rw h refl

pub won-safe : (rule : RuleKind) (c : Grid) → fate rule c ≡ Won → has_five rule c (mover c) ≡ false
won-safe rule c h = false_from_ne_true _ (λ five. let no : Lost ≡ Won = sym (fate-lost rule c five) ∙ h in cc)

pub one-safe : (rule : RuleKind) (c : Grid) (w : Point) → fate rule c ≡ One w → has_five rule c (mover c) ≡ false
one-safe rule c w h = false_from_ne_true _ (λ five. let no : Lost ≡ One w = sym (fate-lost rule c five) ∙ h in cc)

-- ---- lists

all_map : {X Y : Type 0} (Q : Y → Type 0) (h : X → Y) (xs : List X) → AllByRecursion Q (map h xs) → AllByRecursion (λ x. Q (h x)) xs
all_map Q h [] a = tt
all_map Q h (x ∷ xs) a = (a.0, all_map Q h xs a.1)

-- ---- the answers to the replies of a plan

module _ (t : List Node) (a : Answers) (o : Point → Outcome) (next : Point → Tree) where
  answered_if : (P Q : ℕ → Type 0) (u : Option ℕ) → ((j : ℕ) → P j → Q j) → IsSomeAnd u P → IfAnswer Q u
  answered_if P Q None f h = absurd h
  answered_if P Q (Some j) f h = f j h

  -- each answer stands for the tree after its reply
  pub answers-each : (P : ℕ → Type 0) (ps : List Point) → ((q : Point) (j : ℕ) → o q ≡ GoesOn → StandsFor t j (next q) → P j)
      → StandsForAll t a (branches_for o next ps) → AllByRecursion (λ q. IfAnswer P (answer a q)) (replies_of (branches_for o next ps))
  unfolding StandsFor
  answers-each P [] f h = tt
  answers-each P (q ∷ ps) f h = by_outcome (o q) refl h (answers-each P ps f) where
    by_outcome : (r : Outcome) → o q ≡ r → StandsForAll t a (branch_if r q (next q) (branches_for o next ps))
        → (StandsForAll t a (branches_for o next ps) → AllByRecursion (λ q. IfAnswer P (answer a q)) (replies_of (branches_for o next ps)))
        → AllByRecursion (λ q. IfAnswer P (answer a q)) (replies_of (branch_if r q (next q) (branches_for o next ps)))
    by_outcome GoesOn e k rest = (answered_if (λ j. StandsFor t j (next q)) P (answer a q) (λ j s. f q j e s) k.0, rest k.1)
    by_outcome _ e k rest = rest k

  -- a reply that goes on has an answer, which stands for the tree after it
  pub answer-at : (ps : List Point) (q : Point) → AmongPoints q ps → o q ≡ GoesOn → StandsForAll t a (branches_for o next ps)
      → IsSomeAnd (answer a q) (λ j. StandsFor t j (next q))
  unfolding StandsFor
  answer-at [] q among on h = cc
  answer-at (p ∷ ps) q among on h = by_test (is_same_point q p) refl among (λ later. answer-at ps q later on) where
    skip : (r : Outcome) → StandsForAll t a (branch_if r p (next p) (branches_for o next ps)) → StandsForAll t a (branches_for o next ps)
    skip GoesOn k = k.1
    skip _ k = k

    here : (r : Outcome) → r ≡ GoesOn → StandsForAll t a (branch_if r p (next p) (branches_for o next ps))
        → IsSomeAnd (answer a p) (λ j. StandsFor t j (next p))
    here GoesOn e k = k.0
    here _ e k = cc

    by_test : (r : Bool) → is_same_point q p ≡ r → (r || among_points q ps) ≡ true
        → (AmongPoints q ps → StandsForAll t a (branches_for o next ps) → IsSomeAnd (answer a q) (λ j. StandsFor t j (next q)))
        → IsSomeAnd (answer a q) (λ j. StandsFor t j (next q))
    by_test true e k rest =
        let same : q ≡ p = is_same_point-same q p e in
        subst (λ (x : Point). IsSomeAnd (answer a x) (λ j. StandsFor t j (next x))) (sym same) (here (o p) (ap o (sym same) ∙ on) h)
    by_test false e k rest = rest k (skip (o p) h)

-- ---- the points of listed replies

replies-pass : (f : Point → Bool) (o : Point → Outcome) (next : Point → Tree) (ps : List Point) → ((q : Point) → o q ≡ GoesOn → f q ≡ true)
    → AllByRecursion (λ q. f q ≡ true) (replies_of (branches_for o next ps))
replies-pass f o next [] h = tt
replies-pass f o next (q ∷ ps) h = by_outcome (o q) refl (replies-pass f o next ps h) where
  by_outcome : (r : Outcome) → o q ≡ r → AllByRecursion (λ q. f q ≡ true) (replies_of (branches_for o next ps))
      → AllByRecursion (λ q. f q ≡ true) (replies_of (branch_if r q (next q) (branches_for o next ps)))
  by_outcome GoesOn e k = (h q e, k)
  by_outcome _ e k = k

-- the replies that a node lists are among those of its tree
pub listed-on : (f : Point → Bool) (a : Answers) (o : Point → Outcome) (next : Point → Tree) (ps : List Point)
    → ((q : Point) → o q ≡ GoesOn → f q ≡ true) → AnswersBriefly a (replies_of (branches_for o next ps))
    → AllByRecursion (λ r. f r.at ≡ true) a.replies
listed-on f a o next ps h brief = by_replies (replies_of (branches_for o next ps)) brief (replies-pass f o next ps h) where
  by_replies : (qs : List Point) → AnswersBriefly a qs → AllByRecursion (λ q. f q ≡ true) qs → AllByRecursion (λ r. f r.at ≡ true) a.replies
  by_replies [] brief all = subst (λ (rs : List Reply). AllByRecursion (λ r. f r.at ≡ true) rs) (sym brief.1) tt
  by_replies (q ∷ qs) brief all =
      all_map (λ p. f p ≡ true) (λ r. r.at) a.replies
      (subst (λ (xs : List Point). AllByRecursion (λ p. f p ≡ true) xs) (sym brief.others_are_listed)
      (all-filter (λ p. f p ≡ true) (λ q. not (option_eq nat_eq (answer a q) (rest_node a.rest))) (q ∷ qs) all))

-- ---- answers and branches

module _ (t : List Node) (o : Point → Outcome) (node : Point → ℕ) (tree : Point → Tree) where
  -- each answer stands for the branch of its reply
  pub answers-branches : (ps : List Point) → ((q : Point) → o q ≡ GoesOn → StandsFor t (node q) (tree q))
      → AnswersBranches t (answers_for o node ps) (branches_for o tree ps)
  answers-branches [] h = tt
  answers-branches (q ∷ ps) h = by_outcome (o q) refl (answers-branches ps h) where
    by_outcome : (r : Outcome) → o q ≡ r → AnswersBranches t (answers_for o node ps) (branches_for o tree ps)
        → AnswersBranches t (answer_if r (record { at = q; next = node q }) (answers_for o node ps))
        (branch_if r q (tree q) (branches_for o tree ps))
    by_outcome GoesOn e k = (refl, h q e, k)
    by_outcome _ e k = k

  -- where each reply fouls there is no branch
  pub foul-branches : (ps : List Point) → list_all (λ q. loses_or (o q) false) ps ≡ true → AnswersBranches t [] (branches_for o tree ps)
  foul-branches [] h = tt
  foul-branches (q ∷ ps) h = by_outcome (o q) h (foul-branches ps) where
    by_outcome : (r : Outcome) → (loses_or r false && list_all (λ q. loses_or (o q) false) ps) ≡ true
        → (list_all (λ q. loses_or (o q) false) ps ≡ true → AnswersBranches t [] (branches_for o tree ps))
        → AnswersBranches t [] (branch_if r q (tree q) (branches_for o tree ps))
    by_outcome Refused e k = k e
    by_outcome (Fouls f) e k = k e
    by_outcome _ e k = cc

module _ (o : Point → Outcome) (node : Point → ℕ) (k : ℕ) (low : (q : Point) → node q < k) where
  each-below : (ps : List Point) → AllByRecursion (λ r. r.next < k) (answers_for o node ps)
  each-below [] = tt
  each-below (q ∷ ps) = by_outcome (o q) (each-below ps) where
    by_outcome : (r : Outcome) → AllByRecursion (λ r. r.next < k) (answers_for o node ps)
        → AllByRecursion (λ r. r.next < k) (answer_if r (record { at = q; next = node q }) (answers_for o node ps))
    by_outcome GoesOn h = (low q, h)
    by_outcome _ h = h

  pub answers-below : (ps : List Point) → All (λ r. r.next < k) (answers_for o node ps)
  answers-below ps = All-from_recursion (λ r. r.next < k) (answers_for o node ps) (each-below ps)

pub answer_node-below : (w : Point) (i j k : ℕ) → i < k → j < k → (q : Point) → answer_node w i j q < k
answer_node-below w i j k a b q = by_test (is_same_point q w) where
  by_test : (r : Bool) → cond r i j < k
  by_test true = a
  by_test false = b

-- ---- the five points that are left

-- ---- plans

pub plan-leaf : (rule : RuleKind) (n : ℕ) (d : Grid) (x : Point) → least_five rule d ≡ Some x → 0 < n → four_plan rule n d ≡ Leaf x
unfolding four_plan four_move
plan-leaf rule zero d x h some = absurd (omega arith)
plan-leaf rule (suc n) d x h some =
    let five : has_five rule d (mover d) ≡ true = find-any (five rule d (mover d)) (points_of d) x h in
    ap (λ r. plan_from r (four_move rule (suc n) d)
    (λ p. branches_for (outcome rule (after d p)) (λ q. four_plan rule n (after (after d p) q)) (points_of d))) five
    ∙ ap (λ (o : Option Point). plan_from true o
    (λ p. branches_for (outcome rule (after d p)) (λ q. four_plan rule n (after (after d p) q)) (points_of d)))
    (ap (λ r. cond r (least_five rule d) (find (starts_win (has_five rule) rule d (wins_by_fours rule n)) (points_of d))) five ∙ h)

pub plan-fork : (rule : RuleKind) (n : ℕ) (d : Grid) (p : Point) → has_five rule d (mover d) ≡ false → four_move rule (suc n) d ≡ Some p
    → four_plan rule (suc n) d ≡ Fork p
    (branches_for (outcome rule (after d p)) (λ q. four_plan rule n (after (after d p) q)) (points_of d))
unfolding four_plan
plan-fork rule n d p none chosen =
    ap (λ r. plan_from r (four_move rule (suc n) d)
    (λ p. branches_for (outcome rule (after d p)) (λ q. four_plan rule n (after (after d p) q)) (points_of d))) none
    ∙ ap (λ (o : Option Point). plan_from false o
    (λ p. branches_for (outcome rule (after d p)) (λ q. four_plan rule n (after (after d p) q)) (points_of d))) chosen

-- ---- what the answers to a four stand for: c, where the defender is to move

module _ (rule : RuleKind) (c : Grid) (lawful : IsPosition rule c) (t : List Node) (n : ℕ) (some : 0 < n) where
  -- whether the node of this reply stands for the plan after it
  abbrev Stands : Point → ℕ → ℕ → Point → Type 0
  Stands w i j q = StandsFor t (answer_node w i j q) (four_plan rule n (after c q))

  stands-at : (w : Point) (i j : ℕ) (q : Point) → q ≡ w → StandsFor t i (four_plan rule n (after c q)) → Stands w i j q
  stands-at w i j q same h =
      let here : is_same_point q w ≡ true = ap (λ (x : Point). is_same_point x w) same ∙ is_same_point-itself w in
      subst (λ (k : ℕ). StandsFor t k (four_plan rule n (after c q))) (sym (ap (λ r. cond r i j) here)) h

  stands-beside : (w : Point) (i j : ℕ) (q : Point) → Apart q w → StandsFor t j (four_plan rule n (after c q)) → Stands w i j q
  stands-beside w i j q apart h =
      let there : is_same_point q w ≡ false = apart_same w q (record { apart = λ x y. apart.apart (sym x) (sym y) }) in
      subst (λ (k : ℕ). StandsFor t k (four_plan rule n (after c q))) (sym (ap (λ r. cond r i j) there)) h

  leaf-stands : (q x : Point) (j : ℕ) → least_five rule (after c q) ≡ Some x → StandsFor t j (Leaf x)
      → StandsFor t j (four_plan rule n (after c q))
  leaf-stands q x j least h = subst (λ (s : Tree). StandsFor t j s) (sym (plan-leaf rule n (after c q) x least some)) h

  -- one block, which goes on
  pub one-stands : (w : Point) (more : List Point) (i j : ℕ) → five_points rule c (other (mover c)) ≡ w ∷ more
      → StandsFor t i (four_plan rule n (after c w)) → StandsFor t j (Leaf w) → (q : Point) → outcome rule c q ≡ GoesOn → Stands w i j q
  one-stands w more i j e hi hj q on = elim (same_or_apart q w) [
    | inl same ↦ stands-at w i j q same (subst (λ (x : Point). StandsFor t i (four_plan rule n (after c x))) (sym same) hi)
    | inr apart ↦ stands-beside w i j q apart (leaf-stands q w j (first-left rule c lawful q on w more e apart) hj)
  ]

  -- one block, which does not go on
  pub foul-stands : (w : Point) (more : List Point) (i j : ℕ) → five_points rule c (other (mover c)) ≡ w ∷ more
      → (outcome rule c w ≡ GoesOn → ⊥) → StandsFor t j (Leaf w) → (q : Point) → outcome rule c q ≡ GoesOn → Stands w i j q
  foul-stands w more i j e foul hj q on = elim (same_or_apart q w) [
    | inl same ↦ absurd (foul (ap (outcome rule c) (sym same) ∙ on))
    | inr apart ↦ stands-beside w i j q apart (leaf-stands q w j (first-left rule c lawful q on w more e apart) hj)
  ]

  -- two five points
  pub two-stands : (w v : Point) (more : List Point) (i j : ℕ) → five_points rule c (other (mover c)) ≡ w ∷ v ∷ more
      → StandsFor t i (Leaf v) → StandsFor t j (Leaf w) → (q : Point) → outcome rule c q ≡ GoesOn → Stands w i j q
  two-stands w v more i j e hi hj q on = elim (same_or_apart q w) [
    | inl same ↦ stands-at w i j q same (leaf-stands q v i (second-left rule c lawful q on w v more e same) hi)
    | inr apart ↦ stands-beside w i j q apart (leaf-stands q w j (first-left rule c lawful q on w (v ∷ more) e apart) hj)
  ]

-- ---- fates, read backwards

-- ---- the chosen move

-- where there is a win by fours, no five point and the line of the win, its last move is the chosen one
pub chosen-last : (rule : RuleKind) (n : ℕ) (b : Grid) (line inner : List Point) (p : Point) → IsPosition rule b
    → has_five rule b (mover b) ≡ false → wins_by_fours rule n b ≡ true → line ≡ four_line rule n b → line ≡ inner ++ p ∷ []
    → (four_move rule n b ≡ Some p) × (inner ≡ line_behind (four_line rule (n - 1)) (after b p) (fate rule (after b p)))
unfolding wins_under four_line
chosen-last rule zero b line inner p lawful none wins e parts = cc
chosen-last rule (suc n) b line inner p lawful none wins e parts =
    let test : Point → Bool = starts_win (has_five rule) rule b (wins_by_fours rule n) in
    let found = any-find test (points_of b) wins in
    let chosen : four_move rule (suc n) b ≡ Some found.0 = move-is rule b lawful none n ∙ found.1 in
    let whole : four_line rule (suc n) b ≡ line_from rule b (four_line rule n) (Some found.0) =
    ap (λ r. cond r [] (line_from rule b (four_line rule n) (four_move rule (suc n) b))) none
    ∙ ap (line_from rule b (four_line rule n)) chosen in
    let both = snoc-parts inner (line_behind (four_line rule n) (after b found.0) (fate rule (after b found.0))) p found.0
    (sym parts ∙ e ∙ whole) in
    let same : found.0 ≡ p = sym both.1 in
    let m : n ≡ suc n - 1 = omega arith in (
      chosen ∙ ap Some same,
      both.0 ∙ ap (λ (x : Point). line_behind (four_line rule n) (after b x) (fate rule (after b x))) same
          ∙ ap (λ (k : ℕ). line_behind (four_line rule k) (after b p) (fate rule (after b p))) m,
    )

pub line-some : (rule : RuleKind) (n : ℕ) (b : Grid) (line : List Point) → IsPosition rule b → has_five rule b (mover b) ≡ false
    → wins_by_fours rule n b ≡ true → line ≡ four_line rule n b → length line ≡ 0 → ⊥
unfolding wins_under four_line
line-some rule zero b line lawful none wins e empty = cc
line-some rule (suc n) b line lawful none wins e empty =
    let test : Point → Bool = starts_win (has_five rule) rule b (wins_by_fours rule n) in
    let found = any-find test (points_of b) wins in
    let chosen : four_move rule (suc n) b ≡ Some found.0 = move-is rule b lawful none n ∙ found.1 in
    let whole : line ≡ line_behind (four_line rule n) (after b found.0) (fate rule (after b found.0)) ++ found.0 ∷ [] =
    e ∙ ap (λ r. cond r [] (line_from rule b (four_line rule n) (four_move rule (suc n) b))) none
    ∙ ap (line_from rule b (four_line rule n)) chosen in
    no_end (line_behind (four_line rule n) (after b found.0) (fate rule (after b found.0))) found.0 (nil line empty ∙ whole) where
      nil : (l : List Point) → length l ≡ 0 → [] ≡ l
      nil [] h = refl
      nil (x ∷ l) h = absurd (omega arith)

      no_end : (xs : List Point) (x : Point) → [] ≡ xs ++ x ∷ [] → ⊥
      no_end [] x h = cc
      no_end (y ∷ xs) x h = cc

-- the chosen move is a four move, and its block decides
pub chosen-four : (rule : RuleKind) (n : ℕ) (b : Grid) (p : Point) → IsPosition rule b → has_five rule b (mover b) ≡ false
    → four_move rule n b ≡ Some p → (is_four_move rule b p ≡ true) × (block_wins rule (n - 1) (after b p) (fate rule (after b p)) ≡ true)
    × (0 < n)
unfolding four_move
chosen-four rule zero b p lawful none chosen = cc
chosen-four rule (suc n) b p lawful none chosen =
    let test : Point → Bool = starts_win (has_five rule) rule b (wins_by_fours rule n) in
    let wins : test p ≡ true = find-passes test (points_of b) p (sym (move-is rule b lawful none n) ∙ chosen) in
    let four : is_four_move rule b p ≡ true = true_by (is_four_move rule b p)
    (λ no_move. let miss = no_four rule n b lawful none p no_move in let bad : false ≡ true = sym miss ∙ wins in cc) in
    let m : n ≡ suc n - 1 = omega arith in (
      four,
      ap (λ (k : ℕ). block_wins rule k (after b p) (fate rule (after b p))) (sym m) ∙ sym (block_decides rule n b p lawful four)
          ∙ wins,
      omega arith,
    ) where
      true_by : (r : Bool) → (r ≡ false → ⊥) → r ≡ true
      true_by true h = refl
      true_by false h = absurd (h refl)

-- ---- the node of a four

IfOk-map : {E : Type 0} (r : Result ℕ E) (P Q : ℕ → Type 0) → ((i : ℕ) → P i → Q i) → IfOk r P → IfOk r Q
IfOk-map (Ok i) P Q f h = f i h
IfOk-map (Err e) P Q f h = h

module _ (rule : RuleKind) (n : ℕ) (b : Grid) (p : Point) (lawful : IsPosition rule b) (none : has_five rule b (mover b) ≡ false)
    (chosen : four_move rule n b ≡ Some p) where
  facts : (is_four_move rule b p ≡ true) × (block_wins rule (n - 1) (after b p) (fate rule (after b p)) ≡ true) × (0 < n)
  facts = chosen-four rule n b p lawful none chosen

  pub plan-some : 0 < n
  plan-some = facts.2

  pub plan-four : is_four_move rule b p ≡ true
  plan-four = facts.0

  pub plan-goes_on : outcome rule b p ≡ GoesOn
  plan-goes_on = four-goes_on rule b p facts.0

  after_lawful : IsPosition rule (after b p)
  after_lawful = IsPosition-after rule b p lawful plan-goes_on

  turn : other (mover (after b p)) ≡ mover b
  turn = mover-after b p lawful.board (GoesOn-empty rule b p plan-goes_on) lawful.turns

  branches : Branches
  branches = branches_for (outcome rule (after b p)) (λ q. four_plan rule (n - 1) (after (after b p) q)) (points_of b)

  plan-is : four_plan rule n b ≡ Fork p branches
  unfolding branches
  plan-is = by_moves n chosen where
    by_moves : (m : ℕ) → four_move rule m b ≡ Some p → four_plan rule m b ≡ Fork p
        (branches_for (outcome rule (after b p)) (λ q. four_plan rule (m - 1) (after (after b p) q)) (points_of b))
    by_moves zero h = absurd (no_move rule b p h)
    by_moves (suc k) h =
        let m : k ≡ suc k - 1 = omega arith in
        plan-fork rule k b p none h ∙ ap
        (λ (j : ℕ). Fork p (branches_for (outcome rule (after b p)) (λ q. four_plan rule j (after (after b p) q)) (points_of b))) m

  -- a node that stands for a fork with these branches stands for the plan
  stands-plan : {E : Type 0} (t u : List Node) (answers : List Reply) (r : Result ℕ E) → AnswersBranches t answers branches
      → IfOk r (λ i. (bs : Branches) → AnswersBranches t answers bs → StandsFor u i (Fork p bs))
      → IfOk r (λ i. StandsFor u i (four_plan rule n b))
  stands-plan t u answers r a h = IfOk-map r _ (λ i. StandsFor u i (four_plan rule n b))
      (λ i k. subst (λ (s : Tree). StandsFor u i s) (sym plan-is) (k branches a)) h

  module _ {E : Type 0} (t u : List Node) (r : Result ℕ E) where
    -- each reply fouls
    pub plan-foul : n ≡ 1 → fate rule (after b p) ≡ Won
        → IfOk r (λ i. (bs : Branches) → AnswersBranches t [] bs → StandsFor u i (Fork p bs))
        → IfOk r (λ i. StandsFor u i (four_plan rule n b))
    unfolding branches
    plan-foul one won h =
        let z : n - 1 ≡ 0 = omega arith in
        let foul : all_foul rule (after b p) ≡ true = sym (ap (λ (k : ℕ). block_wins rule k (after b p) Won) z)
        ∙ ap (block_wins rule (n - 1) (after b p)) (sym won) ∙ facts.1 in
        stands-plan t u [] r (foul-branches t (outcome rule (after b p)) (λ q. 0) (λ q. four_plan rule (n - 1) (after (after b p) q))
        (points_of b) foul) h

    -- a node for each reply, on a board that is b
    plan-answers : (d : Grid) → d ≡ b → (node : Point → ℕ)
        → ((q : Point) → outcome rule (after b p) q ≡ GoesOn → StandsFor t (node q) (four_plan rule (n - 1) (after (after b p) q)))
        → IfOk r (λ i. (bs : Branches) → AnswersBranches t (answers_for (outcome rule (after d p)) node (points_of d)) bs
        → StandsFor u i (Fork p bs)) → IfOk r (λ i. StandsFor u i (four_plan rule n b))
    unfolding branches
    plan-answers d same node each h =
        stands-plan t u (answers_for (outcome rule (after b p)) node (points_of b)) r
        (answers-branches t (outcome rule (after b p)) node (λ q. four_plan rule (n - 1) (after (after b p) q)) (points_of b) each)
        (subst (λ (w : Grid). IfOk r
        (λ i. (bs : Branches) → AnswersBranches t (answers_for (outcome rule (after w p)) node (points_of w)) bs
        → StandsFor u i (Fork p bs))) same h)

    module _ (d : Grid) (same : d ≡ b) (x : Point) (xs : List Point) (points : xs ≡ five_points rule (after b p) (mover b))
        (more : 0 < n - 1) where
      these : five_points rule (after b p) (other (mover (after b p))) ≡ xs
      these = ap (five_points rule (after b p)) turn ∙ sym points

      -- one five point, which the defender may not take
      pub plan-won-one : fate rule (after b p) ≡ Won → 1 ≤ length xs → length xs < 2 → (j : ℕ) → StandsFor t j (Leaf (get_or xs 0 x))
          → IfOk r (λ i. (bs : Branches) → AnswersBranches t
          (answers_for (outcome rule (after d p)) (answer_node (get_or xs 0 x) j j) (points_of d)) bs → StandsFor u i (Fork p bs))
          → IfOk r (λ i. StandsFor u i (four_plan rule n b))
      plan-won-one won low high j hj h =
          let whole = these ∙ list_one xs x low high in
          plan-answers d same (answer_node (get_or xs 0 x) j j)
          (foul-stands rule (after b p) after_lawful t (n - 1) more (get_or xs 0 x) [] j j whole
          (won-foul rule (after b p) (get_or xs 0 x) (sym won) whole) hj) h

      -- two five points or more
      pub plan-won-two : 2 ≤ length xs → (i j : ℕ) → StandsFor t i (Leaf (get_or xs 1 x)) → StandsFor t j (Leaf (get_or xs 0 x))
          → IfOk r (λ k. (bs : Branches) → AnswersBranches t
          (answers_for (outcome rule (after d p)) (answer_node (get_or xs 0 x) i j) (points_of d)) bs → StandsFor u k (Fork p bs))
          → IfOk r (λ k. StandsFor u k (four_plan rule n b))
      plan-won-two low i j hi hj h =
          let whole = list_two xs x low in
          plan-answers d same (answer_node (get_or xs 0 x) i j)
          (two-stands rule (after b p) after_lawful t (n - 1) more (get_or xs 0 x) (get_or xs 1 x) whole.0 i j (these ∙ whole.1) hi hj) h

    -- one block, which goes on
    pub plan-one : (d : Grid) → d ≡ b → (w : Point) → fate rule (after b p) ≡ One w → 0 < n - 1 → (i j : ℕ)
        → StandsFor t i (four_plan rule (n - 1) (after (after b p) w)) → StandsFor t j (Leaf w)
        → IfOk r (λ k. (bs : Branches) → AnswersBranches t (answers_for (outcome rule (after d p)) (answer_node w i j) (points_of d)) bs
        → StandsFor u k (Fork p bs)) → IfOk r (λ k. StandsFor u k (four_plan rule n b))
    plan-one d same w one more i j hi hj h =
        plan-answers d same (answer_node w i j)
        (one-stands rule (after b p) after_lawful t (n - 1) more w [] i j (one-points rule (after b p) w (sym one)) hi hj) h

  -- after the one block the attacker wins
  pub plan-wins : (w : Point) → fate rule (after b p) ≡ One w → (wins_by_fours rule (n - 1) (after (after b p) w) ≡ true) × (0 < n - 1)
  plan-wins w one =
      let wins : wins_by_fours rule (n - 1) (after (after b p) w) ≡ true = ap (block_wins rule (n - 1) (after b p)) (sym one) ∙ facts.1 in
      (wins, wins-some rule (n - 1) (after (after b p) w) wins)

  pub plan-block : (w : Point) → fate rule (after b p) ≡ One w → outcome rule (after b p) w ≡ GoesOn
  plan-block w one = one-goes_on rule (after b p) w (sym one)

  -- the fate of the chosen move is not lost, and no draw
  pub plan-not-lost : fate rule (after b p) ≡ Lost → ⊥
  plan-not-lost lost = let bad : false ≡ true = ap (block_wins rule (n - 1) (after b p)) (sym lost) ∙ facts.1 in cc

  pub plan-not-draw : (w : Point) → fate rule (after b p) ≡ Draw w → ⊥
  plan-not-draw w draw = let bad : false ≡ true = ap (block_wins rule (n - 1) (after b p)) (sym draw) ∙ facts.1 in cc

-- a four that has won has a five point
pub plan-won-points : (rule : RuleKind) (n : ℕ) (b : Grid) (p : Point) (lawful : IsPosition rule b)
    (none : has_five rule b (mover b) ≡ false) (chosen : four_move rule n b ≡ Some p) (xs : List Point)
    → xs ≡ five_points rule (after b p) (mover b) → fate rule (after b p) ≡ Won → length xs < 1 → ⊥
plan-won-points rule n b p lawful none chosen xs points won low =
    won-some rule (after b p) (sym won)
    (ap (five_points rule (after b p)) (turn rule n b p lawful none chosen) ∙ sym points ∙ nil xs low) where
      nil : (l : List Point) → length l < 1 → l ≡ []
      nil [] h = refl
      nil (x ∷ l) h = absurd (omega arith)

-- ---- five points as a list

-- the winning node of the least five point
pub plan-five : {E : Type 0} (rule : RuleKind) (n : ℕ) (b : Grid) (xs : List Point) (x : Point) (u : List Node) (r : Result ℕ E)
    → xs ≡ five_points rule b (mover b) → 1 ≤ length xs → 0 < n → IfOk r (λ i. StandsFor u i (Leaf (get_or xs 0 x)))
    → IfOk r (λ i. StandsFor u i (four_plan rule n b))
plan-five rule n b xs x u r e low some h =
    let whole = list_some xs x low in
    let least : least_five rule b ≡ Some (get_or xs 0 x) =
    head_find (five rule b (mover b)) (points_of b) (get_or xs 0 x) whole.0 (sym e ∙ whole.1) in
    IfOk-map r _ (λ i. StandsFor u i (four_plan rule n b))
    (λ i k. subst (λ (s : Tree). StandsFor u i s) (sym (plan-leaf rule n b (get_or xs 0 x) least some)) k) h
