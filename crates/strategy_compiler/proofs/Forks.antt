-- A node whose attack wins at once is a win, and so is one whose attack goes on and whose answers win after it.
use Rattle.std.proofs.Common.{◌≡◌, ◌⊎◌, inl, inr, ℕ, suc, ◌+◌, ◌≤◌, ◌<◌, Bool, true, false, cond, not, ◌||◌, refl, sym, ap, subst, ◌∙◌}
use Rattle.std.proofs.Common.{IsSomeAnd, arith, List, [], ◌∷◌, ◌++◌, map, length, filter, nat_eq, Option, Some, None, Result, Ok, Err, IfOk}
use Rattle.std.proofs.Common.{OnOk, All, Contains, slice_get, nat_lt, rules, find, filter_map}
use Rattle.std.specs.List.{list_any, list_all, AllByRecursion}
use Rattle.std.specs.Option.{option_or, option_eq}
use Rattle.std.proofs.lemmas.Bool.{or_right}
use Rattle.std.proofs.lemmas.List.{append-nil}
use Rattle.std.proofs.lemmas.List.Elements.{All-from_recursion, Contains-append_cases}
use Rattle.std.proofs.lemmas.Option.{slice_get_within}
use Rattle.strategy_compiler.proofs.Common.{Grid, is_on, outcome, after, LosesOr, RuleKind, Point, Node, Reply, Rest, Answers, answer}
use Rattle.strategy_compiler.proofs.Common.{rest_node, rest_nodes, answers_of, named, names_below, listed_node, is_rising, NamesLower}
use Rattle.strategy_compiler.proofs.Common.{NamesOnBoard, depth, greatest, Accepted, AcceptedStart, IsCompiled, PutsIn, winning_node}
use Rattle.strategy_compiler.proofs.Common.{answering_node, answers_alone, AnswersEach, Reaches, StaysOnBoard, IsWrittenWin, AnswersWin}
use Rattle.strategy_compiler.proofs.Common.{WinsAtOnce, WinsByAnswers, IsDoubleThreat, answer_node, two_answers, double_moves}
use Rattle.strategy_compiler.proofs.Common.{AnswersBriefly, commonest, answers_to}
use Rattle.game_rules.proofs.Common.{is_same_point}
use Rattle.game_rules.specs.declared.Outcome.{Outcome}
use Rattle.game_rules.specs.declared.Outcome.TheVariants.{Wins as WinsNow, Draws, GoesOn}
use Rattle.game_rules.proofs.Points.{is_same_point-itself, is_same_point-same}
use Rattle.game_rules.proofs.Positions.{GoesOn-on}
use Rattle.game_rules.proofs.Outcomes.{wins-on}
use Rattle.strategy_graph.proofs.Common.{node_depth, start_depth}
use Rattle.strategy_graph.proofs.Filling.{IsTable-lower, growth-same-start}
use Rattle.strategy_graph.proofs.Fuel.{depth-step}
use Rattle.strategy_graph.proofs.Steps.{accepted-by-win, accepted-by-replies}
use Rattle.strategy_graph.proofs.Rising.{answered-as-listed, all-next}
use Rattle.strategy_graph.proofs.Answering.{next-all}
use Rattle.strategy_graph.proofs.Greatest.{greatest-all, contained}
use Rattle.strategy_compiler.proofs.Briefs.{brief-not_winning}
use Rattle.strategy_compiler.proofs.Starting.{brief-inside, brief-deep, brief-accepted}
use Rattle.strategy_compiler.proofs.Growing.{stays-longer}

-- ---- lists

pub all-filter : {X : Type 0} (P : X → Type 0) (f : X → Bool) (xs : List X) → AllByRecursion P xs → AllByRecursion P (filter f xs)
all-filter P f [] h = tt
all-filter P f (x ∷ xs) h = search (rules, all-filter P f xs h.1)

pub all-weaker : {X : Type 0} (P Q : X → Type 0) → ((x : X) → P x → Q x) → (xs : List X) → AllByRecursion P xs → AllByRecursion Q xs
all-weaker P Q f [] h = tt
all-weaker P Q f (x ∷ xs) h = (f x h.0, all-weaker P Q f xs h.1)

pub all-both : {X : Type 0} (P Q R : X → Type 0) → ((x : X) → P x → Q x → R x) → (xs : List X) → AllByRecursion P xs → AllByRecursion Q xs
    → AllByRecursion R xs
all-both P Q R f [] h k = tt
all-both P Q R f (x ∷ xs) h k = (f x h.0 k.0, all-both P Q R f xs h.1 k.1)

no-names : (P : ℕ → Type 0) (j : ℕ) → Contains [] j → P j
no-names P j (i, l, e) = absurd (omega arith)

pub mapped-all : {X Y : Type 0} (P : Y → Type 0) (f : X → Y) (xs : List X) → AllByRecursion (λ x. P (f x)) xs → AllByRecursion P (map f xs)
mapped-all P f [] h = tt
mapped-all P f (x ∷ xs) h = (h.0, mapped-all P f xs h.1)

-- the greatest depth of the nodes that answer
pub alone-deep : (t : List Node) (answers : List Reply)
    → start_depth t (answers_alone answers) ≡ greatest (map (depth t) (map (λ r. r.next) answers))
alone-deep t answers = ap (λ (js : List ℕ). greatest (map (depth t) js)) (append-nil (map (λ r. r.next) answers))

-- ---- what a node reaches

reach-cases : (t : List Node) (i k : ℕ) → Reaches t i k
    → (i ≡ k) ⊎ ((j : ℕ) × (n : Node) × (slice_get t i ≡ Some n) × Contains (named (answers_of n)) j × Reaches t j k)
reach-cases t i k h = search rules

-- a node whose names stay on the board does so too
pub stays-by : (b : Grid) (t : List Node) (i : ℕ) (n : Node) → slice_get t i ≡ Some n → NamesOnBoard b n
    → ((j : ℕ) → Contains (named (answers_of n)) j → StaysOnBoard b t j) → StaysOnBoard b t i
stays-by b t i n at on all k m reach here = elim (reach-cases t i k reach) [
  | inl same ↦
      let e : Some n ≡ Some m = sym at ∙ ap (slice_get t) same ∙ here in
      let f : n ≡ m = cc in
      subst (NamesOnBoard b) f on
  | inr step ↦
      let e : Some n ≡ Some step.1 = sym at ∙ step.2 in
      let f : step.1 ≡ n = cc in
      all step.0 (subst (λ (m : Node). Contains (named (answers_of m)) step.0) f step.3) k m step.4 here
]

-- a move changes no size
pub stays-before : (b : Grid) (p : Point) (t : List Node) (i : ℕ) → StaysOnBoard (after b p) t i → StaysOnBoard b t i
stays-before b p t i h k n reach at = let on = h k n reach at in record { attack = on.attack; replies = on.replies }

-- ---- what answers in brief name

-- P holds of the answer, if there is one
abbrev pub IfAnswer : (ℕ → Type 0) → Option ℕ → Type 0
IfAnswer P None = Unit {0}
IfAnswer P (Some j) = P j

module _ (P : ℕ → Type 0) (a : Answers) where
  if-some : (q : Point) (j : ℕ) → answer a q ≡ Some j → IfAnswer P (answer a q) → P j
  if-some q j e h = subst (IfAnswer P) e h

  listed-named : (rs : List Reply) → AllByRecursion (λ r. answer a r.at ≡ Some r.next) rs
      → AllByRecursion (λ q. IfAnswer P (answer a q)) (map (λ r. r.at) rs) → AllByRecursion (λ r. P r.next) rs
  listed-named [] e h = tt
  listed-named (r ∷ rs) e h = (if-some r.at r.next e.0 h.0, listed-named rs e.1 h.1)

  found-named : (f : ℕ → Bool) (qs : List Point) → AllByRecursion (λ q. IfAnswer P (answer a q)) qs → (j : ℕ)
      → find f (filter_map (answer a) qs) ≡ Some j → P j
  found-named f [] h j e = cc
  found-named f (q ∷ qs) h j e = search (rules, found-named f qs h.1 j)

  rest-named : (r : Rest) (js : List ℕ) → rest_node r ≡ commonest js → ((j : ℕ) → commonest js ≡ Some j → P j)
      → AllByRecursion P (rest_nodes r)
  rest-named r js e h = search rules

  -- what holds of each answer to one of these replies holds of each node that is named
  pub briefly-named : (qs : List Point) → is_rising a.replies ≡ true
      → AnswersBriefly a qs → AllByRecursion (λ q. IfAnswer P (answer a q)) qs → (j : ℕ) → Contains (named a) j → P j
  briefly-named [] rising brief h j c =
      let none : named a ≡ [] = ap (λ (rs : List Reply). map (λ r. r.next) rs ++ rest_nodes a.rest) brief.1 ∙ ap rest_nodes brief.0 in
      no-names P j (subst (λ (js : List ℕ). Contains js j) none c)
  briefly-named (q ∷ qs) rising brief h j c = elim (Contains-append_cases (map (λ r. r.next) a.replies) (rest_nodes a.rest) j c) [
    | inl listed ↦ next-all P a.replies (listed-named a.replies (answered-as-listed a rising)
        (subst (AllByRecursion (λ p. IfAnswer P (answer a p))) (sym brief.others_are_listed)
        (all-filter (λ p. IfAnswer P (answer a p)) (λ q. not (option_eq nat_eq (answer a q) (rest_node a.rest))) (q ∷ qs) h))) j listed
    | inr rest ↦ contained P
        (rest_nodes a.rest) (rest-named a.rest (answers_to a (q ∷ qs)) brief.rest_is_commonest (found-named _ (q ∷ qs) h)) j rest
  ]

-- ---- a node whose attack wins at once

pub leaf-wins : (t : List Node) → NamesLower t → (i : ℕ) (p : Point) → slice_get t i ≡ Some (winning_node p) → WinsAtOnce p t i
leaf-wins t lower i p at rule b wins = record {
  in_compiler = slice_get_within t i (winning_node p) at;
  accepted = accepted-by-win rule t lower i b (winning_node p) at wins;
  deep = depth-step t lower i ∙ ap (λ (o : Option Node). node_depth o (depth t)) at;
  within = omega arith;
  on_board = stays-by b t i (winning_node p) at (record { attack = wins-on rule b p wins; replies = tt }) (no-names (StaysOnBoard b t));
}

-- ---- a node whose answers win

-- answers that win are to each move that goes on
each-answered : (rule : RuleKind) (c : Grid) (t : List Node) (answers : List Reply) → AcceptedStart rule t (answers_alone answers) c
    → AnswersEach rule c answers
each-answered rule c t answers h q go = search rules

module _ (t : List Node) (lower : NamesLower t) (p : Point) (answers : List Reply) (rising : is_rising answers ≡ true) (i : ℕ)
    (at : slice_get t i ≡ Some (answering_node p answers)) where
  pub fork-wins : (rule : RuleKind) (limit : ℕ) (b : Grid) → outcome rule b p ≡ GoesOn → AnswersWin rule limit (after b p) t answers
      → IsWrittenWin rule (suc limit) b t (record { node = i; moves = start_depth t (answers_alone answers) + 1 })
  fork-wins rule limit b on win = record {
    in_compiler = slice_get_within t i (answering_node p answers) at;
    accepted = accepted-by-replies rule t lower i b (answering_node p answers) at on (brief-not_winning answers)
        (subst (λ (X : Type 0). X) (sym
        (brief-accepted answers rising rule (after b p) (each-answered rule (after b p) t answers win.accepted) t)) win.accepted);
    deep =
        let step = depth-step t lower i ∙ ap (λ (o : Option Node). node_depth o (depth t)) at in
        omega (arith, step, brief-deep answers rising (depth t));
    within = let low = win.within in omega (arith, low);
    on_board = stays-by b t i (answering_node p answers) at
        (record { attack = GoesOn-on rule b p on; replies = all-filter (λ r. is_on b r.at ≡ true) _ answers win.on_board })
        (λ j c. stays-before b p t j (next-all (StaysOnBoard (after b p) t) answers win.stay j (brief-inside answers rising j c)));
  }

-- answers that win do so however the nodes grow
pub answers-grow : (t more : List Node) → NamesLower t → (answers : List Reply) → All (λ r. r.next < length t) answers
    → (rule : RuleKind) (limit : ℕ) (c : Grid) → AnswersWin rule limit c t answers
    → (start_depth (t ++ more) (answers_alone answers) ≡ start_depth t (answers_alone answers)) × AnswersWin rule limit c
    (t ++ more) answers
answers-grow t more lower answers below rule limit c win =
    let names : names_below (answers_alone answers) (length t) ≡ true =
    ap (list_all (λ j. nat_lt j (length t))) (append-nil (map (λ r. r.next) answers)) ∙ all-next answers (length t) below in
    let same = growth-same-start t more lower (answers_alone answers) names in
    let low = win.within in
    let deep = same.same_depth in (
      same.same_depth,
      record {
        accepted = (same.same_accepted rule c).1 win.accepted;
        within = omega (arith, low, deep);
        on_board = win.on_board;
        stay = each answers below win.stay;
      },
    ) where
      each : (rs : List Reply) → All (λ r. r.next < length t) rs → AllByRecursion (λ r. StaysOnBoard c t r.next) rs
          → AllByRecursion (λ r. StaysOnBoard c (t ++ more) r.next) rs
      each [] low h = tt
      each (r ∷ rs) low h =
          (stays-longer c t more lower r.next (low 0 r (omega arith)) h.0, each rs (λ k d l. low (suc k) d (omega arith)) h.1)

-- once the node is put in
pub put-wins : (old new : List Node) → NamesLower old → NamesLower new → (p : Point) (answers : List Reply)
    → is_rising answers ≡ true → All (λ r. r.next < length old) answers → PutsIn old (answering_node p answers) new
    → (i : ℕ) → slice_get new i ≡ Some (answering_node p answers) → WinsByAnswers old p answers new i
put-wins old new before now p answers rising below put i at rule limit b on win = by_put put where
  by_put : PutsIn old (answering_node p answers) new
      → IsWrittenWin rule (suc limit) b new (record { node = i; moves = start_depth old (answers_alone answers) + 1 })
  by_put (inl same) = subst (λ (t : List Node). IsWrittenWin rule (suc limit) b new
      (record { node = i; moves = start_depth t (answers_alone answers) + 1 })) same.1
      (fork-wins new now p answers rising i at rule limit b on
      (subst (λ (t : List Node). AnswersWin rule limit (after b p) t answers) (sym same.1) win))
  by_put (inr longer) =
      let grown = answers-grow old (answering_node p answers ∷ []) before answers below rule limit (after b p) win in
      subst (λ (d : ℕ). IsWrittenWin rule (suc limit) b new (record { node = i; moves = d + 1 }))
      (ap (λ (t : List Node). start_depth t (answers_alone answers)) longer.1 ∙ grown.0)
      (fork-wins new now p answers rising i at rule limit b on
      (subst (λ (t : List Node). AnswersWin rule limit (after b p) t answers) (sym longer.1) grown.1))

-- ---- how answers are shown to win

-- what is asked of the answer to one reply
pub record IsAnswer (rule : RuleKind) (limit : ℕ) (c : Grid) (t : List Node) (r : Reply) : Type 0 where
  pub on_board : is_on c r.at ≡ true
  pub accepted : outcome rule c r.at ≡ GoesOn → Accepted rule t r.next (after c r.at)
  pub within : depth t r.next ≤ limit
  pub stays : StaysOnBoard c t r.next

-- a reply that goes on, and a win after it
pub answer-by-win : (rule : RuleKind) (limit : ℕ) (c : Grid) (t : List Node) (r : Reply) (m : ℕ) → outcome rule c r.at ≡ GoesOn
    → IsWrittenWin rule limit (after c r.at) t (record { node = r.next; moves = m }) → IsAnswer rule limit c t r
answer-by-win rule limit c t r m go win = search (rules, GoesOn-on, stays-before)

module _ (rule : RuleKind) (limit : ℕ) (c : Grid) (t : List Node) where
  answer-found : (answers : List Reply) → AllByRecursion (IsAnswer rule limit c t) answers → (q : Point) → outcome rule c q ≡ GoesOn
      → list_any (is_same_point q) (map (λ r. r.at) answers) ≡ true
      → IsSomeAnd (option_or (listed_node answers q) None) (λ j. Accepted rule t j (after c q))
  answer-found [] h q go e = cc
  answer-found (r ∷ rs) h q go e = search (rules, is_same_point-same, is_same_point-itself, answer-found rs h.1 q go)

  -- no move wins or draws, and each that goes on has such an answer
  pub answers-win : (answers : List Reply) → ((q : Point) → LosesOr (outcome rule c q) (Unit {0}))
      → ((q : Point) → outcome rule c q ≡ GoesOn → list_any (is_same_point q) (map (λ r. r.at) answers) ≡ true)
      → AllByRecursion (IsAnswer rule limit c t) answers → AnswersWin rule limit c t answers
  answers-win answers lost listed h = record {
    accepted = λ q. met q (outcome rule c q) refl (lost q);
    within =
        let low = greatest-all (depth t) limit (map (λ r. r.next) answers) (mapped-all (λ j. depth t j ≤ limit) (λ r. r.next) answers
        (all-weaker (IsAnswer rule limit c t) (λ r. depth t r.next ≤ limit) (λ r k. k.within) answers h)) in
        omega (arith, low, alone-deep t answers);
    on_board = all-weaker (IsAnswer rule limit c t) (λ r. is_on c r.at ≡ true) (λ r k. k.on_board) answers h;
    stay = all-weaker (IsAnswer rule limit c t) (λ r. StaysOnBoard c t r.next) (λ r k. k.stays) answers h;
  } where
    met : (q : Point) (o : Outcome) → outcome rule c q ≡ o → LosesOr o (Unit {0})
        → LosesOr o (IsSomeAnd (option_or (listed_node answers q) None) (λ j. Accepted rule t j (after c q)))
    met q WinsNow e k = absurd k
    met q Draws e k = absurd k
    met q GoesOn e k = answer-found answers h q e (listed q e)
    met q _ e k = tt

-- ---- the answers of a double threat

-- they are to the given replies
pub two-points : (w : Point) (i j : ℕ) (qs : List Point) → map (λ r. r.at) (two_answers w i j qs) ≡ qs
two-points w i j [] = refl
two-points w i j (q ∷ qs) = ap (λ (ps : List Point). q ∷ ps) (two-points w i j qs)

-- what holds of the first node, if a reply is the first point, and of the other, if another is, holds of each
pub two-all : (P : Point → ℕ → Type 0) (w : Point) (i j : ℕ) (qs : List Point)
    → (list_any (λ q. is_same_point q w) qs ≡ true → (q : Point) → is_same_point q w ≡ true → P q i)
    → (list_any (λ q. not (is_same_point q w)) qs ≡ true → (q : Point) → is_same_point q w ≡ false → P q j)
    → AllByRecursion (λ r. P r.at r.next) (two_answers w i j qs)
two-all P w i j [] f g = tt
two-all P w i j (q ∷ qs) f g = (
  by_test (is_same_point q w) refl,
  two-all P w i j qs (λ e. f (or_right (is_same_point q w) _ e)) (λ e. g (or_right (not (is_same_point q w)) _ e)),
) where
  by_test : (b : Bool) → is_same_point q w ≡ b → P q (cond b i j)
  by_test true e = f (ap (λ (b : Bool). b || list_any (λ q. is_same_point q w) qs) e) q e
  by_test false e = g (ap (λ (b : Bool). not b || list_any (λ q. not (is_same_point q w)) qs) e) q e

two-deep : (d : ℕ → ℕ) (rs : List Reply) → AllByRecursion (λ r. d r.next ≡ 1) rs → (qs : List Point) → map (λ r. r.at) rs ≡ qs
    → greatest (map d (map (λ r. r.next) rs)) + 1 ≡ double_moves qs
two-deep d [] h [] e = refl
two-deep d [] h (q ∷ qs) e = cc
two-deep d (r ∷ rs) h [] e = cc
two-deep d (r ∷ rs) h (q ∷ qs) e =
    let one = h.0 in
    let low = greatest-all d 1 (map (λ r. r.next) rs) (mapped-all (λ j. d j ≤ 1) (λ r. r.next) rs
    (all-weaker (λ (r : Reply). d r.next ≡ 1) (λ r. d r.next ≤ 1) (λ r k. omega (arith, k)) rs h.1)) in
    omega (arith, one, low)

module _ (t : List Node) (lower : NamesLower t) (start first second : Point) (replies : List Point) (i j : ℕ)
    (at_first : list_any (λ q. is_same_point q first) replies ≡ true → slice_get t i ≡ Some (winning_node second))
    (beside : list_any (λ q. not (is_same_point q first)) replies ≡ true → slice_get t j ≡ Some (winning_node first)) where
  -- what holds of a node that takes the point that is answered holds of each answer
  taken-all : (P : Point → ℕ → Type 0)
      → ((q : Point) (k : ℕ) → slice_get t k ≡ Some (winning_node (cond (is_same_point q first) second first)) → P q k)
      → AllByRecursion (λ r. P r.at r.next) (two_answers first i j replies)
  taken-all P f = two-all P first i j replies
      (λ some q e. f q i (at_first some ∙ ap (λ (b : Bool). Some (winning_node (cond b second first))) (sym e)))
      (λ some q e. f q j (beside some ∙ ap (λ (b : Bool). Some (winning_node (cond b second first))) (sym e)))

  pub two-below : All (λ r. r.next < length t) (two_answers first i j replies)
  two-below = All-from_recursion (λ (r : Reply). r.next < length t) (two_answers first i j replies)
      (taken-all (λ q k. k < length t) (λ q k at. slice_get_within t k _ at))

  leaf-deep : (k : ℕ) (w : Point) → slice_get t k ≡ Some (winning_node w) → depth t k ≡ 1
  leaf-deep k w at = depth-step t lower k ∙ ap (λ (o : Option Node). node_depth o (depth t)) at

  two-moves : start_depth t (answers_alone (two_answers first i j replies)) + 1 ≡ double_moves replies
  two-moves = ap (λ (k : ℕ). k + 1) (alone-deep t (two_answers first i j replies)) ∙ two-deep (depth t)
      (two_answers first i j replies) (taken-all (λ q k. depth t k ≡ 1) (λ q k at. leaf-deep k _ at)) replies (two-points first i j replies)

  module _ (rule : RuleKind) (b : Grid) (threat : IsDoubleThreat rule b start first second replies) where
    lost : (q : Point) → LosesOr (outcome rule (after b start) q) (Unit {0})
    lost q = by_outcome (outcome rule (after b start) q) (threat.lost q) where
      by_outcome : (o : Outcome) → LosesOr o
          (outcome rule (after (after b start) q) (cond (is_same_point q first) second first) ≡ WinsNow) → LosesOr o (Unit {0})
      by_outcome WinsNow h = h
      by_outcome Draws h = h
      by_outcome _ h = tt

    taken-on : (q : Point) → is_on b (cond (is_same_point q first) second first) ≡ true
    taken-on q = search rules

    is-answer : (q : Point) (k : ℕ) → slice_get t k ≡ Some (winning_node (cond (is_same_point q first) second first)) → is_on b q ≡ true
        → IsAnswer rule 1 (after b start) t (record { at = q; next = k })
    is-answer q k at on = record {
      on_board = on;
      accepted = λ go. accepted-by-win rule t lower k (after (after b start) q) _ at (subst (λ (o : Outcome). LosesOr o
          (outcome rule (after (after b start) q) (cond (is_same_point q first) second first) ≡ WinsNow)) go (threat.lost q));
      within = let one = leaf-deep k _ at in omega (arith, one);
      stays = stays-by (after b start) t k _ at (record { attack = taken-on q; replies = tt }) (no-names (StaysOnBoard (after b start) t));
    }

    two-win : AnswersWin rule 1 (after b start) t (two_answers first i j replies)
    two-win = answers-win rule 1 (after b start) t (two_answers first i j replies) lost
        (λ q go. subst (λ (ps : List Point). list_any (is_same_point q) ps ≡ true) (sym (two-points first i j replies))
        (threat.listed q go))
        (all-both (λ (r : Reply). is_on b r.at ≡ true) (λ r. is_on b r.at ≡ true → IsAnswer rule 1 (after b start) t r)
        (IsAnswer rule 1 (after b start) t) (λ r on h. h on) (two_answers first i j replies)
        (mapped-all (λ (r : Reply). is_on b r.at ≡ true)
        (λ q. record { at = q; next = answer_node first i j q }) replies threat.on_board.1.1)
        (taken-all (λ q k. is_on b q ≡ true → IsAnswer rule 1 (after b start) t (record { at = q; next = k })) is-answer))

  -- the win of the node that is put in with these answers
  pub double-wins : (new : List Node) (answers : List Reply) → answers ≡ two_answers first i j replies → (node : ℕ)
      → WinsByAnswers t start answers new node → (rule : RuleKind) (b : Grid) → IsDoubleThreat rule b start first second replies
      → (m : ℕ) → m ≡ double_moves replies → IsWrittenWin rule 2 b new (record { node = node; moves = m })
  double-wins new answers are node wins rule b threat m is =
      subst (λ (k : ℕ). IsWrittenWin rule 2 b new (record { node = node; moves = k })) (two-moves ∙ sym is)
      (subst (λ (rs : List Reply). WinsByAnswers t start rs new node) are wins rule 1 b threat.goes_on (two-win rule b threat))

-- ---- what a call answers

module _ {E : Type 0} (new : List Node) (compiled : IsCompiled new) (attack : Point) (n : Node) where
  pub answered-leaf : (r : Result ℕ E) → IfOk r (λ i. slice_get new i ≡ Some n) → n ≡ winning_node attack → IfOk r (WinsAtOnce attack new)
  answered-leaf (Ok i) at e = leaf-wins new (IsTable-lower new compiled.table) i attack (at ∙ ap Some e)
  answered-leaf (Err x) at e = tt

  pub answered-fork : (r : Result ℕ E) → IfOk r (λ i. slice_get new i ≡ Some n) → (old : List Node) → IsCompiled old
      → (answers : List Reply) → is_rising answers ≡ true → All (λ r. r.next < length old) answers
      → n ≡ answering_node attack answers → OnOk r (PutsIn old n new) → IfOk r (WinsByAnswers old attack answers new)
  answered-fork (Ok i) at old before answers rising below e put = put-wins old new (IsTable-lower old before.table)
      (IsTable-lower new compiled.table) attack answers rising below (subst (λ (m : Node). PutsIn old m new) e put) i (at ∙ ap Some e)
  answered-fork (Err x) at old before answers rising below e put = tt
