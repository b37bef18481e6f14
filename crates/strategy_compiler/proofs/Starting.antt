-- The start that is made of answers: it has them in brief, and says what they say alone.
use Rattle.std.proofs.Common.{◌≡◌, ℕ, zero, suc, ◌<◌, Bool, true, false, ◌||◌, ◌==◌, List, [], ◌∷◌, ◌++◌, map, length, refl, sym, IsSomeAnd}
use Rattle.std.proofs.Common.{rules, sum_by, option_map, ltb-true, lt-ltb, ap, subst, ◌∙◌, arith, ◌↔◌, Option, Some, None, IsSome, All}
use Rattle.std.proofs.Common.{Contains, nat_lt, slice_index}
use Rattle.std.specs.List.{list_all, AllByRecursion}
use Rattle.std.specs.Option.{option_or}
use Rattle.std.proofs.lemmas.Bool.{or_right}
use Rattle.std.proofs.lemmas.Bool.Decides.{Decides-eqb}
use Rattle.std.proofs.lemmas.List.Folds.{list_all-append}
use Rattle.std.proofs.lemmas.List.Elements.{All-cons, All-nil, All-from_recursion, Contains-append_left, Contains-append_cases}
use Rattle.strategy_compiler.proofs.Common.{Grid, outcome, after, LosesOr, RuleKind, Point, Node, Reply, Rest, Answers, answer, listed_node}
use Rattle.strategy_compiler.proofs.Common.{named, names_below, rest_nodes, is_rising, greatest, depth, NamesLower, renumbered_answers}
use Rattle.strategy_compiler.proofs.Common.{renumbered_reply, Accepted, AcceptedStart, arrivals, SaysSame, StartSaysSame, is_in_list}
use Rattle.strategy_compiler.proofs.Common.{completed_from, place_in, visits, ArePlaces, IsMadeFrom, brief_answers, answers_beside}
use Rattle.strategy_compiler.proofs.Common.{commonest_next, rest_of, answers_alone, AnswersEach, start_order, AnswersBranches, Branches}
use Rattle.strategy_compiler.proofs.Common.{IsMadeOfAnswers, IsStartOfBranches, replies_of}
use Rattle.game_rules.proofs.Common.{points_of}
use Rattle.game_rules.proofs.Boards.{and_left, and_right}
use Rattle.strategy_graph.proofs.Common.{arrivals_at, start_arrivals}
use Rattle.strategy_graph.proofs.Answering.{answer-named}
use Rattle.strategy_graph.proofs.Copies.{iff_by, answer-renumbered, is_winning-renumbered, named-renumbered}
use Rattle.strategy_graph.proofs.Renumbering.{renumbered_replies-agree, renumbered_rest-agree, rising-renumbered}
use Rattle.strategy_graph.proofs.Rising.{AnsweredAsGiven, listed-given, all-next}
use Rattle.strategy_graph.proofs.Greatest.{greatest-same}
use Rattle.strategy_compiler.proofs.Walking.{visited-named, named-visited, all-contains, contains-map, visits-below, walks-itself}
use Rattle.strategy_compiler.proofs.Places.{all_by, among-place, places-apart}
use Rattle.strategy_compiler.proofs.Copying.{visits-renumbered}
use Rattle.strategy_compiler.proofs.Briefs.{brief-named, brief-as_given, brief-branches, brief-not_winning, brief-rising, points-kept}

-- ---- numbers in lists

in-list-contains : (js : List ℕ) (j : ℕ) → is_in_list j js ≡ true → Contains js j
in-list-contains [] j h = cc
in-list-contains (x ∷ xs) j h = by_test (x == j) refl h (in-list-contains xs j) where
  by_test : (b : Bool) → (x == j) ≡ b → (b || is_in_list j xs) ≡ true → (is_in_list j xs ≡ true → Contains xs j) → Contains (x ∷ xs) j
  by_test true e h next = (0, omega arith, (Decides-eqb x j).0 e)
  by_test false e h next = let later = next h in (suc later.0, omega arith, later.2)

contains-in-list : (js : List ℕ) (j : ℕ) → Contains js j → is_in_list j js ≡ true
contains-in-list [] j (k, l, e) = absurd (omega arith)
contains-in-list (x ∷ xs) j (zero, l, e) = ap (λ (b : Bool). b || is_in_list j xs) ((Decides-eqb x j).1 e)
contains-in-list (x ∷ xs) j (suc k, l, e) = or_right (x == j) (is_in_list j xs) (contains-in-list xs j (k, omega arith, e))

-- all of some numbers are among others where each of these is
all-in-list : (js : List ℕ) → list_all (λ k. is_in_list k js) js ≡ true
all-in-list js = all_by (λ k. is_in_list k js) js (contains-in-list js)

-- an answer is a node that is named
answer-contained : (a : Answers) (q : Point) (j : ℕ) → answer a q ≡ Some j → Contains (named a) j
answer-contained a q j e = in-list-contains (named a) j (answer-named (λ k. is_in_list k (named a)) a q j (all-in-list (named a)) e)

-- ---- answers in brief, and alone

or_none : (o : Option ℕ) → option_or o None ≡ o
or_none o = search rules

module _ (answers : List Reply) (rising : is_rising answers ≡ true) where
  -- the nodes that the answers in brief name are those that answer
  pub brief-inside : (j : ℕ) → Contains (named (brief_answers answers)) j → Contains (map (λ r. r.next) answers) j
  brief-inside j c =
      let js : List ℕ = map (λ r. r.next) answers in
      in-list-contains js j (all-contains (λ k. is_in_list k js) (named (brief_answers answers)) j
      (brief-named (λ k. is_in_list k js) answers (all-in-list js)) c)

  given-at : (rs : List Reply) → AnsweredAsGiven (brief_answers answers) rs → (j : ℕ) → Contains (map (λ r. r.next) rs) j
      → Contains (named (brief_answers answers)) j
  given-at [] given j (k, l, e) = absurd (omega arith)
  given-at (r ∷ rs) given j (zero, l, e) = subst (Contains (named (brief_answers answers))) e
      (answer-contained (brief_answers answers) r.at r.next given.0)
  given-at (r ∷ rs) given j (suc k, l, e) = given-at rs given.1 j (k, omega arith, e)

  brief-outside : (j : ℕ) → Contains (map (λ r. r.next) answers) j → Contains (named (brief_answers answers)) j
  brief-outside = given-at answers (brief-as_given answers rising)

  alone-inside : (j : ℕ) → Contains (map (λ r. r.next) answers ++ []) j → Contains (map (λ r. r.next) answers) j
  alone-inside j c = search (rules, Contains-append_cases)

  pub brief-deep : (d : ℕ → ℕ) → greatest (map d (named (brief_answers answers))) ≡ greatest (map d (named (answers_alone answers)))
  brief-deep d = search (rules, greatest-same, Contains-append_left, brief-inside, brief-outside, alone-inside)

  -- they answer alike where there is an answer
  brief-answer : (q : Point) → IsSome (listed_node answers q) → answer (brief_answers answers) q ≡ answer (answers_alone answers) q
  brief-answer q some = by_listed (listed_node answers q) refl some ∙ sym (or_none (listed_node answers q)) where
    by_listed : (o : Option ℕ) → listed_node answers q ≡ o → IsSome o → answer (brief_answers answers) q ≡ listed_node answers q
    by_listed None e s = cc
    by_listed (Some j) e s = listed-given (brief_answers answers) answers q j (brief-as_given answers rising) e ∙ sym e

  module _ (rule : RuleKind) (b : Grid) (all : AnswersEach rule b answers) where
    met-alike : (N : ℕ → Grid → Type 0) (q : Point) → LosesOr (outcome rule b q)
        (IsSomeAnd (answer (brief_answers answers) q) (λ j. N j (after b q))) ≡ LosesOr (outcome rule b q)
        (IsSomeAnd (answer (answers_alone answers) q) (λ j. N j (after b q)))
    met-alike N q = search (rules, brief-answer)

    count-alike : (m : ℕ → Grid → ℕ) (q : Point) → arrivals_at rule (brief_answers answers) m b q ≡ arrivals_at rule (answers_alone answers)
        m b q
    count-alike m q = search (rules, brief-answer)

    pub brief-accepted : (t : List Node) → AcceptedStart rule t (brief_answers answers) b ≡ AcceptedStart rule t (answers_alone answers) b
    brief-accepted t = λ i. (q : Point) → met-alike (Accepted rule t) q i

    brief-count : (t : List Node) → start_arrivals rule t (brief_answers answers) b ≡ start_arrivals rule t (answers_alone answers) b
    brief-count t = ap (λ (count : Point → ℕ). suc (sum_by count (points_of b))) (λ i q. count-alike (arrivals rule t) q i)

  -- ---- the start that is made

  module _ (t u : List Node) (made : IsMadeFrom t (visits (brief_answers answers)) (start_order t answers) u) where
    named-root : (j : ℕ) → Contains (named (brief_answers answers)) j → Contains (visits (brief_answers answers)) j
    named-root j c = named-visited (brief_answers answers) j c

    made-each : AllByRecursion
        (λ r. IsSomeAnd (answer (renumbered_answers (place_in (start_order t answers)) (brief_answers answers)) r.at) (SaysSame t r.next u))
        answers
    made-each = each answers (brief-as_given answers rising) where
      each : (rs : List Reply) → AnsweredAsGiven (brief_answers answers) rs
          → AllByRecursion (λ r. IsSomeAnd (answer (renumbered_answers (place_in (start_order t answers)) (brief_answers answers)) r.at)
          (SaysSame t r.next u)) rs
      each [] given = tt
      each (r ∷ rs) given = (
        subst (λ (o : Option ℕ). IsSomeAnd o (SaysSame t r.next u))
            (sym (answer-renumbered (place_in (start_order t answers)) (brief_answers answers) r.at
            ∙ ap (option_map (place_in (start_order t answers))) given.0))
            (made.each_root r.next (named-root r.next (answer-contained (brief_answers answers) r.at r.next given.0))).same,
        each rs given.1,
      )

    renumbered-points : (P : Point → Type 0) (f : ℕ → ℕ) (rs : List Reply) → All (λ r. P r.at) rs
        → All (λ r. P r.at) (map (renumbered_reply f) rs)
    renumbered-points P f [] h = All-nil (λ (r : Reply). P r.at)
    renumbered-points P f (r ∷ rs) h = All-cons (λ (r : Reply). P r.at) (renumbered_reply f r) (map (renumbered_reply f) rs)
        (h 0 r (omega arith)) (renumbered-points P f rs (λ i d l. h (suc i) d (omega arith)))

    pub made-of-answers : (a : Answers) → a ≡ renumbered_answers (place_in (start_order t answers)) (brief_answers answers)
        → IsMadeOfAnswers t answers u a
    made-of-answers a is = subst (IsMadeOfAnswers t answers u) (sym is) (record {
      nodes = made.nodes;
      start = refl;
      different = made.different;
      below = ap (list_all (λ j. nat_lt j (length u))) (named-renumbered (place_in (start_order t answers)) (brief_answers answers))
          ∙ all-mapped (named (brief_answers answers)) (λ j c. (made.each_root j (named-root j c)).inside);
      reached = λ k l. let r = made.reached k l in (r.0, start-names r.0 r.1, r.2);
      each =
          All-from_recursion (λ r. IsSomeAnd (answer (renumbered_answers (place_in (start_order t answers)) (brief_answers answers)) r.at)
          (SaysSame t r.next u)) answers made-each;
      deep = said.same_depth ∙ brief-deep (depth t);
      table_points = λ k d l. let p = made.points k d l in
          (p.0, p.1, (p.2.0, brief-inside p.2.0 (visited-named (brief_answers answers) p.2.0 p.2.1), p.2.2), p.3, p.4, p.5);
      start_points = renumbered-points
          (Contains (map (λ s. s.at) answers)) (place_in (start_order t answers)) (brief_answers answers).replies (points-kept answers);
      accepted = λ rule b all. iff_then _ _ _ (said.same_accepted rule b) (iff_by _ _ (brief-accepted rule b all t));
      count = λ rule b all. said.same_arrivals rule b ∙ brief-count rule b all t;
    }) where
      said : StartSaysSame t (brief_answers answers) u (renumbered_answers (place_in (start_order t answers)) (brief_answers answers))
      said = made.each_start (brief_answers answers) named-root

      iff_then : (A B C : Type 0) → A ↔ B → B ↔ C → A ↔ C
      iff_then A B C h k = (λ a. k.0 (h.0 a), λ c. h.1 (k.1 c))

      all-mapped : (js : List ℕ) → ((j : ℕ) → Contains js j → place_in (start_order t answers) j < length u)
          → list_all (λ j. nat_lt j (length u)) (map (place_in (start_order t answers)) js) ≡ true
      all-mapped [] low = refl
      all-mapped (j ∷ js) low = rw (lt-ltb _ _ (low j (0, omega arith, refl))) (all-mapped js (λ i c. low i (suc c.0, omega arith, c.2)))

      mapped-inside : (js ks : List ℕ) → ((j : ℕ) → Contains js j → Contains ks j) → (i : ℕ)
          → Contains (map (place_in (start_order t answers)) js) i → Contains (map (place_in (start_order t answers)) ks) i
      mapped-inside [] ks inside i (k, l, e) = absurd (omega arith)
      mapped-inside (j ∷ js) ks inside i (zero, l, e) = subst (Contains (map (place_in (start_order t answers)) ks)) e
          (contains-map (place_in (start_order t answers)) ks j (inside j (0, omega arith, refl)))
      mapped-inside (j ∷ js) ks inside i (suc k, l, e) =
          mapped-inside js ks (λ m c. inside m (suc c.0, omega arith, c.2)) i (k, omega arith, e)

      start-names : (i : ℕ) → Contains (map (place_in (start_order t answers)) (visits (brief_answers answers))) i
          → Contains (named (renumbered_answers (place_in (start_order t answers)) (brief_answers answers))) i
      start-names i c =
          subst (λ (js : List ℕ). Contains js i) (sym (named-renumbered (place_in (start_order t answers)) (brief_answers answers)))
          (mapped-inside (visits (brief_answers answers)) (named (brief_answers answers)) (λ j d. visited-named (brief_answers answers) j d)
          i c)

    -- it is that of the branches for which the answers stand
    pub made-of-branches : (a : Answers) → a ≡ renumbered_answers (place_in (start_order t answers)) (brief_answers answers)
        → (bs : Branches) → AnswersBranches t answers bs → IsStartOfBranches bs u a
    made-of-branches a is bs given =
        let f : ℕ → ℕ = place_in (start_order t answers) in
        let brief = brief-branches t t answers rising (λ j s h. h) bs given in
        subst (IsStartOfBranches bs u) (sym is) (record {
          table = made.table;
          start = record {
            not_winning = is_winning-renumbered f (brief_answers answers).rest ∙ brief-not_winning answers;
            rising = rising-renumbered f (brief_answers answers).replies ∙ brief-rising answers rising;
          };
          below = (made-of-answers _ refl).below;
          brief = made.brief (brief_answers answers) (replies_of bs) named-root brief.0;
          stands = made.branches (brief_answers answers) bs named-root brief.1;
          different = made.different;
          numbered =
              ap (completed_from u) (visits-renumbered f (λ i. is_in_list i (start_order t answers)) (places-apart (start_order t answers))
              (brief_answers answers)) ∙ made.numbered;
        })

-- ---- the same, as the code reads it

pub brief-is : (answers : List Reply) (o : Option ℕ) (rs : List Reply) (rest : Rest) → o ≡ commonest_next answers
    → rs ≡ answers_beside o answers → rest ≡ rest_of o → brief_answers answers ≡ record { replies = rs; rest = rest }
brief-is answers o rs rest e f g = search rules

pub brief-below : (answers : List Reply) (a : Answers) (k : ℕ) → brief_answers answers ≡ a → All (λ r. r.next < k) answers
    → names_below a k ≡ true
brief-below answers a k is below = ap (λ (x : Answers). names_below x k) (sym is)
    ∙ brief-named (λ j. nat_lt j k) answers (all-next answers k below)

pub visits-low : (a : Answers) (k : ℕ) (roots : List ℕ) → roots ≡ visits a → names_below a k ≡ true → All (λ j. j < k) roots
visits-low a k roots is below = subst (All (λ j. j < k)) (sym is) (all_low (visits a) (visits-below a k below)) where
  all_low : (js : List ℕ) → list_all (λ j. nat_lt j k) js ≡ true → All (λ j. j < k) js
  all_low [] h = All-nil (λ j. j < k)
  all_low (j ∷ js) h = All-cons (λ j. j < k) j js (ltb-true _ _ (and_left (nat_lt j k) _ h)) (all_low js (and_right (nat_lt j k) _ h))

-- the places that are kept are those in the order
places-agree : (t : List Node) → NamesLower t → (answers : List Reply) (places : List ℕ) → ArePlaces (start_order t answers) places
    → renumbered_answers (λ j. slice_index places j) (brief_answers answers) ≡ renumbered_answers (place_in (start_order t answers))
    (brief_answers answers)
places-agree t lower answers places are =
    let a : Answers = brief_answers answers in
    let order : List ℕ = start_order t answers in
    let all : list_all (λ j. is_in_list j order) (named a) ≡ true =
    all_by (λ j. is_in_list j order) (named a) (λ j c. walks-itself t lower (visits a) [] j (named-visited a j c)) in
    let parts = sym (list_all-append (λ j. is_in_list j order) (map (λ (r : Reply). r.next) a.replies) (rest_nodes a.rest)) ∙ all in
    let same : (j : ℕ) → is_in_list j order ≡ true → slice_index places j ≡ place_in order j =
    λ j h. are.placed (place_in order j) j (among-place order j h) in
    let replies = renumbered_replies-agree (λ j. slice_index places j) (place_in order) (λ j. is_in_list j order) same a.replies
    (and_left _ (list_all (λ j. is_in_list j order) (rest_nodes a.rest)) parts) in
    let rest = renumbered_rest-agree (λ j. slice_index places j) (place_in order) (λ j. is_in_list j order) same a.rest
    (and_right (list_all (λ j. is_in_list j order) (map (λ (r : Reply). r.next) a.replies)) _ parts) in
    λ i. record { replies = replies i; rest = rest i }

pub start-made : (t : List Node) → NamesLower t → (answers : List Reply) → is_rising answers ≡ true → (a : Answers) (roots places : List ℕ)
    (u : List Node) (start : Answers) → brief_answers answers ≡ a → roots ≡ visits a → IsMadeFrom t roots (completed_from t roots) u
    → ArePlaces (completed_from t roots) places → start ≡ renumbered_answers (λ j. slice_index places j) a
    → IsMadeOfAnswers t answers u start × ((bs : Branches) → AnswersBranches t answers bs → IsStartOfBranches bs u start)
start-made t lower answers rising a roots places u start is visited made are starts =
    let here : roots ≡ visits (brief_answers answers) = visited ∙ ap visits (sym is) in
    let made_here = subst (λ (js : List ℕ). IsMadeFrom t js (completed_from t js) u) here made in
    let are_here : ArePlaces (start_order t answers) places = subst (λ (js : List ℕ). ArePlaces (completed_from t js) places) here are in
    let said = starts ∙ ap (renumbered_answers (λ j. slice_index places j)) (sym is) ∙ places-agree t lower answers places are_here in
    (made-of-answers answers rising t u made_here start said, made-of-branches answers rising t u made_here start said)
