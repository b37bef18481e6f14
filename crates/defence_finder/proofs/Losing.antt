-- Where no move holds the other side wins, whatever is played first, and so does the start that is made of the answers.
use Rattle.std.proofs.Common.{◌≡◌, ℕ, suc, Bool, true, false, ◌&&◌, ◌||◌, not, refl, ap, subst, ◌∙◌, arith}
use Rattle.std.proofs.Common.{List, [], ◌∷◌, map, IsSome, Contains, All, rules}
use Rattle.std.specs.List.{list_any, list_all, AllByRecursion}
use Rattle.std.proofs.lemmas.List.Elements.{All-contains, All-from_recursion}
use Rattle.game_rules.proofs.Common.{Grid, is_on, points_of, is_same_point, outcome, after, LosesOr, WinsWithin, WinsByFours}
use Rattle.game_rules.proofs.Common.{wins_by_fours, has_five}
use Rattle.game_rules.specs.declared.RuleKind.{RuleKind}
use Rattle.game_rules.specs.declared.Outcome.{Outcome}
use Rattle.game_rules.specs.declared.Outcome.TheVariants.{Refused, Wins, Fouls, Draws, GoesOn}
use Rattle.game_rules.specs.declared.Point.{Point}
use Rattle.game_rules.proofs.Boards.{is_empty-on, and_left, and_right}
use Rattle.game_rules.proofs.Games.{LosesOr-map, test-WinsUnder, WinsUnder-WinsWithin}
use Rattle.game_rules.proofs.Outcomes.{draws-last, goes_on-is, tight, wins-on}
use Rattle.game_rules.proofs.PointLists.{any-filter, other_first}
use Rattle.game_rules.proofs.Points.{filter-none, filter-passes, is_same_point-itself, points-found}
use Rattle.game_rules.proofs.Positions.{GoesOn-on}
use Rattle.strategy_graph.specs.declared.Reply.{Reply}
use Rattle.strategy_graph.specs.declared.Node.{Node}
use Rattle.strategy_graph.proofs.Answering.{next-all, replies-on}
use Rattle.strategy_graph.proofs.Common.{Answers, listed_node, NamesOnBoard, RepliesOn, TableOnBoard}
use Rattle.strategy_compiler.proofs.Common.{AnswersBranches, AnswersEach, AnswersWin, IsMadeOfAnswers, NamesPointsFrom, StaysOnBoard}
use Rattle.strategy_compiler.proofs.Common.{IsBeatenBy}
use Rattle.strategy_compiler.proofs.Forks.{IsAnswer, answer-by-win, answers-win, mapped-all}
use Rattle.defence_finder.proofs.Common.{holds_or, is_defence, defences_of, is_beaten, AreBeaten, IsLostStart, IsPlanned, plans_after}
use Rattle.defence_finder.proofs.Common.{NoDefenceLoses, BeatenRepliesArePlanned, BeatenRepliesWin}

-- ---- lists of replies

-- a reply that is among those of a list is listed
listed-some : (q : Point) (rs : List Reply) → list_any (is_same_point q) (map (λ r. r.at) rs) ≡ true → IsSome (listed_node rs q)
listed-some q [] h = cc
listed-some q (r ∷ rs) h = search (rules, other_first, listed-some q rs)

-- ---- where no move holds

module _ (rule : RuleKind) (n : ℕ) (b : Grid) (none : defences_of rule n b ≡ []) where
  undefended : (q : Point) → is_on b q ≡ true → is_defence rule n b q ≡ true → ⊥
  undefended q on h = search (rules, filter-none, points-found)

  told : (q : Point) (o : Outcome) → outcome rule b q ≡ o → is_defence rule n b q ≡ holds_or o (not (wins_by_fours rule n (after b q)))
  told q o e = ap (λ (o : Outcome). holds_or o (not (wins_by_fours rule n (after b q)))) e

  -- each move that goes on is beaten
  pub beaten-on : (q : Point) → outcome rule b q ≡ GoesOn → wins_by_fours rule n (after b q) ≡ true
  beaten-on q e = by_test (wins_by_fours rule n (after b q)) refl where
    by_test : (w : Bool) → wins_by_fours rule n (after b q) ≡ w → w ≡ true
    by_test true h = refl
    by_test false h = absurd (undefended q (GoesOn-on rule b q e) (told q GoesOn e ∙ ap not h))

  pub loses-each : (q : Point) → LosesOr (outcome rule b q) (WinsByFours rule n (after b q))
  loses-each q = by_outcome (outcome rule b q) refl where
    by_outcome : (o : Outcome) → outcome rule b q ≡ o → LosesOr o (WinsByFours rule n (after b q))
    by_outcome Refused e = tt
    by_outcome Wins e = undefended q (wins-on rule b q e) (told q Wins e)
    by_outcome (Fouls f) e = tt
    by_outcome Draws e = undefended q (is_empty-on b q (draws-last rule b q e).0) (told q Draws e)
    by_outcome GoesOn e = test-WinsUnder (has_five rule) rule n (after b q) (beaten-on q e)

  -- the answers to the beaten replies win
  module _ (t : List Node) (bad : List Reply) (beaten : AreBeaten rule n b t bad) where
    listed : (q : Point) → outcome rule b q ≡ GoesOn → list_any (is_same_point q) (map (λ r. r.at) bad) ≡ true
    listed q e = search (rules, beaten-on, is_same_point-itself, any-filter, points-found, GoesOn-on)

    each-on : (rs : List Reply) → list_all (is_beaten rule n b) (map (λ r. r.at) rs) ≡ true → AllByRecursion (IsBeatenBy rule n b t) rs
        → AllByRecursion (IsAnswer rule n b t) rs
    each-on [] on h = tt
    each-on (r ∷ rs) on h =
        search (answer-by-win, goes_on-is, and_left, and_right, each-on rs (and_right (is_beaten rule n b r.at) _ on) h.1)

    bad-wins : AnswersWin rule n b t bad
    bad-wins = answers-win rule n b t bad (λ q. tight (outcome rule b q) (WinsByFours rule n (after b q)) (loses-each q)) listed
        (each-on bad (ap (list_all (is_beaten rule n b)) beaten.points ∙ filter-passes (is_beaten rule n b) (points_of b)) beaten.each)

    answered-each : AnswersEach rule b bad
    answered-each q e = listed-some q bad (listed q e)

    named-on : (m : Node) → NamesPointsFrom t (map (λ r. r.next) bad) m → NamesOnBoard b m
    named-on m p =
        let there = next-all (StaysOnBoard b t) bad bad-wins.stay p.2.0 p.2.1 p.0 p.1 p.2.2 p.3 in
        record { attack = ap (is_on b) p.4 ∙ there.attack; replies = replies-on b m.replies p.1.replies p.5 there.replies }

    table-on : (u : List Node) → All (NamesPointsFrom t (map (λ r. r.next) bad)) u → TableOnBoard b u
    table-on [] all = tt
    table-on (m ∷ u) all = (named-on m (all 0 m (omega arith)), table-on u (λ k d l. all (suc k) d (omega arith)))

    given-on : (p : Point) → Contains (map (λ s. s.at) bad) p → is_on b p ≡ true
    given-on p c = All-contains (λ (x : Point). is_on b x ≡ true) (map (λ s. s.at) bad) p
        (All-from_recursion (λ (x : Point). is_on b x ≡ true) (map (λ s. s.at) bad)
        (mapped-all (λ (x : Point). is_on b x ≡ true) (λ (s : Reply). s.at) bad bad-wins.on_board)) c

    start-on : (rs : List Reply) → All (λ r. Contains (map (λ s. s.at) bad) r.at) rs → RepliesOn b rs
    start-on [] all = tt
    start-on (r ∷ rs) all = (given-on r.at (all 0 r (omega arith)), start-on rs (λ k d l. all (suc k) d (omega arith)))

    pub lost-start : (u : List Node) (a : Answers) → IsMadeOfAnswers t bad u a → IsLostStart rule n b u a
    lost-start u a made = record {
      accepted = (made.accepted rule b answered-each).1 bad-wins.accepted;
      within = let low = bad-wins.within in let same = made.deep in omega (arith, low, same);
      table_on_board = table-on u made.table_points;
      replies_on_board = start-on a.replies made.start_points;
    }

pub no_defence-loses : NoDefenceLoses
no_defence-loses rule n b none q = won (outcome rule b q) (loses-each rule n b none q) where
  won : (o : Outcome) → LosesOr o (WinsByFours rule n (after b q)) → LosesOr o (WinsWithin rule n (after b q))
  won o h =
      LosesOr-map o (WinsByFours rule n (after b q)) (WinsWithin rule n (after b q))
      (WinsUnder-WinsWithin (has_five rule) rule n (after b q)) h

pub beaten-replies-win : BeatenRepliesWin
beaten-replies-win rule n b t bad u a none beaten made = lost-start rule n b none t bad beaten u a made

pub beaten-replies-planned : BeatenRepliesArePlanned
beaten-replies-planned rule n b t bad beaten =
    subst (λ (qs : List Point). AnswersBranches t bad (plans_after rule n b qs)) beaten.points (stand bad beaten.planned) where
      stand : (rs : List Reply) → AllByRecursion (IsPlanned rule n b t) rs
          → AnswersBranches t rs (plans_after rule n b (map (λ r. r.at) rs))
      stand [] h = tt
      stand (r ∷ rs) h = (refl, h.0, stand rs h.1)
