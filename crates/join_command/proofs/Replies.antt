-- What becomes of replies, one after another.
use Rattle.std.proofs.Common.{◌≡◌, ℕ, List, [], ◌∷◌, ◌++◌, map, ap, subst, sym, ◌∙◌, true, Option, Some, None, slice_get, append-nil}
use Rattle.std.proofs.Common.{append_assoc, filter}
use Rattle.std.proofs.lemmas.List.{map-append}
use Rattle.std.specs.List.{AllByRecursion, list_all}
use Rattle.join_command.proofs.Common.{Grid, after, goes_on, outcome, points_of, RuleKind, Outcome, GoesOn, Point, TableFile, Reply}
use Rattle.join_command.proofs.Common.{AnswersAt, IsOpenReply, MayBeAsked, OpenOr, IsAnswerTold, AreAnswered, IsAnswered}
use Rattle.game_rules.proofs.Common.{loses_or}
use Rattle.game_rules.proofs.Games.{each_reply}
use Rattle.game_rules.proofs.Tests.{all_push}

-- a reply that goes on to a board at which no file has an answer is open
pub open-by : (rule : RuleKind) (files : List TableFile) (b c : Grid) (q : Point) → outcome rule b q ≡ GoesOn → c ≡ after b q
    → IsAnswerTold rule files c None → IsOpenReply rule files b q
open-by rule files b c q go there none = subst (λ (o : Outcome). OpenOr o (IsAnswerTold rule files (after b q) None))
    (sym go) (subst (λ (d : Grid). IsAnswerTold rule files d None) there none)

-- what may be asked after a reply may be asked before it
pub asked-before : (b : Grid) (q : Point) (file : TableFile) (i : ℕ) → MayBeAsked (after b q) file i → MayBeAsked b file i
asked-before b q file i h = record { wide = h.wide; high = h.high; root = h.root }

-- What is known once some replies are met: of those left, and of the answers so far.
pub record MetUpTo (rule : RuleKind) (files : List TableFile) (roots : List (Option ℕ)) (b : Grid) (answers : List Reply)
    (left : List Point) : Type 0 where
  pub lost : list_all (λ q. loses_or (outcome rule b q) true) left ≡ list_all (λ q. loses_or (outcome rule b q) true) (points_of b)
  pub points : map (λ r. r.at) answers ++ filter (λ q. goes_on (outcome rule b q)) left
      ≡ filter (λ q. goes_on (outcome rule b q)) (points_of b)
  pub each : AllByRecursion (IsAnswered rule files roots b) answers

module _ (rule : RuleKind) (files : List TableFile) (roots : List (Option ℕ)) (b : Grid) where
  pub met-none : (answers : List Reply) (left : List Point) → answers ≡ [] → left ≡ points_of b → MetUpTo rule files roots b answers left
  met-none answers left none all = subst (λ (rs : List Reply). MetUpTo rule files roots b rs left) (sym none) (record {
    lost = ap (list_all (λ q. loses_or (outcome rule b q) true)) all;
    points = ap (filter (λ q. goes_on (outcome rule b q))) all;
    each = tt;
  })

  module _ (answers : List Reply) (left : List Point) (q : Point) (rest : List Point) (met : MetUpTo rule files roots b answers left)
      (step : left ≡ q ∷ rest) where
    now : MetUpTo rule files roots b answers (q ∷ rest)
    now = subst (MetUpTo rule files roots b answers) step met

    -- a reply that goes on, with its answer
    pub met-more : (answers' : List Reply) (next k : ℕ) → outcome rule b q ≡ GoesOn → AnswersAt rule files (after b q) k
        → slice_get roots k ≡ Some (Some next) → answers' ≡ answers ++ (record { at = q; next = next }) ∷ []
        → MetUpTo rule files roots b answers' rest
    met-more answers' next k go by there pushed =
        let met = now in
        let r : Reply = record { at = q; next = next } in
        subst (λ (rs : List Reply). MetUpTo rule files roots b rs rest) (sym pushed) (record {
          lost = rw go at met.lost;
          points = ap
              (λ (ps : List Point). ps ++ filter (λ q. goes_on (outcome rule b q)) rest) (map-append (λ (r : Reply). r.at) answers (r ∷ []))
              ∙ append_assoc (map (λ r. r.at) answers) (q ∷ []) (filter (λ q. goes_on (outcome rule b q)) rest) ∙ (rw go at met.points);
          each = all_push (IsAnswered rule files roots b) answers r met.each (go, (k, by, there));
        })

  pub met-all : (answers : List Reply) (left : List Point) → MetUpTo rule files roots b answers left → left ≡ []
      → AreAnswered rule files roots b answers
  met-all answers left met end =
      let now = subst (MetUpTo rule files roots b answers) end met in
      record {
        lost = each_reply rule b (λ c. true) (λ c. Unit {0}) (λ c e. tt) (sym now.lost);
        points = sym (append-nil (map (λ r. r.at) answers)) ∙ now.points;
        each = now.each;
      }
