-- Answers to the replies so far: they stay answers as the nodes grow, and one more.
use Rattle.std.proofs.Common.{◌≡◌, ℕ, zero, suc, ◌<◌, ◌≤◌, ◌+◌, max, Bool, true, false, cond, ◌&&◌, refl, sym, ap}
use Rattle.std.proofs.Common.{subst, ◌∙◌, arith, List, [], ◌∷◌, ◌++◌, map, append_assoc, get_or, length, sum_by}
use Rattle.std.specs.List.{AllByRecursion, list_all}
use Rattle.std.proofs.lemmas.List.{map-append}
use Rattle.std.proofs.lemmas.List.Sums.{sum_by-cons}
use Rattle.game_rules.proofs.Common.{Grid, outcome, after, goes_on_with, loses_or, if_goes_on}
use Rattle.game_rules.specs.declared.RuleKind.{RuleKind}
use Rattle.game_rules.specs.declared.Outcome.TheVariants.{GoesOn}
use Rattle.game_rules.specs.declared.Point.{Point}
use Rattle.strategy_graph.specs.declared.Node.{Node}
use Rattle.strategy_graph.specs.declared.Reply.{Reply}
use Rattle.strategy_graph.proofs.Common.{NamesLower, depth, greatest}
use Rattle.strategy_graph.proofs.Answering.{push-all}
use Rattle.strategy_graph.proofs.Greatest.{push-most}
use Rattle.strategy_compiler.specs.declared.wins.WrittenWin.{WrittenWin}
use Rattle.strategy_compiler.proofs.Common.{IsWrittenWin, GrowsBy, IsBeatenBy}
use Rattle.strategy_compiler.proofs.Growing.{win-stays, win-deep}
use Rattle.strategy_compiler.proofs.Replies.{beaten-grown}
use Rattle.line_proof.specs.declared.answers.Answering.{Answering}
use Rattle.line_proof.proofs.Common.{AreAnswers, IsAnswered, answered, going_on}

-- ---- wins as the nodes grow

module _ (rule : RuleKind) (n : ℕ) (c : Grid) (t u : List Node) (k : ℕ) (lower : NamesLower t) (grown : GrowsBy t u k) where
  most-grown : (rs : List Reply) → AllByRecursion (IsBeatenBy rule n c t) rs
      → greatest (map (depth u) (map (λ r. r.next) rs)) ≡ greatest (map (depth t) (map (λ r. r.next) rs))
  most-grown [] h = refl
  most-grown (r ∷ rs) h =
      let here : depth u r.next ≡ depth t r.next = (win-stays rule n (after c r.at) t u k _ lower grown h.0).deep in
      omega (arith, here, most-grown rs h.1)

  answers-grown : (a : Answering) → AreAnswers rule n t c a → AreAnswers rule n u c a
  answers-grown a h = record {
    wins = beaten-grown rule n c t u k lower grown a.replies.items h.wins;
    most = h.most ∙ sym (most-grown a.replies.items h.wins);
  }

-- ---- no answer, and one more

module _ (rule : RuleKind) (n : ℕ) (t : List Node) (c : Grid) (q : Point) (win : WrittenWin) (a a' : Answering)
    (added : a'.replies.items ≡ a.replies.items ++ (record { at = q; next = win.node }) ∷ []) where
  answers-more : a'.moves ≡ max a.moves win.moves → IsWrittenWin rule n (after c q) t win → AreAnswers rule n t c a
      → AreAnswers rule n t c a'
  answers-more most won h =
      let r : Reply = record { at = q; next = win.node } in
      record {
        wins = subst (λ (rs : List Reply). AllByRecursion (IsBeatenBy rule n c t) rs) (sym added)
            (push-all (IsBeatenBy rule n c t) a.replies.items r h.wins (win-deep rule n (after c q) t win won));
        most =
            let same : greatest (map (depth t) (map (λ r. r.next) a'.replies.items)) ≡ greatest
            (map (depth t) (map (λ r. r.next) (a.replies.items ++ r ∷ []))) =
            ap (λ (rs : List Reply). greatest (map (depth t) (map (λ r. r.next) rs))) added in
            omega (arith, push-most (depth t) a.replies.items r, same, won.deep, h.most, most);
      }

-- the reply q goes on to a board that was proved to be won, and its answer was added
pub answered-more : (rule : RuleKind) (n : ℕ) (t u : List Node) (k : ℕ) (c : Grid) (q : Point) (won : Grid → Bool) (win : WrittenWin)
    (a a' : Answering) → NamesLower t → GrowsBy t u k → outcome rule c q ≡ GoesOn
    → (won (after c q) ≡ true) × IsWrittenWin rule n (after c q) u win
    → a'.replies.items ≡ a.replies.items ++ (record { at = q; next = win.node }) ∷ [] → a'.moves ≡ max a.moves win.moves
    → AreAnswers rule n t c a → IsAnswered rule n u c q won a a' true
answered-more rule n t u k c q won win a a' lower grown on told added most h = (
  ap (λ o. loses_or o (won (after c q))) on ∙ told.0,
  answers-more rule n u c q win a a' added most told.1 (answers-grown rule n c t u k lower grown a h),
  ap (λ (rs : List Reply). map (λ r. r.at) rs) added
      ∙ map-append (λ (r : Reply). r.at) a.replies.items ((record { at = q; next = win.node }) ∷ [])
      ∙ ap (λ o. answered a ++ cond (goes_on_with o true) (q ∷ []) []) (sym on),
)

-- ---- what the compiler asks of answers

pub answers-few : (rule : RuleKind) (n : ℕ) (t : List Node) (c : Grid) (a : Answering) → AreAnswers rule n t c a → a.moves ≤ n
answers-few rule n t c a h =
    let low = few a.replies.items h.wins in let e = h.most in omega (arith, low, e) where
      few : (rs : List Reply) → AllByRecursion (IsBeatenBy rule n c t) rs → greatest (map (depth t) (map (λ r. r.next) rs)) ≤ n
      few [] h = omega arith
      few (r ∷ rs) h = let here = h.0.within in let rest = few rs h.1 in omega (arith, here, rest)

pub answers-below : (rule : RuleKind) (n : ℕ) (t : List Node) (c : Grid) (rs : List Reply) → AllByRecursion (IsBeatenBy rule n c t) rs
    → (k : ℕ) (d : Reply) → k < length rs → (get_or rs k d).next < length t
answers-below rule n t c [] h k d l = absurd (omega (arith, l))
answers-below rule n t c (r ∷ rs) h zero d l = h.0.in_compiler
answers-below rule n t c (r ∷ rs) h (suc k) d l = answers-below rule n t c rs h.1 k d (omega (arith, l))

-- ---- one reply more

module _ (rule : RuleKind) (c v : Grid) (same : v ≡ c) (q : Point) (qs rest : List Point) (steps : qs ≡ q ∷ rest) where
  -- the nodes that the points left may need
  pub few-step : (count : Grid → ℕ)
      → sum_by (λ q. if_goes_on (outcome rule c q) (count (after c q))) qs ≡ if_goes_on (outcome rule v q) (count (after v q)) + sum_by
      (λ q. if_goes_on (outcome rule c q) (count (after c q))) rest
  few-step count =
      let f : Point → ℕ = λ q. if_goes_on (outcome rule c q) (count (after c q)) in
      let here : if_goes_on (outcome rule v q) (count (after v q)) ≡ f q =
      ap (λ (w : Grid). if_goes_on (outcome rule w q) (count (after w q))) same in
      let split : sum_by f qs ≡ f q + sum_by f rest = ap (sum_by f) steps ∙ sum_by-cons f q rest in
      omega (arith, here, split)

  pub rest-step : (old new : List Point) → new ≡ old ++ going_on rule v (q ∷ []) → new ++ going_on rule c rest ≡ old ++ going_on rule c qs
  rest-step old new e =
      ap (λ (ps : List Point). ps ++ going_on rule c rest) (e ∙ ap (λ (w : Grid). old ++ going_on rule w (q ∷ [])) same)
      ∙ append_assoc old (going_on rule c (q ∷ [])) (going_on rule c rest)
      ∙ ap (λ (ps : List Point). old ++ ps) (by_test (goes_on_with (outcome rule c q) true) ∙ ap (going_on rule c) (sym steps)) where
        by_test : (r : Bool) → cond r (q ∷ []) [] ++ going_on rule c rest ≡ cond r (q ∷ going_on rule c rest) (going_on rule c rest)
        by_test true = refl
        by_test false = refl

  loses-here : (won : Grid → Bool) → list_all (λ q. loses_or (outcome rule c q) (won (after c q))) qs
      ≡ (loses_or (outcome rule v q) (won (after v q)) && list_all (λ q. loses_or (outcome rule c q) (won (after c q))) rest)
  loses-here won =
      ap (list_all (λ q. loses_or (outcome rule c q) (won (after c q)))) steps
      ∙ sym (ap (λ (w : Grid). loses_or (outcome rule w q) (won (after w q)) && list_all
      (λ q. loses_or (outcome rule c q) (won (after c q))) rest) same)

  pub lose-step : (won : Grid → Bool) (loses : Bool) → loses ≡ loses_or (outcome rule v q) (won (after v q)) → loses ≡ true
      → list_all (λ q. loses_or (outcome rule c q) (won (after c q))) rest ≡ list_all (λ q. loses_or (outcome rule c q) (won (after c q)))
      qs
  lose-step won loses e all =
      sym (loses-here won ∙ ap (λ r. r && list_all (λ q. loses_or (outcome rule c q) (won (after c q))) rest) (sym e ∙ all))

  -- where it does not lose, not all do
  pub fails-step : (won : Grid → Bool) → loses_or (outcome rule v q) (won (after v q)) ≡ false
      → list_all (λ q. loses_or (outcome rule c q) (won (after c q))) qs ≡ false
  fails-step won e =
      loses-here won ∙ ap (λ r. r && list_all (λ q. loses_or (outcome rule c q) (won (after c q))) rest) e
