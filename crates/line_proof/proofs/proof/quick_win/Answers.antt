use Rattle.std.proofs.Common.{inl, inr, ◌≡◌, ◌↔◌, ℕ, ◌≤◌, Bool, true, false, refl, sym, ap, ◌∙◌, arith}
use Rattle.std.proofs.Common.{List, [], ◌∷◌, ◌++◌, length, min}
use Rattle.std.proofs.lemmas.Bool.{cases_lt}
use Rattle.game_rules.proofs.Common.{Grid, IsPosition, wins_by_fours}
use Rattle.game_rules.specs.declared.RuleKind.{RuleKind}
use Rattle.strategy_graph.specs.declared.Node.{Node}
use Rattle.strategy_graph.proofs.Answering.{nodes-append_nil}
use Rattle.strategy_compiler.specs.declared.wins.WrittenWin.{WrittenWin}
use Rattle.strategy_compiler.proofs.Common.{GrowsBy}
use Rattle.strategy_compiler.proofs.Growing.{win-within}
use Rattle.four_search.specs.FourGame.{four_cost}
use Rattle.four_search.specs.declared.answer.FourAnswer.{FourAnswer}
use Rattle.four_search.specs.declared.answer.FourAnswer.TheVariants.{Win, None}
use Rattle.four_search.proofs.Costs.{cost-fits}
use Rattle.line_proof.proofs.proof.quick_win.Goals as goal

-- within two moves no budget is spent, so there is a win by fours where one is answered
won-by : (rule : RuleKind) (b : Grid) → IsPosition rule b → (n : ℕ) → n ≤ 2 → (budget : ℕ) → 1026 ≤ budget → (a : FourAnswer)
    (win : WrittenWin) → a ≡ Win win → (a ≡ None) ↔ ((wins_by_fours rule n b ≡ false) × (four_cost rule n b ≤ budget))
    → wins_by_fours rule n b ≡ true
won-by rule b lawful n low budget high a win is none = by_test (wins_by_fours rule n b) refl where
  fits : four_cost rule n b ≤ budget
  fits = elim (cases_lt budget (four_cost rule n b)) [
    | inl more ↦ absurd (cost-fits rule b lawful n budget low high more)
    | inr less ↦ less
  ]

  by_test : (r : Bool) → wins_by_fours rule n b ≡ r → r ≡ true
  by_test true e = refl
  by_test false e = let no : a ≡ None = none.1 (e, fits) in absurd (cc)

no-more : (t u : List Node) → GrowsBy t u 0 → u ≡ t
no-more t u grown = grown.is ∙ ap (λ (more : List Node). t ++ more) (by_list grown.added grown.few) ∙ nodes-append_nil t where
  by_list : (more : List Node) → length more ≤ 0 → more ≡ []
  by_list [] few = refl
  by_list (n ∷ more) few = absurd (omega arith)

pub unreachable-requires : goal.unreachable-requires
unreachable-requires g c =
    let two = c.min.ensures in
    cost-fits _ _ c.side.ensures.lawful _ 18446744073709551615 (omega (arith, two)) (omega arith)
    (c.in_ok-found.ensures.spent.0 c.in-Spent.is)

pub returns-in-Win-clause-found : goal.returns-in-Win-clause-found
returns-in-Win-clause-found g c =
    let b : Grid = g.V.Seen.position c.args.view.now in
    let two : c.min.result ≡ min c.args.moves 2 = c.min.ensures in
    let won = rw c.in-Win.is at c.in_ok-found.ensures.win in (
      ap (λ (k : ℕ). wins_by_fours g.R.Rule.KIND k b) (sym two)
          ∙ won-by _ _ c.side.ensures.lawful _ (omega (arith, two)) 18446744073709551615 (omega arith) _ _ c.in-Win.is
          c.in_ok-found.ensures.none,
      win-within _ _ _ _ _ _ (omega (arith, two)) won.written,
    )

pub returns-in-None-clause-found : goal.returns-in-None-clause-found
returns-in-None-clause-found g c =
    let b : Grid = g.V.Seen.position c.args.view.now in
    let two : c.min.result ≡ min c.args.moves 2 = c.min.ensures in (
      ap (λ (k : ℕ). wins_by_fours g.R.Rule.KIND k b) (sym two) ∙ (c.in_ok-found.ensures.none.0 c.in-None.is).0,
      no-more _ _ (rw c.in-None.is at c.in_ok-found.ensures.added),
    )
