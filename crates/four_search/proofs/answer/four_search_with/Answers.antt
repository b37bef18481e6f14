use Rattle.std.proofs.Common.{rules, ◌≡◌, ◌↔◌, ℕ, ◌*◌, ◌<◌, ◌≤◌, true, false, Bool, ap, sym, ◌∙◌, cond}
use Rattle.std.proofs.Common.{arith, refl, OnErr, Result, Ok, Err, subst}
use Rattle.game_rules.proofs.Common.{Grid, wins_by_fours}
use Rattle.strategy_compiler.specs.declared.wins.WrittenWin.{WrittenWin}
use Rattle.strategy_compiler.proofs.Growing.{grows-more}
use Rattle.four_search.specs.declared.answer.FourAnswer.TheVariants.{Win, None, Spent}
use Rattle.four_search.proofs.Common.{four_line, IsSought, IsSoughtOut}
use Rattle.four_search.proofs.Written.{sought-win, sought-limit}
use Rattle.strategy_compiler.proofs.Common.{GrowsBy}
use Rattle.four_search.proofs.answer.four_search_with.Goals as goal

-- an answer is told where what it says holds, and no other is
module _ (budget cost : ℕ) (wins : Bool) where
  win-not_none : (win : WrittenWin) → wins ≡ true → (Win win ≡ None) ↔ ((wins ≡ false) × (cost ≤ budget))
  win-not_none win won = (λ e. absurd (cc), λ h. absurd (let lost : true ≡ false = sym won ∙ h.0 in cc))

  win-not_spent : (win : WrittenWin) → cost ≤ budget → (Win win ≡ Spent) ↔ (budget < cost)
  win-not_spent win fits = (λ e. absurd (cc), λ h. absurd (omega arith))

  none-not_spent : cost ≤ budget → (None ≡ Spent) ↔ (budget < cost)
  none-not_spent fits = (λ e. absurd (cc), λ h. absurd (omega arith))

  spent-not_none : budget < cost → (Spent ≡ None) ↔ ((wins ≡ false) × (cost ≤ budget))
  spent-not_none high = (λ e. absurd (cc), λ h. absurd (let low = h.1 in omega arith))

twice : (moves depth : ℕ) → moves ≤ depth → 2 * moves ≤ 2 * depth
twice moves depth within = omega arith

pub compile-requires : goal.compile-requires
compile-requires g c =
    let is = rw c.in-Ok-Win.field-0-is at c.in-Ok-Win.ensures.sought in
    record {
      wins = ap (λ (w : Grid). wins_by_fours g.R.Rule.KIND c.in-Ok-Win.moves w) c.seek.ensures.same ∙ is.wins;
      line = c.as_slice.ensures.items ∙ is.tells ∙ ap (λ (w : Grid). four_line g.R.Rule.KIND c.in-Ok-Win.moves w) (sym c.seek.ensures.same);
    }

pub returns-in_err-node-in-Ok-Win-clause-full : goal.returns-in_err-node-in-Ok-Win-clause-full
returns-in_err-node-in-Ok-Win-clause-full g c =
    let b : Grid = g.V.Seen.position c.args.view.now in
    let is = rw c.in-Ok-Win.field-0-is at c.in-Ok-Win.ensures.sought in
    let wins = sought-limit g.R.Rule.KIND b c.args.depth c.args.budget c.in-Ok-Win.moves c.in-Ok-Win.line is in
    let fits = is.fits in
    let within = is.within in
    let many = c.in_err-node-in-Ok-Win.ensures.writes.full in
    search rules

any-err : {A E P : Type 0} (r : Result A E) → P → OnErr r P
any-err (Ok x) p = tt
any-err (Err e) p = p

pub returns-in_err-node-in-Ok-Win-clause-kept : goal.returns-in_err-node-in-Ok-Win-clause-kept
returns-in_err-node-in-Ok-Win-clause-kept g c =
    let b : Grid = g.V.Seen.position c.args.view.now in
    let is : IsSought g.R.Rule.KIND c.args.depth c.args.budget b c.in-Ok-Win.moves c.in-Ok-Win.line =
    subst (IsSoughtOut g.R.Rule.KIND c.args.depth c.args.budget b) c.in-Ok-Win.field-0-is c.in-Ok-Win.ensures.sought in
    let wins = sought-limit _ _ _ c.args.budget c.in-Ok-Win.moves c.in-Ok-Win.line is in
    let grown = grows-more _ _ _ _ c.in_err-node-in-Ok-Win.ensures.writes.grows
    (twice _ _ is.within) in
    any-err _
    (subst (λ (r : Bool). GrowsBy c.args.compiler.now c.compile.new.compiler (cond r (2 * c.args.depth) 0)) (sym wins) grown)

pub returns-in_ok-node-in-Ok-Win-clause-win : goal.returns-in_ok-node-in-Ok-Win-clause-win
returns-in_ok-node-in-Ok-Win-clause-win g c =
    let is = rw c.in-Ok-Win.field-0-is at c.in-Ok-Win.ensures.sought in
    let stands = rw c.seek.ensures.same at c.in_ok-node-in-Ok-Win.ensures.stands in
    sought-win _ _ _ c.args.budget _ c.in-Ok-Win.line is c.in-Ok-Win.ensures.lawful _ c.in_ok-node-in-Ok-Win.ensures.writes.compiled.table _
    c.in_ok-node-in-Ok-Win.ensures.in_compiler stands

pub returns-in_ok-node-in-Ok-Win-clause-none : goal.returns-in_ok-node-in-Ok-Win-clause-none
returns-in_ok-node-in-Ok-Win-clause-none g c =
    let b : Grid = g.V.Seen.position c.args.view.now in
    let is = rw c.in-Ok-Win.field-0-is at c.in-Ok-Win.ensures.sought in
    let wins = sought-limit g.R.Rule.KIND b c.args.depth c.args.budget c.in-Ok-Win.moves c.in-Ok-Win.line is in
    win-not_none _ _ _ _ wins

pub returns-in_ok-node-in-Ok-Win-clause-spent : goal.returns-in_ok-node-in-Ok-Win-clause-spent
returns-in_ok-node-in-Ok-Win-clause-spent g c =
    let is = rw c.in-Ok-Win.field-0-is at c.in-Ok-Win.ensures.sought in
    win-not_spent _ _ true _ is.fits

pub returns-in-Ok-None-clause-none : goal.returns-in-Ok-None-clause-none
returns-in-Ok-None-clause-none g c =
    let none = rw c.in-Ok-None.field-0-is at c.in-Ok-None.ensures.sought in
    (λ e. (none.none, none.fits), λ h. refl)

pub returns-in-Ok-None-clause-no_win : goal.returns-in-Ok-None-clause-no_win
returns-in-Ok-None-clause-no_win g c =
    let none = rw c.in-Ok-None.field-0-is at c.in-Ok-None.ensures.sought in
    λ e. none.no_win

pub returns-in-Ok-None-clause-spent : goal.returns-in-Ok-None-clause-spent
returns-in-Ok-None-clause-spent g c =
    let none = rw c.in-Ok-None.field-0-is at c.in-Ok-None.ensures.sought in
    none-not_spent _ _ true none.fits

pub returns-in-Ok-Spent-clause-none : goal.returns-in-Ok-Spent-clause-none
returns-in-Ok-Spent-clause-none g c =
    let above = rw c.in-Ok-Spent.field-0-is at c.in-Ok-Spent.ensures.sought in
    spent-not_none _ _ _ above

pub returns-in-Ok-Spent-clause-spent : goal.returns-in-Ok-Spent-clause-spent
returns-in-Ok-Spent-clause-spent g c =
    let above = rw c.in-Ok-Spent.field-0-is at c.in-Ok-Spent.ensures.sought in
    (λ e. above, λ h. refl)
