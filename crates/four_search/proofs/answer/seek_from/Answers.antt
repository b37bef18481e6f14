use Rattle.std.proofs.Common.{rules, ◌≡◌, ◌+◌, ◌-◌, ◌<◌, ap, sym, ◌∙◌, arith, ℕ}
use Rattle.game_rules.proofs.Common.{Grid}
use Rattle.game_rules.proofs.Games.{no-win}
use Rattle.four_search.specs.declared.search.Found.TheVariants.{Win, NoWin, Spent}
use Rattle.four_search.specs.Searching.{found_at}
use Rattle.four_search.proofs.Deepening.{win-here, win-cost, cost-above, none-more, left-more, end-cost, end-none, found-win}
use Rattle.four_search.proofs.Rounds.{looked-is, alike-tells}
use Rattle.four_search.proofs.answer.seek_from.Goals as goal

pub search-requires : goal.search-requires
search-requires g c =
    let back = sym c.loop-done.invariant.same in
    record {
      some = omega arith;
      lawful = rw back at c.side.ensures.lawful;
      root = rw c.loop-done.invariant.same c.loop-done.invariant.root;
    }

pub returns-in-Spent-clause-sought : goal.returns-in-Spent-clause-sought
returns-in-Spent-clause-sought g c =
    let b : Grid = g.V.Seen.position c.args.view.now in
    let d : ℕ = c.loop-done.done in
    let found : Spent ≡ found_at g.R.Rule.KIND (d + 1) b c.loop-done.left =
    sym c.in-Spent.is ∙ c.in_ok-search.ensures.found ∙ ap (λ (w : Grid). found_at g.R.Rule.KIND (d + 1) w c.loop-done.left)
    c.loop-done.invariant.same in
    cost-above _ _ _ _ _ _ c.loop-done-test.true c.loop-done.invariant.none c.loop-done.invariant.spent found

pub returns-in-Win-clause-sought : goal.returns-in-Win-clause-sought
returns-in-Win-clause-sought g c =
    let b : Grid = g.V.Seen.position c.args.view.now in
    let d : ℕ = c.loop-done.done in
    let found : Win c.in-Win.left c.in-Win.line ≡ found_at g.R.Rule.KIND (d + 1) b c.loop-done.left =
    sym c.in-Win.is ∙ c.in_ok-search.ensures.found ∙ ap (λ (w : Grid). found_at g.R.Rule.KIND (d + 1) w c.loop-done.left)
    c.loop-done.invariant.same in
    let within = c.loop-done-test.true in
    record {
      some = omega arith;
      within = omega (arith, within);
      wins = win-here _ _ c.args.depth _ _ _ within c.loop-done.invariant.none c.loop-done.invariant.spent c.in-Win.left c.in-Win.line
          found;
      no_fewer = λ k low less. c.loop-done.invariant.none k low (omega (arith, less));
      tells = (found-win _ _ _ c.loop-done.left c.in-Win.left _ found).2;
      fits = win-cost _ _ _ _ _ _ within c.loop-done.invariant.none c.loop-done.invariant.spent c.in-Win.left c.in-Win.line found;
    }

pub loop-done-preserved : goal.loop-done-preserved
loop-done-preserved g c =
    let b : Grid = g.V.Seen.position c.args.view.now in
    let d : ℕ = c.loop-done.done in
    let found : NoWin c.in-NoWin.rest ≡ found_at g.R.Rule.KIND (d + 1) b c.loop-done.left =
    sym c.in-NoWin.is ∙ c.in_ok-search.ensures.found ∙ ap (λ (w : Grid). found_at g.R.Rule.KIND (d + 1) w c.loop-done.left)
    c.loop-done.invariant.same in
    record {
      same = c.search.ensures.same ∙ c.loop-done.invariant.same;
      root = c.loop-done.invariant.root;
      none = none-more _ _ _ _ _ _ c.loop-done-test.true c.loop-done.invariant.none c.loop-done.invariant.spent c.in-NoWin.rest found;
      spent = left-more _ _ _ _ _ _ c.loop-done-test.true c.loop-done.invariant.none c.loop-done.invariant.spent _ found;
      first = λ e. absurd (omega (arith, e));
      last = λ some. (looked-is _ _ _ _ _ _ c.loop-done-test.true c.side.ensures.lawful c.loop-done.invariant.none
          c.loop-done.invariant.spent _ found).2;
    }

pub returns-clause-sought : goal.returns-clause-sought
returns-clause-sought g c =
    let high = c.loop-done.auto.done-end in
    let end : c.loop-done.done ≡ c.args.depth = let low = c.loop-done-test.false in omega (arith, high, low) in
    let none = end-none _ _ _ _ _ _ end c.loop-done.invariant.none c.loop-done.invariant.spent c.requires.some_depth in
    record {
      none = none;
      no_win = no-win _ _ _ none;
      fits = end-cost _ _ _ _ _ _ end c.loop-done.invariant.none c.loop-done.invariant.spent;
    }

pub all_alike-requires : goal.all_alike-requires
all_alike-requires g c =
    let b : Grid = g.V.Seen.position c.args.view.now in
    let d : ℕ = c.loop-done.done in
    let found : NoWin c.in-NoWin.rest ≡ found_at g.R.Rule.KIND (d + 1) b c.loop-done.left =
    sym c.in-NoWin.is ∙ c.in_ok-search.ensures.found ∙ ap (λ (w : Grid). found_at g.R.Rule.KIND (d + 1) w c.loop-done.left)
    c.loop-done.invariant.same in
    let some : 0 < c.loop-done.left - c.in-NoWin.rest =
    (looked-is _ _ _ _ _ _ c.loop-done-test.true c.side.ensures.lawful c.loop-done.invariant.none c.loop-done.invariant.spent _ found).1 in
    search rules

pub returns-then-looked-before-clause-sought : goal.returns-then-looked-before-clause-sought
returns-then-looked-before-clause-sought g c =
    let b : Grid = g.V.Seen.position c.args.view.now in
    let d : ℕ = c.loop-done.done in
    let found : NoWin c.in-NoWin.rest ≡ found_at g.R.Rule.KIND (d + 1) b c.loop-done.left =
    sym c.in-NoWin.is ∙ c.in_ok-search.ensures.found ∙ ap (λ (w : Grid). found_at g.R.Rule.KIND (d + 1) w c.loop-done.left)
    c.loop-done.invariant.same in
    alike-tells _ _ _ _ _ _ c.loop-done-test.true c.side.ensures.lawful c.loop-done.invariant.none c.loop-done.invariant.spent _ found _
    c.loop-done.invariant.first c.loop-done.invariant.last c.if-looked-before.true _ c.all_alike.ensures.answer
