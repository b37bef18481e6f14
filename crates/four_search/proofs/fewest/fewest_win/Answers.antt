use Rattle.std.proofs.Common.{ap, sym, ◌∙◌, arith, subst, List}
use Rattle.game_rules.proofs.Common.{Grid, wins_by_fours}
use Rattle.four_search.proofs.Common.{four_line, IsSought, IsSoughtOut, IsFourTable}
use Rattle.game_rules.specs.declared.Point.{Point}
use Rattle.four_search.proofs.fewest.fewest_win.Goals as goal

pub returns-in-None-clause-found : goal.returns-in-None-clause-found
returns-in-None-clause-found g c = rw c.in-None.is at c.in_ok-seek_anew.ensures.sought

pub returns-in-Spent-clause-found : goal.returns-in-Spent-clause-found
returns-in-Spent-clause-found g c = rw c.in-Spent.is at c.in_ok-seek_anew.ensures.sought

pub plan_table-requires : goal.plan_table-requires
plan_table-requires g c =
    let same = c.in_ok-seek_anew.ensures.same in
    let is = rw c.in-Win.is at c.in_ok-seek_anew.ensures.sought in
    record {
      lawful = rw same c.in_ok-seek_anew.ensures.lawful;
      wins = ap (λ (w : Grid). wins_by_fours g.R.Rule.KIND c.in-Win.moves w) same ∙ is.wins;
      line = c.as_slice.ensures.items ∙ is.tells ∙ ap (λ (w : Grid). four_line g.R.Rule.KIND c.in-Win.moves w) (sym same);
      few_moves = let within = is.within in let fits = c.requires.depth_fits in omega (arith, within, fits);
    }

pub returns-in_ok-made-in-Win-clause-found : goal.returns-in_ok-made-in-Win-clause-found
returns-in_ok-made-in-Win-clause-found g c =
    let b : Grid = g.V.Seen.position c.args.view.now in
    let same = c.in_ok-seek_anew.ensures.same in
    let is : IsSought g.R.Rule.KIND c.args.depth c.args.budget b c.in-Win.moves c.in-Win.line =
    subst (IsSoughtOut g.R.Rule.KIND c.args.depth c.args.budget b) c.in-Win.is c.in_ok-seek_anew.ensures.sought in
    let there : IsSought g.R.Rule.KIND c.args.depth c.args.budget (g.V.Seen.position c.seek_anew.new.view) c.in-Win.moves
    c.as_slice.result.now =
    subst (λ (l : List Point). IsSought g.R.Rule.KIND c.args.depth c.args.budget (g.V.Seen.position c.seek_anew.new.view) c.in-Win.moves l)
    (sym c.as_slice.ensures.items)
    (subst (λ (w : Grid). IsSought g.R.Rule.KIND c.args.depth c.args.budget w c.in-Win.moves c.in-Win.line) (sym same) is) in
    record {
      fits = is.fits;
      made = subst (λ (w : Grid). IsFourTable g.R.Rule.KIND c.args.depth w c.in_ok-made-in-Win.made) same
          (c.in_ok-made-in-Win.ensures.made c.args.depth c.args.budget there);
    }
