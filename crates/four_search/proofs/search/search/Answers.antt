use Rattle.std.proofs.Common.{◌-◌, ◌<◌, ap, sym, ◌∙◌, arith}
use Rattle.game_rules.proofs.Common.{has_fouls, other}
use Rattle.four_search.specs.declared.search.Found.TheVariants.{Win}
use Rattle.four_search.proofs.Trying.{found-five, found-last, found-nothing}
use Rattle.four_search.proofs.search.search.Goals as goal

pub returns-then-limits-eq0-clause-found : goal.returns-then-limits-eq0-clause-found
returns-then-limits-eq0-clause-found g c = found-nothing _ _ _ _ c.if-limits-eq0.true

pub returns-in-Five-clause-found : goal.returns-in-Five-clause-found
returns-in-Five-clause-found g c =
    let five = rw c.in-Five.is at c.requires.root in
    let fits = c.if-limits-eq0.false in
    ap (Win (c.args.limits.budget - 1)) c.new.ensures.empty ∙ found-five _ _ _ _ five c.requires.some (omega (arith, fits))

pub try_four_points-requires : goal.try_four_points-requires
try_four_points-requires g c =
    let root = rw c.in-NoFive.is at c.requires.root in
    let some : 0 < c.args.limits.budget = let more = c.if-limits-eq0.false in omega (arith, more) in
    record {
      some = c.requires.some;
      lawful = c.requires.lawful;
      some_budget = some;
      none = root.none;
      threat = root.told;
      four_points = c.as_slice.ensures.value ∙ root.listed;
    }

pub returns-then-not-has_fouls-clause-found : goal.returns-then-not-has_fouls-clause-found
returns-then-not-has_fouls-clause-found g c =
    let root = rw c.in-NoFive.is at c.requires.root in
    let calm = ap (λ s. has_fouls g.R.Rule.KIND (other s)) (sym c.side.ensures.side)
    ∙ ap (has_fouls g.R.Rule.KIND) (sym c.other.ensures.other) ∙ sym c.if-not-has_fouls.ensures.fouls in
    found-last _ _ c.requires.lawful root.none calm _ _ c.if-limits-eq1.true (let fits = c.if-limits-eq0.false in omega (arith, fits))
