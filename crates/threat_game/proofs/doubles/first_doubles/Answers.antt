use Rattle.std.proofs.Common.{rules, ◌≡◌, refl, ap, subst, sym, ◌∙◌, arith, List, [], ◌∷◌}
use Rattle.std.specs.List.{filter}
use Rattle.std.proofs.lemmas.Grind.{common_steps}
use Rattle.game_rules.specs.Grid.{Grid}
use Rattle.game_rules.specs.Games.{is_double_point}
use Rattle.game_rules.specs.declared.Point.{Point}
use Rattle.open_windows.proofs.SetOrder.{filter-windows}
use Rattle.threat_game.specs.declared.doubles.Kept.{Kept}
use Rattle.threat_game.specs.Replies.{IsKeptAt}
use Rattle.threat_game.proofs.FirstDoubles.{FirstSoFar, first-all, first-enough, first-more, first-none}
use Rattle.threat_game.proofs.WindowLaws.{double-in}
use Rattle.threat_game.proofs.doubles.first_doubles.Goals as goal

pub returns-then-len-ge-MOST_KEPT-clause-kept : goal.returns-then-len-ge-MOST_KEPT-clause-kept
returns-then-len-ge-MOST_KEPT-clause-kept g c =
    first-all g.R.Rule.KIND c.args.board.now c.args.side c.loop-p.found.items
    (first-enough g.R.Rule.KIND c.args.board.now c.args.side c.loop-p.found.items c.loop-p.p-iterator c.loop-p.invariant.1
    (let many = c.if-len-ge-MOST_KEPT.true in let long = c.len.ensures in omega (arith, many, long)))

pub loop-p-preserved-in-Continue-branch-3 : goal.loop-p-preserved-in-Continue-branch-3
loop-p-preserved-in-Continue-branch-3 g c =
    let rule = g.R.Rule.KIND in
    let b : Grid = c.args.board.now in
    let next : c.loop-p.p-iterator ≡ c.in-Some.p ∷ c.next.new.self = first_of (search rules, grind (arith, common_steps)) in
    let kept = rw c.in-Some-2.is at c.in_ok-kept.ensures.kept in (
      c.kept_at.ensures.same ∙ c.loop-p.invariant.0,
      first-more rule b c.args.side c.loop-p.found.items c.in-Some.p c.next.new.self c.loop-p.p-iterator next c.loop-p.invariant.1
          c.in-Some-2.kept
          (subst (λ (w : Grid). IsKeptAt rule w c.args.side c.in-Some.p c.in-Some-2.kept) c.loop-p.invariant.0 kept)
          (let few = c.if-len-ge-MOST_KEPT.false in let long = c.len.ensures in omega (arith, few, long)) c.push.new.self.items
          c.in_ok-push.ensures.items,
    )

pub returns-clause-kept : goal.returns-clause-kept
returns-clause-kept g c =
    let done : c.loop-p.p-iterator ≡ [] = first_of (search rules, grind (arith, common_steps)) in
    first-all g.R.Rule.KIND c.args.board.now c.args.side c.loop-p.found.items
    (subst (λ (ps : List Point). FirstSoFar g.R.Rule.KIND c.args.board.now c.args.side c.loop-p.found.items ps) done c.loop-p.invariant.1)

pub loop-p-init : goal.loop-p-init
loop-p-init g c =
    let rule = g.R.Rule.KIND in
    let b : Grid = c.args.board.now in
    let tells = c.window_points-windows.ensures.points in (
      refl,
      subst (λ (kept : List Kept). FirstSoFar rule b c.args.side kept c.into_iter-p-iterator.result) (sym c.new-found.ensures.items)
          (first-none rule b c.args.side c.into_iter-p-iterator.result
          (ap (filter (is_double_point rule b c.args.side))
          (c.into_iter-p-iterator.ensures.into_iter_gives ∙ c.points-p-items.ensures.points)
          ∙ filter-windows b c.args.side 3 c.window_points-windows.result tells (is_double_point rule b c.args.side)
          (λ p h. double-in rule b c.args.side p tells.board c.requires.none h))),
    )
