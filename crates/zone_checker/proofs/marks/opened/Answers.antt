use Rattle.std.proofs.Common.{◌≡◌, ◌+◌, List, [], ◌∷◌, ◌++◌, length, sym, ap, subst, arith}
use Rattle.std.proofs.lemmas.List.{get_or_default, length-append}
use Rattle.std.proofs.lemmas.List.Sums.{AllPass-from_list_all}
use Rattle.zone_checker.proofs.Common.{is_on, Mark}
use Rattle.game_rules.proofs.Places.{points_on}
use Rattle.zone_checker.proofs.Filling.{OpenedTo, opened-push, opened-all}
use Rattle.zone_checker.proofs.marks.opened.Goals as goal

pub opened_at-requires : goal.opened_at-requires
opened_at-requires c = record {
  on = AllPass-from_list_all (is_on c.args.board.now) c.args.points.now
      (rw c.requires.points (points_on c.args.board.now)) c.loop-p.p-index (record { x = 0; y = 0 }) c.loop-p-test.true;
}

pub loop-p-preserved : goal.loop-p-preserved
loop-p-preserved c =
    let size = c.loop-p.invariant.size in
    let grown : c.push.new.self.items ≡ c.loop-p.marks.items ++ c.in-Some.mark ∷ [] = c.in_ok-push.ensures.items in
    let more = ap length grown in
    let both = length-append c.loop-p.marks.items (c.in-Some.mark ∷ []) in
    record {
      size = omega (arith, size, more, both);
      each = subst (λ (ms : List Mark). OpenedTo c.args.board.now c.args.side c.args.points.now ms (c.loop-p.p-index + 1)) (sym grown)
          (opened-push c.args.board.now c.args.side c.args.points.now c.loop-p.marks.items c.loop-p.p-index _ c.in-Some.mark size
          (λ d. get_or_default c.args.points.now c.loop-p.p-index d (record { x = 0; y = 0 }) c.loop-p-test.true) c.loop-p.invariant.each
          c.in-Some.ensures.opened);
    }

pub returns-clause-opened : goal.returns-clause-opened
returns-clause-opened c =
    let all : c.loop-p.p-index ≡ length c.args.points.now = omega arith in
    let size = c.loop-p.invariant.size in
    opened-all c.args.board.now c.args.side c.args.points.now c.loop-p.marks.items c.width.ensures.board c.requires.points
    (omega (arith, all, size))
    (subst (λ n. OpenedTo c.args.board.now c.args.side c.args.points.now c.loop-p.marks.items n) all c.loop-p.invariant.each)
