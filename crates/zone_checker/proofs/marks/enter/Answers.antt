use Rattle.std.proofs.Common.{◌≡◌, refl, ap, ◌∙◌}
use Rattle.zone_checker.specs.Marks.{spare_of, mark_at}
use Rattle.zone_checker.proofs.Filling.{entered-set, inside_also, inside_also-spare}
use Rattle.zone_checker.proofs.Marking.{read-mark}
use Rattle.zone_checker.proofs.marks.enter.Goals as goal

pub returns : goal.returns
returns c =
    let there : c.index_mut.result.now ≡ mark_at c.args.board.now c.args.marks.now.items c.args.p = c.index_mut.ensures.value
    ∙ read-mark c.args.board.now c.args.marks.now.items c.args.p c.width-width.result _ c.width-width.ensures.board c.requires.on
    c.requires.size c.width-width.ensures.width in
    record {
      entered = entered-set c.args.board.now c.args.marks.now.items c.args.p c.width-width.result
          (inside_also c.index_mut.result.now) c.width-width.ensures.board c.requires.on c.requires.size c.width-width.ensures.width refl
          (λ d. inside_also-spare d c.index_mut.result.now ∙ ap (spare_of d) there);
    }
