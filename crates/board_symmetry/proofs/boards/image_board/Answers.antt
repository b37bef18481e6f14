-- Point by point, in reading order.
use Rattle.std.proofs.Common.{◌∙◌, subst, List}
use Rattle.game_rules.specs.declared.Point.{Point}
use Rattle.board_symmetry.proofs.Filling.{Filled, filled-start, source-fits, at-on, at-empty, source-on, filled-next, filled-all}
use Rattle.board_symmetry.proofs.boards.image_board.Goals as goal

pub loop-at-init : goal.loop-at-init
loop-at-init c = filled-start c.args.s c.inverse-back.result c.args.board.now c.in_ok-image.image _ _ c.width-width.ensures.width
    c.height-height.ensures.height c.inverse-back.ensures.inverse c.requires.fits _ c.width-width.ensures.board c.in_ok-image.ensures.empty
    (c.into_iter-at-iterator.ensures.into_iter_gives ∙ c.points-at-items.ensures.points)

pub point-source-requires : goal.point-source-requires
point-source-requires c = record {
  fits = source-fits c.args.s c.inverse-back.result c.args.board.now c.loop-at.image _ _ c.width-width.ensures.width
      c.height-height.ensures.height c.inverse-back.ensures.inverse c.requires.fits;
  on = at-on c.args.s c.inverse-back.result c.args.board.now c.loop-at.image _ _ c.width-width.ensures.width c.height-height.ensures.height
      c.inverse-back.ensures.inverse c.requires.fits _ _ c.in-Some.at c.loop-at.invariant c.in-Some.ensures.steps;
}

pub cell-requires : goal.cell-requires
cell-requires c = record {
  on = source-on c.args.s c.inverse-back.result c.args.board.now c.loop-at.image _ _ c.width-width.ensures.width
      c.height-height.ensures.height
      c.inverse-back.ensures.inverse c.requires.fits _ _ c.in-Some.at c.loop-at.invariant c.in-Some.ensures.steps _
      c.point-source.ensures.image;
}

pub put_cell-requires : goal.put_cell-requires
put_cell-requires c = record {
  empty = at-empty c.args.s c.inverse-back.result c.args.board.now c.loop-at.image _ _ c.width-width.ensures.width
      c.height-height.ensures.height
      c.inverse-back.ensures.inverse c.requires.fits _ _ c.in-Some.at c.loop-at.invariant c.in-Some.ensures.steps;
}

pub loop-at-preserved : goal.loop-at-preserved
loop-at-preserved c = filled-next c.args.s c.inverse-back.result c.args.board.now c.loop-at.image _ _ c.width-width.ensures.width
    c.height-height.ensures.height
    c.inverse-back.ensures.inverse c.requires.fits _ _ c.in-Some.at c.loop-at.invariant c.in-Some.ensures.steps _
    c.point-source.ensures.image _ c.cell.result c.cell.ensures.cell c.put_cell.ensures.put

pub returns : goal.returns
returns c = record {
  image = filled-all c.args.s c.args.board.now c.loop-at.image c.width-width.ensures.board
      (subst (λ (ps : List Point). Filled c.args.s c.args.board.now c.loop-at.image ps) c.in-None.ensures.steps.0 c.loop-at.invariant);
}
