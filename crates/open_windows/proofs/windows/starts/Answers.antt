use Rattle.std.proofs.Common.{ℕ, ◌+◌, ◌∙◌, ◌<◌, List, refl, sym, subst, ap, arith}
use Rattle.open_windows.specs.OpenWindows.{is_window}
use Rattle.open_windows.specs.Rows.{TellsTo}
use Rattle.open_windows.proofs.BoardRows.{below}
use Rattle.open_windows.proofs.RowBits.{at_row, tells-none, tells-more, tells-all}
use Rattle.open_windows.proofs.WindowBits.{start-window, window-none, window-on}
use Rattle.open_windows.proofs.windows.starts.Goals as goal

pub loop-i-init : goal.loop-i-init
loop-i-init c = λ b s mine others.
    subst (λ (rows : List ℕ). TellsTo (is_window b s c.args.least c.args.axis) rows 4) (sym c.requires.zero)
    (tells-none (is_window b s c.args.least c.args.axis) (window-none b s c.args.least c.args.axis))

pub loop-i-preserved : goal.loop-i-preserved
loop-i-preserved c = λ b s mine others.
    let low = c.loop-i.auto.i in
    let before = c.loop-i-test.true in
    let fits = c.requires.fits in
    let high : c.loop-i.i < 36 = omega (arith, before, fits) in
    tells-more (is_window b s c.args.least c.args.axis) (window-none b s c.args.least c.args.axis) c.loop-i.found c.loop-i.i
    (c.loop-i.i + 1)
    c.start_at.result refl (omega (arith, high)) (c.loop-i.invariant b s mine others) (λ x.
    c.start_at.ensures.bits x
    ∙ start-window b s c.args.own.now c.args.clear.now mine others c.args.axis c.args.least c.loop-i.i x low high)

pub returns : goal.returns
returns c = record {
  starts = λ b s ok high mine others.
      tells-all (is_window b s c.args.least c.args.axis) (window-none b s c.args.least c.args.axis) c.loop-i.found c.loop-i.i
      (c.loop-i.invariant b s mine others) (λ i x past.
      let end = c.loop-i-test.false in
      ap (is_window b s c.args.least c.args.axis) (at_row i x (omega (arith, past, end)))
      ∙ window-on b s c.args.least c.args.axis _ (below b ok i x (omega (arith, past, end, high))));
}
