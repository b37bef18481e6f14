use Rattle.std.proofs.Common.{◌≡◌, ◌+◌, ◌-◌, ◌<◌, ℕ, refl, sym, arith, bit_or}
use Rattle.std.specs.Int.{bit_at}
use Rattle.std.specs.List.{list_any, range_with_len}
use Rattle.game_rules.specs.Grid.{Grid, along, axes}
use Rattle.game_rules.specs.declared.Side.{Side}
use Rattle.game_rules.proofs.Boards.{on_y}
use Rattle.open_windows.specs.OpenWindows.{is_window}
use Rattle.open_windows.proofs.RowBits.{one}
use Rattle.open_windows.proofs.WindowBits.{all-covered, point-bit, points-more, window-none}
use Rattle.open_windows.proofs.windows.window_points.Goals as goal

pub loop-y-init : goal.loop-y-init
loop-y-init c = (refl, λ p low on. absurd (omega (arith, low)))

pub loop-y-preserved : goal.loop-y-preserved
loop-y-preserved c =
    let b : Grid = c.args.board.now in
    let s : Side = c.args.side in
    let least : ℕ = c.args.least in
    let y : ℕ = c.loop-y.y in
    let ok = c.own_rows.ensures.board in
    let mine = c.own_rows.ensures.rows in
    let others = c.open_rows.ensures.rows in
    let test = c.loop-y-test.true in
    let high = c.height-height.ensures.height in
    let fits = ok.height_fits in
    let within : y < 32 = omega (arith, test, high, fits) in
    points-more b s least c.loop-y.rows y _ ok within c.loop-y.invariant (λ x column.
    let near : bit_at (bit_or (bit_or (bit_or c.covered.result c.covered-in-loop-y.result) c.covered-in-loop-y-2.result)
    c.covered-in-loop-y-3.result) x ≡ one
    (list_any (λ d. list_any (λ k. is_window b s least d (along d (record { x = x; y = y + 4 - 4 }) 0 k))
    (range_with_len 0 5)) axes) =
    rw (
      c.covered.ensures.covered,
      c.covered-in-loop-y.ensures.covered,
      c.covered-in-loop-y-2.ensures.covered,
      c.covered-in-loop-y-3.ensures.covered,
    )
    (all-covered (is_window b s least) (window-none b s least) (y + 4) x (omega arith) (omega (arith, within)) column
    c.starts.new.found c.starts-2.new.found c.starts-3.new.found c.starts-4.new.found
    (c.starts.ensures.starts b s ok (sym high) mine others)
    (c.starts-2.ensures.starts b s ok (sym high) mine others) (c.starts-3.ensures.starts b s ok (sym high) mine others)
    (c.starts-4.ensures.starts b s ok (sym high) mine others)) in
    point-bit b s least (y + 4) x (omega arith) (omega (arith, within)) c.own_rows.new.rows c.open_rows.new.rows mine others _ near)

pub returns : goal.returns
returns c = record {
  points = record {
    board = c.own_rows.ensures.board;
    points = λ p on.
        let low = on_y c.args.board.now p on in
        let high = c.height-height.ensures.height in
        let end = c.loop-y-test.false in
        c.loop-y.invariant.1 p (omega (arith, low, high, end)) on;
  };
}
