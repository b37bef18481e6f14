use Rattle.std.proofs.Common.{List, refl, sym, subst, ap, ◌+◌, ◌-◌, ◌^◌, arith, ◌∙◌, ◌<◌, ◌≡◌, ℕ, bit_and}
use Rattle.std.specs.Int.{bit_at, bit_not, w32}
use Rattle.game_rules.specs.declared.Side.{Side}
use Rattle.game_rules.specs.declared.Axis.TheVariants.{Row}
use Rattle.stone_board.specs.Lines.{TellsLine}
use Rattle.open_windows.specs.OpenWindows.{is_open_at}
use Rattle.open_windows.specs.Rows.{TellsTo}
use Rattle.open_windows.proofs.BoardRows.{open-bit, open-rows}
use Rattle.open_windows.proofs.RowBits.{tells-none, tells-more}
use Rattle.open_windows.proofs.rows.open_rows.Goals as goal

pub loop-y-init : goal.loop-y-init
loop-y-init c =
    subst (λ (rows : List ℕ). TellsTo (is_open_at c.args.board.now c.args.side) rows 4) (sym c.requires.zero)
    (tells-none (is_open_at c.args.board.now c.args.side) refl)

pub loop-y-preserved : goal.loop-y-preserved
loop-y-preserved c =
    let ok = c.line.ensures.board in
    let fits = ok.height_fits in
    let end = c.height-y-end.ensures.height in
    let test = c.loop-y-test.true in
    let low : c.loop-y.y < c.args.board.now.height = omega (arith, test, end) in
    let next : c.loop-y.y + 4 + 1 ≡ c.loop-y.y + 1 + 4 = omega arith in
    tells-more (is_open_at c.args.board.now c.args.side) refl c.loop-y.rows (c.loop-y.y + 4) (c.loop-y.y + 1 + 4) _ next
    (omega (arith, low, fits)) c.loop-y.invariant
    (λ x. ap (λ m. bit_at (bit_and (bit_not w32 c.line.result) m) x)
    (c.full_row-full.ensures.full ∙ ap (λ w. 2 ^ w - 1) c.width.ensures.width)
    ∙ open-bit c.args.board.now ok c.loop-y.y low c.line.result c.args.side c.line.type_inv
    (subst (λ (s : Side). TellsLine c.args.board.now s Row c.loop-y.y c.line.result) c.other.ensures.other c.line.ensures.tells) x)

pub returns : goal.returns
returns c =
    let end = c.height-y-end.ensures.height in
    let test = c.loop-y-test.false in
    let bound = c.loop-y.auto.y-end in
    let last : c.loop-y.y + 4 ≡ c.args.board.now.height + 4 = omega (arith, end, test, bound) in
    record {
      rows = open-rows c.args.board.now c.height-y-end.ensures.board c.args.side c.loop-y.rows
          (subst (λ (n : ℕ). TellsTo (is_open_at c.args.board.now c.args.side) c.loop-y.rows n) last c.loop-y.invariant);
    }
