use Rattle.std.proofs.Common.{◌≡◌, inl, inr, ◌*◌, ◌%◌, ◌^◌, ◌<◌, sym, ap, ◌∙◌, arith, bit_or}
use Rattle.std.specs.Int.{bit_at, w64}
use Rattle.std.proofs.lemmas.Nat.Bits.{bit_at_set_same, bit_at_set_other}
use Rattle.std.proofs.lemmas.Bool.{cases_lt, false_from_ne_true, both_ways}
use Rattle.stone_board.specs.Lines.{line_of}
use Rattle.row_shapes.proofs.WindowLaws.{wins-on_board}
use Rattle.row_shapes.proofs.windows.axis_windows.Goals.{then-line_may_win, else-line_may_win}
use Rattle.row_shapes.proofs.windows.axis_windows.Goals as goal

pub loop-n-init : goal.loop-n-init
loop-n-init c = λ rule q low bit. false_from_ne_true _ (λ h.
    let lies = c.lines-first.ensures.covers q (wins-on_board rule c.args.board.now c.args.side c.args.axis q h) in
    let from = lies.0 in
    absurd (omega (arith, from, low)))

pub loop-n-preserved : goal.loop-n-preserved
loop-n-preserved c = λ rule q low bit. elim c.if-line_may_win.branch [
  | then-line_may_win w ↦
      let set : c.if-line_may_win.found ≡ bit_or c.loop-n.found (1 * 2 ^ c.loop-n.n % 2 ^ 64) = w.found-is in
      let within : c.loop-n.n < 64 = let bound = c.lines-first.ensures.bound in let test =
      c.loop-n-test.true in omega (arith, bound, test) in
      elim (cases_lt (line_of c.args.axis q) c.loop-n.n) [
        | inl less ↦ c.loop-n.invariant rule q less
            (sym (bit_at_set_other w64 c.loop-n.found c.loop-n.n within (line_of c.args.axis q) (λ e. absurd (omega (arith, e, less))))
            ∙ ap (λ m. bit_at m (line_of c.args.axis q)) (sym set) ∙ bit)
        | inr here ↦
            let same : line_of c.args.axis q ≡ c.loop-n.n = omega (arith, here, low) in
            let one : bit_at c.if-line_may_win.found (line_of c.args.axis q) ≡ 1 = ap (bit_at c.if-line_may_win.found) same
            ∙ ap (λ m. bit_at m c.loop-n.n) set ∙ bit_at_set_same w64 c.loop-n.found c.loop-n.n within in
            absurd (omega (arith, one, bit))
      ]
  | else-line_may_win w ↦ elim (cases_lt (line_of c.args.axis q) c.loop-n.n) [
    | inl less ↦ c.loop-n.invariant rule q less (ap (λ m. bit_at m (line_of c.args.axis q)) (sym w.found-is) ∙ bit)
    | inr here ↦ c.line_may_win.ensures.none w.if-line_may_win.false rule q (omega (arith, here, low))
  ]
]

pub returns : goal.returns
returns c = record {
  lines = λ rule q bit. false_from_ne_true _ (λ h.
      let lies = c.lines-first.ensures.covers q (wins-on_board rule c.args.board.now c.args.side c.args.axis q h) in
      let below = lies.1 in
      let past = c.loop-n-test.false in
      both_ways _ (c.loop-n.invariant rule q (omega (arith, below, past)) bit) h);
}
