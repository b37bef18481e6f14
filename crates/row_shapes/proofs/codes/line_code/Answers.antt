use Rattle.std.proofs.Common.{◌≡◌, ◌*◌, ◌<◌, sym, ap, ◌∙◌, arith}
use Rattle.game_rules.specs.Grid.{along}
use Rattle.row_shapes.specs.LineCodes.{digit_at, line_code}
use Rattle.row_shapes.proofs.CodeDigits.{last_digits, code_step, code_start, code_end, pow_step, pow_low}
use Rattle.row_shapes.proofs.codes.line_code.Goals as goal

pub loop-k-init : goal.loop-k-init
loop-k-init c = (
  sym (code_start (λ i. digit_at c.args.board.now c.args.side (along c.args.axis c.args.p i c.args.reach)) c.args.reach
      c.requires.near c.requires.far),
  omega arith,
)

pub overflow_mul-code : goal.overflow_mul-code
overflow_mul-code c =
    let few : c.loop-k.k < 10 = omega arith in
    let low = pow_low c.loop-k.k few in
    omega (arith, low)

pub overflow_add-code : goal.overflow_add-code
overflow_add-code c =
    let few : c.loop-k.k < 10 = omega arith in
    let low = pow_low c.loop-k.k few in
    omega (arith, low)

pub loop-k-preserved : goal.loop-k-preserved
loop-k-preserved c =
    let few : c.loop-k.k < 10 = omega arith in
    let left : c.loop-k.k < 2 * c.args.reach = omega arith in
    let step = code_step (λ i. digit_at c.args.board.now c.args.side (along c.args.axis c.args.p i c.args.reach)) c.args.reach c.loop-k.k
    c.requires.near c.requires.far left in
    let same = c.digit.ensures.digit ∙ ap (λ i. digit_at c.args.board.now c.args.side (along c.args.axis c.args.p i c.args.reach))
    c.place_beside-place.ensures.place in (
      omega (arith, step, same, c.loop-k.invariant.0),
      pow_step c.loop-k.k c.loop-k.code c.digit.result few c.loop-k.invariant.1
          c.digit.ensures.bound,
    )

pub returns-clause-code : goal.returns-clause-code
unfolding line_code
returns-clause-code c =
    let all : c.loop-k.k ≡ 2 * c.args.reach = omega arith in
    c.loop-k.invariant.0
    ∙ ap (last_digits (λ i. digit_at c.args.board.now c.args.side (along c.args.axis c.args.p i c.args.reach)) c.args.reach) all
    ∙ code_end (λ i. digit_at c.args.board.now c.args.side (along c.args.axis c.args.p i c.args.reach)) c.args.reach
