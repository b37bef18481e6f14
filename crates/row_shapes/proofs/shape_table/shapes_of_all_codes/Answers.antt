use Rattle.std.proofs.Common.{◌≡◌, ◌/◌, ◌%◌, ◌^◌, ◌<◌, ℕ, inl, inr, ◌∙◌, sym, ap, arith}
use Rattle.std.proofs.lemmas.Option.{slice_get_read}
use Rattle.row_shapes.specs.LineShapes.{shape_of}
use Rattle.row_shapes.proofs.HalfTables.{shapes_push, code_shape, quotient_low}
use Rattle.row_shapes.proofs.shape_table.shapes_of_all_codes.Goals as goal
use Rattle.row_shapes.proofs.shape_table.shapes_of_all_codes.Goals.{then-reach-eq4, else-reach-eq4}

pub loop-code-preserved : goal.loop-code-preserved
loop-code-preserved c =
    let n : ℕ = c.if-reach-eq4.halves in
    let power : c.if-reach-eq4.halves ≡ 3 ^ c.args.reach = elim c.if-reach-eq4.branch [
      | then-reach-eq4 w ↦ w.halves-is ∙ sym (ap (λ r. 3 ^ r) w.if-reach-eq4.true)
      | else-reach-eq4 w ↦ elim c.requires.reach [
        | inl four ↦ absurd (w.if-reach-eq4.false four)
        | inr five ↦ w.halves-is ∙ sym (ap (λ r. 3 ^ r) five)
      ]
    ] in
    let some : 0 < c.if-reach-eq4.halves = elim c.if-reach-eq4.branch [ then-reach-eq4 w ↦ omega arith | else-reach-eq4 w ↦ omega arith ] in
    let high : c.loop-code.code / c.if-reach-eq4.halves < c.if-reach-eq4.halves =
    quotient_low c.loop-code.code c.if-reach-eq4.halves some c.loop-code-test.true in
    let low : c.loop-code.code % c.if-reach-eq4.halves < c.if-reach-eq4.halves = omega (arith, some) in
    let ahead = c.in_ok-ahead.ensures.halves in
    let behind = c.in_ok-behind.ensures.halves in
    let shape : c.shape_of_line.result ≡ shape_of c.args.reach c.loop-code.code =
    code_shape c.args.reach c.loop-code.code c.if-reach-eq4.halves c.index.result.now c.index-in-loop-code.result.now c.shape_of_line.result
    c.requires.reach power some
    (ahead.told _ high c.index.result.now
    (slice_get_read c.in_ok-ahead.ahead.items c.if-reach-eq4.halves (c.loop-code.code / c.if-reach-eq4.halves) c.index.result.now
    (sym ahead.all) high c.index.ensures))
    (behind.told _ low c.index-in-loop-code.result.now
    (slice_get_read c.in_ok-behind.behind.items c.if-reach-eq4.halves (c.loop-code.code % c.if-reach-eq4.halves)
    c.index-in-loop-code.result.now (sym behind.all) low c.index-in-loop-code.ensures))
    c.shape_of_line.ensures.shape in (
      omega (arith, c.in_ok-push.ensures.len, c.loop-code.invariant.0),
      rw c.in_ok-push.ensures.items
          (shapes_push c.args.reach c.loop-code.code c.loop-code.shapes.items c.shape_of_line.result
          (sym c.loop-code.shapes.ok.0 ∙ c.loop-code.invariant.0) c.loop-code.invariant.1 shape),
    )
