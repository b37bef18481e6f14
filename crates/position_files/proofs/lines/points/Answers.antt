use Rattle.std.proofs.Common.{ℕ, arith, List, Bor, length, length-append, ap, option_copied, Option}
use Rattle.text_lines.proofs.Common.{space, point_text, IsWithin, tail_text}
use Rattle.text_lines.proofs.Items.{begins, stops, goes_on, ends}
use Rattle.text_lines.proofs.LineLaws.{point_items}
use Rattle.position_files.proofs.Spellings.{side_fits}
use Rattle.position_files.proofs.lines.points.Goals as goal

pub loop-rest-init : goal.loop-rest-init
loop-rest-init c = rw c.new-points.ensures.empty
    (begins (IsWithin c.args.width c.args.height) point_text (tail_text space (option_copied c.args.tail)))

pub returns-in_default-point : goal.returns-in_default-point
returns-in_default-point c =
    let now = rw c.in-Some.is at c.loop-rest.invariant in
    record {
      points = stops (IsWithin c.args.width c.args.height) point_text
          (point_items c.args.width c.args.height (side_fits c.args.width c.requires.wide) (side_fits c.args.height c.requires.high))
          c.loop-rest.points c.in-Some.text.now c.cut.result.0.now _ (tail_text space (option_copied c.args.tail)) now c.cut.ensures.parts
          c.cut.ensures.word c.in_default-point.ensures.point;
    }

pub loop-rest-smaller : goal.loop-rest-smaller
loop-rest-smaller c =
    let before = ap (λ (t : Option (Bor (List ℕ))). length (tail_text space (option_copied t))) c.in-Some.is in
    omega (arith, before, ap length c.cut.ensures.parts, length-append c.cut.result.0.now (tail_text space (option_copied c.cut.result.1)))

pub loop-rest-preserved : goal.loop-rest-preserved
loop-rest-preserved c =
    let now = rw c.in-Some.is at c.loop-rest.invariant in
    rw c.in_ok-push.ensures.ok (goes_on (IsWithin c.args.width c.args.height) point_text
    (point_items c.args.width c.args.height (side_fits c.args.width c.requires.wide) (side_fits c.args.height c.requires.high))
    c.loop-rest.points c.in-Some-point.found c.in-Some.text.now c.cut.result.0.now _ (tail_text space (option_copied c.args.tail)) now
    c.cut.ensures.parts c.cut.ensures.word c.in-Some-point.ensures.point.0 c.in-Some-point.ensures.point.1)

pub returns : goal.returns
returns c =
    let now = rw c.in_default.is at c.loop-rest.invariant in
    record {
      points = ends (IsWithin c.args.width c.args.height) point_text c.loop-rest.points (tail_text space (option_copied c.args.tail)) now;
    }
