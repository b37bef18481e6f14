use Rattle.std.proofs.Common.{◌≡◌, ◌+◌, ◌*◌, arith, sym, ap, ◌∙◌, get_or, true}
use Rattle.position_files.proofs.Common.{place_of, is_on, Point}
use Rattle.game_rules.proofs.PointLists.{next_point, first_points}
use Rattle.position_files.proofs.Stones.{none_put, one_put, all_put, not_earlier, not_taken, on_board}
use Rattle.position_files.proofs.boards.put_stones.Goals.{then-place-least-via-then-place-least}
use Rattle.position_files.proofs.boards.put_stones.Goals.{then-place-least-via-else-place-least+then-not-is_empty}
use Rattle.position_files.proofs.boards.put_stones.Goals as goal

pub loop-p-init : goal.loop-p-init
loop-p-init c = none_put c.args.board.now c.args.side c.args.points.now c.width.ensures.board c.requires.none

pub returns-then-place-least-clause-refused : goal.returns-then-place-least-clause-refused
returns-then-place-least-clause-refused c = λ f b ok same own.
    let p : Point = get_or c.args.points.now c.loop-p.p-index (record { x = 0; y = 0 }) in
    let next = next_point c.args.points.now c.loop-p.p-index c.loop-p-test.true in
    let spot : c.from.result * c.from-width.result + c.from-in-loop-p.result ≡ place_of c.loop-p.board p =
    ap (λ n. n * c.from-width.result + c.from-in-loop-p.result) c.from.ensures
    ∙ ap (λ n. p.y * c.from-width.result + n) c.from-in-loop-p.ensures
    ∙ ap (λ n. p.y * n + p.x) (c.from-width.ensures ∙ c.width.ensures.width ∙ sym c.loop-p.invariant.width) in
    let on : is_on c.loop-p.board p ≡ true = on_board c.args.board.now c.loop-p.board c.args.side c.args.points.now c.loop-p.p-index
    c.loop-p.least c.loop-p.invariant c.requires.within c.loop-p-test.true in
    elim c.then-place-least.branch [
      | then-place-least-via-then-place-least w ↦ not_earlier c.args.board.now c.loop-p.board c.args.side c.args.points.now c.loop-p.p-index
          c.loop-p.least p c.loop-p.invariant next (let early = w.if-place-least.true in omega (arith, spot, early)) b ok same own
      | then-place-least-via-else-place-least+then-not-is_empty w ↦
          not_taken c.args.board.now c.loop-p.board c.args.side c.args.points.now c.loop-p.p-index c.loop-p.least p c.loop-p.invariant next
          (let late = w.if-place-least.false in omega (arith, spot, late)) on (sym w.is_empty.ensures.empty ∙ w.if-not-is_empty.true) b ok
          same own
    ]

pub returns-then-place-least-clause-board : goal.returns-then-place-least-clause-board
returns-then-place-least-clause-board c = c.loop-p.invariant.board

pub loop-p-preserved : goal.loop-p-preserved
loop-p-preserved c =
    let p : Point = get_or c.args.points.now c.loop-p.p-index (record { x = 0; y = 0 }) in
    let spot : c.from.result * c.from-width.result + c.from-in-loop-p.result ≡ place_of c.loop-p.board p =
    ap (λ n. n * c.from-width.result + c.from-in-loop-p.result) c.from.ensures
    ∙ ap (λ n. p.y * c.from-width.result + n) c.from-in-loop-p.ensures
    ∙ ap (λ n. p.y * n + p.x) (c.from-width.ensures ∙ c.width.ensures.width ∙ sym c.loop-p.invariant.width) in
    rw (c.put.ensures.put, spot)
    (one_put c.args.board.now c.loop-p.board c.args.side c.args.points.now c.loop-p.p-index c.loop-p.least p c.loop-p.invariant
    (sym c.is_empty.ensures.empty ∙ c.if-not-is_empty.false) (let late = c.if-place-least.false in omega (arith, spot, late))
    (first_points c.args.points.now c.loop-p.p-index c.loop-p-test.true) (next_point c.args.points.now c.loop-p.p-index c.loop-p-test.true))

pub returns-clause-put : goal.returns-clause-put
returns-clause-put c = λ t. all_put c.args.board.now c.loop-p.board c.args.side c.args.points.now c.loop-p.p-index c.loop-p.least
    c.loop-p.invariant (omega arith)

pub returns-clause-board : goal.returns-clause-board
returns-clause-board c = c.loop-p.invariant.board
