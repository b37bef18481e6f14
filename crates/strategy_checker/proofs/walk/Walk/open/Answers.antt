use Rattle.std.proofs.Common.{◌≡◌, ◌+◌, ◌∙◌, true, false, sym, ap, refl, arith, None}
use Rattle.std.proofs.lemmas.Result.{err_from_is_err_and}
use Rattle.strategy_checker.proofs.Common.{Grid, has_five, after, mover, Point, RuleKind, lent_node, Accepted, arrivals, Leads, Walk}
use Rattle.strategy_checker.proofs.Common.{IsOutlook, IsReady}
use Rattle.strategy_graph.proofs.Steps.{arrivals-positive}
use Rattle.strategy_checker.specs.declared.outlook.Outlook.{Outlook}
use Rattle.strategy_checker.proofs.Sureness.{none-left}
use Rattle.strategy_checker.proofs.Stages.{stage-first, stage-lift}
use Rattle.strategy_checker.proofs.Walking.{played-lawful, taken-ready, taken-short}
use Rattle.strategy_checker.proofs.walk.Walk.open.Goals as goal

pub returns-in_err-take-clause-entered : goal.returns-in_err-take-clause-entered
returns-in_err-take-clause-entered g c =
    let p = err_from_is_err_and c.from_residual.result c.from_residual.ensures.1 in
    rw (p.1, p.2) (
      taken-short g.R.Rule.KIND c.args.table.now (Accepted g.R.Rule.KIND c.args.table.now c.args.i c.args.position.now) 1
          (arrivals g.R.Rule.KIND c.args.table.now c.args.i c.args.position.now)
          (Leads g.R.Rule.KIND c.args.table.now c.args.i c.args.position.now) c.args.self.now c.take.new.self c.in_err-take.field-0.0
          (arrivals-positive g.R.Rule.KIND c.args.table.now c.args.i c.args.position.now) c.in_err-take.ensures.takes,
      refl,
    )

pub returns-clause-entered : goal.returns-clause-entered
returns-clause-entered g c =
    let rule : RuleKind = g.R.Rule.KIND in
    let b : Grid = c.args.position.now in
    let p : Point = c.args.node.attack in
    let there : c.play.new.self ≡ after b p = c.play.ensures.played ∙ ap (λ (w : Grid). after w p) c.told.ensures.same in
    let took = ap (λ (w : Walk). w.left) c.in_ok-take.ensures.takes in
    let one : c.args.self.now.left ≡ c.take.new.self.left + 1 = omega (arith, took) in
    let taken = taken-ready rule c.args.table.now b 1 c.args.self.now c.take.new.self c.requires.ready c.in_ok-take.ensures.takes in
    let free : c.leaves_none-free.result ≡ true → has_five rule c.play.new.self (mover c.play.new.self) ≡ false =
    rw there (λ h. none-left rule b p c.requires.ready.lawful c.requires.goes_on c.told.result c.told.ensures.told
    (sym c.leaves_none-free.ensures.none ∙ h)) in
    let known : Outlook = record { free = c.leaves_none-free.result; quick = false; sure = None } in
    let start : IsOutlook rule c.args.table.now c.play.new.self known = record { free = free; quick = λ h. cc; sure = tt } in
    let outlook : IsOutlook rule c.args.table.now c.play.new.self c.begun.result.outlook = rw c.begun.ensures.outlook start in
    let ready : IsReady rule c.args.table.now c.play.new.self c.take.new.self = record {
      lawful = played-lawful rule b p c.requires.ready.lawful c.requires.goes_on c.play.new.self there;
      no_line = taken.no_line;
      memo = taken.memo;
    } in (
      lent_node c.args.node,
      (
        stage-first rule c.args.table.now c.args.i b c.play.new.self (lent_node c.args.node) c.requires.table c.requires.node
            c.requires.ready.lawful c.requires.goes_on c.requires.more there c.args.self.now.left c.take.new.self.left c.begun.result one
            c.begun.ensures.course outlook,
        refl,
        refl,
        stage-lift rule c.args.table.now c.args.i b c.play.new.self (lent_node c.args.node) c.requires.table c.requires.node
            c.requires.ready.lawful c.requires.goes_on c.requires.more there,
        ready,
      ),
    )
