use Rattle.std.proofs.Common.{sym, ◌∙◌}
use Rattle.zone_checker.proofs.Judging.{accepted-verdict, refused-verdict}
use Rattle.zone_checker.proofs.checks.check_by_zones.Goals as goal

pub returns-in-Ok : goal.returns-in-Ok
returns-in-Ok g c = record {
  verdict = accepted-verdict g.R.Rule.KIND c.args.table.now c.args.position.now c.args.root.now c.args.work c.in_ok-copy.field-0
      c.attacker-side.result (c.in_ok-copy.ensures.copy ∙ c.board-2.ensures.board) c.attacker-side.ensures.attacker c.in_ok-moves.moves
      c.root_zone.new.walk.left c.in-Ok.field-0.items c.attacker-side.ensures.lawful c.in_ok-moves.ensures.depth
      (sym c.has_fouls.ensures.fouls ∙ c.if-has_fouls.false) c.in-Ok.ensures.found c.in-Ok.ensures.took;
}

pub returns-in-Err-Zoneless : goal.returns-in-Err-Zoneless
returns-in-Err-Zoneless g c = record {
  verdict = refused-verdict g.R.Rule.KIND c.args.table.now c.args.position.now c.args.root.now c.args.work c.in_ok-copy.field-0
      c.attacker-side.result (c.in_ok-copy.ensures.copy ∙ c.board-2.ensures.board) c.attacker-side.ensures.attacker
      (rw c.in-Err-Zoneless.field-0-is at c.in-Err-Zoneless.ensures.found);
}
