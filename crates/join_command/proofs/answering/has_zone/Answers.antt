use Rattle.std.proofs.Common.{subst}
use Rattle.join_command.proofs.Common.{IsVerdict, MAX_PAIRS}
use Rattle.join_command.proofs.Asking.{accepted-by_zone, spent-lacks}
use Rattle.join_command.proofs.answering.has_zone.Goals as goal

pub returns-in-Accepted : goal.returns-in-Accepted
returns-in-Accepted g c =
    let verdict = subst (IsVerdict g.R.Rule.KIND c.args.file.now.table c.args.file.now.root MAX_PAIRS c.args.position.now) c.in-Accepted.is
    c.in_ok-check_by_zones.ensures.verdict in
    let size = rw c.board.ensures.board at (c.has_size_of.ensures.size.0 c.if-not-has_size_of.false) in
    record {
      zone = accepted-by_zone g.R.Rule.KIND c.args.position.now c.args.file.now c.in-Attack.field-0 c.requires.lawful c.in-Attack.is
          size verdict.0;
    }

pub returns-in-Spent : goal.returns-in-Spent
returns-in-Spent g c = record {
  zone = spent-lacks g.R.Rule.KIND c.args.position.now c.args.file.now
      (subst (IsVerdict g.R.Rule.KIND c.args.file.now.table c.args.file.now.root MAX_PAIRS c.args.position.now) c.in-Spent.is
      c.in_ok-check_by_zones.ensures.verdict);
}
