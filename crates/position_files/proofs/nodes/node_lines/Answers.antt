use Rattle.std.proofs.Common.{ℕ, List, Bor, subst}
use Rattle.position_files.proofs.Common.{IsTable, Bad}
use Rattle.text_lines.proofs.FaultLaws.{fault_result}
use Rattle.position_files.proofs.SectionLaws.{nodes_fault}
use Rattle.position_files.proofs.nodes.node_lines.Goals as goal

pub returns-in-Err-clause-refused : goal.returns-in-Err-clause-refused
returns-in-Err-clause-refused c =
    let table : IsTable c.loop-number.table =
    subst IsTable c.in-Err.ensures.unchanged (subst IsTable c.table.view_is c.table.invariant.table) in
    rw c.at.ensures.error (nodes_fault c.args.width c.args.height c.args.count c.loop-number.table c.loop-number.number c.args.bytes.now
    c.loop-number.rest.now c.in-Err.fault c.requires.wide c.requires.high c.loop-number.invariant table c.loop-number-test.true
    c.requires.few (λ is. c.in-Err.ensures.bad (fault_result {X = Bor (List ℕ)} c.in-Err.fault Bad is)))
