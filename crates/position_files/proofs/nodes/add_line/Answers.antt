use Rattle.std.proofs.Common.{◌≡◌, ℕ, List, Bor, sym, subst, length, ◌∙◌, Err}
use Rattle.std.proofs.lemmas.Result.{err_from_is_err_and}
use Rattle.position_files.proofs.Common.{IsNode, Node, Bad}
use Rattle.text_lines.proofs.FaultLaws.{same_fault}
use Rattle.position_files.proofs.SectionLaws.{bad_node, same_node}
use Rattle.position_files.proofs.nodes.add_line.Goals as goal

pub returns-in_err-node-clause-bad : goal.returns-in_err-node-clause-bad
returns-in_err-node-clause-bad c = λ is n others fits is_node few e.
    let p = err_from_is_err_and c.from_residual.result c.from_residual.ensures.1 in
    let bad : c.in_err-node.field-0.0 ≡ Bad = sym p.2 ∙ same_fault {X = Bor (List ℕ)} p.0 Bad (sym p.1 ∙ is) in
    bad_node c.args.width c.args.height c.requires.wide c.requires.high c.args.bytes.now c.in-Some.text.now c.in-Some.rest.now
    c.in-Some.ensures.ended c.in-Some.ensures.line c.in_err-node.field-0.0 bad c.in_err-node.ensures.node n others fits e

pub returns-in_err-append-clause-bad : goal.returns-in_err-append-clause-bad
returns-in_err-append-clause-bad c = λ is n others fits is_node few e.
    let p = err_from_is_err_and c.from_residual-in_err-append.result c.from_residual-in_err-append.ensures.1 in
    let bad : c.in_err-append.field-0.0 ≡ Bad = sym p.2 ∙ same_fault {X = Bor (List ℕ)} p.0 Bad (sym p.1 ∙ is) in
    let was = c.in_err-append.was in
    let result : c.append.result ≡ Err Bad = cc in
    let found : Node = c.in_ok-node.node in
    let same = same_node c.args.width c.args.height c.requires.wide c.requires.high c.args.bytes.now c.in-Some.text.now c.in-Some.rest.now
    c.in-Some.ensures.ended c.in-Some.ensures.line found n others c.in_ok-node.ensures.node.0 c.in_ok-node.ensures.node.1 fits e
    ∙ sym c.lent.ensures.node in
    c.append.ensures.bad result (subst (λ (m : Node). IsNode m (length c.args.table.now)) same is_node) few
