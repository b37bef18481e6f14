use Rattle.proof_number.specs.Looks.{table_in}
use Rattle.proof_number.proofs.LookLaws.{children-added}
use Rattle.proof_number.proofs.looks.Looks.keep_replies.Goals as goal

pub invariant_of-self : goal.invariant_of-self
invariant_of-self g c =
    children-added g.R.Rule.KIND c.self.inside.children.items (table_in c.self.inside.table) c.self.invariant
    c.as_slice.result.now _ c.in-Some.span c.in-Some.ensures.added
