use Rattle.std.proofs.Common.{inl, subst, IfSome}
use Rattle.proof_number.proofs.Common.{packed, IsTrueLook, table_in}
use Rattle.position_table.proofs.Remembering.{true-looked}
use Rattle.proof_number.proofs.LookLaws.{look-found}
use Rattle.proof_number.specs.Looks.{LookMemory}
use Rattle.proof_number.proofs.looks.Looks.find.Goals as goal

pub invariant_of-self : goal.invariant_of-self
invariant_of-self g c =
    true-looked g.R.Rule.KIND (IsTrueLook g.R.Rule.KIND c.self.inside.children.items)
    (table_in c.self.inside.table) _ (packed c.args.board.now, c.args.moves) (inl c.find_in.ensures.table) c.self.invariant

pub returns-clause-look : goal.returns-clause-look
returns-clause-look g c =
    subst (λ (m : LookMemory). IfSome c.find_in.result (IsTrueLook g.R.Rule.KIND m.children c.args.board.now c.args.moves))
    c.self.view_is
    (look-found g.R.Rule.KIND c.self.inside.children.items c.args.board.now c.args.moves
    (table_in c.self.inside.table) c.requires.lawful c.self.invariant c.find_in.result c.find_in.ensures.value)
