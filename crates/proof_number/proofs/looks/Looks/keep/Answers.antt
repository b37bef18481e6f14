use Rattle.std.proofs.Common.{refl, sym, subst}
use Rattle.position_table.proofs.Remembering.{true-kept}
use Rattle.proof_number.specs.Looks.{IsTrueLook, table_in, LookMemory}
use Rattle.proof_number.proofs.looks.Looks.keep.Goals as goal

pub invariant_of-self : goal.invariant_of-self
invariant_of-self g c =
    true-kept g.R.Rule.KIND (IsTrueLook g.R.Rule.KIND c.self.inside.children.items) c.args.board.now
    c.args.board.now c.args.moves c.args.look (table_in c.self.inside.table) c.requires.lawful refl c.self.invariant _
    (subst (λ (m : LookMemory). IsTrueLook g.R.Rule.KIND m.children c.args.board.now c.args.moves c.args.look)
    (sym c.self.view_is) c.requires.look)
    c.keep_in.ensures.kept
