-- Nodes are adopted, and the entries stay; then the file's entry comes after them.
use Rattle.std.proofs.Common.{List, sym, subst}
use Rattle.table_book.proofs.Common.{Entry, IsBinding}
use Rattle.table_book.proofs.Binding.{bound-more}
use Rattle.table_book.proofs.Bound.{binding-grown, both-added}
use Rattle.table_book.proofs.binder.Binder.add.Goals as goal

pub invariant_of-self : goal.invariant_of-self
invariant_of-self c =
    binding-grown _ _ c.args.file c.self.inside.entries c.self.invariant c.requires.can_be_bound c.adopt_table.ensures.adopts

pub invariant_of-self-in_err-root : goal.invariant_of-self-in_err-root
invariant_of-self-in_err-root c =
    binding-grown _ _ c.args.file c.self.inside.entries c.self.invariant c.requires.can_be_bound c.adopt_table.ensures.adopts

pub invariant_of-self-in_err-push : goal.invariant_of-self-in_err-push
invariant_of-self-in_err-push c =
    subst (λ (es : List Entry). IsBinding (record { table = c.adopt_table.new.self; entries = es })) (sym c.in_err-push.ensures.unchanged)
    (binding-grown _ _ c.args.file c.self.inside.entries c.self.invariant c.requires.can_be_bound c.adopt_table.ensures.adopts)

pub invariant_of-self-2 : goal.invariant_of-self-2
invariant_of-self-2 c = (both-added c.args.file _ _ _ _ c.requires.can_be_bound c.adopt_table.ensures.adopts c.in_ok-numbers.ensures.numbers
    (rw c.as_slice.ensures.value at c.in_ok-root.ensures.root) c.self.inside.entries c.push.new.self c.self.invariant
    (rw (← c.self.view_is) at c.requires.room) c.in_ok-push.ensures.pushed).1

pub returns-clause-added : goal.returns-clause-added
returns-clause-added c = rw (← c.self.view_is) (both-added c.args.file _ _ _ _ c.requires.can_be_bound c.adopt_table.ensures.adopts
    c.in_ok-numbers.ensures.numbers (rw c.as_slice.ensures.value at c.in_ok-root.ensures.root) c.self.inside.entries c.push.new.self
    c.self.invariant (rw (← c.self.view_is) at c.requires.room) c.in_ok-push.ensures.pushed).0

pub returns-clause-bound : goal.returns-clause-bound
returns-clause-bound c = rw (← c.self.view_is) (λ files before.
    let both = both-added c.args.file _ _ _ _ c.requires.can_be_bound c.adopt_table.ensures.adopts c.in_ok-numbers.ensures.numbers
    (rw c.as_slice.ensures.value at c.in_ok-root.ensures.root) c.self.inside.entries c.push.new.self c.self.invariant
    (rw (← c.self.view_is) at c.requires.room) c.in_ok-push.ensures.pushed in
    bound-more files c.args.file _ _ before both.0 c.adopt_table.ensures.adopts both.1)
