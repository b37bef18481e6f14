use Rattle.table_book.proofs.Binding.{bound-none}
use Rattle.table_book.proofs.binder.Binder.new.Goals as goal

pub returns : goal.returns
returns c =
    record { bound = bound-none (record { table = c.new.result; entries = c.new-2.result }) c.new.ensures.empty c.new-2.ensures.empty }
