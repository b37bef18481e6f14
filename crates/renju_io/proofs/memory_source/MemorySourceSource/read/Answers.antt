use Rattle.std.proofs.Common.{ap, Some, ◌∙◌, take, drop}
use Rattle.std.proofs.lemmas.List.{take_rest}
use Rattle.renju_io.proofs.Pieces.{moved-rest}
use Rattle.renju_io.proofs.memory_source.MemorySourceSource.read.Goals as goal

pub returns-clause-given : goal.returns-clause-given
returns-clause-given c =
    let copied = c.copy_front-count.ensures.copied
    ∙ ap (take c.copy_front-count.result)
    (take_rest c.deref.result.now c.self.inside.given ∙ ap (drop c.self.inside.given) c.deref.ensures.value) in
    rw (← c.self.view_is) (ap (λ xs. Some xs) (moved-rest _ _ _ _ copied))
