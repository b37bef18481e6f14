use Rattle.std.proofs.Common.{◌≡◌, length, arith}
use Rattle.std.proofs.lemmas.Bool.Decides.{nat_tests}
use Rattle.renju_io.proofs.LineLaws.{lines-all}
use Rattle.renju_io.proofs.line_reader.LineReader.end_input.Goals as goal

pub returns-clause-all : goal.returns-clause-all
returns-clause-all c =
    let front = rw c.deref.ensures.value at c.append_front.ensures.front in
    let told = rw front at c.tell.ensures.told in
    let kept = rw (← c.self.view_is) at c.requires.open in
    let some : length c.append_front.new.line.items ≡ 0 → ⊥ = λ none. grind (arith, nat_tests) in
    rw (← c.self.view_is, told) (lines-all _ kept (rw front at some))
