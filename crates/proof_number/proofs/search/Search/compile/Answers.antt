use Rattle.std.proofs.Common.{◌≡◌, ◌∙◌, refl, sym, ap, arith, List, length, take, drop}
use Rattle.std.proofs.lemmas.List.{get_or_default}
use Rattle.proof_number.proofs.Common.{Link, Note, no_note, note_at}
use Rattle.proof_number.proofs.Compiling.{compile-below, compile-few, compile-fits, compile-here, compile-inside, compile-keeps}
use Rattle.proof_number.proofs.Compiling.{compile-kids, compile-noted, compile-room, compile-searches, compile-some, compile-won}
use Rattle.proof_number.proofs.Recording.{keeps-all}
use Rattle.strategy_compiler.proofs.Growing.{writes-fails, writes-more}
use Rattle.proof_number.proofs.search.Search.compile.Goals as goal

pub first_proved-proved-requires-clause-some : goal.first_proved-proved-requires-clause-some
first_proved-proved-requires-clause-some g c =
    compile-some c.requires.searching c.requires.in_tree c.requires.attack c.requires.proved c.requires.unwritten

pub link-link-requires : goal.link-link-requires
link-link-requires g c = record {
  in_tree = compile-inside c.requires.searching
      c.requires.in_tree c.requires.attack c.requires.proved c.requires.unwritten c.first_proved-proved.result
      c.first_proved-proved.ensures.child c.first_proved-proved.ensures.proved;
}

pub index-requires : goal.index-requires
index-requires g c =
    let low = compile-noted c.requires.searching
    c.requires.in_tree c.requires.attack c.requires.proved c.requires.unwritten c.first_proved-proved.result
    c.first_proved-proved.ensures.child c.first_proved-proved.ensures.proved in
    omega (arith, low)

pub kids-notes-requires : goal.kids-notes-requires
kids-notes-requires g c =
    let fits = compile-fits c.requires.searching
    c.requires.in_tree c.requires.attack c.requires.proved c.requires.unwritten c.first_proved-proved.result
    c.first_proved-proved.ensures.child c.first_proved-proved.ensures.proved in
    let first = ap (λ (l : Link). l.first) c.link-link.ensures.link in
    let count = ap (λ (l : Link). l.count) c.link-link.ensures.link in
    let all = ap length c.as_slice.ensures.value in
    record { fits = omega (arith, fits, first, count, all) }

pub compile_answers-requires : goal.compile_answers-requires
compile_answers-requires g c =
    let items : List Note = c.args.self.now.notes.items in
    let are = c.kids-notes.ensures.kids ∙ ap (λ (ns : List Note). take c.link-link.result.count (drop c.link-link.result.first ns))
    c.as_slice.ensures.value ∙ ap (λ (l : Link). take l.count (drop l.first items)) c.link-link.ensures.link in
    record {
      some = compile-kids c.requires.searching
          c.requires.in_tree c.requires.attack c.requires.proved c.requires.unwritten c.first_proved-proved.result
          c.first_proved-proved.ensures.child c.first_proved-proved.ensures.proved c.kids-notes.result.now are;
      below = compile-below c.requires.searching
          c.requires.in_tree c.requires.attack c.requires.proved c.requires.unwritten c.first_proved-proved.result
          c.first_proved-proved.ensures.child c.first_proved-proved.ensures.proved c.kids-notes.result.now are;
    }

pub returns-in-Err-clause-passed : goal.returns-in-Err-clause-passed
returns-in-Err-clause-passed g c = record {
  searching = tt;
  keeps = keeps-all c.args.self.now;
  writes = writes-fails _ _ 1 _ _ _ c.in-Err.ensures.writes
      (compile-room c.requires.searching c.requires.in_tree c.requires.attack c.requires.proved c.requires.unwritten) refl;
}

pub note_win-requires-clause-noted : goal.note_win-requires-clause-noted
note_win-requires-clause-noted g c =
    compile-here c.requires.searching c.requires.in_tree c.requires.attack c.requires.proved c.requires.unwritten

pub note_win-requires-clause-few : goal.note_win-requires-clause-few
note_win-requires-clause-few g c =
    let items : List Note = c.args.self.now.notes.items in
    let are = c.kids-notes.ensures.kids ∙ ap (λ (ns : List Note). take c.link-link.result.count (drop c.link-link.result.first ns))
    c.as_slice.ensures.value ∙ ap (λ (l : Link). take l.count (drop l.first items)) c.link-link.ensures.link in
    let low = compile-noted c.requires.searching
    c.requires.in_tree c.requires.attack c.requires.proved c.requires.unwritten c.first_proved-proved.result
    c.first_proved-proved.ensures.child c.first_proved-proved.ensures.proved in
    let move : (note_at items c.first_proved-proved.result).at ≡ c.index.result.now.at =
    ap (λ (n : Note). n.at) (get_or_default items c.first_proved-proved.result no_note c.index.result.now low ∙ sym c.index.ensures) in
    compile-few c.requires.searching c.requires.in_tree
    c.requires.attack c.requires.proved c.requires.unwritten c.first_proved-proved.result c.first_proved-proved.ensures.child
    c.first_proved-proved.ensures.proved c.kids-notes.result.now are c.compile_answers.new.compiler c.index.result.now.at move
    c.in-Ok.win c.in-Ok.ensures.writes c.in-Ok.ensures.wins c.in-Ok.ensures.moves

pub returns-in-Ok : goal.returns-in-Ok
returns-in-Ok g c =
    let items : List Note = c.args.self.now.notes.items in
    let are = c.kids-notes.ensures.kids ∙ ap (λ (ns : List Note). take c.link-link.result.count (drop c.link-link.result.first ns))
    c.as_slice.ensures.value ∙ ap (λ (l : Link). take l.count (drop l.first items)) c.link-link.ensures.link in
    let low = compile-noted c.requires.searching
    c.requires.in_tree c.requires.attack c.requires.proved c.requires.unwritten c.first_proved-proved.result
    c.first_proved-proved.ensures.child c.first_proved-proved.ensures.proved in
    let move : (note_at items c.first_proved-proved.result).at ≡ c.index.result.now.at =
    ap (λ (n : Note). n.at) (get_or_default items c.first_proved-proved.result no_note c.index.result.now low ∙ sym c.index.ensures) in
    record {
      win = compile-won c.requires.searching
          c.requires.in_tree c.requires.attack c.requires.proved c.requires.unwritten c.first_proved-proved.result
          c.first_proved-proved.ensures.child
          c.first_proved-proved.ensures.proved c.kids-notes.result.now are c.compile_answers.new.compiler c.index.result.now.at move
          c.in-Ok.win c.in-Ok.ensures.writes c.in-Ok.ensures.wins c.in-Ok.ensures.moves;
      passed = record {
        searching = compile-searches c.requires.searching
            c.requires.in_tree c.requires.attack c.requires.proved c.requires.unwritten c.first_proved-proved.result
            c.first_proved-proved.ensures.child
            c.first_proved-proved.ensures.proved c.kids-notes.result.now are c.compile_answers.new.compiler c.index.result.now.at move
            c.in-Ok.win c.in-Ok.ensures.writes c.in-Ok.ensures.wins c.in-Ok.ensures.moves c.note_win.new.self c.note_win.ensures.rest
            c.note_win.ensures.notes;
        keeps = compile-keeps c.requires.searching
            c.requires.in_tree c.requires.attack c.requires.proved c.requires.unwritten c.first_proved-proved.result
            c.first_proved-proved.ensures.child
            c.first_proved-proved.ensures.proved c.kids-notes.result.now are c.compile_answers.new.compiler c.index.result.now.at move
            c.in-Ok.win c.in-Ok.ensures.writes c.in-Ok.ensures.wins c.in-Ok.ensures.moves c.note_win.new.self c.note_win.ensures.rest
            c.note_win.ensures.notes;
        writes = writes-more _ _ 1 _ _ c.in-Ok.ensures.writes
            (compile-room c.requires.searching c.requires.in_tree c.requires.attack c.requires.proved c.requires.unwritten);
      };
    }
