use Rattle.std.proofs.Common.{◌≡◌, ◌∙◌, length, ap, arith}
use Rattle.std.proofs.lemmas.Bool.Decides.{nat_tests}
use Rattle.gomocup_text.proofs.Common.{form_of, word_named}
use Rattle.gomocup_text.proofs.TextCommands.{text_command-word}
use Rattle.gomocup_text.proofs.reading.read_text.Goals as goal

pub returns-in-Some-named_word : goal.returns-in-Some-named_word
returns-in-Some-named_word c =
    let some : length c.args.text.now ≡ 0 → ⊥ = λ none. grind (arith, nat_tests) in
    record {
      command = c.read_form.ensures.command
          ∙ ap (form_of c.in-Some-named_word.word) c.first_word.ensures.rest
          ∙ text_command-word c.args.text.now c.in-Some-named_word.word some c.in_default.ensures.numbers
          (c.in-Some-named_word.ensures.word ∙ ap word_named c.first_word.ensures.word);
    }
