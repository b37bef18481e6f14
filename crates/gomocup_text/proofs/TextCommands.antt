-- The command of a text that is not empty.
use Rattle.std.proofs.Common.{◌≡◌, List, ℕ, [], ◌∷◌, length, Option, Some, None, refl, ap, ◌∙◌}
use Rattle.gomocup_text.proofs.Common.{word_named, rest_of, word_of, numbers_of_three, form_of, stone_or, text_command, word_command}
use Rattle.gomocup_text.specs.declared.words.Word.{Word}

-- a text that is no stone and begins with a word of the table is that word's
pub text_command-word : (text : List ℕ) (word : Word) → (length text ≡ 0 → ⊥) → None ≡ numbers_of_three text →
    Some word ≡ word_named (word_of text) → form_of word (rest_of text) ≡ text_command text
text_command-word [] word some no_stone is = absurd (some refl)
text_command-word (byte ∷ bytes) word some no_stone is =
    ap (λ (w : Option Word). word_command w (rest_of (byte ∷ bytes))) is
    ∙ ap (λ stone. stone_or stone (word_command (word_named (word_of (byte ∷ bytes))) (rest_of (byte ∷ bytes)))) no_stone
