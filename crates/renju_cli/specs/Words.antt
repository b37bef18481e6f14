-- Words that forms have: the second one, those after the first, the second or the third, and two numbers.
use Rattle.std.specs.Prelude.{ℕ, ◌≤◌, List, [], ◌∷◌, unwrap_or, slice_get}
use Rattle.std.specs.Fmt.{decimal}
use Rattle.command_base.specs.Forms.{HasWords}

-- the words after the first
abbrev pub words_after : List (List ℕ) → List (List ℕ)
words_after [] = []
words_after (word ∷ words) = words

-- the words after the second
abbrev pub words_after_second : List (List ℕ) → List (List ℕ)
words_after_second words = words_after (words_after words)

-- the words after the third
abbrev pub words_after_third : List (List ℕ) → List (List ℕ)
words_after_third words = words_after (words_after (words_after words))

-- the word after the first
abbrev pub second_word : List (List ℕ) → List ℕ
second_word words = unwrap_or (slice_get words 1) []

-- the words are two numbers in decimal without leading zeros, each from 1 to the most for it
abbrev pub AreTwoCounts : ℕ → ℕ → List (List ℕ) → ℕ → ℕ → Type 0
AreTwoCounts first_most second_most words first second =
    HasWords words (decimal first ∷ decimal second ∷ []) ((1 ≤ first) × (first ≤ first_most) × (1 ≤ second) × (second ≤ second_most))
