-- Words that forms have: the second one, those after the first, the second or the third, and two numbers.
use Rattle.std.proofs.Common.{◌≡◌, sym, ap, ◌∙◌, ℕ, ◌≤◌, ◌<◌, List, [], ◌∷◌, length, map, take, drop}
use Rattle.std.proofs.Common.{get_or, refl, ◌-◌, arith}
use Rattle.std.proofs.Math.Seq.{take-length}
use Rattle.std.proofs.lemmas.List.{length-map}
use Rattle.renju_cli.specs.Words.{second_word, words_after, words_after_second, words_after_third}

module _ {X : Type 0} (f : X → List ℕ) where
  -- as many words as there are in the list
  pub same-count : (xs : List X) (words : List (List ℕ)) → map f xs ≡ words → length xs ≡ length words
  same-count xs words is = sym (length-map xs f) ∙ ap length is

  -- no word
  pub no-words : (xs : List X) → length xs < 1 → map f xs ≡ []
  no-words [] few = refl
  no-words (y ∷ ys) few = absurd (omega (arith, few))

  -- the first word, and those after it
  pub first-word : (xs : List X) (x : X) → 1 ≤ length xs → x ≡ get_or xs 0 x → map f xs ≡ f x ∷ map f (take (length xs - 1) (drop 1 xs))
  first-word [] x some is = absurd (omega (arith, some))
  first-word (y ∷ ys) x some is =
      let count : length (y ∷ ys) - 1 ≡ length ys = omega arith in
      let rest : take (length (y ∷ ys) - 1) ys ≡ ys = ap (λ n. take n ys) count ∙ take-length ys in
      ap (λ v. f v ∷ map f ys) (sym is) ∙ ap (λ l. f x ∷ map f l) (sym rest)

  -- one word alone
  pub one-word : (xs : List X) (x : X) → length xs ≡ 1 → x ≡ get_or xs 0 x → map f xs ≡ f x ∷ []
  one-word [] x one is = absurd (omega (arith, one))
  one-word (y ∷ []) x one is = ap (λ v. f v ∷ []) (sym is)
  one-word (y ∷ z ∷ ys) x one is = absurd (omega (arith, one))

  -- two words alone
  pub two-words : (xs : List X) (x y : X) → length xs ≡ 2 → x ≡ get_or xs 0 x → y ≡ get_or xs 1 y → map f xs ≡ f x ∷ f y ∷ []
  two-words [] x y two first second = absurd (omega (arith, two))
  two-words (v ∷ []) x y two first second = absurd (omega (arith, two))
  two-words (v ∷ w ∷ []) x y two first second = ap (λ u. f u ∷ f w ∷ []) (sym first) ∙ ap (λ u. f x ∷ f u ∷ []) (sym second)
  two-words (v ∷ w ∷ u ∷ us) x y two first second = absurd (omega (arith, two))

  -- the word after the first
  pub word-after : (xs : List X) (y : X) → length xs ≡ 2 → y ≡ get_or xs 1 y → second_word (map f xs) ≡ f y
  word-after [] y two is = absurd (omega (arith, two))
  word-after (v ∷ []) y two is = absurd (omega (arith, two))
  word-after (v ∷ w ∷ us) y two is = ap f (sym is)

  -- the words after the first
  pub words-after : (xs : List X) → map f (take (length xs - 1) (drop 1 xs)) ≡ words_after (map f xs)
  words-after [] = refl
  words-after (x ∷ xs) =
      let count : length (x ∷ xs) - 1 ≡ length xs = omega arith in
      let rest : take (length (x ∷ xs) - 1) xs ≡ xs = ap (λ n. take n xs) count ∙ take-length xs in
      ap (map f) rest

  -- the first two words, and those after them
  pub two-and-rest : (xs : List X) (x y : X) → 2 ≤ length xs → x ≡ get_or xs 0 x → y ≡ get_or xs 1 y
      → map f xs ≡ f x ∷ f y ∷ map f (take (length xs - 2) (drop 2 xs))
  two-and-rest [] x y some first second = absurd (omega (arith, some))
  two-and-rest (v ∷ []) x y some first second = absurd (omega (arith, some))
  two-and-rest (v ∷ w ∷ xs) x y some first second =
      let count : length (v ∷ w ∷ xs) - 2 ≡ length xs = omega arith in
      let rest : take (length (v ∷ w ∷ xs) - 2) xs ≡ xs = ap (λ n. take n xs) count ∙ take-length xs in
      ap (λ u. f u ∷ f w ∷ map f xs) (sym first) ∙ ap (λ u. f x ∷ f u ∷ map f xs) (sym second) ∙ ap (λ l. f x ∷ f y ∷ map f l) (sym rest)

  -- the words after the second
  pub words-after-second : (xs : List X) → map f (take (length xs - 2) (drop 2 xs)) ≡ words_after_second (map f xs)
  words-after-second [] = refl
  words-after-second (u ∷ []) = refl
  words-after-second (u ∷ v ∷ xs) =
      let count : length (u ∷ v ∷ xs) - 2 ≡ length xs = omega arith in
      let rest : take (length (u ∷ v ∷ xs) - 2) xs ≡ xs = ap (λ n. take n xs) count ∙ take-length xs in
      ap (map f) rest

  -- the words after the third
  pub words-after-third : (xs : List X) → map f (take (length xs - 3) (drop 3 xs)) ≡ words_after_third (map f xs)
  words-after-third [] = refl
  words-after-third (u ∷ []) = refl
  words-after-third (u ∷ v ∷ []) = refl
  words-after-third (u ∷ v ∷ w ∷ xs) =
      let count : length (u ∷ v ∷ w ∷ xs) - 3 ≡ length xs = omega arith in
      let rest : take (length (u ∷ v ∷ w ∷ xs) - 3) xs ≡ xs = ap (λ n. take n xs) count ∙ take-length xs in
      ap (map f) rest
