-- Words and the separators between them.
use Rattle.std.proofs.Common.{◌≡◌, ℕ, suc, ◌+◌, ◌<◌, ◌≤◌, Bool, true, false, cond, not, ◌&&◌, refl, sym, ap}
use Rattle.std.proofs.Common.{◌∙◌, arith, List, [], ◌∷◌, ◌++◌, length, take, drop, eqb, get_or, nat_lt, nat_eq, Bor}
use Rattle.std.proofs.Common.{take-append-drop, drop-cons, length-drop, ◌-◌, Option, Some, None, option_copied, MatchOption, position}
use Rattle.std.specs.Bool.{Decides}
use Rattle.std.specs.Cmp.Lexicographic.{pointwise}
use Rattle.std.specs.List.{list_all, prefix_len, position_or_len}
use Rattle.std.proofs.lemmas.Option.{cond_some}
use Rattle.std.proofs.lemmas.Bool.{ltb-false, eqb-true, eq-eqb, false≢true}
use Rattle.std.proofs.lemmas.List.Folds.{list_all-append}
use Rattle.std.proofs.lemmas.List.Quantifiers.{position-Some}
use Rattle.std.proofs.lemmas.Bool.Decides.{Decides-eqb}
use Rattle.std.proofs.lemmas.List.{take_at}
use Rattle.std.proofs.lemmas.Slice.Eq.{slice_eq-Decides}
use Rattle.std.proofs.Math.Seq.{take-length}
use Rattle.game_rules.proofs.Boards.{and_right}
use Rattle.text_lines.proofs.Common.{Reads, is_free, tail_text}

prefix_all_by : (test : ℕ → Bool) (x : ℕ) (xs : List ℕ) (r : Bool) → test x ≡ r → list_all test (take (prefix_len test xs) xs) ≡ true
    → list_all test (take (cond r (1 + prefix_len test xs) 0) (x ∷ xs)) ≡ true
prefix_all_by test x xs true e rest =
    let one : 1 + prefix_len test xs ≡ suc (prefix_len test xs) = omega arith in
    rw (one, e) rest
prefix_all_by test x xs false e rest = refl

-- the longest front that passes passes
all_in_prefix : (test : ℕ → Bool) (xs : List ℕ) → list_all test (take (prefix_len test xs) xs) ≡ true
all_in_prefix test [] = refl
all_in_prefix test (x ∷ xs) = prefix_all_by test x xs (test x) refl (all_in_prefix test xs)

prefix_len_by : (r : Bool) (n m : ℕ) → n ≤ m → cond r (1 + n) 0 ≤ suc m
prefix_len_by true n m h = omega arith
prefix_len_by false n m h = omega arith

prefix_len-le : (test : ℕ → Bool) (xs : List ℕ) → prefix_len test xs ≤ length xs
prefix_len-le test [] = omega arith
prefix_len-le test (x ∷ xs) = prefix_len_by (test x) (prefix_len test xs) (length xs) (prefix_len-le test xs)

pub free_before : (s i : ℕ) (xs : List ℕ) → position (λ b. eqb b s) xs ≡ Some i → is_free s (take i xs) ≡ true
free_before s i xs h =
    let at = cond_some (nat_lt (position_or_len (λ b. eqb b s) xs) (length xs)) (position_or_len (λ b. eqb b s) xs) i h in
    rw (← at.1) (all_in_prefix (λ b. not (eqb b s)) xs)

no_place : (b : Bool) (x : ℕ) → cond b (Some x) None ≡ None → b ≡ false
no_place true x h = absurd cc
no_place false x h = refl

pub free_all : (s : ℕ) (xs : List ℕ) → position (λ b. eqb b s) xs ≡ None → is_free s xs ≡ true
free_all s xs h =
    let test : ℕ → Bool = λ b. not (eqb b s) in
    let past = no_place (nat_lt (prefix_len test xs) (length xs)) (prefix_len test xs) h in
    let most = prefix_len-le test xs in
    let whole : prefix_len test xs ≡ length xs = let le = ltb-false _ _ past in omega (arith, le, most) in
    let all : take (prefix_len test xs) xs ≡ xs = rw whole (take-length xs) in
    ap (list_all test) (sym all) ∙ all_in_prefix test xs

-- the bytes are those before the separator, it, and those after it
pub parts_at : (s i : ℕ) (xs : List ℕ) → position (λ b. eqb b s) xs ≡ Some i
    → xs ≡ take i xs ++ s ∷ take (length xs - (i + 1)) (drop (i + 1) xs)
parts_at s i xs h =
    let at = position-Some (λ b. eqb b s) xs i 0 h in
    let same : get_or xs i 0 ≡ s = eqb-true _ _ at.1 in
    let within : i < length xs = at.0 in
    let more : drop i xs ≡ get_or xs i 0 ∷ drop (suc i) xs = drop-cons xs i 0 within in
    let next : i + 1 ≡ suc i = omega arith in
    let count : length xs - suc i ≡ length (drop (suc i) xs) = sym (length-drop (suc i) xs) in
    let all : take (length xs - suc i) (drop (suc i) xs) ≡ drop (suc i) xs = rw count (take-length (drop (suc i) xs)) in
    rw (next, all) (sym (take-append-drop i xs) ∙ ap (λ (l : List ℕ). take i xs ++ l) (more ∙ ap (λ (b : ℕ). b ∷ drop (suc i) xs) same))

test_not : (b s : ℕ) (rest : Bool) → (not (eqb b s) && rest) ≡ true → b ≡ s → ⊥
test_not b s rest h e =
    let same : eqb b s ≡ true = eq-eqb b s e in
    let no : false ≡ true = sym (ap (λ (r : Bool). not r && rest) same) ∙ h in
    false≢true no

tails_same : (s : ℕ) (x y : Option (List ℕ)) → tail_text s x ≡ tail_text s y → x ≡ y
tails_same s None None h = refl
tails_same s None (Some r) h = absurd cc
tails_same s (Some q) None h = absurd cc
tails_same s (Some q) (Some r) h = cc

empty_word : (s b : ℕ) (c : List ℕ) (x : Option (List ℕ)) → (b ≡ s → ⊥) → tail_text s x ≡ b ∷ c → ⊥
empty_word s b c None ne h = cc
empty_word s b c (Some r) ne h = ne (let e : s ≡ b = cc in sym e)

-- where the words are free of the separator, bytes have one first word, and one tail after it
pub same_word : (s : ℕ) (a : List ℕ) (x : Option (List ℕ)) (c : List ℕ) (y : Option (List ℕ)) → is_free s a ≡ true → is_free s c ≡ true
    → a ++ tail_text s x ≡ c ++ tail_text s y → (a ≡ c) × (x ≡ y)
same_word s [] x [] y fa fc h = (refl, tails_same s x y h)
same_word s [] x (b ∷ c) y fa fc h = absurd (empty_word s b (c ++ tail_text s y) x (test_not b s (is_free s c) fc) h)
same_word s (b ∷ a) x [] y fa fc h = absurd (empty_word s b (a ++ tail_text s x) y (test_not b s (is_free s a) fa) (sym h))
same_word s (b ∷ a) x (d ∷ c) y fa fc h =
    let first : b ≡ d = cc in
    let others : a ++ tail_text s x ≡ c ++ tail_text s y = cc in
    let rest = same_word s a x c y (and_right (not (eqb b s)) (is_free s a) fa) (and_right (not (eqb d s)) (is_free s c) fc) others in
    ((let e = rest.0 in cc), rest.1)

pub is_free-append : (s : ℕ) (a b : List ℕ) → is_free s a ≡ true → is_free s b ≡ true → is_free s (a ++ b) ≡ true
is_free-append s a b fa fb = list_all-append (λ c. not (eqb c s)) a b ∙ rw (fa, fb) refl

-- ---- texts that bytes begin with

pub after_reads : (text bytes : List ℕ) (r : Option (Bor (List ℕ)))
    → MatchOption r (pointwise nat_eq (take (length text) bytes) text ≡ false)
    (λ x. (pointwise nat_eq (take (length text) bytes) text ≡ true) × (x.now ≡ drop (length text) bytes)
    × (length x.now + length text ≡ length bytes)) → Reads (λ _. Unit {0}) (λ rest. text ++ rest) (option_copied r) bytes
after_reads text bytes None h = λ rest fits e.
    let same : Decides (pointwise nat_eq (take (length text) bytes) text) (take (length text) bytes ≡ text) =
    slice_eq-Decides Decides-eqb _ _ _ refl in
    let front : take (length text) bytes ≡ text = ap (take (length text)) e ∙ take_at text rest (length text) refl in
    false≢true (sym h ∙ same.1 front)
after_reads text bytes (Some x) h =
    let same : Decides (pointwise nat_eq (take (length text) bytes) text) (take (length text) bytes ≡ text) =
    slice_eq-Decides Decides-eqb _ _ _ refl in
    (tt, sym (take-append-drop (length text) bytes) ∙ rw (h.1, same.0 h.0) refl)
