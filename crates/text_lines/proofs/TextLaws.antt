-- Texts that grow by one piece after another. Texts of lists of lines.
use Rattle.std.proofs.Common.{◌≡◌, ℕ, ◌∙◌, List, Result, Ok, Err, IfOk, zero, suc, ◌≤◌, true, false, refl, sym, ap, arith}
use Rattle.std.proofs.Common.{[], ◌∷◌, ◌++◌, append_assoc, length, take, eqb}
use Rattle.std.specs.List.{AllByRecursion}
use Rattle.std.proofs.lemmas.Bool.{eqb-true, eq-eqb, both_ways}
use Rattle.std.proofs.lemmas.List.{append-nil, nil_from_length}
use Rattle.std.proofs.lemmas.List.Concat.{flat_map-append}
use Rattle.text_lines.proofs.Common.{line_feed, ended, text_of, is_free}
use Rattle.text_lines.proofs.LineLaws.{same_line}

-- the same bytes, put together in another way
pub regroup : {X E : Type 0} (bytes : X → List ℕ) (r : Result X E) (a b : List ℕ) → a ≡ b → IfOk r (λ t. bytes t ≡ a)
    → IfOk r (λ t. bytes t ≡ b)
regroup bytes (Ok t) a b e h = h ∙ e
regroup bytes (Err f) a b e h = tt

-- no line has a line feed
abbrev pub AreFree : List (List ℕ) → Type 0
AreFree ls = AllByRecursion (λ l. is_free line_feed l ≡ true) ls

pub free_take : (n : ℕ) (ls : List (List ℕ)) → AreFree ls → AreFree (take n ls)
free_take zero ls free = tt
free_take (suc n) [] free = tt
free_take (suc n) (l ∷ ls) free = (free.0, free_take n ls free.1)

pub free_append : (a b : List (List ℕ)) → AreFree a → AreFree b → AreFree (a ++ b)
free_append [] b fa fb = fb
free_append (l ∷ a) b fa fb = (fa.0, free_append a b fa.1 fb)

-- ---- texts of lines that are put together

-- a line before lines
pub text_of-cons : (l : List ℕ) (ls : List (List ℕ)) (rest : List ℕ) → l ++ line_feed ∷ (text_of ls ++ rest) ≡ text_of (l ∷ ls) ++ rest
text_of-cons l ls rest =
    let one : l ++ line_feed ∷ (text_of ls ++ rest) ≡ (l ++ line_feed ∷ []) ++ (text_of ls ++ rest) =
    sym (append_assoc l (line_feed ∷ []) (text_of ls ++ rest)) in
    one ∙ sym (append_assoc (l ++ line_feed ∷ []) (text_of ls) rest)

-- the text of one more line
pub text_of-push : (ls : List (List ℕ)) (l rest : List ℕ) → text_of ls ++ (l ++ line_feed ∷ rest) ≡ text_of (ls ++ l ∷ []) ++ rest
text_of-push ls l rest =
    let one : text_of (l ∷ []) ≡ l ++ line_feed ∷ [] = append-nil (l ++ line_feed ∷ []) in
    let joined : l ++ line_feed ∷ rest ≡ text_of (l ∷ []) ++ rest =
    sym (append_assoc l (line_feed ∷ []) rest) ∙ ap (λ (x : List ℕ). x ++ rest) (sym one) in
    ap (λ (x : List ℕ). text_of ls ++ x) joined ∙ sym (append_assoc (text_of ls) (text_of (l ∷ [])) rest)
    ∙ ap (λ (x : List ℕ). x ++ rest) (sym (flat_map-append ended ls (l ∷ [])))

-- the text of two lists of lines
pub text_of-append : (a b : List (List ℕ)) (rest : List ℕ) → text_of (a ++ b) ++ rest ≡ text_of a ++ (text_of b ++ rest)
text_of-append a b rest = ap (λ (l : List ℕ). l ++ rest) (flat_map-append ended a b) ∙ append_assoc (text_of a) (text_of b) rest

-- a first line, and lines after it up to the end
pub whole_text : (first : List ℕ) (ls : List (List ℕ)) (bytes rest tail : List ℕ) → bytes ≡ first ++ line_feed ∷ rest
    → rest ≡ text_of ls ++ tail → tail ≡ [] → bytes ≡ text_of (first ∷ ls)
whole_text first ls bytes rest tail e1 e2 e3 = e1 ∙ ap (λ (l : List ℕ). first ++ line_feed ∷ l) e2
    ∙ text_of-cons first ls tail ∙ ap (λ (l : List ℕ). text_of (first ∷ ls) ++ l) e3 ∙ append-nil (text_of (first ∷ ls))

pub no_bytes : (bytes : List ℕ) → eqb (length bytes) 0 ≡ true → bytes ≡ []
no_bytes bytes h = nil_from_length bytes (eqb-true (length bytes) 0 h)

pub some_bytes : (bytes : List ℕ) → eqb (length bytes) 0 ≡ false → bytes ≡ [] → ⊥
some_bytes bytes h e = both_ways (eqb (length bytes) 0) h (eq-eqb (length bytes) 0 (ap length e))

-- ---- bytes begin with one list of lines

pub more_lines : (a b : List (List ℕ)) (x y : List ℕ) → AreFree a → AreFree b → length a ≤ length b → text_of a ++ x ≡ text_of b ++ y
    → (more : List (List ℕ)) × (b ≡ a ++ more) × (x ≡ text_of more ++ y)
more_lines [] b x y fa fb few e = (b, refl, e)
more_lines (l ∷ a) [] x y fa fb few e = absurd (omega arith)
more_lines (l ∷ a) (k ∷ b) x y fa fb few e =
    let same = same_line l (text_of a ++ x) k (text_of b ++ y) fa.0 fb.0 (text_of-cons l a x ∙ e ∙ sym (text_of-cons k b y)) in
    let rest = more_lines a b x y fa.1 fb.1 (omega arith) same.1 in
    (rest.0, ap (λ (h : List ℕ). h ∷ b) (sym same.0) ∙ ap (λ (t : List (List ℕ)). l ∷ t) rest.1, rest.2)

pub same_lines : (a b : List (List ℕ)) (x y : List ℕ) → AreFree a → AreFree b → length a ≡ length b → text_of a ++ x ≡ text_of b ++ y
    → (a ≡ b) × (x ≡ y)
same_lines [] [] x y fa fb count e = (refl, e)
same_lines [] (k ∷ b) x y fa fb count e = absurd (omega arith)
same_lines (l ∷ a) [] x y fa fb count e = absurd (omega arith)
same_lines (l ∷ a) (k ∷ b) x y fa fb count e =
    let same = same_line l (text_of a ++ x) k (text_of b ++ y) fa.0 fb.0 (text_of-cons l a x ∙ e ∙ sym (text_of-cons k b y)) in
    let rest = same_lines a b x y fa.1 fb.1 (omega arith) same.1 in
    (ap (λ (h : List ℕ). h ∷ a) same.0 ∙ ap (λ (t : List (List ℕ)). k ∷ t) rest.0, rest.1)

-- a text has one list of lines
pub text_of-injective : (a b : List (List ℕ)) → AreFree a → AreFree b → text_of a ≡ text_of b → a ≡ b
text_of-injective [] [] fa fb e = refl
text_of-injective [] ([] ∷ b) fa fb e = absurd cc
text_of-injective [] ((c ∷ k) ∷ b) fa fb e = absurd cc
text_of-injective ([] ∷ a) [] fa fb e = absurd cc
text_of-injective ((c ∷ l) ∷ a) [] fa fb e = absurd cc
text_of-injective (l ∷ a) (k ∷ b) fa fb e =
    let whole : text_of (l ∷ a) ++ [] ≡ text_of (k ∷ b) ++ [] = ap (λ (t : List ℕ). t ++ []) e in
    let same = same_line l (text_of a ++ []) k (text_of b ++ []) fa.0 fb.0 (text_of-cons l a [] ∙ whole ∙ sym (text_of-cons k b [])) in
    let rest = text_of-injective a b fa.1 fb.1 (sym (append-nil (text_of a)) ∙ same.1 ∙ append-nil (text_of b)) in
    ap (λ (h : List ℕ). h ∷ a) same.0 ∙ ap (λ (t : List (List ℕ)). k ∷ t) rest

-- a text of lines that is empty has none
pub text_end : (more : List (List ℕ)) (y : List ℕ) → [] ≡ text_of more ++ y → y ≡ []
text_end [] y e = sym e
text_end ([] ∷ more) y e = absurd cc
text_end ((b ∷ l) ∷ more) y e = absurd cc
