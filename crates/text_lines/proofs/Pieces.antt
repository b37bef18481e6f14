-- The pieces of bytes that begin with lines.
use Rattle.std.proofs.Common.{◌≡◌, ℕ, zero, suc, ◌+◌, ◌-◌, ◌≤◌, ◌<◌, Bool, true, false, cond, not, refl, sym, ap, subst, ◌∙◌, arith, List}
use Rattle.std.proofs.Common.{[], ◌∷◌, ◌++◌, length, take, drop, map, eqb, take-append-drop, inl, inr}
use Rattle.std.specs.List.{onto_first, concat}
use Rattle.std.proofs.lemmas.Bool.{and_parts, not-true, cases_lt}
use Rattle.std.proofs.lemmas.List.{append-nil, append_cancel_left, take-append-le, take-map, length-map, take_all}
use Rattle.std.proofs.lemmas.List.Folds.{concat-append}
use Rattle.std.proofs.Math.Seq.{take-append_seam, take-append-add, take-length}
use Rattle.text_lines.proofs.Common.{line_feed, ended, text_of, pieces, is_free}
use Rattle.text_lines.proofs.TextLaws.{AreFree, text_of-cons}

line_piece : (l s : List ℕ) → is_free line_feed l ≡ true → pieces (l ++ line_feed ∷ s) ≡ (l ++ line_feed ∷ []) ∷ pieces s
line_piece [] s free = refl
line_piece (b ∷ l) s free =
    let parts = and_parts (not (eqb b line_feed)) (is_free line_feed l) free in
    let other : eqb b line_feed ≡ false = not-true (eqb b line_feed) parts.0 in
    rw (other, line_piece l s parts.1) refl

pub pieces-text : (ls : List (List ℕ)) (r : List ℕ) → AreFree ls → pieces (text_of ls ++ r) ≡ map ended ls ++ pieces r
pieces-text [] r free = refl
pieces-text (l ∷ ls) r free = ap pieces (sym (text_of-cons l ls r))
    ∙ line_piece l (text_of ls ++ r) free.0 ∙ ap (λ (ps : List (List ℕ)). ended l ∷ ps) (pieces-text ls r free.1)

-- ---- the pieces, joined, are the bytes

joined_first : (b : ℕ) (ps : List (List ℕ)) → concat (onto_first b ps) ≡ b ∷ concat ps
joined_first b [] = refl
joined_first b (p ∷ ps) = refl

joined_by : (b : ℕ) (bytes : List ℕ) (ps : List (List ℕ)) → concat ps ≡ bytes → (r : Bool)
    → concat (cond r ((b ∷ []) ∷ ps) (onto_first b ps)) ≡ b ∷ bytes
joined_by b bytes ps h true = ap (λ (l : List ℕ). b ∷ l) h
joined_by b bytes ps h false = joined_first b ps ∙ ap (λ (l : List ℕ). b ∷ l) h

joined : (bytes : List ℕ) → concat (pieces bytes) ≡ bytes
joined [] = refl
joined (b ∷ bytes) = joined_by b bytes (pieces bytes) (joined bytes) (eqb b line_feed)

joined-ended : (ls : List (List ℕ)) → concat (map ended ls) ≡ text_of ls
joined-ended [] = refl
joined-ended (l ∷ ls) = ap (λ (t : List ℕ). ended l ++ t) (joined-ended ls)

-- the first piece is empty only at the end
no_piece_by : (b m : ℕ) (l : List (List ℕ)) (ps : List (List ℕ)) → (t : Bool)
    → take (suc m) (cond t ((b ∷ []) ∷ ps) (onto_first b ps)) ≡ [] ∷ l → ⊥
no_piece_by b m l ps true e = cc
no_piece_by b m l [] false e = cc
no_piece_by b m l (p ∷ ps) false e = cc

no_piece : (rest : List ℕ) (m : ℕ) (l : List (List ℕ)) → take (suc m) (pieces rest) ≡ [] ∷ l → rest ≡ []
no_piece [] m l e = refl
no_piece (b ∷ r) m l e = absurd (no_piece_by b m l (pieces r) (eqb b line_feed) e)

whole_pieces : (ls : List (List ℕ)) → AreFree ls → pieces (text_of ls) ≡ map ended ls ++ [] ∷ []
whole_pieces ls free = ap pieces (sym (append-nil (text_of ls))) ∙ pieces-text ls [] free

-- ---- lines that bytes begin with

-- The bytes begin with the first n lines; and they end there if there are fewer.
pub record Begun (ls : List (List ℕ)) (bytes : List ℕ) (n : ℕ) : Type 0 where
  pub rest : List ℕ
  pub is : bytes ≡ text_of (take n ls) ++ rest
  pub end : length ls < n → rest ≡ []

begun_within : (ls : List (List ℕ)) (bytes : List ℕ) (n : ℕ) → AreFree ls → n ≤ length ls
    → take n (pieces (text_of ls)) ≡ take n (pieces bytes) → bytes ≡ text_of (take n ls) ++ concat (drop n (pieces bytes))
begun_within ls bytes n free few e =
    let count = length-map ls ended in
    let front : take n (pieces bytes) ≡ map ended (take n ls) = sym e
    ∙ ap (take n) (whole_pieces ls free) ∙ take-append-le n (map ended ls) ([] ∷ []) (omega (arith, few, count)) ∙ take-map ended n ls in
    sym (joined bytes) ∙ ap concat (sym (take-append-drop n (pieces bytes))) ∙ concat-append (take n (pieces bytes)) (drop n (pieces bytes))
    ∙ ap (λ (l : List ℕ). l ++ concat (drop n (pieces bytes))) (ap concat front ∙ joined-ended (take n ls))

pub take_fewer : {X : Type 0} (n m : ℕ) (xs ys : List X) → take (n + m) xs ≡ take (n + m) ys → take n xs ≡ take n ys
take_fewer n m xs ys e = sym (take_take n m xs) ∙ ap (take n) e ∙ take_take n m ys where
  take_take : {X : Type 0} (n m : ℕ) (xs : List X) → take n (take (n + m) xs) ≡ take n xs
  take_take {X} zero m xs = refl
  take_take {X} (suc n) m [] = let one : suc n + m ≡ suc (n + m) = omega arith in rw one refl
  take_take {X} (suc n) m (x ∷ xs) = let one : suc n + m ≡ suc (n + m) =
      omega arith in rw one (ap (λ (l : List X). x ∷ l) (take_take n m xs))

begun_past : (ls : List (List ℕ)) (bytes : List ℕ) (m : ℕ) → AreFree ls
    → take (length ls + suc m) (pieces (text_of ls)) ≡ take (length ls + suc m) (pieces bytes) → bytes ≡ text_of ls
begun_past ls bytes m free e =
    let rest : List ℕ = concat (drop (length ls) (pieces bytes)) in
    let front : bytes ≡ text_of ls ++ rest =
    begun_within ls bytes (length ls) free (omega arith) (take_fewer (length ls) (suc m) (pieces (text_of ls)) (pieces bytes) e)
    ∙ ap (λ (l : List (List ℕ)). text_of l ++ rest) (take-length ls) in
    let count : length (map ended ls) ≡ length ls = length-map ls ended in
    let here : map ended ls ++ take (suc m) ([] ∷ []) ≡ map ended ls ++ take (suc m) (pieces rest) =
    sym (take-append-add (map ended ls) ([] ∷ []) (suc m)) ∙ ap (λ n. take (n + suc m) (map ended ls ++ [] ∷ [])) count ∙ ap
    (take (length ls + suc m)) (sym (whole_pieces ls free)) ∙ e ∙ ap (take (length ls + suc m)) (ap pieces front ∙ pieces-text ls rest free)
    ∙ ap (λ n. take (n + suc m) (map ended ls ++ pieces rest)) (sym count) ∙ take-append-add (map ended ls) (pieces rest) (suc m) in
    let none : rest ≡ [] =
    no_piece rest m (take m []) (sym (append_cancel_left (map ended ls) (take (suc m) ([] ∷ [])) (take (suc m) (pieces rest)) here)) in
    front ∙ ap (λ (l : List ℕ). text_of ls ++ l) none ∙ append-nil (text_of ls)

pub begun : (ls : List (List ℕ)) (bytes : List ℕ) (n : ℕ) → AreFree ls → take n (pieces (text_of ls)) ≡ take n (pieces bytes)
    → Begun ls bytes n
begun ls bytes n free e = elim (cases_lt (length ls) n) [
  | inr few ↦ record { rest = concat (drop n (pieces bytes)); is = begun_within ls bytes n free few e; end = λ more. absurd (omega arith) }
  | inl more ↦
      let past : n ≡ length ls + suc (n - length ls - 1) = omega arith in
      let all : bytes ≡ text_of ls = begun_past ls bytes (n - length ls - 1) free
      (subst (λ k. take k (pieces (text_of ls)) ≡ take k (pieces bytes)) past e) in
      record {
        rest = [];
        is = all ∙ ap text_of (sym (take_all n ls (omega arith))) ∙ sym (append-nil (text_of (take n ls)));
        end = λ less. refl;
      }
]

-- the bytes begin with lines, so their first pieces are these
pub same_front : (ls : List (List ℕ)) (x y : List ℕ) → AreFree ls
    → take (length ls) (pieces (text_of ls ++ x)) ≡ take (length ls) (pieces (text_of ls ++ y))
same_front ls x y free = front x ∙ sym (front y) where
  front : (z : List ℕ) → take (length ls) (pieces (text_of ls ++ z)) ≡ map ended ls
  front z = ap (take (length ls)) (pieces-text ls z free) ∙ ap (λ n. take n (map ended ls ++ pieces z)) (sym (length-map ls ended))
      ∙ take-append_seam (map ended ls) (pieces z)
