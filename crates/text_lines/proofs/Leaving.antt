-- Where bytes leave lines, of which the first ones are a part.
use Rattle.std.proofs.Common.{◌≡◌, ℕ, zero, suc, ◌+◌, ◌≤◌, refl, sym, ap, ◌∙◌, arith, List, [], ◌∷◌, ◌++◌, length, take, drop}
use Rattle.std.proofs.Common.{take-append-drop, None}
use Rattle.std.proofs.lemmas.List.{take-append-le, take_all, length-append}
use Rattle.std.proofs.Math.Seq.{take-append-add}
use Rattle.text_lines.proofs.Common.{line_feed, text_of, IsLineOf, LeavesAt, ReadsLine}
use Rattle.text_lines.proofs.TextLaws.{AreFree, text_of-append, text_of-cons, same_lines}

take_front : {X : Type 0} (n : ℕ) (xs ys : List X) → (more : List X) × (take n (xs ++ ys) ≡ take n xs ++ more)
take_front zero xs ys = ([], refl)
take_front (suc n) [] ys = (take (suc n) ys, refl)
take_front {X} (suc n) (x ∷ xs) ys = let h = take_front n xs ys in (h.0, ap (λ (l : List X). x ∷ l) h.1)

-- The lines have as many lines in front as these, then a part, and then more; and the part is of this kind where the lines in
-- front are these.
pub record Splits (front : List (List ℕ)) (IsPart : List (List ℕ) → Type 0) (ls : List (List ℕ)) : Type 0 where
  pub first : List (List ℕ)
  pub part : List (List ℕ)
  pub more : List (List ℕ)
  pub lines : ls ≡ first ++ (part ++ more)
  pub free : AreFree first
  pub count : length first ≡ length front
  pub are : first ≡ front → IsPart part

-- A kind of lines, and a kind of parts that stand in them after these lines: each part is completed to such lines, and all such
-- lines have such a part.
pub record HasParts (front : List (List ℕ)) (IsPart IsAll : List (List ℕ) → Type 0) : Type 0 where
  pub free : AreFree front
  pub whole : (l : List (List ℕ)) → IsPart l → (more : List (List ℕ)) × IsAll (front ++ (l ++ more))
  pub parts : (ls : List (List ℕ)) → IsAll ls → Splits front IsPart ls

-- bytes that leave a part after these lines leave the lines of the whole
pub leaves_after : (front : List (List ℕ)) (IsPart IsAll : List (List ℕ) → Type 0) → HasParts front IsPart IsAll
    → (bytes rest : List ℕ) (i : ℕ) → bytes ≡ text_of front ++ rest → LeavesAt IsPart rest i → LeavesAt IsAll bytes (length front + i)
leaves_after front IsPart IsAll has bytes rest i e h =
    let all = has.whole h.lines h.are in
    record {
      lines = front ++ (h.lines ++ all.0);
      rest = h.rest;
      are = all.1;
      enough = let enough = h.enough in let count = length-append h.lines all.0 in let whole =
          length-append front (h.lines ++ all.0) in omega (arith, enough, count, whole);
      so_far =
          let known : take (length front + i) (front ++ (h.lines ++ all.0)) ≡ front ++ take i h.lines =
          take-append-add front (h.lines ++ all.0) i ∙ ap (λ (l : List (List ℕ)). front ++ l) (take-append-le i h.lines all.0 h.enough) in
          e ∙ ap (λ (l : List ℕ). text_of front ++ l) h.so_far ∙ sym (text_of-append front (take i h.lines) h.rest)
          ∙ ap (λ (l : List (List ℕ)). text_of l ++ h.rest) (sym known);
      no_further = λ ls others is f.
          let p = has.parts ls is in
          let more = take_front (i + 1) p.part p.more in
          let count : length front + i + 1 ≡ length p.first + (i + 1) = let c = p.count in omega (arith, c) in
          let known : take (length front + i + 1) ls ≡ p.first ++ (take (i + 1) p.part ++ more.0) =
          ap (λ n. take n ls) count ∙ ap (take (length p.first + (i + 1))) p.lines ∙ take-append-add p.first (p.part ++ p.more) (i + 1)
          ∙ ap (λ (l : List (List ℕ)). p.first ++ l) more.1 in
          let whole : bytes ≡ text_of p.first ++ (text_of (take (i + 1) p.part ++ more.0) ++ others) =
          f ∙ ap (λ (l : List (List ℕ)). text_of l ++ others) known ∙ text_of-append p.first (take (i + 1) p.part ++ more.0) others in
          let same = same_lines front p.first rest (text_of (take (i + 1) p.part ++ more.0) ++ others) has.free p.free (sym p.count)
          (sym e ∙ whole) in
          h.no_further p.part (text_of more.0 ++ others) (p.are (sym same.0)) (same.1 ∙ text_of-append (take (i + 1) p.part) more.0 others);
    }

-- bytes that begin with lines of a kind do not leave them
pub not_left : (IsLines : List (List ℕ) → Type 0) (ls : List (List ℕ)) (bytes rest : List ℕ) (i : ℕ) → IsLines ls
    → bytes ≡ text_of ls ++ rest → LeavesAt IsLines bytes i → ⊥
not_left IsLines ls bytes rest i are e h = h.no_further ls
    (text_of (drop (i + 1) ls) ++ rest) are (e ∙ ap (λ (l : List (List ℕ)). text_of l ++ rest) (sym (take-append-drop (i + 1) ls))
    ∙ text_of-append (take (i + 1) ls) (drop (i + 1) ls) rest)

-- ---- one line

-- where bytes do not begin with the line of a value that fits, they leave such lines at once
pub leaves_first : {X : Type 0} (Fits : X → Type 0) (line : X → List ℕ) (bytes : List ℕ) (v : X) → Fits v → ReadsLine Fits line None bytes
    → LeavesAt (IsLineOf Fits line) bytes 0
leaves_first Fits line bytes v fits none = record {
  lines = line v ∷ [];
  rest = bytes;
  are = (v, fits, refl);
  enough = omega arith;
  so_far = refl;
  no_further = λ ls others is e. none is.0 others is.1
      (e ∙ ap (λ (l : List (List ℕ)). text_of (take 1 l) ++ others) is.2 ∙ sym (text_of-cons (line is.0) [] others));
}

alone : (n : ℕ) (l : List ℕ) → take (n + 1) (l ∷ []) ≡ l ∷ []
alone n l = take_all (n + 1) (l ∷ []) (omega arith)

-- bytes that leave one line leave it at once, and do not begin with the line of a value that fits
pub left_first : {X : Type 0} (Fits : X → Type 0) (line : X → List ℕ) (bytes : List ℕ) (i : ℕ) → LeavesAt (IsLineOf Fits line) bytes i
    → (i ≡ 0) × ReadsLine Fits line None bytes
left_first {X} Fits line bytes i h = (at_once i h.enough refl, none) where
  none : (x : X) (rest : List ℕ) → Fits x → bytes ≡ line x ++ line_feed ∷ rest → ⊥
  none x rest fits e = h.no_further (line x ∷ []) rest (x, fits, refl)
      (e ∙ text_of-cons (line x) [] rest ∙ ap (λ (l : List (List ℕ)). text_of l ++ rest) (sym (alone i (line x))))

  at_once : (k : ℕ) → k ≤ length h.lines → i ≡ k → i ≡ 0
  at_once zero few is = is
  at_once (suc k) few is =
      let one : h.lines ≡ line h.are.0 ∷ [] = h.are.2 in
      let next : i ≡ k + 1 = omega arith in
      let front : take i h.lines ≡ line h.are.0 ∷ [] = ap (take i) one ∙ ap (λ n. take n (line h.are.0 ∷ [])) next
      ∙ alone k (line h.are.0) in
      absurd (h.no_further h.lines h.rest h.are
      (h.so_far ∙ ap (λ (l : List (List ℕ)). text_of l ++ h.rest) (front ∙ sym (ap (take (i + 1)) one ∙ alone i (line h.are.0)))))
