-- The first bad line of a text, where the grammar is given by lists of lines.
use Rattle.std.proofs.Common.{◌≡◌, ℕ, ◌+◌, ◌-◌, ◌≤◌, sym, ap, subst, ◌∙◌, arith, List, [], ◌++◌, length, take, drop, take-append-drop, refl}
use Rattle.std.proofs.Common.{inl, inr, ◌<◌}
use Rattle.std.proofs.lemmas.Bool.{cases_lt}
use Rattle.std.proofs.lemmas.List.{append-nil, length-take-le, take_all}
use Rattle.std.proofs.lemmas.List.Concat.{flat_map-append}
use Rattle.std.proofs.Math.Seq.{take-length}
use Rattle.text_lines.specs.Lines.{ended, text_of, pieces, BeginsWith, FirstBad, LeavesAt}
use Rattle.text_lines.proofs.TextLaws.{AreFree, free_take, more_lines, text_end, text_of-append}
use Rattle.text_lines.proofs.Pieces.{take_fewer, begun, same_front}

-- bytes that begin with the first lines have the first pieces of all of them
lines_pieces : (ls : List (List ℕ)) (bytes rest : List ℕ) (i n : ℕ) → AreFree ls → i ≤ length ls → n ≡ i
    → bytes ≡ text_of (take i ls) ++ rest → take n (pieces (text_of ls)) ≡ take n (pieces bytes)
lines_pieces ls bytes rest i n free enough same e =
    let count : length (take i ls) ≡ n = length-take-le i ls enough ∙ sym same in
    let split : text_of ls ≡ text_of (take i ls) ++ text_of (drop i ls) =
    ap text_of (sym (take-append-drop i ls)) ∙ flat_map-append ended (take i ls) (drop i ls) in
    ap (λ (t : List ℕ). take n (pieces t)) split
    ∙ subst (λ k. take k (pieces (text_of (take i ls) ++ text_of (drop i ls))) ≡ take k (pieces (text_of (take i ls) ++ rest))) count
    (same_front (take i ls) (text_of (drop i ls)) rest (free_take i ls free)) ∙ ap (λ (t : List ℕ). take n (pieces t)) (sym e)

-- ---- whole texts

module _ (IsText : List ℕ → Type 0) (IsLines : List (List ℕ) → Type 0) (free : (ls : List (List ℕ)) → IsLines ls → AreFree ls)
    (lines_of : (t : List ℕ) → IsText t → (ls : List (List ℕ)) × IsLines ls × (t ≡ text_of ls))
    (text_from : (ls : List (List ℕ)) → IsLines ls → IsText (text_of ls)) where
  front_of : (bytes rest : List ℕ) (ls : List (List ℕ)) (i n : ℕ) → IsLines ls → i ≤ length ls → n ≡ i → bytes ≡ text_of (take i ls) ++ rest
      → (text : List ℕ) × IsText text × (take n (pieces text) ≡ take n (pieces bytes))
  front_of bytes rest ls i n are enough same e = (text_of ls, text_from ls are, lines_pieces ls bytes rest i n (free ls are) enough same e)

  pub first_bad : (bytes : List ℕ) (i : ℕ) → LeavesAt IsLines bytes i → FirstBad IsText bytes (i + 1)
  first_bad bytes i h = record {
    counted = omega arith;
    so_far = front_of bytes h.rest h.lines i (i + 1 - 1) h.are h.enough (omega arith) h.so_far;
    no_further = λ t is e.
        let l = lines_of t is in
        let b = begun l.0 bytes (i + 1) (free l.0 l.1) (ap (λ (u : List ℕ). take (i + 1) (pieces u)) (sym l.2) ∙ e) in
        h.no_further l.0 b.rest l.1 b.is;
  }

  pub too_many : (bytes rest : List ℕ) (ls : List (List ℕ)) → IsLines ls → bytes ≡ text_of ls ++ rest → (rest ≡ [] → ⊥)
      → ((lt : List (List ℕ)) (others : List ℕ) → IsLines lt → bytes ≡ text_of (take (length ls) lt) ++ others → length lt ≤ length ls)
      → FirstBad IsText bytes (length ls + 1)
  too_many bytes rest ls are text more most = record {
    counted = omega arith;
    so_far = front_of bytes rest ls (length ls) (length ls + 1 - 1) are (omega arith) (omega arith)
        (text ∙ ap (λ (l : List (List ℕ)). text_of l ++ rest) (sym (take-length ls)));
    no_further = λ t is e.
        let l = lines_of t is in
        let same : take (length ls + 1) (pieces (text_of l.0)) ≡ take (length ls + 1) (pieces bytes) =
        ap (λ (u : List ℕ). take (length ls + 1) (pieces u)) (sym l.2) ∙ e in
        let front = begun l.0 bytes (length ls) (free l.0 l.1) (take_fewer (length ls) 1 (pieces (text_of l.0)) (pieces bytes) same) in
        let few = most l.0 front.rest l.1 front.is in
        let b = begun l.0 bytes (length ls + 1) (free l.0 l.1) same in
        let end = b.end (omega (arith, few)) in
        let whole : text_of l.0 ++ [] ≡ text_of ls ++ rest =
        ap (λ (l : List (List ℕ)). text_of l ++ []) (sym (take_all (length ls + 1) l.0 (omega (arith, few))))
        ∙ ap (λ (r : List ℕ). text_of (take (length ls + 1) l.0) ++ r) (sym end) ∙ sym b.is ∙ text in
        let others = more_lines l.0 ls [] rest (free l.0 l.1) (free ls are) few whole in
        more (text_end others.0 rest others.2);
  }

-- ---- texts that begin with lines of a kind, all of one number

module _ (IsLines : List (List ℕ) → Type 0) (m : ℕ) (free : (ls : List (List ℕ)) → IsLines ls → AreFree ls)
    (count : (ls : List (List ℕ)) → IsLines ls → length ls ≡ m) where
  before_end : (bytes : List ℕ) (i : ℕ) → LeavesAt IsLines bytes i → i < m
  before_end bytes i h = elim (cases_lt i m) [
    | inl less ↦ less
    | inr past ↦
        let c = count h.lines h.are in
        absurd (h.no_further h.lines h.rest h.are (h.so_far ∙ ap (λ (l : List (List ℕ)). text_of l ++ h.rest)
        (take_all i h.lines (omega arith) ∙ sym (take_all (i + 1) h.lines (omega arith)))))
  ]

  -- the line at which bytes leave such lines is the first bad one
  pub front_bad : (bytes : List ℕ) (i : ℕ) → LeavesAt IsLines bytes i → FirstBad (BeginsWith IsLines) bytes (i + 1)
  front_bad bytes i h = record {
    counted = omega arith;
    so_far = (
      text_of h.lines,
      (h.lines, [], h.are, sym (append-nil (text_of h.lines))),
      lines_pieces h.lines bytes h.rest i (i + 1 - 1) (free h.lines h.are) h.enough (omega arith) h.so_far,
    );
    no_further = λ t is e.
        let ls : List (List ℕ) = is.0 in
        let c = count ls is.2 in
        let less = before_end bytes i h in
        let same = lines_pieces ls t (text_of (drop (i + 1) ls) ++ is.1) (i + 1) (i + 1) (free ls is.2) (omega (arith, c, less)) refl
        (is.3 ∙ ap (λ (l : List (List ℕ)). text_of l ++ is.1) (sym (take-append-drop (i + 1) ls))
        ∙ text_of-append (take (i + 1) ls) (drop (i + 1) ls) is.1) in
        let b = begun ls bytes (i + 1) (free ls is.2) (same ∙ e) in
        h.no_further ls b.rest is.2 b.is;
  }
