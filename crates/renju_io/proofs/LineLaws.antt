-- Laws of the lines of an input.
use Rattle.std.proofs.Common.{◌≡◌, ℕ, ◌+◌, ◌-◌, ◌<◌, ◌≤◌, Bool, true, false, cond, List, [], ◌∷◌, ◌++◌, length, take, drop, map, refl, sym}
use Rattle.std.proofs.Common.{ap, subst, ◌∙◌, append_assoc, position, Some, None, arith, length-append, length-drop, length-take, inl, inr}
use Rattle.std.proofs.Common.{get_or, lt-ltb, zero, suc}
use Rattle.std.proofs.lemmas.List.{append-nil, take_all, length-take-le, drop-take, drop-drop}
use Rattle.std.proofs.lemmas.List.Quantifiers.{position-Some}
use Rattle.std.proofs.lemmas.List.Sums.{position_or_len_is, split_at_first, fails_before_first}
use Rattle.std.proofs.lemmas.Bool.{cases_lt, eqb-true}
use Rattle.std.proofs.lemmas.Bool.Decides.{nat_tests}
use Rattle.std.specs.List.{position_or_len, slice_range}
use Rattle.renju_io.specs.Lines.{LineText, Text, TooLong, begun, is_line_feed, line_of, lines, pieces, HasNoLineFeed, Tells}
use Rattle.renju_io.specs.declared.TheConstants.{LINE_FEED, MAX_LINE_BYTES}

-- the front of bytes in which no line ends
pub HasNoLineFeed-take : (n : ℕ) (bytes : List ℕ) → HasNoLineFeed bytes → HasNoLineFeed (take n bytes)
HasNoLineFeed-take zero bytes none = tt
HasNoLineFeed-take (suc n) [] none = tt
HasNoLineFeed-take (suc n) (byte ∷ bytes) none = (none.0, HasNoLineFeed-take n bytes none.1)

pub HasNoLineFeed-front : (n : ℕ) (front bytes : List ℕ) → front ≡ take n bytes → HasNoLineFeed bytes → HasNoLineFeed front
HasNoLineFeed-front n front bytes is none = subst HasNoLineFeed (sym is) (HasNoLineFeed-take n bytes none)

pub HasNoLineFeed-append : (first second : List ℕ) → HasNoLineFeed first → HasNoLineFeed second → HasNoLineFeed (first ++ second)
HasNoLineFeed-append [] second a b = b
HasNoLineFeed-append (byte ∷ first) second a b = (a.0, HasNoLineFeed-append first second a.1 b)

pub HasNoLineFeed-first : (first second : List ℕ) → HasNoLineFeed (first ++ second) → HasNoLineFeed first
HasNoLineFeed-first [] second none = tt
HasNoLineFeed-first (byte ∷ first) second none = (none.0, HasNoLineFeed-first first second none.1)

pub HasNoLineFeed-second : (first second : List ℕ) → HasNoLineFeed (first ++ second) → HasNoLineFeed second
HasNoLineFeed-second [] second none = none
HasNoLineFeed-second (byte ∷ first) second none = HasNoLineFeed-second first second none.1

-- the first of some pieces, or nothing
first_of : List (List ℕ) → List ℕ
first_of [] = []
first_of (piece ∷ pieces) = piece

-- the pieces after the first
later_of : List (List ℕ) → List (List ℕ)
later_of [] = []
later_of (piece ∷ pieces) = pieces

begun-is : (byte : ℕ) (ps : List (List ℕ)) → begun byte ps ≡ (byte ∷ first_of ps) ∷ later_of ps
unfolding first_of later_of
begun-is byte [] = refl
begun-is byte (piece ∷ ps) = refl

begun_open : (byte : ℕ) (bytes : List ℕ) → is_line_feed byte ≡ false → pieces (byte ∷ bytes) ≡ begun byte (pieces bytes)
begun_open byte bytes is = ap (λ b. cond b ([] ∷ pieces bytes) (begun byte (pieces bytes))) is

-- bytes in which no line ends stand at the front of the first piece
pieces-open : (byte : ℕ) (front more : List ℕ) → HasNoLineFeed (byte ∷ front) →
    pieces ((byte ∷ front) ++ more) ≡ ((byte ∷ front) ++ first_of (pieces more)) ∷ later_of (pieces more)
pieces-open byte [] more none = begun_open byte more none.0 ∙ begun-is byte (pieces more)
pieces-open byte (next ∷ front) more none =
    begun_open byte ((next ∷ front) ++ more) none.0 ∙ ap (begun byte) (pieces-open next front more none.1)

-- bytes in which no line ends, and then a line feed, are a piece
pub pieces-ended : (piece more : List ℕ) → HasNoLineFeed piece → pieces (piece ++ (LINE_FEED ∷ more)) ≡ piece ∷ pieces more
pieces-ended [] more none = refl
pieces-ended (byte ∷ piece) more none =
    begun_open byte (piece ++ (LINE_FEED ∷ more)) none.0 ∙ ap (begun byte) (pieces-ended piece more none.1)

-- bytes in which no line ends, if there are any, are a piece
pieces-last : (byte : ℕ) (front : List ℕ) → HasNoLineFeed (byte ∷ front) → pieces (byte ∷ front) ≡ (byte ∷ front) ∷ []
unfolding first_of later_of
pieces-last byte front none =
    ap pieces (sym (append-nil (byte ∷ front))) ∙ pieces-open byte front [] none ∙ ap (λ p. p ∷ []) (append-nil (byte ∷ front))

line_of-long : (piece : List ℕ) → MAX_LINE_BYTES < length piece → line_of piece ≡ TooLong
line_of-long piece long = ap (λ b. cond b TooLong (Text piece)) (lt-ltb MAX_LINE_BYTES (length piece) long)

-- a piece is too long where its front is, if that has one byte more than a line may have
pub line_of-front : (piece : List ℕ) → line_of (take (MAX_LINE_BYTES + 1) piece) ≡ line_of piece
line_of-front piece =
    elim (cases_lt MAX_LINE_BYTES (length piece)) [
      | inl long ↦ line_of-long (take (MAX_LINE_BYTES + 1) piece) (omega (arith, length-take-le (MAX_LINE_BYTES + 1) piece (omega arith)))
          ∙ sym (line_of-long piece long)
      | inr short ↦ ap line_of (take_all (MAX_LINE_BYTES + 1) piece (omega arith))
    ]

-- the bytes of a line that is too long may be dropped, but for its front
lines-front : (byte : ℕ) (front more : List ℕ) → HasNoLineFeed (byte ∷ front) →
    lines ((byte ∷ front) ++ more) ≡ lines (take (MAX_LINE_BYTES + 1) (byte ∷ front) ++ more)
lines-front byte front more none =
    elim (cases_lt MAX_LINE_BYTES (length (byte ∷ front))) [
      | inl long ↦ ap (map line_of) (pieces-open byte front more none)
          ∙ ap (λ line. line ∷ map line_of (later_of (pieces more)))
          (line_of-long ((byte ∷ front) ++ first_of (pieces more)) (omega (arith, length-append (byte ∷ front) (first_of (pieces more))))
          ∙ sym (line_of-long (take (MAX_LINE_BYTES + 1) (byte ∷ front) ++ first_of (pieces more))
          (omega (
            arith,
            length-append (take (MAX_LINE_BYTES + 1) (byte ∷ front)) (first_of (pieces more)),
            length-take-le (MAX_LINE_BYTES + 1) (byte ∷ front) (omega arith),
          ))))
          ∙ sym (ap (map line_of) (pieces-open byte (take MAX_LINE_BYTES front) more
          (none.0, HasNoLineFeed-take MAX_LINE_BYTES front none.1)))
      | inr short ↦ ap (λ front. lines (front ++ more)) (sym (take_all (MAX_LINE_BYTES + 1) (byte ∷ front) (omega arith)))
    ]

-- of bytes in which no line ends the front may stand for all
pub Tells-front : (front : List ℕ) → HasNoLineFeed front → Tells front [] (take (MAX_LINE_BYTES + 1) front)
Tells-front [] none = record { whatever = λ more. refl }
Tells-front (byte ∷ front) none = record { whatever = λ more. lines-front byte front more none }

-- what is told after nothing was told is told in one
pub Tells-then : (bytes mid rest : List ℕ) (told : List LineText) → Tells bytes [] mid → Tells mid told rest → Tells bytes told rest
Tells-then bytes mid rest told before after = record { whatever = λ more. before.whatever more ∙ after.whatever more }

-- bytes that join what was told of and what is kept
pub Tells-joined : (bytes given rest : List ℕ) → Tells bytes [] rest → Tells (bytes ++ given) [] (rest ++ given)
Tells-joined bytes given rest tells = record {
  whatever = λ more. ap lines (append_assoc bytes given more) ∙ tells.whatever (given ++ more)
      ∙ ap lines (sym (append_assoc rest given more));
}

-- a piece that ends is told as a line
pub Tells-ended : (piece rest : List ℕ) → HasNoLineFeed piece →
    Tells (piece ++ (LINE_FEED ∷ rest)) (line_of (take (MAX_LINE_BYTES + 1) piece) ∷ []) rest
Tells-ended piece rest none = record {
  whatever = λ more. ap lines (append_assoc piece (LINE_FEED ∷ rest) more)
      ∙ ap (map line_of) (pieces-ended piece (rest ++ more) none)
      ∙ ap (λ line. line ∷ lines (rest ++ more)) (sym (line_of-front piece));
}

-- bytes in which no line ends are one line, if there are any
lines-last : (byte : ℕ) (front : List ℕ) → HasNoLineFeed (byte ∷ front) →
    lines (byte ∷ front) ≡ line_of (take (MAX_LINE_BYTES + 1) (byte ∷ front)) ∷ []
lines-last byte front none =
    ap (map line_of) (pieces-last byte front none) ∙ ap (λ line. line ∷ []) (sym (line_of-front (byte ∷ front)))

-- bytes in which no line ends are one line, if their front is not empty
pub lines-all : (bytes : List ℕ) → HasNoLineFeed bytes → (length (take (MAX_LINE_BYTES + 1) bytes) ≡ 0 → ⊥) →
    lines bytes ≡ line_of (take (MAX_LINE_BYTES + 1) bytes) ∷ []
lines-all [] none some = absurd (some refl)
lines-all (byte ∷ front) none some = lines-last byte front none

open_below : (n : ℕ) (bytes : List ℕ) → ((k : ℕ) → k < n → is_line_feed (get_or bytes k 0) ≡ false) → HasNoLineFeed (take n bytes)
open_below zero bytes below = tt
open_below (suc n) [] below = tt
open_below (suc n) (byte ∷ bytes) below =
    (below 0 (omega arith), open_below n bytes (λ k lt. below (suc k) (omega arith)))

-- where the first line ends, bytes are cut in what stands before it, a line feed, and the rest
pub record CutAt (bytes : List ℕ) (at : ℕ) : Type 0 where
  pub no_feed : HasNoLineFeed (take at bytes)
  pub cut : bytes ≡ take at bytes ++ (LINE_FEED ∷ drop (at + 1) bytes)
  pub within : at < length bytes

pub CutAt-position : (bytes : List ℕ) (at : ℕ) → position is_line_feed bytes ≡ Some at → CutAt bytes at
CutAt-position bytes at is =
    let facts = position-Some is_line_feed bytes at 0 is in
    let first : position_or_len is_line_feed bytes ≡ at =
    position_or_len_is is_line_feed bytes at 0 (omega (arith, facts.0)) facts.2 (λ _. facts.1) in
    record {
      no_feed = open_below at bytes facts.2;
      cut = split_at_first is_line_feed bytes 0 (omega (arith, facts.0))
          ∙ ap (λ n. take n bytes ++ (get_or bytes n 0 ∷ drop (n + 1) bytes)) first
          ∙ ap (λ byte. take at bytes ++ (byte ∷ drop (at + 1) bytes)) (eqb-true (get_or bytes at 0) LINE_FEED facts.1);
      within = facts.0;
    }

none_is : (b : Bool) (n : ℕ) → cond b (Some n) None ≡ None → b ≡ false
none_is true n is = cc
none_is false n is = refl

-- where the first line feed has no place, there is none
pub HasNoLineFeed-position : (bytes : List ℕ) → position is_line_feed bytes ≡ None → HasNoLineFeed bytes
HasNoLineFeed-position bytes is =
    let past : length bytes ≤ position_or_len is_line_feed bytes = (let t = none_is _ _ is in grind (arith, nat_tests)) in
    subst HasNoLineFeed (take_all (position_or_len is_line_feed bytes) bytes past)
    (open_below (position_or_len is_line_feed bytes) bytes (λ k lt. fails_before_first is_line_feed bytes k 0 lt))

-- the bytes that are left of a piece of some bytes, from a place in it on
rest_of-range : (bytes : List ℕ) (next end at : ℕ) → at < length (slice_range bytes next end) →
    drop (at + 1) (slice_range bytes next end) ≡ slice_range bytes (next + (at + 1)) end
rest_of-range bytes next end at within =
    let some : at + 1 ≤ end - next = omega (arith, length-take (end - next) (drop next bytes)) in
    let is : end - next ≡ (at + 1) + (end - (next + (at + 1))) = omega arith in
    ap (λ n. drop (at + 1) (take n (drop next bytes))) is
    ∙ drop-take (at + 1) (end - (next + (at + 1))) (drop next bytes)
    ∙ ap (take (end - (next + (at + 1)))) (drop-drop (at + 1) next bytes)

-- a line that ends in a piece of some bytes is told, and what is left of the piece is kept
pub Tells-cut : (line bytes : List ℕ) (next end at : ℕ) → HasNoLineFeed line →
    position is_line_feed (slice_range bytes next end) ≡ Some at →
    Tells (line ++ slice_range bytes next end) (line_of (take (MAX_LINE_BYTES + 1) (line ++ take at (slice_range bytes next end))) ∷ [])
    (slice_range bytes (next + (at + 1)) end)
Tells-cut line bytes next end at none is =
    let cut = CutAt-position (slice_range bytes next end) at is in
    let piece = line ++ take at (slice_range bytes next end) in
    let told = Tells-ended piece (drop (at + 1) (slice_range bytes next end))
    (HasNoLineFeed-append line (take at (slice_range bytes next end)) none cut.no_feed) in
    let P : List ℕ → Type 0 = λ rest. Tells (line ++ slice_range bytes next end) (line_of (take (MAX_LINE_BYTES + 1) piece) ∷ []) rest in
    let Q : List ℕ → Type 0 = λ all. Tells all (line_of (take (MAX_LINE_BYTES + 1) piece) ∷ [])
    (drop (at + 1) (slice_range bytes next end)) in
    subst P (rest_of-range bytes next end at cut.within)
    (subst Q (append_assoc line (take at (slice_range bytes next end)) (LINE_FEED ∷ drop (at + 1) (slice_range bytes next end))
    ∙ ap (λ u. line ++ u) (sym cut.cut)) told)

-- and that is shorter than what was kept
pub cut_is_shorter : (line bytes : List ℕ) (next end at : ℕ) → position is_line_feed (slice_range bytes next end) ≡ Some at →
    length (slice_range bytes (next + (at + 1)) end) < length (line ++ slice_range bytes next end)
cut_is_shorter line bytes next end at is =
    let cut = CutAt-position (slice_range bytes next end) at is in
    omega (
      arith,
      cut.within,
      ap length (rest_of-range bytes next end at cut.within),
      length-drop (at + 1) (slice_range bytes next end),
      length-append line (slice_range bytes next end),
    )
