-- The lines that end within some bytes, and what a reader tells call by call.
use Rattle.std.proofs.Common.{◌≡◌, ℕ, ◌+◌, ◌-◌, ◌<◌, ◌≤◌, Bool, true, false, cond, not, List, [], ◌∷◌, ◌++◌, length, take, map, refl, sym}
use Rattle.std.proofs.Common.{ap, subst, ◌∙◌, append_assoc, get_or, arith, length-append, zero, suc}
use Rattle.std.proofs.lemmas.Bool.{eqb-true}
use Rattle.std.proofs.lemmas.List.{append-nil, map-append, get_or-append-add, get_or_at, take-append-le, take_all}
use Rattle.std.proofs.lemmas.List.Sums.{suffix_len_is}
use Rattle.renju_io.specs.Lines.{LineText, begun, is_line_feed, line_of, lines, pieces, whole_lines, HasNoLineFeed, Tells, ToldAddsUp}
use Rattle.renju_io.specs.Lines.{ToldAreWhole, ToldToTheEnd}
use Rattle.renju_io.specs.declared.TheConstants.{LINE_FEED}
use Rattle.renju_io.proofs.LineLaws.{pieces-ended}
use Rattle.renju_io.proofs.LinesSoFar.{some_pieces}

-- whether a byte ends no line
goes_on : ℕ → Bool
goes_on byte = not (is_line_feed byte)

open_at : (bytes : List ℕ) (k d : ℕ) → HasNoLineFeed bytes → k < length bytes → goes_on (get_or bytes k d) ≡ true
unfolding goes_on
open_at [] k d none within = absurd (omega arith)
open_at (byte ∷ bytes) zero d none within = ap not none.0
open_at (byte ∷ bytes) (suc k) d none within = open_at bytes k d none.1 (omega arith)

-- bytes are cut behind their last line feed, if they have one
data LastFeed (bytes : List ℕ) : Type 0 where
  Nowhere : HasNoLineFeed bytes → LastFeed bytes
  Behind : (front back : List ℕ) → bytes ≡ front ++ (LINE_FEED ∷ back) → HasNoLineFeed back → LastFeed bytes

last_feed-next : (byte : ℕ) (bytes : List ℕ) (b : Bool) → is_line_feed byte ≡ b → LastFeed bytes → LastFeed (byte ∷ bytes)
last_feed-next byte bytes b is (Behind front back cut none) = Behind (byte ∷ front) back (ap (λ bs. byte ∷ bs) cut) none
last_feed-next byte bytes true is (Nowhere none) = Behind [] bytes (ap (λ n. n ∷ bytes) (eqb-true byte LINE_FEED is)) none
last_feed-next byte bytes false is (Nowhere none) = Nowhere (is, none)

last_feed : (bytes : List ℕ) → LastFeed bytes
last_feed [] = Nowhere tt
last_feed (byte ∷ bytes) = last_feed-next byte bytes (is_line_feed byte) refl (last_feed bytes)

-- a byte at the front of some pieces and of more
begun-append : (byte : ℕ) (ps qs : List (List ℕ)) → 0 < length ps → begun byte (ps ++ qs) ≡ begun byte ps ++ qs
begun-append byte [] qs some = absurd (omega arith)
begun-append byte (p ∷ ps) qs some = refl

-- the pieces of bytes that end with a line feed, and of more
pieces-whole : (front more : List ℕ) → pieces (front ++ (LINE_FEED ∷ more)) ≡ pieces (front ++ (LINE_FEED ∷ [])) ++ pieces more
pieces-whole [] more = refl
pieces-whole (byte ∷ front) more =
    let ended = front ++ (LINE_FEED ∷ []) in
    let all = front ++ (LINE_FEED ∷ more) in
    elim (is_line_feed byte) as
    (λ b. cond b ([] ∷ pieces all) (begun byte (pieces all)) ≡ cond b ([] ∷ pieces ended) (begun byte (pieces ended)) ++ pieces more) [
      | true ↦ ap (λ ps. [] ∷ ps) (pieces-whole front more)
      | false ↦ ap (begun byte) (pieces-whole front more) ∙ begun-append byte (pieces ended) (pieces more) (some_pieces front [])
    ]

-- the whole lines of some bytes and what stands behind them
pub record WholeCut (bytes : List ℕ) : Type 0 where
  pub back : List ℕ
  pub is : bytes ≡ whole_lines bytes ++ back
  pub none : HasNoLineFeed back
  pub splits : (more : List ℕ) → lines (whole_lines bytes ++ more) ≡ lines (whole_lines bytes) ++ lines more

-- what a cut shows of the bytes up to it
cut_of : (bytes front back : List ℕ) → whole_lines bytes ≡ front → bytes ≡ front ++ back → HasNoLineFeed back →
    ((more : List ℕ) → lines (front ++ more) ≡ lines front ++ lines more) → WholeCut bytes
cut_of bytes front back whole is none splits = record {
  back = back;
  is = is ∙ ap (λ f. f ++ back) (sym whole);
  none = none;
  splits = subst (λ (f : List ℕ). (more : List ℕ) → lines (f ++ more) ≡ lines f ++ lines more) (sym whole) splits;
}

-- how many bytes stand behind the last line feed
open_behind : (bytes : List ℕ) (n : ℕ) → n ≤ length bytes → ((k : ℕ) → n ≤ k → k < length bytes → goes_on (get_or bytes k 0) ≡ true) →
    (0 < n → goes_on (get_or bytes (n - 1) 0) ≡ false) → whole_lines bytes ≡ take n bytes
unfolding goes_on
open_behind bytes n within on off =
    let many = suffix_len_is (λ byte. not (is_line_feed byte)) bytes n 0 within on off in
    ap (λ k. take k bytes) (omega (arith, many))

cut_behind : (front back : List ℕ) → HasNoLineFeed back → WholeCut (front ++ (LINE_FEED ∷ back))
unfolding goes_on
cut_behind front back none =
    let all = front ++ (LINE_FEED ∷ back) in
    let n = length front + 1 in
    let long = length-append front (LINE_FEED ∷ back) in
    let on : (k : ℕ) → n ≤ k → k < length all → goes_on (get_or all k 0) ≡ true = λ k past within.
    let place : (length front + 1) + (k - n) ≡ k = omega arith in
    subst (λ (i : ℕ). goes_on (get_or all i 0) ≡ true) place
    (ap goes_on (ap (λ i. get_or all i 0) (omega arith) ∙ get_or-append-add front (LINE_FEED ∷ back) (suc (k - n)) 0)
    ∙ open_at back (k - n) 0 none (omega (arith, long))) in
    let off : 0 < n → goes_on (get_or all (n - 1) 0) ≡ false = λ some.
    subst (λ (i : ℕ). goes_on (get_or all i 0) ≡ false) (omega arith) (ap goes_on (get_or_at front LINE_FEED back 0 (length front) refl)) in
    let joined = append_assoc front (LINE_FEED ∷ []) back in
    let ended : take n all ≡ front ++ (LINE_FEED ∷ []) =
    ap (take n) (sym joined) ∙ take-append-le n (front ++ (LINE_FEED ∷ [])) back (omega (arith, length-append front (LINE_FEED ∷ [])))
    ∙ take_all n (front ++ (LINE_FEED ∷ [])) (omega (arith, length-append front (LINE_FEED ∷ []))) in
    cut_of all (front ++ (LINE_FEED ∷ [])) back (open_behind all n (omega (arith, long)) on off ∙ ended) (sym joined) none
    (λ more. ap lines (append_assoc front (LINE_FEED ∷ []) more) ∙ ap (map line_of) (pieces-whole front more)
    ∙ map-append line_of (pieces (front ++ (LINE_FEED ∷ []))) (pieces more))

pub whole_lines-open : (bytes : List ℕ) → HasNoLineFeed bytes → whole_lines bytes ≡ []
whole_lines-open bytes none =
    let on : (k : ℕ) → 0 ≤ k → k < length bytes → goes_on (get_or bytes k 0) ≡ true = λ k past within. open_at bytes k 0 none within in
    open_behind bytes 0 (omega arith) on (λ some. absurd (omega arith))

cut_nowhere : (bytes : List ℕ) → HasNoLineFeed bytes → WholeCut bytes
cut_nowhere bytes none = cut_of bytes [] bytes (whole_lines-open bytes none) refl none (λ more. refl)

pub whole_cut : (bytes : List ℕ) → WholeCut bytes
whole_cut bytes = elim (last_feed bytes) [
  | Nowhere none ↦ cut_nowhere bytes none
  | Behind front back is none ↦ subst WholeCut (sym is) (cut_behind front back none)
]

-- lists that are equal with one more item each are equal
same_before : (xs ys : List LineText) (x y : LineText) → xs ++ (x ∷ []) ≡ ys ++ (y ∷ []) → xs ≡ ys
same_before [] [] x y is = refl
same_before [] (b ∷ []) x y is = cc
same_before [] (b ∷ (c ∷ ys)) x y is = cc
same_before (a ∷ []) [] x y is = cc
same_before (a ∷ (c ∷ xs)) [] x y is = cc
same_before (a ∷ xs) (b ∷ ys) x y is =
    let first : a ≡ b = cc in
    let rest : xs ++ (x ∷ []) ≡ ys ++ (y ∷ []) = cc in
    let same = same_before xs ys x y rest in cc

-- an open line and a line feed are one line
ended_line : (piece : List ℕ) → HasNoLineFeed piece → lines (piece ++ (LINE_FEED ∷ [])) ≡ line_of piece ∷ []
ended_line piece none = ap (map line_of) (pieces-ended piece [] none)

-- the whole lines of some bytes, and a line feed behind what is left of them
ended_lines : (bytes : List ℕ) → (piece : List ℕ) × (lines (bytes ++ (LINE_FEED ∷ [])) ≡ lines (whole_lines bytes) ++ (line_of piece ∷ []))
ended_lines bytes =
    let cut = whole_cut bytes in
    let feed = LINE_FEED ∷ [] in (
      cut.back,
      ap (λ b. lines (b ++ feed)) cut.is ∙ ap lines (append_assoc (whole_lines bytes) cut.back feed) ∙ cut.splits (cut.back ++ feed)
          ∙ ap (λ line. lines (whole_lines bytes) ++ line) (ended_line cut.back cut.none),
    )

-- the whole lines of some bytes are those told of them, and those of the bytes that are kept
pub told_then_whole : (bytes rest : List ℕ) (told : List LineText) → Tells bytes told rest
    → lines (whole_lines bytes) ≡ told ++ lines (whole_lines rest)
told_then_whole bytes rest told tells =
    let all = ended_lines bytes in
    let later = ended_lines rest in
    same_before (lines (whole_lines bytes)) (told ++ lines (whole_lines rest)) (line_of all.0) (line_of later.0)
    (sym all.1 ∙ tells.whatever (LINE_FEED ∷ []) ∙ ap (λ ls. told ++ ls) later.1
    ∙ sym (append_assoc told (lines (whole_lines rest)) (line_of later.0 ∷ [])))

-- the lines told before an open line are those that end
pub told_are_whole : ToldAreWhole
told_are_whole bytes rest told tells none =
    sym (told_then_whole bytes rest told tells ∙ ap (λ ls. told ++ ls) (ap lines (whole_lines-open rest none)) ∙ append-nil told)

-- what is told in two calls is told in one
pub told_adds_up : ToldAddsUp
told_adds_up bytes kept given rest told more before after = record {
  whatever = λ later. ap lines (append_assoc bytes given later) ∙ before.whatever (given ++ later)
      ∙ ap (λ ls. told ++ ls) (ap lines (sym (append_assoc kept given later)) ∙ after.whatever later)
      ∙ sym (append_assoc told more (lines (rest ++ later)));
}

-- what is told up to the end are all lines
pub told_to_the_end : ToldToTheEnd
told_to_the_end bytes kept given rest told more left before last =
    before.whatever given ∙ ap (λ ls. told ++ ls) last.all
