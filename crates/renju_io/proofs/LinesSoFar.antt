-- What a reader of lines has done since a call began, and what it may answer then.
use Rattle.std.proofs.Common.{◌≡◌, ◌≢◌, ℕ, ◌+◌, ◌<◌, ◌≤◌, Bool, true, false, cond, List, [], ◌∷◌}
use Rattle.std.proofs.Common.{◌++◌, length, take, map, refl, sym, ap, subst, ◌∙◌, append_assoc, None, Some, Ok, Option, IfSome}
use Rattle.std.proofs.Common.{arith, length-append, length-take, ◌⊎◌, inl, inr, option_map}
use Rattle.std.proofs.lemmas.List.{append-nil, length-map}
use Rattle.std.specs.Io.BufRead.{take_through}
use Rattle.std.specs.Io.KnownBytes.{prepend_known, IsAtEnd}
use Rattle.renju_io.proofs.Common.{Gives, LineText, Text, TooLong, begun, is_line_feed, line_of, lines, pieces, HasNoLineFeed, Tells}
use Rattle.renju_io.proofs.Common.{TellsLast, ReaderState, StaysOpen, KeepsLine, TakesLines, TakesTooMany, IsExhausted, lines_left}
use Rattle.renju_io.proofs.Common.{told_lines, OpenUntilLast, ReadsOn}
use Rattle.renju_io.specs.declared.line_reader.Line.{Line}
use Rattle.renju_io.specs.declared.TheConstants.{LINE_FEED, MAX_LINE_BYTES, MAX_SESSION_BYTES}
use Rattle.renju_io.proofs.GivenBytes.{Gives-then}
use Rattle.renju_io.proofs.LineLaws.{HasNoLineFeed-first, HasNoLineFeed-second, HasNoLineFeed-append, HasNoLineFeed-take, Tells-front}
use Rattle.renju_io.proofs.LineLaws.{Tells-then, Tells-joined, pieces-ended}
use Rattle.renju_io.specs.declared.line_reader.Line.TheVariants as kind

-- the reader took these bytes of the source, and its lines are as they were
pub record ReadSoFar (old : ReaderState) (left : Option (List ℕ)) (now : ReaderState) (left_now : Option (List ℕ)) : Type 0 where
  pub given : List ℕ
  pub gives : Gives left given left_now
  pub counted : now.taken ≡ old.taken + length given
  pub stands : Tells (old.kept ++ given) [] now.kept

-- the reader has read so far, or past the most that it may take
pub record Reading (old : ReaderState) (left : Option (List ℕ)) (now : ReaderState) (left_now : Option (List ℕ)) : Type 0 where
  pub within : now.taken ≤ MAX_SESSION_BYTES → ReadSoFar old left now left_now
  pub past : MAX_SESSION_BYTES < now.taken → TakesTooMany old left now left_now
  pub text : now.text ≡ old.text
  pub grown : old.taken + length now.kept ≤ now.taken + length old.kept

-- how many pieces there are once one more byte is begun
begun-length : (byte : ℕ) (ps : List (List ℕ)) → 0 < length ps → length (begun byte ps) ≡ length ps
begun-length byte [] some = absurd (omega arith)
begun-length byte (piece ∷ ps) some = refl

pub some_pieces : (bytes more : List ℕ) → 0 < length (pieces (bytes ++ (LINE_FEED ∷ more)))
some_pieces [] more = omega arith
some_pieces (byte ∷ bytes) more =
    elim (is_line_feed byte) as
    (λ b. 0 < length (cond b ([] ∷ pieces (bytes ++ (LINE_FEED ∷ more))) (begun byte (pieces (bytes ++ (LINE_FEED ∷ more)))))) [
      | true ↦ omega arith
      | false ↦ omega (arith, begun-length byte (pieces (bytes ++ (LINE_FEED ∷ more))) (some_pieces bytes more), some_pieces bytes more)
    ]

-- bytes of which one line feed makes one piece have none
one_piece : (bytes : List ℕ) → length (pieces (bytes ++ (LINE_FEED ∷ []))) ≡ 1 → HasNoLineFeed bytes
one_piece [] one = tt
one_piece (byte ∷ bytes) one =
    let more = some_pieces bytes [] in
    let P : Bool → Type 0 = λ b. length (cond b ([] ∷ pieces (bytes ++ (LINE_FEED ∷ []))) (begun byte (pieces (bytes ++ (LINE_FEED ∷ [])))))
    ≡ 1 → (b ≡ false) × HasNoLineFeed bytes in
    let both : P (is_line_feed byte) = elim (is_line_feed byte) as P [
      | true ↦ λ is. absurd (omega arith)
      | false ↦ λ is. (refl, one_piece bytes (sym (begun-length byte (pieces (bytes ++ (LINE_FEED ∷ []))) more) ∙ is))
    ] in
    both one

pieces-feed : (bytes : List ℕ) → HasNoLineFeed bytes → length (pieces (bytes ++ (LINE_FEED ∷ []))) ≡ 1
pieces-feed bytes none = ap length (pieces-ended bytes [] none)

-- bytes for which others stand, in which no line ends, have no end of a line
pub open_before : (bytes kept : List ℕ) → Tells bytes [] kept → HasNoLineFeed kept → HasNoLineFeed bytes
open_before bytes kept stands none =
    one_piece bytes (sym (length-map (pieces (bytes ++ (LINE_FEED ∷ []))) line_of) ∙ ap length (stands.whatever (LINE_FEED ∷ []))
    ∙ length-map (pieces (kept ++ (LINE_FEED ∷ []))) line_of ∙ pieces-feed kept none)

-- the bytes of a call, up to those that a read gave
stands_after : (bytes given kept : List ℕ) → Tells bytes [] kept → HasNoLineFeed kept →
    Tells (bytes ++ given) [] (take (MAX_LINE_BYTES + 1) kept ++ given)
stands_after bytes given kept stands none =
    Tells-joined bytes given (take (MAX_LINE_BYTES + 1) kept)
    (Tells-then bytes kept (take (MAX_LINE_BYTES + 1) kept) [] stands (Tells-front kept none))

-- what was read so far, and what a read gave
reads_more : (old now next : ReaderState) (left left_now left_next : Option (List ℕ)) (count : ℕ) →
    ReadSoFar old left now left_now → HasNoLineFeed now.kept → (read : ReadsOn now left_now count next left_next) →
    next.kept ≡ take (MAX_LINE_BYTES + 1) now.kept ++ read.given → ReadSoFar old left next left_next
reads_more old now next left left_now left_next count so_far none read joined = record {
  given = so_far.given ++ read.given;
  gives = Gives-then left left_now left_next so_far.given read.given so_far.gives read.gives;
  counted = omega (arith, so_far.counted, read.counted, read.many, length-append so_far.given read.given);
  stands = subst (λ (bytes : List ℕ). Tells bytes [] next.kept) (append_assoc old.kept so_far.given read.given)
      (subst (λ (kept : List ℕ). Tells ((old.kept ++ so_far.given) ++ read.given) [] kept) (sym joined)
      (stands_after (old.kept ++ so_far.given) read.given now.kept so_far.stands none));
}

-- the line stays open
stays_open : (old now : ReaderState) (left left_now : Option (List ℕ)) (so_far : ReadSoFar old left now left_now) (new : ReaderState) →
    HasNoLineFeed now.kept → new.kept ≡ take (MAX_LINE_BYTES + 1) now.kept → StaysOpen old so_far.given new
stays_open old now left left_now so_far new none kept = record {
  open_still = open_before (old.kept ++ so_far.given) now.kept so_far.stands none;
  stands = subst (λ (bytes : List ℕ). Tells (old.kept ++ so_far.given) [] bytes) (sym kept)
      (Tells-then (old.kept ++ so_far.given) now.kept (take (MAX_LINE_BYTES + 1) now.kept) [] so_far.stands (Tells-front now.kept none));
}

-- one more read
pub Reading-on : (old now next : ReaderState) (left left_now left_next : Option (List ℕ)) (count : ℕ) →
    Reading old left now left_now → now.taken ≤ MAX_SESSION_BYTES → HasNoLineFeed now.kept →
    ReadsOn now left_now count next left_next → next.text ≡ now.text → Reading old left next left_next
Reading-on old now next left left_now left_next count reading few none read text =
    let so_far = reading.within few in
    elim read.joined [
      | inl joined ↦ record {
        within = λ _. reads_more old now next left left_now left_next count so_far none read joined.1;
        past = λ more. absurd (omega arith);
        text = text ∙ reading.text;
        grown = omega (
          arith,
          reading.grown,
          read.counted,
          read.many,
          ap length joined.1,
          length-append (take (MAX_LINE_BYTES + 1) now.kept) read.given,
          length-take (MAX_LINE_BYTES + 1) now.kept,
        );
      }
      | inr at_most ↦ record {
        within = λ few. absurd (omega (arith, at_most.0, at_most.1, read.counted));
        past = λ more. inl (record {
          given = so_far.given;
          past = read.given;
          gives = Gives-then left left_now left_next so_far.given read.given so_far.gives read.gives;
          all = omega (arith, at_most.0, so_far.counted);
          one = read.many ∙ at_most.1;
          counted = omega (arith, at_most.0, at_most.1, read.counted);
          stays = stays_open old now left left_now so_far next none at_most.2;
        });
        text = text ∙ reading.text;
        grown = omega (arith, reading.grown, read.counted, ap length at_most.2, length-take (MAX_LINE_BYTES + 1) now.kept);
      }
    ]

-- a read that failed leaves the line open
pub KeepsLine-failed : (old now new : ReaderState) (left left_now left_new : Option (List ℕ)) →
    ReadSoFar old left now left_now → HasNoLineFeed now.kept → left_new ≡ left_now →
    new ≡ record now { kept = take (MAX_LINE_BYTES + 1) now.kept } → KeepsLine old left new left_new
KeepsLine-failed old now new left left_now left_new so_far none same is = record {
  given = so_far.given;
  gives = subst (λ (told : Option (List ℕ)). Gives left so_far.given told) (sym same) so_far.gives;
  counted = ap (λ (reader : ReaderState). reader.taken) is ∙ so_far.counted;
  stays = stays_open old now left left_now so_far new none (ap (λ (reader : ReaderState). reader.kept) is);
}

-- at the end of the input the lines of all bytes are told
TellsLast-read : (old now new : ReaderState) (left left_now : Option (List ℕ)) (told : List LineText) →
    (so_far : ReadSoFar old left now left_now) → lines now.kept ≡ told → new.kept ≡ [] → IsAtEnd left_now →
    TellsLast (old.kept ++ so_far.given) told new.kept left_now
TellsLast-read old now new left left_now told so_far all none ended = record {
  all = ap lines (sym (append-nil (old.kept ++ so_far.given))) ∙ so_far.stands.whatever [] ∙ ap lines (append-nil now.kept) ∙ all;
  none_kept = none;
  ended = ended;
}

lines_split : (kept given more rest : List ℕ) (told : List LineText) (at_end : Bool) →
    (Tells (kept ++ given) told rest ⊎ (at_end ≡ true) × TellsLast (kept ++ given) told rest (Some more)) →
    lines (kept ++ (given ++ more)) ≡ told ++ lines (rest ++ more)
lines_split kept given more rest told at_end (inl tells) = ap lines (sym (append_assoc kept given more)) ∙ tells.whatever more
lines_split kept given more rest told at_end (inr last) =
    ap (λ m. lines (kept ++ (given ++ m))) last.1.ended
    ∙ ap (λ g. lines (kept ++ g)) (append-nil given) ∙ last.1.all ∙ sym (append-nil told)
    ∙ ap (λ r. told ++ lines (r ++ [])) (sym last.1.none_kept)
    ∙ ap (λ m. told ++ lines (rest ++ m)) (sym last.1.ended)

-- the lines that were left are those told and those that are left
pub lines_left-told : (old new : ReaderState) (left left_now : Option (List ℕ)) (told : List LineText) →
    TakesLines old left told new left_now →
    lines_left old left ≡ option_map (λ later. told ++ later) (lines_left new left_now)
lines_left-told old new left None told takes = ap (lines_left old) takes.gives
lines_left-told old new left (Some more) told takes =
    ap (lines_left old) takes.gives ∙ ap (λ ls. Some ls) (lines_split old.kept takes.given more new.kept told new.ended takes.tells)

take_through-le : (bytes : List ℕ) → length (take_through LINE_FEED bytes) ≤ length bytes
take_through-le [] = omega arith
take_through-le (byte ∷ bytes) =
    elim (is_line_feed byte) as (λ b. length (cond b (byte ∷ []) (byte ∷ take_through LINE_FEED bytes)) ≤ length (byte ∷ bytes)) [
      | true ↦ omega arith
      | false ↦ omega (arith, take_through-le bytes)
    ]

-- a line that ends within some bytes takes no more than these
take_through-within : (bytes more : List ℕ) → (HasNoLineFeed bytes → ⊥) → length (take_through LINE_FEED (bytes ++ more)) ≤ length bytes
take_through-within [] more some = absurd (some tt)
take_through-within (byte ∷ bytes) more some =
    let P : Bool → Type 0 = λ b. ((b ≡ false) × HasNoLineFeed bytes → ⊥)
    → length (cond b (byte ∷ []) (byte ∷ take_through LINE_FEED (bytes ++ more))) ≤ length (byte ∷ bytes) in
    let both : P (is_line_feed byte) = elim (is_line_feed byte) as P [
      | true ↦ λ h. omega arith
      | false ↦ λ h. omega (arith, take_through-within bytes more (λ none. h (refl, none)))
    ] in
    both some

-- a line that does not end within some bytes takes one more
take_through-past : (bytes : List ℕ) (byte : ℕ) (more : List ℕ) → HasNoLineFeed bytes →
    length bytes < length (take_through LINE_FEED (bytes ++ (byte ∷ more)))
take_through-past [] byte more none =
    elim (is_line_feed byte) as (λ b. 0 < length (cond b (byte ∷ []) (byte ∷ take_through LINE_FEED more)))
    [ true ↦ omega arith | false ↦ omega arith ]
take_through-past (first ∷ bytes) byte more none =
    let is : take_through LINE_FEED (first ∷ (bytes ++ (byte ∷ more))) ≡ first ∷ take_through LINE_FEED (bytes ++ (byte ∷ more)) =
    ap (λ b. cond b (first ∷ []) (first ∷ take_through LINE_FEED (bytes ++ (byte ∷ more)))) none.0 in
    omega (arith, ap length is, take_through-past bytes byte more none.1)

exhausted_at : (old : ReaderState) (given past more : List ℕ) → old.taken + length given ≡ MAX_SESSION_BYTES → length past ≡ 1 →
    HasNoLineFeed (old.kept ++ given) → IsExhausted old ((given ++ past) ++ more)
exhausted_at old given [] more all one none = absurd (omega arith)
exhausted_at old given (byte ∷ past) more all one none =
    let longer = take_through-past given byte (past ++ more) (HasNoLineFeed-second old.kept given none) in
    inr (
      HasNoLineFeed-first old.kept given none,
      omega
          (arith, longer, ap (λ bytes. length (take_through LINE_FEED bytes)) (append_assoc given (byte ∷ past) more)),
    )

exhausted_if : (old : ReaderState) (given past : List ℕ) (left_now : Option (List ℕ)) → old.taken + length given ≡ MAX_SESSION_BYTES
    → length past ≡ 1 →
    HasNoLineFeed (old.kept ++ given) → IfSome (prepend_known (given ++ past) left_now) (IsExhausted old)
exhausted_if old given past None all one none = tt
exhausted_if old given past (Some more) all one none = exhausted_at old given past more all one none

exhausted_before : (old : ReaderState) (left : Option (List ℕ)) → MAX_SESSION_BYTES < old.taken → IfSome left (IsExhausted old)
exhausted_before old None more = tt
exhausted_before old (Some bytes) more = inl more

-- a reader that took too many bytes was exhausted
pub IsExhausted-past : (old new : ReaderState) (left left_now : Option (List ℕ)) → TakesTooMany old left new left_now
    → IfSome left (IsExhausted old)
IsExhausted-past old new left left_now (inl goes) =
    subst (λ (told : Option (List ℕ)). IfSome told (IsExhausted old)) (sym goes.gives)
    (exhausted_if old goes.given goes.past left_now goes.all goes.one goes.stays.open_still)
IsExhausted-past old new left left_now (inr before) = exhausted_before old left before.0

-- bytes that tell a line have a line feed
told_ends : (bytes rest : List ℕ) (line : LineText) → Tells bytes (line ∷ []) rest → HasNoLineFeed bytes → ⊥
told_ends bytes rest line tells none =
    let one = pieces-feed bytes none in
    let before = length-map (pieces (bytes ++ (LINE_FEED ∷ []))) line_of in
    let after = length-map (pieces (rest ++ (LINE_FEED ∷ []))) line_of in
    absurd (omega (arith, one, before, after, ap length (tells.whatever (LINE_FEED ∷ [])), some_pieces rest []))

not_exhausted_at : (old new : ReaderState) (given more : List ℕ) (told : List LineText) (line : LineText)
    → new.taken ≡ old.taken + length given →
    new.taken ≤ MAX_SESSION_BYTES →
    ((told ≡ line ∷ []) × Tells (old.kept ++ given) told new.kept) ⊎ TellsLast (old.kept ++ given) told new.kept (Some more) →
    IsExhausted old (given ++ more) → ⊥
not_exhausted_at old new given more told line counted few tells (inl before) = absurd (omega arith)
not_exhausted_at old new given more told line counted few (inl tells) (inr past) =
    let ends : HasNoLineFeed given → ⊥ = λ none. told_ends (old.kept ++ given) new.kept line
    (subst (λ (ls : List LineText). Tells (old.kept ++ given) ls new.kept) tells.0 tells.1)
    (HasNoLineFeed-append old.kept given past.0 none) in
    absurd (omega (arith, past.1, take_through-within given more ends))
not_exhausted_at old new given more told line counted few (inr last) (inr past) =
    absurd (omega (arith, past.1, take_through-le (given ++ more), length-append given more, ap length last.ended))

not_exhausted_if : (old new : ReaderState) (given : List ℕ) (left_now : Option (List ℕ)) (told : List LineText) (line : LineText) →
    new.taken ≡ old.taken + length given → new.taken ≤ MAX_SESSION_BYTES →
    ((told ≡ line ∷ []) × Tells (old.kept ++ given) told new.kept) ⊎ TellsLast (old.kept ++ given) told new.kept left_now →
    IfSome (prepend_known given left_now) (λ left. IsExhausted old left → ⊥)
not_exhausted_if old new given None told line counted few tells = tt
not_exhausted_if old new given (Some more) told line counted few tells = not_exhausted_at old new given more told line counted few tells

-- the line that a call tells when it ends, at an answer other than the end
line_told : Line → List ℕ → LineText
line_told kind.Text text = Text text
line_told kind.TooLong text = TooLong
line_told kind.End text = TooLong

told_one : (line : Line) (text : List ℕ) → line ≢ kind.End → told_lines (Ok line) text ≡ line_told line text ∷ []
unfolding line_told
told_one kind.Text text is_line = refl
told_one kind.TooLong text is_line = refl
told_one kind.End text is_line = absurd (is_line refl)

-- a reader that told a line within the most that it may take was not exhausted
pub not_exhausted_line : (old now new : ReaderState) (left left_now : Option (List ℕ)) (line : Line) → ReadSoFar old left now left_now →
    Tells now.kept (told_lines (Ok line) new.text) new.kept → new.taken ≡ now.taken → now.taken ≤ MAX_SESSION_BYTES → line ≢ kind.End →
    IfSome left (λ bytes. IsExhausted old bytes → ⊥)
not_exhausted_line old now new left left_now line so_far tells taken few is_line =
    subst (λ (told : Option (List ℕ)). IfSome told (λ bytes. IsExhausted old bytes → ⊥)) (sym so_far.gives)
    (not_exhausted_if old new so_far.given left_now (told_lines (Ok line) new.text) (line_told line new.text) (taken ∙ so_far.counted)
    (omega arith)
    (inl (
      told_one line new.text is_line,
      Tells-then (old.kept ++ so_far.given) now.kept new.kept (told_lines (Ok line) new.text)
          so_far.stands tells,
    )))

-- nor was one that came to the end of the input
pub not_exhausted_last : (old new : ReaderState) (left left_now : Option (List ℕ)) (told : List LineText)
    (takes : TakesLines old left told new left_now) →
    TellsLast (old.kept ++ takes.given) told new.kept left_now → new.taken ≤ MAX_SESSION_BYTES →
    IfSome left (λ bytes. IsExhausted old bytes → ⊥)
not_exhausted_last old new left left_now told takes last few =
    subst (λ (told : Option (List ℕ)). IfSome told (λ bytes. IsExhausted old bytes → ⊥)) (sym takes.gives)
    (not_exhausted_if old new takes.given left_now told TooLong takes.counted few (inr last))

open_none : (bytes : List ℕ) → length bytes ≡ 0 → HasNoLineFeed bytes
open_none [] none = tt
open_none (byte ∷ bytes) none = absurd (omega arith)

-- a read that gave nothing leaves a line open
pub open_after : (now next : ReaderState) (left left_next : Option (List ℕ)) (count : ℕ) → ReadsOn now left count next left_next →
    count ≡ 0 → HasNoLineFeed now.kept → HasNoLineFeed next.kept
open_after now next left left_next count read nothing none =
    elim read.joined [
      | inl joined ↦ subst HasNoLineFeed (sym joined.1)
          (HasNoLineFeed-append (take (MAX_LINE_BYTES + 1) now.kept) read.given (HasNoLineFeed-take (MAX_LINE_BYTES + 1) now.kept none)
          (open_none read.given (read.many ∙ nothing)))
      | inr at_most ↦ absurd (omega (arith, at_most.1))
    ]

-- a reader is its text, what it kept, how many bytes it took, and whether the end was told
same_state : (one other : ReaderState) → one.text ≡ other.text → one.kept ≡ other.kept → one.taken ≡ other.taken → one.ended ≡ other.ended
    → one ≡ other
same_state one other text kept taken ended =
    ap (λ t. let r : ReaderState = record { text = t; kept = one.kept; taken = one.taken; ended = one.ended } in r) text
    ∙ ap (λ k. let r : ReaderState = record { text = other.text; kept = k; taken = one.taken; ended = one.ended } in r) kept
    ∙ ap (λ n. let r : ReaderState = record { text = other.text; kept = other.kept; taken = n; ended = one.ended } in r) taken
    ∙ ap (λ e. let r : ReaderState = record { text = other.text; kept = other.kept; taken = other.taken; ended = e } in r) ended

begun_some : (byte : ℕ) (ps : List (List ℕ)) → map line_of (begun byte ps) ≡ [] → ⊥
begun_some byte [] is = cc
begun_some byte (piece ∷ ps) is = cc

lines_none : (bytes : List ℕ) → lines bytes ≡ [] → bytes ≡ []
lines_none [] is = refl
lines_none (byte ∷ bytes) is =
    let P : Bool → Type 0 = λ b. map line_of (cond b ([] ∷ pieces bytes) (begun byte (pieces bytes))) ≡ [] → ⊥ in
    let never : P (is_line_feed byte) = elim (is_line_feed byte) as P [
      | true ↦ λ e. cc
      | false ↦ λ e. begun_some byte (pieces bytes) e
    ] in
    absurd (never is)

append_none : (first second : List ℕ) → first ++ second ≡ [] → (first ≡ []) × (second ≡ [])
append_none [] second is = (refl, is)
append_none (byte ∷ first) second is = cc

-- a reader has told the last lines of the input, and took no more than it may
pub record Ended (old : ReaderState) (left : Option (List ℕ)) (told : List LineText) (new : ReaderState) (left_now : Option (List ℕ)) :
    Type 0 where
  pub takes : TakesLines old left told new left_now
  pub last : TellsLast (old.kept ++ takes.given) told new.kept left_now
  pub few : new.taken ≤ MAX_SESSION_BYTES

-- one more read, by a reader that is as it was
pub Reading-read : (old now mid next : ReaderState) (left left_now left_next : Option (List ℕ)) (count : ℕ) →
    Reading old left now left_now → mid ≡ now → now.taken ≤ MAX_SESSION_BYTES → HasNoLineFeed now.kept →
    ReadsOn mid left_now count next left_next → next.text ≡ mid.text → Reading old left next left_next
Reading-read old now mid next left left_now left_next count reading same few none read text =
    let P : ReaderState → Type 0 = λ reader. ReadsOn reader left_now count next left_next in
    Reading-on old now next left left_now left_next count reading few none (subst P same read)
    (text ∙ ap (λ (reader : ReaderState). reader.text) same)

-- the line had not ended before the last read
pub open_until_last : (old now mid next : ReaderState) (left left_now left_next : Option (List ℕ)) (last_next : Option ℕ) (count : ℕ) →
    Reading old left now left_now → mid ≡ now → now.taken ≤ MAX_SESSION_BYTES → HasNoLineFeed now.kept →
    ReadsOn mid left_now count next left_next → last_next ≡ Some count → OpenUntilLast old left left_next last_next
open_until_last old now mid next left left_now left_next last_next count reading same few none read last =
    let so_far = reading.within few in
    record {
      before = so_far.given;
      final = read.given;
      gives = Gives-then left left_now left_next so_far.given read.given so_far.gives read.gives;
      last = last ∙ ap (λ n. Some n) (sym read.many);
      open_still = open_before (old.kept ++ so_far.given) now.kept so_far.stands none;
    }

-- a read that gave nothing ends the input
pub Ended-read : (old now mid next new : ReaderState) (left left_now left_next : Option (List ℕ)) (count : ℕ) (told : List LineText) →
    Reading old left now left_now → mid ≡ now → now.taken ≤ MAX_SESSION_BYTES → HasNoLineFeed now.kept →
    ReadsOn mid left_now count next left_next → next.text ≡ mid.text → count ≡ 0 →
    lines next.kept ≡ told → new.kept ≡ [] → new.taken ≡ next.taken → new.ended ≡ true → IsAtEnd left_next
    → Ended old left told new left_next
Ended-read old now mid next new left left_now left_next count told reading same few none read text nothing all none_kept taken at_end
    ended =
    let few_next : next.taken ≤ MAX_SESSION_BYTES = omega
    (arith, read.counted, nothing, ap (λ (reader : ReaderState). reader.taken) same) in
    let next_reading = Reading-read old now mid next left left_now left_next count reading same few none read text in
    let so_far = next_reading.within few_next in
    let last = TellsLast-read old next new left left_next told so_far all none_kept ended in
    record {
      takes = record { given = so_far.given; gives = so_far.gives; counted = taken ∙ so_far.counted; tells = inr (at_end, last) };
      last = last;
      few = omega arith;
    }

-- where the end is told, nothing was kept and nothing was read
pub ends_as_before : (old new : ReaderState) (left left_now : Option (List ℕ)) (told : List LineText) → Ended old left told new left_now →
    told ≡ [] → new.text ≡ old.text → new.ended ≡ true → (new ≡ record old { ended = true }) × (old.kept ≡ []) × IsAtEnd left_now
ends_as_before old new left left_now told ended is text at_end =
    let none = append_none old.kept ended.takes.given (lines_none (old.kept ++ ended.takes.given) (ended.last.all ∙ is)) in
    let after : ReaderState = record old { ended = true } in (
      same_state new after text (ended.last.none_kept ∙ sym none.0) (omega (arith, ended.takes.counted, ap length none.1)) at_end,
      none.0,
      ended.last.ended,
    )

-- where a line is told at the end of the input, some bytes were kept
pub some_kept : (kept text : List ℕ) (line : Line) → lines kept ≡ told_lines (Ok line) text → line ≢ kind.End → 0 < length kept
some_kept [] text line is is_line = let told = is ∙ told_one line text is_line in cc
some_kept (byte ∷ kept) text line is is_line = omega arith
