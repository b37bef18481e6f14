-- What a reader has told of an input, line by line.
use Rattle.std.proofs.Common.{List, Option, false, [], ◌≤◌, refl, Some, None, sym, ap, ◌≡◌, true, inl, inr, ◌++◌, ◌∙◌, append_assoc, arith}
use Rattle.std.proofs.Common.{length-append, subst, Bool, ◌⊎◌, length, ℕ, IfSome}
use Rattle.std.proofs.lemmas.List.{append-nil}
use Rattle.renju_io.specs.Lines.{ReaderState, LineText, KnowsEnd, TakesLines, Tells, lines, whole_lines, HasNoLineFeed, TellsLast}
use Rattle.renju_io.specs.declared.TheConstants.{MAX_SESSION_BYTES}
use Rattle.renju_io.specs.Told.{Gives, Takes}
use Rattle.renju_io.proofs.GivenBytes.{Gives-then}
use Rattle.renju_io.proofs.WholeLines.{told_adds_up, told_to_the_end, told_are_whole}

-- what a session has read: the bytes that the source had left as it began, its reader of lines now, and what the source has left
pub record Reading : Type 0 where
  pub left_before : Option (List ℕ)
  pub reader : ReaderState
  pub left : Option (List ℕ)

-- the reader as a session begins
abbrev pub new_reader : ReaderState
new_reader = record { text = []; kept = []; taken = 0; ended = false }

-- the same session once it has read on, and once the brain stepped and its answer was written
abbrev pub read_on : Reading → ReaderState → Option (List ℕ) → Reading
read_on r reader left = record r { reader = reader; left = left }

-- these lines were told
pub record HasTold (r : Reading) (told : List LineText) : Type 0 where
  pub takes : TakesLines new_reader r.left_before told r.reader r.left
  pub few : r.reader.taken ≤ MAX_SESSION_BYTES
  pub knows : KnowsEnd r.reader r.left

-- a sink took nothing
pub Takes-none : (written : Option (List ℕ)) → Takes written [] written
Takes-none None = refl
Takes-none (Some bytes) = ap (λ xs. Some xs) (sym (append-nil bytes))

-- a reader that was not told the end keeps what it has not told
pub open_tells : (r : Reading) (told : List LineText) (read : HasTold r told) → (r.reader.ended ≡ true → ⊥)
    → Tells read.takes.given told r.reader.kept
open_tells r told read reading = elim read.takes.tells [ inl tells ↦ tells | inr last ↦ absurd (reading last.0) ]

-- such a reader
module _ (r : Reading) (told : List LineText) (read : HasTold r told) (tells : Tells read.takes.given told r.reader.kept) where
  abbrev front : List ℕ
  front = read.takes.given

  -- tells more
  pub told_then : (later : List LineText) (next : ReaderState) (left : Option (List ℕ)) → TakesLines r.reader r.left later next left
      → TakesLines new_reader r.left_before (told ++ later) next left
  told_then later next left takes = record {
    given = front ++ takes.given;
    gives = Gives-then r.left_before r.left left front takes.given read.takes.gives takes.gives;
    counted = omega (arith, read.takes.counted, takes.counted, length-append front takes.given);
    tells = elim takes.tells [
      | inl more ↦ inl (told_adds_up front r.reader.kept takes.given next.kept told later tells more)
      | inr last ↦ inr (
        last.0,
        record {
          all = told_to_the_end front r.reader.kept takes.given next.kept told later left tells last.1;
          none_kept = last.1.none_kept;
          ended = last.1.ended;
        },
      )
    ];
  }

  -- or no line ends within what comes
  pub open_after : (more : List ℕ) → HasNoLineFeed (r.reader.kept ++ more) → told ≡ lines (whole_lines (front ++ more))
  open_after more none = told_are_whole (front ++ more) (r.reader.kept ++ more) told (record {
    whatever = λ later. ap lines (append_assoc front more later) ∙ tells.whatever (more ++ later)
        ∙ ap (λ bytes. told ++ lines bytes) (sym (append_assoc r.reader.kept more later));
  }) none

-- what the source has given, where it tells its bytes
pub bytes_of : (left left_now : Option (List ℕ)) (given : List ℕ) (P : List ℕ → Type 0) → Gives left given left_now →
    ((more : List ℕ) → left_now ≡ Some more → P (given ++ more)) → IfSome left P
bytes_of left None given P gives holds = subst (λ (l : Option (List ℕ)). IfSome l P) (sym gives) tt
bytes_of left (Some more) given P gives holds = subst (λ (l : Option (List ℕ)). IfSome l P) (sym gives) (holds more refl)

-- the lines of an input begin with those told
pub begins : (given more : List ℕ) (told : List LineText) (kept : List ℕ) (ended : Bool)
    → Tells given told kept ⊎ (ended ≡ true) × TellsLast given told kept (Some more) →
    (later : List LineText) × (lines (given ++ more) ≡ told ++ later)
begins given more told kept ended (inl tells) = (lines (kept ++ more), tells.whatever more)
begins given more told kept ended (inr last) =
    ([], ap (λ m. lines (given ++ m)) last.1.ended ∙ ap lines (append-nil given) ∙ last.1.all ∙ sym (append-nil told))

-- the whole input was told, of which so many bytes were taken
pub record AllTold (left left_after : Option (List ℕ)) (told : List LineText) (taken : ℕ) : Type 0 where
  pub given : List ℕ
  pub counted : taken ≡ length given
  pub gives : Gives left given left_after
  pub all : lines given ≡ told
  pub few : length given ≤ MAX_SESSION_BYTES

-- where nothing is kept and the end is told, these are all lines
all_lines : (given : List ℕ) (told : List LineText) (kept : List ℕ) (left : Option (List ℕ)) (ended : Bool) → kept ≡ [] →
    Tells given (told ++ []) kept ⊎ (ended ≡ true) × TellsLast given (told ++ []) kept left → lines given ≡ told
all_lines given told kept left ended none (inl tells) =
    sym (ap lines (append-nil given)) ∙ tells.whatever [] ∙ ap (λ rest. (told ++ []) ++ lines (rest ++ [])) none
    ∙ append-nil (told ++ []) ∙ append-nil told
all_lines given told kept left ended none (inr last) = last.1.all ∙ append-nil told

-- a call that told the end, of a reader that was told it before or was not
pub all_told : (r : Reading) (told : List LineText) (read : HasTold r told) (next : ReaderState) (left : Option (List ℕ)) →
    TakesLines r.reader r.left [] next left → next.kept ≡ [] → next.taken ≡ r.reader.taken → (r.reader.ended ≡ true → left ≡ r.left)
    → AllTold r.left_before left told next.taken
all_told r told read next left takes none same stays = elim read.takes.tells [
  | inr last ↦ record {
    given = read.takes.given;
    counted = omega (arith, same, read.takes.counted);
    gives = subst (Gives r.left_before read.takes.given) (sym (stays last.0)) read.takes.gives;
    all = last.1.all;
    few = omega (arith, read.few, read.takes.counted);
  }
  | inl tells ↦
      let all = told_then r told read tells [] next left takes in
      record {
        given = all.given;
        counted = omega (arith, all.counted);
        gives = all.gives;
        all = all_lines all.given told next.kept left next.ended none all.tells;
        few = omega (arith, read.few, all.counted, same);
      }
]
