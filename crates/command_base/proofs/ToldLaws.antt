-- How a told command ends, whatever it says.
use Rattle.std.proofs.Common.{◌≡◌, ◌≢◌, inl, inr, refl, sym, ap, subst, ◌∙◌, ◌⊎◌, ℕ, suc, ◌+◌, ◌<◌, List, length}
use Rattle.std.proofs.Common.{arith, Option, Some, None, IfSome, replicate}
use Rattle.std.proofs.lemmas.Option.{same_Some}
use Rattle.std.proofs.lemmas.List.{length-replicate}
use Rattle.renju_io.specs.Told.{Takes}
use Rattle.renju_io.specs.Faults.{HasNotFallen}
use Rattle.renju_io.proofs.AskedCalls.{by_each_none}
use Rattle.renju_io.specs.declared.TheConstants.{MAX_INPUT_BYTES}
use Rattle.command_base.specs.declared.status.Status.{Status}
use Rattle.command_base.specs.declared.status.Status.TheVariants.{ShelfFault, TooLong, WriteFault}
use Rattle.command_base.specs.Runs.{HasNoFault, IsUnasked, KeepsDevices}
use Rattle.command_base.proofs.Common.{status_number, too_long_line, Change, Run, IsAskedNoMore, IsDelivered, IsOutOfMemory, ToldCommand}
use Rattle.command_base.proofs.Common.{IsInput, IsSaid, IsLongInput, EndsTold, IsTold, IsYielded, IsUnhindered, HasToldAnswer, AnswersTold}

-- some list is longer than n
pub longer-than : (n : ℕ) → (x : List ℕ) × (n < length x)
longer-than n = (replicate (suc n) 0, let zero : ℕ = 0 in let e = length-replicate (suc n) zero in omega (arith, e))

-- bytes that the input gave and that are too many: those that it tells, and else some
long-bytes : (left : Option (List ℕ)) → IfSome left (λ told. MAX_INPUT_BYTES < length told)
    → (bytes : List ℕ) × IsInput left bytes × (MAX_INPUT_BYTES < length bytes)
long-bytes (Some told) h = (told, refl, h)
long-bytes None h = let x = longer-than MAX_INPUT_BYTES in (x.0, tt, x.1)

-- an input that is too long is told so
pub too-long : (input : Change (Option (List ℕ))) (text : List ℕ) → text ≡ too_long_line → IsAskedNoMore (MAX_INPUT_BYTES + 1) input
    → IfSome input.before (λ told. MAX_INPUT_BYTES < length told) → IsLongInput input TooLong text
too-long input text line few h =
    let l = long-bytes input.before h in
    record { bytes = l.0; given = l.1; long = l.2; few = few; ends = refl; line = line }

-- the bytes that are told are the only input
told-bytes : (left : Option (List ℕ)) (bytes other : List ℕ) → left ≡ Some bytes → IsInput left other → other ≡ bytes
told-bytes None bytes other told is = absurd (cc)
told-bytes (Some own) bytes other told is = sym is ∙ same_Some own bytes told

-- what holds of the bytes that the input gave holds of those that it tells
pub given-told : (P : List ℕ → Type 0) (left : Option (List ℕ)) (bytes : List ℕ) → IsInput left bytes → P bytes → IfSome left P
given-told P None bytes given h = tt
given-told P (Some told) bytes given h = subst P (sym given) h

-- what holds of all bytes holds of those that the input tells
pub every-told : (P : List ℕ → Type 0) (left : Option (List ℕ)) → ((bytes : List ℕ) → P bytes) → IfSome left P
every-told P None each = tt
every-told P (Some told) each = each told

-- what holds of each value that would be told holds of the one that is
pub where-told : {X : Type 0} {P : X → Type 0} (o : Option X) → ((x : X) → o ≡ Some x → P x) → IfSome o P
where-told None each = tt
where-told (Some x) each = each x refl

-- ---- what was said and written whole

pub record IsWhole (Says : List ℕ → Status → List ℕ → Type 0) (run : Run) : Type 0 where
  pub status : Status
  pub text : List ℕ
  pub bytes : List ℕ
  pub given : IsInput run.input.before bytes
  pub says : Says bytes status text
  pub ends : run.status ≡ status_number status
  pub whole : Takes run.output.before text run.output.after

module _ (Says : List ℕ → Status → List ℕ → Type 0) (run : Run) where
  by-delivery : (status : Status) (text : List ℕ) → IsSaid Says run.input status text ⊎ IsLongInput run.input status text
      → IsDelivered status text run.output run.status → IsWhole Says run ⊎ IsYielded run.status
  by-delivery status text (inl said) (inl whole) =
      inl (record {
        status = status;
        text = text;
        bytes = said.bytes;
        given = said.given;
        says = said.says;
        ends = whole.0;
        whole = whole.1;
      })
  by-delivery status text (inr long) (inl whole) = inr (inl (whole.0 ∙ ap status_number long.ends))
  by-delivery status text due (inr failed) = inr (inr (inr (inr failed.0)))

  pub by-end : EndsTold Says run.input run.output run.status → IsWhole Says run ⊎ IsYielded run.status
  by-end (inl a) = by-delivery a.status a.text a.due a.delivered
  by-end (inr (inl memory)) = inr (inr (inl memory.ends))
  by-end (inr (inr fault)) = inr (inr (inr (inl fault.ends)))

  -- a told command has said something and written it whole, or ends with a status that stands in place of that
  pub whole-or-yielded : IsTold Says run → IsWhole Says run ⊎ IsYielded run.status
  whole-or-yielded told = by-end told.ends

-- the number of another status than the one with which a run ends
pub other-status : (run : Run) → run.status ≡ 0 → (status other : Status) → run.status ≡ status_number status → status ≡ other
    → 0 ≡ status_number other
other-status run zero status other ends is = sym zero ∙ ends ∙ ap status_number is

-- what a command did in a run that ends with 0, by what it said and wrote whole
pub done-told : (Says : List ℕ → Status → List ℕ → Type 0) (P : List ℕ → Type 0) (run : Run) → run.status ≡ 0
    → ((bytes : List ℕ) (status : Status) (text : List ℕ) → run.status ≡ status_number status
    → Takes run.output.before text run.output.after → Says bytes status text → P bytes)
    → IsTold Says run → IfSome run.input.before P
done-told Says P run zero shown told = by-whole (whole-or-yielded Says run told) where
  by-whole : IsWhole Says run ⊎ IsYielded run.status → IfSome run.input.before P
  by-whole (inl w) = given-told P run.input.before w.bytes w.given (shown w.bytes w.status w.text w.ends w.whole w.says)
  by-whole (inr (inl long)) = absurd (let no : 0 ≡ 11 = sym zero ∙ long in cc)
  by-whole (inr (inr (inl memory))) = absurd (let no : 0 ≡ 6 = sym zero ∙ memory in cc)
  by-whole (inr (inr (inr (inl read)))) = absurd (let no : 0 ≡ 7 = sym zero ∙ read in cc)
  by-whole (inr (inr (inr (inr write)))) = absurd (let no : 0 ≡ 8 = sym zero ∙ write in cc)

-- what a command says, said in other words
pub ends-map : (Says Others : List ℕ → Status → List ℕ → Type 0) (input output : Change (Option (List ℕ))) (number : ℕ)
    → ((bytes : List ℕ) (status : Status) (text : List ℕ) → Says bytes status text → Others bytes status text)
    → EndsTold Says input output number
    → EndsTold Others input output number
ends-map Says Others input output number other (inl a) =
    inl (record { status = a.status; text = a.text; due = by-due a.due; delivered = a.delivered }) where
      by-due : IsSaid Says input a.status a.text ⊎ IsLongInput input a.status a.text
          → IsSaid Others input a.status a.text ⊎ IsLongInput input a.status a.text
      by-due (inl said) = inl (record {
        bytes = said.bytes;
        given = said.given;
        fits = said.fits;
        ended = said.ended;
        says = other said.bytes a.status a.text said.says;
      })
      by-due (inr long) = inr long
ends-map Says Others input output number other (inr ends) = inr ends

-- ---- a command that nothing hinders

module _ (command : ToldCommand)
    (law : (bytes : List ℕ) → command.IsAnswerable bytes → (status : Status) (text : List ℕ) → command.Says bytes status text
    → command.IsAnswer status) (run : Run) (bytes : List ℕ) (free : IsUnhindered command run bytes) where
  said-of : (status : Status) (text : List ℕ) → IsSaid command.Says run.input status text ⊎ IsLongInput run.input status text
      → command.Says bytes status text
  said-of status text (inl said) = subst (λ (l : List ℕ). command.Says l status text)
      (told-bytes run.input.before bytes said.bytes free.told said.given) said.says
  said-of status text (inr long) =
      let size = ap length (told-bytes run.input.before bytes long.bytes free.told long.given) in
      let more = long.long in
      let fits = free.fits in
      absurd (omega (arith, size, more, fits))

  answered : (status : Status) (text : List ℕ) → command.Says bytes status text → IsDelivered status text run.output run.status
      → HasToldAnswer command run bytes
  answered status text says (inl whole) =
      record {
        status = status;
        text = text;
        answer = law bytes free.answerable status text says;
        says = says;
        ends = whole.0;
        whole = whole.1;
      }
  answered status text says (inr failed) = absurd (free.output_sound failed.1)

  pub answers-by : EndsTold command.Says run.input run.output run.status
      → HasToldAnswer command run bytes ⊎ IsOutOfMemory run.output run.status
  answers-by (inl a) = inl (answered a.status a.text (said-of a.status a.text a.due) a.delivered)
  answers-by (inr (inl memory)) = inr memory
  answers-by (inr (inr fault)) = absurd (free.input_sound fault.failed)

-- a told command of which each saying of an answerable input is an answer answers
pub answers-told : (command : ToldCommand)
    → ((bytes : List ℕ) → command.IsAnswerable bytes → (status : Status) (text : List ℕ) → command.Says bytes status text
    → command.IsAnswer status) → (run : Run) → IsTold command.Says run → AnswersTold command run
answers-told command law run told bytes free = answers-by command law run bytes free told.ends

-- what is told is the value that is told
pub told-some : {X : Type 0} (P : X → Type 0) (o : Option X) (x : X) → o ≡ Some x → IfSome o P → P x
told-some P None x told h = absurd (cc)
told-some P (Some own) x told h = subst P (same_Some own x told) h

-- a run that leaves its input unasked keeps the devices where it keeps the others
pub unread-devices : (run : Run) → IsUnasked run.input → HasNotFallen run.output.faults_before run.output.faults_after
    → HasNotFallen run.shelf.faults_before run.shelf.faults_after → run.shelf.after ≡ run.shelf.before
    → (run.status ≢ status_number WriteFault → HasNoFault run.output)
    → (run.status ≢ status_number ShelfFault → run.status ≢ status_number WriteFault → HasNoFault run.shelf) → KeepsDevices run
unread-devices run unasked output shelf files writes loads = record {
  taken = rw (unasked.same, unasked.asked) (by_each_none _ _);
  input = let same = unasked.faults in omega (arith, same);
  output = output;
  shelf = shelf;
  files = files;
  reads = λ other. unasked.faults;
  writes = writes;
  loads = loads;
}
