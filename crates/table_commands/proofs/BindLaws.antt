-- The command `bind`: how far its files are bound, its answers, and what its runs show.
use Rattle.std.proofs.Common.{◌≡◌, ◌⊎◌, inl, inr, refl, ap, ◌∙◌, ℕ, ◌<◌, List, [], ◌∷◌, ◌++◌, length, arith, Option, Some, IfSome, rules}
use Rattle.std.proofs.Common.{Result, Ok, Err, IfOk}
use Rattle.strategy_graph.specs.declared.TheConstants.{MAX_NODES}
use Rattle.strategy_compiler.proofs.Common.{HoldMore}
use Rattle.table_commands.proofs.Common.{BRAIN_WORK, TableFile, Files, Book, Status, Done, status_number, Run, IsTableFile, AreNames}
use Rattle.table_commands.proofs.Common.{AreTableFiles, BindSays, HasBound, IsBind, IsUnhinderedBind, ShowsBound, IsFullAt, TellsBook}
use Rattle.table_book.specs.Books.{IsTextOfBook, IsWellFormed}
use Rattle.table_book.specs.declared.TheConstants.{MAX_ENTRIES}
use Rattle.table_book.specs.Binding.{IsBound}
use Rattle.table_book.proofs.Binding.{bound-few, bound-full, entries-count, hold-longer}
use Rattle.command_base.specs.declared.status.Status.TheVariants.{Full}
use Rattle.command_base.specs.declared.answer.Answer.{Answer}
use Rattle.command_base.specs.Runs.{Change, IsDelivered, IsOutOfMemory}
use Rattle.command_base.specs.Texts.{full_line}
use Rattle.command_base.proofs.ToldLaws.{where-told}
use Rattle.file_loading.specs.ManyFiles.{AreKept, AreLoaded}
use Rattle.file_loading.proofs.HeldFileLaws.{delivered-other, not-other, table_told-other, unheld-other}
use Rattle.file_loading.proofs.ManyFileLaws.{files-count, fit-not_refused, one-file, same-files}

-- ---- files under names

module _ (shelf : Files) where
  -- the tables before one among others, and that one
  front-tables : (before later : List (List ℕ)) (name : List ℕ) (files fronts : List TableFile) (file : TableFile)
      → AreTableFiles BRAIN_WORK (Some shelf) (before ++ name ∷ later) files → AreTableFiles BRAIN_WORK (Some shelf) before fronts
      → IsTableFile BRAIN_WORK (Some shelf) name file → (rest : List TableFile) × (files ≡ (fronts ++ file ∷ []) ++ rest)
  front-tables [] later name [] fronts file h k is = absurd h
  front-tables [] later name (f ∷ files) [] file h k is =
      let same = one-file BRAIN_WORK shelf name file f is h.0 in (files, λ i. same i ∷ files)
  front-tables [] later name (f ∷ files) (g ∷ fronts) file h k is = absurd k
  front-tables (n ∷ before) later name [] fronts file h k is = absurd h
  front-tables (n ∷ before) later name (f ∷ files) [] file h k is = absurd k
  front-tables (n ∷ before) later name (f ∷ files) (g ∷ fronts) file h k is =
      let same = one-file BRAIN_WORK shelf n g f k.0 h.0 in
      let others = front-tables before later name files fronts file h.1 k.1 is in
      (others.0, λ i. same i ∷ others.1 i)

-- ---- what is said

-- there is room for one more entry
pub room-left : (files : List TableFile) (book : Book) → IsBound files book → length files < MAX_ENTRIES → length book.entries < MAX_ENTRIES
room-left files book bound room = let count = entries-count book.table files book.entries bound.entries in omega (arith, count, room)

-- the book is full
pub full-at : (files : List TableFile) (file : TableFile) (book : Book) (status : Status) (text : List ℕ)
    → HoldMore (book.table ∷ file.table ∷ []) MAX_NODES → status ≡ Full → text ≡ full_line → IsBound files book
    → IsFullAt files file status text
full-at files file book status text more ends told bound =
    record { few = bound-few files book bound; full = bound-full files file book bound more; ends = ends; told = told }

module _ (names : List (List ℕ)) (shelf : Change (Option Files)) (binder : Book) where
  -- a file is not bound, or the book is full
  pub says-told : (answer : Answer) → AreLoaded (λ files. IsBound files binder) IsFullAt BRAIN_WORK names shelf (Some answer)
      → BindSays names shelf answer.status answer.text
  says-told answer (inl h) = inr (inl (record { refused = h.0; few = bound-few h.0.stop.files binder h.1 }))
  says-told answer (inr full) = inr (inr full)

  module _ (all : AreKept (λ files. IsBound files binder) BRAIN_WORK names shelf) where
    -- once all were added, an entry is held
    pub some-left : AreNames names → 0 < length binder.entries
    some-left are =
        let count = entries-count binder.table all.files binder.entries all.kept.entries in
        let size = files-count BRAIN_WORK shelf.before names all.files all.accepted in
        let some = are.some in
        omega (arith, count, size, some)

    -- all files are bound
    says-book : {text : List ℕ} → IsWellFormed binder → IsTextOfBook binder text → BindSays names shelf Done text
    says-book well told = inl (record {
      files = all.files;
      accepted = all.accepted;
      few = bound-few all.files binder all.kept;
      sound = all.sound;
      book = binder;
      well_formed = well;
      bound = all.kept;
      ends = refl;
      told = told;
    })

    -- and so is the book that was written of them
    pub says-written : {E : Type 0} (r : Result Answer E) → IfOk r (λ answer. answer.status ≡ Done) → IfOk r (λ _. IsWellFormed binder)
        → IfOk r (λ answer. IsTextOfBook binder answer.text) → IfOk r (λ answer. BindSays names shelf answer.status answer.text)
    says-written (Ok answer) ends well told = rw ends (says-book well told)
    says-written (Err e) ends well told = tt

-- ---- answers

module _ (names : List (List ℕ)) (run : Run) (files : List TableFile) (free : IsUnhinderedBind names run files) where
  told-of : (P : Option Files → Type 0) → P run.shelf.before → P (Some free.shelf)
  told-of P h = rw free.told at h

  -- what is said is the book
  book-told : (status : Status) (text : List ℕ) → BindSays names run.shelf status text → IsDelivered status text run.output run.status
      → HasBound files run
  book-told status text (inl said) (inl whole) =
      let same = same-files BRAIN_WORK free.shelf names files said.files free.accepted
      (told-of (λ shelf. AreTableFiles BRAIN_WORK shelf names said.files) said.accepted) in
      record {
        book = said.book;
        well_formed = said.well_formed;
        bound = rw same at said.bound;
        text = text;
        spelled = said.told;
        ends = whole.0 ∙ ap status_number said.ends;
        whole = whole.1;
      }
  book-told status text (inl said) (inr failed) = absurd (free.output_sound failed.1)
  book-told status text (inr (inl unbound)) delivered =
      absurd (free.shelf_sound (fit-not_refused BRAIN_WORK names run free.shelf free.told files free.accepted status text unbound.refused))
  book-told status text (inr (inr full)) delivered =
      let front = front-tables free.shelf full.stop.before full.stop.later full.stop.name files full.stop.files full.file
      (rw full.stop.names_are at free.accepted)
      (told-of (λ shelf. AreTableFiles BRAIN_WORK shelf full.stop.before full.stop.files) full.stop.accepted)
      (told-of (λ shelf. IsTableFile BRAIN_WORK shelf full.stop.name full.file) full.last) in
      absurd (free.few (rw front.1 (hold-longer (full.stop.files ++ full.file ∷ []) front.0 MAX_NODES full.tells.full)))

pub bind-answers : (names : List (List ℕ)) (run : Run) → IsBind names run → (files : List TableFile) → IsUnhinderedBind names run files
    → HasBound files run ⊎ IsOutOfMemory run.output run.status
bind-answers names run is files free = by-ends is.ends where
  by-ends : TellsBook names run ⊎ IsOutOfMemory run.output run.status → HasBound files run ⊎ IsOutOfMemory run.output run.status
  by-ends (inl tells) = inl (book-told names run files free tells.status tells.text tells.says tells.delivered)
  by-ends (inr memory) = inr memory

-- ---- what is shown

-- what status 0 of `bind` shows
pub bind-shown : (names : List (List ℕ)) (run : Run) → IsBind names run → run.status ≡ status_number Done
    → IfSome run.shelf.before (λ shelf. ShowsBound names shelf run)
bind-shown names run is done = search (rules, where-told, not-other, delivered-other, unheld-other, table_told-other)
