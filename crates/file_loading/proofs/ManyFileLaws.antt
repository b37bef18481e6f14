-- Files that are loaded one after another: one of them, those under names, and how far they are accepted.
use Rattle.std.proofs.Common.{◌≡◌, ◌≢◌, inl, inr, refl, sym, ap, subst, ◌∙◌, ℕ, zero, suc, ◌<◌, ◌≤◌, ◌+◌, List, [], ◌∷◌, ◌++◌, length, take}
use Rattle.std.proofs.Common.{drop, get_or, map, arith, rules, Result, Ok, Err, IfOk, Option, Some}
use Rattle.std.specs.List.{AllByRecursion}
use Rattle.std.proofs.lemmas.Option.{same_Some}
use Rattle.std.proofs.lemmas.List.{length-map, length-take-le, map_more, take_all}
use Rattle.file_loading.proofs.Common.{TableFile, Files, MAX_INPUT_BYTES, Status, ShelfFault, WriteFault, status_number, Answer, Change}
use Rattle.file_loading.proofs.Common.{Run, HasFailed, HasNoFault, IsDelivered, IsFileName, IsLoaded, IsTableFile, IsUnheld, TableFileSays}
use Rattle.file_loading.proofs.Common.{AreTableFiles}
use Rattle.file_loading.specs.ManyFiles.{AreKept, AreLoaded, IsFileRefused, IsFittedFile, IsFittedOf, StopsAt, TellsOfFile, of_file}
use Rattle.file_loading.specs.declared.fitting.Fitted.{Fitted}
use Rattle.file_loading.specs.declared.fitting.Fitted.TheVariants.{Fits, Tells}
use Rattle.file_loading.proofs.TableFileLaws.{one-table}
use Rattle.file_loading.proofs.HeldFileLaws.{not-told, table-not_told, unheld-sound}

-- ---- one file

-- what comes of the bytes of a file comes of the file
pub fitted-file : (work : ℕ) (shelf : Change (Option Files)) (n : ℕ) (name bytes : List ℕ) → IsLoaded shelf name bytes
    → length bytes ≤ MAX_INPUT_BYTES → {E : Type 0} (r : Result Fitted E) → IfOk r (IsFittedOf work n bytes)
    → IfOk r (IsFittedFile work shelf n name)
fitted-file work shelf n name bytes loaded fits (Ok (Fits file)) h =
    (record { bytes = bytes; found = loaded.found; fits = fits; at = h.0; fit = h.1 }, loaded.sound)
fitted-file work shelf n name bytes loaded fits (Ok (Tells answer)) h =
    (h.0, inl (record { bytes = bytes; loaded = loaded; fits = fits; says = h.1 }), h.2)
fitted-file work shelf n name bytes loaded fits (Err e) h = tt

-- what comes of a file from a shelf that was as at the start is so from the start
module _ (old new : Change (Option Files)) (same : old.before ≡ new.before) (faults : old.faults_before ≡ new.faults_before)
    (after : old.faults_after ≡ new.faults_after) where
  sound-from : HasNoFault old → HasNoFault new
  sound-from sound = sym after ∙ sound ∙ faults

  loaded-from : (name bytes : List ℕ) → IsLoaded old name bytes → IsLoaded new name bytes
  loaded-from name bytes loaded = search (rules, sound-from)

  unheld-from : (Says : List ℕ → Status → List ℕ → Type 0) (name : List ℕ) (status : Status) (text : List ℕ)
      → IsUnheld Says old name status text → IsUnheld Says new name status text
  unheld-from Says name status text (inl refused) =
      let loaded = loaded-from name refused.bytes refused.loaded in
      inl (record { bytes = refused.bytes; loaded = loaded; fits = refused.fits; says = refused.says })
  unheld-from Says name status text (inr (inl long)) =
      let loaded = loaded-from name long.bytes long.loaded in
      inr (inl (record { bytes = long.bytes; loaded = loaded; long = long.long; ends = long.ends; line = long.line }))
  unheld-from Says name status text (inr (inr fault)) =
      inr (inr (record { failed = rw (← faults) (rw after at fault.failed); ends = fault.ends; line = fault.line }))

  pub fits-from : (work : ℕ) (name : List ℕ) (file : TableFile) → IsTableFile work old.before name file × HasNoFault old
      → IsTableFile work new.before name file × HasNoFault new
  fits-from work name file h = (subst (λ (o : Option Files). IsTableFile work o name file) same h.0, sound-from h.1)

  pub tells-from : (work n : ℕ) (name : List ℕ) (answer : Answer) → TellsOfFile n (IsUnheld (TableFileSays work) old name) answer
      → TellsOfFile n (IsUnheld (TableFileSays work) new name) answer
  tells-from work n name answer h = (h.0, unheld-from (TableFileSays work) name answer.status h.0 h.1, h.2)

-- ---- files under names

module _ (work : ℕ) (shelf : Option Files) where
  -- the names are as many as the tables under them
  pub files-count : (names : List (List ℕ)) (files : List TableFile) → AreTableFiles work shelf names files → length files ≡ length names
  files-count [] [] h = refl
  files-count [] (file ∷ files) h = absurd h
  files-count (name ∷ names) [] h = absurd h
  files-count (name ∷ names) (file ∷ files) h = ap suc (files-count names files h.1)

  -- one more
  files-more : (names : List (List ℕ)) (files : List TableFile) (name : List ℕ) (file : TableFile) → AreTableFiles work shelf names files
      → IsTableFile work shelf name file → AreTableFiles work shelf (names ++ name ∷ []) (files ++ file ∷ [])
  files-more [] [] name file h is = (is, tt)
  files-more [] (f ∷ files) name file h is = absurd h
  files-more (n ∷ names) [] name file h is = absurd h
  files-more (n ∷ names) (f ∷ files) name file h is = (h.0, files-more names files name file h.1 is)

module _ (work : ℕ) (shelf : Files) where
  -- there is one table under a name
  pub one-file : (name : List ℕ) (file other : TableFile) → IsTableFile work (Some shelf) name file
      → IsTableFile work (Some shelf) name other → other ≡ file
  one-file name file other is also =
      let same : also.bytes ≡ is.bytes = same_Some also.bytes is.bytes (sym also.found ∙ is.found) in
      one-table file other is.bytes is.at (rw same at also.at)

  pub same-files : (names : List (List ℕ)) (files others : List TableFile) → AreTableFiles work (Some shelf) names files
      → AreTableFiles work (Some shelf) names others → others ≡ files
  same-files [] [] [] h k = refl
  same-files [] [] (o ∷ others) h k = absurd k
  same-files [] (f ∷ files) others h k = absurd h
  same-files (n ∷ names) [] others h k = absurd h
  same-files (n ∷ names) (f ∷ files) [] h k = absurd k
  same-files (n ∷ names) (f ∷ files) (o ∷ others) h k = search (one-file, same-files names files others h.1 k.1)

  -- the table under a name among others
  file-at : (before later : List (List ℕ)) (name : List ℕ) (files : List TableFile)
      → AreTableFiles work (Some shelf) (before ++ name ∷ later) files → (file : TableFile) × IsTableFile work (Some shelf) name file
  file-at [] later name [] h = absurd h
  file-at [] later name (f ∷ files) h = (f, h.0)
  file-at (n ∷ before) later name [] h = absurd h
  file-at (n ∷ before) later name (f ∷ files) h = file-at before later name files h.1

-- where all are accepted, one is refused only where the shelf fails
pub fit-not_refused : (work : ℕ) (names : List (List ℕ)) (run : Run) (shelf : Files) → run.shelf.before ≡ Some shelf
    → (files : List TableFile) → AreTableFiles work (Some shelf) names files → (status : Status) (text : List ℕ)
    → IsFileRefused work names run.shelf status text → HasFailed run.shelf
fit-not_refused work names run shelf told files fit status text refused =
    let stop = refused.stop in
    let there = file-at work shelf stop.before stop.later stop.name files
    (subst (λ (ns : List (List ℕ)). AreTableFiles work (Some shelf) ns files) stop.names_are fit) in
    not-told stop.name run shelf told there.1.bytes there.1.found (TableFileSays work) there.1.fits
    (table-not_told work there.0 there.1.bytes there.1.at there.1.fit) status refused.line refused.why

-- ---- how far they are accepted

-- the files under these names are accepted, and of them the fact holds
pub record AcceptedUpTo (work : ℕ) (shelf : Option Files) (names : List (List ℕ)) (Holds : List TableFile → Type 0) : Type 0 where
  pub files : List TableFile
  pub accepted : AreTableFiles work shelf names files
  pub holds : Holds files

-- a word of a list of words is the name of a file
pub filled-at : {X : Type 0} (f : X → List ℕ) (xs : List X) (i : ℕ) (x : X) → i < length xs → x ≡ get_or xs i x
    → AllByRecursion IsFileName (map f xs) → IsFileName (f x)
filled-at f [] i x l is all = absurd (omega arith)
filled-at f (y ∷ xs) zero x l is all = subst IsFileName (ap f (sym is)) all.0
filled-at f (y ∷ xs) (suc i) x l is all = filled-at f xs i x (omega arith) is all.1

-- the words before one, that word, and those after it
names-at : {X : Type 0} (f : X → List ℕ) (xs : List X) (i : ℕ) (d : X) → i < length xs
    → map f xs ≡ map f (take i xs) ++ f (get_or xs i d) ∷ map f (drop (suc i) xs)
names-at f [] i d l = absurd (omega arith)
names-at f (x ∷ xs) zero d l = refl
names-at f (x ∷ xs) (suc i) d l = ap (λ (ws : List (List ℕ)). f x ∷ ws) (names-at f xs i d (omega arith))

module _ {X : Type 0} (f : X → List ℕ) (xs : List X) (i : ℕ) (x : X) (name : List ℕ) (l : i < length xs) (is : x ≡ get_or xs i x)
    (named : name ≡ f x) (work : ℕ) where
  here : f (get_or xs i x) ≡ name
  here = ap f (sym is) ∙ sym named

  pub names-are : map f xs ≡ map f (take i xs) ++ name ∷ map f (drop (suc i) xs)
  names-are = names-at f xs i x l ∙ ap (λ (w : List ℕ). map f (take i xs) ++ w ∷ map f (drop (suc i) xs)) here

  -- there are as many as words before it
  pub up-to-count : (shelf : Option Files) (Old : List TableFile → Type 0) (h : AcceptedUpTo work shelf (map f (take i xs)) Old)
      → length h.files ≡ i
  up-to-count shelf Old h =
      files-count work shelf (map f (take i xs)) h.files h.accepted ∙ length-map (take i xs) f ∙ length-take-le i xs (omega arith)

  -- one more file is accepted
  pub up-to-more : (shelf : Option Files) (Old New : List TableFile → Type 0) (file : TableFile)
      → AcceptedUpTo work shelf (map f (take i xs)) Old → IsTableFile work shelf name file
      → ((files : List TableFile) → Old files → New (files ++ file ∷ [])) → AcceptedUpTo work shelf (map f (take (i + 1) xs)) New
  up-to-more shelf Old New file h is more = rw (map_more f xs i x l ∙ ap (λ (w : List ℕ). map f (take i xs) ++ w ∷ []) here) (record {
    files = h.files ++ file ∷ [];
    accepted = files-more work shelf (map f (take i xs)) h.files name file h.accepted is;
    holds = more h.files h.holds;
  })

  -- where one is not, or is the last that is taken
  abbrev pub stop-at : (shelf : Option Files) (Old : List TableFile → Type 0) → AcceptedUpTo work shelf (map f (take i xs)) Old
      → StopsAt work (map f xs) shelf
  stop-at shelf Old h = record {
    before = map f (take i xs);
    name = name;
    later = map f (drop (suc i) xs);
    names_are = names-are;
    files = h.files;
    accepted = h.accepted;
  }

  -- and it is told of
  pub refused-at : (shelf : Change (Option Files)) (Old : List TableFile → Type 0) (answer : Answer)
      → AcceptedUpTo work shelf.before (map f (take i xs)) Old → TellsOfFile (i + 1) (IsUnheld (TableFileSays work) shelf name) answer
      → (refused : IsFileRefused work (map f xs) shelf answer.status answer.text) × Old refused.stop.files
  refused-at shelf Old answer h told =
      let count : length (map f (take i xs)) ≡ i = length-map (take i xs) f ∙ length-take-le i xs (omega arith) in (
        record {
          stop = stop-at shelf.before Old h;
          line = told.0;
          why = told.1;
          told = told.2 ∙ ap (λ (k : ℕ). of_file (k + 1) told.0) (sym count);
        },
        h.holds,
      )

-- once all are accepted, they are kept
pub up-to-all : {X : Type 0} (f : X → List ℕ) (xs : List X) (i : ℕ) (work : ℕ) (shelf : Change (Option Files))
    (Kept : List TableFile → Type 0) → length xs ≤ i → HasNoFault shelf → AcceptedUpTo work shelf.before (map f (take i xs)) Kept
    → AreKept Kept work (map f xs) shelf
up-to-all f xs i work shelf Kept l sound h =
    let all = rw (ap (map f) (take_all i xs l)) at h in
    record { files = all.files; accepted = all.accepted; sound = sound; kept = all.holds }

-- where nothing is told in place of a file that is accepted, what is told is told of one that is not
pub unfit-told : (Kept : List TableFile → Type 0) (work : ℕ) (names : List (List ℕ)) (shelf : Change (Option Files)) (answer : Answer)
    → AreLoaded Kept (λ files file status text. ⊥) work names shelf (Some answer) → IsFileRefused work names shelf answer.status answer.text
unfit-told Kept work names shelf answer (inl refused) = refused.0
unfit-told Kept work names shelf answer (inr other) = absurd other.tells

-- where the status of a run is that of no fault, the shelf has counted none
pub refused-sound : (work : ℕ) (names : List (List ℕ)) (shelf : Change (Option Files)) (status : Status) (text : List ℕ)
    (output : Change (Option (List ℕ))) (number : ℕ) → IsFileRefused work names shelf status text → IsDelivered status text output number
    → number ≢ status_number ShelfFault → number ≢ status_number WriteFault → HasNoFault shelf
refused-sound work names shelf status text output number refused (inr part) other whole = absurd (whole part.0)
refused-sound work names shelf status text output number refused (inl took) other whole =
    unheld-sound (TableFileSays work) shelf refused.stop.name status refused.line refused.why (λ is. other (took.0 ∙ ap status_number is))
