-- Files that are bound into a book one after the other: what the book has of them stays as it grows.
use Rattle.std.proofs.Common.{◌≡◌, ◌⊎◌, inl, inr, ℕ, zero, suc, ◌<◌, ◌≤◌, ◌+◌, List, [], ◌∷◌, ◌++◌, length, refl, sym, ap, subst, ◌∙◌}
use Rattle.std.proofs.Common.{arith, Some, slice_get, Contains, length-append, append-nil, rules, append_assoc}
use Rattle.std.specs.List.{AllByRecursion}
use Rattle.std.proofs.lemmas.Bool.{cases_lt}
use Rattle.std.proofs.lemmas.List.{map-append}
use Rattle.std.proofs.lemmas.List.Elements.{Contains-append_cases, Contains-append_left, Contains-append_right}
use Rattle.std.proofs.lemmas.Option.{slice_get_within}
use Rattle.table_book.proofs.Common.{TableFile, Node, MAX_NODES, Root, Book, Entry, EntryFits, EntryRootFits, AddsFile, AreEntriesOf}
use Rattle.table_book.proofs.Common.{AreInOrder, HoldSame, IsBinding, IsBound, IsEntryOf, SameRoot, nodes_of, tables_of}
use Rattle.strategy_graph.proofs.Common.{NamesLower}
use Rattle.strategy_graph.proofs.Filling.{IsTable-lower}
use Rattle.strategy_graph.proofs.Saying.{iff-then, root-grown}
use Rattle.strategy_compiler.proofs.Adopted.{among-one, among-two}
use Rattle.strategy_compiler.proofs.Common.{Adopts, IsCompiled, HoldMore, IsHeld, Unfolded, unfolded, unfolded_nodes}
use Rattle.strategy_compiler.proofs.Unfolding.{answers-longer, held-within, unfolded-apart, unfolded-longer, unfolded_nodes-at}
use Rattle.strategy_compiler.proofs.Unfolding.{unfolded_nodes-there}
use Rattle.table_book.proofs.Soundness.{root_fits-below}

-- ---- roots and entries of nodes that grow

module _ (t u more : List Node) (lower : NamesLower u) where
  root-stays : (r s : Root) → EntryRootFits (length u) s → SameRoot t r u s → SameRoot t r (u ++ more) s
  root-stays x0 x1 fits h = search (rules, unfolded-longer, answers-longer)

module _ (u more : List Node) (lower : NamesLower u) where
  entries-grown : (files : List TableFile) (es : List Entry) → AllByRecursion (EntryFits (length u)) es → AreEntriesOf files u es
      → AreEntriesOf files (u ++ more) es
  entries-grown [] [] fit h = tt
  entries-grown [] (e ∷ es) fit h = absurd h
  entries-grown (file ∷ files) [] fit h = absurd h
  entries-grown (file ∷ files) (e ∷ es) fit h = search (rules, root-stays, root-grown, root_fits-below, entries-grown files es fit.1 h.1)

entries-more : (t : List Node) (files : List TableFile) (es : List Entry) (file : TableFile) (e : Entry) → AreEntriesOf files t es
    → IsEntryOf file t e → AreEntriesOf (files ++ file ∷ []) t (es ++ e ∷ [])
entries-more t [] [] file e h is = (is, tt)
entries-more t [] (d ∷ es) file e h is = absurd h
entries-more t (f ∷ files) [] file e h is = absurd h
entries-more t (f ∷ files) (d ∷ es) file e h is = (h.0, entries-more t files es file e h.1 is)

pub entries-count : (t : List Node) (files : List TableFile) (es : List Entry) → AreEntriesOf files t es → length es ≡ length files
entries-count t [] [] h = refl
entries-count t [] (e ∷ es) h = absurd h
entries-count t (f ∷ files) [] h = absurd h
entries-count t (f ∷ files) (e ∷ es) h = ap suc (entries-count t files es h.1)

-- ---- places in lists one after the other

get-left : {X : Type 0} (xs ys : List X) (k : ℕ) (x : X) → slice_get xs k ≡ Some x → slice_get (xs ++ ys) k ≡ Some x
get-left [] ys k x e = cc
get-left (z ∷ xs) ys zero x e = e
get-left (z ∷ xs) ys (suc k) x e = get-left xs ys k x e

get-right : {X : Type 0} (xs ys : List X) (k : ℕ) (x : X) → slice_get ys k ≡ Some x
    → (q : ℕ) × (q ≡ length xs + k) × (slice_get (xs ++ ys) q ≡ Some x)
get-right [] ys k x e = (k, omega arith, e)
get-right (z ∷ xs) ys k x e = let later = get-right xs ys k x e in (suc later.0, (let is = later.1 in omega arith), later.2)

get-cases : {X : Type 0} (xs ys : List X) (q : ℕ) (x : X) → slice_get (xs ++ ys) q ≡ Some x
    → (slice_get xs q ≡ Some x) ⊎ ((k : ℕ) × (q ≡ length xs + k) × (slice_get ys k ≡ Some x))
get-cases [] ys q x e = inr (q, omega arith, e)
get-cases (z ∷ xs) ys zero x e = inl e
get-cases (z ∷ xs) ys (suc q) x e = elim (get-cases xs ys q x e) [ inl h ↦ inl h | inr h ↦ inr (h.0, (let is = h.1 in omega arith), h.2) ]

-- ---- what files hold

held-more : (t : List Node) (tables : List (List Node)) (w : Unfolded) → IsHeld tables w → IsHeld (t ∷ tables) w
held-more t tables w is = (is.0, is.1, (suc is.2.0, (let inside = is.2.1 in omega arith), is.2.2), is.3, is.4)

-- what has a place among the nodes of the files is held by them, and the other way round
place-held : (files : List TableFile) (q : ℕ) (w : Unfolded) → slice_get (nodes_of files) q ≡ Some w → IsHeld (tables_of files) w
place-held [] q w e = cc
place-held (file ∷ files) q w e = search (rules, get-cases, unfolded_nodes-at, held-more, place-held files)

held-place : (files : List TableFile) (w : Unfolded) → IsHeld (tables_of files) w → (q : ℕ) × (slice_get (nodes_of files) q ≡ Some w)
held-place [] w (t, i, c, l, e) = let none = c.1 in absurd (omega arith)
held-place (file ∷ files) w (t, i, (zero, inside, is), l, e) =
    let low : i < length file.table = subst (λ (v : List Node). i < length v) (sym is) l in (
      i,
      get-left (unfolded_nodes file.table) (nodes_of files) i w
          (unfolded_nodes-there file.table i low ∙ ap (λ (v : List Node). Some (unfolded v i)) is ∙ ap Some e),
    )
held-place (file ∷ files) w (t, i, (suc k, inside, is), l, e) =
    let later = held-place files w (t, i, (k, omega arith, is), l, e) in
    let there = get-right (unfolded_nodes file.table) (nodes_of files) later.0 w later.1 in
    (there.0, there.2)

tables-more : (files : List TableFile) (file : TableFile) → tables_of (files ++ file ∷ []) ≡ tables_of files ++ file.table ∷ []
tables-more files file = map-append (λ (f : TableFile). f.table) files (file ∷ [])

nodes-more : (files : List TableFile) (file : TableFile) → nodes_of (files ++ file ∷ []) ≡ nodes_of files ++ unfolded_nodes file.table
nodes-more [] file = append-nil (unfolded_nodes file.table)
nodes-more (f ∷ files) file = ap (λ (ws : List Unfolded). unfolded_nodes f.table ++ ws) (nodes-more files file)
    ∙ sym (append_assoc (unfolded_nodes f.table) (nodes_of files) (unfolded_nodes file.table))

-- ---- no file

no-nodes : IsCompiled []
no-nodes = record { table = record { nodes = λ i n at. cc; size = omega arith }; different = record { different = λ i j n at also. cc } }

pub bound-none : (book : Book) → book.table ≡ [] → book.entries ≡ [] → IsBound [] book
bound-none book none without = search (rules, no-nodes, among-one)

-- ---- one file more

module _ (files : List TableFile) (file : TableFile) (old new : Book) (before : IsBound files old) (adds : AddsFile old file new)
    (adopts : Adopts old.table file.table new.table) (binding : IsBinding new) where
  old-lower : NamesLower old.table
  old-lower = IsTable-lower old.table before.binding.compiled.table

  new-lower : NamesLower new.table
  new-lower = IsTable-lower new.table binding.compiled.table

  count : length new.table ≡ length old.table + length adopts.grows.added
  count = ap length adopts.grows.is ∙ length-append old.table adopts.grows.added

  stays-at : (k : ℕ) → k < length old.table → unfolded new.table k ≡ unfolded old.table k
  stays-at k l = ap (λ (v : List Node). unfolded v k) adopts.grows.is ∙ unfolded-longer old.table adopts.grows.added old-lower k l

  old-held : (w : Unfolded) → IsHeld (tables_of files) w → (j : ℕ) × (j < length old.table) × (unfolded old.table j ≡ w)
  old-held w is =
      let there = (before.held w).1 is in
      let same : old.table ≡ there.0 = among-one old.table there.0 there.2 in
      (there.1, subst (λ (v : List Node). there.1 < length v) (sym same) there.3, ap (λ (v : List Node). unfolded v there.1) same ∙ there.4)

  held-old : (j : ℕ) → j < length old.table → IsHeld (tables_of files) (unfolded old.table j)
  held-old j l = (before.held (unfolded old.table j)).0 (old.table, j, (0, omega arith, refl), l, refl)

  -- what the old nodes and the file hold is what the files hold
  both-held : HoldSame (old.table ∷ file.table ∷ []) (tables_of (files ++ file ∷ []))
  both-held w = (to, from) where
    to : IsHeld (old.table ∷ file.table ∷ []) w → IsHeld (tables_of (files ++ file ∷ [])) w
    to is = subst (λ (ts : List (List Node)). IsHeld ts w) (sym (tables-more files file))
        (by_two is.0 is.1 (among-two old.table file.table is.0 is.2) is.3 is.4) where
          by_two : (t : List Node) (i : ℕ) → (old.table ≡ t) ⊎ (file.table ≡ t) → i < length t → unfolded t i ≡ w
              → IsHeld (tables_of files ++ file.table ∷ []) w
          by_two t i (inl same) l e =
              let inside : i < length old.table = subst (λ (v : List Node). i < length v) (sym same) l in
              let there = held-old i inside in (
                there.0,
                there.1,
                Contains-append_left (tables_of files) (file.table ∷ []) there.0 there.2,
                there.3,
                there.4 ∙ ap (λ (v : List Node). unfolded v i) same ∙ e,
              )
          by_two t i (inr same) l e = (t, i, Contains-append_right (tables_of files) (file.table ∷ []) t (0, omega arith, same), l, e)

    from : IsHeld (tables_of (files ++ file ∷ [])) w → IsHeld (old.table ∷ file.table ∷ []) w
    from is = by_two is.0 is.1 (Contains-append_cases (tables_of files) (file.table ∷ []) is.0
        (subst (λ (ts : List (List Node)). Contains ts is.0) (tables-more files file) is.2)) is.3 is.4 where
          by_two : (t : List Node) (i : ℕ) → Contains (tables_of files) t ⊎ Contains (file.table ∷ []) t → i < length t → unfolded t i ≡ w
              → IsHeld (old.table ∷ file.table ∷ []) w
          by_two t i (inl c) l e = let there = old-held w (t, i, c, l, e) in (old.table, there.0, (0, omega arith, refl), there.1, there.2)
          by_two t i (inr c) l e = (t, i, (1, omega arith, among-one file.table t c), l, e)

  in-order : AreInOrder new.table (nodes_of files ++ unfolded_nodes file.table)
  in-order k q l at = by_place (get-cases (nodes_of files) (unfolded_nodes file.table) q (unfolded new.table (suc k)) at) where
    all : List Unfolded
    all = nodes_of files

    before-file : (r : ℕ) → q ≡ length (nodes_of files) + r → (k < length old.table) ⊎ (length old.table ≤ k)
        → (r < length file.table) × (unfolded file.table r ≡ unfolded new.table (suc k))
        → (p : ℕ) × (p < q) × (slice_get (nodes_of files ++ unfolded_nodes file.table) p ≡ Some (unfolded new.table k))
    before-file r is (inl low) there =
        let place = held-place files (unfolded old.table k) (held-old k low) in
        let inside = slice_get_within (nodes_of files) place.0 (unfolded old.table k) place.1 in (
          place.0,
          omega arith,
          get-left (nodes_of files) (unfolded_nodes file.table) place.0 (unfolded new.table k) (place.1 ∙ ap Some (sym (stays-at k low))),
        )
    before-file r is (inr high) there =
        let place = adds.in_order k r high l there.0 there.1 in
        let low : place.0 < length file.table = (let less = place.1 in let inside = there.0 in omega arith) in
        let at-file = get-right (nodes_of files) (unfolded_nodes file.table) place.0 (unfolded new.table k)
        (unfolded_nodes-there file.table place.0 low ∙ ap Some place.2) in
        (at-file.0, (let here = at-file.1 in let less = place.1 in omega arith), at-file.2)

    by_place : (slice_get (nodes_of files) q ≡ Some (unfolded new.table (suc k)))
        ⊎ ((r : ℕ) × (q ≡ length (nodes_of files) + r) × (slice_get (unfolded_nodes file.table) r ≡ Some (unfolded new.table (suc k))))
        → (p : ℕ) × (p < q) × (slice_get (nodes_of files ++ unfolded_nodes file.table) p ≡ Some (unfolded new.table k))
    by_place (inl e) =
        let there = old-held (unfolded new.table (suc k)) (place-held files q (unfolded new.table (suc k)) e) in
        let c = count in
        let next : there.0 ≡ suc k = unfolded-apart new.table new-lower binding.compiled.different there.0
        (suc k) (let low = there.1 in omega arith) l (stays-at there.0 there.1 ∙ there.2) in
        let low : suc k < length old.table = (let inside = there.1 in omega arith) in
        let place = before.in_order k q low (e ∙ ap Some (stays-at (suc k) low)) in (
          place.0,
          place.1,
          get-left (nodes_of files)
              (unfolded_nodes file.table) place.0 (unfolded new.table k) (place.2 ∙ ap Some (sym (stays-at k (omega arith)))),
        )
    by_place (inr e) = before-file e.0 e.1 (cases_lt k (length old.table))
        (unfolded_nodes-at file.table e.0 (unfolded new.table (suc k)) e.2)

  pub bound-more : IsBound (files ++ file ∷ []) new
  bound-more = record {
    binding = binding;
    entries = subst (AreEntriesOf (files ++ file ∷ []) new.table) (sym adds.added) (entries-more new.table files old.entries file adds.entry
        (subst (λ (u : List Node). AreEntriesOf files u old.entries) (sym adopts.grows.is)
        (entries-grown old.table adopts.grows.added old-lower files old.entries before.binding.entries before.entries)) adds.is_of);
    held = λ w. iff-then (adds.held w) (both-held w);
    in_order = subst (AreInOrder new.table) (sym (nodes-more files file)) in-order;
  }

-- ---- how many nodes

-- nodes that some tables hold, held by others too
more-held : (tables others : List (List Node)) (most : ℕ) → ((w : Unfolded) → IsHeld tables w → IsHeld others w) → HoldMore tables most
    → HoldMore others most
more-held tables others most f h = record { nodes = h.nodes; more = h.more; different = h.different; held = λ k d l. f _ (h.held k d l) }

-- the files of a book do not hold too many different nodes
pub bound-few : (files : List TableFile) (book : Book) → IsBound files book → HoldMore (tables_of files) MAX_NODES → ⊥
bound-few files book bound h =
    let find : (w : Unfolded) → IsHeld (tables_of files) w → (x : ℕ) × (x < length book.table) × (unfolded book.table x ≡ w) = λ w is.
    let there = (bound.held w).1 is in
    let same : book.table ≡ there.0 = among-one book.table there.0 there.2 in (
      there.1,
      subst (λ (v : List Node). there.1 < length v) (sym same) there.3,
      ap (λ (v : List Node). unfolded v there.1) same
          ∙ there.4,
    ) in
    let over = held-within (tables_of files) MAX_NODES book.table find h in
    let size = bound.binding.compiled.table.size in
    omega arith

-- where the nodes so far and a file hold too many, so do the files
pub bound-full : (files : List TableFile) (file : TableFile) (book : Book) → IsBound files book
    → HoldMore (book.table ∷ file.table ∷ []) MAX_NODES → HoldMore (tables_of (files ++ file ∷ [])) MAX_NODES
bound-full files file book bound h = more-held (book.table ∷ file.table ∷ []) (tables_of (files ++ file ∷ [])) MAX_NODES
    (λ w is. by_two w is.0 is.1 (among-two book.table file.table is.0 is.2) is.3 is.4) h where
      by_two : (w : Unfolded) (t : List Node) (i : ℕ) → (book.table ≡ t) ⊎ (file.table ≡ t) → i < length t → unfolded t i ≡ w
          → IsHeld (tables_of (files ++ file ∷ [])) w
      by_two w t i (inl same) l e =
          let inside : i < length book.table = subst (λ (v : List Node). i < length v) (sym same) l in
          let there = (bound.held w).0 (book.table, i, (0, omega arith, refl), inside, ap (λ (v : List Node). unfolded v i) same ∙ e) in
          subst (λ (ts : List (List Node)). IsHeld ts w) (sym (tables-more files file))
          (there.0, there.1, Contains-append_left (tables_of files) (file.table ∷ []) there.0 there.2, there.3, there.4)
      by_two w t i (inr same) l e = subst (λ (ts : List (List Node)). IsHeld ts w)
          (sym (tables-more files file)) (t, i, Contains-append_right (tables_of files) (file.table ∷ []) t (0, omega arith, same), l, e)

-- more files hold no fewer
pub hold-longer : (files more : List TableFile) (most : ℕ) → HoldMore (tables_of files) most → HoldMore (tables_of (files ++ more)) most
hold-longer files more most h = more-held (tables_of files) (tables_of (files ++ more)) most (λ w is. (
  is.0,
  is.1,
  subst (λ (ts : List (List Node)). Contains ts is.0)
      (sym (map-append (λ (f : TableFile). f.table) files more)) (Contains-append_left (tables_of files) (tables_of more) is.0 is.2),
  is.3,
  is.4,
)) h
