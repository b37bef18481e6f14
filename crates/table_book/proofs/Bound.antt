-- What a binder holds stays as its nodes grow, and the entry of a file says in the book what the file says.
use Rattle.std.proofs.Common.{◌≡◌, ℕ, suc, ◌<◌, ◌≤◌, true, false, List, [], ◌∷◌, ◌++◌, length, refl, sym, ap, subst, ◌∙◌, arith, nat_lt}
use Rattle.std.proofs.Common.{slice_index, map, length-append, rules, ltb-true, lt-ltb}
use Rattle.std.specs.List.{list_all, AllByRecursion}
use Rattle.table_book.proofs.Common.{MAX_SIDE, Grid, TableFile, Node, MAX_NODES, Root, Attack, Defend, root_below, Entry, MAX_ENTRIES}
use Rattle.table_book.proofs.Common.{EntryFits, IsSound, EntryRootFits, AddsFile, CanBeBound, HoldSame, IsBinding, IsEntryOf, SameRoot}
use Rattle.game_rules.specs.declared.Point.{Point}
use Rattle.game_rules.proofs.Common.{IsBoard, is_on}
use Rattle.game_rules.proofs.Boards.{and_left, and_right, on_x, on_y}
use Rattle.game_rules.proofs.Tests.{all_push}
use Rattle.position_files.proofs.Common.{IsTextOfTable, RootFits}
use Rattle.position_files.specs.declared.TheConstants.{MAX_MOVES}
use Rattle.position_files.proofs.Completions.{answers_fit, nodes_fit}
use Rattle.position_files.proofs.SectionLaws.{nodes_on}
use Rattle.strategy_graph.specs.declared.Reply.{Reply}
use Rattle.strategy_graph.proofs.Common.{IsStart, RepliesOn, TableOnBoard, IsTable, NamesLower, is_winning, named, names_below}
use Rattle.strategy_graph.proofs.Common.{renumbered_answers, renumbered_root, RootSaysSame}
use Rattle.strategy_graph.proofs.Answering.{replies-on}
use Rattle.strategy_graph.proofs.Copies.{is_winning-renumbered, named-renumbered}
use Rattle.strategy_graph.proofs.Filling.{IsTable-lower, names_below-more}
use Rattle.strategy_graph.proofs.Saying.{root-copied, root-deep, root-longer}
use Rattle.strategy_graph.proofs.Renumbering.{points-renumbered, rising-renumbered}
use Rattle.strategy_compiler.proofs.Common.{Adopts, AreNumbers, IsCompiled, unfolded}
use Rattle.strategy_compiler.proofs.Adopted.{adopted-holds, copies, number-inside, number-is}
use Rattle.strategy_compiler.proofs.Unfolding.{answers-copied, unfolded-apart}
use Rattle.table_book.proofs.Soundness.{root_fits-below}

-- ---- points of a board are points of the largest

-- an empty board of the greatest width and height
largest : Grid
largest = record { width = MAX_SIDE; height = MAX_SIDE; cells = [] }

on-largest : (b : Grid) (p : Point) → IsBoard b → is_on b p ≡ true → is_on largest p ≡ true
unfolding largest
on-largest b p ok on = search (rules, on_x, on_y, lt-ltb)

replies-largest : (b : Grid) (rs : List Reply) → IsBoard b → RepliesOn b rs → RepliesOn largest rs
replies-largest b [] ok on = tt
replies-largest b (r ∷ rs) ok on = (on-largest b r.at ok on.0, replies-largest b rs ok on.1)

table-largest : (b : Grid) (t : List Node) → IsBoard b → TableOnBoard b t → TableOnBoard largest t
table-largest b [] ok on = tt
table-largest b (n ∷ t) ok on = search (rules, on-largest, replies-largest, table-largest b t ok on.1)

-- the root of a table's text names nodes of the table
pub text-below : (file : TableFile) (bytes : List ℕ) → IsTextOfTable file bytes → root_below file.root (length file.table) ≡ true
text-below file bytes is = search (rules, lt-ltb)

-- ---- as nodes grow

root-grown : (k m : ℕ) (root : Root) → k ≤ m → EntryRootFits k root → EntryRootFits m root
root-grown k m x2 l fits = search (rules, names_below-more)

module _ (t more : List Node) (lower : NamesLower t) where
  longer : length t ≤ length (t ++ more)
  longer = let count = length-append t more in omega arith

  entries-grown : (es : List Entry) → AllByRecursion (EntryFits (length t)) es → AllByRecursion (EntryFits (length (t ++ more))) es
  entries-grown [] all = tt
  entries-grown (e ∷ es) all = (
    record { board = all.0.board; moves = all.0.moves; root = root-grown (length t) (length (t ++ more)) e.root longer all.0.root },
    entries-grown es all.1,
  )

  sound-grown : (es : List Entry) → AllByRecursion (EntryFits (length t)) es → AllByRecursion (IsSound t) es
      → AllByRecursion (IsSound (t ++ more)) es
  sound-grown [] fit all = tt
  sound-grown (e ∷ es) fit all = search (rules, root-longer, root_fits-below, sound-grown es fit.1 all.1)

-- the entries stay entries once the nodes of a file are adopted
pub binding-grown : (old new : List Node) (file : TableFile) (es : List Entry) → IsBinding (record { table = old; entries = es })
    → CanBeBound file → Adopts old file.table new → IsBinding (record { table = new; entries = es })
unfolding largest
binding-grown old new file es h can adopts =
    let nodes = nodes_fit largest new (adopts.on_board largest (nodes_on largest old h.nodes)
    (table-largest file.board file.table can.text.1.board can.text.1.on_board)) adopts.compiled.table in
    search (rules, IsTable-lower, entries-grown, sound-grown)

-- and with one entry more
binding-pushed : (t : List Node) (es es' : List Entry) (e : Entry) → IsBinding (record { table = t; entries = es })
    → length es < MAX_ENTRIES → EntryFits (length t) e → IsSound t e → es' ≡ es ++ e ∷ [] → IsBinding (record { table = t; entries = es' })
binding-pushed t es es' e h room fits sound is = search (rules, all_push, length-append)

-- ---- the entry of a file

module _ (old t new : List Node) (numbers : List ℕ) (table : IsTable t) (lower : NamesLower new) (are : AreNumbers old t new numbers) where
  -- the root says what the file's says
  pub root-same : (root : Root) → root_below root (length t) ≡ true
      → RootSaysSame t root new (renumbered_root (λ j. slice_index numbers j) root)
  root-same = root-copied (λ j. slice_index numbers j) (length t) t new (copies old t new numbers table are) (IsTable-lower t table) lower

  -- and is the same
  root-is : (root : Root) → root_below root (length t) ≡ true → SameRoot t root new (renumbered_root (λ j. slice_index numbers j) root)
  root-is (Attack i) below = (number-is old t new numbers table are lower i (ltb-true _ _ below)).1
  root-is (Defend a) below = answers-copied (λ j. slice_index numbers j)
      (λ j. nat_lt j (length t)) t new (copies old t new numbers table are) (IsTable-lower t table) lower a below

  all-mapped : (js : List ℕ) → list_all (λ j. nat_lt j (length t)) js ≡ true
      → list_all (λ j. nat_lt j (length new)) (map (λ j. slice_index numbers j) js) ≡ true
  all-mapped [] h = refl
  all-mapped (j ∷ js) h =
      let inside = number-inside old t new numbers table are j in
      search (rules, lt-ltb, inside, and_left, and_right, all-mapped js (and_right (nat_lt j (length t)) _ h))

  -- and fits the book
  root-fits : (b : Grid) (root : Root) (moves : ℕ) → IsBoard b → length new ≤ MAX_NODES → RootFits b t root moves
      → EntryRootFits (length new) (renumbered_root (λ j. slice_index numbers j) root)
  unfolding largest
  root-fits b (Attack i) moves ok few fits = number-inside old t new numbers table are i (let last = fits.0 in lt-ltb i (length t) (omega arith))
  root-fits b (Defend a) moves ok few fits =
      let f : ℕ → ℕ = λ j. slice_index numbers j in
      let below : names_below (renumbered_answers f a) (length new) ≡ true =
      ap (list_all (λ j. nat_lt j (length new))) (named-renumbered f a) ∙ all-mapped (named a) fits.1 in
      let rest : is_winning (renumbered_answers f a).rest ≡ false = is_winning-renumbered f a.rest ∙ fits.0.not_winning in
      let start : IsStart (renumbered_answers f a) =
      record { not_winning = rest; rising = rising-renumbered f a.replies ∙ fits.0.rising } in
      let on : RepliesOn largest (renumbered_answers f a).replies = replies-on largest
      (renumbered_answers f a).replies a.replies (points-renumbered f a.replies) (replies-largest b a.replies ok fits.2) in
      record { answers = answers_fit largest (renumbered_answers f a) (length new) on below few (λ wins. cc); start = start; below = below }

  moves-few : (b : Grid) (root : Root) (moves : ℕ) → RootFits b t root moves → moves ≤ MAX_MOVES
  moves-few b x1 moves fits = search rules

-- the entry of a file whose nodes are adopted
module _ (file : TableFile) (old new : List Node) (numbers : List ℕ) (root : Root) (can : CanBeBound file)
    (adopts : Adopts old file.table new) (are : AreNumbers old file.table new numbers)
    (is : root ≡ renumbered_root (λ j. slice_index numbers j) file.root) where
  abbrev entry : Entry
  entry = record { kind = file.kind; board = file.board; root = root; moves = file.moves }

  new-lower : NamesLower new
  new-lower = IsTable-lower new adopts.compiled.table

  entry-same : RootSaysSame file.table file.root new root
  entry-same = subst (RootSaysSame file.table file.root new)
      (sym is) (root-same old file.table new numbers can.text.1.table new-lower are file.root (text-below file can.text.0 can.text.1))

  entry-of : IsEntryOf file new entry
  entry-of = record {
    kind = refl;
    board = refl;
    moves = refl;
    same = subst (SameRoot file.table file.root new)
        (sym is) (root-is old file.table new numbers can.text.1.table new-lower are file.root (text-below file can.text.0 can.text.1));
    root = entry-same;
  }

  entry-fits : EntryFits (length new) entry
  entry-fits = record {
    board = can.text.1.board;
    moves = moves-few old file.table new numbers can.text.1.table new-lower are file.board file.root file.moves can.text.1.root;
    root = subst (EntryRootFits (length new))
        (sym is) (root-fits old file.table new numbers can.text.1.table new-lower are file.board file.root file.moves can.text.1.board
        adopts.compiled.table.size can.text.1.root);
  }

  entry-sound : IsSound new entry
  entry-sound = search (rules, root-deep, entry-same)

  -- what is held now is what was held, and the file's nodes
  now-held : NamesLower old → HoldSame (new ∷ []) (old ∷ file.table ∷ [])
  now-held lower w = (
    adopts.held w,
    λ is. let there = adopted-holds old file.table new numbers can.text.1.table lower adopts are w is in
        (new, there.0, (0, omega arith, refl), there.1, there.2),
  )

  file-added : (es es' : List Entry) → IsCompiled old → es' ≡ es ++ entry ∷ []
      → AddsFile (record { table = old; entries = es }) file (record { table = new; entries = es' })
  file-added es es' before is = record {
    entry = entry;
    is_of = entry-of;
    added = is;
    held = now-held (IsTable-lower old before.table);
    in_order = λ k q low high inside e.
        let there = number-is old file.table new numbers can.text.1.table are new-lower q inside in
        let next : slice_index numbers q ≡ suc k =
        unfolded-apart new new-lower adopts.compiled.different (slice_index numbers q) (suc k) there.0 high (there.1 ∙ e) in
        let place = are.in_order k q low inside next in
        let within : place.0 < length file.table = (let less = place.1 in omega arith) in
        let before = number-is old file.table new numbers can.text.1.table are new-lower place.0 within in
        (place.0, place.1, sym before.1 ∙ ap (unfolded new) place.2);
  }

  -- the file is added, and what is held is a binding
  pub both-added : (es es' : List Entry) → IsBinding (record { table = old; entries = es }) → length es < MAX_ENTRIES
      → es' ≡ es ++ entry ∷ [] → AddsFile (record { table = old; entries = es }) file (record { table = new; entries = es' })
      × IsBinding (record { table = new; entries = es' })
  both-added es es' h room is = (
    file-added es es' h.compiled is,
    binding-pushed new es es' entry (binding-grown old new file es h can adopts) room entry-fits entry-sound is,
  )
