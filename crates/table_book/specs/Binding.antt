-- Tables that are bound into a book: which root says what another says, and what an entry has of its file.
use Rattle.std.specs.Prelude.{◌≡◌, ◌↔◌, ℕ, suc, map, ◌<◌, ◌≤◌, List, [], ◌∷◌, ◌++◌, length, Some, slice_get}
use Rattle.std.specs.List.{AllByRecursion, flat_map}
use Rattle.game_rules.specs.Play.{IsPosition}
use Rattle.game_rules.specs.declared.TheConstants.{MAX_SIDE}
use Rattle.strategy_graph.specs.Roots.{root_depth}
use Rattle.strategy_graph.specs.Laws.{RootSaysSame}
use Rattle.strategy_graph.specs.declared.Node.{Node}
use Rattle.strategy_graph.specs.declared.roots.Root.{Root}
use Rattle.strategy_graph.specs.declared.roots.Root.TheVariants.{Attack, Defend}
use Rattle.strategy_compiler.specs.declared.compiler.CompileError.{CompileError}
use Rattle.strategy_compiler.specs.declared.compiler.CompileError.TheVariants.{Full, Memory}
use Rattle.strategy_compiler.specs.Nodes.{IsCompiled}
use Rattle.strategy_compiler.specs.Unfolded.{Unfolded, IsHeld, unfolded, unfolded_nodes, unfolded_replies, unfolded_rest}
use Rattle.position_files.specs.Answers.{NodeFits}
use Rattle.position_files.specs.Tables.{IsTextOfTable}
use Rattle.position_files.specs.declared.TableFile.{TableFile}
use Rattle.table_book.specs.Books.{EntryFits, IsSound}
use Rattle.table_book.specs.declared.binder.BindError.{BindError}
use Rattle.table_book.specs.declared.binder.BindError.TheVariants.{Full as FullBook, Memory as NoMemory}
use Rattle.table_book.specs.declared.Book.{Book}
use Rattle.table_book.specs.declared.Entry.{Entry}
use Rattle.table_book.specs.declared.TheConstants.{MAX_ENTRIES}

-- the root s of table u is the same as the root r of table t, whatever the numbers of the nodes that they name
abbrev pub SameRoot : List Node → Root → List Node → Root → Type 0
SameRoot t (Attack i) u (Attack j) = unfolded u j ≡ unfolded t i
SameRoot t (Attack i) u (Defend c) = ⊥
SameRoot t (Defend a) u (Attack j) = ⊥
SameRoot t (Defend a) u (Defend c) =
    (unfolded_replies (unfolded u) c.replies ≡ unfolded_replies (unfolded t) a.replies)
    × (unfolded_rest (unfolded u) c.rest ≡ unfolded_rest (unfolded t) a.rest)

-- The entry of a table is that of the file: it has its rule, its board and its moves, and the same root, which says with the table
-- what the root of the file says with the file's.
pub record IsEntryOf (file : TableFile) (t : List Node) (e : Entry) : Type 0 where
  pub kind : e.kind ≡ file.kind
  pub board : e.board ≡ file.board
  pub moves : e.moves ≡ file.moves
  pub same : SameRoot file.table file.root t e.root
  pub root : RootSaysSame file.table file.root t e.root

-- the entries of a table are those of the files, one for each, in their order
abbrev pub AreEntriesOf : List TableFile → List Node → List Entry → Type 0
AreEntriesOf [] t [] = Unit {0}
AreEntriesOf [] t (e ∷ es) = ⊥
AreEntriesOf (file ∷ files) t [] = ⊥
AreEntriesOf (file ∷ files) t (e ∷ es) = IsEntryOf file t e × AreEntriesOf files t es

-- The file can be bound: it has a text, its position is lawful under its rule, and its moves are the depth of its root.
pub record CanBeBound (file : TableFile) : Type 0 where
  pub text : (bytes : List ℕ) × IsTextOfTable file bytes
  pub lawful : IsPosition file.kind file.board
  pub moves : file.moves ≡ root_depth file.table file.root

-- What a binder holds: nodes of which no two are equal, and entries that fit them and are sound.
pub record IsBinding (book : Book) : Type 0 where
  pub compiled : IsCompiled book.table
  pub nodes : AllByRecursion (NodeFits MAX_SIDE MAX_SIDE) book.table
  pub entries : AllByRecursion (EntryFits (length book.table)) book.entries
  pub sound : AllByRecursion (IsSound book.table) book.entries
  pub few : length book.entries ≤ MAX_ENTRIES

-- why a file is not added where a node is not adopted
abbrev pub bind_error : CompileError → BindError
bind_error Full = FullBook
bind_error Memory = NoMemory

-- the tables on either side hold the same nodes
abbrev pub HoldSame : List (List Node) → List (List Node) → Type 0
HoldSame tables others = (w : Unfolded) → IsHeld tables w ↔ IsHeld others w

-- Where node k + 1 of the new nodes is node q of the table, and it is none of the old ones that comes before it, that one is a node
-- of the table before node q.
abbrev pub FollowsBefore : List Node → List Node → List Node → Type 0
FollowsBefore old t new =
    (k q : ℕ) → length old ≤ k → suc k < length new → q < length t → unfolded t q ≡ unfolded new (suc k)
    → (p : ℕ) × (p < q) × (unfolded t p ≡ unfolded new k)

-- A file's entry is added: the nodes stay, and are now all those of the file too, each new one in the order in which it first comes.
pub record AddsFile (old : Book) (file : TableFile) (new : Book) : Type 0 where
  pub entry : Entry
  pub is_of : IsEntryOf file new.table entry
  pub added : new.entries ≡ old.entries ++ entry ∷ []
  pub held : HoldSame (new.table ∷ []) (old.table ∷ file.table ∷ [])
  pub in_order : FollowsBefore old.table file.table new.table

-- the tables of the files
abbrev pub tables_of : List TableFile → List (List Node)
tables_of files = map (λ file. file.table) files

-- all nodes of the files, file by file, each in the order of its numbers
abbrev pub nodes_of : List TableFile → List Unfolded
nodes_of files = flat_map (λ file. unfolded_nodes file.table) files

-- The nodes come in the order of their first places: node k + 1 has no place without one of node k before it.
abbrev pub AreInOrder : List Node → List Unfolded → Type 0
AreInOrder t all =
    (k q : ℕ) → suc k < length t → slice_get all q ≡ Some (unfolded t (suc k)) → (p : ℕ) × (p < q) × (slice_get all p ≡ Some (unfolded t k))

-- The files are bound into the book: its nodes are those of the files, each once, in the order in which they first come, and its
-- entries are those of the files in their order.
pub record IsBound (files : List TableFile) (book : Book) : Type 0 where
  pub binding : IsBinding book
  pub entries : AreEntriesOf files book.table book.entries
  pub held : HoldSame (book.table ∷ []) (tables_of files)
  pub in_order : AreInOrder book.table (nodes_of files)
