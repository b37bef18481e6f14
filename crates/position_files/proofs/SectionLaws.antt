-- What bytes begin with is one head, one list of nodes, or one start. Lines that are those of no node. Nodes that are read one after
-- another.
use Rattle.std.proofs.Common.{◌≡◌, ℕ, sym, ap, ◌∙◌, List, [], ◌∷◌, ◌++◌, length, map, append_assoc, codes, ◌+◌, ◌-◌, ◌≤◌, ◌<◌, true, refl}
use Rattle.std.proofs.Common.{subst, arith, ◌^◌, inl, take, drop, replicate, get_or, Err, rules}
use Rattle.std.specs.List.{AllByRecursion}
use Rattle.std.specs.Fmt.{decimal}
use Rattle.std.proofs.lemmas.List.Concat.{flat_map-append}
use Rattle.std.proofs.lemmas.List.{take_more, length-map, length-take-le, get_or-map, map-append, append_cancel_left}
use Rattle.std.proofs.Math.Seq.{take-append_seam}
use Rattle.position_files.proofs.Common.{RuleKind, Grid, Fault, Bad, line_feed, ended, text_of, LeavesAt, Gives, is_free, GivesLine, Reply}
use Rattle.position_files.proofs.Common.{Node, MAX_NODES, Nothing, TableOnBoard, RepliesOn, IsNode, IsTable, Answers, Head, board_lines}
use Rattle.position_files.proofs.Common.{node_line, nodes_lines, NodeFits, ReplyFits, at_line, after_lines, IsSide, AreNodes, AreNodeLines}
use Rattle.position_files.proofs.Common.{IsSectionFault, StartFits, answers_text, start_line, IsHeadOf, IsNodesOf, IsStartLines, IsStartOf}
use Rattle.position_files.proofs.Common.{HeadError}
use Rattle.text_lines.specs.declared.fault.Fault.TheVariants.{Memory}
use Rattle.text_lines.proofs.TextLaws.{text_of-cons, AreFree, free_take, same_lines, text_of-push}
use Rattle.text_lines.proofs.LineLaws.{same_line}
use Rattle.text_lines.proofs.FaultLaws.{gives_bad}
use Rattle.text_lines.proofs.Leaving.{HasParts, leaves_after, leaves_first}
use Rattle.text_lines.proofs.Cuts.{is_free-append}
use Rattle.text_lines.proofs.Decimals.{decimal-free}
use Rattle.strategy_graph.proofs.Filling.{corner, filled_table, filled_length, node_at}
use Rattle.position_files.specs.declared.error.HeadError.TheVariants.{BadLine, Memory as NoRoom}
use Rattle.position_files.proofs.Stones.{is_on_within}
use Rattle.position_files.proofs.AnswerLaws.{node_line-free, node_line-injective, answers_text-injective, start_line-free}
use Rattle.position_files.proofs.Completions.{filled_fit, all_at}
use Rattle.position_files.proofs.BoardLines.{board-free, board-length, board_lines-injective}

-- so many nodes have been read, and the bytes go on with the rest after their lines
pub record AreRead (width height : ℕ) (nodes : List Node) (count : ℕ) (bytes rest : List ℕ) : Type 0 where
  pub counted : length nodes ≡ count
  pub fit : AllByRecursion (NodeFits width height) nodes
  pub text : bytes ≡ text_of (map node_line nodes) ++ rest

-- a word and a number have no line feed
pub number-free : (word : List ℕ) (n : ℕ) → is_free line_feed word ≡ true → n < 2 ^ 64 → is_free line_feed (word ++ decimal n) ≡ true
number-free word n free fits = is_free-append line_feed word (decimal n) free (decimal-free line_feed n (inl (omega arith)) fits)

-- ---- the lines of a table up to its nodes

pub replies_on : (b : Grid) (rs : List Reply) → AllByRecursion (ReplyFits b.width b.height) rs → RepliesOn b rs
replies_on b [] all = tt
replies_on b (r ∷ rs) all = (is_on_within b r.at all.0.at, replies_on b rs all.1)

pub nodes_on : (b : Grid) (ns : List Node) → AllByRecursion (NodeFits b.width b.height) ns → TableOnBoard b ns
nodes_on b [] all = tt
nodes_on b (n ∷ ns) all = search (rules, is_on_within, replies_on, nodes_on b ns all.1)

pub body_text : (kind : RuleKind) (b : Grid) (nodes : List Node) (moves count : ℕ) (bytes r1 r2 r3 rest : List ℕ)
    → bytes ≡ text_of (board_lines kind b) ++ r1 → r1 ≡ (codes "moves " ++ decimal moves) ++ line_feed ∷ r2
    → r2 ≡ (codes "nodes " ++ decimal count) ++ line_feed ∷ r3 → length nodes ≡ count → r3 ≡ text_of (map node_line nodes) ++ rest
    → bytes ≡ text_of (board_lines kind b ++ nodes_lines nodes moves) ++ rest
unfolding nodes_lines
body_text kind b nodes moves count bytes r1 r2 r3 rest e1 e2 e3 len e4 =
    let m = codes "moves " ++ decimal moves in
    let k : List ℕ = codes "nodes " ++ decimal (length nodes) in
    let l2 : r2 ≡ text_of (k ∷ map node_line nodes) ++ rest = e3 ∙ ap (λ n. (codes "nodes " ++ decimal n) ++ line_feed ∷ r3) (sym len)
    ∙ ap (λ (l : List ℕ). k ++ line_feed ∷ l) e4 ∙ text_of-cons k (map node_line nodes) rest in
    let l1 : r1 ≡ text_of (m ∷ k ∷ map node_line nodes) ++ rest =
    e2 ∙ ap (λ (l : List ℕ). m ++ line_feed ∷ l) l2 ∙ text_of-cons m (k ∷ map node_line nodes) rest in
    e1 ∙ ap (λ (l : List ℕ). text_of (board_lines kind b) ++ l) l1
    ∙ sym (append_assoc (text_of (board_lines kind b)) (text_of (m ∷ k ∷ map node_line nodes)) rest)
    ∙ ap (λ (l : List ℕ). l ++ rest) (sym (flat_map-append ended (board_lines kind b) (m ∷ k ∷ map node_line nodes)))

module _ (width height : ℕ) (wide : IsSide width) (high : IsSide height) (bytes : List ℕ) where
  module _ (text rest : List ℕ) (free : is_free line_feed text ≡ true) (line : bytes ≡ text ++ line_feed ∷ rest) where
    spelled : (n : Node) (others : List ℕ) → NodeFits width height n → bytes ≡ node_line n ++ line_feed ∷ others → text ≡ node_line n
    spelled n others fits e =
        (same_line text rest (node_line n) others free (node_line-free width height wide high n fits) (sym line ∙ e)).0

    pub bad_node : (fault : Fault) → fault ≡ Bad → Gives (NodeFits width height) node_line (Err fault) text → (n : Node) (others : List ℕ)
        → NodeFits width height n → bytes ≡ node_line n ++ line_feed ∷ others → ⊥
    bad_node fault is h n others fits e = gives_bad (NodeFits width height) node_line fault text is h n fits (spelled n others fits e)

    pub same_node : (found n : Node) (others : List ℕ) → NodeFits width height found → text ≡ node_line found → NodeFits width height n
        → bytes ≡ node_line n ++ line_feed ∷ others → n ≡ found
    same_node found n others fits_found is fits e = node_line-injective width height wide high n found fits fits_found
        (sym (spelled n others fits e) ∙ is)

-- lines spell one list of nodes
pub nodes_injective : (width height : ℕ) → IsSide width → IsSide height → (ns ms : List Node) → AllByRecursion (NodeFits width height) ns
    → AllByRecursion (NodeFits width height) ms → map node_line ns ≡ map node_line ms → ns ≡ ms
nodes_injective width height wide high [] [] fn fm e = refl
nodes_injective width height wide high [] (m ∷ ms) fn fm e = absurd cc
nodes_injective width height wide high (n ∷ ns) [] fn fm e = absurd cc
nodes_injective width height wide high (n ∷ ns) (m ∷ ms) fn fm e =
    let first : node_line n ≡ node_line m = ap (λ (l : List (List ℕ)). get_or l 0 []) e in
    let others : map node_line ns ≡ map node_line ms = ap (drop 1) e in
    let same : n ≡ m = node_line-injective width height wide high n m fn.0 fm.0 first in
    ap (λ (k : Node). k ∷ ns) same ∙ ap (λ (l : List Node). m ∷ l) (nodes_injective width height wide high ns ms fn.1 fm.1 others)

-- ---- where bytes leave the lines of nodes

-- The bytes begin with the lines of nodes of a table, fewer than count, and go on with the line of none that can be the next.
pub record NodesEnd (width height count : ℕ) (bytes : List ℕ) (j : ℕ) : Type 0 where
  pub nodes : List Node
  pub rest : List ℕ
  pub table : IsTable nodes
  pub read : AreRead width height nodes j bytes rest
  pub fewer : j < count
  pub none : (n : Node) (others : List ℕ) → NodeFits width height n → IsNode n j → rest ≡ node_line n ++ line_feed ∷ others → ⊥

pub node_lines-free : (width height : ℕ) → IsSide width → IsSide height → (ns : List Node) → AllByRecursion (NodeFits width height) ns
    → AreFree (map node_line ns)
node_lines-free width height wide high [] all = tt
node_lines-free width height wide high (n ∷ ns) all = search (rules, node_line-free, node_lines-free width height wide high ns all.1)

module _ (width height count : ℕ) (wide : IsSide width) (high : IsSide height) (few : count ≤ MAX_NODES) (bytes : List ℕ) (j : ℕ)
    (end : NodesEnd width height count bytes j) where
  -- the nodes that are read, and nodes that win at once up to the number that is asked
  all_nodes : List Node
  all_nodes = end.nodes ++ replicate (count - j) corner

  are_all : AreNodes width height count all_nodes
  unfolding all_nodes
  are_all =
      let fewer = end.fewer in
      let so_far = end.read.counted in
      let sum = filled_length (count - j) end.nodes in
      record {
        table = filled_table (count - j) end.nodes end.table (omega (arith, so_far, fewer, few));
        fit = filled_fit width height (count - j) end.nodes wide high end.read.fit;
        counted = omega (arith, sum, so_far, fewer);
      }

  known_nodes : take j (map node_line all_nodes) ≡ map node_line end.nodes
  unfolding all_nodes
  known_nodes = search (rules, length-map, corner, map-append, take-append_seam)

  -- no other nodes have one more line there
  no_next_node : (ns : List Node) (others : List ℕ) → AreNodes width height count ns
      → bytes ≡ text_of (take (j + 1) (map node_line ns)) ++ others → ⊥
  no_next_node ns others are e =
      let n : Node = get_or ns j corner in
      let within : j < length ns = let c = are.counted in let fewer = end.fewer in omega (arith, c, fewer) in
      let count_lines = length-map ns node_line in
      let more : take (j + 1) (map node_line ns) ≡ take j (map node_line ns) ++ node_line n ∷ [] =
      take_more (map node_line ns) j (node_line corner) (omega (arith, within, count_lines))
      ∙ ap (λ (l : List ℕ). take j (map node_line ns) ++ l ∷ []) (get_or-map node_line ns j corner (node_line corner) within) in
      let whole : bytes ≡ text_of (take j (map node_line ns)) ++ (node_line n ++ line_feed ∷ others) =
      e ∙ ap (λ (l : List (List ℕ)). text_of l ++ others) more ∙ sym (text_of-push (take j (map node_line ns)) (node_line n) others) in
      let lengths : length (map node_line end.nodes) ≡ length (take j (map node_line ns)) =
      length-map end.nodes node_line ∙ end.read.counted ∙ sym (length-take-le j (map node_line ns) (omega (arith, within, count_lines))) in
      let same = same_lines (map node_line end.nodes) (take j (map node_line ns)) end.rest (node_line n ++ line_feed ∷ others)
      (node_lines-free width height wide high end.nodes end.read.fit)
      (free_take j (map node_line ns) (node_lines-free width height wide high ns are.fit)) lengths (sym end.read.text ∙ whole) in
      end.none n others (all_at (NodeFits width height) ns j corner are.fit within) (node_at ns j are.table within) same.1

  pub nodes_leave : LeavesAt (AreNodeLines width height count) bytes j
  nodes_leave = search (rules, all_nodes, are_all, length-map, known_nodes, no_next_node)

pub nodes_fault : (width height count : ℕ) (nodes : List Node) (j : ℕ) (bytes rest : List ℕ) (fault : Fault) → IsSide width → IsSide height
    → AreRead width height nodes j bytes rest → IsTable nodes → j < count → count ≤ MAX_NODES
    → (fault ≡ Bad → (n : Node) (others : List ℕ) → NodeFits width height n → IsNode n (length nodes) → length nodes < MAX_NODES
    → rest ≡ node_line n ++ line_feed ∷ others → ⊥) → IsSectionFault (AreNodeLines width height count) bytes (at_line fault (j + 1))
nodes_fault width height count nodes j bytes rest fault wide high read table fewer few none = search (rules, nodes_leave)

-- the line of the start, and what comes after it
pub start_text : (a : Answers) (bytes rest : List ℕ) → bytes ≡ ended (start_line a) ++ rest → bytes ≡ start_line a ++ line_feed ∷ rest
start_text a bytes rest e = e ∙ append_assoc (start_line a) (line_feed ∷ []) rest

-- bytes begin with one head, before one rest
pub one_head : (head other : Head) (rest more bytes : List ℕ) → IsHeadOf head rest bytes → IsHeadOf other more bytes
    → (other ≡ head) × (more ≡ rest)
one_head head other rest more bytes h k = search (rules, board-length, same_lines, board-free, board_lines-injective)

module _ (width height : ℕ) (wide : IsSide width) (high : IsSide height) where
  -- bytes begin with one list of so many nodes
  pub one_list : (count : ℕ) (found other : List Node) (rest more bytes : List ℕ) → IsNodesOf width height count found rest bytes
      → IsNodesOf width height count other more bytes → (other ≡ found) × (more ≡ rest)
  one_list count found other rest more bytes h k = search (rules, length-map, same_lines, node_lines-free, nodes_injective)

  -- bytes begin with the line of one start
  pub one_start : (below : ℕ) (found other : Answers) (rest more bytes : List ℕ) → IsStartOf width height below found rest bytes
      → IsStartOf width height below other more bytes → (other ≡ found) × (more ≡ rest)
  one_start below found other rest more bytes h k =
      let here = start_text found bytes rest h.text in
      let there = start_text other bytes more k.text in
      let same = same_line (start_line other) more (start_line found) rest (start_line-free width height wide high below other k.start)
      (start_line-free width height wide high below found h.start) (sym there ∙ here) in
      let text : answers_text other ≡ answers_text found =
      append_cancel_left (codes "start ") (answers_text other) (answers_text found) same.0 in
      (answers_text-injective width height wide high other found k.start.answers h.start.answers text, same.1)

-- ---- the line of a start

-- the start that names nothing
pub only_start : Answers
only_start = record { replies = []; rest = Nothing }

pub only_fits : (width height len : ℕ) → StartFits width height len only_start
unfolding only_start
only_fits width height len = search rules

-- the first line is that of none
pub start_left : (width height below : ℕ) (bytes : List ℕ) (fault : Fault)
    → GivesLine (StartFits width height below) start_line (Err fault) bytes
    → IsSectionFault (IsStartLines width height below) bytes (at_line fault 1)
start_left width height below bytes Bad none =
    (0, refl, leaves_first (StartFits width height below) start_line bytes only_start (only_fits width height below) none)
start_left width height below bytes Memory none = tt

-- ---- where bytes leave a section that is a part of another

-- a fault of a part, said of the whole
pub fault_after : (front : List (List ℕ)) (IsPart IsAll : List (List ℕ) → Type 0) → HasParts front IsPart IsAll
    → (bytes rest : List ℕ) (lines : ℕ) → lines ≡ length front → bytes ≡ text_of front ++ rest → (error : HeadError)
    → IsSectionFault IsPart rest error → IsSectionFault IsAll bytes (after_lines lines error)
fault_after front IsPart IsAll has bytes rest lines count e (BadLine n) h =
    (length front + h.0, (let is = h.1 in omega (arith, is, count)), leaves_after front IsPart IsAll has bytes rest h.0 e h.2)
fault_after front IsPart IsAll has bytes rest lines count e NoRoom h = tt

-- a fault of a part at the front is one of the whole
pub fault_in : (IsPart IsAll : List (List ℕ) → Type 0) → HasParts [] IsPart IsAll → (bytes : List ℕ) (error : HeadError)
    → IsSectionFault IsPart bytes error → IsSectionFault IsAll bytes error
fault_in IsPart IsAll has bytes (BadLine n) h =
    (h.0, h.1, subst (LeavesAt IsAll bytes) (omega arith) (leaves_after [] IsPart IsAll has bytes bytes h.0 refl h.2))
fault_in IsPart IsAll has bytes NoRoom h = tt
