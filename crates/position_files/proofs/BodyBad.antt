-- Where bytes leave the lines of a table up to its last node.
use Rattle.std.proofs.Common.{rules, ◌≡◌, ℕ, ◌^◌, ◌≤◌, ◌<◌, refl, sym, ap, subst, ◌∙◌, arith, List, [], ◌∷◌, ◌++◌, length, take, map, None}
use Rattle.std.proofs.Common.{codes}
use Rattle.std.specs.List.{AllByRecursion}
use Rattle.std.specs.Fmt.{decimal}
use Rattle.std.proofs.lemmas.Fmt.{decimal_injective}
use Rattle.std.proofs.lemmas.List.{append-nil, append_cancel_left}
use Rattle.position_files.proofs.Common.{Grid, IsBoard, RuleKind, IsTable, Node, MAX_NODES, line_feed, text_of, LeavesAt, ReadsLine}
use Rattle.position_files.proofs.Common.{IsBetween, MAX_MOVES, Body, HeadError, board_lines, node_line, nodes_lines, NodeFits, BodyFits}
use Rattle.position_files.proofs.Common.{body_lines, IsBodyLines, after_lines, IsBoardLines, AreNodes, AreNodeLines, IsSectionFault}
use Rattle.strategy_graph.proofs.Filling.{corner, filled_table}
use Rattle.text_lines.proofs.TextLaws.{AreFree, free_append, same_lines, text_of-push}
use Rattle.text_lines.proofs.Leaving.{HasParts}
use Rattle.position_files.proofs.SectionLaws.{number-free, fault_after, nodes_on}
use Rattle.position_files.proofs.BoardLines.{sides_of, board-free, same_sizes}
use Rattle.position_files.proofs.Completions.{corner_on, nodes_fit}

-- ---- the first six lines

abbrev pub six : RuleKind → Grid → ℕ → ℕ → List (List ℕ)
six kind b moves count = board_lines kind b ++ (codes "moves " ++ decimal moves) ∷ (codes "nodes " ++ decimal count) ∷ []

pub six-free : (kind : RuleKind) (b : Grid) (moves count : ℕ) → IsBoard b → moves < 2 ^ 64 → count < 2 ^ 64
    → AreFree (six kind b moves count)
six-free kind b moves count ok few_moves few_nodes = search (rules, free_append, board-free, number-free)

-- what the first six lines tell
pub record SixTell (b c : Grid) (count other : ℕ) (rest others : List ℕ) : Type 0 where
  pub width : b.width ≡ c.width
  pub height : b.height ≡ c.height
  pub counts : count ≡ other
  pub rests : rest ≡ others

-- the same six lines tell the same size and the same number of nodes
pub six_same : (kind rule : RuleKind) (b c : Grid) (moves made count other : ℕ) → IsBoard b → IsBoard c → count < 2 ^ 64 → other < 2 ^ 64
    → six kind b moves count ≡ six rule c made other → (b.width ≡ c.width) × (b.height ≡ c.height) × (count ≡ other)
unfolding board_lines
six_same kind rule b c moves made count other ok_b ok_c fits_count fits_other lines =
    search (rules, same_sizes, sides_of, decimal_injective, append_cancel_left)

pub six_tell : (kind rule : RuleKind) (b c : Grid) (moves made count other : ℕ) (rest others bytes : List ℕ) → IsBoard b
    → IsBoard c → moves < 2 ^ 64 → made < 2 ^ 64 → count < 2 ^ 64 → other < 2 ^ 64 → bytes ≡ text_of (six kind b moves count) ++ rest
    → bytes ≡ text_of (six rule c made other) ++ others → SixTell b c count other rest others
unfolding board_lines
six_tell kind rule b c moves made count other rest others bytes ok_b ok_c few_moves few_made few_count few_other e f =
    let same = same_lines (six kind b moves count) (six rule c made other) rest others
    (six-free kind b moves count ok_b few_moves few_count) (six-free rule c made other ok_c few_made few_other) refl (sym e ∙ f) in
    let tell = six_same kind rule b c moves made count other ok_b ok_c few_count few_other same.0 in
    record { width = tell.0; height = tell.1; counts = tell.2; rests = same.1 }

pub corner_table : IsTable (corner ∷ [])
corner_table = filled_table 1 [] (record { nodes = λ i n is. absurd cc; size = omega arith }) (omega arith)

pub one_between : (least most : ℕ) → least ≤ 1 → 1 ≤ most → IsBetween least most 1
one_between least most few some = record { enough = few; few = some }

-- the smallest body of a board
abbrev pub least_body : RuleKind → Grid → ℕ → Body
least_body kind b moves = record { kind = kind; board = b; table = corner ∷ []; moves = moves }

pub least_fits : (kind : RuleKind) (b : Grid) (moves least : ℕ) → IsBoard b → least ≤ 1 → IsBetween least MAX_MOVES moves
    → BodyFits least (least_body kind b moves)
least_fits kind b moves least ok few many = search (rules, corner_on, one_between)

-- a head stands at the front of a body
pub head_part : (least : ℕ) → least ≤ 1 → HasParts [] IsBoardLines (IsBodyLines least)
head_part least few = record {
  free = tt;
  whole = λ l is. (
    nodes_lines (corner ∷ []) 1,
    (
      least_body is.0 is.1 1,
      least_fits is.0 is.1 1 least is.2 few (one_between least MAX_MOVES few (omega arith)),
      corner_table,
      ap (λ (k : List (List ℕ)). k ++ nodes_lines (corner ∷ []) 1) is.3,
    ),
  );
  parts = λ ls is. record {
    first = [];
    part = board_lines is.0.kind is.0.board;
    more = nodes_lines is.0.table is.0.moves;
    lines = is.3;
    free = tt;
    count = refl;
    are = λ same. (is.0.kind, is.0.board, is.1.board, refl);
  };
}

module _ (kind : RuleKind) (b : Grid) (moves count least : ℕ) (ok : IsBoard b) (many : IsBetween least MAX_MOVES moves)
    (enough : IsBetween least MAX_NODES count) where
  -- a body with these six lines and these nodes
  with_nodes : (nodes : List Node) (l : List (List ℕ)) → AreNodes b.width b.height count nodes → l ≡ map node_line nodes
      → IsBodyLines least (six kind b moves count ++ l)
  unfolding board_lines nodes_lines
  with_nodes nodes l are is = (
    record { kind = kind; board = b; table = nodes; moves = moves },
    record {
      board = ok;
      on_board = nodes_on b nodes are.fit;
      nodes = subst (IsBetween least MAX_NODES) (sym are.counted) enough;
      moves = many;
    },
    are.table,
    ap (λ (k : List (List ℕ)). six kind b moves count ++ k) is ∙ ap (λ n. six kind b moves n ++ map node_line nodes) (sym are.counted),
  )

  -- the nodes of another body, where its first six lines are these
  nodes_there : (body : Body) → BodyFits least body → IsTable body.table
      → six body.kind body.board body.moves (length body.table) ≡ six kind b moves count → AreNodes b.width b.height count body.table
  nodes_there body fits table same =
      let few = fits.nodes.few in
      let most = enough.few in
      let tell = six_same body.kind kind body.board b body.moves moves (length body.table) count fits.board ok (omega (arith, few))
      (omega (arith, most)) same in
      record {
        table = table;
        fit = subst (λ n. AllByRecursion (NodeFits n b.height) body.table) tell.0
            (subst (λ n. AllByRecursion (NodeFits body.board.width n) body.table) tell.1
            (nodes_fit body.board body.table fits.on_board table));
        counted = tell.2;
      }

  -- the lines of nodes stand in a body after these six lines
  pub nodes_part : HasParts (six kind b moves count) (AreNodeLines b.width b.height count) (IsBodyLines least)
  unfolding board_lines nodes_lines
  nodes_part =
      let few_moves = many.few in
      let few_nodes = enough.few in
      record {
        free = six-free kind b moves count ok (omega (arith, few_moves)) (omega (arith, few_nodes));
        whole = λ l is. ([], with_nodes is.0 (l ++ []) is.1 (append-nil l ∙ is.2));
        parts = λ ls is.
            let body : Body = is.0 in
            let few = is.1.moves.few in
            let nodes = is.1.nodes.few in
            record {
              first = six body.kind body.board body.moves (length body.table);
              part = map node_line body.table;
              more = [];
              lines = is.3 ∙ ap (λ (k : List (List ℕ)). six body.kind body.board body.moves (length body.table) ++ k)
                  (sym (append-nil (map node_line body.table)));
              free = six-free body.kind body.board body.moves (length body.table) is.1.board (omega (arith, few)) (omega (arith, nodes));
              count = refl;
              are = λ same. (body.table, nodes_there body is.1 is.2 same, refl);
            };
      }

module _ (least : ℕ) (few : least ≤ 1) (bytes : List ℕ) where
  module _ (kind : RuleKind) (b : Grid) (r1 : List ℕ) (ok : IsBoard b) (lines : bytes ≡ text_of (board_lines kind b) ++ r1) where
    pub no_moves_line : ReadsLine (IsBetween least MAX_MOVES) (λ n. codes "moves " ++ decimal n) None r1
        → LeavesAt (IsBodyLines least) bytes 4
    unfolding board_lines nodes_lines
    no_moves_line none = record {
      lines = body_lines (least_body kind b 1);
      rest = r1;
      are = (least_body kind b 1, least_fits kind b 1 least ok few (one_between least MAX_MOVES few (omega arith)), corner_table, refl);
      enough = omega arith;
      so_far = lines;
      no_further = λ ls others is e.
          let body : Body = is.0 in
          let line : List ℕ = codes "moves " ++ decimal body.moves in
          let whole : bytes ≡ text_of (board_lines body.kind body.board ++ line ∷ []) ++ others =
          subst (λ (l : List (List ℕ)). bytes ≡ text_of (take 5 l) ++ others) is.3 e in
          let same = same_lines (board_lines kind b) (board_lines body.kind body.board) r1 (line ++ line_feed ∷ others)
          (board-free kind b ok) (board-free body.kind body.board is.1.board) refl
          (sym lines ∙ whole ∙ sym (text_of-push (board_lines body.kind body.board) line others)) in
          none body.moves others is.1.moves same.1;
    }

    module _ (moves : ℕ) (r2 : List ℕ) (many : IsBetween least MAX_MOVES moves)
        (moves_line : r1 ≡ (codes "moves " ++ decimal moves) ++ line_feed ∷ r2) where
      five_lines : bytes ≡ text_of (board_lines kind b ++ (codes "moves " ++ decimal moves) ∷ []) ++ r2
      five_lines = search (rules, text_of-push)

      pub no_nodes_line : ReadsLine (IsBetween least MAX_NODES) (λ n. codes "nodes " ++ decimal n) None r2
          → LeavesAt (IsBodyLines least) bytes 5
      unfolding board_lines nodes_lines
      no_nodes_line none = record {
        lines = body_lines (least_body kind b moves);
        rest = r2;
        are = (least_body kind b moves, least_fits kind b moves least ok few many, corner_table, refl);
        enough = omega arith;
        so_far = five_lines;
        no_further = λ ls others is e.
            let body : Body = is.0 in
            let front : List (List ℕ) = board_lines body.kind body.board ++ (codes "moves " ++ decimal body.moves) ∷ [] in
            let line : List ℕ = codes "nodes " ++ decimal (length body.table) in
            let whole : bytes ≡ text_of (front ++ line ∷ []) ++ others =
            subst (λ (l : List (List ℕ)). bytes ≡ text_of (take 6 l) ++ others) is.3 e in
            let same = same_lines (board_lines kind b ++ (codes "moves " ++ decimal moves) ∷ []) front r2 (line ++ line_feed ∷ others)
            (free_append (board_lines kind b) ((codes "moves " ++ decimal moves) ∷ []) (board-free kind b ok)
            (number-free (codes "moves ") moves refl (let m = many.few in omega (arith, m)), tt))
            (free_append (board_lines body.kind body.board) ((codes "moves " ++ decimal body.moves) ∷ [])
            (board-free body.kind body.board is.1.board)
            (number-free (codes "moves ") body.moves refl (let m = is.1.moves.few in omega (arith, m)), tt))
            refl (sym five_lines ∙ whole ∙ sym (text_of-push front line others)) in
            none (length body.table) others is.1.nodes same.1;
      }

      module _ (count : ℕ) (r3 : List ℕ) (enough : IsBetween least MAX_NODES count)
          (nodes_line : r2 ≡ (codes "nodes " ++ decimal count) ++ line_feed ∷ r3) where
        six_lines : bytes ≡ text_of (six kind b moves count) ++ r3
        unfolding board_lines
        six_lines = five_lines ∙ ap (λ (l : List ℕ). text_of (board_lines kind b ++ (codes "moves " ++ decimal moves) ∷ []) ++ l) nodes_line
            ∙ text_of-push (board_lines kind b ++ (codes "moves " ++ decimal moves) ∷ []) (codes "nodes " ++ decimal count) r3

        pub body_nodes_fault : (error : HeadError) → IsSectionFault (AreNodeLines b.width b.height count) r3 error
            → IsSectionFault (IsBodyLines least) bytes (after_lines 6 error)
        unfolding board_lines
        body_nodes_fault error h = search (rules, fault_after, nodes_part, six_lines)
