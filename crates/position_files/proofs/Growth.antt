-- Texts that grow by one piece after another.
use Rattle.std.proofs.Common.{rules, ◌≡◌, ℕ, ◌+◌, sym, ap, ◌∙◌, List, [], ◌∷◌, ◌++◌, append_assoc, take, map, length, Some, slice_get}
use Rattle.std.proofs.Common.{codes}
use Rattle.std.specs.Fmt.{decimal}
use Rattle.std.proofs.lemmas.List.{map-append, take_more, flat_map_more}
use Rattle.std.proofs.lemmas.List.Concat.{flat_map-append}
use Rattle.std.proofs.lemmas.Option.{slice_get_within, get_or_from_slice_get}
use Rattle.std.proofs.Math.Seq.{take-length}
use Rattle.position_files.proofs.Common.{Grid, RuleKind, Answers, Node, Attack, Defend, ended, text_of, rule_line, size_line, black_line}
use Rattle.position_files.proofs.Common.{white_line, board_lines, node_line, start_line, nodes_lines, table_text}

four_lines : (old a b c d : List ℕ) → (((old ++ ended a) ++ ended b) ++ ended c) ++ ended d ≡ old ++ text_of (a ∷ b ∷ c ∷ d ∷ [])
four_lines old a b c d = simp append_assoc

-- the lines of a rule and a board
pub head_grown : (kind : RuleKind) (b : Grid) (old t1 t2 t3 t4 : List ℕ) → t1 ≡ old ++ ended (rule_line kind)
    → t2 ≡ t1 ++ ended (size_line b.width b.height) → t3 ≡ t2 ++ ended (black_line b) → t4 ≡ t3 ++ ended (white_line b)
    → t4 ≡ old ++ text_of (board_lines kind b)
unfolding board_lines
head_grown kind b old t1 t2 t3 t4 e1 e2 e3 e4 =
    let s2 = e2 ∙ ap (λ (l : List ℕ). l ++ ended (size_line b.width b.height)) e1 in
    let s3 = e3 ∙ ap (λ (l : List ℕ). l ++ ended (black_line b)) s2 in
    e4 ∙ ap (λ (l : List ℕ). l ++ ended (white_line b)) s3
    ∙ four_lines old (rule_line kind) (size_line b.width b.height) (black_line b) (white_line b)

-- the same after a first line
pub board_grown : (kind : RuleKind) (b : Grid) (first none t0 t1 : List ℕ) → none ≡ [] → t0 ≡ none ++ ended first
    → t1 ≡ t0 ++ text_of (board_lines kind b) → t1 ≡ text_of (first ∷ board_lines kind b)
board_grown kind b first none t0 t1 e e0 e1 = search rules

-- one more node
pub node_grown : (old before after : List ℕ) (t : List Node) (i : ℕ) (n : Node) → before ≡ old ++ text_of (map node_line (take i t))
    → slice_get t i ≡ Some n → after ≡ before ++ ended (node_line n) → after ≡ old ++ text_of (map node_line (take (i + 1) t))
node_grown old before after t i n so_far at e =
    let more : take (i + 1) t ≡ take i t ++ n ∷ [] =
    take_more t i n (slice_get_within t i n at) ∙ ap (λ (m : Node). take i t ++ m ∷ []) (get_or_from_slice_get t i n n at) in
    e ∙ ap (λ (l : List ℕ). l ++ ended (node_line n)) so_far ∙ flat_map_more ended old (map node_line (take i t)) (node_line n)
    ∙ ap (λ (ls : List (List ℕ)). old ++ text_of ls) (sym (map-append node_line (take i t) (n ∷ [])))
    ∙ ap (λ (ns : List Node). old ++ text_of (map node_line ns)) (sym more)

-- all nodes
pub nodes_grown : (old text : List ℕ) (t : List Node) (i : ℕ) → text ≡ old ++ text_of (map node_line (take i t)) → i ≡ length t
    → text ≡ old ++ text_of (map node_line t)
nodes_grown old text t i so_far end = search (rules, take-length)

-- the numbers of moves and of nodes, and the nodes
pub table_grown : (nodes : List Node) (moves count : ℕ) (old t0 t1 t2 : List ℕ) → count ≡ length nodes
    → t0 ≡ old ++ ended (codes "moves " ++ decimal moves) → t1 ≡ t0 ++ ended (codes "nodes " ++ decimal count)
    → t2 ≡ t1 ++ text_of (map node_line nodes) → t2 ≡ old ++ text_of (nodes_lines nodes moves)
unfolding nodes_lines
table_grown nodes moves count old t0 t1 t2 len e0 e1 e2 =
    let m : List ℕ = ended (codes "moves " ++ decimal moves) in
    let k : List ℕ = ended (codes "nodes " ++ decimal count) in
    let ns : List ℕ = text_of (map node_line nodes) in
    e2 ∙ ap (λ (l : List ℕ). l ++ ns) (e1 ∙ ap (λ (l : List ℕ). l ++ k) e0) ∙ append_assoc (old ++ m) k ns ∙ append_assoc old m (k ++ ns)
    ∙ ap (λ n. old ++ text_of ((codes "moves " ++ decimal moves) ∷ (codes "nodes " ++ decimal n) ∷ map node_line nodes)) len

-- lines after the lines of a text
pub body_grown : (first : List ℕ) (ls ms : List (List ℕ)) (t0 t1 : List ℕ) → t0 ≡ text_of (first ∷ ls) → t1 ≡ t0 ++ text_of ms
    → t1 ≡ text_of (first ∷ ls ++ ms)
body_grown first ls ms t0 t1 e0 e1 = e1 ∙ ap (λ (l : List ℕ). l ++ text_of ms) e0 ∙ sym (flat_map-append ended (first ∷ ls) ms)

-- a table whose root is a node
pub attack_grown : (kind : RuleKind) (b : Grid) (nodes : List Node) (r moves : ℕ) (text : List ℕ)
    → text ≡ text_of (codes "renju-table 1" ∷ board_lines kind b ++ nodes_lines nodes moves)
    → text ≡ table_text kind b nodes (Attack r) moves
unfolding table_text
attack_grown kind b nodes r moves text e = e

-- a table whose root is a start
pub defend_grown : (kind : RuleKind) (b : Grid) (nodes : List Node) (a : Answers) (moves : ℕ) (t0 t1 : List ℕ)
    → t0 ≡ text_of (codes "renju-table 2" ∷ board_lines kind b ++ nodes_lines nodes moves) → t1 ≡ t0 ++ ended (start_line a)
    → t1 ≡ table_text kind b nodes (Defend a) moves
unfolding table_text
defend_grown kind b nodes a moves t0 t1 e0 e1 = e1 ∙ ap (λ (l : List ℕ). l ++ ended (start_line a)) e0
    ∙ flat_map_more ended [] (codes "renju-table 2" ∷ board_lines kind b ++ nodes_lines nodes moves) (start_line a)
