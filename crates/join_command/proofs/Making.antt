-- The table that is made of a node of a compiler, and its text.
use Rattle.std.proofs.Common.{◌≡◌, ℕ, zero, suc, ◌<◌, ◌≤◌, List, [], ◌∷◌, length, map, arith, Option, Some, None, slice_get, inl, All}
use Rattle.std.proofs.Common.{Result, Ok, Err, IfOk}
use Rattle.join_command.proofs.Common.{Point, Node, Reply, MAX_NODES, Accepted, IsTable, answer_at, answers_of, depth, PutsIn}
use Rattle.join_command.proofs.Common.{answering_node, PositionFile, Answer, Done, IsNodeTold, IsTextOfNode}
use Rattle.strategy_graph.proofs.Common.{depth_within, greatest, named, node_depth}

-- ---- no node is deeper than the table is long

greatest-few : (d : ℕ → ℕ) (m : ℕ) → ((j : ℕ) → d j ≤ m) → (js : List ℕ) → greatest (map d js) ≤ m
greatest-few d m h [] = omega arith
greatest-few d m h (j ∷ js) = let here = h j in let rest = greatest-few d m h js in omega (arith, here, rest)

node-few : (o : Option Node) (d : ℕ → ℕ) (m : ℕ) → ((j : ℕ) → d j ≤ m) → node_depth o d ≤ suc m
node-few None d m h = omega arith
node-few (Some n) d m h = let low = greatest-few d m h (named (answers_of n)) in omega (arith, low)

within-few : (k : ℕ) (t : List Node) (i : ℕ) → depth_within k t i ≤ k
unfolding depth_within
within-few zero t i = omega arith
within-few (suc k) t i = node-few (slice_get t i) (depth_within k t) k (within-few k t)

pub depth-few : (t : List Node) (i : ℕ) → IsTable t → i < length t → depth t i ≤ MAX_NODES
depth-few t i table l = let few = within-few (suc i) t i in let size = table.size in omega (arith, few, size)

-- ---- what is told

pub node-told : (nodes grown : List Node) (root : ℕ) (p : Point) (answers : List Reply) (file : PositionFile) → {E : Type 0}
    (r : Result Answer E) → IfOk r (λ a. a.status ≡ Done) → IfOk r (λ a. IsTextOfNode grown root file a.text)
    → PutsIn nodes (answering_node p answers) grown → slice_get grown root ≡ Some (answering_node p answers)
    → All (λ s. answer_at grown root s.at ≡ Some s.next) answers → Accepted file.kind grown root file.board
    → IfOk r (λ a. IsNodeTold nodes p answers file a.status a.text)
node-told nodes grown root p answers file (Ok a) done told put at listed accepted =
    inl (done, record { grown = grown; root = root; put = put; at = at; listed = listed; accepted = accepted; told = told })
node-told nodes grown root p answers file (Err e) done told put at listed accepted = tt
