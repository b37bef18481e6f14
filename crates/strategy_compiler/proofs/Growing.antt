-- Wins that a search wrote: they stay, and the table of one. Nodes that are added, in steps.
use Rattle.std.proofs.Common.{◌≡◌, ℕ, zero, suc, ◌<◌, List, [], ◌∷◌, ◌++◌, length, ap, ◌∙◌, arith, subst, All, Result, Ok, Err, IfOk, ◌+◌}
use Rattle.std.proofs.Common.{◌≤◌, sym, append_assoc, length-append, Some, slice_get, rules}
use Rattle.strategy_compiler.proofs.Common.{RuleKind, Grid, is_on, Node, NamesLower, NamesOnBoard, TableOnBoard, depth, SaysSame}
use Rattle.strategy_compiler.proofs.Common.{NamesPointsReached, last, StaysOnBoard, IsWrittenWin, IsWinTable, GrowthKeepsWins, IsCompiled}
use Rattle.strategy_compiler.proofs.Common.{GrowsBy, Writes, Tree, StandsFor, GrowthKeepsTrees}
use Rattle.strategy_graph.proofs.Filling.{growth-same}
use Rattle.strategy_graph.proofs.Naming.{slice_get-shorter, slice_get-longer}
use Rattle.strategy_graph.proofs.Fuel.{accepted-deep}
use Rattle.strategy_graph.proofs.Answering.{replies-on, nodes-append_nil}
use Rattle.strategy_graph.proofs.Soundness.{accepted-wins}
use Rattle.strategy_compiler.specs.declared.wins.WrittenWin.{WrittenWin}
use Rattle.strategy_compiler.specs.declared.error.SearchError.{SearchError}
use Rattle.strategy_compiler.specs.declared.error.SearchError.TheVariants.{Memory}
use Rattle.strategy_compiler.proofs.Standing.{reaches-shorter, reaches-inside}

-- ---- a list of nodes that grows

-- what a node reaches stays on the board
pub stays-longer : (b : Grid) (t more : List Node) → NamesLower t → (i : ℕ) → i < length t → StaysOnBoard b t i
    → StaysOnBoard b (t ++ more) i
stays-longer b t more lower i low h k n reach at =
    let back = reaches-shorter t more lower i k low reach in
    h k n back (slice_get-shorter t more k n (reaches-inside t lower i k low back) at)

pub growth_keeps-wins : GrowthKeepsWins
growth_keeps-wins rule limit b t more win lower h =
    let same = growth-same t more lower win.node h.in_compiler in
    record {
      in_compiler = longer t more win.node h.in_compiler;
      accepted = (same.same_accepted rule b).1 h.accepted;
      deep = same.same_depth ∙ h.deep;
      within = h.within;
      on_board = stays-longer b t more lower win.node h.in_compiler h.on_board;
    } where
      longer : (t more : List Node) (i : ℕ) → i < length t → i < length (t ++ more)
      longer [] more i l = absurd (omega arith)
      longer (n ∷ t) more zero l = omega arith
      longer (n ∷ t) more (suc i) l = let later = longer t more i (omega arith) in omega (arith, later)

-- ---- the table of a win

-- what a table names that has the points of what the node of a win reaches
module _ (b : Grid) (t : List Node) (root : ℕ) (on : StaysOnBoard b t root) where
  named-on : (m : Node) → NamesPointsReached t root m → NamesOnBoard b m
  named-on m (i, n, reach, at, attack, points) =
      let there = on i n reach at in
      record { attack = ap (is_on b) attack ∙ there.attack; replies = replies-on b m.replies n.replies points there.replies }

  table-on : (u : List Node) → All (NamesPointsReached t root) u → TableOnBoard b u
  table-on [] all = tt
  table-on (m ∷ u) all = (named-on m (all 0 m (omega arith)), table-on u (λ k d l. all (suc k) d (omega arith)))

pub win-table : (t : List Node) (win : WrittenWin) (u : List Node) → SaysSame t win.node u (last u) → All (NamesPointsReached t win.node) u
    → (rule : RuleKind) (limit : ℕ) (b : Grid) → IsWrittenWin rule limit b t win → IsWinTable rule b win u
win-table t win u same points rule limit b h = record {
  accepted = (same.same_accepted rule b).1 h.accepted;
  deep = same.same_depth ∙ h.deep;
  some_moves = let deep = accepted-deep rule t win.node b h.accepted in let is = h.deep in omega (arith, deep, is);
  on_board = table-on b t win.node h.on_board u points;
}

pub win-tables : (t : List Node) (win : WrittenWin) {E : Type 0} (r : Result (List Node) E) → IfOk r (λ u. SaysSame t win.node u (last u))
    → IfOk r (λ u. All (NamesPointsReached t win.node) u)
    → IfOk r (λ u. (rule : RuleKind) (limit : ℕ) (b : Grid) → IsWrittenWin rule limit b t win → IsWinTable rule b win u)
win-tables t win (Ok u) same points = win-table t win u same points
win-tables t win (Err e) same points = tt

-- a win whose moves are told as the depth of its node
pub win-deep : (rule : RuleKind) (n : ℕ) (b : Grid) (t : List Node) (win : WrittenWin) → IsWrittenWin rule n b t win
    → IsWrittenWin rule n b t (record { node = win.node; moves = depth t win.node })
win-deep rule n b t win h = search rules

-- a written win has a move
pub win-some : (rule : RuleKind) (n : ℕ) (b : Grid) (c : List Node) (win : WrittenWin) → IsWrittenWin rule n b c win → 0 < win.moves
win-some rule n b c win h = search (rules, accepted-wins)

-- ---- how they grow

-- nodes that stay as they are, and a node that is put in
pub grows-not : (a b : List Node) (k : ℕ) → b ≡ a → GrowsBy a b k
grows-not a b k e = record { added = []; is = e ∙ sym (nodes-append_nil a); few = omega arith }

-- one after the other, and by more
pub grows-then : (a b c : List Node) (j k m : ℕ) → GrowsBy a b j → GrowsBy b c k → j + k ≤ m → GrowsBy a c m
grows-then a b c j k m f g l = record {
  added = f.added ++ g.added;
  is = g.is ∙ ap (λ (t : List Node). t ++ g.added) f.is ∙ append_assoc a f.added g.added;
  few = let x = f.few in let y = g.few in let z : length
      (f.added ++ g.added) ≡ length f.added + length g.added = length-append f.added g.added in omega (arith, x, y, z, l);
}

pub grows-more : (a b : List Node) (j m : ℕ) → GrowsBy a b j → j ≤ m → GrowsBy a b m
grows-more a b j m f l = record { added = f.added; is = f.is; few = let x = f.few in omega (arith, x, l) }

pub grows-length : (a b : List Node) (k : ℕ) → GrowsBy a b k → length b ≤ length a + k
grows-length a b k f = search (rules, length-append)

-- a node stays where it is
pub node-stays : (a b : List Node) (k i : ℕ) (n : Node) → GrowsBy a b k → slice_get a i ≡ Some n → slice_get b i ≡ Some n
node-stays a b k i n f h = subst (λ (t : List Node). slice_get t i ≡ Some n) (sym f.is) (slice_get-longer a f.added i n h)

-- a win stays one
pub win-stays : (rule : RuleKind) (limit : ℕ) (b : Grid) (t u : List Node) (k : ℕ) (win : WrittenWin) → NamesLower t → GrowsBy t u k
    → IsWrittenWin rule limit b t win → IsWrittenWin rule limit b u win
win-stays rule limit b t u k win lower f h =
    subst (λ (v : List Node). IsWrittenWin rule limit b v win) (sym f.is) (growth_keeps-wins rule limit b t f.added win lower h)

-- a win within fewer moves
pub win-within : (rule : RuleKind) (n m : ℕ) (b : Grid) (t : List Node) (win : WrittenWin) → n ≤ m → IsWrittenWin rule n b t win
    → IsWrittenWin rule m b t win
win-within rule n m b t win l h = search rules

-- ---- what calls write

-- a call that wrote nothing and has an answer, or had no memory
pub writes-nothing : {A : Type 0} (a b : List Node) (k : ℕ) (x : A) → IsCompiled a → b ≡ a → Writes a b k (Ok x)
writes-nothing a b k x compiled e = search (rules, grows-not)

pub writes-memory : {A : Type 0} (a b : List Node) (k : ℕ) (s : Result A SearchError) → GrowsBy a b k → s ≡ Err Memory → Writes a b k s
writes-memory a b k s grows is = search rules

-- a call, and another after it that had an answer
pub writes-then : {A B : Type 0} (a b c : List Node) (j k m : ℕ) (x : A) (s : Result B SearchError) → Writes a b j (Ok x) → Writes b c k s
    → j + k ≤ m → Writes a c m s
writes-then a b c j k m x s f g l = record {
  grows = grows-then a b c j k m f.grows g.grows l;
  compiled = g.compiled;
  full = λ h. let low = grows-length a b j f.grows in let none = g.full h in omega (arith, low, none, l);
  full_now = g.full_now;
}

pub writes-more : {A : Type 0} (a b : List Node) (j m : ℕ) (r : Result A SearchError) → Writes a b j r → j ≤ m → Writes a b m r
writes-more a b j m r f l = record {
  grows = grows-more a b j m f.grows l;
  compiled = f.compiled;
  full = λ h. let none = f.full h in omega (arith, none, l);
  full_now = f.full_now;
}

-- a call that tells another answer than the last one in it
pub writes-tells : {A B : Type 0} (a b : List Node) (j m : ℕ) (x : A) (y : B) → Writes a b j (Ok x) → j ≤ m → Writes a b m (Ok y)
writes-tells a b j m x y f l = record { grows = grows-more a b j m f.grows l; compiled = f.compiled; full = λ h. cc; full_now = λ h. cc }

-- a call that fails as one in it does, at once or after another
pub writes-fails : {A B : Type 0} (a b : List Node) (j m : ℕ) (e : SearchError) (s : Result B SearchError)
    → Writes {A = A} a b j (Err e) → j ≤ m → s ≡ Err e → Writes a b m s
writes-fails {B = B} a b j m e s f l is = search (rules, writes-more)

pub writes-then-fails : {A B C : Type 0} (a b c : List Node) (j k m : ℕ) (x : A) (e : SearchError) (s : Result C SearchError)
    → Writes a b j (Ok x) → Writes {A = B} b c k (Err e) → j + k ≤ m → s ≡ Err e → Writes a c m s
writes-then-fails {B = B} {C = C} a b c j k m x e s f g l is = search (rules, writes-fails, writes-then)

-- a node that stood for a tree still does
pub stands-grown : GrowthKeepsTrees → (a c : List Node) (k : ℕ) → GrowsBy a c k → (i : ℕ) (tree : Tree) → StandsFor a i tree
    → StandsFor c i tree
stands-grown law a c k g i tree h = subst (λ (t : List Node). StandsFor t i tree) (sym g.is) (law a g.added i tree h)
