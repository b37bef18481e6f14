-- What holds of a search on the way back: which proved nodes may lack a win, what is kept, and what is remembered. The win of a proved node
-- of the attacker, made of those after each reply to a proved move. The way back, in the words of the contracts.
use Rattle.std.proofs.Common.{◌≡◌, ◌⊎◌, inl, inr, ℕ, zero, suc, ◌<◌, Bool, true, false, cond, refl, sym, ap, subst}
use Rattle.std.proofs.Common.{◌∙◌, arith, List, Ok, Err, length, Option, Some, None, All, ◌+◌, [], ◌∷◌, map}
use Rattle.std.proofs.Common.{rules}
use Rattle.std.specs.List.{find, AllByRecursion}
use Rattle.std.proofs.lemmas.Bool.{cases_eq, ne_eqb}
use Rattle.std.proofs.lemmas.List.{length-map}
use Rattle.proof_number.proofs.Common.{RuleKind, GoesOn, Point, WinsByThreats, Grid, points_of, is_same_point, outcome, after, LosesOr}
use Rattle.proof_number.proofs.Common.{Attack, Defend, settled_numbers, IsOnWayUp, Tree, ancestor, link_at, numbers_at, IsTree}
use Rattle.proof_number.proofs.Common.{packed, Node, depth, greatest, WrittenWin, IsWrittenWin, WinsByAnswers, Note, Search, Settled}
use Rattle.proof_number.proofs.Common.{all_notes, among, note_at, noted_for, noted_win, or_first, win_of, board_at, left_at}
use Rattle.proof_number.proofs.Common.{IsTrueMemo, IsAbove, IsSearching, KeepsTree, game_of, answer_of, no_note, IsGameTree, IsTrueOf}
use Rattle.proof_number.proofs.Common.{IsLostAt, IsPassed, Searches, known_searching, SearchError}
use Rattle.game_rules.proofs.Points.{points-found, is_same_point-itself, is_same_point-same}
use Rattle.game_rules.proofs.Positions.{GoesOn-on}
use Rattle.proof_tree.proofs.Settled.{ancestor-up}
use Rattle.position_table.specs.Remembering.{kept}
use Rattle.position_table.proofs.Remembering.{true-kept}
use Rattle.strategy_compiler.proofs.Forks.{IsAnswer, alone-deep, answers-win, mapped-all}
use Rattle.proof_number.proofs.Opening.{searching-facts}
use Rattle.strategy_compiler.proofs.Growing.{writes-fails, writes-nothing, writes-tells}
use Rattle.proof_number.proofs.Disproved.{lost-at}
use Rattle.proof_number.proofs.GameTruths.{all-tell, position-at}

-- ---- notes

pub noted-some : (n : Note) (w : WrittenWin) → noted_win n ≡ Some w → (0 < n.moves) × (win_of n ≡ w)
noted-some n w e = search rules

pub noted-none : (n : Note) → noted_win n ≡ None → n.moves ≡ 0
noted-none n e = search (rules, ne_eqb)

-- ---- what stays

pub keeps-all : (s : Search) → KeepsTree s s
keeps-all s = record { rest = refl; places = λ r t. refl }

pub keeps-then : (s u v : Search) → KeepsTree s u → KeepsTree u v → KeepsTree s v
keeps-then s u v first second = record {
  rest = second.rest ∙ ap (λ (w : Search). record w { notes = v.notes; settled = v.settled }) first.rest;
  places = λ r t. second.places r t ∙ first.places r t;
}

-- ---- which nodes may lack a win

pub way-changed : (rule : RuleKind) (s : Search) (t : Tree) (c : List Node) (old new : ℕ → Type 0)
    → ((i : ℕ) → i < length t.links → (link_at t.links i).kind ≡ Attack → numbers_at t.numbers i ≡ settled_numbers true → (new i → ⊥)
    → (old i → ⊥) ⊎ (0 < (note_at s.notes.items i).moves))
    → IsSearching rule s t c old → IsSearching rule s t c new
way-changed rule s t c old new change h = record {
  tree = h.tree;
  game = h.game;
  depth = h.depth;
  depth_fits = h.depth_fits;
  budget_fits = h.budget_fits;
  written = record {
    true_wins = h.written.true_wins;
    fresh = h.written.fresh;
    leaves = h.written.leaves;
    defends = h.written.defends;
    all = λ i low attack proved beside. elim (change i low attack proved beside) [
      | inl far ↦ h.written.all i low attack proved far
      | inr some ↦ some
    ];
    met = h.written.met;
  };
  remembered = h.remembered;
  counted = h.counted;
  spare = h.spare;
  compiled = h.compiled;
  few = h.few;
  wins = h.wins;
}

-- where a node has a win, or is no proved node of the attacker, only those above it may lack one
pub way-above : (rule : RuleKind) (s : Search) (t : Tree) (c : List Node) (node : ℕ)
    → ((link_at t.links node).kind ≡ Attack → numbers_at t.numbers node ≡ settled_numbers true → 0 < (note_at s.notes.items node).moves)
    → IsSearching rule s t c (IsOnWayUp t.links node) → IsSearching rule s t c (IsAbove t.links node)
way-above rule s t c node has h = way-changed rule s t c (IsOnWayUp t.links node) (IsAbove t.links node)
    (λ i low attack proved beside. elim (cases_eq i node) [
      | inl e ↦ inr (rw e
          (has (ap (λ (k : ℕ). (link_at t.links k).kind) (sym e) ∙ attack) (ap (numbers_at t.numbers) (sym e) ∙ proved)))
      | inr other ↦ inl (λ way. beside (way, other))
    ]) h

-- those above a node are on the way up from its parent
pub way-parent : (rule : RuleKind) (s : Search) (t : Tree) (c : List Node) (node : ℕ) → IsSearching rule s t c (IsAbove t.links node)
    → IsSearching rule s t c (IsOnWayUp t.links (link_at t.links node).parent)
way-parent rule s t c node h = way-changed rule s t c (IsAbove t.links node) (IsOnWayUp t.links (link_at t.links node).parent)
    (λ i low attack proved beside. inl (λ above. up above.0.0 i above.0.1 above.1 beside)) h where
      up : (steps i : ℕ) → ancestor t.links steps node ≡ i → (i ≡ node → ⊥) → (IsOnWayUp t.links (link_at t.links node).parent i → ⊥) → ⊥
      up zero i at other beside = other (sym at)
      up (suc n) i at other beside = beside (n, sym (ancestor-up t.links n node) ∙ at)

-- and above the root there is none
pub way-root : (rule : RuleKind) (s : Search) (t : Tree) (c : List Node) (node : ℕ) → node ≡ 0
    → IsSearching rule s t c (IsAbove t.links node) → IsSearching rule s t c (λ i. ⊥)
way-root rule s t c node root h = way-changed rule s t c (IsAbove t.links node) (λ i. ⊥)
    (λ i low attack proved beside. inl (λ above. above.1 (sym above.0.1 ∙ stays above.0.0 ∙ sym root))) h where
      stays : (steps : ℕ) → ancestor t.links steps node ≡ 0
      stays zero = root
      stays (suc n) = ap (λ (m : ℕ). (link_at t.links m).parent) (stays n) ∙ h.tree.linked.root_parent

-- ---- what is known of a settled node

pub lost-node : (rule : RuleKind) (s : Search) (t : Tree) (c : List Node) (way : ℕ → Type 0) (node : ℕ) → IsSearching rule s t c way
    → node < length t.links → (link_at t.links node).kind ≡ Attack
    → numbers_at t.numbers node ≡ settled_numbers false
    → WinsByThreats rule (left_at (game_of rule s t).left node) (board_at (game_of rule s t) node) → ⊥
lost-node rule s t c way node h inside attack lost wins =
    let told = all-tell h.tree h.game node inside in
    told.disproved lost (rw attack wins)

pub won-node : (rule : RuleKind) (s : Search) (t : Tree) (c : List Node) (way : ℕ → Type 0) (node : ℕ) → IsSearching rule s t c way
    → node < length t.links → (link_at t.links node).kind ≡ Attack
    → numbers_at t.numbers node ≡ settled_numbers true
    → WinsByThreats rule (left_at (game_of rule s t).left node) (board_at (game_of rule s t) node)
won-node rule s t c way node h inside attack won =
    let told = all-tell h.tree h.game node inside in
    rw attack at (told.proved won)

-- ---- what is remembered

pub remembered-searching : (rule : RuleKind) (s u : Search) (t : Tree) (c : List Node) (way : ℕ → Type 0)
    → u ≡ record s { settled = u.settled } → IsTrueMemo rule c (game_of rule s t) u.settled → IsSearching rule s t c way
    → IsSearching rule u t c way
remembered-searching rule s u t c way rest table h =
    rw rest (record {
      tree = h.tree;
      game = h.game;
      depth = h.depth;
      depth_fits = h.depth_fits;
      budget_fits = h.budget_fits;
      written = h.written;
      remembered = table;
      counted = h.counted;
      spare = h.spare;
      compiled = h.compiled;
      few = h.few;
      wins = h.wins;
    })

pub remembered-keeps : (s u : Search) → u ≡ record s { settled = u.settled } → KeepsTree s u
remembered-keeps s u rest = search rules

-- ---- a proved child

-- ---- lists

deep-notes : (d : ℕ → ℕ) (ns : List Note) → AllByRecursion (λ n. d n.node ≡ n.moves) ns
    → greatest (map d (map (λ r. r.next) (map answer_of ns))) ≡ greatest (map (λ n. n.moves) ns)
deep-notes d [] h = refl
deep-notes d (n ∷ ns) h = let here = h.0 in let rest = deep-notes d ns h.1 in omega (arith, here, rest)

pub note-points : (ns : List Note) → map (λ r. r.at) (map answer_of ns) ≡ map (λ n. n.at) ns
note-points [] = refl
note-points (n ∷ ns) = ap (λ (ps : List Point). n.at ∷ ps) (note-points ns)

-- ---- the note for a move

-- the first note of a move is one of them, and without one the move is none of theirs
find-note : (q : Point) (ns : List Note) (n : Note) → find (λ m. is_same_point q m.at) ns ≡ Some n
    → (k : ℕ) × (k < length ns) × (note_at ns k ≡ n) × (n.at ≡ q)
find-note q [] n e = cc
find-note q (m ∷ ns) n e = by_test (is_same_point q m.at) refl e (find-note q ns n) where
  by_test : (r : Bool) → is_same_point q m.at ≡ r → cond r (Some m) (find (λ x. is_same_point q x.at) ns) ≡ Some n
      → (find (λ x. is_same_point q x.at) ns ≡ Some n → (k : ℕ) × (k < length ns) × (note_at ns k ≡ n) × (n.at ≡ q))
      → (k : ℕ) × (k < length (m ∷ ns)) × (note_at (m ∷ ns) k ≡ n) × (n.at ≡ q)
  by_test true same found later = let is : m ≡ n = cc in
      (0, omega arith, is, sym (is_same_point-same q n.at (subst (λ (x : Note). is_same_point q x.at ≡ true) is same)))
  by_test false apart found later = let rest = later found in (suc rest.0, (let low = rest.1 in omega (arith, low)), rest.2, rest.3)

find-nothing : (q : Point) (ns : List Note) → find (λ m. is_same_point q m.at) ns ≡ None → among (map (λ m. m.at) ns) q ≡ false
find-nothing q [] e = refl
find-nothing q (m ∷ ns) e = search (rules, find-nothing q ns)

-- the note for a move is one of them: that of the move, or the first where none has it
pub record IsNoteFor (ns : List Note) (q : Point) (k : ℕ) : Type 0 where
  pub inside : k < length ns
  pub is : noted_for ns q ≡ note_at ns k
  pub move : ((note_at ns k).at ≡ q) ⊎ ((k ≡ 0) × (among (map (λ m. m.at) ns) q ≡ false))

pub note-for : (ns : List Note) (q : Point) → 0 < length ns → (k : ℕ) × IsNoteFor ns q k
note-for ns q some = by_found (find (λ m. is_same_point q m.at) ns) refl where
  by_found : (o : Option Note) → find (λ m. is_same_point q m.at) ns ≡ o → (k : ℕ) × IsNoteFor ns q k
  by_found None e = (0, record { inside = some; is = ap (λ o. or_first o ns) e; move = inr (refl, find-nothing q ns e) })
  by_found (Some n) e =
      let found = find-note q ns n e in (
        found.0,
        record {
          inside = found.1;
          is = ap (λ o. or_first o ns) e ∙ sym found.2;
          move = inl (ap (λ (m : Note). m.at) found.2 ∙ found.3);
        },
      )

-- the points of the notes for these moves
pub all-points : (ns : List Note) (ps : List Point) → map (λ m. m.at) (all_notes ns ps) ≡ ps
all-points ns [] = refl
all-points ns (p ∷ ps) = ap (λ (qs : List Point). p ∷ qs) (all-points ns ps)

-- the answers by them name what the notes do
pub all-below : (ns : List Note) (most : ℕ) → 0 < length ns → All (λ n. n.node < most) ns → (ps : List Point)
    → AllByRecursion (λ r. r.next < most) (map answer_of (all_notes ns ps))
all-below ns most some low [] = tt
all-below ns most some low (p ∷ ps) =
    let found = note-for ns p some in
    (rw found.1.is (low found.0 no_note found.1.inside), all-below ns most some low ps)

-- ---- the node with these answers

-- it is a win of one more move
pub written-node : (rule : RuleKind) (b : Grid) (p : Point) → outcome rule b p ≡ GoesOn → (t u : List Node) (ns : List Note) (n : ℕ)
    → map (λ m. m.at) ns ≡ points_of (after b p)
    → ((q : Point) → LosesOr (outcome rule (after b p) q) (Unit {0}))
    → AllByRecursion (λ m. IsAnswer rule n (after b p) t (answer_of m)) ns → AllByRecursion (λ m. depth t m.node ≡ m.moves) ns
    → (i : ℕ) → WinsByAnswers t p (map answer_of ns) u i
    → IsWrittenWin rule (suc n) b u (record { node = i; moves = greatest (map (λ m. m.moves) ns) + 1 })
written-node rule b p on t u ns n all none_saves each deep i by_answers =
    let answers = answers-win rule n (after b p) t (map answer_of ns) none_saves
    (λ q go. rw (note-points ns ∙ all)
    (points-found (after b p) (is_same_point q) q (GoesOn-on rule (after b p) q go) (is_same_point-itself q)))
    (mapped-all (IsAnswer rule n (after b p) t) answer_of ns each) in
    rw (alone-deep t (map answer_of ns) ∙ deep-notes (depth t) ns deep) at (by_answers rule n b on answers)

module _ {rule : RuleKind} {s : Search} {t : Tree} {c : List Node} {node : ℕ}
    (searches : Searches rule s t c (IsOnWayUp t.links node)) where
  h : IsSearching rule s t c (IsOnWayUp t.links node)
  h = searching-facts searches

  pub noted-inside : node < length t.links → node < length s.notes.items
  noted-inside inside = let long = length-map s.notes.items (λ (n : Note). n.at) in let e = h.game.moves in omega (arith, long, e, inside)

  pub noted-written : node < length t.links → (w : WrittenWin) → noted_win (note_at s.notes.items node) ≡ Some w
      → IsWrittenWin rule (left_at (game_of rule s t).left node) (board_at (game_of rule s t) node) c w
  noted-written inside w e =
      let noted = noted-some (note_at s.notes.items node) w e in
      rw noted.1 at (h.written.true_wins node inside noted.0).0

  pub noted-searches : (w : WrittenWin) → noted_win (note_at s.notes.items node) ≡ Some w → Searches rule s t c (IsAbove t.links node)
  noted-searches w e = known_searching (way-above rule s t c node (λ attack proved. (noted-some (note_at s.notes.items node) w e).0) h)

  -- a node that is no proved one of the attacker
  pub other-searches : ((link_at t.links node).kind ≡ Defend) ⊎ (numbers_at t.numbers node ≡ settled_numbers true → ⊥)
      → Searches rule s t c (IsAbove t.links node)
  other-searches other = known_searching (way-above rule s t c node (λ attack proved. absurd (elim other [
    | inl defend ↦ let bad : Attack ≡ Defend = sym attack ∙ defend in cc
    | inr open_or_lost ↦ open_or_lost proved
  ])) h)

  pub lost-there : node < length t.links → (link_at t.links node).kind ≡ Attack → numbers_at t.numbers node ≡ settled_numbers false
      → WinsByThreats rule (left_at (game_of rule s t).left node) (board_at (game_of rule s t) node) → ⊥
  lost-there inside attack lost = lost-node rule s t c (IsOnWayUp t.links node) node h inside attack lost

  pub lost-there-by : node < length t.links → (link_at t.links node).kind ≡ Attack → numbers_at t.numbers node ≡ settled_numbers false
      → IsLostAt Attack (game_of rule s t) (left_at (game_of rule s t).left node) (board_at (game_of rule s t) node)
  lost-there-by inside attack lost = lost-at h.tree h.game node inside attack lost

  pub won-there : node < length t.links → (link_at t.links node).kind ≡ Attack → numbers_at t.numbers node ≡ settled_numbers true
      → WinsByThreats rule (left_at (game_of rule s t).left node) (board_at (game_of rule s t) node)
  won-there inside attack won = won-node rule s t c (IsOnWayUp t.links node) node h inside attack won

  pub way-tree : IsTree t
  way-tree = h.tree

  pub way-game : IsGameTree (game_of rule s t)
  way-game = h.game

module _ {rule : RuleKind} {s : Search} {t : Tree} {c : List Node} {node : ℕ} (searches : Searches rule s t c (IsAbove t.links node)) where
  above : IsSearching rule s t c (IsAbove t.links node)
  above = searching-facts searches

  pub parent-searches : Searches rule s t c (IsOnWayUp t.links (link_at t.links node).parent)
  parent-searches = known_searching (way-parent rule s t c node above)

  pub root-searches : node ≡ 0 → Searches rule s t c (λ i. ⊥)
  root-searches root = known_searching (way-root rule s t c node root above)

  -- what is true of the node is kept in the table
  pub kept-searches : (u : Search) (w : Grid) (n : ℕ) (v : Settled) → node < length t.links → u ≡ record s { settled = u.settled }
      → w ≡ board_at (game_of rule s t) node → n ≡ left_at (game_of rule s t).left node
      → IsTrueOf rule c (game_of rule s t) (board_at (game_of rule s t) node) (left_at (game_of rule s t).left node) v
      → (u.settled ≡ kept (packed w, n) v s.settled) ⊎ (u.settled ≡ s.settled) → Searches rule u t c (IsAbove t.links node)
  kept-searches u w n v inside rest there left true_of keeps = known_searching (
      remembered-searching rule s u t c (IsAbove t.links node) rest
      (true-kept rule (IsTrueOf rule c (game_of rule s t)) (board_at (game_of rule s t) node) w n v s.settled
      (position-at above.tree.linked above.game node inside) there above.remembered u.settled
      (rw left true_of) keeps) above)

  pub above-inside : node < length t.links → node < length s.notes.items
  above-inside inside = search (rules, length-map)

-- the board that the moves are played on changes nothing else
pub board-searches : (rule : RuleKind) (s u : Search) (t : Tree) (c : List Node) (way : ℕ → Type 0) → u ≡ record s { board = u.board }
    → Searches rule s t c way → Searches rule u t c way
board-searches rule s u t c way rest is = search (rules, searching-facts)

-- ---- a node that is passed

module _ {rule : RuleKind} {s u : Search} {t : Tree} {c d : List Node} {node : ℕ} where
  -- as the last call in it failed
  pub passed-fails : {A B : Type 0} {e : SearchError} → IsPassed {A = A} rule s u t c d node (Err e)
      → IsPassed {A = B} rule s u t c d node (Err e)
  passed-fails {A = A} {e = e} passed = search (rules, writes-fails)

  -- with another answer than the last call in it
  pub passed-tells : {A B : Type 0} {x : A} (y : B) → IsPassed rule s u t c d node (Ok x) → IsPassed rule s u t c d node (Ok y)
  passed-tells {x = x} y passed = search (rules, writes-tells)

-- with nothing written
pub passed-idle : {A : Type 0} {rule : RuleKind} {s : Search} {t : Tree} {c : List Node} {node : ℕ} (y : A)
    → Searches rule s t c (IsAbove t.links node) → IsPassed rule s s t c c node (Ok y)
passed-idle {s = s} {c = c} y searching = record {
  searching = searching;
  keeps = keeps-all s;
  writes = writes-nothing c c _ y (searching-facts searching).compiled refl;
}
