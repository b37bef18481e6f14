-- The steps of a search, in the words of its contracts. Steps at a leaf of the attacker whose win is compiled at once: what is counted
-- fits, and so do the nodes.
use Rattle.std.proofs.Common.{◌≡◌, ℕ, ◌+◌, ◌<◌, ◌≤◌, true, false, inl, sym, ap, subst, ◌∙◌, arith, List}
use Rattle.std.proofs.Common.{[], ◌++◌, append-nil, get_or, length, Some, Result, Ok, Err, refl, cond, ◌&&◌, not, rules}
use Rattle.std.proofs.lemmas.List.{get_or-map, get_or_default, length-map}
use Rattle.std.proofs.lemmas.Bool.{eq-eqb}
use Rattle.proof_number.proofs.Common.{RuleKind, Grid, IsPosition, mover, WinsByThreats, has_five, Kind, Attack, is_settled, WinsAt}
use Rattle.proof_number.proofs.Common.{IsTree, Tree, link_at, numbers_at, packed}
use Rattle.proof_number.proofs.Common.{value_under, looked_up, Node, SearchError, WrittenWin, IsCompiled, GrowsBy, Writes, DoublePoint}
use Rattle.proof_number.proofs.Common.{threat_tree, IsThreatWin, IsDoubleWin, answer_nodes, is_last_move, Step, Done, known_grown}
use Rattle.proof_number.proofs.Common.{IsGameTree, IsOpenLeaf, Searches, known_searching, IsSameAim, IsTried, most_nodes, room_in, no_note}
use Rattle.proof_number.proofs.Common.{note_at, CanGrow, board_at, left_at}
use Rattle.proof_number.proofs.Common.{IsTrueOf, IsTrueMemo, Grows, HasGrown, HasSpent, HasStayed, KeepsTree, OnStep, IsAtLeaf, IsNotedWin}
use Rattle.proof_number.proofs.Common.{IsSettledAt, StandsAt, game_of, noted_won, GameTree, attacks_behind, behind_at, unwritten, IsLostAt}
use Rattle.proof_number.proofs.Common.{IsBare, threat_wins, wins_behind, won_at, Note, Settled, Lost, Search, Point}
use Rattle.position_table.specs.Packing.{Packed}
use Rattle.position_table.proofs.Remembering.{true-found, true-looked}
use Rattle.strategy_graph.proofs.Filling.{IsTable-lower}
use Rattle.strategy_compiler.proofs.Growing.{grows-not, win-some, writes-memory, writes-nothing}
use Rattle.strategy_compiler.specs.declared.error.SearchError.TheVariants.{Memory}
use Rattle.threat_game.proofs.TreeLaws.{tree-positive, counted-within}
use Rattle.proof_number.specs.declared.search.Step.TheVariants.{Spent}
use Rattle.proof_number.proofs.RunningOut.{runs-out}
use Rattle.proof_number.proofs.WinLaws.{double-wins, last-counts}
use Rattle.proof_number.proofs.Opening.{grown-facts, leaf-facts}
use Rattle.proof_number.proofs.GameTruths.{left-low, position-at, board-root}
use Rattle.proof_number.proofs.Growing.{lost-grown, won-grown}
use Rattle.proof_number.proofs.Remembering.{memo-grown}
use Rattle.proof_number.proofs.Recording.{keeps-all}
use Rattle.proof_number.proofs.Sums.{sum-one}

module _ {rule : RuleKind} {s : Search} {t : Tree} {c : List Node} {leaf : ℕ} {view : Grid} (stands : StandsAt rule s t c leaf view) where
  at-leaf : IsAtLeaf rule s t c leaf view
  at-leaf = leaf-facts stands

  pub leaf-inside : leaf < length t.links
  leaf-inside = at-leaf.in_tree

  pub leaf-childless : (link_at t.links leaf).count ≡ 0
  leaf-childless = at-leaf.childless

  pub leaf-tree : IsTree t
  leaf-tree = at-leaf.searching.tree

  pub leaf-game : IsGameTree (game_of rule s t)
  leaf-game = at-leaf.searching.game

  -- the board of the search and that of the view are that of the leaf
  pub leaf-view : view ≡ board_at (game_of rule s t) leaf
  leaf-view = at-leaf.view_is

  pub leaf-place : s.board ≡ board_at (game_of rule s t) leaf
  leaf-place = at-leaf.board_is

  -- it may be gone to
  pub leaf-open : IsOpenLeaf t leaf
  leaf-open = record { alive = at-leaf.alive; in_tree = at-leaf.in_tree; childless = at-leaf.childless }

  pub leaf-root : is_settled (numbers_at t.numbers 0) ≡ false
  leaf-root = at-leaf.root_open

  pub leaf-searches : Searches rule s t c (λ i. ⊥)
  leaf-searches = known_searching at-leaf.searching

  pub leaf-noted : leaf < length s.notes.items
  leaf-noted = let same = at-leaf.searching.game.moves in let long = length-map s.notes.items (λ (n : Note). n.at) in let low =
      at-leaf.in_tree in omega (arith, same, long, low)

  -- of what is read there
  pub leaf-left : (n : Note) → n ≡ get_or s.notes.items leaf n → n.left ≡ (note_at s.notes.items leaf).left
  leaf-left n read = ap (λ (x : Note). x.left) (read ∙ get_or_default s.notes.items leaf n no_note leaf-noted)

  pub leaf-compiled : IsCompiled c
  leaf-compiled = at-leaf.searching.compiled

  pub leaf-lawful : IsPosition rule view
  leaf-lawful = rw at-leaf.view_is (position-at at-leaf.searching.tree.linked at-leaf.searching.game leaf at-leaf.in_tree)

  pub leaf-board : s.board ≡ view
  leaf-board = at-leaf.board_is ∙ sym at-leaf.view_is

  grows-with : (kind : Kind) → (link_at t.links leaf).kind ≡ kind
      → CanGrow kind rule (left_at (game_of rule s t).left leaf) (board_at (game_of rule s t) leaf)
  grows-with kind e = search (rules, at-leaf)

  left-noted : left_at (game_of rule s t).left leaf ≡ (note_at s.notes.items leaf).left
  left-noted = get_or-map (λ (n : Note). n.left) s.notes.items leaf no_note 0 leaf-noted

  -- few moves are left
  pub left-few : (note_at s.notes.items leaf).left ≤ 60
  left-few =
      let low = left-low at-leaf.searching.tree.linked at-leaf.searching.game leaf at-leaf.in_tree in
      let root : left_at (game_of rule s t).left 0 ≡ (note_at s.notes.items 0).left =
      get_or-map (λ (n : Note). n.left) s.notes.items 0 no_note 0 (let l = leaf-noted in omega (arith, l)) in
      omega (arith, low, root, at-leaf.searching.depth, at-leaf.searching.depth_fits, left-noted)

  -- at an attacker's leaf
  module _ (attack : (link_at t.links leaf).kind ≡ Attack) where
    pub attack-no_five : has_five rule view (mover view) ≡ false
    attack-no_five = rw at-leaf.view_is (grows-with Attack attack).0

    pub attack-moves : 2 ≤ (note_at s.notes.items leaf).left
    attack-moves = rw left-noted at (grows-with Attack attack).1

    -- a win is known of the board of the view, and it is settled as won
    module _ (u : Tree) (st : IsSettledAt t u leaf true) (v : Search) (more : List Node)
        (rest : v ≡ record s { board = v.board; notes = v.notes; settled = v.settled; attacked = v.attacked })
        (same_board : v.board ≡ s.board)
        (d : List Node) (grown : d ≡ c ++ more) (compiled : IsCompiled d) (win : WrittenWin)
        (items : v.notes.items ≡ noted_won s.notes.items leaf win)
        (noted : IsNotedWin rule (note_at s.notes.items leaf).left view d win) (grows : s.attacked ≤ v.attacked)
        (fits : v.attacked ≤ s.budget) (two : v.attacked ≤ s.attacked + 2)
        (behind : v.attacked + 1 ≤ s.attacked + threat_tree rule (note_at s.notes.items leaf).left view)
        (short : s.attacked + length more ≤ v.attacked + 1)
        (won : length more ≤ threat_wins rule (note_at s.notes.items leaf).left view)
        (table : IsTrueMemo rule c (game_of rule s t) v.settled) where
      pub won-step : Grows rule s v t u d leaf
      won-step = known_grown (
          let w : IsNotedWin rule (left_at (game_of rule s t).left leaf) (board_at (game_of rule s t) leaf) (c ++ more) win =
          subst (λ (x : List Node). IsNotedWin rule (left_at (game_of rule s t).left leaf) (board_at (game_of rule s t) leaf) x win) grown
          (subst (λ (n : ℕ). IsNotedWin rule n (board_at (game_of rule s t) leaf) d win) (sym left-noted)
          (subst (λ (b : Grid). IsNotedWin rule (note_at s.notes.items leaf).left b d win) at-leaf.view_is noted)) in
          let tree_is : threat_tree rule (note_at s.notes.items leaf).left view ≡ threat_tree rule (left_at (game_of rule s t).left leaf)
          (board_at (game_of rule s t) leaf) =
          ap (λ (n : ℕ). threat_tree rule n view) (sym left-noted)
          ∙ ap (threat_tree rule (left_at (game_of rule s t).left leaf)) at-leaf.view_is in
          let wins_are : threat_wins rule (note_at s.notes.items leaf).left view ≡ threat_wins rule (left_at (game_of rule s t).left leaf)
          (board_at (game_of rule s t) leaf) =
          ap (λ (n : ℕ). threat_wins rule n view) (sym left-noted)
          ∙ ap (threat_wins rule (left_at (game_of rule s t).left leaf)) at-leaf.view_is in
          subst (λ (x : List Node). HasGrown rule s v t u x leaf) (sym grown)
          (won-grown at-leaf attack st v more rest same_board (subst IsCompiled grown compiled)
          (memo-grown rule (game_of rule s t) c more v.settled (IsTable-lower c at-leaf.searching.compiled.table) table) win items
          (win-some rule (left_at (game_of rule s t).left leaf) (board_at (game_of rule s t) leaf) (c ++ more) win w.0) w.0 w.1
          grows fits two (omega (arith, behind, tree_is)) short (omega (arith, won, wins_are))))

    -- none is known to be there
    module _ (u : Tree) (st : IsSettledAt t u leaf false) (v : Search) (rest : v ≡ record s { board = v.board; settled = v.settled })
        (same_board : v.board ≡ s.board) (table : IsTrueMemo rule c (game_of rule s t) v.settled)
        (none : WinsByThreats rule (note_at s.notes.items leaf).left view → ⊥)
        (why : IsLostAt Attack (game_of rule s t) (note_at s.notes.items leaf).left view)
        (bare : leaf ≡ 0 → IsBare rule (note_at s.notes.items leaf).left view) where
      pub lost-step : Grows rule s v t u c leaf
      lost-step = known_grown (lost-grown at-leaf st v rest same_board table (λ wins.
          let win : WinsByThreats rule (left_at (game_of rule s t).left leaf) (board_at (game_of rule s t) leaf) =
          subst (λ (q : Kind). WinsAt q rule (left_at (game_of rule s t).left leaf) (board_at (game_of rule s t) leaf)) attack wins in
          none (subst (λ (n : ℕ). WinsByThreats rule n view) left-noted
          (subst (WinsByThreats rule (left_at (game_of rule s t).left leaf)) (sym at-leaf.view_is) win)))
          (subst (λ (q : Kind). IsLostAt q (game_of rule s t) (left_at (game_of rule s t).left leaf) (board_at (game_of rule s t) leaf))
          (sym attack)
          (subst (λ (n : ℕ). IsLostAt Attack (game_of rule s t) n (board_at (game_of rule s t) leaf)) (sym left-noted)
          (subst (IsLostAt Attack (game_of rule s t) (note_at s.notes.items leaf).left) at-leaf.view_is why)))
          (λ root.
          let g : GameTree = game_of rule s t in
          subst (λ (n : ℕ). IsBare rule n s.root) (sym left-noted ∙ ap (left_at g.left) root)
          (subst (IsBare rule (note_at s.notes.items leaf).left) (at-leaf.view_is ∙ ap (board_at g) root
          ∙ board-root g.tree.links g.moves g.start at-leaf.searching.tree.linked) (bare root))))

    -- what is found in the table holds of the view
    pub leaf-found : (w : Grid) (v : Settled) → w ≡ view → Some v ≡ value_under (packed w, (note_at s.notes.items leaf).left) s.settled
        → IsTrueOf rule c (game_of rule s t) view (note_at s.notes.items leaf).left v
    leaf-found w v same found =
        true-found rule (IsTrueOf rule c (game_of rule s t)) view w (note_at s.notes.items leaf).left v s.settled leaf-lawful same
        at-leaf.searching.remembered found

  pub leaf-table : IsTrueMemo rule c (game_of rule s t) s.settled
  leaf-table = at-leaf.searching.remembered

  -- nothing is written for the leaf
  pub writes-none : {A : Type 0} (x : A) → Writes c c (room_in (most_nodes rule s) c) (Ok x)
  writes-none x = writes-nothing c c (room_in (most_nodes rule s) c) x leaf-compiled refl

  pub leaf-budget : s.attacked ≤ s.budget
  leaf-budget = at-leaf.searching.counted.attacked_fits

-- nothing was written where there was no memory
pub writes-no_memory : {A : Type 0} {c : List Node} {most : ℕ} {r : Result A SearchError} → r ≡ Err Memory → Writes c c most r
writes-no_memory {c = c} {most = most} {r = r} is = writes-memory c c most r (grows-not c c most refl) is

-- no more nodes may be written for the same aim
pub most-same : (rule : RuleKind) {s v : Search} → IsSameAim s v → most_nodes rule v ≡ most_nodes rule s
unfolding most_nodes
most-same rule aim = rw (aim.before, aim.budget, aim.depth, aim.root)

-- what stays where only the notes and the table changed
pub rest-of : (s mid v : Search) → mid ≡ record s { settled = mid.settled } → v ≡ record mid { notes = v.notes }
    → v ≡ record s { board = v.board; notes = v.notes; settled = v.settled; attacked = v.attacked }
rest-of s mid v first second = search rules

module _ {rule : RuleKind} {s : Search} {t : Tree} {c : List Node} {leaf : ℕ} {view : Grid} (stands : StandsAt rule s t c leaf view)
    (mid : Search) (first : mid ≡ record s { settled = mid.settled }) (key : Packed × ℕ)
    (looked : mid.settled ≡ looked_up key s.settled) where
  table-now : IsTrueMemo rule c (game_of rule s t) mid.settled
  table-now = true-looked rule (IsTrueOf rule c (game_of rule s t)) s.settled mid.settled key (inl looked)
      (leaf-table stands)

  -- the search stands at the leaf as before
  pub recalled-stands : StandsAt rule mid t c leaf view
  recalled-stands = search (rules, at-leaf, table-now)

  module _ (attack : (link_at t.links leaf).kind ≡ Attack) where
    -- what is remembered as won is settled so
    pub recalled-won : (u : Tree) → IsSettledAt t u leaf true → (v : Search) → v ≡ record mid { notes = v.notes } → (win : WrittenWin)
        → v.notes.items ≡ noted_won mid.notes.items leaf win
        → IsNotedWin rule (note_at s.notes.items leaf).left view c win → Grows rule s v t u c leaf
    recalled-won u st v second win items noted =
        let count : v.attacked ≡ s.attacked = ap (λ (w : Search). w.attacked) second ∙ ap (λ (w : Search). w.attacked) first in
        let board : v.board ≡ s.board = ap (λ (w : Search). w.board) second ∙ ap (λ (w : Search). w.board) first in
        let fits = leaf-budget stands in
        let positive = tree-positive rule (note_at s.notes.items leaf).left view in
        won-step stands attack u st v [] (rest-of s mid v first second) board c (sym (append-nil c))
        (leaf-compiled stands) win
        (items ∙ ap (λ (w : Search). noted_won w.notes.items leaf win) first) noted (omega (arith, count)) (omega (arith, count, fits))
        (omega (arith, count)) (omega (arith, count, positive)) (omega (arith, count)) (omega arith)
        (rw (ap (λ (w : Search). w.settled) second) table-now)

    -- and what is remembered as lost
    pub recalled-lost : (u : Tree) → IsSettledAt t u leaf false
        → IsTrueOf rule c (game_of rule s t) view (note_at s.notes.items leaf).left Lost → (leaf ≡ 0 → ⊥) → Grows rule s mid t u c leaf
    recalled-lost u st none other =
        lost-step stands attack u st mid
        (first ∙ ap (λ (w : Search). record s { board = w.board; settled = mid.settled }) (sym first))
        (ap (λ (w : Search). w.board) first) table-now none.0 none.1 (λ root. absurd (other root))

-- ---- a step after a look at the table is one from before it

module _ (rule : RuleKind) (s mid v : Search) (t u : Tree) (d : List Node) (leaf : ℕ)
    (first : mid ≡ record s { settled = mid.settled }) where
  grown-from : HasGrown rule (record s { settled = mid.settled }) v t u d leaf → HasGrown rule s v t u d leaf
  grown-from h = search rules

  keeps-from : KeepsTree (record s { settled = mid.settled }) v → KeepsTree s v
  keeps-from h = record { rest = h.rest; places = h.places }

  step-from : (r : Result Step SearchError) → OnStep r (Grows rule mid v t u d leaf) (HasSpent rule mid v t u d leaf) (HasStayed mid v t u)
      → OnStep r (Grows rule s v t u d leaf) (HasSpent rule s v t u d leaf) (HasStayed s v t u)
  step-from (Ok Done) h = known_grown (grown-from (rw first at (grown-facts h)))
  step-from (Ok Spent) h =
      let k = rw first at h in
      record { searching = k.searching; spent = k.spent; ran_out = k.ran_out; same = k.same; keeps = keeps-from k.keeps }
  step-from (Err e) h =
      let k = rw first at h in
      record { same = k.same; keeps = keeps-from k.keeps }

pub tried-from : {rule : RuleKind} {s mid v : Search} {t u : Tree} {c d : List Node} {leaf : ℕ} {r : Result Step SearchError}
    → mid ≡ record s { settled = mid.settled } → IsTried rule mid v t u c d leaf r → IsTried rule s v t u c d leaf r
tried-from {rule = rule} {s = s} {mid = mid} {v = v} {t = t} {u = u} {c = c} {d = d} {leaf = leaf} {r = r} first h = record {
  step = step-from rule s mid v t u d leaf first r h.step;
  writes = subst (λ (w : ℕ). Writes c d (room_in w c) r) (most-same rule aim) h.writes;
} where
  aim : IsSameAim s mid
  aim = record {
    depth = ap (λ (w : Search). w.depth) first;
    budget = ap (λ (w : Search). w.budget) first;
    before = ap (λ (w : Search). w.before) first;
    root = ap (λ (w : Search). w.root) first;
  }

module _ {rule : RuleKind} {s : Search} {t : Tree} {c : List Node} {leaf : ℕ} {view : Grid} (stands : StandsAt rule s t c leaf view) where
  here : IsAtLeaf rule s t c leaf view
  here = leaf-facts stands

  pub attacked-few : s.attacked ≤ 10000000
  attacked-few = let a = here.searching.counted.attacked_fits in let b = here.searching.budget_fits in omega (arith, a, b)

  -- the same on the board of the search, whatever the place that it stands in
  pub board-stands : (b : Grid) → b ≡ s.board → StandsAt rule (record s { board = b }) t c leaf b
  board-stands b e = search (rules, leaf-board)

  module _ (attack : (link_at t.links leaf).kind ≡ Attack) where
    own-behind : (f : Kind → RuleKind → ℕ → Grid → ℕ) → behind_at f (game_of rule s t) leaf ≡ f Attack rule
        (left_at (game_of rule s t).left leaf) (board_at (game_of rule s t) leaf)
    own-behind f =
        let n : ℕ = f (link_at t.links leaf).kind rule (left_at (game_of rule s t).left leaf) (board_at (game_of rule s t) leaf) in
        ap (λ r. cond (r && not (is_settled (numbers_at t.numbers leaf))) n 0) (eq-eqb (link_at t.links leaf).count 0 here.childless)
        ∙ ap (λ r. cond (not r) n 0) here.leaf_open
        ∙ ap (λ (k : Kind). f k rule (left_at (game_of rule s t).left leaf) (board_at (game_of rule s t) leaf)) attack

    -- what is counted from the place of the leaf in the tree
    at-view : (count : ℕ → Grid → ℕ) → count (note_at s.notes.items leaf).left view ≡ count (left_at (game_of rule s t).left leaf)
        (board_at (game_of rule s t) leaf)
    at-view count =
        let left_is = get_or-map (λ (n : Note). n.left) s.notes.items leaf no_note 0 (leaf-noted stands) in
        ap (λ (n : ℕ). count n view) (sym left_is) ∙ ap (count (left_at (game_of rule s t).left leaf)) here.view_is

    -- what the game has behind the leaf is counted from the root
    pub behind-fits : s.attacked + threat_tree rule (note_at s.notes.items leaf).left view ≤ 1 + threat_tree rule s.depth s.root
    behind-fits =
        let g : GameTree = game_of rule s t in
        let low = sum-one (length t.links) (behind_at attacks_behind g) leaf here.in_tree in
        let first : left_at g.left 0 ≡ s.depth = get_or-map (λ (n : Note). n.left) s.notes.items 0 no_note 0
        (let l = leaf-noted stands in omega (arith, l)) ∙ here.searching.depth in
        let root_is = ap (λ (n : ℕ). threat_tree rule n s.root) first in
        omega (arith, low, own-behind attacks_behind, at-view (threat_tree rule), root_is, here.searching.counted.attacks)

    own-unwritten : (f : ℕ → ℕ) → unwritten f t s.notes.items leaf ≡ f leaf
    own-unwritten f = search (rules, eq-eqb)

    -- a node for the leaf is not in the compiler yet
    node-fits : length c + 1 ≤ s.before + s.attacked
    node-fits =
        let low = sum-one (length t.links) (unwritten (λ i. 1) t s.notes.items) leaf here.in_tree in
        omega (arith, own-unwritten (λ i. 1), low, here.searching.few)

    -- nor are those for the won positions from it on
    wins-fit : length c + threat_wins rule (note_at s.notes.items leaf).left view ≤ s.before + threat_wins rule s.depth s.root
    wins-fit =
        let g : GameTree = game_of rule s t in
        let own = sum-one (length t.links) (unwritten (won_at g) t s.notes.items) leaf here.in_tree in
        let behind = sum-one (length t.links) (behind_at wins_behind g) leaf here.in_tree in
        omega (arith, own-unwritten (won_at g), own, own-behind wins_behind, behind, at-view (threat_wins rule), here.searching.wins)

    pub double-fits : (d : DoublePoint) → IsDoubleWin rule view d
        → 1 + answer_nodes rule view d ≤ threat_tree rule (note_at s.notes.items leaf).left view
    double-fits d wins = search (rules, counted-within, leaf-lawful, attack-no_five, attack-moves)

    -- where the budget does not reach, the game has more positions
    pub spent-there : (d : DoublePoint) → IsDoubleWin rule view d → s.budget < s.attacked + answer_nodes rule view d
        → HasSpent rule s s t t c leaf
    spent-there d wins over = record {
      searching = here.searching;
      spent = (let a = behind-fits in let few = double-fits d wins in omega (arith, a, over, few));
      ran_out = runs-out stands Attack attack (inl (d, wins, over));
      same = refl;
      keeps = keeps-all s;
    }

    -- no more nodes are needed than positions are won
    pub double-won : (d : DoublePoint) → IsDoubleWin rule view d
        → 1 + answer_nodes rule view d ≤ threat_wins rule (note_at s.notes.items leaf).left view
    double-won d wins = search (rules, double-wins, leaf-lawful, attack-no_five, attack-moves)

    pub last-won : (p : Point) → is_last_move rule view p ≡ true → 1 ≤ threat_wins rule (note_at s.notes.items leaf).left view
    last-won p last = let two = attack-moves stands attack in
        last-counts rule (note_at s.notes.items leaf).left view p last (omega (arith, two))

    -- there is room for a win, where so many more positions are counted for it
    room-there : (added : ℕ) → s.attacked + added ≤ s.budget → 1 + added ≤ threat_wins rule (note_at s.notes.items leaf).left view
        → 1 + added ≤ room_in (most_nodes rule s) c
    unfolding room_in most_nodes
    room-there added fits won = omega (arith, wins-fit, node-fits, fits, won)

    -- for one by a double point
    pub double-room : (w : Grid) (d : DoublePoint) (nodes : ℕ) → w ≡ view → nodes ≡ answer_nodes rule view d → IsDoubleWin rule view d
        → s.attacked + nodes ≤ s.budget → 1 + answer_nodes rule w d ≤ room_in (most_nodes rule s) c
    double-room w d nodes same are wins fits =
        let few = double-won d wins in
        let moved : answer_nodes rule w d ≡ answer_nodes rule view d = ap (λ (b : Grid). answer_nodes rule b d) same in
        let room = room-there nodes fits (omega (arith, few, are)) in
        omega (arith, room, moved, are)

    -- and for one by a last move
    pub last-room : (p : Point) → is_last_move rule view p ≡ true → 1 ≤ room_in (most_nodes rule s) c
    last-room p last =
        let fits = here.searching.counted.attacked_fits in
        let some = last-won p last in
        let room = room-there 0 (omega (arith, fits)) (omega (arith, some)) in
        omega (arith, room)

    pub win-few : (d : List Node) (win : WrittenWin) → IsThreatWin rule (note_at s.notes.items leaf).left view d win → win.moves < 256
    win-few d win is = let a = left-few stands in let b = is.written.within in omega (arith, a, b)

    -- the leaf is settled by a win that is compiled, and so many more positions are counted
    module _ (added : ℕ) (fits : s.attacked + added ≤ s.budget) (two : added ≤ 2)
        (few : 1 + added ≤ threat_tree rule (note_at s.notes.items leaf).left view)
        (won : 1 + added ≤ threat_wins rule (note_at s.notes.items leaf).left view)
        (u : Tree) (st : IsSettledAt t u leaf true) (v : Search)
        (rest : v ≡ record s { notes = v.notes; attacked = s.attacked + added }) (d : List Node) (grown : GrowsBy c d (1 + added))
        (compiled : IsCompiled d) (win : WrittenWin) (items : v.notes.items ≡ noted_won s.notes.items leaf win)
        (is : IsThreatWin rule (note_at s.notes.items leaf).left view d win) where
      pub counted-step : Grows rule s v t u d leaf
      counted-step =
          let count : v.attacked ≡ s.attacked + added = ap (λ (w : Search). w.attacked) rest in
          let long = grown.few in
          won-step stands attack u st v grown.added
          (rest ∙ ap (λ (w : Search). record s { board = w.board; notes = v.notes; settled = w.settled; attacked = w.attacked }) (sym rest))
          (ap (λ (w : Search). w.board) rest) d grown.is compiled win items (is.written, is.by_threats)
          (omega (arith, count)) (omega (arith, count, fits)) (omega (arith, count, two)) (omega (arith, count, few))
          (omega (arith, count, long)) (omega (arith, long, won))
          (rw rest here.searching.remembered)

-- what was tried on a board that is that of the search
pub tried-on-board : {rule : RuleKind} {s v : Search} {t u : Tree} {c d : List Node} {leaf : ℕ} {r : Result Step SearchError} {b : Grid}
    → b ≡ s.board → IsTried rule (record s { board = b }) v t u c d leaf r → IsTried rule s v t u c d leaf r
tried-on-board {rule = rule} {s = s} {v = v} {t = t} {u = u} {c = c} {d = d} {leaf = leaf} {r = r} same tried = search rules
