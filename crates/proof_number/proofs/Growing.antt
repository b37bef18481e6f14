-- A step that settles the leaf: all holds again but on the way up from it.
use Rattle.std.proofs.Common.{◌≡◌, ◌≢◌, ◌⊎◌, inl, inr, ℕ, ◌+◌, ◌<◌, ◌≤◌, Bool, true, false, refl, sym, ap, rules}
use Rattle.std.proofs.Common.{◌∙◌, arith, List, [], ◌++◌, length, ◌*◌}
use Rattle.std.proofs.lemmas.Bool.{cases_eq, cases_lt}
use Rattle.std.proofs.lemmas.List.{get_or-set_same, append-nil, get_or-set_other, length-append, length-map}
use Rattle.proof_number.proofs.Common.{Grid, WinsByThreats, RuleKind, Node, WrittenWin, IsCompiled, IsWrittenWin, settled_numbers}
use Rattle.proof_number.proofs.Common.{IsOnWayUp, Tree, link_at, Kind, Attack, Note, Search, no_note, note_at, win_of, GameTree, TellsTruly}
use Rattle.proof_number.proofs.Common.{WinsAt, board_at, left_at, noted_tree, IsLostAt, IsTrueMemo, HasGrown, IsAtLeaf, IsNotedWin}
use Rattle.proof_number.proofs.Common.{IsSearching, IsSettledAt, attacks_behind, game_of, noted_won, sum_below, unwritten, behind_leaves}
use Rattle.proof_number.proofs.Common.{IsBare, threat_wins, wins_behind, won_at}
use Rattle.strategy_graph.proofs.Filling.{IsTable-lower}
use Rattle.threat_game.proofs.TreeLaws.{one_where}
use Rattle.proof_number.proofs.Compiling.{won-places}
use Rattle.proof_tree.proofs.OpenWays.{alive-open}
use Rattle.proof_tree.proofs.Settled.{settled-test}
use Rattle.proof_number.proofs.Common.{HasSpare, is_settled, leaf_sum, numbers_at, one_more}
use Rattle.proof_tree.proofs.Common.{sought}
use Rattle.proof_number.proofs.Sparing.{open-counts, sought-more, spare-less}
use Rattle.proof_number.proofs.Remembering.{memo-kept}
use Rattle.proof_number.proofs.Settling.{closed-settled, counted-settled, disproved-settled, game-settled, written-grown, written-settled}
use Rattle.proof_number.proofs.Settling.{behind-settled, unproved-settled, unwritten-less}

-- the search s at its leaf, and v after the leaf is settled in the tree u; c grows by more nodes
module _ {rule : RuleKind} {s : Search} {t : Tree} {c : List Node} {leaf : ℕ} {view : Grid} (h : IsAtLeaf rule s t c leaf view) {u : Tree}
    {p : Bool} (st : IsSettledAt t u leaf p)
    (v : Search) (more : List Node) (rest : v ≡ record s { board = v.board; notes = v.notes; settled = v.settled; attacked = v.attacked })
    (same_board : v.board ≡ s.board)
    (compiled : IsCompiled (c ++ more)) (table : IsTrueMemo rule (c ++ more) (game_of rule s t) v.settled)
    (truth : TellsTruly (settled_numbers p)
    (WinsAt (link_at t.links leaf).kind rule (left_at (game_of rule s t).left leaf) (board_at (game_of rule s t) leaf)))
    (why : p ≡ false → IsLostAt (link_at t.links leaf).kind (game_of rule s t) (left_at (game_of rule s t).left leaf)
    (board_at (game_of rule s t) leaf))
    (bare : p ≡ false → leaf ≡ 0 → IsBare rule (left_at (game_of rule s t).left 0) s.root)
    (grows : s.attacked ≤ v.attacked) (fits : v.attacked ≤ s.budget) (two : v.attacked ≤ s.attacked + 2 * one_where p)
    (behind : v.attacked ≤ s.attacked + attacks_behind (link_at t.links leaf).kind rule (left_at (game_of rule s t).left leaf)
    (board_at (game_of rule s t) leaf))
    (places : (w : Tree) → noted_tree rule s.root w v.notes.items ≡ game_of rule s w)
    (depth : (note_at v.notes.items 0).left ≡ (note_at s.notes.items 0).left)
    (other_notes : (i : ℕ) → i ≢ leaf → note_at v.notes.items i ≡ note_at s.notes.items i)
    (own : 0 < (note_at v.notes.items leaf).moves → IsNotedWin rule (left_at (game_of rule s t).left leaf)
    (board_at (game_of rule s t) leaf) (c ++ more) (win_of (note_at v.notes.items leaf)))
    (has : p ≡ true → ((link_at t.links leaf).kind ≡ Attack) × (0 < (note_at v.notes.items leaf).moves))
    (few : length (c ++ more) + sum_below (length t.links) (unwritten (λ i. 1) t v.notes.items) ≤ s.before + v.attacked)
    (wins : length (c ++ more) + sum_below (length t.links) (unwritten (won_at (game_of rule s t)) t v.notes.items)
    + behind_leaves wins_behind (game_of rule s t) ≤ s.before + threat_wins rule s.depth s.root
    + wins_behind (link_at t.links leaf).kind rule (left_at (game_of rule s t).left leaf) (board_at (game_of rule s t) leaf)) where
  same-tree : u ≡ record { links = t.links; numbers = u.numbers }
  same-tree = λ i. record { links = st.links i; numbers = u.numbers }

  -- the number of the leaf before is one more to spare
  spare-grown : HasSpare (record { links = t.links; numbers = u.numbers }) (one_more s.spare)
  spare-grown = record {
    fits = λ kind. by_size kind (cases_lt 1 (length t.links));
    leaves = with_more;
    lone = λ kind one unsettled.
        let inside = h.in_tree in
        let root : leaf ≡ 0 = omega (arith, one, inside) in
        let bad : true ≡ false = sym (ap is_settled st.settled ∙ settled-test p) ∙ ap (λ (i : ℕ). is_settled (numbers_at u.numbers i)) root
        ∙ unsettled in cc;
  } where
    with_more : (kind : Kind) → 1 < length t.links
        → leaf_sum kind t.links u.numbers + sought kind (one_more s.spare) ≤ length t.links
    with_more kind many =
        let before = h.searching.spare.leaves kind many in
        let less = rw st.links at (st.leaves kind) in
        let some = open-counts kind (numbers_at t.numbers leaf) (alive-open t h.searching.tree leaf h.in_tree h.alive leaf (0, refl)) in
        let more_spare = sought-more kind s.spare in
        omega (arith, before, less, some, more_spare)

    by_size : (kind : Kind) → (1 < length t.links) ⊎ (length t.links ≤ 1) → sought kind (one_more s.spare) ≤ length t.links
    by_size kind (inl many) = let fits = with_more kind many in omega (arith, fits)
    by_size kind (inr few) =
        let inside = h.in_tree in
        let single : length t.links ≡ 1 = omega (arith, few, inside) in
        let none = h.searching.spare.lone kind single h.root_open in
        let more_spare = sought-more kind s.spare in
        omega (arith, none, more_spare, single)

  spare-kept : HasSpare (record { links = t.links; numbers = u.numbers }) s.spare
  spare-kept = spare-less _ s.spare spare-grown

  searching-now : IsSearching rule (record s { board = v.board; notes = v.notes; settled = v.settled; attacked = v.attacked })
      (record { links = t.links; numbers = u.numbers }) (c ++ more) (IsOnWayUp t.links leaf)
  searching-now =
      let k = h.searching in
      let g : GameTree = game_of rule s t in
      let to = places (record { links = t.links; numbers = u.numbers }) in
      record {
        tree = rw same-tree at st.tree;
        game = rw to (game-settled g k.tree u.numbers leaf p h.in_tree h.childless h.leaf_open st.settled st.others h.root_open h.alive
            k.game truth why bare);
        depth = depth ∙ k.depth;
        depth_fits = k.depth_fits;
        budget_fits = k.budget_fits;
        written = rw to (written-settled g k.tree u.numbers leaf p h.in_tree h.childless h.leaf_open st.settled st.others s.notes.items
            v.notes.items (c ++ more) (written-grown g s.notes.items c more (λ i. ⊥) (IsTable-lower c k.compiled.table) k.written)
            other_notes own has);
        remembered = rw to (memo-kept g (game_of rule s (record { links = t.links; numbers = u.numbers })) refl
            (disproved-settled g k.tree u.numbers leaf p h.in_tree h.childless h.leaf_open st.settled st.others h.alive) rule
            (c ++ more) v.settled table);
        counted = rw to (counted-settled g k.tree u.numbers leaf p h.in_tree h.childless h.leaf_open st.settled st.others s.budget
            s.attacked s.defended v.attacked k.counted grows fits behind
            (let less = unproved-settled g k.tree u.numbers leaf p h.in_tree h.childless h.leaf_open st.settled st.others
            h.alive (λ e. (has e).0) in omega (arith, less, two))
            (λ kind. let less = rw st.links at (st.leaves kind) in omega (arith, less)));
        spare = spare-kept;
        compiled = compiled;
        few = few;
        wins = rw to (let less = behind-settled g k.tree u.numbers leaf p h.in_tree h.childless h.leaf_open st.settled st.others
            wins_behind in omega (arith, less, wins));
      }

  pub settled-grown : HasGrown rule s v t u (c ++ more) leaf
  settled-grown = record {
    searching = rw rest (rw same-tree searching-now);
    in_tree = rw same-tree h.in_tree;
    aim = record {
      depth = ap (λ (w : Search). w.depth) rest;
      budget = ap (λ (w : Search). w.budget) rest;
      before = ap (λ (w : Search). w.before) rest;
      root = ap (λ (w : Search). w.root) rest;
    };
    board = same_board;
    place =
        ap (λ (w : Search). board_at (game_of rule w u) leaf) rest ∙ ap (λ (w : GameTree). board_at w leaf) (places u)
        ∙ ap (λ (w : Tree). board_at (game_of rule s w) leaf) same-tree;
    progress = rw same-tree
        (let more_closed = closed-settled (game_of rule s t) h.searching.tree u.numbers leaf p h.in_tree h.childless h.leaf_open st.settled
        st.others in omega (arith, more_closed));
    longer = rw same-tree (omega arith);
    spare = rw rest (rw same-tree spare-grown);
  }

tells-won : (W : Type 0) → W → TellsTruly (settled_numbers true) W
tells-won W w = search rules

tells-lost : (W : Type 0) → (W → ⊥) → TellsTruly (settled_numbers false) W
tells-lost W lost = search rules

-- an attacker's leaf is settled as won
module _ {rule : RuleKind} {s : Search} {t : Tree} {c : List Node} {leaf : ℕ} {view : Grid} (h : IsAtLeaf rule s t c leaf view)
    (attack : (link_at t.links leaf).kind ≡ Attack) {u : Tree} (st : IsSettledAt t u leaf true)
    (v : Search) (more : List Node) (rest : v ≡ record s { board = v.board; notes = v.notes; settled = v.settled; attacked = v.attacked })
    (same_board : v.board ≡ s.board)
    (compiled : IsCompiled (c ++ more)) (table : IsTrueMemo rule (c ++ more) (game_of rule s t) v.settled) (win : WrittenWin)
    (items : v.notes.items ≡ noted_won s.notes.items leaf win) (some : 0 < win.moves)
    (written : IsWrittenWin rule (left_at (game_of rule s t).left leaf) (board_at (game_of rule s t) leaf) (c ++ more) win)
    (wins : WinsByThreats rule (left_at (game_of rule s t).left leaf) (board_at (game_of rule s t) leaf))
    (grows : s.attacked ≤ v.attacked) (fits : v.attacked ≤ s.budget)
    (two : v.attacked ≤ s.attacked + 2)
    (behind : v.attacked ≤ s.attacked + attacks_behind Attack rule (left_at (game_of rule s t).left leaf)
    (board_at (game_of rule s t) leaf))
    (short : s.attacked + length more ≤ v.attacked + 1)
    (won : length more ≤ threat_wins rule (left_at (game_of rule s t).left leaf) (board_at (game_of rule s t) leaf)) where
  long : length s.notes.items ≡ length t.links
  long = sym (length-map s.notes.items (λ (n : Note). n.at)) ∙ h.searching.game.moves

  here : note_at v.notes.items leaf ≡ record (note_at s.notes.items leaf) { moves = win.moves; node = win.node }
  here = ap (λ (l : List Note). note_at l leaf) items
      ∙ get_or-set_same s.notes.items leaf (record (note_at s.notes.items leaf) { moves = win.moves; node = win.node }) no_note
      (let e = long in let low = h.in_tree in omega (arith, e, low))

  other-note : (i : ℕ) → i ≢ leaf → note_at v.notes.items i ≡ note_at s.notes.items i
  other-note i other = search (rules, get_or-set_other)

  same-left : (i : ℕ) → (note_at v.notes.items i).left ≡ (note_at s.notes.items i).left
  same-left i = elim (cases_eq i leaf) [
    | inl e ↦ ap (λ (k : ℕ). (note_at v.notes.items k).left) e ∙ ap (λ (n : Note). n.left) here
        ∙ ap (λ (k : ℕ). (note_at s.notes.items k).left) (sym e)
    | inr n ↦ ap (λ (n : Note). n.left) (other-note i n)
  ]

  now-some : 0 < (note_at v.notes.items leaf).moves
  now-some = rw here some

  less : (f : ℕ → ℕ) → sum_below (length t.links) (unwritten f t v.notes.items) + f leaf
      ≤ sum_below (length t.links) (unwritten f t s.notes.items)
  less f = unwritten-less f t s.notes.items v.notes.items leaf h.in_tree attack
      (h.searching.written.fresh leaf h.in_tree h.childless h.leaf_open) now-some other-note

  now-few : length (c ++ more) + sum_below (length t.links) (unwritten (λ i. 1) t v.notes.items) ≤ s.before + v.attacked
  now-few = omega (arith, less (λ i. 1), length-append c more, short, h.searching.few)

  now-wins : length (c ++ more) + sum_below (length t.links) (unwritten (won_at (game_of rule s t)) t v.notes.items)
      + behind_leaves wins_behind (game_of rule s t) ≤ s.before + threat_wins rule s.depth s.root
      + wins_behind (link_at t.links leaf).kind rule (left_at (game_of rule s t).left leaf) (board_at (game_of rule s t) leaf)
  now-wins =
      let g : GameTree = game_of rule s t in
      let there = ap (λ (k : Kind). wins_behind k rule (left_at g.left leaf) (board_at g leaf)) attack in
      omega (arith, less (won_at g), length-append c more, won, there, h.searching.wins)

  pub won-grown : HasGrown rule s v t u (c ++ more) leaf
  won-grown =
      settled-grown h st v more rest same_board compiled table
      (tells-won (WinsAt (link_at t.links leaf).kind rule (left_at (game_of rule s t).left leaf) (board_at (game_of rule s t) leaf))
      (rw attack wins))
      (λ e. absurd (let bad : true ≡ false = e in cc)) (λ e. absurd (let bad : true ≡ false = e in cc)) grows fits two
      (rw attack behind)
      (λ w. won-places rule s w v.notes.items leaf win items) (same-left 0) other-note
      (λ positive. rw here (written, wins))
      (λ e. (attack, now-some)) now-few now-wins

-- a leaf is settled as lost
module _ {rule : RuleKind} {s : Search} {t : Tree} {c : List Node} {leaf : ℕ} {view : Grid} (h : IsAtLeaf rule s t c leaf view) {u : Tree}
    (st : IsSettledAt t u leaf false)
    (v : Search) (rest : v ≡ record s { board = v.board; settled = v.settled }) (same_board : v.board ≡ s.board)
    (table : IsTrueMemo rule c (game_of rule s t) v.settled)
    (lost : WinsAt (link_at t.links leaf).kind rule (left_at (game_of rule s t).left leaf) (board_at (game_of rule s t) leaf) → ⊥)
    (why : IsLostAt (link_at t.links leaf).kind (game_of rule s t) (left_at (game_of rule s t).left leaf)
    (board_at (game_of rule s t) leaf)) (bare : leaf ≡ 0 → IsBare rule (left_at (game_of rule s t).left 0) s.root) where
  pub lost-grown : HasGrown rule s v t u c leaf
  lost-grown =
      let k = h.searching in
      let w : Search = record s { board = v.board; settled = v.settled } in
      let nil : c ++ [] ≡ c = append-nil c in
      rw rest (rw nil at
      (settled-grown h st (record s { board = v.board; settled = v.settled }) [] refl same_board (rw nil k.compiled)
      (rw nil table)
      (tells-lost (WinsAt (link_at t.links leaf).kind rule (left_at (game_of rule s t).left leaf) (board_at (game_of rule s t) leaf))
      lost) (λ e. why) (λ e. bare) (omega arith) k.counted.attacked_fits (omega arith) (omega arith) (λ x. refl) refl (λ i other. refl)
      (λ positive. rw nil (k.written.true_wins leaf h.in_tree positive)) (λ e. cc) (rw nil k.few)
      (let same = ap length nil in let few = k.wins in omega (arith, same, few))))
