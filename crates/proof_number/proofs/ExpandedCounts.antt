-- What is noted, written and counted where a leaf is given children: all holds again but on the way up from it; and bounds of a step that
-- gives the leaf children of which nothing is known, or that are proved.
use Rattle.std.proofs.Common.{◌≡◌, ◌≢◌, ◌⊎◌, inl, inr, ℕ, ◌+◌, ◌<◌, ◌≤◌, true, false, cond, not, ◌&&◌}
use Rattle.std.proofs.Common.{refl, sym, ap, subst, ◌∙◌, arith, List, ◌++◌, length, nat_eq, map, zero, suc, All, ◌*◌, rules}
use Rattle.std.proofs.lemmas.Bool.{cases_eq, cases_lt, eq-eqb}
use Rattle.std.proofs.lemmas.List.{get_or-append-add, get_or_append_left, length-append, get_or-map, length-map, map-append}
use Rattle.proof_number.proofs.Common.{GoesOn, RuleKind, Point, Grid, outcome, after, Kind, Link, Numbers, Attack, Defend, is_settled}
use Rattle.proof_number.proofs.Common.{other_kind, Tree, link_at, numbers_at, settled_numbers, IsOnWayUp, leaf_sum, Node, IsCompiled}
use Rattle.proof_number.proofs.Common.{move_at, nowhere, threat_tree, one_if, Note, Search, GameTree, HasTried, among, board_at}
use Rattle.proof_number.proofs.Common.{left_at, moves_of, behind_at, sum_below, no_note, note_at, win_of, noted_tree, IsTrueMemo}
use Rattle.proof_number.proofs.Common.{AreWritten, HasGrown, IsAtLeaf, IsCounted, IsExpandedAt, IsMet, IsNotedWin, IsSearching}
use Rattle.proof_number.proofs.Common.{attacks_behind, defences_behind, game_of, is_attack, unwritten, StandsAt, attack_nodes}
use Rattle.proof_number.proofs.Common.{unproved, wins_behind, won_at, wins_by_threats}
use Rattle.proof_tree.specs.declared.TheConstants.{INFINITE}
use Rattle.proof_tree.proofs.Common.{finite, finite_sum, sought, grown_links}
use Rattle.proof_tree.proofs.Changed.{IsGrown, grown}
use Rattle.proof_tree.proofs.SumLaws.{leaf_sum-grown, one-leaf, IsFresh, fresh-sum}
use Rattle.strategy_graph.proofs.Filling.{IsTable-lower}
use Rattle.threat_game.proofs.TreeLaws.{one_where}
use Rattle.proof_number.proofs.Opening.{leaf-facts}
use Rattle.proof_number.proofs.Remembering.{memo-kept}
use Rattle.proof_number.proofs.Settling.{written-grown, unproved-less}
use Rattle.proof_number.proofs.Sums.{sum-le, sum-more, sum-suc, sum-zero, sum-same}
use Rattle.proof_number.proofs.Expanding.{IsExpansion, IsNewChild, behind-grown, child-behind, child-counts, closed-grown, disproved-grown}
use Rattle.proof_number.proofs.Expanding.{game-grown, grown-moves, new-board, new-kind, new-left, old-board, old-kind, old-left}
use Rattle.proof_number.proofs.Expanding.{old-moves_of, old-numbers, split, old-parent}
use Rattle.proof_number.proofs.Staying.{expanded-proved}
use Rattle.proof_tree.proofs.OpenWays.{alive-open}
use Rattle.proof_number.proofs.Common.{HasSpare, one_more}
use Rattle.proof_number.proofs.Sparing.{open-counts, sought-more, spare-less}

-- what is noted of a new child of this kind: a win that is written, where it is proved, and none where it is open
pub record IsNewNote (rule : RuleKind) (kind : Kind) (b : Grid) (c : List Node) (note : Note) (numbers : Numbers) : Type 0 where
  pub true_win : 0 < note.moves → IsNotedWin rule note.left (after b note.at) c (win_of note)
  pub fresh : is_settled numbers ≡ false → note.moves ≡ 0
  pub proved : numbers ≡ settled_numbers true → (other_kind kind ≡ Attack) × (0 < note.moves)

-- 1 for a child of the attacker without a win
abbrev pub unwritten_child : Kind → Note → ℕ
unwritten_child kind note = one_where (is_attack (other_kind kind) && nat_eq note.moves 0)

-- 1 for a child of the attacker without a win, if it is won, where it has this note and its parent this board
abbrev pub unwritten_win : RuleKind → Kind → Grid → Note → ℕ
unwritten_win rule kind b note =
    cond (is_attack (other_kind kind) && nat_eq note.moves 0) (one_if (wins_by_threats rule note.left (after b note.at))) 0

-- 1 for a child of the attacker that is not proved
abbrev pub unproved_child : Kind → Numbers → ℕ
unproved_child kind numbers = one_where (is_attack (other_kind kind) && not (nat_eq numbers.proof 0))

-- what is counted behind a new child of a leaf of this kind, if it is open
abbrev pub new_behind : (Kind → RuleKind → ℕ → Grid → ℕ) → RuleKind → Kind → Grid → Note → Numbers → ℕ
new_behind f rule kind b note numbers = cond (not (is_settled numbers)) (f (other_kind kind) rule note.left (after b note.at)) 0

-- A leaf of a search gets children: s stands at its leaf, and v is the search after it, where the tree is u and the compiler has more
-- nodes. The children have these numbers and notes. What they stand for, what is noted of them, and what is counted for them is so.
pub record Expansion (rule : RuleKind) (s v : Search) (t u : Tree) (c nodes : List Node) (leaf : ℕ) (view : Grid) (more : List Numbers)
    (ms : List Note) : Type 0 where
  pub at_leaf : IsAtLeaf rule s t c leaf view
  pub expanded : IsExpandedAt t u leaf more
  pub rest : v ≡ record s { board = v.board; notes = v.notes; settled = v.settled; attacked = v.attacked; defended = v.defended }
  pub same_board : v.board ≡ s.board
  pub compiled : IsCompiled (c ++ nodes)
  pub table : IsTrueMemo rule (c ++ nodes) (game_of rule s t) v.settled
  pub items : v.notes.items ≡ s.notes.items ++ ms
  pub many : length ms ≡ length more
  pub some : 0 < length more
  pub tried : HasTried (link_at t.links leaf).kind rule (left_at (game_of rule s t).left leaf) (board_at (game_of rule s t) leaf)
      (map (λ n. n.at) ms)
  pub each : (j : ℕ) → j < length more → IsNewChild rule (link_at t.links leaf).kind (left_at (game_of rule s t).left leaf)
      (board_at (game_of rule s t) leaf) (note_at ms j).at (note_at ms j).left (numbers_at more j)
  pub noted : (j : ℕ) → j < length more → IsNewNote rule (link_at t.links leaf).kind (board_at (game_of rule s t) leaf) (c ++ nodes)
      (note_at ms j) (numbers_at more j)
  pub attacked_more : s.attacked ≤ v.attacked
  pub defended_more : s.defended ≤ v.defended
  pub attacked_fits : v.attacked ≤ s.budget
  pub defended_fits : v.defended ≤ s.budget
  pub low : (kind : Kind) → finite_sum (map (sought kind) more) ≤ length more
  pub met : (link_at t.links leaf).kind ≡ Defend → (q : Point) → outcome rule (board_at (game_of rule s t) leaf) q ≡ GoesOn
      → among (map (λ n. n.at) ms) q ≡ false → (0 < (note_at ms 0).moves)
      × IsNotedWin rule (left_at (game_of rule s t).left leaf) (after (board_at (game_of rule s t) leaf) q) (c ++ nodes)
      (win_of (note_at ms 0))
  pub short : s.attacked + length nodes + sum_below (length more) (λ j. unwritten_child (link_at t.links leaf).kind (note_at ms j))
      ≤ v.attacked
  pub attackers_counted : s.attacked + sum_below (length more) (λ j. cond (is_attack (other_kind (link_at t.links leaf).kind)) 1 0)
      ≤ v.attacked
  pub few_counted : v.attacked + 2 * sum_below (length more) (λ j. unproved_child (link_at t.links leaf).kind (numbers_at more j))
      ≤ s.attacked + 3 * sum_below (length more) (λ j. cond (is_attack (other_kind (link_at t.links leaf).kind)) 1 0)
  pub defenders_counted : v.defended + sum_below (length more) (λ j. cond (is_attack (other_kind (link_at t.links leaf).kind)) 1 0)
      ≡ s.defended + length more
  pub attacks_counted : v.attacked + sum_below (length more)
      (λ j. new_behind attacks_behind rule (link_at t.links leaf).kind (board_at (game_of rule s t) leaf) (note_at ms j)
      (numbers_at more j)) ≤ s.attacked + attacks_behind (link_at t.links leaf).kind rule (left_at (game_of rule s t).left leaf)
      (board_at (game_of rule s t) leaf)
  pub defences_counted : v.defended + sum_below (length more)
      (λ j. new_behind defences_behind rule (link_at t.links leaf).kind (board_at (game_of rule s t) leaf) (note_at ms j)
      (numbers_at more j)) ≤ s.defended + defences_behind (link_at t.links leaf).kind rule (left_at (game_of rule s t).left leaf)
      (board_at (game_of rule s t) leaf)
  pub wins_counted : length nodes + sum_below (length more)
      (λ j. unwritten_win rule (link_at t.links leaf).kind (board_at (game_of rule s t) leaf) (note_at ms j)) + sum_below (length more)
      (λ j. new_behind wins_behind rule (link_at t.links leaf).kind (board_at (game_of rule s t) leaf) (note_at ms j) (numbers_at more j))
      ≤ wins_behind (link_at t.links leaf).kind rule (left_at (game_of rule s t).left leaf) (board_at (game_of rule s t) leaf)

-- a leaf that gets children leaves its own number to spare
grown-spare : {rule : RuleKind} {s : Search} {t : Tree} {c : List Node} {leaf : ℕ} {view : Grid} → IsAtLeaf rule s t c leaf view
    → (kind : Kind) (more : List Numbers) → 0 < length more → finite_sum (map (sought kind) more) ≤ length more
    → leaf_sum kind (grown_links t.links leaf (length more)) (t.numbers ++ more) + sought kind (one_more s.spare)
    ≤ length t.links + length more
grown-spare {s = s} {t = t} {leaf = leaf} h kind more some low =
    let grown = leaf_sum-grown kind t.links t.numbers more leaf h.searching.tree.numbered.count h.in_tree h.childless some in
    let counts = open-counts kind (numbers_at t.numbers leaf) (alive-open t h.searching.tree leaf h.in_tree h.alive leaf (0, refl)) in
    let more_spare = sought-more kind s.spare in
    by_size (cases_lt 1 (length t.links)) grown counts more_spare where
      by_size : (1 < length t.links) ⊎ (length t.links ≤ 1)
          → leaf_sum kind (grown_links t.links leaf (length more)) (t.numbers ++ more) + finite (sought kind (numbers_at t.numbers leaf))
          ≡ leaf_sum kind t.links t.numbers + finite_sum (map (sought kind) more)
          → 1 ≤ finite (sought kind (numbers_at t.numbers leaf)) → sought kind (one_more s.spare) ≡ sought kind s.spare + 1
          → leaf_sum kind (grown_links t.links leaf (length more)) (t.numbers ++ more) + sought kind (one_more s.spare)
          ≤ length t.links + length more
      by_size (inl several) grown counts more_spare =
          let before = h.searching.spare.leaves kind several in omega (arith, grown, low, before, counts, more_spare)
      by_size (inr one) grown counts more_spare =
          let inside = h.in_tree in
          let single : length t.links ≡ 1 = omega (arith, one, inside) in
          let root : leaf ≡ 0 = omega (arith, one, inside) in
          let alone = one-leaf kind t.links t.numbers single (h.searching.tree.numbered.count ∙ single)
          (ap (λ (m : ℕ). (link_at t.links m).count) (sym root) ∙ h.childless) in
          let same = ap (λ (m : ℕ). finite (sought kind (numbers_at t.numbers m))) root in
          let none = h.searching.spare.lone kind single h.root_open in
          omega (arith, grown, low, alone, same, none, more_spare)

module _ {rule : RuleKind} {s v : Search} {t u : Tree} {c nodes : List Node} {leaf : ℕ} {view : Grid} {more : List Numbers} {ms : List Note}
    (x : Expansion rule s v t u c nodes leaf view more ms) where
  open x use {
    at_leaf as h,
    expanded as e,
    rest,
    same_board,
    compiled,
    table,
    items,
    many,
    some,
    tried,
    each,
    noted,
    attacked_more,
    defended_more,
    attacked_fits,
    defended_fits,
    low,
    met,
    short,
    attackers_counted,
    few_counted,
    defenders_counted,
    attacks_counted,
    defences_counted,
    wins_counted,
  }

  pub long : IsGrown t.links leaf (length more) u.links
  long = rw e.links (grown t.links leaf (length more) h.in_tree)

  pub points : length (map (λ (n : Note). n.at) ms) ≡ length more
  points = length-map ms (λ (n : Note). n.at) ∙ many

  pub lefts : length (map (λ (n : Note). n.left) ms) ≡ length more
  lefts = length-map ms (λ (n : Note). n.left) ∙ many

  at-move : (j : ℕ) → j < length more → move_at (map (λ (n : Note). n.at) ms) j ≡ (note_at ms j).at
  at-move j l = get_or-map (λ (n : Note). n.at) ms j no_note nowhere (omega (arith, many, l))

  at-left : (j : ℕ) → j < length more → left_at (map (λ (n : Note). n.left) ms) j ≡ (note_at ms j).left
  at-left j l = get_or-map (λ (n : Note). n.left) ms j no_note 0 (omega (arith, many, l))

  pub each-child : (j : ℕ) → j < length more → IsNewChild rule (link_at t.links leaf).kind
      (left_at (map (λ (n : Note). n.left) s.notes.items) leaf) (board_at (game_of rule s t) leaf) (move_at (map (λ (n : Note). n.at) ms) j)
      (left_at (map (λ (n : Note). n.left) ms) j) (numbers_at more j)
  each-child j l = rw (at-move j l) (rw (at-left j l) (each j l))

  expansion : IsExpansion (game_of rule s t) leaf u.links u.numbers more (map (λ (n : Note). n.at) ms) (map (λ (n : Note). n.left) ms)
  expansion = record {
    ok = h.searching.tree;
    game = h.searching.game;
    inside = h.in_tree;
    childless = h.childless;
    unsettled = h.leaf_open;
    some = some;
    points = points;
    lefts = lefts;
    long = long;
    new = e.tree;
    others = e.others;
    children = e.children;
    tried = tried;
    each = each-child;
  }

  -- the game with the children
  abbrev Now : GameTree
  Now = record {
    rule = rule;
    start = s.root;
    tree = record { links = u.links; numbers = u.numbers };
    moves = map (λ (n : Note). n.at) s.notes.items ++ map (λ (n : Note). n.at) ms;
    left = map (λ (n : Note). n.left) s.notes.items ++ map (λ (n : Note). n.left) ms;
  }

  places : (w : Tree) → noted_tree rule s.root w v.notes.items
      ≡ record {
        rule = rule;
        start = s.root;
        tree = w;
        moves = map (λ (n : Note). n.at) s.notes.items ++ map (λ (n : Note). n.at) ms;
        left = map (λ (n : Note). n.left) s.notes.items ++ map (λ (n : Note). n.left) ms;
      }
  places w = search (rules, map-append)

  notes-long : length s.notes.items ≡ length t.links
  notes-long = sym (length-map s.notes.items (λ (n : Note). n.at)) ∙ h.searching.game.moves

  old-note : (i : ℕ) → i < length t.links → note_at v.notes.items i ≡ note_at s.notes.items i
  old-note i l = search (rules, get_or_append_left, notes-long)

  new-note : (j : ℕ) → note_at v.notes.items (length t.links + j) ≡ note_at ms j
  new-note j = search (rules, notes-long, get_or-append-add)

  count-open : (i : ℕ) → i ≡ leaf → (link_at u.links i).count ≡ 0 → ⊥
  count-open i same none =
      let a : (link_at u.links leaf).count ≡ length more = ap (λ (l : Link). l.count) long.here in
      let b = ap (λ (m : ℕ). (link_at u.links m).count) same in
      omega (arith, a, b, none, some)

  old-link : (i : ℕ) → i < length t.links → i ≢ leaf → link_at u.links i ≡ link_at t.links i
  old-link i l other = long.others i l other

  new-link-kind : (j : ℕ) → j < length more → (link_at u.links (length t.links + j)).kind ≡ other_kind (link_at t.links leaf).kind
  new-link-kind j l = new-kind expansion j l

  split-node : (i : ℕ) → i < length u.links → (i < length t.links) ⊎ ((j : ℕ) × (j < length more) × (i ≡ length t.links + j))
  split-node i l = split expansion i l

  old-win : (i : ℕ) → i < length t.links → 0 < (note_at s.notes.items i).moves
      → IsNotedWin rule (left_at Now.left i)
      (board_at Now i) (c ++ nodes)
      (win_of (note_at s.notes.items i))
  old-win i l positive =
      let grown = written-grown (game_of rule s t) s.notes.items c nodes (λ j. ⊥) (IsTable-lower c h.searching.compiled.table)
      h.searching.written in
      rw (old-left expansion i l) (rw (old-board expansion i l) (grown.true_wins i l positive))

  new-win : (j : ℕ) → j < length more → 0 < (note_at ms j).moves
      → IsNotedWin rule (left_at Now.left (length t.links + j))
      (board_at Now (length t.links + j)) (c ++ nodes)
      (win_of (note_at ms j))
  new-win j l positive =
      let there = new-board expansion j l ∙ ap (after (board_at (game_of rule s t) leaf)) (at-move j l) in
      let left : left_at Now.left (length t.links + j) ≡ (note_at ms j).left = new-left expansion j ∙ at-left j l in
      rw left (rw there ((noted j l).true_win positive))

  old-value : (i : ℕ) → i < length t.links → (link_at u.links i).count ≡ 0 → i ≢ leaf → numbers_at u.numbers i ≡ numbers_at t.numbers i
  old-value i l none other = old-numbers expansion i l none other

  here-left : left_at Now.left leaf ≡ left_at (game_of rule s t).left leaf
  here-left = old-left expansion leaf h.in_tree

  here-board : board_at Now leaf ≡ board_at (game_of rule s t) leaf
  here-board = old-board expansion leaf h.in_tree

  here-moves : moves_of (link_at u.links leaf) Now.moves ≡ map (λ (n : Note). n.at) ms
  here-moves = grown-moves expansion

  here-first : note_at v.notes.items (link_at u.links leaf).first ≡ note_at ms 0
  here-first =
      let first : length t.links ≡ length t.links + 0 = omega arith in
      ap (λ (k : Link). note_at v.notes.items k.first) long.here ∙ ap (note_at v.notes.items) first ∙ new-note 0

  leaf-met : (link_at u.links leaf).kind ≡ Defend → (q : Point) → outcome rule (board_at Now leaf) q ≡ GoesOn
      → among (moves_of (link_at u.links leaf) Now.moves) q ≡ false → IsMet Now v.notes.items (c ++ nodes) leaf q
  leaf-met defend q on none =
      let kind : (link_at t.links leaf).kind ≡ Defend = sym (ap (λ (k : Link). k.kind) long.here) ∙ defend in
      let is = met kind q (ap (λ (b : Grid). outcome rule b q) (sym here-board) ∙ on)
      (ap (λ (ps : List Point). among ps q) (sym here-moves) ∙ none) in
      record {
        some = rw here-first is.0;
        win = rw here-first (rw here-board (rw here-left is.1));
      }

  old-met : (i : ℕ) → i < length t.links → i ≢ leaf → (link_at u.links i).kind ≡ Defend → 0 < (link_at u.links i).count → (q : Point)
      → outcome rule (board_at Now i) q ≡ GoesOn
      → among (moves_of (link_at u.links i) Now.moves) q ≡ false → IsMet Now v.notes.items (c ++ nodes) i q
  old-met i old other defend several q on none =
      let same = old-link i old other in
      let count = rw same at several in
      let first : ℕ = (link_at t.links i).first in
      let within = h.searching.tree.linked.within i old in
      let inside : first < length t.links = omega (arith, within, count) in
      let board : board_at Now i ≡ board_at (game_of rule s t) i = old-board expansion i old in
      let left : left_at Now.left i ≡ left_at (game_of rule s t).left i = old-left expansion i old in
      let moves = ap (λ (k : Link). moves_of k Now.moves) same ∙ old-moves_of expansion i old in
      let grown_written = written-grown (game_of rule s t) s.notes.items c nodes (λ j. ⊥) (IsTable-lower c h.searching.compiled.table)
      h.searching.written in
      let is = grown_written.met i old (ap (λ (k : Link). k.kind) (sym same) ∙ defend) count q
      (ap (λ (b : Grid). outcome rule b q) (sym board) ∙ on) (ap (λ (ps : List Point). among ps q) (sym moves) ∙ none) in
      let note = ap (λ (k : Link). note_at v.notes.items k.first) same ∙ old-note first inside in
      record {
        some = rw note is.some;
        win = rw note (rw board (rw left is.win));
      }

  written-now : AreWritten Now v.notes.items (c ++ nodes) (IsOnWayUp u.links leaf)
  written-now = record {
    true_wins = λ i l positive. elim (split-node i l) [
      | inl old ↦
          subst (λ (n : Note). IsNotedWin rule (left_at Now.left i)
          (board_at Now i) (c ++ nodes) (win_of n))
          (sym (old-note i old)) (old-win i old (rw (old-note i old) at positive))
      | inr child ↦
          let here : note_at v.notes.items i ≡ note_at ms child.0 = ap (note_at v.notes.items) child.2 ∙ new-note child.0 in
          subst (λ (n : Note). IsNotedWin rule (left_at Now.left i)
          (board_at Now i) (c ++ nodes) (win_of n))
          (sym here)
          (rw child.2 (new-win child.0 child.1 (rw here at positive)))
    ];
    fresh = λ i l none unsettled. elim (split-node i l) [
      | inl old ↦ elim (cases_eq i leaf) [
        | inl same ↦ absurd (count-open i same none)
        | inr other ↦
            ap (λ (n : Note). n.moves) (old-note i old) ∙ h.searching.written.fresh i old
            (ap (λ (m : Link). m.count) (sym (old-link i old other)) ∙ none)
            (ap is_settled (sym (old-value i old none other)) ∙ unsettled)
      ]
      | inr child ↦
          ap (λ (m : ℕ). (note_at v.notes.items m).moves) child.2 ∙ ap (λ (n : Note). n.moves) (new-note child.0)
          ∙ (noted child.0 child.1).fresh
          (ap is_settled (sym (e.children child.0 child.1)) ∙ ap (λ (m : ℕ). is_settled (numbers_at u.numbers m)) (sym child.2) ∙ unsettled)
    ];
    leaves = λ i l none attack proved. elim (split-node i l) [
      | inl old ↦ elim (cases_eq i leaf) [
        | inl same ↦ absurd (count-open i same none)
        | inr other ↦
            subst (λ (n : Note). 0 < n.moves) (sym (old-note i old))
            (h.searching.written.leaves i old (ap (λ (m : Link). m.count) (sym (old-link i old other)) ∙ none)
            (ap (λ (m : Link). m.kind) (sym (old-link i old other)) ∙ attack) (sym (old-value i old none other) ∙ proved))
      ]
      | inr child ↦
          subst (λ (n : Note). 0 < n.moves) (sym (ap (note_at v.notes.items) child.2 ∙ new-note child.0))
          ((noted child.0 child.1).proved (sym (e.children child.0 child.1) ∙ ap (numbers_at u.numbers) (sym child.2) ∙ proved)).1
    ];
    defends = λ i l none defend proved. elim (split-node i l) [
      | inl old ↦ elim (cases_eq i leaf) [
        | inl same ↦ absurd (count-open i same none)
        | inr other ↦
            h.searching.written.defends i old (ap (λ (m : Link). m.count) (sym (old-link i old other)) ∙ none)
            (ap (λ (m : Link). m.kind) (sym (old-link i old other)) ∙ defend) (sym (old-value i old none other) ∙ proved)
      ]
      | inr child ↦
          let attacks = ((noted child.0 child.1).proved
          (sym (e.children child.0 child.1) ∙ ap (numbers_at u.numbers) (sym child.2) ∙ proved)).0 in
          let bad : Attack ≡ Defend = sym attacks ∙ sym (new-link-kind child.0 child.1)
          ∙ ap (λ (m : ℕ). (link_at u.links m).kind) (sym child.2) ∙ defend in
          cc
    ];
    all = λ i l attack proved beside. elim (split-node i l) [
      | inl old ↦
          let other : i ≢ leaf = λ same. beside (0, sym same) in
          let value : numbers_at u.numbers i ≡ numbers_at t.numbers i =
          e.others i beside ∙ get_or_append_left t.numbers more (record { proof = 0; disproof = 0 }) i
          (let a = h.searching.tree.numbered.count in omega (arith, a, old)) in
          subst (λ (n : Note). 0 < n.moves) (sym (old-note i old))
          (h.searching.written.all i old (ap (λ (m : Link). m.kind) (sym (old-link i old other)) ∙ attack) (sym value ∙ proved)
          (λ bad. bad))
      | inr child ↦
          subst (λ (n : Note). 0 < n.moves) (sym (ap (note_at v.notes.items) child.2 ∙ new-note child.0))
          ((noted child.0 child.1).proved (sym (e.children child.0 child.1) ∙ ap (numbers_at u.numbers) (sym child.2) ∙ proved)).1
    ];
    met = λ i l defend several q on none. elim (split-node i l) [
      | inl old ↦ elim (cases_eq i leaf) [
        | inl same ↦
            subst (λ (k : ℕ). IsMet Now v.notes.items (c ++ nodes) k q) (sym same)
            (leaf-met (ap (λ (k : ℕ). (link_at u.links k).kind) (sym same) ∙ defend) q
            (rw same at on)
            (rw same at none))
        | inr other ↦ old-met i old other defend several q on none
      ]
      | inr child ↦ absurd (let zero_count : (link_at u.links i).count ≡ 0 =
          ap (λ (m : ℕ). (link_at u.links m).count) child.2 ∙ ap (λ (l : Link). l.count)
          (long.leaves (length t.links + child.0) (omega arith) (let b = child.1 in omega (arith, b))) in
          omega (arith, zero_count, several))
    ];
  }

  -- ---- counts

  -- a sum over the nodes is one over the old and one over the new
  split-sum : (f : ℕ → ℕ) → sum_below (length u.links) f ≡ sum_below (length t.links) f
      + sum_below (length more) (λ j. f (length t.links + j))
  split-sum f = ap (λ (n : ℕ). sum_below n f) long.sized ∙ sum-more (length t.links) (length more) f

  sum-within : (f old new : ℕ → ℕ) → ((i : ℕ) → i < length t.links → f i ≤ old i)
      → ((j : ℕ) → j < length more → f (length t.links + j) ≤ new j)
      → sum_below (length u.links) f ≤ sum_below (length t.links) old + sum_below (length more) new
  sum-within f old new low less =
      omega (arith, split-sum f, sum-le (length t.links) f old low, sum-le (length more) (λ j. f (length t.links + j)) new less)

  old-unwritten : (f : ℕ → ℕ) (i : ℕ) → i < length t.links → unwritten f u v.notes.items i ≡ unwritten f t s.notes.items i
  old-unwritten f i l =
      ap (λ (kind : Kind). cond (is_attack kind && nat_eq (note_at v.notes.items i).moves 0) (f i) 0) (old-kind expansion i l)
      ∙ ap (λ (n : Note). cond (is_attack (link_at t.links i).kind && nat_eq n.moves 0) (f i) 0) (old-note i l)

  new-unwritten : (f : ℕ → ℕ) (j : ℕ) → j < length more → unwritten f u v.notes.items (length t.links + j)
      ≡ cond (is_attack (other_kind (link_at t.links leaf).kind) && nat_eq (note_at ms j).moves 0) (f (length t.links + j)) 0
  new-unwritten f j l = search (new-link-kind, new-note)

  few-now : length (c ++ nodes) + sum_below (length u.links) (unwritten (λ i. 1) u v.notes.items) ≤ s.before + v.attacked
  few-now =
      let within = sum-within (unwritten (λ i. 1) u v.notes.items) (unwritten (λ i. 1) t s.notes.items)
      (λ j. unwritten_child (link_at t.links leaf).kind (note_at ms j)) (λ i l. let a = old-unwritten (λ k. 1) i l in omega (arith, a))
      (λ j l. let a = new-unwritten (λ k. 1) j l in omega (arith, a)) in
      omega (arith, within, length-append c nodes, h.searching.few, short)

  -- the same positions are won
  old-won : (i : ℕ) → i < length t.links → won_at Now i ≡ won_at (game_of rule s t) i
  old-won i l =
      ap (λ (n : ℕ). one_if (wins_by_threats rule n (board_at Now i))) (old-left expansion i l)
      ∙ ap (λ (b : Grid). one_if (wins_by_threats rule (left_at (game_of rule s t).left i) b)) (old-board expansion i l)

  new-won : (j : ℕ) → j < length more → won_at Now (length t.links + j)
      ≡ one_if (wins_by_threats rule (note_at ms j).left (after (board_at (game_of rule s t) leaf) (note_at ms j).at))
  new-won j l =
      ap (λ (n : ℕ). one_if (wins_by_threats rule n (board_at Now (length t.links + j)))) (new-left expansion j ∙ at-left j l)
      ∙ ap (λ (b : Grid). one_if (wins_by_threats rule (note_at ms j).left b))
      (new-board expansion j l ∙ ap (after (board_at (game_of rule s t) leaf)) (at-move j l))

  unwritten-wins : sum_below (length u.links) (unwritten (won_at Now) u v.notes.items)
      ≤ sum_below (length t.links) (unwritten (won_at (game_of rule s t)) t s.notes.items) + sum_below (length more)
      (λ j. unwritten_win rule (link_at t.links leaf).kind (board_at (game_of rule s t) leaf) (note_at ms j))
  unwritten-wins = sum-within (unwritten (won_at Now) u v.notes.items) (unwritten (won_at (game_of rule s t)) t s.notes.items)
      (λ j. unwritten_win rule (link_at t.links leaf).kind (board_at (game_of rule s t) leaf) (note_at ms j))
      (λ i l.
      let a = old-unwritten (won_at Now) i l in
      let b = ap (λ (n : ℕ). cond (is_attack (link_at t.links i).kind && nat_eq (note_at s.notes.items i).moves 0) n 0) (old-won i l) in
      omega (arith, a, b))
      (λ j l.
      let a = new-unwritten (won_at Now) j l in
      let b = ap (λ (n : ℕ). cond (is_attack (other_kind (link_at t.links leaf).kind) && nat_eq (note_at ms j).moves 0) n 0)
      (new-won j l) in
      omega (arith, a, b))

  attackers-are : attack_nodes u.links ≡ attack_nodes t.links
      + sum_below (length more) (λ j. cond (is_attack (other_kind (link_at t.links leaf).kind)) 1 0)
  attackers-are =
      let old = sum-same (length t.links) (λ i. cond (is_attack (link_at u.links i).kind) 1 0)
      (λ i. cond (is_attack (link_at t.links i).kind) 1 0)
      (λ i l. ap (λ (kind : Kind). cond (is_attack kind) 1 0) (old-kind expansion i l)) in
      let fresh = sum-same (length more) (λ j. cond (is_attack (link_at u.links (length t.links + j)).kind) 1 0)
      (λ j. cond (is_attack (other_kind (link_at t.links leaf).kind)) 1 0)
      (λ j l. ap (λ (kind : Kind). cond (is_attack kind) 1 0) (new-link-kind j l)) in
      omega (arith, split-sum (λ i. cond (is_attack (link_at u.links i).kind) 1 0), old, fresh)

  unproved-now : sum_below (length u.links) (unproved u) ≤ sum_below (length t.links) (unproved t)
      + sum_below (length more) (λ j. unproved_child (link_at t.links leaf).kind (numbers_at more j))
  unproved-now = sum-within (unproved u) (unproved t) (λ j. unproved_child (link_at t.links leaf).kind (numbers_at more j))
      (λ i l. unproved-less t u i (old-kind expansion i l)
      (expanded-proved t h.searching.tree leaf h.in_tree h.alive u.links u.numbers more (old-parent expansion) e.others i l))
      (λ j l.
      let a = ap (λ (kind : Kind). one_where (is_attack kind && not (nat_eq (numbers_at u.numbers (length t.links + j)).proof 0)))
      (new-link-kind j l) in
      let b = ap (λ (n : Numbers). unproved_child (link_at t.links leaf).kind n) (e.children j l) in
      omega (arith, a, b))

  -- the number of the leaf before is one more to spare
  spare-now : (kind : Kind) → leaf_sum kind u.links u.numbers + sought kind (one_more s.spare) ≤ length u.links
  spare-now kind =
      let bound : leaf_sum kind u.links u.numbers ≤ leaf_sum kind (grown_links t.links leaf (length more)) (t.numbers ++ more) =
      subst (λ (l : List Link). leaf_sum kind u.links u.numbers ≤ leaf_sum kind l (t.numbers ++ more)) e.links (e.leaves kind) in
      let fits = grown-spare h kind more some (low kind) in
      let size = long.sized in
      omega (arith, bound, fits, size)

  spare-grown : HasSpare u (one_more s.spare)
  spare-grown = record {
    fits = λ kind. let fits = spare-now kind in omega (arith, fits);
    leaves = λ kind many. spare-now kind;
    lone = λ kind one unsettled. let size = long.sized in let inside = h.in_tree in absurd (omega (arith, one, size, inside, some));
  }

  -- what is counted behind the new children, by their notes and numbers
  children-count : (f : Kind → RuleKind → ℕ → Grid → ℕ)
      → sum_below (length more)
      (child-behind expansion f) ≤ sum_below (length more)
      (λ j. new_behind f rule (link_at t.links leaf).kind (board_at (game_of rule s t) leaf) (note_at ms j) (numbers_at more j))
  children-count f =
      sum-le (length more) (child-behind expansion f)
      (λ j. new_behind f rule (link_at t.links leaf).kind (board_at (game_of rule s t) leaf) (note_at ms j) (numbers_at more j))
      (λ j l. let same = child-same j l in omega (arith, same)) where
        child-same : (j : ℕ) → j < length more → child-behind expansion f j ≡ new_behind f rule (link_at t.links leaf).kind
            (board_at (game_of rule s t) leaf) (note_at ms j) (numbers_at more j)
        child-same j l =
            child-counts expansion f j
            ∙ ap (λ (n : ℕ). cond (not (is_settled (numbers_at more j)))
            (f (other_kind (link_at t.links leaf).kind) rule n
            (after (board_at (game_of rule s t) leaf) (move_at (map (λ (n : Note). n.at) ms) j))) 0) (at-left j l)
            ∙ ap (λ (p : Point). cond (not (is_settled (numbers_at more j)))
            (f (other_kind (link_at t.links leaf).kind) rule (note_at ms j).left (after (board_at (game_of rule s t) leaf) p)) 0)
            (at-move j l)

  leaf-counts : (f : Kind → RuleKind → ℕ → Grid → ℕ)
      → behind_at f (game_of rule s t) leaf ≡ f (link_at t.links leaf).kind rule (left_at (game_of rule s t).left leaf)
      (board_at (game_of rule s t) leaf)
  leaf-counts f =
      ap (λ r. cond (r && not (is_settled (numbers_at t.numbers leaf)))
      (f (link_at t.links leaf).kind rule (left_at (game_of rule s t).left leaf) (board_at (game_of rule s t) leaf)) 0)
      (eq-eqb (link_at t.links leaf).count 0 h.childless)
      ∙ ap (λ r. cond (not r) (f (link_at t.links leaf).kind rule (left_at (game_of rule s t).left leaf)
      (board_at (game_of rule s t) leaf)) 0) h.leaf_open

  root-left : left_at Now.left 0 ≡ left_at (game_of rule s t).left 0
  root-left = old-left expansion 0 (let some_nodes = h.searching.tree.linked.some in some_nodes)

  counted-now : IsCounted Now s.budget v.attacked v.defended
  counted-now = record {
    attacks =
        let b = behind-grown expansion attacks_behind in
        let same = ap (λ (n : ℕ). threat_tree rule n s.root) root-left in
        omega (arith, h.searching.counted.attacks, b, leaf-counts attacks_behind, children-count attacks_behind, attacks_counted, same);
    defences =
        let a = h.searching.counted.defences in
        let b = behind-grown expansion defences_behind in
        let same = ap (λ (n : ℕ). threat_tree rule n s.root) root-left in
        omega (arith, a, b, leaf-counts defences_behind, children-count defences_behind, defences_counted, same);
    attackers = let a = h.searching.counted.attackers in omega (arith, a, attackers-are, attackers_counted);
    few_attacks = let a = h.searching.counted.few_attacks in omega (arith, a, attackers-are, unproved-now, few_counted);
    defenders = let a = h.searching.counted.defenders in let b = long.sized in omega (arith, a, b, attackers-are, defenders_counted);
    attacked_fits = attacked_fits;
    defended_fits = defended_fits;
    leaves = λ kind many. let fits = spare-now kind in omega (arith, fits);
  }

  searching-now : IsSearching rule
      (record s { board = v.board; notes = v.notes; settled = v.settled; attacked = v.attacked; defended = v.defended }) u (c ++ nodes)
      (IsOnWayUp u.links leaf)
  searching-now =
      let to : noted_tree rule s.root u v.notes.items ≡ Now = places u in
      record {
        tree = e.tree;
        game = rw to (game-grown expansion h.root_open h.alive);
        depth = ap (λ (n : Note). n.left) (old-note 0 h.searching.tree.linked.some) ∙ h.searching.depth;
        depth_fits = h.searching.depth_fits;
        budget_fits = h.searching.budget_fits;
        written = rw to written-now;
        remembered = rw to (memo-kept (game_of rule s t) Now refl (disproved-grown expansion h.alive) rule (c ++ nodes)
            v.settled table);
        counted = rw to counted-now;
        spare = spare-less u s.spare spare-grown;
        compiled = compiled;
        few = few-now;
        wins = rw to (omega (
          arith,
          h.searching.wins,
          length-append c nodes,
          unwritten-wins,
          behind-grown expansion wins_behind,
          leaf-counts wins_behind,
          children-count wins_behind,
          wins_counted,
        ));
      }

  pub expanded-grown : HasGrown rule s v t u (c ++ nodes) leaf
  expanded-grown = record {
    searching = rw rest searching-now;
    in_tree = let a = long.sized in let b = h.in_tree in omega (arith, a, b);
    aim = record {
      depth = ap (λ (w : Search). w.depth) rest;
      budget = ap (λ (w : Search). w.budget) rest;
      before = ap (λ (w : Search). w.before) rest;
      root = ap (λ (w : Search). w.root) rest;
    };
    board = same_board;
    place =
        ap (λ (w : Search). board_at (game_of rule w u) leaf) rest ∙ ap (λ (w : GameTree). board_at w leaf) (places u)
        ∙ old-board expansion leaf h.in_tree;
    progress = let a = closed-grown expansion in omega (arith, a);
    longer = let a = long.sized in omega (arith, a);
    spare = rw rest spare-grown;
  }

-- a sum of nothing
pub sum-nothing : (n : ℕ) (f : ℕ → ℕ) → ((i : ℕ) → i < n → f i ≡ 0) → sum_below n f ≡ 0
sum-nothing zero f h = sum-zero f
sum-nothing (suc n) f h =
    let rest = sum-nothing n f (λ i low. h i (omega arith)) in
    let here = h n (omega arith) in
    omega (arith, sum-suc n f, rest, here)

-- terms that are less by 1 each
pub sum-under : (n : ℕ) (f g : ℕ → ℕ) → ((i : ℕ) → i < n → f i + 1 ≤ g i) → sum_below n f + n ≤ sum_below n g
sum-under zero f g h = let a = sum-zero f in let b = sum-zero g in omega (arith, a, b)
sum-under (suc n) f g h =
    let rest = sum-under n f g (λ i low. h i (omega arith)) in
    let here = h n (omega arith) in
    omega (arith, sum-suc n f, sum-suc n g, rest, here)

module _ {rule : RuleKind} {s : Search} {t : Tree} {c : List Node} {leaf : ℕ} {view : Grid} (stands : StandsAt rule s t c leaf view) where
  here : IsAtLeaf rule s t c leaf view
  here = leaf-facts stands

  -- the tree has no more nodes than the budget of both sides
  pub nodes-few : length t.links ≤ 20000000
  nodes-few =
      let a = here.searching.counted.defenders in
      let b = here.searching.counted.attackers in
      omega (arith, a, b, here.searching.counted.attacked_fits, here.searching.counted.defended_fits, here.searching.budget_fits)

  pub budget-few : s.budget ≤ 10000000
  budget-few = here.searching.budget_fits

  pub defended-few : s.defended ≤ 10000000
  defended-few = let a = here.searching.counted.defended_fits in let b = here.searching.budget_fits in omega (arith, a, b)

  -- no more children than the budget are few enough for the tree
  module _ (more : List Numbers) (some : 0 < length more) (few : length more ≤ 10000000) where
    pub short-there : length t.links + length more ≤ INFINITE
    short-there = let a = nodes-few in omega (arith, a, few)

    -- the sum over all leaves is no more than there are nodes
    grown-sum : (kind : Kind) → finite_sum (map (sought kind) more) ≤ length more
        → leaf_sum kind (grown_links t.links leaf (length more)) (t.numbers ++ more) ≤ length t.links + length more
    grown-sum kind low = let fits = grown-spare here kind more some low in omega (arith, fits)

    pub sums-there : All IsFresh more → (kind : Kind) → leaf_sum kind (grown_links t.links leaf (length more)) (t.numbers ++ more)
        < INFINITE
    sums-there fresh kind = search (rules, nodes-few, grown-sum, fresh-sum)
