-- A search whose tree has one node: the root is open, or it is settled as won or lost.
use Rattle.std.proofs.Common.{◌≡◌, ◌∙◌, ℕ, ◌+◌, ◌-◌, ◌<◌, ◌≤◌, Bool, true, false, cond, ◌&&◌, refl}
use Rattle.std.proofs.Common.{sym, ap, subst, arith, List, [], length, nat_eq, Result, Ok, OnOk, min, inl, rules}
use Rattle.std.proofs.lemmas.Bool.{eq-eqb, ne_eqb}
use Rattle.std.proofs.lemmas.List.{get_or-set_same, length-map, length-set}
use Rattle.proof_number.proofs.Common.{Grid, IsPosition, mover, WinsByThreats, has_five, RuleKind, Node, IsCompiled, Writes, SearchError}
use Rattle.proof_number.proofs.Common.{WrittenWin, is_settled, settled_numbers, IsTree, Tree, link_at, numbers_at, Kind, Attack, Defend}
use Rattle.proof_number.proofs.Common.{Numbers, IsThreatWin, one_if, Note, Search, note_at, win_of, CanGrow, GameTree, IsGameTree}
use Rattle.proof_number.proofs.Common.{TellsTruly, WinsAt, board_at, left_at, IsLostAt, AreWritten, CanBegin, HasBegun, IsSameAim}
use Rattle.proof_number.proofs.Common.{IsCounted, IsNotedWin, IsSettledAt, Searches, behind_leaves, game_of, is_attack, noted_won}
use Rattle.proof_number.proofs.Common.{sum_below, unwritten, IsBare, threat_wins, wins_behind, won_at, wins_by_threats}
use Rattle.proof_tree.proofs.Common.{sought}
use Rattle.proof_number.proofs.Common.{HasSpare, no_numbers}
use Rattle.position_table.proofs.Remembering.{true-none}
use Rattle.proof_tree.proofs.SumLaws.{lone-childless}
use Rattle.proof_number.proofs.GameTruths.{board-root, left-root}
use Rattle.strategy_compiler.proofs.Growing.{grows-length, win-some, writes-nothing, writes-tells}
use Rattle.proof_number.proofs.Sums.{sum-suc, sum-zero}
use Rattle.threat_game.proofs.TreeLaws.{tree-positive, one_where}
use Rattle.proof_number.proofs.WinLaws.{won-counts, won-one, wins-own}

-- ---- five points that are listed

-- ---- a tree of one node

-- what is known of the root
pub record IsRootOf (rule : RuleKind) (s : Search) (t : Tree) (c : List Node) : Type 0 where
  pub can_grow : is_settled (numbers_at t.numbers 0) ≡ false → (has_five rule s.root (mover s.root) ≡ false) × (2 ≤ s.depth)
  pub fresh : is_settled (numbers_at t.numbers 0) ≡ false → (note_at s.notes.items 0).moves ≡ 0
  pub truth : TellsTruly (numbers_at t.numbers 0) (WinsByThreats rule s.depth s.root)
  pub lost : numbers_at t.numbers 0 ≡ settled_numbers false → IsLostAt Attack (game_of rule s t) s.depth s.root
  pub noted : 0 < (note_at s.notes.items 0).moves → IsNotedWin rule s.depth s.root c (win_of (note_at s.notes.items 0))
  pub has_win : numbers_at t.numbers 0 ≡ settled_numbers true → 0 < (note_at s.notes.items 0).moves
  pub few : length c + one_where (nat_eq (note_at s.notes.items 0).moves 0) ≤ s.before + 1
  pub wins : length c + cond (nat_eq (note_at s.notes.items 0).moves 0) (one_if (wins_by_threats rule s.depth s.root)) 0
      ≤ s.before + one_if (wins_by_threats rule s.depth s.root)
  pub bare : numbers_at t.numbers 0 ≡ settled_numbers false → IsBare rule s.depth s.root

-- the search beside its tree, where one position of the attacker is counted
pub record IsBegun (rule : RuleKind) (s : Search) (t : Tree) (c : List Node) : Type 0 where
  pub tree : IsTree t
  pub one_node : length t.links ≡ 1
  pub one_note : length s.notes.items ≡ 1
  pub lawful : IsPosition rule s.root
  pub depth_is : (note_at s.notes.items 0).left ≡ s.depth
  pub depth_fits : s.depth ≤ 60
  pub some_budget : 1 ≤ s.budget
  pub budget_fits : s.budget ≤ 10000000
  pub none : s.settled.entries ≡ []
  pub none_to_spare : s.spare ≡ no_numbers
  pub attacked_is : s.attacked ≡ 1
  pub defended_is : s.defended ≡ 0
  pub compiled : IsCompiled c

module _ {rule : RuleKind} {s : Search} {t : Tree} {c : List Node} (begun : IsBegun rule s t c) (root : IsRootOf rule s t c) where
  abbrev Game : GameTree
  Game = game_of rule s t

  only : (i : ℕ) → i < length t.links → 0 ≡ i
  only i low = let one = begun.one_node in omega (arith, low, one)

  own-board : board_at Game 0 ≡ s.root
  own-board = board-root Game.tree.links Game.moves Game.start begun.tree.linked

  attacks : (link_at t.links 0).kind ≡ Attack
  attacks = begun.tree.linked.root_attacks

  -- what holds of the depth and the board of the search at the attacker's root holds of its node
  at-root : (P : Kind → ℕ → Grid → Type 0) → P Attack s.depth s.root → P (link_at t.links 0).kind (left_at Game.left 0) (board_at Game 0)
  at-root P p = search (rules, left-root, own-board)

  unsettled-root : (i : ℕ) → i < length t.links → is_settled (numbers_at t.numbers i) ≡ false → is_settled (numbers_at t.numbers 0) ≡ false
  unsettled-root i low = subst (λ (k : ℕ). is_settled (numbers_at t.numbers k) ≡ false) (sym (only i low))

  proved-root : (i : ℕ) → i < length t.links → numbers_at t.numbers i ≡ settled_numbers true → numbers_at t.numbers 0 ≡ settled_numbers true
  proved-root i low = subst (λ (k : ℕ). numbers_at t.numbers k ≡ settled_numbers true) (sym (only i low))

  lost-root : (i : ℕ) → i < length t.links → numbers_at t.numbers i ≡ settled_numbers false → numbers_at t.numbers 0 ≡ settled_numbers false
  lost-root i low = subst (λ (k : ℕ). numbers_at t.numbers k ≡ settled_numbers false) (sym (only i low))

  lone-game : IsGameTree Game
  lone-game = record {
    moves = (let a = length-map s.notes.items (λ (n : Note). n.at) in let b = begun.one_note in let d =
        begun.one_node in omega (arith, a, b, d));
    left = (let a = length-map s.notes.items (λ (n : Note). n.left) in let b = begun.one_note in let d =
        begun.one_node in omega (arith, a, b, d));
    lawful = begun.lawful;
    on = λ j some low. let one = begun.one_node in absurd (omega (arith, some, low, one));
    fewer = λ j some low. let one = begun.one_node in absurd (omega (arith, some, low, one));
    inner = λ i low some.
        let none = lone-childless t begun.tree begun.one_node in
        let here : 0 < (link_at t.links 0).count = subst (λ (k : ℕ). 0 < (link_at t.links k).count) (sym (only i low)) some in
        absurd (omega (arith, none, here));
    open_leaf = λ i low none unsettled.
        subst (λ (k : ℕ). CanGrow (link_at t.links k).kind rule (left_at Game.left k) (board_at Game k)) (only i low)
        (at-root (λ k n b. CanGrow k rule n b) (root.can_grow (unsettled-root i low unsettled)));
    leaf = λ i low none.
        subst (λ (k : ℕ). TellsTruly (numbers_at t.numbers k)
        (WinsAt (link_at t.links k).kind rule (left_at Game.left k) (board_at Game k))) (only i low)
        (at-root (λ k n b. TellsTruly (numbers_at t.numbers 0) (WinsAt k rule n b)) root.truth);
    lost = λ i low none gone.
        subst (λ (k : ℕ). IsLostAt (link_at t.links k).kind Game (left_at Game.left k) (board_at Game k)) (only i low)
        (at-root (λ k n b. IsLostAt k Game n b) (root.lost (lost-root i low gone)));
    root = λ none gone. at-root (λ k n b. IsBare rule n s.root) (root.bare gone);
  }

  lone-written : AreWritten Game s.notes.items c (λ i. ⊥)
  lone-written = record {
    true_wins = λ i low some.
        subst (λ (k : ℕ). IsNotedWin rule (left_at Game.left k) (board_at Game k) c (win_of (note_at s.notes.items k))) (only i low)
        (at-root (λ k n b. IsNotedWin rule n b c (win_of (note_at s.notes.items 0)))
        (root.noted (subst (λ (k : ℕ). 0 < (note_at s.notes.items k).moves) (sym (only i low)) some)));
    fresh = λ i low none unsettled. subst (λ (k : ℕ). (note_at s.notes.items k).moves ≡ 0) (only i low)
        (root.fresh (unsettled-root i low unsettled));
    leaves = λ i low none attack proved. subst (λ (k : ℕ). 0 < (note_at s.notes.items k).moves) (only i low)
        (root.has_win (proved-root i low proved));
    defends = λ i low none defend proved.
        let here : (link_at t.links 0).kind ≡ Defend = subst (λ (k : ℕ). (link_at t.links k).kind ≡ Defend) (sym (only i low)) defend in
        let bad : Attack ≡ Defend = sym attacks ∙ here in cc;
    all = λ i low attack proved beside. subst (λ (k : ℕ). 0 < (note_at s.notes.items k).moves) (only i low)
        (root.has_win (proved-root i low proved));
    met = λ i low defend some q on out.
        let none = lone-childless t begun.tree begun.one_node in
        let here : 0 < (link_at t.links 0).count = subst (λ (k : ℕ). 0 < (link_at t.links k).count) (sym (only i low)) some in
        absurd (omega (arith, none, here));
  }

  -- a sum over the nodes is that of the root
  lone-sum : (f : ℕ → ℕ) → sum_below (length t.links) f ≡ f 0
  lone-sum f = search (rules, sum-suc, sum-zero)

  counts-less : (r : Bool) (x : ℕ) → cond r x 0 ≤ x
  counts-less r x = search rules

  lone-behind : (f : Kind → RuleKind → ℕ → Grid → ℕ)
      → behind_leaves f Game ≤ f (link_at t.links 0).kind rule (left_at Game.left 0) (board_at Game 0)
  lone-behind f = search (rules, counts-less, lone-sum)

  lone-wins : length c + sum_below (length t.links) (unwritten (won_at Game) t s.notes.items) + behind_leaves wins_behind Game
      ≤ s.before + threat_wins rule s.depth s.root
  lone-wins =
      let own : ℕ = one_if (wins_by_threats rule s.depth s.root) in
      let won : won_at Game 0 ≡ own = at-root (λ k n b. one_if (wins_by_threats rule n b) ≡ own) refl in
      let behind = at-root (λ k n b. wins_behind k rule n b ≡ threat_wins rule s.depth s.root - own) refl in
      let a = ap (λ (k : Kind). cond (is_attack k && nat_eq (note_at s.notes.items 0).moves 0) (won_at Game 0) 0) attacks
      ∙ ap (λ (n : ℕ). cond (nat_eq (note_at s.notes.items 0).moves 0) n 0) won in
      omega (
        arith,
        lone-sum (unwritten (won_at Game) t s.notes.items),
        a,
        lone-behind wins_behind,
        behind,
        root.wins,
        wins-own rule s.depth s.root,
      )

  lone-counted : IsCounted Game s.budget s.attacked s.defended
  lone-counted = search (rules, own-board, lone-behind, tree-positive, lone-sum, counts-less)

  lone-spare : HasSpare t s.spare
  lone-spare = record {
    fits = λ kind. let zero_spare = none kind in omega (arith, zero_spare);
    leaves = λ kind many. let one = begun.one_node in absurd (omega (arith, many, one));
    lone = λ kind one unsettled. none kind;
  } where
    none : (kind : Kind) → sought kind s.spare ≡ 0
    none Attack = ap (λ (n : Numbers). n.proof) begun.none_to_spare
    none Defend = ap (λ (n : Numbers). n.disproof) begun.none_to_spare

  pub lone-searches : Searches rule s t c (λ i. ⊥)
  lone-searches = search (rules, lone-game, lone-written, true-none, lone-counted, lone-spare, one_where, lone-sum, lone-wins)

-- ---- the first look at the root

begun-aim : (s v : Search) → v ≡ record s { board = v.board; notes = v.notes } → IsSameAim s v
begun-aim s v rest = search rules

module _ {rule : RuleKind} {s : Search} {t : Tree} {c : List Node} {b : Grid} (can : CanBegin s t c b) (lawful : IsPosition rule b)
    (tree : IsTree t) where
  open can use {new as begins, one_node as one, depth_fits, some_budget, budget_fits, unsettled}

  first-lawful : IsPosition rule s.root
  first-lawful = rw begins.root_is lawful

  -- nothing is known of the root yet
  open-searches : IsCompiled c → 2 ≤ s.depth → has_five rule b (mover b) ≡ false → Searches rule s t c (λ i. ⊥)
  open-searches compiled deep none = lone-searches (record {
    tree = tree;
    one_node = one;
    one_note = begins.one;
    lawful = first-lawful;
    depth_is = begins.left;
    depth_fits = depth_fits;
    some_budget = some_budget;
    budget_fits = budget_fits;
    none = begins.none;
    none_to_spare = begins.none_to_spare;
    attacked_is = begins.attacked_is;
    defended_is = begins.defended_is;
    compiled = compiled;
  }) (record {
    can_grow = λ e. (subst (λ (w : Grid). has_five rule w (mover w) ≡ false) (sym begins.root_is) none, deep);
    fresh = λ e. begins.unwon;
    truth = record { proved = λ e. absurd (not-settled true e); disproved = λ e wins. not-settled false e };
    lost = λ e. absurd (not-settled false e);
    noted = λ some. let e = begins.unwon in absurd (omega (arith, some, e));
    has_win = λ e. absurd (not-settled true e);
    few = (
        let f = ap one_where (eq-eqb (note_at s.notes.items 0).moves 0 begins.unwon) in
        omega (arith, begins.before_is, f)
        );
    wins = (
        let f = ap (λ r. cond r (one_if (wins_by_threats rule s.depth s.root)) 0)
        (eq-eqb (note_at s.notes.items 0).moves 0 begins.unwon) in
        omega (arith, begins.before_is, f)
        );
    bare = λ e. absurd (not-settled false e);
  }) where
    settled-test : (p : Bool) → is_settled (settled_numbers p) ≡ true
    settled-test true = refl
    settled-test false = refl

    not-settled : (p : Bool) → numbers_at t.numbers 0 ≡ settled_numbers p → ⊥
    not-settled p e = let bad : true ≡ false = sym (settled-test p) ∙ ap is_settled (sym e) ∙ unsettled in cc

  pub begun-open : IsCompiled c → 2 ≤ s.depth → has_five rule b (mover b) ≡ false → HasBegun rule s s t c c (Ok tt)
  begun-open compiled deep none = search (rules, open-searches, writes-nothing)

  -- a win has a node at least
  pub some-won : WinsByThreats rule s.depth b → 1 ≤ min 1 (threat_wins rule s.depth s.root)
  some-won wins = search (rules, won-counts)

  -- a call that failed wrote no more than a win needs
  pub begun-refused : {v : Search} {d : List Node} {r : Result (Unit {0}) SearchError} → v ≡ record s { board = v.board; notes = v.notes }
      → v.board ≡ s.board → OnOk r (Searches rule v t d (λ i. ⊥)) → Writes c d (min 1 (threat_wins rule s.depth s.root)) r
      → HasBegun rule s v t c d r
  begun-refused {v = v} rest board none writes = search (rules, begun-aim)

  -- the search changes but in what it notes
  module _ (v : Search) (u : Tree) (d : List Node) (rest : v ≡ record s { board = v.board; notes = v.notes }) (links : u.links ≡ t.links)
      (tree_now : IsTree u) (compiled : IsCompiled d)
      (long : length v.notes.items ≡ 1) (left : (note_at v.notes.items 0).left ≡ s.depth) where
    still-begun : IsBegun rule v u d
    still-begun = record {
      tree = tree_now;
      one_node = ap length links ∙ one;
      one_note = long;
      lawful = rw rest first-lawful;
      depth_is = left ∙ sym (ap (λ (w : Search). w.depth) rest);
      depth_fits = rw rest depth_fits;
      some_budget = rw rest some_budget;
      budget_fits = rw rest budget_fits;
      none = ap (λ (w : Search). w.settled.entries) rest ∙ begins.none;
      none_to_spare = ap (λ (w : Search). w.spare) rest ∙ begins.none_to_spare;
      attacked_is = ap (λ (w : Search). w.attacked) rest ∙ begins.attacked_is;
      defended_is = ap (λ (w : Search). w.defended) rest ∙ begins.defended_is;
      compiled = compiled;
    }

  -- the root is won, and its win is compiled
  module _ {v : Search} {u : Tree} {d : List Node} {win : WrittenWin} (rest : v ≡ record s { board = v.board; notes = v.notes })
      (board : v.board ≡ s.board) (items : v.notes.items ≡ noted_won s.notes.items 0 win)
      (st : IsSettledAt t u 0 true) (writes : Writes c d 1 (Ok win)) (is : IsThreatWin rule s.depth b d win) where
    own-note : note_at v.notes.items 0 ≡ record (note_at s.notes.items 0) { moves = win.moves; node = win.node }
    own-note = search (rules, get_or-set_same)

    won-moves : (note_at v.notes.items 0).moves ≡ win.moves
    won-moves = ap (λ (n : Note). n.moves) own-note

    win-moves : 0 < (note_at v.notes.items 0).moves
    win-moves = let a = won-moves in let m = win-some rule s.depth b d win is.written in omega (arith, a, m)

    won-begun : IsBegun rule v u d
    won-begun = still-begun v u d rest st.links st.tree writes.compiled
        (ap length items ∙ length-set s.notes.items 0 (record (note_at s.notes.items 0) { moves = win.moves; node = win.node })
        ∙ begins.one)
        (ap (λ (n : Note). n.left) own-note ∙ begins.left)

    won-noted : IsNotedWin rule v.depth v.root d (win_of (note_at v.notes.items 0))
    won-noted =
        rw own-note (rw (ap (λ (w : Search). w.depth) rest)
        (rw (ap (λ (w : Search). w.root) rest ∙ begins.root_is) (is.written, is.by_threats)))

    won-searches : Searches rule v u d (λ i. ⊥)
    won-searches = lone-searches won-begun (record {
      can_grow = λ e. let bad : true ≡ false = sym (ap is_settled st.settled) ∙ e in cc;
      fresh = λ e. let bad : true ≡ false = sym (ap is_settled st.settled) ∙ e in cc;
      truth = record {
        proved = λ e. won-noted.1;
        disproved = λ e. let bad : 0 ≡ 4294967295 = ap (λ (n : Numbers). n.proof) (sym st.settled ∙ e) in absurd (omega (arith, bad));
      };
      lost = λ e. let bad : 0 ≡ 4294967295 = ap (λ (n : Numbers). n.proof) (sym st.settled ∙ e) in absurd (omega (arith, bad));
      noted = λ some. won-noted;
      has_win = λ e. win-moves;
      few = (
          let e = ap (λ (w : Search). w.before) rest ∙ begins.before_is in
          let f : one_where (nat_eq (note_at v.notes.items 0).moves 0) ≡ 0 =
          ap one_where (ne_eqb (note_at v.notes.items 0).moves 0 (λ z. let m = win-moves in omega (arith, z, m))) in
          omega (arith, grows-length c d 1 writes.grows, e, f)
          );
      wins = (
          let e = ap (λ (w : Search). w.before) rest ∙ begins.before_is in
          let own = won-one rule v.depth v.root won-noted.1 in
          let f = ap (λ r. cond r (one_if (wins_by_threats rule v.depth v.root)) 0)
          (ne_eqb (note_at v.notes.items 0).moves 0 (λ z. let m = win-moves in omega (arith, z, m))) in
          omega (arith, grows-length c d 1 writes.grows, e, f, own)
          );
      bare = λ e. let bad : 0 ≡ 4294967295 = ap (λ (n : Numbers). n.proof) (sym st.settled ∙ e) in absurd (omega (arith, bad));
    })

    pub begun-won : HasBegun rule s v u c d (Ok tt)
    begun-won = search (won-searches, begun-aim, writes-tells, some-won)

  -- the root is lost: one move is left, and it does not win
  module _ {v : Search} {u : Tree} (rest : v ≡ record s { board = v.board }) (board : v.board ≡ s.board) (st : IsSettledAt t u 0 false)
      (compiled : IsCompiled c) (last : s.depth ≡ 1) (none : WinsByThreats rule 1 b → ⊥) where
    lost-begun : IsBegun rule v u c
    lost-begun = still-begun v u c (rest ∙ ap (λ (w : Search). record s { board = v.board; notes = w.notes }) (sym rest)) st.links st.tree
        compiled
        (ap (λ (w : Search). length w.notes.items) rest ∙ begins.one)
        (ap (λ (w : Search). (note_at w.notes.items 0).left) rest ∙ begins.left)

    lost-searches : Searches rule v u c (λ i. ⊥)
    lost-searches = lone-searches lost-begun (record {
      can_grow = λ e. let bad : true ≡ false = sym (ap is_settled st.settled) ∙ e in cc;
      fresh = λ e. let bad : true ≡ false = sym (ap is_settled st.settled) ∙ e in cc;
      truth = record {
        proved = λ e. let bad : 4294967295 ≡ 0 = ap (λ (n : Numbers). n.proof) (sym st.settled ∙ e) in absurd (omega (arith, bad));
        disproved = λ e wins. none (
            subst (λ (n : ℕ). WinsByThreats rule n b) (ap (λ (w : Search). w.depth) rest ∙ last)
            (subst (WinsByThreats rule v.depth) (ap (λ (w : Search). w.root) rest ∙ begins.root_is) wins)
            );
      };
      lost = λ e several. let deep = ap (λ (w : Search). w.depth) rest in absurd (omega (arith, several, deep, last));
      noted = λ some. let e : (note_at v.notes.items 0).moves ≡ 0 =
          ap (λ (w : Search). (note_at w.notes.items 0).moves) rest ∙ begins.unwon in absurd (omega (arith, some, e));
      has_win = λ e. let bad : 4294967295 ≡ 0 = ap (λ (n : Numbers). n.proof) (sym st.settled ∙ e) in absurd (omega (arith, bad));
      few = (
          let a = ap (λ (w : Search). w.before) rest ∙ begins.before_is in
          let e : (note_at v.notes.items 0).moves ≡ 0 = ap (λ (w : Search). (note_at w.notes.items 0).moves) rest ∙ begins.unwon in
          let f : one_where (nat_eq (note_at v.notes.items 0).moves 0) ≡ 1 = ap one_where (eq-eqb (note_at v.notes.items 0).moves 0 e) in
          omega (arith, a, f)
          );
      wins = (
          let a = ap (λ (w : Search). w.before) rest ∙ begins.before_is in
          let e : (note_at v.notes.items 0).moves ≡ 0 = ap (λ (w : Search). (note_at w.notes.items 0).moves) rest ∙ begins.unwon in
          let f = ap (λ r. cond r (one_if (wins_by_threats rule v.depth v.root)) 0) (eq-eqb (note_at v.notes.items 0).moves 0 e) in
          omega (arith, a, f)
          );
      bare = λ e. inl (let deep = ap (λ (w : Search). w.depth) rest in omega (arith, deep, last));
    })

    pub begun-lost : HasBegun rule s v u c c (Ok tt)
    begun-lost = record {
      searching = lost-searches;
      aim = begun-aim s v (rest ∙ ap (λ (w : Search). record s { board = v.board; notes = w.notes }) (sym rest));
      board = board;
      tree = st.tree;
      one_node = ap length st.links ∙ one;
      writes = writes-nothing c c _ tt compiled refl;
    }
