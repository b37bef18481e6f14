-- A proved node of the attacker is compiled: the nodes behind its proved move have wins, and the search goes on with one more. A proved
-- node of the attacker is compiled, in the words of the contracts.
use Rattle.std.proofs.Common.{◌≡◌, ◌≢◌, ◌⊎◌, inl, inr, ℕ, ◌+◌, ◌<◌, ◌≤◌, true, false, sym, ap}
use Rattle.std.proofs.Common.{subst, ◌∙◌, arith, List, [], ◌∷◌, ◌++◌, map, length, take, drop, All, Ok, rules}
use Rattle.std.proofs.lemmas.Bool.{cases_eq, eq-eqb}
use Rattle.std.proofs.lemmas.List.{get_or-map, get_or-take, get_or-drop, get_or-set_same, get_or-set_other, length-map, length-take}
use Rattle.std.proofs.lemmas.List.{length-drop, length-append, take-map, drop-map}
use Rattle.std.specs.List.{AllByRecursion}
use Rattle.std.proofs.lemmas.List.Elements.{All-from_get_or}
use Rattle.std.proofs.Math.Seq.{map-set_same}
use Rattle.proof_number.proofs.Common.{RuleKind, Point, GoesOn, Grid, points_of, outcome, after, Kind, Attack, Defend, Numbers, combined}
use Rattle.proof_number.proofs.Common.{is_settled, other_kind, settled_numbers, total, IsOnWayUp, Tree, children_of, link_at, numbers_at}
use Rattle.proof_number.proofs.Common.{Node, NamesLower, depth, greatest, WrittenWin, IsCompiled, IsWrittenWin, WinsByAnswers, Writes}
use Rattle.proof_number.proofs.Common.{move_at, nowhere, Note, Search, known_searching, room_in, all_notes, answer_of, no_note, note_at}
use Rattle.proof_number.proofs.Common.{noted_for, win_of, AreMet, GameTree, among, board_at, left_at, left_before, moves_of, noted_tree}
use Rattle.proof_number.proofs.Common.{AreWritten, IsAbove, IsNotedWin, IsSearching, KeepsTree, game_of, noted_won, sum_below, unwritten}
use Rattle.proof_number.proofs.Common.{Searches, behind_leaves, nodes_so_far, threat_wins, wins_behind, won_at}
use Rattle.game_rules.proofs.Common.{is_on}
use Rattle.game_rules.proofs.ReadingOrder.{points-on}
use Rattle.proof_tree.proofs.Common.{IsChild}
use Rattle.proof_tree.proofs.Settled.{settled-proved, above-low}
use Rattle.strategy_graph.proofs.Filling.{IsTable-lower}
use Rattle.strategy_compiler.proofs.Forks.{IsAnswer, answer-by-win}
use Rattle.strategy_compiler.proofs.Growing.{win-some}
use Rattle.proof_number.proofs.Opening.{searching-facts}
use Rattle.proof_number.proofs.GameTruths.{IsChildOf, child-of, each-zero, left-low, points-same}
use Rattle.proof_number.proofs.Recording.{all-points, note-for, written-node, won-node}
use Rattle.proof_number.proofs.Remembering.{memo-grown}
use Rattle.proof_number.proofs.Settling.{written-grown, unwritten-less}
use Rattle.proof_number.proofs.Sums.{sum-one}
use Rattle.proof_number.proofs.WinLaws.{won-one}

-- ---- the notes of nodes

-- the note of node i with a win has the move and the moves left that it had
pub won-places : (rule : RuleKind) (s : Search) (t : Tree) (items : List Note) (i : ℕ) (win : WrittenWin)
    → items ≡ noted_won s.notes.items i win → noted_tree rule s.root t items ≡ game_of rule s t
won-places rule s t items i win is = search (rules, map-set_same)

module _ {rule : RuleKind} {s : Search} {t : Tree} {c : List Node} {node : ℕ} (h : IsSearching rule s t c (IsOnWayUp t.links node))
    (inside : node < length t.links)
    (attack : (link_at t.links node).kind ≡ Attack) (proved : numbers_at t.numbers node ≡ settled_numbers true)
    (unwon : (note_at s.notes.items node).moves ≡ 0) where
  lower : NamesLower c
  lower = IsTable-lower c h.compiled.table

  -- it has children
  pub node-some : 0 < (link_at t.links node).count
  node-some = by_count (cases_eq (link_at t.links node).count 0) where
    by_count : ((link_at t.links node).count ≡ 0) ⊎ ((link_at t.links node).count ≡ 0 → ⊥) → 0 < (link_at t.links node).count
    by_count (inl none) = let some = h.written.leaves node inside none attack proved in absurd (omega (arith, some, unwon))
    by_count (inr more) = omega (arith, more)

  module _ (j : ℕ) (child : IsChild (link_at t.links node) j) (zero_proof : (numbers_at t.numbers j).proof ≡ 0) where
    facts : IsChildOf (game_of rule s t) node j
    facts = child-of h.tree h.game node j inside child

    defends : (link_at t.links j).kind ≡ Defend
    defends = facts.kind ∙ ap other_kind attack

    child-proved : numbers_at t.numbers j ≡ settled_numbers true
    child-proved = settled-proved (numbers_at t.numbers j) (h.tree.numbered.each j facts.inside) zero_proof

    pub child-some : 0 < (link_at t.links j).count
    child-some = by_count (cases_eq (link_at t.links j).count 0) where
      by_count : ((link_at t.links j).count ≡ 0) ⊎ ((link_at t.links j).count ≡ 0 → ⊥) → 0 < (link_at t.links j).count
      by_count (inl none) = absurd (h.written.defends j facts.inside none defends child-proved)
      by_count (inr more) = omega (arith, more)

    pub notes-long : length s.notes.items ≡ length t.links
    notes-long = sym (length-map s.notes.items (λ (n : Note). n.at)) ∙ h.game.moves

    kids : List Note
    kids = take (link_at t.links j).count (drop (link_at t.links j).first s.notes.items)

    kids-length : length (take (link_at t.links j).count (drop (link_at t.links j).first s.notes.items)) ≡ (link_at t.links j).count
    kids-length =
        let a = length-take (link_at t.links j).count (drop (link_at t.links j).first s.notes.items) in
        omega (arith, a, length-drop (link_at t.links j).first s.notes.items, h.tree.linked.within j facts.inside, notes-long)

    kid-note : (k : ℕ) → k < (link_at t.links j).count
        → note_at (take (link_at t.links j).count (drop (link_at t.links j).first s.notes.items)) k ≡ note_at s.notes.items
        ((link_at t.links j).first + k)
    kid-note k low = search (rules, get_or-take, get_or-drop)

    met : AreMet rule (left_at (game_of rule s t).left j) (board_at (game_of rule s t) j)
        (moves_of (link_at t.links j) (map (λ n. n.at) s.notes.items))
    met = rw defends at (h.game.inner j facts.inside child-some)

    kids-moves : map (λ n. n.at) (take (link_at t.links j).count (drop (link_at t.links j).first s.notes.items)) ≡ moves_of
        (link_at t.links j) (map (λ n. n.at) s.notes.items)
    kids-moves = search (rules, drop-map, take-map)

    pub kids-some : 0 < length (take (link_at t.links j).count (drop (link_at t.links j).first s.notes.items))
    kids-some = let e = kids-length in let some = child-some in omega (arith, e, some)

    -- the board and the moves left of each child, and its win
    own-total : total (map (λ n. n.proof) (children_of (link_at t.links j) t.numbers)) ≡ 0
    own-total =
        let own = h.tree.numbered.combined_at j facts.inside child-some
        ∙ ap (λ (k : Kind). combined k (children_of (link_at t.links j) t.numbers)) defends in
        ap (λ (n : Numbers). n.proof) (sym own ∙ child-proved)

    kid-win : (k : ℕ) → k < (link_at t.links j).count
        → IsWrittenWin rule (left_at (game_of rule s t).left j)
        (after (board_at (game_of rule s t) j) (note_at s.notes.items ((link_at t.links j).first + k)).at) c
        (win_of (note_at s.notes.items ((link_at t.links j).first + k)))
    kid-win k low =
        let m : ℕ = (link_at t.links j).first + k in
        let kid : IsChild (link_at t.links j) m = record { from_first = omega arith; below_end = omega (arith, low) } in
        let f = child-of h.tree h.game j m facts.inside kid in
        let attacks : (link_at t.links m).kind ≡ Attack = f.kind ∙ ap other_kind defends in
        let numbers : numbers_at t.numbers m ≡ settled_numbers true =
        settled-proved (numbers_at t.numbers m) (h.tree.numbered.each m f.inside)
        (each-zero h.tree h.game j facts.inside (λ n. n.proof) own-total m kid) in
        let beside : IsOnWayUp t.links node m → ⊥ = λ way. omega
        (arith, above-low t.links h.tree.linked way.0 node inside, way.1, facts.later, f.later) in
        let some = h.written.all m f.inside attacks numbers beside in
        let win = (h.written.true_wins m f.inside some).0 in
        let moved : move_at (map (λ n. n.at) s.notes.items) m ≡ (note_at s.notes.items m).at =
        get_or-map (λ (n : Note). n.at) s.notes.items m no_note nowhere
        (let long = notes-long in let i = f.inside in omega (arith, long, i)) in
        let left = ap (λ (q : Kind). left_before q (left_at (game_of rule s t).left m)) (sym attacks) ∙ f.fewer in
        let board = f.board ∙ ap (after (board_at (game_of rule s t) j)) moved in
        rw (← left) (rw board at win)

    kids-win : (k : ℕ) → k < length (take (link_at t.links j).count (drop (link_at t.links j).first s.notes.items))
        → IsWrittenWin rule (left_at (game_of rule s t).left j)
        (after (board_at (game_of rule s t) j)
        (note_at (take (link_at t.links j).count (drop (link_at t.links j).first s.notes.items)) k).at) c
        (win_of (note_at (take (link_at t.links j).count (drop (link_at t.links j).first s.notes.items)) k))
    kids-win k low =
        let below : k < (link_at t.links j).count = let e = kids-length in omega (arith, e, low) in
        rw (kid-note k below) (kid-win k below)

    kids-on : (k : ℕ) → k < length (take (link_at t.links j).count (drop (link_at t.links j).first s.notes.items))
        → outcome rule (board_at (game_of rule s t) j)
        (note_at (take (link_at t.links j).count (drop (link_at t.links j).first s.notes.items)) k).at ≡ GoesOn
    kids-on k low =
        let below : k < (link_at t.links j).count = let e = kids-length in omega (arith, e, low) in
        let m : ℕ = (link_at t.links j).first + k in
        let kid : IsChild (link_at t.links j) m = record { from_first = omega arith; below_end = omega (arith, below) } in
        let f = child-of h.tree h.game j m facts.inside kid in
        let moved : move_at (map (λ n. n.at) s.notes.items) m ≡ (note_at s.notes.items m).at =
        get_or-map (λ (n : Note). n.at) s.notes.items m no_note nowhere
        (let long = notes-long in let i = f.inside in omega (arith, long, i)) in
        ap (λ (n : Note). outcome rule (board_at (game_of rule s t) j) n.at) (kid-note k below)
        ∙ ap (outcome rule (board_at (game_of rule s t) j)) (sym moved) ∙ f.on

    pub kids-below : All (λ n. n.node < length c) (take (link_at t.links j).count (drop (link_at t.links j).first s.notes.items))
    kids-below = All-from_get_or (λ n. n.node < length c) (take (link_at t.links j).count (drop (link_at t.links j).first s.notes.items))
        no_note (λ k low. (kids-win k low).in_compiler)

    -- the win of the note for a reply that goes on
    point-win : (q : Point) → outcome rule (board_at (game_of rule s t) j) q ≡ GoesOn
        → IsWrittenWin rule (left_at (game_of rule s t).left j) (after (board_at (game_of rule s t) j) q) c
        (win_of (noted_for (take (link_at t.links j).count (drop (link_at t.links j).first s.notes.items)) q))
    point-win q on =
        let K : List Note = take (link_at t.links j).count (drop (link_at t.links j).first s.notes.items) in
        let found = note-for K q kids-some in
        subst (λ (n : Note). IsWrittenWin rule (left_at (game_of rule s t).left j) (after (board_at (game_of rule s t) j) q) c (win_of n))
        (sym found.1.is) (by_move found.0 found.1.inside found.1.move) where
          by_move : (k : ℕ) → k < length (take (link_at t.links j).count (drop (link_at t.links j).first s.notes.items))
              → ((note_at (take (link_at t.links j).count (drop (link_at t.links j).first s.notes.items)) k).at ≡ q) ⊎
              ((k ≡ 0) × (among (map (λ m. m.at) (take (link_at t.links j).count (drop (link_at t.links j).first s.notes.items))) q
              ≡ false))
              → IsWrittenWin rule (left_at (game_of rule s t).left j) (after (board_at (game_of rule s t) j) q) c
              (win_of (note_at (take (link_at t.links j).count (drop (link_at t.links j).first s.notes.items)) k))
          by_move k low (inl same) =
              subst (λ (p : Point). IsWrittenWin rule (left_at (game_of rule s t).left j) (after (board_at (game_of rule s t) j) p) c
              (win_of (note_at (take (link_at t.links j).count (drop (link_at t.links j).first s.notes.items)) k))) same
              (kids-win k low)
          by_move k low (inr out) =
              let first = h.written.met j facts.inside defends child-some q on
              (ap (λ (ps : List Point). among ps q) (sym kids-moves) ∙ out.1) in
              let note : note_at (take (link_at t.links j).count (drop (link_at t.links j).first s.notes.items)) k ≡ note_at s.notes.items
              (link_at t.links j).first =
              kid-note k (let e = kids-length in omega (arith, e, low)) ∙ ap (note_at s.notes.items) (let e = out.0 in omega (arith, e)) in
              subst (λ (n : Note). IsWrittenWin rule (left_at (game_of rule s t).left j) (after (board_at (game_of rule s t) j) q) c
              (win_of n)) (sym note) first.win.0

    points-answer : (ps : List Point) → AllByRecursion (λ q. is_on (board_at (game_of rule s t) j) q ≡ true) ps
        → AllByRecursion (λ m. IsAnswer rule (left_at (game_of rule s t).left j) (board_at (game_of rule s t) j) c (answer_of m))
        (all_notes (take (link_at t.links j).count (drop (link_at t.links j).first s.notes.items)) ps)
    points-answer [] on = tt
    points-answer (q ∷ ps) on =
        let K : List Note = take (link_at t.links j).count (drop (link_at t.links j).first s.notes.items) in
        let found = note-for K q kids-some in
        let own : IsAnswer rule (left_at (game_of rule s t).left j) (board_at (game_of rule s t) j) c (answer_of (note_at K found.0)) =
        answer-by-win rule (left_at (game_of rule s t).left j) (board_at (game_of rule s t) j) c (answer_of (note_at K found.0))
        (note_at K found.0).moves (kids-on found.0 found.1.inside) (kids-win found.0 found.1.inside) in (
          record {
            on_board = on.0;
            accepted = λ go. (point-win q go).accepted;
            within = rw found.1.is own.within;
            stays = rw found.1.is own.stays;
          },
          points-answer ps on.1,
        )

    points-deep : (ps : List Point) → AllByRecursion (λ m. depth c m.node ≡ m.moves)
        (all_notes (take (link_at t.links j).count (drop (link_at t.links j).first s.notes.items)) ps)
    points-deep [] = tt
    points-deep (q ∷ ps) =
        let K : List Note = take (link_at t.links j).count (drop (link_at t.links j).first s.notes.items) in
        let found = note-for K q kids-some in (
          rw found.1.is (kids-win found.0 found.1.inside).deep,
          points-deep ps,
        )

    -- the node with these answers is a win at the node
    module _ (d : List Node) (i : ℕ) (p : Point) (move : (note_at s.notes.items j).at ≡ p)
        (wins : WinsByAnswers c p
        (map answer_of (all_notes (take (link_at t.links j).count (drop (link_at t.links j).first s.notes.items)) (points_of s.root))) d
        i)
      where
        pub node-win : IsWrittenWin rule (left_at (game_of rule s t).left node) (board_at (game_of rule s t) node) d
            (record {
              node = i;
              moves = greatest
                  (map (λ m. m.moves) (all_notes (take (link_at t.links j).count (drop (link_at t.links j).first s.notes.items))
                  (points_of s.root))) + 1;
            })
        node-win =
            let b : Grid = board_at (game_of rule s t) node in
            let K : List Note = take (link_at t.links j).count (drop (link_at t.links j).first s.notes.items) in
            let moved : move_at (map (λ n. n.at) s.notes.items) j ≡ p = get_or-map (λ (n : Note). n.at) s.notes.items j no_note nowhere
            (let long = notes-long in let f = facts.inside in omega (arith, long, f)) ∙ move in
            let on : outcome rule b p ≡ GoesOn = ap (outcome rule b) (sym moved) ∙ facts.on in
            let there : board_at (game_of rule s t) j ≡ after b p = facts.board ∙ ap (after b) moved in
            let left = ap (λ (q : Kind). left_before q (left_at (game_of rule s t).left j)) (sym defends) ∙ facts.fewer in
            let points : points_of (board_at (game_of rule s t) j) ≡ points_of s.root = points-same (game_of rule s t) j in
            let answered = rw points at
            (points-answer (points_of (board_at (game_of rule s t) j)) (points-on (board_at (game_of rule s t) j))) in
            rw left at (written-node rule b p on c d (all_notes K (points_of s.root)) (left_at (game_of rule s t).left j)
            (all-points K (points_of s.root) ∙ sym points ∙ ap points_of there) (λ q. rw there at (met.none_saves q))
            (rw there at answered) (points-deep (points_of s.root)) i wins)

  -- ---- the search with one win more

  module _ (more : List Node) (few : length more ≤ 1) (compiled : IsCompiled (c ++ more)) (win : WrittenWin) (some : 0 < win.moves)
      (true_win : IsNotedWin rule (left_at (game_of rule s t).left node) (board_at (game_of rule s t) node) (c ++ more) win)
      (u : Search) (rest : u ≡ record s { notes = u.notes }) (items : u.notes.items ≡ noted_won s.notes.items node win) where
    here : note_at u.notes.items node ≡ record (note_at s.notes.items node) { moves = win.moves; node = win.node }
    here = ap (λ (l : List Note). note_at l node) items
        ∙ get_or-set_same s.notes.items node (record (note_at s.notes.items node) { moves = win.moves; node = win.node }) no_note
        (let long = length-map s.notes.items (λ (n : Note). n.at) in let e = h.game.moves in omega (arith, long, e, inside))

    other-note : (i : ℕ) → i ≢ node → note_at u.notes.items i ≡ note_at s.notes.items i
    other-note i other = search (rules, get_or-set_other)

    same_left : (i : ℕ) → (note_at u.notes.items i).left ≡ (note_at s.notes.items i).left
    same_left i = elim (cases_eq i node) [
      | inl e ↦ ap (λ (k : ℕ). (note_at u.notes.items k).left) e ∙ ap (λ (n : Note). n.left) here
          ∙ ap (λ (k : ℕ). (note_at s.notes.items k).left) (sym e)
      | inr n ↦ ap (λ (n : Note). n.left) (other-note i n)
    ]

    pub won-keeps : KeepsTree s u
    won-keeps = record {
      rest = rest ∙ again;
      places = λ r v. ap (λ (w : Search). game_of r w v) rest ∙ won-places r s v u.notes.items node win items;
    } where
      again : record s { notes = u.notes } ≡ record s { notes = u.notes; settled = u.settled }
      again = ap (λ (w : Search). record s { notes = u.notes; settled = w.settled }) (sym rest)

    now-some : 0 < (note_at u.notes.items node).moves
    now-some = rw here some

    settled-here : is_settled (numbers_at t.numbers node) ≡ true
    settled-here = ap is_settled proved

    won-written : AreWritten (game_of rule s t) u.notes.items (c ++ more) (IsAbove t.links node)
    won-written =
        let grown = written-grown (game_of rule s t) s.notes.items c more (IsOnWayUp t.links node) lower h.written in
        record {
          true_wins = λ i low positive. elim (cases_eq i node) [
            | inl e ↦
                subst (λ (k : ℕ). IsNotedWin rule (left_at (game_of rule s t).left k) (board_at (game_of rule s t) k) (c ++ more)
                (win_of (note_at u.notes.items k))) (sym e)
                (rw here true_win)
            | inr other ↦
                subst (λ (n : Note). IsNotedWin rule (left_at (game_of rule s t).left i) (board_at (game_of rule s t) i) (c ++ more)
                (win_of n)) (sym (other-note i other))
                (grown.true_wins i low (rw (other-note i other) at positive))
          ];
          fresh = λ i low none unsettled. elim (cases_eq i node) [
            | inl e ↦ let is : is_settled (numbers_at t.numbers i) ≡ true =
                ap (λ (k : ℕ). is_settled (numbers_at t.numbers k)) e ∙ settled-here in let bad : true ≡ false = sym is ∙ unsettled in cc
            | inr other ↦ ap (λ (n : Note). n.moves) (other-note i other) ∙ h.written.fresh i low none unsettled
          ];
          leaves = λ i low none attacks numbers. elim (cases_eq i node) [
            | inl e ↦ subst (λ (k : ℕ). 0 < (note_at u.notes.items k).moves) (sym e) now-some
            | inr other ↦ subst (λ (n : Note). 0 < n.moves) (sym (other-note i other)) (h.written.leaves i low none attacks numbers)
          ];
          defends = h.written.defends;
          all = λ i low attacks numbers beside. elim (cases_eq i node) [
            | inl e ↦ subst (λ (k : ℕ). 0 < (note_at u.notes.items k).moves) (sym e) now-some
            | inr other ↦ subst (λ (n : Note). 0 < n.moves) (sym (other-note i other))
                (h.written.all i low attacks numbers (λ way. beside (way, other)))
          ];
          met = λ i low defends several q on none.
              let is = grown.met i low defends several q on none in
              let first : ℕ = (link_at t.links i).first in
              let other : first ≢ node = λ e. let nothing : (note_at s.notes.items first).moves ≡ 0 =
              ap (λ (k : ℕ). (note_at s.notes.items k).moves) e ∙ unwon in let positive = is.some in omega (arith, nothing, positive) in
              record {
                some = rw (other-note first other) is.some;
                win = rw (other-note first other) is.win;
              };
        }

    less : (f : ℕ → ℕ) → sum_below (length t.links) (unwritten f t u.notes.items) + f node
        ≤ sum_below (length t.links) (unwritten f t s.notes.items)
    less f = unwritten-less f t s.notes.items u.notes.items node inside attack unwon now-some other-note

    won-few : length (c ++ more) + sum_below (length t.links) (unwritten (λ i. 1) t u.notes.items) ≤ s.before + s.attacked
    won-few = omega (arith, less (λ i. 1), length-append c more, few, h.few)

    won-wins : length (c ++ more) + sum_below (length t.links) (unwritten (won_at (game_of rule s t)) t u.notes.items)
        + behind_leaves wins_behind (game_of rule s t) ≤ s.before + threat_wins rule s.depth s.root
    won-wins =
        let one = won-one rule (left_at (game_of rule s t).left node) (board_at (game_of rule s t) node) true_win.1 in
        omega (arith, less (won_at (game_of rule s t)), one, length-append c more, few, h.wins)

    pub won-searching : IsSearching rule u t (c ++ more) (IsAbove t.links node)
    won-searching =
        let same : game_of rule u t ≡ game_of rule s t = won-keeps.places rule t in
        rw rest (record {
          tree = h.tree;
          game = rw (won-places rule s t u.notes.items node win items) h.game;
          depth = same_left 0 ∙ h.depth;
          depth_fits = h.depth_fits;
          budget_fits = h.budget_fits;
          written = rw (won-places rule s t u.notes.items node win items) won-written;
          remembered =
              rw (won-places rule s t u.notes.items node win items)
              (memo-grown rule (game_of rule s t) c more s.settled lower h.remembered);
          counted = rw (won-places rule s t u.notes.items node win items) h.counted;
          spare = h.spare;
          compiled = compiled;
          few = won-few;
          wins = rw (won-places rule s t u.notes.items node win items) won-wins;
        })

module _ {rule : RuleKind} {s : Search} {t : Tree} {c : List Node} {node : ℕ} (searches : Searches rule s t c (IsOnWayUp t.links node))
    (inside : node < length t.links)
    (attack : (link_at t.links node).kind ≡ Attack) (proved : numbers_at t.numbers node ≡ settled_numbers true)
    (unwon : (note_at s.notes.items node).moves ≡ 0) where
  h : IsSearching rule s t c (IsOnWayUp t.links node)
  h = searching-facts searches

  pub compile-some : 0 < (link_at t.links node).count
  compile-some = node-some h inside attack proved unwon

  noted-length : length s.notes.items ≡ length t.links
  noted-length = sym (length-map s.notes.items (λ (n : Note). n.at)) ∙ h.game.moves

  pub compile-here : node < length s.notes.items
  compile-here = let e = noted-length in omega (arith, e, inside)

  own-left : left_at (game_of rule s t).left node ≤ 60
  own-left =
      let root : left_at (game_of rule s t).left 0 ≡ (note_at s.notes.items 0).left =
      get_or-map (λ (n : Note). n.left) s.notes.items 0 no_note 0 (let l = compile-here in omega (arith, l)) in
      omega (arith, left-low h.tree.linked h.game node inside, root, h.depth, h.depth_fits)

  module _ (j : ℕ) (child : IsChild (link_at t.links node) j) (nothing : (numbers_at t.numbers j).proof ≡ 0) where
    pub compile-inside : j < length t.links
    compile-inside = search rules

    pub compile-noted : j < length s.notes.items
    compile-noted = let e = noted-length in let l = compile-inside in omega (arith, e, l)

    pub compile-fits : (link_at t.links j).first + (link_at t.links j).count ≤ length s.notes.items
    compile-fits = let e = noted-length in let within = h.tree.linked.within j compile-inside in omega (arith, e, within)

    module _ (kids : List Note) (are : kids ≡ take (link_at t.links j).count (drop (link_at t.links j).first s.notes.items)) where
      pub compile-kids : 0 < length kids
      compile-kids = search (rules, kids-some)

      pub compile-below : All (λ n. n.node < length c) kids
      compile-below = rw are (kids-below h inside attack proved unwon j child nothing)

      module _ (d : List Node) (p : Point) (move : (note_at s.notes.items j).at ≡ p) (win : WrittenWin) (writes : Writes c d 1 (Ok win))
          (wins : WinsByAnswers c p (map answer_of (all_notes kids (points_of s.root))) d win.node)
          (moves : win.moves ≡ greatest (map (λ n. n.moves) (all_notes kids (points_of s.root))) + 1) where
        added : (more : List Node) × (d ≡ c ++ more) × (length more ≤ 1)
        added = (writes.grows.added, writes.grows.is, writes.grows.few)

        compiled : IsCompiled d
        compiled = writes.compiled

        pub compile-won : IsWrittenWin rule (left_at (game_of rule s t).left node) (board_at (game_of rule s t) node) d win
        compile-won =
            let K : List Note = take (link_at t.links j).count (drop (link_at t.links j).first s.notes.items) in
            let same : record { node = win.node; moves = greatest (map (λ (n : Note). n.moves) (all_notes K (points_of s.root))) + 1 }
            ≡ win = λ i. record {
              node = win.node;
              moves =
                  (ap (λ (ns : List Note). greatest (map (λ (n : Note). n.moves) (all_notes ns (points_of s.root))) + 1) (sym are)
                  ∙ sym moves) i;
            } in
            rw same at (node-win h inside attack proved unwon j child nothing d win.node p move (rw are at wins))

        pub compile-few : win.moves < 256
        compile-few = let within = compile-won.within in let left = own-left in omega (arith, within, left)

        module _ (u : Search) (rest : u ≡ record s { notes = u.notes }) (items : u.notes.items ≡ noted_won s.notes.items node win) where
          noted : IsNotedWin rule (left_at (game_of rule s t).left node) (board_at (game_of rule s t) node) d win
          noted = (compile-won, won-node rule s t c (IsOnWayUp t.links node) node h inside attack proved)

          pub compile-keeps : KeepsTree s u
          compile-keeps =
              let a = added in
              won-keeps h inside attack proved unwon a.0 a.2 (rw a.1 at compiled) win
              (win-some rule (left_at (game_of rule s t).left node) (board_at (game_of rule s t) node) d win compile-won)
              (rw a.1 at noted) u rest items

          pub compile-searches : Searches rule u t d (IsAbove t.links node)
          compile-searches = known_searching (
              let a = added in
              rw a.1 (won-searching h inside attack proved unwon a.0 a.2 (rw a.1 at compiled) win
              (win-some rule (left_at (game_of rule s t).left node) (board_at (game_of rule s t) node) d win compile-won)
              (rw a.1 at noted) u rest items))

  own-unwritten : (f : ℕ → ℕ) → unwritten f t s.notes.items node ≡ f node
  own-unwritten f = search (rules, eq-eqb)

  -- there is room for the node
  pub compile-room : 1 ≤ room_in (nodes_so_far rule s) c
  unfolding room_in nodes_so_far
  compile-room =
      let g : GameTree = game_of rule s t in
      let few = sum-one (length t.links) (unwritten (λ i. 1) t s.notes.items) node inside in
      let wins = sum-one (length t.links) (unwritten (won_at g) t s.notes.items) node inside in
      let one = won-one rule (left_at g.left node) (board_at g node)
      (won-node rule s t c (IsOnWayUp t.links node) node h inside attack proved) in
      omega (arith, own-unwritten (λ i. 1), few, h.few, own-unwritten (won_at g), wins, one, h.wins)
