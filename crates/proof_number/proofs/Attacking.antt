-- A step that gives a leaf of the attacker a child for each move to be tried, or settles it where there is none.
use Rattle.std.proofs.Common.{◌≡◌, ◌∙◌, refl, ℕ, zero, suc, ◌+◌, ◌-◌, ◌<◌, ◌≤◌, false, cond, ◌&&◌, not}
use Rattle.std.proofs.Common.{sym, ap, arith, append-nil, List, [], ◌∷◌, ◌++◌, length, map, replicate, inl, inr, All, subst}
use Rattle.std.proofs.Common.{rules}
use Rattle.std.proofs.lemmas.Bool.{eq-eqb}
use Rattle.std.proofs.lemmas.List.{get_or-map, get_or-replicate, length-map, length-replicate}
use Rattle.std.proofs.lemmas.List.Elements.{All-contains, All-from_get_or, All-replicate}
use Rattle.proof_number.proofs.Common.{Grid, IsPosition, mover, after, has_five, behind_replies, RuleKind, Point, Node, is_settled}
use Rattle.proof_number.proofs.Common.{other_kind, Tree, link_at, numbers_at, Kind, Attack, Defend, Numbers, threat_tree, move_at, nowhere}
use Rattle.proof_number.proofs.Common.{tried_moves, one_if, Note, Search, known_grown, no_note, note_at, AreTried, GameTree, HasTried}
use Rattle.proof_number.proofs.Common.{board_at, left_at, Grows, HasSpent, IsAtLeaf, IsExpandedAt, IsSettledAt, StandsAt, attacks_behind}
use Rattle.proof_number.proofs.Common.{behind_at, defences_behind, game_of, is_attack, sum_below, threat_wins, wins_behind, wins_by_threats}
use Rattle.game_rules.proofs.Positions.{mover-then}
use Rattle.proof_tree.proofs.SumLaws.{IsFresh, fresh-sum}
use Rattle.threat_game.proofs.Common.{OthersFail}
use Rattle.proof_number.proofs.Opening.{leaf-facts}
use Rattle.threat_game.proofs.TreeLaws.{IsTriedMove, replies-positive, tried-at, tried-behind}
use Rattle.proof_number.proofs.ExpandedCounts.{Expansion, IsNewNote, expanded-grown, new_behind, unwritten_child, sum-nothing, sum-under}
use Rattle.proof_number.proofs.ExpandedCounts.{unproved_child, unwritten_win}
use Rattle.proof_number.proofs.Expanding.{IsNewChild}
use Rattle.proof_number.proofs.Recording.{keeps-all}
use Rattle.proof_number.proofs.RunningOut.{runs-out}
use Rattle.proof_number.proofs.WinLaws.{tried-wins}
use Rattle.proof_number.proofs.Steps.{attack-moves, attack-no_five, leaf-compiled, leaf-lawful, leaf-noted, lost-step}
use Rattle.proof_number.proofs.Sums.{sum-le, sum-list, sum-one}
use Rattle.threat_game.proofs.AttackLaws.{none-tried, tried-enough, tried-or-saved}

-- the note of a node of which nothing is known
abbrev pub open_note : ℕ → Point → Note
open_note m p = record { at = p; left = m; moves = 0; node = 0 }

-- the numbers of such a node
abbrev pub open_one : Numbers
open_one = record { proof = 1; disproof = 1 }

-- the points of the notes are the moves
notes-moves : (m : ℕ) (ps : List Point) → map (λ (n : Note). n.at) (map (open_note m) ps) ≡ ps
notes-moves m [] = refl
notes-moves m (p ∷ ps) = ap (λ (qs : List Point). p ∷ qs) (notes-moves m ps)

note-of : (m : ℕ) (ps : List Point) (j : ℕ) → j < length ps → note_at (map (open_note m) ps) j ≡ open_note m (move_at ps j)
note-of m ps j low = get_or-map (open_note m) ps j nowhere no_note low

-- ---- the moves to be tried from one board, where the attacker has m moves left behind each

module _ (rule : RuleKind) (b : Grid) (lawful : IsPosition rule b) (none : has_five rule b (mover b) ≡ false)
    (others : OthersFail rule b) where
  all-tried : All (IsTriedMove rule b) (tried_moves rule b)
  all-tried = All-from_get_or (IsTriedMove rule b) (tried_moves rule b) nowhere (tried-at rule b)

  moves-tried : (m : ℕ) → AreTried rule m b (tried_moves rule b)
  moves-tried m = record {
    on = λ p has. (All-contains (IsTriedMove rule b) (tried_moves rule b) p all-tried has).on;
    threat = λ p has. (All-contains (IsTriedMove rule b) (tried_moves rule b) p all-tried has).threat;
    enough = tried-enough rule m b none others;
    no_five = none;
    others = tried-or-saved rule b others;
  }

  -- the child behind a move
  child-tried : (m : ℕ) (p : Point) → 1 ≤ m → IsTriedMove rule b p → IsNewChild rule Attack (suc m) b p m open_one
  child-tried m p l is = record {
    on = is.on;
    fewer = refl;
    grows = λ e. (ap (has_five rule (after b p)) (mover-then rule b p lawful is.on) ∙ is.safe, l, is.reply);
    tells = record {
      proved = λ e. absurd (let bad : 1 ≡ 0 = ap (λ (n : Numbers). n.proof) e in omega (arith, bad));
      disproved = λ e wins. let bad : 1 ≡ 0 = ap (λ (n : Numbers). n.disproof) e in omega (arith, bad);
    };
    not_lost = λ e. let bad : 1 ≡ 0 = ap (λ (n : Numbers). n.disproof) e in omega (arith, bad);
  }

  note-tried : (m : ℕ) (p : Point) (c : List Node) → IsNewNote rule Attack b c (open_note m p) open_one
  note-tried m p c = record {
    true_win = λ some. absurd (omega (arith, some));
    fresh = λ e. refl;
    proved = λ e. absurd (let bad : 1 ≡ 0 = ap (λ (n : Numbers). n.proof) e in omega (arith, bad));
  }

  -- the positions of the game behind a move
  abbrev behind : ℕ → Point → ℕ
  behind m p = behind_replies rule (threat_tree rule m) (after b p)

  behind-all : (m : ℕ) → 1 ≤ m → 1 + sum_below (length (tried_moves rule b)) (λ j. behind m (move_at (tried_moves rule b) j)) ≤ threat_tree
      rule (suc m) b
  behind-all zero l = absurd (omega arith)
  behind-all (suc n) l = omega (arith, tried-behind rule n b none, sum-list (behind (suc n)) nowhere (tried_moves rule b))

  -- one position of the defender stands behind each
  behind-each : (m : ℕ) → sum_below (length (tried_moves rule b)) (λ j. behind m (move_at (tried_moves rule b) j) - 1) + length
      (tried_moves rule b) ≤ sum_below (length (tried_moves rule b)) (λ j. behind m (move_at (tried_moves rule b) j))
  behind-each m =
      sum-under (length (tried_moves rule b)) (λ j. behind m (move_at (tried_moves rule b) j) - 1)
      (λ j. behind m (move_at (tried_moves rule b) j))
      (λ j low. let some = replies-positive rule m (after b (move_at (tried_moves rule b) j)) (tried-at rule b j low).reply in
      omega (arith, some))

  -- there are fewer moves to be tried than positions
  moves-few : (m : ℕ) → 1 ≤ m → 1 + length (tried_moves rule b) ≤ threat_tree rule (suc m) b
  moves-few m l = let a = behind-all m l in let d = behind-each m in omega (arith, a, d)

-- ---- at a leaf of the attacker

module _ {rule : RuleKind} {s : Search} {t : Tree} {c : List Node} {leaf : ℕ} (stands : StandsAt rule s t c leaf s.board)
    (attack : (link_at t.links leaf).kind ≡ Attack) (others : OthersFail rule s.board) where
  here : IsAtLeaf rule s t c leaf s.board
  here = leaf-facts stands

  no-five : has_five rule s.board (mover s.board) ≡ false
  no-five = attack-no_five stands attack

  two-moves : 2 ≤ (note_at s.notes.items leaf).left
  two-moves = attack-moves stands attack

  -- where there is no move to be tried the leaf is settled
  pub none-grows : tried_moves rule s.board ≡ [] → (u : Tree) → IsSettledAt t u leaf false → Grows rule s s t u c leaf
  none-grows empty u st =
      lost-step stands attack u st s refl refl here.searching.remembered
      (none-tried rule (note_at s.notes.items leaf).left s.board no-five others empty (let l = two-moves in omega (arith, l)))
      (λ several. record {
        no_five = no-five;
        refuted = λ p threat. elim (tried-or-saved rule s.board others p threat) [
          | inl listed ↦
              let nothing = rw empty at listed in
              absurd (omega (arith, nothing.1))
          | inr saved ↦ inl saved
        ];
      }) (λ root. inr empty)

  left-noted : left_at (game_of rule s t).left leaf ≡ (note_at s.notes.items leaf).left
  left-noted = get_or-map (λ (n : Note). n.left) s.notes.items leaf no_note 0 (leaf-noted stands)

  -- the positions of the defender behind the leaf are counted from the root
  defences-fit : s.defended + threat_tree rule (note_at s.notes.items leaf).left s.board ≤ 1 + threat_tree rule s.depth s.root
  defences-fit =
      let g : GameTree = game_of rule s t in
      let own : behind_at defences_behind g leaf ≡ threat_tree rule (left_at g.left leaf) (board_at g leaf) - 1 =
      ap (λ r. cond (r && not (is_settled (numbers_at t.numbers leaf)))
      (defences_behind (link_at t.links leaf).kind rule (left_at g.left leaf) (board_at g leaf)) 0)
      (eq-eqb (link_at t.links leaf).count 0 here.childless)
      ∙ ap (λ r. cond (not r) (defences_behind (link_at t.links leaf).kind rule (left_at g.left leaf) (board_at g leaf)) 0) here.leaf_open
      ∙ ap (λ (k : Kind). defences_behind k rule (left_at g.left leaf) (board_at g leaf)) attack in
      let low = sum-one (length t.links) (behind_at defences_behind g) leaf here.in_tree in
      let tree_is : threat_tree rule (note_at s.notes.items leaf).left s.board ≡ threat_tree rule (left_at g.left leaf) (board_at g leaf) =
      ap (λ (n : ℕ). threat_tree rule n s.board) (sym left-noted) ∙ ap (threat_tree rule (left_at g.left leaf)) here.view_is in
      let first : left_at g.left 0 ≡ s.depth = get_or-map (λ (n : Note). n.left) s.notes.items 0 no_note 0
      (let l = leaf-noted stands in omega (arith, l)) ∙ here.searching.depth in
      let root_is = ap (λ (n : ℕ). threat_tree rule n s.root) first in
      omega (arith, own, low, tree_is, root_is, here.searching.counted.defences)

  module _ (m : ℕ) (left_is : (note_at s.notes.items leaf).left ≡ suc m) where
    one-move : 1 ≤ m
    one-move = let l = two-moves in omega (arith, l, left_is)

    lawful-here : IsPosition rule s.board
    lawful-here = leaf-lawful stands

    tree-here : threat_tree rule (note_at s.notes.items leaf).left s.board ≡ threat_tree rule (suc m) s.board
    tree-here = ap (λ (n : ℕ). threat_tree rule n s.board) left_is

    -- where the budget does not reach, the game has more positions
    pub moves-spent : s.budget < s.defended + length (tried_moves rule s.board) → HasSpent rule s s t t c leaf
    moves-spent over = record {
      searching = here.searching;
      spent = (let a = defences-fit in let d = moves-few rule s.board lawful-here no-five others m one-move in let e =
          tree-here in omega (arith, over, a, d, e));
      ran_out = runs-out stands Attack attack (inr over);
      same = refl;
      keeps = keeps-all s;
    }

    -- what is known of the kind, the moves and the board of the leaf
    at-leaf-is : (P : Kind → ℕ → Grid → Type 0) → P Attack (suc m) s.board
        → P (link_at t.links leaf).kind (left_at (game_of rule s t).left leaf) (board_at (game_of rule s t) leaf)
    at-leaf-is P h = search (rules, left-noted)

    module _ (some : 0 < length (tried_moves rule s.board)) (u : Tree) (more : List Numbers)
        (are : more ≡ replicate (length (tried_moves rule s.board)) open_one) (e : IsExpandedAt t u leaf more)
        (v : Search) (ms : List Note) (noted : ms ≡ map (open_note m) (tried_moves rule s.board))
        (items : v.notes.items ≡ s.notes.items ++ ms)
        (rest : v ≡ record s { notes = v.notes; defended = s.defended + length (tried_moves rule s.board) })
        (fits : s.defended + length (tried_moves rule s.board) ≤ s.budget) where
      long : length more ≡ length (tried_moves rule s.board)
      long = ap length are ∙ length-replicate (length (tried_moves rule s.board)) open_one

      note-at : (j : ℕ) → j < length more → note_at ms j ≡ open_note m (move_at (tried_moves rule s.board) j)
      note-at j low = ap (λ (ns : List Note). note_at ns j) noted ∙ note-of m (tried_moves rule s.board) j (omega (arith, low, long))

      number-at : (j : ℕ) → j < length more → numbers_at more j ≡ open_one
      number-at j low = ap (λ (ns : List Numbers). numbers_at ns j) are
          ∙ get_or-replicate (length (tried_moves rule s.board)) j open_one (record { proof = 0; disproof = 0 }) (omega (arith, low, long))

      fresh : All IsFresh more
      fresh = rw are (All-replicate IsFresh (length (tried_moves rule s.board)) open_one (inl refl))

      child-at : (j : ℕ) → j < length more → IsNewChild rule (link_at t.links leaf).kind (left_at (game_of rule s t).left leaf)
          (board_at (game_of rule s t) leaf) (note_at ms j).at (note_at ms j).left (numbers_at more j)
      child-at j low =
          at-leaf-is (λ k n b. IsNewChild rule k n b (note_at ms j).at (note_at ms j).left (numbers_at more j))
          (rw (number-at j low)
          (rw (note-at j low)
          (child-tried rule s.board lawful-here no-five others m (move_at (tried_moves rule s.board) j) one-move
          (tried-at rule s.board j (omega (arith, low, long))))))

      noted-at : (j : ℕ) → j < length more → IsNewNote rule (link_at t.links leaf).kind (board_at (game_of rule s t) leaf) (c ++ [])
          (note_at ms j) (numbers_at more j)
      noted-at j low =
          at-leaf-is (λ k n b. IsNewNote rule k b (c ++ []) (note_at ms j) (numbers_at more j))
          (rw (number-at j low)
          (rw (note-at j low)
          (note-tried rule s.board lawful-here no-five others m (move_at (tried_moves rule s.board) j) (c ++ []))))

      tried-here : HasTried (link_at t.links leaf).kind rule (left_at (game_of rule s t).left leaf) (board_at (game_of rule s t) leaf)
          (map (λ (n : Note). n.at) ms)
      tried-here =
          at-leaf-is (λ k n b. HasTried k rule n b (map (λ (n : Note). n.at) ms))
          (rw (ap (map (λ (n : Note). n.at)) noted ∙ notes-moves m (tried_moves rule s.board))
          (moves-tried rule s.board lawful-here no-five others m))

      -- what is counted behind a child
      child-behind-is : (f : Kind → RuleKind → ℕ → Grid → ℕ) (j : ℕ) → j < length more
          → new_behind f rule (link_at t.links leaf).kind (board_at (game_of rule s t) leaf) (note_at ms j) (numbers_at more j) ≡ f Defend
          rule m (after s.board (move_at (tried_moves rule s.board) j))
      child-behind-is f j low =
          at-leaf-is (λ k n b. new_behind f rule k b (note_at ms j) (numbers_at more j) ≡ f Defend rule m
          (after s.board (move_at (tried_moves rule s.board) j)))
          (ap (new_behind f rule Attack s.board (note_at ms j)) (number-at j low)
          ∙ ap (λ (n : Note). new_behind f rule Attack s.board n open_one) (note-at j low))

      same-sum : (f : Kind → RuleKind → ℕ → Grid → ℕ) → sum_below (length more)
          (λ j. new_behind f rule (link_at t.links leaf).kind (board_at (game_of rule s t) leaf) (note_at ms j) (numbers_at more j))
          ≤ sum_below (length (tried_moves rule s.board)) (λ j. f Defend rule m (after s.board (move_at (tried_moves rule s.board) j)))
      same-sum f =
          subst (λ (n : ℕ). sum_below (length more)
          (λ j. new_behind f rule (link_at t.links leaf).kind (board_at (game_of rule s t) leaf) (note_at ms j) (numbers_at more j))
          ≤ sum_below n (λ j. f Defend rule m (after s.board (move_at (tried_moves rule s.board) j)))) long
          (sum-le (length more) _ _ (λ j low. let same = child-behind-is f j low in omega (arith, same)))

      count-is : v.attacked ≡ s.attacked
      count-is = ap (λ (w : Search). w.attacked) rest

      defended-is : v.defended ≡ s.defended + length (tried_moves rule s.board)
      defended-is = ap (λ (w : Search). w.defended) rest

      written-none : sum_below (length more) (λ j. unwritten_child (link_at t.links leaf).kind (note_at ms j)) ≡ 0
      written-none = search (rules, sum-nothing, unwritten_child)

      unproved-none : sum_below (length more) (λ j. unproved_child (link_at t.links leaf).kind (numbers_at more j)) ≡ 0
      unproved-none = search (rules, sum-nothing, unproved_child)

      wins-none : sum_below (length more)
          (λ j. unwritten_win rule (link_at t.links leaf).kind (board_at (game_of rule s t) leaf) (note_at ms j)) ≡ 0
      wins-none = search (rules, sum-nothing, unwritten_win)

      attackers-none : sum_below (length more) (λ j. cond (is_attack (other_kind (link_at t.links leaf).kind)) 1 0) ≡ 0
      attackers-none = search (rules, sum-nothing)

      pub moves-grow : Grows rule s v t u c leaf
      moves-grow = known_grown (
          let attacks = same-sum attacks_behind in
          let defences = same-sum defences_behind in
          let all = behind-all rule s.board lawful-here no-five others m one-move in
          let each = behind-each rule s.board lawful-here no-five others m in
          let attacks_left = at-leaf-is (λ k n b. attacks_behind k rule n b ≡ threat_tree rule (suc m) s.board - 1) refl in
          let defences_left = at-leaf-is (λ k n b. defences_behind k rule n b ≡ threat_tree rule (suc m) s.board - 1) refl in
          let wins = same-sum wins_behind in
          let tried = tried-wins rule m s.board no-five in
          let all_wins = sum-list (λ p. behind_replies rule (threat_wins rule m) (after s.board p)) nowhere (tried_moves rule s.board) in
          let wins_left = at-leaf-is
          (λ k n b. wins_behind k rule n b ≡ threat_wins rule (suc m) s.board - one_if (wins_by_threats rule (suc m) s.board)) refl in
          let budget = here.searching.counted.attacked_fits in
          let count = count-is in
          let defended = defended-is in
          let size = long in
          let unwritten = written-none in
          let same_table : v.settled ≡ s.settled = ap (λ (w : Search). w.settled) rest in
          let x : Expansion rule s v t u c [] leaf s.board more ms = record {
            at_leaf = here;
            expanded = e;
            rest = rest ∙ ap (λ (w : Search). record s
                { board = w.board; notes = v.notes; settled = w.settled; attacked = w.attacked; defended = w.defended }) (sym rest);
            same_board = ap (λ (w : Search). w.board) rest;
            compiled = rw (append-nil c) (leaf-compiled stands);
            table = rw (append-nil c) (rw same_table here.searching.remembered);
            items = items;
            many = ap length noted ∙ length-map (tried_moves rule s.board) (open_note m) ∙ sym long;
            some = omega (arith, some, size);
            tried = tried-here;
            each = child-at;
            noted = noted-at;
            attacked_more = omega (arith, count);
            defended_more = omega (arith, defended);
            attacked_fits = omega (arith, count, budget);
            defended_fits = omega (arith, defended, fits);
            low = λ kind. fresh-sum kind more fresh;
            met = λ defends q on none. let bad : Attack ≡ Defend = sym attack ∙ defends in cc;
            short = omega (arith, count, unwritten);
            attackers_counted = omega (arith, count, attackers-none);
            few_counted = omega (arith, count, unproved-none, attackers-none);
            defenders_counted = omega (arith, defended, size, attackers-none);
            attacks_counted = omega (arith, count, attacks, all, attacks_left);
            defences_counted = omega (arith, defended, defences, all, each, defences_left);
            wins_counted = omega (arith, wins-none, wins, tried, all_wins, wins_left);
          } in
          rw (append-nil c) at (expanded-grown x))
