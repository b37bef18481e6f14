-- The numbers and notes of the children of a node of the defender, one after another. A leaf of the defender is settled where a reply
-- leaves no win, or else gets a child for each reply.
use Rattle.std.proofs.Common.{subst, ◌≡◌, ◌⊎◌, inl, inr, ℕ, ◌+◌, ◌<◌, ◌≤◌, refl, sym, ap, ◌∙◌, arith}
use Rattle.std.proofs.Common.{List, [], ◌∷◌, ◌++◌, length, take, Option, Some, None, IfSome, is_none, sum_by, suc, rules, ◌-◌}
use Rattle.std.proofs.Common.{Bool, true, false, cond, ◌&&◌, not, map, All, ◌*◌, get_or}
use Rattle.std.proofs.lemmas.Bool.{cases_lt, eq-eqb, ne_eqb}
use Rattle.std.proofs.lemmas.List.{get_or_append_left, get_or_push, length_push, get_or-map}
use Rattle.std.proofs.lemmas.List.Sums.{sum_by_more, sum_by_more_le, sum_by-cons, sum_by-le}
use Rattle.std.proofs.lemmas.List.Elements.{All-from_get_or}
use Rattle.proof_number.proofs.Common.{IsSearching, RuleKind, GoesOn, Point, Grid, after, is_empty, points_of, IsPosition, mover, outcome}
use Rattle.proof_number.proofs.Common.{goes_on, LosesOr, WinsByThreats, has_five, if_goes_on, behind_replies, Numbers, Kind, Attack, Defend}
use Rattle.proof_number.proofs.Common.{no_numbers, numbers_at, is_settled, other_kind, settled_numbers, Tree, link_at, Node, NamesLower}
use Rattle.proof_number.proofs.Common.{WrittenWin, GrowsBy, IsCompiled, Child, Children, Judged, Five, Last, Open, IsThreatWin}
use Rattle.proof_number.proofs.Common.{LosesToThreats, is_open, moves_for, nodes_for, threat_tree, Note, Search, known_grown}
use Rattle.proof_number.proofs.Common.{most_nodes, room_in, AreSettled, IsSettledChild, child_at, child_note, child_numbers, no_child}
use Rattle.proof_number.proofs.Common.{no_note, note_at, win_of, open_numbers, AreMet, CanGrow, GameTree, HasTried, TellsTruly, WinsAt}
use Rattle.proof_number.proofs.Common.{among, board_at, left_at, Grows, HasSpent, IsAtLeaf, IsExpandedAt, IsNotedWin}
use Rattle.proof_number.proofs.Common.{IsSettledAt, StandsAt, attacks_behind, behind_at, defences_behind, game_of, is_attack, sum_below}
use Rattle.proof_number.proofs.Common.{IsLostAt, WinsByFewFours, IsBare, threat_wins, wins_behind}
use Rattle.game_rules.proofs.Common.{five, foul_of}
use Rattle.game_rules.proofs.Points.{any_witness}
use Rattle.game_rules.proofs.Positions.{IsPosition-after}
use Rattle.game_rules.proofs.Outcomes.{goes_on-is, not-last, none-draws}
use Rattle.game_rules.proofs.Games.{win-has_five}
use Rattle.proof_tree.proofs.SumLaws.{IsFresh, fresh-sum}
use Rattle.proof_tree.proofs.Settled.{proved-apart}
use Rattle.strategy_graph.proofs.Filling.{IsTable-lower}
use Rattle.strategy_compiler.proofs.Growing.{growth_keeps-wins, win-some, grows-length, grows-then}
use Rattle.threat_game.specs.declared.replies.Judged.TheVariants.{DoublePoint as DoubleWins}
use Rattle.threat_game.proofs.Common.{has_reply, AreChildren, HasEscape, IsChild, counted_for, is_standing, kept_children, stands_for}
use Rattle.threat_game.proofs.ReplyLaws.{judged-short, judged-three, counted-three}
use Rattle.threat_game.proofs.Kept.{kept-covers, kept-each, kept-sum, stands-standing}
use Rattle.threat_game.proofs.TreeLaws.{children-within, counted-few, one_where, counted-one, open_one, counted-parts, open_behind}
use Rattle.threat_game.proofs.TreeLaws.{whole-by}
use Rattle.threat_game.proofs.AttackLaws.{escape-saves}
use Rattle.proof_number.proofs.Opening.{leaf-facts}
use Rattle.proof_number.proofs.RunningOut.{runs-out}
use Rattle.proof_number.proofs.WinLaws.{replies-within, wins-own}
use Rattle.proof_number.proofs.ExpandedCounts.{Expansion, IsNewNote, expanded-grown, new_behind, unwritten_child, unproved_child}
use Rattle.proof_number.proofs.ExpandedCounts.{unwritten_win}
use Rattle.proof_number.proofs.Expanding.{IsNewChild}
use Rattle.proof_number.proofs.Growing.{lost-grown}
use Rattle.proof_number.proofs.Remembering.{memo-grown}
use Rattle.proof_number.proofs.Steps.{leaf-lawful, leaf-noted}
use Rattle.proof_number.proofs.Sums.{sum-le, sum-list, sum-one, sum-ones, sum-split}

-- what is noted first of a child
abbrev pub first_note : Child → ℕ → Note
first_note child left = record { at = child.at; left = left; moves = 0; node = 0 }

-- what may stand after other replies is not open
standing-shut : (judged : Judged) → is_open judged ≡ true → is_standing judged ≡ true → ⊥
standing-shut judged h e = search rules

module _ (rule : RuleKind) (left : ℕ) (c : Grid) where
  -- a child stays settled where the compiler grows
  child-grown : (t more : List Node) (child : Child) (numbers : Numbers) (note : Note) → NamesLower t
      → IsSettledChild rule left c t child numbers note → IsSettledChild rule left c (t ++ more) child numbers note
  child-grown t more child numbers note lower h = record {
    at = h.at;
    left_is = h.left_is;
    proved = λ e. let p = h.proved e in
        (p.0, p.1, (growth_keeps-wins rule left (after c child.at) t more (win_of note) lower p.2.0, p.2.1));
    unproved = h.unproved;
    stands = λ met same is. let p = h.stands met same is in
        (p.0, (growth_keeps-wins rule left (after c met.at) t more (win_of note) lower p.1.0, p.1.1));
  }

  -- a child is settled by the win that is compiled for it
  pub child-settled : (t : List Node) (child : Child) (win : Option WrittenWin) → is_none win ≡ is_open child.judged
      → moves_for child.judged ≤ left
      → IfSome win (λ (found : WrittenWin). (moves : ℕ) → moves_for child.judged ≤ moves
      → IsThreatWin rule moves (after c child.at) t found)
      → IfSome win (λ (found : WrittenWin). (moves : ℕ) (met : Child) → stands_for child.judged met.judged ≡ true → IsChild rule moves c met
      → IsThreatWin rule moves (after c met.at) t found)
      → IsSettledChild rule left c t child (child_numbers win) (child_note (first_note child left) win)
  child-settled t child None e enough h k = record {
    at = refl;
    left_is = refl;
    proved = λ f. cc;
    unproved = λ f. (refl, refl);
    stands = λ met same is. absurd (standing-shut child.judged (sym e) (stands-standing child.judged met.judged same));
  }
  child-settled t child (Some found) e enough h k =
      let is : IsThreatWin rule left (after c child.at) t found = h left enough in
      record {
        at = refl;
        left_is = refl;
        proved = λ f. (refl, win-some rule left (after c child.at) t found is.written, (is.written, is.by_threats));
        unproved = λ f. cc;
        stands = λ met same child_is. let won = k left met same child_is in
            (win-some rule left (after c met.at) t found won.written, (won.written, won.by_threats));
      }

  module _ (children : List Child) where
    -- one more child
    pub one-settled : (t more : List Node) (k : ℕ) (numbers : List Numbers) (notes : List Note) (child : Child) (n : Numbers) (note : Note)
        → NamesLower t → AreSettled rule left c t children k numbers notes
        → child_at children k ≡ child → IsSettledChild rule left c (t ++ more) child n note
        → AreSettled rule left c (t ++ more) children (k + 1) (numbers ++ n ∷ []) (notes ++ note ∷ [])
    one-settled t more k numbers notes child n note lower old is new = record {
      numbers_count = length_push numbers n ∙ ap (λ (m : ℕ). m + 1) old.numbers_count;
      notes_count = length_push notes note ∙ ap (λ (m : ℕ). m + 1) old.notes_count;
      each = λ j low. by_place j low (cases_lt j k);
    } where
      moved : (x y : Child) (a b : Numbers) (p q : Note) → x ≡ y → a ≡ b → p ≡ q → IsSettledChild rule left c (t ++ more) y b q
          → IsSettledChild rule left c (t ++ more) x a p
      moved x y a b p q ex ea ep h = rw (ex, ea, ep) h

      by_place : (j : ℕ) → j < k + 1 → (j < k) ⊎ (k ≤ j)
          → IsSettledChild rule left c (t ++ more) (child_at children j) (numbers_at (numbers ++ n ∷ []) j) (note_at (notes ++ note ∷ []) j)
      by_place j low (inl before) =
          moved (child_at children j) (child_at children j) (numbers_at (numbers ++ n ∷ []) j) (numbers_at numbers j)
          (note_at (notes ++ note ∷ []) j) (note_at notes j) refl
          (get_or_append_left numbers (n ∷ []) no_numbers j (let e = old.numbers_count in omega (arith, e, before)))
          (get_or_append_left notes (note ∷ []) no_note j (let e = old.notes_count in omega (arith, e, before)))
          (child-grown t more (child_at children j) (numbers_at numbers j) (note_at notes j) lower (old.each j before))
      by_place j low (inr past) =
          let last : j ≡ k = omega (arith, low, past) in
          moved (child_at children j) child (numbers_at (numbers ++ n ∷ []) j) n (note_at (notes ++ note ∷ []) j) note
          (ap (child_at children) last ∙ is)
          (get_or_push numbers n no_numbers j (old.numbers_count ∙ sym last))
          (get_or_push notes note no_note j (old.notes_count ∙ sym last)) new

    -- the same in the words of a loop
    pub more-settled : (t u : List Node) (k count : ℕ) (numbers new_numbers : List Numbers) (notes new_notes : List Note) (child : Child)
        (win : Option WrittenWin) → NamesLower t → AreSettled rule left c t children k numbers notes
        → child_at children k ≡ child → is_none win ≡ is_open child.judged → moves_for child.judged ≤ left
        → IfSome win (λ (found : WrittenWin). (moves : ℕ) → moves_for child.judged ≤ moves
        → IsThreatWin rule moves (after c child.at) u found)
        → IfSome win (λ (found : WrittenWin). (moves : ℕ) (met : Child) → stands_for child.judged met.judged ≡ true
        → IsChild rule moves c met → IsThreatWin rule moves (after c met.at) u found) → GrowsBy t u count
        → new_numbers ≡ numbers ++ child_numbers win ∷ [] → new_notes ≡ notes ++ child_note (first_note child left) win ∷ []
        → AreSettled rule left c u children (k + 1) new_numbers new_notes
    more-settled t u k count numbers new_numbers notes new_notes child win lower old is open_is enough wins stands grows numbers_are
        notes_are =
        let new = rw grows.is at (child-settled u child win open_is enough wins stands) in
        let all = one-settled t grows.added k numbers notes child (child_numbers win) (child_note (first_note child left) win) lower old is
        new in
        rw grows.is (rw numbers_are (rw notes_are all))

-- ---- the nodes that are compiled

module _ (children : List Child) (a b d : List Node) (k : ℕ) (low : k < length children) (child : Child) (is : child_at children k ≡ child)
    (first : GrowsBy a b (sum_by (λ (x : Child). nodes_for x.judged) (take k children))) where
  nodes-at : nodes_for (child_at children k).judged ≡ nodes_for child.judged
  nodes-at = ap (λ (x : Child). nodes_for x.judged) is

  pub nodes-more : GrowsBy b d (nodes_for child.judged) → GrowsBy a d (sum_by (λ (x : Child). nodes_for x.judged) (take (k + 1) children))
  nodes-more next = search (rules, sum_by_more, nodes-at, grows-then)

  pub nodes-within : GrowsBy b d (nodes_for child.judged) → GrowsBy a d (sum_by (λ (x : Child). nodes_for x.judged) children)
  nodes-within next = search (rules, sum_by_more_le, nodes-at, grows-then)

  -- where there is no room for the nodes of one child, there is none for those of all
  pub no-room : (most : ℕ) → most < length b + nodes_for child.judged
      → most < length a + sum_by (λ (x : Child). nodes_for x.judged) children
  no-room most over =
      let e = sum_by_more_le (λ (x : Child). nodes_for x.judged) children k no_child low in
      let long = grows-length a b (sum_by (λ (x : Child). nodes_for x.judged) (take k children)) first in
      omega (arith, e, nodes-at, long, over)

-- ---- where a reply goes on, none fills the board

-- no reply wins or fills the board, where the side to move has no five point and some reply goes on
pub none-saves : (rule : RuleKind) (b : Grid) → has_five rule b (mover b) ≡ false → has_reply rule b ≡ true → (q : Point)
    → LosesOr (outcome rule b q) (Unit {0})
unfolding outcome
none-saves rule b none reply q =
    let going = any_witness (λ p. goes_on (outcome rule b p)) (points_of b) reply in
    let more = not-last (is_empty b going.0) (five rule b (mover b) going.0) _ (foul_of rule b (mover b) going.0)
    (goes_on-is (outcome rule b going.0) going.1) in
    none-draws (is_empty b q) (five rule b (mover b) q) _ (foul_of rule b (mover b) q) more
    (λ wins. let has = win-has_five rule b q wins in let bad : true ≡ false = sym has ∙ none in cc)

-- ---- what is counted for the children

sum-parts : (f g h : Child → ℕ) → ((x : Child) → f x + g x ≤ h x) → (xs : List Child) → sum_by f xs + sum_by g xs ≤ sum_by h xs
sum-parts f g h low [] = omega arith
sum-parts f g h low (x ∷ xs) = search (rules, sum_by-cons, sum-parts f g h low xs)

sum-many : (h : Child → ℕ) → ((x : Child) → 1 ≤ h x) → (xs : List Child) → length xs ≤ sum_by h xs
sum-many h one [] = omega arith
sum-many h one (x ∷ xs) = let rest = sum-many h one xs in let here = one x in let d = sum_by-cons h x xs in omega (arith, rest, here, d)

-- children settled at what is the same
pub settled-same : {rule : RuleKind} {l k : ℕ} {b c : Grid} {d : List Node} {xs ys : List Child} {ns more : List Numbers}
    {ps ms : List Note}
    → l ≡ k → b ≡ c → xs ≡ ys → more ≡ ns → ms ≡ ps
    → AreSettled rule l b d xs (length xs) ns ps → AreSettled rule k c d ys (length ys) more ms
settled-same el eb ex en em h = rw (← el, ← eb, ← ex, en, em) h

-- children at what is the same
pub each-same : {rule : RuleKind} {l k : ℕ} {b c : Grid} {xs ys : List Child} → l ≡ k → b ≡ c → xs ≡ ys → All (IsChild rule k c) ys
    → All (IsChild rule l b) xs
each-same el eb ex h = rw (el, eb, ex) h

-- the points of notes
same-points : (ms : List Note) (items : List Child) → length ms ≡ length items
    → ((j : ℕ) → j < length items → (note_at ms j).at ≡ (child_at items j).at)
    → map (λ (n : Note). n.at) ms ≡ map (λ (child : Child). child.at) items
same-points [] [] e h = refl
same-points [] (x ∷ items) e h = absurd (omega (arith, e))
same-points (m ∷ ms) [] e h = absurd (omega (arith, e))
same-points (m ∷ ms) (x ∷ items) e h =
    ap (λ (p : Point). p ∷ map (λ (n : Note). n.at) ms) (h 0 (omega arith))
    ∙ ap (λ (ps : List Point). x.at ∷ ps) (same-points ms items (omega (arith, e)) (λ j low. h (suc j) (omega (arith, low))))

-- open and settled numbers are apart
open-apart : (r : Bool) → open_numbers ≡ settled_numbers r → ⊥
open-apart r e = search rules

-- ---- one child

module _ (rule : RuleKind) (left : ℕ) (b : Grid) (d : List Node) (child : Child) (numbers : Numbers) (note : Note)
    (is : IsChild rule left b child) (settled : IsSettledChild rule left b d child numbers note) where
  fresh-by : (r : Bool) → is_open child.judged ≡ r → IsFresh numbers
  fresh-by true e = inl (settled.unproved e).0
  fresh-by false e = inr (settled.proved e).0

  pub child-fresh : IsFresh numbers
  child-fresh = fresh-by (is_open child.judged) refl

  -- an open child can grow
  grows-by : (judged : Judged) → child.judged ≡ judged → is_settled numbers ≡ false
      → (has_five rule (after b child.at) (mover (after b child.at)) ≡ false) × (2 ≤ left)
  grows-by (Five w) e open_is = let proved = ap is_settled (settled.proved (ap is_open e)).0 in let bad : true ≡ false =
      sym proved ∙ open_is in cc
  grows-by (DoubleWins double nodes) e open_is = let proved = ap is_settled (settled.proved (ap is_open e)).0 in let bad : true ≡ false =
      sym proved ∙ open_is in cc
  grows-by (Last p) e open_is = let proved = ap is_settled (settled.proved (ap is_open e)).0 in let bad : true ≡ false =
      sym proved ∙ open_is in cc
  grows-by Open e open_is =
      let enough = is.enough in
      let two = ap moves_for e in
      (rw e at is.judged, omega (arith, enough, two))

  tells-by : (r : Bool) → is_open child.judged ≡ r → TellsTruly numbers (WinsByThreats rule left (after b child.at))
  tells-by true e = record {
    proved = λ k. absurd (open-apart true (sym (settled.unproved e).0 ∙ k));
    disproved = λ k w. open-apart false (sym (settled.unproved e).0 ∙ k);
  }
  tells-by false e = record {
    proved = λ k. (settled.proved e).2.1;
    disproved = λ k w. proved-apart (sym (settled.proved e).0 ∙ k);
  }

  lost-by : (r : Bool) → is_open child.judged ≡ r → numbers ≡ settled_numbers false → ⊥
  lost-by true e k = open-apart false (sym (settled.unproved e).0 ∙ k)
  lost-by false e k = proved-apart (sym (settled.proved e).0 ∙ k)

  new-child : IsNewChild rule Defend left b child.at left numbers
  new-child = record {
    on = is.on;
    fewer = refl;
    grows = grows-by child.judged refl;
    tells = tells-by (is_open child.judged) refl;
    not_lost = lost-by (is_open child.judged) refl;
  }

  pub child-new : IsNewChild rule Defend left b note.at note.left numbers
  child-new = search (rules, new-child)

  wins-by : (r : Bool) → is_open child.judged ≡ r → 0 < note.moves → IsNotedWin rule left (after b child.at) d (win_of note)
  wins-by true e some = absurd (let none = (settled.unproved e).1 in omega (arith, none, some))
  wins-by false e some = (settled.proved e).2

  fresh-note : (r : Bool) → is_open child.judged ≡ r → is_settled numbers ≡ false → note.moves ≡ 0
  fresh-note true e open_is = (settled.unproved e).1
  fresh-note false e open_is = let proved = ap is_settled (settled.proved e).0 in let bad : true ≡ false = sym proved ∙ open_is in cc

  proved-note : (r : Bool) → is_open child.judged ≡ r → numbers ≡ settled_numbers true → 0 < note.moves
  proved-note true e proved = absurd (open-apart true (sym (settled.unproved e).0 ∙ proved))
  proved-note false e proved = (settled.proved e).1

  pub child-noted : IsNewNote rule Defend b d note numbers
  child-noted = record {
    true_win = λ some. rw settled.left_is (rw settled.at (wins-by (is_open child.judged) refl some));
    fresh = fresh-note (is_open child.judged) refl;
    proved = λ proved. (refl, proved-note (is_open child.judged) refl proved);
  }

  -- a child without a win is open
  unwritten-by : (r : Bool) → is_open child.judged ≡ r → unwritten_child Defend note ≡ one_where r
  unwritten-by r e = search (rules, one_where, eq-eqb, ne_eqb)

  pub child-unwritten : unwritten_child Defend note ≡ one_where (is_open child.judged)
  child-unwritten = unwritten-by (is_open child.judged) refl

  -- what is counted behind it
  behind-by : (f : Kind → RuleKind → ℕ → Grid → ℕ) → ((n : ℕ) (c : Grid) → f Attack rule n c ≡ threat_tree rule n c - 1) → (r : Bool)
      → is_open child.judged ≡ r
      → new_behind f rule Defend b note numbers ≡ cond r (threat_tree rule left (after b child.at) - 1) 0
  behind-by f trees r e = search rules

  -- a child that is not proved is open
  unproved-by : (r : Bool) → is_open child.judged ≡ r → unproved_child Defend numbers ≡ one_where r
  unproved-by r e = search (rules, unproved_child)

  pub child-unproved : unproved_child Defend numbers ≡ one_where (is_open child.judged)
  child-unproved = unproved-by (is_open child.judged) refl

  -- the won positions from an open child on are not written, and behind another there is none to be written
  wins-left-by : (r : Bool) → is_open child.judged ≡ r
      → unwritten_win rule Defend b note + new_behind wins_behind rule Defend b note numbers
      ≤ cond r (threat_wins rule left (after b child.at)) 0
  wins-left-by r e = search (rules, eq-eqb, new_behind, wins-own, ne_eqb)

  pub child-wins : unwritten_win rule Defend b note + new_behind wins_behind rule Defend b note numbers
      ≤ cond (is_open child.judged) (threat_wins rule left (after b child.at)) 0
  child-wins = wins-left-by (is_open child.judged) refl

  pub child-behind : (f : Kind → RuleKind → ℕ → Grid → ℕ) → ((n : ℕ) (c : Grid) → f Attack rule n c ≡ threat_tree rule n c - 1)
      → new_behind f rule Defend b note numbers ≡ cond (is_open child.judged) (threat_tree rule left (after b child.at) - 1) 0
  child-behind f trees = behind-by f trees (is_open child.judged) refl

-- no more than three are counted for a child that is not proved, with two more for it, and for one that is
counted-open : (rule : RuleKind) (left : ℕ) (b : Grid) (child : Child) → IsChild rule left b child
    → counted_for child.judged + 2 * open_one child ≤ 3
counted-open rule left b child is = search (rules, counted-three, one_where)

child-whole : (rule : RuleKind) (left : ℕ) (b : Grid) → IsPosition rule b → (child : Child) → IsChild rule left b child
    → counted_for child.judged + open_behind rule left b child ≤ if_goes_on (outcome rule b child.at)
    (threat_tree rule left (after b child.at))
child-whole rule left b lawful child is =
    let few = counted-few rule left (after b child.at) child.judged (IsPosition-after rule b child.at lawful is.on) is.judged is.enough in
    rw is.on (whole-by rule left (after b child.at) child.judged few)

-- ---- at a leaf of the defender

module _ {rule : RuleKind} {s : Search} {t : Tree} {c : List Node} {leaf : ℕ} {view : Grid} (stands : StandsAt rule s t c leaf view)
    (defend : (link_at t.links leaf).kind ≡ Defend) where
  here : IsAtLeaf rule s t c leaf view
  here = leaf-facts stands

  left-noted : left_at (game_of rule s t).left leaf ≡ (note_at s.notes.items leaf).left
  left-noted = get_or-map (λ (n : Note). n.left) s.notes.items leaf no_note 0 (leaf-noted stands)

  can-grow : CanGrow Defend rule (left_at (game_of rule s t).left leaf) (board_at (game_of rule s t) leaf)
  can-grow = search rules

  pub defend-no_five : has_five rule view (mover view) ≡ false
  defend-no_five = rw here.view_is can-grow.0

  pub defend-moves : 1 ≤ (note_at s.notes.items leaf).left
  defend-moves = rw left-noted at can-grow.1

  pub defend-reply : has_reply rule view ≡ true
  defend-reply = rw here.view_is can-grow.2

  -- what is known of the kind, the moves and the board of the leaf
  at-leaf-is : (P : Kind → ℕ → Grid → Type 0) → P Defend (note_at s.notes.items leaf).left view
      → P (link_at t.links leaf).kind (left_at (game_of rule s t).left leaf) (board_at (game_of rule s t) leaf)
  at-leaf-is P h = search (rules, left-noted)

  -- it is not the root
  no-root : leaf ≡ 0 → IsBare rule (left_at (game_of rule s t).left 0) s.root
  no-root root = search rules

  -- where a reply leaves no win the leaf is settled
  pub escape-grows : HasEscape rule (note_at s.notes.items leaf).left view → (note_at s.notes.items leaf).left ≤ 2 → (u : Tree)
      → IsSettledAt t u leaf false → (b : Grid) → b ≡ s.board → Grows rule s (record s { board = b }) t u c leaf
  escape-grows escape few u st b same = known_grown (
      lost-grown here st (record s { board = b }) refl same here.searching.remembered
      (at-leaf-is (λ k n d. WinsAt k rule n d → ⊥) (escape-saves rule (note_at s.notes.items leaf).left view escape))
      (at-leaf-is (λ k n d. IsLostAt k (game_of rule s t) n d)
      (inr (inr (record { reply = escape.reply; on = escape.on; denied = inr (few, escape.no_win) })))) no-root)

  -- where the other side wins by its own fours the leaf is settled
  pub denied-grows : ((moves : ℕ) → LosesToThreats rule moves view → ⊥) → WinsByFewFours rule view → (u : Tree)
      → IsSettledAt t u leaf false → Grows rule s s t u c leaf
  denied-grows denied fours u st = known_grown (
      lost-grown here st s refl refl here.searching.remembered
      (at-leaf-is (λ k n d. WinsAt k rule n d → ⊥) (denied (note_at s.notes.items leaf).left))
      (at-leaf-is (λ k n d. IsLostAt k (game_of rule s t) n d) (inr (inl fours))) no-root)

  -- the positions behind the leaf are counted from the root
  own-behind : (f : Kind → RuleKind → ℕ → Grid → ℕ) → behind_at f (game_of rule s t) leaf
      ≡ f Defend rule (note_at s.notes.items leaf).left view
  own-behind f =
      let g : GameTree = game_of rule s t in
      let n : ℕ = f (link_at t.links leaf).kind rule (left_at g.left leaf) (board_at g leaf) in
      ap (λ r. cond (r && not (is_settled (numbers_at t.numbers leaf))) n 0) (eq-eqb (link_at t.links leaf).count 0 here.childless)
      ∙ ap (λ r. cond (not r) n 0) here.leaf_open
      ∙ at-leaf-is (λ k m b. f k rule m b ≡ f Defend rule (note_at s.notes.items leaf).left view) refl

  attacks-fit : s.attacked + behind_replies rule (threat_tree rule (note_at s.notes.items leaf).left) view ≤ threat_tree rule s.depth s.root
  attacks-fit =
      let g : GameTree = game_of rule s t in
      let low = sum-one (length t.links) (behind_at attacks_behind g) leaf here.in_tree in
      let first : left_at g.left 0 ≡ s.depth = get_or-map (λ (n : Note). n.left) s.notes.items 0 no_note 0
      (let l = leaf-noted stands in omega (arith, l)) ∙ here.searching.depth in
      let root_is = ap (λ (n : ℕ). threat_tree rule n s.root) first in
      omega (arith, low, own-behind attacks_behind, root_is, here.searching.counted.attacks)

  -- and no more nodes are there than positions are won, with those behind the leaf
  wins-fit : length c + behind_replies rule (threat_wins rule (note_at s.notes.items leaf).left) view
      ≤ s.before + threat_wins rule s.depth s.root
  wins-fit =
      let low = sum-one (length t.links) (behind_at wins_behind (game_of rule s t)) leaf here.in_tree in
      omega (arith, low, own-behind wins_behind, here.searching.wins)

  pub lawful-here : IsPosition rule view
  lawful-here = leaf-lawful stands

  module _ (children : Children) (are : AreChildren rule (note_at s.notes.items leaf).left view children) where
    -- where the budget does not reach, the game has more positions
    pub replies-spent : s.budget < s.attacked + children.count → (b : Grid) → b ≡ s.board
        → HasSpent rule s (record s { board = b }) t t c leaf
    replies-spent over b same = record {
      searching = subst (λ (w : Grid). IsSearching rule (record s { board = w }) t c (λ i. ⊥)) (sym same) here.searching;
      spent = (let a = attacks-fit in let few = are.few in omega (arith, a, few, over));
      ran_out = runs-out stands Defend defend (children, are, over);
      same = refl;
      keeps = record { rest = ap (λ (x : Grid). record s { board = x }) same; places = λ r w. refl };
    }

    nodes-few : sum_by (λ (x : Child). nodes_for x.judged) children.all.items + sum_by open_one children.all.items ≤ children.count
    nodes-few =
        let parts = sum-parts (λ (x : Child). nodes_for x.judged) open_one (λ (x : Child). counted_for x.judged)
        (λ x. counted-parts x.judged) children.all.items in
        omega (arith, parts, are.count_is)

    pub children-many : length children.all.items ≤ children.count
    children-many = search (rules, sum-many, counted-one)

    pub each-is : All (IsChild rule (note_at s.notes.items leaf).left view) children.all.items
    each-is = rw are.kept (kept-each (IsChild rule (note_at s.notes.items leaf).left view) are.judged are.are.each)

    -- no more than over all that is judged
    all-sum : (f : Child → ℕ) → sum_by f children.all.items ≤ sum_by f are.judged
    all-sum f = let low = kept-sum f are.judged in let same = ap (sum_by f) are.kept in omega (arith, low, same)

    -- few are counted
    pub replies-few : children.count ≤ 3072
    replies-few =
        let view_board : IsPosition rule view = lawful-here in
        let sum = sum_by-le (λ (x : Child). counted_for x.judged) 3 are.judged
        (judged-three rule (note_at s.notes.items leaf).left view are.judged are.are) in
        let short = judged-short rule (note_at s.notes.items leaf).left view view_board.board are.judged are.are in
        let all = all-sum (λ (x : Child). counted_for x.judged) in
        omega (arith, sum, are.count_is, short, all)

    -- what is written and left to be written behind the children is no more than is won there
    wins-whole : sum_by (λ (x : Child). nodes_for x.judged) children.all.items
        + sum_by (λ (x : Child). cond (is_open x.judged) (threat_wins rule (note_at s.notes.items leaf).left (after view x.at)) 0)
        children.all.items ≤ behind_replies rule (threat_wins rule (note_at s.notes.items leaf).left) view
    wins-whole =
        let left : ℕ = (note_at s.notes.items leaf).left in
        let f : Child → ℕ = λ x. nodes_for x.judged + cond (is_open x.judged) (threat_wins rule left (after view x.at)) 0 in
        let within = replies-within rule left view lawful-here f are.judged are.are.points are.are.each (λ x. refl) in
        let parts = sum-parts (λ (x : Child). nodes_for x.judged)
        (λ (x : Child). cond (is_open x.judged) (threat_wins rule left (after view x.at)) 0) f (λ x. omega arith) children.all.items in
        omega (arith, within, all-sum f, parts)

    -- three are counted for each at most
    counted-open-all : children.count + 2 * sum_by open_one children.all.items ≤ 3 * length children.all.items
    counted-open-all =
        let f : Child → ℕ = λ x. counted_for x.judged + 2 * open_one x in
        let few = sum_by-le f 3 children.all.items (λ k x low.
        counted-open rule (note_at s.notes.items leaf).left view (get_or children.all.items k x) (each-is k x low)) in
        let parts = sum-parts (λ (x : Child). counted_for x.judged + open_one x) open_one f (λ x. omega arith) children.all.items in
        let more = sum-parts (λ (x : Child). counted_for x.judged) open_one (λ (x : Child). counted_for x.judged + open_one x)
        (λ x. omega arith) children.all.items in
        omega (arith, few, parts, more, are.count_is)

    -- there is room for the nodes of the children
    pub replies-room : s.attacked + children.count ≤ s.budget
        → sum_by (λ (x : Child). nodes_for x.judged) children.all.items ≤ room_in (most_nodes rule s) c
    unfolding room_in most_nodes
    replies-room fits = omega (arith, nodes-few, wins-whole, wins-fit, here.searching.few, fits)

    -- what is counted and stands behind the children is no more than the game has there
    counted-whole : children.count + sum_by (open_behind rule (note_at s.notes.items leaf).left view) children.all.items ≤ behind_replies
        rule (threat_tree rule (note_at s.notes.items leaf).left) view
    counted-whole =
        let left : ℕ = (note_at s.notes.items leaf).left in
        let within = children-within rule left view lawful-here (λ (x : Child). counted_for x.judged + open_behind rule left view x)
        (child-whole rule left view lawful-here) are.judged are.are.points are.are.each in
        let whole = all-sum (λ (x : Child). counted_for x.judged + open_behind rule left view x) in
        let parts = sum-parts (λ (x : Child). counted_for x.judged) (open_behind rule left view)
        (λ (x : Child). counted_for x.judged + open_behind rule left view x) (λ x. omega arith) children.all.items in
        omega (arith, within, whole, parts, are.count_is)

    module _ (d : List Node) (more : List Numbers) (ms : List Note)
        (settled : AreSettled rule (note_at s.notes.items leaf).left view d children.all.items (length children.all.items) more ms) where
      low-than : (j : ℕ) → j < length more → j < length children.all.items
      low-than j low = let e = settled.numbers_count in omega (arith, e, low)

      is-child : (j : ℕ) → j < length more → IsChild rule (note_at s.notes.items leaf).left view (child_at children.all.items j)
      is-child j low = each-is j no_child (low-than j low)

      is-settled : (j : ℕ) → j < length more → IsSettledChild rule (note_at s.notes.items leaf).left view d (child_at children.all.items j)
          (numbers_at more j) (note_at ms j)
      is-settled j low = settled.each j (low-than j low)

      pub all-fresh : All IsFresh more
      all-fresh = All-from_get_or IsFresh more no_numbers (λ j low.
          child-fresh rule (note_at s.notes.items leaf).left view d (child_at children.all.items j) (numbers_at more j) (note_at ms j)
          (is-child j low) (is-settled j low))

      pub some-new : 0 < length more
      some-new = let e = settled.numbers_count in let some = are.some in omega (arith, e, some)

      pub few-new : s.attacked + children.count ≤ s.budget → length more ≤ s.budget
      few-new fits = let e = settled.numbers_count in let many = children-many in omega (arith, e, many, fits)

      points-are : map (λ (n : Note). n.at) ms ≡ map (λ (x : Child). x.at) (kept_children are.judged)
      points-are = search (rules, same-points)

      -- a reply without a node is met by the win of the first that has one
      reply-met : (q : Point) → outcome rule view q ≡ GoesOn → among (map (λ (n : Note). n.at) ms) q ≡ false
          → (0 < (note_at ms 0).moves) × IsNotedWin rule (note_at s.notes.items leaf).left (after view q) d (win_of (note_at ms 0))
      reply-met q on none =
          let is = kept-covers rule (note_at s.notes.items leaf).left view are.judged are.are q on
          (ap (λ (ps : List Point). among ps q) (sym points-are) ∙ none) in
          let first : child_at children.all.items 0 ≡ is.first = ap (λ (xs : List Child). child_at xs 0) (are.kept ∙ is.items_are) in
          let won = (settled.each 0 are.some).stands is.met (ap (λ (x : Child). stands_for x.judged is.met.judged) first ∙ is.stands)
          is.is in (
            won.0,
            rw is.at at won.1,
          )

      pub met-here : (link_at t.links leaf).kind ≡ Defend → (q : Point) → outcome rule (board_at (game_of rule s t) leaf) q ≡ GoesOn
          → among (map (λ (n : Note). n.at) ms) q ≡ false
          → (0 < (note_at ms 0).moves) × IsNotedWin rule (left_at (game_of rule s t).left leaf) (after (board_at (game_of rule s t) leaf) q)
          d (win_of (note_at ms 0))
      met-here kind = at-leaf-is
          (λ k n b. (q : Point) → outcome rule b q ≡ GoesOn → among (map (λ (n : Note). n.at) ms) q ≡ false
          → (0 < (note_at ms 0).moves) × IsNotedWin rule n (after b q) d (win_of (note_at ms 0))) reply-met

      child-at : (j : ℕ) → j < length more → IsNewChild rule (link_at t.links leaf).kind (left_at (game_of rule s t).left leaf)
          (board_at (game_of rule s t) leaf) (note_at ms j).at (note_at ms j).left (numbers_at more j)
      child-at j low =
          at-leaf-is (λ k n b. IsNewChild rule k n b (note_at ms j).at (note_at ms j).left (numbers_at more j))
          (child-new rule (note_at s.notes.items leaf).left view d (child_at children.all.items j) (numbers_at more j) (note_at ms j)
          (is-child j low) (is-settled j low))

      noted-at : (j : ℕ) → j < length more → IsNewNote rule (link_at t.links leaf).kind (board_at (game_of rule s t) leaf) d (note_at ms j)
          (numbers_at more j)
      noted-at j low =
          at-leaf-is (λ k n b. IsNewNote rule k b d (note_at ms j) (numbers_at more j))
          (child-noted rule (note_at s.notes.items leaf).left view d (child_at children.all.items j) (numbers_at more j) (note_at ms j)
          (is-child j low) (is-settled j low))

      tried-here : HasTried (link_at t.links leaf).kind rule (left_at (game_of rule s t).left leaf) (board_at (game_of rule s t) leaf)
          (map (λ (n : Note). n.at) ms)
      tried-here =
          let all : AreMet rule (note_at s.notes.items leaf).left view (map (λ (n : Note). n.at) ms) =
          record { others = λ q on none. (reply-met q on none).1.1; none_saves = none-saves rule view defend-no_five defend-reply } in
          at-leaf-is (λ k n b. HasTried k rule n b (map (λ (n : Note). n.at) ms)) all

      -- sums over the new children, by what is judged of each
      children-sum : (f : ℕ → ℕ) (h : Child → ℕ) → ((j : ℕ) → j < length more → f j ≤ h (child_at children.all.items j))
          → sum_below (length more) f ≤ sum_by h children.all.items
      children-sum f h few =
          let low = sum-le (length more) f (λ j. h (child_at children.all.items j)) few in
          let all = sum-list h no_child children.all.items in
          let size : sum_below (length more) (λ j. h (child_at children.all.items j)) ≡ sum_below (length children.all.items)
          (λ j. h (child_at children.all.items j)) =
          ap (λ (n : ℕ). sum_below n (λ j. h (child_at children.all.items j))) settled.numbers_count in
          omega (arith, low, all, size)

      behind-new : (f : Kind → RuleKind → ℕ → Grid → ℕ) → ((n : ℕ) (b : Grid) → f Attack rule n b ≡ threat_tree rule n b - 1)
          → sum_below (length more)
          (λ j. new_behind f rule (link_at t.links leaf).kind (board_at (game_of rule s t) leaf) (note_at ms j) (numbers_at more j))
          ≤ sum_by (open_behind rule (note_at s.notes.items leaf).left view) children.all.items
      behind-new f trees = children-sum
          (λ j. new_behind f rule (link_at t.links leaf).kind (board_at (game_of rule s t) leaf) (note_at ms j) (numbers_at more j))
          (open_behind rule (note_at s.notes.items leaf).left view)
          (λ j low.
          let e = at-leaf-is (λ k n b. new_behind f rule k b (note_at ms j) (numbers_at more j)
          ≡ open_behind rule (note_at s.notes.items leaf).left view (child_at children.all.items j))
          (child-behind rule (note_at s.notes.items leaf).left view d (child_at children.all.items j) (numbers_at more j) (note_at ms j)
          (is-child j low) (is-settled j low) f trees) in
          omega (arith, e))

      unwritten-new : sum_below (length more) (λ j. unwritten_child (link_at t.links leaf).kind (note_at ms j)) ≤ sum_by open_one
          children.all.items
      unwritten-new = children-sum (λ j. unwritten_child (link_at t.links leaf).kind (note_at ms j)) open_one (λ j low.
          let e = at-leaf-is (λ k n b. unwritten_child k (note_at ms j) ≡ open_one (child_at children.all.items j))
          (child-unwritten rule (note_at s.notes.items leaf).left view d (child_at children.all.items j) (numbers_at more j) (note_at ms j)
          (is-child j low) (is-settled j low)) in
          omega (arith, e))

      unproved-new : sum_below (length more) (λ j. unproved_child (link_at t.links leaf).kind (numbers_at more j)) ≤ sum_by open_one
          children.all.items
      unproved-new = children-sum (λ j. unproved_child (link_at t.links leaf).kind (numbers_at more j)) open_one (λ j low.
          let e = at-leaf-is (λ k n b. unproved_child k (numbers_at more j) ≡ open_one (child_at children.all.items j))
          (child-unproved rule (note_at s.notes.items leaf).left view d (child_at children.all.items j) (numbers_at more j) (note_at ms j)
          (is-child j low) (is-settled j low)) in
          omega (arith, e))

      wins-new : sum_below (length more)
          (λ j. unwritten_win rule (link_at t.links leaf).kind (board_at (game_of rule s t) leaf) (note_at ms j)
          + new_behind wins_behind rule (link_at t.links leaf).kind (board_at (game_of rule s t) leaf) (note_at ms j) (numbers_at more j))
          ≤ sum_by (λ (x : Child). cond (is_open x.judged) (threat_wins rule (note_at s.notes.items leaf).left (after view x.at)) 0)
          children.all.items
      wins-new = children-sum
          (λ j. unwritten_win rule (link_at t.links leaf).kind (board_at (game_of rule s t) leaf) (note_at ms j)
          + new_behind wins_behind rule (link_at t.links leaf).kind (board_at (game_of rule s t) leaf) (note_at ms j) (numbers_at more j))
          (λ (x : Child). cond (is_open x.judged) (threat_wins rule (note_at s.notes.items leaf).left (after view x.at)) 0)
          (λ j low.
          at-leaf-is (λ k n b. unwritten_win rule k b (note_at ms j) + new_behind wins_behind rule k b (note_at ms j) (numbers_at more j)
          ≤ cond (is_open (child_at children.all.items j).judged)
          (threat_wins rule (note_at s.notes.items leaf).left (after view (child_at children.all.items j).at)) 0)
          (child-wins rule (note_at s.notes.items leaf).left view d (child_at children.all.items j) (numbers_at more j) (note_at ms j)
          (is-child j low) (is-settled j low)))

    module _ (d : List Node) (grown : GrowsBy c d (sum_by (λ (x : Child). nodes_for x.judged) children.all.items)) (compiled : IsCompiled d)
        (more : List Numbers) (ms : List Note)
        (settled : AreSettled rule (note_at s.notes.items leaf).left view d children.all.items (length children.all.items) more ms)
        (u : Tree) (e : IsExpandedAt t u leaf more)
        (v : Search) (items : v.notes.items ≡ s.notes.items ++ ms)
        (rest : v ≡ record s { board = v.board; notes = v.notes; attacked = s.attacked + children.count })
        (same_board : v.board ≡ s.board) (fits : s.attacked + children.count ≤ s.budget) where
      count-is : v.attacked ≡ s.attacked + children.count
      count-is = ap (λ (w : Search). w.attacked) rest

      defended-is : v.defended ≡ s.defended
      defended-is = ap (λ (w : Search). w.defended) rest

      settled-now : AreSettled rule (note_at s.notes.items leaf).left view (c ++ grown.added) children.all.items (length children.all.items)
          more ms
      settled-now = rw grown.is at settled

      pub replies-grow : Grows rule s v t u d leaf
      replies-grow = known_grown (
          let left : ℕ = (note_at s.notes.items leaf).left in
          let count = count-is in
          let defended = defended-is in
          let whole = counted-whole in
          let attacks = behind-new (c ++ grown.added) more ms settled-now attacks_behind (λ n b. refl) in
          let defences = behind-new (c ++ grown.added) more ms settled-now defences_behind (λ n b. refl) in
          let attacks_left = at-leaf-is (λ k n b. attacks_behind k rule n b ≡ behind_replies rule (threat_tree rule left) view) refl in
          let defences_left = at-leaf-is (λ k n b. defences_behind k rule n b ≡ behind_replies rule (threat_tree rule left) view - 1)
          refl in
          let unwritten = unwritten-new (c ++ grown.added) more ms settled-now in
          let attackers = sum-ones (length more) (λ j. cond (is_attack (other_kind (link_at t.links leaf).kind)) 1 0)
          (λ j. ap (λ (k : Kind). cond (is_attack (other_kind k)) 1 0) defend) in
          let unproved = unproved-new (c ++ grown.added) more ms settled-now in
          let few_open = counted-open-all in
          let wins = wins-new (c ++ grown.added) more ms settled-now in
          let both = sum-split (length more)
          (λ j. unwritten_win rule (link_at t.links leaf).kind (board_at (game_of rule s t) leaf) (note_at ms j))
          (λ j. new_behind wins_behind rule (link_at t.links leaf).kind (board_at (game_of rule s t) leaf) (note_at ms j)
          (numbers_at more j)) in
          let all_wins = wins-whole in
          let wins_left = at-leaf-is (λ k n b. wins_behind k rule n b ≡ behind_replies rule (threat_wins rule left) view) refl in
          let nodes = nodes-few in
          let added = grown.few in
          let many = children-many in
          let size = settled.numbers_count in
          let some = are.some in
          let defended_fits = here.searching.counted.defended_fits in
          let same_table : v.settled ≡ s.settled = ap (λ (w : Search). w.settled) rest in
          let x : Expansion rule s v t u c grown.added leaf view more ms = record {
            at_leaf = here;
            expanded = e;
            rest = rest ∙ ap (λ (w : Search). record s
                { board = v.board; notes = v.notes; settled = w.settled; attacked = w.attacked; defended = w.defended }) (sym rest);
            same_board = same_board;
            compiled = rw grown.is at compiled;
            table = memo-grown rule (game_of rule s t) c grown.added v.settled (IsTable-lower c here.searching.compiled.table)
                (rw same_table here.searching.remembered);
            items = items;
            many = settled.notes_count ∙ sym settled.numbers_count;
            some = some-new d more ms settled;
            tried = tried-here d more ms settled;
            each = child-at d more ms settled;
            noted = noted-at (c ++ grown.added) more ms settled-now;
            attacked_more = omega (arith, count);
            defended_more = omega (arith, defended);
            attacked_fits = omega (arith, count, fits);
            defended_fits = omega (arith, defended, defended_fits);
            low = λ kind. fresh-sum kind more (all-fresh d more ms settled);
            met = met-here (c ++ grown.added) more ms settled-now;
            short = omega (arith, count, nodes, added, unwritten);
            attackers_counted = omega (arith, count, many, size, attackers);
            few_counted = omega (arith, count, size, attackers, unproved, few_open);
            defenders_counted = omega (arith, defended, attackers);
            attacks_counted = omega (arith, count, attacks, whole, attacks_left);
            defences_counted = omega (arith, defended, defences, whole, many, some, defences_left);
            wins_counted = omega (arith, added, wins, both, all_wins, wins_left);
          } in
          rw grown.is (expanded-grown x))
