-- The end of the search: what the note and the numbers of the root tell.
use Rattle.std.proofs.Common.{rules, ◌≡◌, ◌⊎◌, ◌∙◌, inl, inr, ℕ, zero, suc, ◌*◌, ◌<◌, ◌≤◌, Bool, true}
use Rattle.std.proofs.Common.{false, cond, sym, ap, subst, arith, List, length, get_or, min, Some, None, Result, Ok, Err, IfOk, OnOk, []}
use Rattle.std.proofs.lemmas.List.{get_or_default, length-map}
use Rattle.proof_number.proofs.Common.{Grid, WinsByThreats, RuleKind, Node, SearchError, Writes, WrittenWin, is_settled, settled_numbers}
use Rattle.proof_number.proofs.Common.{IsTree, Tree, numbers_at, link_at, Note, Search, Leaves, OnWin, IsTold, IsTrueAnswer, CanBegin}
use Rattle.proof_number.proofs.Common.{IsNew, IsSameAim, most_nodes, room_in, HasDenial, HasNoThreatWin, HasRunOut, IsSearchTree, no_note}
use Rattle.proof_number.proofs.Common.{note_at, noted_win, GameTree, TellsTruly, board_at, left_at, IsNotedWin, IsSearching}
use Rattle.proof_number.proofs.Common.{Searches, closed_nodes, game_of, is_open_leaf, sum_below, HasDisproved, IsBare, threat_wins}
use Rattle.proof_number.proofs.Common.{IsThreatWin, threat_tree, tried_moves}
use Rattle.game_rules.proofs.Games.{WinsByFours-WinsByThreats}
use Rattle.strategy_graph.proofs.Soundness.{accepted-wins}
use Rattle.proof_tree.proofs.Settled.{settled-one}
use Rattle.proof_number.specs.declared.answer.ProofAnswer.{ProofAnswer}
use Rattle.proof_number.specs.declared.answer.ProofAnswer.TheVariants.{Win, None as NoWin, Spent}
use Rattle.proof_number.specs.declared.TheConstants.{MAX_BUDGET, MAX_DEPTH}
use Rattle.proof_number.proofs.Opening.{searching-facts}
use Rattle.proof_number.proofs.Steps.{most-same}
use Rattle.proof_number.proofs.StepLaws.{writes-on}
use Rattle.proof_number.proofs.DenialLaws.{denial-loses}
use Rattle.proof_number.proofs.Disproved.{tree-denial}
use Rattle.proof_number.proofs.GameTruths.{board-root, left-root, all-tell}
use Rattle.proof_number.proofs.Recording.{noted-none, noted-some}
use Rattle.proof_number.proofs.Sums.{sum-suc, sum-zero}
use Rattle.proof_number.proofs.RunningOut.{so-far-tree}
use Rattle.std.proofs.lemmas.Bool.{cases_eq}

-- no more than all are counted
sum-ones : (n : ℕ) (f : ℕ → Bool) → sum_below n (λ i. cond (f i) 0 1) ≤ n
sum-ones zero f = let a = sum-zero (λ i. cond (f i) 0 1) in omega (arith, a)
sum-ones (suc n) f = search (rules, sum-suc, sum-ones n f)

module _ {rule : RuleKind} {s : Search} {t : Tree} {c : List Node} (searches : Searches rule s t c (λ i. ⊥)) where
  h : IsSearching rule s t c (λ i. ⊥)
  h = searching-facts searches

  abbrev Game : GameTree
  Game = game_of rule s t

  root-inside : 0 < length t.links
  root-inside = h.tree.linked.some

  -- the nodes are closed one by one, and there are no more than both budgets
  pub closed-few : closed_nodes t ≤ 2 * s.budget
  closed-few =
      omega (
        arith,
        sum-ones (length t.links) (is_open_leaf t),
        h.counted.attackers,
        h.counted.defenders,
        h.counted.attacked_fits,
        h.counted.defended_fits,
      )

  pub root-noted : 0 < length s.notes.items
  root-noted = search (rules, root-inside, length-map)

  root-left : left_at Game.left 0 ≡ s.depth
  root-left = left-root s.notes.items s.depth root-noted h.depth

  pub told-tree : (n budget : ℕ) (b : Grid) → s.depth ≡ n → s.budget ≡ budget → s.root ≡ b
      → length t.links ≤ 2 * min budget (threat_tree rule n b)
  told-tree n budget b deep for_budget from = search (rules, root-left)

  root-board : board_at Game 0 ≡ s.root
  root-board = board-root Game.tree.links Game.moves Game.start h.tree.linked

  root-tells : TellsTruly (numbers_at t.numbers 0) (WinsByThreats rule s.depth s.root)
  root-tells = rw (← root-board) (rw (← root-left) (rw h.tree.linked.root_attacks at (all-tell h.tree h.game 0 root-inside)))

  -- where a win is noted
  module _ (w : WrittenWin) (e : noted_win (note_at s.notes.items 0) ≡ Some w) where
    noted-there : IsNotedWin rule s.depth s.root c w
    noted-there =
        let noted = noted-some (note_at s.notes.items 0) w e in
        rw (← noted.1) (rw (← root-board) (rw root-left at (h.written.true_wins 0 root-inside noted.0)))

    pub root-win : IsThreatWin rule s.depth s.root c w
    root-win = record {
      written = noted-there.0;
      by_threats = noted-there.1;
      within = rw noted-there.0.deep at (accepted-wins rule c w.node s.root noted-there.0.accepted);
    }

    pub root-proved : is_settled (numbers_at t.numbers 0) ≡ true → numbers_at t.numbers 0 ≡ settled_numbers true
    root-proved settled = search (rules, settled-one, root-tells, noted-there)

  -- where none is
  module _ (e : noted_win (note_at s.notes.items 0) ≡ None) (settled : is_settled (numbers_at t.numbers 0) ≡ true) where
    pub root-lost : numbers_at t.numbers 0 ≡ settled_numbers false
    root-lost = search (rules, settled-one, root-inside, noted-none)

    -- its children are listed, if there is more than one move and some is to be tried
    pub root-disproved : 1 ≤ s.depth → HasDisproved rule s.depth s.budget s.root t
    root-disproved deep = record {
      so_far = so-far-tree h;
      lost = root-lost;
      grown = by_count (cases_eq (link_at t.links 0).count 0);
    } where
      by_bare : IsBare rule s.depth s.root → (s.depth ≡ 1) ⊎ (tried_moves rule s.root ≡ []) ⊎ (0 < (link_at t.links 0).count)
      by_bare (inl few) = inl (omega (arith, few, deep))
      by_bare (inr empty) = inr (inl empty)

      by_count : ((link_at t.links 0).count ≡ 0) ⊎ ((link_at t.links 0).count ≡ 0 → ⊥)
          → (s.depth ≡ 1) ⊎ (tried_moves rule s.root ≡ []) ⊎ (0 < (link_at t.links 0).count)
      by_count (inl none) = by_bare (subst (λ (n : ℕ). IsBare rule n s.root) root-left (h.game.root none root-lost))
      by_count (inr some) = inr (inr (omega (arith, some)))

    -- there is a denial of no more positions than were counted, and so no win
    pub root-denial : HasDenial rule s.depth s.root (min s.budget (threat_tree rule s.depth s.root))
    root-denial =
        let first = ap (λ (n : ℕ). threat_tree rule n s.root) root-left in
        tree-denial Game h.tree h.game s.depth s.root root-left root-board root-lost (min s.budget (threat_tree rule s.depth s.root))
        (omega (arith, h.counted.attackers, h.counted.attacked_fits, h.counted.attacks, first))

  -- the same of the note as it was read, and of the depth and the board that the search was begun for
  module _ (n : ℕ) (b : Grid) (deep : s.depth ≡ n) (from : s.root ≡ b) (note : Note) (read : note ≡ get_or s.notes.items 0 note) where
    root-note : note_at s.notes.items 0 ≡ note
    root-note = get_or_default s.notes.items 0 no_note note root-noted ∙ sym read

    pub told-win : (w : WrittenWin) → Some w ≡ noted_win note → IsThreatWin rule n b c w
    told-win w e = rw (← from) (rw deep at (root-win w (ap noted_win root-note ∙ sym e)))

    pub told-proved : (w : WrittenWin) → Some w ≡ noted_win note → is_settled (numbers_at t.numbers 0) ≡ true
        → numbers_at t.numbers 0 ≡ settled_numbers true
    told-proved w e = root-proved w (ap noted_win root-note ∙ sym e)

    pub told-none : None ≡ noted_win note → is_settled (numbers_at t.numbers 0) ≡ true → HasNoThreatWin rule n b
    told-none e settled = search (rules, denial-loses, root-denial, WinsByFours-WinsByThreats, root-note)

    pub told-denial : (budget : ℕ) → s.budget ≡ budget → None ≡ noted_win note → is_settled (numbers_at t.numbers 0) ≡ true
        → HasDenial rule n b (min budget (threat_tree rule n b))
    told-denial budget for_budget e settled = search (rules, root-denial, root-note)

    pub told-disproved : (budget : ℕ) → s.budget ≡ budget → 1 ≤ n → None ≡ noted_win note → is_settled (numbers_at t.numbers 0) ≡ true
        → HasDisproved rule n budget b t
    told-disproved budget for_budget some e settled =
        rw (← for_budget) (rw (← from) (rw deep at (root-disproved (ap noted_win root-note ∙ sym e) settled (omega (arith, deep, some)))))

    pub told-lost : None ≡ noted_win note → is_settled (numbers_at t.numbers 0) ≡ true → numbers_at t.numbers 0 ≡ settled_numbers false
    told-lost e = root-lost (ap noted_win root-note ∙ sym e)

-- ---- what is left

-- all that may be counted may still be written at first
room-new : (rule : RuleKind) (s : Search) (c : List Node) → s.before ≡ length c
    → room_in (most_nodes rule s) c ≡ min s.budget (threat_wins rule s.depth s.root)
unfolding room_in most_nodes
room-new rule s c before = omega (arith, before)

pub begun-room : (rule : RuleKind) {s : Search} {t : Tree} {c : List Node} {b : Grid} → CanBegin s t c b
    → min 1 (threat_wins rule s.depth s.root) ≤ room_in (most_nodes rule s) c
begun-room rule {s = s} {c = c} can = search (rules, room-new)

pub leaves-told : {A : Type 0} (rule : RuleKind) (s : Search) {t u : Tree} {c d : List Node} {r : Result A SearchError}
    → s.before ≡ length c → IsTree u → length t.links ≤ length u.links
    → OnOk r (length u.links ≤ 2 * min s.budget (threat_tree rule s.depth s.root)) → Writes c d (room_in (most_nodes rule s) c) r
    → Leaves (min s.budget (threat_tree rule s.depth s.root)) (min s.budget (threat_wins rule s.depth s.root)) t u c d r
leaves-told rule s {c = c} {d = d} {r = r} before tree longer few writes = record {
  tree = tree;
  longer = longer;
  tree_few = few;
  writes = rw (room-new rule s c before) at writes;
}

-- a step and those before it
pub steps-write : {A : Type 0} (rule : RuleKind) {s v : Search} {c d e : List Node} {r : Result A SearchError} → IsSameAim s v
    → Writes {A = Unit {0}} c d (room_in (most_nodes rule s) c) (Ok tt) → Writes d e (room_in (most_nodes rule v) d) r
    → Writes c e (room_in (most_nodes rule s) c) r
steps-write rule aim first second = let same = most-same rule aim in writes-on first (omega (arith, same)) second

-- ---- what is told, by what the search was begun with

pub can-begin : {depth budget before : ℕ} {a b : Grid} {s : Search} {t : Tree} {c : List Node} → IsNew depth budget before a s
    → 1 ≤ depth → depth ≤ MAX_DEPTH → 1 ≤ budget → budget ≤ MAX_BUDGET → length t.links ≡ 1 → is_settled (numbers_at t.numbers 0) ≡ false
    → before ≡ length c → a ≡ b → CanBegin s t c b
can-begin new some_depth depth_fits some_budget budget_fits one unsettled before board = search rules

module _ {rule : RuleKind} {depth budget before : ℕ} {a b : Grid} {s : Search} {t u : Tree} {c d : List Node}
    {r : Result ProofAnswer SearchError} (new : IsNew depth budget before a s) (board : a ≡ b) (told : IsTold rule s t u c d r) where
  told-true : IfOk r (IsTrueAnswer rule depth budget b d u)
  told-true = rw (← new.depth_is) (rw (← new.budget_is) (rw (new.root_is ∙ board) at told.true_answer))

  pub told-leaves : Leaves (min budget (threat_tree rule depth b)) (min budget (threat_wins rule depth b)) t u c d r
  told-leaves = rw (← new.depth_is) (rw (← new.budget_is) (rw (new.root_is ∙ board) at told.leaves))

  pub tells-win : IfOk r (λ x. OnWin x (IsThreatWin rule depth b d))
  tells-win = search (rules, told-true)

  pub tells-none : IfOk r (λ x. x ≡ NoWin → HasNoThreatWin rule depth b)
  tells-none = by_answer r told-true where
    by_answer : (q : Result ProofAnswer SearchError) → IfOk q (IsTrueAnswer rule depth budget b d u)
        → IfOk q (λ x. x ≡ NoWin → HasNoThreatWin rule depth b)
    by_answer (Err e) h = tt
    by_answer (Ok (Win w)) h = λ is. cc
    by_answer (Ok NoWin) h = λ is. h.0
    by_answer (Ok Spent) h = λ is. cc

  pub tells-denial : IfOk r (λ x. x ≡ NoWin → HasDenial rule depth b (min budget (threat_tree rule depth b)))
  tells-denial = by_answer r told-true where
    by_answer : (q : Result ProofAnswer SearchError) → IfOk q (IsTrueAnswer rule depth budget b d u)
        → IfOk q (λ x. x ≡ NoWin → HasDenial rule depth b (min budget (threat_tree rule depth b)))
    by_answer (Err e) h = tt
    by_answer (Ok (Win w)) h = λ is. cc
    by_answer (Ok NoWin) h = λ is. h.1
    by_answer (Ok Spent) h = λ is. cc

  pub tells-disproved : IfOk r (λ x. x ≡ NoWin → HasDisproved rule depth budget b u)
  tells-disproved = by_answer r told-true where
    by_answer : (q : Result ProofAnswer SearchError) → IfOk q (IsTrueAnswer rule depth budget b d u)
        → IfOk q (λ x. x ≡ NoWin → HasDisproved rule depth budget b u)
    by_answer (Err e) h = tt
    by_answer (Ok (Win w)) h = λ is. cc
    by_answer (Ok NoWin) h = λ is. h.2
    by_answer (Ok Spent) h = λ is. cc

  pub tells-spent : IfOk r (λ x. x ≡ Spent → budget < threat_tree rule depth b)
  tells-spent = search (rules, told-true)

  pub tells-out : IfOk r (λ x. x ≡ Spent → HasRunOut rule depth budget b u)
  tells-out = by_answer r told-true where
    by_answer : (q : Result ProofAnswer SearchError) → IfOk q (IsTrueAnswer rule depth budget b d u)
        → IfOk q (λ x. x ≡ Spent → HasRunOut rule depth budget b u)
    by_answer (Err e) h = tt
    by_answer (Ok (Win w)) h = λ is. cc
    by_answer (Ok NoWin) h = λ is. cc
    by_answer (Ok Spent) h = λ is. h.1

  pub told-searched : OnOk r (IsSearchTree rule depth budget b u)
  told-searched = search rules
