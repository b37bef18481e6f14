-- A step of the search from the root to a leaf and back, of its parts.
use Rattle.std.proofs.Common.{◌≡◌, ◌∙◌, ℕ, ◌+◌, ◌<◌, ◌≤◌, false, refl, sym, ap, subst, arith, length, List, Ok, rules}
use Rattle.std.proofs.Common.{Err, Result}
use Rattle.std.proofs.lemmas.List.{length-append}
use Rattle.proof_number.proofs.Common.{Grid, RuleKind, Node, SearchError, Writes, is_settled, IsOnWayUp, IsTree, Tree, link_at}
use Rattle.proof_number.proofs.Common.{IsAlive, most_proving, numbers_at, Search, Step, Done, known_searching, GameTree, IsGameTree}
use Rattle.proof_number.proofs.Common.{board_at, Grows, HasGrown, HasSpent, HasStayed, IsSameAim, HasStepped, IsBack, IsPassed}
use Rattle.proof_number.proofs.Common.{KeepsTree, IsOverBudget, IsSearching, IsStep, IsTried, OnStep, Searches, StandsAt, game_of}
use Rattle.proof_number.proofs.Common.{HasEnded, HasSpare, IsThere, closed_nodes, most_nodes, room_in, nodes_so_far, threat_tree}
use Rattle.strategy_compiler.proofs.Growing.{writes-fails, writes-tells, writes-then}
use Rattle.proof_number.specs.declared.search.Step.TheVariants.{Spent}
use Rattle.proof_number.proofs.Opening.{grown-facts, searching-facts}
use Rattle.proof_number.proofs.RunningOut.{out-aim}
use Rattle.std.proofs.lemmas.Result.{on_ok_weaker}
use Rattle.proof_number.proofs.Recording.{board-searches, root-searches}
use Rattle.proof_number.proofs.Steps.{most-same}

module _ {rule : RuleKind} {s : Search} {t : Tree} {c : List Node} (searches : Searches rule s t c (λ i. ⊥)) where
  inside : IsSearching rule s t c (λ i. ⊥)
  inside = searching-facts searches

  pub searched-tree : IsTree t
  searched-tree = inside.tree

  pub searched-game : IsGameTree (game_of rule s t)
  searched-game = inside.game

  -- the search stands at the leaf to which the moves were played
  pub stands-there : (moved : Search) (leaf : ℕ) (view : Grid) → is_settled (numbers_at t.numbers 0) ≡ false
      → moved ≡ record s { board = moved.board } → IsAlive t leaf → leaf < length t.links → (link_at t.links leaf).count ≡ 0
      → is_settled (numbers_at t.numbers leaf) ≡ false → view ≡ board_at (game_of rule s t) leaf
      → moved.board ≡ board_at (game_of rule s t) leaf → StandsAt rule moved t c leaf view
  stands-there moved leaf view root_open rest alive low none leaf_open view_is board_is = search (rules, searching-facts, board-searches)

-- ---- what a step did

pub on-done : (x : Step) (D S E : Type 0) → x ≡ Done → OnStep (Ok x) D S E → D
on-done x D S E e h = rw e at h

pub on-spent : (x : Step) (D S E : Type 0) → x ≡ Spent → OnStep (Ok x) D S E → S
on-spent x D S E e h = rw e at h

-- the leaf was tried, and what it came to
module _ {rule : RuleKind} {s v : Search} {t u : Tree} {c d : List Node} {leaf : ℕ} {x : Step}
    (tried : IsTried rule s v t u c d leaf (Ok x)) where
  pub grown-parts : x ≡ Done → HasGrown rule s v t u d leaf
  grown-parts is = grown-facts (on-done x (Grows rule s v t u d leaf) (HasSpent rule s v t u d leaf) (HasStayed s v t u) is tried.step)

  pub grown-searches : x ≡ Done → Searches rule v u d (IsOnWayUp u.links leaf)
  grown-searches is = known_searching (grown-parts is).searching

  pub spent-parts : x ≡ Spent → HasSpent rule s v t u d leaf
  spent-parts is = on-spent x (Grows rule s v t u d leaf) (HasSpent rule s v t u d leaf) (HasStayed s v t u) is tried.step

  pub spent-stays : x ≡ Spent → HasStayed s v t u
  spent-stays is = let spent = spent-parts is in record { same = spent.same; keeps = spent.keeps }

-- ---- what stays

pub moved-aim : (s moved : Search) → moved ≡ record s { board = moved.board } → IsSameAim s moved
moved-aim s moved rest = search rules

pub looked-aim : (s looked : Search) → looked ≡ record s { settled = looked.settled } → IsSameAim s looked
looked-aim s looked rest = search rules

pub spared-aim : (s spared : Search) → spared ≡ record s { spare = spared.spare } → IsSameAim s spared
spared-aim s spared rest = search rules

pub aim-then : (s u v : Search) → IsSameAim s u → IsSameAim u v → IsSameAim s v
aim-then s u v first second = search rules

-- the step leaves the tree as it was
module _ (rule : RuleKind) (s moved v : Search) (t u : Tree) (rest : moved ≡ record s { board = moved.board })
    (stays : HasStayed moved v t u) where
  stayed-same : game_of rule v u ≡ game_of rule s t
  stayed-same = ap (game_of rule v) stays.same ∙ stays.keeps.places rule t ∙ ap (λ (w : Search). game_of rule w t) rest

  pub stayed-tree : IsTree t → IsTree u
  stayed-tree = subst IsTree (sym stays.same)

  pub stayed-game : IsGameTree (game_of rule s t) → IsGameTree (game_of rule v u)
  stayed-game = subst IsGameTree (sym stayed-same)

  pub stayed-place : (leaf : ℕ) → board_at (game_of rule s t) leaf ≡ board_at (game_of rule v u) leaf
  stayed-place leaf = ap (λ (g : GameTree). board_at g leaf) (sym stayed-same)

  pub stayed-board : v.board ≡ moved.board
  stayed-board = ap (λ (w : Search). w.board) stays.keeps.rest

  pub stayed-root : v.root ≡ s.root
  stayed-root = ap (λ (w : Search). w.root) stays.keeps.rest ∙ ap (λ (w : Search). w.root) rest

  pub stayed-aim : (w : Search) → w ≡ record v { board = w.board } → IsSameAim s w
  stayed-aim w back = search rules

  pub stayed-inside : (leaf : ℕ) → leaf < length t.links → leaf < length u.links
  stayed-inside leaf = subst (λ (w : Tree). leaf < length w.links) (sym stays.same)

-- ---- what is written

-- a call, and another after it that may write no more than is left
pub writes-on : {A B : Type 0} {c d e : List Node} {most limit : ℕ} {x : A} {r : Result B SearchError} → Writes c d (room_in most c) (Ok x)
    → limit ≤ most → Writes d e (room_in limit d) r → Writes c e (room_in most c) r
unfolding room_in
writes-on {c = c} {d = d} {e = e} {most = most} {limit = limit} {x = x} {r = r} first low second =
    let few = first.grows.few in
    let known : Writes c d (length first.grows.added) (Ok x) = record {
      grows = record { added = first.grows.added; is = first.grows.is; few = omega arith };
      compiled = first.compiled;
      full = λ h. cc;
      full_now = λ h. cc;
    } in
    let long : length d ≡ length c + length first.grows.added = ap length first.grows.is ∙ length-append c first.grows.added in
    writes-then c d e (length first.grows.added) (room_in limit d) (room_in most c) x r known second (omega (arith, long, few, low))

-- no more positions are counted than may be
pub counted-most : {rule : RuleKind} {s : Search} {t : Tree} {c : List Node} {way : ℕ → Type 0} → IsSearching rule s t c way
    → nodes_so_far rule s ≤ most_nodes rule s
unfolding most_nodes nodes_so_far
counted-most h = let fits = h.counted.attacked_fits in omega (arith, fits)

-- ---- the leaf is settled or has children

module _ {rule : RuleKind} {s v : Search} {t u : Tree} {d : List Node} {leaf : ℕ} (grown : HasGrown rule s v t u d leaf) where
  -- from the search before the moves were played
  module _ (before : Search) (rest : s ≡ record before { board = s.board }) where
    pub grown-aim : IsSameAim before v
    grown-aim = aim-then before s v (moved-aim before s rest) grown.aim

    pub grown-place : board_at (game_of rule before t) leaf ≡ board_at (game_of rule v u) leaf
    grown-place = sym (grown.place ∙ ap (λ (w : Search). board_at (game_of rule w t) leaf) rest)

    -- the step from there to the leaf and back
    module _ {c e : List Node} {w : Search} {x : Step} (first : Writes c d (room_in (most_nodes rule s) c) (Ok x)) where
      back-writes : {r : Result (Unit {0}) SearchError} → IsBack rule v w u d e r → Writes c e (room_in (most_nodes rule before) c) r
      back-writes {r = r} back =
          let limit = rw (most-same rule grown.aim) at (counted-most grown.searching) in
          rw (most-same rule (moved-aim before s rest)) at (writes-on first limit back.writes)

      pub back-done : {O : Type 0} {y : Unit {0}} → IsBack rule v w u d e (Ok y) → IsStep rule before w t u c e O (Ok Done)
      back-done {y = y} back = record {
        came = record { searching = back.searching; progress = grown.progress };
        aim = aim-then before v w grown-aim back.aim;
        board = back.board ∙ grown-aim.root;
        tree = grown.searching.tree;
        longer = grown.longer;
        writes = writes-tells c e _ _ y Done (back-writes back) (omega arith);
      }

      pub back-fails : {O : Type 0} {r : Result Step SearchError} (error : SearchError) → IsBack rule v w u d e (Err error) → r ≡ Err error
          → IsStep rule before w t u c e O r
      back-fails {r = r} error back is = record {
        came = rw is tt;
        aim = aim-then before v w grown-aim back.aim;
        board = back.board ∙ grown-aim.root;
        tree = grown.searching.tree;
        longer = grown.longer;
        writes = writes-fails {A = Unit {0}} c e _ _ error r (back-writes back) (omega arith) is;
      }

-- ---- the tree is as it was

pub stayed-step : {rule : RuleKind} {s v w : Search} {t u : Tree} {c d : List Node} {O : Type 0} {r : Result Step SearchError} → IsTree t
    → HasStayed s v t u → w ≡ record v { board = w.board } → w.board ≡ v.root → OnStep r (HasStepped rule w t u d) O (Unit {0})
    → Writes c d (room_in (most_nodes rule s) c) r → IsStep rule s w t u c d O r
stayed-step {rule = rule} {s = s} {v = v} {w = w} {t = t} {u = u} tree stays back board came writes = record {
  came = came;
  aim = stayed-aim rule s s v t u refl stays w back;
  board = board ∙ stayed-root rule s s v t u refl stays;
  tree = stayed-tree rule s s v t u refl stays tree;
  longer = rw stays.same (omega arith);
  writes = writes;
}

pub spent-step : {rule : RuleKind} {s v w : Search} {t u : Tree} {c d : List Node} {leaf : ℕ} {x : Step} → IsTree t
    → IsTried rule s v t u c d leaf (Ok x) → x ≡ Spent → w ≡ record v { board = w.board } → w.board ≡ v.root
    → IsStep rule s w t u c d (IsOverBudget rule s w t u d leaf) (Ok Spent)
spent-step {rule = rule} {v = v} {w = w} {u = u} {d = d} tree tried is back board =
    let spent = spent-parts tried is in
    stayed-step tree (spent-stays tried is) back board
    (record {
      searching = board-searches rule v w u d (λ i. ⊥) back (known_searching spent.searching);
      same = spent.same;
      spent = spent.spent;
      ran_out = spent.ran_out;
    }) (rw is at tried.writes)

-- ---- steps one after another

step-weaker : {D E : Type 0} (O P : Type 0) (r : Result Step SearchError) → (D → E) → OnStep r (Unit {0}) (O → P) (Unit {0})
    → OnStep r D O (Unit {0})
    → OnStep r E P (Unit {0})
step-weaker O P (Ok Done) done over h = done h
step-weaker O P (Ok Spent) done over h = over h
step-weaker O P (Err e) done over h = h

pub over-any : {O P : Type 0} (r : Result Step SearchError) → (O → P) → OnStep r (Unit {0}) (O → P) (Unit {0})
over-any (Ok Done) over = tt
over-any (Ok Spent) over = over
over-any (Err e) over = tt

-- the search is at the leaf before the step
pub later-step : {rule : RuleKind} {s v w : Search} {t u x : Tree} {c d : List Node} {O P : Type 0} {r : Result Step SearchError}
    → IsSameAim s v → u.links ≡ t.links → closed_nodes u ≡ closed_nodes t → OnStep r (Unit {0}) (O → P) (Unit {0})
    → IsStep rule v w u x c d O r → IsStep rule s w t x c d P r
later-step {rule = rule} {s = s} {v = v} {w = w} {O = O} {P = P} {r = r} aim links closed over step = record {
  came = step-weaker O P r (λ done. let more = done.progress in
      record { searching = done.searching; progress = omega (arith, more, closed) })
      over step.came;
  aim = aim-then s v w aim step.aim;
  board = step.board ∙ aim.root;
  tree = step.tree;
  longer = let longer = step.longer in let same = ap length links in omega (arith, same, longer);
  writes = rw (most-same rule aim) at step.writes;
}

-- for the same aim
pub ended-aim : {rule : RuleKind} {s v w : Search} {t : Tree} {d : List Node} → IsSameAim s v → HasEnded rule v w t d
    → HasEnded rule s w t d
ended-aim {rule = rule} {s = s} {v = v} aim ended = record {
  searching = ended.searching;
  spent =
      let spent = ended.spent in
      let budget = aim.budget in
      let positions = ap (λ (n : ℕ). threat_tree rule n v.root) aim.depth ∙ ap (threat_tree rule s.depth) aim.root in
      omega (arith, spent, budget, positions);
  ran_out = out-aim aim ended.ran_out;
}

-- at the most-proving leaf the search has ended where the budget is spent
pub ended-here : {rule : RuleKind} {s v : Search} {t u : Tree} {d : List Node} {leaf : ℕ} → leaf ≡ most_proving t
    → IsOverBudget rule s v t u d leaf → HasEnded rule s v u d
ended-here is over = record { searching = over.searching; spent = over.spent; ran_out = rw over.same (over.ran_out is) }

-- a step at a leaf that is over the budget, and one after it
pub step-then : {rule : RuleKind} {s v w : Search} {t u x : Tree} {c d e : List Node} {leaf : ℕ} {k : Step} {r : Result Step SearchError}
    → IsStep rule s v t u c d (IsOverBudget rule s v t u d leaf) (Ok k) → k ≡ Spent → IsStep rule v w u x d e (HasEnded rule v w x e) r
    → IsStep rule s w t x c e (HasEnded rule s w x e) r
step-then {rule = rule} {s = s} {v = v} {w = w} {t = t} {u = u} {d = d} {leaf = leaf} {k = k} {r = r} first is second =
    let over = on-spent k (HasStepped rule v t u d) (IsOverBudget rule s v t u d leaf) (Unit {0}) is first.came in
    let same = most-same rule first.aim in
    record {
      came = step-weaker _ _ r
          (λ done. let more = done.progress in let closed = ap closed_nodes over.same in
          record { searching = done.searching; progress = omega (arith, more, closed) })
          (over-any r (ended-aim first.aim)) second.came;
      aim = aim-then s v w first.aim second.aim;
      board = second.board ∙ first.aim.root;
      tree = second.tree;
      longer = let a = first.longer in let b = second.longer in omega (arith, a, b);
      writes = writes-on first.writes (omega (arith, same)) second.writes;
    }

-- ---- the way back

keeps-aim : (s u : Search) → KeepsTree s u → IsSameAim s u
keeps-aim s u keeps = search rules

-- the root is passed
pub root-back : {rule : RuleKind} {s u : Search} {t : Tree} {c d : List Node} {node : ℕ} {r : Result (Unit {0}) SearchError} → node ≡ 0
    → IsPassed rule s u t c d node r → s.board ≡ s.root → IsBack rule s u t c d r
root-back {rule = rule} {s = s} {u = u} {t = t} {d = d} {node = node} {r = r} root passed board =
    search (on_ok_weaker, root-searches, keeps-aim)

-- no more nodes may be written where the board alone changes
so-far-same : (rule : RuleKind) {s v : Search} → IsSameAim s v → v.attacked ≡ s.attacked → nodes_so_far rule v ≡ nodes_so_far rule s
unfolding nodes_so_far
so-far-same rule aim attacked = rw (aim.before, attacked, aim.depth, aim.root)

-- a node is passed, and then those above it
pub node-back : {rule : RuleKind} {s u m w : Search} {t : Tree} {c d e : List Node} {node : ℕ} {x : Unit {0}}
    {r : Result (Unit {0}) SearchError} → IsPassed rule s u t c d node (Ok x) → m ≡ record u { board = m.board } → IsBack rule m w t d e r
    → IsBack rule s w t c e r
node-back {rule = rule} {s = s} {u = u} {m = m} {w = w} passed rest back =
    let first : IsSameAim s m = aim-then s u m (keeps-aim s u passed.keeps) (moved-aim u m rest) in
    let attacked : m.attacked ≡ s.attacked = ap (λ (w : Search). w.attacked) rest ∙ ap (λ (w : Search). w.attacked) passed.keeps.rest in
    let limit = so-far-same rule first attacked in
    record {
      searching = back.searching;
      aim = aim-then s m w first back.aim;
      board = back.board ∙ first.root;
      writes = writes-on passed.writes (omega (arith, limit)) back.writes;
    }

-- a node is not passed, and the moves are taken back
pub node-refused : {rule : RuleKind} {s u w : Search} {t : Tree} {c d : List Node} {node : ℕ} {r : Result (Unit {0}) SearchError}
    (e : SearchError) → r ≡ Err e → IsPassed {A = Unit {0}} rule s u t c d node (Err e) → w ≡ record u { board = w.board }
    → w.board ≡ u.root → IsBack rule s w t c d r
node-refused {rule = rule} {s = s} {u = u} {w = w} {t = t} {c = c} {d = d} {r = r} e is passed rest board =
    let first = keeps-aim s u passed.keeps in
    record {
      searching = rw is tt;
      aim = aim-then s u w first (moved-aim u w rest);
      board = board ∙ first.root;
      writes = rw is passed.writes;
    }

-- ---- what there is to spare

-- the search is the same but in what it has to spare
pub spared-searches : {rule : RuleKind} {s v : Search} {t : Tree} {c : List Node} {way : ℕ → Type 0} → Searches rule s t c way
    → v ≡ record s { spare = v.spare } → HasSpare t v.spare → Searches rule v t c way
spared-searches searches rest spare = search (rules, searching-facts)

pub back-spared : {rule : RuleKind} {s v w : Search} {t : Tree} {c d : List Node} {r : Result (Unit {0}) SearchError}
    → v ≡ record s { spare = v.spare } → IsBack rule v w t c d r → IsBack rule s w t c d r
back-spared {rule = rule} {s = s} {v = v} {w = w} rest back =
    let first = spared-aim s v rest in
    let limit = so-far-same rule first (ap (λ (w : Search). w.attacked) rest) in
    record {
      searching = back.searching;
      aim = aim-then s v w first back.aim;
      board = back.board ∙ first.root;
      writes = rw limit at back.writes;
    }

-- ---- the way to another leaf

pub there-now : {rule : RuleKind} {s v : Search} {t : Tree} {c : List Node} {leaf : ℕ} {view : Grid} → IsSameAim s v
    → StandsAt rule v t c leaf view → IsThere rule s v t t c leaf view
there-now aim stands = record { stands = stands; aim = aim; links = refl; closed = refl }

pub there-later : {rule : RuleKind} {s v w : Search} {t u x : Tree} {c : List Node} {leaf : ℕ} {view : Grid} → IsSameAim s v
    → u.links ≡ t.links → closed_nodes u ≡ closed_nodes t → IsThere rule v w u x c leaf view → IsThere rule s w t x c leaf view
there-later {s = s} {v = v} {w = w} aim links closed there = record {
  stands = there.stands;
  aim = aim-then s v w aim there.aim;
  links = there.links ∙ links;
  closed = there.closed ∙ closed;
}
