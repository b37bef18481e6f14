-- How far a search has come: its tree, and where it runs out.
use Rattle.std.proofs.Common.{◌≡◌, ℕ, arith, List, map, rules}
use Rattle.std.proofs.lemmas.List.{get_or-map, length-map}
use Rattle.proof_number.proofs.Common.{Grid, RuleKind, Node, Tree, link_at, Kind, Note, Search, AtMostProving, HasRunOut, IsAtLeaf}
use Rattle.proof_number.proofs.Common.{IsSameAim, IsSearching, IsSearchTree, StandsAt, most_proving, note_at, PassesBudget}
use Rattle.proof_number.proofs.GameTruths.{left-root}
use Rattle.proof_number.proofs.Opening.{leaf-facts}

-- the tree of a search, as far as it has come
abbrev pub so-far-tree : {rule : RuleKind} {s : Search} {t : Tree} {c : List Node} {way : ℕ → Type 0} → IsSearching rule s t c way
    → IsSearchTree rule s.depth s.budget s.root t
so-far-tree {s = s} {t = t} h =
    let some = h.tree.linked.some in
    let long = length-map s.notes.items (λ (n : Note). n.at) in
    let many = h.game.moves in
    record {
      moves = map (λ n. n.at) s.notes.items;
      left = map (λ n. n.left) s.notes.items;
      attacked = s.attacked;
      defended = s.defended;
      tree = h.tree;
      game = h.game;
      whole = left-root s.notes.items s.depth (omega (arith, some, long, many)) h.depth;
      counted = h.counted;
    }

-- ---- at the most-proving leaf

module _ {rule : RuleKind} {s : Search} {t : Tree} {c : List Node} {leaf : ℕ} {view : Grid} (stands : StandsAt rule s t c leaf view) where
  here : IsAtLeaf rule s t c leaf view
  here = leaf-facts stands

  abbrev so-far : IsSearchTree rule s.depth s.budget s.root t
  so-far = so-far-tree here.searching

  -- what holds of the leaf holds there
  at-leaf : leaf ≡ most_proving t → (k : Kind) → (link_at t.links leaf).kind ≡ k → (P : Kind → ℕ → Grid → Type 0)
      → P k (note_at s.notes.items leaf).left view
      → AtMostProving rule s.root t (map (λ n. n.at) s.notes.items) (map (λ n. n.left) s.notes.items) P
  at-leaf is k kind P h = search (rules, length-map, get_or-map)

  -- where to go on there passes the budget the search has run out
  pub runs-out : (k : Kind) → (link_at t.links leaf).kind ≡ k
      → PassesBudget rule s.budget s.attacked s.defended k (note_at s.notes.items leaf).left view
      → leaf ≡ most_proving t → HasRunOut rule s.depth s.budget s.root t
  runs-out k kind over is = record {
    so_far = so-far;
    undecided = here.root_open;
    over = at-leaf is k kind (PassesBudget rule s.budget s.attacked s.defended) over;
  }

-- ---- for the same aim

pub out-aim : {rule : RuleKind} {s v : Search} {t : Tree} → IsSameAim s v → HasRunOut rule v.depth v.budget v.root t
    → HasRunOut rule s.depth s.budget s.root t
out-aim {rule = rule} {s = s} {v = v} {t = t} same h = search rules

pub tree-aim : {rule : RuleKind} {s v : Search} {t : Tree} → IsSameAim s v → IsSearchTree rule v.depth v.budget v.root t
    → IsSearchTree rule s.depth s.budget s.root t
tree-aim {rule = rule} {s = s} {v = v} {t = t} same h = rw (← same.root) (rw (← same.budget) (rw same.depth at h))
