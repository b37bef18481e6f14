use Rattle.std.proofs.Common.{◌≡◌, ◌≤◌, ◌-◌, ◌*◌, length, Ok}
use Rattle.proof_number.proofs.Common.{Writes, IsSameAim, Searches, closed_nodes, most_nodes, room_in}
use Rattle.proof_number.proofs.search.Search.run.Given as goal

-- the search is for the same, and stands at the root; the tree and the compiler have grown
abbrev pub invariant-loop-self : goal.invariant-loop-self
invariant-loop-self g l = record {
  searching : Searches g.R.Rule.KIND l.self l.tree l.compiler (λ i. ⊥);
  aim : IsSameAim l.fn.self l.self;
  view : g.V.Seen.position l.view ≡ g.V.Seen.position l.fn.view;
  board : l.self.board ≡ l.self.root;
  longer : length l.fn.tree.links ≤ length l.tree.links;
  writes : Writes {A = Unit {0}} l.fn.compiler l.compiler (room_in (most_nodes g.R.Rule.KIND l.fn.self) l.fn.compiler) (Ok tt);
}

abbrev pub decreases-loop-self : goal.decreases-loop-self
decreases-loop-self g l = 2 * l.self.budget - closed_nodes l.tree
