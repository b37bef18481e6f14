use Rattle.std.proofs.Common.{◌≡◌, take, sum_by}
use Rattle.proof_number.proofs.Common.{AreSettled, GrowsBy, IsCompiled, nodes_for}
use Rattle.proof_number.proofs.search.settle_children.Given as goal

-- the view is as before, the children so far are settled, and the compiler has grown by their nodes
abbrev pub invariant-loop-child : goal.invariant-loop-child
invariant-loop-child g l = record {
  same : g.V.Seen.position l.view ≡ g.V.Seen.position l.fn.view;
  settled : AreSettled g.R.Rule.KIND l.left (g.V.Seen.position l.fn.view) l.compiler l.children l.child-index l.numbers.items l.notes.items;
  grown : GrowsBy l.fn.compiler l.compiler (sum_by (λ child. nodes_for child.judged) (take l.child-index l.children));
  compiled : IsCompiled l.compiler;
}
