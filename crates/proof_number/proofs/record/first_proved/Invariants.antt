use Rattle.std.proofs.Common.{◌≡◌, ◌<◌, ◌≤◌, ℕ}
use Rattle.proof_tree.specs.Trees.{link_at, numbers_at}
use Rattle.proof_number.proofs.record.first_proved.Given as goal

abbrev pub invariant-loop-i : goal.invariant-loop-i
invariant-loop-i l = (k : ℕ) → (link_at l.tree.links l.node).first ≤ k → k < l.i → (numbers_at l.tree.numbers k).proof ≡ 0 → ⊥
