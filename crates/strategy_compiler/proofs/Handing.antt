-- Nodes that are handed over one after the other, with the numbers that they have.
use Rattle.std.proofs.Common.{◌≡◌, ◌<◌, List, [], ◌∷◌, ◌++◌, length, refl, ap, sym, ◌∙◌, length-append, append_assoc, Some, slice_get}
use Rattle.std.proofs.Common.{rules}
use Rattle.strategy_compiler.proofs.Common.{Node, MAX_NODES, IsNode, IsTable}

node-between : (done rest : List Node) (n : Node) → slice_get (done ++ n ∷ rest) (length done) ≡ Some n
node-between [] rest n = refl
node-between (m ∷ done) rest n = node-between done rest n

module _ (t done next rest : List Node) (n : Node) (table : IsTable t) (whole : done ++ next ≡ t) (first : next ≡ n ∷ rest) where
  parts : done ++ n ∷ rest ≡ t
  parts = ap (λ (ns : List Node). done ++ ns) (sym first) ∙ whole

  -- the next is a node of a table at the place after those that are done
  pub next-is_node : IsNode n (length done)
  next-is_node = table.nodes (length done) n (ap (λ (ns : List Node). slice_get ns (length done)) (sym parts) ∙ node-between done rest n)

  -- which has room for it
  pub next-has_room : length done < MAX_NODES
  next-has_room = search (rules, length-append)

  pub next-done : (more : List Node) → more ≡ done ++ n ∷ [] → more ++ rest ≡ t
  next-done more is = ap (λ (ns : List Node). ns ++ rest) is ∙ append_assoc done (n ∷ []) rest ∙ parts
