use Rattle.std.proofs.Common.{◌≡◌}
use Rattle.defence_finder.proofs.Gathering.{IsWalk}
use Rattle.defence_finder.proofs.finder.walk.Given as goal

-- the view is as before, and the moves found are those of the walk so far
abbrev pub invariant-loop-q : goal.invariant-loop-q
invariant-loop-q g l = record {
  same : g.V.Seen.position l.view ≡ g.V.Seen.position l.fn.view;
  walk : IsWalk g.R.Rule.KIND l.question.depth l.question.budget
      (g.V.Seen.position l.fn.view) l.fn.compiler l.compiler l.found.good l.found.bad l.q-iterator;
}
