use Rattle.std.proofs.Common.{◌∙◌, refl, subst, sym}
use Rattle.proof_tree.proofs.OpenWays.{way-open}
use Rattle.proof_number.proofs.Common.{IsAlive}
use Rattle.proof_number.proofs.StepLaws.{ended-aim, ended-here, later-step, moved-aim, over-any, searched-game, searched-tree, stands-there}
use Rattle.proof_number.proofs.search.Search.try_most_proving.Goals as goal

pub go_to-requires-clause-tree : goal.go_to-requires-clause-tree
go_to-requires-clause-tree g c = searched-tree c.requires.searching

pub go_to-requires-clause-game : goal.go_to-requires-clause-game
go_to-requires-clause-game g c = searched-game c.requires.searching

pub try_leaf-requires : goal.try_leaf-requires
try_leaf-requires g c = record {
  at_leaf = stands-there c.requires.searching c.go_to.new.self c.most_proving-leaf.result (g.V.Seen.position c.go_to.new.view)
      c.requires.open c.go_to.ensures.rest
      (subst (IsAlive c.args.tree.now) (sym c.most_proving-leaf.ensures.leaf)
      (way-open c.args.tree.now (searched-tree c.requires.searching) c.requires.open)) c.most_proving-leaf.ensures.in_tree
      c.most_proving-leaf.ensures.childless c.most_proving-leaf.ensures.open c.go_to.ensures.view c.go_to.ensures.board;
}

pub returns-clause-step : goal.returns-clause-step
returns-clause-step g c =
    let aim = moved-aim c.args.self.now c.go_to.new.self c.go_to.ensures.rest in
    later-step aim refl refl (over-any c.try_leaf.result (λ over. ended-aim aim (ended-here c.most_proving-leaf.ensures.leaf over)))
    c.try_leaf.ensures.step

pub returns-clause-view : goal.returns-clause-view
returns-clause-view g c = c.try_leaf.ensures.view ∙ (moved-aim c.args.self.now c.go_to.new.self c.go_to.ensures.rest).root
