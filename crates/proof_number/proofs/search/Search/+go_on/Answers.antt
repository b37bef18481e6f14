use Rattle.std.proofs.Common.{◌≡◌, ◌∙◌, ◌<◌, false, length, refl, subst, sym, ap, rules}
use Rattle.proof_tree.proofs.OpenWays.{root-alive, walk-alive}
use Rattle.proof_number.proofs.Common.{IsAlive, IsOpenLeaf, Search, is_settled, numbers_at}
use Rattle.proof_number.proofs.Recording.{board-searches}
use Rattle.proof_number.proofs.Steps.{leaf-game, leaf-place, leaf-searches, leaf-tree, leaf-view}
use Rattle.proof_number.proofs.StepLaws.{aim-then, looked-aim, moved-aim, searched-game, searched-tree, spared-aim, stands-there}
use Rattle.proof_number.proofs.StepLaws.{there-later}
use Rattle.proof_number.proofs.StepLaws.{there-now}
use Rattle.proof_number.proofs.search.Search.+go_on.Goals as goal

pub go_to-requires-clause-tree : goal.go_to-requires-clause-tree
go_to-requires-clause-tree g t c = searched-tree c.requires.searching

pub go_to-requires-clause-game : goal.go_to-requires-clause-game
go_to-requires-clause-game g t c = searched-game c.requires.searching

pub returns-then-times-eq0 : goal.returns-then-times-eq0
returns-then-times-eq0 g t c = record {
  there = there-now (moved-aim c.args.self.now c.go_to.new.self c.go_to.ensures.rest)
      (stands-there c.requires.searching c.go_to.new.self c.args.leaf (g.V.Seen.position c.go_to.new.view) c.requires.open
      c.go_to.ensures.rest c.requires.leaf.alive c.requires.leaf.in_tree c.requires.leaf.childless
      (c.requires.leaf.alive c.args.leaf (0, refl)) c.go_to.ensures.view c.go_to.ensures.board);
}

pub other_node-requires : goal.other_node-requires
other_node-requires g t c = record {
  at_leaf = stands-there c.requires.searching c.go_to.new.self c.args.leaf (g.V.Seen.position c.go_to.new.view) c.requires.open
      c.go_to.ensures.rest c.requires.leaf.alive c.requires.leaf.in_tree c.requires.leaf.childless
      (c.requires.leaf.alive c.args.leaf (0, refl)) c.go_to.ensures.view c.go_to.ensures.board;
}

pub returns-in-None : goal.returns-in-None
returns-in-None g t c = record {
  there = there-now (aim-then c.args.self.now c.go_to.new.self c.other_node.new.self
      (moved-aim c.args.self.now c.go_to.new.self c.go_to.ensures.rest)
      (looked-aim c.go_to.new.self c.other_node.new.self c.other_node.ensures.rest)) c.in-None.ensures.still;
}

pub take_back-requires : goal.take_back-requires
take_back-requires g t c =
    let still = c.in-Some.ensures.still in
    record {
      in_tree = c.requires.leaf.in_tree;
      tree = leaf-tree still;
      game = leaf-game still;
      view = leaf-view still;
      board = leaf-place still;
    }

pub follow-requires : goal.follow-requires
follow-requires g t c = record {
  searching = board-searches g.R.Rule.KIND c.other_node.new.self c.take_back.new.self c.args.tree.now c.args.compiler.now (λ i. ⊥)
      c.take_back.ensures.rest (leaf-searches c.in-Some.ensures.still);
  leaf = c.requires.leaf;
  other = c.in-Some.ensures.other;
}

pub most_proving_below-below-requires : goal.most_proving_below-below-requires
most_proving_below-below-requires g t c =
    let other = c.in-Some.ensures.other in
    record {
      in_tree = rw c.follow.ensures.followed.links other.in_tree;
      «open» = c.follow.ensures.followed.alive c.in-Some.node other.in_tree other.alive c.in-Some.node (0, refl);
    }

pub go_on-requires : goal.go_on-requires
go_on-requires g t c κs within =
    let followed = c.follow.ensures.followed in
    let other = c.in-Some.ensures.other in
    let tree = searched-tree followed.searching in
    let inside : c.in-Some.node < length c.follow.new.tree.links = rw followed.links other.in_tree in
    let there : IsOpenLeaf c.follow.new.tree c.most_proving_below-below.result = record {
      alive = subst (IsAlive c.follow.new.tree) (sym c.most_proving_below-below.ensures.leaf)
          (walk-alive c.follow.new.tree tree c.in-Some.node inside (followed.alive c.in-Some.node other.in_tree other.alive));
      in_tree = c.most_proving_below-below.ensures.in_tree;
      childless = c.most_proving_below-below.ensures.childless;
    } in
    let before = searched-tree c.requires.searching in
    let unsettled : is_settled (numbers_at c.follow.new.tree.numbers 0) ≡ false =
    followed.alive 0 before.linked.some (root-alive c.args.tree.now before c.requires.open) 0 (0, refl) in
    let root : c.follow.new.self.root ≡ c.other_node.new.self.root =
    ap (λ (s : Search). s.root) followed.rest ∙ ap (λ (s : Search). s.root) c.take_back.ensures.rest in
    let view : g.V.Seen.position c.take_back.new.view ≡ c.follow.new.self.root = c.take_back.ensures.view ∙ sym root in
    let board : c.follow.new.self.board ≡ c.follow.new.self.root =
    ap (λ (s : Search). s.board) followed.rest ∙ c.take_back.ensures.board ∙ sym root in
    let searching = followed.searching in
    search rules

pub returns-in-Some : goal.returns-in-Some
returns-in-Some g t c =
    let s : Search = c.args.self.now in
    let followed = c.follow.ensures.followed in
    record {
      there = there-later (aim-then s c.go_to.new.self c.follow.new.self (moved-aim s c.go_to.new.self c.go_to.ensures.rest)
          (aim-then c.go_to.new.self c.other_node.new.self c.follow.new.self
          (looked-aim c.go_to.new.self c.other_node.new.self c.other_node.ensures.rest)
          (aim-then c.other_node.new.self c.take_back.new.self c.follow.new.self
          (moved-aim c.other_node.new.self c.take_back.new.self c.take_back.ensures.rest)
          (spared-aim c.take_back.new.self c.follow.new.self followed.rest))))
          followed.links followed.closed c.go_on.ensures.there;
    }
