use Rattle.std.proofs.Common.{◌∙◌, refl, arith, rules}
use Rattle.proof_number.proofs.Common.{Attack, Defend}
use Rattle.proof_number.proofs.Steps.{leaf-game, leaf-inside, leaf-place, leaf-tree, leaf-view}
use Rattle.proof_number.proofs.StepLaws.{back-done, back-fails, back-spared, grown-aim, grown-parts, grown-place, grown-searches}
use Rattle.proof_number.proofs.StepLaws.{spared-searches}
use Rattle.proof_number.proofs.StepLaws.{spent-stays, spent-step, stayed-board, stayed-game, stayed-inside, stayed-place, stayed-root}
use Rattle.proof_number.proofs.StepLaws.{stayed-step}
use Rattle.proof_number.proofs.StepLaws.{stayed-tree}
use Rattle.proof_number.proofs.search.Search.try_leaf.Goals as goal

-- ---- the leaf is settled or has children

pub overflow_add-self : goal.overflow_add-self
overflow_add-self g c =
    let grown = grown-parts c.in-Ok-Done.ensures.tried c.in-Ok-Done.field-0-is in
    let fits = grown.spare.fits Attack in
    let short = grown.searching.tree.short in
    omega (arith, fits, short)

pub overflow_add-self-in-Ok-Done : goal.overflow_add-self-in-Ok-Done
overflow_add-self-in-Ok-Done g c =
    let grown = grown-parts c.in-Ok-Done.ensures.tried c.in-Ok-Done.field-0-is in
    let fits = grown.spare.fits Defend in
    let short = grown.searching.tree.short in
    omega (arith, fits, short)

pub go_back-requires : goal.go_back-requires
go_back-requires g c =
    let tried = c.in-Ok-Done.ensures.tried in
    let grown = grown-parts tried c.in-Ok-Done.field-0-is in
    let place = grown-place grown c.args.self.now refl in
    record {
      in_tree = grown.in_tree;
      searching = spared-searches (grown-searches tried c.in-Ok-Done.field-0-is) refl grown.spare;
      view = c.grow.ensures.same ∙ leaf-view c.requires.at_leaf ∙ place;
      board = grown.board ∙ leaf-place c.requires.at_leaf ∙ place;
    }

pub returns-in_err-go_back-in-Ok-Done-clause-step : goal.returns-in_err-go_back-in-Ok-Done-clause-step
returns-in_err-go_back-in-Ok-Done-clause-step g c =
    let tried = c.in-Ok-Done.ensures.tried in
    back-fails (grown-parts tried c.in-Ok-Done.field-0-is) c.args.self.now refl tried.writes _
    (back-spared refl c.in_err-go_back-in-Ok-Done.ensures.back) (search rules)

pub returns-in_err-go_back-in-Ok-Done-clause-view : goal.returns-in_err-go_back-in-Ok-Done-clause-view
returns-in_err-go_back-in-Ok-Done-clause-view g c =
    c.go_back.ensures.view ∙ (grown-aim (grown-parts c.in-Ok-Done.ensures.tried c.in-Ok-Done.field-0-is) c.args.self.now refl).root

pub returns-in_ok-go_back-in-Ok-Done-clause-step : goal.returns-in_ok-go_back-in-Ok-Done-clause-step
returns-in_ok-go_back-in-Ok-Done-clause-step g c =
    let tried = c.in-Ok-Done.ensures.tried in
    back-done (grown-parts tried c.in-Ok-Done.field-0-is) c.args.self.now refl tried.writes
    (back-spared refl c.in_ok-go_back-in-Ok-Done.ensures.back)

pub returns-in_ok-go_back-in-Ok-Done-clause-view : goal.returns-in_ok-go_back-in-Ok-Done-clause-view
returns-in_ok-go_back-in-Ok-Done-clause-view g c =
    c.go_back.ensures.view ∙ (grown-aim (grown-parts c.in-Ok-Done.ensures.tried c.in-Ok-Done.field-0-is) c.args.self.now refl).root

-- ---- the budget is spent

pub take_back-requires : goal.take_back-requires
take_back-requires g c =
    let rule = g.R.Rule.KIND in
    let s = c.args.self.now in
    let stays = spent-stays c.in-Ok-Spent.ensures.tried c.in-Ok-Spent.field-0-is in
    let place = stayed-place rule s _ _ _ _ refl stays c.args.leaf in
    record {
      in_tree = stayed-inside rule s _ _ _ _ refl stays _ (leaf-inside c.requires.at_leaf);
      tree = stayed-tree rule s _ _ _ _ refl stays (leaf-tree c.requires.at_leaf);
      game = stayed-game rule s _ _ _ _ refl stays (leaf-game c.requires.at_leaf);
      view = c.grow.ensures.same ∙ leaf-view c.requires.at_leaf ∙ place;
      board = stayed-board rule s _ _ _ _ refl stays ∙ leaf-place c.requires.at_leaf ∙ place;
    }

pub returns-in-Ok-Spent-clause-step : goal.returns-in-Ok-Spent-clause-step
returns-in-Ok-Spent-clause-step g c = spent-step (leaf-tree c.requires.at_leaf) c.in-Ok-Spent.ensures.tried c.in-Ok-Spent.field-0-is
    c.take_back.ensures.rest c.take_back.ensures.board

pub returns-in-Ok-Spent-clause-view : goal.returns-in-Ok-Spent-clause-view
returns-in-Ok-Spent-clause-view g c = c.take_back.ensures.view
    ∙ stayed-root g.R.Rule.KIND c.args.self.now _ _ _ _ refl (spent-stays c.in-Ok-Spent.ensures.tried c.in-Ok-Spent.field-0-is)

-- ---- the call was refused

pub take_back-requires-in-Err : goal.take_back-requires-in-Err
take_back-requires-in-Err g c =
    let rule = g.R.Rule.KIND in
    let s = c.args.self.now in
    let stays = c.in-Err.ensures.tried.step in
    let place = stayed-place rule s _ _ _ _ refl stays c.args.leaf in
    record {
      in_tree = stayed-inside rule s _ _ _ _ refl stays _ (leaf-inside c.requires.at_leaf);
      tree = stayed-tree rule s _ _ _ _ refl stays (leaf-tree c.requires.at_leaf);
      game = stayed-game rule s _ _ _ _ refl stays (leaf-game c.requires.at_leaf);
      view = c.grow.ensures.same ∙ leaf-view c.requires.at_leaf ∙ place;
      board = stayed-board rule s _ _ _ _ refl stays ∙ leaf-place c.requires.at_leaf ∙ place;
    }

pub returns-in-Err-clause-step : goal.returns-in-Err-clause-step
returns-in-Err-clause-step g c = stayed-step (leaf-tree c.requires.at_leaf) c.in-Err.ensures.tried.step c.take_back-in-Err.ensures.rest
    c.take_back-in-Err.ensures.board tt c.in-Err.ensures.tried.writes

pub returns-in-Err-clause-view : goal.returns-in-Err-clause-view
returns-in-Err-clause-view g c = c.take_back-in-Err.ensures.view
    ∙ stayed-root g.R.Rule.KIND c.args.self.now _ _ _ _ refl c.in-Err.ensures.tried.step
