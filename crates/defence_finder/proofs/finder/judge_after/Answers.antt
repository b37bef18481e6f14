use Rattle.std.proofs.Common.{◌∙◌}
use Rattle.game_rules.proofs.Common.{Grid}
use Rattle.game_rules.proofs.Undo.{stone_back, lift_back, unwon_back}
use Rattle.four_search.specs.FourGame.{four_cost}
use Rattle.defence_finder.proofs.Settling.{four-enough, four-verdict}
use Rattle.defence_finder.proofs.finder.judge_after.Goals as goal

-- ---- the move, taken back

pub undo-requires-clause-stone : goal.undo-requires-clause-stone
undo-requires-clause-stone g c =
    let there = c.four_search_with-found.ensures.same ∙ c.play.ensures.played in
    stone_back g.R.Rule.KIND (g.V.Seen.position c.args.view.now) _ c.args.q c.play.ensures.lawful c.requires.goes_on there

pub undo-requires-clause-unwon : goal.undo-requires-clause-unwon
undo-requires-clause-unwon g c =
    let there = c.four_search_with-found.ensures.same ∙ c.play.ensures.played in
    unwon_back g.R.Rule.KIND (g.V.Seen.position c.args.view.now) _ c.args.q c.play.ensures.lawful c.requires.goes_on there

pub returns-in_err-win-clause-same : goal.returns-in_err-win-clause-same
returns-in_err-win-clause-same g c =
    let there = c.four_search_with-found.ensures.same ∙ c.play.ensures.played in
    c.undo.ensures.undone
    ∙ lift_back g.R.Rule.KIND (g.V.Seen.position c.args.view.now) _ c.args.q c.play.ensures.lawful c.requires.goes_on there

pub returns-in-Win-clause-same : goal.returns-in-Win-clause-same
returns-in-Win-clause-same g c =
    let there = c.four_search_with-found.ensures.same ∙ c.play.ensures.played in
    c.undo.ensures.undone
    ∙ lift_back g.R.Rule.KIND (g.V.Seen.position c.args.view.now) _ c.args.q c.play.ensures.lawful c.requires.goes_on there

pub returns-in-None-clause-same : goal.returns-in-None-clause-same
returns-in-None-clause-same g c =
    let there = c.four_search_with-found.ensures.same ∙ c.play.ensures.played in
    c.undo.ensures.undone
    ∙ lift_back g.R.Rule.KIND (g.V.Seen.position c.args.view.now) _ c.args.q c.play.ensures.lawful c.requires.goes_on there

pub returns-in-Spent-clause-same : goal.returns-in-Spent-clause-same
returns-in-Spent-clause-same g c =
    let there = c.four_search_with-found.ensures.same ∙ c.play.ensures.played in
    c.undo.ensures.undone
    ∙ lift_back g.R.Rule.KIND (g.V.Seen.position c.args.view.now) _ c.args.q c.play.ensures.lawful c.requires.goes_on there

-- ---- a win that was found

pub returns-in-Win-clause-verdict : goal.returns-in-Win-clause-verdict
returns-in-Win-clause-verdict g c =
    let rule = g.R.Rule.KIND in
    let n = c.args.question.now.depth in
    let t = c.four_search_with-found.new.compiler in
    let d : Grid = g.V.Seen.position c.play.new.self in
    let won = rw c.in-Win.is at c.in_ok-win.ensures.win in
    let enough = four-enough c.args.question.now.budget (four_cost rule n d) _ c.in-Win.win c.in-Win.is c.in_ok-win.ensures.spent in
    four-verdict rule n c.args.question.now.budget (g.V.Seen.position c.args.view.now) c.args.q c.requires.goes_on d c.play.ensures.played t
    c.in-Win.win won enough
