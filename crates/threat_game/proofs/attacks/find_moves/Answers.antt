use Rattle.std.proofs.Common.{rules, ◌≡◌, true, ap, ◌∙◌, subst, sym, refl, arith, ◌++◌, List}
use Rattle.std.proofs.lemmas.Grind.{common_steps}
use Rattle.std.specs.List.{filter, list_all}
use Rattle.game_rules.specs.Grid.{Grid, points_of}
use Rattle.game_rules.specs.Play.{mover}
use Rattle.game_rules.specs.declared.Point.{Point}
use Rattle.open_windows.specs.PointSets.{has_point, TellsWindows}
use Rattle.threat_game.specs.Attacks.{tried_moves, is_settled_move, is_tried}
use Rattle.threat_game.proofs.AttackLaws.{others-fail}
use Rattle.threat_game.proofs.CandidateLaws.{filter-in, all-in}
use Rattle.threat_game.proofs.attacks.find_moves.Goals as goal

pub loop-p-init : goal.loop-p-init
loop-p-init g c =
    let b : Grid = g.V.Seen.position c.args.view.now in
    let set : List Point = c.into_iter-p-iterator.result in
    let points : set ≡ filter (has_point c.candidate_points-candidates.result) (points_of b) =
    c.into_iter-p-iterator.ensures.into_iter_gives ∙ c.points-p-items.ensures.points
    ∙ ap (λ (w : Grid). filter (has_point c.candidate_points-candidates.result) (points_of w)) c.board.ensures.board in
    let passed = c.candidate_points-candidates.ensures.others.passed in (
      refl,
      refl,
      ap (λ (ps : List Point). ps ++ filter (is_tried g.R.Rule.KIND b) set) c.new-moves.ensures.empty
          ∙ ap (filter (is_tried g.R.Rule.KIND b)) points
          ∙ filter-in (has_point c.candidate_points-candidates.result) (is_tried g.R.Rule.KIND b) (λ p out. (passed p out).0) (points_of b),
      ap (list_all (is_settled_move g.R.Rule.KIND b)) points
          ∙ all-in (has_point c.candidate_points-candidates.result) (is_settled_move g.R.Rule.KIND b) (λ p out. (passed p out).1)
          (points_of b),
    )

pub returns-clause-attacks : goal.returns-clause-attacks
returns-clause-attacks g c =
    let b : Grid = g.V.Seen.position c.args.view.now in
    let found : c.loop-p.moves ≡ tried_moves g.R.Rule.KIND b = first_of (search rules, grind (arith, common_steps)) in
    let settled : list_all (is_settled_move g.R.Rule.KIND b) (points_of b) ≡ true = first_of (search rules, grind (arith, common_steps)) in
    (found, others-fail g.R.Rule.KIND b settled)

pub judge_move-requires-clause-windows : goal.judge_move-requires-clause-windows
judge_move-requires-clause-windows g c =
    subst (λ (w : Grid). TellsWindows w (mover w) 3 c.args.windows.now) (sym c.loop-p.invariant.0) c.requires.windows
