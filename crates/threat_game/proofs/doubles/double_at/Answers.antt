use Rattle.std.proofs.Common.{◌≡◌, ◌≤◌, List, length, ap, ◌∙◌}
use Rattle.game_rules.proofs.Common.{Grid, lift, five_points}
use Rattle.game_rules.specs.declared.Point.{Point}
use Rattle.game_rules.proofs.Boards.{lift-put}
use Rattle.stone_board.specs.Steps.{holds_stone}
use Rattle.stone_board.proofs.Stones.{put-holds_stone}
use Rattle.threat_game.proofs.DoubleLaws.{leaves-both}
use Rattle.threat_game.proofs.doubles.double_at.Goals as goal

pub lift-requires : goal.lift-requires
lift-requires g c =
    record {
      stone = ap (λ (b : Grid). holds_stone b c.args.at) c.put.ensures.put
          ∙ put-holds_stone c.args.board.now c.args.side c.args.at c.put.ensures.board c.requires.empty;
    }

pub returns-in_err-points-clause-same : goal.returns-in_err-points-clause-same
returns-in_err-points-clause-same g c =
    c.lift.ensures.lift ∙ ap (λ (b : Grid). lift b c.args.at) c.put.ensures.put
    ∙ lift-put c.args.board.now c.args.side c.args.at c.requires.empty

pub returns-in-len2-up-clause-both : goal.returns-in-len2-up-clause-both
returns-in-len2-up-clause-both g c =
    let xs : List Point = c.as_slice-2.result.now in
    let many : 2 ≤ length xs = c.in-len2-up.len_at_least in
    let are : xs ≡ five_points g.R.Rule.KIND c.put.new.self c.args.side = c.as_slice-2.ensures.items ∙ c.in_ok-points.ensures.fives in
    leaves-both g.R.Rule.KIND c.args.board.now c.args.side c.args.at c.requires.empty xs
    (are ∙ ap (λ (b : Grid). five_points g.R.Rule.KIND b c.args.side) c.put.ensures.put) many

pub returns-in-len2-up-clause-same : goal.returns-in-len2-up-clause-same
returns-in-len2-up-clause-same g c =
    c.lift.ensures.lift ∙ ap (λ (b : Grid). lift b c.args.at) c.put.ensures.put
    ∙ lift-put c.args.board.now c.args.side c.args.at c.requires.empty

pub returns-clause-same : goal.returns-clause-same
returns-clause-same g c =
    c.lift.ensures.lift ∙ ap (λ (b : Grid). lift b c.args.at) c.put.ensures.put
    ∙ lift-put c.args.board.now c.args.side c.args.at c.requires.empty
