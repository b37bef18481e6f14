use Rattle.std.proofs.Common.{ap, ◌∙◌}
use Rattle.game_rules.specs.Grid.{Grid, lift}
use Rattle.game_rules.proofs.Boards.{lift-put}
use Rattle.stone_board.specs.Steps.{holds_stone}
use Rattle.stone_board.proofs.Stones.{put-holds_stone}
use Rattle.threat_moves.proofs.doubles.makes_double_point.Goals as goal

pub lift-requires : goal.lift-requires
lift-requires g c =
    record {
      stone = ap (λ (b : Grid). holds_stone b c.args.p) (c.has_double_point_alone-double.ensures.same ∙ c.put.ensures.put)
          ∙ put-holds_stone c.args.board.now c.args.side c.args.p c.put.ensures.board c.requires.empty;
    }

pub returns-clause-same : goal.returns-clause-same
returns-clause-same g c =
    c.lift.ensures.lift ∙ ap (λ (b : Grid). lift b c.args.p) (c.has_double_point_alone-double.ensures.same ∙ c.put.ensures.put)
    ∙ lift-put c.args.board.now c.args.side c.args.p c.requires.empty
