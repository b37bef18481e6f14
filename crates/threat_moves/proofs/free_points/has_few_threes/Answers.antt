use Rattle.std.proofs.Common.{ap, ◌∙◌}
use Rattle.game_rules.specs.Grid.{Grid, holds, lift}
use Rattle.game_rules.specs.declared.Side.TheVariants.{Black}
use Rattle.game_rules.proofs.Boards.{is_empty-on, holds-put_same, lift-put}
use Rattle.stone_board.specs.Steps.{holds_stone}
use Rattle.stone_board.proofs.Stones.{put-holds_stone}
use Rattle.threat_moves.proofs.free_points.has_few_threes.Goals as goal

pub line_threes-few-requires : goal.line_threes-few-requires
line_threes-few-requires g c =
    record {
      stone = ap (λ (b : Grid). holds b Black c.args.p) c.put.ensures.put
          ∙ holds-put_same c.args.board.now Black c.args.p c.put.ensures.board (is_empty-on c.args.board.now c.args.p c.requires.empty);
    }

pub lift-requires : goal.lift-requires
lift-requires g c =
    record {
      stone = ap (λ (b : Grid). holds_stone b c.args.p) c.put.ensures.put
          ∙ put-holds_stone c.args.board.now Black c.args.p c.put.ensures.board c.requires.empty;
    }

pub returns-clause-same : goal.returns-clause-same
returns-clause-same g c = c.lift.ensures.lift ∙ ap (λ (b : Grid). lift b c.args.p) c.put.ensures.put
    ∙ lift-put c.args.board.now Black c.args.p c.requires.empty
