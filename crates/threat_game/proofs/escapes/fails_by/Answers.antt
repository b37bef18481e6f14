use Rattle.std.proofs.Common.{subst, ◌∙◌, IfOk, IsTrue}
use Rattle.game_rules.specs.Grid.{Grid}
use Rattle.game_rules.proofs.Undo.{stone_back, lift_back, unwon_back}
use Rattle.stone_board.proofs.BothBoards.{copy-empty, copy-played, copy-stone, copy-back}
use Rattle.threat_game.specs.Replies.{HasEscape}
use Rattle.threat_game.proofs.escapes.fails_by.Goals as goal

pub put-requires : goal.put-requires
put-requires g c =
    record { empty = copy-empty g.R.Rule.KIND c.args.p c.requires.copy c.requires.on }

pub has_escape-found-requires : goal.has_escape-found-requires
has_escape-found-requires g c =
    record {
      copy = copy-played g.R.Rule.KIND c.args.p c.requires.copy c.requires.on c.side-attacker.result c.put.ensures.put
          c.side-attacker.ensures.side c.play.ensures.played;
    }

pub lift-requires : goal.lift-requires
lift-requires g c =
    record {
      stone = copy-stone g.R.Rule.KIND c.args.p c.requires.copy c.requires.on c.side-attacker.result c.put.ensures.put
          c.put.ensures.board c.has_escape-found.ensures.same_board;
    }

pub undo-requires-clause-stone : goal.undo-requires-clause-stone
undo-requires-clause-stone g c =
    stone_back g.R.Rule.KIND (g.V.Seen.position c.args.view.now) _ c.args.p c.play.ensures.lawful c.requires.on
    (c.has_escape-found.ensures.same ∙ c.play.ensures.played)

pub undo-requires-clause-unwon : goal.undo-requires-clause-unwon
undo-requires-clause-unwon g c =
    unwon_back g.R.Rule.KIND (g.V.Seen.position c.args.view.now) _ c.args.p c.play.ensures.lawful c.requires.on
    (c.has_escape-found.ensures.same ∙ c.play.ensures.played)

pub returns-clause-same : goal.returns-clause-same
returns-clause-same g c =
    c.undo.ensures.undone ∙ lift_back g.R.Rule.KIND (g.V.Seen.position c.args.view.now) _ c.args.p c.play.ensures.lawful c.requires.on
    (c.has_escape-found.ensures.same ∙ c.play.ensures.played)

pub returns-clause-same_board : goal.returns-clause-same_board
returns-clause-same_board g c =
    copy-back g.R.Rule.KIND c.args.p c.requires.copy c.requires.on c.side-attacker.result c.put.ensures.put
    c.has_escape-found.ensures.same_board c.lift.ensures.lift

pub returns-clause-escape : goal.returns-clause-escape
returns-clause-escape g c =
    subst (λ (b : Grid). IfOk c.has_escape-found.result (λ found. IsTrue found → HasEscape g.R.Rule.KIND 1 b)) c.play.ensures.played
    c.has_escape-found.ensures.escape
