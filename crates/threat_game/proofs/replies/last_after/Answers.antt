use Rattle.std.proofs.Common.{ap, subst, ◌∙◌, IfNone}
use Rattle.game_rules.proofs.Common.{Grid, has_five, WinsByThreats, mover}
use Rattle.game_rules.proofs.Undo.{stone_back, lift_back, unwon_back}
use Rattle.stone_board.proofs.BothBoards.{copy-empty, copy-played, copy-stone, copy-back}
use Rattle.threat_game.proofs.replies.last_after.Goals as goal

pub put-requires : goal.put-requires
put-requires g c =
    record { empty = copy-empty g.R.Rule.KIND c.args.q c.requires.copy c.requires.on }

pub last_move-found-requires-clause-none : goal.last_move-found-requires-clause-none
last_move-found-requires-clause-none g c =
    ap (λ (b : Grid). has_five g.R.Rule.KIND b (mover b)) c.play.ensures.played ∙ c.requires.none

pub last_move-found-requires-clause-copy : goal.last_move-found-requires-clause-copy
last_move-found-requires-clause-copy g c =
    copy-played g.R.Rule.KIND c.args.q c.requires.copy c.requires.on c.side-defender.result c.put.ensures.put c.side-defender.ensures.side
    c.play.ensures.played

pub lift-requires : goal.lift-requires
lift-requires g c =
    record {
      stone = copy-stone g.R.Rule.KIND c.args.q c.requires.copy c.requires.on c.side-defender.result c.put.ensures.put
          c.put.ensures.board c.last_move-found.ensures.same_board;
    }

pub undo-requires-clause-stone : goal.undo-requires-clause-stone
undo-requires-clause-stone g c =
    stone_back g.R.Rule.KIND (g.V.Seen.position c.args.view.now) _ c.args.q c.play.ensures.lawful c.requires.on
    (c.last_move-found.ensures.same ∙ c.play.ensures.played)

pub undo-requires-clause-unwon : goal.undo-requires-clause-unwon
undo-requires-clause-unwon g c =
    unwon_back g.R.Rule.KIND (g.V.Seen.position c.args.view.now) _ c.args.q c.play.ensures.lawful c.requires.on
    (c.last_move-found.ensures.same ∙ c.play.ensures.played)

pub returns-clause-same : goal.returns-clause-same
returns-clause-same g c =
    c.undo.ensures.undone ∙ lift_back g.R.Rule.KIND (g.V.Seen.position c.args.view.now) _ c.args.q c.play.ensures.lawful c.requires.on
    (c.last_move-found.ensures.same ∙ c.play.ensures.played)

pub returns-clause-same_board : goal.returns-clause-same_board
returns-clause-same_board g c =
    copy-back g.R.Rule.KIND c.args.q c.requires.copy c.requires.on c.side-defender.result c.put.ensures.put
    c.last_move-found.ensures.same_board c.lift.ensures.lift

pub returns-clause-no_win : goal.returns-clause-no_win
returns-clause-no_win g c =
    subst (λ (b : Grid). IfNone c.last_move-found.result (WinsByThreats g.R.Rule.KIND 1 b → ⊥)) c.play.ensures.played
    c.last_move-found.ensures.no_win
