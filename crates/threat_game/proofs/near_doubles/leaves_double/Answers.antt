use Rattle.std.proofs.Common.{ap, sym, subst, ◌∙◌, List}
use Rattle.game_rules.specs.Grid.{Grid, lift, put}
use Rattle.game_rules.specs.declared.Point.{Point}
use Rattle.game_rules.proofs.Boards.{is_empty-on, lift-put}
use Rattle.stone_board.specs.Steps.{holds_stone}
use Rattle.stone_board.proofs.Stones.{put-holds_stone}
use Rattle.threat_game.specs.NearDoubles.{AreCrossings, AreNearStones, DoublesAreNear}
use Rattle.threat_game.proofs.NearDoubles.{doubles-near, near-put}
use Rattle.threat_game.proofs.CrossDoubles.{crossings-of}
use Rattle.threat_game.proofs.near_doubles.leaves_double.Goals as goal

pub has_double-double-requires-clause-near : goal.has_double-double-requires-clause-near
has_double-double-requires-clause-near g c =
    subst (λ (b : Grid). AreNearStones b c.args.side c.args.p c.args.near) (sym c.put.ensures.put)
    (near-put c.args.board.now c.args.side c.args.p c.args.near c.requires.near (is_empty-on c.args.board.now c.args.p c.requires.empty))

pub has_double-double-requires-clause-far : goal.has_double-double-requires-clause-far
has_double-double-requires-clause-far g c =
    subst (λ (b : Grid). DoublesAreNear g.R.Rule.KIND b c.args.side c.args.p c.args.twos.now) (sym c.put.ensures.put)
    (subst (λ (ps : List Point). DoublesAreNear g.R.Rule.KIND (put c.args.board.now c.args.side c.args.p) c.args.side c.args.p ps)
    (sym c.requires.twos)
    (doubles-near g.R.Rule.KIND c.args.board.now c.args.side c.args.p c.put.ensures.board c.requires.empty c.requires.none))

pub has_double-double-requires-clause-crossings : goal.has_double-double-requires-clause-crossings
has_double-double-requires-clause-crossings g c =
    subst (λ (b : Grid). AreCrossings g.R.Rule.KIND b c.args.side c.args.p c.args.windows.now) (sym c.put.ensures.put)
    (crossings-of g.R.Rule.KIND c.args.board.now c.args.side c.args.p c.args.windows.now c.put.ensures.board c.requires.empty
    c.requires.before
    c.requires.none c.requires.windows)

pub lift-requires : goal.lift-requires
lift-requires g c =
    record {
      stone = ap (λ (b : Grid). holds_stone b c.args.p) (c.has_double-double.ensures.same ∙ c.put.ensures.put)
          ∙ put-holds_stone c.args.board.now c.args.side c.args.p c.put.ensures.board c.requires.empty;
    }

pub returns-clause-same : goal.returns-clause-same
returns-clause-same g c =
    c.lift.ensures.lift ∙ ap (λ (b : Grid). lift b c.args.p) (c.has_double-double.ensures.same ∙ c.put.ensures.put)
    ∙ lift-put c.args.board.now c.args.side c.args.p c.requires.empty
