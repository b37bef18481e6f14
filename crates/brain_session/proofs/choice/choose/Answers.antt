use Rattle.std.proofs.Common.{◌≡◌, true, sym, ap, subst, ◌∙◌, None}
use Rattle.brain_session.proofs.Common.{is_empty, IsPosition, Point, Choice, plain_move, Moves, game_of, board_of}
use Rattle.brain_session.specs.declared.guide.Guide.TheVariants.{HeldNode as HeldGuide, OwnWin as OwnGuide}
use Rattle.brain_session.proofs.SessionGames.{along-lawful}
use Rattle.brain_session.proofs.HeldNodes.{first-accepted}
use Rattle.brain_session.proofs.LegalMoves.{plain-is_empty}
use Rattle.brain_session.proofs.Guiding.{node-legal}
use Rattle.brain_session.proofs.OwnWins.{own_table-stands, own_table-moves}
use Rattle.brain_session.proofs.Choosing.{chosen-held, chosen-own, chosen-plain, move-chosen, move-stands, found-own, found-nothing}
use Rattle.brain_session.proofs.choice.choose.Goals as goal

-- a held root leads to a node

pub by_following-requires : goal.by_following-requires
by_following-requires c =
    let g = game_of c.args.played.now c.args.game.now in
    record {
      in_table = (first-accepted c.args.held.now c.held_node.ensures.held g c.requires.along c.in-Some.node (sym c.in-Some.ensures.node)).0;
    }

pub returns-in-Some-clause-chosen : goal.returns-in-Some-clause-chosen
returns-in-Some-clause-chosen c =
    let h = c.args.held.now in
    let g = game_of c.args.played.now c.args.game.now in
    let stands = first-accepted h c.held_node.ensures.held g c.requires.along c.in-Some.node (sym c.in-Some.ensures.node) in
    move-chosen h g c.by_following.result _ c.by_following.ensures.guide
    (chosen-held h g c.in-Some.node c.by_following.result.at (sym c.in-Some.ensures.node)
    (c.by_following.ensures.follows g.rule (board_of g) stands))

pub returns-in-Some-clause-stands : goal.returns-in-Some-clause-stands
returns-in-Some-clause-stands c =
    let h = c.args.held.now in
    let g = game_of c.args.played.now c.args.game.now in
    let stands = first-accepted h c.held_node.ensures.held g c.requires.along c.in-Some.node (sym c.in-Some.ensures.node) in
    move-stands h g c.by_following.result _ c.by_following.ensures.guide g.rule (board_of g) c.by_following.ensures.table stands

pub returns-in-Some-clause-empty : goal.returns-in-Some-clause-empty
returns-in-Some-clause-empty c =
    let h = c.args.held.now in
    let g = game_of c.args.played.now c.args.game.now in
    let stands = first-accepted h c.held_node.ensures.held g c.requires.along c.in-Some.node (sym c.in-Some.ensures.node) in
    node-legal h g.rule (board_of g) (HeldGuide c.in-Some.node) c.by_following.result.at stands
    (c.by_following.ensures.follows g.rule (board_of g) stands)

-- none does

pub own_win-requires : goal.own_win-requires
own_win-requires c =
    let same = ap (λ (m : Moves). board_of (game_of m c.args.game.now)) c.held_node.ensures.same in
    record {
      lawful = subst (IsPosition c.args.game.now.kind) (sym (c.board.ensures.board ∙ same))
          (along-lawful c.args.game.now.kind c.args.played.now.start c.args.played.now.moves c.requires.along);
    }

pub by_following-requires-in-Some-2 : goal.by_following-requires-in-Some-2
by_following-requires-in-Some-2 c =
    let same = c.board.ensures.board ∙ ap (λ (m : Moves). board_of (game_of m c.args.game.now)) c.held_node.ensures.same in
    let g = game_of c.args.played.now c.args.game.now in
    let is =
    found-own g.rule (board_of g) c.board.result.now c.in_ok-own.field-0 c.in-Some-2.own c.in-Some-2.is same c.in_ok-own.ensures.found in
    record {
      in_table =
          ((own_table-stands g.rule (board_of g) c.in-Some-2.own is).in_table, own_table-moves g.rule (board_of g) c.in-Some-2.own is);
    }

pub returns-in-Some-2-clause-chosen : goal.returns-in-Some-2-clause-chosen
returns-in-Some-2-clause-chosen c =
    let same = c.board.ensures.board ∙ ap (λ (m : Moves). board_of (game_of m c.args.game.now)) c.held_node.ensures.same in
    let h = c.args.held.now in
    let g = game_of c.args.played.now c.args.game.now in
    let is = found-own g.rule (board_of g) c.board.result.now c.in_ok-own.field-0 c.in-Some-2.own c.in-Some-2.is same
    c.in_ok-own.ensures.found in
    let stands = own_table-stands g.rule (board_of g) c.in-Some-2.own is in
    move-chosen h g c.by_following-in-Some-2.result _ c.by_following-in-Some-2.ensures.guide
    (chosen-own h g c.in-Some-2.own.moves c.by_following-in-Some-2.result.at (sym c.held_node.ensures.node ∙ c.in_default.is) is.fewest
    (c.by_following-in-Some-2.ensures.follows g.rule (board_of g) stands))

pub returns-in-Some-2-clause-stands : goal.returns-in-Some-2-clause-stands
returns-in-Some-2-clause-stands c =
    let same = c.board.ensures.board ∙ ap (λ (m : Moves). board_of (game_of m c.args.game.now)) c.held_node.ensures.same in
    let h = c.args.held.now in
    let g = game_of c.args.played.now c.args.game.now in
    let is = found-own g.rule (board_of g) c.board.result.now c.in_ok-own.field-0 c.in-Some-2.own c.in-Some-2.is same
    c.in_ok-own.ensures.found in
    move-stands h g c.by_following-in-Some-2.result _ c.by_following-in-Some-2.ensures.guide g.rule (board_of g)
    c.by_following-in-Some-2.ensures.table (own_table-stands g.rule (board_of g) c.in-Some-2.own is)

pub returns-in-Some-2-clause-empty : goal.returns-in-Some-2-clause-empty
returns-in-Some-2-clause-empty c =
    let same = c.board.ensures.board ∙ ap (λ (m : Moves). board_of (game_of m c.args.game.now)) c.held_node.ensures.same in
    let h = c.args.held.now in
    let g = game_of c.args.played.now c.args.game.now in
    let is = found-own g.rule (board_of g) c.board.result.now c.in_ok-own.field-0 c.in-Some-2.own c.in-Some-2.is same
    c.in_ok-own.ensures.found in
    let stands = own_table-stands g.rule (board_of g) c.in-Some-2.own is in
    node-legal h g.rule (board_of g) (OwnGuide c.in-Some-2.own) c.by_following-in-Some-2.result.at stands
    (c.by_following-in-Some-2.ensures.follows g.rule (board_of g) stands)

-- and no win of the brain's own is found

pub returns-in-None-clause-chosen : goal.returns-in-None-clause-chosen
returns-in-None-clause-chosen c =
    let same = c.board.ensures.board ∙ ap (λ (m : Moves). board_of (game_of m c.args.game.now)) c.held_node.ensures.same in
    let h = c.args.held.now in
    let g = game_of c.args.played.now c.args.game.now in
    let none = sym c.held_node.ensures.node ∙ c.in_default.is in
    let nothing = found-nothing g.rule (board_of g) c.board.result.now c.in_ok-own.field-0 c.in-None.is same c.in_ok-own.ensures.found in
    let plain = c.plain_move.ensures.plain ∙ ap (λ (m : Moves). plain_move c.args.game.now.kind (board_of (game_of m c.args.game.now)))
    c.held_node.ensures.same in
    ap (λ (p : Point). let choice : Choice = record { at = p; followed = None } in choice) plain ∙ sym (chosen-plain h g none nothing)

pub returns-in-None-clause-empty : goal.returns-in-None-clause-empty
returns-in-None-clause-empty c =
    let g = game_of c.args.played.now c.args.game.now in
    let plain = c.plain_move.ensures.plain
    ∙ ap (λ (m : Moves). plain_move c.args.game.now.kind (board_of (game_of m c.args.game.now))) c.held_node.ensures.same in
    subst (λ (p : Point). is_empty (board_of g) p ≡ true) (sym plain) (plain-is_empty g.rule (board_of g)
    (along-lawful c.args.game.now.kind c.args.played.now.start c.args.played.now.moves c.requires.along))
