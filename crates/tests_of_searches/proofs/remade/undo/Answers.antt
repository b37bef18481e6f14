use Rattle.std.proofs.Common.{◌≡◌, refl, subst, rules}
use Rattle.game_rules.proofs.Common.{Grid, lift, IsUnwon}
use Rattle.tests_of_searches.proofs.remade.undo.Goals as goal

-- the copy without the stone is a position, and so is the board of the view without it
pub undo-requires-clause-unwon : goal.undo-requires-clause-unwon
undo-requires-clause-unwon g c =
    let rule = g.R.Rule.KIND in
    let copy : c.in_ok-board.board ≡ g.V.Seen.position c.args.view.now = search rules in
    let lawful = c.in-Ok.ensures.lawful.0 refl in
    let unwon : IsUnwon rule (lift c.in_ok-board.board c.args.p) = subst (λ (b : Grid). IsUnwon rule b) c.lift.ensures.lift lawful.unwon in
    subst (λ (b : Grid). IsUnwon rule (lift b c.args.p)) copy unwon
