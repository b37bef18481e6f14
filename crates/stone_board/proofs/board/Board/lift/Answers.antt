use Rattle.std.proofs.Common.{◌≡◌, ℕ, ◌-◌, ◌<◌, ◌&&◌, true, sym, ap, subst, ◌∙◌, List, length}
use Rattle.stone_board.proofs.Common.{Grid, is_on, is_stone_of, cell_at, place_of, holds, lift, Empty, Black, White, IsKept, holds_stone}
use Rattle.game_rules.specs.declared.Cell.TheVariants.{Black as BlackStone, White as WhiteStone}
use Rattle.game_rules.proofs.Boards.{and_left, place_fits}
use Rattle.stone_board.proofs.Counts.{same_item, lift-black, lift-white}
use Rattle.stone_board.proofs.board.Board.lift.Goals as goal

pub invariant_of-self : goal.invariant_of-self
invariant_of-self c =
    let b : Grid = record { width = c.self.inside.width; height = c.self.inside.height; cells = c.self.inside.cells.items } in
    let on : is_on b c.args.p ≡ true = and_left (is_on b c.args.p) _
    (ap (λ (g : Grid). holds_stone g c.args.p) c.self.view_is ∙ c.requires.stone) in
    let within : place_of b c.args.p < length b.cells = place_fits b c.args.p c.self.invariant.board on in
    let cell : cell_at b c.args.p ≡ BlackStone = same_item b.cells (place_of b c.args.p) Empty c.index.result.now within
    ∙ sym c.index.ensures ∙ c.in-Black.is in
    let mine : holds b Black c.args.p ≡ true = ap (λ r. r && is_stone_of Black (cell_at b c.args.p)) on ∙ ap (is_stone_of Black) cell in
    subst (λ (bits : List ℕ). IsKept (lift b c.args.p) (c.self.inside.black - 1) c.self.inside.white bits) (sym c.turn_all.ensures.turned)
    (lift-black b c.args.p _ _ _ c.self.invariant mine)

pub invariant_of-self-in-White : goal.invariant_of-self-in-White
invariant_of-self-in-White c =
    let b : Grid = record { width = c.self.inside.width; height = c.self.inside.height; cells = c.self.inside.cells.items } in
    let on : is_on b c.args.p ≡ true =
    and_left (is_on b c.args.p) _ (ap (λ (g : Grid). holds_stone g c.args.p) c.self.view_is ∙ c.requires.stone) in
    let within : place_of b c.args.p < length b.cells = place_fits b c.args.p c.self.invariant.board on in
    let cell : cell_at b c.args.p ≡ WhiteStone =
    same_item b.cells (place_of b c.args.p) Empty c.index.result.now within ∙ sym c.index.ensures ∙ c.in-White.is in
    let mine : holds b White c.args.p ≡ true = ap (λ r. r && is_stone_of White (cell_at b c.args.p)) on ∙ ap (is_stone_of White) cell in
    subst (λ (bits : List ℕ). IsKept (lift b c.args.p) c.self.inside.black (c.self.inside.white - 1) bits)
    (sym c.turn_all-in-White.ensures.turned) (lift-white b c.args.p _ _ _ c.self.invariant mine)
