use Rattle.std.proofs.Common.{◌≡◌, ℕ, ◌+◌, true, sym, ap, subst, ◌∙◌, List}
use Rattle.stone_board.proofs.Common.{Grid, is_empty, put, Black, White, IsKept}
use Rattle.stone_board.proofs.Counts.{put-black, put-white}
use Rattle.stone_board.proofs.board.Board.put.Goals as goal

pub invariant_of-self : goal.invariant_of-self
invariant_of-self c =
    let b : Grid = record { width = c.self.inside.width; height = c.self.inside.height; cells = c.self.inside.cells.items } in
    let empty : is_empty b c.args.p ≡ true = ap (λ (g : Grid). is_empty g c.args.p) c.self.view_is ∙ c.requires.empty in
    subst (λ (bits : List ℕ). IsKept (put b Black c.args.p) (c.self.inside.black + 1) c.self.inside.white bits)
    (sym c.turn_all.ensures.turned) (put-black b c.args.p _ _ _ c.self.invariant empty)

pub invariant_of-self-in-White : goal.invariant_of-self-in-White
invariant_of-self-in-White c =
    let b : Grid = record { width = c.self.inside.width; height = c.self.inside.height; cells = c.self.inside.cells.items } in
    let empty : is_empty b c.args.p ≡ true = ap (λ (g : Grid). is_empty g c.args.p) c.self.view_is ∙ c.requires.empty in
    subst (λ (bits : List ℕ). IsKept (put b White c.args.p) c.self.inside.black (c.self.inside.white + 1) bits)
    (sym c.turn_all-in-White.ensures.turned) (put-white b c.args.p _ _ _ c.self.invariant empty)
