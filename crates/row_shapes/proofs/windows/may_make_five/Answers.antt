use Rattle.std.proofs.Common.{◌^◌, ◌≡◌, ℕ, refl, subst, ap, ◌∙◌, bit_or}
use Rattle.std.specs.Int.{bit_at}
use Rattle.game_rules.proofs.Common.{put}
use Rattle.game_rules.proofs.Positions.{IsBoard-put}
use Rattle.game_rules.specs.declared.Side.{Side}
use Rattle.stone_board.specs.Lines.{TellsLine, line_of, place_on}
use Rattle.stone_board.proofs.LineStones.{TellsLine-other}
use Rattle.row_shapes.proofs.Common.{IsWindow}
use Rattle.row_shapes.proofs.WindowLaws.{no_end, rival_clear, zero_clear, is_zero}
use Rattle.row_shapes.proofs.windows.may_make_five.Goals as goal

pub returns-then-may_hold_four-clause-none : goal.returns-then-may_hold_four-clause-none
returns-then-may_hold_four-clause-none c = λ off.
    let b = c.args.board.now in
    let bit : c.bit_of_place.result ≡ 2 ^ place_on c.args.axis c.args.p = c.bit_of_place.ensures.bit
    ∙ ap (λ k. 2 ^ k) c.place_on.ensures.place in
    let Told : ℕ → Type 0 = λ m. (i j : ℕ) → IsWindow (bit_or c.line_through.result m) c.line_through-then-may_hold_four.result i j
    → bit_at c.windows.result i ≡ 1 in
    no_end b c.args.side c.args.axis c.args.p c.line_through.result c.line_through-then-may_hold_four.result
    c.line_through.ensures.board c.requires.empty c.line_through.ensures.tells
    (rival_clear (put b c.args.side c.args.p) c.args.side c.args.axis (line_of c.args.axis c.args.p)
    c.line_through-then-may_hold_four.result
    (IsBoard-put b c.args.side c.args.p c.line_through.ensures.board)
    (TellsLine-other b c.args.side c.args.axis c.args.p c.line_through-then-may_hold_four.result c.line_through.ensures.board
    c.requires.empty
    (subst (λ (t : Side). TellsLine b t c.args.axis
    (line_of c.args.axis c.args.p) c.line_through-then-may_hold_four.result) c.other.ensures.other
    c.line_through-then-may_hold_four.ensures.tells)))
    c.windows.result (subst Told bit c.windows.ensures.windows) (is_zero c.windows.result off)

pub returns-else-may_hold_four-clause-none : goal.returns-else-may_hold_four-clause-none
returns-else-may_hold_four-clause-none c = λ off.
    let b = c.args.board.now in
    let bit : c.bit_of_place.result ≡ 2 ^ place_on c.args.axis c.args.p = c.bit_of_place.ensures.bit
    ∙ ap (λ k. 2 ^ k) c.place_on.ensures.place in
    let None : ℕ → Type 0 = λ m. (theirs i j : ℕ) → IsWindow (bit_or c.line_through.result m) theirs i j → ⊥ in
    no_end b c.args.side c.args.axis c.args.p c.line_through.result 0
    c.line_through.ensures.board c.requires.empty c.line_through.ensures.tells
    (zero_clear (put b c.args.side c.args.p) c.args.axis (line_of c.args.axis c.args.p))
    0 (λ i j h. absurd (subst None bit (c.may_hold_four.ensures.none off) 0 i j h)) refl
