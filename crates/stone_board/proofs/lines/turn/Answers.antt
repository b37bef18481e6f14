use Rattle.std.proofs.Common.{◌≡◌, ◌<◌, ◌^◌, refl, ap, ◌∙◌, length, arith, slice_index_or}
use Rattle.stone_board.proofs.Common.{index_of, line_of, turned}
use Rattle.stone_board.proofs.Counts.{same_item}
use Rattle.stone_board.proofs.lines.turn.Goals as goal

pub returns-clause-turned : goal.returns-clause-turned
unfolding turned
returns-clause-turned c =
    let index : c.index_of-i.result ≡ index_of c.args.side c.args.axis (line_of c.args.axis c.args.p) =
    c.index_of-i.ensures.index ∙ ap (index_of c.args.side c.args.axis) c.line_of.ensures.line in
    let within : c.index_of-i.result < length c.args.lines.now.items = omega arith in
    let before : c.index.result.now ≡ slice_index_or c.args.lines.now.items c.index_of-i.result 0 =
    c.index.ensures ∙ same_item c.args.lines.now.items c.index_of-i.result c.index.result.now 0 within in
    let bit = c.bit_of_place.ensures.bit ∙ ap (λ k. 2 ^ k) c.place_on.ensures.place in
    rw (before, bit, index) refl
