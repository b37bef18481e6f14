use Rattle.std.proofs.Common.{◌≡◌, ◌≤◌, false, ap, ◌∙◌, arith, sym, ℕ, nat_le}
use Rattle.std.proofs.lemmas.Bool.Decides.{nat_tests}
use Rattle.stone_board.specs.Lines.{place_on}
use Rattle.four_search.proofs.NearGaps.{near_bits, two_near}
use Rattle.four_search.proofs.gaps.has_two_near.Goals as goal

not_two : (n : ℕ) → nat_le 2 n ≡ false → 2 ≤ n → ⊥
not_two n off two = absurd (grind (arith, nat_tests))

pub returns-clause-none : goal.returns-clause-none
returns-clause-none c = λ off x gap.
    let bits : ℕ = c.line_through.result in
    let same : near_bits bits (place_on c.args.axis c.args.p) ≡ near_bits c.from-bits.result c.place_on.result =
    ap (λ n. near_bits n (place_on c.args.axis c.args.p)) (sym c.from-bits.ensures)
    ∙ ap (λ n. near_bits c.from-bits.result n) (sym c.place_on.ensures.place) in
    let two = two_near _ _ _ _ _ c.line_through.ensures.board c.requires.on c.line_through.ensures.tells c.line_through.type_inv x gap in
    not_two _ off (rw same at two)
