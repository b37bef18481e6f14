-- Tables made of halves: the halves of a code, and what one more shape tells.
use Rattle.std.proofs.Common.{◌≡◌, ℕ, ◌+◌, ◌*◌, ◌/◌, ◌%◌, ◌^◌, ◌≤◌, ◌<◌, ◌⊎◌, inl, inr, List}
use Rattle.std.proofs.Common.{[], ◌∷◌, ◌++◌, length, get_or, sym, ap, ◌∙◌, arith, nat_eq, length-append, Some, slice_get}
use Rattle.std.proofs.lemmas.Bool.{cases_lt}
use Rattle.std.proofs.lemmas.List.{get_or_push, get_or_append_left}
use Rattle.std.proofs.lemmas.Option.{slice_get-get_or}
use Rattle.std.proofs.Math.Nat.{mul-le-mul_left}
use Rattle.game_rules.proofs.Common.{Grid, put}
use Rattle.game_rules.specs.declared.Cell.{Cell}
use Rattle.game_rules.specs.declared.Point.{Point}
use Rattle.game_rules.specs.declared.Way.{Way}
use Rattle.game_rules.specs.declared.Axis.TheVariants.{Row}
use Rattle.game_rules.specs.declared.Side.TheVariants.{Black}
use Rattle.game_rules.specs.declared.Way.TheVariants.{Ahead, Behind}
use Rattle.row_shapes.proofs.Common.{TellsHalves, seen, half_cells, rule_by, SeesLine, line_board, middle, shape_of, shape_at, stone_shape}
use Rattle.row_shapes.specs.declared.halves.Half.{Half}
use Rattle.row_shapes.specs.declared.shapes.Shape.{Shape}
use Rattle.row_shapes.proofs.HalfCodes.{code_line}

-- ---- one more element

module _ {X : Type 0} (xs : List X) (x : X) where
  get_before : (i : ℕ) (d : X) → i < length xs → get_or (xs ++ x ∷ []) i d ≡ get_or xs i d
  get_before i d h = get_or_append_left xs (x ∷ []) d i h

  pub slice_before : (i : ℕ) → i < length xs → slice_get (xs ++ x ∷ []) i ≡ slice_get xs i
  slice_before i h =
      let more = length-append xs (x ∷ []) in
      slice_get-get_or (xs ++ x ∷ []) i x (omega (arith, more)) ∙ ap Some (get_before i x h) ∙ sym (slice_get-get_or xs i x h)

  pub slice_last : (i : ℕ) → length xs ≡ i → slice_get (xs ++ x ∷ []) i ≡ Some x
  slice_last i h =
      let more = length-append xs (x ∷ []) in
      slice_get-get_or (xs ++ x ∷ []) i x (omega (arith, more)) ∙ ap Some (get_or_push xs x x i h)

some_is : {X : Type 0} (x y : X) → Some x ≡ Some y → x ≡ y
some_is x y h = cc

pub halves_push : (way : Way) (reach count : ℕ) (halves : List Half) (half : Half) → TellsHalves way reach count halves
    → seen half ≡ half_cells way reach count → TellsHalves way reach (count + 1) (halves ++ half ∷ [])
halves_push way reach count halves half h e = record {
  all = let more = length-append halves (half ∷ []) in let all = h.all in omega (arith, more, all);
  told = λ digits low other f. elim (cases_lt digits count) [
    | inl old ↦ h.told digits old other (sym (slice_before halves half digits (let all = h.all in omega (arith, all, old))) ∙ f)
    | inr new ↦
        let same : count ≡ digits = omega arith in
        let last : half ≡ other = some_is half other (sym (slice_last halves half digits (h.all ∙ same)) ∙ f) in
        ap seen (sym last) ∙ e ∙ ap (half_cells way reach) same
  ];
}

pub shapes_push : (reach code : ℕ) (shapes : List Shape) (shape : Shape) → length shapes ≡ code
    → ((k : ℕ) → k < code → slice_get shapes k ≡ Some (shape_of reach k)) → shape ≡ shape_of reach code → (k : ℕ) → k < code + 1
    → slice_get (shapes ++ shape ∷ []) k ≡ Some (shape_of reach k)
shapes_push reach code shapes shape all told e k low = elim (cases_lt k code) [
  | inl old ↦ slice_before shapes shape k (omega (arith, all, old)) ∙ told k old
  | inr new ↦ let same : code ≡ k = omega arith in slice_last shapes shape k (all ∙ same) ∙ ap Some (e ∙ ap (shape_of reach) same)
]

-- ---- the shape of a code

pub quotient_low : (code power : ℕ) → 0 < power → code < power * power → code / power < power
quotient_low code power some low = elim (cases_lt (code / power) power) [
  | inl less ↦ less
  | inr more ↦ absurd (
      let part = mul-le-mul_left power more in
      let all : power * (code / power) ≤ code = omega (arith, some) in
      omega (arith, part, all, low))
]

-- the shape that a line makes is that of the code of its halves
pub halves_shape : (reach low high : ℕ) (ahead behind : List Cell) (shape : Shape) → (reach ≡ 4) ⊎ (reach ≡ 5) → low < 3 ^ reach
    → ahead ≡ half_cells Ahead reach high → behind ≡ half_cells Behind reach low
    → ((b : Grid) (p : Point) → SeesLine ahead behind b p → shape ≡ stone_shape (rule_by (nat_eq reach 4)) b Black Row p)
    → shape ≡ shape_of reach (low + 3 ^ reach * high)
unfolding shape_of shape_at
halves_shape reach low high ahead behind shape four h f g tells =
    tells (put (line_board reach (low + 3 ^ reach * high)) Black (middle reach)) (middle reach)
    (rw (f, g) (code_line reach low high four h))

pub code_shape : (reach code power : ℕ) (ahead behind : Half) (shape : Shape) → (reach ≡ 4) ⊎ (reach ≡ 5) → power ≡ 3 ^ reach → 0 < power →
    seen ahead ≡ half_cells Ahead reach (code / power) → seen behind ≡ half_cells Behind reach (code % power) →
    ((b : Grid) (p : Point) → SeesLine (seen ahead) (seen behind) b p → shape ≡ stone_shape (rule_by (nat_eq reach 4)) b Black Row p) →
    shape ≡ shape_of reach code
code_shape reach code power ahead behind shape four e some f g tells =
    let all : code % power + 3 ^ reach * (code / power) ≡ code = ap (λ n. code % power + n * (code / power)) (sym e) ∙ omega arith in
    halves_shape reach (code % power) (code / power) (seen ahead) (seen behind) shape four (omega (arith, e, some)) f g tells
    ∙ ap (shape_of reach) all
