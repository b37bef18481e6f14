-- Rules and sizes are spelled in one way.
use Rattle.std.proofs.Common.{◌≡◌, ℕ, ◌^◌, ◌<◌, true, false, cond, sym, ◌∙◌, arith, List, ◌∷◌, ◌++◌, eqb, inl, Option, Some, None, rules}
use Rattle.std.specs.Fmt.{decimal}
use Rattle.std.proofs.lemmas.Bool.{eqb-true, eq-eqb, false≢true}
use Rattle.std.proofs.lemmas.Fmt.{decimal_injective}
use Rattle.std.proofs.lemmas.List.{append-nil}
use Rattle.position_files.proofs.Common.{RuleKind, line_feed, comma, is_free, tail_text, rule_word, size_text, IsSide, AreSides}
use Rattle.text_lines.proofs.Cuts.{same_word}
use Rattle.text_lines.proofs.Decimals.{decimal-free}
use Rattle.text_lines.proofs.LineLaws.{pair-free}

-- a width or a height is a number of 64 bits
pub side_fits : (n : ℕ) → IsSide n → n < 2 ^ 64
side_fits n side = let few = side.fits in omega (arith, few)

-- ---- sizes

-- what follows the width
size_tail : ℕ → ℕ → Option (List ℕ)
size_tail width height = cond (eqb width height) None (Some (decimal height))

size_words : (width height : ℕ) → size_text width height ≡ decimal width ++ tail_text comma (size_tail width height)
unfolding size_tail
size_words width height = search (rules, append-nil)

size_parts : (bytes a : List ℕ) (t : Option (List ℕ)) (sides : ℕ × ℕ) → AreSides sides → bytes ≡ a ++ tail_text comma t
    → is_free comma a ≡ true → bytes ≡ size_text sides.0 sides.1 → (a ≡ decimal sides.0) × (t ≡ size_tail sides.0 sides.1)
size_parts bytes a t sides fit parts free e =
    let fits = fit.width.fits in
    same_word comma a t (decimal sides.0) (size_tail sides.0 sides.1) free
    (decimal-free comma sides.0 (inl (omega arith)) (omega (arith, fits))) (sym parts ∙ e ∙ size_words sides.0 sides.1)

pub bad_width : (bytes a : List ℕ) (t : Option (List ℕ)) → bytes ≡ a ++ tail_text comma t → is_free comma a ≡ true
    → ((v : ℕ) → IsSide v → a ≡ decimal v → ⊥) → (sides : ℕ × ℕ) → AreSides sides → bytes ≡ size_text sides.0 sides.1 → ⊥
bad_width bytes a t parts free none sides fit e = none sides.0 fit.width (size_parts bytes a t sides fit parts free e).0

tail_is : (width height : ℕ) (r : List ℕ) → Some r ≡ size_tail width height → (width ≡ height → ⊥) × (r ≡ decimal height)
unfolding size_tail
tail_is width height r e = search (rules, false≢true, eq-eqb)

pub bad_height : (bytes a r : List ℕ) → bytes ≡ a ++ comma ∷ r → is_free comma a ≡ true → ((v : ℕ) → IsSide v → r ≡ decimal v → ⊥)
    → (sides : ℕ × ℕ) → AreSides sides → bytes ≡ size_text sides.0 sides.1 → ⊥
bad_height bytes a r parts free none sides fit e =
    let words = size_parts bytes a (Some r) sides fit parts free e in
    none sides.1 fit.height (tail_is sides.0 sides.1 r words.1).1

-- one number is not spelled twice
pub bad_square : (bytes a r : List ℕ) (side : ℕ) → IsSide side → bytes ≡ a ++ comma ∷ r → is_free comma a ≡ true → a ≡ decimal side
    → r ≡ decimal side → (sides : ℕ × ℕ) → AreSides sides → bytes ≡ size_text sides.0 sides.1 → ⊥
bad_square bytes a r side is_side parts free width height sides fit e =
    let words = size_parts bytes a (Some r) sides fit parts free e in
    let tail = tail_is sides.0 sides.1 r words.1 in
    let few = is_side.fits in
    let few_w = fit.width.fits in
    let few_h = fit.height.fits in
    let w : side ≡ sides.0 = decimal_injective side sides.0 (omega (arith, few)) (omega (arith, few_w)) (sym width ∙ words.0) in
    let h : side ≡ sides.1 = decimal_injective side sides.1 (omega (arith, few)) (omega (arith, few_h)) (sym height ∙ tail.1) in
    tail.0 (sym w ∙ h)

tail_none : (width height : ℕ) → None ≡ size_tail width height → width ≡ height
unfolding size_tail
tail_none width height e = search (rules, eqb-true)

same_height : (a b c d : ℕ) → a ≡ c → b < 2 ^ 64 → d < 2 ^ 64 → size_tail a b ≡ size_tail c d → b ≡ d
unfolding size_tail
same_height a b c d w fb fd e = search (rules, size_tail, eqb-true, tail_none, decimal_injective, tail_is)

-- a text spells one size
pub size_text-injective : (a b : ℕ × ℕ) → AreSides a → AreSides b → size_text a.0 a.1 ≡ size_text b.0 b.1 → (a.0 ≡ b.0) × (a.1 ≡ b.1)
size_text-injective a b fa fb e = search (rules, size_parts, size_tail, size_words, decimal-free, decimal_injective, same_height)

-- ---- no line feed stands in what is spelled

pub rule_word-free : (kind : RuleKind) → Unit {0} → is_free line_feed (rule_word kind) ≡ true
rule_word-free kind h = search rules

pub size-free : (sides : ℕ × ℕ) → AreSides sides → is_free line_feed (size_text sides.0 sides.1) ≡ true
size-free sides fits = search (rules, decimal-free, pair-free)
