-- First lines of bytes. Points are spelled in one way.
use Rattle.std.proofs.Common.{◌≡◌, ℕ, ◌≤◌, ◌<◌, ◌^◌, true, false, sym, ap, ◌∙◌, arith, List, ◌∷◌, ◌++◌, inl, Some, None, refl, [], Option}
use Rattle.std.specs.Fmt.{decimal}
use Rattle.std.specs.List.{AllByRecursion}
use Rattle.std.specs.Char.{IsNotAsciiDigit}
use Rattle.std.proofs.lemmas.Bool.{and_parts, ne_eqb}
use Rattle.std.proofs.lemmas.Fmt.{decimal_injective}
use Rattle.std.proofs.lemmas.List.{append_cancel_left}
use Rattle.std.proofs.lemmas.List.Folds.{list_all-append}
use Rattle.game_rules.specs.declared.Point.{Point}
use Rattle.text_lines.proofs.Common.{line_feed, ReadsLine, IsBetween, is_free, comma, space, pair_text, point_text, points_text, IsWithin}
use Rattle.text_lines.proofs.Common.{tail_text}
use Rattle.text_lines.proofs.Cuts.{same_word, is_free-append}
use Rattle.text_lines.proofs.Decimals.{decimal-free}
use Rattle.text_lines.proofs.Items.{AreItems}

-- a free list has free parts
pub free_end : (s : ℕ) (a b : List ℕ) → is_free s (a ++ b) ≡ true → is_free s b ≡ true
free_end s a b h = (and_parts (is_free s a) (is_free s b) (sym (list_all-append _ a b) ∙ h)).1

-- bytes have one first line
pub same_line : (a x c y : List ℕ) → is_free line_feed a ≡ true → is_free line_feed c ≡ true → a ++ line_feed ∷ x ≡ c ++ line_feed ∷ y
    → (a ≡ c) × (x ≡ y)
same_line a x c y fa fc e =
    let same = same_word line_feed a (Some x) c (Some y) fa fc e in
    (same.0, (let f = same.1 in cc))

no_line_in : (bytes c y : List ℕ) → is_free line_feed bytes ≡ true → bytes ≡ c ++ line_feed ∷ y → ⊥
no_line_in bytes c y free e =
    let end = free_end line_feed c (line_feed ∷ y) (ap (is_free line_feed) (sym e) ∙ free) in
    let no : false ≡ true = end in
    cc

module _ {X : Type 0} (Fits : X → Type 0) (spelling : X → List ℕ) (free : (x : X) → Fits x → is_free line_feed (spelling x) ≡ true) where
  -- bytes with no line have no line of a value
  pub none_line : (bytes : List ℕ) → is_free line_feed bytes ≡ true → ReadsLine Fits spelling None bytes
  none_line bytes h = λ x rest fits e. no_line_in bytes (spelling x) rest h e

  -- nor have bytes whose first line is spelled by none
  pub bad_line : (bytes l rest : List ℕ) → is_free line_feed l ≡ true → bytes ≡ l ++ line_feed ∷ rest
      → ((x : X) → Fits x → l ≡ spelling x → ⊥) → ReadsLine Fits spelling None bytes
  bad_line bytes l rest h parts none = λ x others fits e. none x fits
      (same_line l rest (spelling x) others h (free x fits) (sym parts ∙ e)).0

-- ---- lines that begin with a word

module _ {X : Type 0} (Fits : X → Type 0) (spelling : X → List ℕ) (free : (x : X) → Fits x → is_free line_feed (spelling x) ≡ true)
    (word : List ℕ) (bytes : List ℕ) where
  pub prefix_none : ReadsLine (λ text. is_free line_feed text ≡ true) (λ text. word ++ text) None bytes
      → ReadsLine Fits (λ x. word ++ spelling x) None bytes
  prefix_none h = λ x rest fits e. h (spelling x) rest (free x fits) e

  pub prefix_bad : (text rest : List ℕ) → is_free line_feed word ≡ true → is_free line_feed text ≡ true
      → bytes ≡ (word ++ text) ++ line_feed ∷ rest → ((x : X) → Fits x → text ≡ spelling x → ⊥)
      → ReadsLine Fits (λ x. word ++ spelling x) None bytes
  prefix_bad text rest free_word free_text parts none = λ x others fits e.
      let same = same_line (word ++ text) rest (word ++ spelling x) others (is_free-append line_feed word text free_word free_text)
      (is_free-append line_feed word (spelling x) free_word (free x fits)) (sym parts ∙ e) in
      none x fits (append_cancel_left word text (spelling x) same.0)

-- ---- numbers of a line

pub between-free : (least most : ℕ) → most < 2 ^ 64 → (n : ℕ) → IsBetween least most n → is_free line_feed (decimal n) ≡ true
between-free least most fits n h = let few = h.few in decimal-free line_feed n (inl (omega arith)) (omega (arith, few))

-- bytes that spell a number below the least one spell no number from there on
pub too_few : (least most n : ℕ) (text : List ℕ) → most < 2 ^ 64 → n ≤ most → n < least → text ≡ decimal n → (m : ℕ)
    → IsBetween least most m → text ≡ decimal m → ⊥
too_few least most n text fits few low e m h f =
    let last = h.few in
    let same : n ≡ m = decimal_injective n m (omega arith) (omega (arith, last)) (sym e ∙ f) in
    omega (arith, same, h.enough)

point_words : (word a : List ℕ) (t : Option (List ℕ)) (p : Point) → p.x < 2 ^ 64 → word ≡ a ++ tail_text comma t → is_free comma a ≡ true
    → word ≡ point_text p → (a ≡ decimal p.x) × (t ≡ Some (decimal p.y))
point_words word a t p fits parts free e =
    same_word comma a t (decimal p.x) (Some (decimal p.y)) free (decimal-free comma p.x (inl (omega arith)) fits) (sym parts ∙ e)

pub bad_column : (word a : List ℕ) (t : Option (List ℕ)) (width height : ℕ) → width < 2 ^ 64 → word ≡ a ++ tail_text comma t
    → is_free comma a ≡ true → ((v : ℕ) → v < width → a ≡ decimal v → ⊥) → (p : Point) → IsWithin width height p → word ≡ point_text p → ⊥
bad_column word a t width height wide parts free none p within e =
    let column = within.column in
    none p.x (omega (arith, column)) (point_words word a t p (omega (arith, column)) parts free e).0

pub bad_row : (word a : List ℕ) (t : Option (List ℕ)) (width height : ℕ) → width < 2 ^ 64 → word ≡ a ++ tail_text comma t
    → is_free comma a ≡ true → ((r : List ℕ) → t ≡ Some r → (v : ℕ) → v < height → r ≡ decimal v → ⊥) → (p : Point)
    → IsWithin width height p → word ≡ point_text p → ⊥
bad_row word a t width height wide parts free none p within e =
    let column = within.column in
    let row = within.row in
    none (decimal p.y) (point_words word a t p (omega (arith, column)) parts free e).1 p.y (omega (arith, row)) refl

-- a text spells one point
pub point_text-injective : (p q : Point) → p.x < 2 ^ 64 → p.y < 2 ^ 64 → q.x < 2 ^ 64 → q.y < 2 ^ 64 → point_text p ≡ point_text q → p ≡ q
point_text-injective p q px py qx qy e =
    let words = point_words (point_text p) (decimal p.x) (Some (decimal p.y)) q qx refl (decimal-free comma p.x (inl (omega arith)) px) e in
    let x : p.x ≡ q.x = decimal_injective p.x q.x px qx words.0 in
    let y : p.y ≡ q.y = decimal_injective p.y q.y py qy (let f = words.1 in cc) in
    λ i. record { x = x i; y = y i }

-- points of a board are items of a line
pub point_items : (width height : ℕ) → width < 2 ^ 64 → height < 2 ^ 64 → AreItems (IsWithin width height) point_text
point_items width height wide high = record {
  free = λ p within.
      let x = within.column in
      let y = within.row in
      is_free-append space (decimal p.x) (comma ∷ decimal p.y) (decimal-free space p.x (inl (omega arith)) (omega (arith, x)))
      (decimal-free space p.y (inl (omega arith)) (omega (arith, y)));
  injective = λ p q in_p in_q e.
      let px = in_p.column in
      let py = in_p.row in
      let qx = in_q.column in
      let qy = in_q.row in
      point_text-injective p q (omega (arith, px)) (omega (arith, py)) (omega (arith, qx)) (omega (arith, qy)) e;
}

-- no separator but the comma stands in a point
pub point-free : (s width height : ℕ) → IsNotAsciiDigit s → (comma ≡ s → ⊥) → width < 2 ^ 64 → height < 2 ^ 64 → (p : Point)
    → IsWithin width height p → is_free s (point_text p) ≡ true
point-free s width height other no_comma wide high p within =
    let x = within.column in
    let y = within.row in
    let rest : is_free s (comma ∷ decimal p.y) ≡ true = rw (ne_eqb comma s no_comma, decimal-free s p.y other (omega (arith, y))) refl in
    is_free-append s (decimal p.x) (comma ∷ decimal p.y) (decimal-free s p.x other (omega (arith, x))) rest

-- ---- no line feed stands in what is spelled

pub pair-free : (x y : ℕ) → x < 2 ^ 64 → y < 2 ^ 64 → is_free line_feed (pair_text x y) ≡ true
pair-free x y fx fy = is_free-append line_feed (decimal x) (comma ∷ decimal y) (decimal-free line_feed x (inl (omega arith)) fx)
    (decimal-free line_feed y (inl (omega arith)) fy)

pub points-free : (width height : ℕ) → width < 2 ^ 64 → height < 2 ^ 64 → (ps : List Point) → AllByRecursion (IsWithin width height) ps
    → is_free line_feed (points_text ps) ≡ true
points-free width height wide high [] all = refl
points-free width height wide high (p ∷ ps) all =
    let x = all.0.column in
    let y = all.0.row in
    is_free-append line_feed (space ∷ point_text p) (points_text ps) (pair-free p.x p.y (omega (arith, x)) (omega (arith, y)))
    (points-free width height wide high ps all.1)
