-- Items of a line, each after a space.
use Rattle.std.proofs.Common.{◌≡◌, ℕ, true, refl, sym, ap, ◌∙◌, List, [], ◌∷◌, ◌++◌, append_assoc, Option, Some, None, Result, Ok, Err}
use Rattle.std.specs.List.{flat_map, AllByRecursion}
use Rattle.std.proofs.lemmas.List.{append-nil}
use Rattle.std.proofs.lemmas.List.Concat.{flat_map-append}
use Rattle.game_rules.proofs.Tests.{all_push}
use Rattle.text_lines.proofs.Common.{space, Gives, is_free, tail_text, Fault, Bad, Memory}
use Rattle.text_lines.proofs.Cuts.{same_word}

-- items of a line: none has a space, and no two that fit are spelled the same
pub record AreItems {X : Type 0} (Fits : X → Type 0) (item : X → List ℕ) : Type 0 where
  pub free : (v : X) → Fits v → is_free space (item v) ≡ true
  pub injective : (v w : X) → Fits v → Fits w → item v ≡ item w → v ≡ w

abbrev pub items_text : {X : Type 0} → (X → List ℕ) → List X → List ℕ
items_text item vs = flat_map (λ v. space ∷ item v) vs

-- the items that come after these
pub record Rest {X : Type 0} (Fits : X → Type 0) (item : X → List ℕ) (vs : List X) (tail : List ℕ) (ws : List X) : Type 0 where
  pub more : List X
  pub split : ws ≡ vs ++ more
  pub fits : AllByRecursion Fits more
  pub text : tail ≡ items_text item more

-- The text begins with these items and goes on with the tail; and whatever items it spells begin with these, and their rest is
-- spelled by the tail.
pub record Follows {X : Type 0} (Fits : X → Type 0) (item : X → List ℕ) (vs : List X) (tail whole : List ℕ) : Type 0 where
  pub found : items_text item vs ++ tail ≡ whole
  pub fits : AllByRecursion Fits vs
  pub only : (ws : List X) → AllByRecursion Fits ws → whole ≡ items_text item ws → Rest Fits item vs tail ws

pub begins : {X : Type 0} (Fits : X → Type 0) (item : X → List ℕ) (whole : List ℕ) → Follows Fits item [] whole whole
begins Fits item whole = record { found = refl; fits = tt; only = λ ws fits e. record { more = ws; split = refl; fits = fits; text = e } }

pub ends : {X : Type 0} (Fits : X → Type 0) (item : X → List ℕ) (vs : List X) (whole : List ℕ) → Follows Fits item vs [] whole
    → AllByRecursion Fits vs × (whole ≡ items_text item vs)
ends Fits item vs whole h = (h.fits, sym (sym (append-nil (items_text item vs)) ∙ h.found))

-- items make a tail
pub items_tail : {X : Type 0} (item : X → List ℕ) (us : List X) → (x : Option (List ℕ)) × (items_text item us ≡ tail_text space x)
items_tail item [] = (None, refl)
items_tail item (u ∷ us) = (Some (item u ++ items_text item us), refl)

-- the first of the items that a tail with another word spells
first_item : {X : Type 0} (Fits : X → Type 0) (item : X → List ℕ) (items : AreItems Fits item) (text word : List ℕ) (t : Option (List ℕ))
    (ws : List X) → text ≡ word ++ tail_text space t → is_free space word ≡ true → AllByRecursion Fits ws
    → space ∷ text ≡ items_text item ws
    → (v : X) × (vs : List X) × (ws ≡ v ∷ vs) × Fits v × AllByRecursion Fits vs × (word ≡ item v) × (tail_text space t ≡ items_text item vs)
first_item Fits item items text word t [] parts free fits e = absurd cc
first_item {X} Fits item items text word t (v ∷ vs) parts free fits e =
    let tail = items_tail item vs in
    let whole : text ≡ item v ++ items_text item vs = cc in
    let same = same_word space word t (item v) tail.0 free (items.free v fits.0)
    (sym parts ∙ whole ∙ ap (λ (r : List ℕ). item v ++ r) tail.1) in
    (v, vs, refl, fits.0, fits.1, same.0, ap (tail_text space) same.1 ∙ sym tail.1)

pub stops : {X : Type 0} (Fits : X → Type 0) (item : X → List ℕ) (items : AreItems Fits item) (vs : List X) (text word : List ℕ)
    (t : Option (List ℕ)) (whole : List ℕ) → Follows Fits item vs (space ∷ text) whole → text ≡ word ++ tail_text space t
    → is_free space word ≡ true → ((v : X) → Fits v → word ≡ item v → ⊥) → (ws : List X) → AllByRecursion Fits ws
    → whole ≡ items_text item ws → ⊥
stops Fits item items vs text word t whole h parts free none ws fits e =
    let rest = h.only ws fits e in
    let first = first_item Fits item items text word t rest.more parts free rest.fits rest.text in
    none first.0 first.3 first.5

pub goes_on : {X : Type 0} (Fits : X → Type 0) (item : X → List ℕ) (items : AreItems Fits item) (vs : List X) (v : X) (text word : List ℕ)
    (t : Option (List ℕ)) (whole : List ℕ) → Follows Fits item vs (space ∷ text) whole → text ≡ word ++ tail_text space t
    → is_free space word ≡ true → Fits v → word ≡ item v → Follows Fits item (vs ++ v ∷ []) (tail_text space t) whole
goes_on {X} Fits item items vs v text word t whole h parts free fit is = record {
  found =
      let one : items_text item (vs ++ v ∷ []) ≡ items_text item vs ++ (space ∷ item v) =
      flat_map-append (λ u. space ∷ item u) vs (v ∷ []) ∙ ap (λ (l : List ℕ). items_text item vs ++ (space ∷ l)) (append-nil (item v)) in
      let joined : (space ∷ item v) ++ tail_text space t ≡ space ∷ text =
      ap (λ (l : List ℕ). space ∷ l) (ap (λ (l : List ℕ). l ++ tail_text space t) (sym is) ∙ sym parts) in
      ap (λ (l : List ℕ). l ++ tail_text space t) one ∙ append_assoc (items_text item vs) (space ∷ item v) (tail_text space t)
      ∙ ap (λ (l : List ℕ). items_text item vs ++ l) joined ∙ h.found;
  fits = all_push Fits vs v h.fits fit;
  only = λ ws fits e.
      let rest = h.only ws fits e in
      let first = first_item Fits item items text word t rest.more parts free rest.fits rest.text in
      let same : v ≡ first.0 = items.injective v first.0 fit first.3 (sym is ∙ first.5) in
      record {
        more = first.1;
        split = rest.split
            ∙ ap (λ (l : List X). vs ++ l) (first.2 ∙ ap (λ (u : X). u ∷ first.1) (sym same)) ∙ sym (append_assoc vs (v ∷ []) first.1);
        fits = first.4;
        text = first.6;
      };
}

-- the first word and the items after it
pub first_word : {X : Type 0} (item : X → List ℕ) (first word line : List ℕ) (t : Option (List ℕ)) (us : List X)
    → is_free space first ≡ true → is_free space word ≡ true → line ≡ first ++ tail_text space t → line ≡ word ++ items_text item us
    → (first ≡ word) × (tail_text space t ≡ items_text item us)
first_word item first word line t us free_first free_word parts e =
    let tail = items_tail item us in
    let same = same_word space first t word tail.0 free_first free_word (sym parts ∙ e ∙ ap (λ (l : List ℕ). word ++ l) tail.1) in
    (same.0, ap (tail_text space) same.1 ∙ sym tail.1)

-- items that are read after a word
pub gives_after_word : {X : Type 0} (Fits : X → Type 0) (item : X → List ℕ) (first word line : List ℕ) (t : Option (List ℕ))
    (r : Result (List X) Fault) → is_free space first ≡ true → is_free space word ≡ true → first ≡ word → line ≡ first ++ tail_text space t
    → Gives (AllByRecursion Fits) (items_text item) r (tail_text space t)
    → Gives (AllByRecursion Fits) (λ us. word ++ items_text item us) r line
gives_after_word Fits item first word line t (Ok us) free_first free_word same parts h =
    (h.0, parts ∙ ap (λ (l : List ℕ). l ++ tail_text space t) same ∙ ap (λ (l : List ℕ). word ++ l) h.1)
gives_after_word Fits item first word line t (Err Bad) free_first free_word same parts h =
    λ us fit e. h us fit (first_word item first word line t us free_first free_word parts e).1
gives_after_word Fits item first word line t (Err Memory) free_first free_word same parts h = tt

-- a text spells one list of items
pub items_text-injective : {X : Type 0} (Fits : X → Type 0) (item : X → List ℕ) (items : AreItems Fits item) (vs ws : List X)
    → AllByRecursion Fits vs → AllByRecursion Fits ws → items_text item vs ≡ items_text item ws → vs ≡ ws
items_text-injective Fits item items [] [] fv fw e = refl
items_text-injective Fits item items [] (w ∷ ws) fv fw e = absurd cc
items_text-injective Fits item items (v ∷ vs) [] fv fw e = absurd cc
items_text-injective {X} Fits item items (v ∷ vs) (w ∷ ws) fv fw e =
    let tail = items_tail item vs in
    let other = items_tail item ws in
    let whole : item v ++ items_text item vs ≡ item w ++ items_text item ws = cc in
    let same = same_word space (item v) tail.0 (item w) other.0 (items.free v fv.0) (items.free w fw.0)
    (ap (λ (r : List ℕ). item v ++ r) (sym tail.1) ∙ whole ∙ ap (λ (r : List ℕ). item w ++ r) other.1) in
    let first : v ≡ w = items.injective v w fv.0 fw.0 same.0 in
    let rest : vs ≡ ws = items_text-injective Fits item items vs ws fv.1 fw.1 (tail.1 ∙ ap (tail_text space) same.1 ∙ sym other.1) in
    ap (λ (u : X). u ∷ vs) first ∙ ap (λ (l : List X). w ∷ l) rest
