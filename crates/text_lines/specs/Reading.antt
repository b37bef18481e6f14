-- What the readers of lines and words answer.
use Rattle.std.specs.Prelude.{◌≡◌, ℕ, ◌<◌, ◌≤◌, Bool, not, ◌==◌, List, [], ◌∷◌, ◌++◌, Option, Some, None, Result, Ok, Err, length}
use Rattle.std.specs.Prelude.{slice_index}
use Rattle.std.specs.List.{list_all}
use Rattle.game_rules.specs.declared.Point.{Point}
use Rattle.text_lines.specs.Lines.{line_feed}
use Rattle.text_lines.specs.declared.fault.Fault.{Fault}
use Rattle.text_lines.specs.declared.fault.Fault.TheVariants.{Bad, Memory}

-- whether the byte is not among the bytes
abbrev pub is_free : ℕ → List ℕ → Bool
is_free separator bytes = list_all (λ b. not (b == separator)) bytes

-- what follows a word: nothing, or the separator and the bytes after it
abbrev pub tail_text : ℕ → Option (List ℕ) → List ℕ
tail_text separator None = []
tail_text separator (Some rest) = separator ∷ rest

-- there is a byte, and a zero begins no other number than 0
pub record IsPlain (bytes : List ℕ) : Type 0 where
  pub some : 0 < length bytes
  pub plain : slice_index bytes 0 ≡ 48 → length bytes ≡ 1

-- the number is one from the least to the most
pub record IsBetween (least most n : ℕ) : Type 0 where
  pub enough : least ≤ n
  pub few : n ≤ most

-- the point has a column below the width and a row below the height
pub record IsWithin (width height : ℕ) (p : Point) : Type 0 where
  pub column : p.x < width
  pub row : p.y < height

-- Reading bytes: what is found fits and is spelled so, and nothing is found only where nothing that fits is spelled so.
abbrev pub Reads : {X : Type 0} → (X → Type 0) → (X → List ℕ) → Option X → List ℕ → Type 0
Reads {X} Fits spelling None bytes = (v : X) → Fits v → bytes ≡ spelling v → ⊥
Reads Fits spelling (Some v) bytes = Fits v × (bytes ≡ spelling v)

-- the same of a reader that takes memory, and may find none
abbrev pub Gives : {X : Type 0} → (X → Type 0) → (X → List ℕ) → Result X Fault → List ℕ → Type 0
Gives Fits spelling (Ok v) bytes = Fits v × (bytes ≡ spelling v)
Gives {X} Fits spelling (Err Bad) bytes = (v : X) → Fits v → bytes ≡ spelling v → ⊥
Gives Fits spelling (Err Memory) bytes = Unit {0}

-- Reading the first line of bytes: it is the line of what is found, which fits, and the rest is what comes after it; and nothing is
-- found only where the bytes begin with the line of nothing that fits.
abbrev pub ReadsLine : {X : Type 0} → (X → Type 0) → (X → List ℕ) → Option (X × List ℕ) → List ℕ → Type 0
ReadsLine {X} Fits line None bytes = (x : X) (rest : List ℕ) → Fits x → bytes ≡ line x ++ line_feed ∷ rest → ⊥
ReadsLine Fits line (Some (x, rest)) bytes = Fits x × (bytes ≡ line x ++ line_feed ∷ rest)

-- the same of a reader that takes memory, and may find none
abbrev pub GivesLine : {X : Type 0} → (X → Type 0) → (X → List ℕ) → Result (X × List ℕ) Fault → List ℕ → Type 0
GivesLine Fits line (Ok (x, rest)) bytes = Fits x × (bytes ≡ line x ++ line_feed ∷ rest)
GivesLine {X} Fits line (Err Bad) bytes = (x : X) (rest : List ℕ) → Fits x → bytes ≡ line x ++ line_feed ∷ rest → ⊥
GivesLine Fits line (Err Memory) bytes = Unit {0}
