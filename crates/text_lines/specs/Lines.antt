-- Texts made of lines, and the first line at which bytes leave a grammar.
use Rattle.std.specs.Prelude.{◌≡◌, ℕ, ◌+◌, ◌-◌, ◌≤◌, ◌==◌, if◌then◌else◌, List, [], ◌∷◌, ◌++◌, take, length, codes}
use Rattle.std.specs.List.{flat_map, onto_first}

-- the byte that ends a line
abbrev pub line_feed : ℕ
line_feed = 10

-- the line, and the line feed that ends it
abbrev pub ended : List ℕ → List ℕ
ended line = line ++ codes "\n"

-- the text of these lines, each of them ended
abbrev pub text_of : List (List ℕ) → List ℕ
text_of lines = flat_map ended lines

-- The pieces of the bytes: the lines, each with the line feed that ends it, and what follows the last line feed, which is
-- empty where the bytes end there.
abbrev pub pieces : List ℕ → List (List ℕ)
pieces [] = [] ∷ []
pieces (b ∷ bytes) = if b == line_feed then (b ∷ []) ∷ pieces bytes else onto_first b (pieces bytes)

-- Line n, counted from 1, is the first one that no text of the grammar has after the lines before it: some text has the same
-- pieces before it, and none has the same pieces up to it. A line that is missing, that isn't ended, or that is one too
-- many counts as one.
pub record FirstBad (IsText : List ℕ → Type 0) (bytes : List ℕ) (n : ℕ) : Type 0 where
  pub counted : 1 ≤ n
  pub so_far : (text : List ℕ) × IsText text × (take (n - 1) (pieces text) ≡ take (n - 1) (pieces bytes))
  pub no_further : (text : List ℕ) → IsText text → take n (pieces text) ≡ take n (pieces bytes) → ⊥

-- the bytes begin with lines of this kind, and go on anyhow
abbrev pub BeginsWith : (List (List ℕ) → Type 0) → List ℕ → Type 0
BeginsWith IsLines bytes = (ls : List (List ℕ)) × (rest : List ℕ) × IsLines ls × (bytes ≡ text_of ls ++ rest)

-- the text begins with what it was before
pub record Extends (old new : List ℕ) : Type 0 where
  pub more : List ℕ
  pub is : new ≡ old ++ more

-- The bytes begin with this text, which is so many bytes long.
pub record IsFront (text bytes : List ℕ) (taken : ℕ) : Type 0 where
  pub within : taken ≤ length bytes
  pub spelled : take taken bytes ≡ text

-- the lines are the one line of a value that fits
abbrev pub IsLineOf : {X : Type 0} → (X → Type 0) → (X → List ℕ) → List (List ℕ) → Type 0
IsLineOf {X} Fits line ls = (v : X) × Fits v × (ls ≡ line v ∷ [])

-- The bytes begin with the first i lines of some list of lines of this kind, and with the first i + 1 lines of none.
pub record LeavesAt (IsLines : List (List ℕ) → Type 0) (bytes : List ℕ) (i : ℕ) : Type 0 where
  pub lines : List (List ℕ)
  pub rest : List ℕ
  pub are : IsLines lines
  pub enough : i ≤ length lines
  pub so_far : bytes ≡ text_of (take i lines) ++ rest
  pub no_further : (ls : List (List ℕ)) (others : List ℕ) → IsLines ls → bytes ≡ text_of (take (i + 1) ls) ++ others → ⊥
