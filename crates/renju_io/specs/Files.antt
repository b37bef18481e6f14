-- The files of a shelf: names with their bytes.
use Rattle.std.specs.Prelude.{◌≡◌, ℕ, List, [], ◌∷◌, Option, None}
use Rattle.std.specs.Str.{bytes_eq}
use Rattle.std.specs.Map.{lookup}

-- names with the bytes of their files; of entries with one name the first counts
abbrev pub Files : Type 0
Files = List (List ℕ × List ℕ)

-- the bytes of the file under a name, if there is one
abbrev pub file_under : List ℕ → Files → Option (List ℕ)
file_under name files = lookup (bytes_eq name) files

-- the files are a map: no name comes twice
abbrev pub IsMap : Files → Type 0
IsMap [] = Unit {0}
IsMap (file ∷ files) = (file_under file.0 files ≡ None) × IsMap files
