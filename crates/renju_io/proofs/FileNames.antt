-- The first file under a name.
use Rattle.std.proofs.Common.{◌≡◌, List, ℕ, [], ◌∷◌, find, Option, Some, cond, true, false, string_bytes, refl, sym, ap}
use Rattle.std.proofs.Common.{◌∙◌, option_map}
use Rattle.std.specs.Str.{bytes_eq}
use Rattle.renju_io.proofs.Common.{file_under, entries}
use Rattle.renju_io.specs.declared.memory_shelf.MemoryFile.{MemoryFile}

-- the bytes of the first file under a name are those of the first entry under it
bytes_of_found : (name : List ℕ) (files : List MemoryFile) →
    option_map (λ file. file.bytes.items) (find (λ file. bytes_eq name (string_bytes file.name)) files) ≡ file_under name (entries files)
bytes_of_found name [] = refl
bytes_of_found name (file ∷ files) =
    elim (bytes_eq name (string_bytes file.name)) as
    (λ b. option_map (λ file. file.bytes.items) (cond b (Some file) (find (λ file. bytes_eq name (string_bytes file.name)) files))
    ≡ cond b (Some file.bytes.items) (file_under name (entries files)))
    [ true ↦ refl | false ↦ bytes_of_found name files ]

-- what is found is the file under the name
pub file_under-found : (name : List ℕ) (files : List MemoryFile) (found : Option MemoryFile) →
    found ≡ find (λ file. bytes_eq name (string_bytes file.name)) files →
    file_under name (entries files) ≡ option_map (λ file. file.bytes.items) found
file_under-found name files found is = sym (bytes_of_found name files) ∙ ap (option_map (λ file. file.bytes.items)) (sym is)
