-- A piece of a list of bytes, moved to the front of a buffer.
use Rattle.std.proofs.Common.{◌≡◌, ℕ, ◌+◌, List, ◌++◌, take, drop, sym, ◌∙◌, ap}
use Rattle.std.proofs.lemmas.List.{take-append-drop, drop-drop}

-- what is behind the bytes given so far is the front of the buffer, and then what is behind both
pub moved-rest : (bytes buffer : List ℕ) (given count : ℕ) → take count buffer ≡ take count (drop given bytes) →
    drop given bytes ≡ take count buffer ++ drop (given + count) bytes
moved-rest bytes buffer given count copied =
    sym (take-append-drop count (drop given bytes))
    ∙ ap (λ xs. xs ++ drop count (drop given bytes)) (sym copied)
    ∙ ap (λ xs. take count buffer ++ xs) (drop-drop count given bytes)
