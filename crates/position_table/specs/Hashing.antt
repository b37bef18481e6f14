-- What a hash reads of a packed board.
use Rattle.std.specs.Prelude.{◌≡◌, ℕ, ◌+◌, ◌*◌, ◌/◌, true, ◌&&◌, nat_eq, [], ◌∷◌, min, take}
use Rattle.std.specs.Hash.{HashWrites}
use Rattle.std.specs.Cmp.{first_so, second_so}
use Rattle.std.specs.Cmp.Lexicographic.{pointwise, pointwise_decides}
use Rattle.std.proofs.Common.{ap}
use Rattle.std.proofs.lemmas.Bool.Decides.{Decides-eqb}
use Rattle.position_table.specs.Packing.{Packed}
use Rattle.position_table.specs.Remembering.{same_packed}

-- how many bytes hold cells
abbrev pub used : Packed → ℕ
used p = min ((p.width * p.height + 3) / 4) 256

-- the bytes that hold cells, in one piece
abbrev pub hashed : Packed → HashWrites
hashed p = take (used p) p.bytes ∷ []

-- keys that the test finds the same are equal
same_from : (a b : Packed) → same_packed a b ≡ true → a ≡ b
same_from a b h =
    let width : a.width ≡ b.width = (Decides-eqb a.width b.width).0 (first_so (nat_eq a.width b.width) _ h) in
    let rest : (nat_eq a.height b.height && pointwise nat_eq a.bytes b.bytes) ≡ true = second_so (nat_eq a.width b.width) _ h in
    let height : a.height ≡ b.height = (Decides-eqb a.height b.height).0 (first_so (nat_eq a.height b.height) _ rest) in
    let bytes : a.bytes ≡ b.bytes = (pointwise_decides Decides-eqb a.bytes b.bytes).0 (second_so (nat_eq a.height b.height) _ rest) in
    λ i. record { width = width i; height = height i; bytes = bytes i }

-- what is the same is hashed alike
pub same_hashed : (a b : Packed) → same_packed a b ≡ true → hashed a ≡ hashed b
same_hashed a b h = ap hashed (same_from a b h)
