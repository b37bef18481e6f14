-- Bytes that a source gives read by read.
use Rattle.std.proofs.Common.{◌≡◌, ℕ, List, [], ◌++◌, refl, sym, ◌∙◌, ap, append_assoc, None, Some, Option}
use Rattle.std.specs.Io.KnownBytes.{prepend_known}
use Rattle.renju_io.specs.Told.{Gives, GivesSome}

prepend_known-append : (first second : List ℕ) (told : Option (List ℕ)) →
    prepend_known first (prepend_known second told) ≡ prepend_known (first ++ second) told
prepend_known-append first second None = refl
prepend_known-append first second (Some bytes) = ap (λ xs. Some xs) (sym (append_assoc first second bytes))

-- a source gave nothing
pub Gives-none : (left : Option (List ℕ)) → Gives left [] left
Gives-none None = refl
Gives-none (Some bytes) = refl

-- what is given after what was given is given in one
pub Gives-then : (old mid new : Option (List ℕ)) (first second : List ℕ) →
    Gives old first mid → Gives mid second new → Gives old (first ++ second) new
Gives-then old mid new first second before after =
    before ∙ ap (prepend_known first) after ∙ prepend_known-append first second new

-- a source that gave these bytes gave some
pub Gives-some : (old new : Option (List ℕ)) (given : List ℕ) → Gives old given new → GivesSome old new
Gives-some old new given gives = record { given = given; gives = gives }
