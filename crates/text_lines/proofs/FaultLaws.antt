-- What readers say by a fault.
use Rattle.std.proofs.Common.{◌≡◌, ℕ, List, Result, Err}
use Rattle.text_lines.proofs.Common.{Fault, Bad, Memory, Gives}

-- a reader that answers Bad says that nothing is spelled so
pub gives_bad : {X : Type 0} (Fits : X → Type 0) (spelling : X → List ℕ) (fault : Fault) (line : List ℕ) → fault ≡ Bad
    → Gives Fits spelling (Err fault) line → (x : X) → Fits x → line ≡ spelling x → ⊥
gives_bad Fits spelling Bad line e h = h
gives_bad Fits spelling Memory line e h = absurd cc

-- a fault is known by the result that it is in
pub same_fault : {X : Type 0} (x y : Fault) → ◌≡◌ {A = Result X Fault} (Err x) (Err y) → x ≡ y
same_fault x y e = cc

-- and the result by the fault
pub fault_result : {X : Type 0} (x y : Fault) → x ≡ y → ◌≡◌ {A = Result X Fault} (Err x) (Err y)
fault_result x y e = cc
