-- Proof and disproof numbers: which of them are settled, and what a node has of its children's.
use Rattle.std.specs.Prelude.{◌≡◌, ◌⊎◌, ℕ, ◌+◌, ◌<◌, ◌&&◌, ◌||◌, if◌then◌else◌, Bool, true, false, nat_eq, min, List, [], ◌∷◌, map}
use Rattle.proof_tree.specs.declared.TheConstants.{INFINITE}
use Rattle.proof_tree.specs.declared.Kind.{Kind}
use Rattle.proof_tree.specs.declared.Kind.TheVariants.{Attack, Defend}
use Rattle.proof_tree.specs.declared.Numbers.{Numbers}

-- the numbers of a node that is settled: 0 and infinity if it is proved, and infinity and 0 if it is disproved
abbrev pub settled_numbers : Bool → Numbers
settled_numbers true = record { proof = 0; disproof = INFINITE }
settled_numbers false = record { proof = INFINITE; disproof = 0 }

-- numbers that no node has: what a read past the end of a list of numbers gives
abbrev pub no_numbers : Numbers
no_numbers = record { proof = 0; disproof = 0 }

-- whether the numbers are 0 and infinity, in either order
abbrev pub is_settled : Numbers → Bool
is_settled n = (nat_eq n.proof 0 && nat_eq n.disproof INFINITE) || (nat_eq n.proof INFINITE && nat_eq n.disproof 0)

-- both numbers are at least 1 and below infinity
pub record IsOpen (n : Numbers) : Type 0 where
  pub proof_above : 0 < n.proof
  pub proof_below : n.proof < INFINITE
  pub disproof_above : 0 < n.disproof
  pub disproof_below : n.disproof < INFINITE

-- the numbers that a node may have: it is settled or open
abbrev pub AreNumbers : Numbers → Type 0
AreNumbers n = (is_settled n ≡ true) ⊎ IsOpen n

-- the kind of the children of a node of this kind
abbrev pub other_kind : Kind → Kind
other_kind Attack = Defend
other_kind Defend = Attack

-- the number that the player with the move makes least: the attacker the proof number, the defender the disproof number
abbrev pub sought : Kind → Numbers → ℕ
sought Attack n = n.proof
sought Defend n = n.disproof

-- the least of the numbers, or infinity if there are none
abbrev pub least : List ℕ → ℕ
least [] = INFINITE
least (x ∷ xs) = min x (least xs)

-- the sum of two numbers, which is infinity if one of them is
abbrev pub plus : ℕ → ℕ → ℕ
plus x y = if nat_eq x INFINITE || nat_eq y INFINITE then INFINITE else x + y

-- the sum of the numbers
abbrev pub total : List ℕ → ℕ
total [] = 0
total (x ∷ xs) = plus x (total xs)

-- the numbers of a node of this kind whose children have these: the attacker has the least proof number and the sum of the
-- disproof numbers, and the defender the sum of the proof numbers and the least disproof number
abbrev pub combined : Kind → List Numbers → Numbers
combined Attack ns = record { proof = least (map (λ n. n.proof) ns); disproof = total (map (λ n. n.disproof) ns) }
combined Defend ns = record { proof = total (map (λ n. n.proof) ns); disproof = least (map (λ n. n.disproof) ns) }

-- a number as it counts in a bound: infinity counts 0, and each other number itself
abbrev pub finite : ℕ → ℕ
finite x = if nat_eq x INFINITE then 0 else x

-- the sum of the numbers below infinity
abbrev pub finite_sum : List ℕ → ℕ
finite_sum [] = 0
finite_sum (x ∷ xs) = finite x + finite_sum xs
