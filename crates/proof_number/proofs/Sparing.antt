-- What the numbers of the leaves leave to spare.
use Rattle.std.proofs.Common.{◌≡◌, ◌+◌, ◌≤◌, refl, arith}
use Rattle.std.proofs.lemmas.Bool.{ne_eqb}
use Rattle.proof_tree.specs.declared.TheConstants.{INFINITE}
use Rattle.proof_tree.proofs.Common.{IsOpen, finite, sought}
use Rattle.proof_number.proofs.Common.{Attack, Defend, HasSpare, Kind, Numbers, Tree, one_more}

-- each number of a node that is open counts
pub open-finite : (kind : Kind) (n : Numbers) → IsOpen n → finite (sought kind n) ≡ sought kind n
open-finite Attack n open_there =
    let low = open_there.proof_below in rw (ne_eqb n.proof INFINITE (λ e. omega (arith, e, low))) refl
open-finite Defend n open_there =
    let low = open_there.disproof_below in rw (ne_eqb n.disproof INFINITE (λ e. omega (arith, e, low))) refl

pub open-counts : (kind : Kind) (n : Numbers) → IsOpen n → 1 ≤ finite (sought kind n)
open-counts kind n open_there = let same = open-finite kind n open_there in let some = positive kind in omega (arith, same, some) where
  positive : (k : Kind) → 1 ≤ sought k n
  positive Attack = open_there.proof_above
  positive Defend = open_there.disproof_above

pub sought-more : (kind : Kind) (n : Numbers) → sought kind (one_more n) ≡ sought kind n + 1
sought-more Attack n = refl
sought-more Defend n = refl

pub spare-less : (t : Tree) (spare : Numbers) → HasSpare t (one_more spare) → HasSpare t spare
spare-less t spare is = record {
  fits = λ kind. let fits = is.fits kind in let more = sought-more kind spare in omega (arith, fits, more);
  leaves = λ kind many. let fits = is.leaves kind many in let more = sought-more kind spare in omega (arith, fits, more);
  lone = λ kind one unsettled. let none = is.lone kind one unsettled in let more = sought-more kind spare in omega (arith, none, more);
}
