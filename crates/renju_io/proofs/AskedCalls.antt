-- How often a device was asked, call by call.
use Rattle.std.proofs.Common.{◌≡◌, ℕ, zero, suc, ◌+◌, ◌<◌, ◌≤◌, min, refl, sym, ap, ◌∙◌, List, [], ◌++◌}
use Rattle.std.proofs.Common.{length, Option, Some, Bool, true, false, if◌then◌else◌, subst, arith, length-append}
use Rattle.renju_io.proofs.Common.{one_more, after_calls, IsAsked, IsAskedAtMost, IsAskedOnce, IsAskedWithin, GivesByEach, piece_count}
use Rattle.renju_io.proofs.Common.{Gives, tells_end}
use Rattle.renju_io.specs.declared.TheConstants.{MAX_PIECE_BYTES}
use Rattle.renju_io.proofs.GivenBytes.{Gives-none, Gives-then}

-- calls and then more calls
pub after_calls-then : (m n count : ℕ) → after_calls n (after_calls m count) ≡ after_calls (n + m) count
after_calls-then m zero count = let same : m ≡ zero + m = omega arith in ap (λ k. after_calls k count) same
after_calls-then m (suc n) count =
    let same : suc (n + m) ≡ suc n + m = omega arith in
    ap one_more (after_calls-then m n count) ∙ ap (λ k. after_calls k count) same

pub IsAsked-then : (m n a b c : ℕ) → IsAsked m a b → IsAsked n b c → IsAsked (n + m) a c
IsAsked-then m n a b c before after = after ∙ ap (after_calls n) before ∙ after_calls-then m n a

-- no call was made
pub none_asked : (most a : ℕ) → IsAskedAtMost most a a
none_asked most a = record { calls = 0; few = omega arith; asked = refl }

pub none_within : (first a : ℕ) → IsAskedWithin first first a a
none_within first a = record { calls = 0; few = omega arith; asked = refl }

-- a larger bound
pub few_more : (most more a b : ℕ) → IsAskedAtMost most a b → most ≤ more → IsAskedAtMost more a b
few_more most more a b few le = record { calls = few.calls; few = omega (arith, few.few, le); asked = few.asked }

pub within_more : (first last more a b : ℕ) → IsAskedWithin first last a b → last ≤ more → IsAskedWithin first more a b
within_more first last more a b few le = record { calls = few.calls; few = omega (arith, few.few, le); asked = few.asked }

-- calls and then more
pub few_then : (most more all a b c : ℕ) → IsAskedAtMost most a b → IsAskedAtMost more b c → most + more ≤ all → IsAskedAtMost all a c
few_then most more all a b c before after le = record {
  calls = after.calls + before.calls;
  few = omega (arith, before.few, after.few, le);
  asked = IsAsked-then before.calls after.calls a b c before.asked after.asked;
}

-- one more call
pub few_once : (most more a b c : ℕ) → IsAskedAtMost most a b → IsAskedOnce b c → most + 1 ≤ more → IsAskedAtMost more a c
few_once most more a b c few once le = record {
  calls = suc few.calls;
  few = omega (arith, few.few, le);
  asked = once ∙ ap one_more few.asked;
}

pub within_asked : (first last more a b c : ℕ) → IsAskedWithin first last a b → IsAskedAtMost 1 b c → last + 1 ≤ more
    → IsAskedWithin first more a c
within_asked first last more a b c few once le = record {
  calls = once.calls + few.calls;
  few = omega (arith, few.few, once.few, le);
  asked = IsAsked-then few.calls once.calls a b c few.asked once.asked;
}

-- more calls
pub within_then : (first mid last a b c : ℕ) → IsAskedWithin first mid a b → IsAskedWithin mid last b c → IsAskedWithin first last a c
within_then first mid last a b c before after = record {
  calls = after.calls + before.calls;
  few = omega (arith, before.few, after.few);
  asked = IsAsked-then before.calls after.calls a b c before.asked after.asked;
}

pub within_few : (most a b : ℕ) → IsAskedWithin 0 most a b → IsAskedAtMost most a b
within_few most a b few = record { calls = few.calls; few = omega (arith, few.few); asked = few.asked }

-- a source that was not asked gave nothing
pub by_each_none : (left : Option (List ℕ)) (a : ℕ) → GivesByEach left left a a
by_each_none left a = record { given = []; gives = Gives-none left; reads = none_asked 1 a }

-- a source that gave a byte at least by each read is read once more
pub by_each : (left left_before left_after : Option (List ℕ)) (a b c : ℕ) (bytes given : List ℕ) → Gives left bytes left_before
    → Gives left_before given left_after → IsAskedAtMost (length bytes) a b → IsAskedOnce b c → GivesByEach left left_after a c
by_each left left_before left_after a b c bytes given before last few once = record {
  given = bytes ++ given;
  gives = Gives-then left left_before left_after bytes given before last;
  reads = few_once (length bytes) (length (bytes ++ given) + 1) a b c few once (omega (arith, length-append bytes given));
}

-- and that fails, and gives nothing
pub by_each_failed : (left left_before left_after : Option (List ℕ)) (a b c : ℕ) (bytes : List ℕ) → Gives left bytes left_before
    → left_after ≡ left_before → IsAskedAtMost (length bytes) a b → IsAskedOnce b c → GivesByEach left left_after a c
by_each_failed left left_before left_after a b c bytes before kept few once =
    by_each left left_before left_after a b c bytes [] before (subst (λ l. Gives left_before [] l) (sym kept) (Gives-none left_before)) few
    once

-- a source that may have told its end was asked once more at most than it gave bytes
pub few_to_end : (len most : ℕ) (ended : Bool) (a b : ℕ) → len ≤ most → IsAskedAtMost (len + (if ended then 1 else 0)) a b
    → IsAskedAtMost (most + 1) a b
few_to_end len most true a b le few = few_more (len + 1) (most + 1) a b few (omega (arith, le))
few_to_end len most false a b le few = few_more (len + 0) (most + 1) a b few (omega (arith, le))

-- one that has not was asked no more often
pub few_to_go_on : (len : ℕ) (ended : Bool) (a b : ℕ) → ended ≡ false → IsAskedAtMost (len + (if ended then 1 else 0)) a b
    → IsAskedAtMost len a b
few_to_go_on len true a b is few = absurd (cc)
few_to_go_on len false a b is few = few_more (len + 0) len a b few (omega arith)

-- a read gives a byte at least, or tells the end
pub read_goes_on : (count : ℕ) (last : Option ℕ) → last ≡ Some count → 1 ≤ count + (if tells_end last then 1 else 0)
read_goes_on zero last is =
    let P : Option ℕ → Type 0 = λ l. 1 ≤ 0 + (if tells_end l then 1 else 0) in subst P (sym is) (omega arith)
read_goes_on (suc n) last is = omega arith

-- a piece of a text was written: the rest has one piece less
pub one_piece_less : (rest piece later : List ℕ) → rest ≡ piece ++ later → length piece ≡ min MAX_PIECE_BYTES (length rest)
    → 0 < length rest → piece_count later + 1 ≡ piece_count rest
one_piece_less rest piece later cut size some =
    omega (arith, ap length cut, length-append piece later, size, some)

-- so many calls were made that as many are left
pub record IsAskedUpTo (rest all old new : ℕ) : Type 0 where
  pub calls : ℕ
  pub exact : rest + calls ≡ all
  pub asked : IsAsked calls old new

pub up_to_once : (rest later all a b c : ℕ) → IsAskedUpTo rest all a b → later + 1 ≡ rest → IsAskedOnce b c → IsAskedUpTo later all a c
up_to_once rest later all a b c so_far less once = record {
  calls = suc so_far.calls;
  exact = omega (arith, so_far.exact, less);
  asked = once ∙ ap one_more so_far.asked;
}

-- so there were no more calls than these
pub up_to_few : (rest all a b : ℕ) → IsAskedUpTo rest all a b → IsAskedAtMost all a b
up_to_few rest all a b so_far = record { calls = so_far.calls; few = omega (arith, so_far.exact); asked = so_far.asked }
