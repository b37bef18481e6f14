-- Counts of the calls of a device: how often it was asked. Each call counts one, so what is said of these counts is said of the
-- calls themselves: that there was none, or one, or at most so many.
use Rattle.std.specs.Prelude.{◌≡◌, ℕ, zero, suc, ◌+◌, ◌-◌, ◌/◌, ◌≤◌, min, List, Option, length}
use Rattle.renju_io.specs.Faults.{last_count}
use Rattle.renju_io.specs.Told.{Gives}
use Rattle.renju_io.specs.declared.TheConstants.{MAX_PIECE_BYTES}

-- one more, up to the last value of a count
abbrev pub one_more : ℕ → ℕ
one_more n = min (n + 1) last_count

-- the count after so many more calls
abbrev pub after_calls : ℕ → ℕ → ℕ
after_calls zero count = count
after_calls (suc n) count = one_more (after_calls n count)

-- how often a device was asked, and how often it failed
pub record Counts : Type 0 where
  pub asked : ℕ
  pub faults : ℕ

-- the counts of a device that was not asked
abbrev pub no_counts : Counts
no_counts = record { asked = 0; faults = 0 }

-- the device was not asked
abbrev pub IsNotAsked : ℕ → ℕ → Type 0
IsNotAsked old new = new ≡ old

-- the device was asked once
abbrev pub IsAskedOnce : ℕ → ℕ → Type 0
IsAskedOnce old new = new ≡ one_more old

-- the device was asked so many times
abbrev pub IsAsked : ℕ → ℕ → ℕ → Type 0
IsAsked n old new = new ≡ after_calls n old

-- the device was asked at most so many times
pub record IsAskedAtMost (most old new : ℕ) : Type 0 where
  pub calls : ℕ
  pub few : calls ≤ most
  pub asked : IsAsked calls old new

-- Of the reads of a source each but the last gave at least one byte: there were at most as many as it gave bytes, and one more.
pub record GivesByEach (left left_after : Option (List ℕ)) (old new : ℕ) : Type 0 where
  pub given : List ℕ
  pub gives : Gives left given left_after
  pub reads : IsAskedAtMost (length given + 1) old new

-- in how many pieces a text is written, each but the last of the most bytes that one may have
abbrev pub piece_count : List ℕ → ℕ
piece_count text = (length text + (MAX_PIECE_BYTES - 1)) / MAX_PIECE_BYTES

-- the device was asked no more often than it takes to come from one bound of its calls to another
pub record IsAskedWithin (first last old new : ℕ) : Type 0 where
  pub calls : ℕ
  pub few : first + calls ≤ last
  pub asked : IsAsked calls old new
