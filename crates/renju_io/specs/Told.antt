-- Bytes that a device may tell: `Some` of the bytes that a source has left or that a sink has written, or `None`
-- where it does not tell them. `append_known` and `prepend_known` of std keep `None` as it is.
use Rattle.std.specs.Prelude.{◌≡◌, ◌==◌, ℕ, Bool, false, List, Option, None, Some, take}
use Rattle.std.specs.Io.KnownBytes.{prepend_known, append_known}
use Rattle.renju_io.specs.Faults.{HasRisen, HasStayed}

-- a source gave these bytes: they were the front of what was left, and the rest is left now
abbrev pub Gives : Option (List ℕ) → List ℕ → Option (List ℕ) → Type 0
Gives old given new = old ≡ prepend_known given new

-- whether the last read that did not fail told the end of the input: it gave no byte
abbrev pub tells_end : Option ℕ → Bool
tells_end None = false
tells_end (Some count) = count == 0

-- a source gave some bytes, maybe none: what is left now is the end of what was left
pub record GivesSome (old new : Option (List ℕ)) : Type 0 where
  pub given : List ℕ
  pub gives : Gives old given new

-- a source gave some bytes, counting no fault, and then a read failed: it left what the reads before it had left, and
-- nothing was read after it
pub record FailsAfter {Device : Type 0} (left : Device → Option (List ℕ)) (faults : Device → ℕ) (old new : Device) : Type 0 where
  pub before : Device
  pub gave : GivesSome (left old) (left before)
  pub uncounted : HasStayed (faults old) (faults before)
  pub kept : left new ≡ left before
  pub risen : HasRisen (faults before) (faults new)

-- a sink took these bytes: they stand behind those that were written before
abbrev pub Takes : Option (List ℕ) → List ℕ → Option (List ℕ) → Type 0
Takes old taken new = new ≡ append_known old taken

-- a sink took the first so many bytes of a piece, maybe none or all
pub record TakesPart (old : Option (List ℕ)) (piece : List ℕ) (new : Option (List ℕ)) : Type 0 where
  pub count : ℕ
  pub takes : Takes old (take count piece) new

-- a sink took some bytes, counting no fault, and then a write failed: a part of its piece was written, and nothing was written
-- after it
pub record CutAfter {Device : Type 0} (written : Device → Option (List ℕ)) (faults : Device → ℕ) (old new : Device) : Type 0 where
  pub before : Device
  pub bytes : List ℕ
  pub took : Takes (written old) bytes (written before)
  pub uncounted : HasStayed (faults old) (faults before)
  pub piece : List ℕ
  pub part : TakesPart (written before) piece (written new)
  pub risen : HasRisen (faults before) (faults new)
