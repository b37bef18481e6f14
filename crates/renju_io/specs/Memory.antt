-- Devices in memory: what they hold, and which of their calls fail.
use Rattle.std.specs.Prelude.{◌≡◌, ℕ, Bool, true, false, List, [], ◌⊎◌, ◌++◌, min, length, take, drop, ◌==◌, if◌then◌else◌, nat_lt}
use Rattle.std.specs.Prelude.{Option, None, Some, Result, Ok, Err, map, string_bytes}
use Rattle.std.specs.List.{list_any}
use Rattle.renju_io.specs.Asked.{one_more}
use Rattle.renju_io.specs.Files.{Files, file_under}
use Rattle.renju_io.specs.declared.shelf.LoadError.{LoadError}
use Rattle.renju_io.specs.declared.shelf.LoadError.TheVariants.{Failed, TooLong}
use Rattle.renju_io.specs.declared.memory_shelf.MemoryFile.{MemoryFile}
use Rattle.renju_io.specs.declared.TheConstants.{MAX_INPUT_BYTES}

-- the calls of a device: the numbers of those that fail, the first call being number 1, how many were made, and how
-- many failed
pub record Calls : Type 0 where
  pub failing : List ℕ
  pub made : ℕ
  pub faults : ℕ

-- no call was made
abbrev pub no_calls : List ℕ → Calls
no_calls failing = record { failing = failing; made = 0; faults = 0 }

-- whether the next call is one that fails
abbrev pub fails_next : Calls → Bool
fails_next calls = list_any (λ number. number == one_more calls.made) calls.failing

-- the calls after one more, which failed or not
abbrev pub after_call : Calls → Bool → Calls
after_call calls failed =
    record { failing = calls.failing; made = one_more calls.made; faults = if failed then one_more calls.faults else calls.faults }

-- a source in memory: the bytes that are left, how many the last read gave, the most that one read gives, and the calls
pub record SourceState : Type 0 where
  pub left : List ℕ
  pub last : Option ℕ
  pub piece : ℕ
  pub calls : Calls

-- how many bytes a read into a buffer of this length gives, unless it fails
abbrev pub given_count : SourceState → ℕ → ℕ
given_count source room = min room (min source.piece (length source.left))

-- the source after a read into a buffer of this length: one that fails gives nothing
abbrev pub after_read : SourceState → ℕ → SourceState
after_read source room = record {
  left = if fails_next source.calls then source.left else drop (given_count source room) source.left;
  last = if fails_next source.calls then source.last else Some (given_count source room);
  piece = source.piece;
  calls = after_call source.calls (fails_next source.calls);
}

-- a sink in memory: the bytes written, how many of its piece a write that is to fail keeps, and the calls
pub record SinkState : Type 0 where
  pub written : List ℕ
  pub kept : ℕ
  pub calls : Calls

-- the sink after a write of which it kept these bytes, and which failed or not
abbrev pub after_write : SinkState → List ℕ → Bool → SinkState
after_write sink bytes failed = record { written = sink.written ++ bytes; kept = sink.kept; calls = after_call sink.calls failed }

-- a write failed: it kept nothing, for want of memory, or it was to fail and kept the first bytes of its piece
abbrev pub FailsToWrite : SinkState → List ℕ → SinkState → Type 0
FailsToWrite old piece new = (new ≡ after_write old [] true) ⊎ (fails_next old.calls ≡ true)
    × (new ≡ after_write old (take old.kept piece) true)

-- files as names with their bytes
abbrev pub entries : List MemoryFile → Files
entries files = map (λ file. (string_bytes file.name, file.bytes.items)) files

-- a shelf in memory: its files and the calls
pub record ShelfState : Type 0 where
  pub files : Files
  pub calls : Calls

-- what a load that is not to fail answers for the bytes of a file, or for none, unless no memory is found
abbrev pub file_answer : Option (List ℕ) → Result (List ℕ) LoadError
file_answer None = Err Failed
file_answer (Some bytes) = if nat_lt MAX_INPUT_BYTES (length bytes) then Err TooLong else Ok bytes

-- what a load of this name answers, unless no memory is found
abbrev pub load_answer : ShelfState → List ℕ → Result (List ℕ) LoadError
load_answer shelf name = if fails_next shelf.calls then Err Failed else file_answer (file_under name shelf.files)

-- whether a load failed, which is the one answer that its count of faults rises for
abbrev pub is_failed : {T : Type 0} → Result T LoadError → Bool
is_failed (Err Failed) = true
is_failed _ = false
