-- Devices over readers and writers of std, whose bytes std tells for all but those of the system.
use Rattle.std.specs.Prelude.{ℕ, List, Option}

-- a source over a reader: the bytes that the reader will give, where std tells them, how many the last read gave, and how often the
-- source was asked and has failed
pub record ReaderDevice : Type 0 where
  pub remaining : Option (List ℕ)
  pub last : Option ℕ
  pub asked : ℕ
  pub faults : ℕ

-- a sink over a writer: the bytes that the writer holds, where std tells them, and how often the sink was asked and has failed
pub record WriterDevice : Type 0 where
  pub contents : Option (List ℕ)
  pub asked : ℕ
  pub faults : ℕ
