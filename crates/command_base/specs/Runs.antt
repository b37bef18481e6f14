-- A run of the program: its words, what its devices tell and count before and after, and the number that it ends with.
use Rattle.std.specs.Prelude.{◌≡◌, ◌≢◌, ◌⊎◌, ℕ, List, Option}
use Rattle.renju_io.specs.Faults.{HasRisen, HasStayed, HasNotFallen}
use Rattle.renju_io.specs.Asked.{GivesByEach, IsAsked, IsAskedAtMost, IsAskedOnce, IsNotAsked, piece_count}
use Rattle.renju_io.specs.Told.{Takes, TakesPart}
use Rattle.renju_io.specs.Files.{Files}
use Rattle.command_base.specs.declared.status.Status.{Status}
use Rattle.command_base.specs.declared.status.Status.TheVariants.{ShelfFault, Memory, ReadFault, WriteFault}
use Rattle.command_base.specs.Statuses.{status_number}

-- what a device tells, and the counts of its faults and of its calls, before and after
pub record Change (T : Type 0) : Type 0 where
  pub before : T
  pub after : T
  pub faults_before : ℕ
  pub faults_after : ℕ
  pub asked_before : ℕ
  pub asked_after : ℕ

-- the change from one state of a device to another, by what the device tells and what it counts in a state
abbrev pub change : {S T : Type 0} → (S → T) → (S → ℕ) → (S → ℕ) → S → S → Change T
change told faults asked old new = record {
  before = told old;
  after = told new;
  faults_before = faults old;
  faults_after = faults new;
  asked_before = asked old;
  asked_after = asked new;
}

-- the words, the bytes that the input has left, those that stand in the output, the files of the shelf, how many bytes the last read
-- of the input gave that did not fail, if there was one, and the status as a number
pub record Run : Type 0 where
  pub words : List (List ℕ)
  pub input : Change (Option (List ℕ))
  pub output : Change (Option (List ℕ))
  pub shelf : Change (Option Files)
  pub last : Option ℕ
  pub status : ℕ

-- the run with these words, these changes of input, output and shelf, this last read, and this number
abbrev pub program_run : List (List ℕ) → (input output : Change (Option (List ℕ))) → Change (Option Files) → Option ℕ → ℕ → Run
program_run words input output shelf last status =
    record { words = words; input = input; output = output; shelf = shelf; last = last; status = status }

-- the device failed
abbrev pub HasFailed : {T : Type 0} → Change T → Type 0
HasFailed device = HasRisen device.faults_before device.faults_after

-- the device has counted no fault
abbrev pub HasNoFault : {T : Type 0} → Change T → Type 0
HasNoFault device = HasStayed device.faults_before device.faults_after

-- the device was not asked: it tells what it told, and has counted no call and no fault
pub record IsUnasked {T : Type 0} (device : Change T) : Type 0 where
  pub same : device.after ≡ device.before
  pub faults : HasNoFault device
  pub asked : IsNotAsked device.asked_before device.asked_after

-- the device was asked once
abbrev pub IsAskedOnly : {T : Type 0} → Change T → Type 0
IsAskedOnly device = IsAskedOnce device.asked_before device.asked_after

-- the device was asked so many times
abbrev pub IsAskedTimes : {T : Type 0} → ℕ → Change T → Type 0
IsAskedTimes n device = IsAsked n device.asked_before device.asked_after

-- the device was asked at most so many times
abbrev pub IsAskedNoMore : {T : Type 0} → ℕ → Change T → Type 0
IsAskedNoMore most device = IsAskedAtMost most device.asked_before device.asked_after

-- The text was written whole, by as many writes as it has pieces, and the status is its own; or the output failed, took the front
-- of the text by no more writes, and the status is that of a write fault.
abbrev pub IsDelivered : Status → List ℕ → Change (Option (List ℕ)) → ℕ → Type 0
IsDelivered status text output number =
    ((number ≡ status_number status) × Takes output.before text output.after × IsAskedTimes (piece_count text) output)
    ⊎ ((number ≡ status_number WriteFault) × HasFailed output × TakesPart output.before text output.after
    × IsAskedNoMore (piece_count text) output)

-- memory ran out before anything was written
pub record IsOutOfMemory (output : Change (Option (List ℕ))) (number : ℕ) : Type 0 where
  pub ends : number ≡ status_number Memory
  pub silent : IsUnasked output

-- memory ran out before anything was read or written
pub record IsUnbegun (input output : Change (Option (List ℕ))) (number : ℕ) : Type 0 where
  pub ends : number ≡ status_number Memory
  pub unread : IsUnasked input
  pub silent : IsUnasked output

-- What holds of the devices in each run: the input gave bytes from its front, maybe none, by reads of which each but the last gave at
-- least one, the files of the shelf are as before, no count of faults fell, and where the status is not that of a fault of the input
-- or of the output, this device has counted none; nor has the shelf, where the status is neither that of its fault nor of one of the
-- output, which stands in place of that.
pub record KeepsDevices (run : Run) : Type 0 where
  pub taken : GivesByEach run.input.before run.input.after run.input.asked_before run.input.asked_after
  pub input : HasNotFallen run.input.faults_before run.input.faults_after
  pub output : HasNotFallen run.output.faults_before run.output.faults_after
  pub shelf : HasNotFallen run.shelf.faults_before run.shelf.faults_after
  pub files : run.shelf.after ≡ run.shelf.before
  pub reads : run.status ≢ status_number ReadFault → HasNoFault run.input
  pub writes : run.status ≢ status_number WriteFault → HasNoFault run.output
  pub loads : run.status ≢ status_number ShelfFault → run.status ≢ status_number WriteFault → HasNoFault run.shelf
