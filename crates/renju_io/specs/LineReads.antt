-- What one read of a reader of lines does, and that none comes once the line has ended.
use Rattle.std.specs.Prelude.{◌≡◌, ℕ, ◌+◌, ◌≤◌, List, ◌++◌, ◌⊎◌, length, take, Option, Some}
use Rattle.renju_io.specs.Told.{Gives}
use Rattle.renju_io.specs.Lines.{ReaderState, HasNoLineFeed}
use Rattle.renju_io.specs.declared.TheConstants.{MAX_LINE_BYTES, MAX_SESSION_BYTES}

-- the reader took so many bytes of the source. They join those that it had kept, of a line that is too long as many as
-- show that; only the byte after the most that it may take is not kept.
pub record ReadsOn (old : ReaderState) (left : Option (List ℕ)) (count : ℕ) (new : ReaderState) (left_after : Option (List ℕ)) :
    Type 0 where
  pub given : List ℕ
  pub gives : Gives left given left_after
  pub many : length given ≡ count
  pub counted : new.taken ≡ old.taken + count
  pub joined : ((new.taken ≤ MAX_SESSION_BYTES) × (new.kept ≡ take (MAX_LINE_BYTES + 1) old.kept ++ given))
      ⊎ ((old.taken ≡ MAX_SESSION_BYTES) × (count ≡ 1) × (new.kept ≡ take (MAX_LINE_BYTES + 1) old.kept))

-- of the bytes that the source gave the last read gave the final ones, and the line had not ended before them
pub record OpenUntilLast (old : ReaderState) (left left_after : Option (List ℕ)) (last_after : Option ℕ) : Type 0 where
  pub before : List ℕ
  pub final : List ℕ
  pub gives : Gives left (before ++ final) left_after
  pub last : last_after ≡ Some (length final)
  pub open_still : HasNoLineFeed (old.kept ++ before)

-- no read was made once the line had ended: the source was not read, or the line had not ended before the last read
abbrev pub ReadsNoFurther : (old new : ReaderState) → (left left_after : Option (List ℕ)) → (last last_after : Option ℕ) → Type 0
ReadsNoFurther old new left left_after last last_after =
    (new.taken ≡ old.taken) × (left_after ≡ left) × (last_after ≡ last) ⊎ OpenUntilLast old left left_after last_after
