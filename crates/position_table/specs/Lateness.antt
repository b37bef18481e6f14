-- A table that is made late.
use Rattle.std.specs.Prelude.{◌≡◌, ℕ, ◌-◌, ◌<◌, Option, Some, None, if◌then◌else◌, nat_lt}
use Rattle.position_table.specs.Packing.{Packed}
use Rattle.position_table.specs.Remembering.{Remembered, kept}

-- the table, the least value that is kept in it, and how many values, none of them less, are still to pass before it is made
pub record Late : Type 0 where
  pub table : Remembered ℕ
  pub least : ℕ
  pub to_pass : ℕ

-- a table is made exactly where none is to pass
abbrev pub IsMadeInTime : {T : Type 0} → Option T → ℕ → Type 0
IsMadeInTime None to_pass = 0 < to_pass
IsMadeInTime (Some made) to_pass = to_pass ≡ 0

-- The table after a value is kept late: a small one changes nothing. Of the others one is counted where some are to pass, and
-- else the value is kept.
abbrev pub kept_late : Packed × ℕ → ℕ → Late → Late
kept_late key value t =
    if nat_lt value t.least then t
    else if nat_lt 0 t.to_pass then record t { to_pass = t.to_pass - 1 }
    else record t { table = kept key value t.table }
