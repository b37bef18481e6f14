-- What a table of remembered positions holds.
use Rattle.std.specs.Prelude.{◌≡◌, ℕ, Bool, ◌&&◌, nat_eq, List, ◌∷◌, take, Option}
use Rattle.std.specs.Bool.{Decides}
use Rattle.std.specs.Option.{option_map_or}
use Rattle.std.specs.Cmp.Lexicographic.{pointwise}
use Rattle.std.specs.List.{Contains}
use Rattle.std.specs.Map.{lookup, lookup_entry, remove_entry}
use Rattle.game_rules.specs.Grid.{Grid}
use Rattle.game_rules.specs.Play.{IsPosition}
use Rattle.game_rules.specs.declared.RuleKind.{RuleKind}
use Rattle.position_table.specs.Packing.{Packed, packed}

-- the entries, the latest used first, each a packed board and a tag with the value that was kept under them, and how many
-- there may be
pub record Remembered (V : Type 0) : Type 0 where
  pub entries : List ((Packed × ℕ) × V)
  pub capacity : ℕ

-- whether two packed boards are the same: width, height and each byte
abbrev pub same_packed : Packed → Packed → Bool
same_packed a b = nat_eq a.width b.width && (nat_eq a.height b.height && pointwise nat_eq a.bytes b.bytes)

-- the test finds two packed boards the same exactly where they are
abbrev pub TestTells : Type 0
TestTells = (a b : Packed) → Decides (same_packed a b) (a ≡ b)

-- whether two packed boards are the same, and their tags
abbrev pub same_key : Packed × ℕ → Packed × ℕ → Bool
same_key a b = same_packed a.0 b.0 && nat_eq a.1 b.1

-- the value of the entry under this key, if there is one
abbrev pub value_under : {V : Type 0} → Packed × ℕ → Remembered V → Option V
value_under key t = lookup (same_key key) t.entries

-- the table after a look at this key: its entry, if there is one, goes to the front
abbrev pub looked_up : {V : Type 0} → Packed × ℕ → Remembered V → Remembered V
looked_up key t =
    record t { entries = option_map_or (λ e. e ∷ remove_entry (same_key key) t.entries) (lookup_entry (same_key key) t.entries) t.entries }

-- the table after a value is kept under this key: the entry stands in front, a former entry under the key is gone, and
-- where the capacity would be passed the last entry is gone
abbrev pub kept : {V : Type 0} → Packed × ℕ → V → Remembered V → Remembered V
kept key value t = record t { entries = take t.capacity ((key, value) ∷ remove_entry (same_key key) t.entries) }

-- what is said of a board, a tag and a value holds of the entry at each lawful position with its key
pub record IsTrueEntry (V : Type 0) (rule : RuleKind) (says : Grid → ℕ → V → Type 0) (e : (Packed × ℕ) × V) : Type 0 where
  pub holds : (b : Grid) → IsPosition rule b → packed b ≡ e.0.0 → says b e.0.1 e.1

-- what is remembered is true: it holds of each entry
pub record IsTrueTable (V : Type 0) (rule : RuleKind) (says : Grid → ℕ → V → Type 0) (t : Remembered V) : Type 0 where
  pub each : (e : (Packed × ℕ) × V) → Contains t.entries e → IsTrueEntry V rule says e
