-- Lists of threats that have no final point wherever they began, and what is remembered of them.
use Rattle.std.specs.Prelude.{◌≡◌, ℕ, ◌-◌, ◌<◌, if◌then◌else◌, nat_le, List, length, get_or, map, ◌++◌, Option, None, IfSome, false}
use Rattle.std.specs.List.{Contains}
use Rattle.game_rules.specs.Grid.{Grid, IsBoard}
use Rattle.game_rules.specs.declared.RuleKind.{RuleKind}
use Rattle.game_rules.specs.declared.Side.{Side}
use Rattle.game_rules.specs.declared.Point.{Point}
use Rattle.position_table.specs.Packing.{Packed, packed}
use Rattle.position_table.specs.Lateness.{Late}
use Rattle.threat_moves.specs.declared.threat_list.Threat.{Threat}
use Rattle.threat_space.specs.declared.walk.FoundInLists.{FoundInLists}
use Rattle.threat_space.specs.declared.walk.FoundInLists.TheVariants.{NoSequence, Spent}
use Rattle.threat_space.specs.Sequences.{final_of, is_sequence, lists_of, played_all}
use Rattle.threat_space.specs.Looking.{looked}
use Rattle.threat_space.specs.Lines.{EndsNear}

-- ---- where lists end

-- the last threat of the list has the gain g
pub record HasLastGain (ts : List Threat) (g : Point) : Type 0 where
  pub last : Threat
  pub some : 0 < length ts
  pub place : last ≡ get_or ts (length ts - 1) last
  pub gain : last.gain ≡ g

-- the second list ends with the gain of the first, if that has one
abbrev pub EndsAlike : List Threat → List Threat → Type 0
EndsAlike ts us = (g : Point) → HasLastGain ts g → HasLastGain us g

-- each list that leads to b, and has the last gain g, is a sequence with no final point but those on a line with g and those of `far`
abbrev pub IsNearAfter : RuleKind → Side → Grid → Point → List Point → Type 0
IsNearAfter rule s b g far = (start : Grid) (us : List Threat) → HasLastGain us g → b ≡ played_all start s us
    → EndsNear rule s start us g far

-- no list that leads to b, and has this last gain, if one is told, is a sequence with p
abbrev pub CannotEnd : RuleKind → Side → Grid → Option Point → Point → Type 0
CannotEnd rule s b last p = (start : Grid) (us : List Threat) → IfSome last (HasLastGain us) → b ≡ played_all start s us
    → is_sequence rule s start us p ≡ false

-- no list that leads to b, and ends as this one does, has a final point
abbrev pub HasNoFinal : RuleKind → Side → Grid → List Threat → Type 0
HasNoFinal rule s b ts = (start : Grid) (us : List Threat) → EndsAlike ts us → b ≡ played_all start s us → final_of rule s start us ≡ None

-- ---- lists without a sequence among them

-- what is found where n lists are looked at, and none of them has a final point
abbrev pub passed : ℕ → ℕ → FoundInLists
passed n budget = if nat_le n budget then NoSequence (budget - n) else Spent

-- so many lists of threats go on from b, and none of them has a final point, wherever a list began that leads to b and ends as this one
pub record AreBarren (rule : RuleKind) (s : Side) (b : Grid) (ts : List Threat) (lists : List (List Threat)) : Type 0 where
  pub count : ℕ
  pub passes : (start : Grid) (us : List Threat) → EndsAlike ts us → b ≡ played_all start s us → (budget : ℕ)
      → looked (final_of rule s start) budget (map (λ more. us ++ more) lists) ≡ passed count budget

-- the same of the lists of exactly so many threats, whatever the list is that leads to b
abbrev pub IsBarren : RuleKind → Side → Grid → ℕ → ℕ → Type 0
IsBarren rule s b more count = (start : Grid) (us : List Threat) → b ≡ played_all start s us → (budget : ℕ)
    → looked (final_of rule s start) budget (map (λ more. us ++ more) (lists_of rule s more b)) ≡ passed count budget

-- ---- what is remembered

-- the side, and under a board and a number of threats how many lists of so many there are
pub record BarrenMemory : Type 0 where
  pub side : Side
  pub late : Late

-- an entry is true of the boards with its key
pub record IsBarrenEntry (rule : RuleKind) (s : Side) (e : (Packed × ℕ) × ℕ) : Type 0 where
  pub holds : (b : Grid) → IsBoard b → e.0.0 ≡ packed b → IsBarren rule s b e.0.1 e.1

-- what is remembered is true: each entry is
pub record IsTrueBarrenMemory (rule : RuleKind) (memory : BarrenMemory) : Type 0 where
  pub each : (e : (Packed × ℕ) × ℕ) → Contains memory.late.table.entries e → IsBarrenEntry rule memory.side e
