-- What is remembered of looks at positions of the defender: what the replies come to.
use Rattle.std.specs.Prelude.{◌≡◌, ℕ, ◌+◌, ◌≤◌, List, [], take, drop, length, ◌++◌, Option}
use Rattle.std.specs.Option.{option_map_or}
use Rattle.game_rules.specs.Grid.{Grid}
use Rattle.game_rules.specs.declared.RuleKind.{RuleKind}
use Rattle.position_table.specs.Remembering.{Remembered, IsTrueTable}
use Rattle.threat_game.specs.declared.replies.Child.{Child}
use Rattle.threat_game.specs.declared.replies.Children.{Children}
use Rattle.threat_game.specs.ThreatGame.{LosesToThreats}
use Rattle.threat_game.specs.Replies.{AreChildren, HasEscape}
use Rattle.proof_number.specs.declared.spans.Span.{Span}
use Rattle.proof_number.specs.declared.looks.Look.{Look}
use Rattle.proof_number.specs.declared.looks.TheConstants.{LOOKS}
use Rattle.proof_number.specs.declared.looks.Look.TheVariants.{Denied, Escape, Replies}
use Rattle.proof_number.specs.Denials.{WinsByFewFours}

-- ---- lists that are kept in one

-- the list that stands there among those that are kept
abbrev pub part_of : {T : Type 0} → Span → List T → List T
part_of span all = take span.count (drop span.first all)

-- the list was added behind the others
pub record IsAdded {T : Type 0} (before list after : List T) (span : Span) : Type 0 where
  pub all : after ≡ before ++ list
  pub first : span.first ≡ length before
  pub count : span.count ≡ length list

-- a list stands there, and this holds of it
pub record IsPart {T : Type 0} (all : List T) (says : List T → Type 0) (span : Span) : Type 0 where
  pub within : span.first + span.count ≤ length all
  pub holds : says (part_of span all)

-- ---- looks

-- the entries of a table that is made late: none before it is made
abbrev pub table_in : Option (Remembered Look) → Remembered Look
table_in made = option_map_or (λ t. t) made (record { entries = []; capacity = LOOKS })

-- what is remembered: what each look came to, the children that it speaks of, and how many looks are still to pass
pub record LookMemory : Type 0 where
  pub table : Remembered Look
  pub children : List Child
  pub to_pass : ℕ

-- the side to move wins by few fours, and so the other side has no win by threats
pub record IsDeniedByFours (rule : RuleKind) (c : Grid) : Type 0 where
  pub denied : (moves : ℕ) → ¬ LosesToThreats rule moves c
  pub fours : WinsByFewFours rule c

-- whatever has this list, and this count of positions, is the children at c
abbrev pub AreChildrenOf : RuleKind → ℕ → Grid → ℕ → List Child → Type 0
AreChildrenOf rule n c count all = (children : Children) → children.all.items ≡ all → children.count ≡ count
    → AreChildren rule n c children

-- what a look at a position came to is true, where the attacker has so many more moves
abbrev pub IsTrueLook : RuleKind → List Child → Grid → ℕ → Look → Type 0
IsTrueLook rule children b n Denied = IsDeniedByFours rule b
IsTrueLook rule children b n Escape = HasEscape rule n b × (n ≤ 2)
IsTrueLook rule children b n (Replies span count) = IsPart children (AreChildrenOf rule n b count) span

-- what is remembered is true
abbrev pub IsTrueLookMemory : RuleKind → LookMemory → Type 0
IsTrueLookMemory rule m = IsTrueTable Look rule (IsTrueLook rule m.children) m.table
