-- The children of a node of the defender: their numbers and notes once the wins after the replies are compiled.
use Rattle.std.specs.Prelude.{◌≡◌, ℕ, ◌<◌, false, true, List, length, slice_index_or, Option, Some, None}
use Rattle.game_rules.specs.Grid.{Grid}
use Rattle.game_rules.specs.Play.{after}
use Rattle.game_rules.specs.declared.RuleKind.{RuleKind}
use Rattle.strategy_graph.specs.declared.Node.{Node}
use Rattle.strategy_compiler.specs.declared.wins.WrittenWin.{WrittenWin}
use Rattle.proof_tree.specs.Combining.{settled_numbers}
use Rattle.proof_tree.specs.Trees.{numbers_at}
use Rattle.proof_tree.specs.declared.Numbers.{Numbers}
use Rattle.proof_number.specs.declared.notes.Note.{Note}
use Rattle.threat_game.specs.declared.replies.Child.{Child}
use Rattle.threat_game.specs.declared.replies.Judged.TheVariants.{Five}
use Rattle.threat_game.specs.ThreatGame.{nowhere}
use Rattle.proof_number.specs.Notes.{note_at, win_of}
use Rattle.threat_game.specs.Replies.{IsChild, is_open, stands_for}
use Rattle.proof_number.specs.Searches.{IsNotedWin}

-- the numbers of a node of which nothing is known
abbrev pub open_numbers : Numbers
open_numbers = record { proof = 1; disproof = 1 }

-- the numbers of a child with this win, or of an open one
abbrev pub child_numbers : Option WrittenWin → Numbers
child_numbers None = open_numbers
child_numbers (Some win) = settled_numbers true

-- the note of a child with this win, or of an open one, where this is noted of its move
abbrev pub child_note : Note → Option WrittenWin → Note
child_note note None = note
child_note note (Some win) = record note { moves = win.moves; node = win.node }

-- what a read past the end of a list of children gives
abbrev pub no_child : Child
no_child = record { at = nowhere; judged = Five nowhere }

-- child k
abbrev pub child_at : List Child → ℕ → Child
child_at children k = slice_index_or children k no_child

-- The numbers and the note of a child of c with so many moves left: it is proved, with a win that is written, or open, as is judged
-- of it. Its win is written after each other reply too for which it stands.
pub record IsSettledChild (rule : RuleKind) (left : ℕ) (c : Grid) (t : List Node) (child : Child) (numbers : Numbers) (note : Note) :
    Type 0 where
  pub at : note.at ≡ child.at
  pub left_is : note.left ≡ left
  pub proved : is_open child.judged ≡ false → (numbers ≡ settled_numbers true) × (0 < note.moves)
      × IsNotedWin rule left (after c child.at) t (win_of note)
  pub unproved : is_open child.judged ≡ true → (numbers ≡ open_numbers) × (note.moves ≡ 0)
  pub stands : (met : Child) → stands_for child.judged met.judged ≡ true → IsChild rule left c met
      → (0 < note.moves) × IsNotedWin rule left (after c met.at) t (win_of note)

-- these are the numbers and notes of the first children, so many of them
pub record AreSettled (rule : RuleKind) (left : ℕ) (c : Grid) (t : List Node) (children : List Child) (count : ℕ) (numbers : List Numbers)
    (notes : List Note) : Type 0 where
  pub numbers_count : length numbers ≡ count
  pub notes_count : length notes ≡ count
  pub each : (k : ℕ) → k < count → IsSettledChild rule left c t (child_at children k) (numbers_at numbers k) (note_at notes k)
