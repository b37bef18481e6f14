-- The command `threats`: its words, what it says of its input, and what its statuses 0, 9 and 5 show.
use Rattle.std.specs.Prelude.{◌≡◌, ◌⊎◌, ℕ, ◌≤◌, ◌<◌, List, [], ◌∷◌, ◌++◌, length, codes, Option, Some}
use Rattle.std.specs.Prelude.{None, IfSome}
use Rattle.std.specs.List.{flat_map}
use Rattle.std.specs.Fmt.{decimal}
use Rattle.game_rules.specs.Play.{mover}
use Rattle.game_rules.specs.declared.Axis.{Axis}
use Rattle.game_rules.specs.declared.Axis.TheVariants.{Row, Column, Down, Up}
use Rattle.game_rules.specs.declared.Point.{Point}
use Rattle.text_lines.specs.Lines.{ended}
use Rattle.text_lines.specs.Spellings.{point_text, points_text}
use Rattle.threat_moves.specs.declared.threat_list.ThreatKind.{ThreatKind}
use Rattle.threat_moves.specs.declared.threat_list.ThreatKind.TheVariants.{Four, Three}
use Rattle.threat_moves.specs.declared.threat_list.Threat.{Threat}
use Rattle.threat_space.specs.declared.TheConstants.{MAX_LENGTH}
use Rattle.threat_space.specs.Sequences.{first_sequence, seq_cost}
use Rattle.position_files.specs.declared.PositionFile.{PositionFile}
use Rattle.renju_io.specs.Told.{Takes}
use Rattle.command_base.specs.declared.status.Status.{Status}
use Rattle.command_base.specs.declared.status.Status.TheVariants.{Done, Spent, NotFound}
use Rattle.command_base.specs.declared.TheConstants.{MAX_SEARCHED}
use Rattle.command_base.specs.Texts.{spent_line, none_line}
use Rattle.command_base.specs.Runs.{Change, Run}
use Rattle.command_base.specs.Positions.{PositionCommand}
use Rattle.command_base.specs.Searches.{SpeaksOfPosition, IsSearched, ShowsOfPosition}

-- the words of the kinds
abbrev pub kind_word : ThreatKind → List ℕ
kind_word Four = codes "four"
kind_word Three = codes "three"

-- the words of the axes
abbrev pub axis_word : Axis → List ℕ
axis_word Row = codes "row"
axis_word Column = codes "column"
axis_word Down = codes "down"
axis_word Up = codes "up"

-- the line of a threat: its kind, its gain, its axis and its costs
abbrev pub threat_line : Threat → List ℕ
threat_line t = ended (kind_word t.kind ++ (codes " " ++ point_text t.gain) ++ (codes " " ++ axis_word t.axis) ++ points_text t.costs)

-- the number of threats, a line for each, and the final point
abbrev pub sequence_text : List Threat → Point → List ℕ
sequence_text ts f = ended (codes "threats " ++ decimal (length ts)) ++ flat_map threat_line ts
    ++ ended (codes "final " ++ point_text f)

-- the first sequence of at most so many threats of the side to move at the position
abbrev pub sequence_at : ℕ → PositionFile → Option (List Threat × Point)
sequence_at limit file = first_sequence file.kind (mover file.board) limit file.board

-- how many lists of threats the search for it looks at
abbrev pub cost_at : ℕ → PositionFile → ℕ
cost_at limit file = seq_cost file.kind (mover file.board) limit file.board

-- these threats and this final point are the first sequence, and the budget is enough for the search: they are written
pub record IsFoundSequence (limit nodes : ℕ) (file : PositionFile) (status : Status) (text : List ℕ) : Type 0 where
  pub threats : List Threat
  pub last : Point
  pub enough : cost_at limit file ≤ nodes
  pub first : sequence_at limit file ≡ Some (threats, last)
  pub ends : status ≡ Done
  pub written : text ≡ sequence_text threats last

-- there is no sequence, and the budget is enough for the search
pub record IsNoSequence (limit nodes : ℕ) (file : PositionFile) (status : Status) (text : List ℕ) : Type 0 where
  pub enough : cost_at limit file ≤ nodes
  pub none : sequence_at limit file ≡ None
  pub ends : status ≡ NotFound
  pub line : text ≡ none_line

-- there are more lists to look at than the budget
pub record AreTooManyLists (limit nodes : ℕ) (file : PositionFile) (status : Status) (text : List ℕ) : Type 0 where
  pub more : nodes < cost_at limit file
  pub ends : status ≡ Spent
  pub line : text ≡ spent_line

-- what is said of a position within so many threats and with so many lists to look at
abbrev pub SequenceSays : ℕ → ℕ → PositionFile → Status → List ℕ → Type 0
SequenceSays limit nodes file status text =
    IsFoundSequence limit nodes file status text ⊎ IsNoSequence limit nodes file status text ⊎ AreTooManyLists limit nodes file status text

-- the words `threats LENGTH NODES`, with both numbers in decimal without leading zeros
abbrev pub threats_words : ℕ → ℕ → List (List ℕ)
threats_words limit nodes = codes "threats" ∷ decimal limit ∷ decimal nodes ∷ []

-- LENGTH is from 1 to MAX_LENGTH, and NODES from 1 to MAX_SEARCHED
abbrev pub AreLengthAndNodes : ℕ → ℕ → Type 0
AreLengthAndNodes limit nodes = (1 ≤ limit) × (limit ≤ MAX_LENGTH) × (1 ≤ nodes) × (nodes ≤ MAX_SEARCHED)

-- `threats LENGTH NODES`. It answers for a lawful position with no more lists of threats to look at than are allowed: it finds
-- a sequence or none.
abbrev pub threats_command : ℕ → ℕ → PositionCommand
threats_command limit nodes = record {
  words = threats_words limit nodes;
  in_range = AreLengthAndNodes limit nodes;
  Says = SequenceSays limit nodes;
  IsEnough = λ file. cost_at limit file ≤ nodes;
  IsAnswer = λ status. (status ≡ Done) ⊎ (status ≡ NotFound);
}

-- the output took the text of the first sequence, whole
pub record WritesSequence (limit : ℕ) (file : PositionFile) (output : Change (Option (List ℕ))) : Type 0 where
  pub threats : List Threat
  pub last : Point
  pub first : sequence_at limit file ≡ Some (threats, last)
  pub whole : Takes output.before (sequence_text threats last) output.after

-- What the statuses of `threats` say of the lawful position that is the input: 0 that there is a sequence and the budget is
-- enough, and the first one is written; 9 that there is none and the budget is enough; 5 that the budget is not enough.
abbrev pub IsSequenceSearched : ℕ → ℕ → PositionFile → Run → Type 0
IsSequenceSearched limit nodes file run = IsSearched (cost_at limit file) nodes (WritesSequence limit file run.output)
    (sequence_at limit file ≡ None) run

-- The headline of the search for sequences: what the statuses of `threats` show, where the input tells its bytes.
abbrev pub ShowsSequence : Run → Type 0
ShowsSequence run =
    (limit nodes : ℕ) → run.words ≡ threats_words limit nodes → AreLengthAndNodes limit nodes
    → IfSome run.input.before (ShowsOfPosition (SpeaksOfPosition run.status) (λ file. IsSequenceSearched limit nodes file run))
