-- The command `cover`: its words, what it says of a position, what it does in a run, and what its runs show.
use Rattle.std.specs.Prelude.{◌≡◌, ◌⊎◌, ℕ, ◌+◌, ◌≤◌, List, [], ◌∷◌, ◌++◌, codes, Option, Some, None, IfSome}
use Rattle.std.specs.Fmt.{decimal}
use Rattle.game_rules.specs.Grid.{Grid}
use Rattle.game_rules.specs.Play.{after, outcome}
use Rattle.game_rules.specs.Games.{WinsAfter, WinsWithin}
use Rattle.game_rules.specs.declared.RuleKind.{RuleKind}
use Rattle.game_rules.specs.declared.Outcome.{Outcome}
use Rattle.game_rules.specs.declared.Outcome.TheVariants.{Refused, Wins, Fouls, Draws, GoesOn}
use Rattle.game_rules.specs.declared.Point.{Point}
use Rattle.game_rules.specs.declared.TheConstants.{MAX_SIDE}
use Rattle.text_lines.specs.Lines.{ended}
use Rattle.text_lines.specs.Spellings.{point_text}
use Rattle.text_lines.specs.Reading.{IsWithin}
use Rattle.game_referee.specs.Verdicts.{verdict}
use Rattle.game_referee.specs.Lines.{verdict_line}
use Rattle.position_files.specs.declared.PositionFile.{PositionFile}
use Rattle.position_files.specs.declared.TableFile.{TableFile}
use Rattle.renju_io.specs.Files.{Files}
use Rattle.reply_cover.specs.Covers.{cover_of}
use Rattle.reply_cover.specs.Laws.{IsFirstOpen}
use Rattle.reply_cover.specs.declared.Part.{Part}
use Rattle.reply_cover.specs.declared.Cover.{Cover}
use Rattle.reply_cover.specs.declared.Cover.TheVariants.{Covered, Open}
use Rattle.command_base.specs.declared.status.Status.{Status}
use Rattle.command_base.specs.declared.status.Status.TheVariants.{Done, NotFound}
use Rattle.command_base.specs.Statuses.{status_number}
use Rattle.command_base.specs.Runs.{Run}
use Rattle.command_base.specs.Forms.{Command}
use Rattle.command_base.specs.Told.{AnswersTold}
use Rattle.command_base.specs.Positions.{PositionCommand, of_position}
use Rattle.file_loading.specs.HeldFiles.{IsUnhinderedShelf}
use Rattle.file_loading.specs.declared.TheConstants.{MAX_WORK}
use Rattle.file_loading.specs.ManyFiles.{AreTableFiles}
use Rattle.file_loading.specs.RunsByFiles.{IsRunByFiles, ShowsByFiles}
use Rattle.cover_command.specs.PartFiles.{ArePartNames, parts_of}

-- the word of the attack: a point, or `-` where there is none
abbrev pub attack_word : Option Point → List ℕ
attack_word None = codes "-"
attack_word (Some p) = point_text p

-- an attack is a point that some board has
abbrev pub IsAttack : Option Point → Type 0
IsAttack None = Unit {0}
IsAttack (Some p) = IsWithin MAX_SIDE MAX_SIDE p

-- the words `cover WORK ATTACK FILE ..`
abbrev pub cover_words : ℕ → Option Point → List (List ℕ) → List (List ℕ)
cover_words work attack names = codes "cover" ∷ decimal work ∷ attack_word attack ∷ names

-- what has to hold of them
pub record AreInRange (work : ℕ) (attack : Option Point) (names : List (List ℕ)) : Type 0 where
  pub some_work : 1 ≤ work
  pub work_fits : work ≤ MAX_WORK
  pub attack_fits : IsAttack attack
  pub names_fit : ArePartNames names

-- a cover: within how many moves the side wins, how many replies go on, and how many tables cover one
abbrev pub cover_line : ℕ → ℕ → ℕ → List ℕ
cover_line moves replies used =
    ended (codes "covered in " ++ decimal moves ++ codes " moves, " ++ decimal replies ++ codes " replies by " ++ decimal used
    ++ codes " tables")

-- the first reply that no table covers
abbrev pub no_table_line : Point → List ℕ
no_table_line p = ended (codes "no table " ++ point_text p)

-- what is told of a cover, before which the side that wins has so many moves
abbrev pub IsToldCover : ℕ → Cover → Status → List ℕ → Type 0
IsToldCover before (Covered moves replies used) status text = (status ≡ Done) × (text ≡ cover_line (moves + before) replies used)
IsToldCover before (Open p) status text = (status ≡ NotFound) × (text ≡ no_table_line p)

-- the game that the attack alone makes is judged
abbrev pub IsJudged : RuleKind → Grid → Point → Status → List ℕ → Type 0
IsJudged rule b p status text = (status ≡ NotFound) × (text ≡ verdict_line (verdict rule b (p ∷ [])))

-- What is told of an attack with this outcome: it wins at once, or the cover after it is told, or it is judged.
abbrev pub AttackSays : RuleKind → List Part → Grid → Point → Outcome → Status → List ℕ → Type 0
AttackSays rule parts b p Wins status text = (status ≡ Done) × (text ≡ cover_line 1 0 0)
AttackSays rule parts b p GoesOn status text = IsToldCover 1 (cover_of rule parts (after b p)) status text
AttackSays rule parts b p Refused status text = IsJudged rule b p status text
AttackSays rule parts b p (Fouls f) status text = IsJudged rule b p status text
AttackSays rule parts b p Draws status text = IsJudged rule b p status text

-- What `cover` says of a lawful position, where this is kept of the files: what they are to it after the attack, or at once.
abbrev pub CoverSays : Option Point → List Part → PositionFile → Status → List ℕ → Type 0
CoverSays None parts file status text = IsToldCover 0 (cover_of file.kind parts file.board) status text
CoverSays (Some p) parts file status text = AttackSays file.kind parts file.board p (outcome file.kind file.board p) status text

-- what `cover` does in a run: it says what the tables of the files are to the input, once each is accepted
abbrev pub IsCoverRun : ℕ → Option Point → List (List ℕ) → Run → Type 0
IsCoverRun work attack names = IsRunByFiles (λ files. CoverSays attack (parts_of files)) work names

-- `cover` as a command that is told a position, once the files are accepted: it answers for each lawful position
abbrev pub covers_command : ℕ → Option Point → List (List ℕ) → List TableFile → PositionCommand
covers_command work attack names files = record {
  words = cover_words work attack names;
  in_range = AreInRange work attack names;
  Says = CoverSays attack (parts_of files);
  IsEnough = λ file. Unit {0};
  IsAnswer = λ status. (status ≡ Done) ⊎ (status ≡ NotFound);
}

-- `cover WORK ATTACK FILE ..`, which answers by the tables of files that are accepted
abbrev pub cover_command : ℕ → Option Point → List (List ℕ) → Command
cover_command work attack names = record {
  words = cover_words work attack names;
  in_range = AreInRange work attack names;
  Does = IsCoverRun work attack names;
  Answers = λ run. (files : List TableFile) → IsUnhinderedShelf (λ shelf. AreTableFiles work (Some shelf) names files) run
      → AnswersTold (of_position (covers_command work attack names files)) run;
}

-- what a cover claims of the position: the side to move wins within so many moves, beginning with the attack or another move; or, where
-- no attack is named, the other side does, whatever is played first
abbrev pub CoverClaims : Option Point → PositionFile → ℕ → Type 0
CoverClaims None file moves = WinsAfter file.kind moves file.board
CoverClaims (Some p) file moves = WinsWithin file.kind moves file.board

-- the reply that is told is the first at the board that is neither a foul nor covered by a part
abbrev pub TellsOpen : RuleKind → List Part → Grid → List ℕ → Type 0
TellsOpen rule parts b text = (q : Point) × IsFirstOpen rule parts b q × (text ≡ no_table_line q)

-- the attack with this outcome does not win and is judged, or goes on, and a reply that is not covered is told
abbrev pub AttackLacks : RuleKind → List Part → Grid → Point → Outcome → List ℕ → Type 0
AttackLacks rule parts b p Wins text = ⊥
AttackLacks rule parts b p GoesOn text = TellsOpen rule parts (after b p) text
AttackLacks rule parts b p Refused text = text ≡ verdict_line (verdict rule b (p ∷ []))
AttackLacks rule parts b p (Fouls f) text = text ≡ verdict_line (verdict rule b (p ∷ []))
AttackLacks rule parts b p Draws text = text ≡ verdict_line (verdict rule b (p ∷ []))

-- what a position lacks that is not covered
abbrev pub CoverLacks : Option Point → List Part → PositionFile → List ℕ → Type 0
CoverLacks None parts file text = TellsOpen file.kind parts file.board text
CoverLacks (Some p) parts file text = AttackLacks file.kind parts file.board p (outcome file.kind file.board p) text

-- a cover is told, and what it claims holds
abbrev pub IsWonAsTold : Option Point → List TableFile → PositionFile → List ℕ → Type 0
IsWonAsTold attack files position text =
    (moves replies used : ℕ) × (text ≡ cover_line moves replies used) × CoverClaims attack position moves

-- What statuses 0 and 9 show: a cover is told, and the position is won so; or what it lacks is told.
pub record IsCoverShown (work : ℕ) (attack : Option Point) (names : List (List ℕ)) (shelf : Files) (input : List ℕ) (run : Run) :
    Type 0 where
  pub covered : run.status ≡ status_number Done → ShowsByFiles (IsWonAsTold attack) work names shelf input run
  pub lacking : run.status ≡ status_number NotFound
      → ShowsByFiles (λ files position text. CoverLacks attack (parts_of files) position text) work names shelf input run

-- The headline of `cover`: what its statuses 0 and 9 show, where the shelf tells its files and the input its bytes.
abbrev pub ShowsCover : Run → Type 0
ShowsCover run =
    (work : ℕ) (attack : Option Point) (names : List (List ℕ)) → run.words ≡ cover_words work attack names → AreInRange work attack names
    → IfSome run.shelf.before (λ shelf. IfSome run.input.before (λ input. IsCoverShown work attack names shelf input run))
