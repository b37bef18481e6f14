-- The command `join`: its words, what it says of a position, what it does in a run, and what its runs show.
use Rattle.std.specs.Prelude.{◌≡◌, ◌⊎◌, ℕ, ◌≤◌, ◌<◌, List, [], ◌∷◌, ◌++◌, codes, length, Some, IfSome, slice_get}
use Rattle.std.specs.List.{sum_by}
use Rattle.std.specs.Option.{option_map}
use Rattle.game_rules.specs.Grid.{Grid}
use Rattle.game_rules.specs.Play.{after, outcome}
use Rattle.game_rules.specs.Games.{WinsWithin}
use Rattle.game_rules.specs.declared.Outcome.{Outcome}
use Rattle.game_rules.specs.declared.Outcome.TheVariants.{Refused, Wins, Fouls, Draws, GoesOn}
use Rattle.game_rules.specs.declared.Point.{Point}
use Rattle.game_rules.specs.declared.RuleKind.{RuleKind}
use Rattle.game_rules.specs.declared.TheConstants.{MAX_SIDE}
use Rattle.text_lines.specs.Lines.{ended}
use Rattle.text_lines.specs.Spellings.{point_text}
use Rattle.text_lines.specs.Reading.{IsWithin}
use Rattle.strategy_graph.specs.Acceptance.{Accepted}
use Rattle.strategy_graph.specs.Games.{attacks}
use Rattle.strategy_graph.specs.Tables.{depth}
use Rattle.strategy_graph.specs.declared.Node.{Node}
use Rattle.strategy_graph.specs.declared.TheConstants.{MAX_NODES}
use Rattle.strategy_compiler.specs.Walks.{AreDifferent, Reaches, last}
use Rattle.game_referee.specs.Verdicts.{verdict}
use Rattle.game_referee.specs.Lines.{verdict_line}
use Rattle.position_files.specs.Tables.{IsTextOfTable}
use Rattle.position_files.specs.declared.PositionFile.{PositionFile}
use Rattle.position_files.specs.declared.TableFile.{TableFile}
use Rattle.renju_io.specs.Files.{Files}
use Rattle.command_base.specs.declared.status.Status.{Status}
use Rattle.command_base.specs.declared.status.Status.TheVariants.{Done, NotFound, Full}
use Rattle.command_base.specs.Statuses.{status_number}
use Rattle.command_base.specs.Runs.{Run}
use Rattle.command_base.specs.Texts.{full_line}
use Rattle.command_base.specs.Forms.{Command}
use Rattle.command_base.specs.Told.{AnswersTold}
use Rattle.command_base.specs.Positions.{PositionCommand, of_position}
use Rattle.file_loading.specs.HeldFiles.{IsUnhinderedShelf}
use Rattle.file_loading.specs.declared.TheConstants.{MAX_WORK}
use Rattle.file_loading.specs.ManyFiles.{AreTableFiles}
use Rattle.file_loading.specs.RunsByFiles.{IsRunByFiles, ShowsByFiles}
use Rattle.cover_command.specs.PartFiles.{ArePartNames}
use Rattle.cover_command.specs.Covers.{IsJudged}
use Rattle.join_command.specs.Answering.{AnswersAt, IsOpenReply, IsTableOf, OpenOr}
use Rattle.join_command.specs.Making.{table_at}

-- the words `join ATTACK FILE ..`
abbrev pub join_words : Point → List (List ℕ) → List (List ℕ)
join_words p names = codes "join" ∷ point_text p ∷ names

-- what has to hold of them: some board has the point, and there are 1 to MAX_PARTS names, none of which is empty
pub record AreJoinWords (p : Point) (names : List (List ℕ)) : Type 0 where
  pub attack_fits : IsWithin MAX_SIDE MAX_SIDE p
  pub names_fit : ArePartNames names

-- Where the reply q at b after the attack p goes on, a file answers, and its root attacks as the last node of the table does after the
-- attack and the reply, whatever the replies.
abbrev pub FollowsFile : List TableFile → PositionFile → Point → List Node → Point → Type 0
FollowsFile files file p t q =
    let c = after (after file.board p) q in
    (k : ℕ) × (by : AnswersAt file.kind files c k)
    × ((qs : List Point) → attacks file.kind t (last t) file.board (q ∷ qs) ≡ p ∷ attacks file.kind by.file.table by.node c qs)

-- The text is that of a table at the position, whose last node is accepted there, is as deep as its number of moves and reaches each node;
-- no two nodes are equal. It attacks with p, and after each reply that goes on as a file that answers.
pub record IsJoinText (files : List TableFile) (file : PositionFile) (p : Point) (text : List ℕ) : Type 0 where
  pub moves : ℕ
  pub table : List Node
  pub accepted : Accepted file.kind table (last table) file.board
  pub deep : depth table (last table) ≡ moves
  pub different : AreDifferent table
  pub reached : (i : ℕ) → i < length table → Reaches table (last table) i
  pub written : IsTextOfTable (table_at file moves table) text
  pub attack : option_map (λ n. n.attack) (slice_get table (last table)) ≡ Some p
  pub follows : (q : Point) → outcome file.kind (after file.board p) q ≡ GoesOn → FollowsFile files file p table q

-- a reply that no file answers
abbrev pub no_answer_line : Point → List ℕ
no_answer_line q = ended (codes "no answer " ++ point_text q)

-- the table of the files is told
abbrev pub TellsJoin : List TableFile → PositionFile → Point → Status → List ℕ → Type 0
TellsJoin files file p status text = (status ≡ Done) × IsJoinText files file p text

-- a reply after the attack is told, which is open
abbrev pub TellsOpenReply : List TableFile → PositionFile → Point → List ℕ → Type 0
TellsOpenReply files file p text = (q : Point) × IsOpenReply file.kind files (after file.board p) q × (text ≡ no_answer_line q)

-- how many nodes the tables of the files have
abbrev pub node_count : List TableFile → ℕ
node_count files = sum_by (λ file. length file.table) files

-- What is told after an attack that goes on: a table of the files, or a reply that no file answers; or there is no room for the table,
-- where the files have at least MAX_NODES nodes.
abbrev pub JoinedSays : List TableFile → PositionFile → Point → Status → List ℕ → Type 0
JoinedSays files file p status text =
    TellsJoin files file p status text
    ⊎ ((status ≡ NotFound) × TellsOpenReply files file p text)
    ⊎ ((status ≡ Full) × (text ≡ full_line) × (MAX_NODES ≤ node_count files))

-- What is told of an attack with this outcome: where it does not go on, the game that it alone makes is judged.
abbrev pub AttackJoins : List TableFile → PositionFile → Point → Outcome → Status → List ℕ → Type 0
AttackJoins files file p GoesOn status text = JoinedSays files file p status text
AttackJoins files file p Refused status text = IsJudged file.kind file.board p status text
AttackJoins files file p Wins status text = IsJudged file.kind file.board p status text
AttackJoins files file p (Fouls f) status text = IsJudged file.kind file.board p status text
AttackJoins files file p Draws status text = IsJudged file.kind file.board p status text

-- what `join` says of a lawful position, where these are the tables of the files
abbrev pub JoinSays : Point → List TableFile → PositionFile → Status → List ℕ → Type 0
JoinSays p files file status text = AttackJoins files file p (outcome file.kind file.board p) status text

-- what `join` does in a run: it says what the tables of the files make of the input, once each is accepted
abbrev pub IsJoinRun : Point → List (List ℕ) → Run → Type 0
IsJoinRun p = IsRunByFiles (JoinSays p) MAX_WORK

-- `join` as a command that is told a position, once the files are accepted: it answers for each lawful position
abbrev pub joins_command : Point → List (List ℕ) → List TableFile → PositionCommand
joins_command p names files = record {
  words = join_words p names;
  in_range = AreJoinWords p names;
  Says = JoinSays p files;
  IsEnough = λ file. Unit {0};
  IsAnswer = λ status. (status ≡ Done) ⊎ (status ≡ NotFound) ⊎ (status ≡ Full);
}

-- `join ATTACK FILE ..`, which answers by the tables of files that are accepted
abbrev pub join_command : Point → List (List ℕ) → Command
join_command p names = record {
  words = join_words p names;
  in_range = AreJoinWords p names;
  Does = IsJoinRun p names;
  Answers = λ run. (files : List TableFile) → IsUnhinderedShelf (λ shelf. AreTableFiles MAX_WORK (Some shelf) names files) run
      → AnswersTold (of_position (joins_command p names files)) run;
}

-- a table of the files is told, and the side to move wins within its moves by the attack
abbrev pub IsWonByFiles : Point → List TableFile → PositionFile → List ℕ → Type 0
IsWonByFiles p files file text = (join : IsJoinText files file p text) × WinsWithin file.kind join.moves file.board

-- no file is a table of the position b
abbrev pub HasNoTable : RuleKind → List TableFile → Grid → Type 0
HasNoTable rule files b = (k : ℕ) (file : TableFile) → slice_get files k ≡ Some file → ¬ IsTableOf rule b file

-- a reply after the attack is told, which wins or draws at once, or goes on to a position of which no file is a table
abbrev pub TellsReply : List TableFile → PositionFile → Point → List ℕ → Type 0
TellsReply files file p text =
    let b = after file.board p in
    (q : Point) × OpenOr (outcome file.kind b q) (HasNoTable file.kind files (after b q)) × (text ≡ no_answer_line q)

-- the attack does not go on, and the game of it alone is judged, or it goes on and a reply to it is told
abbrev pub JoinLacks : Point → Outcome → List TableFile → PositionFile → List ℕ → Type 0
JoinLacks p GoesOn files file text = TellsReply files file p text
JoinLacks p Refused files file text = text ≡ verdict_line (verdict file.kind file.board (p ∷ []))
JoinLacks p Wins files file text = text ≡ verdict_line (verdict file.kind file.board (p ∷ []))
JoinLacks p (Fouls f) files file text = text ≡ verdict_line (verdict file.kind file.board (p ∷ []))
JoinLacks p Draws files file text = text ≡ verdict_line (verdict file.kind file.board (p ∷ []))

-- what a position lacks of which no table is made
abbrev pub LacksJoin : Point → List TableFile → PositionFile → List ℕ → Type 0
LacksJoin p files file text = JoinLacks p (outcome file.kind file.board p) files file text

-- What statuses 0 and 9 show: a table is told, by which the side to move wins; or what is lacking is told.
pub record IsJoinShown (p : Point) (names : List (List ℕ)) (shelf : Files) (input : List ℕ) (run : Run) : Type 0 where
  pub joined : run.status ≡ status_number Done → ShowsByFiles (IsWonByFiles p) MAX_WORK names shelf input run
  pub lacking : run.status ≡ status_number NotFound → ShowsByFiles (LacksJoin p) MAX_WORK names shelf input run

-- The headline of `join`: what its statuses 0 and 9 show, where the shelf tells its files and the input its bytes.
abbrev pub ShowsJoin : Run → Type 0
ShowsJoin run =
    (p : Point) (names : List (List ℕ)) → run.words ≡ join_words p names → AreJoinWords p names
    → IfSome run.shelf.before (λ shelf. IfSome run.input.before (λ input. IsJoinShown p names shelf input run))
