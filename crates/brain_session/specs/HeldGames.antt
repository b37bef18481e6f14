-- The games that the brain plays by what it holds: where one begins, the replies in it, and how it goes.
use Rattle.strategy_graph.specs.declared.roots.Root.TheVariants.{Attack, Defend}
use Rattle.strategy_graph.specs.declared.roots.Root.{Root}
use Rattle.game_rules.specs.Games.{LosesOr}
use Rattle.gomocup_text.specs.Commands.{commands}
use Rattle.std.specs.Prelude.{◌≡◌, ℕ, ◌<◌, ◌≤◌, Bool, true, false, if◌then◌else◌, List, [], ◌∷◌, ◌++◌, map, length, Some, None, Contains}
use Rattle.std.specs.Prelude.{All, ◌⊎◌}
use Rattle.game_rules.specs.Grid.{Grid, is_empty}
use Rattle.game_rules.specs.Play.{outcome, after, is_foul}
use Rattle.game_rules.specs.declared.RuleKind.{RuleKind}
use Rattle.game_rules.specs.declared.Outcome.TheVariants.{GoesOn}
use Rattle.game_rules.specs.declared.Point.{Point}
use Rattle.strategy_graph.specs.declared.Node.{Node}
use Rattle.strategy_graph.specs.Tables.{Answers, answer, depth, start_depth}
use Rattle.strategy_graph.specs.Roots.{root_depth}
use Rattle.strategy_graph.specs.Games.{End, Won, Lost, Drawn, NoMove, Open, IllegalReply, game, attacks}
use Rattle.strategy_checker.specs.declared.held.HeldRoot.{HeldRoot}
use Rattle.strategy_checker.specs.HeldRoots.{HeldTable, IsHeld}
use Rattle.gomocup_text.specs.declared.Command.{Command}
use Rattle.gomocup_text.specs.declared.Command.TheVariants.{Start, RectStart, Begin, Turn, Board, Stone, Done, Restart, Takeback, Rule}
use Rattle.gomocup_text.specs.declared.Command.TheVariants.{Info, About, End as EndCommand, Blank, Malformed, Unknown}
use Rattle.gomocup_text.specs.declared.Answer.{Answer}
use Rattle.gomocup_text.specs.declared.Answer.TheVariants.{Move, Error}
use Rattle.gomocup_text.specs.declared.ErrorText.TheVariants.{BadMove, UnsupportedRule, GameOver, OpponentFoul}
use Rattle.brain_session.specs.declared.Reaction.{Reaction}
use Rattle.brain_session.specs.declared.Reaction.TheVariants.{Says}
use Rattle.brain_session.specs.States.{Game, board_of, point_at, State, new_brain}
use Rattle.brain_session.specs.ChosenMoves.{root_node, first_node, by_followed}
use Rattle.brain_session.specs.Steps.{Chooses, row_of, brain_step}
use Rattle.brain_session.specs.Sessions.{answers_from, state_after}

-- The command begins a held game: the brain chooses its answer in the game g, it follows nothing there yet, and the first
-- held root that applies leads to node i, which it follows.
pub record BeginsHeldGame (s : State) (c : Command) (g : Game) (i : ℕ) : Type 0 where
  pub chooses : row_of s c ≡ Chooses g
  pub not_followed : by_followed s.held g ≡ None
  pub leads : first_node g s.held.roots ≡ Some i

-- the quiet commands, which leave a game as it is where no batch is read
abbrev pub is_quiet : Command → Bool
is_quiet (Start n) = false
is_quiet (RectStart width height) = false
is_quiet Begin = true
is_quiet (Turn x y) = false
is_quiet Board = false
is_quiet (Stone x y field) = true
is_quiet Done = true
is_quiet Restart = false
is_quiet (Takeback x y) = false
is_quiet (Rule wish) = true
is_quiet Info = true
is_quiet About = true
is_quiet EndCommand = false
is_quiet Blank = true
is_quiet Malformed = true
is_quiet Unknown = true

-- whether a TURN that is answered so is no reply, and changes nothing
abbrev pub is_no_reply : Reaction → Bool
is_no_reply (Says (Error BadMove)) = true
is_no_reply (Says (Error UnsupportedRule)) = true
is_no_reply (Says (Error GameOver)) = true
is_no_reply _ = false

-- the reply of a command that is answered so, if it is one, and then these, unless the command is neither quiet nor a TURN
abbrev pub then_replies : Command → Reaction → List Point → List Point
then_replies (Turn x y) r later = if is_no_reply r then later else point_at x y ∷ later
then_replies c r later = if is_quiet c then later else []

-- The replies: the points of the TURN lines among these commands, up to the first that is neither quiet nor a TURN, without those
-- that are no reply.
unfoldable pub replies : State → List Command → List Point
replies s [] = []
replies s (c ∷ cs) = let step = brain_step s c in then_replies c step.reaction (replies step.next cs)

-- the answer to a command, if the command is a reply, and then these, unless it is neither quiet nor a TURN
abbrev pub then_answers_to : Command → Reaction → List Answer → List Answer
then_answers_to (Turn x y) (Says a) later = if is_no_reply (Says a) then later else a ∷ later
then_answers_to (Turn x y) r later = later
then_answers_to c r later = if is_quiet c then later else []

-- the answers to the replies among these commands
unfoldable pub answers_to_replies : State → List Command → List Answer
answers_to_replies s [] = []
answers_to_replies s (c ∷ cs) = let step = brain_step s c in then_answers_to c step.reaction (answers_to_replies step.next cs)

-- whether the last reply is a foul, where these attacks and these replies are played from b by turns
abbrev pub ends_with_foul : RuleKind → Grid → List Point → List Point → Bool
ends_with_foul rule b (p ∷ ps) (q ∷ []) = is_foul (outcome rule (after b p) q)
ends_with_foul rule b (p ∷ ps) (q ∷ v ∷ qs) = ends_with_foul rule (after (after b p) q) ps (v ∷ qs)
ends_with_foul rule b ps qs = false

-- the answers where these attacks are played from b against these replies: the attacks, and where the last reply is a foul that it
-- is one
abbrev pub answers_by : RuleKind → Grid → List Point → List Point → List Answer
answers_by rule b ps qs = map (λ p. Move p) ps ++ (if ends_with_foul rule b ps qs then Error OpponentFoul ∷ [] else [])

-- the answers in a game from node i at b against these replies
abbrev pub game_answers : RuleKind → List Node → ℕ → Grid → List Point → List Answer
game_answers rule t i b qs = answers_by rule b (attacks rule t i b qs) qs

-- the game is won with 1 to d attacks, or it is open, and fewer than d replies were given
abbrev pub IsWonWithin : ℕ → ℕ → End → Type 0
IsWonWithin d given (Won k) = (1 ≤ k) × (k ≤ d)
IsWonWithin d given Lost = ⊥
IsWonWithin d given Drawn = ⊥
IsWonWithin d given NoMove = ⊥
IsWonWithin d given Open = given < d
IsWonWithin d given IllegalReply = ⊥

-- How a held game goes that the command c begins at the state s, where these commands come later: the brain's answers are the
-- attacks of the table against the replies, one for one, and the game is won within the depth of the node, or still open.
pub record HeldGameGoesWell (s : State) (c : Command) (later : List Command) (g : Game) (i : ℕ) : Type 0 where
  pub first : Answer
  pub says : (brain_step s c).reaction ≡ Says first
  pub answers : first ∷ answers_to_replies (brain_step s c).next later
      ≡ game_answers g.rule s.held.table i (board_of g) (replies (brain_step s c).next later)
  pub won : IsWonWithin (depth s.held.table i) (length (replies (brain_step s c).next later))
      (game g.rule s.held.table i (board_of g) (replies (brain_step s c).next later))

-- Each held game goes well: whatever a brain that holds accepted roots was told before, and whatever it is told later.
abbrev pub HeldGamesGoWell : Type 0
HeldGamesGoWell =
    (held : HeldTable) → IsHeld held → (before : List Command) (c : Command) (later : List Command) (g : Game) (i : ℕ)
    → BeginsHeldGame (state_after (new_brain held) before) c g i
    → HeldGameGoesWell (state_after (new_brain held) before) c later g i

-- a held root leads to the node in the game, and the node is no deeper than the root
pub record IsLedTo (h : HeldTable) (g : Game) (i : ℕ) : Type 0 where
  pub root : HeldRoot
  pub held : Contains h.roots root
  pub leads : root_node g root ≡ Some i
  pub no_deeper : depth h.table i ≤ root_depth h.table root.root

-- the node that is followed in each held game is one to which a held root leads
abbrev pub HeldGamesAreLed : Type 0
HeldGamesAreLed =
    (held : HeldTable) → IsHeld held → (before : List Command) (c : Command) (g : Game) (i : ℕ)
    → BeginsHeldGame (state_after (new_brain held) before) c g i
    → IsLedTo (state_after (new_brain held) before).held g i

-- Each held game of a session over these bytes goes well, by whichever of its lines it begins.
abbrev pub SessionGoesWell : HeldTable → List ℕ → Type 0
SessionGoesWell held bytes =
    (before : List Command) (c : Command) (later : List Command) (g : Game) (i : ℕ) → commands bytes ≡ before ++ c ∷ later
    → BeginsHeldGame (state_after (new_brain held) before) c g i
    → HeldGameGoesWell (state_after (new_brain held) before) c later g i

-- the same for each table that is held and all bytes
abbrev pub SessionsGoWell : Type 0
SessionsGoWell = (held : HeldTable) → IsHeld held → (bytes : List ℕ) → SessionGoesWell held bytes

-- at the board of a held start, where the opponent is to move, none of its moves wins or draws
abbrev pub IsTight : RuleKind → Grid → Root → Type 0
IsTight rule b (Attack i) = Unit {0}
IsTight rule b (Defend a) = (q : Point) → LosesOr (outcome rule b q) (Unit {0})

-- the same of each held root
abbrev pub StartsAreTight : Type 0
StartsAreTight = (held : HeldTable) → IsHeld held → All (λ r. IsTight r.kind r.board r.root) held.roots

-- Replies in a game from b in which these attacks are played: before each an attack went on, and each is an empty point of the
-- board at its time.
abbrev pub AreReplies : RuleKind → Grid → List Point → List Point → Type 0
AreReplies rule b ps [] = Unit {0}
AreReplies rule b [] (q ∷ qs) = ⊥
AreReplies rule b (p ∷ ps) (q ∷ qs) = (outcome rule b p ≡ GoesOn) × (is_empty (after b p) q ≡ true)
    × AreReplies rule (after (after b p) q) ps qs

-- who answers by the table from node i at b on wins within d attacks, whatever legal replies come, or they have run out
abbrev pub WinsGames : RuleKind → List Node → ℕ → Grid → ℕ → Type 0
WinsGames rule t i b d = (qs : List Point) → AreReplies rule b (attacks rule t i b qs) qs → IsWonWithin d (length qs) (game rule t i b qs)

-- the start answers the move q at b by a node from which its side wins within d attacks
pub record AnswersAndWins (rule : RuleKind) (t : List Node) (a : Answers) (b : Grid) (q : Point) (d : ℕ) : Type 0 where
  pub node : ℕ
  pub answers : answer a q ≡ Some node
  pub wins : WinsGames rule t node (after b q) d

-- who answers by the root wins within its depth: from a node on, or after each move at a start that is no foul
abbrev pub RootWinsGames : RuleKind → List Node → Root → Grid → Type 0
RootWinsGames rule t (Attack i) b = WinsGames rule t i b (depth t i)
RootWinsGames rule t (Defend a) b =
    (q : Point) → is_empty b q ≡ true → (is_foul (outcome rule b q) ≡ true) ⊎ AnswersAndWins rule t a b q (start_depth t a)

-- Whoever holds an accepted table and answers by it wins within the number of its root, whatever legal replies come.
abbrev pub WhoeverHoldsWins : Type 0
WhoeverHoldsWins = (held : HeldTable) → IsHeld held → All (λ r. RootWinsGames r.kind held.table r.root r.board) held.roots

-- the lines TURN of these points
abbrev pub turns : List Point → List Command
turns qs = map (λ q. Turn q.x q.y) qs

-- Every list of legal replies that is sent to a brain in a held game is answered by the attacks of the table against them.
abbrev pub LegalRepliesAreAnswered : Type 0
LegalRepliesAreAnswered =
    (held : HeldTable) → IsHeld held → (before : List Command) (c : Command) (g : Game) (i : ℕ) (qs : List Point)
    → BeginsHeldGame (state_after (new_brain held) before) c g i
    → AreReplies g.rule (board_of g) (attacks g.rule held.table i (board_of g) qs) qs
    → answers_from (state_after (new_brain held) before) (c ∷ turns qs) ≡ game_answers g.rule held.table i (board_of g) qs
