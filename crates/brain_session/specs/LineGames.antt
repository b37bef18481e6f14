-- Held games that begin where a reader of the lines sees the position of a root: with the stones of BOARD, or with BEGIN.
use Rattle.std.specs.Prelude.{◌≡◌, ℕ, List, [], ◌∷◌, ◌++◌, length, Option, Some, None, All}
use Rattle.std.specs.Option.{option_map}
use Rattle.game_rules.specs.Grid.{Grid}
use Rattle.game_rules.specs.declared.Point.{Point}
use Rattle.strategy_graph.specs.declared.roots.Root.TheVariants.{Attack}
use Rattle.strategy_graph.specs.Tables.{depth}
use Rattle.strategy_graph.specs.Games.{attacks, game}
use Rattle.strategy_checker.specs.declared.held.HeldRoot.{HeldRoot}
use Rattle.strategy_checker.specs.HeldRoots.{HeldTable, IsHeld}
use Rattle.renju_io.specs.Lines.{whole_lines}
use Rattle.gomocup_text.specs.Commands.{commands}
use Rattle.gomocup_text.specs.declared.Command.{Command}
use Rattle.gomocup_text.specs.declared.Command.TheVariants.{Begin, Done}
use Rattle.gomocup_text.specs.declared.Answer.TheVariants.{Move}
use Rattle.brain_session.specs.States.{new_brain}
use Rattle.brain_session.specs.Steps.{rule_of}
use Rattle.brain_session.specs.Sessions.{answers_from, answer_texts, session_text}
use Rattle.brain_session.specs.Serving.{HasNoEnd}
use Rattle.brain_session.specs.HeldGames.{AreReplies, IsWonWithin, game_answers}
use Rattle.brain_session.specs.TurnLines.{turn_lines}
use Rattle.brain_session.specs.Drawings.{Drawing, drawn, drawn_board, exchanges, sent_board}

-- what is drawn of these lines, sent to a brain that holds this
abbrev pub drawing_of : HeldTable → List Command → Drawing
drawing_of held cs = drawn (exchanges (new_brain held) cs)

-- the position from which the line has the brain move in a new game, where it does: the stones that were sent at DONE, the board at BEGIN
abbrev pub begun_at : Drawing → Command → Option Grid
begun_at d Done = option_map (sent_board d.sent) d.sheet
begun_at d Begin = drawn_board d
begun_at d c = None

-- These bytes are whole lines, none of them END before the last, which is answered by a move; what is drawn before it shows that the brain
-- is then to move in a new game at the position of this held root, under its rule, and of none that is held before it.
pub record BeginsByLines (held : HeldTable) (front : List ℕ) (r : HeldRoot) : Type 0 where
  pub before : List Command
  pub line : Command
  pub whole : whole_lines front ≡ front
  pub are : commands front ≡ before ++ line ∷ []
  pub no_end : HasNoEnd before
  pub move : Point
  pub answered : answers_from (new_brain held) (before ++ line ∷ []) ≡ answers_from (new_brain held) before ++ Move move ∷ []
  pub position : begun_at (drawing_of held before) line ≡ Some r.board
  pub rule : rule_of (drawing_of held before).wish ≡ Some r.kind
  pub earlier : List HeldRoot
  pub later : List HeldRoot
  pub roots : held.roots ≡ earlier ++ r ∷ later
  pub first : All (λ e. e.kind ≡ r.kind → e.board ≡ r.board → ⊥) earlier

-- Who sends such lines to a brain that holds this, and legal replies behind them, gets the lines of the table's attacks against them,
-- one for one, byte for byte; and the game from the root's node is won within its depth, or the replies have run out.
abbrev pub LinesWin : HeldTable → Type 0
LinesWin held =
    (front : List ℕ) (r : HeldRoot) (i : ℕ) (qs : List Point) → (begins : BeginsByLines held front r) → r.root ≡ Attack i
    → AreReplies r.kind r.board (attacks r.kind held.table i r.board qs) qs
    → (session_text (new_brain held) (front ++ turn_lines qs)
    ≡ answer_texts (answers_from (new_brain held) begins.before) ++ answer_texts (game_answers r.kind held.table i r.board qs))
    × IsWonWithin (depth held.table i) (length qs) (game r.kind held.table i r.board qs)

-- the same of all that is held
abbrev pub HeldLinesWin : Type 0
HeldLinesWin = (held : HeldTable) → IsHeld held → LinesWin held
