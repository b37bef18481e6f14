-- From a position to the game by a held root that begins there.
use Rattle.std.specs.Prelude.{◌≡◌, ℕ, List, ◌∷◌, ◌++◌, Some, None, slice_get, All}
use Rattle.std.specs.Option.{option_map}
use Rattle.game_rules.specs.Grid.{Grid}
use Rattle.game_rules.specs.declared.Point.{Point}
use Rattle.strategy_graph.specs.declared.roots.Root.{Root}
use Rattle.strategy_graph.specs.declared.roots.Root.TheVariants.{Attack, Defend}
use Rattle.strategy_graph.specs.Tables.{answer}
use Rattle.strategy_checker.specs.declared.held.HeldRoot.{HeldRoot}
use Rattle.strategy_checker.specs.HeldRoots.{HeldTable, IsHeld}
use Rattle.gomocup_text.specs.declared.Command.{Command}
use Rattle.gomocup_text.specs.declared.Answer.TheVariants.{Move}
use Rattle.brain_session.specs.declared.Reaction.TheVariants.{Says}
use Rattle.brain_session.specs.States.{Game, board_after, board_of, State, new_brain}
use Rattle.brain_session.specs.ChosenMoves.{last_move, by_followed}
use Rattle.brain_session.specs.Steps.{Chooses, row_of, brain_step}
use Rattle.brain_session.specs.Sessions.{state_after}
use Rattle.brain_session.specs.HeldGames.{BeginsHeldGame}

-- the game has come to where a root is held at b: that is its board, or, where the opponent moves first, the board at which its last
-- move was made
abbrev pub IsThere : Root → Grid → Game → Type 0
IsThere (Attack i) b g = board_of g ≡ b
IsThere (Defend a) b g = (q : Point) × (before : List Point) × (g.moves ≡ q ∷ before) × (board_after g.start before ≡ b)

-- the node by which the root is followed there: its own, or the answer of the start to the last move
abbrev pub IsNodeOf : Root → Game → ℕ → Type 0
IsNodeOf (Attack i) g node = node ≡ i
IsNodeOf (Defend a) g node = (q : Point) × (last_move g.moves ≡ Some q) × (answer a q ≡ Some node)

-- the game has come to the held root, under its rule
pub record HasComeTo (r : HeldRoot) (g : Game) : Type 0 where
  pub rule : g.rule ≡ r.kind
  pub there : IsThere r.root r.board g

-- The command begins a held game by this root: the node of the root is followed, and its attack is the answer.
pub record BeginsByRoot (s : State) (c : Command) (g : Game) (r : HeldRoot) : Type 0 where
  pub node : ℕ
  pub is_its : IsNodeOf r.root g node
  pub begins : BeginsHeldGame s c g node
  pub attack : Point
  pub plays : option_map (λ n. n.attack) (slice_get s.held.table node) ≡ Some attack
  pub says : (brain_step s c).reaction ≡ Says (Move attack)

-- Where the brain is to choose its answer in a game, follows nothing there, and the game has come to a held root, and to none that is
-- held before it, a held game by this root begins, whatever came before.
abbrev pub RootsBegin : HeldTable → Type 0
RootsBegin held =
    (before : List Command) (c : Command) (g : Game) (earlier : List HeldRoot) (r : HeldRoot) (later : List HeldRoot)
    → held.roots ≡ earlier ++ r ∷ later → All (λ e. HasComeTo e g → ⊥) earlier
    → row_of (state_after (new_brain held) before) c ≡ Chooses g → by_followed held g ≡ None → HasComeTo r g
    → BeginsByRoot (state_after (new_brain held) before) c g r

-- the same of all that is held
abbrev pub RootsBeginGames : Type 0
RootsBeginGames = (held : HeldTable) → IsHeld held → RootsBegin held
