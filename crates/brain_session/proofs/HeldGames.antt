-- Held games go well: from the command that begins one, the answers to the replies are the attacks of the table.
use Rattle.std.proofs.Common.{rules, ◌≡◌, ℕ, suc, List, ◌∷◌, get_or, length, refl, sym, ap, subst, Some, None, slice_get}
use Rattle.std.proofs.lemmas.List.Elements.{All-contains}
use Rattle.brain_session.proofs.Common.{Grid, RuleKind, Node, Root, depth_within, depth, Accepted, AcceptedRoot, game, HeldTable, IsHeld}
use Rattle.brain_session.proofs.Common.{Command, Move, Says, Game, board_of, State, new_brain, chosen, chosen_anew, by_followed, first_node}
use Rattle.brain_session.proofs.Common.{Step, with_choice, brain_step, state_after, BeginsHeldGame, IsLedTo, HeldGameGoesWell}
use Rattle.brain_session.proofs.Common.{HeldGamesGoWell, HeldGamesAreLed, SessionsGoWell, IsTight, StartsAreTight, replies}
use Rattle.brain_session.proofs.Common.{answers_to_replies, game_answers, IsWonWithin, GoesOnAlong}
use Rattle.game_rules.proofs.Outcomes.{tight}
use Rattle.strategy_graph.proofs.Fuel.{accepted_node}
use Rattle.brain_session.proofs.HeldNodes.{first-led, root-accepted, root-no_deeper}
use Rattle.brain_session.proofs.HeldSteps.{GoesBy, by_node, StandsIn, held-go_well}
use Rattle.brain_session.proofs.SessionGames.{along-lawful}
use Rattle.brain_session.proofs.LawfulStates.{LawfulState, IsToMove, LawfulRow, row-lawful, session-lawful, new-lawful}
use Rattle.brain_session.proofs.FollowedGames.{state_in}

-- a held root that leads to a node in the game, where the moves went on: the node is accepted, and no deeper than the root
held_led : (h : HeldTable) (g : Game) (i : ℕ) → IsHeld h → first_node g h.roots ≡ Some i → GoesOnAlong g.rule g.start g.moves
    → Accepted g.rule h.table i (board_of g) × IsLedTo h g i
held_led h g i held leads along = search (rules, first-led, All-contains, root-accepted, root-no_deeper)

-- ---- the game from there

chosen_held : (h : HeldTable) (g : Game) (i : ℕ) (n : Node) → by_followed h g ≡ None → first_node g h.roots ≡ Some i
    → slice_get h.table i ≡ Some n → chosen h g ≡ by_node i n
unfolding chosen chosen_anew
chosen_held h g i n none leads at = rw (none, leads, at) refl

-- the step at the command that begins a held game
pub begins : (s : State) (c : Command) (g : Game) (i : ℕ) (n : Node) → BeginsHeldGame s c g i → slice_get s.held.table i ≡ Some n
    → brain_step s c ≡ record { reaction = Says (Move n.attack); next = state_in s.held s.wish (with_choice g (by_node i n)) }
begins s c g i n b at = search (rules, state_in, chosen_held)

-- where a held game begins, its node stands in the game
pub stands_where : (s : State) (c : Command) (g : Game) (i : ℕ) → IsHeld s.held → LawfulState s → BeginsHeldGame s c g i
    → (k : ℕ) × (n : Node) × (suc i ≡ suc k) × StandsIn s.held g i n k
stands_where s c g i held lawful b =
    let to_move : IsToMove g = subst (LawfulRow s.held) b.chooses (row-lawful s c lawful) in
    let node = accepted_node g.rule s.held.table i (board_of g) (suc i) (held_led s.held g i held b.leads to_move.along).0 in (
      node.0,
      node.1,
      node.2,
      record { node = node.3; wins = node.4; lawful = along-lawful g.rule g.start g.moves to_move.along; turn = to_move.turn },
    )

held_game : (s : State) (c : Command) (later : List Command) (g : Game) (i : ℕ) → IsHeld s.held → LawfulState s → BeginsHeldGame s c g i
    → HeldGameGoesWell s c later g i
held_game s c later g i held lawful b =
    let at = stands_where s c g i held lawful b in
    let n = at.1 in
    let step = begins s c g i n b at.3.node in
    let then = state_in s.held s.wish (with_choice g (by_node i n)) in
    let goes : GoesBy g.rule s.held.table
    (depth s.held.table i) i (board_of g) n.attack (replies then later) (answers_to_replies then later) =
    subst (λ (d : ℕ). GoesBy g.rule s.held.table (depth_within d s.held.table i) i (board_of g) n.attack (replies then later)
    (answers_to_replies then later)) (sym at.2) (held-go_well s.held later at.0 s.wish g i n at.3) in
    record {
      first = Move n.attack;
      says = ap (λ (st : Step). st.reaction) step;
      answers = subst (λ (st : Step). Move n.attack ∷ answers_to_replies st.next later ≡ game_answers g.rule s.held.table i (board_of g)
          (replies st.next later)) (sym step) goes.answers;
      won = subst (λ (st : Step). IsWonWithin (depth s.held.table i) (length (replies st.next later))
          (game g.rule s.held.table i (board_of g) (replies st.next later))) (sym step) goes.won;
    }

pub held-games-go_well : HeldGamesGoWell
held-games-go_well held is_held before c later g i b =
    let kept = session-lawful held (new_brain held) before (new-lawful held) in
    held_game (state_after (new_brain held) before) c later g i (subst IsHeld (sym kept.1) is_held) kept.0 b

pub held-games-led : HeldGamesAreLed
held-games-led held is_held before c g i b =
    let s = state_after (new_brain held) before in
    let kept = session-lawful held (new_brain held) before (new-lawful held) in
    let to_move : IsToMove g = subst (LawfulRow s.held) b.chooses (row-lawful s c kept.0) in
    (held_led s.held g i (subst IsHeld (sym kept.1) is_held) b.leads to_move.along).1

pub sessions-go_well : SessionsGoWell
sessions-go_well held is_held bytes before c later g i e b = held-games-go_well held is_held before c later g i b

-- ---- starts

root_tight : (t : List Node) (rule : RuleKind) (b : Grid) (root : Root) → AcceptedRoot rule t root b → IsTight rule b root
root_tight t rule b root h = search (rules, tight)

pub starts-are_tight : StartsAreTight
starts-are_tight held h = λ k d lt. let r = get_or held.roots k d in root_tight held.table r.kind r.board r.root (h.roots k d lt).accepted
