-- A game of the drill, move by move: what the state of the brain says once it made a move by the held table, and after each TURN.
use Rattle.std.proofs.Common.{◌≡◌, ◌⊎◌, inl, inr, refl, sym, ap, ◌∙◌, ℕ, ◌+◌, ◌*◌, ◌≤◌, Bool, true, false}
use Rattle.std.proofs.Common.{cond, not, ◌∷◌, arith, Some, IsSomeAnd, rules}
use Rattle.strength_drill.proofs.Common.{Grid, is_empty, empties_of, IsPosition, outcome, mover, after, goes_on, RuleKind, Outcome, GoesOn}
use Rattle.strength_drill.proofs.Common.{Point, Node, HeldTable, Turn, Move, Error, OpponentFoul, Says, Game, board_of, InGame, State, Step}
use Rattle.strength_drill.proofs.Common.{rule_of, brain_step, SIDE, board_now, is_ended, moves_by, moves_of_brain, is_won}
use Rattle.game_rules.proofs.Common.{is_foul, is_win, LosesOr}
use Rattle.game_rules.specs.declared.Foul.{Foul}
use Rattle.game_rules.specs.declared.Side.{Side}
use Rattle.game_rules.specs.declared.Outcome.TheVariants.{Refused, Wins as WinsNow, Fouls, Draws}
use Rattle.game_rules.proofs.Boards.{empties_of-put}
use Rattle.game_rules.proofs.Positions.{GoesOn-empty}
use Rattle.game_rules.proofs.Outcomes.{moved, wins_or_goes_on}
use Rattle.strategy_graph.proofs.Common.{answers_of, answer, AcceptedWithin}
use Rattle.strategy_graph.proofs.Answering.{IsSomeAnd-elim}
use Rattle.brain_session.specs.ChosenMoves.{Choice}
use Rattle.brain_session.specs.Steps.{same_side, with_move, move_row, with_choice, step_by}
use Rattle.brain_session.proofs.HeldSteps.{by_node, StandsIn, row_then, next_stands, lawful_then, turn_then, parts}
use Rattle.brain_session.proofs.FollowedGames.{other_side, state_in}

-- The brain, which holds this, has made a move by the table in a game under the rule, with so many of its moves before; a game on a
-- board of the drill has room for no more than its points.
pub record IsPlaying (h : HeldTable) (rule : RuleKind) (s : State) (turns : ℕ) : Type 0 where
  pub wish : ℕ
  pub game : Game
  pub i : ℕ
  pub node : Node
  pub more : ℕ
  pub state : s ≡ state_in h wish (with_choice game (by_node i node))
  pub stands : StandsIn h game i node more
  pub rule_is : game.rule ≡ rule
  pub supported : rule_of wish ≡ Some rule
  pub made : moves_by game.brain game.start game.moves ≡ turns
  pub few : empties_of (board_of game) + 2 * turns ≤ 225
  pub wide : (board_of game).width ≡ SIDE
  pub high : (board_of game).height ≡ SIDE

-- the game in the state is ended and won, with so many moves of the brain
pub record IsOver (s : State) (moves : ℕ) : Type 0 where
  pub game : Game
  pub place : s.place ≡ InGame game
  pub ended : game.ended ≡ true
  pub won : is_won game ≡ true
  pub made : moves_of_brain game ≡ moves

own-turn : (t s : Side) → t ≡ s → same_side t s ≡ true
own-turn t s e = search rules

-- what comes of a TURN at q: a foul, with which the game is over, or the brain's next move
pub record IsFouled (step : Step) (moves : ℕ) : Type 0 where
  pub says : step.reaction ≡ Says (Error OpponentFoul)
  pub over : IsOver step.next moves

pub record IsAnswered (h : HeldTable) (rule : RuleKind) (b : Grid) (q : Point) (step : Step) (moves : ℕ) : Type 0 where
  pub on : outcome rule b q ≡ GoesOn
  pub playing : IsPlaying h rule step.next moves
  pub says : step.reaction ≡ Says (Move playing.node.attack)
  pub board : board_of playing.game ≡ after b q

module _ (h : HeldTable) (rule : RuleKind) (s : State) (turns : ℕ) (p : IsPlaying h rule s turns) where
  abbrev pub board_before : Grid
  board_before = board_of p.game

  -- the game after the brain's move
  abbrev pub game_now : Game
  game_now = with_choice p.game (by_node p.i p.node)

  pub attacks : (outcome rule board_before p.node.attack ≡ WinsNow) ⊎ (outcome rule board_before p.node.attack ≡ GoesOn)
  attacks = wins_or_goes_on (outcome rule board_before p.node.attack) _ (rw p.rule_is at p.stands.wins)

  here : (o : Outcome) → outcome rule board_before p.node.attack ≡ o → outcome p.game.rule board_before p.node.attack ≡ o
  here o e = ap (λ (r : RuleKind). outcome r board_before p.node.attack) p.rule_is ∙ e

  placed-now : s.place ≡ InGame game_now
  placed-now = ap (λ (t : State). t.place) p.state

  -- ---- the brain's move wins
  pub over-now : outcome rule board_before p.node.attack ≡ WinsNow → IsOver s (turns + 1)
  over-now e = search (rules, own-turn, placed-now)

  pub ended-now : outcome rule board_before p.node.attack ≡ WinsNow → is_ended s.place ≡ true
  ended-now e = ap is_ended placed-now ∙ ap (λ (o : Outcome). not (goes_on o)) (here WinsNow e)

  -- ---- the brain's move goes on
  module _ (on : outcome rule board_before p.node.attack ≡ GoesOn) where
    pub going-now : is_ended s.place ≡ false
    going-now = ap is_ended placed-now ∙ ap (λ (o : Outcome). not (goes_on o)) (here GoesOn on)

    pub board-then : board_now s.place ≡ after board_before p.node.attack
    board-then = ap board_now placed-now

    pub lawful-then : IsPosition rule (after board_before p.node.attack)
    lawful-then = rw p.rule_is at (lawful_then h p.game p.i p.node p.more p.stands (here GoesOn on))

    -- a move of the opponent
    module _ (q : Point) (empty : is_empty (after board_before p.node.attack) q ≡ true) where
      abbrev there : Outcome
      there = outcome p.game.rule (after board_before p.node.attack) q

      abbrev now : State
      now = state_in h p.wish game_now

      step-then : (o : Outcome) → there ≡ o → brain_step s (Turn q.x q.y) ≡ step_by now (move_row now game_now q o)
      step-then o e = search (rules, row_then)

      opponent-turn : same_side (mover (after board_before p.node.attack)) p.game.brain ≡ false
      opponent-turn = search (rules, other_side, turn_then)

      made-then : moves_by p.game.brain p.game.start (q ∷ p.node.attack ∷ p.game.moves) ≡ turns + 1
      made-then = search (rules, opponent-turn, own-turn)

      fouled : (f : Foul) → there ≡ Fouls f → IsFouled (brain_step s (Turn q.x q.y)) (turns + 1)
      fouled f e = rw (step-then (Fouls f) e) (record {
        says = refl;
        over = record {
          game = with_move game_now q true;
          place = refl;
          ended = refl;
          won = ap (λ (r : Bool). cond r (is_win there) (is_foul there)) opponent-turn ∙ ap is_foul e;
          made = made-then;
        };
      })

      answered : there ≡ GoesOn → (j : ℕ) → answer (answers_of p.node) q ≡ Some j
          → AcceptedWithin p.more p.game.rule h.table j (after (after board_before p.node.attack) q)
          → IsAnswered h rule (after board_before p.node.attack) q (brain_step s (Turn q.x q.y)) (turns + 1)
      answered e j reply accepted =
          let g2 = with_move game_now q false in
          let next = next_stands h p.game p.i p.node p.more p.stands (here GoesOn on) q e j reply accepted in
          let fewer = empties_of-put board_before
          (mover board_before) p.node.attack p.stands.lawful.board (GoesOn-empty rule board_before p.node.attack on) in
          let fewer_still =
          empties_of-put (after board_before p.node.attack) (mover (after board_before p.node.attack)) q lawful-then.board empty in
          let few = p.few in
          rw (step-then GoesOn e ∙ ap
          (λ (c : Choice). let t : Step = record { reaction = Says (Move c.at); next = state_in h p.wish (with_choice g2 c) } in t)
          next.chooses) (record {
            on = ap (λ (r : RuleKind). outcome r (after board_before p.node.attack) q) (sym p.rule_is) ∙ e;
            playing = record {
              wish = p.wish;
              game = g2;
              i = j;
              node = next.node;
              more = next.more;
              state = refl;
              stands = next.stands;
              rule_is = p.rule_is;
              supported = p.supported;
              made = made-then;
              few = omega (arith, fewer, fewer_still, few);
              wide = p.wide;
              high = p.high;
            };
            says = refl;
            board = refl;
          })

      -- one of the two comes
      pub reply-met : IsFouled (brain_step s (Turn q.x q.y)) (turns + 1) ⊎ IsAnswered h rule (after board_before p.node.attack) q
          (brain_step s (Turn q.x q.y)) (turns + 1)
      reply-met = by_outcome there refl ((parts h p.game p.i p.node p.more p.stands (here GoesOn on)).1 q) where
        by_outcome : (o : Outcome) → there ≡ o → LosesOr o (IsSomeAnd (answer (answers_of p.node) q)
            (λ j. AcceptedWithin p.more p.game.rule h.table j (after (after board_before p.node.attack) q)))
            → IsFouled (brain_step s (Turn q.x q.y)) (turns + 1) ⊎ IsAnswered h rule (after board_before p.node.attack) q
            (brain_step s (Turn q.x q.y)) (turns + 1)
        by_outcome Refused e met = absurd (moved p.game.rule (after board_before p.node.attack) q empty e)
        by_outcome WinsNow e met = absurd met
        by_outcome (Fouls f) e met = inl (fouled f e)
        by_outcome Draws e met = absurd met
        by_outcome GoesOn e met = inr (IsSomeAnd-elim (answer (answers_of p.node) q) _ _ (answered e) met)
