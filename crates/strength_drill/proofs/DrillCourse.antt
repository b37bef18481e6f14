-- A game of the drill as it goes: its first move by the table, the state of the brain after so many turns, and how the game ends.
use Rattle.std.proofs.Common.{◌≢◌, Some, None, ◌≡◌, refl, sym, ap, subst, ◌∙◌, ℕ, ◌≤◌, [], ◌∷◌}
use Rattle.std.proofs.Common.{arith, ◌⊎◌, inl, inr, ◌+◌, ◌<◌, Bool, true, false, add-one, rules}
use Rattle.std.proofs.lemmas.List.Sums.{count_by-le-length}
use Rattle.std.proofs.lemmas.Bool.{cases_lt}
use Rattle.strength_drill.proofs.Common.{Grid, empties_of, points_of, is_empty, IsPosition, mover, outcome, after, RuleKind, GoesOn, Point}
use Rattle.strength_drill.proofs.Common.{Attack, HeldTable, IsHeld, Done, Turn, Move, Error, OpponentFoul, Says, board_of, new_game, State}
use Rattle.strength_drill.proofs.Common.{new_brain, Step, brain_step, SIDE, wish_of, position_lines, told_all, state_begun, board_now}
use Rattle.strength_drill.proofs.Common.{is_ended, move_said, says_foul, drawn_move, drawn_turn, after_turns, IsGamePlayed, next_number}
use Rattle.strength_drill.proofs.Common.{drawn, number_after}
use Rattle.game_rules.specs.declared.Outcome.TheVariants.{Wins as WinsNow}
use Rattle.game_rules.proofs.Boards.{is_empty-on}
use Rattle.game_rules.proofs.Points.{points-found}
use Rattle.game_rules.proofs.PointLists.{found-either}
use Rattle.gomocup_text.specs.declared.Command.{Command as Asked}
use Rattle.brain_session.specs.declared.Reaction.{Reaction}
use Rattle.brain_session.proofs.HeldGames.{begins, stands_where}
use Rattle.brain_session.proofs.LawfulStates.{next-lawful, new-lawful}
use Rattle.brain_session.proofs.LegalMoves.{plain-is_empty}
use Rattle.brain_session.proofs.BatchStones.{stones_at}
use Rattle.strength_drill.proofs.DrillTelling.{batch_read, told-position, told-kept, wish-rule, begins-held}
use Rattle.strength_drill.proofs.DrillTurns.{IsPlaying, IsOver, IsFouled, IsAnswered, attacks, over-now, going-now, board-then, lawful-then}
use Rattle.strength_drill.proofs.DrillTurns.{reply-met}
use Rattle.strength_drill.proofs.DrillMaking.{number-next, number-none}

-- the brain has made its first move at b by the table that it holds there, and has said it
pub record IsOpened (h : HeldTable) (rule : RuleKind) (b : Grid) (step : Step) : Type 0 where
  pub playing : IsPlaying h rule step.next 0
  pub says : step.reaction ≡ Says (Move playing.node.attack)
  pub board : board_of playing.game ≡ b

-- a board of the drill has no more than 225 empty points
empties-few : (rule : RuleKind) (b : Grid) → IsPosition rule b → b.width ≡ SIDE → b.height ≡ SIDE → empties_of b ≤ 225
empties-few rule b lawful wide high = search (rules, count_by-le-length)

pub opened : (h : HeldTable) (rule : RuleKind) (b : Grid) (i : ℕ) → b.width ≡ SIDE → b.height ≡ SIDE → IsPosition rule b → IsHeld h
    → h.roots ≡ record { root = Attack i; kind = rule; board = b } ∷ []
    → IsOpened h rule b (brain_step (told_all (new_brain h) (position_lines rule b)) Done)
opened h rule b i wide high lawful held roots =
    let s = batch_read h (wish_of rule) (stones_at b (points_of b)) in
    let g = new_game rule b (mover b) in
    let is = told-position h rule b wide high in
    let kept = rw is at (told-kept h (new_brain h) (position_lines rule b) (new-lawful h)) in
    let held_game = begins-held h rule b wide high lawful i roots in
    let at = stands_where s Done g i held kept.0 held_game in
    let n = at.1 in
    let step = ap (λ (t : State). brain_step t Done) is ∙ begins s Done g i n held_game at.3.node in
    rw step (record {
      playing = record {
        wish = wish_of rule;
        game = g;
        i = i;
        node = n;
        more = at.0;
        state = refl;
        stands = at.3;
        rule_is = refl;
        supported = wish-rule rule;
        made = refl;
        few = let most = empties-few rule b lawful wide high in omega (arith, most);
        wide = wide;
        high = high;
      };
      says = refl;
      board = refl;
    })

-- ---- the same, as the calls say it

-- the brain was told the position
pub told-as : (h : HeldTable) (rule kind : RuleKind) (b board : Grid) (new told : State) → told ≡ told_all new (position_lines kind board)
    → new ≡ new_brain h → kind ≡ rule → board ≡ b → told ≡ told_all (new_brain h) (position_lines rule b)
told-as h rule kind b board new told lines begun same there = search rules

-- a brain that holds accepted roots after its first move held them before
pub opened-as : (h : HeldTable) (rule : RuleKind) (b : Grid) (told s : State) → b.width ≡ SIDE → b.height ≡ SIDE → IsPosition rule b
    → (i : ℕ) × (h.roots ≡ record { root = Attack i; kind = rule; board = b } ∷ []) → told ≡ told_all (new_brain h) (position_lines rule b)
    → s ≡ (brain_step told Done).next → IsHeld s.held → IsOpened h rule b (brain_step told Done)
opened-as h rule b told s wide high lawful root is next held =
    let kept = told-kept h (new_brain h) (position_lines rule b) (new-lawful h) in
    let still : s.held ≡ h = ap (λ (t : State). t.held) next ∙ (next-lawful h told Done (rw is kept)).1 in
    rw is (opened h rule b root.0 wide high lawful (rw still at held) root.1)

-- ---- a drawn move is at an empty point

pub drawn-empty : (rule : RuleKind) (b : Grid) → IsPosition rule b → (v : ℕ) → is_empty b (drawn_move b v) ≡ true
drawn-empty rule b lawful v = search (rules, plain-is_empty, found-either, points-found, is_empty-on)

-- ---- one more turn

turn-after : (s : State) (n k : ℕ) → after_turns s n (k + 1)
    ≡ (brain_step (after_turns s n k) (drawn_turn (board_now (after_turns s n k).place) (drawn (number_after n (k + 1))))).next
unfolding after_turns
turn-after s n k = rw add-one refl

pub turn-none : (s : State) (n : ℕ) → after_turns s n 0 ≡ s
unfolding after_turns
turn-none s n = refl

-- the line TURN of a point, by its coordinates
pub turn-as : (x y : ℕ) (q : Point) → x ≡ q.x → y ≡ q.y → Turn x y ≡ Turn q.x q.y
turn-as x y q across down = ap (λ (m : ℕ). let a : Asked = Turn m y in a) across ∙ ap (λ (m : ℕ). let a : Asked = Turn q.x m in a) down

-- the brain, which began with this at b, has made a move after so many turns, at the board c
pub record IsAtTurn (h : HeldTable) (rule : RuleKind) (b : Grid) (n : ℕ) (s : State) (number : ℕ) (c : Grid) (at : Point) (turns : ℕ) :
    Type 0 where
  pub playing : IsPlaying h rule s turns
  pub state : s ≡ after_turns (state_begun h rule b) n turns
  pub drawn : number ≡ number_after n turns
  pub no_sooner : (k : ℕ) → k < turns → is_ended (after_turns (state_begun h rule b) n k).place ≡ false
  pub board : c ≡ board_of playing.game
  pub move : at ≡ playing.node.attack

-- a turn at which the game went on, and those before it
no-later : (s : State) (n turns : ℕ) → ((k : ℕ) → k < turns → is_ended (after_turns s n k).place ≡ false)
    → is_ended (after_turns s n turns).place ≡ false → (k : ℕ) → k < turns + 1 → is_ended (after_turns s n k).place ≡ false
no-later s n turns before here k less = search (rules, cases_lt)

module _ (h : HeldTable) (rule : RuleKind) (b : Grid) (n : ℕ) where
  abbrev s0 : State
  s0 = state_begun h rule b

  -- the first move
  pub course-first : (step : Step) (s : State) (number : ℕ) (c : Grid) (at : Point) → step.next ≡ s0 → IsOpened h rule b step
      → s ≡ step.next → number ≡ n → c ≡ b → move_said step.reaction ≡ Some at → IsAtTurn h rule b n s number c at 0
  course-first step s number c at begun opened is same board says =
      let t : IsAtTurn h rule b n step.next n b opened.playing.node.attack 0 = record {
        playing = opened.playing;
        state = begun ∙ sym (turn-none s0 n);
        drawn = sym (number-none n);
        no_sooner = λ k less. absurd (omega arith);
        board = sym opened.board;
        move = refl;
      } in
      let said : move_said step.reaction ≡ Some opened.playing.node.attack = ap move_said opened.says in
      let move : opened.playing.node.attack ≡ at = cc in
      rw is (rw same (rw board (rw move at t)))

  module _ (s : State) (number : ℕ) (c : Grid) (at : Point) (turns : ℕ) (t : IsAtTurn h rule b n s number c at turns) where
    pub outcome-at : outcome rule c at ≡ outcome rule (board_of t.playing.game) t.playing.node.attack
    outcome-at = ap (λ (x : Grid). outcome rule x at) t.board ∙ ap (outcome rule (board_of t.playing.game)) t.move

    played : (turned moves u : ℕ) (e : State) → e ≡ after_turns s0 n turned → IsOver e moves
        → ((k : ℕ) → k < turned → is_ended (after_turns s0 n k).place ≡ false) → u ≡ number_after n turned → IsGamePlayed s0 n moves true u
    played turned moves u e state over no_sooner number_is = record {
      turns = turned;
      game = over.game;
      played = record { game = sym (ap (λ (x : State). x.place) state) ∙ over.place; ended = over.ended; no_sooner = no_sooner };
      moves_made = sym over.made;
      ends = sym over.won;
      number = number_is;
    }

    -- its move wins
    pub course-won : outcome rule c at ≡ WinsNow → IsGamePlayed s0 n (turns + 1) true number
    course-won wins = played turns (turns + 1) number s t.state (over-now h rule s turns t.playing (sym outcome-at ∙ wins)) t.no_sooner
        t.drawn

    -- it wins or goes on
    pub course-one : outcome rule c at ≢ WinsNow → outcome rule c at ≢ GoesOn → ⊥
    course-one not_won not_on = search (rules, attacks, outcome-at)

    -- its move goes on, and the opponent's is drawn
    module _ (on : outcome rule c at ≡ GoesOn) (c1 : Grid) (board : c1 ≡ after c at) (u v : ℕ) (next : u ≡ next_number number)
        (draw : v ≡ drawn u) (q : Point) (point : q ≡ drawn_move c1 v) where
      goes : outcome rule (board_of t.playing.game) t.playing.node.attack ≡ GoesOn
      goes = sym outcome-at ∙ on

      then_board : c1 ≡ after (board_of t.playing.game) t.playing.node.attack
      then_board = board ∙ ap (λ (x : Grid). after x at) t.board ∙ ap (after (board_of t.playing.game)) t.move

      pub course-empty : is_empty c1 q ≡ true
      course-empty =
          let lawful = rw (← then_board) at (lawful-then h rule s turns t.playing goes) in
          ap (is_empty c1) point ∙ drawn-empty rule c1 lawful v

      number_then : u ≡ number_after n (turns + 1)
      number_then = next ∙ ap next_number t.drawn ∙ sym (number-next n turns)

      -- the TURN is that of the definition
      turn_is : drawn_turn (board_now s.place) (drawn (number_after n (turns + 1))) ≡ Turn q.x q.y
      turn_is =
          let shown : board_now s.place ≡ c1 = board-then h rule s turns t.playing goes ∙ sym then_board in
          ap (λ (x : Grid). drawn_turn x (drawn (number_after n (turns + 1)))) shown
          ∙ ap (drawn_turn c1) (ap drawn (sym number_then) ∙ sym draw) ∙ ap (λ (x : Point). let a : Asked = Turn x.x x.y in a) (sym point)

      pub then_state : (brain_step s (Turn q.x q.y)).next ≡ after_turns s0 n (turns + 1)
      then_state = ap (λ (a : Asked). (brain_step s a).next) (sym turn_is)
          ∙ ap (λ (x : State). (brain_step x (drawn_turn (board_now x.place) (drawn (number_after n (turns + 1))))).next) t.state
          ∙ sym (turn-after s0 n turns)

      then_sooner : (k : ℕ) → k < turns + 1 → is_ended (after_turns s0 n k).place ≡ false
      then_sooner = no-later s0 n turns t.no_sooner (rw t.state at (going-now h rule s turns t.playing goes))

      pub met : IsFouled (brain_step s (Turn q.x q.y)) (turns + 1) ⊎ IsAnswered h rule c1 q (brain_step s (Turn q.x q.y)) (turns + 1)
      met = rw then_board (reply-met h rule s turns t.playing goes q (rw then_board at course-empty))

      module _ (s1 : State) (r : Reaction) (state : s1 ≡ (brain_step s (Turn q.x q.y)).next)
          (reaction : r ≡ (brain_step s (Turn q.x q.y)).reaction) where
        -- what the brain says where the opponent's move is a foul, and where it answers it
        foul-said : (brain_step s (Turn q.x q.y)).reaction ≡ Says (Error OpponentFoul) → (move_said r ≡ None) × (says_foul r ≡ true)
        foul-said says = (ap move_said (reaction ∙ says), ap says_foul (reaction ∙ says))

        answer-said : (p : Point) → (brain_step s (Turn q.x q.y)).reaction ≡ Says (Move p) → move_said r ≡ Some p
        answer-said p says = ap move_said (reaction ∙ says)

        -- it says no move: the opponent's is a foul
        pub course-ended : move_said r ≡ None → IsGamePlayed s0 n (turns + 1) (says_foul r) u
        course-ended is = elim met [
          | inl foul ↦ subst (λ (won : Bool). IsGamePlayed s0 n (turns + 1) won u) (sym (foul-said foul.says).1)
              (played (turns + 1) (turns + 1) u (brain_step s (Turn q.x q.y)).next then_state foul.over then_sooner number_then)
          | inr answer ↦ let said = answer-said answer.playing.node.attack answer.says in absurd (cc)
        ]

        -- it says one
        pub course-next : (p : Point) → move_said r ≡ Some p → IsAtTurn h rule b n s1 u (after c1 q) p (turns + 1)
        course-next p is = elim met [
          | inl foul ↦ let said = (foul-said foul.says).0 in absurd (cc)
          | inr answer ↦
              let said = answer-said answer.playing.node.attack answer.says in
              let move : answer.playing.node.attack ≡ p = cc in
              subst (λ (x : State). IsAtTurn h rule b n x u (after c1 q) p (turns + 1)) (sym state) (record {
                playing = answer.playing;
                state = then_state;
                drawn = number_then;
                no_sooner = then_sooner;
                board = sym answer.board;
                move = sym move;
              })
        ]

        pub course-on : (p : Point) → move_said r ≡ Some p → outcome rule c1 q ≡ GoesOn
        course-on p is = elim met [ inl foul ↦ let said = (foul-said foul.says).0 in absurd (cc) | inr answer ↦ answer.on ]
