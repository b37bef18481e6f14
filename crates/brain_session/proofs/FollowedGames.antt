-- A game in which something is followed, a held node or a win of the brain's own: what each later command does to it.
use Rattle.std.proofs.Common.{◌≡◌, ℕ, suc, ◌<◌, Bool, true, false, cond, List, [], ◌∷◌, refl, sym, ap, subst, ◌∙◌, Option, Some, None}
use Rattle.std.proofs.Common.{is_some, rules}
use Rattle.brain_session.proofs.Common.{Grid, is_empty, outcome, after, IsPosition, mover, other, WinsOr, LosesOr, RuleKind, Foul, Outcome}
use Rattle.brain_session.proofs.Common.{Refused, Fouls, Draws, GoesOn, Point, Side, one_later, HeldTable, Answer, Move, Error, ErrorText}
use Rattle.brain_session.proofs.Common.{OpponentFoul, UnsupportedRule, GameOver, BadMove, Command, Start, RectStart, Turn, Board, Restart}
use Rattle.brain_session.proofs.Common.{Takeback, Rule, Says, Game, board_of, point_at, InGame, State, Choice, chosen, Row, Chooses, fails}
use Rattle.brain_session.proofs.Common.{rule_of, if_supported, same_side, with_move, end_row, move_row, row_of, with_choice, step_by}
use Rattle.brain_session.proofs.Common.{ends_with_foul, IsWonWithin, is_no_reply, then_replies, replies, then_answers_to}
use Rattle.brain_session.proofs.Common.{answers_to_replies, turns, answers_from, then_answers}
use Rattle.game_rules.proofs.Outcomes.{moved}
use Rattle.game_rules.specs.declared.Outcome.TheVariants.{Wins as WinsNow}
use Rattle.game_rules.proofs.Positions.{mover-then}
use Rattle.strategy_graph.proofs.Common.{End}
use Rattle.gomocup_text.specs.declared.Command.TheVariants.{End as EndCommand}
use Rattle.brain_session.proofs.SessionLaws.{answers-none}

-- the state in which this game goes on, with this wish and no batch
abbrev pub state_in : HeldTable → ℕ → Game → State
state_in h w g = record { wish = w; held = h; place = InGame g; batch = None }

-- the game after the choice of the brain and the reply q, with which it goes on
abbrev pub game_then : Game → Choice → Point → Game
game_then g c q = with_move (with_choice g c) q false

-- ---- the answers and the end of a game, whatever it is that is followed

pub no_foul-left : (rule : RuleKind) (b : Grid) (ps : List Point) → ends_with_foul rule b ps [] ≡ false
no_foul-left rule b [] = refl
no_foul-left rule b (p ∷ ps) = refl

-- where the reply q goes on, the last reply is a foul if it is one of those after q
pub foul-later : (rule : RuleKind) (b : Grid) (p q : Point) (ps qs : List Point) → outcome rule (after b p) q ≡ GoesOn
    → ends_with_foul rule b (p ∷ ps) (q ∷ qs) ≡ ends_with_foul rule (after (after b p) q) ps qs
foul-later rule b p q ps qs e = search (rules, no_foul-left)

pub won-later : (e d n : ℕ) (end : End) → e < d → IsWonWithin e n end → IsWonWithin d (suc n) (one_later end)
won-later e d n end less h = search rules

-- ---- a command by its row

replies-by : (s : State) (c : Command) (cs : List Command) (r : Row) → row_of s c ≡ r
    → replies s (c ∷ cs) ≡ then_replies c (step_by s r).reaction (replies (step_by s r).next cs)
unfolding replies
replies-by s c cs r e = rw e refl

answers-by : (s : State) (c : Command) (cs : List Command) (r : Row) → row_of s c ≡ r
    → answers_to_replies s (c ∷ cs) ≡ then_answers_to c (step_by s r).reaction (answers_to_replies (step_by s r).next cs)
unfolding answers_to_replies
answers-by s c cs r e = rw e refl

answers-row : (s : State) (c : Command) (cs : List Command) (r : Row) → row_of s c ≡ r
    → answers_from s (c ∷ cs) ≡ then_answers (step_by s r).reaction (answers_from (step_by s r).next cs)
unfolding answers_from
answers-row s c cs r e = rw e refl

-- the rule of a wish that is supported
rule_by : (w : ℕ) → is_some (rule_of w) ≡ true → (rule : RuleKind) × (rule_of w ≡ Some rule)
rule_by w h = search rules

-- ---- an ended game: no reply is left

turn_ended : (h : HeldTable) (w : ℕ) (g : Game) (x y : ℕ) → g.ended ≡ true
    → row_of (state_in h w g) (Turn x y) ≡ fails GameOver (state_in h w g)
unfolding row_of
turn_ended h w g x y e = rw e refl

module _ (h : HeldTable) (g : Game) (e : g.ended ≡ true) where
  none_left : (w : ℕ) (cs : List Command) → (replies (state_in h w g) cs ≡ []) × (answers_to_replies (state_in h w g) cs ≡ [])
  unfolding replies answers_to_replies row_of
  none_left w [] = (refl, refl)
  none_left w (Turn x y ∷ cs) = search (rules, turn_ended, replies-by, answers-by, none_left w cs)
  none_left w (Start n ∷ cs) = (refl, refl)
  none_left w (RectStart n m ∷ cs) = (refl, refl)
  none_left w (Board ∷ cs) = (refl, refl)
  none_left w (Restart ∷ cs) = (refl, refl)
  none_left w (Takeback x y ∷ cs) = (refl, refl)
  none_left w (EndCommand ∷ cs) = (refl, refl)
  none_left w (Rule v ∷ cs) = none_left v cs
  none_left w (_ ∷ cs) = none_left w cs

-- ---- a TURN in a game that goes on

-- the other side is not the same
pub other_side : (s t : Side) → t ≡ other s → same_side t s ≡ false
other_side s t e = search rules

pub turn_going : (h : HeldTable) (w : ℕ) (g : Game) (x y : ℕ) → g.ended ≡ false → mover (board_of g) ≡ other g.brain
    → row_of (state_in h w g) (Turn x y) ≡ if_supported (rule_of w) (state_in h w g) (λ rule. move_row (state_in h w g) g (point_at x y)
    (outcome g.rule (board_of g) (point_at x y)))
unfolding row_of
turn_going h w g x y e m = let f = other_side g.brain (mover (board_of g)) m in rw (e, f) refl

-- ---- what is followed

-- In the game g, to which the opponent replied q after the choice by x, the choice by another is made, which stands there; and what
-- goes well from there goes well with the reply and the move before it. Later replies are legal there where they are with this one.
pub record IsNextTo (h : HeldTable) (X : Type 0) (choice : X → Choice) (Stands : X → Game → Type 0)
    (Legal : X → Game → List Point → Type 0) (Goes : X → Game → List Point → List Answer → Type 0) (x : X) (g : Game) (q : Point) :
    Type 0 where
  pub next : X
  pub stands : Stands next (game_then g (choice x) q)
  pub chooses : chosen h (game_then g (choice x) q) ≡ choice next
  pub more : (qs : List Point) (said : List Answer) → Goes next (game_then g (choice x) q) qs said
      → Goes x g (q ∷ qs) (Move (choice next).at ∷ said)
  pub legal : (qs : List Point) → Legal x g (q ∷ qs) → Legal next (game_then g (choice x) q) qs

-- What is followed may be told by an X: where it stands in a game, the brain is to move in a lawful position, and the move of its
-- choice wins or goes on; with no reply the game goes well, and with a reply that fouls; no reply wins or draws, and where one goes
-- on the next choice is made. A legal reply is an empty point after a move that goes on, and the last one if it fouls.
pub record IsFollowed (h : HeldTable) (X : Type 0) (choice : X → Choice) (Stands : X → Game → Type 0)
    (Legal : X → Game → List Point → Type 0) (Goes : X → Game → List Point → List Answer → Type 0) : Type 0 where
  pub lawful : (x : X) (g : Game) → Stands x g → IsPosition g.rule (board_of g)
  pub turn : (x : X) (g : Game) → Stands x g → mover (board_of g) ≡ g.brain
  pub wins : (x : X) (g : Game) → Stands x g → WinsOr (outcome g.rule (board_of g) (choice x).at) (Unit {0})
  pub none : (x : X) (g : Game) → Stands x g → Goes x g [] []
  pub fouls : (x : X) (g : Game) → Stands x g → outcome g.rule (board_of g) (choice x).at ≡ GoesOn → (q : Point) (f : Foul)
      → outcome g.rule (after (board_of g) (choice x).at) q ≡ Fouls f → Goes x g (q ∷ []) (Error OpponentFoul ∷ [])
  pub replied : (x : X) (g : Game) → Stands x g → outcome g.rule (board_of g) (choice x).at ≡ GoesOn → (q : Point)
      → LosesOr (outcome g.rule (after (board_of g) (choice x).at) q) (IsNextTo h X choice Stands Legal Goes x g q)
  pub legal_first : (x : X) (g : Game) → Stands x g → (q : Point) (qs : List Point) → Legal x g (q ∷ qs)
      → (outcome g.rule (board_of g) (choice x).at ≡ GoesOn) × (is_empty (after (board_of g) (choice x).at) q ≡ true)
  pub legal_foul : (x : X) (g : Game) → Stands x g → outcome g.rule (board_of g) (choice x).at ≡ GoesOn → (q : Point) (f : Foul)
      → outcome g.rule (after (board_of g) (choice x).at) q ≡ Fouls f → (qs : List Point) → Legal x g (q ∷ qs) → qs ≡ []

-- ---- all later commands

module _ (h : HeldTable) (X : Type 0) (choice : X → Choice) (Stands : X → Game → Type 0) (Legal : X → Game → List Point → Type 0)
    (Goes : X → Game → List Point → List Answer → Type 0)
    (followed : IsFollowed h X choice Stands Legal Goes) where
  -- the state after the choice by x in the game
  abbrev then_state : ℕ → X → Game → State
  then_state w x g = state_in h w (with_choice g (choice x))

  -- the replies among these commands and the answers to them go well
  abbrev GoesOver : ℕ → X → Game → List Command → Type 0
  GoesOver w x g cs = Goes x g (replies (then_state w x g) cs) (answers_to_replies (then_state w x g) cs)

  abbrev AllGoWell : List Command → Type 0
  AllGoWell cs = (w : ℕ) (x : X) (g : Game) → Stands x g → GoesOver w x g cs

  goes-same : (x : X) (g : Game) (rs ps : List Point) (said heard : List Answer) → rs ≡ ps → said ≡ heard → Goes x g ps heard
      → Goes x g rs said
  goes-same x g rs ps said heard e f k = rw (e, f) k

  -- where the move wins no later command changes anything
  ended_goes : (w : ℕ) (x : X) (g : Game) (cs : List Command) → Stands x g → outcome g.rule (board_of g) (choice x).at ≡ WinsNow
      → GoesOver w x g cs
  ended_goes w x g cs stands e = search (rules, none_left, goes-same)

  module _ (x : X) (g : Game) (stands : Stands x g) (on : outcome g.rule (board_of g) (choice x).at ≡ GoesOn) where
    -- a TURN that is no reply changes nothing
    no_reply : (w a b : ℕ) (cs : List Command) (e : ErrorText) → is_no_reply (Says (Error e)) ≡ true
        → row_of (then_state w x g) (Turn a b) ≡ fails e (then_state w x g) → GoesOver w x g cs → GoesOver w x g (Turn a b ∷ cs)
    no_reply w a b cs e none row later =
        let s = then_state w x g in
        goes-same x g _ _ _ _
        (replies-by s (Turn a b) cs _ row ∙ ap (λ (r : Bool). cond r (replies s cs) (point_at a b ∷ replies s cs)) none)
        (answers-by s (Turn a b) cs _ row ∙ ap (λ (r : Bool). cond r (answers_to_replies s cs) (Error e ∷ answers_to_replies s cs)) none)
        later

    -- a reply that fouls ends the game
    foul_reply : (w a b : ℕ) (cs : List Command) (f : Foul) → outcome g.rule (after (board_of g) (choice x).at) (point_at a b) ≡ Fouls f
        → row_of (then_state w x g) (Turn a b) ≡ end_row (then_state w x g) (with_choice g (choice x)) (point_at a b) OpponentFoul
        → GoesOver w x g (Turn a b ∷ cs)
    foul_reply w a b cs f fouls row =
        let s = then_state w x g in
        let left = none_left h (with_move (with_choice g (choice x)) (point_at a b) true) refl w cs in
        goes-same x g _ _ _ _ (replies-by s (Turn a b) cs _ row ∙ ap (λ (ps : List Point). point_at a b ∷ ps) left.0)
        (answers-by s (Turn a b) cs _ row ∙ ap (λ (said : List Answer). Error OpponentFoul ∷ said) left.1)
        (followed.fouls x g stands on (point_at a b) f fouls)

    -- a reply that goes on is answered by the next choice
    next_reply : (w a b : ℕ) (cs : List Command) → AllGoWell cs
        → row_of (then_state w x g) (Turn a b) ≡ Chooses (game_then g (choice x) (point_at a b))
        → IsNextTo h X choice Stands Legal Goes x g (point_at a b) → GoesOver w x g (Turn a b ∷ cs)
    next_reply w a b cs all row next =
        let s = then_state w x g in
        let g2 = game_then g (choice x) (point_at a b) in
        goes-same x g _ _ _ _
        (replies-by s (Turn a b) cs _ row ∙ ap (λ (c : Choice). point_at a b ∷ replies (state_in h w (with_choice g2 c)) cs) next.chooses)
        (answers-by s (Turn a b) cs _ row ∙ ap (λ (c : Choice). Move c.at ∷ answers_to_replies
        (state_in h w (with_choice g2 c)) cs) next.chooses) (next.more _ _ (all w next.next g2 next.stands))

    -- a TURN by its row
    turn_by : (w a b : ℕ) (cs : List Command) (r : Option RuleKind) (p : Outcome) → AllGoWell cs
        → outcome g.rule (after (board_of g) (choice x).at) (point_at a b) ≡ p
        → row_of (then_state w x g) (Turn a b) ≡ if_supported r (then_state w x g)
        (λ rule. move_row (then_state w x g) (with_choice g (choice x)) (point_at a b) p)
        → LosesOr p (IsNextTo h X choice Stands Legal Goes x g (point_at a b)) → GoesOver w x g (Turn a b ∷ cs)
    turn_by w a b cs None p all e row met = no_reply w a b cs UnsupportedRule refl row (all w x g stands)
    turn_by w a b cs (Some rule) Refused all e row met = no_reply w a b cs BadMove refl row (all w x g stands)
    turn_by w a b cs (Some rule) WinsNow all e row met = absurd met
    turn_by w a b cs (Some rule) (Fouls f) all e row met = foul_reply w a b cs f e row
    turn_by w a b cs (Some rule) Draws all e row met = absurd met
    turn_by w a b cs (Some rule) GoesOn all e row met = next_reply w a b cs all row met

    -- the row of a TURN
    turn_row-then : (w : ℕ) (q : Point) → row_of (then_state w x g) (Turn q.x q.y) ≡ if_supported (rule_of w) (then_state w x g)
        (λ rule. move_row (then_state w x g) (with_choice g (choice x)) q (outcome g.rule (after (board_of g) (choice x).at) q))
    turn_row-then w q = search (rules, turn_going, mover-then)

  turn_goes : (cs : List Command) → AllGoWell cs → (a b : ℕ) → AllGoWell (Turn a b ∷ cs)
  turn_goes cs all a b w x g stands = by_outcome (outcome g.rule (board_of g) (choice x).at) refl (followed.wins x g stands) where
    by_outcome : (r : Outcome) → outcome g.rule (board_of g) (choice x).at ≡ r → WinsOr r (Unit {0}) → GoesOver w x g (Turn a b ∷ cs)
    by_outcome WinsNow e v = ended_goes w x g (Turn a b ∷ cs) stands e
    by_outcome GoesOn e v =
        turn_by x g stands e w a b cs (rule_of w) (outcome g.rule (after (board_of g) (choice x).at) (point_at a b)) all refl
        (turn_row-then x g stands e w (point_at a b)) (followed.replied x g stands e (point_at a b))
    by_outcome _ e v = absurd v

  -- whatever is told later, the game goes well by the replies and the answers to them
  pub all-go_well : (cs : List Command) → AllGoWell cs
  unfolding replies answers_to_replies row_of
  all-go_well [] w x g stands = followed.none x g stands
  all-go_well (Turn a b ∷ cs) w x g stands = turn_goes cs (all-go_well cs) a b w x g stands
  all-go_well (Start m ∷ cs) w x g stands = followed.none x g stands
  all-go_well (RectStart l m ∷ cs) w x g stands = followed.none x g stands
  all-go_well (Board ∷ cs) w x g stands = followed.none x g stands
  all-go_well (Restart ∷ cs) w x g stands = followed.none x g stands
  all-go_well (Takeback a b ∷ cs) w x g stands = followed.none x g stands
  all-go_well (EndCommand ∷ cs) w x g stands = followed.none x g stands
  all-go_well (Rule v ∷ cs) w x g stands = all-go_well cs v x g stands
  all-go_well (_ ∷ cs) w x g stands = all-go_well cs w x g stands

  -- ---- legal replies are answered

  module _ (w : ℕ) (rule : RuleKind) (wish : rule_of w ≡ Some rule) (x : X) (g : Game) (stands : Stands x g)
      (on : outcome g.rule (board_of g) (choice x).at ≡ GoesOn) (q : Point) (qs : List Point) (legal : Legal x g (q ∷ qs)) where
    row_is : (p : Outcome) → outcome g.rule (after (board_of g) (choice x).at) q ≡ p
        → row_of (then_state w x g) (Turn q.x q.y) ≡ move_row (then_state w x g) (with_choice g (choice x)) q p
    row_is p e = search (rules, turn_row-then)

    reply_answered : ((v : ℕ) (y : X) (k : Game) → Stands y k → is_some (rule_of v) ≡ true → Legal y k qs
        → Goes y k qs (answers_from (then_state v y k) (turns qs)))
        → is_empty (after (board_of g) (choice x).at) q ≡ true → (p : Outcome) → outcome g.rule (after (board_of g) (choice x).at) q ≡ p
        → LosesOr p (IsNextTo h X choice Stands Legal Goes x g q) → Goes x g (q ∷ qs) (answers_from (then_state w x g) (turns (q ∷ qs)))
    reply_answered all empty Refused e met = absurd (moved g.rule (after (board_of g) (choice x).at) q empty e)
    reply_answered all empty WinsNow e met = absurd met
    reply_answered all empty (Fouls f) e met =
        let s = then_state w x g in
        let said : answers_from s (turns (q ∷ [])) ≡ Error OpponentFoul ∷ [] = answers-row s (Turn q.x q.y) [] _ (row_is (Fouls f) e)
        ∙ ap (λ (l : List Answer). Error OpponentFoul ∷ l) (answers-none (state_in h w (with_move (with_choice g (choice x)) q true))) in
        subst (λ (vs : List Point). Goes x g (q ∷ vs) (answers_from s (turns (q ∷ vs))))
        (sym (followed.legal_foul x g stands on q f e qs legal)) (subst (Goes x g (q ∷ [])) (sym said) (followed.fouls x g stands on q f e))
    reply_answered all empty Draws e met = absurd met
    reply_answered all empty GoesOn e next =
        let s = then_state w x g in
        let g2 = game_then g (choice x) q in
        let said : answers_from s (turns (q ∷ qs)) ≡ Move (choice next.next).at ∷ answers_from (then_state w next.next g2) (turns qs) =
        answers-row s (Turn q.x q.y) (turns qs) _ (row_is GoesOn e)
        ∙ ap (λ (c : Choice). Move c.at ∷ answers_from (state_in h w (with_choice g2 c)) (turns qs)) next.chooses in
        subst (Goes x g (q ∷ qs)) (sym said) (next.more qs _ (all w next.next g2 next.stands (ap is_some wish) (next.legal qs legal)))

  pub all-answered : (qs : List Point) (w : ℕ) (x : X) (g : Game) → Stands x g → is_some (rule_of w) ≡ true → Legal x g qs
      → Goes x g qs (answers_from (then_state w x g) (turns qs))
  all-answered [] w x g stands wish legal = subst (Goes x g []) (sym (answers-none (then_state w x g))) (followed.none x g stands)
  all-answered (q ∷ qs) w x g stands wish legal =
      let rule = rule_by w wish in
      let first = followed.legal_first x g stands q qs legal in
      reply_answered w rule.0 rule.1 x g stands first.0 q qs legal (all-answered qs) first.1
      (outcome g.rule (after (board_of g) (choice x).at) q) refl (followed.replied x g stands first.0 q)
