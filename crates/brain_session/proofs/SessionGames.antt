-- A game that is kept up: after each move of the brain, and after each of the opponent.
use Rattle.std.proofs.Common.{◌≡◌, Bool, true, false, not, List, [], ◌∷◌, ap, subst, rules, ◌∙◌, Option, Some, None, IfSome, MatchOption}
use Rattle.std.proofs.Common.{option_map, option_and_then}
use Rattle.brain_session.proofs.Common.{Grid, is_empty, IsPosition, outcome, after, mover, other, goes_on, RuleKind, GoesOn, Point}
use Rattle.brain_session.proofs.Common.{HeldTable, Guide, SessionGame, Followed, Game, board_after, board_of, Choice, or_else}
use Rattle.brain_session.proofs.Common.{followed_after, last_move, move_by, by_following, followed_on, by_followed, chosen_anew, chosen}
use Rattle.brain_session.proofs.Common.{GoesOnAlong, EndsGame, FollowsAt, IsOpponentNext, IsPlayed, Moves, GuidesAt, GoesOnAfter, IsKeptUp}
use Rattle.brain_session.proofs.Common.{IsInTable, IsReady, NodeStandsAt, StandsAt, followed_of, game_of, guide_after}
use Rattle.game_rules.proofs.Positions.{IsPosition-after, mover-other, mover-then}
use Rattle.game_rules.proofs.Points.{taken_refused}
use Rattle.game_rules.proofs.Outcomes.{goes_on-is, moved}
use Rattle.game_rules.proofs.Games.{wins-some}
use Rattle.brain_session.proofs.Guiding.{stands-goes_on, goes_on-after}

-- ---- the position

-- the position after moves that went on is lawful
pub along-lawful : (rule : RuleKind) (start : Grid) (moves : List Point) → GoesOnAlong rule start moves
    → IsPosition rule (board_after start moves)
along-lawful rule start [] h = h
along-lawful rule start (p ∷ before) h = IsPosition-after rule (board_after start before) p (along-lawful rule start before h.0) h.1

pub start-lawful : (rule : RuleKind) (start : Grid) (moves : List Point) → GoesOnAlong rule start moves → IsPosition rule start
start-lawful rule start [] h = h
start-lawful rule start (p ∷ before) h = start-lawful rule start before h.0

-- ---- the chosen move

-- the move of the choice is that by what it follows, if anything
abbrev pub MovesBy : HeldTable → Game → Choice → Type 0
MovesBy h g c = IfSome c.followed (λ f. move_by h g.rule (board_of g) f ≡ Some c.at)

following-moves : (h : HeldTable) (g : Game) (f : Followed) (o : Option Point) → move_by h g.rule (board_of g) f ≡ o
    → IfSome (option_map (λ p. record { at = p; followed = Some f }) o) (MovesBy h g)
following-moves h g f o e = search rules

followed-moves : {X : Type 0} (h : HeldTable) (g : Game) (followed : X → Followed) (o : Option X)
    → IfSome (option_and_then (λ x. by_following h g (followed x)) o) (MovesBy h g)
followed-moves h g followed o = search (rules, following-moves)

else-moves : (h : HeldTable) (g : Game) (o : Option Choice) (later : Unit {0} → Choice) → IfSome o (MovesBy h g) → MovesBy h g (later tt)
    → MovesBy h g (or_else o later)
else-moves h g o later first second = search rules

anew-moves : (h : HeldTable) (g : Game) → MovesBy h g (chosen_anew h g)
unfolding chosen_anew
anew-moves h g = search (rules, else-moves, followed-moves)

-- the chosen move is that by what is followed with it, if anything
pub chosen-moves : (h : HeldTable) (g : Game) → MovesBy h g (chosen h g)
unfolding chosen
chosen-moves h g = else-moves h g (by_followed h g) (λ _. chosen_anew h g) (followed-moves h g (λ f. f) (followed_on h g)) (anew-moves h g)

-- where nothing that was followed goes on, the move is chosen anew
pub chosen-anew : (h : HeldTable) (g : Game) → followed_on h g ≡ None → chosen h g ≡ chosen_anew h g
unfolding chosen
chosen-anew h g e = ap (λ (o : Option Followed). or_else (option_and_then (by_following h g) o) (λ _. chosen_anew h g)) e

-- where what was followed goes on, its move is chosen
pub chosen-followed : (h : HeldTable) (g : Game) (c : Choice) → by_followed h g ≡ Some c → chosen h g ≡ c
unfolding chosen
chosen-followed h g c e = ap (λ (o : Option Choice). or_else o (λ _. chosen_anew h g)) e

-- ---- following

-- a guide whose node stands somewhere names a node of its table
pub node-in_table : (h : HeldTable) (rule : RuleKind) (b : Grid) (g : Guide) → NodeStandsAt h rule b g → IsInTable h g
node-in_table h rule b g at = search (rules, wins-some)

after-followed : (h : HeldTable) (g : Guide) (q : Point) (new : Guide) → guide_after h g q ≡ Some new
    → followed_after h (followed_of g) q ≡ Some (followed_of new)
after-followed h g q new e = search rules

-- what a guide that answered goes on to
gone_on : (o : Option Guide) (r : Bool) (old new : Guide) → MatchOption o ((r ≡ false) × (new ≡ old)) (λ g. (r ≡ true) × (new ≡ g))
    → r ≡ true → o ≡ Some new
gone_on o r old new answered e = search rules

-- a game that is ready after the reply q, and follows this guide, which answers it and goes on to another
module _ (h : HeldTable) (m : Moves) (c : SessionGame) (q : Point) (guide new : Guide) (r : Bool) (last : last_move m.moves ≡ Some q)
    (follows : c.guide ≡ Some guide) (ready : IsReady h m c)
    (answered : MatchOption (guide_after h guide q) ((r ≡ false) × (new ≡ guide)) (λ g. (r ≡ true) × (new ≡ g))) (yes : r ≡ true) where
  after_it : guide_after h guide q ≡ Some new
  after_it = gone_on (guide_after h guide q) r guide new answered yes

  ready-on : GoesOnAfter h c.kind (board_after m.start m.moves) guide q
  ready-on = search rules

  pub follow-stands : NodeStandsAt h c.kind (board_after m.start m.moves) new
  follow-stands = search (rules, after_it, ready-on)

  pub follow-on : (at : Point) → move_by h c.kind (board_after m.start m.moves) (followed_of new) ≡ Some at
      → by_followed h (game_of m c) ≡ Some (record { at = at; followed = Some (followed_of new) })
  follow-on at moves = search (rules, after-followed, after_it)

-- ---- after a move of the brain

-- a game in which the brain makes a move to an empty point, by what it follows then, is kept up
module _ (h : HeldTable) (m : Moves) (c : SessionGame) (at : Point) (along : GoesOnAlong c.kind m.start m.moves)
    (to_move : mover (board_after m.start m.moves) ≡ c.brain) where
  abbrev here : Grid
  here = board_after m.start m.moves

  guided-after : (guide : Option Guide) → outcome c.kind here at ≡ GoesOn → IfSome guide (StandsAt h c.kind here)
      → IfSome (option_map followed_of guide) (λ f. move_by h c.kind here f ≡ Some at)
      → IfSome (option_map followed_of guide) (FollowsAt h c.kind (after here at)) × IfSome guide (GuidesAt c.kind (after here at))
  guided-after guide go stands moves = search (rules, stands-goes_on, along-lawful)

  opponent-after : (following : Bool) → outcome c.kind here at ≡ GoesOn → IsOpponentNext false following (after here at) c.brain
  opponent-after following go = search (rules, mover-other, along-lawful)

  pub kept-moved : (guide : Option Guide) → is_empty here at ≡ true → IfSome guide (StandsAt h c.kind here)
      → IfSome (option_map followed_of guide) (λ f. move_by h c.kind here f ≡ Some at)
      → IsKeptUp h (record m { moves = at ∷ m.moves }) (record c { ended = not (goes_on (outcome c.kind here at)); guide = guide })
  kept-moved guide empty stands moves = search (rules, goes_on-is, guided-after, opponent-after, moved)

-- ---- after a move of the opponent

-- a move that ends the game is at an empty point
pub ends-empty : (rule : RuleKind) (b : Grid) (p : Point) → EndsGame (outcome rule b p) → is_empty b p ≡ true
ends-empty rule b p ended = search (rules, taken_refused)

-- a game that goes on, where the opponent makes a move with which it goes on
module _ (h : HeldTable) (m : Moves) (c : SessionGame) (p : Point) (kept : IsKeptUp h m c) (going : c.ended ≡ false)
    (go : outcome c.kind (board_after m.start m.moves) p ≡ GoesOn) where
  abbrev there : Moves
  there = record m { moves = p ∷ m.moves }

  pub kept-along : GoesOnAlong c.kind m.start m.moves
  kept-along = subst (λ (r : Bool). IsPlayed r c.kind m.start m.moves) going kept.running.played

  pub reply-mover : other (mover (board_after m.start m.moves)) ≡ c.brain → mover (board_after m.start (p ∷ m.moves)) ≡ c.brain
  reply-mover to_reply = mover-then c.kind (board_after m.start m.moves) p (along-lawful c.kind m.start m.moves kept-along) go ∙ to_reply

  on-after : (o : Option Guide) → IfSome (option_map followed_of o) (FollowsAt h c.kind (board_after m.start m.moves))
      → IfSome o (GuidesAt c.kind (board_after m.start m.moves))
      → IfSome o (λ guide. GoesOnAfter h c.kind (board_after m.start (p ∷ m.moves)) guide p)
  on-after o follows guides = search (rules, goes_on-after)

  pub reply-ready : IsReady h there c
  reply-ready = search (rules, on-after)
