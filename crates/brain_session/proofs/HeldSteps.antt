-- A game in which a held node is followed: how it goes on by one reply, over plain values, and what each later command does to it.
use Rattle.std.proofs.Common.{Some, slice_get, is_some, IsSomeAnd, ◌≡◌, ℕ, suc, ◌≤◌, ◌<◌, Bool, true, false, cond, List, [], ◌∷◌, ◌++◌, map}
use Rattle.std.proofs.Common.{length, refl, sym, ap, ◌∙◌, arith, not, subst, rules}
use Rattle.brain_session.proofs.Common.{Grid, outcome, after, IsPosition, mover, other, goes_on, WinsOr, LosesOr, RuleKind, Foul, Outcome}
use Rattle.brain_session.proofs.Common.{Refused, Fouls, Draws, GoesOn, Point, Node, answers_of, answer, is_winning, depth_within, Meets}
use Rattle.brain_session.proofs.Common.{AcceptedWithin, NoMove, Open, after_attack, game, attacks, HeldTable, Answer, Move, Error}
use Rattle.brain_session.proofs.Common.{OpponentFoul, Command, Turn, Choice, chosen, AreReplies, ends_with_foul, game_answers, IsWonWithin}
use Rattle.brain_session.proofs.Common.{replies, answers_to_replies, turns, answers_from, HeldNode, Game, board_of, rule_of, if_supported}
use Rattle.brain_session.proofs.Common.{with_move, move_row, row_of, with_choice}
use Rattle.game_rules.specs.declared.Outcome.TheVariants.{Wins as WinsNow}
use Rattle.game_rules.proofs.Positions.{IsPosition-after, mover-then}
use Rattle.game_rules.proofs.Games.{WinsOr-map}
use Rattle.game_rules.proofs.Boards.{other-other}
use Rattle.strategy_graph.specs.declared.Rest.{Rest}
use Rattle.strategy_graph.proofs.Answering.{IsSomeAnd-elim}
use Rattle.strategy_graph.proofs.Fuel.{depth_some, deeper, accepted_node}
use Rattle.strategy_graph.proofs.Endings.{attacks-open, first_at}
use Rattle.brain_session.proofs.FollowedGames.{foul-later, won-later, state_in, IsNextTo, IsFollowed, all-answered, all-go_well, turn_going}

-- the answers to the attack a and to these replies are those of the game from node i at b, which is won within d or open
pub record GoesBy (rule : RuleKind) (t : List Node) (d i : ℕ) (b : Grid) (a : Point) (rs : List Point) (said : List Answer) : Type 0 where
  pub answers : Move a ∷ said ≡ game_answers rule t i b rs
  pub won : IsWonWithin d (length rs) (game rule t i b rs)

-- ---- depths

open_or_won : (o : Outcome) (r : Rest) (d : ℕ) → 1 ≤ d → WinsOr o (Unit {0}) → (o ≡ GoesOn → is_winning r ≡ false)
    → IsWonWithin d 0 (after_attack o (cond (is_winning r) NoMove Open))
open_or_won o r d l h f = search rules

-- the answers by the attacks that are played
answers_of_attacks : RuleKind → Grid → List Point → List Point → List Answer
answers_of_attacks rule b qs ps = map (λ p. Move p) ps ++ (cond (ends_with_foul rule b ps qs) (Error OpponentFoul ∷ []) [])

said-by : (rule : RuleKind) (t : List Node) (i : ℕ) (b : Grid) (qs ps : List Point) → attacks rule t i b qs ≡ ps
    → answers_of_attacks rule b qs ps ≡ game_answers rule t i b qs
unfolding answers_of_attacks
said-by rule t i b qs ps e = ap (answers_of_attacks rule b qs) (sym e)

module _ (rule : RuleKind) (t : List Node) (d i : ℕ) (b : Grid) (n : Node) (at : slice_get t i ≡ Some n) (l : 1 ≤ d) where
  -- the attack of the node is the first
  pub attacks-first : (qs : List Point) → (rest : List Point) × (attacks rule t i b qs ≡ n.attack ∷ rest)
  unfolding attacks
  attacks-first [] = first_at rule b (slice_get t i) n _ at
  attacks-first (q ∷ qs) = first_at rule b (slice_get t i) n _ at

  pub by_none : WinsOr (outcome rule b n.attack) (Unit {0}) → (outcome rule b n.attack ≡ GoesOn → is_winning n.rest ≡ false)
      → GoesBy rule t d i b n.attack [] []
  unfolding game answers_of_attacks
  by_none h f = search (rules, said-by, attacks-open, open_or_won)

  module _ (o : outcome rule b n.attack ≡ GoesOn) (r : is_winning n.rest ≡ false) (q : Point) where
    pub attacks-foul : (qs : List Point) (f : Foul) → outcome rule (after b n.attack) q ≡ Fouls f
        → attacks rule t i b (q ∷ qs) ≡ n.attack ∷ []
    unfolding attacks
    attacks-foul qs f e = rw (at, o, r, e) refl

    said_foul : (f : Foul) → outcome rule (after b n.attack) q ≡ Fouls f
        → Move n.attack ∷ Error OpponentFoul ∷ [] ≡ answers_of_attacks rule b (q ∷ []) (n.attack ∷ [])
    unfolding answers_of_attacks
    said_foul f e = rw e refl

    pub by_foul : (f : Foul) → outcome rule (after b n.attack) q ≡ Fouls f → GoesBy rule t d i b n.attack (q ∷ []) (Error OpponentFoul ∷ [])
    unfolding game
    by_foul f e = search (rules, said_foul, said-by, attacks-foul)

    pub attacks-next : (j : ℕ) (rs : List Point) → outcome rule (after b n.attack) q ≡ GoesOn → answer (answers_of n) q ≡ Some j
        → attacks rule t i b (q ∷ rs) ≡ n.attack ∷ attacks rule t j (after (after b n.attack) q) rs
    unfolding attacks
    attacks-next j rs g w = rw (at, o, r, g, w) refl

    said_next : (j : ℕ) (rs : List Point) → outcome rule (after b n.attack) q ≡ GoesOn
        → Move n.attack ∷ game_answers rule t j (after (after b n.attack) q) rs ≡ answers_of_attacks rule b (q ∷ rs)
        (n.attack ∷ attacks rule t j (after (after b n.attack) q) rs)
    unfolding answers_of_attacks
    said_next j rs g = search (rules, foul-later)

    pub won_next : (e j : ℕ) (rs : List Point) → outcome rule (after b n.attack) q ≡ GoesOn → answer (answers_of n) q ≡ Some j → e < d
        → IsWonWithin e (length rs) (game rule t j (after (after b n.attack) q) rs)
        → IsWonWithin d (suc (length rs)) (game rule t i b (q ∷ rs))
    unfolding game
    won_next e j rs g w less h = rw (at, o, r, g, w) (won-later e d (length rs) _ less h)

    pub by_next : (e j : ℕ) (m : Node) (rs : List Point) (said : List Answer) → outcome rule (after b n.attack) q ≡ GoesOn
        → answer (answers_of n) q ≡ Some j → e < d → GoesBy rule t e j (after (after b n.attack) q) m.attack rs said
        → GoesBy rule t d i b n.attack (q ∷ rs) (Move m.attack ∷ said)
    by_next e j m rs said g w less h = search (rules, said_next, said-by, attacks-next, won_next)

-- the choice of the attack of node i
abbrev pub by_node : ℕ → Node → Choice
by_node i n = record { at = n.attack; followed = Some (HeldNode i) }

-- the game after that attack, ended or not
abbrev pub played : Game → ℕ → Node → Bool → Game
played g i n ended = record g { moves = n.attack ∷ g.moves; ended = ended; followed = Some (HeldNode i) }

-- the chosen move where a held node is followed, and its answer to the last move is node j
chosen-followed : (h : HeldTable) (g : Game) (i j : ℕ) (n m : Node) (q : Point) (before : List Point) → g.followed ≡ Some (HeldNode i)
    → g.moves ≡ q ∷ before → slice_get h.table i ≡ Some n → answer (answers_of n) q ≡ Some j → slice_get h.table j ≡ Some m
    → chosen h g ≡ by_node j m
unfolding chosen
chosen-followed h g i j n m q before f ms at w to = rw (f, ms, at, w, to) refl

-- node i, which is n, is accepted in the game g, in which the brain is to move; so many nodes more follow one another
pub record StandsIn (h : HeldTable) (g : Game) (i : ℕ) (n : Node) (k : ℕ) : Type 0 where
  pub node : slice_get h.table i ≡ Some n
  pub wins : WinsOr (outcome g.rule (board_of g) n.attack) ((is_winning n.rest ≡ false)
      × ((q : Point) → Meets g.rule (answers_of n) (AcceptedWithin k g.rule h.table) (after (board_of g) n.attack) q))
  pub lawful : IsPosition g.rule (board_of g)
  pub turn : mover (board_of g) ≡ g.brain

-- in the game g, to which the opponent replied to node i, node j is followed next, which is less deep
pub record IsNext (h : HeldTable) (g : Game) (i k j : ℕ) : Type 0 where
  pub node : Node
  pub more : ℕ
  pub stands : StandsIn h g j node more
  pub chooses : chosen h g ≡ by_node j node
  pub shallower : depth_within (suc more) h.table j < depth_within (suc k) h.table i

-- no reply is left
pub nothing_more : (h : HeldTable) (g : Game) (i : ℕ) (n : Node) (k : ℕ) → StandsIn h g i n k
    → GoesBy g.rule h.table (depth_within (suc k) h.table i) i (board_of g) n.attack [] []
nothing_more h g i n k s = by_none g.rule h.table _ i (board_of g) n s.node (depth_some h.table i n k s.node)
    (WinsOr-map (outcome g.rule (board_of g) n.attack) _ _ (λ w. tt) s.wins) (going (outcome g.rule (board_of g) n.attack) s.wins) where
      going : (o : Outcome) → WinsOr o ((is_winning n.rest ≡ false)
          × ((q : Point) → Meets g.rule (answers_of n) (AcceptedWithin k g.rule h.table) (after (board_of g) n.attack) q))
          → o ≡ GoesOn → is_winning n.rest ≡ false
      going GoesOn w e = w.0
      going _ w e = cc

-- the board after the attack, which goes on, and whose turn it is there
module _ (h : HeldTable) (g : Game) (i : ℕ) (n : Node) (k : ℕ) (s : StandsIn h g i n k)
    (o : outcome g.rule (board_of g) n.attack ≡ GoesOn) where
  pub lawful_then : IsPosition g.rule (after (board_of g) n.attack)
  lawful_then = IsPosition-after g.rule (board_of g) n.attack s.lawful o

  pub turn_then : mover (after (board_of g) n.attack) ≡ other g.brain
  turn_then = mover-then g.rule (board_of g) n.attack s.lawful o ∙ ap other s.turn

  pub parts : (is_winning n.rest ≡ false)
      × ((q : Point) → Meets g.rule (answers_of n) (AcceptedWithin k g.rule h.table) (after (board_of g) n.attack) q)
  parts = search rules

  -- the row of a TURN
  pub row_then : (w : ℕ) (q : Point) → row_of (state_in h w (with_choice g (by_node i n))) (Turn q.x q.y)
      ≡ if_supported (rule_of w) (state_in h w (with_choice g (by_node i n)))
      (λ rule. move_row (state_in h w (with_choice g (by_node i n))) (with_choice g (by_node i n)) q
      (outcome g.rule (after (board_of g) n.attack) q))
  row_then w q = turn_going h w (with_choice g (by_node i n)) q.x q.y (ap (λ (r : Outcome). not (goes_on r)) o) turn_then

  -- a reply that goes on is answered by the attack of the node that answers it
  pub next_stands : (q : Point) → outcome g.rule (after (board_of g) n.attack) q ≡ GoesOn → (j : ℕ) → answer (answers_of n) q ≡ Some j
      → AcceptedWithin k g.rule h.table j (after (after (board_of g) n.attack) q)
      → IsNext h (with_move (with_choice g (by_node i n)) q false) i k j
  next_stands q on j reply accepted =
      let g2 = with_move (with_choice g (by_node i n)) q false in
      let node = accepted_node g.rule h.table j (board_of g2) k accepted in
      record {
        node = node.1;
        more = node.0;
        stands = record {
          node = node.3;
          wins = node.4;
          lawful = IsPosition-after g.rule (after (board_of g) n.attack) q lawful_then on;
          turn = mover-then g.rule (after (board_of g) n.attack) q lawful_then on ∙ ap other turn_then ∙ other-other g.brain;
        };
        chooses = chosen-followed h g2 i j n node.1 q (n.attack ∷ g.moves) refl refl s.node reply node.3;
        shallower = subst (λ (d : ℕ). depth_within d h.table j < depth_within (suc k) h.table i) node.2
            (deeper h.table i n k q j s.node reply);
      }

-- no reply is legal once no attack is left
pub none_left : (rule : RuleKind) (b : Grid) (qs : List Point) → AreReplies rule b [] qs → qs ≡ []
none_left rule b [] are = refl
none_left rule b (q ∷ qs) are = absurd are

-- ---- a held node is followed

-- node i, which is n, after which so many nodes more follow one another
record HeldAt : Type 0 where
  i : ℕ
  n : Node
  k : ℕ

module _ (h : HeldTable) where
  abbrev held_choice : HeldAt → Choice
  held_choice x = by_node x.i x.n

  abbrev HeldStands : HeldAt → Game → Type 0
  HeldStands x g = StandsIn h g x.i x.n x.k

  abbrev HeldLegal : HeldAt → Game → List Point → Type 0
  HeldLegal x g qs = AreReplies g.rule (board_of g) (attacks g.rule h.table x.i (board_of g) qs) qs

  abbrev HeldGoes : HeldAt → Game → List Point → List Answer → Type 0
  HeldGoes x g qs said = GoesBy g.rule h.table (depth_within (suc x.k) h.table x.i) x.i (board_of g) x.n.attack qs said

  next_held : (x : HeldAt) (g : Game) → HeldStands x g → outcome g.rule (board_of g) x.n.attack ≡ GoesOn → (q : Point)
      → outcome g.rule (after (board_of g) x.n.attack) q ≡ GoesOn → (j : ℕ) → answer (answers_of x.n) q ≡ Some j
      → AcceptedWithin x.k g.rule h.table j (after (after (board_of g) x.n.attack) q)
      → IsNextTo h HeldAt held_choice HeldStands HeldLegal HeldGoes x g q
  next_held x g s o q on j reply accepted =
      let next = next_stands h g x.i x.n x.k s o q on j reply accepted in
      record {
        next = record { i = j; n = next.node; k = next.more };
        stands = next.stands;
        chooses = next.chooses;
        more = λ qs said goes. by_next g.rule h.table _ x.i (board_of g) x.n s.node
            (depth_some h.table x.i x.n x.k s.node) o (parts h g x.i x.n x.k s o).0 q _ j next.node qs said on reply next.shallower goes;
        legal = λ qs legal. (subst (λ (ps : List Point). AreReplies g.rule (board_of g) ps (q ∷ qs))
            (attacks-next g.rule h.table 1 x.i (board_of g) x.n s.node (omega arith) o (parts h g x.i x.n x.k s o).0 q j qs on reply)
            legal).2;
      }

  held_followed : IsFollowed h HeldAt held_choice HeldStands HeldLegal HeldGoes
  held_followed = record {
    lawful = λ x g s. s.lawful;
    turn = λ x g s. s.turn;
    wins = λ x g s. WinsOr-map (outcome g.rule (board_of g) x.n.attack) _ _ (λ w. tt) s.wins;
    none = λ x g s. nothing_more h g x.i x.n x.k s;
    fouls = λ x g s o q f e. by_foul g.rule h.table _ x.i
        (board_of g) x.n s.node (depth_some h.table x.i x.n x.k s.node) o (parts h g x.i x.n x.k s o).0 q f e;
    replied = λ x g s o q. by_reply x g s o q (outcome g.rule (after (board_of g) x.n.attack) q) refl ((parts h g x.i x.n x.k s o).1 q);
    legal_first = λ x g s q qs legal.
        let first = attacks-first g.rule h.table 1 x.i (board_of g) x.n s.node (omega arith) (q ∷ qs) in
        let are = subst (λ (ps : List Point). AreReplies g.rule (board_of g) ps (q ∷ qs)) first.1 legal in
        (are.0, are.1);
    legal_foul = λ x g s o q f e qs legal. none_left g.rule
        (after (after (board_of g) x.n.attack) q) qs (subst (λ (ps : List Point). AreReplies g.rule (board_of g) ps (q ∷ qs))
        (attacks-foul g.rule h.table 1 x.i (board_of g) x.n s.node (omega arith) o (parts h g x.i x.n x.k s o).0 q qs f e) legal).2;
  } where
    by_reply : (x : HeldAt) (g : Game) → HeldStands x g → outcome g.rule (board_of g) x.n.attack ≡ GoesOn → (q : Point) (p : Outcome)
        → outcome g.rule (after (board_of g) x.n.attack) q ≡ p → LosesOr p (IsSomeAnd (answer (answers_of x.n) q)
        (λ j. AcceptedWithin x.k g.rule h.table j (after (after (board_of g) x.n.attack) q)))
        → LosesOr p (IsNextTo h HeldAt held_choice HeldStands HeldLegal HeldGoes x g q)
    by_reply x g s o q GoesOn e met = IsSomeAnd-elim (answer (answers_of x.n) q) _ _
        (λ j reply accepted. next_held x g s o q e j reply accepted) met
    by_reply x g s o q Refused e met = met
    by_reply x g s o q WinsNow e met = met
    by_reply x g s o q (Fouls f) e met = met
    by_reply x g s o q Draws e met = met

  -- whatever is told later, the answers to the replies are those of the game against the table
  pub held-go_well : (cs : List Command) (k w : ℕ) (g : Game) (i : ℕ) (n : Node) → StandsIn h g i n k
      → GoesBy g.rule h.table (depth_within (suc k) h.table i) i
      (board_of g) n.attack (replies (state_in h w (with_choice g (by_node i n))) cs)
      (answers_to_replies (state_in h w (with_choice g (by_node i n))) cs)
  held-go_well cs k w g i n s =
      all-go_well h HeldAt held_choice HeldStands HeldLegal HeldGoes held_followed cs w (record { i = i; n = n; k = k }) g s

  -- and legal replies that are sent are answered
  pub held-answered : (qs : List Point) (k w : ℕ) (g : Game) (i : ℕ) (n : Node) → StandsIn h g i n k → is_some (rule_of w) ≡ true
      → AreReplies g.rule (board_of g) (attacks g.rule h.table i (board_of g) qs) qs
      → GoesBy g.rule h.table (depth_within (suc k) h.table i) i (board_of g) n.attack qs
      (answers_from (state_in h w (with_choice g (by_node i n))) (turns qs))
  held-answered qs k w g i n s =
      all-answered h HeldAt held_choice HeldStands HeldLegal HeldGoes held_followed qs w (record { i = i; n = n; k = k }) g s
