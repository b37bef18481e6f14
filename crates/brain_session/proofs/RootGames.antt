-- Where a game has come to a held root, a held game by it begins.
use Rattle.std.proofs.Common.{◌≡◌, ℕ, suc, Bool, true, cond, refl, sym, ap, subst, ◌∙◌, arith, List, [], ◌∷◌, ◌++◌, Option, Some, None, All}
use Rattle.std.proofs.Common.{option_map, rules}
use Rattle.std.specs.Option.{option_or}
use Rattle.std.proofs.lemmas.List.Elements.{All-contains, Contains-append_right}
use Rattle.brain_session.proofs.Common.{Grid, outcome, RuleKind, GoesOn, Point, Node, Root, Attack, Defend, Answers, answer, AcceptedRoot}
use Rattle.brain_session.proofs.Common.{HeldRoot, HeldTable, IsHeldRoot, IsHeld, Command, Game, board_after, board_of, State, new_brain}
use Rattle.brain_session.proofs.Common.{last_move, same_board, start_answer, node_at, root_node, first_node, by_followed, Step, Chooses}
use Rattle.brain_session.proofs.Common.{row_of, state_after, GoesOnAlong, BeginsHeldGame, IsThere, IsNodeOf, HasComeTo, BeginsByRoot}
use Rattle.brain_session.proofs.Common.{RootsBeginGames}
use Rattle.game_rules.proofs.Outcomes.{going}
use Rattle.strategy_graph.proofs.Answering.{IsSomeAnd-elim}
use Rattle.brain_session.proofs.PlayedMoves.{same_board-is, same_board-itself}
use Rattle.brain_session.proofs.HeldNodes.{same_rule-is, if_some}
use Rattle.brain_session.proofs.HeldGames.{begins, stands_where}
use Rattle.brain_session.proofs.BatchStones.{same_rule-itself}
use Rattle.brain_session.proofs.LawfulStates.{LawfulState, IsToMove, LawfulRow, row-lawful, session-lawful, new-lawful}

-- ---- a root to which the game has come leads to its node

start_leads : (a : Answers) (b start : Grid) (moves : List Point) (q : Point) (before : List Point)
    → moves ≡ q ∷ before → board_after start before ≡ b → start_answer a b start moves ≡ answer a q
start_leads a b start moves q before are at = search (rules, same_board-itself)

-- the node by which a root is followed in a game that has come to it
record Leads (root : Root) (b : Grid) (g : Game) : Type 0 where
  node : ℕ
  is_its : IsNodeOf root g node
  leads : node_at root b g ≡ Some node

answered_at : (rule : RuleKind) (t : List Node) (a : Answers) (b : Grid) (q : Point)
    → AcceptedRoot rule t (Defend a) b → outcome rule b q ≡ GoesOn → (j : ℕ) × (answer a q ≡ Some j)
answered_at rule t a b q accepted on = search (rules, IsSomeAnd-elim, going)

there_leads : (t : List Node) (root : Root) (b : Grid) (g : Game) → AcceptedRoot g.rule t root b → GoesOnAlong g.rule g.start g.moves
    → IsThere root b g → Leads root b g
there_leads t (Attack i) b g accepted along at = record {
  node = i;
  is_its = refl;
  leads = ap (λ (r : Bool). cond r (Some i) None) (subst (λ (c : Grid). same_board b c ≡ true) (sym at) (same_board-itself b));
}
there_leads t (Defend a) b g accepted along there =
    let q = there.0 in
    let before = there.1 in
    let went : GoesOnAlong g.rule g.start (q ∷ before) = subst (GoesOnAlong g.rule g.start) there.2 along in
    let on : outcome g.rule b q ≡ GoesOn = ap (λ (c : Grid). outcome g.rule c q) (sym there.3) ∙ went.1 in
    let reply = answered_at g.rule t a b q accepted on in
    record {
      node = reply.0;
      is_its = (q, ap last_move there.2, reply.1);
      leads = start_leads a b g.start g.moves q before there.2 there.3 ∙ reply.1;
    }

come_leads : (t : List Node) (r : HeldRoot) (g : Game) → IsHeldRoot t r → GoesOnAlong g.rule g.start g.moves → HasComeTo r g
    → (node : ℕ) × IsNodeOf r.root g node × (root_node g r ≡ Some node)
come_leads t r g held along come = search (rules, there_leads, same_rule-itself)

-- ---- a root to which it has not come leads nowhere

start_there : (a : Answers) (b start : Grid) (moves : List Point) (i : ℕ) → start_answer a b start moves ≡ Some i
    → (q : Point) × (before : List Point) × (moves ≡ q ∷ before) × (board_after start before ≡ b)
start_there a b start [] i h = cc
start_there a b start (q ∷ before) i h = (
  q,
  before,
  refl,
  sym (same_board-is b (board_after start before) (if_some (same_board b (board_after start before)) (answer a q) i h).0),
)

node_there : (root : Root) (b : Grid) (g : Game) (i : ℕ) → node_at root b g ≡ Some i → IsThere root b g
node_there (Attack j) b g i h = sym (same_board-is b (board_of g) (if_some (same_board b (board_of g)) (Some j) i h).0)
node_there (Defend a) b g i h = start_there a b g.start g.moves i h

leads_come : (r : HeldRoot) (g : Game) (i : ℕ) → root_node g r ≡ Some i → HasComeTo r g
leads_come r g i h = search (rules, if_some, same_rule-is, node_there)

leads_nowhere : (r : HeldRoot) (g : Game) → (HasComeTo r g → ⊥) → root_node g r ≡ None
leads_nowhere r g elsewhere = by_node (root_node g r) refl where
  by_node : (o : Option ℕ) → root_node g r ≡ o → o ≡ None
  by_node None e = refl
  by_node (Some i) e = absurd (elsewhere (leads_come r g i e))

-- ---- the first root to which it has come

first_come : (g : Game) (earlier : List HeldRoot) (r : HeldRoot) (later : List HeldRoot) (i : ℕ)
    → All (λ e. HasComeTo e g → ⊥) earlier → root_node g r ≡ Some i → first_node g (earlier ++ r ∷ later) ≡ Some i
first_come g [] r later i none led = ap (λ (o : Option ℕ). option_or o (first_node g later)) led
first_come g (e ∷ earlier) r later i none led = ap (λ (o : Option ℕ). option_or o (first_node g (earlier ++ r ∷ later)))
    (leads_nowhere e g (none 0 e (omega arith))) ∙ first_come g earlier r later i (λ k d low. none (suc k) d (omega (arith, low))) led

-- the game by the root begins
by_root : (s : State) (c : Command) (g : Game) (earlier : List HeldRoot) (r : HeldRoot) (later : List HeldRoot)
    → IsHeld s.held → LawfulState s → s.held.roots ≡ earlier ++ r ∷ later
    → All (λ e. HasComeTo e g → ⊥) earlier → row_of s c ≡ Chooses g → by_followed s.held g ≡ None → HasComeTo r g → BeginsByRoot s c g r
by_root s c g earlier r later held lawful roots none row followed come =
    let to_move : IsToMove g = subst (LawfulRow s.held) row (row-lawful s c lawful) in
    let is_held : IsHeldRoot s.held.table r = All-contains (IsHeldRoot s.held.table) (earlier ++ r ∷ later) r
    (subst (All (IsHeldRoot s.held.table)) roots held.roots) (Contains-append_right earlier (r ∷ later) r (0, omega arith, refl)) in
    let led = come_leads s.held.table r g is_held to_move.along come in
    let b : BeginsHeldGame s c g led.0 =
    record { chooses = row; not_followed = followed; leads = ap (first_node g) roots ∙ first_come g earlier r later led.0 none led.2 } in
    let at = stands_where s c g led.0 held lawful b in
    let step = begins s c g led.0 at.1 b at.3.node in
    record {
      node = led.0;
      is_its = led.1;
      begins = b;
      attack = at.1.attack;
      plays = ap (option_map (λ (n : Node). n.attack)) at.3.node;
      says = ap (λ (st : Step). st.reaction) step;
    }

pub roots-begin_games : RootsBeginGames
roots-begin_games held is_held before c g earlier r later roots none row followed come =
    let kept = session-lawful held (new_brain held) before (new-lawful held) in
    let s = state_after (new_brain held) before in
    by_root s c g earlier r later (subst IsHeld (sym kept.1) is_held) kept.0
    (ap (λ (h : HeldTable). h.roots) kept.1 ∙ roots) none row (ap (λ (h : HeldTable). by_followed h g) kept.1 ∙ followed) come
