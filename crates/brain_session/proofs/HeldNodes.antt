-- The node to which a held root leads in a game, and that to which the first leads that leads to one.
use Rattle.std.proofs.Common.{◌≡◌, ℕ, zero, suc, ◌+◌, ◌≤◌, ◌<◌, Bool, true, cond, refl, sym, ap, subst, rules, ◌∙◌, arith, List, [], ◌∷◌}
use Rattle.std.proofs.Common.{length, drop, Option, Some, None, slice_get, Contains, IsSomeAnd, option_and_then}
use Rattle.std.specs.Option.{option_or}
use Rattle.brain_session.proofs.Common.{Grid, after, LosesOr, RuleKind, Outcome, Point, Node, Root, Attack, Defend, Answers, answer, depth}
use Rattle.brain_session.proofs.Common.{start_depth, AcceptedRoot, Accepted, HeldRoot, HeldTable, IsHeld, IsHeldRoot, Game, board_after}
use Rattle.brain_session.proofs.Common.{board_of, GoesOnAlong, same_rule, same_board, start_answer, node_at, root_node, first_node}
use Rattle.strategy_graph.proofs.Common.{root_depth, AcceptedStart}
use Rattle.strategy_graph.proofs.Following.{accepted-in_table, answer-no_deeper}
use Rattle.brain_session.proofs.PlayedMoves.{same_board-is}

-- the node to which the root leads, if there is one, in the game g
abbrev pub led_to : Game → Option HeldRoot → Option ℕ
led_to g o = option_and_then (root_node g) o

-- from root i on
first-step : (g : Game) (roots : List HeldRoot) (i : ℕ) → i < length roots
    → first_node g (drop i roots) ≡ option_or (led_to g (slice_get roots i)) (first_node g (drop (i + 1) roots))
first-step g [] i h = absurd (omega arith)
first-step g (r ∷ rs) zero h = refl
first-step g (r ∷ rs) (suc i) h =
    let more : suc i + 1 ≡ suc (i + 1) = omega arith in
    first-step g rs i (omega (arith, h)) ∙ ap (λ (n : ℕ). option_or (led_to g (slice_get rs i)) (first_node g (drop n (r ∷ rs)))) (sym more)

first-end : (g : Game) (roots : List HeldRoot) (i : ℕ) → length roots ≤ i → first_node g (drop i roots) ≡ None
first-end g [] zero h = refl
first-end g [] (suc i) h = refl
first-end g (r ∷ rs) zero h = absurd (omega (arith, h))
first-end g (r ∷ rs) (suc i) h = first-end g rs i (omega (arith, h))

module _ (g : Game) (roots : List HeldRoot) (i : ℕ) (first : Option ℕ) (so_far : first_node g (drop i roots) ≡ first) where
  -- root i leads to no node
  pub first-skip : i < length roots → led_to g (slice_get roots i) ≡ None → first_node g (drop (i + 1) roots) ≡ first
  first-skip low none = search (rules, first-step)

  -- it leads to a node
  pub first-found : i < length roots → (j : ℕ) → led_to g (slice_get roots i) ≡ Some j → Some j ≡ first
  first-found low j led = search (rules, first-step)

  -- no root is left
  pub first-none : length roots ≤ i → None ≡ first
  first-none done = sym (first-end g roots i done) ∙ so_far

-- ---- the root that leads

-- where the roots lead to a node, one of them does
pub first-led : (g : Game) (roots : List HeldRoot) (i : ℕ) → first_node g roots ≡ Some i
    → (r : HeldRoot) × Contains roots r × (root_node g r ≡ Some i)
first-led g [] i h = cc
first-led g (r ∷ rs) i h = by_root (root_node g r) refl h (first-led g rs i) where
  by_root : (o : Option ℕ) → root_node g r ≡ o → option_or o (first_node g rs) ≡ Some i
      → (first_node g rs ≡ Some i → (s : HeldRoot) × Contains rs s × (root_node g s ≡ Some i))
      → (s : HeldRoot) × Contains (r ∷ rs) s × (root_node g s ≡ Some i)
  by_root (Some j) e h later = (r, (zero, omega arith, refl), e ∙ h)
  by_root None e h later =
      let there = later h in
      let place = there.1 in
      let low = place.1 in
      (there.0, (suc place.0, omega (arith, low), place.2), there.2)

pub same_rule-is : (k m : RuleKind) → same_rule k m ≡ true → k ≡ m
same_rule-is k m h = search rules

-- a choice that is made only under a test
pub if_some : (t : Bool) (o : Option ℕ) (i : ℕ) → cond t o None ≡ Some i → (t ≡ true) × (o ≡ Some i)
if_some t o i h = search rules

start_accepted : (rule : RuleKind) (t : List Node) (a : Answers) (b start : Grid) (moves : List Point) (i : ℕ) → AcceptedStart rule t a b
    → GoesOnAlong rule start moves → start_answer a b start moves ≡ Some i → Accepted rule t i (board_after start moves)
start_accepted rule t a b start [] i accepted along h = cc
start_accepted rule t a b start (q ∷ before) i accepted along h =
    let there = if_some (same_board b (board_after start before)) (answer a q) i h in
    let here : AcceptedStart rule t a (board_after start before) =
    subst (AcceptedStart rule t a) (same_board-is b (board_after start before) there.0) accepted in
    let met = subst (λ (o : Outcome). LosesOr o (IsSomeAnd (answer a q) (λ j. Accepted rule t j (after (board_after start before) q))))
    along.1 (here q) in
    subst (λ (o : Option ℕ). IsSomeAnd o (λ j. Accepted rule t j (after (board_after start before) q))) there.1 met

node_accepted : (rule : RuleKind) (t : List Node) (root : Root) (b : Grid) (g : Game) (i : ℕ) → AcceptedRoot rule t root b
    → GoesOnAlong rule g.start g.moves → node_at root b g ≡ Some i → Accepted rule t i (board_of g)
node_accepted rule t (Attack j) b g i accepted along h =
    let there = if_some (same_board b (board_of g)) (Some j) i h in
    let same : j ≡ i = cc in
    subst (λ (c : Grid). Accepted rule t i c) (same_board-is b (board_of g) there.0) (subst (λ (k : ℕ). Accepted rule t k b) same accepted)
node_accepted rule t (Defend a) b g i accepted along h = start_accepted rule t a b g.start g.moves i accepted along h

-- the node to which an accepted root leads is accepted at the board of the game
pub root-accepted : (t : List Node) (r : HeldRoot) (g : Game) (i : ℕ) → IsHeldRoot t r → GoesOnAlong g.rule g.start g.moves
    → root_node g r ≡ Some i → Accepted g.rule t i (board_of g)
root-accepted t r g i held along h = search (rules, if_some, same_rule-is, node_accepted)

-- and it is no deeper than the root
start_no_deeper : (t : List Node) (a : Answers) (b start : Grid) (moves : List Point) (i : ℕ) → start_answer a b start moves ≡ Some i
    → depth t i ≤ start_depth t a
start_no_deeper t a b start moves i h = search (rules, answer-no_deeper, if_some)

node_no_deeper : (t : List Node) (root : Root) (b : Grid) (g : Game) (i : ℕ) → node_at root b g ≡ Some i → depth t i ≤ root_depth t root
node_no_deeper t root b g i h = search (rules, if_some, start_no_deeper)

pub root-no_deeper : (t : List Node) (r : HeldRoot) (g : Game) (i : ℕ) → root_node g r ≡ Some i → depth t i ≤ root_depth t r.root
root-no_deeper t r g i h = node_no_deeper t r.root r.board g i (if_some (same_rule r.kind g.rule) (node_at r.root r.board g) i h).1

-- the node to which the first root leads is one of the table, and accepted
pub first-accepted : (h : HeldTable) → IsHeld h → (g : Game) → GoesOnAlong g.rule g.start g.moves → (i : ℕ) → first_node g h.roots ≡ Some i
    → (i < length h.table) × Accepted g.rule h.table i (board_of g)
first-accepted h held g along i e =
    let led = first-led g h.roots i e in
    let place = led.1 in
    let root : IsHeldRoot h.table led.0 = subst (IsHeldRoot h.table) place.2 (held.roots place.0 led.0 place.1) in
    let accepted = root-accepted h.table led.0 g i root along led.2 in
    (accepted-in_table g.rule h.table i (board_of g) accepted, accepted)
