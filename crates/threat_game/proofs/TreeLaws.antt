-- How many positions of the game of threats stand behind what is counted. How many positions of the game of threats stand behind the moves
-- that are tried, and behind the replies.
use Rattle.std.proofs.Common.{◌≡◌, ℕ, zero, suc, ◌+◌, ◌≤◌, Bool, true, false, cond, ◌&&◌, ◌||◌, not, refl, sym, ap, subst, ◌∙◌, arith, List}
use Rattle.std.proofs.Common.{[], ◌∷◌, map, All, ◌<◌, length, get_or, ◌-◌, Option, IfSome, IsTrue, rules}
use Rattle.std.specs.List.{list_any, filter, sum_by, list_all}
use Rattle.std.proofs.lemmas.List.Sums.{sum_by-cons}
use Rattle.std.proofs.lemmas.Bool.{and_parts, not-true}
use Rattle.game_rules.specs.declared.RuleKind.{RuleKind}
use Rattle.game_rules.specs.declared.Outcome.{Outcome}
use Rattle.game_rules.specs.declared.Outcome.TheVariants.{GoesOn}
use Rattle.game_rules.specs.declared.Point.{Point}
use Rattle.game_rules.proofs.Common.{Grid, points_of, is_same_point, IsPosition, outcome, mover, other, after, goes_on, has_five}
use Rattle.game_rules.proofs.Common.{if_goes_on, is_double_point, behind_replies, has_threat, WinsOr, WinsByThreats}
use Rattle.game_rules.proofs.Boards.{is_empty-on}
use Rattle.game_rules.proofs.Positions.{GoesOn-empty, GoesOn-on, IsPosition-after}
use Rattle.game_rules.proofs.Points.{points-found, filter-passes}
use Rattle.game_rules.proofs.Fives.{five-empty}
use Rattle.game_rules.proofs.Outcomes.{if_goes_on-one, goes_on_with-parts}
use Rattle.game_rules.proofs.PointLists.{sum-least, filter-sum, some-counts}
use Rattle.row_shapes.proofs.FiveLaws.{has_five-none, none-left, none-short}
use Rattle.strategy_graph.specs.declared.Node.{Node}
use Rattle.strategy_compiler.specs.declared.wins.WrittenWin.{WrittenWin}
use Rattle.threat_game.specs.declared.doubles.DoublePoint.{DoublePoint}
use Rattle.threat_game.specs.declared.replies.Judged.{Judged}
use Rattle.threat_game.specs.declared.replies.Judged.TheVariants.{Five, DoublePoint as DoubleWins, Last, Open}
use Rattle.threat_game.specs.declared.replies.Child.{Child}
use Rattle.threat_game.proofs.Common.{is_threat_move, is_safe_threat, threat_tree, IsDoubleWin, answer_nodes, one_if, IsJudged, IsChild}
use Rattle.threat_game.proofs.Common.{counted_for, moves_for, nowhere, move_at, LosesToThreats, has_reply, is_tried, tried_moves}
use Rattle.threat_game.proofs.Common.{IsThreatWin, is_open, nodes_for}
use Rattle.threat_game.proofs.AttackLaws.{threat-by}

-- ---- sums over points

one-or : (a r : Bool) → one_if (a || r) ≤ one_if a + one_if r
one-or a r = search rules

one-split : (g a : Bool) (k : ℕ) → (g ≡ true → 1 ≤ k) → one_if (g && a) + one_if (g && not a) ≤ k
one-split g a k low = search rules

-- a reply on a point, and one beside it, are two of the replies
sum-two : (f : Point → ℕ) (g a : Point → Bool) → ((q : Point) → g q ≡ true → 1 ≤ f q) → (ps : List Point)
    → one_if (list_any (λ q. g q && a q) ps) + one_if (list_any (λ q. g q && not (a q)) ps) ≤ sum_by f ps
sum-two f g a low [] = omega arith
sum-two f g a low (p ∷ ps) = search (rules, one-or, one-split, sum_by-cons, sum-two f g a low ps)

-- ---- the game of threats has at least as many positions

tree_by : (r : Bool) (k : ℕ) → 1 ≤ cond r 1 (1 + k)
tree_by r k = search rules

pub tree-positive : (rule : RuleKind) (n : ℕ) (b : Grid) → 1 ≤ threat_tree rule n b
unfolding threat_tree
tree-positive rule n b = search (rules, tree_by)

-- the other side has no five point after a move, where it has none before
pub still-safe : (rule : RuleKind) (b : Grid) (p : Point) → IsPosition rule b → outcome rule b p ≡ GoesOn
    → has_five rule b (other (mover b)) ≡ false → has_five rule (after b p) (other (mover b)) ≡ false
still-safe rule b p lawful on none =
    has_five-none rule (after b p) (other (mover b))
    (none-left rule b (mover b) p lawful.board (GoesOn-empty rule b p on) (none-short rule b (other (mover b)) none))

module _ (rule : RuleKind) (b : Grid) (d : DoublePoint) (lawful : IsPosition rule b) (wins : IsDoubleWin rule b d) where
  -- after a double point its side has a five point
  pub double-five : has_five rule (after b d.at) (mover b) ≡ true
  double-five = points-found (after b d.at) _ d.first
      (is_empty-on (after b d.at) d.first (five-empty rule (after b d.at) (mover b) d.first wins.both.first)) wins.both.first

  pub double-threat : is_threat_move rule b d.at ≡ true
  double-threat = threat-by rule b d.at wins.on
      (ap (λ r. r || list_any (is_double_point rule (after b d.at) (mover b)) (points_of (after b d.at))) double-five)

  double-safe : is_safe_threat rule b d.at ≡ true
  double-safe = ap (λ r. r && not (has_five rule (after b d.at) (other (mover b)))) double-threat
      ∙ ap not (still-safe rule b d.at lawful wins.on wins.safe)

  pub double-counted : (n : ℕ) → has_five rule b (mover b) ≡ false → 1 + answer_nodes rule b d ≤ threat_tree rule (suc (suc n)) b
  unfolding threat_tree
  double-counted n none =
      let c : Grid = after b d.at in
      let f : Point → ℕ = λ p. cond (is_safe_threat rule b p) (behind_replies rule (threat_tree rule (suc n)) (after b p)) 0 in
      let here : f d.at ≡ behind_replies rule (threat_tree rule (suc n)) c =
      ap (λ r. cond r (behind_replies rule (threat_tree rule (suc n)) c) 0) double-safe in
      let total : threat_tree rule (suc (suc n)) b ≡ 1 + sum_by f (points_of b) = ap (λ r. cond r 1 (1 + sum_by f (points_of b))) none in
      let least = sum-least f b d.at (GoesOn-on rule b d.at wins.on) in
      let two = sum-two (λ q. if_goes_on (outcome rule c q) (threat_tree rule (suc n) (after c q))) (λ q. goes_on (outcome rule c q))
      (λ q. is_same_point q d.first)
      (λ q h. if_goes_on-one (outcome rule c q) (threat_tree rule (suc n) (after c q)) (tree-positive rule (suc n) (after c q)) h)
      (points_of c) in
      omega (arith, here, total, least, two)

two_more : (n : ℕ) → 2 ≤ n → (m : ℕ) × (n ≡ suc (suc m))
two_more zero h = absurd (omega arith)
two_more (suc zero) h = absurd (omega arith)
two_more (suc (suc m)) h = (m, refl)

-- what is counted for a position is no more than the game of threats has there
pub counted-few : (rule : RuleKind) (moves : ℕ) (b : Grid) (judged : Judged) → IsPosition rule b → IsJudged rule b judged
    → moves_for judged ≤ moves → counted_for judged ≤ threat_tree rule moves b
counted-few rule moves b (Five w) lawful h l = tree-positive rule moves b
counted-few rule moves b (DoubleWins d nodes) lawful h l =
    let more = two_more moves l in
    let same : threat_tree rule moves b ≡ threat_tree rule (suc (suc more.0)) b = ap (λ (n : ℕ). threat_tree rule n b) more.1 in
    omega (arith, double-counted rule b d lawful h.wins more.0 h.no_five, h.nodes_are, same)
counted-few rule moves b (Last p) lawful h l = tree-positive rule moves b
counted-few rule moves b Open lawful h l = tree-positive rule moves b

-- ---- the children are counted

module _ (rule : RuleKind) (moves : ℕ) (c : Grid) (lawful : IsPosition rule c) where
  count_at : Point → ℕ
  count_at q = if_goes_on (outcome rule c q) (threat_tree rule moves (after c q))

  child-few : (child : Child) → IsChild rule moves c child → counted_for child.judged ≤ count_at child.at
  unfolding count_at
  child-few child is =
      let few = counted-few rule moves (after c child.at) child.judged (IsPosition-after rule c child.at lawful is.on) is.judged
      is.enough in
      subst (λ (o : Outcome). counted_for child.judged ≤ if_goes_on o (threat_tree rule moves (after c child.at))) (sym is.on) few

  children-sum : (f : Child → ℕ) → ((child : Child) → IsChild rule moves c child → f child ≤ count_at child.at)
      → (ps : List Point) (items : List Child) → map (λ child. child.at) items ≡ filter (λ q. goes_on (outcome rule c q)) ps
      → All (IsChild rule moves c) items → sum_by f items ≤ sum_by count_at ps
  children-sum f low [] [] e all = omega arith
  children-sum f low [] (x ∷ items) e all = cc
  children-sum f low (p ∷ ps) items e all = by_test (goes_on (outcome rule c p)) items e all (children-sum f low ps) where
    by_test : (r : Bool) (items : List Child) → map (λ child. child.at) items ≡ cond r (p ∷ filter (λ q. goes_on (outcome rule c q)) ps)
        (filter (λ q. goes_on (outcome rule c q)) ps) → All (IsChild rule moves c) items
        → ((more : List Child) → map (λ child. child.at) more ≡ filter (λ q. goes_on (outcome rule c q)) ps
        → All (IsChild rule moves c) more → sum_by f more ≤ sum_by count_at ps)
        → sum_by f items ≤ sum_by count_at (p ∷ ps)
    by_test true [] e all rest = cc
    by_test true (x ∷ items) e all rest =
        let at : x.at ≡ p = cc in
        let later : map (λ child. child.at) items ≡ filter (λ q. goes_on (outcome rule c q)) ps = cc in
        let here = low x (all 0 x (omega arith)) in
        let there : count_at x.at ≡ count_at p = ap count_at at in
        let few = rest items later (λ k d l. all (suc k) d (omega arith)) in
        omega (arith, here, there, few, sum_by-cons count_at p ps, sum_by-cons f x items)
    by_test false items e all rest =
        omega (arith, rest items e all, sum_by-cons count_at p ps)

  -- what is no more at each child than the positions of the game there is no more in all
  pub children-within : (f : Child → ℕ)
      → ((child : Child) → IsChild rule moves c child
      → f child ≤ if_goes_on (outcome rule c child.at) (threat_tree rule moves (after c child.at)))
      → (items : List Child) → map (λ child. child.at) items ≡ filter (λ q. goes_on (outcome rule c q)) (points_of c)
      → All (IsChild rule moves c) items → sum_by f items ≤ behind_replies rule (threat_tree rule moves) c
  unfolding count_at
  children-within f low items e all = children-sum f low (points_of c) items e all

  pub children-few : (items : List Child) → map (λ child. child.at) items ≡ filter (λ q. goes_on (outcome rule c q)) (points_of c)
      → All (IsChild rule moves c) items → sum_by (λ child. counted_for child.judged) items ≤ behind_replies rule (threat_tree rule moves) c
  unfolding count_at
  children-few items e all = children-sum (λ (child : Child). counted_for child.judged) child-few (points_of c) items e all

-- ---- a move that has to be tried

-- what a move that has to be tried is
pub record IsTriedMove (rule : RuleKind) (b : Grid) (p : Point) : Type 0 where
  pub on : outcome rule b p ≡ GoesOn
  pub threat : has_threat rule (after b p) (mover b) ≡ true
  pub safe : has_five rule (after b p) (other (mover b)) ≡ false
  pub reply : has_reply rule (after b p) ≡ true
  pub is_safe : is_safe_threat rule b p ≡ true

pub tried-is : (rule : RuleKind) (b : Grid) (p : Point) → is_tried rule b p ≡ true → IsTriedMove rule b p
unfolding is_tried is_threat_move
tried-is rule b p h = search (rules, and_parts, goes_on_with-parts, not-true)

passes-at : (f : Point → Bool) (ps : List Point) → list_all f ps ≡ true → (k : ℕ) → k < length ps → f (get_or ps k nowhere) ≡ true
passes-at f [] h k low = absurd (omega arith)
passes-at f (p ∷ ps) h zero low = (and_parts (f p) (list_all f ps) h).0
passes-at f (p ∷ ps) h (suc k) low = passes-at f ps (and_parts (f p) (list_all f ps) h).1 k (omega arith)

pub tried-at : (rule : RuleKind) (b : Grid) (k : ℕ) → k < length (tried_moves rule b) → IsTriedMove rule b (move_at (tried_moves rule b) k)
tried-at rule b k low = tried-is rule b (move_at (tried_moves rule b) k)
    (passes-at (is_tried rule b) (tried_moves rule b) (filter-passes (is_tried rule b) (points_of b)) k low)

-- ---- sums

-- the positions behind the moves to be tried are fewer than those of the game of threats
pub tried-behind : (rule : RuleKind) (n : ℕ) (b : Grid) → has_five rule b (mover b) ≡ false
    → 1 + sum_by (λ p. behind_replies rule (threat_tree rule (suc n)) (after b p)) (tried_moves rule b) ≤ threat_tree rule (suc (suc n)) b
unfolding threat_tree
tried-behind rule n b none =
    let h : Point → ℕ = λ p. behind_replies rule (threat_tree rule (suc n)) (after b p) in
    let total : threat_tree rule (suc (suc n)) b ≡ 1 + sum_by (λ p. cond (is_safe_threat rule b p) (h p) 0) (points_of b) =
    ap (λ r. cond r 1 (1 + sum_by (λ p. cond (is_safe_threat rule b p) (h p) 0) (points_of b))) none in
    let few = filter-sum (is_tried rule b) (is_safe_threat rule b) h (λ p e. (tried-is rule b p e).is_safe) (points_of b) in
    omega (arith, total, few)

-- ---- replies

pub replies-positive : (rule : RuleKind) (n : ℕ) (c : Grid) → has_reply rule c ≡ true → 1 ≤ behind_replies rule (threat_tree rule n) c
replies-positive rule n c some = search (rules, some-counts, if_goes_on-one, tree-positive)

-- a win within the depth has few moves
pub few-moves : (rule : RuleKind) (n : ℕ) (b : Grid) (c : List Node) (win : WrittenWin) → n ≤ 60 → IsThreatWin rule n b c win
    → win.moves < 256
few-moves rule n b c win low is = let m = is.written.within in omega (arith, low, m)

-- a win that is compiled takes no more moves than are left
pub moves-few : (rule : RuleKind) (left least : ℕ) (b : Grid) (t : List Node) (win : Option WrittenWin) → least ≤ left → left < 256
    → IfSome win (λ (found : WrittenWin). (moves : ℕ) → least ≤ moves → IsThreatWin rule moves b t found)
    → IfSome win (λ (found : WrittenWin). found.moves < 256)
moves-few rule left least b t win enough fits h = search rules

pub by_move : (rule : RuleKind) (n : ℕ) (b : Grid) (p : Point) → outcome rule b p ≡ GoesOn → has_threat rule (after b p) (mover b) ≡ true
    → LosesToThreats rule n (after b p) → WinsByThreats rule (suc n) b
by_move rule n b p on threat loses = (
  p,
  subst (λ (o : Outcome). WinsOr o (IsTrue (has_threat rule (after b p) (mover b)) × LosesToThreats rule n (after b p))) (sym on)
      (threat, loses),
)

pub counted-one : (judged : Judged) → 1 ≤ counted_for judged
counted-one judged = search rules

-- 1 for yes, and 0 for no
abbrev pub one_where : Bool → ℕ
one_where r = cond r 1 0

-- 1 for an open child
abbrev pub open_one : Child → ℕ
open_one child = one_where (is_open child.judged)

pub counted-parts : (judged : Judged) → nodes_for judged + one_where (is_open judged) ≤ counted_for judged
counted-parts judged = search rules

-- what is counted behind a child of b, if it is open
abbrev pub open_behind : RuleKind → ℕ → Grid → Child → ℕ
open_behind rule left b child = cond (is_open child.judged) (threat_tree rule left (after b child.at) - 1) 0

-- what is counted for a child and behind it is no more than the game has there
pub whole-by : (rule : RuleKind) (left : ℕ) (c : Grid) (judged : Judged) → counted_for judged ≤ threat_tree rule left c
    → counted_for judged + cond (is_open judged) (threat_tree rule left c - 1) 0 ≤ threat_tree rule left c
whole-by rule left c judged few = search rules

pub counted-within : (rule : RuleKind) (b : Grid) (d : DoublePoint) → IsPosition rule b → IsDoubleWin rule b d
    → has_five rule b (mover b) ≡ false → (n : ℕ) → 2 ≤ n → 1 + answer_nodes rule b d ≤ threat_tree rule n b
counted-within rule b d lawful wins none zero l = absurd (omega arith)
counted-within rule b d lawful wins none (suc zero) l = absurd (omega arith)
counted-within rule b d lawful wins none (suc (suc n)) l = double-counted rule b d lawful wins n none
