-- The tree of moves of a win by continuous fours.
use Rattle.std.specs.Prelude.{ℕ, zero, suc, Bool, true, false, List, [], ◌∷◌, Option, Some, None}
use Rattle.game_rules.specs.Grid.{Grid, points_of}
use Rattle.game_rules.specs.Play.{outcome, mover, after}
use Rattle.game_rules.specs.Games.{has_five, four_move}
use Rattle.game_rules.specs.declared.RuleKind.{RuleKind}
use Rattle.game_rules.specs.declared.Outcome.{Outcome}
use Rattle.game_rules.specs.declared.Outcome.TheVariants.{Refused, Wins, Fouls, Draws, GoesOn}
use Rattle.game_rules.specs.declared.Point.{Point}
use Rattle.strategy_graph.specs.declared.Reply.{Reply}
use Rattle.strategy_compiler.specs.Trees.{Tree, Branches, Leaf, Fork, NoBranch, Branch}

-- these branches, and before them one for the reply q, if it goes on
abbrev pub branch_if : Outcome → Point → Tree → Branches → Branches
branch_if Refused q s bs = bs
branch_if Wins q s bs = bs
branch_if (Fouls f) q s bs = bs
branch_if Draws q s bs = bs
branch_if GoesOn q s bs = Branch q s bs

-- a branch for each of these replies that goes on
abbrev pub branches_for : (Point → Outcome) → (Point → Tree) → List Point → Branches
branches_for o next [] = NoBranch
branches_for o next (q ∷ qs) = branch_if (o q) q (next q) (branches_for o next qs)

-- the tree that plays the point: it wins, or has these branches; without a point it says nothing
abbrev pub plan_from : Bool → Option Point → (Point → Branches) → Tree
plan_from wins None branches = Leaf (record { x = 0; y = 0 })
plan_from true (Some p) branches = Leaf p
plan_from false (Some p) branches = Fork p (branches p)

-- The tree that always plays the chosen move of a win by fours within n moves, and has a branch for each reply that goes
-- on, in reading order. A five point is a winning leaf. It is asked only where there is such a win.
unfoldable pub four_plan : RuleKind → ℕ → Grid → Tree
four_plan rule zero b = plan_from true None (λ p. NoBranch)
four_plan rule (suc n) b =
    plan_from (has_five rule b (mover b)) (four_move rule (suc n) b)
    (λ p. branches_for (outcome rule (after b p)) (λ q. four_plan rule n (after (after b p) q)) (points_of b))

-- these answers, and before them one for the reply, if it goes on
abbrev pub answer_if : Outcome → Reply → List Reply → List Reply
answer_if Refused r rs = rs
answer_if Wins r rs = rs
answer_if (Fouls f) r rs = rs
answer_if Draws r rs = rs
answer_if GoesOn r rs = r ∷ rs

-- the answer to each of these replies that goes on
abbrev pub answers_for : (Point → Outcome) → (Point → ℕ) → List Point → List Reply
answers_for o next [] = []
answers_for o next (q ∷ qs) = answer_if (o q) (record { at = q; next = next q }) (answers_for o next qs)
