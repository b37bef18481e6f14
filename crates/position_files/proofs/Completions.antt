-- What a text that has begun can go on with, and that what a table's text names fits.
use Rattle.std.proofs.Common.{rules, ◌≡◌, ℕ, zero, suc, ◌≤◌, ◌<◌, true, refl, arith, List, [], ◌∷◌, ◌++◌, length, replicate, get_or, Some}
use Rattle.std.specs.List.{AllByRecursion}
use Rattle.position_files.proofs.Common.{Grid, IsBoard, is_on, Point, Answers, names_below, IsNode, IsTable, TableOnBoard, RepliesOn, Reply}
use Rattle.position_files.proofs.Common.{Rest, To, Node, MAX_NODES, IsWithin, IsSide, AnswersFit, NodeFits, ReplyFits, RestFits}
use Rattle.game_rules.proofs.Boards.{on_x, on_y}
use Rattle.strategy_graph.proofs.Common.{is_winning, rest_node, NamesOnBoard}
use Rattle.strategy_graph.proofs.Naming.{reply-below, rest-below}
use Rattle.strategy_graph.proofs.Filling.{corner, node_at}
use Rattle.position_files.proofs.Stones.{is_on_within}

pub corner_on : (b : Grid) → IsBoard b → NamesOnBoard b corner
corner_on b ok = search (rules, is_on_within)

corner_fits : (width height : ℕ) → IsSide width → IsSide height → NodeFits width height corner
corner_fits width height wide high = search rules

corners_fit : (width height m : ℕ) → IsSide width → IsSide height → AllByRecursion (NodeFits width height) (replicate m corner)
corners_fit width height zero wide high = tt
corners_fit width height (suc m) wide high = (corner_fits width height wide high, corners_fit width height m wide high)

pub filled_fit : (width height m : ℕ) (nodes : List Node) → IsSide width → IsSide height → AllByRecursion (NodeFits width height) nodes
    → AllByRecursion (NodeFits width height) (nodes ++ replicate m corner)
filled_fit width height m [] wide high all = corners_fit width height m wide high
filled_fit width height m (n ∷ ns) wide high all = (all.0, filled_fit width height m ns wide high all.1)

-- ---- what is on the board, in a table, fits

pub all_at : {X : Type 0} (P : X → Type 0) (xs : List X) (i : ℕ) (d : X) → AllByRecursion P xs → i < length xs → P (get_or xs i d)
all_at P [] i d all within = absurd (omega arith)
all_at P (x ∷ xs) zero d all within = all.0
all_at P (x ∷ xs) (suc i) d all within = all_at P xs i d all.1 (omega arith)

pub all_from : {X : Type 0} (P : X → Type 0) (xs : List X) (d : X) → ((i : ℕ) → i < length xs → P (get_or xs i d)) → AllByRecursion P xs
all_from P [] d h = tt
all_from P (x ∷ xs) d h = (h 0 (omega arith), all_from P xs d (λ i within. h (suc i) (omega arith)))

within_on : (b : Grid) (p : Point) → is_on b p ≡ true → IsWithin b.width b.height p
within_on b p on_it = record { column = on_x b p on_it; row = on_y b p on_it }

rest_fits : (r : Rest) (k : ℕ) → k ≤ MAX_NODES → ((j : ℕ) → rest_node r ≡ Some j → j < k) → RestFits r
rest_fits (To j) k few h = let low : j < k = h j refl in omega (arith, low, few)
rest_fits _ k few h = tt

pub answers_fit : (b : Grid) (a : Answers) (k : ℕ) → RepliesOn b a.replies → names_below a k ≡ true → k ≤ MAX_NODES
    → (is_winning a.rest ≡ true → a.replies ≡ []) → AnswersFit b.width b.height a
answers_fit b a k on_it below few winning =
    let none : Reply = record { at = record { x = 0; y = 0 }; next = 0 } in
    record {
      replies = all_from (ReplyFits b.width b.height) a.replies none (λ i within. record {
        at = within_on b (get_or a.replies i none).at (all_at (λ (r : Reply). is_on b r.at ≡ true) a.replies i none on_it within);
        next = let low = reply-below a k i none below within in omega (arith, low, few);
      });
      rest = rest_fits a.rest k few (λ j is. rest-below a k j below is);
      winning = winning;
    }

pub node_fits : (b : Grid) (n : Node) (i : ℕ) → NamesOnBoard b n → IsNode n i → i ≤ MAX_NODES → NodeFits b.width b.height n
node_fits b n i on_it is few = search (rules, within_on, answers_fit)

pub nodes_fit : (b : Grid) (ns : List Node) → TableOnBoard b ns → IsTable ns → AllByRecursion (NodeFits b.width b.height) ns
nodes_fit b ns on_it table = all_from (NodeFits b.width b.height) ns corner (λ i within.
    let size = table.size in
    node_fits b (get_or ns i corner) i (all_at (NamesOnBoard b) ns i corner on_it within) (node_at ns i table within) (omega arith))
