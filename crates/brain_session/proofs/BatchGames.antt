-- The board of a batch, whose stones are put one by one, and the side to move on it.
use Rattle.std.proofs.Common.{Option, Some, None, All, AllPairs, IsSome, count_by, ◌≡◌, ℕ, zero, suc, ◌+◌, ◌≤◌, ◌<◌, Bool, true, false}
use Rattle.std.proofs.Common.{cond, refl, sym, ap, ◌∙◌, arith, List, [], ◌∷◌, length, get_or, take, IfSome, MatchOption, not, rules}
use Rattle.std.proofs.lemmas.List.Sums.{fold_more, sum_by-cons}
use Rattle.brain_session.proofs.Common.{Grid, is_on, is_empty, put, IsBoard, is_stone_of, stones_of, is_same_point, other, mover, Side}
use Rattle.brain_session.proofs.Common.{Point, BatchStone, Batch, empty_board, side_of, with_batch_stones, colour_by, colour_in, StonesFit}
use Rattle.game_rules.proofs.Common.{stone_of, NamesMover}
use Rattle.game_rules.proofs.Boards.{is_empty-on, is_empty-put}
use Rattle.game_rules.proofs.Points.{is_same_point-apart}
use Rattle.game_rules.proofs.Positions.{IsBoard-put, stones_of-put}
use Rattle.game_rules.proofs.Cells.{own_stone, other_stone}
use Rattle.brain_session.proofs.SessionBoards.{empty-empty, no-stones}

-- an item of a list is the same whatever stands for those past its end
same_item : (stones : List BatchStone) (i : ℕ) (s t : BatchStone) → i < length stones → get_or stones i s ≡ get_or stones i t
same_item [] i s t h = absurd (omega arith)
same_item (u ∷ stones) zero s t h = refl
same_item (u ∷ stones) (suc i) s t h = same_item stones i s t (omega arith)

-- the points of the stones from place i on are empty
pub record Waits (stones : List BatchStone) (i : ℕ) (board : Grid) : Type 0 where
  pub empty : (k : ℕ) (d : BatchStone) → i ≤ k → k < length stones → is_empty board (get_or stones k d).at ≡ true

-- the stones fit the empty board, whether a batch is read or not
pub fit-stones : (o : Option Batch) (board : Grid) (stones : List BatchStone) → IfSome o (StonesFit board)
    → MatchOption o (stones ≡ []) (λ b. stones ≡ b.stones) → StonesFit board (record { stones = stones; bad = false })
fit-stones o board stones fit same = search rules

pub waits-next : (stones : List BatchStone) (i : ℕ) (start board next : Grid) (side : Side) (d : BatchStone)
    → StonesFit start (record { stones = stones; bad = false }) → Waits stones i board → i < length stones
    → next ≡ put board side (get_or stones i d).at → Waits stones (i + 1) next
waits-next stones i start board next side d fit waits less put_here = rw put_here (record {
  empty = λ k e from more.
      let here : Point = (get_or stones i d).at in
      let there : Point = (get_or stones k e).at in
      let on : is_on board here ≡ true = is_empty-on board here (waits.empty i d (omega arith) less) in
      let apart : is_same_point here there ≡ false = ap (λ (t : BatchStone). is_same_point here t.at) (same_item stones k e d more)
      ∙ fit.distinct i k d (omega arith) more in
      is_empty-put board side here there on (is_same_point-apart here there apart) ∙ waits.empty k e (omega arith) more;
})

pub put-more : (brain side : Side) (start board next : Grid) (stones : List BatchStone) (i : ℕ) (d : BatchStone) → i < length stones
    → side ≡ side_of brain (get_or stones i d) → next ≡ put board side (get_or stones i d).at
    → board ≡ with_batch_stones brain start (take i stones) → next ≡ with_batch_stones brain start (take (i + 1) stones)
put-more brain side start board next stones i d less by put_here so_far = search (rules, fold_more)

-- the stones on the board after these were put are those before, and these
stones_of-with : (brain s : Side) (stones : List BatchStone) (b : Grid) → IsBoard b → All (λ x. is_empty b x.at ≡ true) stones
    → AllPairs (λ x u. is_same_point x.at u.at ≡ false) stones
    → stones_of (with_batch_stones brain b stones) s ≡ stones_of b s + count_by (λ x. is_stone_of s (stone_of (side_of brain x))) stones
stones_of-with brain s [] b board empty distinct = omega arith
stones_of-with brain s (x ∷ xs) b board empty distinct =
    let here : is_empty b x.at ≡ true = empty 0 x (omega arith) in
    let c : Grid = put b (side_of brain x) x.at in
    let one : stones_of c s ≡ stones_of b s + cond (is_stone_of s (stone_of (side_of brain x))) 1 0 =
    stones_of-put b (side_of brain x) s x.at board here in
    let rest : stones_of (with_batch_stones brain c xs) s ≡ stones_of c s + count_by (λ y. is_stone_of s (stone_of (side_of brain y))) xs =
    stones_of-with brain s xs c (IsBoard-put b (side_of brain x) x.at board)
    (λ k d less. is_empty-put b (side_of brain x) x.at (get_or xs k d).at (is_empty-on b x.at here)
    (is_same_point-apart x.at (get_or xs k d).at (distinct 0 (suc k) d (omega arith) (omega arith))) ∙ empty (suc k) d (omega arith))
    (λ i j d less more. distinct (suc i) (suc j) d (omega arith) (omega arith)) in
    let more = sum_by-cons (λ (y : BatchStone). cond (is_stone_of s (stone_of (side_of brain y))) 1 0) x xs in
    omega arith

count_by-same : (f g : BatchStone → Bool) (xs : List BatchStone) → ((x : BatchStone) → f x ≡ g x) → count_by f xs ≡ count_by g xs
count_by-same f g [] same = refl
count_by-same f g (x ∷ xs) same = search (rules, sum_by-cons, count_by-same f g xs same)

mover-by : (brain : Side) (b : Grid) (own others : ℕ) → stones_of b brain ≡ own → stones_of b (other brain) ≡ others
    → colour_by own others ≡ Some brain → mover b ≡ brain
mover-by brain b own others mine theirs colour = search rules

none : (n k : ℕ) → n ≡ 0 → n + k ≡ k
none n k e = omega arith

-- the stones of either side on the board of a batch are those that the batch names as its own
pub batch-counts : (brain : Side) (width height : ℕ) (stones : List BatchStone) (bad : Bool) → IsBoard (empty_board width height)
    → StonesFit (empty_board width height) (record { stones = stones; bad = bad })
    → (stones_of (with_batch_stones brain (empty_board width height) stones) brain ≡ count_by (λ x. x.own) stones)
    × (stones_of (with_batch_stones brain (empty_board width height) stones) (other brain) ≡ count_by (λ x. not x.own) stones)
batch-counts brain width height stones bad board fit =
    let b : Grid = empty_board width height in
    let empty : All (λ x. is_empty b x.at ≡ true) stones =
    λ k d less. empty-empty width height (get_or stones k d).at (fit.on_board k d less) in (
      stones_of-with brain brain stones b board empty fit.distinct
          ∙ none (stones_of b brain) (count_by (λ x. is_stone_of brain (stone_of (side_of brain x))) stones) (no-stones width height brain)
          ∙ count_by-same (λ x. is_stone_of brain (stone_of (side_of brain x))) (λ x. x.own) stones (λ x. own_stone brain x.own),
      stones_of-with brain (other brain) stones b board empty fit.distinct
          ∙ none (stones_of b (other brain)) (count_by (λ x. is_stone_of (other brain) (stone_of (side_of brain x))) stones)
          (no-stones width height (other brain)) ∙ count_by-same
          (λ x. is_stone_of (other brain) (stone_of (side_of brain x))) (λ x. not x.own) stones (λ x. other_stone brain x.own),
    )

-- on the board of a batch whose stones name the brain's colour, the brain is to move
pub batch-mover : (brain : Side) (width height : ℕ) (stones : List BatchStone) (bad : Bool) → IsBoard (empty_board width height)
    → StonesFit (empty_board width height) (record { stones = stones; bad = bad }) → colour_in stones ≡ Some brain
    → mover (with_batch_stones brain (empty_board width height) stones) ≡ brain
batch-mover brain width height stones bad board fit colour =
    let counts = batch-counts brain width height stones bad board fit in
    mover-by brain (with_batch_stones brain (empty_board width height) stones)
    (count_by (λ x. x.own) stones) (count_by (λ x. not x.own) stones) counts.0 counts.1 colour

-- where the counts of the batch's board name the brain as the side to move, its stones name the brain's colour
pub batch-colour : (brain : Side) (b : Grid) (own others : ℕ) → NamesMover b → mover b ≡ brain → stones_of b brain ≡ own
    → stones_of b (other brain) ≡ others → colour_by own others ≡ Some brain
batch-colour brain b own others names turn mine theirs = search rules

-- the same on the board that a batch gave, where one is read
pub batch-to_move : (o : Option Batch) (brain : Side) (width height : ℕ) (c : Grid) → IsSome o → IsBoard (empty_board width height)
    → IfSome o (StonesFit (empty_board width height)) → IfSome o (λ b. Some brain ≡ colour_in b.stones)
    → IfSome o (λ b. c ≡ with_batch_stones brain (empty_board width height) b.stones) → mover c ≡ brain
batch-to_move None brain width height c read board fit colour here = absurd (cc)
batch-to_move (Some b) brain width height c read board fit colour here =
    ap mover here ∙ batch-mover brain width height b.stones b.bad board fit (sym colour)
