-- A batch has room for a stone on each free point: its stones stand on different points of a board, which has few.
use Rattle.std.proofs.Common.{◌≡◌, ℕ, ◌<◌, ◌≤◌, ◌*◌, ◌++◌, Bool, true, false, not, sym, subst, rules, ◌∙◌, arith, List, [], ◌∷◌, map}
use Rattle.std.proofs.Common.{length, get_or, length-append, Option, Some, None, IfSome, if◌then◌else◌}
use Rattle.std.specs.List.{list_any, IsDistinct}
use Rattle.std.specs.Cmp.{IsEquivalence}
use Rattle.std.proofs.lemmas.List.{get_or-map, length-map}
use Rattle.std.proofs.lemmas.List.Folds.{Any-from_list_any}
use Rattle.std.proofs.lemmas.Map.Keys.{IsDistinct-from_apart}
use Rattle.std.proofs.lemmas.Map.Made.{length-le_from_is_member}
use Rattle.std.proofs.Math.Nat.{mul-le-mul_left}
use Rattle.brain_session.proofs.Common.{MAX_SIDE, RuleKind, Grid, is_on, points_of, IsPosition, is_same_point, Point, HeldTable, BatchStone}
use Rattle.brain_session.proofs.Common.{Batch, Place, State, has_stone_at, board_in, IsPlayed, IsPlace, IsBrain, StonesFit, IsPointOn}
use Rattle.game_rules.proofs.Places.{points_length}
use Rattle.game_rules.proofs.Points.{is_same_point-itself, is_same_point-same, points-found}
use Rattle.brain_session.specs.declared.TheConstants.{MAX_POINTS}
use Rattle.brain_session.proofs.SessionGames.{start-lawful}
use Rattle.brain_session.proofs.Takings.{stone_fits, told-on}

same-symm : (p q : Point) → is_same_point p q ≡ is_same_point q p
same-symm p q = search (rules, is_same_point-same)

same-points : IsEquivalence is_same_point
same-points = search (rules, is_same_point-itself, same-symm, is_same_point-same)

-- the stones stand on so many points of the board at most
few-stones : (b : Grid) (stones : List BatchStone) (bad : Bool) → StonesFit b (record { stones = stones; bad = bad })
    → length stones ≤ b.width * b.height
few-stones b stones bad fit =
    let points : List Point = map (λ (s : BatchStone). s.at) stones in
    let count : length points ≡ length stones = length-map stones (λ (s : BatchStone). s.at) in
    let few = length-le_from_is_member same-points points (points_of b) apart on_board in
    let all = points_length b in
    omega (arith, count, few, all) where
      at : (k : ℕ) (p : Point) → k < length stones
          → get_or (map (λ (s : BatchStone). s.at) stones) k p ≡ (get_or stones k (record { at = p; own = true })).at
      at k p less = get_or-map (λ (s : BatchStone). s.at) stones k (record { at = p; own = true }) p less

      counted : length (map (λ (s : BatchStone). s.at) stones) ≡ length stones
      counted = length-map stones (λ (s : BatchStone). s.at)

      apart : IsDistinct is_same_point (map (λ (s : BatchStone). s.at) stones)
      apart = IsDistinct-from_apart is_same_point (map (λ (s : BatchStone). s.at) stones) (λ i j p before less.
          let last : j < length stones = omega (arith, less, counted) in
          let first : i < length stones = omega (arith, before, last) in
          let differ = fit.distinct i j (record { at = p; own = true }) before last in
          rw (at i p first, at j p last) differ)

      on_board : (q : Point) → list_any (is_same_point q) (map (λ (s : BatchStone). s.at) stones) ≡ true
          → list_any (is_same_point q) (points_of b) ≡ true
      on_board q some =
          let found = Any-from_list_any (is_same_point q) (map (λ (s : BatchStone). s.at) stones) some in
          let less : found.0 < length stones = let short = found.2 in omega (arith, short, counted) in
          let stone = get_or stones found.0 (record { at = found.1; own = true }) in
          let is : stone.at ≡ q = sym (at found.0 found.1 less) ∙ found.3 ∙ sym (is_same_point-same q found.1 found.4) in
          let on : is_on b q ≡ true = subst (λ (p : Point). is_on b p ≡ true) is
          (fit.on_board found.0 (record { at = found.1; own = true }) less) in
          points-found b (is_same_point q) q on (is_same_point-itself q)

-- where a point has none of them, there are fewer than the largest board has points
few-before : (b : Grid) (batch : Batch) (p : Point) → b.width ≤ MAX_SIDE → b.height ≤ MAX_SIDE → is_on b p ≡ true → StonesFit b batch
    → has_stone_at batch.stones p ≡ false → length batch.stones < MAX_POINTS
few-before b batch p wide high on fit free =
    let stone : BatchStone = record { at = p; own = true } in
    let more : List BatchStone = batch.stones ++ stone ∷ [] in
    let fits : StonesFit b (record batch { stones = more }) =
    subst (λ (t : Bool). StonesFit b (if not t then record batch { stones = more } else record batch { bad = true })) free
    (stone_fits b true batch p 1 (λ _. on) fit) in
    let few = few-stones b more batch.bad fits in
    let one = length-append batch.stones (stone ∷ []) in
    let rows = mul-le-mul_left b.width high in
    omega (arith, few, one, rows, wide)

-- ---- the board of a place

lawful-start : (ended : Bool) (rule : RuleKind) (start : Grid) (moves : List Point) → IsPlayed ended rule start moves
    → IsPosition rule start
lawful-start false rule start moves played = start-lawful rule start moves played
lawful-start true rule start [] played = absurd played
lawful-start true rule start (p ∷ before) played = start-lawful rule start before played.0

-- it is no larger than the largest
fitting : (h : HeldTable) (place : Place) → IsPlace h place → ((board_in place).width ≤ MAX_SIDE) × ((board_in place).height ≤ MAX_SIDE)
fitting h place is = search (rules, lawful-start)

-- the batch of a brain has room for a stone on a point that has none
pub room-for : (s : State) (q : Point) (at : Option Point) → IsBrain s → IsPointOn (board_in s.place) q at
    → IfSome at (λ p. IfSome s.batch (λ b. has_stone_at b.stones p ≡ false → length b.stones < MAX_POINTS))
room-for s q None brain point = tt
room-for s q (Some p) brain point = by_batch s.batch brain.batch where
  by_batch : (o : Option Batch) → IfSome o (StonesFit (board_in s.place))
      → IfSome o (λ b. has_stone_at b.stones p ≡ false → length b.stones < MAX_POINTS)
  by_batch None fit = tt
  by_batch (Some b) fit =
      let fits = fitting s.held s.place brain.place in
      few-before (board_in s.place) b p fits.0 fits.1 (told-on (board_in s.place) q (Some p) point) fit
