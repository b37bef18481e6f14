-- What a reply leaves of the five points and the double points of the attacker. The replies that go on, one after another, and what is
-- judged of them.
use Rattle.std.proofs.Common.{◌≡◌, true, false, ◌&&◌, not, sym, ap, subst, ◌∙◌, List, Some, None, All, ℕ, ◌≤◌, ◌<◌, Bool, cond}
use Rattle.std.proofs.Common.{refl, arith, [], ◌∷◌, ◌++◌, map, length, append_assoc, rules}
use Rattle.std.specs.List.{list_all, find, list_any, filter, sum_by, AllByRecursion}
use Rattle.std.proofs.lemmas.Bool.{not-true}
use Rattle.std.proofs.lemmas.List.Filters.{length-filter_both}
use Rattle.std.proofs.lemmas.List.Elements.{All-from_recursion}
use Rattle.std.proofs.lemmas.List.{length-map, map-append}
use Rattle.game_rules.specs.declared.RuleKind.{RuleKind}
use Rattle.game_rules.specs.declared.Side.{Side}
use Rattle.game_rules.specs.declared.Outcome.TheVariants.{GoesOn}
use Rattle.game_rules.specs.declared.Point.{Point}
use Rattle.game_rules.proofs.Common.{Grid, is_empty, put, points_of, five, is_same_point, IsPosition, outcome, mover, other, after}
use Rattle.game_rules.proofs.Common.{has_five, five_points, IsBoard, goes_on, WinsByThreats}
use Rattle.game_rules.proofs.Outcomes.{goes_on-is}
use Rattle.game_rules.proofs.Boards.{Apart, and_left, and_right, is_empty-on, is_empty-put, put_comm}
use Rattle.game_rules.proofs.Positions.{GoesOn-empty, IsBoard-put, mover-then}
use Rattle.game_rules.proofs.Points.{filter-passes, filter-none, is_same_point-apart}
use Rattle.game_rules.proofs.Fives.{five-other}
use Rattle.game_rules.proofs.Places.{find-in, points_few}
use Rattle.game_rules.proofs.PointLists.{without, Apart-back, none_found-filter, other_way, points-append_nil, none-listed}
use Rattle.game_rules.proofs.Tests.{all_push}
use Rattle.row_shapes.proofs.FiveLaws.{left-points}
use Rattle.threat_game.specs.declared.doubles.DoublePoint.{DoublePoint}
use Rattle.threat_game.specs.declared.replies.Child.{Child}
use Rattle.threat_game.specs.declared.replies.Children.{Children}
use Rattle.threat_game.specs.declared.replies.Judged.{Judged}
use Rattle.threat_game.specs.declared.replies.Judged.TheVariants.{Five, DoublePoint as DoubleWins, Last, Open}
use Rattle.threat_game.proofs.Common.{LeavesBoth, IsBeside, has_reply, IsJudged, IsChild, EscapesBy, HasEscape, AreChildren, AreJudged}
use Rattle.threat_game.proofs.Common.{AreJudgedInPart, IsMetAt}
use Rattle.threat_game.proofs.Common.{kept_children, moves_for, one_if, has_reply_at, has_reply_beside, counted_for, is_open, replies_at}
use Rattle.threat_game.specs.Replies.{StopsDoubles}
use Rattle.threat_game.proofs.TreeLaws.{children-few}
use Rattle.threat_game.proofs.Kept.{IsPart, kept-some, kept-sum, met-child, part-kept, part-push, part-skip, stands}

-- ---- stones in another order

-- ---- lists

-- ---- after the reply q at c

module _ (rule : RuleKind) (c : Grid) (q : Point) (lawful : IsPosition rule c) (on : outcome rule c q ≡ GoesOn) where
  turn : mover (after c q) ≡ other (mover c)
  turn = mover-then rule c q lawful on

  empty : is_empty c q ≡ true
  empty = GoesOn-empty rule c q on

  -- a five point of the attacker beside the reply stays
  pub beside-five : (w : Point) → five rule c (other (mover c)) w ≡ true → is_same_point w q ≡ false
      → five rule (after c q) (mover (after c q)) w ≡ true
  beside-five w h differ =
      ap (λ (s : Side). five rule (after c q) s w) turn
      ∙ five-other c (mover c) q lawful.board empty rule w (Apart-back w q (is_same_point-apart w q differ)) ∙ h

  -- the first of the five points that is beside it
  pub first-beside : (fives : List Point) (w : Point) → fives ≡ five_points rule c (other (mover c))
      → Some w ≡ find (λ x. not (is_same_point x q)) fives → five rule (after c q) (mover (after c q)) w ≡ true
  first-beside fives w are found =
      let all : list_all (five rule c (other (mover c))) fives ≡ true =
      ap (list_all (five rule c (other (mover c)))) are ∙ filter-passes (five rule c (other (mover c))) (points_of c) in
      let both = find-in (λ x. not (is_same_point x q)) (five rule c (other (mover c))) fives w all (sym found) in
      beside-five w both.1 (not-true (is_same_point w q) both.0)

  -- with none beside it, none is left
  pub none-beside : (fives : List Point) → fives ≡ five_points rule c (other (mover c)) → None ≡ find (λ x. not (is_same_point x q)) fives
      → has_five rule (after c q) (mover (after c q)) ≡ false
  none-beside fives are found =
      ap (has_five rule (after c q)) turn
      ∙ filter-none (five rule (after c q) (other (mover c))) (points_of (after c q))
      (left-points rule c (mover c) q lawful.board empty ∙ ap (without q) (sym are)
      ∙ none_found-filter (λ x. not (is_same_point x q)) (λ x. not (is_same_point q x)) (λ x h. other_way q x h) fives (sym found))

  kept-five : (d w : Point) → is_empty c d ≡ true → Apart d q → Apart q w → five rule (put c (other (mover c)) d) (other (mover c)) w ≡ true
      → five rule (put (after c q) (other (mover c)) d) (other (mover c)) w ≡ true
  kept-five d w free apart beside h =
      let still : is_empty (put c (other (mover c)) d) q ≡ true =
      is_empty-put c (other (mover c)) d q (is_empty-on c d free) apart ∙ empty in
      ap (λ (g : Grid). five rule g (other (mover c)) w)
      (put_comm c (mover c) (other (mover c)) q d (is_empty-on c q empty) (is_empty-on c d free) (Apart-back d q apart))
      ∙ five-other (put c (other (mover c)) d) (mover c) q (IsBoard-put c (other (mover c)) d lawful.board) still rule w beside ∙ h

  -- a stone beside a double point and its two five points leaves all three
  pub both-kept : (d : DoublePoint) → LeavesBoth rule c (other (mover c)) d → IsBeside d q
      → LeavesBoth rule (after c q) (mover (after c q)) d
  both-kept d both beside =
      let at : Apart d.at q = is_same_point-apart d.at q
      (not-true (is_same_point d.at q)
      (and_left (not (is_same_point d.at q)) _ (and_left (not (is_same_point d.at q) && not (is_same_point d.first q)) _ beside))) in
      let first : Apart d.first q = is_same_point-apart d.first q
      (not-true (is_same_point d.first q)
      (and_right (not (is_same_point d.at q)) _ (and_left (not (is_same_point d.at q) && not (is_same_point d.first q)) _ beside))) in
      let second : Apart d.second q = is_same_point-apart d.second q
      (not-true (is_same_point d.second q) (and_right (not (is_same_point d.at q) && not (is_same_point d.first q)) _ beside)) in
      subst (λ (s : Side). LeavesBoth rule (after c q) s d) (sym turn)
      (record {
        empty = is_empty-put c (mover c) q d.at (is_empty-on c q empty) (Apart-back d.at q at) ∙ both.empty;
        first = kept-five d.at d.first both.empty at (Apart-back d.first q first) both.first;
        second = kept-five d.at d.second both.empty at (Apart-back d.second q second) both.second;
        apart = both.apart;
      })

-- ---- few are counted for each

one-few : (r : Bool) → one_if r ≤ 1
one-few r = search rules

pub counted-three : (rule : RuleKind) (b : Grid) (judged : Judged) → IsJudged rule b judged → counted_for judged ≤ 3
counted-three rule b (Five w) h = omega arith
counted-three rule b (DoubleWins d nodes) h =
    omega (arith, h.nodes_are, one-few (has_reply_at rule (after b d.at) d.first), one-few (has_reply_beside rule (after b d.at) d.first))
counted-three rule b (Last p) h = omega arith
counted-three rule b Open h = omega arith

-- ---- what is judged so far

-- this is judged of the replies before the points that are left
pub record SoFar (rule : RuleKind) (moves : ℕ) (c : Grid) (all : List Child) (left : List Point) : Type 0 where
  pub points : map (λ child. child.at) all ++ filter (λ q. goes_on (outcome rule c q)) left ≡ replies_at rule c
  pub each : AllByRecursion (IsChild rule moves c) all

-- where no point is left, it is judged of all replies
pub all-judged : (rule : RuleKind) (moves : ℕ) (c : Grid) (all : List Child) → SoFar rule moves c all [] → AreJudged rule moves c all
all-judged rule moves c all so_far = search (rules, points-append_nil, All-from_recursion)

-- one more reply
pub step-more : (rule : RuleKind) (moves : ℕ) (c d : Grid) → d ≡ c → (all : List Child) (q : Point) (left before : List Point)
    → before ≡ q ∷ left → SoFar rule moves c all before
    → (judged : Judged) → IsChild rule moves d (record { at = q; judged = judged }) → (more : List Child)
    → more ≡ all ++ record { at = q; judged = judged } ∷ [] → SoFar rule moves c more left
step-more rule moves c d same all q left before is so_far judged child more added =
    let this : Child = record { at = q; judged = judged } in
    let here : IsChild rule moves c (record { at = q; judged = judged }) =
    subst (λ (e : Grid). IsChild rule moves e (record { at = q; judged = judged })) same child in
    let old : SoFar rule moves c all (q ∷ left) = subst (λ (ps : List Point). SoFar rule moves c all ps) is so_far in
    subst (λ (items : List Child). SoFar rule moves c items left) (sym added) (record {
      points =
          ap (λ (ps : List Point). ps ++ filter (λ q. goes_on (outcome rule c q)) left)
          (map-append (λ (child : Child). child.at) all (this ∷ []))
          ∙ append_assoc (map (λ (child : Child). child.at) all) (q ∷ []) (filter (λ q. goes_on (outcome rule c q)) left)
          ∙ sym (ap (λ o. map (λ (child : Child). child.at) all
          ++ cond (goes_on o) (q ∷ filter (λ q. goes_on (outcome rule c q)) left) (filter (λ q. goes_on (outcome rule c q)) left))
          here.on)
          ∙ old.points;
      each = all_push (IsChild rule moves c) all this old.each here;
    })

-- this is judged of some of the replies before the points that are left
pub record PartSoFar (rule : RuleKind) (moves : ℕ) (c : Grid) (part : List Child) (left : List Point) : Type 0 where
  pub all : List Child
  pub so_far : SoFar rule moves c all left
  pub is : IsPart part all
  pub each : AllByRecursion (IsChild rule moves c) part

-- none at first
pub part-none : (rule : RuleKind) (moves : ℕ) (c : Grid) (points : List Point) → points ≡ points_of c → PartSoFar rule moves c [] points
part-none rule moves c points are = record {
  all = [];
  so_far = record { points = ap (filter (λ q. goes_on (outcome rule c q))) are; each = tt };
  is = record { first = refl; rest = refl; fewer = omega arith };
  each = tt;
}

module _ (rule : RuleKind) (moves : ℕ) (c : Grid) (part : List Child) (q : Point) (left before : List Point) (next : before ≡ q ∷ left)
    (so_far : PartSoFar rule moves c part before) where
  -- one more is judged
  pub part-more : (d : Grid) → d ≡ c → (judged : Judged) → IsChild rule moves d (record { at = q; judged = judged }) → (more : List Child)
      → more ≡ part ++ record { at = q; judged = judged } ∷ [] → PartSoFar rule moves c more left
  part-more d same judged child more added =
      let this : Child = record { at = q; judged = judged } in
      subst (λ (items : List Child). PartSoFar rule moves c items left) (sym added) (record {
        all = so_far.all ++ this ∷ [];
        so_far = step-more rule moves c d same so_far.all q left before next so_far.so_far judged child (so_far.all ++ this ∷ []) refl;
        is = part-push part so_far.all this so_far.is;
        each = all_push (IsChild rule moves c) part this so_far.each (subst (λ (e : Grid). IsChild rule moves e this) same child);
      })

  -- the point is no reply
  pub part-pass : (d : Grid) → d ≡ c → goes_on (outcome rule d q) ≡ false → PartSoFar rule moves c part left
  part-pass d same off = record {
    all = so_far.all;
    so_far = record {
      points =
          ap (λ r. map (λ (child : Child). child.at) so_far.all
          ++ cond r (q ∷ filter (λ q. goes_on (outcome rule c q)) left) (filter (λ q. goes_on (outcome rule c q)) left))
          (sym off ∙ ap (λ (e : Grid). goes_on (outcome rule e q)) same)
          ∙ ap (λ (ps : List Point). map (λ (child : Child). child.at) so_far.all ++ filter (λ q. goes_on (outcome rule c q)) ps) (sym next)
          ∙ so_far.so_far.points;
      each = so_far.so_far.each;
    };
    is = so_far.is;
    each = so_far.each;
  }

  -- it is none, or the first wins after it
  pub part-met : (d : Grid) → d ≡ c → (outcome rule d q ≡ GoesOn → IsMetAt rule d (find stands part) q) → PartSoFar rule moves c part left
  part-met d same met = by_test (goes_on (outcome rule d q)) refl where
    by_test : (r : Bool) → goes_on (outcome rule d q) ≡ r → PartSoFar rule moves c part left
    by_test false off = part-pass d same off
    by_test true on =
        let go : outcome rule c q ≡ GoesOn = ap (λ (e : Grid). outcome rule e q) (sym same) ∙ goes_on-is (outcome rule d q) on in
        let here : IsMetAt rule c (find stands part) q = subst (λ (e : Grid). IsMetAt rule e (find stands part) q) same
        (met (goes_on-is (outcome rule d q) on)) in
        let this : Child = record { at = q; judged = here.judged } in
        let child : IsChild rule moves c this = met-child rule moves c q part so_far.each go here in record {
          all = so_far.all ++ this ∷ [];
          so_far = step-more rule moves c c refl so_far.all q left before next so_far.so_far here.judged child (so_far.all ++ this ∷ [])
              refl;
          is = part-skip part so_far.all this so_far.is here.met;
          each = so_far.each;
        }

-- where no point is left, it is judged of all replies in part
pub all-in_part : (rule : RuleKind) (moves : ℕ) (c : Grid) (part : List Child) (left : List Point) → left ≡ []
    → PartSoFar rule moves c part left
    → AreJudgedInPart rule moves c part
all-in_part rule moves c part left none so_far = record {
  judged = so_far.all;
  are = all-judged rule moves c so_far.all (subst (λ (ps : List Point). SoFar rule moves c so_far.all ps) none so_far.so_far);
  each = All-from_recursion (IsChild rule moves c) part so_far.each;
  fewer = so_far.is.fewer;
  kept = part-kept part so_far.all so_far.is;
}

-- few are judged, each of which counts at most 3
pub judged-short : (rule : RuleKind) (moves : ℕ) (c : Grid) → IsBoard c → (judged : List Child) → AreJudged rule moves c judged
    → length judged ≤ 1024
judged-short rule moves c ok judged are =
    let size = length-map judged (λ (x : Child). x.at) in
    let both = length-filter_both (λ (q : Point). goes_on (outcome rule c q)) (λ (q : Point). not (goes_on (outcome rule c q))) (λ q. refl)
    (points_of c) in
    omega (arith, ap length are.points, size, both, points_few c ok)

pub each-three : (rule : RuleKind) (moves : ℕ) (c : Grid) (judged : List Child) → All (IsChild rule moves c) judged
    → All (λ child. counted_for child.judged ≤ 3) judged
each-three rule moves c judged each k x low = search (rules, counted-three)

pub judged-three : (rule : RuleKind) (moves : ℕ) (c : Grid) (judged : List Child) → AreJudged rule moves c judged
    → All (λ child. counted_for child.judged ≤ 3) judged
judged-three rule moves c judged are = each-three rule moves c judged are.each

some-listed : (g : Point → Bool) (ps : List Point) (items : List Child) → map (λ (child : Child). child.at) items ≡ filter g ps
    → list_any g ps ≡ true → 0 < length items
some-listed g ps (x ∷ items) e h = omega arith
some-listed g ps [] e h = absurd (none-listed g ps e h)

-- the children that are kept
pub are-children : (rule : RuleKind) (moves : ℕ) (c : Grid) → IsPosition rule c → has_reply rule c ≡ true → (judged : List Child)
    → AreJudged rule moves c judged → (children : Children)
    → children.all.items ≡ kept_children judged → children.count ≡ sum_by (λ child. counted_for child.judged) (kept_children judged)
    → AreChildren rule moves c children
are-children rule moves c lawful reply judged are children kept counted =
    let many = some-listed (λ q. goes_on (outcome rule c q)) (points_of c) judged are.points reply in
    record {
      judged = judged;
      are = are;
      kept = kept;
      some = subst (λ (items : List Child). 0 < length items) (sym kept) (kept-some judged many);
      count_is = counted ∙ ap (sum_by (λ (child : Child). counted_for child.judged)) (sym kept);
      few = let all = children-few rule moves c lawful judged are.points are.each in let low =
          kept-sum (λ (child : Child). counted_for child.judged) judged in omega (arith, all, low, counted);
    }

-- ---- what is judged of one reply

module _ (rule : RuleKind) (moves : ℕ) (c : Grid) (q : Point) (on : outcome rule c q ≡ GoesOn) where
  -- a child, where what is judged of the position after it is true
  pub child-is : (d : Grid) (judged : Judged) (k : ℕ) → d ≡ after c q → IsJudged rule d judged → moves_for judged ≤ k → k ≤ moves
      → (is_open judged ≡ true → StopsDoubles rule c q) → IsChild rule moves c (record { at = q; judged = judged })
  child-is d judged k played is enough l stopped = search rules

  -- an escape, where after it there is no win within the moves that are left
  pub escape-is : (d : Grid) (n : ℕ) → moves ≡ n → d ≡ after c q → (WinsByThreats rule n d → ⊥) → EscapesBy rule moves c q
  escape-is d n left played none = search rules

-- an escape by one reply
pub escape-has : (rule : RuleKind) (moves : ℕ) (c d : Grid) (q : Point) → d ≡ c → EscapesBy rule moves d q → HasEscape rule moves c
escape-has rule moves c d q same escape = search rules
