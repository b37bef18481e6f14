-- What the stones of one line decide. A stone plays no part in the runs of a line that it is not on, so the five points that a stone
-- makes where there were none depend on the lines through it alone.
use Rattle.std.proofs.Common.{rules, ◌≡◌, inl, inr, ℕ, ◌+◌, ◌≤◌, Bool, true, false, cond, length, refl, sym, ap, subst, ◌∙◌, Option, Some}
use Rattle.std.proofs.Common.{filter}
use Rattle.std.specs.List.{list_any, range_with_len, prefix_len}
use Rattle.std.proofs.lemmas.Bool.{false_from_ne_true, both_ways}
use Rattle.std.proofs.lemmas.List.Sums.{length-filter, sum_by-le-sum_by}
use Rattle.game_rules.proofs.Common.{Grid, IsBoard, is_on, is_empty, is_stone_of, stone_of, put, along, points_of, points_within, holds}
use Rattle.game_rules.proofs.Common.{same_line, is_aligned, stones_ahead, stones_behind, line_bound, stone_at, wins_on, five}
use Rattle.game_rules.proofs.Common.{stones_towards, other, has_five, five_points, RuleKind, Side, Axis, Way, Point, Row}
use Rattle.game_rules.proofs.Axes.{axis_of, some_axis}
use Rattle.game_rules.proofs.Boards.{Apart, and_left, is_empty-on, is_empty-put, same_or_apart, empty_holds, holds-put_other}
use Rattle.game_rules.proofs.Boards.{holds-put_same, prefix_len-same}
use Rattle.game_rules.proofs.Lines.{along-OnLine}
use Rattle.game_rules.proofs.Positions.{IsBoard-put, holds-other}
use Rattle.game_rules.proofs.Wins.{wins_on-stones, no_win}
use Rattle.game_rules.proofs.Tests.{more_pass}

-- ---- points of one line

-- a point some steps along the axis is on its line
pub line_here : (d : Axis) (p q : Point) (a c : ℕ) → along d p a c ≡ Some q → same_line d p q ≡ true
line_here d p q a c here = search (rules, along-OnLine)

-- two points on a line with a third are on one line
pub line_join : (d : Axis) (w p q : Point) → same_line d w p ≡ true → same_line d w q ≡ true → same_line d p q ≡ true
line_join d w p q h k = search rules

pub line_itself : (d : Axis) (p : Point) → same_line d p p ≡ true
line_itself d p = search rules

pub line_back : (d : Axis) (p q : Point) → same_line d p q ≡ true → same_line d q p ≡ true
line_back d p q h = line_join d p q p h (line_itself d p)

-- a point that is not on the line is none of its points
pub line_apart : (d : Axis) (w p z : Point) → same_line d w p ≡ false → same_line d w z ≡ true → Apart p z
line_apart d w p z off line = search (rules, same_or_apart, both_ways)

pub aligned_at : (d : Axis) (p q : Point) → same_line d p q ≡ true → is_aligned p q ≡ true
aligned_at d p q h = axis_of (λ d. same_line d p q) d h

pub aligned_itself : (p : Point) → is_aligned p p ≡ true
aligned_itself p = aligned_at Row p p (line_itself Row p)

-- what is on no line with p has p on none
pub off_back : (p q : Point) → is_aligned p q ≡ false → is_aligned q p ≡ false
off_back p q off = search (rules, false_from_ne_true, some_axis, both_ways, aligned_at, line_back)

pub off_apart : (p f z : Point) → is_aligned p f ≡ false → is_aligned f z ≡ true → Apart p z
off_apart p f z off line = search (rules, same_or_apart, both_ways, off_back)

-- ---- points beside a new stone

-- what is empty beside a new stone was empty
pub empty-before : (b : Grid) (t : Side) (p r : Point) → IsBoard b → is_on b p ≡ true → is_empty (put b t p) r ≡ true
    → Apart p r × (is_empty b r ≡ true)
empty-before b t p r ok on h = elim (same_or_apart p r) [
  | inl same ↦ absurd (both_ways _ (empty_holds (put b t p) t r h) (ap (holds (put b t p) t) (sym same) ∙ holds-put_same b t p ok on))
  | inr apart ↦ (apart, sym (is_empty-put b t p r on apart) ∙ h)
]

-- a stone of the other side is none of the side's own, and leaves those as they are
pub not_own : (s : Side) → is_stone_of s (stone_of (other s)) ≡ false
not_own s = search rules

pub holds-put_others : (b : Grid) (s : Side) (p z : Point) → IsBoard b → is_empty b p ≡ true → holds (put b (other s) p) s z ≡ holds b s z
holds-put_others b s p z ok empty = holds-other b (other s) s p ok empty (not_own s) z

-- ---- two boards with the same stones of the side on a line

stone_alike : (b c : Grid) (s : Side) (o : Option Point) → ((z : Point) → o ≡ Some z → holds b s z ≡ holds c s z)
    → stone_at b s o ≡ stone_at c s o
stone_alike b c s o same = search rules

module _ (b c : Grid) (s : Side) (d : Axis) (w : Point) (same : (z : Point) → same_line d w z ≡ true → holds b s z ≡ holds c s z)
    (bound : line_bound b ≡ line_bound c) where
  row_alike : (at : ℕ → Option Point) → ((k : ℕ) (z : Point) → at k ≡ Some z → same_line d w z ≡ true)
      → prefix_len (λ k. stone_at b s (at k)) (range_with_len 1 (line_bound b))
      ≡ prefix_len (λ k. stone_at c s (at k)) (range_with_len 1 (line_bound c))
  row_alike at line = search (rules, prefix_len-same, stone_alike)

  pub ahead_alike : stones_ahead b s d w ≡ stones_ahead c s d w
  ahead_alike = row_alike (λ k. along d w k 0) (λ k z e. line_here d w z k 0 e)

  pub behind_alike : stones_behind b s d w ≡ stones_behind c s d w
  behind_alike = row_alike (λ k. along d w 0 k) (λ k z e. line_here d w z 0 k e)

  -- as many stand next to a point of the line
  pub towards_alike : (v : Way) → stones_towards v b s d w ≡ stones_towards v c s d w
  towards_alike v = search (rules, ahead_alike, behind_alike)

  -- and the point wins on the axis alike
  pub wins_alike : (rule : RuleKind) → IsBoard b → IsBoard c → is_empty b w ≡ is_empty c w → wins_on rule b s d w ≡ wins_on rule c s d w
  wins_alike rule ok_b ok_c empty = search (rules, wins_on-stones, ahead_alike, behind_alike)

-- ---- a stone on f, on two boards

-- c has the stones of the side that b has on the lines through f, and no others there; what is empty on them in b is empty in c
pub record KeepsLines (b c : Grid) (s : Side) (f : Point) : Type 0 where
  pub board : IsBoard b
  pub next : IsBoard c
  pub wide : b.width ≡ c.width
  pub high : b.height ≡ c.height
  pub stones : (z : Point) → is_aligned f z ≡ true → holds b s z ≡ holds c s z
  pub empties : (z : Point) → is_aligned f z ≡ true → is_empty b z ≡ true → is_empty c z ≡ true

pub keeps-then : (b c d : Grid) (s : Side) (f : Point) → KeepsLines b c s f → KeepsLines c d s f → KeepsLines b d s f
keeps-then b c d s f one two = search rules

pub keeps_itself : (b : Grid) (s : Side) (f : Point) → IsBoard b → KeepsLines b b s f
keeps_itself b s f ok = record { board = ok; next = ok; wide = refl; high = refl; stones = λ z line. refl; empties = λ z line free. free }

-- they are kept where a stone of the other side is taken from any point
pub others-kept : (b : Grid) (s : Side) (p f : Point) → IsBoard b → is_empty b p ≡ true → KeepsLines (put b (other s) p) b s f
others-kept b s p f ok empty = search (rules, IsBoard-put, holds-put_others, empty-before, is_empty-on)

-- a stone of either side on p, which is on no line with f, keeps them, and so does taking it away
module _ (b : Grid) (t s : Side) (p f : Point) (ok : IsBoard b) (on : is_on b p ≡ true) (off : is_aligned p f ≡ false) where
  pub put-keeps : KeepsLines b (put b t p) s f
  put-keeps = search (rules, IsBoard-put, holds-put_other, off_apart, is_empty-put)

  pub put-kept : KeepsLines (put b t p) b s f
  put-kept = search (rules, IsBoard-put, holds-put_other, off_apart, is_empty-put)

module _ (rule : RuleKind) (b c : Grid) (s : Side) (f : Point) (keeps : KeepsLines b c s f) (none : has_five rule b s ≡ false)
    (open_b : is_empty b f ≡ true) where
  bound : line_bound b ≡ line_bound c
  bound = ap (λ n. n + b.height) keeps.wide ∙ ap (λ n. c.width + n) keeps.high

  pub open_kept : is_empty c f ≡ true
  open_kept = keeps.empties f (aligned_itself f) open_b

  on_b : is_on b f ≡ true
  on_b = is_empty-on b f open_b

  on_c : is_on c f ≡ true
  on_c = is_empty-on c f open_kept

  -- f is no five point there either
  pub no_five_kept : five rule c s f ≡ false
  no_five_kept = false_from_ne_true _ (λ h.
      let some = some_axis (λ d. wins_on rule c s d f) h in
      let alike = wins_alike b c s some.0 f (λ z line. keeps.stones z (aligned_at some.0 f z line)) bound rule keeps.board keeps.next
      (open_b ∙ sym open_kept) in
      both_ways _ (no_win rule b s some.0 f none) (alike ∙ some.1))

  stones_with : (z : Point) → is_aligned f z ≡ true → holds (put b s f) s z ≡ holds (put c s f) s z
  stones_with z line = elim (same_or_apart f z) [
    | inl same ↦ subst (λ (v : Point). holds (put b s f) s v ≡ holds (put c s f) s v) same (holds-put_same b s f keeps.board on_b
        ∙ sym (holds-put_same c s f keeps.next on_c))
    | inr apart ↦ holds-put_other b s s f z on_b apart ∙ keeps.stones z line ∙ sym (holds-put_other c s s f z on_c apart)
  ]

  -- a five point that the stone on f makes on b it makes on c
  pub five_kept : (w : Point) → five rule (put b s f) s w ≡ true → five rule (put c s f) s w ≡ true
  five_kept w h = by_line some.0 some.1 (same_line some.0 w f) refl where
    some : (d : Axis) × (wins_on rule (put b s f) s d w ≡ true)
    some = some_axis (λ d. wins_on rule (put b s f) s d w) h

    by_line : (d : Axis) → wins_on rule (put b s f) s d w ≡ true → (r : Bool) → same_line d w f ≡ r → five rule (put c s f) s w ≡ true
    by_line d wins false off =
        let now : is_empty (put b s f) w ≡ true = and_left (is_empty (put b s f) w) _ wins in
        let alike = wins_alike (put b s f) b s d w (λ z line. holds-put_other b s s f z on_b (line_apart d w f z off line)) refl rule
        (IsBoard-put b s f keeps.board) keeps.board (now ∙ sym (empty-before b s f w keeps.board on_b now).1) in
        absurd (both_ways _ (no_win rule b s d w none) (sym alike ∙ wins))
    by_line d wins true line =
        let now : is_empty (put b s f) w ≡ true = and_left (is_empty (put b s f) w) _ wins in
        let before = empty-before b s f w keeps.board on_b now in
        let then : is_empty (put c s f) w ≡ true = is_empty-put c s f w on_c before.0
        ∙ keeps.empties w (aligned_at d f w (line_back d w f line)) before.1 in
        let alike = wins_alike (put b s f) (put c s f) s d w
        (λ z there. stones_with z (aligned_at d f z (line_join d w f z line there))) bound rule (IsBoard-put b s f keeps.board)
        (IsBoard-put c s f keeps.next) (now ∙ sym then) in
        axis_of (λ d. wins_on rule (put c s f) s d w) d (sym alike ∙ wins)

  points_same : points_of b ≡ points_of c
  points_same = ap (λ n. points_within n b.height) keeps.wide ∙ ap (points_within c.width) keeps.high

  -- so it makes as many there, or more
  pub more_fives : length (five_points rule (put b s f) s) ≤ length (five_points rule (put c s f) s)
  more_fives =
      let here : Point → Bool = five rule (put b s f) s in
      let there : Point → Bool = five rule (put c s f) s in
      let more = sum_by-le-sum_by (λ w. cond (here w) 1 0) (λ w. cond (there w) 1 0) (points_of b) (λ w. more_pass _ _ (five_kept w)) in
      rw (length-filter here (points_of b), sym points_same, length-filter there (points_of b)) more

-- where each of two boards keeps the lines of the other, a stone makes the same five points on both
module _ (rule : RuleKind) (b c : Grid) (s : Side) (f : Point) (on : KeepsLines b c s f) (back : KeepsLines c b s f)
    (none_b : has_five rule b s ≡ false) (none_c : has_five rule c s ≡ false) (open_b : is_empty b f ≡ true) where
  same_five : (w : Point) → five rule (put b s f) s w ≡ five rule (put c s f) s w
  same_five w = by_tests (five rule (put b s f) s w) (five rule (put c s f) s w) refl refl where
    by_tests : (r t : Bool) → five rule (put b s f) s w ≡ r → five rule (put c s f) s w ≡ t → r ≡ t
    by_tests true t e h = sym (five_kept rule b c s f on none_b open_b w e) ∙ h
    by_tests false true e h = sym e ∙ five_kept rule c b s f back none_c (open_kept rule b c s f on none_b open_b) w h
    by_tests false false e h = refl

  pub same_points : five_points rule (put b s f) s ≡ five_points rule (put c s f) s
  same_points = ap (filter (five rule (put b s f) s)) (points_same rule b c s f on none_b open_b)
      ∙ ap (λ (test : Point → Bool). filter test (points_of c)) (λ i w. same_five w i)

  pub same_has_five : has_five rule (put b s f) s ≡ has_five rule (put c s f) s
  same_has_five = ap (list_any (five rule (put b s f) s)) (points_same rule b c s f on none_b open_b)
      ∙ ap (λ (test : Point → Bool). list_any test (points_of c)) (λ i w. same_five w i)
