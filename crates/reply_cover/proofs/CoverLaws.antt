-- What a cover that is told shows, and a reply that is told to be open.
use Rattle.std.proofs.Common.{◌≡◌, ℕ, suc, ◌+◌, ◌≤◌, ◌<◌, Bool, true, false, not, ◌&&◌, ◌||◌, refl, sym, ap, subst, ◌∙◌, List, [], ◌∷◌}
use Rattle.std.proofs.Common.{length, Option, Some, None, find, filter, arith, rules, zero, cond, add-one, slice_index_or, Any, count_by}
use Rattle.std.specs.List.{AllByRecursion, list_any}
use Rattle.std.specs.Option.{option_map_or}
use Rattle.std.proofs.lemmas.Bool.Decides.{nat_tests}
use Rattle.std.proofs.lemmas.List.Folds.{Any-from_list_any, list_any-from_Any}
use Rattle.game_rules.proofs.Common.{Grid, IsBoard, is_on, points_of, outcome, after, goes_on, precedes, mover, WinsOr, LosesOr, WinsWithin}
use Rattle.game_rules.proofs.Common.{loses_or, WinsAfter}
use Rattle.game_rules.specs.declared.RuleKind.{RuleKind}
use Rattle.game_rules.specs.declared.Outcome.{Outcome}
use Rattle.game_rules.specs.declared.Outcome.TheVariants.{Refused, Wins, Fouls, Draws, GoesOn}
use Rattle.game_rules.specs.declared.Point.{Point}
use Rattle.game_rules.proofs.Boards.{and_left, and_right}
use Rattle.game_rules.proofs.Games.{WinsWithin-more, loses_or-LosesOr}
use Rattle.game_rules.proofs.Outcomes.{goes_on_with-parts}
use Rattle.game_rules.proofs.Places.{find-passes}
use Rattle.game_rules.proofs.PointLists.{any_none, unfound-none}
use Rattle.game_rules.proofs.Points.{off_refused, points-found}
use Rattle.game_rules.proofs.Positions.{IsBoard-put}
use Rattle.game_rules.proofs.ReadingOrder.{Rising, points-rising, precedes-not}
use Rattle.board_symmetry.specs.Points.{board_image}
use Rattle.board_symmetry.proofs.ImageLaws.{keeps_wins}
use Rattle.reply_cover.specs.Covers.{answers, cover_of, covers, is_open, is_used, most_moves, same_kind, used_parts}
use Rattle.reply_cover.specs.Laws.{AreCovered, Covers, CoversAreExact, CoversWin, IsCovered, IsFirstOpen, IsWonPart}
use Rattle.reply_cover.specs.declared.Part.{Part}
use Rattle.reply_cover.specs.declared.Cover.{Cover}
use Rattle.reply_cover.specs.declared.Cover.TheVariants.{Covered, Open}
use Rattle.reply_cover.proofs.ImageLaws.{made-turned, same_kind-itself, same_kind-same, turned-made}

-- ---- lists

not-itself : (q : Point) → precedes q q ≡ false
not-itself q = grind (arith, nat_tests)

and-false : (r : Bool) → (r && false) ≡ false
and-false r = search rules

not-false : (r : Bool) → not r ≡ false → r ≡ true
not-false r e = search rules

and-true : (r s : Bool) → s ≡ true → (r && s) ≡ false → r ≡ false
and-true r s h e = search rules

-- what holds of the item at a place, where it holds of all
each-at : {X : Type 0} (P : X → Type 0) (xs : List X) (k : ℕ) (x : X) → k < length xs → slice_index_or xs k x ≡ x → AllByRecursion P xs
    → P x
each-at P [] k x l at all = absurd (omega (arith, l))
each-at P (y ∷ xs) zero x l at all = subst P at all.0
each-at P (y ∷ xs) (suc k) x l at all = each-at P xs k x (omega (arith, l)) at all.1

-- the moves of a part that passes are among those of the parts that do
among-moves : (f : Part → Bool) (parts : List Part) (k : ℕ) (part : Part) → k < length parts → slice_index_or parts k part ≡ part
    → f part ≡ true → part.moves ≤ most_moves (filter f parts)
among-moves f [] k part l at h = absurd (omega (arith, l))
among-moves f (p ∷ parts) zero part l at h =
    let here : f p ≡ true = ap f at ∙ h in
    let same : p.moves ≡ part.moves = ap (λ (x : Part). x.moves) at in
    rw here (omega (arith, same))
among-moves f (p ∷ parts) (suc k) part l at h = by-first p (f p) (filter f parts) (among-moves f parts k part (omega (arith, l)) at h) where
  by-first : (p : Part) (r : Bool) (later : List Part) → part.moves ≤ most_moves later
      → part.moves ≤ most_moves (cond r (p ∷ later) later)
  by-first p true later few = omega (arith, few)
  by-first p false later few = few

-- a test that holds nowhere holds at no point of the board
none-at : (b : Grid) (f : Point → Bool) (q : Point) → is_on b q ≡ true → list_any f (points_of b) ≡ false → f q ≡ false
none-at b f q on none = by-test (f q) refl where
  by-test : (r : Bool) → f q ≡ r → r ≡ false
  by-test true e = let no : false ≡ true = sym none ∙ points-found b f q on e in cc
  by-test false e = refl

-- of points in reading order none before the first that passes does
none-before : (f : Point → Bool) (q : Point) (ps : List Point) → Rising ps → find f ps ≡ Some q
    → list_any (λ r. f r && precedes r q) ps ≡ false
none-before f q [] rising found = cc
none-before f q (x ∷ ps) rising found = by-first (f x) found (none-before f q ps rising.1) where
  by-first : (r : Bool) → cond r (Some x) (find f ps) ≡ Some q → (find f ps ≡ Some q → list_any (λ p. f p && precedes p q) ps ≡ false)
      → (r && precedes x q || list_any (λ p. f p && precedes p q) ps) ≡ false
  by-first true h later =
      let same : x ≡ q = cc in
      let here : precedes x q ≡ false = rw (← same) (not-itself x) in
      rw here (any_none (λ p. f p && precedes p q) (λ p. precedes x p) ps (λ p after.
      let no : precedes p q ≡ false = rw (← same) (precedes-not x p after) in rw no (and-false (f p))) rising.0)
  by-first false h later = later h

-- ---- parts that cover

module _ (rule : RuleKind) (b : Grid) (part : Part) (ok : IsBoard part.board) where
  pub covers-Covers : covers rule b part ≡ true → Covers rule b part
  unfolding covers
  covers-Covers h =
      let made = turned-made b part.board ok (and_right (same_kind part.kind rule) _ h) in
      record {
        same_rule = same_kind-same part.kind rule (and_left _ _ h);
        symmetry = made.symmetry;
        fitting = made.fitting;
        image = made.image;
      }

  pub Covers-covers : Covers rule b part → covers rule b part ≡ true
  unfolding covers
  Covers-covers c =
      let kind : same_kind part.kind rule ≡ true = ap (λ (k : RuleKind). same_kind k rule) c.same_rule ∙ same_kind-itself rule in
      rw kind (made-turned b part.board ok (record { symmetry = c.symmetry; fitting = c.fitting; image = c.image }))

module _ (rule : RuleKind) (parts : List Part) (b : Grid) (boards : AllByRecursion (λ (part : Part). IsBoard part.board) parts) where
  -- a reply that some part answers, and one that some part covers
  answered-covered : (q : Point) → list_any (answers rule b q) parts ≡ true → Any (Covers rule (after b q)) parts
  answered-covered q h =
      let some = Any-from_list_any (answers rule b q) parts h in (
        some.0,
        some.1,
        some.2,
        some.3,
        covers-Covers rule (after b q) some.1 (each-at (λ (part : Part). IsBoard part.board) parts some.0 some.1 some.2 some.3 boards)
            ((goes_on_with-parts (outcome rule b q) _ some.4).1),
      )

  covered-answered : (q : Point) → outcome rule b q ≡ GoesOn → Any (Covers rule (after b q)) parts
      → list_any (answers rule b q) parts ≡ true
  covered-answered q on some = list_any-from_Any (answers rule b q) parts (
    some.0,
    some.1,
    some.2,
    some.3,
    rw on (Covers-covers rule (after b q) some.1
        (each-at (λ (part : Part). IsBoard part.board) parts some.0 some.1 some.2 some.3 boards) some.4),
  )

  -- a reply that is not open is covered
  closed-covered : (q : Point) → is_open rule parts b q ≡ false → IsCovered rule parts b q
  closed-covered q h = loses_or-LosesOr (outcome rule b q) (list_any (answers rule b q) parts) _ (answered-covered q) (not-false _ h)

  -- and one that is open is not
  opened-uncovered : (q : Point) → is_open rule parts b q ≡ true → IsCovered rule parts b q → ⊥
  opened-uncovered q h covered = by-outcome (outcome rule b q) refl h covered where
    by-outcome : (o : Outcome) → outcome rule b q ≡ o → not (loses_or o (list_any (answers rule b q) parts)) ≡ true
        → LosesOr o (Any (Covers rule (after b q)) parts) → ⊥
    by-outcome Refused is e c = cc
    by-outcome Wins is e c = c
    by-outcome (Fouls f) is e c = cc
    by-outcome Draws is e c = c
    by-outcome GoesOn is e c = let yes = covered-answered q is c in let no : not true ≡ true = ap not (sym yes) ∙ e in cc

-- ---- what is told

-- no reply is open where a cover is told
none-open : (f : Point → Bool) (ps : List Point) (told : Cover) (m r k : ℕ) → option_map_or Open (find f ps) told ≡ Covered m r k
    → list_any f ps ≡ false
none-open f ps told m r k h = unfound-none f ps (by-found (find f ps) h) where
  by-found : (o : Option Point) → option_map_or Open o told ≡ Covered m r k → o ≡ None
  by-found None e = refl
  by-found (Some q) e = cc

-- the reply that is told is the first that is open
first-open : (f : Point → Bool) (ps : List Point) (m r k : ℕ) (q : Point) → option_map_or Open (find f ps) (Covered m r k) ≡ Open q
    → find f ps ≡ Some q
first-open f ps m r k q h = by-found (find f ps) h where
  by-found : (o : Option Point) → option_map_or Open o (Covered m r k) ≡ Open q → o ≡ Some q
  by-found None e = cc
  by-found (Some p) e = let same : p ≡ q = cc in ap Some same

module _ (rule : RuleKind) (parts : List Part) (b : Grid) (m r k : ℕ) (told : cover_of rule parts b ≡ Covered m r k) where
  told-none : list_any (is_open rule parts b) (points_of b) ≡ false
  unfolding cover_of
  told-none = none-open (is_open rule parts b) (points_of b) _ m r k told

  told-moves : most_moves (used_parts rule parts b) ≡ m
  unfolding cover_of
  told-moves = by-found (find (is_open rule parts b) (points_of b)) told where
    by-found : (o : Option Point) → option_map_or Open o (Covered (most_moves (used_parts rule parts b))
        (count_by (λ q. goes_on (outcome rule b q)) (points_of b)) (length (used_parts rule parts b))) ≡ Covered m r k
        → most_moves (used_parts rule parts b) ≡ m
    by-found None e = cc
    by-found (Some q) e = cc

told-first : (rule : RuleKind) (parts : List Part) (b : Grid) (q : Point) → cover_of rule parts b ≡ Open q
    → find (is_open rule parts b) (points_of b) ≡ Some q
unfolding cover_of
told-first rule parts b q told = first-open (is_open rule parts b) (points_of b) _ _ _ q told

-- no move off the board
off-loses : (rule : RuleKind) (b : Grid) (q : Point) (W : Type 0) → is_on b q ≡ false → LosesOr (outcome rule b q) W
off-loses rule b q W off = rw (off_refused rule b q off) tt

-- what holds of each point that is closed and on the board, where no move off the board counts
each-closed : (rule : RuleKind) (b : Grid) (q : Point) (W : Type 0) → (is_on b q ≡ true → LosesOr (outcome rule b q) W)
    → LosesOr (outcome rule b q) W
each-closed rule b q W on = by-place (is_on b q) refl where
  by-place : (r : Bool) → is_on b q ≡ r → LosesOr (outcome rule b q) W
  by-place true e = on e
  by-place false e = off-loses rule b q W e

pub covers-exact : CoversAreExact
covers-exact rule parts b ok boards = record { covered = covered; opens = opens } where
  covered : (m r k : ℕ) → cover_of rule parts b ≡ Covered m r k → AreCovered rule parts b
  covered m r k told q = each-closed rule b q _ (λ on.
      closed-covered rule parts b boards q (none-at b (is_open rule parts b) q on (told-none rule parts b m r k told)))

  opens : (q : Point) → cover_of rule parts b ≡ Open q → IsFirstOpen rule parts b q
  opens q told =
      let found = told-first rule parts b q told in
      record {
        open_reply = opened-uncovered rule parts b boards q (find-passes (is_open rule parts b) (points_of b) q found);
        earlier = λ p early. each-closed rule b p _ (λ on. closed-covered rule parts b boards p (and-true _ _ early
            (none-at b (λ r. is_open rule parts b r && precedes r q) p on
            (none-before (is_open rule parts b) q (points_of b) (points-rising b) found))));
      }

-- ---- a cover by parts that are won

pub won-boards : (parts : List Part) → AllByRecursion IsWonPart parts → AllByRecursion (λ (part : Part). IsBoard part.board) parts
won-boards [] won = tt
won-boards (p ∷ parts) won = (won.0.board, won-boards parts won.1)

-- a part that answers a reply is used
used-by : (rule : RuleKind) (b : Grid) (part : Part) (q : Point) → is_on b q ≡ true → answers rule b q part ≡ true
    → is_used rule b part ≡ true
unfolding is_used
used-by rule b part q on answered = points-found b (λ p. answers rule b p part) q on answered

module _ (rule : RuleKind) (parts : List Part) (b : Grid) (m r k : ℕ) (ok : IsBoard b) (won : AllByRecursion IsWonPart parts)
    (told : cover_of rule parts b ≡ Covered m r k) where
  -- the side to move wins after a reply that some part answers
  answered-wins : (q : Point) → is_on b q ≡ true → list_any (answers rule b q) parts ≡ true → WinsWithin rule m (after b q)
  answered-wins q on h =
      let some = Any-from_list_any (answers rule b q) parts h in
      let part = some.1 in
      let is = each-at IsWonPart parts some.0 part some.2 some.3 won in
      let made = covers-Covers rule (after b q) part is.board ((goes_on_with-parts (outcome rule b q) _ some.4).1) in
      let here : WinsWithin rule part.moves (board_image made.symmetry (after b q)) =
      subst (λ (c : Grid). WinsWithin rule part.moves c) made.image
      (subst (λ (kind : RuleKind). WinsWithin kind part.moves part.board) made.same_rule is.won) in
      let there = ((keeps_wins made.symmetry (after b q) (IsBoard-put b (mover b) q ok) made.fitting).same_win rule part.moves).0 here in
      let few : part.moves ≤ m = subst (λ (n : ℕ). part.moves ≤ n) (told-moves rule parts b m r k told)
      (among-moves (is_used rule b) parts some.0 part some.2 some.3 (used-by rule b part q on some.4)) in
      WinsWithin-more rule part.moves m (after b q) few there

  replies-won : WinsAfter rule m b
  replies-won q = each-closed rule b q _ (λ on.
      loses_or-LosesOr (outcome rule b q) (list_any (answers rule b q) parts) _ (answered-wins q on)
      (not-false _ (none-at b (is_open rule parts b) q on (told-none rule parts b m r k told))))

  attack-won : (c : Grid) (p : Point) → outcome rule c p ≡ GoesOn → b ≡ after c p → WinsWithin rule (m + 1) c
  attack-won c p on is =
      let replies : WinsAfter rule m (after c p) = subst (λ (g : Grid). WinsAfter rule m g) is replies-won in
      let wins : WinsWithin rule (suc m) c = (
        p,
        subst (λ (o : Outcome). WinsOr o
            ((true ≡ true) × ((q : Point) → LosesOr (outcome rule (after c p) q) (WinsWithin rule m (after (after c p) q)))))
            (sym on) (refl, replies),
      ) in
      subst (λ (n : ℕ). WinsWithin rule n c) (sym (add-one m)) wins

pub covers-win : CoversWin
covers-win rule parts b m r k ok won told =
    record { replies = replies-won rule parts b m r k ok won told; attacks = attack-won rule parts b m r k ok won told }
