-- One reply stands for others: what is kept of all that is judged, and the win that is compiled for the one.
use Rattle.std.proofs.Common.{◌≡◌, ℕ, ◌≤◌, ◌<◌, Bool, true, false, cond, ◌||◌, not, refl, sym, ap, subst, ◌∙◌, arith, List, []}
use Rattle.std.proofs.Common.{◌∷◌, ◌++◌, append-nil, length-append, map, length, All, Option, Some, None, IfSome, nat_eq, rules}
use Rattle.std.specs.List.{find, filter, list_any, sum_by, AllByRecursion}
use Rattle.std.proofs.lemmas.Bool.{and_parts, eqb-true}
use Rattle.std.proofs.lemmas.List.Elements.{All-filter, All-from_recursion, filter-append, recursion_from_All}
use Rattle.std.proofs.lemmas.List.Filters.{sum_by-filter_both}
use Rattle.std.proofs.lemmas.List.Folds.{find-append}
use Rattle.std.specs.Option.{option_or}
use Rattle.std.proofs.lemmas.List.Sums.{sum_by-cons}
use Rattle.game_rules.specs.declared.RuleKind.{RuleKind}
use Rattle.game_rules.specs.declared.Outcome.TheVariants.{GoesOn}
use Rattle.game_rules.specs.declared.Point.{Point}
use Rattle.game_rules.proofs.Common.{Grid, points_of, is_same_point, IsPosition, outcome, mover, after, goes_on, five}
use Rattle.game_rules.proofs.Positions.{GoesOn-on, IsPosition-after}
use Rattle.game_rules.proofs.Points.{points-found, is_same_point-itself, is_same_point-same}
use Rattle.game_rules.proofs.PointLists.{still-found}
use Rattle.strategy_graph.specs.declared.Node.{Node}
use Rattle.strategy_compiler.specs.declared.wins.WrittenWin.{WrittenWin}
use Rattle.threat_game.specs.declared.doubles.DoublePoint.{DoublePoint}
use Rattle.threat_game.specs.declared.replies.Child.{Child}
use Rattle.threat_game.specs.declared.replies.Judged.{Judged}
use Rattle.threat_game.specs.declared.replies.Judged.TheVariants.{Five, DoublePoint as DoubleWins, Last, Open}
use Rattle.threat_game.proofs.Common.{IsDoubleWin, IsJudged, IsChild, IsMetAt, IsThreatWin, AreJudged, is_open, moves_for}
use Rattle.threat_game.proofs.Common.{first_with, is_standing, is_same_double, stands_for, is_met, put_first, kept_children}

-- ---- what is judged first stands for itself

pub double-itself : (d : DoublePoint) → is_same_double d d ≡ true
double-itself d = rw (is_same_point-itself d.at, is_same_point-itself d.first, is_same_point-itself d.second) refl

pub stands-itself : (judged : Judged) → is_standing judged ≡ true → stands_for judged judged ≡ true
stands-itself judged h = search (rules, is_same_point-itself, double-itself)

pub stands-standing : (first judged : Judged) → stands_for first judged ≡ true → is_standing first ≡ true
stands-standing first judged h = search (rules, and_parts)

-- it takes as many moves, and nothing stands for what is open
stands-moves : (first judged : Judged) → stands_for first judged ≡ true → moves_for first ≡ moves_for judged
stands-moves first judged h = search rules

stands-closed : (first judged : Judged) → stands_for first judged ≡ true → is_open judged ≡ true → ⊥
stands-closed first judged h e = search rules

-- how many nodes answer the replies to the double point that is met plays no part
stands-double : (first : Judged) (d : DoublePoint) (n m : ℕ) → stands_for first (DoubleWins d n) ≡ stands_for first (DoubleWins d m)
stands-double (Five w) d n m = refl
stands-double (DoubleWins e k) d n m = refl
stands-double (Last p) d n m = refl
stands-double Open d n m = refl

pub met-double : (first : Option Child) (d : DoublePoint) (n m : ℕ) → is_met first (DoubleWins d n) ≡ is_met first (DoubleWins d m)
met-double None d n m = refl
met-double (Some child) d n m = stands-double child.judged d n m

-- ---- sums over what is kept

abbrev pub stands : Child → Bool
stands child = is_standing child.judged

first-within : (f : Child → ℕ) (s : Child) (xs : List Child) → find stands xs ≡ Some s
    → f s ≤ sum_by f (filter (λ x. stands_for s.judged x.judged) xs)
first-within f s [] e = cc
first-within f s (x ∷ xs) e = search (rules, sum_by-cons, stands-itself, first-within f s xs)

-- no more than over all
pub kept-sum : (f : Child → ℕ) (xs : List Child) → sum_by f (kept_children xs) ≤ sum_by f xs
kept-sum f xs = by_first (find stands xs) refl where
  by_first : (first : Option Child) → find stands xs ≡ first
      → sum_by f (put_first first (filter (λ x. not (is_met first x.judged)) xs)) ≤ sum_by f xs
  by_first None e = omega (arith, sum_by-filter_both (λ (x : Child). not false) (λ x. false) (λ x. refl) f xs)
  by_first (Some s) e =
      let both = sum_by-filter_both (λ (x : Child). not (stands_for s.judged x.judged)) (λ x. stands_for s.judged x.judged)
      (λ x. twice (stands_for s.judged x.judged)) f xs in
      omega (arith, both, first-within f s xs e, sum_by-cons f s (filter (λ (x : Child). not (stands_for s.judged x.judged)) xs)) where
        twice : (r : Bool) → r ≡ not (not r)
        twice true = refl
        twice false = refl

-- ---- what holds of all holds of what is kept

pub found-all : (P : Child → Type 0) (s : Child) (xs : List Child) → AllByRecursion P xs → find stands xs ≡ Some s → P s
found-all P s [] all e = cc
found-all P s (x ∷ xs) all e = search (rules, found-all P s xs all.1)

pub kept-each : (P : Child → Type 0) (xs : List Child) → All P xs → All P (kept_children xs)
kept-each P xs all = by_first (find stands xs) refl where
  by_first : (first : Option Child) → find stands xs ≡ first → All P (put_first first (filter (λ x. not (is_met first x.judged)) xs))
  by_first None e = All-filter (λ x. not false) P xs all
  by_first (Some s) e =
      All-from_recursion P (s ∷ filter (λ x. not (stands_for s.judged x.judged)) xs) (
        found-all P s xs (recursion_from_All P xs all) e,
        recursion_from_All P _ (All-filter (λ x. not (stands_for s.judged x.judged)) P xs all),
      )

filter-all : (xs : List Child) → filter (λ x. not false) xs ≡ xs
filter-all [] = refl
filter-all (x ∷ xs) = ap (λ (ys : List Child). x ∷ ys) (filter-all xs)

pub kept-some : (xs : List Child) → 0 < length xs → 0 < length (kept_children xs)
kept-some xs some = by_first (find stands xs) where
  by_first : (first : Option Child) → 0 < length (put_first first (filter (λ x. not (is_met first x.judged)) xs))
  by_first None = let all = ap length (filter-all xs) in omega (arith, all, some)
  by_first (Some s) = omega arith

-- the first that may stand is one of all
pub found-if : (P : Child → Type 0) (xs : List Child) → All P xs → (first : Option Child) → first ≡ find stands xs → IfSome first P
found-if P xs all None e = tt
found-if P xs all (Some s) e = found-all P s xs (recursion_from_All P xs all) (sym e)

-- ---- what is met need not be judged

-- the first, after one more
pub first-more : (xs : List Child) (x : Child) → find stands (xs ++ x ∷ []) ≡ first_with (find stands xs) x
first-more xs x = find-append stands xs (x ∷ []) ∙ by_first (find stands xs) where
  by_first : (first : Option Child) → option_or first (find stands (x ∷ [])) ≡ first_with first x
  by_first None = refl
  by_first (Some s) = refl

-- those beside the first whose win does not stand after them
abbrev unmet : Option Child → List Child → List Child
unmet first = filter (λ x. not (is_met first x.judged))

-- of the part the same is kept as of all
pub record IsPart (part all : List Child) : Type 0 where
  pub first : find stands part ≡ find stands all
  pub rest : unmet (find stands part) part ≡ unmet (find stands part) all
  pub fewer : length part ≤ length all

pub part-kept : (part all : List Child) → IsPart part all → kept_children part ≡ kept_children all
part-kept part all is = ap (put_first (find stands part)) is.rest ∙ ap (λ (o : Option Child). put_first o (unmet o all)) is.first

-- one more in both
pub part-push : (part all : List Child) (x : Child) → IsPart part all → IsPart (part ++ x ∷ []) (all ++ x ∷ [])
part-push part all x is = record {
  first = first-more part x ∙ ap (λ (o : Option Child). first_with o x) is.first ∙ sym (first-more all x);
  rest = by_first (find stands part) is.rest (first-more part x);
  fewer = let few = is.fewer in omega (arith, few, length-append part (x ∷ []), length-append all (x ∷ []));
} where
  by_first : (first : Option Child) → unmet first part ≡ unmet first all → find stands (part ++ x ∷ []) ≡ first_with first x
      → unmet (find stands (part ++ x ∷ [])) (part ++ x ∷ []) ≡ unmet (find stands (part ++ x ∷ [])) (all ++ x ∷ [])
  by_first None rest found =
      ap (λ (xs : List Child). unmet (find stands (part ++ x ∷ [])) (xs ++ x ∷ [])) (sym (filter-all part) ∙ rest ∙ filter-all all)
  by_first (Some s) rest found =
      subst (λ (o : Option Child). unmet o (part ++ x ∷ []) ≡ unmet o (all ++ x ∷ [])) (sym found)
      (filter-append (λ y. not (stands_for s.judged y.judged)) part (x ∷ [])
      ∙ ap (λ (ys : List Child). ys ++ unmet (Some s) (x ∷ [])) rest
      ∙ sym (filter-append (λ y. not (stands_for s.judged y.judged)) all (x ∷ [])))

-- one more that is met
pub part-skip : (part all : List Child) (x : Child) → IsPart part all → is_met (find stands part) x.judged ≡ true
    → IsPart part (all ++ x ∷ [])
part-skip part all x is met = record {
  first = is.first ∙ by_first (find stands all) (subst (λ (o : Option Child). is_met o x.judged ≡ true) is.first met)
      ∙ sym (first-more all x);
  rest = is.rest ∙ sym (filter-append (λ y. not (is_met (find stands part) y.judged)) all (x ∷ [])
      ∙ ap (λ r. unmet (find stands part) all ++ cond (not r) (x ∷ []) []) met ∙ append-nil (unmet (find stands part) all));
  fewer = let few = is.fewer in omega (arith, few, length-append all (x ∷ []));
} where
  by_first : (first : Option Child) → is_met first x.judged ≡ true → first ≡ first_with first x
  by_first None h = cc
  by_first (Some s) h = refl

-- such a child is one, if it goes on
pub met-child : (rule : RuleKind) (moves : ℕ) (c : Grid) (q : Point) (part : List Child) → AllByRecursion (IsChild rule moves c) part
    → outcome rule c q ≡ GoesOn → (met : IsMetAt rule c (find stands part) q)
    → IsChild rule moves c (record { at = q; judged = met.judged })
met-child rule moves c q part each on met = by_first (find stands part) refl met.met where
  by_first : (first : Option Child) → find stands part ≡ first → is_met first met.judged ≡ true
      → IsChild rule moves c (record { at = q; judged = met.judged })
  by_first None e h = cc
  by_first (Some s) e h =
      let own = (found-all (IsChild rule moves c) s part each e).enough in
      let same = stands-moves s.judged met.judged h in record {
        on = on;
        judged = met.is;
        enough = omega (arith, own, same);
        stopped = λ open_is. absurd (stands-closed s.judged met.judged h open_is);
      }

-- ---- a reply that is not kept is met by the first

-- after this reply the win of the first of the children wins
pub record IsMetBy (rule : RuleKind) (moves : ℕ) (c : Grid) (items : List Child) (q : Point) : Type 0 where
  pub first : Child
  pub more : List Child
  pub items_are : items ≡ first ∷ more
  pub met : Child
  pub at : met.at ≡ q
  pub is : IsChild rule moves c met
  pub stands : stands_for first.judged met.judged ≡ true

filtered-out : (P : Child → Type 0) (q : Point) (r : Child → Bool) (xs : List Child) → AllByRecursion P xs
    → list_any (is_same_point q) (map (λ child. child.at) xs) ≡ true
    → list_any (is_same_point q) (map (λ child. child.at) (filter r xs)) ≡ false → (x : Child) × (x.at ≡ q) × P x × (r x ≡ false)
filtered-out P q r [] all found none = cc
filtered-out P q r (x ∷ xs) all found none = search (rules, is_same_point-same, filtered-out P q r xs all.1)

pub kept-covers : (rule : RuleKind) (moves : ℕ) (c : Grid) (judged : List Child) → AreJudged rule moves c judged → (q : Point)
    → outcome rule c q ≡ GoesOn
    → list_any (is_same_point q) (map (λ child. child.at) (kept_children judged)) ≡ false → IsMetBy rule moves c (kept_children judged) q
kept-covers rule moves c judged are q on none = by_first (find stands judged) none where
  listed : list_any (is_same_point q) (map (λ child. child.at) judged) ≡ true
  listed =
      ap (list_any (is_same_point q)) are.points
      ∙ still-found (λ p. goes_on (outcome rule c p)) q (points_of c) (ap goes_on on)
      (points-found c (is_same_point q) q (GoesOn-on rule c q on) (is_same_point-itself q))

  by_first : (first : Option Child) → list_any (is_same_point q)
      (map (λ child. child.at) (put_first first (filter (λ x. not (is_met first x.judged)) judged))) ≡ false
      → IsMetBy rule moves c (put_first first (filter (λ x. not (is_met first x.judged)) judged)) q
  by_first None out =
      let bad : true ≡ false = sym listed ∙ ap (λ (xs : List Child). list_any (is_same_point q) (map (λ child. child.at) xs))
      (sym (filter-all judged)) ∙ out in cc
  by_first (Some s) out =
      let rest : list_any (is_same_point q) (map (λ child. child.at) (filter (λ x. not (stands_for s.judged x.judged)) judged)) ≡ false =
      or_right (is_same_point q s.at) _ out in
      let found = filtered-out (IsChild rule moves c) q (λ x. not (stands_for s.judged x.judged)) judged
      (recursion_from_All (IsChild rule moves c) judged are.each) listed rest in
      record {
        first = s;
        more = filter (λ x. not (stands_for s.judged x.judged)) judged;
        items_are = refl;
        met = found.0;
        at = found.1;
        is = found.2;
        stands = not-false (stands_for s.judged found.0.judged) found.3;
      } where
        or_right : (a b : Bool) → (a || b) ≡ false → b ≡ false
        or_right true b h = cc
        or_right false b h = h

        not-false : (r : Bool) → not r ≡ false → r ≡ true
        not-false true h = refl
        not-false false h = cc

-- ---- the wins that are compiled

-- where the five point stands, it is one here
pub five-stands : (rule : RuleKind) (b : Grid) (w : Point) (judged : Judged) → stands_for (Five w) judged ≡ true → IsJudged rule b judged
    → five rule b (mover b) w ≡ true
five-stands rule b w (Five v) h is = subst (λ (p : Point). five rule b (mover b) p ≡ true) (sym (is_same_point-same w v h)) is
five-stands rule b w (DoubleWins d nodes) h is = cc
five-stands rule b w (Last p) h is = cc
five-stands rule b w Open h is = cc

double-same : (d e : DoublePoint) → is_same_double d e ≡ true → e ≡ d
double-same d e h = search (rules, and_parts, is_same_point-same)

-- and the double point wins here
pub double-stands : (rule : RuleKind) (b : Grid) (d : DoublePoint) (nodes : ℕ) (judged : Judged)
    → stands_for (DoubleWins d nodes) judged ≡ true
    → IsJudged rule b judged
    → IsDoubleWin rule b d × (moves_for judged ≡ 2)
double-stands rule b d nodes (DoubleWins e more) h is =
    (subst (IsDoubleWin rule b) (double-same d e (and_parts (nat_eq nodes 2) (is_same_double d e) h).1) is.wins, refl)
double-stands rule b d nodes (Five v) h is = cc
double-stands rule b d nodes (Last p) h is = cc
double-stands rule b d nodes Open h is = cc

-- a last move stands for no other, and a double point only with two nodes that answer the replies
pub last-stands : (p : Point) (judged : Judged) → stands_for (Last p) judged ≡ true → ⊥
last-stands p judged h = let standing = stands-standing (Last p) judged h in cc

pub two-stands : (d : DoublePoint) (nodes : ℕ) (judged : Judged) → stands_for (DoubleWins d nodes) judged ≡ true → nodes ≡ 2
two-stands d nodes judged h = eqb-true nodes 2 (stands-standing (DoubleWins d nodes) judged h)

module _ (rule : RuleKind) (c : Grid) (lawful : IsPosition rule c) (t : List Node) (win : WrittenWin) (moves : ℕ) (met : Child)
    (is : IsChild rule moves c met) where
  pub standing-five : (w : Point)
      → ((rule : RuleKind) (d : Grid) (moves : ℕ) → IsPosition rule d → five rule d (mover d) w ≡ true → 1 ≤ moves
      → IsThreatWin rule moves d t win)
      → stands_for (Five w) met.judged ≡ true → IsThreatWin rule moves (after c met.at) t win
  standing-five w says h =
      let some = moves-some met.judged in
      let enough = is.enough in
      says rule (after c met.at) moves (IsPosition-after rule c met.at lawful is.on)
      (five-stands rule (after c met.at) w met.judged h is.judged) (omega (arith, some, enough)) where
        moves-some : (judged : Judged) → 1 ≤ moves_for judged
        moves-some (Five v) = omega arith
        moves-some (DoubleWins e nodes) = omega arith
        moves-some (Last p) = omega arith
        moves-some Open = omega arith

  pub standing-double : (d : DoublePoint) (nodes : ℕ)
      → ((rule : RuleKind) (b : Grid) (moves : ℕ) → IsPosition rule b → IsDoubleWin rule b d → 2 ≤ moves → IsThreatWin rule moves b t win)
      → stands_for (DoubleWins d nodes) met.judged ≡ true → IsThreatWin rule moves (after c met.at) t win
  standing-double d nodes says h =
      let here = double-stands rule (after c met.at) d nodes met.judged h is.judged in
      let enough = is.enough in
      let two = here.1 in
      says rule (after c met.at) moves (IsPosition-after rule c met.at lawful is.on) here.0 (omega (arith, enough, two))
