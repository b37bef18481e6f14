-- The points of plain moves, where the points of the board come one by one.
use Rattle.std.proofs.Common.{◌≡◌, ℕ, ◌≤◌, Bool, true, false, cond, ◌&&◌, not, nat_le, nat_lt, refl, sym, ap, ◌∙◌, List, [], ◌∷◌, le-leb}
use Rattle.std.proofs.Common.{ltb-true, ltb-false, Option, Some, None, find, filter, rules}
use Rattle.std.proofs.lemmas.Bool.{lt-leb, false_from_ne_true, and_left as no_left, and_right as no_right}
use Rattle.brain_session.proofs.Common.{Grid, is_empty, points_of, five, mover, other, outcome, is_foul, RuleKind, Side, five_to_block}
use Rattle.brain_session.proofs.Common.{next_to_middle, off_middle, is_nearer, Point}
use Rattle.std.specs.List.{list_all}
use Rattle.game_rules.proofs.PointLists.{none_nearer, first_nearest, none_nearer-than, first_nearest-cons}

-- the nearest of these points and of the best before them: the first of those to which none is nearer
abbrev pub nearest_of : (Point → ℕ) → Option Point → List Point → Option Point
nearest_of distance best [] = best
nearest_of distance best (p ∷ ps) = nearest_of distance (cond (is_nearer distance p best) (Some p) best) ps

module _ (distance : Point → ℕ) where
  nearest_of-best : (p : Point) (ps : List Point) → nearest_of distance (Some p) ps ≡ cond (none_nearer distance p ps) (Some p)
      (first_nearest distance ps)
  nearest_of-best p [] = refl
  nearest_of-best p (q ∷ qs) = by_test (nat_lt (distance q) (distance p)) refl (nearest_of-best q qs) (nearest_of-best p qs) where
    all : cond (none_nearer distance p (q ∷ qs)) (Some p) (first_nearest distance (q ∷ qs)) ≡ cond (none_nearer distance p (q ∷ qs))
        (Some p) (cond (none_nearer distance q qs) (Some q) (first_nearest distance qs))
    all = ap (λ (o : Option Point). cond (none_nearer distance p (q ∷ qs)) (Some p) o) ((first_nearest-cons distance) q qs)

    -- q is not nearer, so it is the nearest only where p is
    by_rest : distance p ≤ distance q → (r : Bool) → none_nearer distance p qs ≡ r
        → cond r (Some p) (first_nearest distance qs) ≡ cond r (Some p)
        (cond (none_nearer distance q qs) (Some q) (first_nearest distance qs))
    by_rest near true e = refl
    by_rest near false e =
        let fails : none_nearer distance q qs ≡ false = false_from_ne_true _
        (λ holds. let both = (none_nearer-than distance) p q qs near holds in cc) in
        rw fails refl

    by_test : (r : Bool) → nat_lt (distance q) (distance p) ≡ r
        → nearest_of distance (Some q) qs ≡ cond (none_nearer distance q qs) (Some q) (first_nearest distance qs)
        → nearest_of distance (Some p) qs ≡ cond (none_nearer distance p qs) (Some p) (first_nearest distance qs)
        → nearest_of distance (cond r (Some q) (Some p)) qs ≡ cond (none_nearer distance p (q ∷ qs)) (Some p)
        (first_nearest distance (q ∷ qs))
    by_test true e by_q by_p =
        let less = ltb-true (distance q) (distance p) e in
        by_q ∙ sym (all ∙ rw (lt-leb (distance p) (distance q) less) refl)
    by_test false e by_q by_p =
        let near = ltb-false (distance q) (distance p) e in
        by_p ∙ by_rest near (none_nearer distance p qs) refl ∙ sym (all ∙ rw (le-leb (distance p) (distance q) near) refl)

  -- the nearest of all is the first to which none is nearer
  pub nearest_of-first : (ps : List Point) → nearest_of distance None ps ≡ find (λ p. list_all (λ q. nat_le (distance p) (distance q)) ps)
      ps
  nearest_of-first [] = refl
  nearest_of-first (p ∷ ps) = nearest_of-best p ps ∙ sym ((first_nearest-cons distance) p ps)

  -- ---- a turn of the loop, over those of the points that pass a test
  pub nearest_of-turn : (f : Point → Bool) (best next found : Option Point) (p : Point) (ps : List Point)
      → nearest_of distance best (filter f (p ∷ ps)) ≡ found → next ≡ cond (f p) (cond (is_nearer distance p best) (Some p) best) best
      → nearest_of distance next (filter f ps) ≡ found
  nearest_of-turn f best next found p ps h e = search rules

-- ---- the first five point of the other side that may be blocked

-- whether the point is a five point of the side, and a move there is no foul
abbrev pub may_block : RuleKind → Grid → Side → Point → Bool
may_block rule b s p = five rule b s p && not (is_foul (outcome rule b p))

pub block-init : (rule : RuleKind) (b : Grid) (m s : Side) (all ps : List Point) → m ≡ mover b → s ≡ other m → all ≡ points_of b → ps ≡ all
    → find (may_block rule b s) ps ≡ five_to_block rule b
block-init rule b m s all ps side of_other points given = rw (given, points, of_other, side) refl

block-here : (rule : RuleKind) (b : Grid) (s : Side) (p : Point) (ps : List Point) (r : Bool) → r ≡ false
    → cond r (Some p) (find (may_block rule b s) ps) ≡ five_to_block rule b → find (may_block rule b s) ps ≡ five_to_block rule b
block-here rule b s p ps r e h = search rules

-- a point that may not be blocked is passed
pub block-turn : (rule : RuleKind) (b c : Grid) (s : Side) (p : Point) (ps qs : List Point) → c ≡ b → ps ≡ p ∷ qs
    → find (may_block rule b s) ps ≡ five_to_block rule b → may_block rule b s p ≡ false
    → find (may_block rule c s) qs ≡ five_to_block rule c
block-turn rule b c s p ps qs same steps h fails = search (rules, block-here)

pub unfit-no_five : (rule : RuleKind) (b : Grid) (s : Side) (p : Point) → five rule b s p ≡ false → may_block rule b s p ≡ false
unfit-no_five rule b s p e = no_left (five rule b s p) _ e

pub unfit-foul : (rule : RuleKind) (b : Grid) (s : Side) (p : Point) → is_foul (outcome rule b p) ≡ true → may_block rule b s p ≡ false
unfit-foul rule b s p e = no_right (five rule b s p) _ (ap not e)

-- ---- the point next to the middle

-- whether the point is empty, and a move there is no foul
abbrev pub may_play : RuleKind → Grid → Point → Bool
may_play rule b p = is_empty b p && not (is_foul (outcome rule b p))

pub nearest-init : (rule : RuleKind) (b : Grid) (all ps : List Point) → all ≡ points_of b → ps ≡ all
    → nearest_of (off_middle b) None (filter (may_play rule b) ps) ≡ next_to_middle rule b
nearest-init rule b all ps points given = rw (given, points) (nearest_of-first (off_middle b) (filter (may_play rule b) (points_of b)))

same_best : (may near : Bool) (best other : Option Point) → (may && near) ≡ false → best ≡ cond may (cond near other best) best
same_best may near best other h = search rules

-- a point that is not taken is passed
pub nearest-turn : (rule : RuleKind) (b c : Grid) (best : Option Point) (p : Point) (ps qs : List Point) → c ≡ b → ps ≡ p ∷ qs
    → nearest_of (off_middle b) best (filter (may_play rule b) ps) ≡ next_to_middle rule b
    → (may_play rule b p && is_nearer (off_middle b) p best) ≡ false
    → nearest_of (off_middle c) best (filter (may_play rule c) qs) ≡ next_to_middle rule c
nearest-turn rule b c best p ps qs same steps h fails =
    rw same (nearest_of-turn (off_middle b) (may_play rule b) best best (next_to_middle rule b) p qs
    (ap (λ (l : List Point). nearest_of (off_middle b) best (filter (may_play rule b) l)) (sym steps) ∙ h)
    (same_best (may_play rule b p) (is_nearer (off_middle b) p best) best (Some p) fails))

pub passed-taken : (rule : RuleKind) (b : Grid) (best : Option Point) (p : Point) → is_empty b p ≡ false
    → (may_play rule b p && is_nearer (off_middle b) p best) ≡ false
passed-taken rule b best p e = no_left (may_play rule b p) _ (no_left (is_empty b p) _ e)

pub passed-foul : (rule : RuleKind) (b : Grid) (best : Option Point) (p : Point) → is_foul (outcome rule b p) ≡ true
    → (may_play rule b p && is_nearer (off_middle b) p best) ≡ false
passed-foul rule b best p e = no_left (may_play rule b p) _ (no_right (is_empty b p) _ (ap not e))

pub passed-far : (rule : RuleKind) (b : Grid) (best : Option Point) (p : Point) → is_nearer (off_middle b) p best ≡ false
    → (may_play rule b p && is_nearer (off_middle b) p best) ≡ false
passed-far rule b best p e = no_right (may_play rule b p) _ e
