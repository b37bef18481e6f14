-- The courses over replies: what they owe is what all replies owe.
use Rattle.std.proofs.Common.{◌≡◌, ℕ, zero, suc, ◌+◌, ◌<◌, Bool, true, false, cond, List, [], ◌∷◌, ◌++◌, map, refl, sym, ap, subst, ◌∙◌}
use Rattle.std.proofs.Common.{arith, rules, inl, inr, Some, slice_get, All, sum_by, find, option_map}
use Rattle.std.specs.List.{list_all}
use Rattle.std.proofs.lemmas.List.Elements.{All-cons, All-nil}
use Rattle.std.proofs.lemmas.List.Sums.{sum_by-cons, sum_by-append}
use Rattle.strategy_checker.proofs.Common.{Grid, IsBoard, empties_of, points_of, has_five, IsPosition, mover, precedes, is_same_point}
use Rattle.strategy_checker.proofs.Common.{Point, RuleKind, Node, Reply, Rest, Answers, is_rising, listed_node, rest_node, Accepted, Meets}
use Rattle.strategy_checker.proofs.Common.{arrivals, arrivals_after, arrivals_at, Sure, Walk, IsReady, IsSure, AreMet, IsWhole, Owes}
use Rattle.strategy_checker.proofs.Common.{apart_points, owed}
use Rattle.game_rules.proofs.Boards.{and_left, and_right}
use Rattle.game_rules.proofs.Points.{is_same_point-itself, precedes-differs}
use Rattle.strategy_checker.proofs.Counted.{arrivals-listed, is_listed, met-listed, met-most}
use Rattle.strategy_checker.proofs.Owing.{owes-all}

-- ---- a reply that is listed

all-at : (p : Reply → Bool) (rs : List Reply) (i : ℕ) (r : Reply) → list_all p rs ≡ true → slice_get rs i ≡ Some r → p r ≡ true
all-at p [] i r all at = cc
all-at p (s ∷ rs) zero r all at = let same : s ≡ r = cc in subst (λ (x : Reply). p x ≡ true) same (and_left (p s) _ all)
all-at p (s ∷ rs) (suc i) r all at = all-at p rs i r (and_right (p s) _ all) at

-- of rising replies each is listed with its node
pub listed-here : (rs : List Reply) (i : ℕ) (r : Reply) → is_rising rs ≡ true → slice_get rs i ≡ Some r → listed_node rs r.at ≡ Some r.next
listed-here [] i r rising at = cc
listed-here (s ∷ rs) zero r rising at = search (rules, is_same_point-itself)
listed-here (s ∷ rs) (suc i) r rising at =
    let after : precedes s.at r.at ≡ true = all-at (λ x. precedes s.at x.at) rs i r (and_left _ (is_rising rs) rising) at in
    ap (λ (b : Bool). option_map (λ (x : Reply). x.next) (cond b (Some s) (find (λ (x : Reply). is_same_point x.at r.at) rs)))
    (precedes-differs s.at r.at after) ∙ listed-here rs i r (and_right (list_all (λ (x : Reply). precedes s.at x.at) rs) _ rising) at

-- ---- points of replies

sum-at : (f : Point → ℕ) (rs : List Reply) → sum_by f (map (λ r. r.at) rs) ≡ sum_by (λ r. f r.at) rs
sum-at f [] = refl
sum-at f (r ∷ rs) = search (rules, sum_by-cons, sum-at f rs)

all-apart : (P : Point → Type 0) (rs : List Reply) (ys : List Point) → All P (map (λ r. r.at) rs ++ ys) → All (λ r. P r.at) rs × All P ys
all-apart P [] ys all = (All-nil (λ (r : Reply). P r.at), all)
all-apart P (r ∷ rs) ys all =
    let rest = all-apart P rs ys (λ j d l. all (suc j) d (omega (arith, l))) in
    (All-cons (λ (x : Reply). P x.at) r rs (all 0 r.at (omega arith)) rest.0, rest.1)

all-at_points : (P : Point → Type 0) (rs : List Reply) → All P (map (λ r. r.at) rs) → All (λ r. P r.at) rs
all-at_points P [] all = All-nil (λ (r : Reply). P r.at)
all-at_points P (r ∷ rs) all =
    All-cons (λ (x : Reply). P x.at) r rs (all 0 r.at (omega arith)) (all-at_points P rs (λ j d l. all (suc j) d (omega (arith, l))))

-- ---- all replies

module _ (rule : RuleKind) (t : List Node) (b : Grid) (rs : List Reply) (rest : Rest) (rising : is_rising rs ≡ true) where
  abbrev a : Answers
  a = record { replies = rs; rest = rest }

  -- a course over the points, or over those that are listed where no other is empty
  pub whole-owes : IsBoard b → (qs : List Point) (now : Walk) → IsReady rule t b now → IsWhole b rs qs
      → Owes rule t a b (AreMet rule t a b (points_of b)) (owed rule t a b (points_of b)) qs now.left now
  whole-owes ok qs now ready (inl same) = rw same (owes-all rule t a b (points_of b) now ready)
  whole-owes ok qs now ready (inr listed) =
      let all = arrivals-listed rule t b rs rest ok rising listed.1 in
      let these = ap (owed rule t a b) listed.0 ∙ sum-at (arrivals_at rule a (arrivals rule t) b) rs in
      record {
        counted = omega (arith, all, these);
        met = λ met. λ k d l. met-listed rule t b rs rest ok rising listed.1
            (all-at_points (Meets rule a (Accepted rule t) b) rs (subst (AreMet rule t a b) listed.0 met)) _;
        ready = ready;
      }

  module _ (s : Sure) (lawful : IsPosition rule b) (is : IsSure rule t b s) (to : rest_node rest ≡ Some s.node) where
    owed-last : (r : Bool) → is_listed rs s.attack ≡ r
        → owed rule t a b (cond r [] (s.attack ∷ [])) ≡ cond r 0 (arrivals_at rule a (arrivals rule t) b s.attack)
    owed-last r h = search (rules, sum_by-cons)

    met-last : (r : Bool) → is_listed rs s.attack ≡ r → AreMet rule t a b (cond r [] (s.attack ∷ []))
        → is_listed rs s.attack ≡ false → Meets rule a (Accepted rule t) b s.attack
    met-last true h met = λ no. let bad : true ≡ false = sym h ∙ no in cc
    met-last false h met = λ no. met 0 s.attack (omega arith)

    -- the arrivals behind all replies are those that are counted, and those behind the replies that are apart
    pub apart-arrivals : (others : ℕ)
        → (arrivals_after rule a (arrivals rule t) b ≡ others + (sum_by (λ r. arrivals_at rule a (arrivals rule t) b r.at) rs
        + cond (is_listed rs s.attack) 0 (arrivals_at rule a (arrivals rule t) b s.attack)))
        → owed rule t a b (points_of b) ≡ others + owed rule t a b (apart_points rs s.attack)
    apart-arrivals others all = search (rules, sum_by-append, is_listed, sum-at, owed-last)

    pub apart-met : has_five rule b (mover b) ≡ false → 1 < empties_of b → AreMet rule t a b (apart_points rs s.attack)
        → AreMet rule t a b (points_of b)
    apart-met free more met =
        let both = all-apart (Meets rule a (Accepted rule t) b) rs (cond (is_listed rs s.attack) [] (s.attack ∷ [])) met in
        λ k d l. met-most rule t b rs rest s lawful is to free more both.0 (met-last (is_listed rs s.attack) refl both.1) _
