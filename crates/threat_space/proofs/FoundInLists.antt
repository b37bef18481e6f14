-- The lists that a search looks at, one after another: lists in two parts, lists by threats and by length.
use Rattle.std.proofs.Common.{rules, ◌≡◌, ◌≢◌, ℕ, zero, suc, ◌+◌, ◌-◌, ◌≤◌, ◌<◌, Bool, true, false, cond}
use Rattle.std.proofs.Common.{List, [], ◌∷◌, ◌++◌, map, drop, length, get_or, nat_eq, refl, sym, ap, ◌∙◌, arith}
use Rattle.std.proofs.Common.{append_assoc, add-one, Option, is_some, nat_le}
use Rattle.std.specs.List.{filter, flat_map, range_with_len}
use Rattle.std.proofs.lemmas.Bool.Decides.{nat_tests}
use Rattle.threat_space.proofs.Common.{Grid, points_of, set_has, RuleKind, Side, Point, Threat, threats_at, threats_of, FoundInLists}
use Rattle.threat_space.proofs.Common.{NoSequence}
use Rattle.threat_space.proofs.Common.{played, played_all, lists_from, lists_of, lists_up_to, final_of, first_with, pair_or, count_up_to}
use Rattle.threat_space.proofs.Common.{answer_with, space_answer, found_or, looked, looked_on, answer_of}
use Rattle.open_windows.specs.OpenWindows.{in_window}
use Rattle.open_windows.specs.PointSets.{TellsWindows}
use Rattle.open_windows.proofs.SetOrder.{filter-on}
use Rattle.threat_moves.proofs.GainLaws.{outside-threats}
use Rattle.threat_moves.proofs.ThreatLists.{drop-at, Final, Lists, after_path, map-append, path-longer, path-none, no_lists, map-none}
use Rattle.threat_space.specs.declared.answer.SpaceAnswer.TheVariants.{Spent as OutOfBudget}
use Rattle.threat_space.specs.declared.walk.FoundInLists.TheVariants.{Spent}

-- ---- lists in two parts

append_by : (r : Bool) (ts : List Threat) (o : Option Point) (a b : FoundInLists) (later : ℕ → FoundInLists) → a ≡ looked_on b later
    → cond r Spent (found_or ts o a) ≡ looked_on (cond r Spent (found_or ts o b)) later
append_by r ts o a b later e = search rules

pub looked-append : (final : Final) (n : ℕ) (xs ys : Lists)
    → looked final n (xs ++ ys) ≡ looked_on (looked final n xs) (λ m. looked final m ys)
looked-append final n [] ys = refl
looked-append final n (ts ∷ xs) ys = append_by (nat_eq n 0) ts (final ts) _ _ (λ m. looked final m ys) (looked-append final (n - 1) xs ys)

pub on-ends : (a : FoundInLists) (later : ℕ → FoundInLists) → ((m : ℕ) → a ≢ NoSequence m) → looked_on a later ≡ a
on-ends a later h = search rules

-- ---- lists by threats

module _ (final : Final) (path : List Threat) (lists : Grid → Lists) (s : Side) (b : Grid) where
  -- what is found among the lists that begin with one of these threats
  abbrev pub from_threats : ℕ → List Threat → FoundInLists
  from_threats n ts = looked final n (after_path path (lists_from lists s b ts))

  -- and with the first of them
  abbrev pub from_threat : ℕ → Threat → FoundInLists
  from_threat n t = looked final n (after_path (path ++ t ∷ []) (lists (played b s t)))

  -- one threat of a list
  pub threat-next : (n i : ℕ) (ts : List Threat) (t : Threat) → i < length ts → t ≡ get_or ts i t
      → from_threats n (drop i ts) ≡ looked_on (from_threat n t) (λ m. from_threats m (drop (i + 1) ts))
  threat-next n i ts t low at = search (rules, drop-at, map-append, after_path, path-longer, looked-append)

-- ---- threats by gains

module _ (rule : RuleKind) (s : Side) (b : Grid) where
  kept-threats : (f : Point → Bool) → ((p : Point) → f p ≡ false → threats_at rule b s p ≡ []) → (ps : List Point)
      → flat_map (threats_at rule b s) (filter f ps) ≡ flat_map (threats_at rule b s) ps
  kept-threats f none [] = refl
  kept-threats f none (p ∷ ps) = by_test (f p) refl (kept-threats f none ps) where
    by_test : (r : Bool) → f p ≡ r → flat_map (threats_at rule b s) (filter f ps) ≡ flat_map (threats_at rule b s) ps
        → flat_map (threats_at rule b s) (cond r (p ∷ filter f ps) (filter f ps)) ≡ threats_at rule b s p
        ++ flat_map (threats_at rule b s) ps
    by_test true e rest = ap (λ (ts : List Threat). threats_at rule b s p ++ ts) rest
    by_test false e rest = rest ∙ ap (λ (ts : List Threat). ts ++ flat_map (threats_at rule b s) ps) (sym (none p e))

  -- all have their gains in open windows with two stones
  pub window-threats : (rows : List ℕ) → TellsWindows b s 2 rows
      → flat_map (threats_at rule b s) (filter (set_has rows) (points_of b)) ≡ threats_of rule b s
  window-threats rows tells =
      ap (flat_map (threats_at rule b s)) (filter-on b (set_has rows) (in_window b s 2) tells.points)
      ∙ kept-threats (in_window b s 2) (λ p out. outside-threats rule b s p tells.board out) (points_of b)

module _ (rule : RuleKind) (s : Side) (b : Grid) (p : Point) (ps qs : List Point) (e : ps ≡ p ∷ qs) where
  -- the threats of one gain more
  pub more-threats : (ts us : List Threat) → us ≡ ts ++ threats_at rule b s p
      → us ++ flat_map (threats_at rule b s) qs ≡ ts ++ flat_map (threats_at rule b s) ps
  more-threats ts us longer =
      let rest : List Threat = flat_map (threats_at rule b s) qs in
      let here : us ++ rest ≡ (ts ++ threats_at rule b s p) ++ rest = ap (λ (vs : List Threat). vs ++ rest) longer in
      let along = append_assoc ts (threats_at rule b s p) rest in
      let all = ap (λ (vs : List Point). ts ++ flat_map (threats_at rule b s) vs) (sym e) in
      here ∙ along ∙ all

-- ---- lists of some number of threats

module _ (rule : RuleKind) (s : Side) (b : Grid) where
  pub lists-none : (k : ℕ) (path : List Threat) → k ≡ 0 → after_path path (lists_of rule s k b) ≡ path ∷ []
  unfolding lists_of
  lists-none k path e = search rules

  pub lists-zero : (k : ℕ) → k ≡ 0 → lists_of rule s k b ≡ [] ∷ []
  unfolding lists_of
  lists-zero k e = search rules

  pub lists-more : (k : ℕ) → 0 < k → lists_of rule s k b ≡ lists_from (lists_of rule s (k - 1)) s b (threats_of rule b s)
  unfolding lists_of
  lists-more k some = search rules

pub played-more : (b : Grid) (s : Side) (ts : List Threat) (t : Threat) → played_all b s (ts ++ t ∷ []) ≡ played (played_all b s ts) s t
played-more b s [] t = refl
played-more b s (u ∷ ts) t = played-more (played b s u) s ts t

-- ---- lists by length

module _ (rule : RuleKind) (final : Final) (s : Side) (b : Grid) where
  -- what is found among the lists of so many threats, from a number on
  abbrev pub from_length : ℕ → ℕ → ℕ → FoundInLists
  from_length n k more = looked final n (flat_map (λ i. lists_of rule s i b) (range_with_len k more))

  pub length-next : (n k more : ℕ) → 0 < more → from_length n k more ≡ looked_on (looked final n (after_path [] (lists_of rule s k b)))
      (λ m. from_length m (k + 1) (more - 1))
  length-next n k more some = search (rules, looked-append, path-none, after_path)

-- what is left of a budget is no more than it
left_by : (r : Bool) (ts : List Threat) (o : Option Point) (a : FoundInLists) (n m : ℕ) → cond r Spent (found_or ts o a) ≡ NoSequence m
    → (a ≡ NoSequence m → m ≤ n - 1) → nat_eq n 0 ≡ r → m < n
left_by r ts o a n m h k e = search rules

left : (final : Final) (n m : ℕ) (xs : Lists) → looked final n xs ≡ NoSequence m → m ≤ n
left final n m [] h = let same : NoSequence n ≡ NoSequence m = h in let e : n ≡ m = cc in omega arith
left final n m (ts ∷ xs) h =
    let less = left_by (nat_eq n 0) ts (final ts) (looked final (n - 1) xs) n m h (left final (n - 1) m xs) refl in
    omega (arith, less)

-- where nothing of it was spent there was no list
pub all-left : (final : Final) (n : ℕ) (xs : Lists) → looked final n xs ≡ NoSequence n → xs ≡ []
all-left final n [] h = refl
all-left final n (ts ∷ xs) h = absurd (
    let less = left_by (nat_eq n 0) ts (final ts) (looked final (n - 1) xs) n n h (left final (n - 1) n xs) refl in
    omega (arith, less))

from-none : (lists more : Grid → Lists) (s : Side) → ((c : Grid) → lists c ≡ [] → more c ≡ []) → (b : Grid) (ts : List Threat)
    → lists_from lists s b ts ≡ [] → lists_from more s b ts ≡ []
from-none lists more s none b [] h = refl
from-none lists more s none b (t ∷ ts) h =
    let parts = no_lists (map (λ more. t ∷ more) (lists (played b s t))) (lists_from lists s b ts) h in
    let here : more (played b s t) ≡ [] = none (played b s t) (map-none (λ more. t ∷ more) (lists (played b s t)) parts.0) in
    rw (here, from-none lists more s none b ts parts.1) refl

-- where there is no list of so many threats there is none of more
none-more : (rule : RuleKind) (s : Side) (k : ℕ) (b : Grid) → lists_of rule s k b ≡ [] → lists_of rule s (suc k) b ≡ []
unfolding lists_of
none-more rule s zero b h = cc
none-more rule s (suc k) b h = from-none (lists_of rule s k) (lists_of rule s (suc k)) s (none-more rule s k) b (threats_of rule b s) h

none-later : (rule : RuleKind) (s : Side) (b : Grid) (more k : ℕ) → lists_of rule s k b ≡ []
    → flat_map (λ i. lists_of rule s i b) (range_with_len k more) ≡ []
none-later rule s b zero k h = refl
none-later rule s b (suc more) k h =
    let next : lists_of rule s (k + 1) b ≡ [] = ap (λ j. lists_of rule s j b) (add-one k) ∙ none-more rule s k b h in
    rw (h, none-later rule s b more (k + 1) next) refl

pub length-ends : (rule : RuleKind) (final : Final) (s : Side) (b : Grid) (n k more : ℕ)
    → looked final n (after_path [] (lists_of rule s k b)) ≡ NoSequence n → from_length rule final s b n k more ≡ NoSequence n
length-ends rule final s b n k more h = search (rules, none-later, path-none, all-left, after_path)

-- ---- the answer

first_by : (ts : List Threat) (o : Option Point) (r : Bool) (n m : ℕ) (a : FoundInLists) (later : Option (List Threat × Point))
    → nat_eq n 0 ≡ r
    → answer_of a ≡ cond (nat_le m (n - 1)) (answer_with later) OutOfBudget
    → answer_of (cond r Spent (found_or ts o a)) ≡ cond (nat_le (1 + cond (is_some o) 0 m) n) (answer_with (pair_or ts o later)) OutOfBudget
first_by ts o r n m a later e h = search rules

answer-is : (final : Final) (n : ℕ) (xs : Lists) → answer_of (looked final n xs) ≡ cond (nat_le (count_up_to final xs) n)
    (answer_with (first_with final xs)) OutOfBudget
answer-is final n [] = let within : nat_le 0 n ≡ true = grind (arith, nat_tests) in rw within refl
answer-is final n (ts ∷ xs) = search (first_by, answer-is final (n - 1) xs)

-- the answer by all lists of at most so many threats
pub answer-all : (rule : RuleKind) (s : Side) (k n : ℕ) (b : Grid) (a : FoundInLists)
    → from_length rule (final_of rule s b) s b n 0 (k + 1) ≡ a
    → answer_of a ≡ space_answer rule s k n b
answer-all rule s k n b a e = ap answer_of (sym e) ∙ answer-is (final_of rule s b) n (lists_up_to rule s k b)

-- ---- steps of the walk, as the code has them

module _ (rule : RuleKind) (final : Final) (path : List Threat) (lists : Grid → Lists) (s : Side) (b : Grid) where
  -- a threat after which the walk goes on, and one at which it ends
  pub threat-goes_on : (n i : ℕ) (ts : List Threat) (t : Threat) → i < length ts → t ≡ get_or ts i t → (a : FoundInLists)
      → a ≡ from_threat final path lists s b n t → (m : ℕ) → a ≡ NoSequence m
      → from_threats final path lists s b n (drop i ts) ≡ from_threats final path lists s b m (drop (i + 1) ts)
  threat-goes_on n i ts t low at a found m h =
      threat-next final path lists s b n i ts t low at ∙ ap (λ x. looked_on x (λ m. from_threats final path lists s b m (drop (i + 1) ts)))
      (sym found ∙ h)

  pub threat-ends : (n i : ℕ) (ts : List Threat) (t : Threat) → i < length ts → t ≡ get_or ts i t → (a : FoundInLists)
      → a ≡ from_threat final path lists s b n t → ((m : ℕ) → a ≢ NoSequence m) → from_threats final path lists s b n (drop i ts) ≡ a
  threat-ends n i ts t low at a found h =
      threat-next final path lists s b n i ts t low at ∙ ap (λ x. looked_on x (λ m. from_threats final path lists s b m (drop (i + 1) ts)))
      (sym found)
      ∙ on-ends a (λ m. from_threats final path lists s b m (drop (i + 1) ts)) h

-- the lists that begin with any threat are all lists of so many threats
pub threats-all : (rule : RuleKind) (final : Final) (path : List Threat) (s : Side) (b : Grid) (n k : ℕ) (ts : List Threat) → 0 < k
    → ts ≡ threats_of rule b s
    → from_threats final path (lists_of rule s (k - 1)) s b n ts ≡ looked final n (after_path path (lists_of rule s k b))
threats-all rule final path s b n k ts some e = search (rules, after_path, lists-more)

module _ (rule : RuleKind) (final : Final) (s : Side) (b : Grid) where
  pub length-goes_on : (n k more less : ℕ) → 0 < more → less + 1 ≡ more → (a : FoundInLists)
      → a ≡ looked final n (after_path [] (lists_of rule s k b)) → (m : ℕ) → a ≡ NoSequence m
      → from_length rule final s b n k more ≡ from_length rule final s b m (k + 1) less
  length-goes_on n k more less some one a found m h = search (rules, length-next)

  pub length-stops : (n k more : ℕ) → 0 < more → (a : FoundInLists) → a ≡ looked final n (after_path [] (lists_of rule s k b))
      → ((m : ℕ) → a ≢ NoSequence m) → from_length rule final s b n k more ≡ a
  length-stops n k more some a found h = search (rules, length-next, on-ends)

  pub length-none : (n k more : ℕ) → more ≡ 0 → from_length rule final s b n k more ≡ NoSequence n
  length-none n k more e = ap (from_length rule final s b n k) e
