-- Lists of threats that have no final point wherever they began: what is counted of them, where they end, and what is remembered.
use Rattle.std.proofs.Common.{◌≡◌, ℕ, ◌+◌, ◌-◌, ◌<◌, ◌≤◌, ◌⊎◌, true, false, ◌&&◌, List, [], ◌∷◌}
use Rattle.std.proofs.Common.{◌++◌, drop, length, get_or, filter, find, refl, sym, ap, subst, ◌∙◌, arith, Option, Some, None, IfSome}
use Rattle.std.proofs.Common.{Contains, inl, inr, rules}
use Rattle.std.proofs.lemmas.List.{append-nil}
use Rattle.threat_space.proofs.Common.{Grid, IsBoard, points_of, other, has_five, RuleKind, Side, Point, packed, Threat, threats_of}
use Rattle.threat_space.proofs.Common.{FoundInLists, NoSequence, with_stone, with_stones, played, played_all, lists_from, lists_of}
use Rattle.threat_space.proofs.Common.{final_of, is_final_point, all_needed, is_sequence, looked, looked_on, HasPairsAfter, MayMakePairs}
use Rattle.threat_space.proofs.Common.{set_has}
use Rattle.threat_space.proofs.Common.{EndsAlike, IsNearAfter, HasNoFinal, passed, AreBarren, IsBarren, BarrenMemory}
use Rattle.threat_space.proofs.Common.{IsBarrenEntry, IsTrueBarrenMemory}
use Rattle.position_table.specs.Packing.{Packed}
use Rattle.position_table.specs.Remembering.{value_under, looked_up, kept}
use Rattle.position_table.proofs.Packing.{packed-tells}
use Rattle.position_table.proofs.Remembering.{value_under-kept, looked_up-before, kept-before}
use Rattle.threat_moves.proofs.FarStones.{follows}
use Rattle.threat_moves.proofs.ThreatLists.{last_added, Final, Lists, after_path}
use Rattle.game_rules.proofs.Boards.{and_left}
use Rattle.game_rules.proofs.PointLists.{find-and, find-same}
use Rattle.threat_space.proofs.FarFinals.{ends-near, final-two}
use Rattle.threat_space.proofs.FoundInLists.{from_threats, threat-next, lists-more, played-more}

-- ---- counts

-- what is found of some lists and then of others, where none has a final point
pub passed-both : (n k budget : ℕ) → looked_on (passed n budget) (λ m. passed k m) ≡ passed (n + k) budget
passed-both n k budget = search rules

-- one list that has no final point
pub passed-one : (final : Final) (ts : List Threat) (budget : ℕ) → final ts ≡ None → looked final budget (ts ∷ []) ≡ passed 1 budget
passed-one final ts budget none = search rules

-- ---- where a list ends

-- a list without threats has no last gain
pub alike-none : (us : List Threat) → EndsAlike [] us
alike-none us g h = absurd (let some = h.some in omega (arith, some))

some_added : (ts : List Threat) (t : Threat) → 0 < length (ts ++ t ∷ [])
some_added [] t = omega arith
some_added (v ∷ ts) t = omega arith

-- two lists with the same last threat end alike
pub alike-added : (ts us longer : List Threat) (t : Threat) → longer ≡ ts ++ t ∷ [] → EndsAlike longer (us ++ t ∷ [])
alike-added ts us longer t is g h = search (rules, last_added, some_added)

-- where the side has no five point, the final points of lists with one last gain are near it
pub near-after : (rule : RuleKind) (s : Side) (b : Grid) (ts : List Threat) (t : Threat) (far : List Point) → IsBoard b → 0 < length ts
    → t ≡ get_or ts (length ts - 1) t → has_five rule b s ≡ false → HasPairsAfter rule b s ts far → IsNearAfter rule s b t.gain far
near-after rule s b ts t far ok some place none pairs start us h is =
    rw h.gain at (ends-near rule s start b us h.last far ok is h.some h.place none (λ fouls. rw h.gain (pairs fouls t some place)))

-- ---- the points of the boards on the way

stone-points : (b : Grid) (s : Side) (p : Point) → points_of (with_stone b s p) ≡ points_of b
stone-points b s p = search rules

stones-points : (b : Grid) (s : Side) (ps : List Point) → points_of (with_stones b s ps) ≡ points_of b
stones-points b s [] = refl
stones-points b s (p ∷ ps) = stones-points (with_stone b s p) s ps ∙ stone-points b s p

played-points : (b : Grid) (s : Side) (t : Threat) → points_of (played b s t) ≡ points_of b
unfolding played
played-points b s t = stones-points (with_stone b s t.gain) (other s) t.costs ∙ stone-points b s t.gain

pub all-points : (b : Grid) (s : Side) (ts : List Threat) → points_of (played_all b s ts) ≡ points_of b
all-points b s [] = refl
all-points b s (t ∷ ts) = all-points (played b s t) s ts ∙ played-points b s t

-- ---- the points that end a list

module _ (rule : RuleKind) (s : Side) (start : Grid) (ts : List Threat) where
  -- the first that does is one of a set that has all points at which a stone of the side makes two five points
  pub first-among : (b : Grid) (set : List ℕ) (ps : List Point) → b ≡ played_all start s ts → MayMakePairs rule b s set
      → ps ≡ filter (set_has set) (points_of b) → find (is_sequence rule s start ts) ps ≡ final_of rule s start ts
  unfolding final_of is_sequence
  first-among b set ps is has e =
      ap (find (is_sequence rule s start ts)) e ∙ sym (find-and (set_has set) (is_sequence rule s start ts) (points_of b))
      ∙ find-same (λ p. set_has set p && is_sequence rule s start ts p) (is_sequence rule s start ts) (λ p. follows _ _ (λ h.
      has p (final-two rule b s p (ap (λ (w : Grid). is_final_point rule w s p) is ∙ and_left _ _ h)))) (points_of b)
      ∙ ap (find (is_sequence rule s start ts)) (ap points_of is ∙ all-points start s ts)

  pub not-needed : (p : Point) → all_needed rule s p start ts ≡ false → is_sequence rule s start ts p ≡ false
  unfolding is_sequence
  not-needed p none = search rules

  -- a point with which the list is no sequence is passed over, and else it is the first
  pub found-later : (p : Point) (ps qs : List Point) → ps ≡ p ∷ qs → is_sequence rule s start ts p ≡ false → (o : Option Point)
      → find (is_sequence rule s start ts) ps ≡ o → find (is_sequence rule s start ts) qs ≡ o
  found-later p ps qs e off o h = search rules

pub found-here : (rule : RuleKind) (s : Side) (b start : Grid) (ts : List Threat) (p : Point) (ps qs : List Point)
    → b ≡ played_all start s ts
    → ps ≡ p ∷ qs → is_final_point rule b s p ≡ true → all_needed rule s p start ts ≡ true → (o : Option Point)
    → find (is_sequence rule s start ts) ps ≡ o → Some p ≡ o
unfolding is_sequence
found-here rule s b start ts p ps qs is e final needed o h = search rules

-- a point that is no final point ends no list that leads there
pub not-final : (rule : RuleKind) (s : Side) (b start : Grid) (us : List Threat) (p : Point) → b ≡ played_all start s us
    → is_final_point rule b s p ≡ false → is_sequence rule s start us p ≡ false
unfolding is_sequence
not-final rule s b start us p is none = search rules

-- ---- lists without a sequence among them

module _ (rule : RuleKind) (s : Side) (b : Grid) where
  -- where a list of no threats more has no final point
  pub barren-end : (ts : List Threat) → HasNoFinal rule s b ts → AreBarren rule s b ts ([] ∷ [])
  barren-end ts none = record {
    count = 1;
    passes = λ start us alike is budget.
        passed-one (final_of rule s start) (us ++ []) budget (ap (final_of rule s start) (append-nil us) ∙ none start us alike is);
  }

  -- of no lists at all
  pub barren-none : AreBarren rule s b [] []
  barren-none = search rules

  -- what doesn't ask for an end holds with each
  pub barren-any : (lists : Lists) (ts : List Threat) → AreBarren rule s b [] lists → AreBarren rule s b ts lists
  barren-any lists ts h = record { count = h.count; passes = λ start us alike is budget. h.passes start us (alike-none us) is budget }

  -- the lists that begin with one threat, and those that begin with others
  pub barren-next : (lists : Grid → Lists) (path longer : List Threat) (i : ℕ) (ts : List Threat) (t : Threat) → i < length ts
      → t ≡ get_or ts i t → longer ≡ path ++ t ∷ [] → AreBarren rule s (played b s t) longer (lists (played b s t))
      → AreBarren rule s b [] (lists_from lists s b (drop (i + 1) ts)) → AreBarren rule s b [] (lists_from lists s b (drop i ts))
  barren-next lists path longer i ts t low at is one rest = record {
    count = one.count + rest.count;
    passes = λ start us alike leads budget.
        let final : Final = final_of rule s start in
        let after = ap (λ (w : Grid). played w s t) leads ∙ sym (played-more start s us t) in
        threat-next final us lists s b budget i ts t low at
        ∙ ap (λ (x : FoundInLists). looked_on x (λ m. from_threats final us lists s b m (drop (i + 1) ts)))
        (one.passes start (us ++ t ∷ []) (alike-added path us longer t is) after budget)
        ∙ ap (looked_on (passed one.count budget)) (λ j m. rest.passes start us alike leads m j)
        ∙ passed-both one.count rest.count budget;
  }

  -- the lists that begin with any threat of the board
  pub barren-all : (k : ℕ) (ts : List Threat) → 0 < k → ts ≡ threats_of rule b s
      → AreBarren rule s b [] (lists_from (lists_of rule s (k - 1)) s b ts) → AreBarren rule s b [] (lists_of rule s k b)
  barren-all k ts some is h = search (rules, lists-more)

  -- ---- what is remembered of a board

  -- what is remembered holds whatever the list is that leads there
  pub barren-found : (ts : List Threat) (more count : ℕ) → IsBarren rule s b more count → AreBarren rule s b ts (lists_of rule s more b)
  barren-found ts more count h = record { count = count; passes = λ start us alike is budget. h start us is budget }

  -- and lists that are barren may be remembered, with what of the budget is gone
  pub barren-kept : (start : Grid) (path : List Threat) (more budget left : ℕ) (found : FoundInLists) → b ≡ played_all start s path
      → AreBarren rule s b [] (lists_of rule s more b)
      → found ≡ looked (final_of rule s start) budget (after_path path (lists_of rule s more b)) → found ≡ NoSequence left
      → (left ≤ budget) × IsBarren rule s b more (budget - left)
  barren-kept start path more budget left found is h looks none = search rules

-- ---- the memory

module _ (rule : RuleKind) (m : BarrenMemory) (b : Grid) (more : ℕ) (ok : IsBoard b) (true_of : IsTrueBarrenMemory rule m) where
  pub memory-barren : (found : Option ℕ) → found ≡ value_under (packed b, more) m.late.table → IfSome found (IsBarren rule m.side b more)
  memory-barren None is = tt
  memory-barren (Some n) is = (true_of.each ((packed b, more), n) (value_under-kept (packed b, more) m.late.table n (sym is))).holds b ok
      refl

  -- after a look the memory is as true
  pub memory-looked : (after : BarrenMemory) → after.side ≡ m.side → after.late.table ≡ looked_up (packed b, more) m.late.table
      → IsTrueBarrenMemory rule after
  memory-looked after side is = record {
    each = λ e there. rw side (true_of.each e (looked_up-before (packed b, more) m.late.table e (rw is at there)));
  }

  -- and after a board is kept of which that holds
  pub memory-kept : (after : BarrenMemory) (count : ℕ) → after.side ≡ m.side → IsBarren rule m.side b more count
      → (after.late.table ≡ kept (packed b, more) count m.late.table) ⊎ (after.late.table ≡ m.late.table) → IsTrueBarrenMemory rule after
  memory-kept after count side holds (inl is) = record {
    each = λ e there.
        subst (λ (s : Side). IsBarrenEntry rule s e) (sym side)
        (by_entry e (kept-before (packed b, more) m.late.table count e (subst (λ t. Contains t.entries e) is there)));
  } where
    by_entry : (e : (Packed × ℕ) × ℕ) → Contains m.late.table.entries e ⊎ (((packed b, more), count) ≡ e) → IsBarrenEntry rule m.side e
    by_entry e (inl old) = true_of.each e old
    by_entry e (inr new) = subst (IsBarrenEntry rule m.side) new (record {
      holds = λ c at key. subst (λ (w : Grid). IsBarren rule m.side w more count) (packed-tells b c ok at key) holds;
    })
  memory-kept after count side holds (inr is) = record {
    each = λ e there. subst (λ (s : Side). IsBarrenEntry rule s e) (sym side) (true_of.each e (subst (λ t. Contains t.entries e) is there));
  }
