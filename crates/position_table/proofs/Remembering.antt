-- The entries of a table of remembered positions.
use Rattle.std.proofs.Common.{◌≡◌, ℕ, zero, suc, ◌+◌, ◌-◌, ◌<◌, ◌≤◌, Bool, true, false, ◌⊎◌, List, [], ◌∷◌, take, length, Contains, Option}
use Rattle.std.proofs.Common.{Some, None, nat_eq, inl, inr, refl, sym, ap, subst, ◌∙◌, arith}
use Rattle.std.specs.Map.{lookup_entry, remove_entry}
use Rattle.std.specs.Cmp.Lexicographic.{pointwise}
use Rattle.std.proofs.lemmas.Bool.{eqb-true, eq-eqb}
use Rattle.std.proofs.lemmas.List.{take_all}
use Rattle.lru.specs.LruCache.{LruCache, IsValid, put_entries}
use Rattle.lru.proofs.CallerLemmas.{Contains-lookup_entry, Contains-lookup, Contains-promoted, Contains-take, Contains-remove_entry}
use Rattle.lru.proofs.Splits.{Contains-cons}
use Rattle.game_rules.proofs.Boards.{and_left, and_right}
use Rattle.game_rules.proofs.Common.{Grid, IsPosition}
use Rattle.game_rules.specs.declared.RuleKind.{RuleKind}
use Rattle.position_table.specs.Packing.{Packed, packed}
use Rattle.position_table.specs.Remembering.{Remembered, IsTrueEntry, IsTrueTable, TestTells, same_packed, same_key, value_under, looked_up}
use Rattle.position_table.specs.Remembering.{kept}
use Rattle.position_table.proofs.Packing.{packed-tells}

same_bytes : (s t : List ℕ) → pointwise nat_eq s t ≡ true → s ≡ t
same_bytes [] [] h = refl
same_bytes [] (y ∷ t) h = cc
same_bytes (x ∷ s) [] h = cc
same_bytes (x ∷ s) (y ∷ t) h =
    let first : x ≡ y = eqb-true x y (and_left (nat_eq x y) _ h) in
    let rest : s ≡ t = same_bytes s t (and_right (nat_eq x y) _ h) in
    cc

-- packed boards that the test finds the same are the same
pub same_packed-tells : (a b : Packed) → same_packed a b ≡ true → a ≡ b
same_packed-tells a b h =
    let width : a.width ≡ b.width = eqb-true a.width b.width (and_left (nat_eq a.width b.width) _ h) in
    let rest = and_right (nat_eq a.width b.width) _ h in
    let height : a.height ≡ b.height = eqb-true a.height b.height (and_left (nat_eq a.height b.height) _ rest) in
    let bytes : a.bytes ≡ b.bytes = same_bytes a.bytes b.bytes (and_right (nat_eq a.height b.height) _ rest) in
    λ i. record { width = width i; height = height i; bytes = bytes i }

same_bytes-refl : (s : List ℕ) → pointwise nat_eq s s ≡ true
same_bytes-refl [] = refl
same_bytes-refl (x ∷ s) = rw (eq-eqb x x refl, same_bytes-refl s) refl

-- the test finds a packed board the same as itself
pub same_packed-refl : (a : Packed) → same_packed a a ≡ true
same_packed-refl a = rw (eq-eqb a.width a.width refl, eq-eqb a.height a.height refl, same_bytes-refl a.bytes) refl

pub test-tells : TestTells
test-tells a b = (same_packed-tells a b, λ e. subst (λ (c : Packed). same_packed a c ≡ true) e (same_packed-refl a))

-- keys that the test finds the same are the same
pub same_key-tells : (a b : Packed × ℕ) → same_key a b ≡ true → a ≡ b
same_key-tells a b h =
    let board : a.0 ≡ b.0 = same_packed-tells a.0 b.0 (and_left (same_packed a.0 b.0) _ h) in
    let tag : a.1 ≡ b.1 = eqb-true a.1 b.1 (and_right (same_packed a.0 b.0) _ h) in
    λ i. (board i, tag i)

module _ {V : Type 0} (test : Packed × ℕ → Bool) where
  -- without an entry whose key passes, none is taken out
  remove_none : (es : List ((Packed × ℕ) × V)) → lookup_entry test es ≡ None → remove_entry test es ≡ es
  remove_none [] h = refl
  remove_none (e ∷ es) h = (elim (test e.0) as (λ y. test e.0 ≡ y → remove_entry test (e ∷ es) ≡ e ∷ es) [
    | true ↦ λ t. let found = rw t at h in cc
    | false ↦ λ t. rw t (ap (λ (l : List ((Packed × ℕ) × V)). e ∷ l) (remove_none es (rw t at h)))
  ]) refl

  -- with one, the list gets shorter
  remove_some : (es : List ((Packed × ℕ) × V)) (f : (Packed × ℕ) × V) → lookup_entry test es ≡ Some f
      → length (remove_entry test es) + 1 ≡ length es
  remove_some [] f h = cc
  remove_some (e ∷ es) f h = (elim (test e.0) as (λ y. test e.0 ≡ y → length (remove_entry test (e ∷ es)) + 1 ≡ length (e ∷ es)) [
    | true ↦ λ t. rw t (omega arith)
    | false ↦ λ t. rw t (let rest = remove_some es f (rw t at h) in omega arith)
  ]) refl

take_first : {X : Type 0} (n : ℕ) (x : X) (xs : List X) → 0 < n → take n (x ∷ xs) ≡ x ∷ take (n - 1) xs
take_first zero x xs h = absurd (omega arith)
take_first (suc n) x xs h = let less : suc n - 1 ≡ n = omega arith in rw less refl

module _ {V : Type 0} (c : LruCache (Packed × ℕ) V) (key : Packed × ℕ) (value : V) where
  entries_by : (o : Option ((Packed × ℕ) × V)) → lookup_entry (same_key key) c.entries ≡ o → length c.entries ≤ c.cap → 0 < c.cap
      → put_entries same_key c key value ≡ take c.cap ((key, value) ∷ remove_entry (same_key key) c.entries)
  entries_by None h fits room = rw (h, remove_none (same_key key) c.entries h) (sym (take_first c.cap (key, value) c.entries room))
  entries_by (Some f) h fits room =
      let own : key ≡ f.0 = same_key-tells key f.0 (Contains-lookup_entry (same_key key) c.entries f h).1 in
      let shorter = remove_some (same_key key) c.entries f h in
      rw h (ap (λ (k : Packed × ℕ). (k, value) ∷ remove_entry (same_key key) c.entries) (sym own)
      ∙ sym (take_all c.cap ((key, value) ∷ remove_entry (same_key key) c.entries) (omega arith)))

  -- what the cache holds after `put`
  pub put_entries-kept : IsValid same_key c → put_entries same_key c key value ≡ take c.cap
      ((key, value) ∷ remove_entry (same_key key) c.entries)
  put_entries-kept valid = entries_by (lookup_entry (same_key key) c.entries) refl valid.1 valid.2

module _ {V : Type 0} (key : Packed × ℕ) (t : Remembered V) where
  -- what is found under a key was kept under it
  pub value_under-kept : (value : V) → value_under key t ≡ Some value → Contains t.entries (key, value)
  value_under-kept value h =
      let found = Contains-lookup (same_key key) t.entries value h in
      let own : key ≡ found.0 = same_key-tells key found.0 found.2 in
      subst (λ k. Contains t.entries (k, value)) (sym own) found.1

  -- each entry after a look was there before
  pub looked_up-before : (e : (Packed × ℕ) × V) → Contains (looked_up key t).entries e → Contains t.entries e
  looked_up-before e there = Contains-promoted (same_key key) t.entries e there

  -- each entry after a value is kept was there before, or is the one that is kept
  pub kept-before : (value : V) (e : (Packed × ℕ) × V) → Contains (kept key value t).entries e → Contains t.entries e ⊎ ((key, value) ≡ e)
  kept-before value e there = elim
      (Contains-cons (key, value) (remove_entry (same_key key) t.entries) e
      (Contains-take t.capacity ((key, value) ∷ remove_entry (same_key key) t.entries) e there)) [
        | inl same ↦ inr same
        | inr old ↦ inl (Contains-remove_entry (same_key key) t.entries e old)
      ]

-- ---- what is remembered is true, and stays true

module _ {V : Type 0} (rule : RuleKind) (says : Grid → ℕ → V → Type 0) where
  -- of a table without entries
  pub true-none : (t : Remembered V) → t.entries ≡ [] → IsTrueTable V rule says t
  true-none t none = record {
    each = λ e there. absurd (no_entry e (subst (λ (es : List ((Packed × ℕ) × V)). Contains es e) none there));
  } where
    no_entry : (e : (Packed × ℕ) × V) → Contains [] e → ⊥
    no_entry e there = let within = there.1 in omega arith

  -- after a look, or where none was taken
  pub true-looked : (t after : Remembered V) (key : Packed × ℕ) → (after ≡ looked_up key t) ⊎ (after ≡ t) → IsTrueTable V rule says t
      → IsTrueTable V rule says after
  true-looked t after key (inl is) true_of = rw is (record { each = λ e there. true_of.each e (looked_up-before key t e there) })
  true-looked t after key (inr is) true_of = rw is true_of

  -- where more is said of what is remembered
  pub true-weaker : (more : Grid → ℕ → V → Type 0) → ((b : Grid) (tag : ℕ) (value : V) → says b tag value → more b tag value)
      → (t : Remembered V) → IsTrueTable V rule says t → IsTrueTable V rule more t
  true-weaker more weaker t true_of = record {
    each = λ e there. record { holds = λ b lawful key. weaker b e.0.1 e.1 ((true_of.each e there).holds b lawful key) };
  }

  module _ (b w : Grid) (tag : ℕ) (value : V) (t : Remembered V) (lawful : IsPosition rule b) (same : w ≡ b)
      (true_of : IsTrueTable V rule says t) where
    -- what is found at a position holds there
    pub true-found : Some value ≡ value_under (packed w, tag) t → says b tag value
    true-found found =
        let there : value_under (packed b, tag) t ≡ Some value =
        subst (λ (v : Grid). value_under (packed v, tag) t ≡ Some value) same (sym found) in
        (true_of.each ((packed b, tag), value) (value_under-kept (packed b, tag) t value there)).holds b lawful refl

    -- what holds at a position holds at each with its key, and may be kept
    true-with : says b tag value → IsTrueTable V rule says (kept (packed b, tag) value t)
    true-with holds = record {
      each = λ e there. elim (kept-before (packed b, tag) t value e there) [
        | inl old ↦ true_of.each e old
        | inr new ↦ subst (IsTrueEntry V rule says) new (record {
          holds = λ c at key. subst (λ (v : Grid). says v tag value) (packed-tells b c lawful.board at.board (sym key)) holds;
        })
      ];
    }

    pub true-kept : (after : Remembered V) → says b tag value → (after ≡ kept (packed w, tag) value t) ⊎ (after ≡ t)
        → IsTrueTable V rule says after
    true-kept after holds (inl is) = rw is
        (subst (λ (v : Grid). IsTrueTable V rule says (kept (packed v, tag) value t)) (sym same) (true-with holds))
    true-kept after holds (inr is) = rw is true_of
