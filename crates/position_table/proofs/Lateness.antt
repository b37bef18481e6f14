-- What is kept late is kept as in a table, or not at all.
use Rattle.std.proofs.Common.{◌≡◌, ℕ, ◌-◌, Bool, true, false, cond, ◌⊎◌, inl, inr, refl, ap, ◌∙◌, nat_lt, Result}
use Rattle.std.proofs.Common.{Ok, Err, OnOk, OnErr}
use Rattle.position_table.proofs.Common.{Packed, kept, Late, kept_late}

module _ (key : Packed × ℕ) (value : ℕ) where
  -- the table has the value, or is as it was
  abbrev MayHave : Late → Late → Type 0
  MayHave old new = (new.table ≡ kept key value old.table) ⊎ (new.table ≡ old.table)

  may_have : (t : Late) → MayHave t (kept_late key value t)
  may_have t = by_tests (nat_lt value t.least) (nat_lt 0 t.to_pass) where
    by_tests : (small early : Bool)
        → MayHave t (cond small t (cond early (record t { to_pass = t.to_pass - 1 }) (record t { table = kept key value t.table })))
    by_tests true early = inr refl
    by_tests false true = inr refl
    by_tests false false = inl refl

  -- so it is after the value was kept late, or memory ran out
  pub late-kept : {A E : Type 0} (r : Result A E) (old new : Late) → OnOk r (new ≡ kept_late key value old) → OnErr r (new ≡ old)
      → (new.table ≡ kept key value old.table) ⊎ (new.table ≡ old.table)
  late-kept (Ok x) old new ok err = elim (may_have old) [
    | inl is ↦ inl (ap (λ (t : Late). t.table) ok ∙ is)
    | inr is ↦ inr (ap (λ (t : Late). t.table) ok ∙ is)
  ]
  late-kept (Err e) old new ok err = inr (ap (λ (t : Late). t.table) err)
