-- Fours counted on nine places, and on the same places read backwards.
use Rattle.std.proofs.Common.{◌≡◌, ℕ, ◌-◌, ◌≤◌, Bool, true, false, cond, ◌&&◌, ◌||◌, refl, arith, rules}
use Rattle.game_rules.specs.Fours.{count_fours}

and-back : (a b c d : Bool) → (a && (b && (c && (d && true)))) ≡ (d && (c && (b && (a && true))))
and-back a b c d = search rules

or-back : (a b : Bool) → (a || (b || false)) ≡ (b || (a || false))
or-back a b = search rules

-- 1 where these four places hold stones and one of these places wins, else 0
abbrev four : (ℕ → Bool) → (ℕ → Bool) → ℕ → ℕ → ℕ → ℕ → ℕ → ℕ
four stone wins a b c d e = cond ((stone a && (stone b && (stone c && (stone d && true)))) && (wins e || false)) 1 0

-- the same, with two places
abbrev four_in_row : (ℕ → Bool) → (ℕ → Bool) → ℕ → ℕ → ℕ → ℕ → ℕ → ℕ → ℕ
four_in_row stone wins a b c d e f = cond ((stone a && (stone b && (stone c && (stone d && true)))) && (wins e || (wins f || false))) 1 0

module _ (stone wins other others : ℕ → Bool) (same : (i : ℕ) → i ≤ 8 → other i ≡ stone (8 - i))
    (alike : (i : ℕ) → i ≤ 8 → others i ≡ wins (8 - i)) where
  stones-back : (a b c d : ℕ) → a ≤ 8 → b ≤ 8 → c ≤ 8 → d ≤ 8 → (other a && (other b && (other c && (other d && true))))
      ≡ (stone (8 - d) && (stone (8 - c) && (stone (8 - b) && (stone (8 - a) && true))))
  stones-back a b c d i j k l = search (rules, and-back)

  back : (a b c d e : ℕ) → a ≤ 8 → b ≤ 8 → c ≤ 8 → d ≤ 8 → e ≤ 8 → four other others a b c d e
      ≡ four stone wins (8 - d) (8 - c) (8 - b) (8 - a) (8 - e)
  back a b c d e i j k l m = rw (stones-back a b c d i j k l, alike e m) refl

  row_back : (a b c d e f : ℕ) → a ≤ 8 → b ≤ 8 → c ≤ 8 → d ≤ 8 → e ≤ 8 → f ≤ 8
      → four_in_row other others a b c d e f ≡ four_in_row stone wins (8 - d) (8 - c) (8 - b) (8 - a) (8 - f) (8 - e)
  row_back a b c d e f i j k l m n = rw (stones-back a b c d i j k l, alike e m, alike f n, or-back (wins (8 - e)) (wins (8 - f))) refl

  -- the fours are the same number
  pub count_fours-back : count_fours other others ≡ count_fours stone wins
  count_fours-back = omega (
    arith,
    back 4 6 7 8 5 (omega arith) (omega arith) (omega arith) (omega arith) (omega arith),
    back 4 5 7 8 6 (omega arith) (omega arith) (omega arith) (omega arith) (omega arith),
    back 4 5 6 8 7 (omega arith) (omega arith) (omega arith) (omega arith) (omega arith),
    row_back 4 5 6 7 3 8 (omega arith) (omega arith) (omega arith) (omega arith) (omega arith) (omega arith),
    back 3 4 6 7 5 (omega arith) (omega arith) (omega arith) (omega arith) (omega arith),
    back 3 4 5 7 6 (omega arith) (omega arith) (omega arith) (omega arith) (omega arith),
    row_back 3 4 5 6 2 7 (omega arith) (omega arith) (omega arith) (omega arith) (omega arith) (omega arith),
    back 2 4 5 6 3 (omega arith) (omega arith) (omega arith) (omega arith) (omega arith),
    back 2 3 4 6 5 (omega arith) (omega arith) (omega arith) (omega arith) (omega arith),
    row_back 2 3 4 5 1 6 (omega arith) (omega arith) (omega arith) (omega arith) (omega arith) (omega arith),
    back 1 3 4 5 2 (omega arith) (omega arith) (omega arith) (omega arith) (omega arith),
    back 1 2 4 5 3 (omega arith) (omega arith) (omega arith) (omega arith) (omega arith),
    row_back 1 2 3 4 0 5 (omega arith) (omega arith) (omega arith) (omega arith) (omega arith) (omega arith),
    back 0 2 3 4 1 (omega arith) (omega arith) (omega arith) (omega arith) (omega arith),
    back 0 1 3 4 2 (omega arith) (omega arith) (omega arith) (omega arith) (omega arith),
    back 0 1 2 4 3 (omega arith) (omega arith) (omega arith) (omega arith) (omega arith),
  )
