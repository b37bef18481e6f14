-- What searches remember is what they find, and is true.
use Rattle.std.proofs.Common.{◌≡◌, ℕ, ◌+◌, ◌-◌, cond, refl, sym, ap, ◌∙◌, arith, nat_le, Option, Some, None, IfSome}
use Rattle.game_rules.specs.declared.RuleKind.{RuleKind}
use Rattle.four_search.specs.declared.search.Found.{Found}
use Rattle.four_search.specs.declared.search.Found.TheVariants.{Win, NoWin, Spent}
use Rattle.four_search.proofs.Common.{four_tree, IsDenied, IsTrueMemory, four_line, found_at}
use Rattle.four_search.proofs.Deepening.{found-no-win}
use Rattle.game_rules.proofs.Common.{Grid, IsPosition}
use Rattle.position_table.specs.Packing.{packed}
use Rattle.position_table.specs.Remembering.{value_under}
use Rattle.position_table.specs.Lateness.{Late}
use Rattle.position_table.proofs.Remembering.{true-found}

module _ (rule : RuleKind) (b : Grid) (moves budget : ℕ) where
  -- what is denied of a position is what a search there finds
  pub denied-found : (count : ℕ) (f : Found) → IsDenied rule b moves count → f ≡ cond (nat_le count budget) (NoWin (budget - count)) Spent
      → f ≡ found_at rule moves b budget
  denied-found count f denied is =
      let tree : ℕ = four_tree rule moves b in
      is
      ∙ ap (λ n. cond (nat_le n budget) (NoWin (budget - n)) Spent) (sym denied.counted)
      ∙ ap (λ r. cond (nat_le tree budget) (cond r (Win (budget - tree) (four_line rule moves b)) (NoWin (budget - tree))) Spent)
      (sym denied.unwon)

  -- no more is left than there was
  pub left-within : (left : ℕ) → NoWin left ≡ found_at rule moves b budget → left + four_tree rule moves b ≡ budget
  left-within left found = (found-no-win rule moves b budget left found).0

  -- a search without a win denies one, with the positions that it took
  pub found-denied : (left : ℕ) → NoWin left ≡ found_at rule moves b budget → IsDenied rule b moves (budget - left)
  found-denied left found = record {
    unwon = (found-no-win rule moves b budget left found).1;
    counted = let sum = left-within left found in omega (arith, sum);
  }

-- what is found in a true memory is so
pub memory-denies : (rule : RuleKind) (b : Grid) (moves : ℕ) (memory : Late) (found : Option ℕ) → IsPosition rule b
    → IsTrueMemory rule memory
    → found ≡ value_under (packed b, moves) memory.table → IfSome found (IsDenied rule b moves)
memory-denies rule b moves memory None lawful true_of is = tt
memory-denies rule b moves memory (Some count) lawful true_of is =
    true-found rule (IsDenied rule) b b moves count memory.table lawful refl true_of is
