-- What is remembered of looks stays true while lists are added to those that are kept.
use Rattle.std.proofs.Common.{◌≡◌, ℕ, List, ◌++◌, Option, IfSome, rules}
use Rattle.std.proofs.lemmas.List.{drop-append-le, length-append, length-drop, take-append-le}
use Rattle.proof_number.proofs.Common.{Grid, IsPosition, RuleKind, packed, Remembered, value_under, Child, IsAdded, IsPart}
use Rattle.proof_number.proofs.Common.{AreChildrenOf, IsTrueLook}
use Rattle.position_table.specs.Remembering.{IsTrueTable}
use Rattle.position_table.proofs.Remembering.{true-found, true-weaker}
use Rattle.proof_number.specs.declared.spans.Span.{Span}
use Rattle.proof_number.specs.declared.looks.Look.{Look}
use Rattle.proof_number.specs.declared.looks.Look.TheVariants.{Denied, Escape, Replies}

-- ---- lists that are kept in one

module _ {T : Type 0} (all more : List T) (span : Span) where
  -- a list stays where it stands
  pub part-grown : (says : List T → Type 0) → IsPart all says span → IsPart (all ++ more) says span
  part-grown says is = search (rules, length-append, length-drop, drop-append-le, take-append-le)

-- ---- looks

module _ (rule : RuleKind) (children : List Child) where
  children-longer : (more : List Child) (b : Grid) (n : ℕ) (look : Look) → IsTrueLook rule children b n look
      → IsTrueLook rule (children ++ more) b n look
  children-longer more b n Denied is = is
  children-longer more b n Escape is = is
  children-longer more b n (Replies span count) is = part-grown children more span (AreChildrenOf rule n b count) is

  module _ (t : Remembered Look) (true_of : IsTrueTable Look rule (IsTrueLook rule children) t) where
    -- what is remembered stays true where children are added
    pub children-added : (list after : List Child) (span : Span) → IsAdded children list after span
        → IsTrueTable Look rule (IsTrueLook rule after) t
    children-added list after span added = search (rules, true-weaker, children-longer)

module _ (rule : RuleKind) (children : List Child) (b : Grid) (n : ℕ) (t : Remembered Look) where
  -- what is found of a position holds there
  pub look-found : IsPosition rule b → IsTrueTable Look rule (IsTrueLook rule children) t → (found : Option Look)
      → found ≡ value_under (packed b, n) t → IfSome found (IsTrueLook rule children b n)
  look-found lawful true_of found is = search (rules, true-found)
