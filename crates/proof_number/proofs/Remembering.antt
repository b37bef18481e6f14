-- What is remembered of positions stays true while the compiler grows, and where the tree changes and keeps its disproved nodes.
use Rattle.std.proofs.Common.{◌≡◌, sym, subst, ℕ, List, ◌++◌, rules}
use Rattle.proof_number.proofs.Common.{Grid, RuleKind, Remembered, Node, NamesLower, Kind, Attack, Defend, Settled, Won, Lost, IsLost}
use Rattle.proof_number.specs.declared.notes.Settled.TheVariants.{Open}
use Rattle.proof_number.proofs.Common.{GameTree, IsDisproved, IsLostAt, IsTrueOf, IsTrueMemo, IsRefuted}
use Rattle.position_table.proofs.Remembering.{true-weaker}
use Rattle.strategy_compiler.proofs.Growing.{growth_keeps-wins}
use Rattle.proof_number.proofs.DenialLaws.{lost-more, refuted-more}

true-of-grown : (rule : RuleKind) (g : GameTree) (c more : List Node) → NamesLower c → (b : Grid) (n : ℕ) (v : Settled)
    → IsTrueOf rule c g b n v → IsTrueOf rule (c ++ more) g b n v
true-of-grown rule g c more lower b n (Won win) h = (growth_keeps-wins rule n b c more win lower h.0, h.1)
true-of-grown rule g c more lower b n Lost h = h
true-of-grown rule g c more lower b n (Open node) h = h

pub memo-grown : (rule : RuleKind) (g : GameTree) (c more : List Node) (m : Remembered Settled) → NamesLower c → IsTrueMemo rule c g m
    → IsTrueMemo rule (c ++ more) g m
memo-grown rule g c more m lower memo = search (rules, true-weaker, true-of-grown)

-- ---- the tree changes, and disproved nodes stay

module _ (g u : GameTree) (same : u.rule ≡ g.rule) (stay : (n : ℕ) (b : Grid) → IsDisproved g n b → IsDisproved u n b) where
  pub lost-kept : (kind : Kind) (n : ℕ) (b : Grid) → IsLostAt kind g n b → IsLostAt kind u n b
  lost-kept Attack n b lost = λ several. subst (λ (r : RuleKind). IsLost r (IsDisproved u) n b) (sym same)
      (lost-more g.rule (IsDisproved g) (IsDisproved u) stay n b (lost several))
  lost-kept Defend n b lost = subst (λ (r : RuleKind). IsRefuted r (IsDisproved u) n b) (sym same)
      (refuted-more g.rule (IsDisproved g) (IsDisproved u) stay n b lost)

  true-of-kept : (rule : RuleKind) (c : List Node) (b : Grid) (n : ℕ) (v : Settled) → IsTrueOf rule c g b n v → IsTrueOf rule c u b n v
  true-of-kept rule c b n (Won win) h = h
  true-of-kept rule c b n Lost h = (h.0, lost-kept Attack n b h.1)
  true-of-kept rule c b n (Open node) h = h

  pub memo-kept : (rule : RuleKind) (c : List Node) (m : Remembered Settled) → IsTrueMemo rule c g m → IsTrueMemo rule c u m
  memo-kept rule c m memo = true-weaker rule (IsTrueOf rule c g) (IsTrueOf rule c u) (true-of-kept rule c) m memo
