-- Replies that lose still do as the nodes grow.
use Rattle.std.proofs.Common.{ℕ, List, [], ◌∷◌}
use Rattle.std.specs.List.{AllByRecursion}
use Rattle.strategy_compiler.proofs.Common.{Grid, after, RuleKind, Node, Reply, NamesLower, GrowsBy, IsBeatenBy}
use Rattle.strategy_compiler.proofs.Growing.{win-deep, win-stays}

module _ (rule : RuleKind) (limit : ℕ) (b : Grid) (t u : List Node) (k : ℕ) (lower : NamesLower t) (grown : GrowsBy t u k) where
  pub beaten-grown : (rs : List Reply) → AllByRecursion (IsBeatenBy rule limit b t) rs → AllByRecursion (IsBeatenBy rule limit b u) rs
  beaten-grown [] h = tt
  beaten-grown (r ∷ rs) h =
      (win-deep rule limit (after b r.at) u _ (win-stays rule limit (after b r.at) t u k _ lower grown h.0), beaten-grown rs h.1)
