-- Held tables: a root that is added, and what each root that is held says.
use Rattle.std.proofs.Common.{◌<◌, List, [], ◌∷◌, ◌++◌, length, rules}
use Rattle.std.proofs.lemmas.List.{length_push}
use Rattle.std.proofs.lemmas.List.Elements.{All-push}
use Rattle.strategy_checker.proofs.Common.{Node, MAX_ROOTS, HeldRoot, IsHeldRoot, IsHeld}

pub IsHeld-push : (t : List Node) (rs : List HeldRoot) (r : HeldRoot) → IsHeld (record { table = t; roots = rs }) → length rs < MAX_ROOTS
    → IsHeldRoot t r → IsHeld (record { table = t; roots = rs ++ r ∷ [] })
IsHeld-push t rs r held room this = search (rules, All-push, length_push)
