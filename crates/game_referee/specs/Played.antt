-- The moves that the referee has played.
use Rattle.std.specs.Prelude.{◌≡◌, ℕ, zero, suc, ◌+◌, List, ◌∷◌, drop}
use Rattle.game_rules.specs.Grid.{Grid}
use Rattle.game_rules.specs.Play.{after, outcome}
use Rattle.game_rules.specs.declared.RuleKind.{RuleKind}
use Rattle.game_rules.specs.declared.Outcome.TheVariants.{GoesOn}
use Rattle.game_rules.specs.declared.Point.{Point}

-- the first n of the moves go on, one after another from the board, and leave this one
abbrev pub WentOn : RuleKind → Grid → List Point → ℕ → Grid → Type 0
WentOn rule b ms zero e = e ≡ b
WentOn rule b ms (suc n) e =
    (a : Grid) × WentOn rule b ms n a × (p : Point) × (drop n ms ≡ p ∷ drop (n + 1) ms) × (outcome rule a p ≡ GoesOn) × (e ≡ after a p)
