-- What is said of a whole game: how it ended, or why it is none.
use Rattle.std.specs.Prelude.{ℕ, ◌+◌, List, [], ◌∷◌}
use Rattle.game_rules.specs.Grid.{Grid}
use Rattle.game_rules.specs.Play.{after, mover, other, outcome}
use Rattle.game_rules.specs.declared.Side.{Side}
use Rattle.game_rules.specs.declared.RuleKind.{RuleKind}
use Rattle.game_rules.specs.declared.Outcome.{Outcome}
use Rattle.game_rules.specs.declared.Outcome.TheVariants.{Refused, Wins, Fouls, Draws, GoesOn}
use Rattle.game_rules.specs.declared.Point.{Point}
use Rattle.game_referee.specs.declared.GameVerdict.{GameVerdict}
use Rattle.game_referee.specs.declared.GameVerdict.TheVariants.{Open, Illegal, AfterEnd, Won, Fouled, Drawn}

-- the outcomes of the moves, each on the board that the moves before it leave
abbrev pub outcomes : RuleKind → Grid → List Point → List Outcome
outcomes rule b [] = []
outcomes rule b (p ∷ ps) = outcome rule b p ∷ outcomes rule (after b p) ps

-- the verdict where move n ends the game, unless further moves come after it: the first of them is then named
abbrev pub if_last : {X : Type 0} → GameVerdict → ℕ → List X → GameVerdict
if_last v n [] = v
if_last v n (x ∷ xs) = AfterEnd (n + 1)

-- The verdict on moves with these outcomes, of which the side s plays the first, where n moves went on before. The first move
-- that does not go on decides: it is no move, or it ends the game and has to be the last one.
abbrev pub verdict_from : ℕ → Side → List Outcome → GameVerdict
verdict_from n s [] = Open n
verdict_from n s (Refused ∷ os) = Illegal (n + 1)
verdict_from n s (Wins ∷ os) = if_last (Won s (n + 1)) (n + 1) os
verdict_from n s (Fouls f ∷ os) = if_last (Fouled f (n + 1)) (n + 1) os
verdict_from n s (Draws ∷ os) = if_last (Drawn (n + 1)) (n + 1) os
verdict_from n s (GoesOn ∷ os) = verdict_from (n + 1) (other s) os

-- the verdict on the game of these moves from the board
unfoldable pub verdict : RuleKind → Grid → List Point → GameVerdict
verdict rule b ms = verdict_from 0 (mover b) (outcomes rule b ms)
