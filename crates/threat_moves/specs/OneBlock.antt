-- In the game of continuous fours only the block of a four needs an answer of its own.
use Rattle.std.specs.Prelude.{◌≡◌, ◌≢◌, ℕ, zero, suc, Bool, true, false}
use Rattle.std.specs.List.{list_all}
use Rattle.game_rules.specs.Grid.{Grid, points_of}
use Rattle.game_rules.specs.Play.{IsPosition, outcome, mover, after}
use Rattle.game_rules.specs.Games.{has_five, loses_or, starts_win, wins_by_fours}
use Rattle.game_rules.specs.declared.RuleKind.{RuleKind}
use Rattle.game_rules.specs.declared.Outcome.TheVariants.{GoesOn}
use Rattle.game_rules.specs.declared.Point.{Point}
use Rattle.threat_moves.specs.declared.block.BlockAnswer.{BlockAnswer}
use Rattle.threat_moves.specs.declared.block.BlockAnswer.TheVariants.{Lost, Won, Draw, One}
use Rattle.threat_moves.specs.FourMoves.{is_four_move}
use Rattle.threat_moves.specs.Blocks.{fate}

-- whether each reply at c is no move or fouls
abbrev pub all_foul : RuleKind → Grid → Bool
all_foul rule c = list_all (λ q. loses_or (outcome rule c q) false) (points_of c)

-- whether a four that has won wins, where the attacker has n more moves: with none left each reply has to foul
abbrev pub won_within : RuleKind → ℕ → Grid → Bool
won_within rule zero c = all_foul rule c
won_within rule (suc n) c = true

-- whether a four with this fate at c wins by fours, where the attacker has n more moves: after the one block that goes on
-- the attacker has to win within these
abbrev pub block_wins : RuleKind → ℕ → Grid → BlockAnswer → Bool
block_wins rule n c Lost = false
block_wins rule n c Won = won_within rule n c
block_wins rule n c (Draw w) = false
block_wins rule n c (One w) = wins_by_fours rule n (after c w)

-- a four move starts a win by fours exactly where its fate says so
abbrev pub BlockDecides : Type 0
BlockDecides =
    (rule : RuleKind) (n : ℕ) (b : Grid) (p : Point) → IsPosition rule b → is_four_move rule b p ≡ true
    → starts_win (has_five rule) rule b (wins_by_fours rule n) p ≡ block_wins rule n (after b p) (fate rule (after b p))

-- what a reply q at c that goes on leaves the attacker, by the fate of its four: a five point where the four has won, and
-- where there is one block also a five point, unless q is that block
abbrev pub LeavesFive : RuleKind → Grid → Point → BlockAnswer → Type 0
LeavesFive rule c q Lost = Unit {0}
LeavesFive rule c q Won = has_five rule (after c q) (mover (after c q)) ≡ true
LeavesFive rule c q (Draw w) = Unit {0}
LeavesFive rule c q (One w) = q ≢ w → has_five rule (after c q) (mover (after c q)) ≡ true

-- after a four that has won, each reply that goes on leaves the attacker a five point, and after one whose one block goes on
-- each other reply does
abbrev pub OthersLeaveFive : Type 0
OthersLeaveFive =
    (rule : RuleKind) (b : Grid) (p q : Point) → IsPosition rule b → is_four_move rule b p ≡ true
    → outcome rule (after b p) q ≡ GoesOn → LeavesFive rule (after b p) q (fate rule (after b p))
