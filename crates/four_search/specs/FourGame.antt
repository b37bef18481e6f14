-- The game of continuous fours: how many positions a search of it looks at.
use Rattle.std.specs.Prelude.{ℕ, zero, suc, ◌+◌, Bool, if◌then◌else◌, List, [], ◌∷◌, Option}
use Rattle.std.specs.List.{sum_by, find, range_with_len}
use Rattle.game_rules.specs.Grid.{Grid, points_of}
use Rattle.game_rules.specs.Shapes.{is_at}
use Rattle.game_rules.specs.Play.{mover, after}
use Rattle.game_rules.specs.Games.{has_five, wins_by_fours, four_move}
use Rattle.game_rules.specs.declared.RuleKind.{RuleKind}
use Rattle.game_rules.specs.declared.Point.{Point}
use Rattle.threat_moves.specs.declared.block.BlockAnswer.{BlockAnswer}
use Rattle.threat_moves.specs.declared.block.BlockAnswer.TheVariants.{Lost, Won, Draw, One}
use Rattle.threat_moves.specs.FourMoves.{is_four_move}
use Rattle.threat_moves.specs.Blocks.{fate}

-- the items of a list up to and with the first that passes the test, or all of them where none does
abbrev pub until : {X : Type 0} → (X → Bool) → List X → List X
until test [] = []
until test (x ∷ xs) = x ∷ (if test x then [] else until test xs)

-- the points that are not after the chosen move of a win by fours within n moves, or all points where there is none
abbrev pub tried : RuleKind → ℕ → Grid → List Point
tried rule n b = until (λ p. is_at p (four_move rule n b)) (points_of b)

-- the count at the board after the one block of a four at c, and 0 where the four has another fate
abbrev pub if_one : (Grid → ℕ) → Grid → BlockAnswer → ℕ
if_one count c Lost = 0
if_one count c Won = 0
if_one count c (Draw w) = 0
if_one count c (One w) = count (after c w)

-- the count behind the move p: that at the board after its one block, if it is a four move whose one block goes on
abbrev pub behind_move : RuleKind → Grid → (Grid → ℕ) → Point → ℕ
behind_move rule b count p = if is_four_move rule b p then if_one count (after b p) (fate rule (after b p)) else 0

-- The positions of the game of continuous fours within n moves, with the attacker to move, up to the chosen move: 1, and
-- where the attacker has no five point and n is 2 or more, those behind each move that is tried.
unfoldable pub four_tree : RuleKind → ℕ → Grid → ℕ
four_tree rule zero b = 1
four_tree rule (suc zero) b = 1
four_tree rule (suc (suc n)) b =
    if has_five rule b (mover b) then 1 else 1 + sum_by (behind_move rule b (four_tree rule (suc n))) (tried rule (suc (suc n)) b)

-- the numbers of moves from 1 to n up to the first within which the attacker wins by fours
abbrev pub depths_tried : RuleKind → ℕ → Grid → List ℕ
depths_tried rule n b = until (λ k. wins_by_fours rule k b) (range_with_len 1 n)

-- the positions of all depths that are tried
abbrev pub four_cost : RuleKind → ℕ → Grid → ℕ
four_cost rule n b = sum_by (λ k. four_tree rule k b) (depths_tried rule n b)

-- the least number of moves up to n within which the attacker wins by fours, if there is one
abbrev pub least_moves : RuleKind → ℕ → Grid → Option ℕ
least_moves rule n b = find (λ k. wins_by_fours rule k b) (range_with_len 1 n)
