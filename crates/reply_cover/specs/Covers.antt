-- What parts are to a position: which of them cover the board after a reply, and whether each reply is covered.
use Rattle.std.specs.Prelude.{ℕ, Bool, true, false, ◌&&◌, ◌==◌, not, List, [], ◌∷◌, length, map}
use Rattle.std.specs.List.{count_by, filter, find, list_all, list_any}
use Rattle.std.specs.Option.{option_map_or}
use Rattle.game_rules.specs.Grid.{Grid, cell_at, points_of}
use Rattle.game_rules.specs.Play.{after, goes_on, goes_on_with, outcome}
use Rattle.game_rules.specs.Games.{loses_or}
use Rattle.game_rules.specs.declared.Cell.{Cell}
use Rattle.game_rules.specs.declared.Cell.TheVariants.{Empty, Black, White}
use Rattle.game_rules.specs.declared.RuleKind.{RuleKind}
use Rattle.game_rules.specs.declared.RuleKind.TheVariants.{Freestyle, Exact, Renju}
use Rattle.game_rules.specs.declared.Point.{Point}
use Rattle.strategy_graph.specs.Tables.{greatest}
use Rattle.board_symmetry.specs.Points.{fits, inverse, point_image}
use Rattle.board_symmetry.specs.declared.symmetry.Symmetry.{Symmetry}
use Rattle.board_symmetry.specs.declared.symmetry.Symmetry.TheVariants.{Identity, Half, FlipX, FlipY, Quarter, ThreeQuarter, Diagonal}
use Rattle.board_symmetry.specs.declared.symmetry.Symmetry.TheVariants.{AntiDiagonal}
use Rattle.reply_cover.specs.declared.Part.{Part}
use Rattle.reply_cover.specs.declared.Cover.{Cover}
use Rattle.reply_cover.specs.declared.Cover.TheVariants.{Covered, Open}

-- the eight symmetries
abbrev pub symmetries : List Symmetry
symmetries = Identity ∷ Half ∷ FlipX ∷ FlipY ∷ Quarter ∷ ThreeQuarter ∷ Diagonal ∷ AntiDiagonal ∷ []

-- whether two rules are one
abbrev pub same_kind : RuleKind → RuleKind → Bool
same_kind Freestyle Freestyle = true
same_kind Exact Exact = true
same_kind Renju Renju = true
same_kind k l = false

-- whether two cells hold the same
abbrev pub same_cell : Cell → Cell → Bool
same_cell Empty Empty = true
same_cell Black Black = true
same_cell White White = true
same_cell c d = false

-- whether at the point q of c stands what stands at the point of b, of the same size, that the symmetry takes there
abbrev pub stands_at : Symmetry → Grid → Grid → Point → Bool
stands_at s b c q = same_cell (cell_at c q) (cell_at b (point_image (inverse s) b.width b.height q))

-- whether c, which is of the size of b, is its image under the symmetry, which fits it
unfoldable pub is_image : Symmetry → Grid → Grid → Bool
is_image s b c = fits s b.width b.height && list_all (stands_at s b c) (points_of c)

-- whether c is an image of b under some symmetry that fits it
unfoldable pub is_turned : Grid → Grid → Bool
is_turned b c = c.width == b.width && c.height == b.height && list_any (λ s. is_image s b c) symmetries

-- whether the part is of this rule, and its board is an image of the board
unfoldable pub covers : RuleKind → Grid → Part → Bool
covers rule b part = same_kind part.kind rule && is_turned b part.board

-- whether the reply q at b goes on to a board that the part covers
abbrev pub answers : RuleKind → Grid → Point → Part → Bool
answers rule b q part = goes_on_with (outcome rule b q) (covers rule (after b q) part)

-- whether the reply q at b wins or draws, or goes on and no part answers it
abbrev pub is_open : RuleKind → List Part → Grid → Point → Bool
is_open rule parts b q = not (loses_or (outcome rule b q) (list_any (answers rule b q) parts))

-- whether the part answers some reply at b
unfoldable pub is_used : RuleKind → Grid → Part → Bool
is_used rule b part = list_any (λ q. answers rule b q part) (points_of b)

-- the parts that answer some reply
abbrev pub used_parts : RuleKind → List Part → Grid → List Part
used_parts rule parts b = filter (is_used rule b) parts

-- the most moves of one of the parts, or 0 if there are none
abbrev pub most_moves : List Part → ℕ
most_moves parts = greatest (map (λ part. part.moves) parts)

-- What the parts are to the position: the first reply that is open, or where there is none the most moves of the parts that answer a
-- reply, how many replies go on, and how many parts answer one.
unfoldable pub cover_of : RuleKind → List Part → Grid → Cover
cover_of rule parts b =
    option_map_or Open (find (is_open rule parts b) (points_of b))
    (Covered (most_moves (used_parts rule parts b)) (count_by (λ q. goes_on (outcome rule b q)) (points_of b))
    (length (used_parts rule parts b)))
