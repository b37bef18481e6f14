-- The eight symmetries of a board: what each does to a point, and to a board.
use Rattle.std.specs.Prelude.{ℕ, ◌-◌, ◌*◌, Bool, true, false, ◌||◌, not, ◌==◌, map, replicate}
use Rattle.game_rules.specs.Grid.{Grid, cell_at, put, points_of}
use Rattle.game_rules.specs.declared.Cell.{Cell}
use Rattle.game_rules.specs.declared.Cell.TheVariants.{Empty, Black as BlackStone, White as WhiteStone}
use Rattle.game_rules.specs.declared.Side.TheVariants.{Black, White}
use Rattle.game_rules.specs.declared.Point.{Point}
use Rattle.board_symmetry.specs.declared.symmetry.Symmetry.{Symmetry}
use Rattle.board_symmetry.specs.declared.symmetry.Symmetry.TheVariants.{Identity, Half, FlipX, FlipY, Quarter, ThreeQuarter, Diagonal}
use Rattle.board_symmetry.specs.declared.symmetry.Symmetry.TheVariants.{AntiDiagonal}

-- whether the symmetry exchanges width and height
abbrev pub exchanges : Symmetry → Bool
exchanges Identity = false
exchanges Half = false
exchanges FlipX = false
exchanges FlipY = false
exchanges Quarter = true
exchanges ThreeQuarter = true
exchanges Diagonal = true
exchanges AntiDiagonal = true

-- whether the symmetry carries a board of this width and height onto itself: it exchanges nothing, or the board is square
abbrev pub fits : Symmetry → ℕ → ℕ → Bool
fits s width height = not (exchanges s) || width == height

-- the symmetry that undoes it
abbrev pub inverse : Symmetry → Symmetry
inverse Identity = Identity
inverse Half = Half
inverse FlipX = FlipX
inverse FlipY = FlipY
inverse Quarter = ThreeQuarter
inverse ThreeQuarter = Quarter
inverse Diagonal = Diagonal
inverse AntiDiagonal = AntiDiagonal

-- where the symmetry takes a point of a board of this width and height
abbrev pub point_image : Symmetry → ℕ → ℕ → Point → Point
point_image Identity w h p = p
point_image Half w h p = record { x = w - 1 - p.x; y = h - 1 - p.y }
point_image FlipX w h p = record { x = w - 1 - p.x; y = p.y }
point_image FlipY w h p = record { x = p.x; y = h - 1 - p.y }
point_image Quarter w h p = record { x = h - 1 - p.y; y = p.x }
point_image ThreeQuarter w h p = record { x = p.y; y = w - 1 - p.x }
point_image Diagonal w h p = record { x = p.y; y = p.x }
point_image AntiDiagonal w h p = record { x = h - 1 - p.y; y = w - 1 - p.x }

-- the board of this width and height with no stone on it
abbrev pub empty_board : ℕ → ℕ → Grid
empty_board width height = record { width = width; height = height; cells = replicate (width * height) Empty }

-- the image of a board: at each point stands what stands at the point that is taken there
abbrev pub board_image : Symmetry → Grid → Grid
board_image s b = record b { cells = map (λ q. cell_at b (point_image (inverse s) b.width b.height q)) (points_of b) }

-- the board with the stone of the cell, if it holds one, on a point of the board
abbrev pub with_cell : Grid → Point → Cell → Grid
with_cell b p Empty = b
with_cell b p BlackStone = put b Black p
with_cell b p WhiteStone = put b White p
