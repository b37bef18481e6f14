-- Each of the eight symmetries is a turn: the flips and the exchange of x and y, and what they make one after another.
use Rattle.std.proofs.Common.{◌≡◌, ℕ, true, subst, ◌==◌}
use Rattle.std.proofs.lemmas.Bool.Decides.{Decides-eqb}
use Rattle.board_symmetry.proofs.Common.{fits, inverse, point_image, Symmetry}
use Rattle.board_symmetry.specs.declared.symmetry.Symmetry.TheVariants.{Identity, Half, FlipX, FlipY, Quarter, ThreeQuarter, Diagonal}
use Rattle.board_symmetry.specs.declared.symmetry.Symmetry.TheVariants.{AntiDiagonal}
use Rattle.board_symmetry.proofs.Turns.{Turn, turn-then, stay, turn_x, turn_y, turn_swap}

half : (w h : ℕ) → Turn w h (point_image Half w h) (point_image Half w h)
half w h = turn-then w h _ _ _ _ (turn_x w h) (turn_y w h)

-- a symmetry that exchanges width and height fits a square board alone
square : (s : Symmetry) (w h : ℕ) → (w == h) ≡ true → Turn w w (point_image s w w) (point_image (inverse s) w w)
    → Turn w h (point_image s w h) (point_image (inverse s) w h)
square s w h e turn = subst (λ (k : ℕ). Turn w k (point_image s w k) (point_image (inverse s) w k)) ((Decides-eqb w h).0 e) turn

pub turn_of : (s : Symmetry) (w h : ℕ) → fits s w h ≡ true → Turn w h (point_image s w h) (point_image (inverse s) w h)
turn_of Identity w h e = stay w h
turn_of Half w h e = half w h
turn_of FlipX w h e = turn_x w h
turn_of FlipY w h e = turn_y w h
turn_of Quarter w h e = square Quarter w h e (turn-then w w _ _ _ _ (turn_swap w) (turn_x w w))
turn_of ThreeQuarter w h e = square ThreeQuarter w h e (turn-then w w _ _ _ _ (turn_x w w) (turn_swap w))
turn_of Diagonal w h e = square Diagonal w h e (turn_swap w)
turn_of AntiDiagonal w h e = square AntiDiagonal w h e (turn-then w w _ _ _ _ (turn_swap w) (half w w))
