-- The image of a board is what the turn makes of it, and boards that a turn makes alike are one.
use Rattle.std.proofs.Common.{◌≡◌, ℕ, zero, suc, Bool, true, refl, sym, ap, ◌∙◌, List, [], ◌∷◌, map, get_or, rules, Some, slice_get}
use Rattle.std.specs.List.{list_all}
use Rattle.std.proofs.lemmas.List.{length-map}
use Rattle.board_symmetry.proofs.Common.{Grid, IsBoard, is_on, cell_at, points_within, Cell, Empty, Point, fits, inverse, point_image}
use Rattle.board_symmetry.proofs.Common.{board_image, empty_board, Symmetry}
use Rattle.game_rules.proofs.Common.{place_of, points_of}
use Rattle.game_rules.proofs.Boards.{and_left, and_right}
use Rattle.game_rules.proofs.Places.{points_get, points_length, points_on}
use Rattle.board_symmetry.proofs.Turns.{within}
use Rattle.board_symmetry.proofs.Eight.{turn_of}
use Rattle.board_symmetry.proofs.Alike.{grid, Turned}
use Rattle.board_symmetry.proofs.Listed.{cells_listed}

mapped_get : (f : Point → Cell) (ps : List Point) (i : ℕ) (q : Point) (d : Cell) → slice_get ps i ≡ Some q → get_or (map f ps) i d ≡ f q
mapped_get f [] i q d e = cc
mapped_get f (p ∷ ps) zero q d e = let same : p ≡ q = cc in ap f same
mapped_get f (p ∷ ps) (suc i) q d e = mapped_get f ps i q d e

mapped_where : (on : Point → Bool) (f g : Point → Cell) (ps : List Point) → list_all on ps ≡ true → ((q : Point) → on q ≡ true → f q ≡ g q)
    → map f ps ≡ map g ps
mapped_where on f g [] all same = refl
mapped_where on f g (p ∷ ps) all same = search (rules, and_left, and_right, mapped_where on f g ps (and_right (on p) _ all) same)

-- boards with the same cell at each point are one
pub same_cells : (w h : ℕ) (xs ys : List Cell) → IsBoard (grid w h xs) → IsBoard (grid w h ys)
    → ((p : Point) → within w h p ≡ true → cell_at (grid w h xs) p ≡ cell_at (grid w h ys) p) → xs ≡ ys
same_cells w h xs ys ok fine same = sym (cells_listed w h xs ok.filled) ∙ mapped_where (within w h)
    (cell_at (grid w h xs)) (cell_at (grid w h ys)) (points_within w h) (points_on (empty_board w h)) same ∙ cells_listed w h ys fine.filled

module _ (s : Symmetry) (b : Grid) (ok : IsBoard b) where
  pub image_ok : IsBoard (board_image s b)
  image_ok = search (rules, length-map, points_length)

  -- what stands at a point of the image
  pub image_cell : (q : Point) → is_on b q ≡ true → cell_at (board_image s b) q ≡ cell_at b (point_image (inverse s) b.width b.height q)
  image_cell q on = mapped_get (λ z. cell_at b (point_image (inverse s) b.width b.height z)) (points_of b) (place_of b q) q Empty
      (points_get b q on)

  pub image_turned : fits s b.width b.height ≡ true → Turned b.width b.height (point_image s b.width b.height) b.cells
      (board_image s b).cells
  image_turned fit =
      let turn = turn_of s b.width b.height fit in
      record {
        board = ok;
        image = image_ok;
        cells = λ p on. image_cell (point_image s b.width b.height p) (turn.kept p on) ∙ ap (cell_at b) (turn.undone p on);
      }
