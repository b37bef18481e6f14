-- A board that is compared with an image of another one, point by point.
use Rattle.std.proofs.Common.{◌≡◌, ℕ, Bool, true, ◌&&◌, refl, sym, ap, ◌∙◌, List, [], ◌∷◌, map, get_or, rules, eq-eqb, arith, zero, suc}
use Rattle.std.specs.Prelude.{slice_get, Some, ◌==◌}
use Rattle.std.specs.List.{list_all, list_any}
use Rattle.std.proofs.lemmas.Bool.Decides.{nat_tests}
use Rattle.std.proofs.lemmas.List.Folds.{Any-from_list_any}
use Rattle.game_rules.proofs.Common.{Grid, IsBoard, is_on, cell_at, place_of, points_of}
use Rattle.game_rules.specs.declared.Cell.{Cell}
use Rattle.game_rules.specs.declared.Cell.TheVariants.{Empty}
use Rattle.game_rules.specs.declared.RuleKind.{RuleKind}
use Rattle.game_rules.specs.declared.Point.{Point}
use Rattle.game_rules.proofs.Boards.{and_left, and_right, grid_eq}
use Rattle.game_rules.proofs.Places.{points_get, points_on}
use Rattle.game_rules.proofs.PointLists.{all_implied}
use Rattle.board_symmetry.specs.Points.{board_image, fits, inverse, point_image}
use Rattle.board_symmetry.specs.declared.symmetry.Symmetry.{Symmetry}
use Rattle.board_symmetry.specs.declared.symmetry.Symmetry.TheVariants.{Identity, Half, FlipX, FlipY, Quarter, ThreeQuarter, Diagonal}
use Rattle.board_symmetry.specs.declared.symmetry.Symmetry.TheVariants.{AntiDiagonal}
use Rattle.board_symmetry.proofs.ImageGroup.{takes_back}
use Rattle.reply_cover.specs.Covers.{is_image, is_turned, same_cell, same_kind, symmetries}

pub same_kind-same : (k l : RuleKind) → same_kind k l ≡ true → k ≡ l
same_kind-same k l h = search rules

pub same_kind-itself : (k : RuleKind) → same_kind k k ≡ true
same_kind-itself k = search rules

pub same_cell-same : (c d : Cell) → same_cell c d ≡ true → c ≡ d
same_cell-same c d h = search rules

pub same_cell-itself : (c : Cell) → same_cell c c ≡ true
same_cell-itself c = search rules

-- ---- cells, point by point

module _ (f g : Point → Cell) where
  cells-same : (ps : List Point) → list_all (λ q. same_cell (f q) (g q)) ps ≡ true → map f ps ≡ map g ps
  cells-same [] h = refl
  cells-same (p ∷ ps) h =
      let here = same_cell-same (f p) (g p) (and_left _ _ h) in
      let rest = cells-same ps (and_right (same_cell (f p) (g p)) _ h) in
      λ i. here i ∷ rest i

  same-cells : (ps : List Point) → map f ps ≡ map g ps → list_all (λ q. same_cell (f q) (g q)) ps ≡ true
  same-cells [] h = refl
  same-cells (p ∷ ps) h =
      let here : f p ≡ g p = cc in
      let rest : map f ps ≡ map g ps = cc in
      rw (here, same_cell-itself (g p)) (same-cells ps rest)

cell_there : (f : Point → Cell) (ps : List Point) (i : ℕ) (q : Point) (d : Cell) → slice_get ps i ≡ Some q → get_or (map f ps) i d ≡ f q
cell_there f [] i q d e = cc
cell_there f (p ∷ ps) zero q d e = let same : p ≡ q = cc in ap f same
cell_there f (p ∷ ps) (suc i) q d e = cell_there f ps i q d e

-- the cells of a board are those of its points
listed : (c : Grid) → IsBoard c → map (cell_at c) (points_of c) ≡ c.cells
listed c ok =
    let image = board_image Identity c in
    sym (cells-same (cell_at image) (cell_at c) (points_of c) (all_implied _ (is_on c) (points_of c) (λ q on.
    let same : cell_at image q ≡ cell_at c q = cell_there (cell_at c) (points_of c) (place_of c q) q Empty (points_get c q on) in
    rw (same, same_cell-itself (cell_at c q)) refl) (points_on c))) ∙ ap (λ (b : Grid). b.cells) (takes_back Identity c ok refl).boards

-- ---- images

-- the board is of the size of another one
pub record IsSized (b c : Grid) : Type 0 where
  pub board : IsBoard c
  pub wide : c.width ≡ b.width
  pub high : c.height ≡ b.height

module _ (s : Symmetry) (b c : Grid) (sized : IsSized b c) where
  image_at : Point → Cell
  image_at q = cell_at b (point_image (inverse s) b.width b.height q)

  points-same : points_of c ≡ points_of b
  points-same = rw (sized.wide, sized.high) refl

  image-made : is_image s b c ≡ true → c ≡ board_image s b
  unfolding is_image image_at
  image-made h = grid_eq c (board_image s b) sized.wide sized.high (sym (listed c sized.board)
      ∙ cells-same (cell_at c) image_at (points_of c) (and_right (fits s b.width b.height) _ h) ∙ ap (map image_at) points-same)

  made-image : fits s b.width b.height ≡ true → c ≡ board_image s b → is_image s b c ≡ true
  unfolding is_image image_at
  made-image fit e = rw fit (same-cells (cell_at c) image_at (points_of c)
      (listed c sized.board ∙ ap (λ (g : Grid). g.cells) e ∙ ap (map image_at) (sym points-same)))

eight-hold : (f : Symmetry → Bool) (s : Symmetry) → f s ≡ true → list_any f symmetries ≡ true
eight-hold f Identity h = rw h refl
eight-hold f Half h = search rules
eight-hold f FlipX h = search rules
eight-hold f FlipY h = search rules
eight-hold f Quarter h = search rules
eight-hold f ThreeQuarter h = search rules
eight-hold f Diagonal h = search rules
eight-hold f AntiDiagonal h = search rules

-- an image under some symmetry that fits
pub record IsMade (b c : Grid) : Type 0 where
  pub symmetry : Symmetry
  pub fitting : fits symmetry b.width b.height ≡ true
  pub image : c ≡ board_image symmetry b

same-number : (x y : ℕ) → (x == y) ≡ true → x ≡ y
same-number x y h = grind (arith, nat_tests)

image-fits : (s : Symmetry) (b c : Grid) → is_image s b c ≡ true → fits s b.width b.height ≡ true
unfolding is_image
image-fits s b c h = and_left _ _ h

pub turned-made : (b c : Grid) → IsBoard c → is_turned b c ≡ true → IsMade b c
unfolding is_turned
turned-made b c ok h =
    let sizes : (c.width == b.width && c.height == b.height) ≡ true = and_left _ _ h in
    let sized : IsSized b c = record {
      board = ok;
      wide = same-number c.width b.width (and_left _ _ sizes);
      high = same-number c.height b.height (and_right (c.width == b.width) _ sizes);
    } in
    let some = Any-from_list_any (λ s. is_image s b c) symmetries (and_right (c.width == b.width && c.height == b.height) _ h) in
    record { symmetry = some.1; fitting = image-fits some.1 b c some.4; image = image-made some.1 b c sized some.4 }

pub made-turned : (b c : Grid) → IsBoard c → IsMade b c → is_turned b c ≡ true
unfolding is_turned
made-turned b c ok made =
    let wide : c.width ≡ b.width = ap (λ (g : Grid). g.width) made.image in
    let high : c.height ≡ b.height = ap (λ (g : Grid). g.height) made.image in
    rw (eq-eqb c.width b.width wide, eq-eqb c.height b.height high) (eight-hold (λ s. is_image s b c) made.symmetry
    (made-image made.symmetry b c (record { board = ok; wide = wide; high = high }) made.fitting made.image))
