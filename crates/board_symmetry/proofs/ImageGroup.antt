-- Images of images, and images taken back.
use Rattle.std.proofs.Common.{◌≡◌, ℕ, suc, true, refl, sym, ap, ◌∙◌, List, [], ◌∷◌, Some, slice_get, rules}
use Rattle.std.specs.List.{AllByRecursion}
use Rattle.board_symmetry.proofs.Common.{Grid, IsBoard, cell_at, points_within, Point, listed_node, is_rising, RepliesOn, TableOnBoard}
use Rattle.board_symmetry.proofs.Common.{Reply, Node, fits, inverse, point_image, board_image, empty_board, replies_image, root_image}
use Rattle.board_symmetry.proofs.Common.{table_image, IsRoot, Together, TakesBack, Symmetry}
use Rattle.game_rules.proofs.Places.{points_on}
use Rattle.strategy_graph.proofs.Common.{RootOnBoard}
use Rattle.strategy_graph.specs.declared.roots.Root.{Root}
use Rattle.board_symmetry.proofs.Turns.{Turn, within}
use Rattle.board_symmetry.proofs.Eight.{turn_of}
use Rattle.board_symmetry.proofs.Alike.{grid}
use Rattle.board_symmetry.proofs.BoardImages.{same_cells, image_ok, image_turned}
use Rattle.board_symmetry.proofs.Filling.{fits-inverse}
use Rattle.board_symmetry.proofs.TurnedReplies.{told_where, listed-same}
use Rattle.board_symmetry.proofs.RisingReplies.{told_again}
use Rattle.board_symmetry.proofs.Parts.{composed, composed-point, composed-fits}

-- ---- one symmetry after another

module _ (s t : Symmetry) (w h : ℕ) (fit_s : fits s w h ≡ true) (fit_t : fits t w h ≡ true) where
  turn_s : Turn w h (point_image s w h) (point_image (inverse s) w h)
  turn_s = turn_of s w h fit_s

  turn_t : Turn w h (point_image t w h) (point_image (inverse t) w h)
  turn_t = turn_of t w h fit_t

  turn_u : Turn w h (point_image (composed s t) w h) (point_image (inverse (composed s t)) w h)
  turn_u = turn_of (composed s t) w h (composed-fits s t w h fit_s fit_t)

  -- the point that comes to q, by both ways
  back_then : (q : Point) → within w h q ≡ true
      → point_image (inverse (composed s t)) w h q ≡ point_image (inverse s) w h (point_image (inverse t) w h q)
  back_then q on =
      let first : within w h (point_image (inverse t) w h q) ≡ true = turn_t.come q on in
      let second : within w h (point_image (inverse s) w h (point_image (inverse t) w h q)) ≡ true = turn_s.come _ first in
      let there : point_image (composed s t) w h (point_image (inverse s) w h (point_image (inverse t) w h q)) ≡ q =
      sym (composed-point s t w h _ second fit_s fit_t) ∙ ap (point_image t w h) (turn_s.redone _ first) ∙ turn_t.redone q on in
      ap (point_image (inverse (composed s t)) w h) (sym there) ∙ turn_u.undone _ second

  replies_then : (rs : List Reply) → replies_image t w h (replies_image s w h rs) ≡ replies_image (composed s t) w h rs
  replies_then rs = told_where (within w h) _ _ (points_within w h) (points_on (empty_board w h)) (λ q on.
      let first : within w h (point_image (inverse t) w h q) ≡ true = turn_t.come q on in
      let second : within w h (point_image (inverse s) w h (point_image (inverse t) w h q)) ≡ true = turn_s.come _ first in
      ap (listed_node (replies_image s w h rs)) (sym (turn_s.redone _ first))
      ∙ listed-same w h (point_image s w h) (point_image (inverse s) w h) turn_s rs _ second ∙ ap (listed_node rs) (sym (back_then q on)))

  table_then : (nodes : List Node) → TableOnBoard (empty_board w h) nodes
      → table_image t w h (table_image s w h nodes) ≡ table_image (composed s t) w h nodes
  table_then [] on = refl
  table_then (n ∷ nodes) on =
      λ i. record {
        attack = composed-point s t w h n.attack on.0.attack fit_s fit_t i;
        replies = replies_then n.replies i;
        rest = n.rest;
      } ∷ table_then nodes on.1 i

  root_then : (r : Root) → root_image t w h (root_image s w h r) ≡ root_image (composed s t) w h r
  root_then r = search (rules, replies_then)

-- which points are on a board goes by its size alone
pub names_sized : (b : Grid) (t : List Node) → TableOnBoard b t → TableOnBoard (empty_board b.width b.height) t
names_sized b [] on = tt
names_sized b (n ∷ t) on = (record { attack = on.0.attack; replies = on.0.replies }, names_sized b t on.1)

pub root_sized : (b : Grid) (r : Root) → RootOnBoard b r → RootOnBoard (empty_board b.width b.height) r
root_sized b r on = search rules

pub together : (s t : Symmetry) (b : Grid) → IsBoard b → fits s b.width b.height ≡ true → fits t b.width b.height ≡ true
    → Together s t (composed s t) b
together s t b ok fit_s fit_t = record {
  fitting = fit_u;
  points = λ p on. composed-point s t b.width b.height p on fit_s fit_t;
  boards = ap (grid b.width b.height) (same_cells b.width b.height _ _ (image_ok t (board_image s b) (image_ok s b ok))
      (image_ok (composed s t) b ok) cells);
  tables = λ nodes on. table_then s t b.width b.height fit_s fit_t nodes (names_sized b nodes on);
  roots = root_then s t b.width b.height fit_s fit_t;
} where
  fit_u : fits (composed s t) b.width b.height ≡ true
  fit_u = composed-fits s t b.width b.height fit_s fit_t

  cells : (q : Point) → within b.width b.height q ≡ true → cell_at (board_image t (board_image s b)) q
      ≡ cell_at (board_image (composed s t) b) q
  cells q on =
      let turn_u = turn_of (composed s t) b.width b.height fit_u in
      let p : within b.width b.height (point_image (inverse (composed s t)) b.width b.height q) ≡ true = turn_u.come q on in
      let turn_s = turn_of s b.width b.height fit_s in
      ap (cell_at (board_image t (board_image s b))) (sym (turn_u.redone q on) ∙ sym (composed-point s t b.width b.height _ p fit_s fit_t))
      ∙ (image_turned t (board_image s b) (image_ok s b ok) fit_t).cells _ (turn_s.kept _ p) ∙ (image_turned s b ok fit_s).cells _ p
      ∙ sym ((image_turned (composed s t) b ok fit_u).cells _ p) ∙ ap (cell_at (board_image (composed s t) b)) (turn_u.redone q on)

-- ---- taken back

inverse-inverse : (s : Symmetry) → inverse (inverse s) ≡ s
inverse-inverse s = search rules

module _ (s : Symmetry) (w h : ℕ) (fit : fits s w h ≡ true) where
  replies_back : (rs : List Reply) → is_rising rs ≡ true → RepliesOn (empty_board w h) rs
      → replies_image (inverse s) w h (replies_image s w h rs) ≡ rs
  replies_back rs rising on = told_where (within w h) _ (listed_node rs) (points_within w h) (points_on (empty_board w h))
      (λ q inside. ap (λ (z : Symmetry). listed_node (replies_image s w h rs) (point_image z w h q)) (inverse-inverse s)
      ∙ listed-same w h (point_image s w h) (point_image (inverse s) w h) (turn_of s w h fit) rs q inside) ∙ told_again w h rs rising on

  table_back : (t : List Node) → AllByRecursion (λ (n : Node). is_rising n.replies ≡ true) t → TableOnBoard (empty_board w h) t
      → table_image (inverse s) w h (table_image s w h t) ≡ t
  table_back [] rising on = refl
  table_back (n ∷ t) rising on = λ i. record {
    attack = (turn_of s w h fit).undone n.attack on.0.attack i;
    replies = replies_back n.replies rising.0 on.0.replies i;
    rest = n.rest;
  } ∷ table_back t rising.1 on.1 i

  root_back : (r : Root) → IsRoot r → RootOnBoard (empty_board w h) r → root_image (inverse s) w h (root_image s w h r) ≡ r
  root_back r root on = search (rules, replies_back)

-- the replies of each node of a table rise
all_rising : (t : List Node) → ((i : ℕ) (n : Node) → slice_get t i ≡ Some n → is_rising n.replies ≡ true)
    → AllByRecursion (λ (n : Node). is_rising n.replies ≡ true) t
all_rising [] each = tt
all_rising (n ∷ t) each = (each 0 n refl, all_rising t (λ i m e. each (suc i) m e))

pub takes_back : (s : Symmetry) (b : Grid) → IsBoard b → fits s b.width b.height ≡ true → TakesBack s b
takes_back s b ok fit = record {
  fitting = fit_back;
  on = λ p on. turn.kept p on;
  points = λ p on. turn.undone p on;
  boards = ap (grid b.width b.height) (same_cells b.width b.height _ b.cells
      (image_ok (inverse s) (board_image s b) (image_ok s b ok)) ok cells);
  tables = λ t table on. table_back s b.width b.height fit t (all_rising t (λ i n e. (table.nodes i n e).rising)) (names_sized b t on);
  roots = λ r root on. root_back s b.width b.height fit r root (root_sized b r on);
} where
  fit_back : fits (inverse s) b.width b.height ≡ true
  fit_back = fits-inverse s b.width b.height ∙ fit

  turn : Turn b.width b.height (point_image s b.width b.height) (point_image (inverse s) b.width b.height)
  turn = turn_of s b.width b.height fit

  cells : (q : Point) → within b.width b.height q ≡ true → cell_at (board_image (inverse s) (board_image s b)) q ≡ cell_at b q
  cells q on = ap (cell_at (board_image (inverse s) (board_image s b))) (sym ((turn_of s b.width b.height fit).undone q on))
      ∙ (image_turned (inverse s) (board_image s b) (image_ok s b ok) (fits-inverse s b.width b.height ∙ fit)).cells _
      ((turn_of s b.width b.height fit).kept q on) ∙ (image_turned s b ok fit).cells q on
