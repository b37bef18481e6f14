-- The laws of images: what holds of a board and a table holds of their images.
use Rattle.std.specs.Prelude.{◌≡◌, ◌↔◌, ℕ, true, List, ◌∷◌, map}
use Rattle.std.specs.List.{list_all}
use Rattle.game_rules.specs.Grid.{Grid, IsBoard, is_on}
use Rattle.game_rules.specs.Play.{IsPosition, outcome, foul_of}
use Rattle.game_rules.specs.Games.{WinsWithin, WinsByFours, WinsByThreats, WinsAfter}
use Rattle.game_rules.specs.declared.RuleKind.{RuleKind}
use Rattle.game_rules.specs.declared.Side.{Side}
use Rattle.game_rules.specs.declared.Point.{Point}
use Rattle.strategy_graph.specs.Tables.{Answers, answer, answer_at, IsTable, IsStart, TableOnBoard, RepliesOn, depth, start_depth}
use Rattle.strategy_graph.specs.Acceptance.{Accepted, AcceptedStart}
use Rattle.strategy_graph.specs.Arrivals.{arrivals, start_arrivals}
use Rattle.strategy_graph.specs.Games.{game}
use Rattle.strategy_graph.specs.Roots.{RootOnBoard, root_depth, AcceptedRoot, root_arrivals, RootWins}
use Rattle.strategy_graph.specs.declared.Node.{Node}
use Rattle.strategy_graph.specs.declared.roots.Root.{Root}
use Rattle.strategy_graph.specs.declared.roots.Root.TheVariants.{Attack, Defend}
use Rattle.board_symmetry.specs.Points.{fits, inverse, point_image, board_image}
use Rattle.board_symmetry.specs.Images.{answers_image, table_image, root_image}
use Rattle.board_symmetry.specs.RootGames.{start_game, root_answer, root_game}
use Rattle.board_symmetry.specs.declared.symmetry.Symmetry.{Symmetry}

-- P holds of each symmetry and each board that it fits
abbrev pub OnImages : (Symmetry → Grid → Type 0) → Type 0
OnImages P = (s : Symmetry) (b : Grid) → IsBoard b → fits s b.width b.height ≡ true → P s b

-- a move at a point of the board and its image have the same outcome, and are the same foul of each side
pub record KeepsMoves (s : Symmetry) (b : Grid) : Type 0 where
  pub same_outcome : (rule : RuleKind) (p : Point) → is_on b p ≡ true
      → outcome rule (board_image s b) (point_image s b.width b.height p) ≡ outcome rule b p
  pub same_foul : (rule : RuleKind) (side : Side) (p : Point) → is_on b p ≡ true
      → foul_of rule (board_image s b) side (point_image s b.width b.height p) ≡ foul_of rule b side p

-- moves keep what they are
abbrev pub ImagesKeepMoves : Type 0
ImagesKeepMoves = OnImages KeepsMoves

-- the image is a lawful position exactly where the board is one
abbrev pub ImagesKeepPositions : Type 0
ImagesKeepPositions = OnImages (λ s b. (rule : RuleKind) → IsPosition rule (board_image s b) ↔ IsPosition rule b)

-- the image is won within so many moves exactly where the board is: by any moves, by continuous fours, by threats, and by the
-- other side whatever is played first
pub record KeepsWins (s : Symmetry) (b : Grid) : Type 0 where
  pub same_win : (rule : RuleKind) (n : ℕ) → WinsWithin rule n (board_image s b) ↔ WinsWithin rule n b
  pub same_win_by_fours : (rule : RuleKind) (n : ℕ) → WinsByFours rule n (board_image s b) ↔ WinsByFours rule n b
  pub same_win_by_threats : (rule : RuleKind) (n : ℕ) → WinsByThreats rule n (board_image s b) ↔ WinsByThreats rule n b
  pub same_win_after : (rule : RuleKind) (n : ℕ) → WinsAfter rule n (board_image s b) ↔ WinsAfter rule n b

-- wins stay
abbrev pub ImagesKeepWins : Type 0
ImagesKeepWins = OnImages KeepsWins

-- node i of the image of a table says at the image of a board what node i of the table says at the board: its depth, where it
-- is accepted, its arrivals, its answer to each reply and its games
pub record KeepsNode (s : Symmetry) (b : Grid) (t : List Node) (i : ℕ) : Type 0 where
  pub same_depth : depth (table_image s b.width b.height t) i ≡ depth t i
  pub same_accepted : (rule : RuleKind) → Accepted rule (table_image s b.width b.height t) i (board_image s b) ↔ Accepted rule t i b
  pub same_arrivals : (rule : RuleKind) → arrivals rule (table_image s b.width b.height t) i (board_image s b) ≡ arrivals rule t i b
  pub same_answer : (q : Point) → is_on b q ≡ true
      → answer_at (table_image s b.width b.height t) i (point_image s b.width b.height q) ≡ answer_at t i q
  pub same_game : (rule : RuleKind) (qs : List Point) → list_all (is_on b) qs ≡ true
      → game rule (table_image s b.width b.height t) i (board_image s b) (map (point_image s b.width b.height) qs) ≡ game rule t i b qs

-- nodes say what they said, where the table names points of the board alone
abbrev pub ImagesKeepNodes : Type 0
ImagesKeepNodes = OnImages (λ s b. (t : List Node) → IsTable t → TableOnBoard b t → (i : ℕ) → KeepsNode s b t i)

-- the image of a start says with the image of a table what the start says with the table: its depth, where it is accepted, its
-- arrivals, its answer to each reply, which is the same node, and the games after it
pub record KeepsStart (s : Symmetry) (b : Grid) (t : List Node) (a : Answers) : Type 0 where
  pub same_depth : start_depth (table_image s b.width b.height t) (answers_image s b.width b.height a) ≡ start_depth t a
  pub same_accepted : (rule : RuleKind)
      → AcceptedStart rule (table_image s b.width b.height t) (answers_image s b.width b.height a) (board_image s b)
      ↔ AcceptedStart rule t a b
  pub same_arrivals : (rule : RuleKind)
      → start_arrivals rule (table_image s b.width b.height t) (answers_image s b.width b.height a) (board_image s b)
      ≡ start_arrivals rule t a b
  pub same_answer : (q : Point) → is_on b q ≡ true
      → answer (answers_image s b.width b.height a) (point_image s b.width b.height q) ≡ answer a q
  pub same_game : (rule : RuleKind) (q : Point) (qs : List Point) → list_all (is_on b) (q ∷ qs) ≡ true
      → start_game rule (table_image s b.width b.height t) (answers_image s b.width b.height a) (board_image s b)
      (point_image s b.width b.height q) (map (point_image s b.width b.height) qs) ≡ start_game rule t a b q qs

-- starts say what they said
abbrev pub ImagesKeepStarts : Type 0
ImagesKeepStarts =
    OnImages (λ s b. (t : List Node) → IsTable t → TableOnBoard b t → (a : Answers) → IsStart a → RepliesOn b a.replies
    → KeepsStart s b t a)

-- the image of a root says with the image of a table what the root says with the table: its depth, where it is accepted, its
-- arrivals, what it claims, its answer to each reply, and its games
pub record KeepsRoot (s : Symmetry) (b : Grid) (t : List Node) (r : Root) : Type 0 where
  pub same_depth : root_depth (table_image s b.width b.height t) (root_image s b.width b.height r) ≡ root_depth t r
  pub same_accepted : (rule : RuleKind)
      → AcceptedRoot rule (table_image s b.width b.height t) (root_image s b.width b.height r) (board_image s b) ↔ AcceptedRoot rule t r b
  pub same_arrivals : (rule : RuleKind)
      → root_arrivals rule (table_image s b.width b.height t) (root_image s b.width b.height r) (board_image s b) ≡ root_arrivals rule t r b
  pub same_answer : (q : Point) → is_on b q ≡ true
      → root_answer (table_image s b.width b.height t) (root_image s b.width b.height r) (point_image s b.width b.height q)
      ≡ root_answer t r q
  pub same_game : (rule : RuleKind) (qs : List Point) → list_all (is_on b) qs ≡ true
      → root_game rule (table_image s b.width b.height t) (root_image s b.width b.height r) (board_image s b)
      (map (point_image s b.width b.height) qs) ≡ root_game rule t r b qs
  pub same_claim : (rule : RuleKind) (n : ℕ) → RootWins rule (root_image s b.width b.height r) n (board_image s b) ↔ RootWins rule r n b

-- a root that is a start is one whose replies rise and whose rest is not that of a winning node
abbrev pub IsRoot : Root → Type 0
IsRoot (Attack i) = Unit {0}
IsRoot (Defend a) = IsStart a

-- roots say what they said
abbrev pub ImagesKeepRoots : Type 0
ImagesKeepRoots = OnImages (λ s b. (t : List Node) → IsTable t → TableOnBoard b t → (r : Root) → IsRoot r → RootOnBoard b r
    → KeepsRoot s b t r)

-- u takes points, boards, tables and roots where s and then t take them
pub record Together (s t u : Symmetry) (b : Grid) : Type 0 where
  pub fitting : fits u b.width b.height ≡ true
  pub points : (p : Point) → is_on b p ≡ true
      → point_image t b.width b.height (point_image s b.width b.height p) ≡ point_image u b.width b.height p
  pub boards : board_image t (board_image s b) ≡ board_image u b
  pub tables : (nodes : List Node) → TableOnBoard b nodes
      → table_image t b.width b.height (table_image s b.width b.height nodes) ≡ table_image u b.width b.height nodes
  pub roots : (r : Root) → root_image t b.width b.height (root_image s b.width b.height r) ≡ root_image u b.width b.height r

-- two symmetries one after another are one of the eight
abbrev pub ImagesCompose : Type 0
ImagesCompose =
    (s t : Symmetry) → (u : Symmetry) × ((b : Grid) → IsBoard b → fits s b.width b.height ≡ true → fits t b.width b.height ≡ true
    → Together s t u b)

-- the inverse takes each point, board, table and root back
pub record TakesBack (s : Symmetry) (b : Grid) : Type 0 where
  pub fitting : fits (inverse s) b.width b.height ≡ true
  pub on : (p : Point) → is_on b p ≡ true → is_on b (point_image s b.width b.height p) ≡ true
  pub points : (p : Point) → is_on b p ≡ true
      → point_image (inverse s) b.width b.height (point_image s b.width b.height p) ≡ p
  pub boards : board_image (inverse s) (board_image s b) ≡ b
  pub tables : (t : List Node) → IsTable t → TableOnBoard b t
      → table_image (inverse s) b.width b.height (table_image s b.width b.height t) ≡ t
  pub roots : (r : Root) → IsRoot r → RootOnBoard b r
      → root_image (inverse s) b.width b.height (root_image s b.width b.height r) ≡ r

-- the inverse undoes
abbrev pub InversesTakeBack : Type 0
InversesTakeBack = OnImages TakesBack
