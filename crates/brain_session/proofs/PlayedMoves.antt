-- A board and the moves that were made on it: a move more, the last move taken back, and all stones taken off.
use Rattle.std.proofs.Common.{◌≡◌, ℕ, ◌+◌, ◌*◌, ◌<◌, ◌≤◌, Bool, true, refl, sym, ap, subst, ◌∙◌, arith, List, [], ◌∷◌, ◌++◌, reverse}
use Rattle.std.proofs.Common.{Decides, eqb-true, eq-eqb, Some, rules}
use Rattle.std.proofs.lemmas.Bool.Decides.{same_from_decides}
use Rattle.std.proofs.lemmas.List.Sums.{count_by-le-length}
use lib.Pointwise.{pointwise, pointwise_decides}
use Rattle.brain_session.proofs.Common.{Grid, IsBoard, is_empty, put, empties_of, mover, after, Side, Cell, Point, board_after, empty_board}
use Rattle.brain_session.proofs.Common.{same_cell, same_board, last_move, IsKept, without_last}
use Rattle.game_rules.proofs.Common.{lift}
use Rattle.game_rules.proofs.Boards.{and_left, and_right, lift-put, empties_of-put}
use Rattle.game_rules.proofs.Positions.{IsBoard-put}
use Rattle.game_rules.proofs.PointLists.{reverse-push}
use Rattle.stone_board.specs.Steps.{holds_stone}
use Rattle.stone_board.proofs.Stones.{put-holds_stone}
use Rattle.brain_session.proofs.SessionBoards.{empty-board, width-after, height-after}

-- ---- whether two boards are one

same_cell-Decides : (a b : Cell) → Decides (same_cell a b) (a ≡ b)
same_cell-Decides a b = search rules

pub same_board-is : (b c : Grid) → same_board b c ≡ true → b ≡ c
same_board-is b c h =
    let sizes = and_left _ (pointwise same_cell b.cells c.cells) h in
    let wide : b.width ≡ c.width = eqb-true _ _ (and_left _ _ sizes) in
    let high : b.height ≡ c.height = eqb-true _ _ (and_right _ _ sizes) in
    let cells : b.cells ≡ c.cells = (pointwise_decides same_cell-Decides b.cells c.cells).0
    (and_right _ (pointwise same_cell b.cells c.cells) h) in
    λ i. record { width = wide i; height = high i; cells = cells i }

pub same_board-itself : (b : Grid) → same_board b b ≡ true
same_board-itself b =
    let cells : pointwise same_cell b.cells b.cells ≡ true = (pointwise_decides same_cell-Decides b.cells b.cells).1 refl in
    rw (eq-eqb b.width b.width refl, eq-eqb b.height b.height refl, cells) refl

-- a test that tells whether two boards are one is that of their widths, heights and cells
pub same_board-told : (b c : Grid) (r : Bool) → Decides r (b ≡ c) → r ≡ same_board b c
same_board-told b c r h = search (rules, same_from_decides, same_board-is, same_board-itself)

-- ---- the moves, the last one first

-- ---- a board and the moves on it

-- each board on the way is one
pub IsBoard-after : (start : Grid) (moves : List Point) → IsBoard start → IsBoard (board_after start moves)
IsBoard-after start [] ok = ok
IsBoard-after start (p ∷ before) ok = search (rules, IsBoard-put, IsBoard-after start before ok)

-- a move more
pub kept-play : (start board : Grid) (before : List Point) (made room : ℕ) (p : Point) (side : Side)
    → IsKept (record { start = start; moves = before }) board made room → is_empty board p ≡ true → side ≡ mover board
    → IsKept (record { start = start; moves = p ∷ before }) (put board side p) (made + 1) room
kept-play start board before made room p side kept empty moves = search (rules, IsBoard-after, empties_of-put)

-- a board has no more empty points than points
empties-fit : (b : Grid) (room : ℕ) → IsBoard b → b.width * b.height ≤ room → empties_of b ≤ room
empties-fit b room ok fits = search (rules, count_by-le-length)

-- there is room for it
pub kept-room : (start board : Grid) (before : List Point) (made room : ℕ) (p : Point)
    → IsKept (record { start = start; moves = before }) board made room → is_empty board p ≡ true → made < room
kept-room start board before made room p kept empty =
    let ok : IsBoard board = subst IsBoard (sym kept.now) (IsBoard-after start before kept.start_board) in
    let fewer = empties_of-put board (mover board) p ok empty in
    let all = kept.taken in
    let fits = empties-fit start room kept.start_board kept.room_for_all in
    omega (arith, fewer, all, fits)

-- the last move has its stone on the board
pub kept-stone : (start board : Grid) (before : List Point) (made room : ℕ) (p : Point)
    → IsKept (record { start = start; moves = p ∷ before }) board made room → holds_stone board p ≡ true
kept-stone start board before made room p kept = search (rules, put-holds_stone, IsBoard-after)

-- without it the board is that before it
pub kept-lift : (start board : Grid) (before : List Point) (made room : ℕ) (p : Point)
    → IsKept (record { start = start; moves = p ∷ before }) board made room → lift board p ≡ board_after start before
kept-lift start board before made room p kept = search (rules, lift-put)

-- the last move taken back
pub kept-back : (start board : Grid) (before : List Point) (made left room : ℕ) (p : Point)
    → IsKept (record { start = start; moves = p ∷ before }) board made room → left + 1 ≡ made
    → IsKept (record { start = start; moves = before }) (lift board p) left room
kept-back start board before made left room p kept fewer =
    let b : Grid = board_after start before in
    let lifted : lift board p ≡ b = kept-lift start board before made room p kept in
    let more : empties_of board + 1 ≡ empties_of (lift board p) = ap (λ (c : Grid). empties_of c + 1) kept.now
    ∙ empties_of-put b (mover b) p (IsBoard-after start before kept.start_board) kept.took_empty.1 ∙ ap empties_of (sym lifted) in
    record {
      start_board = kept.start_board;
      now = lifted;
      took_empty = kept.took_empty.0;
      taken = let all = kept.taken in omega (arith, more, all, fewer);
      room_for_all = kept.room_for_all;
    }

-- all stones taken off, and no moves
pub kept-cleared : (start board : Grid) (before : List Point) (made room : ℕ)
    → IsKept (record { start = start; moves = before }) board made room
    → IsKept (record { start = empty_board start.width start.height; moves = [] }) (empty_board board.width board.height) 0 room
kept-cleared start board before made room kept = search (rules, width-after, height-after, empty-board)

-- ---- the same, as the calls say it

-- what the last move is tells how the list of moves goes on
pub last-cons : (ps : List Point) (p : Point) → last_move ps ≡ Some p → ps ≡ p ∷ without_last ps
last-cons ps p h = search rules

pub kept-as : (start board : Grid) (ps qs : List Point) (made room : ℕ) → ps ≡ qs
    → IsKept (record { start = start; moves = ps }) board made room → IsKept (record { start = start; moves = qs }) board made room
kept-as start board ps qs made room e kept = search rules

pub kept-pushed : (start board next : Grid) (items more : List Point) (made longer room left : ℕ) (p : Point) (side : Side)
    → IsKept (record { start = start; moves = reverse items }) board made room → is_empty board p ≡ true → side ≡ mover board
    → next ≡ put board side p → more ≡ items ++ p ∷ [] → longer ≡ made + 1 → left ≡ room
    → IsKept (record { start = start; moves = reverse more }) next longer left
kept-pushed start board next items more made longer room left p side kept empty moves put_here pushed one same =
    rw (put_here, pushed, one, same, reverse-push items p) (kept-play start board (reverse items) made room p side kept empty moves)

pub kept-bare : (start board bare now : Grid) (before : List Point) (items : List Point) (made room none left : ℕ)
    → IsKept (record { start = start; moves = before }) board made room → bare ≡ empty_board start.width start.height
    → now ≡ empty_board board.width board.height → items ≡ [] → none ≡ 0 → left ≡ room
    → IsKept (record { start = bare; moves = reverse items }) now none left
kept-bare start board bare now before items made room none left kept cleared cleared_now unmoved unmade same =
    rw (cleared, cleared_now, unmoved, unmade, same) (kept-cleared start board before made room kept)

-- the moves with the last one, as they were before it was popped
pub kept-popped : (start board : Grid) (items fewer : List Point) (made room : ℕ) (p : Point) → items ≡ fewer ++ p ∷ []
    → IsKept (record { start = start; moves = reverse items }) board made room
    → IsKept (record { start = start; moves = p ∷ reverse fewer }) board made room
kept-popped start board items fewer made room p popped kept = search (rules, kept-as, reverse-push)

pub kept-left : (start board next : Grid) (before : List Point) (made left room still : ℕ) (p : Point)
    → IsKept (record { start = start; moves = p ∷ before }) board made room → next ≡ lift board p → left + 1 ≡ made → still ≡ room
    → IsKept (record { start = start; moves = before }) next left still
kept-left start board next before made left room still p kept lifted one same =
    rw (lifted, same) (kept-back start board before made left room p kept one)

-- a stone that is lifted and put again
pub kept-again : (start board lifted again : Grid) (before : List Point) (made room : ℕ) (p : Point) (side : Side)
    → IsKept (record { start = start; moves = p ∷ before }) board made room → lifted ≡ lift board p → side ≡ mover lifted
    → again ≡ put lifted side p → again ≡ board
kept-again start board lifted again before made room p side kept lift_here moves put_here =
    put_here ∙ ap (λ (s : Side). put lifted s p) moves
    ∙ ap (λ (b : Grid). after b p) (lift_here ∙ kept-lift start board before made room p kept) ∙ sym kept.now
