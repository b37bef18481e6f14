-- The lines TURN of points are read as these turns.
use Rattle.std.proofs.Common.{◌≡◌, ℕ, suc, ◌≤◌, nat_lt, Bool, true, false, ◌&&◌, not, List, [], ◌∷◌, ◌++◌, map, refl, sym, ap, subst, ◌∙◌}
use Rattle.std.proofs.Common.{arith, append_assoc, eqb-true, nat_eq, lt-ltb, All, codes, rules}
use Rattle.std.specs.List.{list_all}
use Rattle.std.specs.Fmt.{digits}
use Rattle.std.proofs.lemmas.List.{map-append}
use Rattle.std.proofs.lemmas.List.Elements.{All-cons, All-nil}
use Rattle.std.proofs.lemmas.Grind.{flat_map-append}
use Rattle.brain_session.proofs.Common.{Grid, is_on, points_of, after, MAX_SIDE, Point, lines, whole_lines, command_told, commands}
use Rattle.brain_session.proofs.Common.{answer_text, Move, Command, Turn, RuleKind, HeldTable, IsHeld, Answer, board_of, empty_board}
use Rattle.brain_session.proofs.Common.{new_brain, State, answer_texts, answers_from, session_text, state_after, HasNoEnd, AreReplies}
use Rattle.brain_session.proofs.Common.{turns, turn_line, turn_lines, IsSomeBoards, OwnRepliesAreAnsweredInBytes, RepliesAreAnsweredInBytes}
use Rattle.brain_session.proofs.Common.{TurnLinesAreRead}
use Rattle.game_rules.proofs.Boards.{and_left, and_right, on_x, on_y}
use Rattle.game_rules.proofs.Points.{all_at}
use Rattle.renju_io.specs.Lines.{is_line_feed, line_of, HasNoLineFeed}
use Rattle.renju_io.specs.declared.TheConstants.{LINE_FEED}
use Rattle.renju_io.proofs.LineLaws.{pieces-ended}
use Rattle.renju_io.proofs.WholeLines.{whole_cut}
use Rattle.gomocup_text.specs.Answers.{answer_words}
use Rattle.brain_session.proofs.SessionLaws.{answers-append}
use Rattle.brain_session.proofs.LawfulStates.{new-lawful, session-lawful}
use Rattle.brain_session.proofs.HeldGames.{stands_where}
use Rattle.brain_session.proofs.HeldReplies.{legal-replies-are_answered}
use Rattle.brain_session.proofs.OwnGames.{own-position, own-replies-are_answered}

-- the bytes of a line TURN before its line feed
abbrev line_bytes : Point → List ℕ
line_bytes q = (codes "TURN " ++ answer_words (Move q)) ++ codes "\r"

-- whether the command is the turn of the point
abbrev is_turn : Point → Command → Bool
is_turn q (Turn x y) = nat_eq x q.x && nat_eq y q.y
is_turn q _ = false

turn_is : (q : Point) (c : Command) → is_turn q c ≡ true → c ≡ Turn q.x q.y
turn_is q c h = search (rules, eqb-true, and_left, and_right)

-- whether the line of the point has no line feed, and is read as its turn
abbrev reads_back : Point → Bool
reads_back q = list_all (λ byte. not (is_line_feed byte)) (line_bytes q) && is_turn q (command_told (line_of (line_bytes q)))

abbrev largest : Grid
largest = empty_board MAX_SIDE MAX_SIDE

-- on the largest board each is
all_read : list_all reads_back (points_of largest) ≡ true
unfolding digits
all_read = refl

read_back : (q : Point) → IsSomeBoards q → reads_back q ≡ true
read_back q some = all_at largest reads_back q all_read (on (lt-ltb q.x MAX_SIDE some.within) (lt-ltb q.y MAX_SIDE some.below)) where
  on : nat_lt q.x MAX_SIDE ≡ true → nat_lt q.y MAX_SIDE ≡ true → is_on largest q ≡ true
  on across down = rw (across, down) refl

no_feed : (bytes : List ℕ) → list_all (λ byte. not (is_line_feed byte)) bytes ≡ true → HasNoLineFeed bytes
no_feed [] h = tt
no_feed (byte ∷ bytes) h = search (rules, and_left, and_right, no_feed bytes (and_right (not (is_line_feed byte)) _ h))

-- one line, and more behind it
line_read : (q : Point) (more : List ℕ) → IsSomeBoards q → commands (turn_line q ++ more) ≡ Turn q.x q.y ∷ commands more
line_read q more some =
    let test = read_back q some in
    let none = no_feed (line_bytes q) (and_left (list_all (λ byte. not (is_line_feed byte)) (line_bytes q)) _ test) in
    let is = turn_is q (command_told (line_of (line_bytes q)))
    (and_right (list_all (λ byte. not (is_line_feed byte)) (line_bytes q)) _ test) in
    ap commands (append_assoc (codes "TURN " ++ answer_words (Move q)) (codes "\r\n") more
    ∙ sym (append_assoc (codes "TURN " ++ answer_words (Move q)) (codes "\r") (LINE_FEED ∷ more)))
    ∙ ap (λ (ps : List (List ℕ)). map command_told (map line_of ps)) (pieces-ended (line_bytes q) more none)
    ∙ ap (λ (c : Command). c ∷ commands more) is

lines_read : (qs : List Point) → All IsSomeBoards qs → commands (turn_lines qs) ≡ turns qs
lines_read [] all = refl
lines_read (q ∷ qs) all = line_read q (turn_lines qs) (all 0 q (omega arith))
    ∙ ap (λ (cs : List Command). Turn q.x q.y ∷ cs) (lines_read qs (λ k d low. all (suc k) d (omega (arith, low))))

pub turn_lines-are_read : TurnLinesAreRead
turn_lines-are_read front qs whole all = ap (map command_told)
    (subst (λ (f : List ℕ). lines (f ++ turn_lines qs) ≡ lines f ++ lines (turn_lines qs)) whole ((whole_cut front).splits (turn_lines qs)))
    ∙ map-append command_told (lines front) (lines (turn_lines qs)) ∙ ap (λ (cs : List Command). commands front ++ cs) (lines_read qs all)

-- ---- legal replies, as lines

-- replies that are legal are points of the largest board
legal_somes : (rule : RuleKind) (b : Grid) (ps qs : List Point) → b.width ≤ MAX_SIDE → b.height ≤ MAX_SIDE → AreReplies rule b ps qs
    → All IsSomeBoards qs
legal_somes rule b ps [] wide high are = All-nil IsSomeBoards
legal_somes rule b [] (q ∷ qs) wide high are = absurd are
legal_somes rule b (p ∷ ps) (q ∷ qs) wide high are =
    search (rules, and_left, on_x, on_y, All-cons, legal_somes rule (after (after b p) q) ps qs wide high are.2)

-- behind whole lines, of which the last is answered so with the turns behind it, the bytes are those of the answers before, and of these
in_bytes : (held : HeldTable) (front : List ℕ) (before : List Command) (c : Command) (qs : List Point) (said : List Answer)
    → whole_lines front ≡ front → commands front ≡ before ++ c ∷ [] → HasNoEnd before → All IsSomeBoards qs
    → answers_from (state_after (new_brain held) before) (c ∷ turns qs) ≡ said
    → session_text (new_brain held) (front ++ turn_lines qs) ≡ answer_texts (answers_from (new_brain held) before) ++ answer_texts said
in_bytes held front before c qs said whole are no_end some answered =
    let s : State = state_after (new_brain held) before in
    let asked : commands (front ++ turn_lines qs) ≡ before ++ c ∷ turns qs =
    turn_lines-are_read front qs whole some ∙ ap (λ (cs : List Command). cs ++ turns qs) are ∙ append_assoc before (c ∷ []) (turns qs) in
    ap (λ (cs : List Command). answer_texts (answers_from (new_brain held) cs)) asked
    ∙ ap answer_texts (answers-append (new_brain held) before (c ∷ turns qs) no_end)
    ∙ flat_map-append answer_text (answers_from (new_brain held) before) (answers_from s (c ∷ turns qs))
    ∙ ap (λ (said : List Answer). answer_texts (answers_from (new_brain held) before) ++ answer_texts said) answered

pub replies-in_bytes : RepliesAreAnsweredInBytes
replies-in_bytes held is_held front before c g i qs whole are no_end begins legal =
    let kept = session-lawful held (new_brain held) before (new-lawful held) in
    let at = stands_where (state_after (new_brain held) before) c g i (subst IsHeld (sym kept.1) is_held) kept.0 begins in
    let board = at.3.lawful.board in
    in_bytes held front before c qs _ whole are no_end (legal_somes g.rule (board_of g) _ qs board.width_fits board.height_fits legal)
    (legal-replies-are_answered held is_held before c g i qs begins legal)

pub own-replies-in_bytes : OwnRepliesAreAnsweredInBytes
own-replies-in_bytes held is_held front before c g m qs whole are no_end begins legal =
    let kept = session-lawful held (new_brain held) before (new-lawful held) in
    let board = (own-position (state_after (new_brain held) before) c g m kept.0 begins).board in
    in_bytes held front before c qs _ whole are no_end (legal_somes g.rule (board_of g) _ qs board.width_fits board.height_fits legal)
    (own-replies-are_answered held is_held before c g m qs begins legal)
