-- A held game begins where a reader of the lines sees the position of a root, and is won.
use Rattle.std.proofs.Common.{◌≡◌, ℕ, List, [], ◌∷◌, ◌++◌, refl, sym, ap, subst, ◌∙◌, arith, Option, Some, None, All, option_map, rules}
use Rattle.std.proofs.lemmas.Option.{same_Some}
use Rattle.std.proofs.lemmas.List.Elements.{All-contains, Contains-append_right}
use Rattle.brain_session.proofs.Common.{Grid, RuleKind, Black, Point, Root, Attack, Defend, attacks, HeldRoot, HeldTable, Command, Begin}
use Rattle.brain_session.proofs.Common.{Done, Answer, Move, Error, BadBoard, UnsupportedRule, Reaction, Says, Game, board_after, board_of}
use Rattle.brain_session.proofs.Common.{empty_board, new_brain, new_game, Place, NoBoard, Fresh, InGame, Batch, State, game_from}
use Rattle.brain_session.proofs.Common.{by_followed, Row, Chooses, rule_of, if_supported, board_in, unread, batch_row, done_row, begin_row}
use Rattle.brain_session.proofs.Common.{if_not_reading, row_of, step_by, brain_step, answer_texts, answers_from, session_text, state_after}
use Rattle.brain_session.proofs.Common.{then_answers, AreReplies, RootWinsGames, game_answers, turn_lines, HasComeTo, IsNodeOf, IsThere}
use Rattle.brain_session.proofs.Common.{Drawing, Sheet, drawn_board, sent_board, HeldLinesWin, begun_at, drawing_of}
use Rattle.brain_session.proofs.SessionLaws.{answers-append, answers-one}
use Rattle.brain_session.proofs.LawfulStates.{LawfulState, session-lawful, new-lawful}
use Rattle.brain_session.proofs.Drawings.{IsDrawn, batch-sent, drawn-session, sheet_of}
use Rattle.brain_session.proofs.HeldWins.{whoever-holds_wins}
use Rattle.brain_session.proofs.RootGames.{roots-begin_games}
use Rattle.brain_session.proofs.TurnLines.{replies-in_bytes}

-- ---- the answer of one more line

same_front : (xs ys zs : List Answer) → xs ++ ys ≡ xs ++ zs → ys ≡ zs
same_front [] ys zs e = e
same_front (x ∷ xs) ys zs e = let rest : xs ++ ys ≡ xs ++ zs = cc in same_front xs ys zs rest

moved_by : (r : Reaction) (p : Point) → then_answers r [] ≡ Move p ∷ [] → r ≡ Says (Move p)
moved_by r p e = search rules

-- ---- a new game

-- the line has the brain move in a new game from this position
record BeginsAnew (s : State) (c : Command) (b : Grid) : Type 0 where
  game : Game
  chooses : row_of s c ≡ Chooses game
  rule : rule_of s.wish ≡ Some game.rule
  start : game.start ≡ b
  moves : game.moves ≡ []
  followed : game.followed ≡ None

module _ (s : State) (d : Drawing) (lawful : LawfulState s) (is : IsDrawn s d) (p : Point) (b : Grid) where
  by_begin : (batch : Option Batch) (place : Place) (o : Option RuleKind) → s.place ≡ place → rule_of s.wish ≡ o
      → (step_by s (if_not_reading s batch (λ _. begin_row s place))).reaction ≡ Says (Move p)
      → row_of s Begin ≡ if_not_reading s batch (λ _. begin_row s place) → drawn_board d ≡ Some b → BeginsAnew s Begin b
  by_begin (Some batch) place o at wish says row drawn = cc
  by_begin None NoBoard o at wish says row drawn = cc
  by_begin None (InGame g) o at wish says row drawn = cc
  by_begin None (Fresh width height) o at wish says row drawn = by_rule o wish where
    reads : (o : Option RuleKind) → rule_of s.wish ≡ o
        → row_of s Begin ≡ if_supported o s (λ rule. Chooses (new_game rule (empty_board width height) Black))
    reads o wish = row ∙ ap (λ (r : Option RuleKind). if_supported r s (λ rule. Chooses (new_game rule (empty_board width height) Black)))
        wish

    by_rule : (o : Option RuleKind) → rule_of s.wish ≡ o → BeginsAnew s Begin b
    by_rule None wish =
        let none : Says (Error UnsupportedRule) ≡ Says (Move p) =
        sym (ap (λ (r : Row). (step_by s r).reaction) (sym row ∙ reads None wish)) ∙ says in cc
    by_rule (Some rule) wish = record {
      game = new_game rule (empty_board width height) Black;
      chooses = reads (Some rule) wish;
      rule = wish;
      start = same_Some _ _ (sym (ap (option_map (λ (sheet : Sheet). board_after sheet.start sheet.moves)) (is.sheet ∙ ap sheet_of at))
          ∙ drawn);
      moves = refl;
      followed = refl;
    }

  by_done : (batch : Option Batch) → s.batch ≡ batch → (o : Option RuleKind) → rule_of s.wish ≡ o
      → (step_by s (done_row s batch)).reaction ≡ Says (Move p) → row_of s Done ≡ done_row s batch
      → option_map (sent_board d.sent) d.sheet ≡ Some b → BeginsAnew s Done b
  by_done None read o wish says row drawn = cc
  by_done (Some batch) read o wish says row drawn = by_rule o wish where
    reads : (o : Option RuleKind) → rule_of s.wish ≡ o → row_of s Done
        ≡ if_supported o (unread s) (λ rule. batch_row s (game_from rule (board_in s.place) batch))
    reads o wish = row
        ∙ ap (λ (r : Option RuleKind). if_supported r (unread s) (λ rule. batch_row s (game_from rule (board_in s.place) batch))) wish

    by_game : (rule : RuleKind) → rule_of s.wish ≡ Some rule → (o : Option Game) → game_from rule (board_in s.place) batch ≡ o
        → BeginsAnew s Done b
    by_game rule wish None e =
        let none : Says (Error BadBoard) ≡ Says (Move p) =
        sym (ap (λ (r : Row). (step_by s r).reaction) (sym row ∙ reads (Some rule) wish ∙ ap (batch_row s) e)) ∙ says in cc
    by_game rule wish (Some g) e =
        let sent = batch-sent s d.sent is.sent lawful rule batch g read e in
        record {
          game = g;
          chooses = reads (Some rule) wish ∙ ap (batch_row s) e;
          rule = wish ∙ ap (λ (k : RuleKind). Some k) (sym sent.rule_is);
          start = sym sent.start ∙ same_Some _ _ (sym (ap (option_map (sent_board d.sent)) (is.sheet ∙ sent.is)) ∙ drawn);
          moves = sent.moves;
          followed = sent.followed;
        }

    by_rule : (o : Option RuleKind) → rule_of s.wish ≡ o → BeginsAnew s Done b
    by_rule None wish =
        let none : Says (Error UnsupportedRule) ≡ Says (Move p) =
        sym (ap (λ (r : Row). (step_by s r).reaction) (sym row ∙ reads None wish)) ∙ says in cc
    by_rule (Some rule) wish = by_game rule wish (game_from rule (board_in s.place) batch) refl

  begins_anew : (c : Command) → (brain_step s c).reaction ≡ Says (Move p) → begun_at d c ≡ Some b → BeginsAnew s c b
  unfolding row_of
  begins_anew Begin says drawn = by_begin s.batch s.place (rule_of s.wish) refl refl says refl drawn
  begins_anew Done says drawn = by_done s.batch refl (rule_of s.wish) refl says refl drawn
  begins_anew _ says drawn = cc

-- ---- the game by the root

-- nothing is followed yet
none_followed : (h : HeldTable) (g : Game) → g.followed ≡ None → by_followed h g ≡ None
none_followed h g e = search rules

-- the game has not come to a root that is held elsewhere
elsewhere : (e r : HeldRoot) (g : Game) → g.rule ≡ r.kind → board_of g ≡ r.board → g.moves ≡ []
    → (e.kind ≡ r.kind → e.board ≡ r.board → ⊥) → HasComeTo e g → ⊥
elsewhere e r g rule board moves apart come = by_root e.root come.there where
  by_root : (root : Root) → IsThere root e.board g → ⊥
  by_root (Attack i) there = apart (sym come.rule ∙ rule) (sym there ∙ board)
  by_root (Defend a) there = let some = sym moves ∙ there.2 in absurd cc

pub held-lines-win : HeldLinesWin
held-lines-win held is_held front r i qs begins root legal =
    let s : State = state_after (new_brain held) begins.before in
    let kept = session-lawful held (new_brain held) begins.before (new-lawful held) in
    let is = drawn-session (new_brain held) begins.before refl refl refl begins.no_end in
    let says : (brain_step s begins.line).reaction ≡ Says (Move begins.move) = moved_by (brain_step s begins.line).reaction begins.move
    (sym (answers-one s begins.line) ∙ same_front (answers_from (new_brain held) begins.before) _ _
    (sym (answers-append (new_brain held) begins.before (begins.line ∷ []) begins.no_end) ∙ begins.answered)) in
    let new = begins_anew s (drawing_of held begins.before) kept.0 is begins.move r.board begins.line says begins.position in
    let g : Game = new.game in
    let board : board_of g ≡ r.board = ap (board_after g.start) new.moves ∙ new.start in
    let rule : g.rule ≡ r.kind = same_Some _ _ (sym new.rule ∙ ap rule_of (sym is.wish) ∙ begins.rule) in
    let by = roots-begin_games held is_held begins.before begins.line g begins.earlier r begins.later begins.roots
    (λ k e low. elsewhere _ r g rule board new.moves (begins.first k e low)) new.chooses
    (none_followed held g new.followed) (record { rule = rule; there = subst (λ (x : Root). IsThere x r.board g) (sym root) board }) in
    let node : by.node ≡ i = subst (λ (x : Root). IsNodeOf x g by.node) root by.is_its in
    let Said : RuleKind → Grid → ℕ → Type 0 =
    λ k c j. AreReplies k c (attacks k held.table j c qs) qs → session_text (new_brain held) (front ++ turn_lines qs)
    ≡ answer_texts (answers_from (new_brain held) begins.before) ++ answer_texts (game_answers k held.table j c qs) in
    let said : Said g.rule (board_of g) by.node =
    replies-in_bytes held is_held front begins.before begins.line g by.node qs begins.whole begins.are begins.no_end by.begins in
    let Wins : HeldRoot → Type 0 = λ x. RootWinsGames x.kind held.table x.root x.board in
    let wins : Wins r =
    All-contains Wins (begins.earlier ++ r ∷ begins.later) r (subst (All Wins) begins.roots (whoever-holds_wins held is_held))
    (Contains-append_right begins.earlier (r ∷ begins.later) r (0, omega arith, refl)) in (
      subst (Said r.kind r.board) node
          (subst (λ (c : Grid). Said r.kind c by.node) board (subst (λ (k : RuleKind). Said k (board_of g) by.node) rule said)) legal,
      subst (λ (x : Root). RootWinsGames r.kind held.table x r.board) root wins qs legal,
    )
