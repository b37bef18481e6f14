-- A text is that of one value, and nothing is said against the text of a lawful one.
use Rattle.std.proofs.Common.{rules, ◌≡◌, refl, sym, ◌∙◌, ℕ, List, [], ◌∷◌, ◌++◌, map, subst, ap, length, Some, None}
use Rattle.std.proofs.lemmas.List.{length-map}
use Rattle.text_lines.proofs.Badness.{front_bad}
use Rattle.position_files.proofs.BoardLines.{board-free, board-length}
use Rattle.position_files.proofs.AnswerLaws.{start_line-free}
use Rattle.position_files.proofs.Common.{Grid, RuleKind, refusal, PositionError, PositionFile, TableFile, HeadError, FileError, Unlawful}
use Rattle.position_files.proofs.Common.{WrongMoves, IsGameFault, GamesReadBack, IsTextOfGame, IsTextOfPosition, board_lines, IsTextOfTable}
use Rattle.position_files.proofs.Common.{node_line, start_line, IsPositionFault, IsTableFault, HeadsReadBack, NamesFirstBad}
use Rattle.position_files.proofs.Common.{NodesNameFirstBad, NodesReadBack, PositionsReadBack, StartsNameFirstBad, StartsReadBack}
use Rattle.position_files.proofs.Common.{TablesReadBack, AreNodeLines, IsBoardLines, IsSectionFault, IsStartLines, text_of, FirstBad}
use Rattle.position_files.proofs.Common.{GameFile}
use Rattle.game_rules.proofs.Common.{IsPosition}
use Rattle.strategy_graph.proofs.Common.{root_depth}
use Rattle.foul_judge.proofs.Lawfulness.{none_from_lawful}
use Rattle.position_files.specs.declared.error.HeadError.TheVariants.{BadLine as BadHead, Memory as NoRoom}
use Rattle.position_files.specs.declared.error.FileError.TheVariants.{BadLine, Memory}
use Rattle.text_lines.proofs.Common.{BeginsWith}
use Rattle.text_lines.proofs.TextLaws.{AreFree, text_of-cons}
use Rattle.text_lines.proofs.Leaving.{not_left}
use Rattle.position_files.proofs.SectionLaws.{one_head, one_list, one_start, start_text, node_lines-free}
use Rattle.position_files.proofs.PositionBad.{one_position}
use Rattle.position_files.proofs.TableTexts.{one_table}
use Rattle.position_files.specs.declared.error.GameError.{GameError}
use Rattle.position_files.specs.declared.error.GameError.TheVariants.{Memory as NoGame}
use Rattle.position_files.proofs.GameLaws.{one_game}

-- nothing is said against a lawful position
not-unlawful : (kind : RuleKind) (b : Grid) (why : PositionError) → IsPosition kind b → refusal kind b ≡ Some why → ⊥
not-unlawful kind b why lawful says = let no : None ≡ Some why = sym (none_from_lawful kind b lawful) ∙ says in cc

position-fault : (file : PositionFile) (bytes : List ℕ) → IsTextOfPosition file bytes → IsPosition file.kind file.board
    → (error : FileError) → IsPositionFault bytes error → error ≡ Memory
position-fault file bytes text lawful (BadLine n) h = absurd (h.no_further bytes (file, text) refl)
position-fault file bytes text lawful (Unlawful why) h = absurd (not-unlawful file.kind file.board why lawful (h.1 file text))
position-fault file bytes text lawful (WrongMoves written counted) h = absurd h
position-fault file bytes text lawful Memory h = refl

table-fault : (file : TableFile) (bytes : List ℕ) → IsTextOfTable file bytes → IsPosition file.kind file.board
    → file.moves ≡ root_depth file.table file.root → (error : FileError) → IsTableFault bytes error → error ≡ Memory
table-fault file bytes text lawful moves (BadLine n) h = absurd (h.no_further bytes (file, text) refl)
table-fault file bytes text lawful moves (Unlawful why) h = absurd (not-unlawful file.kind file.board why lawful (h.1 file text))
table-fault file bytes text lawful moves (WrongMoves written counted) h =
    let miscounted = h.1 file text in
    absurd (miscounted.differ (miscounted.says ∙ moves ∙ sym miscounted.depth))
table-fault file bytes text lawful moves Memory h = refl

-- the text of a lawful position is read back as that position
pub position-read-back : PositionsReadBack
position-read-back file bytes text lawful = search (rules, one_position, position-fault)

-- the text of a table at a lawful position, whose moves are the depth of its root, is read back as that table
pub table-read-back : TablesReadBack
table-read-back file bytes text lawful moves = search (rules, one_table, table-fault)

game-fault : (file : GameFile) (bytes : List ℕ) → IsTextOfGame file bytes → IsPosition file.kind file.board → (error : GameError)
    → IsGameFault bytes error → error ≡ NoGame
game-fault file bytes text lawful error h = search (rules, not-unlawful)

-- the text of a game from a lawful position is read back as that game
pub game-read-back : GamesReadBack
game-read-back file bytes text lawful = search (rules, one_game, game-fault)

-- ---- sections

section-fault : (IsLines : List (List ℕ) → Type 0) (ls : List (List ℕ)) (bytes rest : List ℕ) → IsLines ls → bytes ≡ text_of ls ++ rest
    → (error : HeadError) → IsSectionFault IsLines bytes error → error ≡ NoRoom
section-fault IsLines ls bytes rest are e (BadHead n) h = absurd (not_left IsLines ls bytes rest h.0 are e h.2)
section-fault IsLines ls bytes rest are e NoRoom h = refl

-- bytes that begin with a head are read as that head
pub head-read-back : HeadsReadBack
head-read-back head rest bytes is = record {
  no_other = λ other more there. one_head head other rest more bytes is there;
  no_fault = section-fault IsBoardLines (board_lines head.kind head.board) bytes rest (head.kind, head.board, is.board, refl) is.text;
}

-- bytes that begin with the lines of so many nodes are read as these nodes
pub nodes-read-back : NodesReadBack
nodes-read-back width height count found rest bytes wide high is = record {
  no_other = λ other more there. one_list width height wide high count found other rest more bytes is there;
  no_fault = section-fault (AreNodeLines width height count) (map node_line found) bytes rest (found, is.nodes, refl) is.text;
}

-- bytes that begin with the line of a start are read as that start
pub start-read-back : StartsReadBack
start-read-back width height below found rest bytes wide high is = record {
  no_other = λ other more there. one_start width height wide high below found other rest more bytes is there;
  no_fault = section-fault (IsStartLines width height below) (start_line found ∷ []) bytes rest (found, is.start, refl)
      (start_text found bytes rest is.text ∙ text_of-cons (start_line found) [] rest);
}

-- ---- the first bad line of a section

names_first : (IsLines : List (List ℕ) → Type 0) (m : ℕ) → ((ls : List (List ℕ)) → IsLines ls → AreFree ls)
    → ((ls : List (List ℕ)) → IsLines ls → length ls ≡ m) → NamesFirstBad IsLines
names_first IsLines m free count bytes n h = subst (FirstBad (BeginsWith IsLines) bytes) (sym h.1)
    (front_bad IsLines m free count bytes h.0 h.2)

pub heads-first-bad : NamesFirstBad IsBoardLines
heads-first-bad = names_first IsBoardLines 4 (λ ls is. subst AreFree (sym is.3) (board-free is.0 is.1 is.2))
    (λ ls is. ap length is.3 ∙ board-length is.0 is.1)

pub nodes-first-bad : NodesNameFirstBad
nodes-first-bad width height count wide high = names_first (AreNodeLines width height count) count
    (λ ls is. subst AreFree (sym is.2) (node_lines-free width height wide high is.0 is.1.fit))
    (λ ls is. ap length is.2 ∙ length-map is.0 node_line ∙ is.1.counted)

pub starts-first-bad : StartsNameFirstBad
starts-first-bad width height below wide high = names_first (IsStartLines width height below) 1
    (λ ls is. subst AreFree (sym is.2) (start_line-free width height wide high below is.0 is.1, tt)) (λ ls is. ap length is.2)
