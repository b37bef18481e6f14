-- The laws of images, from those of turns.
use Rattle.std.proofs.Common.{◌≡◌, ℕ, true, ap, refl, List, [], ◌∷◌, map, Some}
use Rattle.std.specs.List.{list_all}
use Rattle.board_symmetry.proofs.Common.{Grid, IsBoard, is_on, Answers, IsTable, TableOnBoard, RepliesOn, Node, RuleKind, Point}
use Rattle.board_symmetry.proofs.Common.{board_image, fits, point_image, root_image, table_image, root_game, KeepsMoves, KeepsWins}
use Rattle.board_symmetry.proofs.Common.{KeepsNode, KeepsStart, ImagesKeepPositions, ImagesKeepRoots, Symmetry}
use Rattle.game_rules.proofs.Common.{has_five, has_threat}
use Rattle.strategy_graph.proofs.Common.{IsStart}
use Rattle.strategy_graph.specs.declared.roots.Root.TheVariants.{Attack, Defend}
use Rattle.board_symmetry.proofs.Eight.{turn_of}
use Rattle.board_symmetry.proofs.BoardImages.{image_turned}
use Rattle.board_symmetry.proofs.TurnedOutcomes.{outcome-same, foul-same}
use Rattle.board_symmetry.proofs.TurnedPositions.{position-same}
use Rattle.board_symmetry.proofs.TurnedWins.{wins-same, wins_after-same, asks_nothing, asks_five, asks_threat}
use Rattle.board_symmetry.proofs.TurnedTables.{accepted-same, accepted_start-same, arrivals-same, start_arrivals-same, game-same}
use Rattle.board_symmetry.proofs.TurnedTables.{answer-same, answer_at-same, depth-same, start_depth-same, start_game-same}
use Rattle.board_symmetry.proofs.ImageGroup.{names_sized}

module _ (s : Symmetry) (b : Grid) (ok : IsBoard b) (fit : fits s b.width b.height ≡ true) where
  pub keeps_moves : KeepsMoves s b
  keeps_moves = record {
    same_outcome = λ rule p on. outcome-same b.width b.height _ _ (turn_of s b.width b.height fit) b.cells _
        (image_turned s b ok fit) rule p on;
    same_foul = λ rule side p on. foul-same b.width b.height _ _ (turn_of s b.width b.height fit) b.cells _
        (image_turned s b ok fit) rule p on side;
  }

  pub keeps_wins : KeepsWins s b
  keeps_wins =
      let turn = turn_of s b.width b.height fit in
      let turned = image_turned s b ok fit in
      record {
        same_win = λ rule n. wins-same b.width b.height _ _ turn (λ c side. true)
            (asks_nothing b.width b.height _ _ turn) rule n b.cells _ turned;
        same_win_by_fours = λ rule n. wins-same b.width b.height _ _ turn (has_five rule)
            (asks_five b.width b.height _ _ turn rule) rule n b.cells _ turned;
        same_win_by_threats = λ rule n. wins-same b.width b.height _ _ turn (has_threat rule)
            (asks_threat b.width b.height _ _ turn rule) rule n b.cells _ turned;
        same_win_after = λ rule n. wins_after-same b.width b.height _ _ turn rule n b.cells _ turned;
      }

  module _ (t : List Node) (table : IsTable t) (on : TableOnBoard b t) where
    pub keeps_node : (i : ℕ) → KeepsNode s b t i
    keeps_node i =
        let turn = turn_of s b.width b.height fit in
        let turned = image_turned s b ok fit in
        let named = names_sized b t on in
        record {
          same_depth = depth-same b.width b.height _ _ turn t table named i;
          same_accepted = λ rule. accepted-same b.width b.height _ _ turn rule t named i b.cells _ turned;
          same_arrivals = λ rule. arrivals-same b.width b.height _ _ turn rule t named i b.cells _ turned;
          same_answer = λ q on_q. answer_at-same b.width b.height _ _ turn t i q on_q;
          same_game = λ rule qs all. game-same b.width b.height _ _ turn rule t named i b.cells _ qs turned all;
        }

    pub keeps_start : (a : Answers) → IsStart a → RepliesOn b a.replies → KeepsStart s b t a
    keeps_start a start listed =
        let turn = turn_of s b.width b.height fit in
        let turned = image_turned s b ok fit in
        let named = names_sized b t on in
        record {
          same_depth = start_depth-same b.width b.height _ _ turn t table named a start.rising listed;
          same_accepted = λ rule. accepted_start-same b.width b.height _ _ turn rule t named a b.cells _ turned;
          same_arrivals = λ rule. start_arrivals-same b.width b.height _ _ turn rule t named a b.cells _ turned;
          same_answer = λ q on_q. answer-same b.width b.height _ _ turn a q on_q;
          same_game = λ rule q qs all. start_game-same b.width b.height _ _ turn rule t named a b.cells _ q qs turned all;
        }

pub keeps_positions : ImagesKeepPositions
keeps_positions s b ok fit rule = position-same b.width b.height _ _ (turn_of s b.width b.height fit) b.cells _
    (image_turned s b ok fit) rule

pub keeps_root : ImagesKeepRoots
keeps_root s b ok fit t table on (Attack i) is listed =
    let node = keeps_node s b ok fit t table on i in
    record {
      same_depth = node.same_depth;
      same_accepted = node.same_accepted;
      same_arrivals = node.same_arrivals;
      same_answer = node.same_answer;
      same_game = λ rule qs all. ap Some (node.same_game rule qs all);
      same_claim = (keeps_wins s b ok fit).same_win;
    }
keeps_root s b ok fit t table on (Defend a) is listed =
    let start = keeps_start s b ok fit t table on a is listed in
    record {
      same_depth = start.same_depth;
      same_accepted = start.same_accepted;
      same_arrivals = start.same_arrivals;
      same_answer = start.same_answer;
      same_game = games start;
      same_claim = (keeps_wins s b ok fit).same_win_after;
    } where
      games : KeepsStart s b t a → (rule : RuleKind) (qs : List Point) → list_all (is_on b) qs ≡ true
          → root_game rule (table_image s b.width b.height t) (root_image s b.width b.height (Defend a)) (board_image s b)
          (map (point_image s b.width b.height) qs) ≡ root_game rule t (Defend a) b qs
      games kept rule [] all = refl
      games kept rule (q ∷ qs) all = kept.same_game rule q qs all
