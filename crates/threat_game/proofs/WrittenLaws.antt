-- Wins that are judged, compiled: what is written of each is a win after its reply. Wins of one move as nodes of a table.
use Rattle.std.proofs.Common.{◌≡◌, ℕ, ◌≤◌, true, ap, subst, arith, List, zero, suc, [], rules}
use Rattle.game_rules.specs.declared.RuleKind.{RuleKind}
use Rattle.game_rules.specs.declared.Outcome.TheVariants.{GoesOn, Wins as WinsNow, Draws}
use Rattle.game_rules.specs.declared.Point.{Point}
use Rattle.game_rules.specs.declared.Outcome.{Outcome}
use Rattle.game_rules.proofs.Common.{Grid, five, IsPosition, outcome, mover, after, LosesOr, WinsByThreats}
use Rattle.game_rules.proofs.Positions.{IsPosition-after}
use Rattle.game_rules.proofs.Outcomes.{five-outcome}
use Rattle.game_rules.proofs.Games.{five-threats}
use Rattle.strategy_graph.specs.declared.Node.{Node}
use Rattle.strategy_graph.proofs.Soundness.{accepted-wins}
use Rattle.strategy_compiler.specs.declared.wins.WrittenWin.{WrittenWin}
use Rattle.strategy_compiler.proofs.Common.{IsWrittenWin, WinsAtOnce, WinsByAnswers}
use Rattle.strategy_compiler.proofs.Growing.{win-within}
use Rattle.threat_game.specs.declared.doubles.DoublePoint.{DoublePoint}
use Rattle.threat_game.specs.declared.replies.Judged.{Judged}
use Rattle.threat_game.specs.declared.replies.Judged.TheVariants.{Five, DoublePoint as DoubleWins, Last}
use Rattle.threat_game.proofs.Common.{IsDoubleWin, is_last_move, IsJudged, IsJudgedDouble, moves_for, IsThreatWin}
use Rattle.threat_game.proofs.AttackLaws.{last-goes_on, last-fouled, last-wins}

module _ (rule : RuleKind) (b : Grid) (q : Point) (on : outcome rule b q ≡ GoesOn) (judged : Judged)
    (is : IsJudged rule (after b q) judged) where
  pub five-settled : (w : Point) → judged ≡ Five w → IsPosition rule b → (t : List Node) (win : WrittenWin)
      → ((rule : RuleKind) (d : Grid) (moves : ℕ) → IsPosition rule d → five rule d (mover d) w ≡ true → 1 ≤ moves
      → IsThreatWin rule moves d t win)
      → (moves : ℕ) → moves_for judged ≤ moves → IsThreatWin rule moves (after b q) t win
  five-settled w e lawful t win says moves l =
      let here : IsJudged rule (after b q) (Five w) = subst (λ (j : Judged). IsJudged rule (after b q) j) e is in
      let least : moves_for judged ≡ 1 = ap moves_for e in
      says rule (after b q) moves (IsPosition-after rule b q lawful on) here (omega (arith, least, l))

  pub last-settled : (p : Point) → judged ≡ Last p → IsPosition rule b → (t : List Node) (win : WrittenWin)
      → ((rule : RuleKind) (d : Grid) (moves : ℕ) → IsPosition rule d → is_last_move rule d p ≡ true → 1 ≤ moves
      → IsThreatWin rule moves d t win)
      → (moves : ℕ) → moves_for judged ≤ moves → IsThreatWin rule moves (after b q) t win
  last-settled p e lawful t win says moves l =
      let here : IsJudged rule (after b q) (Last p) = subst (λ (j : Judged). IsJudged rule (after b q) j) e is in
      let least : moves_for judged ≡ 1 = ap moves_for e in
      says rule (after b q) moves (IsPosition-after rule b q lawful on) here (omega (arith, least, l))

  module _ (d : DoublePoint) (nodes : ℕ) (e : judged ≡ DoubleWins d nodes) where
    double-is : IsJudgedDouble rule (after b q) d nodes
    double-is = subst (λ (j : Judged). IsJudged rule (after b q) j) e is

    pub double-wins : IsDoubleWin rule (after b q) d
    double-wins = double-is.wins

    pub double-settled : (c : Grid) → c ≡ after b q → (t : List Node) (win : WrittenWin)
        → ((moves : ℕ) → 2 ≤ moves → IsThreatWin rule moves c t win) → (moves : ℕ) → moves_for judged ≤ moves
        → IsThreatWin rule moves (after b q) t win
    double-settled c played t win says moves l =
        let least : moves_for judged ≡ 2 = ap moves_for e in
        subst (λ (g : Grid). IsThreatWin rule moves g t win) played (says moves (omega (arith, least, l)))

-- a written win is one by threats, where there is a win by threats
pub threat-win : (rule : RuleKind) (t : List Node) (win : WrittenWin) (m n : ℕ) (b : Grid) → IsWrittenWin rule m b t win → m ≤ n
    → WinsByThreats rule n b → IsThreatWin rule n b t win
threat-win rule t win m n b won l wins = search (rules, win-within, accepted-wins)

-- ---- wins of one move

last-threats : (rule : RuleKind) (b : Grid) (p : Point) (n : ℕ) → is_last_move rule b p ≡ true → 1 ≤ n → WinsByThreats rule n b
last-threats rule b p zero h l = absurd (omega arith)
last-threats rule b p (suc n) h l = last-wins rule b p h n

-- the node of a five point, and that of a last move
pub five-written : (t : List Node) (i : ℕ) (w : Point) → WinsAtOnce w t i → (rule : RuleKind) (b : Grid) (n : ℕ) → IsPosition rule b
    → five rule b (mover b) w ≡ true → 1 ≤ n
    → IsThreatWin rule n b t (record { node = i; moves = 1 })
five-written t i w wins rule b n lawful h l = search (rules, threat-win, five-outcome, five-threats)

pub last-written : (old t : List Node) (i : ℕ) (p : Point) → WinsByAnswers old p [] t i → (rule : RuleKind) (b : Grid) (n : ℕ)
    → IsPosition rule b → is_last_move rule b p ≡ true → 1 ≤ n
    → IsThreatWin rule n b t (record { node = i; moves = 1 })
last-written old t i p wins rule b n lawful h l =
    threat-win rule t _ 1 n b
    (wins rule 0 b (last-goes_on rule b p h)
    (record {
      accepted = λ q. met (outcome rule (after b p) q) _
          (last-fouled rule b p h (λ c. ⊥) q);
      within = omega arith;
      on_board = tt;
      stay = tt;
    }))
    l (last-threats rule b p n h l) where
      met : (o : Outcome) (W : Type 0) → LosesOr o ⊥ → LosesOr o W
      met WinsNow W k = k
      met Draws W k = k
      met GoesOn W k = absurd k
      met _ W k = tt
