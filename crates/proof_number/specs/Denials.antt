-- Denials: lists of positions that show that there is no win by threats.
use Rattle.std.specs.Prelude.{◌≡◌, ◌⊎◌, ℕ, ◌-◌, ◌≤◌, true, false, List, length, Contains}
use Rattle.game_rules.specs.Grid.{Grid}
use Rattle.game_rules.specs.Play.{outcome, mover, after}
use Rattle.game_rules.specs.Games.{WinsByFours, WinsByThreats, has_five}
use Rattle.game_rules.specs.declared.RuleKind.{RuleKind}
use Rattle.game_rules.specs.declared.Outcome.TheVariants.{GoesOn}
use Rattle.game_rules.specs.declared.Point.{Point}
use Rattle.four_search.specs.FourGame.{four_cost}
use Rattle.threat_game.specs.ThreatGame.{is_threat_move}
use Rattle.threat_game.specs.Attacks.{has_saving}
use Rattle.proof_number.specs.declared.denials.TheConstants.{FOUR_MOVES, FOUR_POSITIONS}

-- the side to move wins by continuous fours within 20 moves, and 50 positions are enough for the search of it
pub record WinsByFewFours (rule : RuleKind) (c : Grid) : Type 0 where
  pub wins : WinsByFours rule FOUR_MOVES c
  pub few : four_cost rule FOUR_MOVES c ≤ FOUR_POSITIONS

-- the attacker, with so many moves left, is at one of these positions, or has two moves left at most and no win by threats
abbrev pub IsDenied : RuleKind → (ℕ → Grid → Type 0) → ℕ → Grid → Type 0
IsDenied rule listed n b = listed n b ⊎ ((n ≤ 2) × (¬ WinsByThreats rule n b))

-- a reply goes on and leaves the attacker denied, with so many moves left
pub record HasDenyingReply (rule : RuleKind) (listed : ℕ → Grid → Type 0) (n : ℕ) (c : Grid) : Type 0 where
  pub reply : Point
  pub on : outcome rule c reply ≡ GoesOn
  pub denied : IsDenied rule listed n (after c reply)

-- what refutes the move that led to c: a reply wins or fills the board, few fours win, or a reply leaves the attacker denied
abbrev pub IsRefuted : RuleKind → (ℕ → Grid → Type 0) → ℕ → Grid → Type 0
IsRefuted rule listed n c = (has_saving rule c ≡ true) ⊎ WinsByFewFours rule c ⊎ HasDenyingReply rule listed n c

-- the attacker, with so many moves left, has no five point, and each of its moves of the game of threats is refuted
pub record IsLost (rule : RuleKind) (listed : ℕ → Grid → Type 0) (n : ℕ) (b : Grid) : Type 0 where
  pub no_five : has_five rule b (mover b) ≡ false
  pub refuted : (p : Point) → is_threat_move rule b p ≡ true → IsRefuted rule listed (n - 1) (after b p)

-- A denial: at most so many positions of the attacker, each with the moves that are left, all of them lost by the others. With n moves
-- left the attacker is denied at b.
pub record HasDenial (rule : RuleKind) (n : ℕ) (b : Grid) (most : ℕ) : Type 0 where
  pub positions : List (ℕ × Grid)
  pub lost : (m : ℕ) (c : Grid) → Contains positions (m, c) → IsLost rule (λ k d. Contains positions (k, d)) m c
  pub denied : IsDenied rule (λ k d. Contains positions (k, d)) n b
  pub few : length positions ≤ most
