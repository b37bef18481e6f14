-- Denials: what is lost by some positions is lost by more, and where there is a denial there is no win by threats.
use Rattle.std.proofs.Common.{rules, ◌≡◌, ◌∙◌, inl, inr, ℕ, zero, suc, ◌-◌, true, false, IsTrue, refl, sym, subst, arith}
use Rattle.std.proofs.Common.{Contains}
use Rattle.proof_number.proofs.Common.{RuleKind, Outcome, GoesOn, Grid, outcome, mover, after, has_five, has_threat, WinsByThreats}
use Rattle.proof_number.proofs.Common.{LosesToThreats, HasDenial, IsDenied, IsLost, IsRefuted}
use Rattle.game_rules.specs.declared.Outcome.TheVariants.{Wins}
use Rattle.game_rules.proofs.Common.{WinsOr}
use Rattle.game_rules.proofs.Games.{one-winner, win-has_five}
use Rattle.threat_game.proofs.AttackLaws.{saving-saves, threat-by}
use Rattle.proof_number.specs.declared.denials.TheConstants.{FOUR_MOVES}

-- ---- more positions

module _ (rule : RuleKind) (some more : ℕ → Grid → Type 0) (all : (n : ℕ) (b : Grid) → some n b → more n b) where
  pub denied-more : (n : ℕ) (b : Grid) → IsDenied rule some n b → IsDenied rule more n b
  denied-more n b h = search rules

  pub refuted-more : (n : ℕ) (c : Grid) → IsRefuted rule some n c → IsRefuted rule more n c
  refuted-more n c h = search (rules, denied-more)

  pub lost-more : (n : ℕ) (b : Grid) → IsLost rule some n b → IsLost rule more n b
  lost-more n b lost = record {
    no_five = lost.no_five;
    refuted = λ p threat. refuted-more (n - 1) (after b p) (lost.refuted p threat);
  }

-- ---- there is no win

-- what is refuted does not win, where the positions that are denied do not
refuted-loses : (rule : RuleKind) (listed : ℕ → Grid → Type 0) (n : ℕ) (c : Grid)
    → ((d : Grid) → IsDenied rule listed n d → WinsByThreats rule n d → ⊥) → IsRefuted rule listed n c → LosesToThreats rule n c → ⊥
refuted-loses rule listed n c later (inl saved) loses = saving-saves rule n c saved loses
refuted-loses rule listed n c later (inr (inl fours)) loses =
    one-winner (has_five rule) (has_threat rule) rule FOUR_MOVES n c fours.wins loses
refuted-loses rule listed n c later (inr (inr has)) loses = later (after c has.reply) has.denied
    (rw has.on at (loses has.reply))

lost-loses : (rule : RuleKind) (listed : ℕ → Grid → Type 0) (n : ℕ) (b : Grid)
    → ((d : Grid) → IsDenied rule listed n d → WinsByThreats rule n d → ⊥) → IsLost rule listed (suc n) b → WinsByThreats rule (suc n) b → ⊥
lost-loses rule listed n b later lost (p, win) = by_outcome (outcome rule b p) refl win where
  same : suc n - 1 ≡ n
  same = omega arith

  by_outcome : (o : Outcome) → outcome rule b p ≡ o → WinsOr o
      (IsTrue (has_threat rule (after b p) (mover b)) × LosesToThreats rule n (after b p)) → ⊥
  by_outcome Wins e w = let yes_five = win-has_five rule b p e in let bad : true ≡ false = sym yes_five ∙ lost.no_five in cc
  by_outcome GoesOn e w = refuted-loses rule listed n (after b p) later
      (subst (λ (k : ℕ). IsRefuted rule listed k (after b p)) same (lost.refuted p (threat-by rule b p e w.0))) w.1
  by_outcome _ e w = absurd w

-- where there is a denial there is no win by threats
pub denial-loses : (rule : RuleKind) (n : ℕ) (b : Grid) (most : ℕ) → HasDenial rule n b most → WinsByThreats rule n b → ⊥
denial-loses rule n b most has win = loses n b has.denied win where
  loses : (m : ℕ) (c : Grid) → IsDenied rule (λ k d. Contains has.positions (k, d)) m c → WinsByThreats rule m c → ⊥
  loses zero c denied win = absurd win
  loses (suc m) c (inl listed) win = lost-loses rule (λ k d. Contains has.positions (k, d)) m c (λ d denied w. loses m d denied w)
      (has.lost (suc m) c listed) win
  loses (suc m) c (inr few) win = few.1 win
