-- One move of a line.
use Rattle.std.proofs.Common.{◌≡◌, ℕ, zero, suc, ◌+◌, ◌-◌, ◌≤◌, Bool, true, false, cond, refl, sym, ap, subst, ◌∙◌, arith, List, min}
use Rattle.std.proofs.Common.{Option, Result, Ok, Err, IfOk, OnOk}
use Rattle.game_rules.proofs.Common.{Grid, points_of, five, mover, LosesOr, has_five, wins_by_fours}
use Rattle.game_rules.specs.declared.RuleKind.{RuleKind}
use Rattle.game_rules.specs.declared.Outcome.{Outcome}
use Rattle.game_rules.specs.declared.Point.{Point}
use Rattle.game_rules.proofs.Points.{any_witness}
use Rattle.game_rules.proofs.Games.{each_reply, five-wins}
use Rattle.game_rules.proofs.Outcomes.{five-outcome}
use Rattle.threat_moves.specs.declared.threat_list.Threat.{Threat}
use Rattle.strategy_graph.specs.declared.Node.{Node}
use Rattle.strategy_compiler.proofs.Common.{GrowsBy, IsCompiled, Writes}
use Rattle.line_proof.specs.declared.proof.LineAnswer.{LineAnswer}
use Rattle.line_proof.specs.Answers.{IsTold}
use Rattle.line_proof.specs.Lines.{line_wins, line_tree, line_move, each_loses, block_of, block_or_gain, move_wins, behind_line_move}

module _ (rule : RuleKind) (ts : List Threat) (b : Grid) where
  pub no_moves-wins : line_wins rule ts 0 b ≡ false
  unfolding line_wins
  no_moves-wins = refl

  -- two fours win
  pub quick-wins : (n : ℕ) → 1 ≤ n → wins_by_fours rule (min n 2) b ≡ true → line_wins rule ts n b ≡ true
  unfolding line_wins
  quick-wins zero l h = absurd (omega arith)
  quick-wins (suc n) l h = ap (λ r. cond r true (move_wins rule b (λ ts. line_wins rule ts n) (line_move rule ts b))) h

  pub quick-tree : (n : ℕ) → 1 ≤ n → wins_by_fours rule (min n 2) b ≡ true → line_tree rule ts n b ≡ 4
  unfolding line_tree
  quick-tree zero l h = absurd (omega arith)
  quick-tree (suc n) l h = ap (λ r. cond r 4 (1 + behind_line_move rule b (λ ts. line_tree rule ts n) (line_move rule ts b))) h

  -- where they do not, the move of the line decides
  pub slow-wins : (n : ℕ) → 1 ≤ n → wins_by_fours rule (min n 2) b ≡ false
      → line_wins rule ts n b ≡ move_wins rule b (λ ts. line_wins rule ts (n - 1)) (line_move rule ts b)
  unfolding line_wins
  slow-wins zero l h = absurd (omega arith)
  slow-wins (suc n) l h =
      let less : n ≡ suc n - 1 = omega arith in
      ap (λ r. cond r true (move_wins rule b (λ ts. line_wins rule ts n) (line_move rule ts b))) h
      ∙ ap (λ (k : ℕ). move_wins rule b (λ ts. line_wins rule ts k) (line_move rule ts b)) less

  pub slow-tree : (n : ℕ) → 1 ≤ n → wins_by_fours rule (min n 2) b ≡ false
      → line_tree rule ts n b ≡ 1 + behind_line_move rule b (λ ts. line_tree rule ts (n - 1)) (line_move rule ts b)
  unfolding line_tree
  slow-tree zero l h = absurd (omega arith)
  slow-tree (suc n) l h =
      let less : n ≡ suc n - 1 = omega arith in
      ap (λ r. cond r 4 (1 + behind_line_move rule b (λ ts. line_tree rule ts n) (line_move rule ts b))) h
      ∙ ap (λ (k : ℕ). 1 + behind_line_move rule b (λ ts. line_tree rule ts k) (line_move rule ts b)) less

  -- by the block that was asked for
  pub move-wins : (n : ℕ) (o : Option Point) → 1 ≤ n → o ≡ block_of rule b → wins_by_fours rule (min n 2) b ≡ false
      → move_wins rule b (λ ts. line_wins rule ts (n - 1)) (block_or_gain o ts) ≡ line_wins rule ts n b
  move-wins n o some block slow =
      ap (λ (o : Option Point). move_wins rule b (λ ts. line_wins rule ts (n - 1)) (block_or_gain o ts)) block ∙ sym (slow-wins n some slow)

  pub move-tree : (n : ℕ) (o : Option Point) → 1 ≤ n → o ≡ block_of rule b → wins_by_fours rule (min n 2) b ≡ false
      → 1 + behind_line_move rule b (λ ts. line_tree rule ts (n - 1)) (block_or_gain o ts) ≡ line_tree rule ts n b
  move-tree n o some block slow =
      ap (λ (o : Option Point). 1 + behind_line_move rule b (λ ts. line_tree rule ts (n - 1)) (block_or_gain o ts)) block
      ∙ sym (slow-tree n some slow)

  -- what is told by the move of the line is told of the line
  pub told-move : {E : Type 0} (n : ℕ) (o : Option Point) → 1 ≤ n → o ≡ block_of rule b → wins_by_fours rule (min n 2) b ≡ false
      → (t : List Node) (r : Result LineAnswer E)
      → IfOk r (IsTold rule (suc (n - 1)) b t (move_wins rule b (λ ts. line_wins rule ts (n - 1)) (block_or_gain o ts)))
      → IfOk r (IsTold rule n b t (line_wins rule ts n b))
  told-move n o some block slow t r told =
      let all : suc (n - 1) ≡ n = omega (arith, some) in
      subst (λ (w : Bool). IfOk r (IsTold rule n b t w)) (move-wins n o some block slow)
      (subst (λ (k : ℕ). IfOk r (IsTold rule k b t (move_wins rule b (λ ts. line_wins rule ts (n - 1)) (block_or_gain o ts)))) all told)

  -- two fours need no more nodes than the line
  pub quick-most : (n : ℕ) → 1 ≤ n → cond (wins_by_fours rule (min n 2) b) 4 0 ≤ line_tree rule ts n b
  quick-most n some = by_test (wins_by_fours rule (min n 2) b) refl where
    by_test : (r : Bool) → wins_by_fours rule (min n 2) b ≡ r → cond r 4 0 ≤ line_tree rule ts n b
    by_test true e = let tree = quick-tree n some e in omega (arith, tree)
    by_test false e = omega arith

-- a double threat and a five point need no more nodes than what is searched in their place
module _ (rule : RuleKind) (b : Grid) where
  pub double-quick : (n : ℕ) → 2 ≤ n → wins_by_fours rule 2 b ≡ true → wins_by_fours rule (min n 2) b ≡ true
  double-quick n l h = let two : min n 2 ≡ 2 = omega arith in ap (λ (k : ℕ). wins_by_fours rule k b) two ∙ h

  pub double-few : (n : ℕ) → 2 ≤ n → cond (wins_by_fours rule 2 b) 3 0 ≤ cond (wins_by_fours rule (min n 2) b) 4 0
  double-few n l = by_test (wins_by_fours rule 2 b) refl where
    by_test : (r : Bool) → wins_by_fours rule 2 b ≡ r → cond r 3 0 ≤ cond (wins_by_fours rule (min n 2) b) 4 0
    by_test true e = let wins = ap {B = ℕ} (λ (r : Bool). cond r 4 0) (double-quick n l e) in omega (arith, wins)
    by_test false e = omega arith

  pub five-quick : (n : ℕ) → 1 ≤ n → has_five rule b (mover b) ≡ true → wins_by_fours rule (min n 2) b ≡ true
  five-quick n l h =
      let e : suc (min n 2 - 1) ≡ min n 2 = omega (arith, l) in
      ap (λ (k : ℕ). wins_by_fours rule k b) (sym e) ∙ five-wins rule b (min n 2 - 1) h

  pub five-few : (n : ℕ) → 1 ≤ n → cond (has_five rule b (mover b)) 1 0 ≤ cond (wins_by_fours rule (min n 2) b) 4 0
  five-few n l = by_test (has_five rule b (mover b)) refl where
    by_test : (r : Bool) → has_five rule b (mover b) ≡ r → cond r 1 0 ≤ cond (wins_by_fours rule (min n 2) b) 4 0
    by_test true e = let wins = ap {B = ℕ} (λ (r : Bool). cond r 4 0) (five-quick n l e) in omega (arith, wins)
    by_test false e = omega arith

-- nodes that were written before are those of a call that had an answer
pub writes-grown : {A : Type 0} (old new : List Node) (k : ℕ) (x : A) → GrowsBy old new k → IsCompiled new → Writes old new k (Ok x)
writes-grown old new k x grows compiled =
    record { grows = grows; compiled = compiled; full = λ h. cc; full_now = λ h. cc }

-- what holds whatever is answered
pub on-ok : {A E P : Type 0} (r : Result A E) → P → OnOk r P
on-ok (Ok a) p = p
on-ok (Err e) p = tt

-- ---- the first of those that pass

-- where the side to move has a five point, not each of its moves loses
pub five-refutes : (rule : RuleKind) (c : Grid) (won : Grid → Bool) → has_five rule c (mover c) ≡ true → each_loses rule c won ≡ false
five-refutes rule c won some = by_test (each_loses rule c won) refl where
  by_test : (r : Bool) → each_loses rule c won ≡ r → r ≡ false
  by_test false e = refl
  by_test true e =
      let x = any_witness (five rule c (mover c)) (points_of c) some in
      absurd (subst (λ (o : Outcome). LosesOr o (Unit {0})) (five-outcome rule c x.0 x.1)
      (each_reply rule c won (λ d. Unit {0}) (λ d h. tt) e x.0))
