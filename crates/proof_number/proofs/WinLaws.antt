-- How many positions of the game of threats are won: at a position, behind its moves, and behind the replies.
use Rattle.std.proofs.Common.{◌≡◌, ℕ, zero, suc, ◌+◌, ◌≤◌, Bool, true, false, cond, ◌&&◌, not, refl, ap}
use Rattle.std.proofs.Common.{arith, List, [], ◌∷◌, map, filter, sum_by, All, rules}
use Rattle.std.specs.List.{list_any}
use Rattle.std.proofs.lemmas.List.Sums.{sum_by-cons, sum_by-le-sum_by}
use Rattle.proof_number.proofs.Common.{RuleKind, Outcome, GoesOn, Point, Grid, points_of, is_same_point, IsPosition, outcome, mover, after}
use Rattle.proof_number.proofs.Common.{goes_on, has_five, if_goes_on, behind_replies, has_threat, WinsByThreats}
use Rattle.proof_number.proofs.Common.{wins_by_threats, DoublePoint, Child, Judged, Five, Last, Open, IsDoubleWin, answer_nodes, one_if}
use Rattle.proof_number.proofs.Common.{IsJudged, is_open, moves_for, nodes_for, tried_moves, is_last_move, behind_threats, threat_wins}
use Rattle.game_rules.proofs.Common.{wins_under}
use Rattle.game_rules.proofs.Games.{WinsUnder-test, WinsUnder-more, WinsByFours-WinsByThreats, five-threats, test-WinsUnder}
use Rattle.game_rules.proofs.Outcomes.{goes_on-is, if_goes_on-one}
use Rattle.game_rules.proofs.PointLists.{filter-sum, sum-least}
use Rattle.game_rules.proofs.Positions.{GoesOn-on, IsPosition-after}
use Rattle.threat_game.specs.declared.replies.Judged.TheVariants.{DoublePoint as DoubleWins}
use Rattle.threat_game.proofs.Common.{is_safe_threat, IsChild, is_tried}
use Rattle.threat_game.proofs.AttackLaws.{last-wins}
use Rattle.threat_game.proofs.DoubleLaws.{double-lost, double-threats}
use Rattle.threat_game.proofs.TreeLaws.{double-threat, still-safe, tried-is}

-- ---- at a position

-- a position that is won is one
pub won-one : (rule : RuleKind) (n : ℕ) (b : Grid) → WinsByThreats rule n b → one_if (wins_by_threats rule n b) ≡ 1
won-one rule n b wins = ap one_if (WinsUnder-test (has_threat rule) rule n b wins)

-- it is one of the won positions, beside those behind its moves
pub wins-parts : (rule : RuleKind) (n : ℕ) (b : Grid)
    → threat_wins rule (suc n) b ≡ one_if (wins_by_threats rule (suc n) b) + behind_threats rule (threat_wins rule n) b
unfolding threat_wins
wins-parts rule n b = refl

none-won : (rule : RuleKind) (b : Grid) → one_if (wins_by_threats rule 0 b) ≡ 0
unfolding wins_under
none-won rule b = refl

pub wins-own : (rule : RuleKind) (n : ℕ) (b : Grid) → one_if (wins_by_threats rule n b) ≤ threat_wins rule n b
wins-own rule zero b = let none = none-won rule b in omega (arith, none)
wins-own rule (suc n) b = let parts = wins-parts rule n b in omega (arith, parts)

pub won-counts : (rule : RuleKind) (n : ℕ) (b : Grid) → WinsByThreats rule n b → 1 ≤ threat_wins rule n b
won-counts rule n b wins = let own = wins-own rule n b in let one = won-one rule n b wins in omega (arith, own, one)

pub last-counts : (rule : RuleKind) (n : ℕ) (b : Grid) (p : Point) → is_last_move rule b p ≡ true → 1 ≤ n → 1 ≤ threat_wins rule n b
last-counts rule zero b p last l = absurd (omega (arith, l))
last-counts rule (suc n) b p last l = won-counts rule (suc n) b (last-wins rule b p last n)

-- ---- within more moves

replies-more : (rule : RuleKind) (f g : Grid → ℕ) → ((c : Grid) → f c ≤ g c) → (c : Grid)
    → behind_replies rule f c ≤ behind_replies rule g c
replies-more rule f g more c = search (rules, sum_by-le-sum_by)

threats-more : (rule : RuleKind) (f g : Grid → ℕ) → ((c : Grid) → f c ≤ g c) → (b : Grid)
    → behind_threats rule f b ≤ behind_threats rule g b
threats-more rule f g more b =
    by_five (has_five rule b (mover b)) _ _ (sum_by-le-sum_by
    (λ p. cond (is_safe_threat rule b p) (behind_replies rule f (after b p)) 0)
    (λ p. cond (is_safe_threat rule b p) (behind_replies rule g (after b p)) 0) (points_of b)
    (λ p. by_safe (is_safe_threat rule b p) (behind_replies rule f (after b p)) (behind_replies rule g (after b p))
    (replies-more rule f g more (after b p)))) where
      by_safe : (r : Bool) (k l : ℕ) → k ≤ l → cond r k 0 ≤ cond r l 0
      by_safe true k l h = h
      by_safe false k l h = omega arith

      by_five : (r : Bool) (k l : ℕ) → k ≤ l → cond r 0 k ≤ cond r 0 l
      by_five true k l h = omega arith
      by_five false k l h = h

own-more : (rule : RuleKind) (n m : ℕ) (b : Grid) → n ≤ m → one_if (wins_by_threats rule n b) ≤ one_if (wins_by_threats rule m b)
own-more rule n m b few = search (rules, won-one, WinsUnder-more, test-WinsUnder)

-- no fewer are won
pub wins-more : (rule : RuleKind) (n m : ℕ) (b : Grid) → n ≤ m → threat_wins rule n b ≤ threat_wins rule m b
unfolding threat_wins
wins-more rule zero m b few = omega arith
wins-more rule (suc n) zero b few = absurd (omega (arith, few))
wins-more rule (suc n) (suc m) b few =
    let own = own-more rule (suc n) (suc m) b few in
    let rest = threats-more rule (threat_wins rule n) (threat_wins rule m) (λ c. wins-more rule n m c (omega (arith, few))) b in
    omega (arith, own, rest)

-- ---- behind the moves

module _ (rule : RuleKind) (n : ℕ) (b : Grid) (none : has_five rule b (mover b) ≡ false) where
  behind-all : behind_threats rule (threat_wins rule n) b
      ≡ sum_by (λ p. cond (is_safe_threat rule b p) (behind_replies rule (threat_wins rule n) (after b p)) 0) (points_of b)
  behind-all = ap (λ r. cond r 0
      (sum_by (λ p. cond (is_safe_threat rule b p) (behind_replies rule (threat_wins rule n) (after b p)) 0) (points_of b))) none

  -- the won positions behind the moves to be tried are no more than those of the game
  pub tried-wins : sum_by (λ p. behind_replies rule (threat_wins rule n) (after b p)) (tried_moves rule b)
      + one_if (wins_by_threats rule (suc n) b) ≤ threat_wins rule (suc n) b
  tried-wins =
      let few = filter-sum (is_tried rule b) (is_safe_threat rule b) (λ p. behind_replies rule (threat_wins rule n) (after b p))
      (λ p e. (tried-is rule b p e).is_safe) (points_of b) in
      omega (arith, wins-parts rule n b, behind-all, few)

-- two nodes at most answer the replies to a double point
pub answers-few : (rule : RuleKind) (b : Grid) (d : DoublePoint) → answer_nodes rule b d ≤ 2
answers-few rule b d = search rules

-- a reply on a point, and one beside it, are two of the replies
sum-two : (f : Point → ℕ) (g a : Point → Bool) → ((q : Point) → g q ≡ true → 1 ≤ f q) → (ps : List Point)
    → one_if (list_any (λ q. g q && a q) ps) + one_if (list_any (λ q. g q && not (a q)) ps) ≤ sum_by f ps
sum-two f g a low [] = omega arith
sum-two f g a low (p ∷ ps) = search (rules, sum_by-cons, sum-two f g a low ps)

module _ (rule : RuleKind) (b : Grid) (d : DoublePoint) (lawful : IsPosition rule b) (wins : IsDoubleWin rule b d)
    (none : has_five rule b (mover b) ≡ false) where
  -- each reply to a double point that wins leaves a won position
  reply-won : (n : ℕ) → 1 ≤ n → (q : Point) → goes_on (outcome rule (after b d.at) q) ≡ true
      → 1 ≤ threat_wins rule n (after (after b d.at) q)
  reply-won n l q on =
      let c : Grid = after (after b d.at) q in
      let fours = rw (goes_on-is (outcome rule (after b d.at) q) on) at (double-lost rule b d lawful wins q) in
      won-counts rule n c (WinsByFours-WinsByThreats rule n c (WinsUnder-more (has_five rule) rule 1 n c l fours))

  safe : is_safe_threat rule b d.at ≡ true
  safe = search (double-threat, still-safe)

  -- a win by a double point needs no more nodes than positions are won
  pub double-wins : (n : ℕ) → 2 ≤ n → 1 + answer_nodes rule b d ≤ threat_wins rule n b
  double-wins zero l = absurd (omega arith)
  double-wins (suc n) l =
      let c : Grid = after b d.at in
      let f : Point → ℕ = λ p. cond (is_safe_threat rule b p) (behind_replies rule (threat_wins rule n) (after b p)) 0 in
      let here : f d.at ≡ behind_replies rule (threat_wins rule n) c =
      ap (λ r. cond r (behind_replies rule (threat_wins rule n) c) 0) safe in
      let two = sum-two (λ q. if_goes_on (outcome rule c q) (threat_wins rule n (after c q))) (λ q. goes_on (outcome rule c q))
      (λ q. is_same_point q d.first)
      (λ q h. if_goes_on-one (outcome rule c q) (threat_wins rule n (after c q)) (reply-won n (omega (arith, l)) q h) h) (points_of c) in
      omega (
        arith,
        here,
        wins-parts rule n b,
        behind-all rule n b none,
        two,
        sum-least f b d.at (GoesOn-on rule b d.at wins.on),
        won-one rule (suc n) b (double-threats rule b d lawful wins (suc n) l),
      )

-- ---- behind the replies

-- no more nodes are compiled for what is judged than positions are won
judged-wins : (rule : RuleKind) (n : ℕ) (b : Grid) (judged : Judged) → IsPosition rule b → IsJudged rule b judged → moves_for judged ≤ n
    → nodes_for judged + cond (is_open judged) (threat_wins rule n b) 0 ≤ threat_wins rule n b
judged-wins rule n b (Five w) lawful is l = let one = won-counts rule n b (five-threats rule b w n is l) in omega (arith, one)
judged-wins rule n b (DoubleWins d nodes) lawful is l =
    let few = double-wins rule b d lawful is.wins is.no_five n l in omega (arith, few, is.nodes_are)
judged-wins rule n b (Last p) lawful is l = let one = last-counts rule n b p is l in omega (arith, one)
judged-wins rule n b Open lawful is l = omega arith

sum-at : (f : Child → ℕ) (g : Point → ℕ) → (items : List Child) → All (λ child. f child ≤ g child.at) items
    → sum_by f items ≤ sum_by g (map (λ child. child.at) items)
sum-at f g [] low = omega arith
sum-at f g (x ∷ items) low =
    let here = low 0 x (omega arith) in
    let rest = sum-at f g items (λ k d l. low (suc k) d (omega (arith, l))) in
    omega (arith, here, rest, sum_by-cons f x items, sum_by-cons g x.at (map (λ child. child.at) items))

-- what is no more at each child than the won positions there is no more in all
pub replies-within : (rule : RuleKind) (n : ℕ) (c : Grid) → IsPosition rule c → (f : Child → ℕ) (items : List Child)
    → map (λ child. child.at) items ≡ filter (λ q. goes_on (outcome rule c q)) (points_of c) → All (IsChild rule n c) items
    → ((child : Child) → f child ≡ nodes_for child.judged + cond (is_open child.judged) (threat_wins rule n (after c child.at)) 0)
    → sum_by f items ≤ behind_replies rule (threat_wins rule n) c
replies-within rule n c lawful f items points each is =
    let g : Point → Bool = λ q. goes_on (outcome rule c q) in
    let h : Point → ℕ = λ q. threat_wins rule n (after c q) in
    let own = sum-at f h items (λ k d l. child-few (each k d l)) in
    let listed : sum_by h (map (λ child. child.at) items) ≡ sum_by h (filter g (points_of c)) = ap (sum_by h) points in
    let all = filter-sum g g h (λ q e. e) (points_of c) in
    let counted = sum_by-le-sum_by (λ q. cond (g q) (h q) 0) (λ q. if_goes_on (outcome rule c q) (h q)) (points_of c)
    (λ q. same-count (outcome rule c q) (h q)) in
    omega (arith, own, listed, all, counted) where
      child-few : {child : Child} → IsChild rule n c child → f child ≤ threat_wins rule n (after c child.at)
      child-few {child = child} child_is =
          let few = judged-wins rule n (after c child.at) child.judged (IsPosition-after rule c child.at lawful child_is.on) child_is.judged
          child_is.enough in
          omega (arith, few, is child)

      same-count : (o : Outcome) (k : ℕ) → cond (goes_on o) k 0 ≤ if_goes_on o k
      same-count GoesOn k = omega arith
      same-count _ k = omega arith
