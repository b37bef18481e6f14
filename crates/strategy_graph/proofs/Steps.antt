-- One step of acceptance, of arrivals and of a line to a fault, at a node and at a reply, and over the replies so
-- far: what a checker of tables needs.
use Rattle.std.proofs.Common.{◌≡◌, ℕ, suc, ◌≤◌, Bool, true, false, List, [], ◌∷◌, refl, ap, ◌∙◌, arith, Option, IsSomeAnd, Some, slice_get}
use Rattle.std.proofs.Common.{All, rules}
use Rattle.strategy_graph.proofs.Common.{Grid, is_on, points_of, is_same_point, outcome, after, LosesOr, RuleKind, Outcome, GoesOn, Point}
use Rattle.strategy_graph.proofs.Common.{Node, Why, Answers, answers_of, answer, is_winning, NamesLower, Meets, AcceptedNode, Accepted}
use Rattle.strategy_graph.proofs.Common.{arrivals_at, arrivals_after, arrivals_behind, arrivals_within, arrivals, attack_fault, Leads}
use Rattle.strategy_graph.proofs.Common.{LeadsStart}
use Rattle.game_rules.specs.declared.Foul.{Foul}
use Rattle.game_rules.specs.declared.Outcome.TheVariants.{Refused, Wins as WinsNow, Fouls}
use Rattle.game_rules.proofs.Points.{points-found, off_refused, is_same_point-itself}
use Rattle.game_rules.proofs.Outcomes.{if_goes_on-stops, if_goes_on-none}
use Rattle.game_rules.proofs.PointLists.{found_all}
use Rattle.strategy_graph.proofs.Fuel.{accepted-step, arrivals-step}

-- an arrival count is at least 1
pub arrivals-positive : (rule : RuleKind) (t : List Node) (i : ℕ) (b : Grid) → 1 ≤ arrivals rule t i b
unfolding arrivals_within
arrivals-positive rule t i b = omega arith

-- ---- at a node

module _ (rule : RuleKind) (t : List Node) (lower : NamesLower t) (i : ℕ) (b : Grid) (n : Node) (at : slice_get t i ≡ Some n) where
  accepted-at : Accepted rule t i b ≡ AcceptedNode rule (Some n) (Accepted rule t) b
  accepted-at = accepted-step t lower rule i b ∙ ap (λ (o : Option Node). AcceptedNode rule o (Accepted rule t) b) at

  arrivals-at : arrivals rule t i b ≡ suc (arrivals_behind rule (Some n) (arrivals rule t) b)
  arrivals-at = arrivals-step t lower rule i b ∙ ap (λ (o : Option Node). suc (arrivals_behind rule o (arrivals rule t) b)) at

  -- an attack that wins
  pub accepted-by-win : outcome rule b n.attack ≡ WinsNow → Accepted rule t i b
  accepted-by-win o = search (rules, accepted-at)

  -- an attack that goes on, of a node that is no winning one
  pub accepted-by-replies : outcome rule b n.attack ≡ GoesOn → is_winning n.rest ≡ false
      → ((q : Point) → Meets rule (answers_of n) (Accepted rule t) (after b n.attack) q) → Accepted rule t i b
  accepted-by-replies o r met = search (rules, accepted-at)

  -- the arrivals where the attack goes on, and where it does not
  pub arrivals-by-replies : outcome rule b n.attack ≡ GoesOn → is_winning n.rest ≡ false
      → arrivals rule t i b ≡ suc (arrivals_after rule (answers_of n) (arrivals rule t) (after b n.attack))
  arrivals-by-replies o r = arrivals-at ∙ rw (o, r) refl

  pub arrivals-one : (u : Outcome) → outcome rule b n.attack ≡ u → (u ≡ GoesOn → ⊥) → arrivals rule t i b ≡ 1
  arrivals-one u o stops = search (rules, arrivals-at, if_goes_on-stops)

  pub arrivals-winning : is_winning n.rest ≡ true → arrivals rule t i b ≡ 1
  arrivals-winning r = search (rules, arrivals-at, if_goes_on-none)

-- ---- at a reply

module _ (rule : RuleKind) (t : List Node) (a : Answers) (c : Grid) (q : Point) where
  met-by : (u : Outcome) (o : Option ℕ) → outcome rule c q ≡ u → answer a q ≡ o
      → LosesOr u (IsSomeAnd o (λ j. Accepted rule t j (after c q))) → Meets rule a (Accepted rule t) c q
  met-by u o e w h = rw (e, w) h

  -- a reply that is no move, or fouls, or goes on to where its answer is accepted, is met
  pub met-no_move : outcome rule c q ≡ Refused → Meets rule a (Accepted rule t) c q
  met-no_move e = met-by Refused (answer a q) e refl tt

  pub met-foul : (f : Foul) → outcome rule c q ≡ Fouls f → Meets rule a (Accepted rule t) c q
  met-foul f e = met-by (Fouls f) (answer a q) e refl tt

  pub met-answer : (j : ℕ) → outcome rule c q ≡ GoesOn → answer a q ≡ Some j → Accepted rule t j (after c q)
      → Meets rule a (Accepted rule t) c q
  met-answer j e w h = met-by GoesOn (Some j) e w h

  -- the arrivals behind a reply
  pub arrivals-answer : (j : ℕ) → outcome rule c q ≡ GoesOn → answer a q ≡ Some j
      → arrivals_at rule a (arrivals rule t) c q ≡ arrivals rule t j (after c q)
  arrivals-answer j e w = rw (e, w) refl

  pub arrivals-stops : (u : Outcome) → outcome rule c q ≡ u → (u ≡ GoesOn → ⊥) → arrivals_at rule a (arrivals rule t) c q ≡ 0
  arrivals-stops u e stops = search (rules, if_goes_on-stops)

-- ---- over the replies so far

-- once each point of the board is met as a reply, each reply is
pub met-all : (rule : RuleKind) (t : List Node) (a : Answers) (c : Grid) → All (λ q. Meets rule a (Accepted rule t) c q) (points_of c)
    → (q : Point) → Meets rule a (Accepted rule t) c q
met-all rule t a c all q = by_test (is_on c q) refl where
  by_test : (r : Bool) → is_on c q ≡ r → Meets rule a (Accepted rule t) c q
  by_test true on = found_all (λ q. Meets rule a (Accepted rule t) c q) q (points_of c) all
      (points-found c (is_same_point q) q on (is_same_point-itself q))
  by_test false off = met-no_move rule t a c q (off_refused rule c q off)

-- ---- lines to a fault

-- an attack with a fault
pub leads-attack : (rule : RuleKind) (t : List Node) (i : ℕ) (b : Grid) (n : Node) (why : Why) → slice_get t i ≡ Some n
    → attack_fault (outcome rule b n.attack) n.rest ≡ Some why → Leads rule t i b (n.attack ∷ []) why
unfolding Leads
leads-attack rule t i b n why at h = rw at (refl, h)

-- an attack that goes on, and a reply that leads to a fault
pub leads-reply : (rule : RuleKind) (t : List Node) (i : ℕ) (b : Grid) (n : Node) (q : Point) (line : List Point) (why : Why)
    → slice_get t i ≡ Some n → outcome rule b n.attack ≡ GoesOn → is_winning n.rest ≡ false
    → LeadsStart rule t (answers_of n) (after b n.attack) (q ∷ line) why → Leads rule t i b (n.attack ∷ q ∷ line) why
unfolding Leads
leads-reply rule t i b n q line why at o r h = rw at (refl, o, r, h)

-- a reply that goes on to where its answer leads to a fault
pub leads-answer : (rule : RuleKind) (t : List Node) (a : Answers) (c : Grid) (q : Point) (j : ℕ) (line : List Point) (why : Why)
    → outcome rule c q ≡ GoesOn → answer a q ≡ Some j → Leads rule t j (after c q) line why → LeadsStart rule t a c (q ∷ line) why
unfolding Leads
leads-answer rule t a c q j line why o w h = search rules
