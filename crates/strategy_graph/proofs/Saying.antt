-- What says the same as what says the same. Roots say the same as their table grows, and in a table that holds copies of their nodes.
use Rattle.std.proofs.Common.{rules, ◌≡◌, ◌↔◌, ℕ, ◌<◌, true, List, ◌++◌, length, refl, ◌∙◌, Option, Some, None, nat_lt, option_map}
use Rattle.std.proofs.Common.{ltb-true}
use Rattle.strategy_graph.proofs.Common.{Node, Root, Answers, AnswersSaySame, NamesLower, RootSaysSame, SaysSame, StartSaysSame, answer}
use Rattle.strategy_graph.proofs.Common.{root_below, renumbered_root, root_depth}
use Rattle.strategy_graph.specs.declared.roots.Root.TheVariants.{Attack, Defend}
use Rattle.strategy_graph.proofs.Answering.{answer-below, answer-named}
use Rattle.strategy_graph.proofs.Copies.{Copies, answer-renumbered}
use Rattle.strategy_graph.proofs.Filling.{growth-same, growth-same-start}
use Rattle.strategy_graph.proofs.Renumbering.{copies-same, copies-same-start}

pub iff-then : {A B C : Type 0} → A ↔ B → B ↔ C → A ↔ C
iff-then f g = (λ a. g.0 (f.0 a), λ c. f.1 (g.1 c))

pub same-then : (t u v : List Node) (i j k : ℕ) → SaysSame t i u j → SaysSame u j v k → SaysSame t i v k
same-then t u v i j k f g = search (rules, iff-then)

pub start-then : (t u v : List Node) (a c e : Answers) → StartSaysSame t a u c → StartSaysSame u c v e → StartSaysSame t a v e
start-then t u v a c e f g = record {
  same_depth = g.same_depth ∙ f.same_depth;
  same_accepted = λ rule b. iff-then (g.same_accepted rule b) (f.same_accepted rule b);
  same_arrivals = λ rule b. g.same_arrivals rule b ∙ f.same_arrivals rule b;
  same_leads = λ rule b line why. iff-then (g.same_leads rule b line why) (f.same_leads rule b line why);
}

-- ---- roots

-- a root that says the same has the same depth
pub root-deep : (t u : List Node) (r s : Root) → RootSaysSame t r u s → root_depth u s ≡ root_depth t r
root-deep t u r s h = search rules

-- what the second root says with a table, it says with a longer one
module _ (t u more : List Node) (lower : NamesLower u) where
  answers-grown : (o p : Option ℕ) → ((j : ℕ) → p ≡ Some j → j < length u) → AnswersSaySame t o u p → AnswersSaySame t o (u ++ more) p
  answers-grown None None inside h = tt
  answers-grown None (Some j) inside h = absurd h
  answers-grown (Some i) None inside h = absurd h
  answers-grown (Some i) (Some j) inside h = same-then t u (u ++ more) i j j h (growth-same u more lower j (inside j refl))

  pub root-grown : (r s : Root) → root_below s (length u) ≡ true → RootSaysSame t r u s → RootSaysSame t r (u ++ more) s
  root-grown (Attack i) (Attack j) below h = same-then t u (u ++ more) i j j h (growth-same u more lower j (ltb-true _ _ below))
  root-grown (Attack i) (Defend c) below h = absurd h
  root-grown (Defend a) (Attack j) below h = absurd h
  root-grown (Defend a) (Defend c) below h = (
    start-then t u (u ++ more) a c c h.0 (growth-same-start u more lower c below),
    λ q. answers-grown (answer a q) (answer c q) (λ j e. answer-below c (length u) q j below e) (h.1 q),
  )

-- a root of a table has the same depth in a longer one
pub root-longer : (t more : List Node) → NamesLower t → (root : Root) → root_below root (length t) ≡ true
    → root_depth (t ++ more) root ≡ root_depth t root
root-longer t more lower root below = search (rules, growth-same, ltb-true, growth-same-start)

-- a root with the numbers of the copies says what the root says
module _ (f : ℕ → ℕ) (k : ℕ) (t u : List Node) (copies : Copies f (λ j. nat_lt j k) t u) (lower : NamesLower t)
    (lower' : NamesLower u) where
  answers-copied : (o : Option ℕ) → ((j : ℕ) → o ≡ Some j → nat_lt j k ≡ true) → AnswersSaySame t o u (option_map f o)
  answers-copied o passes = search (rules, copies-same)

  pub root-copied : (root : Root) → root_below root k ≡ true → RootSaysSame t root u (renumbered_root f root)
  root-copied root below = search (rules, copies-same, copies-same-start, answer-renumbered, answers-copied, answer-named)
