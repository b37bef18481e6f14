-- What the finder knows of one move, and of the moves up to one.
use Rattle.std.specs.Prelude.{◌≡◌, ℕ, ◌≤◌, Bool, true, false, List, [], ◌∷◌, ◌++◌, map, Option, Some, None}
use Rattle.std.specs.List.{filter, find, AllByRecursion}
use Rattle.game_rules.specs.Grid.{Grid}
use Rattle.game_rules.specs.declared.RuleKind.{RuleKind}
use Rattle.game_rules.specs.declared.Point.{Point}
use Rattle.strategy_graph.specs.declared.Reply.{Reply}
use Rattle.strategy_graph.specs.declared.Node.{Node}
use Rattle.strategy_compiler.specs.Replies.{IsBeatenBy}
use Rattle.game_rules.specs.Play.{mover, other}
use Rattle.game_rules.specs.Games.{five_points}
use Rattle.four_search.specs.declared.TheConstants.{MAX_DEPTH}
use Rattle.defence_finder.specs.declared.finder.DefenceAnswer.{DefenceAnswer}
use Rattle.defence_finder.specs.declared.finder.DefenceAnswer.TheVariants.{Known, Spent as SpentAt}
use Rattle.defence_finder.specs.declared.finder.Found.{Found}
use Rattle.defence_finder.specs.declared.finder.Question.{Question}
use Rattle.defence_finder.specs.declared.finder.Verdict.{Verdict}
use Rattle.defence_finder.specs.declared.finder.Verdict.TheVariants.{NoReply, Holds, Beaten, Spent}
use Rattle.defence_finder.specs.Answers.{AreBeaten, IsPlanned}
use Rattle.defence_finder.specs.Defences.{is_defence, is_beaten, is_spent, defences_of, beaten_of, first_spent}

-- the budget suffices after the move q, and whether it is a defence, and whether it is beaten, is so
pub record IsSettled (rule : RuleKind) (n budget : ℕ) (b : Grid) (q : Point) (defence beaten : Bool) : Type 0 where
  pub enough : is_spent rule n budget b q ≡ false
  pub defence_is : is_defence rule n b q ≡ defence
  pub beaten_is : is_beaten rule n b q ≡ beaten

-- what is said of the move q is so
abbrev pub IsVerdict : RuleKind → ℕ → ℕ → Grid → List Node → Point → Verdict → Type 0
IsVerdict rule n budget b t q NoReply = IsSettled rule n budget b q false false
IsVerdict rule n budget b t q Holds = IsSettled rule n budget b q true false
IsVerdict rule n budget b t q (Beaten i) = IsSettled rule n budget b q false true × IsBeatenBy rule n b t (record { at = q; next = i })
    × IsPlanned rule n b t (record { at = q; next = i })
IsVerdict rule n budget b t q Spent = is_spent rule n budget b q ≡ true

-- these are the defences and the beaten moves but for those among the points that are left, and so far the budget sufficed
pub record AreFound (rule : RuleKind) (n budget : ℕ) (b : Grid) (t : List Node) (good : List Point) (bad : List Reply)
    (left : List Point) : Type 0 where
  pub good_are : good ++ filter (is_defence rule n b) left ≡ defences_of rule n b
  pub bad_are : map (λ r. r.at) bad ++ filter (is_beaten rule n b) left ≡ beaten_of rule n b
  pub each : AllByRecursion (IsBeatenBy rule n b t) bad
  pub planned : AllByRecursion (IsPlanned rule n b t) bad
  pub enough : find (is_spent rule n budget b) left ≡ first_spent rule n budget b

-- what is asked of each move at b, with the five points of the other side
pub record IsAsked (rule : RuleKind) (b : Grid) (question : Question) : Type 0 where
  pub some_depth : 1 ≤ question.depth
  pub depth_fits : question.depth ≤ MAX_DEPTH
  pub some_budget : 1 ≤ question.budget
  pub fives : question.fives ≡ five_points rule b (other (mover b))

-- the move is added where it belongs by what is known of it
abbrev pub IsAdded : Found → Found → Point → Verdict → Type 0
IsAdded old new q NoReply = new ≡ old
IsAdded old new q Holds = (new.good ≡ old.good ++ q ∷ []) × (new.bad ≡ old.bad)
IsAdded old new q (Beaten i) = (new.good ≡ old.good) × (new.bad ≡ old.bad ++ (record { at = q; next = i }) ∷ [])
IsAdded old new q Spent = Unit {0}

-- the walk over all points found these moves, or the first after which the budget does not suffice
abbrev pub IsWalked : RuleKind → ℕ → ℕ → Grid → List Node → Found → Option Point → Type 0
IsWalked rule n budget b t found None = AreFound rule n budget b t found.good found.bad []
IsWalked rule n budget b t found (Some q) = Some q ≡ first_spent rule n budget b

-- what is told of the moves at b is so
abbrev pub IsToldAt : RuleKind → ℕ → ℕ → Grid → List Node → DefenceAnswer → Type 0
IsToldAt rule n budget b t (Known good bad) = (good ≡ defences_of rule n b) × AreBeaten rule n b t bad
    × (None ≡ first_spent rule n budget b)
IsToldAt rule n budget b t (SpentAt q) = Some q ≡ first_spent rule n budget b
