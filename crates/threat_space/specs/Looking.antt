-- What a search finds that looks at lists of threats one after another, within a budget.
use Rattle.std.specs.Prelude.{ℕ, ◌-◌, ◌==◌, if◌then◌else◌, List, [], ◌∷◌, Option, Some, None}
use Rattle.game_rules.specs.declared.Point.{Point}
use Rattle.threat_moves.specs.declared.threat_list.Threat.{Threat}
use Rattle.threat_space.specs.declared.answer.SpaceAnswer.{SpaceAnswer}
use Rattle.threat_space.specs.declared.answer.SpaceAnswer.TheVariants.{Sequence as Answered, None as NoAnswer, Spent as OutOfBudget}
use Rattle.threat_space.specs.declared.walk.FoundInLists.{FoundInLists}
use Rattle.threat_space.specs.declared.walk.FoundInLists.TheVariants.{Sequence, NoSequence, Spent}

-- the list with its final point, if it has one, and else what is found later
abbrev pub found_or : List Threat → Option Point → FoundInLists → FoundInLists
found_or ts None later = later
found_or ts (Some f) later = Sequence ts f

-- what is found among these lists, looked at in their order, each for 1 of the budget
abbrev pub looked : (List Threat → Option Point) → ℕ → List (List Threat) → FoundInLists
looked final budget [] = NoSequence budget
looked final budget (ts ∷ lists) = if budget == 0 then Spent else found_or ts (final ts) (looked final (budget - 1) lists)

-- what is found where one goes on with what is left of the budget as long as nothing is found
abbrev pub looked_on : FoundInLists → (ℕ → FoundInLists) → FoundInLists
looked_on (Sequence ts f) later = Sequence ts f
looked_on (NoSequence left) later = later left
looked_on Spent later = Spent

-- the answer of the whole search
abbrev pub answer_of : FoundInLists → SpaceAnswer
answer_of (Sequence ts f) = Answered ts f
answer_of (NoSequence left) = NoAnswer
answer_of Spent = OutOfBudget
