-- What is seen at the first position of a search.
use Rattle.std.specs.Prelude.{◌≡◌, true, false, List}
use Rattle.game_rules.specs.Grid.{Grid}
use Rattle.game_rules.specs.Play.{mover, other}
use Rattle.game_rules.specs.Games.{has_five, five_points}
use Rattle.game_rules.specs.declared.RuleKind.{RuleKind}
use Rattle.row_shapes.specs.FivePoints.{in_short}
use Rattle.row_shapes.specs.declared.fives.FivePoints.{FivePoints}
use Rattle.four_search.specs.FourPoints.{four_points_of}
use Rattle.four_search.specs.declared.four_points.FourPoint.{FourPoint}
use Rattle.four_search.specs.declared.root.Root.{Root}
use Rattle.four_search.specs.declared.root.Root.TheVariants.{Five, NoFive}

-- the attacker has no five point; these are the defender's in short, and the points that make one for the attacker
pub record TellsNoFive (rule : RuleKind) (b : Grid) (threat : FivePoints) (four_points : List FourPoint) : Type 0 where
  pub none : has_five rule b (mover b) ≡ false
  pub told : threat ≡ in_short (five_points rule b (other (mover b)))
  pub listed : four_points ≡ four_points_of rule b

-- what is seen is so at b
abbrev pub TellsRoot : RuleKind → Grid → Root → Type 0
TellsRoot rule b Five = has_five rule b (mover b) ≡ true
TellsRoot rule b (NoFive threat four_points) = TellsNoFive rule b threat four_points.items
