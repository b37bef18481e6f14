-- Double threats: a move after which the attacker has two five points and the defender none.
use Rattle.std.specs.Prelude.{◌≡◌, ℕ, false, true, List}
use Rattle.game_rules.specs.Grid.{Grid}
use Rattle.game_rules.specs.Shapes.{five, is_same_point}
use Rattle.game_rules.specs.Play.{IsPosition, outcome, mover, after, other}
use Rattle.game_rules.specs.Games.{has_five}
use Rattle.game_rules.specs.declared.RuleKind.{RuleKind}
use Rattle.game_rules.specs.declared.Outcome.TheVariants.{GoesOn}
use Rattle.game_rules.specs.declared.Point.{Point}
use Rattle.strategy_graph.specs.declared.Node.{Node}
use Rattle.strategy_compiler.specs.Wins.{IsWrittenWin}
use Rattle.line_proof.specs.declared.doubles.DoubleThreat.{DoubleThreat}
use Rattle.line_proof.specs.declared.doubles.TwoFives.{TwoFives}

-- at e, where the defender is to move, it has no five point, and these are two of the attacker's
pub record AreOpen (rule : RuleKind) (e : Grid) (ends : TwoFives) : Type 0 where
  pub none : has_five rule e (mover e) ≡ false
  pub first : five rule e (other (mover e)) ends.first ≡ true
  pub second : five rule e (other (mover e)) ends.second ≡ true
  pub apart : is_same_point ends.first ends.second ≡ false

-- the attacker's move at d goes on and leaves these two five points, and the defender none
pub record LeavesTwoFives (rule : RuleKind) (d : Grid) (start : Point) (ends : TwoFives) : Type 0 where
  pub goes_on : outcome rule d start ≡ GoesOn
  pub open_ends : AreOpen rule (after d start) ends

-- The node of a double threat on boards of this size: it wins in two moves wherever it is one.
pub record IsDouble (width height : ℕ) (t : List Node) (d : DoubleThreat) : Type 0 where
  pub wins : (rule : RuleKind) (b : Grid) → b.width ≡ width → b.height ≡ height → IsPosition rule b → LeavesTwoFives rule b d.start d.ends
      → IsWrittenWin rule 2 b t (record { node = d.node; moves = 2 })
