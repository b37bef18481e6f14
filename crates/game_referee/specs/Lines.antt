-- The line that tells a verdict.
use Rattle.std.specs.Prelude.{ℕ, List, ◌∷◌, ◌++◌, codes}
use Rattle.std.specs.Fmt.{decimal}
use Rattle.game_rules.specs.declared.Side.{Side}
use Rattle.game_rules.specs.declared.Side.TheVariants.{Black, White}
use Rattle.game_rules.specs.declared.Foul.{Foul}
use Rattle.game_rules.specs.declared.Foul.TheVariants.{Overline, DoubleFour, DoubleThree}
use Rattle.text_lines.specs.Lines.{ended}
use Rattle.game_referee.specs.declared.GameVerdict.{GameVerdict}
use Rattle.game_referee.specs.declared.GameVerdict.TheVariants.{Open, Illegal, AfterEnd, Won, Fouled, Drawn}

-- the words of the sides
abbrev pub side_word : Side → List ℕ
side_word Black = codes "black"
side_word White = codes "white"

-- the words of the fouls
abbrev pub foul_word : Foul → List ℕ
foul_word Overline = codes "overline"
foul_word DoubleFour = codes "double-four"
foul_word DoubleThree = codes "double-three"

-- the words of a verdict, and its number
abbrev pub verdict_text : GameVerdict → List ℕ
verdict_text (Open n) = codes "open " ++ decimal n
verdict_text (Illegal n) = codes "illegal " ++ decimal n
verdict_text (AfterEnd n) = codes "after end " ++ decimal n
verdict_text (Won side n) = codes "won " ++ side_word side ++ (codes " " ++ decimal n)
verdict_text (Fouled f n) = codes "foul " ++ foul_word f ++ (codes " " ++ decimal n)
verdict_text (Drawn n) = codes "drawn " ++ decimal n

-- the line of a verdict
abbrev pub verdict_line : GameVerdict → List ℕ
verdict_line v = ended (verdict_text v)
