-- The commands of the lines that were told.
use Rattle.std.proofs.Common.{List, map, ◌≡◌, [], ◌∷◌, refl, ◌++◌, sym, ap, subst, ◌∙◌, ℕ, Contains}
use Rattle.std.proofs.lemmas.List.{map-append}
use Rattle.std.proofs.lemmas.List.Elements.{Contains-append_left, Contains-push}
use Rattle.renju_io.specs.Lines.{LineText, lines, whole_lines, Tells}
use Rattle.renju_io.proofs.WholeLines.{told_then_whole}
use Rattle.gomocup_text.specs.Commands.{command_told, commands}
use Rattle.gomocup_text.specs.declared.Command.{Command}
use Rattle.gomocup_text.specs.declared.Command.TheVariants.{End}

-- the commands of some lines
abbrev pub asked : List LineText → List Command
asked told = map command_told told

-- the lines of one command, and of none
pub one_line : (c : Command) (told : List LineText) → c ∷ [] ≡ asked told → (line : LineText) × (told ≡ line ∷ []) × (command_told line ≡ c)
one_line c [] are = cc
one_line c (line ∷ []) are = (line, refl, cc)
one_line c (line ∷ (more ∷ told)) are = cc

pub no_line : (told : List LineText) → [] ≡ asked told → told ≡ []
no_line [] are = refl
no_line (line ∷ told) are = cc

-- a line told of some bytes is among their whole lines
pub end_among : (given : List ℕ) (told : List LineText) (line : LineText) (kept : List ℕ) → command_told line ≡ End →
    Tells given (told ++ (line ∷ [])) kept → Contains (commands (whole_lines given)) End
end_among given told line kept is tells =
    let all : commands (whole_lines given) ≡ (asked told ++ (End ∷ [])) ++ asked (lines (whole_lines kept)) =
    ap asked (told_then_whole given kept (told ++ (line ∷ [])) tells)
    ∙ map-append command_told (told ++ (line ∷ [])) (lines (whole_lines kept))
    ∙ ap (λ cs. cs ++ asked (lines (whole_lines kept))) (map-append command_told told (line ∷ []) ∙ ap (λ d. asked told ++ (d ∷ [])) is) in
    subst (λ (cs : List Command). Contains cs End) (sym all)
    (Contains-append_left (asked told ++ (End ∷ [])) (asked (lines (whole_lines kept))) End (Contains-push (asked told) End))
