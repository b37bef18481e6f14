use Rattle.std.proofs.Common.{◌≡◌, ℕ, List, [], ◌∷◌, length, get_or, arith, string_bytes, codes}
use Rattle.board_symmetry.specs.declared.symmetry.Symmetry.{Symmetry}
use Rattle.table_commands.specs.Images.{symmetry_word}
use Rattle.renju_cli.proofs.Common.{HasForm}
use Rattle.renju_cli.proofs.Words.{same-count}
use Rattle.renju_cli.proofs.EachCommand.{symmetry_told}
use Rattle.renju_cli.proofs.FormLaws.{has-told}
use Rattle.renju_cli.proofs.forms.image.Goals as goal

-- `image` and words that are no symmetry's have no form
no-image : (rest : List (List ℕ)) → ((s : Symmetry) → rest ≡ symmetry_word s ∷ [] → ⊥) → ¬ HasForm (codes "image" ∷ rest)
no-image rest none h =
    let is = has-told (codes "image" ∷ rest) h in
    let spelled = is.spelled in
    none (symmetry_told (get_or rest 0 [])) (cc)

-- no word, or more than one
pub returns-in_default : goal.returns-in_default
returns-in_default c = record {
  form = no-image _
      (λ s is. let one : length c.args.rest.now ≡ 1 = same-count string_bytes _ _ is in omega (arith, one));
}

pub returns-in_default-2 : goal.returns-in_default-2
returns-in_default-2 c = record {
  form = no-image _
      (λ s is. let one : length c.args.rest.now ≡ 1 = same-count string_bytes _ _ is in omega (arith, one));
}
