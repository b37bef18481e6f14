use Rattle.std.proofs.Common.{◌≡◌, ℕ, List, [], ◌∷◌, length, arith, string_bytes, codes}
use Rattle.renju_cli.proofs.Common.{HasForm}
use Rattle.renju_cli.proofs.Words.{same-count}
use Rattle.renju_cli.proofs.FormLaws.{has-told}
use Rattle.renju_cli.proofs.forms.foul.Goals as goal

-- `foul` and other words have no form
no-foul : (rest : List (List ℕ)) → (rest ≡ [] → ⊥) → ¬ HasForm (codes "foul" ∷ rest)
no-foul rest some h =
    let is = has-told (codes "foul" ∷ rest) h in
    let spelled = is.spelled in
    some (cc)

-- some word
pub returns-in_default : goal.returns-in_default
returns-in_default c = record {
  form = no-foul _
      (λ is. let count : length c.args.rest.now ≡ 0 = same-count string_bytes _ _ is in omega (arith, count));
}
