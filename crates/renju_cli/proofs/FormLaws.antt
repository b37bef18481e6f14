-- Words have one form, which they tell: the first word tells the command, and the others its numbers.
use Rattle.std.proofs.Common.{◌≡◌, sym, ap, subst, ◌∙◌, ℕ, ◌≤◌, List, [], ◌∷◌, get_or}
use Rattle.std.specs.Fmt.{decimal}
use Rattle.renju_cli.specs.declared.commands.Form.{Form}
use Rattle.file_loading.specs.declared.TheConstants.{MAX_WORK}
use Rattle.command_base.specs.Forms.{HasWords}
use Rattle.renju_cli.specs.Commands.{command, IsForm, HasForm}
use Rattle.renju_cli.proofs.EachCommand.{form_told, form-spelled}

pub told-form : (words : List (List ℕ)) (form : Form) → IsForm words form → form_told words ≡ form
told-form words form is = ap form_told is.spelled ∙ form-spelled words form is.in_range

pub one-form : (words : List (List ℕ)) (form other : Form) → IsForm words form → IsForm words other → form ≡ other
one-form words form other is also = sym (told-form words form is) ∙ told-form words other also

-- words that have a form have the one that they tell
pub has-told : (words : List (List ℕ)) → HasForm words → IsForm words (form_told words)
has-told words h = subst (λ (f : Form). IsForm words f) (sym (told-form words h.0 h.1)) h.1

-- the words after a name are those that are wanted after it
pub after-name : {holds : Type 0} (name : List ℕ) (words wanted : List (List ℕ)) → HasWords (name ∷ words) (name ∷ wanted) holds
    → HasWords words wanted holds
after-name name words wanted is = record { spelled = let same = is.spelled in cc; in_range = is.in_range }

-- words after a name that are no number in the range have no form, if what the name tells wants one
pub no-work : (name : List ℕ) (rest : List (List ℕ))
    → (IsForm (name ∷ rest) (form_told (name ∷ rest))
    → (work : ℕ) × HasWords (name ∷ rest) (name ∷ decimal work ∷ []) ((1 ≤ work) × (work ≤ MAX_WORK)))
    → ((work : ℕ) → (1 ≤ work) × (work ≤ MAX_WORK) → rest ≡ decimal work ∷ [] → ⊥) → ¬ HasForm (name ∷ rest)
no-work name rest told none h =
    let is = told (has-told (name ∷ rest) h) in
    let after = after-name name rest _ is.1 in
    none is.0 after.in_range after.spelled

-- nor do words that are no two numbers in their ranges, if it wants these
pub no-two_numbers : (InRange : ℕ → ℕ → Type 0) (name : List ℕ) (rest : List (List ℕ))
    → (IsForm (name ∷ rest) (form_told (name ∷ rest))
    → (m n : ℕ) × HasWords (name ∷ rest) (name ∷ decimal m ∷ decimal n ∷ []) (InRange m n))
    → ((m n : ℕ) → ¬ HasWords rest (decimal m ∷ decimal n ∷ []) (InRange m n)) → ¬ HasForm (name ∷ rest)
no-two_numbers InRange name rest told none h =
    let is = told (has-told (name ∷ rest) h) in
    none is.0 is.1 (after-name name rest _ is.2)

-- no words have no form
pub no-words : ¬ HasForm []
no-words h =
    let is = has-told [] h in
    let spelled = is.spelled in
    cc

-- words whose first is that of no command have no form
pub no-command : (name : List ℕ) (rest : List (List ℕ))
    → ((form : Form) (words : List (List ℕ)) → name ≡ get_or (command words form).words 0 [] → ⊥) → ¬ HasForm (name ∷ rest)
no-command name rest other h = other h.0 (name ∷ rest) (ap (λ (l : List (List ℕ)). get_or l 0 []) h.1.spelled)
