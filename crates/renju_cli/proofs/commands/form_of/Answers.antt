use Rattle.std.proofs.Common.{◌≡◌, List, ℕ, [], ◌∷◌, ◌∙◌, ap, sym, subst, get_or}
use Rattle.std.specs.Prelude.{codes, string_bytes, Option, MatchOption}
use Rattle.renju_cli.specs.declared.commands.Form.{Form}
use Rattle.renju_cli.specs.declared.commands.Form.TheVariants.{Check, Foul, Fours, Threats, Solve, Brain, BrainWith, Drill, Referee}
use Rattle.renju_cli.specs.declared.commands.Form.TheVariants.{RefereeWith, Image, Defend, Bind, Book, Quiet, Cover, Join}
use Rattle.renju_cli.specs.Commands.{command, HasForm, IsForm}
use Rattle.renju_cli.proofs.Words.{no-words as none, first-word}
use Rattle.renju_cli.proofs.FormLaws.{no-words, no-command}
use Rattle.renju_cli.proofs.commands.form_of.Goals as goal

-- what is told of the words after a name is told of the words that begin with it
told-of : (told : Option Form) (words : List (List ℕ)) (first name : List ℕ) (rest : List (List ℕ)) → words ≡ first ∷ rest → first ≡ name
    → MatchOption told (¬ HasForm (name ∷ rest)) (λ form. IsForm (name ∷ rest) form)
    → MatchOption told (¬ HasForm words) (λ form. IsForm words form)
told-of told words first name rest are is h = subst (λ (ws : List (List ℕ)). MatchOption told (¬ HasForm ws) (λ form. IsForm ws form))
    (sym (are ∙ ap (λ (w : List ℕ). w ∷ rest) is)) h

pub returns-in_default : goal.returns-in_default
returns-in_default c = record { form = λ h. no-words (subst HasForm (none string_bytes c.args.words.now c.in_default.len_below) h) }

pub returns-in-check : goal.returns-in-check
returns-in-check c = record {
  form = told-of c.check.result _ _ (codes "check") _
      (first-word string_bytes c.args.words.now c.name-item.result c.in-len1-up.len_at_least c.name-item.is)
      (sym c.as_str.ensures.value ∙ c.in-check.is) c.check.ensures.form;
}

pub returns-in-foul : goal.returns-in-foul
returns-in-foul c = record {
  form = told-of c.foul.result _ _ (codes "foul") _
      (first-word string_bytes c.args.words.now c.name-item.result c.in-len1-up.len_at_least c.name-item.is)
      (sym c.as_str.ensures.value ∙ c.in-foul.is) c.foul.ensures.form;
}

pub returns-in-fours : goal.returns-in-fours
returns-in-fours c = record {
  form = told-of c.fours.result _ _ (codes "fours") _
      (first-word string_bytes c.args.words.now c.name-item.result c.in-len1-up.len_at_least c.name-item.is)
      (sym c.as_str.ensures.value ∙ c.in-fours.is) c.fours.ensures.form;
}

pub returns-in-threats : goal.returns-in-threats
returns-in-threats c = record {
  form = told-of c.threats.result _ _ (codes "threats") _
      (first-word string_bytes c.args.words.now c.name-item.result c.in-len1-up.len_at_least c.name-item.is)
      (sym c.as_str.ensures.value ∙ c.in-threats.is) c.threats.ensures.form;
}

pub returns-in-solve : goal.returns-in-solve
returns-in-solve c = record {
  form = told-of c.solve.result _ _ (codes "solve") _
      (first-word string_bytes c.args.words.now c.name-item.result c.in-len1-up.len_at_least c.name-item.is)
      (sym c.as_str.ensures.value ∙ c.in-solve.is) c.solve.ensures.form;
}

pub returns-in-quiet : goal.returns-in-quiet
returns-in-quiet c = record {
  form = told-of c.quiet.result _ _ (codes "quiet") _
      (first-word string_bytes c.args.words.now c.name-item.result c.in-len1-up.len_at_least c.name-item.is)
      (sym c.as_str.ensures.value ∙ c.in-quiet.is) c.quiet.ensures.form;
}

pub returns-in-brain : goal.returns-in-brain
returns-in-brain c = record {
  form = told-of c.brain.result _ _ (codes "brain") _
      (first-word string_bytes c.args.words.now c.name-item.result c.in-len1-up.len_at_least c.name-item.is)
      (sym c.as_str.ensures.value ∙ c.in-brain.is) c.brain.ensures.form;
}

pub returns-in-drill : goal.returns-in-drill
returns-in-drill c = record {
  form = told-of c.drill.result _ _ (codes "drill") _
      (first-word string_bytes c.args.words.now c.name-item.result c.in-len1-up.len_at_least c.name-item.is)
      (sym c.as_str.ensures.value ∙ c.in-drill.is) c.drill.ensures.form;
}

pub returns-in-image : goal.returns-in-image
returns-in-image c = record {
  form = told-of c.image.result _ _ (codes "image") _
      (first-word string_bytes c.args.words.now c.name-item.result c.in-len1-up.len_at_least c.name-item.is)
      (sym c.as_str.ensures.value ∙ c.in-image.is) c.image.ensures.form;
}

pub returns-in-referee : goal.returns-in-referee
returns-in-referee c = record {
  form = told-of c.referee.result _ _ (codes "referee") _
      (first-word string_bytes c.args.words.now c.name-item.result c.in-len1-up.len_at_least c.name-item.is)
      (sym c.as_str.ensures.value ∙ c.in-referee.is) c.referee.ensures.form;
}

pub returns-in-defend : goal.returns-in-defend
returns-in-defend c = record {
  form = told-of c.defend.result _ _ (codes "defend") _
      (first-word string_bytes c.args.words.now c.name-item.result c.in-len1-up.len_at_least c.name-item.is)
      (sym c.as_str.ensures.value ∙ c.in-defend.is) c.defend.ensures.form;
}

pub returns-in-book : goal.returns-in-book
returns-in-book c = record {
  form = told-of c.book.result _ _ (codes "book") _
      (first-word string_bytes c.args.words.now c.name-item.result c.in-len1-up.len_at_least c.name-item.is)
      (sym c.as_str.ensures.value ∙ c.in-book.is) c.book.ensures.form;
}

pub returns-in-bind : goal.returns-in-bind
returns-in-bind c = record {
  form = told-of c.bind.result _ _ (codes "bind") _
      (first-word string_bytes c.args.words.now c.name-item.result c.in-len1-up.len_at_least c.name-item.is)
      (sym c.as_str.ensures.value ∙ c.in-bind.is) c.bind.ensures.form;
}

pub returns-in-cover : goal.returns-in-cover
returns-in-cover c = record {
  form = told-of c.cover.result _ _ (codes "cover") _
      (first-word string_bytes c.args.words.now c.name-item.result c.in-len1-up.len_at_least c.name-item.is)
      (sym c.as_str.ensures.value ∙ c.in-cover.is) c.cover.ensures.form;
}

pub returns-in-join : goal.returns-in-join
returns-in-join c = record {
  form = told-of c.join.result _ _ (codes "join") _
      (first-word string_bytes c.args.words.now c.name-item.result c.in-len1-up.len_at_least c.name-item.is)
      (sym c.as_str.ensures.value ∙ c.in-join.is) c.join.ensures.form;
}

-- the first word is that of no command
pub returns-in_default-as_str : goal.returns-in_default-as_str
returns-in_default-as_str c =
    let words = first-word string_bytes c.args.words.now c.name-item.result c.in-len1-up.len_at_least c.name-item.is in
    let other : (form : Form) (ws : List (List ℕ)) → string_bytes c.name-item.result ≡ get_or (command ws form).words 0 [] → ⊥ =
    λ form ws. elim form as (λ f. string_bytes c.name-item.result ≡ get_or (command ws f).words 0 [] → ⊥) [
      | Check work ↦ λ is. c.in_default-as_str.not-check (c.as_str.ensures.value ∙ is)
      | Foul ↦ λ is. c.in_default-as_str.not-foul (c.as_str.ensures.value ∙ is)
      | Fours depth nodes ↦ λ is. c.in_default-as_str.not-fours (c.as_str.ensures.value ∙ is)
      | Threats limit nodes ↦ λ is. c.in_default-as_str.not-threats (c.as_str.ensures.value ∙ is)
      | Solve depth nodes ↦ λ is. c.in_default-as_str.not-solve (c.as_str.ensures.value ∙ is)
      | Quiet depth nodes ↦ λ is. c.in_default-as_str.not-quiet (c.as_str.ensures.value ∙ is)
      | Brain ↦ λ is. c.in_default-as_str.not-brain (c.as_str.ensures.value ∙ is)
      | BrainWith ↦ λ is. c.in_default-as_str.not-brain (c.as_str.ensures.value ∙ is)
      | Image s ↦ λ is. c.in_default-as_str.not-image (c.as_str.ensures.value ∙ is)
      | Drill number ↦ λ is. c.in_default-as_str.not-drill (c.as_str.ensures.value ∙ is)
      | Referee ↦ λ is. c.in_default-as_str.not-referee (c.as_str.ensures.value ∙ is)
      | RefereeWith ↦ λ is. c.in_default-as_str.not-referee (c.as_str.ensures.value ∙ is)
      | Defend depth nodes ↦ λ is. c.in_default-as_str.not-defend (c.as_str.ensures.value ∙ is)
      | Book work ↦ λ is. c.in_default-as_str.not-book (c.as_str.ensures.value ∙ is)
      | Cover work attack ↦ λ is. c.in_default-as_str.not-cover (c.as_str.ensures.value ∙ is)
      | Join attack ↦ λ is. c.in_default-as_str.not-join (c.as_str.ensures.value ∙ is)
      | Bind ↦ λ is. c.in_default-as_str.not-bind (c.as_str.ensures.value ∙ is)
    ] in
    record { form = λ h. no-command _ _ other (subst HasForm words h) }
