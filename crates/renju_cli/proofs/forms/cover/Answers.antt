use Rattle.std.proofs.Common.{◌≡◌, ◌∙◌, ℕ, List, [], ◌∷◌, length, map, arith, codes, string_bytes, sym, ap, subst, refl, Option, take, drop}
use Rattle.std.proofs.Common.{true, false, ◌-◌}
use Rattle.std.specs.Fmt.{decimal}
use Rattle.game_rules.specs.declared.Point.{Point}
use Rattle.cover_command.specs.PartFiles.{ArePartNames}
use Rattle.cover_command.specs.Covers.{AreInRange, attack_word}
use Rattle.renju_cli.specs.declared.commands.Form.TheVariants.{Cover}
use Rattle.renju_cli.proofs.Common.{HasForm, IsForm}
use Rattle.renju_cli.proofs.Words.{same-count, two-and-rest}
use Rattle.renju_cli.proofs.FormLaws.{has-told}
use Rattle.renju_cli.proofs.forms.cover.Goals as goal

-- `cover` and words that are no WORK, ATTACK and names have no form
no-cover : (rest : List (List ℕ))
    → ((work : ℕ) (attack : Option Point) (names : List (List ℕ)) → AreInRange work attack names
    → rest ≡ decimal work ∷ attack_word attack ∷ names → ⊥) → ¬ HasForm (codes "cover" ∷ rest)
no-cover rest none h =
    let is = has-told (codes "cover" ∷ rest) h in
    let spelled = is.spelled in
    none _ _ _ is.in_range (cc)

-- and those that are these have it
cover-form : (rest names : List (List ℕ)) (work : ℕ) (attack : Option Point) → rest ≡ decimal work ∷ attack_word attack ∷ names
    → AreInRange work attack names → IsForm (codes "cover" ∷ rest) (Cover work attack)
cover-form rest names work attack are range =
    subst (λ (ws : List (List ℕ)). IsForm (codes "cover" ∷ ws) (Cover work attack)) (sym are) (record { spelled = refl; in_range = range })

-- fewer than two words
pub returns-in_default : goal.returns-in_default
returns-in_default c = record {
  form = no-cover _ (λ work attack names range is.
      let count : length c.args.rest.now ≡ length (decimal work ∷ attack_word attack ∷ names) = same-count string_bytes _ _ is in
      omega (arith, count));
}

-- a word that is no number in the range
pub returns-in_err-work : goal.returns-in_err-work
returns-in_err-work c = rw c.from_residual.ensures (record {
  form = no-cover _ (λ work attack names range is.
      let words = two-and-rest string_bytes c.args.rest.now c.work-item.result c.attack-item.result c.in-len2-up.len_at_least
      c.work-item.is c.attack-item.is in
      let same : string_bytes c.work-item.result ≡ decimal work = cc in
      c.in_err-work.ensures.number work (range.some_work, range.work_fits) same);
})

-- one that is no attack
pub returns-in_err-attack : goal.returns-in_err-attack
returns-in_err-attack c = rw c.from_residual-in_err-attack.ensures (record {
  form = no-cover _ (λ work attack names range is.
      let words = two-and-rest string_bytes c.args.rest.now c.work-item.result c.attack-item.result c.in-len2-up.len_at_least
      c.work-item.is c.attack-item.is in
      let same : string_bytes c.attack-item.result ≡ attack_word attack = cc in
      c.in_err-attack.ensures.attack attack range.attack_fits (c.as_str.ensures.value ∙ same));
})

pub returns-then-are_part_names : goal.returns-then-are_part_names
returns-then-are_part_names c =
    let words = two-and-rest string_bytes c.args.rest.now c.work-item.result c.attack-item.result c.in-len2-up.len_at_least
    c.work-item.is c.attack-item.is in
    let number = c.in_ok-work.ensures.number in
    let point = c.in_ok-attack.ensures.attack in
    let first : string_bytes c.work-item.result ≡ decimal c.in_ok-work.work = number.1 in
    let second : string_bytes c.attack-item.result ≡ attack_word c.in_ok-attack.attack = sym c.as_str.ensures.value ∙ point.1 in
    let are : map string_bytes c.args.rest.now ≡ decimal c.in_ok-work.work ∷ attack_word c.in_ok-attack.attack
    ∷ map string_bytes (take (length c.args.rest.now - 2) (drop 2 c.args.rest.now)) = cc in
    record {
      form = cover-form (map string_bytes c.args.rest.now)
          (map string_bytes (take (length c.args.rest.now - 2) (drop 2 c.args.rest.now))) c.in_ok-work.work c.in_ok-attack.attack are
          (record {
            some_work = number.0.0;
            work_fits = number.0.1;
            attack_fits = point.0;
            names_fit = c.are_part_names.ensures.names.0 c.if-are_part_names.true;
          });
    }

-- names that are none
pub returns-else-are_part_names : goal.returns-else-are_part_names
returns-else-are_part_names c = record {
  form = no-cover _ (λ work attack names range is.
      let words = two-and-rest string_bytes c.args.rest.now c.work-item.result c.attack-item.result c.in-len2-up.len_at_least
      c.work-item.is c.attack-item.is in
      let same = ap (λ (l : List (List ℕ)). drop 2 l) (sym words ∙ is) in
      let fit = c.are_part_names.ensures.names.1 (subst ArePartNames (sym same) range.names_fit) in
      let no : false ≡ true = sym c.if-are_part_names.false ∙ fit in
      cc);
}
