use Rattle.std.proofs.Common.{◌≡◌, ◌∙◌, ℕ, List, ◌∷◌, length, map, arith, codes, string_bytes, sym, ap, subst, refl, take, drop}
use Rattle.std.proofs.Common.{true, false, ◌-◌}
use Rattle.game_rules.specs.declared.Point.{Point}
use Rattle.text_lines.specs.Spellings.{point_text}
use Rattle.cover_command.specs.PartFiles.{ArePartNames}
use Rattle.join_command.specs.Joins.{AreJoinWords}
use Rattle.renju_cli.specs.declared.commands.Form.TheVariants.{Join}
use Rattle.renju_cli.proofs.Common.{HasForm, IsForm}
use Rattle.renju_cli.proofs.Words.{first-word, same-count}
use Rattle.renju_cli.proofs.FormLaws.{has-told}
use Rattle.renju_cli.proofs.forms.join.Goals as goal

-- `join` and words that are no point and names have no form
no-join : (rest : List (List ℕ))
    → ((attack : Point) (names : List (List ℕ)) → AreJoinWords attack names → rest ≡ point_text attack ∷ names → ⊥)
    → ¬ HasForm (codes "join" ∷ rest)
no-join rest none h =
    let is = has-told (codes "join" ∷ rest) h in
    let spelled = is.spelled in
    none _ _ is.in_range (cc)

-- and those that are these have it
join-form : (rest names : List (List ℕ)) (attack : Point) → rest ≡ point_text attack ∷ names → AreJoinWords attack names
    → IsForm (codes "join" ∷ rest) (Join attack)
join-form rest names attack are range =
    subst (λ (ws : List (List ℕ)). IsForm (codes "join" ∷ ws) (Join attack)) (sym are) (record { spelled = refl; in_range = range })

-- no word
pub returns-in_default : goal.returns-in_default
returns-in_default c = record {
  form = no-join _ (λ attack names range is.
      let count : length c.args.rest.now ≡ length (point_text attack ∷ names) = same-count string_bytes _ _ is in
      omega (arith, count));
}

-- a word that is no point
pub returns-in_err-attack : goal.returns-in_err-attack
returns-in_err-attack c = rw c.from_residual.ensures (record {
  form = no-join _ (λ attack names range is.
      let words = first-word string_bytes c.args.rest.now c.attack-item.result c.in-len1-up.len_at_least c.attack-item.is in
      let same : string_bytes c.attack-item.result ≡ point_text attack = cc in
      c.in_err-attack.ensures.point attack range.attack_fits (c.as_bytes.ensures.value ∙ same));
})

pub returns-then-are_part_names : goal.returns-then-are_part_names
returns-then-are_part_names c =
    let words = first-word string_bytes c.args.rest.now c.attack-item.result c.in-len1-up.len_at_least c.attack-item.is in
    let point = c.in_ok-attack.ensures.point in
    let first : string_bytes c.attack-item.result ≡ point_text c.in_ok-attack.attack = sym c.as_bytes.ensures.value ∙ point.1 in
    let are : map string_bytes c.args.rest.now ≡ point_text c.in_ok-attack.attack
    ∷ map string_bytes (take (length c.args.rest.now - 1) (drop 1 c.args.rest.now)) = cc in
    record {
      form = join-form (map string_bytes c.args.rest.now)
          (map string_bytes (take (length c.args.rest.now - 1) (drop 1 c.args.rest.now))) c.in_ok-attack.attack are
          (record { attack_fits = point.0; names_fit = c.are_part_names.ensures.names.0 c.if-are_part_names.true });
    }

-- names that are none
pub returns-else-are_part_names : goal.returns-else-are_part_names
returns-else-are_part_names c = record {
  form = no-join _ (λ attack names range is.
      let words = first-word string_bytes c.args.rest.now c.attack-item.result c.in-len1-up.len_at_least c.attack-item.is in
      let same = ap (λ (l : List (List ℕ)). drop 1 l) (sym words ∙ is) in
      let fit = c.are_part_names.ensures.names.1 (subst ArePartNames (sym same) range.names_fit) in
      let no : false ≡ true = sym c.if-are_part_names.false ∙ fit in
      cc);
}
