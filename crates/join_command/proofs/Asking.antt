-- Which file answers at a position: by a table of it, or by a zone.
use Rattle.std.proofs.Common.{◌≡◌, ℕ, ◌<◌, ◌≤◌, ◌+◌, List, length, ap, subst, sym, arith, None, slice_get, ◌⊎◌, inl, inr, refl, ◌∙◌, get_or}
use Rattle.std.proofs.lemmas.Bool.{cases_lt}
use Rattle.std.proofs.lemmas.Option.{slice_get_read, same_Some}
use Rattle.join_command.proofs.Common.{Grid, RuleKind, Root, Attack, TableFile, IsVerdict, MAX_PAIRS, LacksZone}
use Rattle.game_rules.proofs.Common.{IsPosition}
use Rattle.relevance_zone.specs.Zones.{AcceptedRootByZone}
use Rattle.relevance_zone.proofs.Harm.{zones-accept}
use Rattle.zone_checker.specs.declared.checks.ZoneVerdict.TheVariants.{Spent}
use Rattle.join_command.specs.Asking.{IsAcceptedAt, IsZoneFound}

-- a root with a zone is accepted
pub accepted-by_zone : (rule : RuleKind) (b : Grid) (file : TableFile) (i : ℕ) → IsPosition rule b → file.root ≡ Attack i
    → (file.board.width ≡ b.width) × (file.board.height ≡ b.height) → AcceptedRootByZone rule file.table file.root b
    → IsAcceptedAt rule b file
accepted-by_zone rule b file i lawful root size zone = (
  i,
  record { wide = size.0; high = size.1; root = root },
  zones-accept rule file.table (Attack i) b lawful (subst (λ (r : Root). AcceptedRootByZone rule file.table r b) root zone),
)

-- nor has one a zone where the walk is spent
pub spent-lacks : (rule : RuleKind) (b : Grid) (file : TableFile) → IsVerdict rule file.table file.root MAX_PAIRS b Spent
    → LacksZone rule b file
spent-lacks rule b file spent i asked = inr (subst (λ (r : Root). IsVerdict rule file.table r MAX_PAIRS b Spent) asked.root spent)

-- one file more without a zone
pub zone-below : (rule : RuleKind) (files : List TableFile) (b : Grid) (from k : ℕ) (file : TableFile) → k < length files
    → file ≡ get_or files k file → IsZoneFound rule files b from k None → LacksZone rule b file → IsZoneFound rule files b from (k + 1) None
zone-below rule files b from k file l is before lacks j other low high at = by-place (cases_lt j k) where
  by-place : (j < k) ⊎ (k ≤ j) → LacksZone rule b other
  by-place (inl less) = before j other low less at
  by-place (inr more) =
      let here : k ≡ j = omega arith in
      subst (LacksZone rule b) (same_Some file other
      (sym (slice_get_read files (length files) k file refl l is) ∙ ap (slice_get files) here ∙ at)) lacks
