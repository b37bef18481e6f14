-- What the zone that was found, or that there is none, says of a root.
use Rattle.std.proofs.Common.{◌≡◌, ℕ, ◌-◌, false, sym, subst, arith, List}
use Rattle.zone_checker.proofs.Common.{Grid, RuleKind, Side, Node, Root, Attack, Defend, Reply, To, Answers, Zone, Mark, IsGreatest}
use Rattle.zone_checker.proofs.Common.{zone_of, RootHasPairs, Took, asked_of}
use Rattle.game_rules.proofs.Common.{IsPosition, has_fouls}
use Rattle.strategy_graph.proofs.Common.{RootWins, root_depth}
use Rattle.relevance_zone.specs.Zones.{AcceptedRootByZone}
use Rattle.relevance_zone.proofs.Harm.{zones-win}
use Rattle.zone_checker.specs.declared.checks.ZoneVerdict.TheVariants.{Accepted, Refused}
use Rattle.zone_checker.specs.Roots.{IsRootZone, attacker}
use Rattle.zone_checker.specs.Verdicts.{IsVerdict}

module _ (rule : RuleKind) (t : List Node) (b : Grid) where
  root-accepted : (r : Root) (ms : List Mark) → has_fouls rule (attacker r b) ≡ false
      → IsGreatest (IsRootZone rule t (attacker r b) r b) b ms → AcceptedRootByZone rule t r b
  root-accepted (Attack i) ms calm best = (calm, (zone_of b ms 0, best.zones 0))
  root-accepted (Defend a) ms calm best = (calm, (zone_of b ms 0, best.zones 0))

  root-refused : (r : Root) → ((z : Zone) → IsRootZone rule t (attacker r b) r b z → ⊥) → AcceptedRootByZone rule t r b → ⊥
  root-refused (Attack i) none h = none h.1.0 h.1.1
  root-refused (Defend a) none h = none h.1.0 h.1.1

  -- the verdicts, where the walk was on c, with the side s
  module _ (r : Root) (work : ℕ) (c : Grid) (s : Side) (same : c ≡ b) (side : s ≡ attacker r b) where
    pub accepted-verdict : (moves left : ℕ) (ms : List Mark) → IsPosition rule b → moves ≡ root_depth t r
        → has_fouls rule s ≡ false → IsGreatest (IsRootZone rule t s r c) c ms → Took (RootHasPairs rule t s r c) work left
        → IsVerdict rule t r work b (Accepted moves (work - left))
    accepted-verdict moves left ms lawful depth calm best took =
        let accepted = root-accepted r ms
        (subst (λ v. has_fouls rule v ≡ false) side calm) (subst (λ (v : Side). IsGreatest (IsRootZone rule t v r b) b ms) side
        (subst (λ (d : Grid). IsGreatest (IsRootZone rule t s r d) d ms) same best)) in
        let pairs : took.pairs ≡ work - left = omega arith in (
          accepted,
          depth,
          omega arith,
          subst (λ m. RootWins rule r m b) (sym depth) (zones-win rule t r b lawful accepted),
          subst (λ (v : Side). RootHasPairs rule t v r b (work - left)) side
              (subst (λ (d : Grid). RootHasPairs rule t s r d (work - left)) same (subst (RootHasPairs rule t s r c) pairs took.paired)),
        )

    pub refused-verdict : ((z : Zone) → IsRootZone rule t s r c z → ⊥) → IsVerdict rule t r work b Refused
    refused-verdict none = root-refused r (subst (λ (v : Side). (z : Zone) → IsRootZone rule t v r b z → ⊥) side
        (subst (λ (d : Grid). (z : Zone) → IsRootZone rule t s r d z → ⊥) same none))

-- the answers of a start whose rest names a node
pub same_start : (a : Answers) (replies : List Reply) (rest : ℕ) → replies ≡ a.replies → a.rest ≡ To rest → asked_of replies rest ≡ a
same_start a replies rest listed named = λ i. record { replies = listed i; rest = sym named i }
