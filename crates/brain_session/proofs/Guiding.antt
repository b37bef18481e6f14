-- What the brain follows goes on: from the board where a node's attack is to be played to that after it, and to those after each
-- reply.
use Rattle.std.proofs.Common.{◌≡◌, ℕ, ◌-◌, true, List, ap, ◌∙◌, Option, Some, MatchOption, slice_get, IsSomeAnd, option_map, rules}
use Rattle.brain_session.proofs.Common.{Grid, is_empty, IsPosition, outcome, after, has_five, wins_by_fours, RuleKind, GoesOn, Point, Node}
use Rattle.brain_session.proofs.Common.{answer_at, IsTable, Accepted, StandsFor, HeldTable, FourTable, four_plan, Guide, FollowsAt, move_by}
use Rattle.brain_session.proofs.Common.{GuidesAt, NodeStandsAt, StandsAt, GoesOnAfter, followed_of, nodes_of}
use Rattle.game_rules.proofs.Common.{WinsByFours}
use Rattle.game_rules.proofs.Games.{LosesOr-map, test-WinsUnder, WinsUnder-test}
use Rattle.game_rules.proofs.Outcomes.{going}
use Rattle.strategy_graph.proofs.Answering.{IsSomeAnd-map}
use Rattle.strategy_graph.proofs.Following.{accepted-in_table, accepted-replies, attack_empty}
use Rattle.four_search.proofs.Written.{plan-attacks, plan-replies, PlanAt}
use Rattle.brain_session.specs.declared.guide.Guide.TheVariants.{HeldNode as HeldGuide, OwnWin as OwnGuide}

-- ---- the move

-- the attack of the node that is followed is the move by it
pub held-moves : (h : HeldTable) (rule : RuleKind) (b : Grid) (g : Guide) (node : ℕ) (n : Node) → g ≡ HeldGuide node
    → slice_get h.table node ≡ Some n → move_by h rule b (followed_of g) ≡ Some n.attack
held-moves h rule b g node n is at = ap (λ (x : Guide). move_by h rule b (followed_of x)) is ∙ ap (option_map (λ (m : Node). m.attack)) at

pub own-moves : (h : HeldTable) (rule : RuleKind) (b : Grid) (g : Guide) (own : FourTable) (n : Node) → g ≡ OwnGuide own
    → slice_get own.table own.node ≡ Some n → NodeStandsAt h rule b g → move_by h rule b (followed_of g) ≡ Some n.attack
own-moves h rule b g own n is at stands = search (rules, plan-attacks)

-- the move of a guide that stands at b is an empty point
pub node-legal : (h : HeldTable) (rule : RuleKind) (b : Grid) (g : Guide) (p : Point) → NodeStandsAt h rule b g
    → move_by h rule b (followed_of g) ≡ Some p → is_empty b p ≡ true
node-legal h rule b g p at e = search (rules, attack_empty, plan-attacks)

pub stands-legal : (h : HeldTable) (rule : RuleKind) (b : Grid) (g : Guide) (p : Point) → StandsAt h rule b g
    → move_by h rule b (followed_of g) ≡ Some p → is_empty b p ≡ true
stands-legal h rule b g p stands move = node-legal h rule b g p stands.node move

-- ---- after the move

wins_behind : (rule : RuleKind) (t : List Node) (n : ℕ) (c : Grid) (o : Option ℕ) → IsSomeAnd o (λ j. PlanAt rule t n j c)
    → WinsByFours rule n c
wins_behind rule t n c o h = search (rules, test-WinsUnder)

-- where the move of a guide that stands at b goes on, what is followed goes on after it
pub stands-goes_on : (h : HeldTable) (rule : RuleKind) (b : Grid) (g : Guide) (p : Point) → StandsAt h rule b g → IsPosition rule b
    → move_by h rule b (followed_of g) ≡ Some p → outcome rule b p ≡ GoesOn
    → FollowsAt h rule (after b p) (followed_of g) × GuidesAt rule (after b p) g
stands-goes_on h rule b g p stands lawful move go = by_guide g stands.table stands.node move where
  by_guide : (g : Guide) → IsTable (nodes_of h g) → NodeStandsAt h rule b g → move_by h rule b (followed_of g) ≡ Some p
      → FollowsAt h rule (after b p) (followed_of g) × GuidesAt rule (after b p) g
  by_guide (HeldGuide node) table at e = ((at.0, accepted-replies rule h.table table node b p e at.1 go), tt)
  by_guide (OwnGuide own) table at e =
      let next = plan-replies rule own.table table own.moves own.node b p lawful e go at.stands in (
        λ q. LosesOr-map (outcome rule (after b p) q) _ _
            (λ answered. wins_behind rule own.table (own.moves - 1) (after (after b p) q) (answer_at own.table own.node q) answered)
            (next.1 q),
        record {
          moves_left = next.0;
          in_table = at.in_table;
          answers = λ q. LosesOr-map (outcome rule (after b p) q) _ _
              (λ answered. IsSomeAnd-map (answer_at own.table own.node q) _ _ (λ j e k. (k.stands, k.accepted)) answered) (next.1 q);
        },
      )

-- ---- after a reply

held_after : (h : HeldTable) (rule : RuleKind) (b : Grid) (o : Option ℕ) → IsSomeAnd o (λ j. Accepted rule h.table j b)
    → MatchOption (option_map (λ j. HeldGuide j) o) ⊥ (NodeStandsAt h rule b)
held_after h rule b o answered = search (rules, accepted-in_table)

own_after : (h : HeldTable) (rule : RuleKind) (b : Grid) (own : FourTable) → wins_by_fours rule (own.moves - 1) b ≡ true → (o : Option ℕ)
    → IsSomeAnd o (λ j. StandsFor own.table j (four_plan rule (own.moves - 1) b) × Accepted rule own.table j b)
    → MatchOption (option_map (λ j. OwnGuide (record own { node = j; moves = own.moves - 1 })) o) ⊥ (NodeStandsAt h rule b)
own_after h rule b own wins o answered = search (rules, accepted-in_table)

-- where what is followed goes on at b, and the reply q does, it goes on after the reply
pub goes_on-after : (h : HeldTable) (rule : RuleKind) (b : Grid) (g : Guide) (q : Point) → FollowsAt h rule b (followed_of g)
    → GuidesAt rule b g → outcome rule b q ≡ GoesOn → GoesOnAfter h rule (after b q) g q
goes_on-after h rule b (HeldGuide node) q follows guides go = record {
  in_table = follows.0;
  answers = held_after h rule (after b q) (answer_at h.table node q) (going (outcome rule b q) _ go (follows.1 q));
}
goes_on-after h rule b (OwnGuide own) q follows guides go = record {
  in_table = (guides.in_table, guides.moves_left);
  answers = own_after h rule (after b q) own
      (WinsUnder-test (has_five rule) rule (own.moves - 1) (after b q) (going (outcome rule b q) _ go (follows q)))
      (answer_at own.table own.node q) (going (outcome rule b q) _ go (guides.answers q));
}
