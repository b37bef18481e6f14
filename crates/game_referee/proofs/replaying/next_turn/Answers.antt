use Rattle.std.proofs.Common.{◌≡◌, ◌≤◌, ℕ, List, length, refl, sym, ap, ◌∙◌, arith, Option, Some, None, slice_get}
use Rattle.std.proofs.Common.{option_and_then, option_map}
use Rattle.game_rules.specs.declared.Point.{Point}
use Rattle.std.proofs.lemmas.Option.{slice_get_past}
use Rattle.strategy_graph.specs.declared.Node.{Node}
use Rattle.strategy_graph.specs.declared.roots.Root.TheVariants.{Attack, Defend}
use Rattle.strategy_graph.proofs.Common.{answer, answers_of}
use Rattle.game_referee.specs.declared.replaying.Turn.{Turn}
use Rattle.game_referee.proofs.Common.{in_turn, next_turn}
use Rattle.game_referee.proofs.replaying.next_turn.Goals as goal

-- the node that answers the reply, where its answers are those of this node
answers_turn : (t : List Node) (p : Point) (o : Option Node)
    → option_map (λ (j : ℕ). Attack j) (option_and_then (λ n. answer (answers_of n) p) o)
    ≡ next_turn t (option_map (λ n. Defend (answers_of n)) o) p
answers_turn t p None = refl
answers_turn t p (Some n) = refl

pub returns-in-Reply : goal.returns-in-Reply
returns-in-Reply c = record {
  next = c.answered_by.ensures.answered c.args.table.now ∙ ap (option_map (λ (j : ℕ). Attack j)) c.lookup.ensures.answer
      ∙ answers_turn c.args.table.now c.args.at (slice_get c.args.table.now c.in-Reply.number)
      ∙ ap (λ (u : Turn). next_turn c.args.table.now (in_turn c.args.table.now u) c.args.at) (sym c.in-Reply.is);
}

pub returns-in-Reply-2 : goal.returns-in-Reply-2
returns-in-Reply-2 c =
    let t : List Node = c.args.table.now in
    let past : length t ≤ c.in-Reply.number = omega (arith, c.if-number-len.false, c.len.ensures.count) in
    record {
      next = ap (λ (o : Option Node). next_turn t (option_map (λ n. Defend (answers_of n)) o) c.args.at)
          (sym (slice_get_past t c.in-Reply.number past))
          ∙ ap (λ (u : Turn). next_turn t (in_turn t u) c.args.at) (sym c.in-Reply.is);
    }

pub returns-in-Begin : goal.returns-in-Begin
returns-in-Begin c = record {
  next = c.answered_by-in-Begin.ensures.answered c.args.table.now ∙ ap (option_map (λ (j : ℕ). Attack j)) c.lookup-in-Begin.ensures.answer
      ∙ ap (λ (u : Turn). next_turn c.args.table.now (in_turn c.args.table.now u) c.args.at) (sym c.in-Begin.is);
}
