use Rattle.std.proofs.Common.{rules, ◌≡◌, ℕ, ◌≤◌, refl, ap, sym, subst, ◌∙◌}
use Rattle.std.proofs.lemmas.Result.{IfOk-weaker}
use Rattle.game_rules.proofs.Common.{Grid, after, outcome, goes_on}
use Rattle.game_rules.specs.declared.RuleKind.{RuleKind}
use Rattle.strategy_graph.proofs.Rising.{replies-rising}
use Rattle.strategy_compiler.proofs.Common.{IsDoubleThreat, double_nodes, Writes, IsWrittenWin}
use Rattle.strategy_compiler.proofs.Growing.{grows-not, writes-memory}
use Rattle.threat_game.proofs.Common.{IsThreatWin, replies_at}
use Rattle.threat_game.proofs.FreeMoves.{double-safe}
use Rattle.threat_game.proofs.DoubleLaws.{double-threats, double-threat, nodes-are}
use Rattle.threat_game.proofs.WrittenLaws.{threat-win}
use Rattle.threat_game.proofs.doubles.compile_double.Goals as goal

pub all_replies_to-requires-clause-none : goal.all_replies_to-requires-clause-none
all_replies_to-requires-clause-none g c = double-safe g.R.Rule.KIND
    (g.V.Seen.position c.args.view.now) c.args.double c.side.ensures.lawful c.requires.wins

pub double-requires : goal.double-requires
double-requires g c =
    let d : Grid = after (g.V.Seen.position c.args.view.now) c.args.double.at in
    record {
      rising = λ answers at. replies-rising d (λ q. goes_on (outcome g.R.Rule.KIND d q)) answers
          (at ∙ c.as_slice.ensures.value ∙ c.in_ok-replies.ensures.all);
    }

pub returns-clause-win : goal.returns-clause-win
returns-clause-win g c =
    let b : Grid = g.V.Seen.position c.args.view.now in
    let all : c.as_slice.result.now ≡ replies_at g.R.Rule.KIND (after b c.args.double.at) = c.as_slice.ensures.value
    ∙ c.in_ok-replies.ensures.all in
    let threat = subst (IsDoubleThreat g.R.Rule.KIND b c.args.double.at c.args.double.first c.args.double.second) (sym all)
    (double-threat g.R.Rule.KIND b c.args.double c.side.ensures.lawful c.requires.wins) in
    IfOk-weaker c.double.result
    (λ win. (rule : RuleKind) (b : Grid)
    → IsDoubleThreat rule b c.args.double.at c.args.double.first c.args.double.second c.as_slice.result.now
    → IsWrittenWin rule 2 b c.double.new.self win)
    (λ win. (moves : ℕ) → 2 ≤ moves → IsThreatWin g.R.Rule.KIND moves b c.double.new.self win)
    (λ win h moves l. threat-win g.R.Rule.KIND c.double.new.self win 2 moves b (h g.R.Rule.KIND b threat) l
    (double-threats g.R.Rule.KIND b c.args.double c.side.ensures.lawful c.requires.wins moves l))
    c.double.ensures.win

pub returns-in_err-replies-clause-writes : goal.returns-in_err-replies-clause-writes
returns-in_err-replies-clause-writes g c = writes-memory _ _ _ _ (grows-not _ _ _ refl) (search rules)

pub returns-clause-writes : goal.returns-clause-writes
returns-clause-writes g c =
    let b : Grid = g.V.Seen.position c.args.view.now in
    let all : c.as_slice.result.now ≡ replies_at g.R.Rule.KIND (after b c.args.double.at) = c.as_slice.ensures.value
    ∙ c.in_ok-replies.ensures.all in
    subst (λ (k : ℕ). Writes c.args.compiler.now c.double.new.self k c.double.result)
    (ap (double_nodes c.args.double.first) all ∙ nodes-are g.R.Rule.KIND b c.args.double) c.double.ensures.writes
