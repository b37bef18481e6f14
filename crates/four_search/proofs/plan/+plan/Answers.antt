use Rattle.std.proofs.Common.{rules, ◌≡◌, ◌-◌, ◌+◌, ◌*◌, false, ap, sym, ◌∙◌, arith}
use Rattle.game_rules.proofs.Common.{Grid, IsPosition, after, mover, outcome, has_five, five_points}
use Rattle.game_rules.specs.declared.Point.{Point}
use Rattle.game_rules.proofs.Positions.{IsPosition-after}
use Rattle.game_rules.proofs.Undo.{stone_back, lift_back, unwon_back}
use Rattle.game_rules.proofs.Fives.{no-fives}
use Rattle.game_rules.proofs.Games.{wins-some}
use Rattle.strategy_compiler.proofs.Growing.{writes-then, writes-then-fails, writes-more, stands-grown}
use Rattle.four_search.proofs.Planning.{plan-some, plan-goes_on, plan-one, plan-wins, plan-block, plan-not-lost, plan-not-draw, chosen-last}
use Rattle.four_search.proofs.Planning.{line-some, plan-five, plan-four, one-safe}
use Rattle.four_search.proofs.plan.+plan.Goals as goal

pub compile_after-undo-requires-clause-stone : goal.compile_after-undo-requires-clause-stone
compile_after-undo-requires-clause-stone g t c =
    let b : Grid = g.V.Seen.position c.args.view.now in
    let lawful : IsPosition g.R.Rule.KIND (after b c.args.exchange.four) =
    IsPosition-after _ _ _ c.play.ensures.lawful c.requires.goes_on in
    stone_back _ _ _ _ lawful c.requires.block
    (c.compile-node.ensures.same ∙ c.play-2.ensures.played ∙ ap (λ (w : Grid). after w c.args.exchange.block) c.play.ensures.played)

pub compile_after-undo-requires-clause-unwon : goal.compile_after-undo-requires-clause-unwon
compile_after-undo-requires-clause-unwon g t c =
    let b : Grid = g.V.Seen.position c.args.view.now in
    let lawful : IsPosition g.R.Rule.KIND (after b c.args.exchange.four) =
    IsPosition-after _ _ _ c.play.ensures.lawful c.requires.goes_on in
    unwon_back _ _ _ _ lawful c.requires.block
    (c.compile-node.ensures.same ∙ c.play-2.ensures.played ∙ ap (λ (w : Grid). after w c.args.exchange.block) c.play.ensures.played)

pub compile_after-undo-requires-2-clause-stone : goal.compile_after-undo-requires-2-clause-stone
compile_after-undo-requires-2-clause-stone g t c =
    let b : Grid = g.V.Seen.position c.args.view.now in
    let lawful : IsPosition g.R.Rule.KIND (after b c.args.exchange.four) =
    IsPosition-after _ _ _ c.play.ensures.lawful c.requires.goes_on in
    let back = c.undo.ensures.undone ∙ lift_back _ _ _ _ lawful c.requires.block
    (c.compile-node.ensures.same ∙ c.play-2.ensures.played ∙ ap (λ (w : Grid). after w c.args.exchange.block) c.play.ensures.played) in
    stone_back _ _ _ _ c.play.ensures.lawful c.requires.goes_on back

pub compile_after-undo-requires-2-clause-unwon : goal.compile_after-undo-requires-2-clause-unwon
compile_after-undo-requires-2-clause-unwon g t c =
    let b : Grid = g.V.Seen.position c.args.view.now in
    let lawful : IsPosition g.R.Rule.KIND (after b c.args.exchange.four) =
    IsPosition-after _ _ _ c.play.ensures.lawful c.requires.goes_on in
    let back = c.undo.ensures.undone ∙ lift_back _ _ _ _ lawful c.requires.block
    (c.compile-node.ensures.same ∙ c.play-2.ensures.played ∙ ap (λ (w : Grid). after w c.args.exchange.block) c.play.ensures.played) in
    unwon_back _ _ _ _ c.play.ensures.lawful c.requires.goes_on back

pub compile_after-returns-clause-same : goal.compile_after-returns-clause-same
compile_after-returns-clause-same g t c =
    let b : Grid = g.V.Seen.position c.args.view.now in
    let lawful : IsPosition g.R.Rule.KIND (after b c.args.exchange.four) =
    IsPosition-after _ _ _ c.play.ensures.lawful c.requires.goes_on in
    let back = c.undo.ensures.undone ∙ lift_back _ _ _ _ lawful c.requires.block
    (c.compile-node.ensures.same ∙ c.play-2.ensures.played ∙ ap (λ (w : Grid). after w c.args.exchange.block) c.play.ensures.played) in
    c.undo-2.ensures.undone ∙ lift_back _ _ _ _ c.play.ensures.lawful c.requires.goes_on back

pub compile-returns-in-len1-up-clause-stands : goal.compile-returns-in-len1-up-clause-stands
compile-returns-in-len1-up-clause-stands g t c =
    let b : Grid = g.V.Seen.position c.args.view.now in
    let nowhere : Point = record { x = 0; y = 0 } in
    let points = c.as_slice.ensures.items ∙ c.in-Ok.ensures.fives ∙ ap (five_points g.R.Rule.KIND b) c.side-attacker.ensures.side in
    plan-five _ _ _ c.as_slice.result.now nowhere _ _ points c.in-len1-up.len_at_least (wins-some _ _ _ c.requires.wins)
    c.leaf.ensures.stands

pub compile-returns-in-len1-up-clause-writes : goal.compile-returns-in-len1-up-clause-writes
compile-returns-in-len1-up-clause-writes g t c =
    let some = wins-some _ _ _ c.requires.wins in
    writes-more _ _ 1 _ _ c.leaf.ensures.writes (omega (arith, some))

pub compile-unreachable-requires : goal.compile-unreachable-requires
compile-unreachable-requires g t c =
    let b : Grid = g.V.Seen.position c.args.view.now in
    let points = c.as_slice.ensures.items ∙ c.in-Ok.ensures.fives ∙ ap (five_points g.R.Rule.KIND b) c.side-attacker.ensures.side in
    let none : has_five g.R.Rule.KIND b (mover b) ≡ false = no-fives g.R.Rule.KIND b c.as_slice.result.now points c.in-empty.len_below in
    line-some _ _ _ _ c.side-attacker.ensures.lawful none c.requires.wins c.requires.line c.in-None.ensures.cases

pub compile-compile_four-requires : goal.compile-compile_four-requires
compile-compile_four-requires g t c =
    let b : Grid = g.V.Seen.position c.args.view.now in
    let points = c.as_slice.ensures.items ∙ c.in-Ok.ensures.fives ∙ ap (five_points g.R.Rule.KIND b) c.side-attacker.ensures.side in
    let none : has_five g.R.Rule.KIND b (mover b) ≡ false = no-fives g.R.Rule.KIND b c.as_slice.result.now points c.in-empty.len_below in
    let last = chosen-last _ _ _ _ _ _ c.side-attacker.ensures.lawful none c.requires.wins c.requires.line c.in-Some.ensures.cases.0 in
    let chosen = last.0 in
    let line = last.1 in
    search rules

pub compile_four-forced-requires : goal.compile_four-forced-requires
compile_four-forced-requires g t c =
    record {
      four = plan-four _ _ _ _ c.requires.lawful c.requires.five c.requires.chosen;
    }

pub compile_four-unreachable-requires : goal.compile_four-unreachable-requires
compile_four-unreachable-requires g t c =
    plan-not-lost _ _ _ _ c.requires.lawful c.requires.five c.requires.chosen (sym c.in-Lost.ensures.answer)

pub compile_one-overflow_sub-moves : goal.compile_one-overflow_sub-moves
compile_one-overflow_sub-moves g t c =
    let some = plan-some _ _ _ _ c.requires.lawful c.requires.five c.requires.chosen in
    omega (arith, some)

pub compile_one-compile_after-requires : goal.compile_one-compile_after-requires
compile_one-compile_after-requires g t c =
    let goes_on = plan-goes_on _ _ _ _ c.requires.lawful c.requires.five c.requires.chosen in
    let block = plan-block _ _ _ _ c.requires.lawful c.requires.five c.requires.chosen _ c.requires.one in
    let both = plan-wins _ _ _ _ c.requires.lawful c.requires.five c.requires.chosen _ c.requires.one in
    let wins = both.0 in
    let more = both.1 in
    let some = plan-some _ _ _ _ c.requires.lawful c.requires.five c.requires.chosen in
    search rules

pub compile_one-returns-in_err-beside-clause-writes : goal.compile_one-returns-in_err-beside-clause-writes
compile_one-returns-in_err-beside-clause-writes g t c =
    let some = plan-some _ _ _ _ c.requires.lawful c.requires.five c.requires.chosen in
    writes-then-fails _ _ _ _ 1 _ _ _ _ c.in_ok-at_block.ensures.writes c.in_err-beside.ensures.writes (omega (arith, some)) (search rules)

pub compile_one-block_node-requires-clause-safe : goal.compile_one-block_node-requires-clause-safe
compile_one-block_node-requires-clause-safe g t c =
    ap (λ (w : Grid). has_five g.R.Rule.KIND (after w c.args.exchange.four) (mover (after w c.args.exchange.four)))
    c.in_ok-at_block.ensures.same ∙ one-safe _ _ _ c.requires.one

pub compile_one-block_node-requires-clause-goes_on : goal.compile_one-block_node-requires-clause-goes_on
compile_one-block_node-requires-clause-goes_on g t c =
    ap (λ (w : Grid). outcome g.R.Rule.KIND w c.args.exchange.four) c.in_ok-at_block.ensures.same
    ∙ plan-goes_on _ _ _ _ c.requires.lawful c.requires.five c.requires.chosen

pub compile_one-returns-clause-stands : goal.compile_one-returns-clause-stands
compile_one-returns-clause-stands g t c =
    let both = plan-wins _ _ _ _ c.requires.lawful c.requires.five c.requires.chosen _ c.requires.one in
    let at_block = stands-grown c.growth_keeps_trees.ensures.same _ _ 1 c.in_ok-beside.ensures.writes.grows _ _
    c.in_ok-at_block.ensures.stands in
    plan-one _ _ _ _ c.requires.lawful c.requires.five c.requires.chosen _ _ _ _ c.in_ok-at_block.ensures.same _ c.requires.one both.1 _ _
    at_block c.in_ok-beside.ensures.stands c.block_node.ensures.stands

pub compile_one-returns-clause-writes : goal.compile_one-returns-clause-writes
compile_one-returns-clause-writes g t c =
    let some = plan-some g.R.Rule.KIND c.args.moves (g.V.Seen.position c.args.view.now) c.args.exchange.four c.requires.lawful
    c.requires.five
    c.requires.chosen in
    writes-then _ _ _ (2 * (c.args.moves - 1) + 1) 1 _ _ _
    (writes-then _ _ _ (2 * (c.args.moves - 1)) 1
    (2 * (c.args.moves - 1) + 1) _ _ c.in_ok-at_block.ensures.writes c.in_ok-beside.ensures.writes (omega arith))
    c.block_node.ensures.writes (omega (arith, some))

pub compile_four-unreachable-requires-in-Draw : goal.compile_four-unreachable-requires-in-Draw
compile_four-unreachable-requires-in-Draw g t c =
    plan-not-draw _ _ _ _ c.requires.lawful c.requires.five c.requires.chosen _ (sym c.in-Draw.ensures.answer)
