-- The answers in brief, and what is made of them.
use Rattle.std.proofs.Common.{◌≡◌, true, ℕ, length, ap, sym, subst, ◌∙◌}
use Rattle.strategy_compiler.proofs.Common.{is_rising, names_below, completed_from, ArePlaces}
use Rattle.strategy_graph.proofs.Filling.{IsTable-lower}
use Rattle.strategy_compiler.proofs.Briefs.{brief-rising}
use Rattle.strategy_compiler.proofs.Starting.{brief-is, brief-below, visits-low, start-made}
use Rattle.strategy_compiler.proofs.starts.start_from.Goals as goal

pub made_from-requires-clause-in_table : goal.made_from-requires-clause-in_table
made_from-requires-clause-in_table c =
    let is = brief-is c.args.answers.now c.commonest_next-commonest.result c.in_ok-listed.listed c.rest_of-rest.result
    c.commonest_next-commonest.ensures.commonest c.in_ok-listed.ensures.others c.rest_of-rest.ensures.rest in
    visits-low (record { replies = c.in_ok-listed.listed; rest = c.rest_of-rest.result }) (length c.args.nodes.now) c.as_slice.result.now
    (c.as_slice.ensures.value ∙ c.in_ok-roots.ensures.visits)
    (brief-below c.args.answers.now _ (length c.args.nodes.now) is c.requires.below)

pub renumbered_start-requires-clause-below : goal.renumbered_start-requires-clause-below
renumbered_start-requires-clause-below c =
    let is = brief-is c.args.answers.now c.commonest_next-commonest.result c.in_ok-listed.listed c.rest_of-rest.result
    c.commonest_next-commonest.ensures.commonest c.in_ok-listed.ensures.others c.rest_of-rest.ensures.rest in
    let count : length c.as_slice-2.result.now ≡ length c.args.nodes.now =
    ap length c.as_slice-2.ensures.value ∙ c.in_ok-table.ensures.count in
    subst (λ (k : ℕ). names_below (record { replies = c.in_ok-listed.listed; rest = c.rest_of-rest.result }) k ≡ true) (sym count)
    (brief-below c.args.answers.now _ (length c.args.nodes.now) is c.requires.below)

pub renumbered_start-requires-clause-rising : goal.renumbered_start-requires-clause-rising
renumbered_start-requires-clause-rising c =
    let is = brief-is c.args.answers.now c.commonest_next-commonest.result c.in_ok-listed.listed c.rest_of-rest.result
    c.commonest_next-commonest.ensures.commonest c.in_ok-listed.ensures.others c.rest_of-rest.ensures.rest in
    (λ i. is_rising (sym is i).replies) ∙ brief-rising c.args.answers.now c.requires.rising

pub returns : goal.returns
returns c =
    let is = brief-is c.args.answers.now c.commonest_next-commonest.result c.in_ok-listed.listed c.rest_of-rest.result
    c.commonest_next-commonest.ensures.commonest c.in_ok-listed.ensures.others c.rest_of-rest.ensures.rest in
    let both = start-made c.args.nodes.now (IsTable-lower c.args.nodes.now c.requires.compiled.table) c.args.answers.now c.requires.rising
    (record { replies = c.in_ok-listed.listed; rest = c.rest_of-rest.result }) c.as_slice.result.now c.as_slice-2.result.now
    c.in_ok-table.field-0.table c.in_ok-start.start is (c.as_slice.ensures.value ∙ c.in_ok-roots.ensures.visits) c.in_ok-table.ensures.made
    (subst (ArePlaces (completed_from c.args.nodes.now c.as_slice.result.now)) (sym c.as_slice-2.ensures.value)
    c.in_ok-table.ensures.places) c.in_ok-start.ensures.start in
    record { made = both.0; branches = both.1; few = c.in_ok-table.ensures.made.few }
