use Rattle.std.proofs.Common.{rules, ◌∙◌, refl}
use Rattle.game_rules.proofs.Common.{Grid}
use Rattle.strategy_compiler.proofs.Growing.{writes-memory}
use Rattle.defence_finder.proofs.Gathering.{walk-added, walk-all, walk-fails, walk-first, walk-grown, walk-spent}
use Rattle.defence_finder.proofs.finder.walk.Goals as goal

-- ---- before the first move

pub loop-q-init : goal.loop-q-init
loop-q-init g c =
    let b : Grid = g.V.Seen.position c.args.view.now in
    let question = c.args.question.now in
    record {
      same = refl;
      walk = rw (c.requires.no_good, c.requires.no_bad)
          (walk-first g.R.Rule.KIND question.depth question.budget b c.args.compiler.now c.len.ensures.compiled _ (search rules));
    }

-- ---- one move more

pub loop-q-preserved : goal.loop-q-preserved
loop-q-preserved g c =
    let b : Grid = g.V.Seen.position c.args.view.now in
    let v : Grid = g.V.Seen.position c.loop-q.view in
    let question = c.args.question.now in
    let writes = c.in_ok-verdict.ensures.writes in
    record {
      same = c.in_ok-verdict.ensures.same ∙ c.loop-q.invariant.same;
      walk = walk-added g.R.Rule.KIND question.depth question.budget b v c.loop-q.invariant.same _ _ _ c.loop-q.found c.add.new.self
          c.in-Some.q _ _ c.in-Some.ensures.steps c.loop-q.invariant.walk writes.grows writes.compiled _ c.in_default.not-Spent
          c.in_ok-verdict.ensures.verdict c.in_ok-add-in_default.ensures.added;
    }

-- ---- a move that could not be judged, or not be added

pub returns-in_err-verdict-clause-writes : goal.returns-in_err-verdict-clause-writes
returns-in_err-verdict-clause-writes g c =
    let b : Grid = g.V.Seen.position c.args.view.now in
    let v : Grid = g.V.Seen.position c.loop-q.view in
    let question = c.args.question.now in
    walk-fails g.R.Rule.KIND question.depth question.budget b v c.loop-q.invariant.same _ _ _ c.loop-q.found.good c.loop-q.found.bad
    c.in-Some.q _ _ c.in-Some.ensures.steps c.loop-q.invariant.walk c.in_err-verdict.ensures.writes.grows _ _
    c.in_err-verdict.ensures.writes
    (search rules)

pub returns-in_err-add-in_default-clause-writes : goal.returns-in_err-add-in_default-clause-writes
returns-in_err-add-in_default-clause-writes g c =
    let b : Grid = g.V.Seen.position c.args.view.now in
    let v : Grid = g.V.Seen.position c.loop-q.view in
    let question = c.args.question.now in
    let grown = walk-grown g.R.Rule.KIND question.depth question.budget b v c.loop-q.invariant.same _ _ _ c.loop-q.found.good
    c.loop-q.found.bad c.in-Some.q _ _ c.in-Some.ensures.steps c.loop-q.invariant.walk c.in_ok-verdict.ensures.writes.grows in
    writes-memory _ _ _ _ grown (search rules)

-- ---- the budget does not suffice

pub returns-in-Spent-clause-walked : goal.returns-in-Spent-clause-walked
returns-in-Spent-clause-walked g c =
    let b : Grid = g.V.Seen.position c.args.view.now in
    let v : Grid = g.V.Seen.position c.loop-q.view in
    let question = c.args.question.now in
    walk-spent g.R.Rule.KIND question.depth question.budget b v c.loop-q.invariant.same _ _ _ c.loop-q.found.good c.loop-q.found.bad
    c.in-Some.q _ _ c.in-Some.ensures.steps c.loop-q.invariant.walk c.in_ok-verdict.ensures.writes.grows _ c.in_ok-verdict.ensures.verdict
    c.in-Spent.is

-- ---- after the last move

pub returns-clause-walked : goal.returns-clause-walked
returns-clause-walked g c =
    let question = c.args.question.now in
    walk-all g.R.Rule.KIND question.depth question.budget (g.V.Seen.position c.args.view.now) _ _ c.loop-q.found.good c.loop-q.found.bad _
    (search rules) c.loop-q.invariant.walk
