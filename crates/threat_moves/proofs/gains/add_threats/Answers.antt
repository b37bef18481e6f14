use Rattle.std.proofs.Common.{ℕ, ◌++◌, ◌<◌, List, sym, ap, subst, ◌∙◌}
use Rattle.std.proofs.lemmas.List.{append-nil}
use Rattle.row_shapes.specs.Reach.{stones_in_reach}
use Rattle.threat_moves.specs.declared.threat_list.Threat.{Threat}
use Rattle.threat_moves.proofs.GainLaws.{few-no_threats}
use Rattle.threat_moves.proofs.gains.add_threats.Goals as goal

pub returns-then-stones_in_reach-lt2-clause-added : goal.returns-then-stones_in_reach-lt2-clause-added
returns-then-stones_in_reach-lt2-clause-added g c =
    let few : stones_in_reach c.args.board.now c.args.side c.args.axis c.args.gain < 2 =
    subst (λ (n : ℕ). n < 2) c.stones_in_reach.ensures.reach c.if-stones_in_reach-lt2.true in
    sym (append-nil c.args.found.now) ∙ ap (λ (ts : List Threat). c.args.found.now ++ ts)
    (sym (few-no_threats g.R.Rule.KIND c.args.board.now c.args.side c.args.axis c.args.gain c.requires.board c.requires.stone few))
