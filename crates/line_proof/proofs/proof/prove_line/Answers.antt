use Rattle.std.proofs.Common.{◌≡◌, ◌↔◌, ℕ, ◌+◌, ◌<◌, true, false, Bool, refl, sym, ◌∙◌, List}
use Rattle.std.proofs.lemmas.Result.{IfOk-weaker}
use Rattle.game_rules.proofs.Common.{Grid}
use Rattle.game_rules.specs.declared.RuleKind.{RuleKind}
use Rattle.strategy_graph.specs.declared.Node.{Node}
use Rattle.strategy_compiler.proofs.Common.{IsWrittenWin}
use Rattle.line_proof.specs.declared.proof.LineAnswer.{LineAnswer}
use Rattle.line_proof.specs.declared.proof.LineAnswer.TheVariants.{Proved, Fails}
use Rattle.line_proof.proofs.Common.{IsTold, OnProved, line_wins}
use Rattle.line_proof.proofs.proof.prove_line.Goals as goal

proved-by : (rule : RuleKind) (n : ℕ) (b : Grid) (t : List Node) (wins : Bool) (a : LineAnswer) → IsTold rule n b t wins a
    → OnProved a (IsWrittenWin rule n b t)
proved-by rule n b t wins (Proved win) told = told.1
proved-by rule n b t wins Fails told = tt

fails-by : (rule : RuleKind) (n : ℕ) (b : Grid) (t : List Node) (wins : Bool) (a : LineAnswer) → IsTold rule n b t wins a
    → (a ≡ Fails) ↔ (wins ≡ false)
fails-by rule n b t wins (Proved win) told = (λ e. absurd (cc), λ f. absurd (let no : true ≡ false = sym told.0 ∙ f in cc))
fails-by rule n b t wins Fails told = (λ e. told, λ f. refl)

pub returns-clause-proved : goal.returns-clause-proved
returns-clause-proved g c =
    let b : Grid = g.V.Seen.position c.args.view.now in
    let wins : Bool = line_wins g.R.Rule.KIND c.as_slice.result.now c.args.depth b in
    IfOk-weaker _ _ (λ (a : LineAnswer). OnProved a (IsWrittenWin g.R.Rule.KIND c.args.depth b c.prove.new.compiler))
    (λ a told. proved-by _ _ _ _ wins _ told) c.prove.ensures.told

pub returns-clause-fails : goal.returns-clause-fails
returns-clause-fails g c =
    let b : Grid = g.V.Seen.position c.args.view.now in
    let wins : Bool = line_wins g.R.Rule.KIND c.as_slice.result.now c.args.depth b in
    rw c.as_slice.ensures.items at
    (IfOk-weaker _ _ (λ (a : LineAnswer). (a ≡ Fails) ↔ (wins ≡ false))
    (λ a told. fails-by g.R.Rule.KIND c.args.depth b c.prove.new.compiler _ _ told) c.prove.ensures.told)

pub returns-clause-kept : goal.returns-clause-kept
returns-clause-kept g c = (c.prove.ensures.writes.grows.added, c.prove.ensures.writes.grows.is)

pub returns-clause-added : goal.returns-clause-added
returns-clause-added g c = rw c.as_slice.ensures.items at c.prove.ensures.writes.grows

pub returns-clause-full : goal.returns-clause-full
returns-clause-full g c = rw c.as_slice.ensures.items at c.prove.ensures.writes.full

pub returns-clause-full_now : goal.returns-clause-full_now
returns-clause-full_now g c = c.prove.ensures.writes.full_now
