use Rattle.std.proofs.Common.{rules, ◌≡◌, ◌∙◌, ℕ, sym, ap, arith}
use Rattle.proof_number.proofs.Common.{is_settled, threat_tree, HasEnded, HasStepped}
use Rattle.strategy_compiler.proofs.Growing.{writes-fails, writes-tells}
use Rattle.proof_number.proofs.Ending.{begun-room, closed-few, leaves-told, root-noted, steps-write, told-denial, told-lost, told-none}
use Rattle.proof_number.proofs.Ending.{told-proved, told-tree, told-win, told-disproved}
use Rattle.proof_number.proofs.StepLaws.{aim-then, on-done, on-spent, searched-tree}
use Rattle.proof_number.proofs.Opening.{searching-facts}
use Rattle.proof_number.proofs.RunningOut.{out-aim, so-far-tree, tree-aim}
use Rattle.proof_number.proofs.search.Search.run.Goals as goal

pub returns-in_err-begin-clause-told : goal.returns-in_err-begin-clause-told
returns-in_err-begin-clause-told g c =
    let begun = c.in_err-begin.ensures.begun in
    let one = c.requires.begins.one_node in
    let still = begun.one_node in
    record {
      true_answer = search rules;
      root = search rules;
      leaves = leaves-told g.R.Rule.KIND c.args.self.now c.requires.begins.new.before_is begun.tree (omega (arith, one, still))
          (search rules)
          (writes-fails _ _ _ _ _ _ begun.writes (begun-room g.R.Rule.KIND c.requires.begins) (search rules));
      searched = search rules;
    }

pub loop-self-init : goal.loop-self-init
loop-self-init g c =
    let begun = c.in_ok-begin.ensures.begun in
    let new = c.requires.begins.new in
    let one = c.requires.begins.one_node in
    let still = begun.one_node in
    record {
      searching = begun.searching;
      aim = begun.aim;
      view = c.begin.ensures.same;
      board = begun.board ∙ new.board_is ∙ sym (begun.aim.root ∙ new.root_is);
      longer = omega (arith, one, still);
      writes = writes-tells _ _ _ _ _ tt begun.writes (begun-room g.R.Rule.KIND c.requires.begins);
    }

pub step-requires-clause-view : goal.step-requires-clause-view
step-requires-clause-view g c =
    let inv = c.loop-self.invariant in
    inv.view ∙ sym (inv.aim.root ∙ c.requires.begins.new.root_is)

-- ---- a step that is done

pub loop-self-preserved : goal.loop-self-preserved
loop-self-preserved g c =
    let inv = c.loop-self.invariant in
    let step = c.in_ok-step.ensures.step in
    let came = on-done c.in_ok-step.field-0 (HasStepped g.R.Rule.KIND c.step.new.self c.loop-self.tree c.step.new.tree c.step.new.compiler)
    (HasEnded g.R.Rule.KIND c.loop-self.self c.step.new.self c.step.new.tree c.step.new.compiler) (Unit {0}) c.in-Done.is step.came in
    let longer = step.longer in
    let before = inv.longer in
    record {
      searching = came.searching;
      aim = record {
        depth = step.aim.depth ∙ inv.aim.depth;
        budget = step.aim.budget ∙ inv.aim.budget;
        before = step.aim.before ∙ inv.aim.before;
        root = step.aim.root ∙ inv.aim.root;
      };
      view = c.step.ensures.view ∙ inv.aim.root ∙ c.requires.begins.new.root_is;
      board = step.board ∙ sym step.aim.root;
      longer = omega (arith, longer, before);
      writes = writes-tells _ _ _ _ c.in_ok-step.field-0 tt (steps-write g.R.Rule.KIND inv.aim inv.writes step.writes) (omega arith);
    }

pub loop-self-smaller : goal.loop-self-smaller
loop-self-smaller g c =
    let step = c.in_ok-step.ensures.step in
    let came = on-done c.in_ok-step.field-0 (HasStepped g.R.Rule.KIND c.step.new.self c.loop-self.tree c.step.new.tree c.step.new.compiler)
    (HasEnded g.R.Rule.KIND c.loop-self.self c.step.new.self c.step.new.tree c.step.new.compiler) (Unit {0}) c.in-Done.is step.came in
    let more = came.progress in
    let few = closed-few came.searching in
    let same = step.aim.budget in
    omega (arith, more, few, same)

-- ---- a step that fails, or is over the budget

pub returns-in_err-step-clause-told : goal.returns-in_err-step-clause-told
returns-in_err-step-clause-told g c =
    let inv = c.loop-self.invariant in
    let step = c.in_err-step.ensures.step in
    let longer = step.longer in
    let before = inv.longer in
    record {
      true_answer = search rules;
      root = search rules;
      leaves = leaves-told g.R.Rule.KIND c.args.self.now c.requires.begins.new.before_is step.tree (omega (arith, longer, before))
          (search rules)
          (writes-fails _ _ _ _ _ _ (steps-write g.R.Rule.KIND inv.aim inv.writes step.writes) (omega arith) (search rules));
      searched = search rules;
    }

pub returns-in_err-step-clause-same : goal.returns-in_err-step-clause-same
returns-in_err-step-clause-same g c = c.step.ensures.view ∙ c.loop-self.invariant.aim.root ∙ c.requires.begins.new.root_is

pub returns-in-Spent-clause-told : goal.returns-in-Spent-clause-told
returns-in-Spent-clause-told g c =
    let rule = g.R.Rule.KIND in
    let s = c.args.self.now in
    let inv = c.loop-self.invariant in
    let step = c.in_ok-step.ensures.step in
    let came = on-spent c.in_ok-step.field-0 (HasStepped rule c.step.new.self c.loop-self.tree c.step.new.tree c.step.new.compiler)
    (HasEnded rule c.loop-self.self c.step.new.self c.step.new.tree c.step.new.compiler) (Unit {0}) c.in-Spent.is step.came in
    let longer = step.longer in
    let before = inv.longer in
    let aim = aim-then s c.loop-self.self c.step.new.self inv.aim step.aim in
    let positions : threat_tree rule c.loop-self.self.depth c.loop-self.self.root ≡ threat_tree rule s.depth s.root =
    ap (λ (n : ℕ). threat_tree rule n c.loop-self.self.root) inv.aim.depth ∙ ap (threat_tree rule s.depth) inv.aim.root in
    let budget = inv.aim.budget in
    let spent = came.spent in
    record {
      true_answer = (
        omega (arith, spent, positions, budget),
        out-aim inv.aim came.ran_out,
      );
      root = came.ran_out.undecided;
      leaves = leaves-told g.R.Rule.KIND c.args.self.now c.requires.begins.new.before_is step.tree (omega (arith, longer, before))
          (told-tree came.searching s.depth s.budget s.root aim.depth aim.budget aim.root)
          (writes-tells _ _ _ _ c.in_ok-step.field-0 _ (steps-write rule inv.aim inv.writes step.writes) (omega arith));
      searched = tree-aim aim (so-far-tree (searching-facts came.searching));
    }

pub returns-in-Spent-clause-same : goal.returns-in-Spent-clause-same
returns-in-Spent-clause-same g c = c.step.ensures.view ∙ c.loop-self.invariant.aim.root ∙ c.requires.begins.new.root_is

-- ---- the root is settled

pub index-requires : goal.index-requires
index-requires g c = let low = root-noted c.loop-self.invariant.searching in omega (arith, low)

pub returns-in-Some-clause-told : goal.returns-in-Some-clause-told
returns-in-Some-clause-told g c =
    let s = c.args.self.now in
    let inv = c.loop-self.invariant in
    record {
      true_answer = told-win inv.searching s.depth s.root inv.aim.depth inv.aim.root c.index.result.now c.index.ensures c.in-Some.win
          c.in-Some.ensures.win;
      root = told-proved inv.searching s.depth s.root inv.aim.depth inv.aim.root c.index.result.now c.index.ensures c.in-Some.win
          c.in-Some.ensures.win
          (ap is_settled (sym c.numbers.ensures.numbers) ∙ sym c.is_settled.ensures.settled ∙ c.loop-self-test.false);
      leaves = leaves-told g.R.Rule.KIND c.args.self.now c.requires.begins.new.before_is (searched-tree inv.searching) inv.longer
          (told-tree inv.searching s.depth s.budget s.root inv.aim.depth inv.aim.budget inv.aim.root)
          (writes-tells _ _ _ _ tt _ inv.writes (omega arith));
      searched = tree-aim inv.aim (so-far-tree (searching-facts inv.searching));
    }

pub returns-in-None-clause-told : goal.returns-in-None-clause-told
returns-in-None-clause-told g c =
    let s = c.args.self.now in
    let inv = c.loop-self.invariant in
    let settled = ap is_settled (sym c.numbers.ensures.numbers) ∙ sym c.is_settled.ensures.settled ∙ c.loop-self-test.false in
    record {
      true_answer = (
        told-none inv.searching s.depth s.root inv.aim.depth inv.aim.root c.index.result.now c.index.ensures c.in-None.ensures.win settled,
        told-denial inv.searching s.depth s.root inv.aim.depth inv.aim.root c.index.result.now c.index.ensures s.budget inv.aim.budget
            c.in-None.ensures.win settled,
        told-disproved inv.searching s.depth s.root inv.aim.depth inv.aim.root c.index.result.now c.index.ensures s.budget inv.aim.budget
            c.requires.begins.some_depth c.in-None.ensures.win settled,
      );
      root = told-lost inv.searching s.depth s.root inv.aim.depth inv.aim.root c.index.result.now c.index.ensures c.in-None.ensures.win
          settled;
      leaves = leaves-told g.R.Rule.KIND c.args.self.now c.requires.begins.new.before_is (searched-tree inv.searching) inv.longer
          (told-tree inv.searching s.depth s.budget s.root inv.aim.depth inv.aim.budget inv.aim.root)
          (writes-tells _ _ _ _ tt _ inv.writes (omega arith));
      searched = tree-aim inv.aim (so-far-tree (searching-facts inv.searching));
    }
