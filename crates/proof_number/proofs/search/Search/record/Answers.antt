use Rattle.std.proofs.Common.{◌≡◌, ◌∙◌, ◌<◌, sym, ap, arith, length, Option, IfSome, subst}
use Rattle.proof_number.proofs.Common.{Settled, no_note, GameTree, board_at, left_at, IsTrueOf, game_of}
use Rattle.proof_number.proofs.GameTruths.{noted-left}
use Rattle.strategy_compiler.proofs.Growing.{writes-tells}
use Rattle.proof_number.proofs.Recording.{above-inside, keeps-then, kept-searches, passed-fails, passed-tells, remembered-keeps}
use Rattle.proof_number.proofs.search.Search.record.Goals as goal

pub index-requires : goal.index-requires
index-requires g c =
    let low = above-inside c.in-Ok-Some.ensures.passed.searching c.requires.in_tree in
    omega (arith, low)

pub returns-in-Err : goal.returns-in-Err
returns-in-Err g c = record { passed = passed-fails c.in-Err.ensures.passed }

pub returns-in-Ok-None : goal.returns-in-Ok-None
returns-in-Ok-None g c = record { passed = passed-tells _ c.in-Ok-None.ensures.passed }

pub returns-in-Ok-Some : goal.returns-in-Ok-Some
returns-in-Ok-Some g c =
    let places : game_of g.R.Rule.KIND c.value_at.new.self c.args.tree.now ≡ game_of g.R.Rule.KIND c.args.self.now c.args.tree.now =
    c.value_at.ensures.passed.keeps.places g.R.Rule.KIND c.args.tree.now in
    let low : c.args.node < length c.value_at.new.self.notes.items =
    above-inside c.in-Ok-Some.ensures.passed.searching c.requires.in_tree in
    let P : Option Settled → Type 0 = λ o. IfSome o
    (IsTrueOf g.R.Rule.KIND c.value_at.new.compiler (game_of g.R.Rule.KIND c.args.self.now c.args.tree.now)
    (board_at (game_of g.R.Rule.KIND c.args.self.now c.args.tree.now) c.args.node)
    (left_at (game_of g.R.Rule.KIND c.args.self.now c.args.tree.now).left c.args.node)) in
    let before : IsTrueOf g.R.Rule.KIND c.value_at.new.compiler (game_of g.R.Rule.KIND c.args.self.now c.args.tree.now)
    (board_at (game_of g.R.Rule.KIND c.args.self.now c.args.tree.now) c.args.node)
    (left_at (game_of g.R.Rule.KIND c.args.self.now c.args.tree.now).left c.args.node) c.in-Ok-Some.value =
    subst P c.in-Ok-Some.field-0-is c.in-Ok-Some.ensures.value in
    record {
      passed = record {
        searching = kept-searches c.in-Ok-Some.ensures.passed.searching
            c.remember.new.self (g.V.Seen.position c.args.view.now) c.index.result.now.left c.in-Ok-Some.value c.requires.in_tree
            c.remember.ensures.rest (c.requires.view ∙ sym (ap (λ (w : GameTree). board_at w c.args.node) places))
            (sym (noted-left c.value_at.new.self.notes.items c.args.node c.index.result.now no_note low c.index.ensures))
            (subst (λ (w : GameTree). IsTrueOf g.R.Rule.KIND c.value_at.new.compiler w (board_at w c.args.node) (left_at w.left c.args.node)
            c.in-Ok-Some.value) (sym places) before) c.remember.ensures.settled;
        keeps = keeps-then c.args.self.now c.value_at.new.self c.remember.new.self c.value_at.ensures.passed.keeps
            (remembered-keeps c.value_at.new.self c.remember.new.self c.remember.ensures.rest);
        writes = writes-tells _ _ _ _ c.in-Ok-Some.field-0 _ c.in-Ok-Some.ensures.passed.writes (omega arith);
      };
    }
