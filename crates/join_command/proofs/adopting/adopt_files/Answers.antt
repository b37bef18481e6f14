-- File by file.
use Rattle.std.proofs.Common.{◌≡◌, ◌++◌, ◌∷◌, [], arith, rules}
use Rattle.std.proofs.lemmas.Grind.{common_steps}
use Rattle.join_command.proofs.Adopted.{adopted-further, grown-further}
use Rattle.join_command.proofs.adopting.adopt_files.Goals as goal

pub loop-file-preserved : goal.loop-file-preserved
loop-file-preserved c =
    let pushed : c.push.new.self.items ≡ c.loop-file.roots.items ++ c.in_ok-root.root ∷ [] =
    first_of (search rules, grind (arith, common_steps)) in
    record {
      adopted = adopted-further c.args.board.now c.args.nodes.now c.loop-file.nodes c.adopt_root.new.nodes c.args.files.now
          c.loop-file.roots.items c.loop-file.file-index c.file-item.result c.loop-file-test.true c.file-item.is c.in_ok-root.root
          c.push.new.self.items c.loop-file.invariant.compiled c.loop-file.invariant.adopted c.adopt_root.ensures.grows
          c.in_ok-root.ensures.adopted pushed;
      grows = grown-further c.args.board.now c.args.nodes.now c.loop-file.nodes c.adopt_root.new.nodes c.args.files.now
          c.loop-file.roots.items c.loop-file.file-index c.file-item.result c.loop-file-test.true c.file-item.is
          c.loop-file.invariant.grows c.adopt_root.ensures.grows;
      compiled = c.adopt_root.ensures.compiled;
      on_board = λ on. c.adopt_root.ensures.on_board (c.loop-file.invariant.on_board on);
    }
