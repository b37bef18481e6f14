use Rattle.std.proofs.Common.{◌≡◌, drop}
use Rattle.std.specs.List.{list_any}
use Rattle.reply_cover.specs.Covers.{answers}
use Rattle.reply_cover.proofs.covering.some_answers.Given as goal

-- the position is as before; one of the parts left answers exactly where one of all does
abbrev pub invariant-loop-part : goal.invariant-loop-part
invariant-loop-part g l = (l.position ≡ l.fn.position) × (list_any (answers g.R.Rule.KIND l.fn.position l.q) (drop l.part-index l.parts)
    ≡ list_any (answers g.R.Rule.KIND l.fn.position l.q) l.parts)
