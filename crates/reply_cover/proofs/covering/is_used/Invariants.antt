use Rattle.std.proofs.Common.{◌≡◌}
use Rattle.std.specs.List.{list_any}
use Rattle.reply_cover.specs.Covers.{answers, is_used}
use Rattle.reply_cover.proofs.covering.is_used.Given as goal

-- the position is as before; the part answers one of the replies left exactly where it answers one of all
abbrev pub invariant-loop-q : goal.invariant-loop-q
invariant-loop-q g l = (l.position ≡ l.fn.position)
    × (list_any (λ q. answers g.R.Rule.KIND l.fn.position q l.part) l.q-iterator ≡ is_used g.R.Rule.KIND l.fn.position l.part)
