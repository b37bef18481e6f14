use Rattle.std.proofs.Common.{◌≡◌, find}
use Rattle.game_rules.proofs.Common.{points_of}
use Rattle.reply_cover.specs.Covers.{is_open}
use Rattle.reply_cover.proofs.covering.first_open.Given as goal

-- the position is as before; the first open reply of those left is the first of all
abbrev pub invariant-loop-q : goal.invariant-loop-q
invariant-loop-q g l = (l.position ≡ l.fn.position) × (find (is_open g.R.Rule.KIND l.parts l.fn.position) l.q-iterator
    ≡ find (is_open g.R.Rule.KIND l.parts l.fn.position) (points_of l.fn.position))
