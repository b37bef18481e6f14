use Rattle.std.proofs.Common.{◌≡◌, ◌≤◌, ◌+◌, drop, length, max}
use Rattle.reply_cover.specs.Covers.{most_moves, used_parts}
use Rattle.reply_cover.proofs.covering.count_used.Given as goal

-- the position is as before; those counted, and those left that answer a reply, are all
abbrev pub invariant-loop-part : goal.invariant-loop-part
invariant-loop-part g l = record {
  same : l.position ≡ l.fn.position;
  few : l.tally.parts ≤ l.part-index;
  parts : l.tally.parts + length (used_parts g.R.Rule.KIND (drop l.part-index l.parts) l.fn.position)
      ≡ length (used_parts g.R.Rule.KIND l.parts l.fn.position);
  moves : max l.tally.moves (most_moves (used_parts g.R.Rule.KIND (drop l.part-index l.parts) l.fn.position))
      ≡ most_moves (used_parts g.R.Rule.KIND l.parts l.fn.position);
}
