use Rattle.std.proofs.Common.{◌≡◌, true}
use Rattle.std.specs.List.{list_all}
use Rattle.game_rules.proofs.Common.{is_on, points_of}
use Rattle.reply_cover.specs.Covers.{stands_at}
use Rattle.reply_cover.proofs.images.is_image.Given as goal

-- the points left are points of the board, and at each of them stands what is to stand there exactly where it does at all
abbrev pub invariant-loop-at : goal.invariant-loop-at
invariant-loop-at l = (list_all (is_on l.other) l.at-iterator ≡ true)
    × (list_all (stands_at l.fn.s l.board l.other) l.at-iterator ≡ list_all (stands_at l.fn.s l.board l.other) (points_of l.other))
