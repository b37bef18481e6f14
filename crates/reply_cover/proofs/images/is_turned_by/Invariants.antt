use Rattle.std.proofs.Common.{◌≡◌, drop}
use Rattle.std.specs.List.{list_any}
use Rattle.reply_cover.specs.Covers.{is_image}
use Rattle.reply_cover.proofs.images.is_turned_by.Given as goal

-- it is the image under one of the symmetries left exactly where it is under one of all
abbrev pub invariant-loop-s : goal.invariant-loop-s
invariant-loop-s l = list_any (λ s. is_image s l.board l.other) (drop l.s-index l.symmetries)
    ≡ list_any (λ s. is_image s l.board l.other) l.symmetries
