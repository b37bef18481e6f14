use Rattle.std.proofs.Common.{◌≡◌, ◌∙◌, ap, subst, sym, true, List}
use Rattle.std.specs.List.{list_all}
use Rattle.game_rules.proofs.Common.{is_on}
use Rattle.game_rules.proofs.Places.{points_on}
use Rattle.game_rules.specs.declared.Point.{Point}
use Rattle.reply_cover.specs.Covers.{stands_at}
use Rattle.reply_cover.proofs.images.is_image.Goals as goal

pub loop-at-init : goal.loop-at-init
loop-at-init c =
    let all = c.into_iter-at-iterator.ensures.into_iter_gives ∙ c.points-at-items.ensures.points in (
      subst (λ (ps : List Point). list_all (is_on c.args.other.now) ps ≡ true) (sym all) (points_on c.args.other.now),
      ap (list_all (stands_at c.args.s c.args.board.now c.args.other.now)) all,
    )
