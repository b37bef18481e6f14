use Rattle.std.proofs.Common.{◌∙◌, sym}
use Rattle.renju_io.proofs.LineLaws.{HasNoLineFeed-append, HasNoLineFeed-position, Tells-cut, cut_is_shorter}
use Rattle.renju_io.proofs.line_reader.LineReader.end_line.Goals as goal

pub returns-in_err-at-clause-open : goal.returns-in_err-at-clause-open
returns-in_err-at-clause-open c =
    let nowhere = rw c.deref.ensures.value at (sym c.first_line_feed.ensures.first ∙ c.in_err-at.was) in
    rw (c.from_residual.ensures, ← c.self.view_is) (HasNoLineFeed-append _ _ c.self.invariant.line_open (HasNoLineFeed-position _ nowhere))

pub returns-clause-told : goal.returns-clause-told
returns-clause-told c =
    let at_line_feed = rw c.deref.ensures.value at (sym c.first_line_feed.ensures.first ∙ c.in_ok-at.was) in
    let front = rw c.deref.ensures.value at c.append_front.ensures.front in
    let told = rw front at c.tell.ensures.told in
    rw (← c.self.view_is, told, c.tell.ensures.empty) (Tells-cut _ _ _ _ _ c.self.invariant.line_open at_line_feed)

pub returns-clause-shorter : goal.returns-clause-shorter
returns-clause-shorter c =
    let at_line_feed = rw c.deref.ensures.value at (sym c.first_line_feed.ensures.first ∙ c.in_ok-at.was) in
    rw (← c.self.view_is, c.tell.ensures.empty) (cut_is_shorter _ _ _ _ _ at_line_feed)
