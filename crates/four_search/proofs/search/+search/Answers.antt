use Rattle.std.proofs.Common.{rules, ◌≡◌, ℕ, ◌+◌, ◌-◌, ◌<◌, true, false, ap, sym, ◌∙◌, arith, List}
use Rattle.std.proofs.Common.{◌∷◌, map, drop, get_or}
use Rattle.game_rules.proofs.Common.{Grid, is_empty, IsPosition, after, mover, other, outcome, has_fouls, has_five, five_points}
use Rattle.game_rules.specs.declared.Outcome.TheVariants.{GoesOn}
use Rattle.game_rules.proofs.Boards.{and_left, and_right}
use Rattle.game_rules.proofs.Positions.{GoesOn-empty, mover-other, mover-then}
use Rattle.game_rules.proofs.Undo.{stone_back, lift_back, unwon_back}
use Rattle.row_shapes.specs.FivePoints.{in_short}
use Rattle.row_shapes.specs.declared.fives.FivePoints.TheVariants.{None, One}
use Rattle.threat_moves.proofs.FourLaws.{one-goes_on}
use Rattle.threat_moves.proofs.Fates.{block-alone}
use Rattle.four_search.specs.declared.search.Found.{Found}
use Rattle.four_search.specs.declared.search.Found.TheVariants.{NoWin}
use Rattle.four_search.specs.declared.four_points.FourPoint.{FourPoint}
use Rattle.four_search.proofs.Common.{four_points_of, found_trying, found_behind, found_answering}
use Rattle.four_search.proofs.Listing.{drop-all, drop-next}
use Rattle.four_search.proofs.Trying.{found-four_points, ruled-out, each-four_point, not_taken, taken-safe, try_all, try_all-none, step_at}
use Rattle.four_search.proofs.Trying.{step-goes_on, step-ends, found-nothing, answering-no-more, behind-else, block-none, block-threat}
use Rattle.four_search.proofs.Trying.{block-last, behind-last, found-calm, trying-else, trying-goes}
use Rattle.four_search.proofs.Remembering.{denied-found, found-denied}
use Rattle.four_search.proofs.search.+search.Goals.{try_four_points-then-takes+in_ok-found+in-NoWin, try_four_points-else-takes}
use Rattle.four_search.proofs.search.+search.Goals as goal

pub after_block-returns-then-limits-eq0-clause-found :
    goal.after_block-returns-then-limits-eq0-clause-found
after_block-returns-then-limits-eq0-clause-found g t c = found-nothing _ _ _ _ c.if-limits-eq0.true

pub after_block-returns-then-not-has_fouls-clause-found :
    goal.after_block-returns-then-not-has_fouls-clause-found
after_block-returns-then-not-has_fouls-clause-found g t c =
    let calm = ap (has_fouls g.R.Rule.KIND) (sym c.side-defender.ensures.side) ∙ sym c.if-not-has_fouls.ensures.fouls in
    let fits = c.if-limits-eq0.false in
    block-last _ _ _ c.side-defender.ensures.lawful c.requires.goes_on c.requires.one _ _ c.if-limits-eq1.true (omega (arith, fits)) calm

pub after_block-fives_made-threat-requires-clause-empty :
    goal.after_block-fives_made-threat-requires-clause-empty
after_block-fives_made-threat-requires-clause-empty g t c = GoesOn-empty _ _ _ c.requires.goes_on

pub after_block-search_on-found-requires : goal.after_block-search_on-found-requires
after_block-search_on-found-requires g t c κs within =
    let b : Grid = g.V.Seen.position c.args.view.now in
    let lawful : IsPosition g.R.Rule.KIND b = c.side-defender.ensures.lawful in
    let fits : 0 < c.args.limits.budget = let some = c.if-limits-eq0.false in omega (arith, some) in
    let none : has_five g.R.Rule.KIND (g.V.Seen.position c.play.new.self) (mover (g.V.Seen.position c.play.new.self)) ≡ false =
    ap (λ (w : Grid). has_five g.R.Rule.KIND w (mover w)) c.play.ensures.played
    ∙ block-none _ _ _ lawful c.requires.goes_on c.requires.one in
    let threat : c.fives_made-threat.result ≡ in_short
    (five_points g.R.Rule.KIND (g.V.Seen.position c.play.new.self) (other (mover (g.V.Seen.position c.play.new.self)))) =
    c.fives_made-threat.ensures.made ∙ block-threat _ _ _ lawful c.requires.goes_on c.requires.one
    ∙ ap (λ (w : Grid). in_short (five_points g.R.Rule.KIND w (other (mover w)))) (sym c.play.ensures.played) in
    search rules

pub after_block-undo-requires-clause-stone : goal.after_block-undo-requires-clause-stone
after_block-undo-requires-clause-stone g t c =
    stone_back _ _ _ _ c.side-defender.ensures.lawful c.requires.goes_on (c.search_on-found.ensures.same ∙ c.play.ensures.played)

pub after_block-undo-requires-clause-unwon : goal.after_block-undo-requires-clause-unwon
after_block-undo-requires-clause-unwon g t c =
    unwon_back _ _ _ _ c.side-defender.ensures.lawful c.requires.goes_on (c.search_on-found.ensures.same ∙ c.play.ensures.played)

pub after_block-returns-clause-same : goal.after_block-returns-clause-same
after_block-returns-clause-same g t c =
    c.undo.ensures.undone ∙ lift_back _ _ _ _ c.side-defender.ensures.lawful c.requires.goes_on
    (c.search_on-found.ensures.same ∙ c.play.ensures.played)

pub answering-after_block-requires : goal.answering-after_block-requires
answering-after_block-requires g t c κs within =
    let b : Grid = g.V.Seen.position c.args.view.now in
    let d : Grid = g.V.Seen.position c.fate.new.view in
    let one = sym c.in-One.ensures.fate in
    let goes_on : outcome g.R.Rule.KIND d c.in-One.block ≡ GoesOn =
    ap (λ (w : Grid). outcome g.R.Rule.KIND w c.in-One.block) c.fate.ensures.same ∙ one-goes_on _ _ _ c.in-One.ensures.fate in
    let alone : in_short (five_points g.R.Rule.KIND d (other (mover d))) ≡ One c.in-One.block =
    ap (λ (w : Grid). in_short (five_points g.R.Rule.KIND w (other (mover w)))) c.fate.ensures.same
    ∙ ap in_short (block-alone g.R.Rule.KIND b _ one).1 in
    let safe = ap (λ (w : Grid). has_five g.R.Rule.KIND w (mover w)) c.fate.ensures.same ∙ c.requires.safe in
    let some : 0 < c.args.limits.moves = let more = c.if-moves-eq0.false in omega (arith, more) in
    let from = c.requires.four_points in
    search rules

pub answering-returns-then-moves-eq0-clause-found :
    goal.answering-returns-then-moves-eq0-clause-found
answering-returns-then-moves-eq0-clause-found g t c = answering-no-more _ _ _ _ _ c.if-moves-eq0.true c.in-One.ensures.fate

pub behind-answering-found-requires : goal.behind-answering-found-requires
behind-answering-found-requires g t c κs within =
    let b : Grid = g.V.Seen.position c.args.view.now in
    let d : Grid = g.V.Seen.position c.play.new.self in
    let lawful : IsPosition g.R.Rule.KIND b = c.play.ensures.lawful in
    let made : c.args.four.made ≡ in_short (five_points g.R.Rule.KIND d (other (mover d))) =
    c.requires.made ∙ ap (λ s. in_short (five_points g.R.Rule.KIND (after b c.args.four.at) s))
    (sym (mover-other _ _ _ lawful c.requires.goes_on))
    ∙ ap (λ (w : Grid). in_short (five_points g.R.Rule.KIND w (other (mover w)))) (sym c.play.ensures.played) in
    let safe : has_five g.R.Rule.KIND d (mover d) ≡ false =
    ap (λ (w : Grid). has_five g.R.Rule.KIND w (mover w)) c.play.ensures.played
    ∙ ap (has_five g.R.Rule.KIND (after b c.args.four.at)) (mover-then _ _ _ lawful c.requires.goes_on) ∙ c.requires.safe in
    search rules

pub behind-undo-requires-clause-stone : goal.behind-undo-requires-clause-stone
behind-undo-requires-clause-stone g t c =
    stone_back _ _ _ _ c.play.ensures.lawful c.requires.goes_on (c.answering-found.ensures.same ∙ c.play.ensures.played)

pub behind-undo-requires-clause-unwon : goal.behind-undo-requires-clause-unwon
behind-undo-requires-clause-unwon g t c =
    unwon_back _ _ _ _ c.play.ensures.lawful c.requires.goes_on (c.answering-found.ensures.same ∙ c.play.ensures.played)

pub behind-returns-in_err-found-clause-same : goal.behind-returns-in_err-found-clause-same
behind-returns-in_err-found-clause-same g t c =
    c.undo.ensures.undone ∙ lift_back _ _ _ _ c.play.ensures.lawful c.requires.goes_on
    (c.answering-found.ensures.same ∙ c.play.ensures.played)

pub behind-returns-in-Win-clause-same : goal.behind-returns-in-Win-clause-same
behind-returns-in-Win-clause-same g t c =
    c.undo.ensures.undone ∙ lift_back _ _ _ _ c.play.ensures.lawful c.requires.goes_on
    (c.answering-found.ensures.same ∙ c.play.ensures.played)

pub behind-returns-in_default : goal.behind-returns-in_default
behind-returns-in_default g t c =
    let found = c.in_ok-found.ensures.found ∙ ap (λ (w : Grid). found_answering g.R.Rule.KIND c.args.limits.moves w c.args.limits.budget)
    c.play.ensures.played in
    record {
      found = behind-else _ _ _ _ _ _ c.in_default.not-Win found;
      same = c.undo.ensures.undone ∙ lift_back _ _ _ _ c.play.ensures.lawful c.requires.goes_on
          (c.answering-found.ensures.same ∙ c.play.ensures.played);
    }

pub remembered-returns-in-Some-clause-found : goal.remembered-returns-in-Some-clause-found
remembered-returns-in-Some-clause-found g t c =
    denied-found _ _ _ _ _ _ (rw c.board.ensures.board at c.in-Some.ensures.denied) c.without_win.ensures.found

pub remembered-find-requires : goal.remembered-find-requires
remembered-find-requires g t c = record { lawful = rw c.board.ensures.board c.requires.lawful }

pub remembered-keep-requires : goal.remembered-keep-requires
remembered-keep-requires g t c =
    let b : Grid = g.V.Seen.position c.args.view.now in
    let same : b ≡ c.board-in-NoWin.result.now = sym (c.board-in-NoWin.ensures.board ∙ c.in_ok-other.ensures.same) in
    record {
      lawful = rw same at c.requires.lawful;
      denied = rw same at (found-denied _ _ _ _ _ (sym c.in-NoWin.is ∙ c.in_ok-other.ensures.found));
    }

pub search_on-returns-then-rules_out-clause-found : goal.search_on-returns-then-rules_out-clause-found
search_on-returns-then-rules_out-clause-found g t c =
    ruled-out _ _ c.requires.lawful _ c.requires.threat _ _ c.requires.none c.requires.some c.requires.some_budget
    (c.rules_out.ensures.out c.if-rules_out.true)

pub try_four_points-try_point-requires : goal.try_four_points-try_point-requires
try_four_points-try_point-requires g t c κs within =
    let b : Grid = g.V.Seen.position c.args.view.now in
    let d : Grid = g.V.Seen.position c.loop-four_point.view in
    let i : ℕ = c.loop-four_point.four_point-index in
    let none : FourPoint = record { at = record { x = 0; y = 0 }; made = None } in
    let m : FourPoint = get_or c.args.four_points.now i none in
    let each = each-four_point g.R.Rule.KIND b c.requires.lawful c.args.four_points.now i none c.requires.four_points
    c.loop-four_point-test.true in
    let same : d ≡ b = c.loop-four_point.invariant.same in
    let some : has_five g.R.Rule.KIND (after d m.at) (mover d) ≡ true =
    ap (λ (w : Grid). has_five g.R.Rule.KIND (after w m.at) (mover w)) same ∙ and_right (is_empty b m.at) _ each.1 in
    let made : m.made ≡ in_short (five_points g.R.Rule.KIND (after d m.at) (mover d)) =
    ap (λ (x : FourPoint). x.made) each.0 ∙ sym (ap (λ (w : Grid). in_short (five_points g.R.Rule.KIND (after w m.at) (mover w))) same) in
    let safe : has_five g.R.Rule.KIND (after d m.at) (other (mover d)) ≡ false =
    ap (λ (w : Grid). has_five g.R.Rule.KIND (after w m.at) (other (mover w))) same
    ∙ taken-safe g.R.Rule.KIND b c.requires.lawful c.args.threat c.requires.threat m.at (and_left (is_empty b m.at) _ each.1)
    (sym c.takes.ensures.takes ∙ c.if-takes.true) in
    let four_points = c.requires.four_points ∙ ap (four_points_of g.R.Rule.KIND) (sym same) in
    let empty : is_empty d m.at ≡ true = ap (λ (w : Grid). is_empty w m.at) same ∙ and_left (is_empty b m.at) _ each.1 in
    let no_five = ap (λ (w : Grid). has_five g.R.Rule.KIND w (mover w)) same ∙ c.requires.none in
    search rules

pub try_four_points-returns-in_default : goal.try_four_points-returns-in_default
try_four_points-returns-in_default g t c =
    let i : ℕ = c.loop-four_point.four_point-index in
    let none : FourPoint = record { at = record { x = 0; y = 0 }; made = None } in
    let m : FourPoint = get_or c.args.four_points.now i none in
    let next : map (λ x. x.at) (drop i c.args.four_points.now) ≡ m.at ∷ map (λ x. x.at) (drop (i + 1) c.args.four_points.now) =
    drop-next _ _ _ c.loop-four_point-test.true in
    let found = c.in_ok-found.ensures.found ∙ ap
    (λ (w : Grid). found_trying g.R.Rule.KIND (c.args.limits.moves - 1) w m.at c.loop-four_point.left)
    c.loop-four_point.invariant.same in
    record {
      found = sym (step-ends _ _ _ _ m.at _ (map (λ x. x.at) (drop (i + 1) c.args.four_points.now)) next _ found c.in_default.not-NoWin)
          ∙ c.loop-four_point.invariant.rest ∙ found-four_points _ _ c.requires.lawful _ _ _ c.requires.four_points c.requires.none
          c.requires.some c.requires.some_budget;
      same = c.try_point.ensures.same ∙ c.loop-four_point.invariant.same;
    }

pub try_four_points-loop-four_point-preserved : goal.try_four_points-loop-four_point-preserved
try_four_points-loop-four_point-preserved g t c =
    let b : Grid = g.V.Seen.position c.args.view.now in
    let i : ℕ = c.loop-four_point.four_point-index in
    let none : FourPoint = record { at = record { x = 0; y = 0 }; made = None } in
    let m : FourPoint = get_or c.args.four_points.now i none in
    let next = drop-next c.args.four_points.now i none c.loop-four_point-test.true in
    let rest_of : ℕ → Found = λ l. try_all g.R.Rule.KIND (c.args.limits.moves - 1) b l
    (map (λ x. x.at) (drop (i + 1) c.args.four_points.now)) in
    elim c.if-takes.branch [
      | try_four_points-then-takes+in_ok-found+in-NoWin w ↦
          let found = w.in_ok-found.ensures.found ∙ ap
          (λ (v : Grid). found_trying g.R.Rule.KIND (c.args.limits.moves - 1) v m.at c.loop-four_point.left)
          c.loop-four_point.invariant.same in
          record {
            same = ap g.V.Seen.position w.view-is ∙ w.try_point.ensures.same ∙ c.loop-four_point.invariant.same;
            rest = ap rest_of w.left-is ∙ sym
                (step-goes_on g.R.Rule.KIND (c.args.limits.moves - 1) b c.loop-four_point.left m.at
                (map (λ x. x.at) (drop i c.args.four_points.now)) (map (λ x. x.at) (drop (i + 1) c.args.four_points.now)) next
                w.in_ok-found.found found w.in-NoWin.rest w.in-NoWin.is) ∙ c.loop-four_point.invariant.rest;
          }
      | try_four_points-else-takes w ↦
          record {
            same = ap g.V.Seen.position w.view-is ∙ c.loop-four_point.invariant.same;
            rest = ap rest_of w.left-is ∙ sym
                (step_at g.R.Rule.KIND (c.args.limits.moves - 1) b c.loop-four_point.left m.at
                (map (λ x. x.at) (drop i c.args.four_points.now)) (map (λ x. x.at) (drop (i + 1) c.args.four_points.now)) next
                (NoWin c.loop-four_point.left)
                (not_taken g.R.Rule.KIND b c.requires.lawful c.args.threat c.requires.threat m.at (c.args.limits.moves - 1)
                c.loop-four_point.left (sym c.takes.ensures.takes ∙ w.if-takes.false))) ∙ c.loop-four_point.invariant.rest;
          }
    ]

pub try_four_points-returns-clause-found : goal.try_four_points-returns-clause-found
try_four_points-returns-clause-found g t c =
    let b : Grid = g.V.Seen.position c.args.view.now in
    sym (try_all-none _ _ _ _) ∙ ap
    (λ (ms : List FourPoint). try_all g.R.Rule.KIND (c.args.limits.moves - 1) b c.loop-four_point.left (map (λ m. m.at) ms))
    (sym (drop-all _ _ c.loop-four_point-test.false)) ∙ c.loop-four_point.invariant.rest
    ∙ found-four_points _ _ c.requires.lawful _ _ _ c.requires.four_points c.requires.none c.requires.some c.requires.some_budget

pub try_point-returns-in-GoesOn : goal.try_point-returns-in-GoesOn
try_point-returns-in-GoesOn g t c =
    let b : Grid = g.V.Seen.position c.args.view.now in
    let on : outcome g.R.Rule.KIND b c.args.four.at ≡ GoesOn = sym c.in-GoesOn.ensures.outcome in
    let same : found_behind g.R.Rule.KIND c.args.limits.moves (g.V.Seen.position c.no_five_outcome.new.view) c.args.four.at
    c.args.limits.budget ≡ found_trying g.R.Rule.KIND c.args.limits.moves b c.args.four.at c.args.limits.budget =
    ap (λ (w : Grid). found_behind g.R.Rule.KIND c.args.limits.moves w c.args.four.at c.args.limits.budget)
    c.no_five_outcome.ensures.same ∙ trying-goes _ _ _ _ _ c.requires.some on in
    record {
      found = rw same at c.behind.ensures.found;
      same = c.behind.ensures.same ∙ c.no_five_outcome.ensures.same;
    }

pub try_point-returns-in_default : goal.try_point-returns-in_default
try_point-returns-in_default g t c =
    record {
      found = trying-else _ _ _ _ _ (λ on. c.in_default.not-GoesOn (c.no_five_outcome.ensures.outcome ∙ on));
      same = c.no_five_outcome.ensures.same;
    }

pub behind-returns-then-has_calm_block-clause-found : goal.behind-returns-then-has_calm_block-clause-found
behind-returns-then-has_calm_block-clause-found g t c =
    c.without_win.ensures.found ∙ behind-last _ _ _ c.has_calm_block.ensures.lawful c.requires.goes_on c.requires.safe _ _ _
    c.requires.made (c.has_calm_block.ensures.calm c.if-has_calm_block.true) c.if-limits-eq1.true

pub search_on-returns-then-has_calm_corners-clause-found : goal.search_on-returns-then-has_calm_corners-clause-found
search_on-returns-then-has_calm_corners-clause-found g t c =
    let calm = rw c.board.ensures.board at (c.has_calm_corners.ensures.calm c.if-has_calm_corners.true) in
    found-calm _ _ c.requires.lawful c.requires.none calm _ _ c.if-limits-eq1.true c.requires.some_budget
