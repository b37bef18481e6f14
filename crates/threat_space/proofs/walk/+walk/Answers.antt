use Rattle.std.proofs.Common.{rules, ◌≡◌, ◌+◌, ◌-◌, ◌*◌, ◌<◌, ◌++◌, true, false, List, [], ◌∷◌, length, ap}
use Rattle.std.proofs.Common.{sym, ◌∙◌, arith, Option}
use Rattle.std.proofs.lemmas.List.{drop_all}
use Rattle.threat_space.proofs.Common.{Grid, Point, Side, Threat, final_of, lists_of, played, played_all, HasPairsOf}
use Rattle.threat_space.proofs.Common.{HasPairsAfter, looked, BarrenMemory}
use Rattle.game_rules.proofs.Boards.{and_left, and_right}
use Rattle.threat_moves.proofs.ThreatLists.{after_path, shorter}
use Rattle.threat_space.proofs.FarFinals.{pairs-after}
use Rattle.threat_space.proofs.BarrenLists.{barren-all, barren-any, barren-found, barren-kept, barren-next, barren-none}
use Rattle.threat_space.proofs.FoundInLists.{from_threats, lists-none, lists-zero, played-more, threats-all, threat-goes_on}
use Rattle.threat_space.proofs.FoundInLists.{threat-ends}
use Rattle.threat_space.proofs.walk.+walk.Goals as goal

pub walk-returns-then-to_come-eq0-clause-looked : goal.walk-returns-then-to_come-eq0-clause-looked
walk-returns-then-to_come-eq0-clause-looked g t c =
    rw (lists-none g.R.Rule.KIND c.args.origin.now.side c.args.board.now c.args.to_come.now.more c.args.trail.now.path
    c.if-to_come-eq0.true) c.look_at.ensures.looked

pub walk-returns-then-to_come-eq0-clause-barren : goal.walk-returns-then-to_come-eq0-clause-barren
walk-returns-then-to_come-eq0-clause-barren g t c = rw (lists-zero _ _ _ _ c.if-to_come-eq0.true) c.look_at.ensures.barren

-- a board that is remembered
pub walk-returns-in-Some-clause-looked : goal.walk-returns-in-Some-clause-looked
walk-returns-in-Some-clause-looked g t c =
    let barren = rw c.requires.side at c.in-Some.ensures.barren in
    c.passed.ensures.passed ∙ sym (barren c.args.origin.now.start.now c.args.trail.now.path c.requires.played c.args.budget)

pub walk-returns-in-Some-clause-barren : goal.walk-returns-in-Some-clause-barren
walk-returns-in-Some-clause-barren g t c barren = barren-found _ _ _ _ _ _ (rw c.requires.side at c.in-Some.ensures.barren)

pub walk-walk_from-requires : goal.walk-walk_from-requires
walk-walk_from-requires g t c κs within =
    let same : c.all_threats.new.board ≡ c.args.board.now = c.all_threats.ensures.same in
    let played = same ∙ c.requires.played in
    let less : 2 * (c.args.to_come.now.more - 1) + 1 < 2 * c.args.to_come.now.more = let some =
    c.if-to_come-eq0.false in omega (arith, some) in
    let board = rw (← same) at c.all_threats.ensures.board in
    let one : c.args.to_come.now.more - 1 ≡ 0 → c.args.to_come.now.more ≡ 1 = λ e. let some =
    c.if-to_come-eq0.false in omega (arith, some, e) in
    let pairs : c.args.to_come.now.more - 1 ≡ 0 → 0 < length c.as_slice-2.result.now
    → HasPairsOf g.R.Rule.KIND c.all_threats.new.board c.args.origin.now.side c.as_slice.result.now = λ e some.
    let count = rw (ap (λ (ts : List Threat). length ts) c.as_slice-2.ensures.items ∙ sym c.len.ensures.length) at some in
    rw c.as_slice.ensures.items (c.in_ok-far.ensures.pairs (one e) count) in
    let side : c.find.new.self.side ≡ c.args.origin.now.side = ap (λ (m : BarrenMemory). m.side) c.find.ensures.entries ∙ c.requires.side in
    search rules

-- what is found with all threats of the board is what is found of all its lists
pub walk-returns-clause-looked : goal.walk-returns-clause-looked
walk-returns-clause-looked g t c =
    let some : 0 < c.args.to_come.now.more = let more = c.if-to_come-eq0.false in omega (arith, more) in
    let final : List Threat → Option Point = final_of g.R.Rule.KIND c.args.origin.now.side c.args.origin.now.start.now in
    let lists : Grid → List (List Threat) = lists_of g.R.Rule.KIND c.args.origin.now.side (c.args.to_come.now.more - 1) in
    let found = c.in_ok-walked.ensures.looked in
    found ∙ ap (λ (w : Grid). from_threats final c.args.trail.now.path lists c.args.origin.now.side w c.args.budget c.as_slice-2.result.now)
    c.all_threats.ensures.same ∙ threats-all _ final _ _ _ _ _ _ some (c.as_slice-2.ensures.items ∙ c.in_ok-threats.ensures.threats)

pub walk-returns-clause-barren : goal.walk-returns-clause-barren
walk-returns-clause-barren g t c barren =
    let some : 0 < c.args.to_come.now.more = let more = c.if-to_come-eq0.false in omega (arith, more) in
    let s : Side = c.args.origin.now.side in
    barren-any _ s _ (lists_of g.R.Rule.KIND s c.args.to_come.now.more c.args.board.now) _
    (barren-all _ s _ _ _ some (c.as_slice-2.ensures.items ∙ c.in_ok-threats.ensures.threats)
    (rw c.all_threats.ensures.same at (c.in_ok-walked.ensures.barren barren)))

-- what is remembered of it
pub walk-remember-requires : goal.walk-remember-requires
walk-remember-requires g t c = record {
  barren = λ barren left none.
      let some : 0 < c.args.to_come.now.more = let more = c.if-to_come-eq0.false in omega (arith, more) in
      let s : Side = c.args.origin.now.side in
      let same : c.all_threats.new.board ≡ c.args.board.now = c.all_threats.ensures.same in
      let final : List Threat → Option Point = final_of g.R.Rule.KIND s c.args.origin.now.start.now in
      let lists : Grid → List (List Threat) = lists_of g.R.Rule.KIND s (c.args.to_come.now.more - 1) in
      let found = c.in_ok-walked.ensures.looked in
      let all = found ∙ ap (λ (w : Grid). from_threats final c.args.trail.now.path lists s w c.args.budget c.as_slice-2.result.now) same
      ∙ threats-all _ final c.args.trail.now.path s _ c.args.budget _ _ some
      (c.as_slice-2.ensures.items ∙ c.in_ok-threats.ensures.threats) in
      let here = barren-all _ s _ _ _ some (c.as_slice-2.ensures.items ∙ c.in_ok-threats.ensures.threats)
      (rw same at (c.in_ok-walked.ensures.barren barren)) in
      let side = sym (c.walk_from.ensures.side ∙ ap (λ (m : BarrenMemory). m.side) c.find.ensures.entries ∙ c.requires.side) in
      let kept = barren-kept _ s _ c.args.origin.now.start.now c.args.trail.now.path _ _ left _ c.requires.played here all none in (
        kept.0,
        rw same (rw side at kept.1),
      );
}

pub walk_from-walk-requires : goal.walk_from-walk-requires
walk_from-walk-requires g t c κs within =
    let longer : c.lengthen.new.path ≡ c.args.trail.now.path ++ c.threat-item.result ∷ [] =
    c.in_ok-lengthen.ensures.longer ∙ ap (λ (p : List Threat). p ++ c.threat-item.result ∷ []) c.loop-threat.invariant.path in
    let played = c.in_ok-next.ensures.played ∙ ap (λ (w : Grid). played w c.args.origin.now.side c.threat-item.result) c.requires.played
    ∙ sym (played-more c.args.origin.now.start.now c.args.origin.now.side c.args.trail.now.path c.threat-item.result)
    ∙ ap (played_all c.args.origin.now.start.now c.args.origin.now.side) (sym longer) in
    let less : 2 * c.args.to_come.now.more < 2 * c.args.to_come.now.more + 1 = omega arith in
    let some : 0 < length c.args.threats.now = let low = c.loop-threat-test.true in omega (arith, low) in
    let pairs : c.args.to_come.now.more ≡ 0 → HasPairsAfter g.R.Rule.KIND c.in_ok-next.next c.args.origin.now.side c.lengthen.new.path
    c.args.to_come.now.far.now = λ e. rw c.in_ok-next.ensures.played
    (pairs-after _ _ _ _ _ _ _ c.requires.board (c.requires.far e some) longer) in
    let side = c.loop-threat.invariant.side in
    search rules

pub walk_from-loop-threat-preserved : goal.walk_from-loop-threat-preserved
walk_from-loop-threat-preserved g t c =
    let b : Grid = c.args.board.now in
    let s : Side = c.args.origin.now.side in
    let lists : Grid → List (List Threat) = lists_of g.R.Rule.KIND s c.args.to_come.now.more in
    let final : List Threat → Option Point = final_of g.R.Rule.KIND s c.args.origin.now.start.now in
    let longer : c.lengthen.new.path ≡ c.args.trail.now.path ++ c.threat-item.result ∷ [] =
    c.in_ok-lengthen.ensures.longer ∙ ap (λ (p : List Threat). p ++ c.threat-item.result ∷ []) c.loop-threat.invariant.path in
    let found = c.in_ok-walked.ensures.looked ∙ ap
    (λ (p : List Threat). looked final c.loop-threat.left (after_path p (lists c.in_ok-next.next))) longer
    ∙ ap (λ (w : Grid). looked final c.loop-threat.left (after_path (c.args.trail.now.path ++ c.threat-item.result ∷ []) (lists w)))
    c.in_ok-next.ensures.played in
    record {
      path = c.drop_last.ensures.dropped ∙ shorter _ _ _ (c.in_ok-walked.ensures.path ∙ longer);
      rest = sym (threat-goes_on g.R.Rule.KIND final _ lists s b _ _ _ _ c.loop-threat-test.true c.threat-item.is _ found _
          c.in-NoSequence.is) ∙ c.loop-threat.invariant.rest;
      barren = λ barren rest. c.loop-threat.invariant.barren (and_left _ _ barren)
          (barren-next _ s b lists _ _ _ _ _ c.loop-threat-test.true c.threat-item.is longer
          (rw c.in_ok-next.ensures.played at (c.in_ok-walked.ensures.barren (and_right _ _ barren))) rest);
      side = c.walk.ensures.side ∙ c.loop-threat.invariant.side;
    }

pub walk_from-returns-in_default : goal.walk_from-returns-in_default
walk_from-returns-in_default g t c =
    let b : Grid = c.args.board.now in
    let lists : Grid → List (List Threat) = lists_of g.R.Rule.KIND c.args.origin.now.side c.args.to_come.now.more in
    let final : List Threat → Option Point = final_of g.R.Rule.KIND c.args.origin.now.side c.args.origin.now.start.now in
    let longer : c.lengthen.new.path ≡ c.args.trail.now.path ++ c.threat-item.result ∷ [] =
    c.in_ok-lengthen.ensures.longer ∙ ap (λ (p : List Threat). p ++ c.threat-item.result ∷ []) c.loop-threat.invariant.path in
    let found = c.in_ok-walked.ensures.looked ∙ ap
    (λ (p : List Threat). looked final c.loop-threat.left (after_path p (lists c.in_ok-next.next))) longer
    ∙ ap (λ (w : Grid). looked final c.loop-threat.left (after_path (c.args.trail.now.path ++ c.threat-item.result ∷ []) (lists w)))
    c.in_ok-next.ensures.played in
    record {
      looked = sym (threat-ends g.R.Rule.KIND final _ lists _ b _ _ _ _ c.loop-threat-test.true c.threat-item.is _ found
          c.in_default.not-NoSequence) ∙ c.loop-threat.invariant.rest;
      barren = λ barren. absurd (let bad : false ≡ true = barren in cc);
      path = c.drop_last.ensures.dropped ∙ shorter _ _ _ (c.in_ok-walked.ensures.path ∙ longer);
      side = c.walk.ensures.side ∙ c.loop-threat.invariant.side ∙ sym c.requires.side;
    }

pub walk_from-returns-clause-barren : goal.walk_from-returns-clause-barren
walk_from-returns-clause-barren g t c barren =
    c.loop-threat.invariant.barren barren (rw (drop_all _ _ c.loop-threat-test.false) (barren-none _ _ _))
