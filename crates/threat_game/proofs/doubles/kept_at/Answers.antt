use Rattle.std.proofs.Common.{◌≡◌, true, ◌&&◌, ap, sym, subst, ◌∙◌, take}
use Rattle.game_rules.proofs.Common.{Grid, is_empty, put, five_points, is_double_point}
use Rattle.game_rules.specs.declared.Point.{Point}
use Rattle.row_shapes.specs.FivePoints.{in_short, is_several}
use Rattle.threat_moves.proofs.GainLaws.{double-empty, few-double}
use Rattle.threat_moves.proofs.Common.{StaysFree}
use Rattle.threat_game.proofs.Common.{LeavesBoth}
use Rattle.threat_game.proofs.KeptDoubles.{double-free}
use Rattle.threat_game.proofs.doubles.kept_at.Goals as goal

pub stays_free-sure-requires : goal.stays_free-sure-requires
stays_free-sure-requires g c =
    record {
      empty = ap (λ (b : Grid). is_empty b c.args.p) c.is_new_double_point.ensures.same
          ∙ double-empty g.R.Rule.KIND c.args.board.now c.args.side c.args.p
          (sym c.is_new_double_point.ensures.double ∙ c.if-not-is_new_double_point.false);
    }

pub double_at-requires : goal.double_at-requires
double_at-requires g c =
    record {
      empty = ap (λ (b : Grid). is_empty b c.args.p) (c.stays_free-sure.ensures.same ∙ c.is_new_double_point.ensures.same)
          ∙ double-empty g.R.Rule.KIND c.args.board.now c.args.side c.args.p
          (sym c.is_new_double_point.ensures.double ∙ c.if-not-is_new_double_point.false);
    }

pub returns-in-Some-clause-kept : goal.returns-in-Some-clause-kept
returns-in-Some-clause-kept g c =
    let rule = g.R.Rule.KIND in
    let b : Grid = c.args.board.now in
    let both = rw c.in-Some.is at c.in_ok-double.ensures.both in
    let at = rw c.in-Some.is at c.in_ok-double.ensures.here in
    let fives = rw c.in-Some.is at c.in_ok-double.ensures.fives in
    let asked : c.is_new_double_point.new.board ≡ b = c.is_new_double_point.ensures.same in
    let same : c.stays_free-sure.new.board ≡ b = c.stays_free-sure.ensures.same ∙ asked in
    let double : is_double_point rule b c.args.side c.args.p ≡ true =
    sym c.is_new_double_point.ensures.double ∙ c.if-not-is_new_double_point.false in
    record {
      at = at;
      double = double;
      is = record {
        both = subst (λ (w : Grid). LeavesBoth rule w c.args.side c.in-Some.double) same both;
        free = λ sure. double-free rule b c.args.side c.in-Some.double.at (ap (is_double_point rule b c.args.side) at ∙ double)
            (subst (λ (p : Point). StaysFree rule b c.args.side p) (sym at)
            (subst (λ (w : Grid). StaysFree rule w c.args.side c.args.p) asked (c.stays_free-sure.ensures.stays sure)));
      };
      fives = ap (λ (w : Grid). take 2 (five_points rule (put w c.args.side c.args.p) c.args.side)) (sym same) ∙ fives;
    }

pub returns-in-None-clause-other : goal.returns-in-None-clause-other
returns-in-None-clause-other g c =
    let rule = g.R.Rule.KIND in
    let b : Grid = c.args.board.now in
    let same : c.stays_free-sure.new.board ≡ b = c.stays_free-sure.ensures.same ∙ c.is_new_double_point.ensures.same in
    let empty : is_empty c.stays_free-sure.new.board c.args.p ≡ true = ap (λ (w : Grid). is_empty w c.args.p) same
    ∙ double-empty rule b c.args.side c.args.p (sym c.is_new_double_point.ensures.double ∙ c.if-not-is_new_double_point.false) in
    let two = rw c.in-None.is at c.in_ok-double.ensures.told in
    ap (λ (w : Grid). is_double_point rule w c.args.side c.args.p) (sym same)
    ∙ few-double rule c.stays_free-sure.new.board c.args.side c.args.p
    (sym (ap (λ r. r && is_several (in_short (five_points rule (put c.stays_free-sure.new.board c.args.side c.args.p) c.args.side))) empty)
    ∙ two)
