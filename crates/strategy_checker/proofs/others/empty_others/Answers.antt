use Rattle.std.proofs.Common.{◌≡◌, zero, cond, sym, ap, ◌∙◌, arith}
use Rattle.strategy_checker.proofs.Counted.{count-others, is_listed}
use Rattle.strategy_checker.proofs.others.empty_others.Goals as goal

pub overflow_sub-others : goal.overflow_sub-others
overflow_sub-others c =
    let all = count-others c.args.board.now c.requires.board c.args.replies.now c.requires.rising c.args.w c.requires.empty in
    let listed = c.listed_empties.ensures.count in
    let empties = c.empties.ensures.empties in
    omega (arith, all, listed, empties)

pub overflow_sub-result : goal.overflow_sub-result
overflow_sub-result c =
    let all = count-others c.args.board.now c.requires.board c.args.replies.now c.requires.rising c.args.w c.requires.empty in
    let one : cond (is_listed c.args.replies.now c.args.w) 0 1 ≡ 1 =
    ap (λ r. cond r zero 1) (sym c.is_listed.ensures.listed ∙ c.if-is_listed.false) in
    let listed = c.listed_empties.ensures.count in
    let empties = c.empties.ensures.empties in
    omega (arith, all, listed, empties, one)

pub returns-then-is_listed : goal.returns-then-is_listed
returns-then-is_listed c =
    let all = count-others c.args.board.now c.requires.board c.args.replies.now c.requires.rising c.args.w c.requires.empty in
    let none : cond (is_listed c.args.replies.now c.args.w) 0 1 ≡ 0 =
    ap (λ r. cond r zero 1) (sym c.is_listed.ensures.listed ∙ c.if-is_listed.true) in
    let listed = c.listed_empties.ensures.count in
    let empties = c.empties.ensures.empties in
    record { count = omega (arith, all, listed, empties, none) }

pub returns-else-is_listed : goal.returns-else-is_listed
returns-else-is_listed c =
    let all = count-others c.args.board.now c.requires.board c.args.replies.now c.requires.rising c.args.w c.requires.empty in
    let one : cond (is_listed c.args.replies.now c.args.w) 0 1 ≡ 1 =
    ap (λ r. cond r zero 1) (sym c.is_listed.ensures.listed ∙ c.if-is_listed.false) in
    let listed = c.listed_empties.ensures.count in
    let empties = c.empties.ensures.empties in
    record { count = omega (arith, all, listed, empties, one) }
