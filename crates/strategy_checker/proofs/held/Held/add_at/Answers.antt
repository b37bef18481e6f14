use Rattle.std.proofs.Common.{◌≡◌, ◌<◌, true, not, List, length, sym, ap, subst, ◌∙◌, is_ok}
use Rattle.strategy_checker.proofs.Common.{Node, MAX_ROOTS, HeldRoot, HeldTable, IsHeldRoot}
use Rattle.strategy_graph.proofs.Common.{root_below}
use Rattle.strategy_checker.proofs.Holding.{IsHeld-push}
use Rattle.strategy_checker.proofs.held.Held.add_at.Goals as goal

pub invariant_of-self-2 : goal.invariant_of-self-2
invariant_of-self-2 c =
    let t : List Node = c.self.inside.table in
    let r : HeldRoot = record { root = c.args.root; kind = c.args.kind; board = c.args.board } in
    let added : is_ok c.push.result ≡ true = c.is_err.ensures.negation ∙ ap not c.if-is_err.false in
    let table : t ≡ c.args.self.now.table = ap (λ (h : HeldTable). h.table) c.self.view_is in
    let roots : c.self.inside.roots.items ≡ c.args.self.now.roots = ap (λ (h : HeldTable). h.roots) c.self.view_is in
    let room : length c.self.inside.roots.items < MAX_ROOTS =
    subst (λ (rs : List HeldRoot). length rs < MAX_ROOTS) (sym roots) c.requires.room in
    let this : IsHeldRoot t r = record {
      lawful = c.requires.lawful;
      below = ap (λ (w : List Node). root_below c.args.root (length w)) table ∙ c.requires.below;
      accepted = c.in_ok-check_root.ensures.accepted;
    } in
    rw (c.push.ensures.items, added) (IsHeld-push t c.self.inside.roots.items r c.self.invariant room this)
