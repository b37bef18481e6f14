use Rattle.std.proofs.Common.{◌≡◌, ◌∙◌, ℕ, Bool, List, Ok, sym, ap, inl, inr, true, false}
use Rattle.proof_number.proofs.Common.{is_settled, settled_numbers, numbers_at, IsOnWayUp, IsPassed, Link, Node, Numbers, RuleKind, Search}
use Rattle.proof_number.proofs.Common.{Searches, Tree}
use Rattle.proof_tree.proofs.Settled.{settled-lost, settled-won}
use Rattle.proof_number.proofs.Recording.{lost-there, lost-there-by, other-searches, passed-fails, passed-idle, passed-tells, won-there}
use Rattle.proof_number.proofs.search.Search.value_at.Goals as goal

pub returns-in-Defend-clause-passed : goal.returns-in-Defend-clause-passed
returns-in-Defend-clause-passed g c =
    passed-idle _ (other-searches c.requires.searching (inl (ap (λ (l : Link). l.kind) (sym c.link.ensures.link) ∙ c.in-Defend.is)))

-- a node that is not settled is passed with nothing written
open-passed : {A : Type 0} {rule : RuleKind} {s : Search} {t : Tree} {c : List Node} {node : ℕ} (y : A) (n : Numbers) (settled : Bool)
    → Searches rule s t c (IsOnWayUp t.links node) → n ≡ numbers_at t.numbers node → settled ≡ is_settled n → settled ≡ false
    → IsPassed rule s s t c c node (Ok y)
open-passed y n settled searching is_read is_test unsettled =
    passed-idle y (other-searches searching (inr (λ proved.
    let bad : false ≡ true = sym unsettled ∙ is_test ∙ ap is_settled (is_read ∙ proved) in cc)))

pub returns-then-not-is_newest-clause-passed : goal.returns-then-not-is_newest-clause-passed
returns-then-not-is_newest-clause-passed g c = open-passed _ c.numbers-numbers.result c.is_settled.result c.requires.searching
    c.numbers-numbers.ensures.numbers c.is_settled.ensures.settled c.if-not-is_settled.true

pub returns-then-not-is_settled-clause-passed : goal.returns-then-not-is_settled-clause-passed
returns-then-not-is_settled-clause-passed g c = open-passed _ c.numbers-numbers.result c.is_settled.result c.requires.searching
    c.numbers-numbers.ensures.numbers c.is_settled.ensures.settled c.if-not-is_settled.true

pub returns-then-numbers-ne0-clause-value : goal.returns-then-numbers-ne0-clause-value
returns-then-numbers-ne0-clause-value g c =
    let settled : is_settled (numbers_at c.args.tree.now.numbers c.args.node) ≡ true =
    ap is_settled (sym c.numbers-numbers.ensures.numbers) ∙ sym c.is_settled.ensures.settled ∙ c.if-not-is_settled.false in
    let lost : numbers_at c.args.tree.now.numbers c.args.node ≡ settled_numbers false =
    settled-lost (numbers_at c.args.tree.now.numbers c.args.node) settled
    (λ nothing. c.if-numbers-ne0.true (ap (λ (n : Numbers). n.proof) c.numbers-numbers.ensures.numbers ∙ nothing)) in (
      lost-there c.requires.searching c.requires.in_tree
          (ap (λ (l : Link). l.kind) (sym c.link.ensures.link) ∙ c.in-Attack.is) lost,
      lost-there-by c.requires.searching c.requires.in_tree
          (ap (λ (l : Link). l.kind) (sym c.link.ensures.link) ∙ c.in-Attack.is) lost,
    )

pub returns-then-numbers-ne0-clause-passed : goal.returns-then-numbers-ne0-clause-passed
returns-then-numbers-ne0-clause-passed g c =
    passed-idle _ (other-searches c.requires.searching
    (inr (λ proved. c.if-numbers-ne0.true (ap (λ (n : Numbers). n.proof) (c.numbers-numbers.ensures.numbers ∙ proved)))))

pub returns-in-Ok-clause-value : goal.returns-in-Ok-clause-value
returns-in-Ok-clause-value g c =
    let settled : is_settled (numbers_at c.args.tree.now.numbers c.args.node) ≡ true =
    ap is_settled (sym c.numbers-numbers.ensures.numbers) ∙ sym c.is_settled.ensures.settled ∙ c.if-not-is_settled.false in
    let won : numbers_at c.args.tree.now.numbers c.args.node ≡ settled_numbers true =
    settled-won (numbers_at c.args.tree.now.numbers c.args.node) settled
    (ap (λ (n : Numbers). n.proof) (sym c.numbers-numbers.ensures.numbers) ∙ c.if-numbers-ne0.false) in (
      c.in-Ok.ensures.win,
      won-there c.requires.searching c.requires.in_tree
          (ap (λ (l : Link). l.kind) (sym c.link.ensures.link) ∙ c.in-Attack.is) won,
    )

pub returns-in-Err-clause-passed : goal.returns-in-Err-clause-passed
returns-in-Err-clause-passed g c = passed-fails c.in-Err.ensures.passed

pub returns-in-Ok-clause-passed : goal.returns-in-Ok-clause-passed
returns-in-Ok-clause-passed g c = passed-tells _ c.in-Ok.ensures.passed
