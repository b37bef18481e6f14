-- What a walk owes at a position: one reply met after another, and the stops on the way.
use Rattle.std.proofs.Common.{◌≡◌, ℕ, ◌+◌, ◌<◌, List, [], ◌∷◌, reverse, refl, ap, ◌∙◌, arith, rules, Ok, Err}
use Rattle.std.proofs.lemmas.List.Elements.{All-cons, All-nil}
use Rattle.std.proofs.lemmas.List.Sums.{sum_by-cons}
use Rattle.strategy_checker.proofs.Common.{Grid, Point, RuleKind, Node, Why, Answers, Accepted, Meets, arrivals, arrivals_at, LeadsStart}
use Rattle.strategy_checker.proofs.Common.{Stop, Fault, Spent, Memory, Walk, IsReady, Stopped, Walked, WalkedReply, AreMet, Owes, owed}

module _ (rule : RuleKind) (t : List Node) (a : Answers) (b : Grid) where
  pub owed-cons : (q : Point) (qs : List Point) → owed rule t a b (q ∷ qs) ≡ arrivals_at rule a (arrivals rule t) b q + owed rule t a b qs
  owed-cons q qs = sum_by-cons (arrivals_at rule a (arrivals rule t) b) q qs

  -- nothing is asked yet
  pub owes-all : (qs : List Point) (now : Walk) → IsReady rule t b now
      → Owes rule t a b (AreMet rule t a b qs) (owed rule t a b qs) qs now.left now
  owes-all qs now ready = record { counted = refl; met = λ m. m; ready = ready }

module _ {rule : RuleKind} {t : List Node} {a : Answers} {b : Grid} {A : Type 0} {n : ℕ} {ps : List Point} {start : ℕ} {now : Walk}
    (owes : Owes rule t a b A n ps start now) where
  module _ {q : Point} {qs : List Point} (first : ps ≡ q ∷ qs) where
    split : owed rule t a b ps ≡ arrivals_at rule a (arrivals rule t) b q + owed rule t a b qs
    split = ap (owed rule t a b) first ∙ owed-cons rule t a b q qs

    -- the next reply is met
    pub owes-on : {next : Walk} → WalkedReply rule t a b q now next (Ok tt) → Owes rule t a b A n qs start next
    owes-on walked = record {
      counted = omega (arith, owes.counted, split, walked.1.counted);
      met = λ later. owes.met (rw first (All-cons (Meets rule a (Accepted rule t) b) q qs walked.0 later));
      ready = record { lawful = owes.ready.lawful; no_line = walked.1.no_line; memo = walked.1.memo };
    }

    -- the walk stops at it
    pub owes-stops : (next : Walk) (stop : Stop) → WalkedReply rule t a b q now next (Err stop)
        → Stopped (λ why. LeadsStart rule t a b (reverse next.line) why) (start < n) stop
    owes-stops next (Fault why) h = h
    owes-stops next Spent h = omega (arith, owes.counted, split, h)
    owes-stops next Memory h = tt

  -- some of them are asked
  pub owes-then : {qs : List Point} {late : Walk} → Owes rule t a b (AreMet rule t a b ps) (owed rule t a b ps) qs now.left late
      → Owes rule t a b A n qs start late
  owes-then then = grind arith

  -- a stop among them
  pub owes-short : (L : Why → Type 0) (stop : Stop) → Stopped L (now.left < owed rule t a b ps) stop → Stopped L (start < n) stop
  owes-short L stop h = grind arith

-- at the end all are met
pub owes-done : {rule : RuleKind} {t : List Node} {a : Answers} {b : Grid} {A : Type 0} {n : ℕ} {now : Walk} (L : List Point → Why → Type 0)
    (old : Walk) → Owes rule t a b A n [] old.left now → Walked rule t A n L old now (Ok tt)
owes-done L old owes = search (rules, All-nil)
