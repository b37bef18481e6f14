use Rattle.std.proofs.Common.{◌≡◌, ◌≢◌, ℕ, ◌+◌, ◌-◌, ◌<◌, List, [], length, ap, sym, ◌∙◌, arith}
use Rattle.threat_space.proofs.Common.{Grid, RuleKind, Side, Threat, FoundInLists, NoSequence, final_of, lists_of, played_all}
use Rattle.threat_space.proofs.Common.{looked, answer_of, space_answer}
use Rattle.threat_moves.proofs.ThreatLists.{after_path}
use Rattle.threat_space.proofs.FoundInLists.{from_length, length-goes_on, length-stops, length-none, length-ends, answer-all}
use Rattle.threat_space.proofs.answer.first_found.Goals as goal

-- what is found among the lists of n threats, on a board that is as before, with no threat on the path
module _ (rule : RuleKind) (s : Side) (b start board : Grid) (path : List Threat) (left n most budget : ℕ) (found : FoundInLists)
    (is : found ≡ looked (final_of rule s start) left (after_path path (lists_of rule s n board))) (copy : start ≡ b) (none : path ≡ [])
    (same : board ≡ b) (rest : from_length rule (final_of rule s b) s b left n (most + 1 - n)
    ≡ from_length rule (final_of rule s b) s b budget 0 (most + 1)) (low : n < most + 1) where
  here : found ≡ looked (final_of rule s b) left (after_path [] (lists_of rule s n b))
  here = rw (copy, none, same) at is

  -- the search goes on
  goes-on : (m : ℕ) → found ≡ NoSequence m → from_length rule (final_of rule s b) s b m (n + 1) (most + 1 - (n + 1))
      ≡ from_length rule (final_of rule s b) s b budget 0 (most + 1)
  goes-on m nothing = sym (length-goes_on rule (final_of rule s b) s b left n (most + 1 - n) (most + 1 - (n + 1)) (omega arith)
      (omega arith) found here m nothing) ∙ rest

  -- it ends with what is found
  ends : ((m : ℕ) → found ≢ NoSequence m) → answer_of found ≡ space_answer rule s most budget b
  ends some = answer-all rule s most budget b found
      (sym rest ∙ length-stops rule (final_of rule s b) s b left n (most + 1 - n) (omega arith) found here some)

  -- it ends with none, since there was no list
  ends-none : found ≡ NoSequence left → answer_of (NoSequence left) ≡ space_answer rule s most budget b
  ends-none nothing = answer-all rule s most budget b (NoSequence left)
      (sym rest ∙ length-ends rule (final_of rule s b) s b left n (most + 1 - n) (sym here ∙ nothing))

pub walk-requires : goal.walk-requires
walk-requires g c = record {
  played = c.loop-count.invariant.same ∙ sym c.requires.start
      ∙ ap (played_all c.args.origin.now.start.now c.args.origin.now.side) (sym c.loop-count.invariant.path);
  far = λ none fouls t some last. absurd
      (let e : length c.loop-count.trail.path ≡ 0 = ap length c.loop-count.invariant.path in omega (arith, some, e));
  side = c.loop-count.invariant.side;
}

pub loop-count-preserved : goal.loop-count-preserved
loop-count-preserved g c = record {
  same = c.walk.ensures.same ∙ c.loop-count.invariant.same;
  path = c.in_ok-walked.ensures.path ∙ c.loop-count.invariant.path;
  side = c.walk.ensures.side ∙ c.loop-count.invariant.side;
  rest = goes-on _ _ _ _ _ _ _ _ _ _ _ c.in_ok-walked.ensures.looked c.requires.start c.loop-count.invariant.path
      c.loop-count.invariant.same c.loop-count.invariant.rest (omega arith) _ c.in-NoSequence.is;
}

pub returns-in-Sequence-clause-answer : goal.returns-in-Sequence-clause-answer
returns-in-Sequence-clause-answer g c =
    let is = c.in-Sequence.is in
    ap answer_of (sym is) ∙ ends _ _ _ _ _ _ _ _ _ _ _ c.in_ok-walked.ensures.looked c.requires.start c.loop-count.invariant.path
    c.loop-count.invariant.same c.loop-count.invariant.rest (omega arith) (λ m e. cc)

pub returns-in-Spent-clause-answer : goal.returns-in-Spent-clause-answer
returns-in-Spent-clause-answer g c =
    let is = c.in-Spent.is in
    ap answer_of (sym is) ∙ ends _ _ _ _ _ _ _ _ _ _ _ c.in_ok-walked.ensures.looked c.requires.start c.loop-count.invariant.path
    c.loop-count.invariant.same c.loop-count.invariant.rest (omega arith) (λ m e. cc)

pub returns-then-rest-left-clause-answer : goal.returns-then-rest-left-clause-answer
returns-then-rest-left-clause-answer g c =
    ends-none _ _ _ _ _ _ _ _ _ _ _ c.in_ok-walked.ensures.looked c.requires.start c.loop-count.invariant.path c.loop-count.invariant.same
    c.loop-count.invariant.rest (omega arith) (c.in-NoSequence.is ∙ ap NoSequence c.if-rest-left.true)

pub returns-clause-answer : goal.returns-clause-answer
returns-clause-answer g c = answer-all _ _ _ _ _ _ (sym c.loop-count.invariant.rest ∙ length-none _ _ _ _ _ _ _ (omega arith))
