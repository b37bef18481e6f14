-- What a session has read, said and become when it comes to its next line, and how it may end there.
use Rattle.std.proofs.Common.{◌≡◌, ◌≢◌, ◌<◌, ◌≤◌, ◌+◌, Bool, true, false, cond, List, [], ◌∷◌, ◌++◌, length, take, refl, sym, ap, subst}
use Rattle.std.proofs.Common.{◌∙◌, append_assoc, add_comm, arith, length-append, Option, ◌⊎◌, inl, inr, ℕ, IfSome}
use Rattle.std.proofs.Common.{rules}
use Rattle.std.specs.Io.KnownBytes.{IsAtEnd}
use Rattle.std.proofs.lemmas.List.{append-nil, map-append}
use Rattle.std.proofs.Math.Seq.{take-append_seam}
use Rattle.std.proofs.lemmas.Grind.{flat_map-append}
use Rattle.renju_io.specs.Asked.{GivesByEach, IsAsked, IsAskedAtMost, IsAskedOnce}
use Rattle.brain_session.proofs.Common.{IsAskedWithin, lines, whole_lines, ReaderState, reads_for, MAX_SESSION_BYTES, commands}
use Rattle.brain_session.proofs.Common.{command_told, answer_text, Command, Answer, Reaction, Ends, State, brain_step, takes_none}
use Rattle.brain_session.proofs.Common.{then_answers, answers_from, answer_texts, state_after, TakesCommands, IsWritten, IsAnswered}
use Rattle.brain_session.proofs.Common.{IsHalfAnswered, Output, Served, served, Writes, HasAnswered, HasNoEnd, IsReadToEnd}
use Rattle.brain_session.proofs.Common.{ReadsAfterAnswers, StopsAtRead, StopsAtWrite, StopsInTurn, StopsAtStep, within_limit, IsTooLong}
use Rattle.renju_io.specs.Told.{Gives, GivesSome, Takes}
use Rattle.renju_io.specs.Lines.{LineText, Tells, TellsLast, KnowsEnd, TakesLines, KeepsLine, GoesPast, TakesTooMany}
use Rattle.renju_io.specs.LineReads.{ReadsNoFurther}
use Rattle.renju_io.proofs.AskedCalls.{IsAsked-then, few_more, within_few}
use Rattle.renju_io.proofs.GivenBytes.{Gives-none, Gives-then, Gives-some}
use Rattle.renju_io.proofs.TakenText.{Takes-then}
use Rattle.renju_io.proofs.ToldSoFar.{Reading, new_reader, read_on, HasTold, Takes-none, open_tells, told_then, open_after, bytes_of}
use Rattle.renju_io.proofs.ToldSoFar.{begins, all_told}
use Rattle.gomocup_text.specs.declared.Command.TheVariants.{End}
use Rattle.gomocup_text.proofs.AskedLines.{asked, one_line, no_line, end_among}
use Rattle.brain_session.proofs.SessionLaws.{end_ends, HasNoEnd-none, HasNoEnd-push, answers-append, state-append, answers-one, state-one}
use Rattle.brain_session.proofs.SessionLaws.{answers-end, state-end, state-none, answers-none}

abbrev pub served_on : Served → State → Output → Served
served_on v next output = record v { after = next; output_after = output }

-- a session read these lines, none of which is END, and answered them
pub record SoFar (r : Reading) (v : Served) : Type 0 where
  pub told : List LineText
  pub read : HasTold r told
  pub no_end : HasNoEnd (asked told)
  pub answered : HasAnswered v (asked told)

-- and it has read one line more, which asks for this command
pub record Asked (r : Reading) (v : Served) (c : Command) : Type 0 where
  pub told : List LineText
  pub line : LineText
  pub is : command_told line ≡ c
  pub read : HasTold r (told ++ (line ∷ []))
  pub no_end : HasNoEnd (asked told)
  pub answered : HasAnswered v (asked told)

-- no answer was written
writes_none : (output : Output) → Writes [] output output
writes_none output = record { wrote = Takes-none output.written; each = refl }

-- one answer was written
writes_one : (a : Answer) (old new : Output) → Takes old.written (answer_text a) new.written → IsAskedOnce old.asked new.asked
    → Writes (a ∷ []) old new
writes_one a old new takes once = search (rules, append-nil)

-- answers were written, and then more
writes_then : (first second : List Answer) (old mid new : Output) → Writes first old mid → Writes second mid new
    → Writes (first ++ second) old new
writes_then first second old mid new before after = record {
  wrote = subst (λ (text : List ℕ). Takes old.written text new.written) (sym (flat_map-append answer_text first second))
      (Takes-then old.written mid.written new.written (answer_texts first) (answer_texts second) before.wrote after.wrote);
  each = subst (λ n. IsAsked n old.asked new.asked) (add_comm (length second) (length first) ∙ sym (length-append first second))
      (IsAsked-then (length first) (length second) old.asked mid.asked new.asked before.each after.each);
}

-- nothing was read yet
pub SoFar-begun : (s : State) (left : Option (List ℕ)) (output : Output) (reader : ReaderState) → reader ≡ new_reader →
    SoFar (record { left_before = left; reader = reader; left = left }) (served s s output output)
SoFar-begun s left output reader fresh = subst (λ (x : ReaderState). SoFar (record { left_before = left; reader = x; left = left }) v)
    (sym fresh) (record {
      told = [];
      read = record {
        takes = record { given = []; gives = Gives-none left; counted = omega arith; tells = inl (record { whatever = λ more. refl }) };
        few = omega arith;
        knows = λ is_ended. cc;
      };
      no_end = HasNoEnd-none;
      answered = record {
        state = sym (state-none s);
        writes = subst (λ (answers : List Answer). Writes answers output output) (sym (answers-none s)) (writes_none output);
      };
    }) where
      v : Served
      v = served s s output output

-- ---- what was read

-- one more line is read, where a call tells its command
pub Asked-told : (r : Reading) (v : Served) (c : Command) (next : ReaderState) (left : Option (List ℕ)) → SoFar r v → r.reader.ended ≢ true
    → TakesCommands r.reader r.left (c ∷ []) next left → next.taken ≤ MAX_SESSION_BYTES
    → (KnowsEnd r.reader r.left → KnowsEnd next left) → Asked (read_on r next left) v c
Asked-told r v c next left so_far reading took few knows =
    let one = one_line c took.lines took.are in
    record {
      told = so_far.told;
      line = one.0;
      is = one.2;
      read = record {
        takes = told_then r so_far.told so_far.read (open_tells r so_far.told so_far.read reading)
            (one.0 ∷ []) next left (subst (λ (ls : List LineText). TakesLines r.reader r.left ls next left) one.1 took.takes);
        few = few;
        knows = knows so_far.read.knows;
      };
      no_end = so_far.no_end;
      answered = so_far.answered;
    }

-- ---- what was read before

-- nothing is kept, or each line that had ended before the last read is among these
abbrev pub ReadsInTurn : Reading → List Command → Option ℕ → Type 0
ReadsInTurn r answered last = (r.reader.kept ≡ []) ⊎ ReadsAfterAnswers answered r.left_before r.left last

-- one more line is told: no read was made once it had ended
pub reads_told : (r : Reading) (v : Served) (so_far : SoFar r v) (next : ReaderState) (left : Option (List ℕ)) (last last_next : Option ℕ)
    → ReadsInTurn r (asked so_far.told) last → ReadsNoFurther r.reader next r.left left last last_next → (r.reader.ended ≡ true → ⊥)
    → r.reader.taken + length next.kept < next.taken + length r.reader.kept
    → ReadsAfterAnswers (asked so_far.told) r.left_before left last_next
reads_told r v so_far next left last last_next (inl none) (inl unread) reading grows =
    absurd (omega (arith, grows, unread.0, ap length none))
reads_told r v so_far next left last last_next (inr before) (inl unread) reading grows = record {
  before = before.before;
  final = before.final;
  gives = subst (Gives r.left_before (before.before ++ before.final)) (sym unread.1) before.gives;
  last = unread.2 ∙ before.last;
  later = before.later;
  among = before.among;
}
reads_told r v so_far next left last last_next turn (inr read) reading grows =
    let given = so_far.read.takes.given in
    record {
      before = given ++ read.before;
      final = read.final;
      gives = subst (λ (bytes : List ℕ). Gives r.left_before bytes left) (sym (append_assoc given read.before read.final))
          (Gives-then r.left_before r.left left given (read.before ++ read.final) so_far.read.takes.gives read.gives);
      last = read.last;
      later = [];
      among = ap asked (open_after r so_far.told so_far.read (open_tells r so_far.told so_far.read reading) read.before read.open_still)
          ∙ sym (append-nil (commands (whole_lines (given ++ read.before))));
    }

-- one more line was read, and no read was made once it had ended
pub record AskedInTurn (r : Reading) (v : Served) (c : Command) (last : Option ℕ) : Type 0 where
  pub line : Asked r v c
  pub reads : ReadsAfterAnswers (asked line.told) r.left_before r.left last

pub AskedInTurn-told : (r : Reading) (v : Served) (c : Command) (next : ReaderState) (left : Option (List ℕ))
    (last last_next : Option ℕ) (so_far : SoFar r v) → r.reader.ended ≢ true → TakesCommands r.reader r.left (c ∷ []) next left
    → next.taken ≤ MAX_SESSION_BYTES → (KnowsEnd r.reader r.left → KnowsEnd next left) → ReadsInTurn r (asked so_far.told) last
    → ReadsNoFurther r.reader next r.left left last last_next
    → r.reader.taken + length next.kept < next.taken + length r.reader.kept → AskedInTurn (read_on r next left) v c last_next
unfolding Asked-told
AskedInTurn-told r v c next left last last_next so_far reading took few knows turn further grows = record {
  line = Asked-told r v c next left so_far reading took few knows;
  reads = reads_told r v so_far next left last last_next turn further reading grows;
}

-- and it is answered
reads_answered : (told : List LineText) (line : LineText) (left left_now : Option (List ℕ)) (last : Option ℕ)
    → ReadsAfterAnswers (asked told) left left_now last → ReadsAfterAnswers (asked (told ++ (line ∷ []))) left left_now last
reads_answered told line left left_now last reads = record {
  before = reads.before;
  final = reads.final;
  gives = reads.gives;
  last = reads.last;
  later = reads.later ++ (command_told line ∷ []);
  among = map-append command_told told (line ∷ []) ∙ ap (λ cs. cs ++ (command_told line ∷ [])) reads.among
      ∙ append_assoc (commands (whole_lines reads.before)) reads.later (command_told line ∷ []);
}

-- ---- what was answered

-- the answer of a reaction was written
wrote_one : (r : Reaction) (goes_on : Bool) (old new : Output) → IsWritten r goes_on old new → Writes (then_answers r []) old new
wrote_one r goes_on old new is = search (rules, writes_none, writes_one)

goes_on_from : (r : Reaction) (old new : Output) → IsWritten r true old new → r ≢ Ends
goes_on_from r old new is = search rules

-- a command after which the session goes on is not END
pub goes_on : (s t : State) (c : Command) (old new : Output) → IsAnswered s c true t old new → c ≢ End
goes_on s t c old new answered is =
    goes_on_from (brain_step s c).reaction old new answered.wrote (ap (λ d. (brain_step s d).reaction) is ∙ end_ends s)

-- END says nothing
wrote_end : (r : Reaction) (old new : Output) → r ≡ Ends → IsWritten r false old new → new ≡ old
wrote_end r old new e is = search rules

-- where these commands, none of which is END, were answered
module _ (v : Served) (cs : List Command) (no_end : HasNoEnd cs) (answered : HasAnswered v cs) (next : State) where
  -- and the brain went on from there
  state_then : (ds : List Command) → next ≡ state_after v.after ds → next ≡ state_after v.before (cs ++ ds)
  state_then ds state = state ∙ ap (λ s. state_after s ds) answered.state ∙ sym (state-append v.before cs ds no_end)

  -- and others were answered from there
  answered_then : (ds : List Command) (output : Output) → next ≡ state_after v.after ds
      → Writes (answers_from v.after ds) v.output_after output → HasAnswered (served_on v next output) (cs ++ ds)
  answered_then ds output state writes = record {
    state = state_then ds state;
    writes = subst (λ (answers : List Answer). Writes answers v.output_before output)
        (sym (answers-append v.before cs ds no_end ∙ ap (λ s. answers_from v.before cs ++ answers_from s ds) (sym answered.state)))
        (writes_then (answers_from v.before cs) (answers_from v.after ds) v.output_before v.output_after output answered.writes writes);
  }

-- the command is answered, and the session goes on
pub SoFar-answered : (r : Reading) (v : Served) (c : Command) (next : State) (written : Output) → Asked r v c →
    IsAnswered v.after c true next v.output_after written → SoFar r (served_on v next written)
SoFar-answered r v c next written so_far answered =
    let all : asked (so_far.told ++ (so_far.line ∷ [])) ≡ asked so_far.told ++ (c ∷ []) =
    map-append command_told so_far.told (so_far.line ∷ []) ∙ ap (λ d. asked so_far.told ++ (d ∷ [])) so_far.is in
    record {
      told = so_far.told ++ (so_far.line ∷ []);
      read = so_far.read;
      no_end = subst HasNoEnd (sym all) (HasNoEnd-push (asked so_far.told) c so_far.no_end
          (goes_on v.after next c v.output_after written answered));
      answered = subst (HasAnswered (served_on v next written)) (sym all)
          (answered_then v (asked so_far.told) so_far.no_end so_far.answered next (c ∷ []) written
          (answered.state ∙ sym (state-one v.after c))
          (subst (λ (answers : List Answer). Writes answers v.output_after written) (sym (answers-one v.after c))
          (wrote_one (brain_step v.after c).reaction true v.output_after written answered.wrote)));
    }

-- the lines so far are answered, and no read was made before each line that had ended was
pub record InTurn (r : Reading) (v : Served) (last : Option ℕ) : Type 0 where
  pub so_far : SoFar r v
  pub turn : ReadsInTurn r (asked so_far.told) last

pub InTurn-answered : (r : Reading) (v : Served) (c : Command) (next : State) (written : Output) (last : Option ℕ) →
    (so_far : AskedInTurn r v c last) → IsAnswered v.after c true next v.output_after written → InTurn r (served_on v next written) last
unfolding SoFar-answered
InTurn-answered r v c next written last so_far answered = record {
  so_far = SoFar-answered r v c next written so_far.line answered;
  turn = inr (reads_answered so_far.line.told so_far.line.line r.left_before r.left last so_far.reads);
}

-- ---- the whole input

-- what holds of the commands of the input, whichever come after the one that is asked
among : (r : Reading) (v : Served) (c : Command) (so_far : Asked r v c) → (P : List Command → Type 0) →
    ((later : List Command) → P (asked so_far.told ++ (c ∷ later))) → IfSome r.left_before (λ bytes. P (commands bytes))
among r v c so_far P holds =
    let takes = so_far.read.takes in
    let told = so_far.told ++ (so_far.line ∷ []) in
    bytes_of r.left_before r.left takes.given (λ bytes. P (commands bytes)) takes.gives (λ more is.
    let from = begins takes.given more told r.reader.kept r.reader.ended
    (subst (λ (l : Option (List ℕ)). Tells takes.given told r.reader.kept ⊎ (r.reader.ended ≡ true)
    × TellsLast takes.given told r.reader.kept l) is takes.tells) in
    let all : commands (takes.given ++ more) ≡ asked so_far.told ++ (c ∷ asked from.0) =
    ap asked (from.1 ∙ append_assoc so_far.told (so_far.line ∷ []) from.0)
    ∙ map-append command_told so_far.told (so_far.line ∷ from.0) ∙ ap (λ d. asked so_far.told ++ (d ∷ asked from.0)) so_far.is in
    subst P (sym all) (holds (asked from.0)))

-- ---- how a session ends at a command

-- it is END
pub HasAnswered-end : (r : Reading) (v : Served) (c : Command) (next : State) (written : Output) → Asked r v c →
    IsAnswered v.after c false next v.output_after written → c ≡ End
    → IfSome r.left_before (λ bytes. HasAnswered (served_on v next written) (commands bytes))
HasAnswered-end r v c next written so_far answered is =
    let silent : written ≡ v.output_after = wrote_end (brain_step v.after c).reaction v.output_after written
    (ap (λ d. (brain_step v.after d).reaction) is ∙ end_ends v.after) answered.wrote in
    among r v c so_far (HasAnswered (served_on v next written))
    (λ later. subst (λ (d : Command). HasAnswered (served_on v next written) (asked so_far.told ++ (d ∷ later))) (sym is)
    (answered_then v (asked so_far.told) so_far.no_end so_far.answered next (End ∷ later) written
    (answered.state ∙ ap (λ d. (brain_step v.after d).next) is ∙ sym (state-end v.after later))
    (subst (λ (answers : List Answer). Writes answers v.output_after written) (sym (answers-end v.after later))
    (subst (Writes [] v.output_after) (sym silent) (writes_none v.output_after)))))

-- and the source has given END
pub IsReadToEnd-end : (r : Reading) (v : Served) (c : Command) → Asked r v c → c ≡ End → IsReadToEnd r.left_before r.left
IsReadToEnd-end r v c so_far is =
    let takes = so_far.read.takes in
    record {
      given = takes.given;
      gives = takes.gives;
      few = omega (arith, so_far.read.few, takes.counted);
      ends = elim takes.tells [
        | inl tells ↦ inl (end_among takes.given so_far.told so_far.line r.reader.kept (so_far.is ∙ is) tells)
        | inr last ↦ inr last.1.ended
      ];
    }

-- a write failed
stops_at : (r : Reading) (v : Served) (c : Command) (next : State) (written : Output) (so_far : Asked r v c) →
    IsHalfAnswered v.after c next v.output_after written
    → (later : List Command) → StopsAtWrite (served_on v next written) (asked so_far.told ++ (c ∷ later))
stops_at r v c next written so_far half later = record {
  earlier = asked so_far.told;
  command = c;
  later = later;
  among = refl;
  no_end = so_far.no_end;
  answer = half.answer;
  says = ap (λ s. (brain_step s c).reaction) (sym so_far.answered.state) ∙ half.says;
  state = state_then v (asked so_far.told) so_far.no_end so_far.answered next (c ∷ []) (half.state ∙ sym (state-one v.after c));
  written = v.output_after;
  writes = so_far.answered.writes;
  part = half.part;
  once = half.once;
}

pub StopsAtWrite-asked : (r : Reading) (v : Served) (c : Command) (next : State) (written : Output) → Asked r v c →
    IsHalfAnswered v.after c next v.output_after written
    → IfSome r.left_before (λ bytes. StopsAtWrite (served_on v next written) (commands bytes))
StopsAtWrite-asked r v c next written so_far half =
    among r v c so_far (StopsAtWrite (served_on v next written)) (stops_at r v c next written so_far half)

-- and no read was made once the line had ended
pub StopsInTurn-asked : (r : Reading) (v : Served) (c : Command) (next : State) (written : Output) (last : Option ℕ) →
    AskedInTurn r v c last → IsHalfAnswered v.after c next v.output_after written
    → IfSome r.left_before (λ bytes. StopsInTurn (served_on v next written) (commands bytes) r.left_before r.left last)
unfolding stops_at
StopsInTurn-asked r v c next written last so_far half =
    among r v c so_far.line (λ cs. StopsInTurn (served_on v next written) cs r.left_before r.left last)
    (λ later. record { stops = stops_at r v c next written so_far.line half later; reads = so_far.reads })

-- memory ran out
pub StopsAtStep-asked : (r : Reading) (v : Served) (c : Command) (next : State) (written : Output) → Asked r v c →
    takes_none v.after c ≡ false → next ≡ v.after → written ≡ v.output_after
    → IfSome r.left_before (λ bytes. StopsAtStep (served_on v next written) (commands bytes))
StopsAtStep-asked r v c next written so_far needs same unwritten =
    among r v c so_far (StopsAtStep (served_on v next written)) (λ later. record {
      earlier = asked so_far.told;
      command = c;
      later = later;
      among = refl;
      no_end = so_far.no_end;
      answered = record {
        state = same ∙ so_far.answered.state;
        writes = subst (Writes (answers_from v.before (asked so_far.told)) v.output_before) (sym unwritten) so_far.answered.writes;
      };
      needs_memory = ap (λ s. takes_none s c) (sym so_far.answered.state) ∙ needs;
    })

-- ---- how a session ends where no command is told

-- one read at most tells the end
one_at_most : (b : Bool) → cond b 1 0 ≤ 1
one_at_most b = search rules

-- the end of the input is told
pub record EndsAt (r : Reading) (v : Served) : Type 0 where
  pub answered : IfSome r.left_before (λ bytes. HasAnswered v (commands bytes))
  pub read : IsReadToEnd r.left_before r.left
  pub by_each : (a b : ℕ) → IsAskedWithin 0 (reads_for r.reader) a b → GivesByEach r.left_before r.left a b

pub EndsAt-told : (r : Reading) (v : Served) (next : ReaderState) (left : Option (List ℕ))
    → SoFar r v → TakesCommands r.reader r.left [] next left → next ≡ (record r.reader { ended = true }) → r.reader.kept ≡ []
    → (KnowsEnd r.reader r.left → IsAtEnd left) → (r.reader.ended ≡ true → left ≡ r.left) → EndsAt (read_on r next left) v
EndsAt-told r v next left so_far took is none ends stays =
    let all = all_told r so_far.told so_far.read next left
    (subst (λ (told : List LineText). TakesLines r.reader r.left told next left) (no_line took.lines took.are) took.takes)
    (ap (λ (x : ReaderState). x.kept) is ∙ none) (ap (λ (x : ReaderState). x.taken) is) stays in
    let at_end : IsAtEnd left = ends so_far.read.knows in
    record {
      answered = bytes_of r.left_before left all.given (λ bytes. HasAnswered v (commands bytes)) all.gives (λ more is_left.
          let over = subst IsAtEnd is_left at_end in
          subst (HasAnswered v) (ap asked (sym (ap (λ m. lines (all.given ++ m)) over ∙ ap lines (append-nil all.given) ∙ all.all)))
          so_far.answered);
      read = record { given = all.given; gives = all.gives; few = all.few; ends = inr at_end };
      by_each = λ a b few. record {
        given = all.given;
        gives = all.gives;
        reads = few_more _ _ a b (within_few _ a b few) (omega (arith, all.counted, one_at_most next.ended));
      };
    }

-- a read failed
pub StopsAtRead-open : (r : Reading) (v : Served) (next : ReaderState) (left : Option (List ℕ)) → SoFar r v → (r.reader.ended ≡ true → ⊥) →
    KeepsLine r.reader r.left next left → StopsAtRead v r.left_before left
StopsAtRead-open r v next left so_far reading keeps =
    let read = so_far.read in
    let whole : asked so_far.told ≡ commands (whole_lines (read.takes.given ++ keeps.given)) =
    ap asked (open_after r so_far.told read (open_tells r so_far.told read reading) keeps.given keeps.stays.open_still) in
    record {
      given = read.takes.given ++ keeps.given;
      gives = Gives-then r.left_before r.left left read.takes.given keeps.given read.takes.gives keeps.gives;
      answered = subst (HasAnswered v) whole so_far.answered;
      no_end = subst HasNoEnd whole so_far.no_end;
    }

-- the input is too long
pub record PastLimit (left : Option (List ℕ)) (v : Served) : Type 0 where
  pub answered : IfSome left (λ bytes. HasAnswered v (commands (within_limit bytes)))
  pub too_long : IfSome left IsTooLong

goes_past : (r : Reading) (v : Served) (next : ReaderState) (left : Option (List ℕ)) → SoFar r v → (r.reader.ended ≡ true → ⊥) →
    GoesPast r.reader r.left next left → PastLimit r.left_before v
goes_past r v next left so_far reading goes =
    let read = so_far.read in
    let before = read.takes.given in
    let given = before ++ goes.given in
    let long : length given ≡ MAX_SESSION_BYTES = omega (arith, read.takes.counted, goes.all, length-append before goes.given) in
    let whole : asked so_far.told ≡ commands (whole_lines given) =
    ap asked (open_after r so_far.told read (open_tells r so_far.told read reading) goes.given goes.stays.open_still) in
    let gives : Gives r.left_before (before ++ (goes.given ++ goes.past)) left =
    Gives-then r.left_before r.left left before (goes.given ++ goes.past) read.takes.gives goes.gives in
    let cut : (more : List ℕ) → (before ++ (goes.given ++ goes.past)) ++ more ≡ given ++ (goes.past ++ more) = λ more.
    ap (λ bytes. bytes ++ more) (sym (append_assoc before goes.given goes.past)) ∙ append_assoc given goes.past more in
    let limit : (more : List ℕ) → asked so_far.told ≡ commands (within_limit ((before ++ (goes.given ++ goes.past)) ++ more)) = λ more.
    whole ∙ ap (λ bytes. commands (whole_lines bytes))
    (sym (ap (take MAX_SESSION_BYTES) (cut more) ∙ ap (λ n. take n (given ++ (goes.past ++ more))) (sym long)
    ∙ take-append_seam given (goes.past ++ more))) in
    record {
      answered = bytes_of r.left_before left _ (λ bytes. HasAnswered v (commands (within_limit bytes))) gives
          (λ more is. subst (HasAnswered v) (limit more) so_far.answered);
      too_long = bytes_of r.left_before left _ IsTooLong gives (λ more is. record {
        many = omega (arith, long, goes.one, ap length (cut more), length-append given (goes.past ++ more), length-append goes.past more);
        no_end = subst HasNoEnd (limit more) so_far.no_end;
      });
    }

pub PastLimit-taken : (r : Reading) (v : Served) (next : ReaderState) (left : Option (List ℕ)) → SoFar r v → (r.reader.ended ≡ true → ⊥) →
    TakesTooMany r.reader r.left next left → PastLimit r.left_before v
PastLimit-taken r v next left so_far reading (inl goes) = goes_past r v next left so_far reading goes
PastLimit-taken r v next left so_far reading (inr past) = absurd (omega (arith, past.0, so_far.read.few))

-- where the reader has told these lines, no more reads were made than its bytes, and one more
pub by_each_told : (r : Reading) (told : List LineText) (read : HasTold r told) (a b : ℕ) → IsAskedWithin 0 (reads_for r.reader) a b
    → GivesByEach r.left_before r.left a b
by_each_told r told read a b few = record {
  given = read.takes.given;
  gives = read.takes.gives;
  reads = few_more _ _ a b (within_few _ a b few) (omega (arith, read.takes.counted, one_at_most r.reader.ended));
}

-- nor where a read failed within a line
pub by_each_open : (r : Reading) (v : Served) (next : ReaderState) (left : Option (List ℕ)) (a b : ℕ)
    → SoFar r v → KeepsLine r.reader r.left next left → IsAskedWithin 0 (next.taken + 1) a b → GivesByEach r.left_before left a b
by_each_open r v next left a b so_far keeps few =
    let read = so_far.read.takes in
    record {
      given = read.given ++ keeps.given;
      gives = Gives-then r.left_before r.left left read.given keeps.given read.gives keeps.gives;
      reads = few_more _ _ a b (within_few _ a b few) (omega (arith, read.counted, keeps.counted, length-append read.given keeps.given));
    }

-- nor where the input is too long, of which no more was taken than shows that
pub record AsksPast (left left_after : Option (List ℕ)) (a b : ℕ) : Type 0 where
  pub by_each : GivesByEach left left_after a b
  pub few : IsAskedAtMost (MAX_SESSION_BYTES + 1) a b

pub AsksPast-taken : (r : Reading) (v : Served) (next : ReaderState) (left : Option (List ℕ)) (a b : ℕ) → SoFar r v
    → TakesTooMany r.reader r.left next left → IsAskedWithin 0 next.taken a b → AsksPast r.left_before left a b
AsksPast-taken r v next left a b so_far (inl goes) few =
    let read = so_far.read.takes in
    let past = goes.given ++ goes.past in
    record {
      by_each = record {
        given = read.given ++ past;
        gives = Gives-then r.left_before r.left left read.given past read.gives goes.gives;
        reads = few_more _ _ a b (within_few _ a b few)
            (omega (
              arith,
              read.counted,
              goes.counted,
              goes.all,
              goes.one,
              length-append read.given past,
              length-append goes.given goes.past,
            ));
      };
      few = few_more _ _ a b (within_few _ a b few) (omega (arith, goes.counted));
    }
AsksPast-taken r v next left a b so_far (inr past) few = absurd (omega (arith, past.0, so_far.read.few))

-- what the source has given in all, where the input is too long
pub GivesSome-past : (r : Reading) (v : Served) (next : ReaderState) (left : Option (List ℕ)) → SoFar r v
    → TakesTooMany r.reader r.left next left → GivesSome r.left_before left
GivesSome-past r v next left so_far (inl goes) =
    let takes = so_far.read.takes in
    Gives-some r.left_before left (takes.given ++ (goes.given ++ goes.past))
    (Gives-then r.left_before r.left left takes.given (goes.given ++ goes.past) takes.gives goes.gives)
GivesSome-past r v next left so_far (inr past) =
    let takes = so_far.read.takes in
    Gives-some r.left_before left takes.given (subst (Gives r.left_before takes.given) (sym past.2) takes.gives)
