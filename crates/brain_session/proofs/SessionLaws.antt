-- What a session says and where it stands, command by command, up to END.
use Rattle.std.proofs.Common.{◌≡◌, ◌≢◌, List, [], ◌∷◌, ◌++◌, refl, sym, ap, ◌∙◌, arith, suc, inl, inr, Contains, rules}
use Rattle.std.proofs.lemmas.List.Elements.{Contains-append_cases}
use Rattle.brain_session.proofs.Common.{outcome, White, Outcome, GoesOn, Point, Command, Answer, Reaction, Ends, Game, board_of}
use Rattle.brain_session.proofs.Common.{empty_board, new_game, State, move_row, row_of, step_by, brain_step, then_answers, answers_from}
use Rattle.brain_session.proofs.Common.{then_state, state_after, HasNoEnd}
use Rattle.gomocup_text.specs.declared.Command.TheVariants.{End}
use Rattle.brain_session.proofs.RowCases.{row-cases}

-- a command whose step ends the session is END
pub only_end_ends : (s : State) (c : Command) → (brain_step s c).reaction ≡ Ends → c ≡ End
only_end_ends s c = row-cases (λ row. (step_by s row).reaction ≡ Ends → c ≡ End) s c (record {
  ends = λ is e. is;
  silent = λ e. cc;
  says = λ a e. cc;
  wishes = λ wish e. cc;
  sized = λ width height wide high e. cc;
  again = λ width height some size e. cc;
  reads = λ some e. cc;
  stone = λ b p field read e. cc;
  spoils = λ b read e. cc;
  is_bad = λ a e. cc;
  whole = λ rule b g supported read is e. cc;
  first = λ rule width height supported at e. cc;
  second = λ rule width height p supported at. moves (new_game rule (empty_board width height) White) p
      (outcome rule (empty_board width height) p);
  later = λ rule g p supported at going others. moves g p (outcome g.rule (board_of g) p);
  back = λ g p before at are e. cc;
}) where
  moves : (g : Game) (p : Point) (o : Outcome) → (step_by s (move_row s g p o)).reaction ≡ Ends → c ≡ End
  moves g p GoesOn e = cc
  moves g p _ e = cc

-- END ends the session, and leaves the brain as it is
pub end_ends : (s : State) → (brain_step s End).reaction ≡ Ends
unfolding row_of
end_ends s = refl

-- commands of which none is END
pub HasNoEnd-none : HasNoEnd []
HasNoEnd-none = λ w. absurd (omega (arith, w.1))

pub first_goes_on : (c : Command) (cs : List Command) → HasNoEnd (c ∷ cs) → c ≢ End
first_goes_on c cs no_end = λ is. no_end (0, omega arith, is)

pub later_go_on : (c : Command) (cs : List Command) → HasNoEnd (c ∷ cs) → HasNoEnd cs
later_go_on c cs no_end = λ w. no_end (suc w.0, omega (arith, w.1), w.2)

only_item : (c d : Command) → Contains (c ∷ []) d → c ≡ d
only_item c d h = search rules

pub HasNoEnd-push : (cs : List Command) (c : Command) → HasNoEnd cs → c ≢ End → HasNoEnd (cs ++ (c ∷ []))
HasNoEnd-push cs c no_end goes_on =
    λ w. elim (Contains-append_cases cs (c ∷ []) End w) [ inl before ↦ no_end before | inr last ↦ goes_on (only_item c End last) ]

answers_go_on : (r : Reaction) (xs ys : List Answer) → r ≢ Ends → then_answers r (xs ++ ys) ≡ then_answers r xs ++ ys
answers_go_on r xs ys goes_on = search rules

pub state_goes_on : (r : Reaction) (s later : State) → r ≢ Ends → then_state r s later ≡ later
state_goes_on r s later goes_on = search rules

-- what is said at some commands and then at others, if END is not among the first
pub answers-append : (s : State) (cs ds : List Command) → HasNoEnd cs →
    answers_from s (cs ++ ds) ≡ answers_from s cs ++ answers_from (state_after s cs) ds
unfolding answers_from state_after
answers-append s [] ds no_end = refl
answers-append s (c ∷ cs) ds no_end =
    let step = brain_step s c in
    let goes_on : step.reaction ≢ Ends = λ e. first_goes_on c cs no_end (only_end_ends s c e) in
    ap (then_answers step.reaction) (answers-append step.next cs ds (later_go_on c cs no_end))
    ∙ answers_go_on step.reaction (answers_from step.next cs) (answers_from (state_after step.next cs) ds) goes_on
    ∙ ap (λ t. then_answers step.reaction (answers_from step.next cs) ++ answers_from t ds)
    (sym (state_goes_on step.reaction step.next (state_after step.next cs) goes_on))

-- where the brain is after some commands and then others
pub state-append : (s : State) (cs ds : List Command) → HasNoEnd cs → state_after s (cs ++ ds) ≡ state_after (state_after s cs) ds
unfolding state_after
state-append s [] ds no_end = refl
state-append s (c ∷ cs) ds no_end =
    let step = brain_step s c in
    let goes_on : step.reaction ≢ Ends = λ e. first_goes_on c cs no_end (only_end_ends s c e) in
    state_goes_on step.reaction step.next (state_after step.next (cs ++ ds)) goes_on ∙ state-append step.next cs ds
    (later_go_on c cs no_end) ∙ ap (λ t. state_after t ds) (sym (state_goes_on step.reaction step.next (state_after step.next cs) goes_on))

-- one command alone
pub answers-one : (s : State) (c : Command) → answers_from s (c ∷ []) ≡ then_answers (brain_step s c).reaction []
unfolding answers_from
answers-one s c = refl

same_state : (r : Reaction) (s : State) → then_state r s s ≡ s
same_state r s = search rules

pub state-one : (s : State) (c : Command) → state_after s (c ∷ []) ≡ (brain_step s c).next
unfolding state_after
state-one s c = same_state (brain_step s c).reaction (brain_step s c).next

-- END and whatever follows
pub answers-end : (s : State) (ds : List Command) → answers_from s (End ∷ ds) ≡ []
unfolding answers_from row_of
answers-end s ds = refl

pub state-end : (s : State) (ds : List Command) → state_after s (End ∷ ds) ≡ (brain_step s End).next
unfolding state_after row_of
state-end s ds = refl

pub state-none : (s : State) → state_after s [] ≡ s
unfolding state_after
state-none s = refl

pub answers-none : (s : State) → answers_from s [] ≡ []
unfolding answers_from
answers-none s = refl
