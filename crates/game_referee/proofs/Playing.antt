-- A move that goes on, played: the board after it is lawful, has one empty point less, and the other side moves there.
use Rattle.std.proofs.Common.{◌≡◌, ℕ, zero, suc, ◌+◌, ◌-◌, ◌≤◌, Bool, true, false, List, [], ◌∷◌, length, refl}
use Rattle.std.proofs.Common.{sym, ap, subst, ◌∙◌, arith, ◌⊎◌, inl, inr, Option, None, drop, take, slice_index_or}
use Rattle.std.proofs.lemmas.Nat.{mul-le}
use Rattle.std.proofs.lemmas.List.{drop_all, length-drop, take_all}
use Rattle.game_rules.proofs.Common.{Grid, IsBoard, empties_of, IsPosition, outcome, after, mover, other}
use Rattle.game_rules.proofs.Cells.{counts_of_board}
use Rattle.game_rules.specs.declared.RuleKind.{RuleKind}
use Rattle.game_rules.specs.declared.Foul.{Foul}
use Rattle.game_rules.specs.declared.Side.{Side}
use Rattle.game_rules.specs.declared.Outcome.{Outcome}
use Rattle.game_rules.specs.declared.Outcome.TheVariants.{Refused, Wins, Fouls, Draws, GoesOn}
use Rattle.game_rules.specs.declared.Point.{Point}
use Rattle.game_rules.proofs.Boards.{empties_of-put}
use Rattle.game_rules.proofs.Positions.{IsPosition-after, GoesOn-empty, mover-then}
use Rattle.strategy_graph.specs.declared.Node.{Node}
use Rattle.strategy_graph.specs.declared.roots.Root.{Root}
use Rattle.game_referee.specs.declared.ReplayAnswer.TheVariants.{Follows, Departs}
use Rattle.game_referee.specs.declared.GameVerdict.{GameVerdict}
use Rattle.game_referee.proofs.Common.{outcomes, verdict_from, WentOn, departs_from, is_stray, next_turn, strays}

module _ (rule : RuleKind) (b c : Grid) (p : Point) (lawful : IsPosition rule b) (on : outcome rule b p ≡ GoesOn)
    (played : c ≡ after b p) where
  pub played-lawful : IsPosition rule c
  played-lawful = rw played (IsPosition-after rule b p lawful on)

  pub played-fewer : empties_of c + 1 ≡ empties_of b
  played-fewer = rw played (empties_of-put b (mover b) p lawful.board (GoesOn-empty rule b p on))

  pub played-mover : mover c ≡ other (mover b)
  played-mover = rw played (mover-then rule b p lawful on)

module _ (rule : RuleKind) (b c : Grid) (p : Point) (rest : List Point) (lawful : IsPosition rule b) (on : outcome rule b p ≡ GoesOn)
    (played : c ≡ after b p) where
  -- the verdict on the moves after one that goes on
  pub judged-on : (k : ℕ) → verdict_from (k + 1) (mover c) (outcomes rule c rest) ≡ verdict_from k (mover b) (outcomes rule b (p ∷ rest))
  judged-on k =
      ap (λ (s : Side). verdict_from (k + 1) s (outcomes rule c rest)) (played-mover rule b c p lawful on played)
      ∙ ap (λ (w : Grid). verdict_from (k + 1) (other (mover b)) (outcomes rule w rest)) played
      ∙ ap (λ (o : Outcome). verdict_from k (mover b) (o ∷ outcomes rule (after b p) rest)) (sym on)

  -- the replay of them
  pub replayed-on : (k : ℕ) (bs : List Bool) → departs_from (k + 1) bs (outcomes rule c rest) ≡ departs_from k (false ∷ bs)
      (outcome rule b p ∷ outcomes rule (after b p) rest)
  replayed-on k bs =
      ap (λ (w : Grid). departs_from (k + 1) bs (outcomes rule w rest)) played
      ∙ ap (λ (o : Outcome). departs_from k (false ∷ bs) (o ∷ outcomes rule (after b p) rest)) (sym on)

-- ---- the first moves of a game

-- the boards that the first moves leave, as the referee plays them
pub record PlayedOn (rule : RuleKind) (b : Grid) (ms : List Point) (n : ℕ) (e : Grid) : Type 0 where
  pub went : WentOn rule b ms n e
  pub lawful : IsPosition rule e
  pub fewer : n + empties_of e ≡ empties_of b
  pub judged : verdict_from n (mover e) (outcomes rule e (drop n ms)) ≡ verdict_from 0 (mover b) (outcomes rule b ms)

module _ (rule : RuleKind) (b : Grid) (ms : List Point) where
  pub played-none : IsPosition rule b → PlayedOn rule b ms 0 b
  played-none lawful = record { went = refl; lawful = lawful; fewer = omega arith; judged = refl }

  module _ (n : ℕ) (e : Grid) where
    pub played-more : (c : Grid) (p : Point) → PlayedOn rule b ms n e → drop n ms ≡ p ∷ drop (n + 1) ms → outcome rule e p ≡ GoesOn
        → c ≡ after e p → PlayedOn rule b ms (n + 1) c
    played-more c p h at on played =
        let less = played-fewer rule e c p h.lawful on played in
        let before = h.fewer in
        let more : suc n ≡ n + 1 = omega arith in
        record {
          went = subst (λ k. WentOn rule b ms k c) more (e, h.went, p, at, on, played);
          lawful = played-lawful rule e c p h.lawful on played;
          fewer = omega (arith, less, before);
          judged = judged-on rule e c p (drop (n + 1) ms) h.lawful on played n
              ∙ ap (λ (l : List Point). verdict_from n (mover e) (outcomes rule e l)) (sym at) ∙ h.judged;
        }

    -- no more moves than a board has points
    pub played-few : IsBoard b → PlayedOn rule b ms n e → n ≤ 1024
    played-few ok h =
        let all = counts_of_board b ok in
        let points = mul-le b.width b.height 32 32 ok.width_fits ok.height_fits in
        let fewer = h.fewer in
        omega (arith, all, points, fewer)

    -- as many outcomes as moves
    pub length-outcomes : (c : Grid) (ps : List Point) → length (outcomes rule c ps) ≡ length ps
    length-outcomes c [] = refl
    length-outcomes c (p ∷ ps) = ap suc (length-outcomes (after c p) ps)

    -- the move that does not go on decides
    pub played-end : (p : Point) (o : Outcome) (s : Side) (v : GameVerdict) → PlayedOn rule b ms n e → drop n ms ≡ p ∷ drop (n + 1) ms
        → o ≡ outcome rule e p → s ≡ mover e
        → ((later : List Outcome) → length later ≡ length (take (length ms - (n + 1)) (drop (n + 1) ms)) → v ≡ verdict_from n s (o ∷ later))
        → v ≡ verdict_from 0 (mover b) (outcomes rule b ms)
    played-end p o s v h at here side told =
        let size = length-drop (n + 1) ms in
        let whole = take_all (length ms - (n + 1)) (drop (n + 1) ms) (omega (arith, size)) in
        told (outcomes rule (after e p) (drop (n + 1) ms)) (length-outcomes (after e p) (drop (n + 1) ms) ∙ sym (ap length whole))
        ∙ ap (λ (t : Side). verdict_from n t (o ∷ outcomes rule (after e p) (drop (n + 1) ms))) side
        ∙ ap (λ (u : Outcome). verdict_from n (mover e) (u ∷ outcomes rule (after e p) (drop (n + 1) ms))) here
        ∙ ap (λ (l : List Point). verdict_from n (mover e) (outcomes rule e l)) (sym at) ∙ h.judged

-- ---- moves that are taken back

went-lawful : (rule : RuleKind) (b : Grid) (ms : List Point) (n : ℕ) (e : Grid) → IsPosition rule b → WentOn rule b ms n e
    → IsPosition rule e
went-lawful rule b ms zero e lawful h = subst (IsPosition rule) (sym h) lawful
went-lawful rule b ms (suc n) e lawful h = played-lawful rule h.0 e h.2 (went-lawful rule b ms n h.0 lawful h.1) h.4 h.5

-- the last of the moves, on the board before it
pub record LastMove (rule : RuleKind) (b : Grid) (ms : List Point) (n : ℕ) (q : Point) (e : Grid) : Type 0 where
  pub board : Grid
  pub went : WentOn rule b ms n board
  pub lawful : IsPosition rule board
  pub on : outcome rule board q ≡ GoesOn
  pub played : e ≡ after board q

pub went-last : (rule : RuleKind) (b : Grid) (ms : List Point) (m n : ℕ) (q : Point) (e : Grid) → IsPosition rule b → m ≡ suc n
    → drop n ms ≡ q ∷ drop (n + 1) ms → WentOn rule b ms m e → LastMove rule b ms n q e
went-last rule b ms m n q e lawful more at went =
    let h = subst (λ k. WentOn rule b ms k e) more went in
    let same : h.2 ≡ q = ap (λ (l : List Point). slice_index_or l 0 q) (sym h.3 ∙ at) in
    record {
      board = h.0;
      went = h.1;
      lawful = went-lawful rule b ms n h.0 lawful h.1;
      on = ap (outcome rule h.0) (sym same) ∙ h.4;
      played = h.5 ∙ ap (after h.0) same;
    }

-- where nothing is in turn, no move strays
pub no_turn : (t : List Node) (n : ℕ) (ps : List Point) (os : List Outcome) → departs_from n (strays t None ps) os ≡ Follows
no_turn t n [] os = refl
no_turn t n (p ∷ ps) [] = refl
no_turn t n (p ∷ ps) (Refused ∷ os) = refl
no_turn t n (p ∷ ps) (Wins ∷ os) = refl
no_turn t n (p ∷ ps) (Fouls f ∷ os) = refl
no_turn t n (p ∷ ps) (Draws ∷ os) = refl
no_turn t n (p ∷ ps) (GoesOn ∷ os) = no_turn t (n + 1) ps os

-- a move that does not stray, after which nothing is in turn
pub over : (rule : RuleKind) (t : List Node) (turn : Option Root) (b : Grid) (p : Point) (ps : List Point) (n : ℕ)
    → is_stray t turn p ≡ false → next_turn t turn p ≡ None → Follows ≡ departs_from n (strays t turn (p ∷ ps)) (outcomes rule b (p ∷ ps))
over rule t turn b p ps n stray none =
    sym (no_turn t n (p ∷ ps) (outcomes rule b (p ∷ ps)))
    ∙ ap (λ (x : Option Root). departs_from n (false ∷ strays t x ps) (outcomes rule b (p ∷ ps))) (sym none)
    ∙ ap (λ (x : Bool). departs_from n (x ∷ strays t (next_turn t turn p) ps) (outcomes rule b (p ∷ ps))) (sym stray)

-- ---- the first moves of a game beside a table

-- after a move with such an outcome a game that did not stray follows
pub follows-end : (o : Outcome) → (o ≡ Refused) ⊎ ((o ≡ Wins) ⊎ (((f : Foul) × (o ≡ Fouls f)) ⊎ (o ≡ Draws))) → (n : ℕ) (bs : List Bool)
    (os : List Outcome) → Follows ≡ departs_from n (false ∷ bs) (o ∷ os)
follows-end o (inl e) n bs os = rw e refl
follows-end o (inr (inl e)) n bs os = rw e refl
follows-end o (inr (inr (inl (f, e)))) n bs os = rw e refl
follows-end o (inr (inr (inr e))) n bs os = rw e refl

-- the boards that the first moves leave, and what is in turn there, where each goes on and none strays
pub record ReplayedOn (rule : RuleKind) (t : List Node) (first : Option Root) (b : Grid) (ms : List Point) (n : ℕ) (turn : Option Root)
    (e : Grid) : Type 0 where
  pub on : PlayedOn rule b ms n e
  pub replayed : departs_from n (strays t turn (drop n ms)) (outcomes rule e (drop n ms))
      ≡ departs_from 0 (strays t first ms) (outcomes rule b ms)

module _ (rule : RuleKind) (t : List Node) (first : Option Root) (b : Grid) (ms : List Point) where
  pub replayed-none : IsPosition rule b → ReplayedOn rule t first b ms 0 first b
  replayed-none lawful = record { on = played-none rule b ms lawful; replayed = refl }

  module _ (n : ℕ) (turn : Option Root) (e : Grid) (h : ReplayedOn rule t first b ms n turn e) where
    -- all of them
    pub replayed-all : n ≡ length ms → Follows ≡ departs_from 0 (strays t first ms) (outcomes rule b ms)
    replayed-all all =
        let none : drop n ms ≡ [] = drop_all n ms (omega (arith, all)) in
        ap (λ (l : List Point). departs_from n (strays t turn l) (outcomes rule e l)) (sym none) ∙ h.replayed

    module _ (p : Point) (at : drop n ms ≡ p ∷ drop (n + 1) ms) where
      from-here : departs_from n (is_stray t turn p ∷ strays t (next_turn t turn p) (drop (n + 1) ms))
          (outcome rule e p ∷ outcomes rule (after e p) (drop (n + 1) ms)) ≡ departs_from 0 (strays t first ms) (outcomes rule b ms)
      from-here = ap (λ (l : List Point). departs_from n (strays t turn l) (outcomes rule e l)) (sym at) ∙ h.replayed

      -- the move strays
      pub replayed-stray : is_stray t turn p ≡ true → Departs (n + 1) ≡ departs_from 0 (strays t first ms) (outcomes rule b ms)
      replayed-stray stray =
          ap (λ (x : Bool). departs_from n (x ∷ strays t (next_turn t turn p) (drop (n + 1) ms))
          (outcome rule e p ∷ outcomes rule (after e p) (drop (n + 1) ms))) (sym stray)
          ∙ from-here

      module _ (stray : is_stray t turn p ≡ false) where
        on-here : departs_from n (false ∷ strays t (next_turn t turn p) (drop (n + 1) ms))
            (outcome rule e p ∷ outcomes rule (after e p) (drop (n + 1) ms)) ≡ departs_from 0 (strays t first ms) (outcomes rule b ms)
        on-here =
            ap (λ (x : Bool). departs_from n (x ∷ strays t (next_turn t turn p) (drop (n + 1) ms))
            (outcome rule e p ∷ outcomes rule (after e p) (drop (n + 1) ms))) (sym stray)
            ∙ from-here

        -- nothing is in turn after it
        pub replayed-over : next_turn t turn p ≡ None → Follows ≡ departs_from 0 (strays t first ms) (outcomes rule b ms)
        replayed-over none = over rule t turn e p (drop (n + 1) ms) n stray none ∙ from-here

        -- it does not go on
        pub replayed-end : (o : Outcome) → o ≡ outcome rule e p
            → ((bs : List Bool) (os : List Outcome) → Follows ≡ departs_from n (false ∷ bs) (o ∷ os))
            → Follows ≡ departs_from 0 (strays t first ms) (outcomes rule b ms)
        replayed-end o here ends =
            ends (strays t (next_turn t turn p) (drop (n + 1) ms)) (outcomes rule (after e p) (drop (n + 1) ms))
            ∙ ap (λ (u : Outcome). departs_from n (false ∷ strays t (next_turn t turn p) (drop (n + 1) ms))
            (u ∷ outcomes rule (after e p) (drop (n + 1) ms))) here
            ∙ on-here

        -- it goes on
        pub replayed-more : (next : Option Root) (c : Grid) → next ≡ next_turn t turn p → outcome rule e p ≡ GoesOn → c ≡ after e p
            → ReplayedOn rule t first b ms (n + 1) next c
        replayed-more next c in-turn goes_on played = record {
          on = played-more rule b ms n e c p h.on at goes_on played;
          replayed =
              ap (λ (x : Option Root). departs_from (n + 1) (strays t x (drop (n + 1) ms)) (outcomes rule c (drop (n + 1) ms))) in-turn
              ∙ replayed-on rule e c p (drop (n + 1) ms) h.on.lawful goes_on played n (strays t (next_turn t turn p) (drop (n + 1) ms))
              ∙ on-here;
        }
