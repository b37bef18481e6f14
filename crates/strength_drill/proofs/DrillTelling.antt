-- A brain is told a position for which it holds a table: the stones are read one by one and make its board, and at DONE a held game begins.
use Rattle.std.proofs.Common.{Some, None, filter, count_by, ◌≡◌, refl, sym, ap, ◌∙◌, ℕ, ◌+◌, ◌*◌, ◌≤◌, Bool, true, false, cond, not, ◌&&◌}
use Rattle.std.proofs.Common.{◌||◌, List, [], ◌∷◌, ◌++◌, map, arith, rules, append_assoc, eqb, subst}
use Rattle.std.specs.List.{list_any}
use Rattle.std.specs.Option.{option_or}
use Rattle.std.proofs.lemmas.Bool.{or_right}
use Rattle.std.proofs.lemmas.List.{append-nil}
use Rattle.strength_drill.proofs.Common.{Grid, is_empty, points_of, mover, IsPosition, Point, RuleKind, Attack, HeldTable, Done}
use Rattle.strength_drill.proofs.Common.{empty_board, new_game, State, new_brain, Step, rule_of, brain_step, SIDE, wish_of, stone_line}
use Rattle.strength_drill.proofs.Common.{stone_lines, position_lines, told_all}
use Rattle.game_rules.proofs.Common.{is_on, holds, stones_of, is_same_point, other}
use Rattle.game_rules.proofs.Points.{is_same_point-itself}
use Rattle.game_rules.proofs.Places.{place, Rising, rows-rising, rising-first, listed_on}
use Rattle.game_rules.proofs.Cells.{On}
use Rattle.foul_judge.specs.Lawful.{refusal}
use Rattle.foul_judge.proofs.Lawfulness.{none_from_lawful}
use Rattle.gomocup_text.specs.declared.Command.{Command as Asked}
use Rattle.brain_session.specs.declared.batch.BatchStone.{BatchStone}
use Rattle.brain_session.specs.States.{Fresh, Batch}
use Rattle.brain_session.specs.Batches.{with_batch_stones, spoiled, has_stone_at, colour_in, game_from}
use Rattle.brain_session.specs.declared.Reaction.TheVariants.{Silent}
use Rattle.brain_session.specs.Steps.{Chooses, row_of}
use Rattle.brain_session.specs.ChosenMoves.{same_rule, same_board, first_node}
use Rattle.brain_session.specs.HeldGames.{BeginsHeldGame}
use Rattle.brain_session.proofs.BatchGames.{batch-counts, batch-colour}
use Rattle.brain_session.proofs.PlayedMoves.{same_board-itself}
use Rattle.brain_session.proofs.LawfulStates.{BatchFits, IsKept, next-lawful, new-lawful}
use Rattle.brain_session.proofs.BatchStones.{stone_at, stones_at, Before, before-none, before-more, before-push, before-apart}
use Rattle.brain_session.proofs.BatchStones.{same_rule-itself, next, stones-make}

-- ---- boards with the same cells

-- ---- the board that the stones make

-- a brain that holds this and reads a batch with these stones, none of them bad, on a board of the drill
abbrev pub batch_read : HeldTable → ℕ → List BatchStone → State
batch_read h w stones = record { wish = w; held = h; place = Fresh SIDE SIDE; batch = Some (record { stones = stones; bad = false }) }

-- ---- one stone

-- a line of a stone on the board, where no stone is yet, adds the stone
with_known : (own on taken : Bool) (stones : List BatchStone) (p : Point)
    → on ≡ true → taken ≡ false → cond ((on && (eqb (cond own 1 2) 1 || eqb (cond own 1 2) 2)) && not taken)
    (let b : Batch = record { stones = stones ++ record { at = p; own = eqb (cond own 1 2) 1 } ∷ []; bad = false } in b)
    (spoiled (record { stones = stones; bad = false })) ≡ record { stones = stones ++ record { at = p; own = own } ∷ []; bad = false }
with_known own on taken stones p e f = search rules

step-stone : (h : HeldTable) (w : ℕ) (b : Grid) (stones : List BatchStone) (p : Point)
    → is_on (empty_board SIDE SIDE) p ≡ true → has_stone_at stones p ≡ false → brain_step (batch_read h w stones) (stone_line b p)
    ≡ record { reaction = Silent; next = batch_read h w (stones ++ stone_at b p ∷ []) }
unfolding row_of
step-stone h w b stones p on free = ap (λ (x : Batch). let s : Step =
    record { reaction = Silent; next = record { wish = w; held = h; place = Fresh SIDE SIDE; batch = Some x } } in s)
    (with_known (holds b (mover b) p) (is_on (empty_board SIDE SIDE) p) (has_stone_at stones p) stones p on free)

-- ---- all stones

module _ (h : HeldTable) (w : ℕ) (b : Grid) (wide : b.width ≡ SIDE) (high : b.height ≡ SIDE) where
  on-side : (p : Point) → is_on b p ≡ true → is_on (empty_board SIDE SIDE) p ≡ true
  on-side p on = search rules

  told-stones : (ps : List Point) (k : ℕ) (stones : List BatchStone) → Rising b.width k ps → On b ps → Before b.width k stones
      → told_all (batch_read h w stones) (stone_lines b ps) ≡ batch_read h w (stones ++ stones_at b ps)
  unfolding On
  told-stones [] k stones rising on before = ap (batch_read h w) (sym (append-nil stones))
  told-stones (p ∷ ps) k stones rising on before = by_test (is_empty b p) refl
      (λ more those. told-stones ps (place b.width p + 1) more first.1 rest those) where
        first : (k ≤ place b.width p) × Rising b.width (place b.width p + 1) ps
        first = rising-first b.width k p ps rising

        rest : (q : Point) → list_any (λ x. is_same_point x q) ps ≡ true → is_on b q ≡ true
        rest q e = on q (or_right (is_same_point p q) _ e)

        on_p : is_on b p ≡ true
        on_p = on p (ap (λ (r : Bool). r || list_any (λ x. is_same_point x p) ps) (is_same_point-itself p))

        here : Before b.width (place b.width p) stones
        here = before-more b.width k (place b.width p) stones first.0 before

        then : Before b.width (place b.width p + 1) stones
        then = before-more b.width (place b.width p) (place b.width p + 1) stones (omega arith) here

        by_test : (r : Bool) → is_empty b p ≡ r → ((more : List BatchStone) → Before b.width (place b.width p + 1) more
            → told_all (batch_read h w more) (stone_lines b ps) ≡ batch_read h w (more ++ stones_at b ps))
            → told_all (batch_read h w stones)
            (map (stone_line b) (cond (not r) (p ∷ filter (λ x. not (is_empty b x)) ps) (filter (λ x. not (is_empty b x)) ps)))
            ≡ batch_read h w (stones ++ map (stone_at b)
            (cond (not r) (p ∷ filter (λ x. not (is_empty b x)) ps) (filter (λ x. not (is_empty b x)) ps)))
        by_test true e later = later stones then
        by_test false e later = ap (λ (t : Step). told_all t.next (stone_lines b ps))
            (step-stone h w b stones p (on-side p on_p) (before-apart b.width p stones here))
            ∙ later (stones ++ stone_at b p ∷ []) (before-push b.width (place b.width p + 1) stones (stone_at b p) then (omega arith))
            ∙ ap (batch_read h w) (append_assoc stones (stone_at b p ∷ []) (stones_at b ps))

-- ---- the position

pub told-position : (h : HeldTable) (rule : RuleKind) (b : Grid) → b.width ≡ SIDE → b.height ≡ SIDE
    → told_all (new_brain h) (position_lines rule b) ≡ batch_read h (wish_of rule) (stones_at b (points_of b))
unfolding row_of On
told-position h rule b wide high = told-stones h (wish_of rule) b wide high
    (points_of b) (0 * b.width) [] (rows-rising b.width 0 b.height) (listed_on b) (before-none b.width (0 * b.width))

-- what a brain is told leaves it lawful, and holding what it holds
pub told-kept : (h : HeldTable) (s : State) (cs : List Asked) → IsKept h s → IsKept h (told_all s cs)
told-kept h s [] kept = kept
told-kept h s (c ∷ cs) kept = told-kept h (brain_step s c).next cs (next-lawful h s c kept)

-- ---- DONE

pub wish-rule : (rule : RuleKind) → rule_of (wish_of rule) ≡ Some rule
wish-rule rule = search rules

-- the game from a batch whose stones make the lawful board b
batch-game : (rule : RuleKind) (b e : Grid) (stones : List BatchStone) → colour_in stones ≡ Some (mover b)
    → with_batch_stones (mover b) e stones ≡ b → refusal rule b ≡ None
    → game_from rule e (record { stones = stones; bad = false }) ≡ Some (new_game rule b (mover b))
batch-game rule b e stones colour make lawful = rw (colour, make, lawful) refl

module _ (h : HeldTable) (rule : RuleKind) (b : Grid) (wide : b.width ≡ SIDE) (high : b.height ≡ SIDE) (lawful : IsPosition rule b) where
  abbrev stones : List BatchStone
  stones = stones_at b (points_of b)

  abbrev told : State
  told = told_all (new_brain h) (position_lines rule b)

  read-is : told ≡ batch_read h (wish_of rule) stones
  read-is = told-position h rule b wide high

  fits : BatchFits (empty_board SIDE SIDE) (record { stones = stones; bad = false })
  fits = (rw read-is at (told-kept h (new_brain h) (position_lines rule b) (new-lawful h))).0.batch

  make : with_batch_stones (mover b) (empty_board SIDE SIDE) stones ≡ b
  make = subst (λ (n : ℕ). with_batch_stones (mover b) (empty_board n SIDE) stones ≡ b) wide
      (subst (λ (n : ℕ). with_batch_stones (mover b) (empty_board b.width n) stones ≡ b) high (stones-make b lawful.board))

  colour : colour_in stones ≡ Some (mover b)
  colour =
      let counts = batch-counts (mover b) SIDE SIDE stones false fits.0 fits.1 in
      batch-colour (mover b) b (count_by (λ x. x.own) stones) (count_by (λ x. not x.own) stones) lawful.turns refl
      (sym (ap (λ (c : Grid). stones_of c (mover b)) make) ∙ counts.0)
      (sym (ap (λ (c : Grid). stones_of c (other (mover b))) make) ∙ counts.1)

  done-row : row_of (batch_read h (wish_of rule) stones) Done ≡ Chooses (new_game rule b (mover b))
  unfolding row_of
  done-row = rw (wish-rule rule, batch-game rule b (empty_board SIDE SIDE) stones colour make (none_from_lawful rule b lawful)) refl

  -- where the table is held at the position, a held game begins
  pub begins-held : (i : ℕ) → h.roots ≡ record { root = Attack i; kind = rule; board = b } ∷ []
      → BeginsHeldGame (batch_read h (wish_of rule) stones) Done (new_game rule b (mover b)) i
  begins-held i roots = record {
    chooses = done-row;
    not_followed = refl;
    leads = ap (first_node (new_game rule b (mover b))) roots
        ∙ leads-first (same_rule rule rule) (same_board b b) (same_rule-itself rule) (same_board-itself b);
  } where
    leads-first : (r s : Bool) → r ≡ true → s ≡ true → option_or (cond r (cond s (Some i) None) None) None ≡ Some i
    leads-first r s e f = rw (e, f) refl
