-- Games that follow an accepted table: the verdict agrees with the end of the game against the table, and no such game is lost.
use Rattle.std.proofs.Common.{◌≡◌, ◌↔◌, ℕ, zero, suc, ◌+◌, ◌*◌, ◌-◌, Bool, true, false, not, List, [], ◌∷◌}
use Rattle.std.proofs.Common.{◌++◌, length, refl, sym, ap, subst, ◌∙◌, arith, Option, Some, None, slice_get, IsSomeAnd}
use Rattle.std.proofs.Common.{option_map}
use Rattle.game_rules.proofs.Common.{Grid, is_same_point, outcome, after, mover, other, WinsOr, LosesOr}
use Rattle.game_rules.specs.declared.Side.{Side}
use Rattle.game_rules.specs.declared.Foul.{Foul}
use Rattle.game_rules.specs.declared.RuleKind.{RuleKind}
use Rattle.game_rules.specs.declared.Outcome.{Outcome}
use Rattle.game_rules.specs.declared.Outcome.TheVariants.{Refused, Wins, Fouls, Draws, GoesOn}
use Rattle.game_rules.specs.declared.Point.{Point}
use Rattle.game_rules.proofs.Boards.{other-other}
use Rattle.game_rules.proofs.Points.{is_same_point-same}
use Rattle.strategy_graph.specs.declared.Node.{Node}
use Rattle.strategy_graph.specs.declared.roots.Root.{Root}
use Rattle.strategy_graph.specs.declared.roots.Root.TheVariants.{Attack, Defend}
use Rattle.strategy_graph.proofs.Common.{AcceptedRoot, Answers, answers_of, answer, is_winning, Meets, AcceptedNode, AcceptedWithin}
use Rattle.strategy_graph.proofs.Common.{Accepted, End, Won as EndWon, Open as EndOpen, one_later, attacks, game}
use Rattle.game_referee.specs.declared.GameVerdict.{GameVerdict}
use Rattle.game_referee.specs.declared.GameVerdict.TheVariants.{Open, Illegal, AfterEnd, Won, Fouled, Drawn}
use Rattle.game_referee.specs.declared.ReplayAnswer.TheVariants.{Follows}
use Rattle.game_referee.proofs.Common.{outcomes, verdict, verdict_from, departs_from, is_attack, is_stray, next_turn, replay, strays}
use Rattle.game_referee.proofs.Common.{Agrees, FollowerNeverLoses, GamesGoByRoot, GamesGoByTable, GoesByTable, IsKeptBy, IsPlayed}
use Rattle.game_referee.proofs.Common.{even_moves, mover_after, odd_moves, side_of}

-- ---- what agrees, where c moves were played before; a point that is no move is a reply

abbrev AgreesFrom : ℕ → Side → ℕ → GameVerdict → End → Type 0
AgreesFrom c s len (Open n) e = (n ≡ c + len) × ((k : ℕ) → len ≡ 2 * k + 1 → e ≡ EndOpen)
AgreesFrom c s len (Won side n) e = (side ≡ s) × (n ≡ c + len) × ((k : ℕ) × (len + 1 ≡ 2 * k) × (e ≡ EndWon k))
AgreesFrom c s len (Fouled f n) e = (n ≡ c + len) × ((k : ℕ) × (len ≡ 2 * k) × (e ≡ EndWon k))
AgreesFrom c s len (Drawn n) e = ⊥
AgreesFrom c s len (Illegal n) e = (k : ℕ) × (n ≡ c + 2 * k)
AgreesFrom c s len (AfterEnd n) e = Unit {0}

-- an attack and a reply that go on before it
agrees-later : (c : ℕ) (s : Side) (len : ℕ) (v : GameVerdict) (e : End) → AgreesFrom (c + 1 + 1) s len v e
    → AgreesFrom c s (suc (suc len)) v (one_later e)
agrees-later c s len (Open n) e h = (let is = h.0 in omega (arith, is), λ k odd. ap one_later (h.1 (k - 1) (omega (arith, odd))))
agrees-later c s len (Won side n) e h =
    (h.0, (let is = h.1 in omega (arith, is)), (h.2.0 + 1, (let is = h.2.1 in omega (arith, is)), ap one_later h.2.2))
agrees-later c s len (Fouled f n) e h =
    ((let is = h.0 in omega (arith, is)), (h.1.0 + 1, (let is = h.1.1 in omega (arith, is)), ap one_later h.1.2))
agrees-later c s len (Drawn n) e h = h
agrees-later c s len (Illegal n) e h = (h.0 + 1, let is = h.1 in omega (arith, is))
agrees-later c s len (AfterEnd n) e h = tt

agrees-by : (c : ℕ) (s : Side) (len : ℕ) (v w : GameVerdict) (e d : End) → v ≡ w → e ≡ d → AgreesFrom c s len w d → AgreesFrom c s len v e
agrees-by c s len v w e d same ends h = subst (λ (x : GameVerdict). AgreesFrom c s len x e) (sym same)
    (subst (AgreesFrom c s len w) (sym ends) h)

-- ---- a game from a node, where the side s moves after c moves

record Held (rule : RuleKind) (t : List Node) (i : ℕ) (b : Grid) (ms : List Point) (c : ℕ) (s : Side) : Type 0 where
  agrees : AgreesFrom c s (length ms) (verdict_from c s (outcomes rule b ms)) (game rule t i b (even_moves ms))
  played : IsPlayed (verdict_from c s (outcomes rule b ms)) → (later : List Point)
      × (odd_moves ms ++ later ≡ attacks rule t i b (even_moves ms))

abbrev FollowsFrom : RuleKind → List Node → ℕ → Grid → List Point → ℕ → Type 0
FollowsFrom rule t i b ms c = departs_from c (strays t (Some (Attack i)) ms) (outcomes rule b ms) ≡ Follows

-- what holds of all games from the nodes of which Next holds
abbrev HeldAfter : RuleKind → List Node → (ℕ → Grid → Type 0) → Type 0
HeldAfter rule t Next = (j : ℕ) (b : Grid) (ms : List Point) (c : ℕ) (s : Side) → Next j b → FollowsFrom rule t j b ms c
    → Held rule t j b ms c s

module _ (rule : RuleKind) (t : List Node) (i : ℕ) (b : Grid) (n : Node) (at : slice_get t i ≡ Some n) (c : ℕ) (s : Side) where
  -- the attack wins, and is the last move that was played
  attack-wins : outcome rule b n.attack ≡ Wins → (more : List Point) → Held rule t i b (n.attack ∷ more) c s
  unfolding game attacks
  attack-wins won [] = record {
    agrees = agrees-by c s 1 _ (Won s (c + 1)) _ (EndWon 1) (ap (λ (o : Outcome). verdict_from c s (o ∷ [])) won) (rw (at, won) refl)
        (refl, refl, (1, refl, refl));
    played = λ is. ([], rw (at, won) refl);
  }
  attack-wins won (q ∷ more) =
      let after_end = ap (λ (o : Outcome). verdict_from c s (o ∷ outcomes rule (after b n.attack) (q ∷ more))) won in
      record {
        agrees = agrees-by c s _ _ (AfterEnd (c + 1 + 1)) _ _ after_end refl tt;
        played = λ is. absurd (subst IsPlayed after_end is);
      }

  module _ (on : outcome rule b n.attack ≡ GoesOn) (rest : is_winning n.rest ≡ false) where
    -- the attack goes on, and is the last move
    attack-open : Held rule t i b (n.attack ∷ []) c s
    unfolding game attacks
    attack-open = record {
      agrees = agrees-by c s 1 _ (Open (c + 1)) _ EndOpen (ap (λ (o : Outcome). verdict_from c s (o ∷ [])) on) (rw (at, on, rest) refl)
          (refl, λ k odd. refl);
      played = λ is. ([], rw (at, on, rest) refl);
    }

    module _ (q : Point) where
      -- the verdict by the outcome of the reply
      by_reply : (more : List Point) (o : Outcome) → outcome rule (after b n.attack) q ≡ o
          → verdict_from c s (outcomes rule b (n.attack ∷ q ∷ more)) ≡ verdict_from (c + 1) (other s)
          (o ∷ outcomes rule (after (after b n.attack) q) more)
      by_reply more o is =
          ap (λ (x : Outcome). verdict_from c s (x ∷ outcomes rule (after b n.attack) (q ∷ more))) on
          ∙ ap (λ (x : Outcome). verdict_from (c + 1) (other s) (x ∷ outcomes rule (after (after b n.attack) q) more)) is

      played-reply : (more : List Point) (o : Outcome) → outcome rule (after b n.attack) q ≡ o
          → IsPlayed (verdict_from c s (outcomes rule b (n.attack ∷ q ∷ more)))
          → IsPlayed (verdict_from (c + 1) (other s) (o ∷ outcomes rule (after (after b n.attack) q) more))
      played-reply more o is played = subst IsPlayed (by_reply more o is) played

      -- the reply is no move
      reply-refused : outcome rule (after b n.attack) q ≡ Refused → (more : List Point) → Held rule t i b (n.attack ∷ q ∷ more) c s
      reply-refused e more = record {
        agrees = agrees-by c s _ _ (Illegal (c + 1 + 1)) _ _ (by_reply more Refused e) refl (1, omega arith);
        played = λ is. absurd (played-reply more Refused e is);
      }

      -- the reply fouls, and is the last move that was played
      reply-fouls : (f : Foul) → outcome rule (after b n.attack) q ≡ Fouls f → (more : List Point)
          → Held rule t i b (n.attack ∷ q ∷ more) c s
      unfolding game attacks
      reply-fouls f e [] = record {
        agrees = agrees-by c s 2 _ (Fouled f (c + 1 + 1)) _ (EndWon 1) (by_reply [] (Fouls f) e) (rw (at, on, rest, e) refl)
            (omega arith, (1, refl, refl));
        played = λ is. ([], rw (at, on, rest, e) refl);
      }
      reply-fouls f e (x ∷ more) = record {
        agrees = agrees-by c s _ _ (AfterEnd (c + 1 + 1 + 1)) _ _ (by_reply (x ∷ more) (Fouls f) e) refl tt;
        played = λ is. absurd (played-reply (x ∷ more) (Fouls f) e is);
      }

      module _ (more : List Point) (j : ℕ) (go : outcome rule (after b n.attack) q ≡ GoesOn) (some : answer (answers_of n) q ≡ Some j) where
        -- the reply goes on to its answer
        reply-next : Held rule t j (after (after b n.attack) q) more (c + 1 + 1) s → Held rule t i b (n.attack ∷ q ∷ more) c s
        unfolding game attacks
        reply-next h = record {
          agrees = agrees-by c s (suc (suc (length more))) _
              (verdict_from (c + 1 + 1) s (outcomes rule (after (after b n.attack) q) more)) _
              (one_later (game rule t j (after (after b n.attack) q) (even_moves more)))
              (by_reply more GoesOn go ∙ ap (λ (x : Side). verdict_from (c + 1 + 1) x (outcomes rule (after (after b n.attack) q) more))
              (other-other s))
              (rw (at, on, rest, go, some) refl) (agrees-later c s (length more) _ _ h.agrees);
          played = λ is.
              let next : attacks rule t i b (q ∷ even_moves more) ≡ n.attack ∷ attacks rule t j (after (after b n.attack) q)
              (even_moves more) = rw (at, on, rest, go, some) refl in
              let later = h.played (subst (λ (x : Side).
              IsPlayed (verdict_from (c + 1 + 1) x (outcomes rule (after (after b n.attack) q) more))) (other-other s)
              (played-reply more GoesOn go is)) in
              (later.0, ap (λ (l : List Point). n.attack ∷ l) later.1 ∙ sym next);
        }

        -- and the game follows the table from there
        follows-next : departs_from c (false ∷ strays t (option_map (λ (m : Node). Defend (answers_of m)) (slice_get t i)) (q ∷ more))
            (outcomes rule b (n.attack ∷ q ∷ more)) ≡ Follows → FollowsFrom rule t j (after (after b n.attack) q) more (c + 1 + 1)
        follows-next follows =
            let b1 : Grid = after b n.attack in
            let os : List Outcome = outcomes rule (after b1 q) more in
            let f1 = subst (λ (o : Outcome). departs_from c
            (false ∷ strays t (option_map (λ (m : Node). Defend (answers_of m)) (slice_get t i)) (q ∷ more))
            (o ∷ outcome rule b1 q ∷ os) ≡ Follows) on follows in
            let f2 = subst (λ (x : Option Node). departs_from (c + 1)
            (strays t (option_map (λ (m : Node). Defend (answers_of m)) x) (q ∷ more)) (outcome rule b1 q ∷ os) ≡ Follows) at f1 in
            let f3 = subst (λ (o : Outcome). departs_from (c + 1)
            (false ∷ strays t (option_map (λ (k : ℕ). Attack k) (answer (answers_of n) q)) more) (o ∷ os) ≡ Follows) go f2 in
            subst (λ (x : Option ℕ). departs_from (c + 1 + 1) (strays t (option_map (λ (k : ℕ). Attack k) x) more) os ≡ Follows) some f3

      reply-held : (Next : ℕ → Grid → Type 0) → HeldAfter rule t Next → Meets rule (answers_of n) Next (after b n.attack) q
          → (more : List Point)
          → departs_from c (false ∷ strays t (option_map (λ (m : Node). Defend (answers_of m)) (slice_get t i)) (q ∷ more))
          (outcomes rule b (n.attack ∷ q ∷ more)) ≡ Follows
          → Held rule t i b (n.attack ∷ q ∷ more) c s
      reply-held Next held meets more follows = by_outcome (outcome rule (after b n.attack) q) refl meets where
        by_answer : outcome rule (after b n.attack) q ≡ GoesOn → (o : Option ℕ) → answer (answers_of n) q ≡ o
            → IsSomeAnd o (λ j. Next j (after (after b n.attack) q)) → Held rule t i b (n.attack ∷ q ∷ more) c s
        by_answer go None is h = absurd h
        by_answer go (Some j) is h = reply-next more j go is
            (held j (after (after b n.attack) q) more (c + 1 + 1) s h (follows-next more j go is follows))

        by_outcome : (o : Outcome) → outcome rule (after b n.attack) q ≡ o
            → LosesOr o (IsSomeAnd (answer (answers_of n) q) (λ j. Next j (after (after b n.attack) q)))
            → Held rule t i b (n.attack ∷ q ∷ more) c s
        by_outcome Refused is h = reply-refused is more
        by_outcome Wins is h = absurd h
        by_outcome (Fouls f) is h = reply-fouls f is more
        by_outcome Draws is h = absurd h
        by_outcome GoesOn is h = by_answer is (answer (answers_of n) q) refl h

  attack-held : (Next : ℕ → Grid → Type 0) → HeldAfter rule t Next → WinsOr (outcome rule b n.attack)
      ((is_winning n.rest ≡ false) × ((q : Point) → Meets rule (answers_of n) Next (after b n.attack) q)) → (more : List Point)
      → departs_from c (false ∷ strays t (option_map (λ (m : Node). Defend (answers_of m)) (slice_get t i)) more)
      (outcomes rule b (n.attack ∷ more)) ≡ Follows
      → Held rule t i b (n.attack ∷ more) c s
  attack-held Next held accepted more follows = by_outcome (outcome rule b n.attack) refl accepted where
    by_more : outcome rule b n.attack ≡ GoesOn → (is_winning n.rest ≡ false)
        × ((q : Point) → Meets rule (answers_of n) Next (after b n.attack) q)
        → (ms : List Point)
        → departs_from c (false ∷ strays t (option_map (λ (m : Node). Defend (answers_of m)) (slice_get t i)) ms)
        (outcomes rule b (n.attack ∷ ms)) ≡ Follows
        → Held rule t i b (n.attack ∷ ms) c s
    by_more on h [] fol = attack-open on h.0
    by_more on h (q ∷ ms) fol = reply-held on h.0 q Next held (h.1 q) ms fol

    by_outcome : (o : Outcome) → outcome rule b n.attack ≡ o
        → WinsOr o ((is_winning n.rest ≡ false) × ((q : Point) → Meets rule (answers_of n) Next (after b n.attack) q))
        → Held rule t i b (n.attack ∷ more) c s
    by_outcome Refused is h = absurd h
    by_outcome Wins is h = attack-wins is more
    by_outcome (Fouls f) is h = absurd h
    by_outcome Draws is h = absurd h
    by_outcome GoesOn is h = by_more is h more follows

-- a first move that does not stray is the attack
first_stray : (bs : List Bool) (os : List Outcome) (c : ℕ) (stray : Bool) → departs_from c (stray ∷ bs) os ≡ Follows → stray ≡ false
first_stray bs os c true h = absurd (cc)
first_stray bs os c false h = refl

is_attack-same : (n : Node) (p : Point) → not (is_attack (Some n) p) ≡ false → n.attack ≡ p
is_attack-same n p h = by_test (is_same_point n.attack p) refl where
  by_test : (r : Bool) → is_same_point n.attack p ≡ r → n.attack ≡ p
  by_test true e = is_same_point-same n.attack p e
  by_test false e = let bad : true ≡ false = sym (ap not e) ∙ h in cc

node-held : (rule : RuleKind) (t : List Node) (i : ℕ) (b : Grid) (Next : ℕ → Grid → Type 0) → HeldAfter rule t Next → (o : Option Node)
    → slice_get t i ≡ o → AcceptedNode rule o Next b → (ms : List Point) (c : ℕ) (s : Side)
    → FollowsFrom rule t i b ms c → Held rule t i b ms c s
node-held rule t i b Next held None at h ms c s follows = absurd h
node-held rule t i b Next held (Some n) at h [] c s follows = record {
  agrees = (omega arith, λ k odd. absurd (omega (arith, odd)));
  played = λ is. (attacks rule t i b [], refl);
}
node-held rule t i b Next held (Some n) at h (p ∷ more) c s follows =
    let bs : List Bool = strays t (option_map (λ (m : Node). Defend (answers_of m)) (slice_get t i)) more in
    let stray : not (is_attack (slice_get t i) p) ≡ false = first_stray bs (outcomes rule b (p ∷ more)) c _ follows in
    let same : n.attack ≡ p = is_attack-same n p (subst (λ (o : Option Node). not (is_attack o p) ≡ false) at stray) in
    let on = subst (λ (x : Bool). departs_from c (x ∷ bs) (outcomes rule b (p ∷ more)) ≡ Follows) stray follows in
    subst (λ (x : Point). Held rule t i b (x ∷ more) c s) same
    (attack-held rule t i b n at c s Next held h more
    (subst (λ (x : Point). departs_from c (false ∷ bs) (outcomes rule b (x ∷ more)) ≡ Follows) (sym same) on))

within-held : (rule : RuleKind) (t : List Node) (f : ℕ) → HeldAfter rule t (AcceptedWithin f rule t)
unfolding AcceptedWithin
within-held rule t zero i b ms c s h follows = absurd h
within-held rule t (suc f) i b ms c s h follows = node-held rule t i b (AcceptedWithin f rule t) (within-held rule t f)
    (slice_get t i) refl h ms c s follows

-- ---- the whole game

agrees-all : (s : Side) (len : ℕ) (v : GameVerdict) (e : End) → IsPlayed v → AgreesFrom 0 s len v e → Agrees s len v e
agrees-all s len (Open n) e is h = (let all = h.0 in omega (arith, all), h.1)
agrees-all s len (Won side n) e is h = (h.0, (let all = h.1 in omega (arith, all)), h.2)
agrees-all s len (Fouled f n) e is h = ((let all = h.0 in omega (arith, all)), h.1)
agrees-all s len (Drawn n) e is h = h
agrees-all s len (Illegal n) e is h = absurd is
agrees-all s len (AfterEnd n) e is h = absurd is

-- where the last move is an attack, the verdict is a win exactly where the end is one, with as many attacks
won_exactly : (s : Side) (len : ℕ) (v : GameVerdict) (e : End) → Agrees s len v e → (j k : ℕ) → len ≡ 2 * j + 1
    → (v ≡ Won s (2 * k - 1)) ↔ (e ≡ EndWon k)
won_exactly s len (Open n) e h j k odd = (λ is. absurd cc, λ is. let ends = h.1 j odd in absurd cc)
won_exactly s len (Won side n) e h j k odd =
    let last : n ≡ len = h.1 in
    let attacks_of : len + 1 ≡ 2 * h.2.0 = h.2.1 in (
      λ is. let number : n ≡ 2 * k - 1 = cc in let same : h.2.0 ≡ k = omega (arith, number, last, attacks_of, odd) in h.2.2
          ∙ ap EndWon same,
      λ is.
          let ends : EndWon h.2.0 ≡ EndWon k = sym h.2.2 ∙ is in
          let same : h.2.0 ≡ k = cc in
          let number : n ≡ 2 * k - 1 = omega (arith, same, last, attacks_of) in
          ap (λ (x : Side). Won x n) h.0 ∙ ap (Won s) number,
    )
won_exactly s len (Fouled f n) e h j k odd = let even : len ≡ 2 * h.1.0 = h.1.1 in absurd (omega (arith, even, odd))
won_exactly s len (Drawn n) e h j k odd = absurd h
won_exactly s len (Illegal n) e h j k odd = absurd h
won_exactly s len (AfterEnd n) e h j k odd = absurd h

-- and open exactly where the end is
open_exactly : (s : Side) (len : ℕ) (v : GameVerdict) (e : End) → Agrees s len v e → (j : ℕ) → len ≡ 2 * j + 1
    → (v ≡ Open len) ↔ (e ≡ EndOpen)
open_exactly s len (Open n) e h j odd = (λ is. h.1 j odd, λ is. ap Open h.0)
open_exactly s len (Won side n) e h j odd = (λ is. absurd cc, λ is. let ends : EndWon h.2.0 ≡ EndOpen = sym h.2.2 ∙ is in absurd cc)
open_exactly s len (Fouled f n) e h j odd = let even : len ≡ 2 * h.1.0 = h.1.1 in absurd (omega (arith, even, odd))
open_exactly s len (Drawn n) e h j odd = absurd h
open_exactly s len (Illegal n) e h j odd = absurd h
open_exactly s len (AfterEnd n) e h j odd = absurd h

pub games-go-by-table : GamesGoByTable
unfolding replay verdict
games-go-by-table rule t i b ms accepted follows played =
    let held = within-held rule t (suc i) i b ms 0 (mover b) accepted follows in
    let agrees = agrees-all (mover b) (length ms) (verdict rule b ms) (game rule t i b (even_moves ms)) played held.agrees in
    record {
      played = held.played played;
      agrees = agrees;
      won = λ j k odd. won_exactly (mover b) (length ms) (verdict rule b ms) (game rule t i b (even_moves ms)) agrees j k odd;
      open_end = λ j odd. open_exactly (mover b) (length ms) (verdict rule b ms) (game rule t i b (even_moves ms)) agrees j odd;
    }

-- ---- from a root

-- however many moves went on before, the same moves follow, and were played
follows-shifted : (c d : ℕ) (bs : List Bool) (os : List Outcome) → departs_from c bs os ≡ Follows → departs_from d bs os ≡ Follows
follows-shifted c d [] os h = refl
follows-shifted c d (true ∷ bs) os h = cc
follows-shifted c d (false ∷ bs) [] h = refl
follows-shifted c d (false ∷ bs) (Refused ∷ os) h = refl
follows-shifted c d (false ∷ bs) (Wins ∷ os) h = refl
follows-shifted c d (false ∷ bs) (Fouls f ∷ os) h = refl
follows-shifted c d (false ∷ bs) (Draws ∷ os) h = refl
follows-shifted c d (false ∷ bs) (GoesOn ∷ os) h = follows-shifted (c + 1) (d + 1) bs os h

played-shifted : (m n : ℕ) (s u : Side) (os : List Outcome) → IsPlayed (verdict_from m s os) → IsPlayed (verdict_from n u os)
played-shifted m n s u [] h = tt
played-shifted m n s u (Refused ∷ os) h = absurd h
played-shifted m n s u (Wins ∷ []) h = tt
played-shifted m n s u (Wins ∷ o ∷ os) h = absurd h
played-shifted m n s u (Fouls f ∷ []) h = tt
played-shifted m n s u (Fouls f ∷ o ∷ os) h = absurd h
played-shifted m n s u (Draws ∷ []) h = tt
played-shifted m n s u (Draws ∷ o ∷ os) h = absurd h
played-shifted m n s u (GoesOn ∷ os) h = played-shifted (m + 1) (n + 1) (other s) (other u) os h

pub games-go-by-root : GamesGoByRoot
unfolding replay verdict
games-go-by-root rule t (Attack i) b ms accepted follows played = games-go-by-table rule t i b ms accepted follows played
games-go-by-root rule t (Defend a) b [] accepted follows played = tt
games-go-by-root rule t (Defend a) b (q ∷ ms) accepted follows played = λ on. by_answer on (answer a q) refl
    (subst (λ (o : Outcome). LosesOr o (IsSomeAnd (answer a q) (λ j. Accepted rule t j (after b q)))) on (accepted q)) where
      by_answer : outcome rule b q ≡ GoesOn → (o : Option ℕ) → answer a q ≡ o → IsSomeAnd o (λ j. Accepted rule t j (after b q))
          → (j : ℕ) × (answer a q ≡ Some j) × GoesByTable rule t j (after b q) ms
      by_answer on None is h = absurd h
      by_answer on (Some j) is h =
          let os : List Outcome = outcomes rule (after b q) ms in
          let later : departs_from 1 (strays t (option_map (λ (k : ℕ). Attack k) (answer a q)) ms) os ≡ Follows =
          subst (λ (o : Outcome). departs_from 0 (false ∷ strays t (option_map (λ (k : ℕ). Attack k) (answer a q)) ms) (o ∷ os) ≡ Follows)
          on follows in
          let then : departs_from 1 (strays t (Some (Attack j)) ms) os ≡ Follows =
          subst (λ (x : Option ℕ). departs_from 1 (strays t (option_map (λ (k : ℕ). Attack k) x) ms) os ≡ Follows) is later in
          let all : IsPlayed (verdict_from 1 (other (mover b)) os) =
          subst (λ (o : Outcome). IsPlayed (verdict_from 0 (mover b) (o ∷ os))) on played in (
            j,
            is,
            games-go-by-table rule t j (after b q) ms h (follows-shifted 1 0 (strays t (Some (Attack j)) ms) os then)
                (played-shifted 1 0 (other (mover b)) (mover (after b q)) os all),
          )

-- ---- no game is lost

-- after an even number of moves the same side moves
mover_even : (s : Side) (m k : ℕ) → m ≡ 2 * k → mover_after s m ≡ s
mover_even s zero k even = refl
mover_even s (suc zero) k even = absurd (omega (arith, even))
mover_even s (suc (suc m)) k even = other-other (mover_after s m) ∙ mover_even s m (k - 1) (omega (arith, even))

mover_odd : (s : Side) (m k : ℕ) → m ≡ 2 * k + 1 → mover_after s m ≡ other s
mover_odd s zero k odd = absurd (omega (arith, odd))
mover_odd s (suc m) k odd = ap other (mover_even s m k (omega (arith, odd)))

kept-agrees : (c : ℕ) (s first : Side) (len : ℕ) (v : GameVerdict) (e : End) → ((m k : ℕ) → m ≡ c + 2 * k → mover_after first m ≡ s)
    → AgreesFrom c s len v e → IsKeptBy s first v
kept-agrees c s first len (Open n) e turn h = tt
kept-agrees c s first len (Illegal n) e turn h = turn n h.0 h.1
kept-agrees c s first len (AfterEnd n) e turn h = tt
kept-agrees c s first len (Won side n) e turn h = h.0
kept-agrees c s first len (Fouled f n) e turn h = turn n h.1.0 (let is = h.0 in let even = h.1.1 in omega (arith, is, even))
kept-agrees c s first len (Drawn n) e turn h = h

node-kept : (rule : RuleKind) (t : List Node) (j : ℕ) (b : Grid) (ms : List Point) (c : ℕ) (s first : Side)
    → ((m k : ℕ) → m ≡ c + 2 * k → mover_after first m ≡ s) → Accepted rule t j b → FollowsFrom rule t j b ms c
    → IsKeptBy s first (verdict_from c s (outcomes rule b ms))
node-kept rule t j b ms c s first turn accepted follows =
    kept-agrees c s first (length ms) (verdict_from c s (outcomes rule b ms)) (game rule t j b (even_moves ms)) turn
    (within-held rule t (suc j) j b ms c s accepted follows).agrees

-- a first reply to a start
start-kept : (rule : RuleKind) (t : List Node) (a : Answers) (b : Grid) (q : Point) (ms : List Point) → Meets rule a (Accepted rule t) b q
    → departs_from 0 (strays t (Some (Defend a)) (q ∷ ms)) (outcomes rule b (q ∷ ms)) ≡ Follows
    → IsKeptBy (other (mover b)) (mover b) (verdict_from 0 (mover b) (outcomes rule b (q ∷ ms)))
start-kept rule t a b q ms meets follows = by_outcome (outcome rule b q) refl meets where
  by_more : (f : Foul) (os : List Outcome) → IsKeptBy (other (mover b)) (mover b) (verdict_from 0 (mover b) (Fouls f ∷ os))
  by_more f [] = refl
  by_more f (o ∷ os) = tt

  by_answer : outcome rule b q ≡ GoesOn → (o : Option ℕ) → answer a q ≡ o → IsSomeAnd o (λ j. Accepted rule t j (after b q))
      → IsKeptBy (other (mover b)) (mover b) (verdict_from 1 (other (mover b)) (outcomes rule (after b q) ms))
  by_answer go None is h = absurd h
  by_answer go (Some j) is h =
      let f1 = subst (λ (o : Outcome). departs_from 0 (false ∷ strays t (option_map (λ (k : ℕ). Attack k) (answer a q)) ms)
      (o ∷ outcomes rule (after b q) ms) ≡ Follows) go follows in
      let f2 = subst (λ (x : Option ℕ). departs_from 1 (strays t (option_map (λ (k : ℕ). Attack k) x) ms) (outcomes rule (after b q) ms) ≡
      Follows) is f1 in
      node-kept rule t j (after b q) ms 1 (other (mover b)) (mover b) (λ m k odd. mover_odd (mover b) m k (omega (arith, odd))) h f2

  by_outcome : (o : Outcome) → outcome rule b q ≡ o → LosesOr o (IsSomeAnd (answer a q) (λ j. Accepted rule t j (after b q)))
      → IsKeptBy (other (mover b)) (mover b) (verdict_from 0 (mover b) (outcomes rule b (q ∷ ms)))
  by_outcome Refused is h = subst
      (λ (x : Outcome). IsKeptBy (other (mover b)) (mover b) (verdict_from 0 (mover b) (x ∷ outcomes rule (after b q) ms))) (sym is) refl
  by_outcome Wins is h = absurd h
  by_outcome (Fouls f) is h = subst
      (λ (x : Outcome). IsKeptBy (other (mover b)) (mover b) (verdict_from 0 (mover b) (x ∷ outcomes rule (after b q) ms))) (sym is)
      (by_more f (outcomes rule (after b q) ms))
  by_outcome Draws is h = absurd h
  by_outcome GoesOn is h = subst
      (λ (x : Outcome). IsKeptBy (other (mover b)) (mover b) (verdict_from 0 (mover b) (x ∷ outcomes rule (after b q) ms))) (sym is)
      (by_answer is (answer a q) refl h)

whole-kept : (rule : RuleKind) (t : List Node) (root : Root) (b : Grid) (ms : List Point) → AcceptedRoot rule t root b
    → replay rule t root b ms ≡ Follows → IsKeptBy (side_of root b) (mover b) (verdict rule b ms)
unfolding replay verdict
whole-kept rule t (Attack i) b ms accepted follows = node-kept rule t i b ms 0 (mover b) (mover b)
    (λ m k even. mover_even (mover b) m k (omega (arith, even))) accepted follows
whole-kept rule t (Defend a) b [] accepted follows = tt
whole-kept rule t (Defend a) b (q ∷ ms) accepted follows = start-kept rule t a b q ms (accepted q) follows

-- one more move on both sides
move-follows : (c : ℕ) (stray : Bool) (bs cs : List Bool) (o : Outcome) (os ps : List Outcome)
    → (departs_from (c + 1) bs os ≡ Follows → departs_from (c + 1) cs ps ≡ Follows)
    → departs_from c (stray ∷ bs) (o ∷ os) ≡ Follows → departs_from c (stray ∷ cs) (o ∷ ps) ≡ Follows
move-follows c true bs cs o os ps step h = h
move-follows c false bs cs Refused os ps step h = refl
move-follows c false bs cs Wins os ps step h = refl
move-follows c false bs cs (Fouls f) os ps step h = refl
move-follows c false bs cs Draws os ps step h = refl
move-follows c false bs cs GoesOn os ps step h = step h

-- a front of moves that follow follows
front-follows : (rule : RuleKind) (t : List Node) (turn : Option Root) (c : ℕ) (b : Grid) (front later : List Point)
    → departs_from c (strays t turn (front ++ later)) (outcomes rule b (front ++ later)) ≡ Follows
    → departs_from c (strays t turn front) (outcomes rule b front) ≡ Follows
front-follows rule t turn c b [] later h = refl
front-follows rule t turn c b (p ∷ ps) later h =
    move-follows c (is_stray t turn p) (strays t (next_turn t turn p) (ps ++ later)) (strays t (next_turn t turn p) ps) (outcome rule b p)
    (outcomes rule (after b p) (ps ++ later)) (outcomes rule (after b p) ps)
    (front-follows rule t (next_turn t turn p) (c + 1) (after b p) ps later) h

front-replay : (rule : RuleKind) (t : List Node) (root : Root) (b : Grid) (front later : List Point)
    → replay rule t root b (front ++ later) ≡ Follows → replay rule t root b front ≡ Follows
unfolding replay
front-replay rule t root b front later h = front-follows rule t (Some root) 0 b front later h

pub follower-never-loses : FollowerNeverLoses
follower-never-loses rule t root b ms accepted follows front later is = whole-kept rule t root b front accepted
    (front-replay rule t root b front later (subst (λ (l : List Point). replay rule t root b l ≡ Follows) is follows))
