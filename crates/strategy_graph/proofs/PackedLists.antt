-- Nodes in one list, and the replies of all of them in another: the node at its place, and one that is added.
use Rattle.std.proofs.Common.{◌≡◌, ℕ, zero, suc, ◌≤◌, ◌<◌, ◌+◌, List, [], ◌∷◌, ◌++◌, length, get_or, slice_get, Some, refl, arith, rules}
use Rattle.std.proofs.Common.{ap, sym, subst, length-append, slice_range}
use Rattle.std.proofs.lemmas.List.{take-append-le, drop-append-le, drop_at, take_all, length-drop}
use Rattle.strategy_graph.specs.declared.Reply.{Reply}
use Rattle.strategy_graph.specs.declared.packing.Packed.{Packed}
use Rattle.strategy_graph.specs.Packing.{nodes_from, start_at, AreEnds}

-- how many nodes there are
pub nodes-length : (start : ℕ) (ps : List Packed) (rs : List Reply) → length (nodes_from start ps rs) ≡ length ps
nodes-length start [] rs = refl
nodes-length start (p ∷ ps) rs = ap suc (nodes-length p.end ps rs)

-- the replies of a later node begin where those of the one before it end
pub start-first : (start : ℕ) (ps : List Packed) (i : ℕ) → i ≡ 0 → start ≡ start_at start ps i
start-first start [] i e = refl
start-first start (p ∷ ps) zero e = refl
start-first start (p ∷ ps) (suc i) e = cc

pub start-next : (start : ℕ) (ps : List Packed) (i : ℕ) (d : Packed) → i < length ps → start_at start ps (suc i) ≡ (get_or ps i d).end
start-next start [] i d l = absurd (omega arith)
start-next start (p ∷ []) zero d l = refl
start-next start (p ∷ q ∷ ps) zero d l = refl
start-next start (p ∷ ps) (suc i) d l = start-next p.end ps i d (omega arith)

pub ends-rise : (start : ℕ) (ps : List Packed) (n : ℕ) → AreEnds start ps n → start ≤ n
ends-rise start [] n h = omega arith
ends-rise start (p ∷ ps) n h = let later = ends-rise p.end ps n h.1 in omega (arith, later, h.0)

-- the replies of node i end behind where they begin, and within the list of all
pub ends_behind : (start : ℕ) (ps : List Packed) (n i : ℕ) (d : Packed) → AreEnds start ps n → i < length ps
    → start_at start ps i ≤ (get_or ps i d).end
ends_behind start [] n i d h l = absurd (omega arith)
ends_behind start (p ∷ ps) n zero d h l = h.0
ends_behind start (p ∷ ps) n (suc i) d h l = ends_behind p.end ps n i d h.1 (omega arith)

pub ends_within : (start : ℕ) (ps : List Packed) (n i : ℕ) (d : Packed) → AreEnds start ps n → i < length ps → (get_or ps i d).end ≤ n
ends_within start [] n i d h l = absurd (omega arith)
ends_within start (p ∷ ps) n zero d h l = ends-rise p.end ps n h.1
ends_within start (p ∷ ps) n (suc i) d h l = ends_within p.end ps n i d h.1 (omega arith)

-- node i
pub node-at : (start : ℕ) (ps : List Packed) (rs : List Reply) (i : ℕ) (d : Packed) → i < length ps
    → slice_get (nodes_from start ps rs) i ≡ Some (record {
      attack = (get_or ps i d).attack;
      replies = slice_range rs (start_at start ps i) (get_or ps i d).end;
      rest = (get_or ps i d).rest;
    })
node-at start [] rs i d l = absurd (omega arith)
node-at start (p ∷ ps) rs zero d l = refl
node-at start (p ∷ ps) rs (suc i) d l = node-at p.end ps rs i d (omega arith)

range-longer : (rs more : List Reply) (i j : ℕ) → i ≤ j → j ≤ length rs → slice_range (rs ++ more) i j ≡ slice_range rs i j
range-longer rs more i j low high = search (rules, drop-append-le, take-append-le, length-drop)

range-last : (rs more : List Reply) (j : ℕ) → j ≡ length rs + length more → slice_range (rs ++ more) (length rs) j ≡ more
range-last rs more j e = search (rules, drop_at, take_all)

-- one more node, whose replies come behind all others
pub ends-push : (start : ℕ) (ps : List Packed) (p : Packed) (rs more : List Reply) → AreEnds start ps (length rs)
    → p.end ≡ length rs + length more → AreEnds start (ps ++ p ∷ []) (length (rs ++ more))
ends-push start [] p rs more h e = let all = length-append rs more in (omega (arith, all), omega (arith, all))
ends-push start (q ∷ ps) p rs more h e = (h.0, ends-push q.end ps p rs more h.1 e)

pub nodes-push : (start : ℕ) (ps : List Packed) (p : Packed) (rs more : List Reply) → AreEnds start ps (length rs)
    → p.end ≡ length rs + length more → nodes_from start (ps ++ p ∷ []) (rs ++ more)
    ≡ nodes_from start ps rs ++ record { attack = p.attack; replies = more; rest = p.rest } ∷ []
nodes-push start [] p rs more h e = ap (λ (ss : List Reply). record { attack = p.attack; replies = ss; rest = p.rest } ∷ [])
    (subst (λ (s : ℕ). slice_range (rs ++ more) s p.end ≡ more) (sym h) (range-last rs more p.end e))
nodes-push start (q ∷ ps) p rs more h e =
    let here = range-longer rs more start q.end h.0 (ends-rise q.end ps (length rs) h.1) in
    let later = nodes-push q.end ps p rs more h.1 e in
    λ i. record { attack = q.attack; replies = here i; rest = q.rest } ∷ later i
