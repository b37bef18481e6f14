-- A text that a sink takes piece by piece.
use Rattle.std.proofs.Common.{◌≡◌, ℕ, List, ◌++◌, length, take, drop, refl, sym, ◌∙◌, ap, append_assoc, None, Some, Option}
use Rattle.std.proofs.lemmas.List.{take-append-drop}
use Rattle.std.proofs.Math.Seq.{take-append_seam}
use Rattle.std.specs.Io.KnownBytes.{append_known}
use Rattle.renju_io.specs.Told.{Takes, TakesPart}

-- a sink has taken what stands before this rest of a text
pub record HasTaken (old new : Option (List ℕ)) (text rest : List ℕ) : Type 0 where
  pub done : List ℕ
  pub split : text ≡ done ++ rest
  pub takes : Takes old done new

append_known-append : (told : Option (List ℕ)) (first second : List ℕ) →
    append_known (append_known told first) second ≡ append_known told (first ++ second)
append_known-append None first second = refl
append_known-append (Some bytes) first second = ap (λ xs. Some xs) (append_assoc bytes first second)

-- what is taken after what was taken is taken in one
pub Takes-then : (old mid new : Option (List ℕ)) (first second : List ℕ) →
    Takes old first mid → Takes mid second new → Takes old (first ++ second) new
Takes-then old mid new first second before after =
    after ∙ ap (λ told. append_known told second) before ∙ append_known-append old first second

-- the sink has taken one more piece
pub goes_on : (old mid new : Option (List ℕ)) (text before piece rest : List ℕ) →
    HasTaken old mid text before → before ≡ piece ++ rest → Takes mid piece new → HasTaken old new text rest
goes_on old mid new text before piece rest so_far cut takes = record {
  done = so_far.done ++ piece;
  split = so_far.split ∙ ap (λ xs. so_far.done ++ xs) cut ∙ sym (append_assoc so_far.done piece rest);
  takes = Takes-then old mid new so_far.done piece so_far.takes takes;
}

-- the first bytes of a text that end within a piece of it
front : (done piece rest : List ℕ) (n : ℕ) →
    take (length (done ++ take n piece)) (done ++ (piece ++ rest)) ≡ done ++ take n piece
front done piece rest n =
    ap (take (length (done ++ take n piece)))
    (ap (λ xs. done ++ (xs ++ rest)) (sym (take-append-drop n piece))
    ∙ ap (λ xs. done ++ xs) (append_assoc (take n piece) (drop n piece) rest)
    ∙ sym (append_assoc done (take n piece) (drop n piece ++ rest)))
    ∙ take-append_seam (done ++ take n piece) (drop n piece ++ rest)

-- the sink has taken a part of one more piece, and so a part of the text
pub stops : (old mid new : Option (List ℕ)) (text before piece rest : List ℕ) →
    HasTaken old mid text before → before ≡ piece ++ rest → TakesPart mid piece new → TakesPart old text new
stops old mid new text before piece rest so_far cut part = record {
  count = length (so_far.done ++ take part.count piece);
  takes = Takes-then old mid new so_far.done (take part.count piece) so_far.takes part.takes
      ∙ ap (append_known old) (sym
      (ap (take (length (so_far.done ++ take part.count piece))) (so_far.split ∙ ap (λ xs. so_far.done ++ xs) cut)
      ∙ front so_far.done piece rest part.count));
}
