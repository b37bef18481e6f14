use Rattle.std.proofs.Common.{◌≡◌, ℕ, ◌+◌, ◌<◌, ◌≤◌, false, vec_len, vec_capacity, refl, sym, ap, ◌∙◌, arith}
use Rattle.std.proofs.lemmas.Bool.{false≢true}
use Rattle.renju_io.specs.Lines.{ReaderState, HasNoLineFeed}
use Rattle.renju_io.specs.Reader.{IsReader}
use Rattle.renju_io.specs.declared.line_reader.LineReader.TheInside.{Inside}
use Rattle.renju_io.specs.declared.TheConstants.{MAX_LINE_BYTES, MAX_SESSION_BYTES}
use Rattle.renju_io.proofs.LineLaws.{HasNoLineFeed-front}
use Rattle.renju_io.proofs.line_reader.LineReader.read_on.Goals as goal

-- a reader that knows of no end is whole again once the bytes that it kept have joined its line, which has no end
joined : (r s : Inside) → IsReader r → r.ended ≡ false → s.ended ≡ r.ended → MAX_LINE_BYTES + 1 ≤ vec_capacity s.text
    → vec_capacity r.line ≤ vec_capacity s.line → vec_len s.line ≤ MAX_LINE_BYTES + 1 → HasNoLineFeed s.line.items
    → 0 < vec_len s.piece → s.next ≡ 0 → s.end ≤ vec_len s.piece → s.taken ≤ MAX_SESSION_BYTES + 1 → IsReader s
joined r s h reading stays text room short unended piece next end taken = record {
  text_room = text;
  line_room = let had = h.line_room in omega arith;
  line_short = short;
  line_open = unended;
  piece_room = piece;
  next_within = omega arith;
  end_within = end;
  taken_within = taken;
  ended_within = λ is_ended. absurd (false≢true (sym reading ∙ sym stays ∙ is_ended));
  ended_empty = λ is_ended. absurd (false≢true (sym reading ∙ sym stays ∙ is_ended));
}

none_within : (n : ℕ) → 0 ≤ n
none_within n = omega arith

pub invariant_of-self : goal.invariant_of-self
invariant_of-self g c =
    joined c.self.inside _ c.self.invariant (ap (λ (reader : ReaderState). reader.ended) c.self.view_is ∙ c.requires.reading) refl
    c.self.invariant.text_room c.append_front.ensures.room c.append_front.ensures.short
    (HasNoLineFeed-front (MAX_LINE_BYTES + 1) _ _ (rw c.deref.ensures.value at c.append_front.ensures.front)
    (rw (← c.self.view_is) at c.requires.open))
    c.self.invariant.piece_room refl (none_within _) c.self.invariant.taken_within

pub invariant_of-self-then-self-le-MAX_SESSION_BYTES : goal.invariant_of-self-then-self-le-MAX_SESSION_BYTES
invariant_of-self-then-self-le-MAX_SESSION_BYTES g c =
    joined c.self.inside _ c.self.invariant (ap (λ (reader : ReaderState). reader.ended) c.self.view_is ∙ c.requires.reading) refl
    c.self.invariant.text_room c.append_front.ensures.room c.append_front.ensures.short
    (HasNoLineFeed-front (MAX_LINE_BYTES + 1) _ _ (rw c.deref.ensures.value at c.append_front.ensures.front)
    (rw (← c.self.view_is) at c.requires.open))
    c.self.invariant.piece_room refl (omega (arith, c.in_ok-count.ensures.fits.1, c.deref_mut.ensures.len))
    (omega (arith, c.if-self-le-MAX_SESSION_BYTES.true))

pub invariant_of-self-else-self-le-MAX_SESSION_BYTES : goal.invariant_of-self-else-self-le-MAX_SESSION_BYTES
invariant_of-self-else-self-le-MAX_SESSION_BYTES g c =
    joined c.self.inside _ c.self.invariant (ap (λ (reader : ReaderState). reader.ended) c.self.view_is ∙ c.requires.reading) refl
    c.self.invariant.text_room c.append_front.ensures.room c.append_front.ensures.short
    (HasNoLineFeed-front (MAX_LINE_BYTES + 1) _ _ (rw c.deref.ensures.value at c.append_front.ensures.front)
    (rw (← c.self.view_is) at c.requires.open))
    c.self.invariant.piece_room refl (none_within _)
    (omega (
      arith,
      c.in_ok-count.ensures.fits.0,
      c.max-most.ensures,
      c.requires.within,
      ap (λ (reader : ReaderState). reader.taken) c.self.view_is,
    ))
