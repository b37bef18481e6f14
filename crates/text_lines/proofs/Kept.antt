-- Texts that grow: what a text was stands at its front.
use Rattle.std.proofs.Common.{◌≡◌, ℕ, sym, ap, ◌∙◌, List, [], ◌++◌, append_assoc}
use Rattle.std.proofs.lemmas.List.{append-nil}
use Rattle.text_lines.specs.Lines.{Extends}

-- a text that is as it was
pub kept_same : (old new : List ℕ) → new ≡ old → Extends old new
kept_same old new e = record { more = []; is = e ∙ sym (append-nil old) }

-- a text that extends one that extends the first
pub kept_on : (old text new : List ℕ) → Extends old text → Extends text new → Extends old new
kept_on old text new before after = record {
  more = before.more ++ after.more;
  is = after.is ∙ ap (λ (t : List ℕ). t ++ after.more) before.is ∙ append_assoc old before.more after.more;
}

-- what was written before stays at the front, too
pub kept_after : (old text new piece : List ℕ) → text ≡ old ++ piece → Extends text new → Extends old new
kept_after old text new piece e after = kept_on old text new (record { more = piece; is = e }) after

-- and so it is where a piece is written behind it
pub kept_more : (old text new piece : List ℕ) → Extends old text → new ≡ text ++ piece → Extends old new
kept_more old text new piece before e = kept_on old text new before (record { more = piece; is = e })
