-- Values that bytes begin with: the spelling of a value goes on by one piece after another.
use Rattle.std.proofs.Common.{◌≡◌, ℕ, ◌+◌, ◌*◌, ◌/◌, ◌%◌, ◌≤◌, ◌<◌, ◌^◌, sym, ap, ◌∙◌, arith, List, [], ◌∷◌, ◌++◌, append_assoc}
use Rattle.std.proofs.lemmas.Fmt.{decimal_digit, decimal_step}
use Rattle.std.proofs.Math.Arith.{digits_div}
use Rattle.std.proofs.lemmas.List.{flat_map_more}
use Rattle.std.specs.Fmt.{decimal}
use Rattle.position_files.proofs.Common.{Reply, space, replies_text, reply_text}

-- a number of one digit
pub front_digit : (bytes rest : List ℕ) (d : ℕ) → d < 10 → bytes ≡ (48 + d) ∷ rest → bytes ≡ decimal d ++ rest
front_digit bytes rest d few e = rw (decimal_digit d few) e

-- a number with one more digit
pub front_more : (bytes rest more : List ℕ) (n d : ℕ) → 1 ≤ n → n < 2 ^ 32 → d < 10 → bytes ≡ decimal n ++ rest → rest ≡ (48 + d) ∷ more
    → bytes ≡ decimal (n * 10 + d) ++ more
front_more bytes rest more n d some few digit e f =
    let high : (n * 10 + d) / 10 ≡ n = digits_div n digit in
    let low : (n * 10 + d) % 10 ≡ d = omega (arith, high) in
    let step : decimal (n * 10 + d) ≡ decimal n ++ ((48 + d) ∷ []) = decimal_step (n * 10 + d) (omega arith) (omega arith)
    ∙ ap (λ k. decimal k ++ ((48 + (n * 10 + d) % 10) ∷ [])) high ∙ ap (λ k. decimal n ++ ((48 + k) ∷ [])) low in
    rw step (e ∙ ap (λ (l : List ℕ). decimal n ++ l) f ∙ sym (append_assoc (decimal n) ((48 + d) ∷ []) more))

-- a text, and another text behind it
pub front_then : (bytes a rest b more : List ℕ) → bytes ≡ a ++ rest → rest ≡ b ++ more → bytes ≡ (a ++ b) ++ more
front_then bytes a rest b more e f = e ∙ ap (λ (l : List ℕ). a ++ l) f ∙ sym (append_assoc a b more)

-- one more reply
pub front_reply : (bytes rest text more : List ℕ) (rs : List Reply) (r : Reply) → bytes ≡ replies_text rs ++ rest → rest ≡ space ∷ text
    → text ≡ reply_text r ++ more → bytes ≡ replies_text (rs ++ r ∷ []) ++ more
front_reply bytes rest text more rs r e f g = front_then bytes (replies_text rs) rest (space ∷ reply_text r) more e
    (f ∙ ap (λ (l : List ℕ). space ∷ l) g) ∙ ap (λ (l : List ℕ). l ++ more) (flat_map_more (λ (q : Reply). space ∷ reply_text q) [] rs r)
