-- Replies and answers are spelled in one way.
use Rattle.std.proofs.Common.{◌≡◌, ℕ, true, refl, sym, ap, subst, ◌∙◌, arith, List, [], ◌∷◌, ◌++◌, get_or, inl, inr, ◌<◌, ◌^◌, Option, Some}
use Rattle.std.proofs.Common.{None, Err, codes, rules}
use Rattle.std.specs.List.{AllByRecursion}
use Rattle.std.specs.Fmt.{decimal}
use Rattle.std.proofs.lemmas.Fmt.{decimal_injective}
use Rattle.std.proofs.lemmas.Option.{same_Some}
use Rattle.std.proofs.lemmas.List.{append_cancel_left}
use Rattle.position_files.proofs.Common.{Point, Answers, Reply, Rest, To, Nothing, Node, Fault, Bad, line_feed, space, point_text, Gives}
use Rattle.position_files.proofs.Common.{ReadsLine, GivesLine, IsWithin, is_free, tail_text, arrow, reply_text, replies_text, rest_text}
use Rattle.position_files.proofs.Common.{answers_text, node_line, start_line, IsSide, ReplyFits, RestFits, OpenRestFits, AnswersFit}
use Rattle.position_files.proofs.Common.{NodeFits, StartFits, answers_with}
use Rattle.strategy_graph.specs.Tables.{answers_of}
use Rattle.strategy_graph.specs.declared.Rest.TheVariants.{Wins}
use Rattle.text_lines.specs.declared.fault.Fault.TheVariants.{Memory}
use Rattle.text_lines.proofs.Common.{Reads}
use Rattle.position_files.proofs.Spellings.{side_fits}
use Rattle.text_lines.proofs.Cuts.{same_word, is_free-append}
use Rattle.text_lines.proofs.Decimals.{decimal-free}
use Rattle.text_lines.proofs.Items.{AreItems, items_tail, items_text-injective}
use Rattle.text_lines.proofs.LineLaws.{point_items, point-free, prefix_none, prefix_bad}

module _ (width height : ℕ) (wide : IsSide width) (high : IsSide height) where
  -- ---- replies

  reply_words : (word a : List ℕ) (t : Option (List ℕ)) (r : Reply) → ReplyFits width height r → word ≡ a ++ tail_text arrow t
      → is_free arrow a ≡ true → word ≡ reply_text r → (a ≡ point_text r.at) × (t ≡ Some (decimal r.next))
  reply_words word a t r fits parts free e = same_word arrow a t (point_text r.at) (Some (decimal r.next)) free
      (point-free arrow width height (inr (omega arith)) (λ same. absurd (omega arith)) (side_fits width wide) (side_fits height high)
      r.at fits.at) (sym parts ∙ e)

  pub bad_at : (word a : List ℕ) (t : Option (List ℕ)) → word ≡ a ++ tail_text arrow t → is_free arrow a ≡ true
      → ((p : Point) → IsWithin width height p → a ≡ point_text p → ⊥) → (r : Reply) → ReplyFits width height r → word ≡ reply_text r → ⊥
  bad_at word a t parts free none r fits e = none r.at fits.at (reply_words word a t r fits parts free e).0

  pub bad_next : (word a b : List ℕ) (t : Option (List ℕ)) → word ≡ a ++ tail_text arrow t → is_free arrow a ≡ true → t ≡ Some b
      → ((n : ℕ) → n < 2 ^ 32 → b ≡ decimal n → ⊥) → (r : Reply) → ReplyFits width height r → word ≡ reply_text r → ⊥
  bad_next word a b t parts free is none r fits e = search (rules, reply_words)

  pub reply_items : AreItems (ReplyFits width height) reply_text
  reply_items = record {
    free = λ r fits.
        let next = fits.next in
        is_free-append space (point_text r.at) (arrow ∷ decimal r.next)
        ((point_items width height (side_fits width wide) (side_fits height high)).free r.at fits.at)
        (decimal-free space r.next (inl (omega arith)) (omega (arith, next)));
    injective = λ r s fr fs e.
        let next_r = fr.next in
        let next_s = fs.next in
        let words = reply_words (reply_text r) (point_text r.at) (Some (decimal r.next)) s fs refl
        (point-free arrow width height (inr (omega arith)) (λ same. absurd (omega arith)) (side_fits width wide) (side_fits height high)
        r.at fr.at) e in
        let at : r.at ≡ s.at = (point_items width height (side_fits width wide) (side_fits height high)).injective r.at s.at fr.at fs.at
        words.0 in
        let texts : decimal r.next ≡ decimal s.next = let f = words.1 in cc in
        let next : r.next ≡ s.next = decimal_injective r.next s.next (omega (arith, next_r)) (omega (arith, next_s)) texts in
        λ i. record { at = at i; next = next i };
  }

-- ---- the rest

-- how what answers the other replies is spelled: its first word, and what follows that
abbrev HasWords : Rest → Option (List ℕ) → List ℕ → Option (List ℕ) → Type 0
HasWords Wins after word tail = (word ≡ codes "wins") × (tail ≡ after)
HasWords (To j) after word tail = (word ≡ codes "rest") × (tail ≡ Some (decimal j ++ tail_text space after))
HasWords Nothing after word tail = (word ≡ codes "only") × (tail ≡ after)

rest_words : (bytes word : List ℕ) (tail : Option (List ℕ)) (r : Rest) (after : Option (List ℕ)) → bytes ≡ word ++ tail_text space tail
    → is_free space word ≡ true → bytes ≡ rest_text r ++ tail_text space after → HasWords r after word tail
rest_words bytes word tail Wins after parts free e = same_word space word tail (codes "wins") after free refl (sym parts ∙ e)
rest_words bytes word tail (To j) after parts free e =
    same_word space word tail (codes "rest") (Some (decimal j ++ tail_text space after)) free refl (sym parts ∙ e)
rest_words bytes word tail Nothing after parts free e = same_word space word tail (codes "only") after free refl (sym parts ∙ e)

pub no_rest_word : (bytes word : List ℕ) (tail : Option (List ℕ)) → bytes ≡ word ++ tail_text space tail → is_free space word ≡ true
    → (word ≡ codes "only" → ⊥) → (word ≡ codes "rest" → ⊥) → (found : Rest × Option (List ℕ)) → OpenRestFits found.0
    → bytes ≡ rest_text found.0 ++ tail_text space found.1 → ⊥
no_rest_word bytes word tail parts free not_only not_rest (Wins, after) fits e = absurd fits
no_rest_word bytes word tail parts free not_only not_rest (To j, after) fits e =
    not_rest (rest_words bytes word tail (To j) after parts free e).0
no_rest_word bytes word tail parts free not_only not_rest (Nothing, after) fits e =
    not_only (rest_words bytes word tail Nothing after parts free e).0

pub no_rest_number : (bytes word text next : List ℕ) (tail after_next : Option (List ℕ)) → bytes ≡ word ++ tail_text space tail
    → is_free space word ≡ true → (word ≡ codes "only" → ⊥) → tail ≡ Some text → text ≡ next ++ tail_text space after_next
    → is_free space next ≡ true → ((n : ℕ) → n < 2 ^ 32 → next ≡ decimal n → ⊥)
    → (found : Rest × Option (List ℕ)) → OpenRestFits found.0 → bytes ≡ rest_text found.0 ++ tail_text space found.1 → ⊥
no_rest_number bytes word text next tail after_next parts free not_only is text_parts free_next none (Wins, after) fits e = absurd fits
no_rest_number bytes word text next tail after_next parts free not_only is text_parts free_next none (To j, after) fits e =
    let words = rest_words bytes word tail (To j) after parts free e in
    let whole : Some text ≡ Some (decimal j ++ tail_text space after) = sym is ∙ words.1 in
    let text_is : text ≡ decimal j ++ tail_text space after = let f : text ≡ decimal j ++ tail_text space after = cc in f in
    let few : j < 2 ^ 32 = fits in
    none j fits (same_word space next after_next (decimal j) after free_next (decimal-free space j (inl (omega arith)) (omega (arith, few)))
    (sym text_parts ∙ text_is)).0
no_rest_number bytes word text next tail after_next parts free not_only is text_parts free_next none (Nothing, after) fits e =
    not_only (rest_words bytes word tail Nothing after parts free e).0

-- a rest that is not winning fits
open_fits : (r : Rest) → OpenRestFits r → RestFits r
open_fits r fits = search rules

-- a text begins with one rest
pub rest_same : (r : Rest) (t : Option (List ℕ)) (q : Rest) (u : Option (List ℕ)) → RestFits r → RestFits q
    → rest_text r ++ tail_text space t ≡ rest_text q ++ tail_text space u → (r ≡ q) × (t ≡ u)
rest_same Wins t Wins u fr fq e = (refl, (same_word space (codes "wins") t (codes "wins") u refl refl e).1)
rest_same Wins t (To k) u fr fq e = let first : 119 ≡ 114 = ap (λ (l : List ℕ). get_or l 0 0) e in absurd (omega (arith, first))
rest_same Wins t Nothing u fr fq e = let first : 119 ≡ 111 = ap (λ (l : List ℕ). get_or l 0 0) e in absurd (omega (arith, first))
rest_same (To j) t Wins u fr fq e = let first : 114 ≡ 119 = ap (λ (l : List ℕ). get_or l 0 0) e in absurd (omega (arith, first))
rest_same (To j) t (To k) u fr fq e =
    let few_j : j < 2 ^ 32 = fr in
    let few_k : k < 2 ^ 32 = fq in
    let numbers : decimal j ++ tail_text space t ≡ decimal k ++ tail_text space u =
    append_cancel_left (codes "rest ") (decimal j ++ tail_text space t) (decimal k ++ tail_text space u) e in
    let same = same_word space (decimal j) t (decimal k) u (decimal-free space j (inl (omega arith)) (omega (arith, few_j)))
    (decimal-free space k (inl (omega arith)) (omega (arith, few_k))) numbers in
    (ap To (decimal_injective j k (omega (arith, few_j)) (omega (arith, few_k)) same.0), same.1)
rest_same (To j) t Nothing u fr fq e = let first : 114 ≡ 111 = ap (λ (l : List ℕ). get_or l 0 0) e in absurd (omega (arith, first))
rest_same Nothing t Wins u fr fq e = let first : 111 ≡ 119 = ap (λ (l : List ℕ). get_or l 0 0) e in absurd (omega (arith, first))
rest_same Nothing t (To k) u fr fq e = let first : 111 ≡ 114 = ap (λ (l : List ℕ). get_or l 0 0) e in absurd (omega (arith, first))
rest_same Nothing t Nothing u fr fq e = (refl, (same_word space (codes "only") t (codes "only") u refl refl e).1)

-- ---- answers, nodes

module _ (width height : ℕ) (wide : IsSide width) (high : IsSide height) where
  -- the answers of a rest that wins are spelled by its word alone
  wins_word : (found : List Reply × Rest) → AnswersFit width height (answers_with found) → found.1 ≡ Wins
      → answers_text (answers_with found) ≡ codes "wins"
  wins_word (rs, r) fits e = search rules

  pub no_rest : (bytes : List ℕ) → (bytes ≡ codes "wins" → ⊥)
      → Reads {X = Rest × Option (List ℕ)} (λ found. OpenRestFits found.0) (λ found. rest_text found.0 ++ tail_text space found.1) None
      bytes → (found : List Reply × Rest) → AnswersFit width height (answers_with found) → bytes ≡ answers_text (answers_with found) → ⊥
  no_rest bytes not_wins none (rs, Wins) fits e = not_wins (e ∙ wins_word (rs, Wins) fits refl)
  no_rest bytes not_wins none (rs, To j) fits e =
      let tail = items_tail reply_text rs in
      none (To j, tail.0) fits.rest (e ∙ ap (λ (l : List ℕ). rest_text (To j) ++ l) tail.1)
  no_rest bytes not_wins none (rs, Nothing) fits e =
      let tail = items_tail reply_text rs in
      none (Nothing, tail.0) tt (e ∙ ap (λ (l : List ℕ). rest_text Nothing ++ l) tail.1)

  after_rest : (bytes : List ℕ) (r : Rest) (tail : Option (List ℕ)) → RestFits r → bytes ≡ rest_text r ++ tail_text space tail
      → (found : List Reply × Rest) → AnswersFit width height (answers_with found) → bytes ≡ answers_text (answers_with found)
      → (r ≡ found.1) × (tail_text space tail ≡ replies_text found.0)
  after_rest bytes r tail fits_r parts found fits e =
      let other = items_tail reply_text found.0 in
      let same = rest_same r tail found.1 other.0 fits_r fits.rest (sym parts ∙ e ∙ ap (λ (l : List ℕ). rest_text found.1 ++ l) other.1) in
      (same.0, ap (tail_text space) same.1 ∙ sym other.1)

  pub no_replies : (fault : Fault) (bytes : List ℕ) (r : Rest) (tail : Option (List ℕ)) → OpenRestFits r
      → bytes ≡ rest_text r ++ tail_text space tail → Gives (AllByRecursion (ReplyFits width height)) replies_text (Err fault)
      (tail_text space tail)
      → Gives {X = List Reply × Rest} (λ found. AnswersFit width height (answers_with found)) (λ found. answers_text (answers_with found))
      (Err fault) bytes
  no_replies Bad bytes r tail fits_r parts h = λ found fits e. h found.0 fits.replies
      (after_rest bytes r tail (open_fits r fits_r) parts found fits e).1
  no_replies Memory bytes r tail fits_r parts h = tt

  pub node_words : (line a : List ℕ) (t : Option (List ℕ)) (n : Node) → NodeFits width height n → line ≡ a ++ tail_text space t
      → is_free space a ≡ true → line ≡ node_line n → (a ≡ point_text n.attack) × (t ≡ Some (answers_text (answers_of n)))
  node_words line a t n fits parts free e = same_word space a t (point_text n.attack) (Some (answers_text (answers_of n))) free
      ((point_items width height (side_fits width wide) (side_fits height high)).free n.attack fits.attack) (sym parts ∙ e)

  pub bad_attack : (line a : List ℕ) (t : Option (List ℕ)) → line ≡ a ++ tail_text space t → is_free space a ≡ true
      → ((p : Point) → IsWithin width height p → a ≡ point_text p → ⊥) → (n : Node) → NodeFits width height n → line ≡ node_line n → ⊥
  bad_attack line a t parts free none n fits e = none n.attack fits.attack (node_words line a t n fits parts free e).0

  pub bad_answers : (fault : Fault) (line a text : List ℕ) (t : Option (List ℕ)) → line ≡ a ++ tail_text space t → is_free space a ≡ true
      → t ≡ Some text → Gives {X = List Reply × Rest} (λ found. AnswersFit width height (answers_with found))
      (λ found. answers_text (answers_with found)) (Err fault) text → Gives (NodeFits width height) node_line (Err fault) line
  bad_answers Bad line a text t parts free is h = λ n fits e.
      let whole : Some text ≡ Some (answers_text (answers_of n)) = sym is ∙ (node_words line a t n fits parts free e).1 in
      h (n.replies, n.rest) fits.answers (same_Some text (answers_text (answers_of n)) whole)
  bad_answers Memory line a text t parts free is h = tt

-- ---- lines of answers

rest-free : (r : Rest) → RestFits r → is_free line_feed (rest_text r) ≡ true
rest-free r fits = search (rules, is_free-append, decimal-free)

module _ (width height : ℕ) (wide : IsSide width) (high : IsSide height) where
  replies-free : (rs : List Reply) → AllByRecursion (ReplyFits width height) rs → is_free line_feed (replies_text rs) ≡ true
  replies-free [] all = refl
  replies-free (r ∷ rs) all = search (rules, point-free, side_fits, decimal-free, is_free-append, replies-free rs all.1)

  pub answers-free : (a : Answers) → AnswersFit width height a → is_free line_feed (answers_text a) ≡ true
  answers-free a fits = search (rules, is_free-append, rest-free, replies-free)

  pub node_line-free : (n : Node) → NodeFits width height n → is_free line_feed (node_line n) ≡ true
  node_line-free n fits = is_free-append line_feed (point_text n.attack) (space ∷ answers_text (answers_of n))
      (point-free line_feed width height (inl (omega arith)) (λ e. absurd (omega (arith, e))) (side_fits width wide)
      (side_fits height high) n.attack fits.attack) (answers-free (answers_of n) fits.answers)

  -- a text spells one list of answers
  pub answers_text-injective : (a b : Answers) → AnswersFit width height a → AnswersFit width height b → answers_text a ≡ answers_text b
      → a ≡ b
  answers_text-injective a b fa fb e =
      let tail_a = items_tail reply_text a.replies in
      let tail_b = items_tail reply_text b.replies in
      let same = rest_same a.rest tail_a.0 b.rest tail_b.0 fa.rest fb.rest
      (ap (λ (l : List ℕ). rest_text a.rest ++ l) (sym tail_a.1) ∙ e ∙ ap (λ (l : List ℕ). rest_text b.rest ++ l) tail_b.1) in
      let texts : replies_text a.replies ≡ replies_text b.replies = tail_a.1 ∙ ap (tail_text space) same.1 ∙ sym tail_b.1 in
      let replies = items_text-injective (ReplyFits width height) reply_text (reply_items width height wide high) a.replies b.replies
      fa.replies fb.replies texts in
      let rests = same.0 in
      λ i. record { replies = replies i; rest = rests i }

  -- a text spells one node
  pub node_line-injective : (n m : Node) → NodeFits width height n → NodeFits width height m → node_line n ≡ node_line m → n ≡ m
  node_line-injective n m fn fm e =
      let words = node_words width height wide high (node_line n) (point_text n.attack) (Some (answers_text (answers_of n))) m fm refl
      ((point_items width height (side_fits width wide) (side_fits height high)).free n.attack fn.attack) e in
      let attack = (point_items width height (side_fits width wide) (side_fits height high)).injective n.attack m.attack fn.attack fm.attack
      words.0 in
      let same = answers_text-injective (answers_of n) (answers_of m) fn.answers fm.answers
      (same_Some (answers_text (answers_of n)) (answers_text (answers_of m)) words.1) in
      let replies = ap (λ (a : Answers). a.replies) same in
      let rests = ap (λ (a : Answers). a.rest) same in
      λ i. record { attack = attack i; replies = replies i; rest = rests i }

  start-free : (len : ℕ) (a : Answers) → StartFits width height len a → is_free line_feed (answers_text a) ≡ true
  start-free len a fits = answers-free a fits.answers

  pub start_line-free : (len : ℕ) (a : Answers) → StartFits width height len a → is_free line_feed (start_line a) ≡ true
  start_line-free len a fits = is_free-append line_feed (codes "start ") (answers_text a) refl (start-free len a fits)

  pub no_start : (bytes : List ℕ) (len : ℕ) → ReadsLine (λ (text : List ℕ). is_free line_feed text ≡ true) (λ text. codes "start " ++ text)
      None bytes → ReadsLine (StartFits width height len) start_line None bytes
  no_start bytes len none = prefix_none (StartFits width height len) answers_text (start-free len) (codes "start ") bytes none

  module _ (bytes text after : List ℕ) (len : ℕ) (free : is_free line_feed text ≡ true)
      (parts : bytes ≡ (codes "start " ++ text) ++ line_feed ∷ after) where
    pub no_start_answers : (fault : Fault) → Gives {X = List Reply × Rest} (λ found. AnswersFit width height (answers_with found))
        (λ found. answers_text (answers_with found)) (Err fault) text → GivesLine (StartFits width height len) start_line (Err fault) bytes
    no_start_answers Bad none = prefix_bad (StartFits width height len) answers_text (start-free len) (codes "start ") bytes text after refl
        free parts (λ a fits e. none (a.replies, a.rest) fits.answers e)
    no_start_answers Memory none = tt

    -- where the answers are read, but are those of no start
    pub bad_start : (found : Answers) → AnswersFit width height found → text ≡ answers_text found → (StartFits width height len found → ⊥)
        → ReadsLine (StartFits width height len) start_line None bytes
    bad_start found fits is no_fit = prefix_bad (StartFits width height len) answers_text (start-free len) (codes "start ") bytes text after
        refl free parts
        (λ a fits_a e. no_fit (subst (StartFits width height len) (answers_text-injective a found fits_a.answers fits (sym e ∙ is)) fits_a))
