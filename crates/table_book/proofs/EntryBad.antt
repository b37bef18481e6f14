-- Where bytes leave the lines of entries.
use Rattle.std.proofs.Common.{◌≡◌, ℕ, suc, ◌+◌, ◌-◌, ◌*◌, ◌^◌, ◌<◌, ◌≤◌, refl, sym, ap, subst, ◌∙◌, arith, List, [], ◌∷◌, ◌++◌, length}
use Rattle.std.proofs.Common.{take, drop, take-append-drop, get_or, replicate, None, codes, rules, flat_map}
use Rattle.std.specs.List.{AllByRecursion}
use Rattle.std.specs.Fmt.{decimal}
use Rattle.std.proofs.lemmas.Fmt.{decimal_injective}
use Rattle.std.proofs.lemmas.List.{append_cancel_left, append-nil, length-append, length-replicate, length-take-le}
use Rattle.std.proofs.lemmas.List.Concat.{flat_map-append}
use Rattle.std.proofs.Math.Seq.{drop-cons}
use Rattle.table_book.proofs.Common.{Grid, MAX_SIDE, Root, Attack, Defend, line_feed, text_of, board_lines, Entry, MAX_ENTRIES, EntryFits}
use Rattle.table_book.proofs.Common.{EntryRootFits, entries_line, entry_lines, move_count_line, root_line, AreEntryLines, IsEndLines}
use Rattle.table_book.proofs.Common.{IsEntryLines}
use Rattle.game_rules.proofs.Common.{IsBoard}
use Rattle.game_rules.specs.declared.RuleKind.{RuleKind}
use Rattle.game_rules.specs.declared.RuleKind.TheVariants.{Freestyle}
use Rattle.game_rules.specs.declared.TheConstants.{MIN_SIDE}
use Rattle.game_rules.proofs.Marks.{empty_board}
use Rattle.text_lines.proofs.Common.{IsBetween, IsLineOf, LeavesAt, ReadsLine}
use Rattle.text_lines.proofs.LineLaws.{same_line}
use Rattle.text_lines.proofs.TextLaws.{AreFree, free_append, text_of-push}
use Rattle.text_lines.proofs.Leaving.{HasParts, leaves_after, leaves_first, left_first}
use Rattle.position_files.proofs.Common.{StartFits, after_lines, IsBoardLines, IsSectionFault, IsStartLines, start_line}
use Rattle.position_files.specs.declared.TheConstants.{MAX_MOVES}
use Rattle.position_files.specs.declared.error.HeadError.{HeadError}
use Rattle.position_files.specs.declared.error.HeadError.TheVariants.{BadLine, Memory}
use Rattle.position_files.proofs.BoardLines.{board-free, board-length, least_side}
use Rattle.position_files.proofs.Completions.{all_at}
use Rattle.position_files.proofs.SectionLaws.{fault_after, number-free, only_fits, only_start}
use Rattle.position_files.proofs.Stones.{IsBoard-empty}
use Rattle.table_book.proofs.Lists.{all_append, all_replicate, all_take}
use Rattle.table_book.proofs.EntryLaws.{entries-free, entries-length, moves_line-free}

-- ---- the line of a root

pub least_root : Root
least_root = Defend only_start

pub least_root-fits : (k : ℕ) → EntryRootFits k least_root
unfolding least_root
least_root-fits k = only_fits MAX_SIDE MAX_SIDE k

module _ (k : ℕ) (bytes : List ℕ) where
  -- a number that is no number of a node
  pub no_such_node : (n : ℕ) (rest : List ℕ) → n < 2 ^ 32 → k < 2 ^ 32 → k ≤ n → bytes ≡ (codes "root " ++ decimal n) ++ line_feed ∷ rest
      → ReadsLine (EntryRootFits k) root_line None bytes
  no_such_node n rest few few_k past line (Attack i) others fits e =
      let low : i < k = fits in
      let same = same_line (codes "root " ++ decimal n) rest (codes "root " ++ decimal i) others
      (number-free (codes "root ") n refl (omega (arith, few))) (number-free (codes "root ") i refl (omega (arith, low, few_k)))
      (sym line ∙ e) in
      let number : n ≡ i = decimal_injective n i (omega (arith, few)) (omega (arith, low, few_k))
      (append_cancel_left (codes "root ") (decimal n) (decimal i) same.0) in
      omega (arith, low, past, number)
  no_such_node n rest few few_k past line (Defend a) others fits e =
      let letter : 114 ≡ 115 = ap (λ (l : List ℕ). get_or l 0 0) (sym line ∙ e) in
      absurd (omega (arith, letter))

  -- neither a number nor a start
  no_root : ReadsLine (IsBetween 0 (2 ^ 32 - 1)) (λ n. codes "root " ++ decimal n) None bytes
      → ReadsLine (StartFits MAX_SIDE MAX_SIDE k) start_line None bytes → k < 2 ^ 32 → ReadsLine (EntryRootFits k) root_line None bytes
  no_root no_number no_start few_k x3 others fits e = search rules

  pub no_root_line : ReadsLine (EntryRootFits k) root_line None bytes → LeavesAt (IsLineOf (EntryRootFits k) root_line) bytes 0
  no_root_line none = leaves_first (EntryRootFits k) root_line bytes least_root (least_root-fits k) none

  pub root_fault : ReadsLine (IsBetween 0 (2 ^ 32 - 1)) (λ n. codes "root " ++ decimal n) None bytes → k < 2 ^ 32 → (error : HeadError)
      → IsSectionFault (IsStartLines MAX_SIDE MAX_SIDE k) bytes error → IsSectionFault (IsLineOf (EntryRootFits k) root_line) bytes error
  root_fault no_number few_k (BadLine n) h =
      let left = left_first (StartFits MAX_SIDE MAX_SIDE k) start_line bytes h.0 h.2 in
      let at : h.0 ≡ 0 = left.0 in
      (0, h.1 ∙ ap (λ i. i + 1) at, no_root_line (no_root no_number left.1 few_k))
  root_fault no_number few_k Memory h = tt

-- ---- an entry

-- a head stands at the front of an entry
pub head_in_entry : (k : ℕ) → HasParts [] IsBoardLines (IsEntryLines k)
unfolding entry_lines
head_in_entry k = record {
  free = tt;
  whole = λ l is. (
    move_count_line 0 ∷ root_line least_root ∷ [],
    (
      record { kind = is.0; board = is.1; root = least_root; moves = 0 },
      record { board = is.2; moves = omega arith; root = least_root-fits k },
      ap (λ (m : List (List ℕ)). m ++ move_count_line 0 ∷ root_line least_root ∷ []) is.3,
    ),
  );
  parts = λ ls is. record {
    first = [];
    part = board_lines is.0.kind is.0.board;
    more = move_count_line is.0.moves ∷ root_line is.0.root ∷ [];
    lines = is.2;
    free = tt;
    count = refl;
    are = λ same. (is.0.kind, is.0.board, is.1.board, refl);
  };
}

module _ (k : ℕ) (kind : RuleKind) (b : Grid) (ok : IsBoard b) where
  -- a number of moves stands behind a head
  moves_in_entry : HasParts (board_lines kind b) (IsLineOf (IsBetween 0 MAX_MOVES) move_count_line) (IsEntryLines k)
  unfolding entry_lines
  moves_in_entry = record {
    free = board-free kind b ok;
    whole = λ l is. (
      root_line least_root ∷ [],
      (
        record { kind = kind; board = b; root = least_root; moves = is.0 },
        record { board = ok; moves = is.1.few; root = least_root-fits k },
        ap (λ (m : List (List ℕ)). board_lines kind b ++ (m ++ root_line least_root ∷ [])) is.2,
      ),
    );
    parts = λ ls is. record {
      first = board_lines is.0.kind is.0.board;
      part = move_count_line is.0.moves ∷ [];
      more = root_line is.0.root ∷ [];
      lines = is.2;
      free = board-free is.0.kind is.0.board is.1.board;
      count = board-length is.0.kind is.0.board ∙ sym (board-length kind b);
      are = λ same. (is.0.moves, record { enough = omega arith; few = is.1.moves }, refl);
    };
  }

  module _ (m : ℕ) (most : m ≤ MAX_MOVES) (few_k : k < 2 ^ 64) where
    -- a root stands behind these
    root_in_entry : HasParts (board_lines kind b ++ move_count_line m ∷ []) (IsLineOf (EntryRootFits k) root_line) (IsEntryLines k)
    unfolding entry_lines board_lines
    root_in_entry = record {
      free = free_append (board_lines kind b) (move_count_line m ∷ []) (board-free kind b ok)
          (number-free (codes "moves ") m refl (omega (arith, most)), tt);
      whole = λ l is. (
        [],
        (
          record { kind = kind; board = b; root = is.0; moves = m },
          record { board = ok; moves = most; root = is.1 },
          ap (λ (n : List (List ℕ)). board_lines kind b ++ move_count_line m ∷ n) (append-nil l ∙ is.2),
        ),
      );
      parts = λ ls is. record {
        first = board_lines is.0.kind is.0.board ++ move_count_line is.0.moves ∷ [];
        part = root_line is.0.root ∷ [];
        more = [];
        lines = is.2;
        free = free_append (board_lines is.0.kind is.0.board) (move_count_line is.0.moves ∷ []) (board-free is.0.kind is.0.board is.1.board)
            (moves_line-free k is.0 is.1, tt);
        count = refl;
        are = λ same. (is.0.root, is.1.root, refl);
      };
    }

    pub entry_root_fault : (bytes r1 r2 : List ℕ) → bytes ≡ text_of (board_lines kind b) ++ r1 → r1 ≡ move_count_line m ++ line_feed ∷ r2
        → (error : HeadError) → IsSectionFault (IsLineOf (EntryRootFits k) root_line) r2 error
        → IsSectionFault (IsEntryLines k) bytes (after_lines 5 error)
    entry_root_fault bytes r1 r2 e1 e2 error h =
        let lengths = length-append (board_lines kind b) (move_count_line m ∷ []) in
        let four = board-length kind b in
        fault_after (board_lines kind b ++ move_count_line m ∷ [])
        (IsLineOf (EntryRootFits k) root_line) (IsEntryLines k) root_in_entry bytes r2 5 (omega (arith, lengths, four))
        (e1 ∙ ap (λ (l : List ℕ). text_of (board_lines kind b) ++ l) e2 ∙ text_of-push (board_lines kind b) (move_count_line m) r2) error h

  pub no_moves_line : (bytes rest : List ℕ) → bytes ≡ text_of (board_lines kind b) ++ rest
      → ReadsLine (IsBetween 0 MAX_MOVES) move_count_line None rest → LeavesAt (IsEntryLines k) bytes 4
  no_moves_line bytes rest e none =
      let four = board-length kind b in
      let there : length (board_lines kind b) + 0 ≡ 4 = omega (arith, four) in
      subst (LeavesAt (IsEntryLines k) bytes) there
      (leaves_after (board_lines kind b) (IsLineOf (IsBetween 0 MAX_MOVES) move_count_line) (IsEntryLines k) moves_in_entry bytes rest 0 e
      (leaves_first (IsBetween 0 MAX_MOVES) move_count_line rest 0 (record { enough = omega arith; few = omega arith }) none))

-- ---- entries one after another

pub least_entry : Entry
least_entry = record { kind = Freestyle; board = empty_board MIN_SIDE MIN_SIDE; root = least_root; moves = 0 }

pub least_entry-fits : (k : ℕ) → EntryFits k least_entry
unfolding least_entry
least_entry-fits k = record { board = IsBoard-empty MIN_SIDE MIN_SIDE least_side least_side; moves = omega arith; root = least_root-fits k }

-- so many entries have been read, and the bytes go on with the rest after their lines
pub record AreRead (k : ℕ) (es : List Entry) (count : ℕ) (bytes rest : List ℕ) : Type 0 where
  pub fit : AllByRecursion (EntryFits k) es
  pub counted : length es ≡ count
  pub text : bytes ≡ text_of (flat_map entry_lines es) ++ rest

module _ (k count : ℕ) (few_k : k < 2 ^ 64) (es : List Entry) (fit : AllByRecursion (EntryFits k) es) (fewer : length es < count) where
  left : List Entry
  left = replicate (count - (length es + 1)) least_entry

  left-fits : AllByRecursion (EntryFits k) left
  unfolding left
  left-fits = all_replicate (EntryFits k) (count - (length es + 1)) least_entry (least_entry-fits k)

  left-length : length left ≡ count - (length es + 1)
  unfolding left
  left-length = length-replicate (count - (length es + 1)) least_entry

  -- an entry stands in entries behind these
  entry_in_entries : HasParts (flat_map entry_lines es) (IsEntryLines k) (AreEntryLines k count)
  entry_in_entries = record {
    free = entries-free k es few_k fit;
    whole = λ l is. (
      flat_map entry_lines left,
      (
        es ++ is.0 ∷ left,
        record {
          fit = all_append (EntryFits k) es (is.0 ∷ left) fit (is.1, left-fits);
          counted = let sum = length-append es (is.0 ∷ left) in let others = left-length in omega (arith, sum, others, fewer);
        },
        ap (λ (m : List (List ℕ)). flat_map entry_lines es ++ (m ++ flat_map entry_lines left)) is.2
            ∙ sym (flat_map-append entry_lines es (is.0 ∷ left)),
      ),
    );
    parts = λ ls is.
        let all : List Entry = is.0 in
        let counted = is.1.counted in
        let within : length es < length all = omega (arith, counted, fewer) in
        record {
          first = flat_map entry_lines (take (length es) all);
          part = entry_lines (get_or all (length es) least_entry);
          more = flat_map entry_lines (drop (suc (length es)) all);
          lines =
              is.2 ∙ ap (flat_map entry_lines) (sym (take-append-drop (length es) all) ∙ ap (λ (l : List Entry). take (length es) all ++ l)
              (drop-cons all (length es) least_entry within))
              ∙ flat_map-append entry_lines (take (length es) all) (get_or all (length es) least_entry ∷ drop (suc (length es)) all);
          free = entries-free k (take (length es) all) few_k (all_take (EntryFits k) (length es) all is.1.fit);
          count = entries-length (take (length es) all)
              ∙ ap (λ n. 6 * n) (length-take-le (length es) all (omega (arith, within))) ∙ sym (entries-length es);
          are = λ same. (get_or all (length es) least_entry, all_at (EntryFits k) all (length es) least_entry is.1.fit within, refl);
        };
  }

  pub entry_fault : (bytes rest : List ℕ) (lines : ℕ) → lines ≡ 6 * length es → bytes ≡ text_of (flat_map entry_lines es) ++ rest
      → (error : HeadError) → IsSectionFault (IsEntryLines k) rest error
      → IsSectionFault (AreEntryLines k count) bytes (after_lines lines error)
  entry_fault bytes rest lines is e error h = search (rules, fault_after, entry_in_entries, entries-length)

pub entries_fault : (k count number : ℕ) (es : List Entry) (bytes rest : List ℕ) (lines : ℕ) → k < 2 ^ 64 → AreRead k es number bytes rest
    → number < count → lines ≡ 6 * number → (error : HeadError) → IsSectionFault (IsEntryLines k) rest error
    → IsSectionFault (AreEntryLines k count) bytes (after_lines lines error)
entries_fault k count number es bytes rest lines few_k read fewer is error h =
    let so_far = read.counted in
    entry_fault k count few_k es read.fit (omega (arith, so_far, fewer)) bytes rest lines (is ∙ ap (λ n. 6 * n) (sym so_far)) read.text
    error h

-- ---- entries behind their number

entries_line-free : (n : ℕ) → n ≤ MAX_ENTRIES → AreFree (entries_line n ∷ [])
entries_line-free n few = (number-free (codes "entries ") n refl (omega (arith, few)), tt)

number_in_end : (k : ℕ) → HasParts [] (IsLineOf (IsBetween 1 MAX_ENTRIES) entries_line) (IsEndLines k)
number_in_end k = record {
  free = tt;
  whole = λ l is.
      let n : ℕ = is.0 in
      let count = length-replicate n least_entry in (
        flat_map entry_lines (replicate n least_entry),
        (
          replicate n least_entry,
          all_replicate (EntryFits k) n least_entry (least_entry-fits k),
          subst (IsBetween 1 MAX_ENTRIES) (sym count) is.1,
          ap (λ (m : List (List ℕ)). m ++ flat_map entry_lines (replicate n least_entry)) is.2
              ∙ ap (λ c. entries_line c ∷ flat_map entry_lines (replicate n least_entry)) (sym count),
        ),
      );
  parts = λ ls is. record {
    first = [];
    part = entries_line (length is.0) ∷ [];
    more = flat_map entry_lines is.0;
    lines = is.3;
    free = tt;
    count = refl;
    are = λ same. (length is.0, is.2, refl);
  };
}

pub no_entries_line : (k : ℕ) (bytes : List ℕ) → ReadsLine (IsBetween 1 MAX_ENTRIES) entries_line None bytes
    → LeavesAt (IsEndLines k) bytes 0
no_entries_line k bytes none = leaves_after [] (IsLineOf (IsBetween 1 MAX_ENTRIES) entries_line) (IsEndLines k) (number_in_end k) bytes
    bytes 0 refl (leaves_first (IsBetween 1 MAX_ENTRIES) entries_line bytes 1 (record { enough = omega arith; few = omega arith }) none)

module _ (k n : ℕ) (some : IsBetween 1 MAX_ENTRIES n) where
  entries_in_end : HasParts (entries_line n ∷ []) (AreEntryLines k n) (IsEndLines k)
  entries_in_end = record {
    free = entries_line-free n some.few;
    whole = λ l is. (
      [],
      (
        is.0,
        is.1.fit,
        subst (IsBetween 1 MAX_ENTRIES) (sym is.1.counted) some,
        ap (λ (m : List (List ℕ)). entries_line n ∷ m) (append-nil l ∙ is.2)
            ∙ ap (λ c. entries_line c ∷ flat_map entry_lines is.0) (sym is.1.counted),
      ),
    );
    parts = λ ls is. record {
      first = entries_line (length is.0) ∷ [];
      part = flat_map entry_lines is.0;
      more = [];
      lines = is.3 ∙ ap (λ (m : List (List ℕ)). entries_line (length is.0) ∷ m) (sym (append-nil (flat_map entry_lines is.0)));
      free = entries_line-free (length is.0) is.2.few;
      count = refl;
      are = λ same.
          let line : entries_line (length is.0) ≡ entries_line n = ap (λ (m : List (List ℕ)). get_or m 0 []) same in
          let most = is.2.few in
          let few = some.few in (
            is.0,
            record {
              fit = is.1;
              counted = decimal_injective (length is.0) n (omega (arith, most)) (omega (arith, few))
                  (append_cancel_left (codes "entries ") (decimal (length is.0)) (decimal n) line);
            },
            refl,
          );
    };
  }

  pub end_fault : (bytes rest : List ℕ) → bytes ≡ entries_line n ++ line_feed ∷ rest → (error : HeadError)
      → IsSectionFault (AreEntryLines k n) rest error → IsSectionFault (IsEndLines k) bytes (after_lines 1 error)
  end_fault bytes rest e error h = fault_after (entries_line n ∷ []) (AreEntryLines k n) (IsEndLines k) entries_in_end bytes rest 1 refl
      (e ∙ text_of-push [] (entries_line n) rest) error h
