-- The roots of files in a compiler, as its nodes grow and as files are added.
use Rattle.std.proofs.Common.{◌≡◌, ℕ, zero, suc, ◌+◌, List, [], ◌∷◌, ◌++◌, length, sym, ap, subst, ◌∙◌, arith, Option, Some, None, rules}
use Rattle.std.proofs.Common.{slice_get, slice_index, length-append, true, ◌<◌, get_or, take}
use Rattle.std.proofs.lemmas.Grind.{get_or_default_zero}
use Rattle.std.proofs.lemmas.List.{take_more}
use Rattle.std.proofs.lemmas.List.Sums.{sum_by-append}
use Rattle.std.proofs.lemmas.Option.{same_Some}
use Rattle.join_command.proofs.Common.{Grid, Point, TableFile, Node, Reply, Root, Attack, NamesLower, SaysSame, TableOnBoard, IsCompiled}
use Rattle.join_command.proofs.Common.{GrowsBy, node_count, AreAdopted, IsAdopted}
use Rattle.game_rules.proofs.Common.{is_on}
use Rattle.position_files.proofs.Common.{IsTextOfTable, RootFits}
use Rattle.strategy_graph.proofs.Common.{RepliesOn}
use Rattle.strategy_graph.proofs.Filling.{IsTable-lower, growth-same}
use Rattle.strategy_graph.proofs.Saying.{same-then}
use Rattle.strategy_compiler.proofs.Adopted.{number-is}
use Rattle.strategy_compiler.proofs.Common.{AreNumbers}
use Rattle.strategy_compiler.proofs.Growing.{grows-then}

-- ---- boards of one size

-- points of a board are points of one of its size
module _ (b c : Grid) (wide : b.width ≡ c.width) (high : b.height ≡ c.height) where
  on-same : (p : Point) → is_on b p ≡ true → is_on c p ≡ true
  on-same p on = search rules

  replies-same : (rs : List Reply) → RepliesOn b rs → RepliesOn c rs
  replies-same [] on = tt
  replies-same (r ∷ rs) on = (on-same r.at on.0, replies-same rs on.1)

  pub table-same : (t : List Node) → TableOnBoard b t → TableOnBoard c t
  table-same [] on = tt
  table-same (n ∷ t) on =
      (record { attack = on-same n.attack on.0.attack; replies = replies-same n.replies on.0.replies }, table-same t on.1)

-- ---- as nodes grow

module _ (b : Grid) (u v : List Node) (m : ℕ) (lower : NamesLower u) (grows : GrowsBy u v m) where
  longer : length u + length grows.added ≡ length v
  longer = sym (ap length grows.is ∙ length-append u grows.added)

  root-grown : (file : TableFile) (root : Option ℕ) → IsAdopted b u file root → IsAdopted b v file root
  root-grown file None h = h
  root-grown file (Some j) h = (
    h.0,
    h.1,
    (let l = h.2 in let more = longer in omega arith),
    same-then file.table u v h.0 j j h.3
        (subst (λ (w : List Node). SaysSame u j w j) (sym grows.is) (growth-same u grows.added lower j h.2)),
  )

  pub roots-grown : (files : List TableFile) (roots : List (Option ℕ)) → AreAdopted b u files roots → AreAdopted b v files roots
  roots-grown [] [] h = tt
  roots-grown [] (root ∷ roots) h = absurd h
  roots-grown (file ∷ files) [] h = absurd h
  roots-grown (file ∷ files) (root ∷ roots) h = (root-grown file root h.0, roots-grown files roots h.1)

module _ (b : Grid) (u : List Node) where
  -- one file more
  pub roots-more : (files : List TableFile) (roots : List (Option ℕ)) (file : TableFile) (root : Option ℕ) → AreAdopted b u files roots
      → IsAdopted b u file root → AreAdopted b u (files ++ file ∷ []) (roots ++ root ∷ [])
  roots-more [] [] file root h is = (is, tt)
  roots-more [] (r ∷ roots) file root h is = absurd h
  roots-more (f ∷ files) [] file root h is = absurd h
  roots-more (f ∷ files) (r ∷ roots) file root h is = (h.0, roots-more files roots file root h.1 is)

  -- the root of the file at a place
  pub root-at : (files : List TableFile) (roots : List (Option ℕ)) (k : ℕ) (file : TableFile) (root : Option ℕ) → AreAdopted b u files roots
      → slice_get files k ≡ Some file → slice_get roots k ≡ Some root → IsAdopted b u file root
  root-at [] [] k file root h at there = cc
  root-at [] (r ∷ roots) k file root h at there = absurd h
  root-at (f ∷ files) [] k file root h at there = absurd h
  root-at (f ∷ files) (r ∷ roots) zero file root h at there =
      subst (λ (x : TableFile). IsAdopted b u x root) (same_Some f file at) (subst (IsAdopted b u f) (same_Some r root there) h.0)
  root-at (f ∷ files) (r ∷ roots) (suc k) file root h at there = root-at files roots k file root h.1 at there

-- ---- one file

module _ (b : Grid) (file : TableFile) (bytes : List ℕ) (is : IsTextOfTable file bytes)
    (size : (file.board.width ≡ b.width) × (file.board.height ≡ b.height)) where
  -- the nodes of the file name points of the board
  pub adopted-on : TableOnBoard b file.table
  adopted-on = table-same file.board b size.0 size.1 file.table is.on_board

  -- the number that its root got
  pub adopted-root : (i x : ℕ) (u v : List Node) (numbers : List ℕ) → file.root ≡ Attack i → IsCompiled v
      → AreNumbers u file.table v numbers → x ≡ get_or numbers i x → IsAdopted b v file (Some x)
  adopted-root i x u v numbers root compiled are at =
      let inside : i < length file.table =
      let fits = subst (λ (r : Root). RootFits file.board file.table r file.moves) root is.root in
      let last = fits.0 in omega (arith, last) in
      let count = are.count in
      let here : slice_index numbers i ≡ x = sym (at ∙ get_or_default_zero numbers i x (omega (arith, count, inside))) in
      let said = number-is u file.table v numbers is.table are (IsTable-lower v compiled.table) i inside in
      subst (λ (j : ℕ). IsAdopted b v file (Some j)) here (i, record { wide = size.0; high = size.1; root = root }, said.0, said.2)

-- all files, and one more
module _ (b : Grid) (old u v : List Node) (files : List TableFile) (roots : List (Option ℕ)) (i : ℕ) (file : TableFile)
    (l : i < length files) (at : file ≡ get_or files i file) where
  taken : take (i + 1) files ≡ take i files ++ file ∷ []
  taken = take_more files i file l ∙ ap (λ (f : TableFile). take i files ++ f ∷ []) (sym at)

  pub adopted-further : (root : Option ℕ) (roots' : List (Option ℕ)) → IsCompiled u → AreAdopted b u (take i files) roots
      → GrowsBy u v (length file.table) → IsAdopted b v file root → roots' ≡ roots ++ root ∷ [] → AreAdopted b v (take (i + 1) files) roots'
  adopted-further root roots' compiled are grows is pushed =
      let lower : NamesLower u = IsTable-lower u compiled.table in
      let more = roots-more b v (take i files) roots file root (roots-grown b u v (length file.table) lower grows (take i files) roots are)
      is in
      subst (λ (fs : List TableFile). AreAdopted b v fs roots') (sym taken)
      (subst (AreAdopted b v (take i files ++ file ∷ [])) (sym pushed) more)

  pub grown-further : GrowsBy old u (node_count (take i files)) → GrowsBy u v (length file.table)
      → GrowsBy old v (node_count (take (i + 1) files))
  grown-further before now =
      let count : node_count (take (i + 1) files) ≡ node_count (take i files) + (0 + length file.table) =
      ap node_count taken ∙ sum_by-append (λ (f : TableFile). length f.table) (take i files) (file ∷ []) in
      grows-then old u v (node_count (take i files)) (length file.table) (node_count (take (i + 1) files)) before now (omega (arith, count))
