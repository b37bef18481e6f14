-- The command `cover`: when it answers, and what its statuses show.
use Rattle.std.proofs.Common.{◌≡◌, ◌⊎◌, inl, inr, refl, sym, ap, subst, ◌∙◌, ℕ, ◌+◌, List, [], ◌∷◌, Option, Some, None, IfSome, true}
use Rattle.std.proofs.Common.{add-zero, arith}
use Rattle.std.specs.List.{AllByRecursion, cons_option}
use Rattle.game_rules.proofs.Common.{Grid, IsBoard, WinsOr, LosesOr, WinsWithin, after, outcome, WinsAfter, mover}
use Rattle.game_rules.specs.declared.RuleKind.{RuleKind}
use Rattle.game_rules.specs.declared.Outcome.{Outcome}
use Rattle.game_rules.specs.declared.Outcome.TheVariants.{Refused, Wins, Fouls, Draws, GoesOn}
use Rattle.game_rules.specs.declared.Point.{Point}
use Rattle.game_rules.proofs.Positions.{IsBoard-put}
use Rattle.strategy_graph.proofs.Common.{AcceptedRoot, root_depth}
use Rattle.strategy_graph.specs.declared.roots.Root.{Root}
use Rattle.strategy_graph.specs.declared.roots.Root.TheVariants.{Attack, Defend}
use Rattle.strategy_graph.proofs.Soundness.{accepted-wins}
use Rattle.position_files.specs.declared.TableFile.{TableFile}
use Rattle.position_files.specs.declared.PositionFile.{PositionFile}
use Rattle.renju_io.specs.Files.{Files}
use Rattle.reply_cover.specs.Covers.{cover_of}
use Rattle.reply_cover.specs.Laws.{CoverWins, IsWonPart}
use Rattle.reply_cover.specs.declared.Part.{Part}
use Rattle.reply_cover.specs.declared.Cover.{Cover}
use Rattle.reply_cover.specs.declared.Cover.TheVariants.{Covered, Open}
use Rattle.reply_cover.proofs.CoverLaws.{covers-exact, covers-win, won-boards}
use Rattle.command_base.specs.declared.status.Status.{Status}
use Rattle.command_base.specs.declared.status.Status.TheVariants.{Done, NotFound}
use Rattle.command_base.specs.Statuses.{status_number}
use Rattle.command_base.specs.Runs.{Run}
use Rattle.command_base.specs.Told.{AnswersTold}
use Rattle.command_base.specs.Positions.{of_position}
use Rattle.command_base.proofs.ToldLaws.{where-told}
use Rattle.file_loading.specs.HeldFiles.{IsUnhinderedShelf}
use Rattle.file_loading.specs.ManyFiles.{AreTableFiles}
use Rattle.file_loading.proofs.FileRunLaws.{Speaks, files-answer, files-shown, shows-then}
use Rattle.cover_command.specs.PartFiles.{part_by, parts_of}
use Rattle.cover_command.specs.Covers.{AttackLacks, AttackSays, CoverLacks, CoverSays, IsCoverRun, IsCoverShown, IsToldCover, IsWonAsTold}
use Rattle.cover_command.specs.Covers.{TellsOpen, cover_line, covers_command}

-- ---- what is kept of accepted tables

part-won : (root : Root) (file : TableFile) (rest : List Part) → IsBoard file.board → AcceptedRoot file.kind file.table root file.board
    → file.moves ≡ root_depth file.table root → AllByRecursion IsWonPart rest
    → AllByRecursion IsWonPart (cons_option (part_by root file) rest)
part-won (Attack i) file rest board accepted moves all = (
  record {
    board = board;
    won = subst (λ (n : ℕ). WinsWithin file.kind n file.board) (sym moves) (accepted-wins file.kind file.table i file.board accepted);
  },
  all,
)
part-won (Defend a) file rest board accepted moves all = all

kept-won : (work : ℕ) (shelf : Option Files) (names : List (List ℕ)) (files : List TableFile) → AreTableFiles work shelf names files
    → AllByRecursion IsWonPart (parts_of files)
kept-won work shelf [] [] h = tt
kept-won work shelf [] (file ∷ files) h = absurd h
kept-won work shelf (name ∷ names) [] h = absurd h
kept-won work shelf (name ∷ names) (file ∷ files) h =
    part-won file.root file (parts_of files) h.0.at.lawful.board h.0.fit.accepted h.0.at.moves (kept-won work shelf names files h.1)

-- ---- what is said of a position

module _ (rule : RuleKind) (parts : List Part) (won : AllByRecursion IsWonPart parts) (status : Status) (text : List ℕ) where
  told-won : (b : Grid) → IsBoard b → (before : ℕ) (cover : Cover) → cover_of rule parts b ≡ cover → status_number status ≡ 0
      → IsToldCover before cover status text
      → (moves replies used : ℕ) × (text ≡ cover_line (moves + before) replies used) × CoverWins rule b moves
  told-won b ok before (Covered m r k) is done told = (m, r, k, told.1, covers-win rule parts b m r k ok won is)
  told-won b ok before (Open p) is done told = let other = ap status_number told.0 in absurd (omega (arith, done, other))

  told-open : (b : Grid) → IsBoard b → (before : ℕ) (cover : Cover) → cover_of rule parts b ≡ cover → status_number status ≡ 9
      → IsToldCover before cover status text → TellsOpen rule parts b text
  told-open b ok before (Covered m r k) is lacks told = let other = ap status_number told.0 in absurd (omega (arith, lacks, other))
  told-open b ok before (Open p) is lacks told = (p, (covers-exact rule parts b ok (won-boards parts won)).opens p is, told.1)

  module _ (b : Grid) (ok : IsBoard b) (p : Point) where
    attack-won : (o : Outcome) → outcome rule b p ≡ o → status_number status ≡ 0 → AttackSays rule parts b p o status text
        → (moves replies used : ℕ) × (text ≡ cover_line moves replies used) × WinsWithin rule moves b
    attack-won Wins is done said =
        let now : WinsWithin rule 1 b = (
          p,
          subst (λ (o : Outcome). WinsOr o
              ((true ≡ true) × ((q : Point) → LosesOr (outcome rule (after b p) q) (WinsWithin rule 0 (after (after b p) q))))) (sym is) tt,
        ) in
        (1, 0, 0, said.1, now)
    attack-won GoesOn is done said =
        let told = told-won (after b p) (IsBoard-put b (mover b) p ok) 1 (cover_of rule parts (after b p)) refl done said in
        (told.0 + 1, told.1, told.2, told.3, told.4.attacks b p is refl)
    attack-won Refused is done said = let other = ap status_number said.0 in absurd (omega (arith, done, other))
    attack-won (Fouls f) is done said = let other = ap status_number said.0 in absurd (omega (arith, done, other))
    attack-won Draws is done said = let other = ap status_number said.0 in absurd (omega (arith, done, other))

    attack-lacks : (o : Outcome) → status_number status ≡ 9 → AttackSays rule parts b p o status text → AttackLacks rule parts b p o text
    attack-lacks Wins lacks said = let other = ap status_number said.0 in absurd (omega (arith, lacks, other))
    attack-lacks GoesOn lacks said =
        told-open (after b p) (IsBoard-put b (mover b) p ok) 1 (cover_of rule parts (after b p)) refl lacks said
    attack-lacks Refused lacks said = said.1
    attack-lacks (Fouls f) lacks said = said.1
    attack-lacks Draws lacks said = said.1

module _ (files : List TableFile) (won : AllByRecursion IsWonPart (parts_of files)) (file : PositionFile) (ok : IsBoard file.board)
    (status : Status) (text : List ℕ) where
  said-won : (attack : Option Point) → status_number status ≡ 0 → CoverSays attack (parts_of files) file status text
      → IsWonAsTold attack files file text
  said-won None done said =
      let told = told-won file.kind (parts_of files) won status text file.board ok 0 _ refl done said in
      (told.0 + 0, told.1, told.2, told.3, subst (λ (n : ℕ). WinsAfter file.kind n file.board) (sym (add-zero told.0)) told.4.replies)
  said-won (Some p) done said = attack-won file.kind (parts_of files) won status text file.board ok p _ refl done said

  said-lacks : (attack : Option Point) → status_number status ≡ 9 → CoverSays attack (parts_of files) file status text
      → CoverLacks attack (parts_of files) file text
  said-lacks None lacks said = told-open file.kind (parts_of files) won status text file.board ok 0 _ refl lacks said
  said-lacks (Some p) lacks said = attack-lacks file.kind (parts_of files) won status text file.board ok p _ lacks said

-- what is said is an answer
said-answers : (attack : Option Point) (parts : List Part) (file : PositionFile) (status : Status) (text : List ℕ)
    → CoverSays attack parts file status text → (status ≡ Done) ⊎ (status ≡ NotFound)
said-answers attack parts file status text said = by-attack attack said where
  by-cover : (before : ℕ) (cover : Cover) → IsToldCover before cover status text → (status ≡ Done) ⊎ (status ≡ NotFound)
  by-cover before (Covered m r k) told = inl told.0
  by-cover before (Open p) told = inr told.0

  by-outcome : (p : Point) (o : Outcome) → AttackSays file.kind parts file.board p o status text → (status ≡ Done) ⊎ (status ≡ NotFound)
  by-outcome p Wins told = inl told.0
  by-outcome p GoesOn told = by-cover 1 _ told
  by-outcome p Refused told = inr told.0
  by-outcome p (Fouls f) told = inr told.0
  by-outcome p Draws told = inr told.0

  by-attack : (a : Option Point) → CoverSays a parts file status text → (status ≡ Done) ⊎ (status ≡ NotFound)
  by-attack None told = by-cover 0 _ told
  by-attack (Some p) told = by-outcome p _ told

-- ---- answers, and what is shown

pub cover-answers : (work : ℕ) (attack : Option Point) (names : List (List ℕ)) (run : Run) → IsCoverRun work attack names run
    → (files : List TableFile) → IsUnhinderedShelf (λ shelf. AreTableFiles work (Some shelf) names files) run
    → AnswersTold (of_position (covers_command work attack names files)) run
cover-answers work attack names run is files free = files-answer (covers_command work attack names)
    (λ fs file status text says. said-answers attack (parts_of fs) file status text says) work names run files free is

-- what statuses 0 and 9 of `cover` show
pub cover-shown : (work : ℕ) (attack : Option Point) (names : List (List ℕ)) (run : Run) → IsCoverRun work attack names run
    → IfSome run.shelf.before (λ shelf. IfSome run.input.before (λ input. IsCoverShown work attack names shelf input run))
cover-shown work attack names run is = where-told run.shelf.before (λ shelf told. where-told run.input.before (λ input given.
    let shown = λ (speaks : Speaks run.status). files-shown _ work names run shelf told input given speaks is in
    record {
      covered = λ done. shows-then _ _ work names shelf input run (λ files file text accepted at said.
          said-won files (kept-won work (Some shelf) names files accepted) file at.lawful.board said.0 text attack
          (sym said.1 ∙ done) said.2) (shown (inl done));
      lacking = λ lacks. shows-then _ _ work names shelf input run (λ files file text accepted at said.
          said-lacks files (kept-won work (Some shelf) names files accepted) file at.lawful.board said.0 text attack
          (sym said.1 ∙ lacks) said.2) (shown (inr lacks));
    }))
