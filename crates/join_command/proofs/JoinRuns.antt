-- The command `join`: when it answers, and what its statuses show.
use Rattle.std.proofs.Common.{◌≡◌, ◌⊎◌, inl, inr, sym, ap, subst, ◌∙◌, ℕ, List, Some, IfSome, slice_get, arith}
use Rattle.game_rules.proofs.Common.{WinsWithin}
use Rattle.join_command.proofs.Common.{Grid, after, outcome, Outcome, GoesOn, Point, last, TableFile, PositionFile, Done, NotFound}
use Rattle.join_command.proofs.Common.{AreTableFiles, AttackJoins, OpenOr}
use Rattle.game_rules.specs.declared.Outcome.TheVariants.{Refused, Wins, Fouls, Draws}
use Rattle.strategy_graph.proofs.Soundness.{accepted-wins}
use Rattle.command_base.specs.declared.status.Status.{Status}
use Rattle.command_base.specs.declared.status.Status.TheVariants.{Full}
use Rattle.command_base.specs.Statuses.{status_number}
use Rattle.command_base.specs.Runs.{Run}
use Rattle.command_base.specs.Told.{AnswersTold}
use Rattle.command_base.specs.Positions.{of_position}
use Rattle.command_base.proofs.ToldLaws.{where-told}
use Rattle.file_loading.specs.HeldFiles.{IsUnhinderedShelf}
use Rattle.file_loading.proofs.FileRunLaws.{Speaks, files-answer, files-shown, shows-then}
use Rattle.file_loading.specs.declared.TheConstants.{MAX_WORK}
use Rattle.join_command.specs.Joins.{IsJoinRun, IsJoinShown, IsWonByFiles, JoinLacks, HasNoTable, joins_command}
use Rattle.join_command.specs.Answering.{HasNoAnswer}

-- ---- what is said of a position

module _ (p : Point) (files : List TableFile) (file : PositionFile) (status : Status) (text : List ℕ) where
  -- a table is told only where the attack goes on, and the side to move wins by it
  said-won : (o : Outcome) → status_number status ≡ 0 → AttackJoins files file p o status text → IsWonByFiles p files file text
  said-won GoesOn done (inl h) =
      let join = h.1 in (
        join,
        subst (λ (n : ℕ). WinsWithin file.kind n file.board) join.deep
            (accepted-wins file.kind join.table (last join.table) file.board join.accepted),
      )
  said-won GoesOn done (inr (inl h)) = let other = ap status_number h.0 in absurd (omega (arith, done, other))
  said-won GoesOn done (inr (inr h)) = let other = ap status_number h.0 in absurd (omega (arith, done, other))
  said-won Refused done said = let other = ap status_number said.0 in absurd (omega (arith, done, other))
  said-won Wins done said = let other = ap status_number said.0 in absurd (omega (arith, done, other))
  said-won (Fouls f) done said = let other = ap status_number said.0 in absurd (omega (arith, done, other))
  said-won Draws done said = let other = ap status_number said.0 in absurd (omega (arith, done, other))

  -- of a reply that is open, no file is a table of the position after it
  without-table : (o : Outcome) (c : Grid)
      → OpenOr o ((k : ℕ) (f : TableFile) → slice_get files k ≡ Some f → HasNoAnswer file.kind c f) → OpenOr o (HasNoTable file.kind files c)
  without-table Refused c h = h
  without-table Wins c h = h
  without-table (Fouls f) c h = h
  without-table Draws c h = h
  without-table GoesOn c none = λ k f at. (none k f at).0

  said-lacks : (o : Outcome) → status_number status ≡ 9 → AttackJoins files file p o status text → JoinLacks p o files file text
  said-lacks GoesOn lacks (inl h) = let other = ap status_number h.0 in absurd (omega (arith, lacks, other))
  said-lacks GoesOn lacks (inr (inl h)) =
      let b = after file.board p in (h.1.0, without-table (outcome file.kind b h.1.0) (after b h.1.0) h.1.1, h.1.2)
  said-lacks GoesOn lacks (inr (inr h)) = let other = ap status_number h.0 in absurd (omega (arith, lacks, other))
  said-lacks Refused lacks said = said.1
  said-lacks Wins lacks said = said.1
  said-lacks (Fouls f) lacks said = said.1
  said-lacks Draws lacks said = said.1

  -- what is said is an answer
  said-answers : (o : Outcome) → AttackJoins files file p o status text → (status ≡ Done) ⊎ (status ≡ NotFound) ⊎ (status ≡ Full)
  said-answers GoesOn (inl h) = inl h.0
  said-answers GoesOn (inr (inl h)) = inr (inl h.0)
  said-answers GoesOn (inr (inr h)) = inr (inr h.0)
  said-answers Refused said = inr (inl said.0)
  said-answers Wins said = inr (inl said.0)
  said-answers (Fouls f) said = inr (inl said.0)
  said-answers Draws said = inr (inl said.0)

-- ---- answers, and what is shown

pub join-answers : (p : Point) (names : List (List ℕ)) (run : Run) → IsJoinRun p names run → (files : List TableFile)
    → IsUnhinderedShelf (λ shelf. AreTableFiles MAX_WORK (Some shelf) names files) run
    → AnswersTold (of_position (joins_command p names files)) run
join-answers p names run is files free = files-answer (joins_command p names)
    (λ fs file status text says. said-answers p fs file status text (outcome file.kind file.board p) says) MAX_WORK names run files free is

-- what statuses 0 and 9 of `join` show
pub join-shown : (p : Point) (names : List (List ℕ)) (run : Run) → IsJoinRun p names run
    → IfSome run.shelf.before (λ shelf. IfSome run.input.before (λ input. IsJoinShown p names shelf input run))
join-shown p names run is = where-told run.shelf.before (λ shelf told. where-told run.input.before (λ input given.
    let shown = λ (speaks : Speaks run.status). files-shown _ MAX_WORK names run shelf told input given speaks is in
    record {
      joined = λ done. shows-then _ _ MAX_WORK names shelf input run (λ files file text accepted at said.
          said-won p files file said.0 text (outcome file.kind file.board p) (sym said.1 ∙ done) said.2) (shown (inl done));
      lacking = λ lacks. shows-then _ _ MAX_WORK names shelf input run (λ files file text accepted at said.
          said-lacks p files file said.0 text (outcome file.kind file.board p) (sym said.1 ∙ lacks) said.2) (shown (inr lacks));
    }))
