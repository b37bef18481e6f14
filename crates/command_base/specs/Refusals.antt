-- What is said of a text that is refused.
use Rattle.std.specs.Prelude.{◌≡◌, ◌≢◌, ℕ, List, [], ◌++◌, codes}
use Rattle.std.specs.Fmt.{decimal}
use Rattle.game_rules.specs.declared.Point.{Point}
use Rattle.text_lines.specs.Lines.{ended}
use Rattle.text_lines.specs.Spellings.{point_text}
use Rattle.foul_judge.specs.declared.position.PositionError.TheVariants.{Uneven, AlreadyWon, BoardFull}
use Rattle.position_files.specs.declared.error.FileError.{FileError}
use Rattle.position_files.specs.declared.error.FileError.TheVariants.{BadLine, Unlawful, WrongMoves, Memory}
use Rattle.command_base.specs.declared.status.Status.{Status}
use Rattle.command_base.specs.declared.status.Status.TheVariants.{RefusedText}

-- a text whose line with this number is bad
abbrev pub bad_line : ℕ → List ℕ
bad_line number = ended (codes "refused line " ++ decimal number)

-- counts that name no side to move
abbrev pub uneven_line : ℕ → ℕ → List ℕ
uneven_line black white = ended (codes "refused uneven " ++ decimal black ++ (codes " " ++ decimal white))

-- a winning run, by its least point
abbrev pub already_won_line : Point → List ℕ
already_won_line p = ended (codes "refused already won " ++ point_text p)

-- a number of moves that is not the depth of the root
abbrev pub wrong_moves_line : ℕ → ℕ → List ℕ
wrong_moves_line written counted = ended (codes "refused moves " ++ decimal written ++ (codes " " ++ decimal counted))

-- what a refused text is told
abbrev pub refusal_line : FileError → List ℕ
refusal_line (BadLine n) = bad_line n
refusal_line (Unlawful (Uneven black white)) = uneven_line black white
refusal_line (Unlawful (AlreadyWon at)) = already_won_line at
refusal_line (Unlawful BoardFull) = ended (codes "refused board full")
refusal_line (WrongMoves written counted) = wrong_moves_line written counted
refusal_line Memory = []

-- the text is refused for a fault that it has, which is told; want of memory is no fault of a text
pub record IsRefusedText (HasFault : FileError → Type 0) (status : Status) (text : List ℕ) : Type 0 where
  pub error : FileError
  pub cause : error ≢ Memory
  pub fault : HasFault error
  pub ends : status ≡ RefusedText
  pub line : text ≡ refusal_line error
