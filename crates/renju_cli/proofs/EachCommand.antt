-- What is proved of each command in turn: that its words tell its form, and that it answers where it is sure to.
use Rattle.std.proofs.Common.{◌≡◌, refl, sym, ap, ◌∙◌, inl, ℕ, ◌<◌, ◌≤◌, ◌^◌, Bool, true, false, List, [], length, get_or, arith, codes}
use Rattle.std.proofs.Common.{if◌then◌else◌, nat_lt, find, Option, Some, None}
use Rattle.std.specs.Prelude.{unwrap_or}
use Rattle.std.specs.Str.{bytes_eq}
use Rattle.std.specs.Str.Parse.{digits_value}
use Rattle.std.specs.Fmt.{decimal}
use Rattle.std.proofs.lemmas.Fmt.{decimal_is_IsNumeral}
use Rattle.std.proofs.lemmas.Slice.Eq.{bytes_eq-Decides}
use Rattle.game_rules.specs.Grid.{is_on, points_within}
use Rattle.game_rules.specs.declared.Point.{Point}
use Rattle.game_rules.specs.declared.TheConstants.{MAX_SIDE}
use Rattle.game_rules.proofs.Boards.{on_x, on_y}
use Rattle.game_rules.proofs.Places.{find-in, points_on}
use Rattle.game_rules.proofs.PointLists.{any-find, any_none, none-unfound}
use Rattle.game_rules.proofs.Points.{points-found}
use Rattle.game_rules.proofs.Tests.{lt_true}
use Rattle.text_lines.specs.Reading.{IsWithin, is_free}
use Rattle.text_lines.specs.Spellings.{point_text}
use Rattle.text_lines.proofs.LineLaws.{point-free, point_text-injective}
use Rattle.board_symmetry.specs.Points.{empty_board}
use Rattle.board_symmetry.specs.declared.symmetry.Symmetry.{Symmetry}
use Rattle.board_symmetry.specs.declared.symmetry.Symmetry.TheVariants.{Identity, Half, FlipX, FlipY, Quarter, ThreeQuarter, Diagonal}
use Rattle.board_symmetry.specs.declared.symmetry.Symmetry.TheVariants.{AntiDiagonal}
use Rattle.renju_cli.specs.declared.commands.Form.{Form}
use Rattle.renju_cli.specs.declared.commands.Form.TheVariants.{Check, Foul, Fours, Threats, Solve, Brain, BrainWith, Drill, Referee}
use Rattle.renju_cli.specs.declared.commands.Form.TheVariants.{RefereeWith, Image, Defend, Bind, Book, Quiet, Cover, Join}
use Rattle.file_loading.specs.declared.TheConstants.{MAX_WORK}
use Rattle.command_base.specs.Runs.{Run}
use Rattle.renju_cli.proofs.Common.{command, second_word, words_after, words_after_second, words_after_third}
use Rattle.table_commands.specs.Checks.{check_command}
use Rattle.position_commands.specs.Fouls.{foul_command}
use Rattle.position_commands.specs.Fours.{fours_command}
use Rattle.position_commands.specs.Threats.{threats_command}
use Rattle.solve_command.specs.Solves.{solve_command}
use Rattle.quiet_command.specs.Quiets.{quiet_command}
use Rattle.table_commands.specs.Images.{image_command, symmetry_word}
use Rattle.table_commands.specs.Referees.{referee_command}
use Rattle.position_commands.specs.Defends.{defend_command}
use Rattle.table_commands.specs.Books.{book_command}
use Rattle.command_base.proofs.ToldLaws.{answers-told}
use Rattle.command_base.proofs.PositionLaws.{position-answers}
use Rattle.table_commands.proofs.CheckLaws.{check-answers}
use Rattle.position_commands.proofs.FoulLaws.{foul-answers}
use Rattle.position_commands.proofs.FoursLaws.{fours-answers}
use Rattle.position_commands.proofs.ThreatsLaws.{threats-answers}
use Rattle.solve_command.proofs.SolveLaws.{solve-answers}
use Rattle.quiet_command.proofs.QuietLaws.{quiet-answers}
use Rattle.brain_commands.proofs.BrainLaws.{brain-answers, brain-with-answers}
use Rattle.brain_commands.proofs.DrillLaws.{drill-answers}
use Rattle.table_commands.proofs.ImageLaws.{image-answers}
use Rattle.table_commands.proofs.RefereeLaws.{referee-answers, referee-with-answers}
use Rattle.position_commands.proofs.DefendLaws.{defend-answers}
use Rattle.table_commands.proofs.BindLaws.{bind-answers}
use Rattle.table_commands.proofs.BookLaws.{book-answers}
use Rattle.cover_command.specs.Covers.{IsAttack, attack_word}
use Rattle.cover_command.proofs.CoverRuns.{cover-answers}
use Rattle.join_command.proofs.JoinRuns.{join-answers}

-- the number that a word writes
abbrev number_at : List (List ℕ) → ℕ → ℕ
number_at words k = digits_value 10 (get_or words k [])

-- the symmetry that a word tells, if it tells one
abbrev pub symmetry_told : List ℕ → Symmetry
symmetry_told word =
    if bytes_eq word (codes "half") then Half
    else (if bytes_eq word (codes "flip-x") then FlipX
    else (if bytes_eq word (codes "flip-y") then FlipY
    else (if bytes_eq word (codes "quarter") then Quarter
    else (if bytes_eq word (codes "three-quarter") then ThreeQuarter
    else (if bytes_eq word (codes "diagonal") then Diagonal
    else (if bytes_eq word (codes "antidiagonal") then AntiDiagonal
    else Identity))))))

symmetry-spelled : (s : Symmetry) → symmetry_told (symmetry_word s) ≡ s
symmetry-spelled Identity = refl
symmetry-spelled Half = refl
symmetry-spelled FlipX = refl
symmetry-spelled FlipY = refl
symmetry-spelled Quarter = refl
symmetry-spelled ThreeQuarter = refl
symmetry-spelled Diagonal = refl
symmetry-spelled AntiDiagonal = refl

-- the point of a board of this width and height that the word spells, if there is one
pub point_told : ℕ → ℕ → List ℕ → Option Point
point_told w h word = find (λ p. bytes_eq word (point_text p)) (points_within w h)

module _ (w h : ℕ) (wide : w < 2 ^ 32) (high : h < 2 ^ 32) where
  point-spelled : (p : Point) → IsWithin w h p → point_told w h (point_text p) ≡ Some p
  unfolding point_told
  point-spelled p within =
      let spells : Point → Bool = λ q. bytes_eq (point_text p) (point_text q) in
      let column = within.column in
      let row = within.row in
      let on : is_on (empty_board w h) p ≡ true = rw (lt_true p.x w column, lt_true p.y h row) refl in
      let found = any-find spells (points_within w h)
      (points-found (empty_board w h) spells p on ((bytes_eq-Decides (point_text p) (point_text p)).1 refl)) in
      let same = find-in spells (is_on (empty_board w h)) (points_within w h) found.0 (points_on (empty_board w h)) found.1 in
      let x = on_x (empty_board w h) found.0 same.1 in
      let y = on_y (empty_board w h) found.0 same.1 in
      found.1 ∙ ap Some (sym (point_text-injective p found.0 (omega (arith, column)) (omega (arith, row)) (omega (arith, x))
      (omega (arith, y))
      ((bytes_eq-Decides (point_text p) (point_text found.0)).0 same.0)))

  none-spelled : point_told w h (codes "-") ≡ None
  unfolding point_told
  none-spelled = none-unfound (λ q. bytes_eq (codes "-") (point_text q)) (points_within w h)
      (any_none (λ q. bytes_eq (codes "-") (point_text q)) (is_on (empty_board w h)) (points_within w h) (λ q on.
      not-spelled q (λ same.
      let free = point-free 45 w h (inl (omega arith)) (λ e. absurd (cc)) (omega arith) (omega arith) q
      (record { column = on_x (empty_board w h) q on; row = on_y (empty_board w h) q on }) in
      let no : false ≡ true = ap (is_free 45) same ∙ free in cc)) (points_on (empty_board w h))) where
        not-spelled : (q : Point) → (codes "-" ≡ point_text q → ⊥) → bytes_eq (codes "-") (point_text q) ≡ false
        not-spelled q apart = by-test (bytes_eq (codes "-") (point_text q)) refl where
          by-test : (r : Bool) → bytes_eq (codes "-") (point_text q) ≡ r → r ≡ false
          by-test true e = absurd (apart ((bytes_eq-Decides (codes "-") (point_text q)).0 e))
          by-test false e = refl

-- the attack that a word tells
abbrev pub attack_told : List ℕ → Option Point
attack_told word = point_told MAX_SIDE MAX_SIDE word

attack-spelled : (attack : Option Point) → IsAttack attack → attack_told (attack_word attack) ≡ attack
attack-spelled None fits = none-spelled MAX_SIDE MAX_SIDE (omega arith) (omega arith)
attack-spelled (Some p) fits = point-spelled MAX_SIDE MAX_SIDE (omega arith) (omega arith) p fits

-- the point that a word tells, or else the first
abbrev pub place_told : List ℕ → Point
place_told word = unwrap_or (attack_told word) (record { x = 0; y = 0 })

place-spelled : (p : Point) → IsWithin MAX_SIDE MAX_SIDE p → place_told (point_text p) ≡ p
place-spelled p fits =
    ap (λ (o : Option Point). unwrap_or o (record { x = 0; y = 0 })) (point-spelled MAX_SIDE MAX_SIDE (omega arith) (omega arith) p fits)

-- the form that words tell, if they have one
abbrev pub form_told : List (List ℕ) → Form
form_told words =
    if bytes_eq (get_or words 0 []) (codes "check") then Check (number_at words 1)
    else (if bytes_eq (get_or words 0 []) (codes "fours") then Fours (number_at words 1) (number_at words 2)
    else (if bytes_eq (get_or words 0 []) (codes "threats") then Threats (number_at words 1) (number_at words 2)
    else (if bytes_eq (get_or words 0 []) (codes "solve") then Solve (number_at words 1) (number_at words 2)
    else (if bytes_eq (get_or words 0 []) (codes "quiet") then Quiet (number_at words 1) (number_at words 2)
    else (if bytes_eq (get_or words 0 []) (codes "foul") then Foul
    else (if bytes_eq (get_or words 0 []) (codes "drill") then Drill (number_at words 1)
    else (if bytes_eq (get_or words 0 []) (codes "image") then Image (symmetry_told (get_or words 1 []))
    else (if bytes_eq (get_or words 0 []) (codes "referee") then (if nat_lt 1 (length words) then RefereeWith else Referee)
    else (if bytes_eq (get_or words 0 []) (codes "defend") then Defend (number_at words 1) (number_at words 2)
    else (if bytes_eq (get_or words 0 []) (codes "bind") then Bind
    else (if bytes_eq (get_or words 0 []) (codes "book") then Book (number_at words 1)
    else (if bytes_eq (get_or words 0 []) (codes "cover") then Cover (number_at words 1) (attack_told (get_or words 2 []))
    else (if bytes_eq (get_or words 0 []) (codes "join") then Join (place_told (get_or words 1 []))
    else (if nat_lt 1 (length words) then BrainWith else Brain))))))))))))))

number-written : (n : ℕ) → n ≤ MAX_WORK → digits_value 10 (decimal n) ≡ n
number-written n few = let d = decimal_is_IsNumeral n (omega (arith, few)) in d.1

two-written : (form : ℕ → ℕ → Form) (m n : ℕ) → m ≤ MAX_WORK → n ≤ MAX_WORK
    → form (digits_value 10 (decimal m)) (digits_value 10 (decimal n)) ≡ form m n
two-written form m n first second = let one = number-written m first in let two = number-written n second in λ i. form (one i) (two i)

-- the words of a form tell it
pub form-spelled : (words : List (List ℕ)) (form : Form) → (command words form).in_range → form_told (command words form).words ≡ form
form-spelled words (Check work) range = ap Check (number-written work range.1)
form-spelled words Foul range = refl
form-spelled words Brain range = refl
form-spelled words BrainWith range = refl
form-spelled words (Image s) range = ap Image (symmetry-spelled s)
form-spelled words Referee range = refl
form-spelled words RefereeWith range = refl
form-spelled words Bind range = refl
form-spelled words (Book work) range = ap Book (number-written work range.1)
form-spelled words (Cover work attack) range =
    let number = number-written work range.work_fits in
    let point = attack-spelled attack range.attack_fits in
    λ i. Cover (number i) (point i)
form-spelled words (Join attack) range = ap Join (place-spelled attack range.attack_fits)
form-spelled words (Drill number) range = ap Drill (number-written number (omega (arith, range)))
form-spelled words (Fours depth nodes) range = two-written Fours depth nodes (omega (arith, range.1)) (omega (arith, range.3))
form-spelled words (Threats limit nodes) range = two-written Threats limit nodes (omega (arith, range.1)) (omega (arith, range.3))
form-spelled words (Solve depth nodes) range = two-written Solve depth nodes (omega (arith, range.1)) (omega (arith, range.3))
form-spelled words (Quiet depth nodes) range = two-written Quiet depth nodes (omega (arith, range.1)) (omega (arith, range.3))
form-spelled words (Defend depth nodes) range = two-written Defend depth nodes (omega (arith, range.1)) (omega (arith, range.3))

-- a command that did what it does answered where it is sure to
pub answers : (form : Form) (run : Run) → (command run.words form).Does run → (command run.words form).Answers run
answers (Check work) run does = answers-told (check_command work) (check-answers work) run does
answers Foul run does = position-answers foul_command foul-answers run does
answers Brain run does = brain-answers run does
answers BrainWith run does = brain-with-answers (second_word run.words) run does
answers (Drill number) run does = drill-answers number run does
answers Bind run does = bind-answers (words_after run.words) run does
answers (Image s) run does = answers-told (image_command s) (image-answers s) run does
answers (Cover work attack) run does = cover-answers work attack (words_after_third run.words) run does
answers (Join attack) run does = join-answers attack (words_after_second run.words) run does
answers Referee run does = answers-told referee_command referee-answers run does
answers (Book work) run does = answers-told (book_command work) (book-answers work) run does
answers RefereeWith run does = referee-with-answers (second_word run.words) run does
answers (Fours depth nodes) run does = position-answers (fours_command depth nodes) (fours-answers depth nodes) run does
answers (Threats limit nodes) run does = position-answers (threats_command limit nodes) (threats-answers limit nodes) run does
answers (Solve depth nodes) run does = position-answers (solve_command depth nodes) (solve-answers depth nodes) run does
answers (Quiet depth nodes) run does = position-answers (quiet_command depth nodes) (quiet-answers depth nodes) run does
answers (Defend depth nodes) run does = position-answers (defend_command depth nodes) (defend-answers depth nodes) run does
