-- The commands, by their forms of words, and the line that tells them.
use Rattle.std.specs.Prelude.{ℕ, List, codes}
use Rattle.text_lines.specs.Lines.{ended}
use Rattle.renju_cli.specs.declared.commands.Form.{Form}
use Rattle.renju_cli.specs.declared.commands.Form.TheVariants.{Check, Foul, Fours, Threats, Solve, Brain, BrainWith, Drill, Referee}
use Rattle.renju_cli.specs.declared.commands.Form.TheVariants.{RefereeWith, Image, Defend, Bind, Book, Quiet, Cover, Join}
use Rattle.command_base.specs.Forms.{Command, IsSpelled}
use Rattle.command_base.specs.Told.{told}
use Rattle.command_base.specs.Positions.{of_position}
use Rattle.table_commands.specs.Checks.{check_command}
use Rattle.position_commands.specs.Fouls.{foul_command}
use Rattle.position_commands.specs.Fours.{fours_command}
use Rattle.position_commands.specs.Threats.{threats_command}
use Rattle.solve_command.specs.Solves.{solve_command}
use Rattle.quiet_command.specs.Quiets.{quiet_command}
use Rattle.renju_cli.specs.Words.{second_word, words_after, words_after_second, words_after_third}
use Rattle.brain_commands.specs.Brains.{brain_command, brain_with_command}
use Rattle.brain_commands.specs.Drills.{drill_command}
use Rattle.table_commands.specs.Referees.{referee_command, referee_with_command}
use Rattle.table_commands.specs.Images.{image_command}
use Rattle.position_commands.specs.Defends.{defend_command}
use Rattle.table_commands.specs.Books.{book_command}
use Rattle.table_commands.specs.Binds.{bind_command}
use Rattle.cover_command.specs.Covers.{cover_command}
use Rattle.join_command.specs.Joins.{join_command}

-- the command that a form of these words stands for
abbrev pub command : List (List ℕ) → Form → Command
command words (Check work) = told (check_command work)
command words Foul = told (of_position foul_command)
command words (Fours depth nodes) = told (of_position (fours_command depth nodes))
command words (Threats limit nodes) = told (of_position (threats_command limit nodes))
command words (Solve depth nodes) = told (of_position (solve_command depth nodes))
command words (Quiet depth nodes) = told (of_position (quiet_command depth nodes))
command words Brain = brain_command
command words BrainWith = brain_with_command (second_word words)
command words (Drill number) = drill_command number
command words (Image s) = told (image_command s)
command words Referee = told referee_command
command words RefereeWith = referee_with_command (second_word words)
command words (Defend depth nodes) = told (of_position (defend_command depth nodes))
command words (Book work) = told (book_command work)
command words Bind = bind_command (words_after words)
command words (Cover work attack) = cover_command work attack (words_after_third words)
command words (Join attack) = join_command attack (words_after_second words)

-- the words have this form
abbrev pub IsForm : List (List ℕ) → Form → Type 0
IsForm words form = IsSpelled words (command words form)

-- the words have some form
abbrev pub HasForm : List (List ℕ) → Type 0
HasForm words = (form : Form) × IsForm words form

-- what words without a form are answered with
abbrev pub usage_line : List ℕ
usage_line = ended (codes
    "usage: renju check WORK, foul, fours DEPTH NODES, threats LENGTH NODES, solve DEPTH NODES, quiet DEPTH NODES, brain [FILE], drill N, image SYMMETRY, referee [FILE], defend DEPTH NODES, bind FILE .., book WORK, cover WORK ATTACK FILE .., join ATTACK FILE ..")
