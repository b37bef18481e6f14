use Rattle.std.proofs.Common.{ap, ◌∙◌, List, ℕ, map, Ok, rules}
use Rattle.renju_io.specs.Lines.{told_lines}
use Rattle.gomocup_text.specs.Commands.{command_told}
use Rattle.brain_session.proofs.sessions.next_command.Goals as goal

pub returns-in-Ok : goal.returns-in-Ok
returns-in-Ok g c =
    let told = c.in-Ok.ensures in
    let end = c.command_of_line.ensures.end in
    record {
      read = record {
        takes = record {
          lines = _;
          takes = told.told;
          are = c.command_of_line.ensures.told
              ∙ ap (λ (text : List ℕ). map command_told (told_lines (Ok c.in-Ok.line) text)) c.text.ensures.text;
        };
        limit = search rules;
        advances = search rules;
        at_end = λ none. told.end (ap Ok (end.0 none));
        asks_no_more = search rules;
        knows_end = search rules;
        no_further = search rules;
        few = search rules;
        uncounted = search rules;
      };
    }
